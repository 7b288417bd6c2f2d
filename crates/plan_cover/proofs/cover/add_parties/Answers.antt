use Rattle.std.proofs.Common.{rules, ◌≡◌, ◌∙◌, ap, Bool, List, ℕ, Result, Ok, Err}
use Rattle.std.specs.Prelude.{◌&&◌, ◌||◌, OnOk}
use Rattle.ring_names.specs.declared.refusal.Refusal.{Refusal}
use Rattle.ring_table.specs.declared.allowance.Side.TheVariants.{Take, Give}
use Rattle.plan_stage.specs.Parties.{source_slots}
use Rattle.plan_cover.specs.Looking.Numbers.{copies_kept, with_last_if}
use Rattle.plan_cover.specs.Looking.Serving.{serving_at, is_the_mirror, owns_some, counts_at, is_party}
use Rattle.plan_cover.proofs.Counting.{with_last-or}
use Rattle.plan_cover.proofs.cover.add_parties.Goals as goal

on_ok : {P Q : Type 0} (r : Result (Unit {0}) Refusal) → (P → Q) → OnOk r P → OnOk r Q
on_ok (Ok u) f h = f h
on_ok (Err e) f h = h

pub returns-in_ok-add_mirror-in-Copy-clause-ok : goal.returns-in_ok-add_mirror-in-Copy-clause-ok
returns-in_ok-add_mirror-in-Copy-clause-ok c = on_ok c.add_sources.result (λ h y.
    let ring = c.args.served.now.ring.now in
    let serve = serving_at ring c.args.served.now.present.now in
    let mirror : Bool = counts_at ring Take y && is_the_mirror c.at-mirror.result.mirror y.node in
    let owns : Bool = counts_at ring Give y && owns_some serve (source_slots c.in-Copy.slot c.in-Copy.source) y.node in
    let old : List ℕ = copies_kept c.args.copies.now y in
    let party : (mirror || owns) ≡ is_party ring serve c.args.step.now y = search rules in
    h y ∙ ap (λ (l : List ℕ). with_last_if owns c.args.number l) (c.in_ok-add_mirror-in-Copy.ensures.ok y) ∙ with_last-or mirror owns c.args.number old ∙ ap (λ (b : Bool). with_last_if b c.args.number old) party) c.add_sources.ensures.ok
