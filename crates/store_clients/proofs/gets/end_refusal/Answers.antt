use Rattle.std.proofs.Common.{◌≡◌, ◌∙◌, ℕ, ap}
use Rattle.ring_table.specs.Value.{RingValue}
use Rattle.plan_stage.specs.Clauses.{first_failing}
use Rattle.store_parts.specs.Parts.{ring_of, plan_of, kept_of}
use Rattle.store_clients.specs.Gets.{end_guards_kept}
use Rattle.store_clients.proofs.GetsStartEnd.{end_tested}
use Rattle.store_clients.proofs.gets.end_refusal.Goals as goal

pub returns : goal.returns
returns c w m =
    let a = c.args.parts.now in
    let needed : c.r.result ≡ (ring_of a).r = c.r.ensures.value ∙ ap (λ (x : RingValue). x.r) c.ring.ensures.value in
    c.refusal_of.ensures ∙ ap (λ (n : ℕ). first_failing (end_guards_kept a.gets n c.args.get)) needed ∙ end_tested (ring_of a) (plan_of a) (kept_of a) w c.args.get m
