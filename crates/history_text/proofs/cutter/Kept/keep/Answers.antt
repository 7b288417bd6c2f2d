use Rattle.std.proofs.Common.{◌≡◌, ◌∙◌, ℕ, ◌+◌, Bool, List, ◌++◌, Option, Some, None, refl, sym, ap, subst}
use Rattle.std.specs.Prelude.{MatchOption, is_some}
use Rattle.ring_table.specs.Value.{names_of}
use Rattle.plan_runs.specs.declared.event.Entry.{Entry}
use Rattle.history_text.specs.Spelling.{entry_line}
use Rattle.history_laws.specs.Cuts.{entry_next}
use Rattle.history_text.specs.Place.{FindsMore}
use Rattle.history_text.specs.Room.{Holds}
use Rattle.history_text.proofs.cutter.Kept.keep.Goals as goal

pub returns-in_ok-push_entry-clause-ok : goal.returns-in_ok-push_entry-clause-ok
returns-in_ok-push_entry-clause-ok c =
    let old = c.args.self.now in
    let part = c.push_entry.new.self in
    let next = c.in_ok-kept.ensures.entry in
    let some : entry_next old.cut c.args.entry.now ≡ Some c.in-Some.kept = sym next ∙ c.in-Some.is in
    record {
      cut_is = c.in_ok-kept.ensures.after;
      part_is = subst (λ (o : Option Entry). MatchOption o (part ≡ old.part) (λ y. (t : List ℕ) (n : ℕ) → Holds old.part t n → Holds part (t ++ entry_line (names_of c.args.ring.now) c.args.writers.now y) (n + 1))) (sym some) c.in_ok-push_entry.ensures;
      place_is = subst (λ (b : Bool). FindsMore old.place c.count.new.self b old.part.entries) (c.is_some.ensures ∙ ap (λ (o : Option Entry). is_some o) next) c.count.ensures;
    }

pub returns-in_default-clause-ok : goal.returns-in_default-clause-ok
returns-in_default-clause-ok c =
    let old = c.args.self.now in
    let next = c.in_ok-kept.ensures.entry in
    let none : entry_next old.cut c.args.entry.now ≡ None = sym next ∙ c.in_default.is in
    record {
      cut_is = c.in_ok-kept.ensures.after;
      part_is = subst (λ (o : Option Entry). MatchOption o (old.part ≡ old.part) (λ y. (t : List ℕ) (n : ℕ) → Holds old.part t n → Holds old.part (t ++ entry_line (names_of c.args.ring.now) c.args.writers.now y) (n + 1))) (sym none) refl;
      place_is = subst (λ (b : Bool). FindsMore old.place c.count.new.self b old.part.entries) (c.is_some.ensures ∙ ap (λ (o : Option Entry). is_some o) next) c.count.ensures;
    }
