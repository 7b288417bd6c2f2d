use Rattle.std.proofs.Common.{refl, sym, ◌∙◌, rules}
use Rattle.plan_text.specs.Reading.{after_at}
use Rattle.plan_text.proofs.after.after.Goals as goal

pub returns-in-Some : goal.returns-in-Some
unfolding after_at
returns-in-Some c =
    let fields = sym (c.if-takes.ensures.left refl) ∙ c.in-Some.ensures.field in
    let other = c.if-takes.ensures.other refl c.in-Some.field-0.now c.next.new.self.fields fields in
    rw (fields, other) (search rules)
