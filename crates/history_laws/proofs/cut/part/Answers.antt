use Rattle.std.proofs.Common.{◌∙◌, ap}
use Rattle.history_laws.proofs.Cutting.{cut_goes_on, cut_none, cut_one}
use Rattle.history_laws.proofs.cut.part.Goals.{in-Some+in_ok-push, in_default}
use Rattle.history_laws.proofs.cut.part.Goals as goal

pub entries-preserved : goal.entries-preserved
entries-preserved c = cut_goes_on c.args.ring.now c.args.partitions.now c.args.entries.now c.entries.part.items c.match-branch-2.part.items c.entries.cut c.entry.new.self c.entries.entry-index c.entry-item.result c.in_ok-entry.field-0
    c.entries-test.true c.entry-item.is c.in_ok-entry.ensures.entry c.in_ok-entry.ensures.after
    (elim c.match-branch-2.branch [
      | in-Some+in_ok-push w ↦ cut_one c.entries.part.items c.match-branch-2.part.items w.in-Some.entry c.in_ok-entry.field-0 w.in-Some.is (ap (λ v. v.items) w.part-is ∙ w.in_ok-push.ensures.items)
      | in_default w ↦ cut_none c.entries.part.items c.match-branch-2.part.items c.in_ok-entry.field-0 w.in_default.is (ap (λ v. v.items) w.part-is)
    ])
    c.entries.invariant
