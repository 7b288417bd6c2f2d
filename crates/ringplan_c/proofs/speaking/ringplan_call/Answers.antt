use Rattle.std.proofs.Common.{[], refl, sym}
use Rattle.std.proofs.lemmas.List.{append-nil}
use Rattle.std.specs.Fmt.{digits}
use Rattle.ring_names.specs.Refusals.{line_of}
use Rattle.ring_names.specs.declared.refusal.Refusal.TheVariants.{OutOfMemory}
use Rattle.ringplan_c.specs.Speaking.{out_of_memory}
use Rattle.ringplan_c.proofs.speaking.ringplan_call.Goals as goal

pub returns-in-Err : goal.returns-in-Err
unfolding digits
returns-in-Err c =
    let text = line_of OutOfMemory in
    (text, 3, (text, [], out_of_memory refl refl, sym (append-nil text), refl), c.fill-in-Err.ensures)
