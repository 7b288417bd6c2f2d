use Rattle.std.proofs.Common.{ap, ◌∙◌}
use Rattle.ring_names.specs.Refusals.{number_of}
use Rattle.ringplan_answers.specs.Answers.{refused_status}
use Rattle.ringplan_run.proofs.Runs.{none_shown, parts_shown, wanted_entry}
use Rattle.ringplan_run.proofs.parting.print_part.Goals as goal

pub returns-in-Ok : goal.returns-in-Ok
returns-in-Ok g c =
    let h = c.in-Ok.ensures in
    (h.0, h.1, parts_shown c.args.wish c.unwrap_or-wanted.result h.0 c.in-Ok.part _ _ _ (wanted_entry c.args.wish.entry c.unwrap_or-wanted.result c.unwrap_or-wanted.ensures) h.2 c.print_cut.ensures)

pub returns-in-Err : goal.returns-in-Err
returns-in-Err g c =
    let h = c.in-Err.ensures in (
      h.0,
      h.1,
      none_shown c.args.wish c.unwrap_or-wanted.result h.0 c.in-Err.none (g.W.Write.contents c.args.output.now) c.status_of.result (wanted_entry c.args.wish.entry c.unwrap_or-wanted.result c.unwrap_or-wanted.ensures) h.2
          (c.status_of.ensures ∙ ap (λ e. refused_status (number_of e)) c.refusal.ensures),
    )
