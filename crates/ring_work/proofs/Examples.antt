-- A worked example: the line of a report, byte by byte.
use Rattle.std.proofs.Common.{◌≡◌, [], ◌∷◌, codes, refl}
use Rattle.std.specs.Fmt.{digits}
use Rattle.serde_json.specs.Written.{compact_text}
use Rattle.serde_json.proofs.OnLiterals.{serde_json_on_literals}
use Rattle.ring_table.specs.Value.{RingValue}
use Rattle.plan_runs.specs.declared.event.Event.TheVariants.{Do}
use Rattle.plan_runs.specs.declared.event.Reply.TheVariants.{Plain}
use Rattle.ring_work.specs.Report.{report_value}

one_step : (ring : RingValue) → compact_text (report_value ring [] (record { event = Do 0; reply = Plain } ∷ []) (0 ∷ []) 1)
    ≡ codes "{\"events\":[[\"do 0\",\"ok\"]],\"steps\":[0],\"workers\":1}"
unfolding digits serde_json_on_literals
one_step ring = refl
