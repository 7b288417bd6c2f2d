-- Reading what follows the front of a bundle does not go back.
use Rattle.std.proofs.Common.{[], arith}
use Rattle.texts.proofs.Lates.{Advances}
use Rattle.ring_table.specs.Value.{RingValue}
use Rattle.script_text.specs.declared.speaker.Speaker.TheVariants.{Anyone}
use Rattle.script_text.proofs.ScriptLates.{section-on}
use Rattle.ring_script.specs.declared.bundle.Kind.{Kind}
use Rattle.ring_script.specs.declared.bundle.Kind.TheVariants.{Check, Play}
use Rattle.ring_script.specs.Bundles.{events_of}

pub events-on : (kind : Kind) (ring : RingValue) → Advances (events_of kind ring)
events-on Check ring = record { on = λ s. omega arith }
events-on Play ring = section-on Anyone ring []
