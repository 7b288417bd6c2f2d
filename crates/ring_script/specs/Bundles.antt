-- What a bundle is.
use Rattle.std.specs.Prelude.{ℕ, List, [], Result, Ok}
use Rattle.ring_names.specs.declared.refusal.Refusal.{Refusal}
use Rattle.texts.specs.Left.{Left, then_part, map_part}
use Rattle.ring_table.specs.Value.{RingValue}
use Rattle.plan_text.specs.Valid as plan
use Rattle.plan_cert.specs.Valid as cert
use Rattle.plan_cert.specs.declared.front.Front.{Front}
use Rattle.plan_cert.specs.Front.{front_at}
use Rattle.plan_runs.specs.declared.event.Event.{Event}
use Rattle.script_text.specs.Reading.{script_at}
use Rattle.ring_script.specs.declared.bundle.Bundle.{Bundle}
use Rattle.ring_script.specs.declared.bundle.Kind.{Kind}
use Rattle.ring_script.specs.declared.bundle.Kind.TheVariants.{Check, Play}

-- events, and the names of their writers by number
abbrev pub Events : Type 0
Events = List Event × List (List ℕ)

-- the script of a play; of a check none, and nothing is read
abbrev pub events_of : Kind → RingValue → Left → Result (Events × Left) Refusal
events_of Check ring s = Ok (([], []), s)
events_of Play ring s = script_at ring [] s

-- a front and events as one
abbrev pub bundle_of : Front × Events → Bundle
bundle_of x = record { ring = x.0.ring; plan = x.0.plan; cert = x.0.cert; writers = x.1.1; script = x.1.0 }

-- a front, and after it what the kind has
unfoldable pub bundle_at : Kind → Left → Result (Bundle × Left) Refusal
bundle_at kind = map_part bundle_of (then_part front_at (λ front. events_of kind front.ring))

-- the plan and the certificate are of the ring
abbrev pub IsOfRing : Bundle → Type 0
IsOfRing b = plan.Suits b.ring b.plan × cert.Suits b.ring b.cert
