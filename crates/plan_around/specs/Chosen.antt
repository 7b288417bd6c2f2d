-- A plan that was chosen to go on by, and follows a history.
use Rattle.std.specs.Prelude.{◌≡◌, ℕ, List, ◌++◌, codes, Option, Some, None, Result, Ok, if◌then◌else◌}
use Rattle.ring_names.specs.declared.refusal.Refusal.{Refusal}
use Rattle.texts.specs.Left.{Left, begins_with, map_part, then_part}
use Rattle.ring_table.specs.Value.{RingValue}
use Rattle.ring_table.specs.Reading.{ring_at}
use Rattle.ring_table.specs.Spelling.{ring_text}
use Rattle.plan_text.specs.declared.step.Planned.{Planned}
use Rattle.plan_text.specs.Reading.{plan_at}
use Rattle.plan_text.specs.Spelling.{plan_text}
use Rattle.plan_text.specs.Valid as plan
use Rattle.plan_cert.specs.declared.cert.Cert.{Cert}
use Rattle.plan_cert.specs.Reading.{cert_at}
use Rattle.plan_cert.specs.Spelling.{cert_text}
use Rattle.plan_cert.specs.Valid as cert
use Rattle.history_text.specs.Replays.{Parts, replay_at, parts_of}
use Rattle.plan_around.specs.declared.chosen.Chosen.{Chosen}
use Rattle.plan_around.specs.declared.chosen.Halted.{Halted}

-- a ring, a plan and a certificate as one
abbrev pub chosen_of : RingValue × (List Planned × Cert) → Chosen
chosen_of x = record { ring = x.0; plan = x.1.0; cert = x.1.1 }

-- a ring, and after it a plan and a certificate of the first ring
unfoldable pub front_at : RingValue → Left → Result (Chosen × Left) Refusal
front_at ring = map_part chosen_of (then_part ring_at (λ _. then_part (plan_at ring) (λ _. cert_at ring)))

-- so it is if a ring follows; if not, there is none
unfoldable pub chosen_at : RingValue → Left → Result (Option Chosen × Left) Refusal
chosen_at ring s = if begins_with (codes "ring") s.lines then map_part (λ (x : Chosen). Some x) (front_at ring) s else Ok (None, s)

-- a bundle with a history, and after it a plan that was chosen, if one follows
unfoldable pub halted_at : Left → Result ((Parts × Option Chosen) × Left) Refusal
halted_at = then_part replay_at (λ parts. chosen_at parts.0)

-- the parts of both
abbrev pub halted_of : Halted → Parts × Option Chosen
halted_of x = (parts_of x.replay, x.chosen)

-- the chosen plan and its certificate are of that ring
abbrev pub ChosenSuits : RingValue → Chosen → Type 0
ChosenSuits ring x = plan.Suits ring x.plan × cert.Suits ring x.cert

-- the bytes begin with the texts of the ring, the plan and the certificate
abbrev pub BeginsWith : RingValue → List Planned → Cert → List ℕ → Type 0
BeginsWith ring plan cert bytes = (more : List ℕ) × (bytes ≡ ring_text ring ++ (plan_text ring plan ++ (cert_text ring cert ++ more)))

-- if a plan was chosen, it is of a ring with the same text, and the bytes begin with the plan and its certificate
abbrev pub GoesBy : RingValue → Option Chosen → List ℕ → Type 0
GoesBy ring (Some x) bytes = (ring_text x.ring ≡ ring_text ring) × BeginsWith ring x.plan x.cert bytes
GoesBy ring None bytes = Unit {0}
