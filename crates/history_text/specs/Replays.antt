-- What a replay's bundle is.
use Rattle.std.specs.Prelude.{◌≤◌, ℕ, List, [], length, Result}
use Rattle.ring_names.specs.declared.refusal.Refusal.{Refusal}
use Rattle.texts.specs.Left.{Left, then_part, map_part}
use Rattle.ring_table.specs.Value.{RingValue}
use Rattle.plan_text.specs.declared.step.Planned.{Planned}
use Rattle.plan_text.specs.Valid as plan
use Rattle.plan_cert.specs.declared.cert.Cert.{Cert}
use Rattle.plan_cert.specs.Valid as cert
use Rattle.plan_cert.specs.declared.front.Front.{Front}
use Rattle.plan_cert.specs.Front.{front_at}
use Rattle.plan_runs.specs.declared.event.Entry.{Entry}
use Rattle.history_text.specs.declared.bundle.ReplayBundle.{ReplayBundle}
use Rattle.history_text.specs.Reading.{history_at}

-- a ring, a plan, a certificate, entries, and the names of their writers by number
abbrev pub Parts : Type 0
Parts = RingValue × (List Planned × (Cert × (List Entry × List (List ℕ))))

-- the parts of a bundle
abbrev pub parts_of : ReplayBundle → Parts
parts_of b = (b.ring, (b.plan, (b.cert, (b.history.items, b.writers))))

-- a front and a history as one
abbrev pub replay_of : Front × (List Entry × List (List ℕ)) → Parts
replay_of x = (x.0.ring, (x.0.plan, (x.0.cert, x.1)))

-- a front, and after it a history
unfoldable pub replay_at : Left → Result (Parts × Left) Refusal
replay_at = map_part replay_of (then_part front_at (λ front. history_at front.ring []))

-- the plan and the certificate are of the ring, and the history has at most 1,000,000 entries
abbrev pub IsReplay : ReplayBundle → Type 0
IsReplay b = plan.Suits b.ring b.plan × cert.Suits b.ring b.cert × (length b.history.items ≤ 1000000)
