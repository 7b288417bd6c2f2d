-- What a drive's bundle is.
use Rattle.std.specs.Prelude.{◌≡◌, ◌≤◌, ℕ, zero, suc, true, List, [], ◌∷◌, ◌++◌, length, Result, Ok, if◌then◌else◌}
use Rattle.std.specs.List.{list_all, AllByRecursion}
use Rattle.ring_names.specs.declared.refusal.Refusal.{Refusal}
use Rattle.texts.specs.Left.{Left, ◌>>=◌, is_over, then_part, map_part}
use Rattle.ring_table.specs.Value.{RingValue}
use Rattle.plan_text.specs.Valid as plan
use Rattle.plan_cert.specs.Valid as cert
use Rattle.plan_cert.specs.declared.front.Front.{Front}
use Rattle.plan_cert.specs.Front.{front_at}
use Rattle.plan_runs.specs.declared.event.Event.{Event}
use Rattle.script_text.specs.Client.{is_client_event}
use Rattle.script_text.specs.Reading.{client_at}
use Rattle.ring_work.specs.declared.bundle.DriveBundle.{DriveBundle}

-- scripts, and the names of their writers by number
abbrev pub Scripts : Type 0
Scripts = List (List Event) × List (List ℕ)

-- a client's script, behind those seen
unfoldable pub next_at : RingValue → Scripts → Left → Result (Scripts × Left) Refusal
next_at ring seen = map_part (λ x. (seen.0 ++ x.0 ∷ [], x.1)) (client_at ring seen.1)

-- up to n more, while lines are left
abbrev pub scripts_from : ℕ → RingValue → Scripts → Left → Result (Scripts × Left) Refusal
scripts_from zero ring seen s = Ok (seen, s)
scripts_from (suc n) ring seen s = if is_over s then Ok (seen, s) else (next_at ring seen s >>= λ x. scripts_from n ring x.0 x.1)

-- one script, and up to seven more
unfoldable pub scripts_at : RingValue → Left → Result (Scripts × Left) Refusal
scripts_at ring s = next_at ring ([], []) s >>= λ x. scripts_from 7 ring x.0 x.1

-- a front and scripts as one
abbrev pub bundle_of : Front × Scripts → DriveBundle
bundle_of x = record { ring = x.0.ring; plan = x.0.plan; cert = x.0.cert; writers = x.1.1; scripts = x.1.0 }

-- a front, and after it the scripts
unfoldable pub drive_at : Left → Result (DriveBundle × Left) Refusal
drive_at = map_part bundle_of (then_part front_at (λ front. scripts_at front.ring))

-- 1 to 8 scripts, each of events that a client can bring about
abbrev pub AreOfClients : List (List Event) → Type 0
AreOfClients scripts = (1 ≤ length scripts) × (length scripts ≤ 8) × AllByRecursion (λ s. list_all is_client_event s ≡ true) scripts

-- the plan and the certificate are of the ring, and the scripts are of clients
abbrev pub IsDrive : DriveBundle → Type 0
IsDrive b = plan.Suits b.ring b.plan × cert.Suits b.ring b.cert × AreOfClients b.scripts
