-- The clocks of a world's puts. Each is made from clocks of earlier puts.
use Rattle.std.specs.Prelude.{◌≡◌, ◌⊎◌, ℕ, ◌<◌, ◌≤◌, true, List, length, Option, Some, None}
use Rattle.ring_clock.specs.declared.entry.Entry.{Entry}
use Rattle.ring_clock.specs.Built.{IsNext}
use Rattle.plan_runs.specs.World.{World, key_of_put, writer_of}
use Rattle.plan_runs.specs.Succession.{some_replied, is_direct}

-- the clock of each put in the world joins the clocks of all puts that it directly succeeds, plus 1 for its
-- writer
abbrev pub AreClocksOf : World → (ℕ → List Entry) → Type 0
AreClocksOf w clock = (k : ℕ) → k < length w.puts → IsNext clock (λ v. is_direct w k v ≡ true) (writer_of w k) (clock k)

-- ---- one put behind others

-- v is a put of the writer and the key
abbrev pub IsOwn : World → ℕ → List ℕ → ℕ → Type 0
IsOwn w writer key v = (v < length w.puts) × (writer_of w v ≡ writer) × (key_of_put w v ≡ key)

-- it is the writer's last put of the key, if there is one
abbrev pub IsLastOf : World → ℕ → List ℕ → Option ℕ → Type 0
IsLastOf w writer key None = (v : ℕ) → IsOwn w writer key v → ⊥
IsLastOf w writer key (Some u) = IsOwn w writer key u × ((v : ℕ) → IsOwn w writer key v → v ≤ u)

-- v is an input for a put that names these gets. A reply of one of them had v, or v is the writer's last put
abbrev pub IsInputOf : World → List ℕ → Option ℕ → ℕ → Type 0
IsInputOf w seen last v = (some_replied w.gets seen v ≡ true) ⊎ (last ≡ Some v)
