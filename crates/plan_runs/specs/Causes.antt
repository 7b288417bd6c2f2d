-- The puts of one key, and what ring_clock takes of them to make their clocks.
use Rattle.std.specs.Prelude.{◌≡◌, ◌↔◌, ℕ, ◌<◌, true, List, length, get_or}
use Rattle.ring_names.specs.Lists.{has}
use Rattle.ring_clock.specs.declared.causes.Cause.{Cause}
use Rattle.ring_clock.specs.Causes as causes
use Rattle.plan_runs.specs.World.{World, passing_below, is_of_key, writer_of, seen_of}
use Rattle.plan_runs.specs.Succession.{Succeeds, some_replied}

-- the puts of the key, in order of their start
abbrev pub puts_of : World → List ℕ → List ℕ
puts_of w key = passing_below (length w.puts) (is_of_key w key)

-- the causes of these puts: their writers, and by place the puts before them that replies of the gets which they name had
pub record AreCausesOf (w : World) (puts : List ℕ) (list : List Cause) : Type 0 where
  pub each : length list ≡ length puts
  pub writers : (k : ℕ) → k < length puts → causes.writer_of list k ≡ writer_of w (get_or puts k 0)
  pub seen : (k j : ℕ) → k < length puts
      → (has j (causes.seen_by list k) ≡ true) ↔ ((j < k) × (some_replied w.gets (seen_of w (get_or puts k 0)) (get_or puts j 0) ≡ true))

-- of these puts one succeeds another in the world where its cause succeeds the other's
abbrev pub AgreeOn : World → List ℕ → List Cause → Type 0
AgreeOn w puts list = (k j : ℕ) → k < length puts → j < length puts
    → Succeeds w (get_or puts k 0) (get_or puts j 0) ↔ causes.Succeeds list k j
