-- Clocks that are raised to others.
use Rattle.std.specs.Prelude.{◌≡◌, ◌⊎◌, ℕ, List}
use Rattle.ring_clock.specs.declared.entry.Entry.{Entry}
use Rattle.ring_clock.specs.Clock.{counter, IsAtMost}
use Rattle.ring_versions.specs.declared.version.Version.{Version}
use Rattle.ring_versions.specs.Versions.{IsIn}

-- new is the least clock above old and these: each counter is the greatest of theirs
pub record RaisesTo (old : List Entry) (These : List Entry → Type 0) (new : List Entry) : Type 0 where
  pub before : IsAtMost old new
  pub above : (c : List Entry) → These c → IsAtMost c new
  pub from : (w : ℕ) → (counter new w ≡ counter old w) ⊎ ((c : List Entry) × These c × (counter c w ≡ counter new w))

-- it is the clock of one of these versions
abbrev pub IsClockIn : List Version → List Entry → Type 0
IsClockIn versions c = (x : Version) × IsIn x versions × (x.clock ≡ c)
