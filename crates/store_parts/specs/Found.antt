-- The versions that gets found, as inputs of a put that names these gets.
use Rattle.std.specs.Prelude.{◌≡◌, ◌⊎◌, ℕ, true, List, Option, Some}
use Rattle.ring_names.specs.Lists.{has}
use Rattle.ring_clock.specs.declared.entry.Entry.{Entry}
use Rattle.ring_clock.specs.Clock.{counter, IsAtMost}
use Rattle.ring_versions.specs.declared.version.Version.{Version}
use Rattle.ring_versions.specs.Versions.{IsIn}

-- c is the clock of the writer's last put, or a clock that some version found by these gets has
abbrev pub IsInputClock : (ℕ → List Entry) → (ℕ → List Version) → List ℕ → Option ℕ → List Entry → Type 0
IsInputClock clock found seen last c =
    ((g : ℕ) × (x : Version) × (has g seen ≡ true) × IsIn x (found g) × (x.clock ≡ c)) ⊎ ((v : ℕ) × (last ≡ Some v) × (clock v ≡ c))

-- d is the least clock above all these: each counter is the greatest of theirs
pub record IsJoinOfFound (clock : ℕ → List Entry) (found : ℕ → List Version) (seen : List ℕ) (last : Option ℕ) (d : List Entry) : Type 0 where
  pub above : (c : List Entry) → IsInputClock clock found seen last c → IsAtMost c d
  pub from : (w : ℕ) → (counter d w ≡ 0) ⊎ ((c : List Entry) × IsInputClock clock found seen last c × (counter c w ≡ counter d w))
