-- How a put's clock is made from the clocks of what it follows.
use Rattle.std.specs.Prelude.{◌≡◌, ℕ, true, List, Option}
use Rattle.ring_names.specs.Lists.{has}
use Rattle.ring_clock.specs.declared.entry.Entry.{Entry}
use Rattle.ring_clock.specs.Built.{Bumps}
use Rattle.ring_versions.specs.declared.version.Version.{Version}
use Rattle.ring_versions.specs.Versions.{IsIn}
use Rattle.store_parts.specs.Found.{IsJoinOfFound}

-- it is the clock of a version that one of these gets found
abbrev pub IsFoundClock : (ℕ → List Version) → List ℕ → List Entry → Type 0
IsFoundClock found seen c = (g : ℕ) × (x : Version) × (has g seen ≡ true) × IsIn x (found g) × (x.clock ≡ c)

-- c joins the clocks of the versions that these gets found, and that of the writer's last put, with one more
-- for the writer
abbrev pub IsNextOfFound : (ℕ → List Entry) → (ℕ → List Version) → List ℕ → Option ℕ → ℕ → List Entry → Type 0
IsNextOfFound clock found seen last writer c = (d : List Entry) × IsJoinOfFound clock found seen last d × Bumps writer d c
