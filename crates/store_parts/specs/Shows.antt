-- What a set of versions shows about a set of puts.
use Rattle.std.specs.Prelude.{◌≡◌, ℕ, ◌<◌, Bool, true, List, [], length, Some, None, slice_get}
use Rattle.ring_clock.specs.declared.entry.Entry.{Entry}
use Rattle.ring_versions.specs.declared.version.Version.{Version}
use Rattle.ring_versions.specs.Versions.{IsIn, Covers, IsApart}
use Rattle.plan_runs.specs.World.{World, key_of_put}

-- the put's value
abbrev pub value_of : World → ℕ → List ℕ
value_of w v = elim (slice_get w.puts v) [ Some x ↦ x.value | None ↦ [] ]

-- a set of versions without ancestors shows a set of puts. Each version is one of the puts with its clock and
-- value, and each put is covered
pub record Shows (clock : ℕ → List Entry) (value : ℕ → List ℕ) (held : List Version) (test : ℕ → Bool) : Type 0 where
  pub drawn : (x : Version) → IsIn x held → (test x.put ≡ true) × (x.clock ≡ clock x.put) × (x.value ≡ value x.put)
  pub covers : (v : ℕ) → test v ≡ true → Covers held (clock v)
  pub apart : IsApart held

-- the puts are of one key
abbrev pub OfOneKey : World → (ℕ → Bool) → Type 0
OfOneKey w test = (u v : ℕ) → test u ≡ true → test v ≡ true → key_of_put w u ≡ key_of_put w v

-- the numbers are those of puts of the world
abbrev pub ArePutsOf : World → (ℕ → Bool) → Type 0
ArePutsOf w test = (v : ℕ) → test v ≡ true → v < length w.puts
