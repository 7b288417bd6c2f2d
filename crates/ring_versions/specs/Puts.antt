-- The puts of versions.
use Rattle.std.specs.Prelude.{◌≡◌, ℕ, true, List}
use Rattle.ring_names.specs.Lists.{has}
use Rattle.texts.specs.Numbers.{ascending}
use Rattle.ring_versions.specs.declared.version.Version.{Version}
use Rattle.ring_versions.specs.Versions.{IsIn}

-- the numbers of these versions' puts, ascending
pub record ArePuts (held : List Version) (ns : List ℕ) : Type 0 where
  pub rises : ascending ns ≡ true
  pub each : (v : Version) → IsIn v held → has v.put ns ≡ true
  pub only : (n : ℕ) → has n ns ≡ true → (v : Version) × IsIn v held × (v.put ≡ n)
