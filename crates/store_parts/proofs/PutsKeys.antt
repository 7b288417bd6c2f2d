-- Puts, gets and last puts under keys to which one was added, if it was new.
use Rattle.std.proofs.Common.{◌≡◌, ℕ, ◌∷◌, ◌++◌, List, [], length, length-append, refl, arith}
use Rattle.std.specs.Prelude.{Option, Some, None, is_some, if◌then◌else◌}
use Rattle.ring_names.specs.Names.{place, with_name}
use Rattle.ring_table.specs.Value.{RingValue}
use Rattle.ring_clock.specs.declared.entry.Entry.{Entry}
use Rattle.plan_runs.specs.World.{World}
use Rattle.store_parts.specs.declared.puts.PutNow.{PutNow}
use Rattle.store_parts.specs.declared.gets.GetNow.{GetNow}
use Rattle.store_parts.specs.PutsMeet.{PutsMeet, AreNumbered, NoneBehind}
use Rattle.store_parts.specs.GetsMeet.{GetsMeet}
use Rattle.store_parts.proofs.PutsLists.{numbered_with_key}
use Rattle.store_parts.proofs.PutsFrames.{puts_stay_with_key}
use Rattle.store_parts.proofs.PutsStarts.{none_behind_more}
use Rattle.store_parts.proofs.GetsFrames.{gets_stay_with_key}

-- what holds of the keys, and with a new key behind them, holds after a key was added
named : (P : List (List ℕ) → Type 0) (keys : List (List ℕ)) (key : List ℕ) → P keys → (place keys key ≡ None → P (keys ++ key ∷ [])) → P (with_name keys key)
named P keys key old new = by (place keys key) refl
  where
    by : (o : Option ℕ) → place keys key ≡ o → P (if is_some o then keys else keys ++ key ∷ [])
    by None e = new e
    by (Some n) e = old

-- the keys are all different after one was added
pub numbered_named : (keys : List (List ℕ)) (key : List ℕ) → AreNumbered keys → AreNumbered (with_name keys key)
numbered_named keys key n = named (λ (ks : List (List ℕ)). AreNumbered ks) keys key n (λ new. numbered_with_key keys key new n)

-- no writer has a last put on a key behind them
pub none_behind_named : (last : ℕ → ℕ → Option ℕ) (keys : List (List ℕ)) (key : List ℕ) → NoneBehind last (length keys) → NoneBehind last (length (with_name keys key))
none_behind_named last keys key n =
    named (λ (ks : List (List ℕ)). NoneBehind last (length ks)) keys key n (λ new. none_behind_more last (length keys) (length (keys ++ key ∷ [])) (let l = length-append keys (key ∷ []) in omega arith) n)

-- the puts that are kept stay those of the world
pub puts_stay_named : (keys : List (List ℕ)) (last : ℕ → ℕ → Option ℕ) (puts : List PutNow) (w : World) (key : List ℕ) → NoneBehind last (length keys) → PutsMeet keys last puts w → PutsMeet (with_name keys key) last puts w
puts_stay_named keys last puts w key none m =
    named (λ (ks : List (List ℕ)). PutsMeet ks last puts w) keys key m (λ new. puts_stay_with_key keys last puts w key new (λ writer. none (length keys) writer (omega arith)) m)

-- so do the gets
pub gets_stay_named : (ring : RingValue) (clock : ℕ → List Entry) (keys : List (List ℕ)) (gets : List GetNow) (w : World) (key : List ℕ) → GetsMeet ring clock keys gets w → GetsMeet ring clock (with_name keys key) gets w
gets_stay_named ring clock keys gets w key m = named (λ (ks : List (List ℕ)). GetsMeet ring clock ks gets w) keys key m (λ new. gets_stay_with_key ring clock keys gets w key m)
