-- Which puts of one key succeed which (DeCandia et al. 2007, section 4.4). There are no clocks in it.
use Rattle.std.specs.Prelude.{◌≡◌, ℕ, zero, suc, Bool, true, false, not, ◌&&◌, ◌||◌, ◌==◌, nat_lt, List, [], ◌∷◌, length, Some, None, slice_get, if◌then◌else◌}
use Rattle.std.specs.Bool.{Decides}
use Rattle.std.specs.List.{list_any}
use Rattle.std.specs.Str.{bytes_eq}
use Rattle.ring_names.specs.Lists.{has}
use Rattle.plan_runs.specs.World.{GetRecord, World, some_below, key_of_put, writer_of, seen_of}

-- whether the get's reply has the put
abbrev pub replied : List GetRecord → ℕ → ℕ → Bool
replied gets g v = elim (slice_get gets g) [
  | Some x ↦ elim x.reply [ Some puts ↦ has v puts | None ↦ false ]
  | None ↦ false
]

-- whether the reply of a get with one of these numbers has it
abbrev pub some_replied : List GetRecord → List ℕ → ℕ → Bool
some_replied gets gs v = list_any (λ g. replied gets g v) gs

-- put v is an earlier put of u's key. Its writer is u's, or the reply of a get that u names had it
abbrev pub is_direct : World → ℕ → ℕ → Bool
is_direct w u v = nat_lt v u && nat_lt u (length w.puts) && bytes_eq (key_of_put w u) (key_of_put w v)
    && ((writer_of w u == writer_of w v) || some_replied w.gets (seen_of w u) v)

-- put u succeeds put v: they are one, or a chain of direct successions leads from u to v
pub data Succeeds (w : World) : ℕ → ℕ → Type 0 where
  itself : (u : ℕ) → Succeeds w u u
  by : (u m v : ℕ) → is_direct w u m ≡ true → Succeeds w m v → Succeeds w u v

-- the same as a test, through chains of at most n direct successions
abbrev pub succeeds_within : World → ℕ → ℕ → ℕ → Bool
succeeds_within w zero u v = u == v
succeeds_within w (suc n) u v = (u == v) || some_below u (λ m. is_direct w u m && succeeds_within w n m v)

-- the same as a test: each direct succession leads to a smaller number
abbrev pub succeeds : World → ℕ → ℕ → Bool
succeeds w u v = succeeds_within w u u v

-- the test tells succession
abbrev pub IsSuccessionTested : World → Type 0
IsSuccessionTested w = (u v : ℕ) → Decides (succeeds w u v) (Succeeds w u v)

-- whether another one of these puts succeeds the put
abbrev pub some_succeeds : World → ℕ → List ℕ → Bool
some_succeeds w v us = list_any (λ u. not (u == v) && succeeds w u v) us

-- of the puts vs those that none of all succeeds
abbrev pub latest_of : World → List ℕ → List ℕ → List ℕ
latest_of w all [] = []
latest_of w all (v ∷ vs) = if some_succeeds w v all then latest_of w all vs else v ∷ latest_of w all vs

-- of these puts those that no other of them succeeds
abbrev pub latest : World → List ℕ → List ℕ
latest w vs = latest_of w vs vs
