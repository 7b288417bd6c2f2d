-- The least node that is down.
use Rattle.std.specs.Prelude.{◌≡◌, ℕ, ◌<◌, Bool, true, false, Option, MatchOption}
use Rattle.ring_names.specs.declared.ids.NodeId.{NodeId}

-- of the nodes that pass the test and are down it is the least, if there is one
abbrev pub IsLeastDown : (ℕ → Bool) → (ℕ → Bool) → Option NodeId → Type 0
IsLeastDown up test o = MatchOption o ((x : ℕ) → test x ≡ true → up x ≡ true)
    (λ y. (test y.0 ≡ true) × (up y.0 ≡ false) × ((x : ℕ) → x < y.0 → test x ≡ true → up x ≡ true))
