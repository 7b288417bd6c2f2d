-- What was written is the line of the put.
use Rattle.std.proofs.Common.{◌≡◌, ℕ, List, ◌∷◌, ◌++◌, codes, sym, ap, ◌∙◌, append_assoc}
use Rattle.std.specs.List.{join_with_byte}
use Rattle.texts.specs.Parts.{spaced}
use Rattle.texts.proofs.Spaced.{join-spaced}

-- a writer, a key and a value, and the gets behind them
pub put-written : (o a b c d e w k v : List ℕ) (gs : List (List ℕ)) → a ≡ o ++ codes "put" → b ≡ a ++ 32 ∷ w → c ≡ b ++ 32 ∷ k → d ≡ c ++ 32 ∷ v → e ≡ d ++ spaced gs → e ≡ o ++ join_with_byte 32 (codes "put" ∷ w ∷ k ∷ v ∷ gs)
put-written o a b c d e w k v gs ea eb ec ed ee = ee ∙ rw (ed, ec, eb, ea) (simp append_assoc) ∙ ap (λ (r : List ℕ). o ++ r) (sym (join-spaced (codes "put") (w ∷ k ∷ v ∷ gs)))
