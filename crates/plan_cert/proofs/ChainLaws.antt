-- The chains that are kept, and one more of them.
use Rattle.std.proofs.Common.{◌≡◌, ℕ, zero, suc, List, [], ◌∷◌, ◌++◌, length, refl, ap, arith, slice_get, Some, option_map}
use Rattle.plan_cert.proofs.Terms.{NodeSide, Chain, chain_of, side_of, chains_in}

pub chains-length : (xs : List NodeSide) (rows : List (List ℕ)) → length rows ≡ length xs → length (chains_in xs rows) ≡ length xs
chains-length [] rows e = refl
chains-length (x ∷ xs) [] e = absurd (omega arith)
chains-length (x ∷ xs) (r ∷ rs) e = (let more = chains-length xs rs (omega arith) in omega arith)

-- whose chain a place has, and its steps
pub side-at : (xs : List NodeSide) (rows : List (List ℕ)) (k : ℕ) → length rows ≡ length xs → option_map side_of (slice_get (chains_in xs rows) k) ≡ slice_get xs k
side-at [] rows k e = refl
side-at (x ∷ xs) [] k e = absurd (omega arith)
side-at (x ∷ xs) (r ∷ rs) zero e = refl
side-at (x ∷ xs) (r ∷ rs) (suc k) e = side-at xs rs k (omega arith)

pub steps-at : (xs : List NodeSide) (rows : List (List ℕ)) (k : ℕ) → length rows ≡ length xs → option_map (λ (c : Chain). c.steps) (slice_get (chains_in xs rows) k) ≡ slice_get rows k
steps-at [] [] k e = refl
steps-at [] (r ∷ rs) k e = absurd (omega arith)
steps-at (x ∷ xs) [] k e = absurd (omega arith)
steps-at (x ∷ xs) (r ∷ rs) zero e = refl
steps-at (x ∷ xs) (r ∷ rs) (suc k) e = steps-at xs rs k (omega arith)

-- the chain of a place, of its two parts
pub chain-at : (cs : List Chain) (k : ℕ) (x : NodeSide) (steps : List ℕ) → option_map side_of (slice_get cs k) ≡ Some x → option_map (λ (c : Chain). c.steps) (slice_get cs k) ≡ Some steps → slice_get cs k ≡ Some (chain_of x steps)
chain-at [] k x steps a b = absurd cc
chain-at (c ∷ cs) zero x steps a b =
    let e : side_of c ≡ x = cc in
    let f : c.steps ≡ steps = cc in
    rw (← e, ← f) refl
chain-at (c ∷ cs) (suc k) x steps a b = chain-at cs k x steps a b

-- one chain more
pub chains-more : (xs : List NodeSide) (rows : List (List ℕ)) (x : NodeSide) (row : List ℕ) → length rows ≡ length xs → chains_in (xs ++ x ∷ []) (rows ++ row ∷ []) ≡ chains_in xs rows ++ chain_of x row ∷ []
chains-more [] [] x row e = refl
chains-more [] (r ∷ rs) x row e = absurd (omega arith)
chains-more (y ∷ ys) [] x row e = absurd (omega arith)
chains-more (y ∷ ys) (r ∷ rs) x row e = ap (λ (cs : List Chain). chain_of y r ∷ cs) (chains-more ys rs x row (omega arith))
