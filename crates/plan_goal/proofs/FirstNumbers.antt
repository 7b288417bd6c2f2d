-- What is defined of the first numbers, one number on.
use Rattle.std.proofs.Common.{◌≡◌, ℕ, suc, ◌+◌, Bool, true, ◌&&◌, List, [], ◌∷◌, ◌++◌, slice_index, replicate, refl, arith}
use Rattle.ring_names.specs.declared.ids.NodeId.{NodeId}
use Rattle.plan_goal.specs.Sized.{holds_below, loads_below, row_at, sum_below, with_row}
use Rattle.plan_goal.specs.UnreadKept.{kept_row, kept_rows}

pub sum_none : (f : ℕ → ℕ) → sum_below f 0 ≡ 0
unfolding sum_below
sum_none f = refl

pub sum_more : (f : ℕ → ℕ) (x : ℕ) → sum_below f (x + 1) ≡ sum_below f x + f x
unfolding sum_below
sum_more f x = (let e : x + 1 ≡ suc x = omega arith in rw e refl)

pub holds_none : (test : ℕ → Bool) → holds_below test 0 ≡ true
unfolding holds_below
holds_none test = refl

pub holds_more : (test : ℕ → Bool) (x : ℕ) → holds_below test (x + 1) ≡ (holds_below test x && test x)
unfolding holds_below
holds_more test x = (let e : x + 1 ≡ suc x = omega arith in rw e refl)

pub loads_none : (sizes : List ℕ) (rows : List (List NodeId)) (nodes : ℕ) → loads_below sizes rows nodes 0 ≡ replicate nodes 0
unfolding loads_below
loads_none sizes rows nodes = refl

pub loads_more : (sizes : List ℕ) (rows : List (List NodeId)) (nodes p : ℕ)
    → loads_below sizes rows nodes (p + 1) ≡ with_row (slice_index sizes p) (loads_below sizes rows nodes p) (row_at rows p)
unfolding loads_below
loads_more sizes rows nodes p = (let e : p + 1 ≡ suc p = omega arith in rw e refl)

pub rows_none : (r : ℕ) (dead : List NodeId) (before after : List (List NodeId)) → kept_rows r dead before after 0 ≡ []
unfolding kept_rows
rows_none r dead before after = refl

pub rows_more : (r : ℕ) (dead : List NodeId) (before after : List (List NodeId)) (p : ℕ)
    → kept_rows r dead before after (p + 1) ≡ kept_rows r dead before after p ++ kept_row r dead (row_at before p) (row_at after p) ∷ []
unfolding kept_rows
rows_more r dead before after p = (let e : p + 1 ≡ suc p = omega arith in rw e refl)
