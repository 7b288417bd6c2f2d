-- The block of the line of a node that goes down or comes up: it may always be empty.
use Rattle.std.proofs.Common.{◌≡◌, ◌∙◌, true, false, List, [], ◌∷◌, ◌++◌, length, refl, sym, ap, subst, subst₂, arith, inl, inr}
use Rattle.std.specs.Prelude.{◌⊎◌}
use Rattle.std.proofs.lemmas.Bool.{true≢false}
use Rattle.plan_runs.specs.declared.event.Event.{Event}
use Rattle.plan_runs.specs.declared.event.Event.TheVariants.{StartPut, StartGet, Down, Up}
use Rattle.ring_board.specs.declared.receipt.Receipt.{Receipt}
use Rattle.ring_board.specs.declared.asked.Asked.{Asked}
use Rattle.ring_board.proofs.Fronts.{heads, tails}
use Rattle.ring_board.specs.Blocks.{IsOne, IsBlock, AreBlocks, Leaves, HasNoBlock, turns_a_node}

of_node : (asked : List Asked) (line : Event) (block : List Receipt) (after : List Asked) → turns_a_node line ≡ true → IsBlock asked line block after → (after ≡ asked) × IsOne line block
of_node asked (Down x) block after moves b = b
of_node asked (Up x) block after moves b = b
of_node asked line block after moves b = absurd (true≢false (sym moves))

from_node : (asked : List Asked) (line : Event) (block : List Receipt) → turns_a_node line ≡ true → IsOne line block → IsBlock asked line block asked
from_node asked (Down x) block moves one = (refl, one)
from_node asked (Up x) block moves one = (refl, one)
from_node asked line block moves one = absurd (true≢false (sym moves))

-- A block is empty, or one event of a node in whose place it could be empty, or begins with something else
Kind : List Asked → Event → List Receipt → List Asked → Type 0
Kind asked line block after =
    ((block ≡ []) × IsBlock asked line [] after)
    ⊎ (((r : Receipt) × (block ≡ r ∷ []) × IsBlock asked line [] after)
    ⊎ ((r : Receipt) × (rs : List Receipt) × (block ≡ r ∷ rs) × (turns_a_node r.event ≡ false)))

one_kind : (asked : List Asked) (line : Event) (block : List Receipt) (after : List Asked) → IsBlock asked line [] after → IsOne line block → Kind asked line block after
unfolding Kind
one_kind asked line block after none (inl empty) = inl (empty, none)
one_kind asked line block after none (inr one) = inr (inl (one.0, one.1, none))

block_kind : (asked : List Asked) (line : Event) (block : List Receipt) (after : List Asked) → IsBlock asked line block after → Kind asked line block after
unfolding Kind
block_kind asked (StartPut w k v s) block after b = elim b.1 [
  | inl p ↦ inr (inr (p.1.start, p.1.sent ++ p.1.acks, p.1.joined, subst (λ e. turns_a_node e ≡ false) (sym p.1.event) refl))
  | inr none ↦ inl (none.1, (b.0, inr (none.0, refl)))
]
block_kind asked (StartGet k) block after b =
    let get = b.2 in
    inr (inr (get.start, get.reads ++ get.ends, get.joined, subst (λ e. turns_a_node e ≡ false) (sym get.event) refl))
block_kind asked (Down x) block after b = one_kind asked (Down x) block after (b.0, inl refl) b.1
block_kind asked (Up x) block after b = one_kind asked (Up x) block after (b.0, inl refl) b.1
block_kind asked line block after b = absurd b

-- so a list of blocks is one still without a node's event in front
pub without_first : (asked : List Asked) (lines : List Event) (r : Receipt) (rs : List Receipt) → turns_a_node r.event ≡ true → AreBlocks asked lines (r ∷ rs) → AreBlocks asked lines rs
unfolding Kind
without_first asked [] r rs moves b = absurd (let e = ap length b in omega arith)
without_first asked (line ∷ lines) r rs moves b = elim (block_kind asked line b.0 b.2 b.4) [
  | inl none ↦ (
      let there : r ∷ rs ≡ b.1 = b.3 ∙ ap (λ xs. xs ++ b.1) none.0 in
      ([], rs, b.2, refl, none.1, without_first b.2 lines r rs moves (subst (λ (l : List Receipt). AreBlocks b.2 lines l) (sym there) b.5)))
  | inr some ↦ elim some [
    | inl one ↦ (
        let there : r ∷ rs ≡ one.0 ∷ b.1 = b.3 ∙ ap (λ xs. xs ++ b.1) one.1 in
        ([], rs, b.2, refl, one.2, subst (λ (l : List Receipt). AreBlocks b.2 lines l) (sym (tails there)) b.5))
    | inr other ↦ (
        let there : r ∷ rs ≡ other.0 ∷ (other.1 ++ b.1) = b.3 ∙ ap (λ xs. xs ++ b.1) other.2 in
        absurd (true≢false (sym moves ∙ ap (λ (x : Receipt). turns_a_node x.event) (heads there) ∙ other.3)))
  ]
]

-- the list begins with the line's event
pub node_there : (asked : List Asked) (line : Event) (list later : List Receipt) (first : Receipt) → turns_a_node line ≡ true → list ≡ first ∷ later → first.event ≡ line
    → Leaves asked line list later asked
node_there asked line list later first moves list_is event lines = (
  λ b. (
      let here = of_node asked line b.0 b.2 moves b.4 in
      elim here.1 [
        | inl empty ↦ (
            let there : b.1 ≡ first ∷ later = sym (b.3 ∙ ap (λ xs. xs ++ b.1) empty) ∙ list_is in
            let all = subst₂ (λ (a : List Asked) (l : List Receipt). AreBlocks a lines l) here.0 there b.5 in
            without_first asked lines first later (subst (λ e. turns_a_node e ≡ true) (sym event) moves) all)
        | inr one ↦ (
            let there : first ∷ later ≡ one.0 ∷ b.1 = sym list_is ∙ b.3 ∙ ap (λ xs. xs ++ b.1) one.1 in
            subst₂ (λ (a : List Asked) (l : List Receipt). AreBlocks a lines l) here.0 (sym (tails there)) b.5)
      ]),
  λ c. (first ∷ [], later, asked, list_is, from_node asked line (first ∷ []) moves (inr (first, refl, event)), c),
)

-- the list begins with something else, or with nothing
pub node_not_there : (asked : List Asked) (line : Event) (list : List Receipt) → turns_a_node line ≡ true → ((r : Receipt) (rs : List Receipt) → list ≡ r ∷ rs → r.event ≡ line → ⊥)
    → Leaves asked line list list asked
node_not_there asked line list moves other lines = (
  λ b. (
      let here = of_node asked line b.0 b.2 moves b.4 in
      elim here.1 [
        | inl empty ↦ subst₂ (λ (a : List Asked) (l : List Receipt). AreBlocks a lines l) here.0 (sym (b.3 ∙ ap (λ xs. xs ++ b.1) empty)) b.5
        | inr one ↦ absurd (other one.0 b.1 (b.3 ∙ ap (λ xs. xs ++ b.1) one.1) one.2)
      ]),
  λ c. ([], list, asked, refl, from_node asked line [] moves (inl refl), c),
)

-- no line of a script that is not a client's has a block
pub never : (asked : List Asked) (line : Event) (list : List Receipt) → ((block : List Receipt) (after : List Asked) → IsBlock asked line block after → ⊥) → HasNoBlock asked line list
never asked line list none lines b = none b.0 b.2 b.4
