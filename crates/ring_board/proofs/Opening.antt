-- A list of blocks is empty, or begins with what a client begins by itself.
use Rattle.std.proofs.Common.{◌≡◌, ◌∙◌, Bool, true, false, List, [], ◌∷◌, ◌++◌, refl, sym, ap, subst, inl, inr}
use Rattle.std.specs.Prelude.{◌⊎◌}
use Rattle.plan_runs.specs.declared.event.Event.{Event}
use Rattle.plan_runs.specs.declared.event.Event.TheVariants.{StartPut, StartGet, Down, Up}
use Rattle.ring_board.specs.declared.receipt.Receipt.{Receipt}
use Rattle.script_text.specs.Client.{is_client_event}
use Rattle.ring_board.specs.declared.asked.Asked.{Asked}
use Rattle.ring_board.specs.Behind.{begins_with}
use Rattle.ring_board.specs.Blocks.{IsBlock, IsOne, AreBlocks}

abbrev pub Opens : List Receipt → Type 0
Opens [] = Unit {0}
Opens (r ∷ rs) = is_client_event r.event ≡ true

-- the list begins with such a one
abbrev pub Begun : List Receipt → Type 0
Begun list = (r : Receipt) × (rs : List Receipt) × (list ≡ r ∷ rs) × (is_client_event r.event ≡ true)

one_opens : (e : Event) (block : List Receipt) → is_client_event e ≡ true → IsOne e block → (block ≡ []) ⊎ Begun block
one_opens e block client (inl none) = inl none
one_opens e block client (inr one) = inr (one.0, [], one.1, subst (λ x. is_client_event x ≡ true) (sym one.2) client)

pub block_opens : (asked : List Asked) (line : Event) (block : List Receipt) (after : List Asked) → IsBlock asked line block after → (block ≡ []) ⊎ Begun block
block_opens asked (StartPut w k v s) block after b = elim b.1 [
  | inl p ↦ inr (p.1.start, p.1.sent ++ p.1.acks, p.1.joined, subst (λ e. is_client_event e ≡ true) (sym p.1.event) refl)
  | inr none ↦ inl none.1
]
block_opens asked (StartGet k) block after b = let get = b.2 in inr (get.start, get.reads ++ get.ends, get.joined, subst (λ e. is_client_event e ≡ true) (sym get.event) refl)
block_opens asked (Down x) block after b = one_opens (Down x) block refl b.1
block_opens asked (Up x) block after b = one_opens (Up x) block refl b.1
block_opens asked line block after b = absurd b

pub blocks_open : (asked : List Asked) (lines : List Event) (list : List Receipt) → AreBlocks asked lines list → Opens list
blocks_open asked [] list b = subst Opens (sym b) tt
blocks_open asked (line ∷ lines) list b = elim (block_opens asked line b.0 b.2 b.4) [
  | inl none ↦ subst Opens (sym (b.3 ∙ ap (λ xs. xs ++ b.1) none)) (blocks_open b.2 lines b.1 b.5)
  | inr some ↦ subst Opens (sym (b.3 ∙ ap (λ xs. xs ++ b.1) some.2)) some.3
]

-- so it begins with nothing that a test lets pass which they do not
pub opens_apart : (test : Receipt → Bool) (list : List Receipt) → ((r : Receipt) → is_client_event r.event ≡ true → test r ≡ false) → Opens list → begins_with test list ≡ false
opens_apart test [] apart o = refl
opens_apart test (r ∷ rs) apart o = apart r o
