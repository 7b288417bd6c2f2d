-- The block of a put's line is told from the front of the list.
use Rattle.std.proofs.Common.{◌≡◌, ◌≤◌, ◌∙◌, ℕ, true, false, List, [], ◌∷◌, ◌++◌, length, refl, sym, ap, subst₂, append_assoc, inl, inr}
use Rattle.std.specs.Prelude.{unwrap_or}
use Rattle.std.specs.List.{list_all}
use Rattle.std.proofs.lemmas.Bool.{true≢false}
use Rattle.ring_names.specs.declared.ids.WriterId.{WriterId}
use Rattle.plan_runs.specs.declared.event.Event.TheVariants.{StartPut}
use Rattle.plan_runs.specs.declared.event.Reply.TheVariants.{Put}
use Rattle.ring_board.specs.declared.receipt.Receipt.{Receipt}
use Rattle.ring_board.specs.declared.asked.Asked.{Asked}
use Rattle.ring_board.specs.Kinds.{sends, acknowledges, put_in}
use Rattle.ring_board.specs.Behind.{behind, behind_one}
use Rattle.ring_board.specs.Blocks.{numbers_of, are_ended, IsPut, AreBlocks, Leaves}
use Rattle.ring_board.proofs.Fronts.{heads, tails, passed, passed_one, behind_all, behind_one_all, begins_apart, at_most_one}
use Rattle.ring_board.proofs.KindsApart.{client_sends, client_acknowledges, acknowledged_sends}
use Rattle.ring_board.proofs.Opening.{Opens, blocks_open, opens_apart}

-- what is left behind a put
abbrev pub behind_put : ℕ → List Receipt → List Receipt
behind_put n list = behind_one (λ r. acknowledges n r.event) (behind (λ r. sends n r.event) list)

behind_it : (n : ℕ) (sent acks rest : List Receipt) → list_all (λ r. sends n r.event) sent ≡ true → list_all (λ r. acknowledges n r.event) acks ≡ true → length acks ≤ 1
    → Opens rest → behind_put n ((sent ++ acks) ++ rest) ≡ rest
behind_it n sent acks rest all_sent all_acks few opens =
    let s = λ (r : Receipt). sends n r.event in
    let a = λ (r : Receipt). acknowledges n r.event in
    let no_more = begins_apart a s acks rest (λ r is. acknowledged_sends n r.event is) all_acks (opens_apart s rest (λ r c. client_sends n r.event c) opens) in
    ap (λ xs. behind_one a (behind s xs)) (append_assoc sent acks rest)
    ∙ ap (behind_one a) (behind_all s sent (acks ++ rest) all_sent no_more)
    ∙ behind_one_all a acks rest all_acks few (opens_apart a rest (λ r c. client_acknowledges n r.event c) opens)

module _ (asked : List Asked) (w : WriterId) (k v s : List ℕ) where
  -- it names a get that has not ended
  pub no_put : (list : List Receipt) → are_ended asked k s ≡ false → Leaves asked (StartPut w k v s) list list asked
  no_put list not lines = (
    λ b. elim b.4.1 [
      | inl p ↦ absurd (true≢false (sym p.0 ∙ not))
      | inr none ↦ subst₂ (λ (a : List Asked) (l : List Receipt). AreBlocks a lines l) b.4.0 (sym (b.3 ∙ ap (λ xs. xs ++ b.1) none.1)) b.5
    ],
    λ c. ([], list, asked, refl, (refl, inr (not, refl)), c),
  )

  -- the list begins with its start
  pub put_there : (list later rest : List Receipt) (start : Receipt) (n : ℕ) → are_ended asked k s ≡ true → list ≡ start ∷ later
      → start.event ≡ StartPut w k v (numbers_of asked s) → start.reply ≡ Put n → rest ≡ behind_put n later → Leaves asked (StartPut w k v s) list rest asked
  put_there list later rest start n ended list_is event reply rest_is lines = (
    λ b. elim b.4.1 [
      | inl p ↦ (
          let put = p.1 in
          let joined : start ∷ later ≡ put.start ∷ ((put.sent ++ put.acks) ++ b.1) = sym list_is ∙ b.3 ∙ ap (λ xs. xs ++ b.1) put.joined in
          let number : n ≡ put.number = ap (λ r. unwrap_or (put_in r) 0) (sym reply ∙ ap (λ (r : Receipt). r.reply) (heads joined) ∙ put.reply) in
          let here : rest ≡ b.1 = rest_is ∙ ap (λ m. behind_put m later) number ∙ ap (behind_put put.number) (tails joined)
          ∙ behind_it put.number put.sent put.acks b.1 put.are_sent put.are_acks put.few (blocks_open b.2 lines b.1 b.5) in
          subst₂ (λ (a : List Asked) (l : List Receipt). AreBlocks a lines l) b.4.0 (sym here) b.5)
      | inr none ↦ absurd (true≢false (sym ended ∙ none.0))
    ],
    λ c. (
        let sent = passed (λ r. sends n r.event) later in
        let acks = passed_one (λ r. acknowledges n r.event) (behind (λ r. sends n r.event) later) in
        let joined : later ≡ (sent.0 ++ acks.0) ++ rest = sent.1 ∙ ap (λ xs. sent.0 ++ xs) (acks.1 ∙ ap (λ xs. acks.0 ++ xs) (sym rest_is)) ∙ sym (append_assoc sent.0 acks.0 rest) in
        let put : IsPut (StartPut w k v (numbers_of asked s)) (start ∷ (sent.0 ++ acks.0)) = record {
          start = start;
          number = n;
          sent = sent.0;
          acks = acks.0;
          joined = refl;
          event = event;
          reply = reply;
          are_sent = sent.2;
          are_acks = acks.2;
          few = at_most_one _ _ acks.3;
        } in
        (start ∷ (sent.0 ++ acks.0), rest, asked, list_is ∙ ap (λ xs. start ∷ xs) joined, (refl, inl (ended, put)), c)),
  )
