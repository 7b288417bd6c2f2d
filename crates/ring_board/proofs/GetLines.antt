-- The block of a get's line is told from the front of the list.
use Rattle.std.proofs.Common.{◌≡◌, ◌≤◌, ◌∙◌, ℕ, Bool, true, cond, List, [], ◌∷◌, ◌++◌, refl, sym, ap, subst₂, append_assoc}
use Rattle.std.specs.Prelude.{unwrap_or}
use Rattle.std.specs.List.{list_all}
use Rattle.plan_runs.specs.declared.event.Event.TheVariants.{StartGet}
use Rattle.plan_runs.specs.declared.event.Reply.TheVariants.{Get}
use Rattle.ring_board.specs.declared.receipt.Receipt.{Receipt}
use Rattle.ring_board.specs.declared.asked.Asked.{Asked}
use Rattle.ring_board.specs.Kinds.{reads, ends, get_in}
use Rattle.ring_board.specs.Behind.{behind, behind_one, begins_with}
use Rattle.ring_board.specs.Blocks.{IsGet, AreBlocks, Leaves}
use Rattle.ring_board.proofs.Fronts.{heads, tails, passed, passed_one, behind_all, behind_one_all, begins_all, begins_apart, at_most_one}
use Rattle.ring_board.proofs.KindsApart.{client_reads, client_ends, ended_reads}
use Rattle.ring_board.proofs.Opening.{Opens, blocks_open, opens_apart}

-- what is left behind the reads of a get
abbrev pub behind_reads : ℕ → List Receipt → List Receipt
behind_reads g list = behind (λ r. reads g r.event) list

reads_it : (g : ℕ) (looks last rest : List Receipt) → list_all (λ r. reads g r.event) looks ≡ true → list_all (λ r. ends g r.event) last ≡ true → Opens rest
    → behind_reads g ((looks ++ last) ++ rest) ≡ last ++ rest
reads_it g looks last rest all_looks all_last opens =
    let s = λ (r : Receipt). reads g r.event in
    let a = λ (r : Receipt). ends g r.event in
    let no_more = begins_apart a s last rest (λ r is. ended_reads g r.event is) all_last (opens_apart s rest (λ r c. client_reads g r.event c) opens) in
    ap (behind s) (append_assoc looks last rest) ∙ behind_all s looks (last ++ rest) all_looks no_more

same_get : (a : Asked) (g : ℕ) (k : List ℕ) (ended : Bool) → a.number ≡ g → a.key ≡ k → a.ended ≡ ended → a ≡ record { number = g; key = k; ended = ended }
same_get a g k ended n of e =
    ap (λ (m : ℕ). let b : Asked = record { number = m; key = a.key; ended = a.ended } in b) n
    ∙ ap (λ (m : List ℕ). let b : Asked = record { number = g; key = m; ended = a.ended } in b) of
    ∙ ap (λ (m : Bool). let b : Asked = record { number = g; key = k; ended = m } in b) e

module _ (asked : List Asked) (k : List ℕ) where
  -- the list begins with its start
  pub get_there : (list later rest : List Receipt) (after : List Asked) (start : Receipt) (g : ℕ) (ended : Bool) → list ≡ start ∷ later
      → start.event ≡ StartGet k → start.reply ≡ Get g → rest ≡ behind_one (λ r. ends g r.event) (behind_reads g later)
      → ended ≡ begins_with (λ r. ends g r.event) (behind_reads g later) → after ≡ asked ++ record { number = g; key = k; ended = ended } ∷ []
      → Leaves asked (StartGet k) list rest after
  get_there list later rest after start g ended list_is event reply rest_is ended_is after_is lines = (
    λ b. (
        let a = b.4.0 in
        let get = b.4.2 in
        let e = λ (r : Receipt). ends a.number r.event in
        let opens = blocks_open b.2 lines b.1 b.5 in
        let joined : start ∷ later ≡ get.start ∷ ((get.reads ++ get.ends) ++ b.1) = sym list_is ∙ b.3 ∙ ap (λ xs. xs ++ b.1) get.joined in
        let number : g ≡ a.number = ap (λ r. unwrap_or (get_in r) 0) (sym reply ∙ ap (λ (r : Receipt). r.reply) (heads joined) ∙ get.reply) in
        let left : behind_reads a.number later ≡ get.ends ++ b.1 = ap (behind_reads a.number) (tails joined) ∙ reads_it a.number get.reads get.ends b.1 get.are_reads get.are_ends opens in
        let stop = opens_apart e b.1 (λ r c. client_ends a.number r.event c) opens in
        let here : rest ≡ b.1 = rest_is ∙ ap (λ m. behind_one (λ r. ends m r.event) (behind_reads m later)) number ∙ ap (behind_one e) left
        ∙ behind_one_all e get.ends b.1 get.are_ends (at_most_one a.ended _ get.ended) stop in
        let last : ended ≡ a.ended = ended_is ∙ ap (λ m. begins_with (λ r. ends m r.event) (behind_reads m later)) number ∙ ap (begins_with e) left
        ∙ begins_all e get.ends b.1 a.ended get.are_ends get.ended stop in
        let now : b.2 ≡ after = b.4.1 ∙ ap (λ (x : Asked). asked ++ x ∷ []) (same_get a g k ended (sym number) get.of_key (sym last)) ∙ sym after_is in
        subst₂ (λ (x : List Asked) (l : List Receipt). AreBlocks x lines l) now (sym here) b.5),
    λ c. (
        let looks = passed (λ r. reads g r.event) later in
        let last = passed_one (λ r. ends g r.event) (behind_reads g later) in
        let joined : later ≡ (looks.0 ++ last.0) ++ rest = looks.1 ∙ ap (λ xs. looks.0 ++ xs) (last.1 ∙ ap (λ xs. last.0 ++ xs) (sym rest_is)) ∙ sym (append_assoc looks.0 last.0 rest) in
        let a : Asked = record { number = g; key = k; ended = ended } in
        let get : IsGet k a (start ∷ (looks.0 ++ last.0)) = record {
          start = start;
          reads = looks.0;
          ends = last.0;
          joined = refl;
          event = event;
          reply = reply;
          of_key = refl;
          are_reads = looks.2;
          are_ends = last.2;
          ended = last.3 ∙ ap (λ b. cond b 1 0) (sym ended_is);
        } in
        (start ∷ (looks.0 ++ last.0), rest, after, list_is ∙ ap (λ xs. start ∷ xs) joined, (a, after_is, get), c)),
  )
