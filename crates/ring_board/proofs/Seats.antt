-- A step on the table, seen as one of a seat on its board.
use Rattle.std.proofs.Common.{◌≡◌, ◌≢◌, ◌⊎◌, inl, inr, ⊎_elim, ℕ, ◌+◌, ◌<◌, ◌≤◌, ◌||◌, true, false, cond, leb, eqb, List, [], ◌∷◌, map, slice_index, refl, sym, ap, ◌∙◌, subst, arith, Option, Some, None}
use mathlib.Core.Logic.{dite}
use mathlib.Core.Option.{none}
use native.Mathlib.Decide.{dec_le}
use Rattle.std.proofs.lemmas.Bool.{le-leb, lt-leb, or_cases}
use prog.Atomic.{either}
use Rattle.atomic_table.specs.Table.{step, Allows}
use Rattle.ring_names.specs.Lists.{has}
use Rattle.ring_board.specs.declared.view.Mark.{Mark}
use Rattle.ring_board.specs.declared.seat.Seat.TheInside.{Inside}
use Rattle.ring_board.specs.declared.board.Board.TheInside as board
use Rattle.ring_board.specs.Words.{claimed, finished_word, IsWord}
use Rattle.ring_board.specs.Seats.{BoardView, SeatView, Fits, removed, sight}
use Rattle.ring_board.specs.Views.{mark, unmarked, with_held, without_held, with_finished, with_known, with_seen, marks_of, view_of, IsSeat}
use Rattle.ring_board.specs.Kept.{Kept, Sees, Knower, claims, gives_back, finishes, looks}
use Rattle.ring_board.specs.Seated.{shown, IsSeated}
use Rattle.ring_board.specs.Boarded.{board_of, IsBoard}
use Rattle.ring_board.proofs.Counts.{unmarked-own}
use Rattle.ring_board.proofs.Steps.{had-word, claiming, giving, finishing, looking}

pub steps-of : (o : Option ℕ) (ks : List ℕ) → (o ≡ None → ks ≡ []) → map (λ (m : Mark). m.step) (marks_of o ks) ≡ ks
steps-of None ks empty = sym (empty refl)
steps-of (Some w) [] empty = refl
steps-of (Some w) (k ∷ ks) empty = ap (λ l. k ∷ l) (steps-of (Some w) ks (λ e. absurd cc))

marks-more : (o : Option ℕ) (k w : ℕ) (ks : List ℕ) → o ≡ Some w → mark k w ∷ marks_of o ks ≡ marks_of o (k ∷ ks)
marks-more None k w ks e = absurd cc
marks-more (Some x) k w ks e = let same : w ≡ x = cc in ap (λ y. mark k y ∷ marks_of (Some x) ks) same

marks-less : (o : Option ℕ) (k : ℕ) (ks : List ℕ) → unmarked k (marks_of o ks) ≡ marks_of o (removed k ks)
marks-less None k ks = refl
marks-less (Some w) k ks = unmarked-own k w ks

-- a seat with these fields is seen so
pub seated : (a : Inside) (s : SeatView) → a.seat.table_id ≡ s.board → a.worker ≡ s.worker → a.seat.me ≡ (view_of s, []) → IsSeat s → (shown a ≡ s) × IsSeated a
seated a s board worker me is =
    let same : shown a ≡ s = λ t. record {
      board = board t;
      worker = worker t;
      held = (ap (λ (m : Knower). map (λ (m : Mark). m.step) m.0.held) me ∙ steps-of s.worker s.held (λ e. (is.idle e).0)) t;
      finished = (ap (λ (m : Knower). map (λ (m : Mark). m.step) m.0.finished) me ∙ steps-of s.worker s.finished (λ e. (is.idle e).1)) t;
      known = (me t).0.known;
      seen = (me t).0.seen;
      share = slice_index (me t).0.parts 0;
    } in
    (same, record { own = me ∙ ap (λ (z : SeatView). (view_of z, [])) (sym same); seat = subst IsSeat (sym same) is })

-- the word of a step fits what a seat says
pub fits : (s : SeatView) (k word : ℕ) → IsSeat s → Sees (view_of s) k word → Fits s k word
fits s k word is sees =
    record {
      held = λ h w e. had-word claimed (marks_of s.worker s.held) k w word s.held (sees.held w (is.worker w e).1) (ap (λ o. marks_of o s.held) e) h;
      finished = λ h w e. had-word finished_word (marks_of s.worker s.finished) k w word s.finished (sees.finished w (is.worker w e).1) (ap (λ o. marks_of o s.finished) e) h;
      known = sees.known;
    }

-- what a seat s, kept as the fields a, is on a board v, kept as the fields b
pub record On (a : Inside) (s : SeatView) (b : board.Inside) (v : BoardView) (k : ℕ) : Type 0 where
  pub table : a.seat.table_id ≡ b.table.shared.table_id
  pub board : a.seat.table_id ≡ s.board
  pub worker : a.worker ≡ s.worker
  pub own : a.seat.me ≡ (view_of s, [])
  pub is : IsSeat s
  pub place : k + 1 < b.table.shared.table_id.words
  pub below : k < b.table.shared.key.steps
  pub slots : b.table.shared.table_id.slots ≡ b.table.shared.key.workers
  pub workers : b.table.shared.table_id.slots ≡ v.workers
  pub ours : s.board.slots ≡ b.table.shared.key.workers

pub on : (a : Inside) (s : SeatView) (b : board.Inside) (v : BoardView) (k : ℕ) → shown a ≡ s → IsSeated a → board_of b ≡ v → IsBoard b → s.board ≡ v.id → k < v.steps → On a s b v k
on a s b v k seen seat kept board same below =
    let size : b.table.shared.key ≡ b.size = board.key in
    let steps : b.size.steps ≡ v.steps = ap (λ (z : BoardView). z.steps) kept in
    let key_steps : b.table.shared.key.steps ≡ b.size.steps = ap (λ z. z.steps) size in
    let words : b.table.shared.table_id.words ≡ b.size.steps + 1 = board.words in
    let home : a.seat.table_id ≡ s.board = ap (λ (z : SeatView). z.board) seen in
    let table : a.seat.table_id ≡ b.table.shared.table_id = home ∙ same ∙ sym (ap (λ (z : BoardView). z.id) kept) in
    let slots : b.table.shared.table_id.slots ≡ b.table.shared.key.workers = board.slots ∙ sym (ap (λ z. z.workers) size) in
    record {
      table = table;
      board = home;
      worker = ap (λ (z : SeatView). z.worker) seen;
      own = seat.own ∙ ap (λ (z : SeatView). (view_of z, [])) seen;
      is = subst IsSeat seen seat.seat;
      place = omega arith;
      below = omega arith;
      slots = slots;
      workers = board.slots ∙ ap (λ (z : BoardView). z.workers) kept;
      ours = ap (λ z. z.slots) (sym home ∙ table) ∙ slots;
    }

module _ (a : Inside) (s : SeatView) (b : board.Inside) (v : BoardView) (k : ℕ) (h : On a s b v k) where
  -- what a step asks its caller: board and seat have one table, the word is there, and the seat's view meets the rule
  asked : (f : ℕ → ℕ) (then : Knower → ℕ → Knower → Type 0) → Allows (Kept b.table.shared.key) b.table.shared.table_id.slots a.seat.id (view_of s, []) (k + 1) f (then (view_of s, []))
      → (a.seat.table_id ≡ b.table.shared.table_id) × (k + 1 < b.table.shared.table_id.words) × Allows (Kept b.table.shared.key) b.table.shared.table_id.slots a.seat.id a.seat.me (k + 1) f (then a.seat.me)
  asked f then allows = (h.table, h.place, subst (λ (m : Knower). Allows (Kept b.table.shared.key) b.table.shared.table_id.slots a.seat.id m (k + 1) f (then m)) (sym h.own) allows)

  -- a worker is one of the board's
  mine : (w : ℕ) → s.worker ≡ Some w → w < b.table.shared.key.workers
  mine w e = let own = h.is.worker w e in let ours = h.ours in omega arith

  pub may-claim : (w : ℕ) → s.worker ≡ Some w → (a.seat.table_id ≡ b.table.shared.table_id) × (k + 1 < b.table.shared.table_id.words)
      × Allows (Kept b.table.shared.key) b.table.shared.table_id.slots a.seat.id a.seat.me (k + 1) (λ n. either (eqb n 0) (w + 1) n) (claims (step b.table.shared.table_id.slots (k + 1) 0 (w + 1) none) a.seat.me)
  may-claim w e =
      asked (λ n. either (eqb n 0) (w + 1) n) (λ m. claims (step b.table.shared.table_id.slots (k + 1) 0 (w + 1) none) m)
      (claiming b.table.shared.key b.table.shared.table_id.slots a.seat.id k h.below w (view_of s) [] h.slots (mine w e) (h.is.worker w e).1 (λ none_left. absurd cc))

  pub may-give : (w : ℕ) → s.worker ≡ Some w → has k s.held ≡ true → (a.seat.table_id ≡ b.table.shared.table_id) × (k + 1 < b.table.shared.table_id.words)
      × Allows (Kept b.table.shared.key) b.table.shared.table_id.slots a.seat.id a.seat.me (k + 1) (λ _. 0) (λ _. gives_back (step b.table.shared.table_id.slots (k + 1) 0 0 none) a.seat.me 0)
  may-give w e held =
      asked (λ _. 0) (λ m _. gives_back (step b.table.shared.table_id.slots (k + 1) 0 0 none) m 0)
      (giving b.table.shared.key b.table.shared.table_id.slots a.seat.id k w h.below (h.is.worker w e).1 (view_of s) [] s.held (ap (λ o. marks_of o s.held) e) held (λ none_left. absurd cc))

  pub may-finish : (w : ℕ) → s.worker ≡ Some w → has k s.held ≡ true → (a.seat.table_id ≡ b.table.shared.table_id) × (k + 1 < b.table.shared.table_id.words)
      × Allows (Kept b.table.shared.key) b.table.shared.table_id.slots a.seat.id a.seat.me (k + 1) (λ _. 128 + w) (λ _. finishes (step b.table.shared.table_id.slots (k + 1) (128 + w) 0 none) a.seat.me (128 + w))
  may-finish w e held =
      asked (λ _. 128 + w) (λ m _. finishes (step b.table.shared.table_id.slots (k + 1) (128 + w) 0 none) m (128 + w))
      (finishing b.table.shared.key b.table.shared.table_id.slots a.seat.id k w h.below (h.is.worker w e).1 (view_of s) [] s.held (ap (λ o. marks_of o s.held) e) held (λ none_left. absurd cc) (mine w e))

  pub may-look : (a.seat.table_id ≡ b.table.shared.table_id) × (k + 1 < b.table.shared.table_id.words)
      × Allows (Kept b.table.shared.key) b.table.shared.table_id.slots a.seat.id a.seat.me (k + 1) (λ n. n) (looks (step b.table.shared.table_id.slots (k + 1) 0 0 none) a.seat.me)
  may-look = asked (λ n. n) (λ m. looks (step b.table.shared.table_id.slots (k + 1) 0 0 none) m) (looking b.table.shared.key b.table.shared.table_id.slots a.seat.id k h.below (view_of s) [])

  -- the seat of a worker is one whatever it holds and finished
  still : (w : ℕ) → s.worker ≡ Some w → (held finished : List ℕ) → IsSeat (record s { held = held; finished = finished })
  still w e held finished = record { idle = λ none_is. absurd cc; worker = h.is.worker }

  module _ (a' : Inside) (there : a'.seat.table_id ≡ a.seat.table_id) (same : a'.worker ≡ a.worker) where
    -- a seat whose view is that of the seat t is the seat t
    become : (t : SeatView) → t.board ≡ s.board → t.worker ≡ s.worker → a'.seat.me ≡ (view_of t, []) → IsSeat t → (shown a' ≡ t) × IsSeated a'
    become t board worker me is = seated a' t (there ∙ h.board ∙ sym board) (same ∙ h.worker ∙ sym worker) me is

    unchanged : a'.seat.me ≡ a.seat.me → (shown a' ≡ s) × IsSeated a'
    unchanged e = become s refl refl (e ∙ h.own) h.is

    pub after-claim : (w word : ℕ) → s.worker ≡ Some w → claims (step b.table.shared.table_id.slots (k + 1) 0 (w + 1) none) a.seat.me word a'.seat.me
        → (word ≡ 0 → (shown a' ≡ record s { held = k ∷ s.held }) × IsSeated a') × (word ≢ 0 → (shown a' ≡ record s { seen = sight k word ∷ s.seen }) × IsSeated a') × Fits s k word × IsWord v.workers word
    after-claim w word e told =
        let now = told k w refl refl in (
          (λ free.
              let view : (with_held k w a.seat.me.0, a.seat.me.1) ≡ (view_of (record s { held = k ∷ s.held }), []) =
              ap (λ (m : Knower). let after : Knower = (with_held k w m.0, m.1) in after) h.own ∙ ap (λ (l : List Mark). let after : Knower = (record (view_of s) { held = l }, []) in after) (marks-more s.worker k w s.held e) in
              become (record s { held = k ∷ s.held }) refl refl (now.won free ∙ view) (still w e (k ∷ s.held) s.finished)),
          (λ taken. become (record s { seen = sight k word ∷ s.seen }) refl refl (now.taken taken ∙ ap (λ (m : Knower). let after : Knower = (with_seen k word m.0, m.1) in after) h.own) (record { idle = h.is.idle; worker = h.is.worker })),
          fits s k word h.is (subst (λ (m : Knower). Sees m.0 k word) h.own now.sees),
          subst (λ n. IsWord n word) h.workers now.proper,
        )

    pub after-give : (w : ℕ) → s.worker ≡ Some w → gives_back (step b.table.shared.table_id.slots (k + 1) 0 0 none) a.seat.me 0 a'.seat.me
        → (shown a' ≡ record s { held = removed k s.held }) × IsSeated a'
    after-give w e told =
        let view : (without_held k a.seat.me.0, a.seat.me.1) ≡ (view_of (record s { held = removed k s.held }), []) =
        ap (λ (m : Knower). let after : Knower = (without_held k m.0, m.1) in after) h.own ∙ ap (λ (l : List Mark). let after : Knower = (record (view_of s) { held = l }, []) in after) (marks-less s.worker k s.held) in
        become (record s { held = removed k s.held }) refl refl (told k refl ∙ view) (still w e (removed k s.held) s.finished)

    pub after-finish : (w : ℕ) → s.worker ≡ Some w → finishes (step b.table.shared.table_id.slots (k + 1) (128 + w) 0 none) a.seat.me (128 + w) a'.seat.me
        → (shown a' ≡ record s { held = removed k s.held; finished = k ∷ s.finished }) × IsSeated a'
    after-finish w e told =
        let t : SeatView = record s { held = removed k s.held; finished = k ∷ s.finished } in
        let view : (with_finished k w a.seat.me.0, a.seat.me.1) ≡ (view_of t, []) =
        ap (λ (m : Knower). let after : Knower = (with_finished k w m.0, m.1) in after) h.own
        ∙ ap (λ (l : List Mark × List Mark). let after : Knower = (record (view_of s) { held = l.0; finished = l.1 }, []) in after) (λ i. (marks-less s.worker k s.held i, marks-more s.worker k w s.finished e i)) in
        become t refl refl (told k w refl refl ∙ view) (still w e (removed k s.held) (k ∷ s.finished))

    pub after-look : (word : ℕ) → looks (step b.table.shared.table_id.slots (k + 1) 0 0 none) a.seat.me word a'.seat.me
        → (128 ≤ word → (shown a' ≡ record s { known = k ∷ s.known }) × IsSeated a') × (word < 128 → (shown a' ≡ s) × IsSeated a') × Fits s k word
    after-look word told =
        let now = told k refl in (
          (λ done. become (record s { known = k ∷ s.known }) refl refl (now.done done ∙ ap (λ (m : Knower). let after : Knower = (with_known k m.0, m.1) in after) h.own) (record { idle = h.is.idle; worker = h.is.worker })),
          (λ undone. unchanged (now.undone undone)),
          fits s k word h.is (subst (λ (m : Knower). Sees m.0 k word) h.own now.sees),
        )

some-or-none : (o : Option ℕ) → (o ≡ None) ⊎ ((w : ℕ) × (o ≡ Some w))
some-or-none None = inl refl
some-or-none (Some w) = inr (w, refl)

-- a seat that holds a step is a worker's
pub whose : (s : SeatView) (k : ℕ) → IsSeat s → has k s.held ≡ true → (w : ℕ) × (s.worker ≡ Some w)
whose s k is held =
    ⊎_elim
    (λ e. let empty : has k [] ≡ true = subst (λ l. has k l ≡ true) (is.idle e).0 held in absurd cc)
    (λ t. t)
    (some-or-none s.worker)

-- what a look answers
pub looked-known : (a : Inside) (s t : SeatView) (word : ℕ) → (128 ≤ word → shown a ≡ t) → (word < 128 → shown a ≡ s) → shown a ≡ cond (leb 128 word) t s
looked-known a s t word done undone =
    dite (dec_le 128 word)
    (λ h. done h ∙ sym (ap (λ b. cond b t s) (le-leb 128 word h)))
    (λ h. let less : word < 128 = omega arith in undone less ∙ sym (ap (λ b. cond b t s) (lt-leb 128 word less)))

-- a finished step is found so
pub looked-done : (s : SeatView) (k word : ℕ) → IsSeat s → Fits s k word → (has k s.finished || has k s.known) ≡ true → leb 128 word ≡ true
looked-done s k word is fit h =
    le-leb 128 word
    (⊎_elim
    (λ finished. ⊎_elim
    (λ e. let empty : has k [] ≡ true = subst (λ l. has k l ≡ true) (is.idle e).1 finished in absurd cc)
    (λ t. let mine = fit.finished finished t.0 t.1 in omega arith)
    (some-or-none s.worker))
    fit.known
    (or_cases (has k s.finished) (has k s.known) h))

-- a step that is held is not
pub looked-held : (s : SeatView) (k word : ℕ) → IsSeat s → Fits s k word → has k s.held ≡ true → leb 128 word ≡ false
looked-held s k word is fit held =
    let t = whose s k is held in
    let small = (is.worker t.0 t.1).1 in
    let mine = fit.held held t.0 t.1 in
    lt-leb 128 word (omega arith)
