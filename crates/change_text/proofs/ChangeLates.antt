-- Reading a change does not go back, and each of its faults is at a line that was reached.
use Rattle.std.proofs.Common.{◌≡◌, ℕ, ◌≤◌, List, codes, Ok}
use Rattle.ring_table.proofs.Terms.{NodeId, RingValue, IsRing}
use Rattle.texts.proofs.Forms.{Left, next_number, header_at, one_line, ReadsTo, At, Advances, ending, to-first, to-second, to-after, past-next}
use Rattle.change_text.specs.Reading.{joining_at, leaving_at, join_at, leave_at, joins_at, leaves_at, change_of, change_at}
use Rattle.change_text.proofs.ChangeForm.{join_line, leave_line, joins_form, tail_form, body_form, change_form}

module _ (ring : RingValue) where
  pub join-at : (seen : List NodeId) (k : ℕ) (fields : List (List ℕ)) → At k (join_at ring seen k fields)
  unfolding join_at joining_at
  join-at seen k fields = (join_line ring seen).at k fields

  pub leave-at : (joins seen : List NodeId) (k : ℕ) (fields : List (List ℕ)) → At k (leave_at ring joins seen k fields)
  unfolding leave_at leaving_at
  leave-at joins seen k fields = (leave_line ring joins seen).at k fields

  pub change-on : Advances (change_at ring)
  unfolding change_at join_at leave_at joining_at leaving_at
  change-on = (change_form ring).advances

  -- after the first line: a place among the joins, or among the leaves
  module _ (s t : Left) (u : Unit {0}) (start : one_line (header_at (codes "change") (codes "1")) s ≡ Ok (u, t)) where
    pub change-joins : (k : ℕ) → ReadsTo k (joins_at ring t) → ReadsTo k (change_at ring s)
    unfolding change_at join_at leave_at joining_at leaving_at
    change-joins k p = to-after change_of (one_line (header_at (codes "change") (codes "1"))) (λ _. (body_form ring).read) k s t u start (to-first (joins_at ring) (λ joins. (tail_form ring joins).read) k t (λ joins. (tail_form ring joins).advances) p)

    pub change-leaves : (k : ℕ) (x : Left) (joins : List NodeId) → joins_at ring t ≡ Ok (joins, x) → ReadsTo k (leaves_at ring joins x) → ReadsTo k (change_at ring s)
    unfolding change_at join_at leave_at joining_at leaving_at
    change-leaves k x joins e p = to-after change_of (one_line (header_at (codes "change") (codes "1"))) (λ _. (body_form ring).read) k s t u start
        (to-second (joins_at ring) (λ joins. (tail_form ring joins).read) k t x joins e (to-first (leaves_at ring joins) (λ _. (ending {W = IsRing ring}).read) k x (λ _. (ending {W = IsRing ring}).advances) p))

    -- joins do not go back
    pub behind-joins : (k : ℕ) (x : Left) (joins : List NodeId) → joins_at ring t ≡ Ok (joins, x) → next_number x.line ≤ k → next_number t.line ≤ k
    unfolding join_at joining_at
    behind-joins k x joins e le = past-next (joins_at ring) (joins_form ring).advances t x joins e k le
