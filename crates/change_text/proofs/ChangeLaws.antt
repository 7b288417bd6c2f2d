-- A change is read only from its one text.
use Rattle.std.proofs.Common.{◌≡◌, ℕ, ◌<◌, Bool, true, false, not, nat_lt, ◌==◌, List, [], ◌∷◌, length, codes, Ok, Err, Result, sym, ap, refl, ◌∙◌, arith, IfOk, slice_get, Some, None}
use Rattle.std.specs.List.{list_all}
use Rattle.std.proofs.lemmas.Bool.{eqb-true, and_parts, lt-ltb, ltb-true, not-true, not-false, or_parts, or_from}
use Rattle.ring_table.proofs.Terms.{has, all_different, NodeId, RingValue, names_of, is_member, IsRing}
use Rattle.ring_table.specs.declared.node.Node.{Node}
use Rattle.texts.proofs.Forms.{IsPart, Any, Left, header_at, each-all, all-each, text-found, text-given, some-first, Refusal}
use Rattle.ring_table.proofs.NodesLaws.{nodes-length}
use Rattle.change_text.specs.declared.change.Change.{Change}
use Rattle.change_text.specs.Valid.{may_join, may_leave, IsChange}
use Rattle.change_text.specs.Spelling.{change_lines, change_text}
use Rattle.change_text.specs.Reading.{joining_at, leaving_at, join_at, leave_at, change_of, change_at, change_reading}
use Rattle.change_text.proofs.Different.{numbers, different-next, new-there}
use Rattle.change_text.proofs.ChangeForm.{join_line, leave_line, body_form, change_form}

-- a node with a name is one of the ring's
is-node : (ring : RingValue) (x : NodeId) → x.0 < length (names_of ring) → x.0 < length ring.nodes
is-node ring x lt = omega (arith, nodes-length ring.nodes)

has-name : (ring : RingValue) (x : NodeId) → nat_lt x.0 (length ring.nodes) ≡ true → x.0 < length (names_of ring)
has-name ring x e = (let lt = ltb-true x.0 (length ring.nodes) e in omega (arith, nodes-length ring.nodes))

-- nodes of one number are members alike
member-same : (nodes : List Node) (x y : NodeId) → x.0 ≡ y.0 → is_member nodes x ≡ is_member nodes y
member-same nodes x y e = ap (λ (n : ℕ). elim (slice_get nodes n) [ Some node ↦ node.is_member | None ↦ false ]) e

-- no member joins
stays-out : (ring : RingValue) (x : NodeId) (joins : List NodeId) → is_member ring.nodes x ≡ true → list_all (may_join ring) joins ≡ true → has x.0 (numbers joins) ≡ false
stays-out ring x [] member may = refl
stays-out ring x (y ∷ ys) member may =
    let m = and_parts (may_join ring y) (list_all (may_join ring) ys) may in
    let n = and_parts (nat_lt y.0 (length ring.nodes)) (not (is_member ring.nodes y)) m.0 in
    or_from (x.0 == y.0) (has x.0 (numbers ys)) (other (x.0 == y.0) refl (not-true (is_member ring.nodes y) n.1)) (stays-out ring x ys member m.1)
  where
    other : (b : Bool) → (x.0 == y.0) ≡ b → is_member ring.nodes y ≡ false → b ≡ false
    other false e out = refl
    other true e out = (let same = sym member ∙ (member-same ring.nodes x y (eqb-true x.0 y.0 e) ∙ out) in absurd cc)

module _ (ring : RingValue) (valid : IsRing ring) where
  -- the definitions are the form, by computing
  change-part : IsPart Any (change_at ring) (change_lines ring) (change_form ring).allowed
  unfolding change_at join_at leave_at joining_at leaving_at
  change-part = (change_form ring).exact valid

  -- what it allows is a change of the ring
  parts-suit : (v : Change) → (change_form ring).allowed v → IsChange ring v
  parts-suit v p =
      let join = λ (seen : List NodeId). (join_line ring seen).allowed in
      let leave = λ (seen : List NodeId). (leave_line ring v.joins seen).allowed in
      record {
        joins = each-all join (may_join ring) (λ seen x q. rw (lt-ltb x.0 (length ring.nodes) (is-node ring x q.1.0), (or_parts (is_member ring.nodes x) (has x.0 (numbers seen)) q.1.1.0).0) refl) [] v.joins p.1.0;
        leaves = each-all leave (may_leave ring) (λ seen x q. rw (lt-ltb x.0 (length ring.nodes) (is-node ring x q.1.0)) (not-false (is_member ring.nodes x) q.1.1.1.0)) [] v.leaves p.1.1.0;
        joins_differ = different-next join (λ seen x q. (or_parts (is_member ring.nodes x) (has x.0 (numbers seen)) q.1.1.0).1) [] v.joins refl p.1.0;
        leaves_differ = different-next leave (λ seen x q. (or_parts (has x.0 (numbers v.joins)) (has x.0 (numbers seen)) q.1.1.0).1) [] v.leaves refl p.1.1.0;
      }

  suits-parts : (v : Change) → IsChange ring v → (change_form ring).allowed v
  suits-parts v is =
      let differ = λ (l : List NodeId). all_different (numbers l) ≡ true in
      let joins = all-each (λ seen. (join_line ring seen).allowed) (may_join ring) differ
      (λ seen x xs m d. let n = and_parts (nat_lt x.0 (length ring.nodes)) (not (is_member ring.nodes x)) m in (tt, (has-name ring x n.0, (or_from (is_member ring.nodes x) (has x.0 (numbers seen)) (not-true (is_member ring.nodes x) n.1) (new-there seen x xs d), tt))))
      [] v.joins is.joins is.joins_differ in
      let leaves = all-each (λ seen. (leave_line ring v.joins seen).allowed) (may_leave ring) differ
      (λ seen x xs m d. let n = and_parts (nat_lt x.0 (length ring.nodes)) (is_member ring.nodes x) m in (tt, (has-name ring x n.0, (or_from (has x.0 (numbers v.joins)) (has x.0 (numbers seen)) (stays-out ring x v.joins n.1 is.joins) (new-there seen x xs d), (ap not n.1, tt)))))
      [] v.leaves is.leaves is.leaves_differ in
      (tt, (joins, (leaves, tt)))

  -- what the code keeps of a line
  small-by : (x : NodeId) → x.0 < length (names_of ring) → x.0 < 1024
  small-by x lt = (let few = valid.nodes in let is = is-node ring x lt in omega arith)

  pub join-small : (seen : List NodeId) (k : ℕ) (fields : List (List ℕ)) (r : Result NodeId Refusal) → r ≡ join_at ring seen k fields → IfOk r (λ x. x.0 < 1024)
  unfolding join_at joining_at
  join-small seen k fields (Ok v) e = small-by v (((join_line ring seen).exact valid k).takes fields v (sym e)).1.1.0
  join-small seen k fields (Err f) e = tt

  pub leave-small : (joins seen : List NodeId) (k : ℕ) (fields : List (List ℕ)) (r : Result NodeId Refusal) → r ≡ leave_at ring joins seen k fields → IfOk r (λ x. x.0 < 1024)
  unfolding leave_at leaving_at
  leave-small joins seen k fields (Ok v) e = small-by v (((leave_line ring joins seen).exact valid k).takes fields v (sym e)).1.1.0
  leave-small joins seen k fields (Err f) e = tt

pub read-found : (ring : RingValue) (text : List ℕ) (v : Change) → IsRing ring → change_reading ring text ≡ Ok v → IsChange ring v × (text ≡ change_text ring v)
unfolding change_at join_at leave_at joining_at leaving_at
read-found ring text v r e = (let h = text-found (change_form ring) r text v e in (parts-suit ring r v h.0, h.1))

pub read-only : (ring : RingValue) (text : List ℕ) (v : Change) → IsRing ring → IsChange ring v → text ≡ change_text ring v → change_reading ring text ≡ Ok v
unfolding change_at join_at leave_at joining_at leaving_at
read-only ring text v r is e = text-given (change_form ring) r text v (suits-parts ring r v is) e

pub section-found : (ring : RingValue) (s : Left) → IsRing ring → (v : Change) (t : Left) → change_at ring s ≡ Ok (v, t) → IsChange ring v
unfolding change_at join_at leave_at joining_at leaving_at
section-found ring s r v t e = parts-suit ring r v ((change-part ring r).takes s t v (some-first change_of (header_at (codes "change") (codes "1")) (λ _. (body_form ring).read) s t v e) e).1
