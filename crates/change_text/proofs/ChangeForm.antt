-- A change of a ring as one form: what is read, how it is spelled and what is allowed.
use Rattle.std.proofs.Common.{ℕ, Bool, not, ◌||◌, List, [], ◌∷◌, codes, refl, rules}
use Rattle.ring_table.proofs.Terms.{has, NodeId, RingValue, names_of, is_member, IsRing}
use Rattle.texts.proofs.Forms.{IsPlain, Any, Always, BeginsOther, is_word, some_lines, LineForm, Section, both, word, judged, line, many, then, made, header, ending, Refusal, Repeated, NotMember, Passes, AllAt}
use Rattle.ring_table.proofs.NodesLaws.{node_form}
use Rattle.change_text.specs.declared.change.Change.{Change}
use Rattle.change_text.specs.Spelling.{node_fields}
use Rattle.change_text.specs.Reading.{change_of}
use Rattle.change_text.proofs.Different.{numbers}

pub words-plain : IsPlain (codes "change") × IsPlain (codes "1") × IsPlain (codes "join") × IsPlain (codes "leave")
words-plain = (search rules)

module _ (ring : RingValue) where
  -- a word and a node, unless one of the tests is so
  abbrev node_line : (w : List ℕ) → IsPlain w → (tests : ℕ → NodeId → List (Bool × Refusal)) → ((k m : ℕ) (x : NodeId) → Passes (tests k x) → Passes (tests m x)) → ((k : ℕ) (x : NodeId) → AllAt k (tests k x)) → LineForm (IsRing ring) NodeId
  node_line w p tests same at = line Always tt (λ x. x.1) (λ v. (tt {0}, v)) (λ x. refl) (λ y. refl) (both Always (word w p) (judged Always tests same (λ x. x) (λ y. y) (λ x. refl) (λ y. refl) (node_form ring) at)) (λ v. refl)

  abbrev pub join_line : List NodeId → LineForm (IsRing ring) NodeId
  join_line seen = node_line (codes "join") words-plain.2 (λ k x. (is_member ring.nodes x || has x.0 (numbers seen), Repeated k) ∷ []) (λ k m x p. p) (λ k x. (refl, tt))

  abbrev pub leave_line : List NodeId → List NodeId → LineForm (IsRing ring) NodeId
  leave_line joins seen = node_line (codes "leave") words-plain.3 (λ k x. (has x.0 (numbers joins) || has x.0 (numbers seen), Repeated k) ∷ (not (is_member ring.nodes x), NotMember k) ∷ []) (λ k m x p. p) (λ k x. (refl, (refl, tt)))

  abbrev pub joins_form : Section (IsRing ring) (BeginsOther (is_word (codes "join"))) (List NodeId)
  joins_form = many (is_word (codes "join")) (node_fields (codes "join") (names_of ring)) join_line (λ seen v. refl) (λ r seen x more p. refl)

  abbrev pub leaves_form : List NodeId → Section (IsRing ring) (BeginsOther (is_word (codes "leave"))) (List NodeId)
  leaves_form joins = many (is_word (codes "leave")) (node_fields (codes "leave") (names_of ring)) (leave_line joins) (λ seen v. refl) (λ r seen x more p. refl)

  abbrev pub tail_form : List NodeId → Section (IsRing ring) Any (List NodeId × Unit {0})
  tail_form joins = then (BeginsOther (is_word (codes "leave"))) Any (leaves_form joins) (λ _. ending) (λ r x y l ls p q d. refl)

  pub no-join : (t : List NodeId × Unit {0}) (joins : List NodeId) (x : List (List ℕ)) (xs : List (List (List ℕ))) → BeginsOther (is_word (codes "join")) (some_lines ((tail_form joins).spell t) x xs).0
  no-join ([], e) joins x xs = refl
  no-join (y ∷ ys, e) joins x xs = refl

  abbrev pub body_form : Section (IsRing ring) Any (List NodeId × (List NodeId × Unit {0}))
  body_form = then (BeginsOther (is_word (codes "join"))) Any joins_form tail_form (λ r x y l ls p q d. no-join y x l ls)

  abbrev pub change_form : Section (IsRing ring) Any Change
  change_form = made Any change_of (λ v. (tt, (v.joins, (v.leaves, tt)))) (λ x. refl) (λ y. refl) (then Any Any (header (codes "change") (codes "1") words-plain.0 words-plain.1) (λ _. body_form) (λ r x y l ls p q d. tt))
