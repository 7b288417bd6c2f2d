-- A certificate over a ring as one form: what is read, how it is spelled and what is allowed.
use Rattle.std.proofs.Common.{◌≡◌, true, false, not, nat_lt, nat_le, List, [], ◌∷◌, length, codes, Ok, ℕ, refl, rules, is_some, ◌==◌}
use Rattle.std.proofs.Math.Bool.{and-false}
use Rattle.std.proofs.lemmas.Bool.{ne_eqb, not-false}
use Rattle.texts.proofs.Forms.{IsPlain, Any, Always, Last, BeginsOther, is_word, some_lines, Form, LineForm, Section, both, word, room, one_of, either-plain, row, judged, line, many, then, made, header, ending, BadLine, TooLarge}
use Rattle.texts.proofs.Forms.{are_small}
use Rattle.plan_cert.proofs.Terms.{NodeSide, Side, Both, Take, Give, RingValue, names_of, allowance_of, IsRing, Chain, Cert, chain_of, side_of, fact_fields, side_word, chain_fields, cert_format, begins_chain, cert_of}
use Rattle.ring_table.proofs.NodesLaws.{joint-side, node_form}
use Rattle.plan_cert.specs.Reading.{judge_side}

pub words-plain : IsPlain (codes "cert") × IsPlain (codes "fact") × IsPlain (codes "chain") × IsPlain (codes "take") × IsPlain (codes "give") × IsPlain (codes "1") × IsPlain (codes "2")
words-plain = (search rules)

pub side-read : (k : ℕ) (v : Side) → judge_side k (side_word v) ≡ Ok v
side-read k Both = refl
side-read k Take = refl
side-read k Give = refl

-- a chain of a ring begins as one
pub begins-by : (ring : RingValue) → IsRing ring → (x : ℕ) (side : Side) → is_some (allowance_of ring x side) ≡ true → begins_chain ring (side_word side) ≡ true
begins-by ring r x Both e = refl
begins-by ring r x Take e = (let two = ne_eqb ring.format 1 (λ one. (let same = joint-side ring r one x Take e in absurd cc)) in rw two refl)
begins-by ring r x Give e = (let two = ne_eqb ring.format 1 (λ one. (let same = joint-side ring r one x Give e in absurd cc)) in rw two refl)

side-other : (side : Side) → is_word (codes "fact") (side_word side) ≡ false
side-other Both = refl
side-other Take = refl
side-other Give = refl

abbrev pub fact_line : {W : Type 0} (seen : List (List ℕ)) → LineForm W (List ℕ)
fact_line seen = line Last refl (λ x. x.1) (λ xs. ((tt {0}, tt {0}), xs)) (λ x. refl) (λ y. refl) (both Last (both Always (room (nat_lt (length seen) 262144)) (word (codes "fact") words-plain.1))
    (row (λ k xs. (not (nat_le 2 (length xs)), BadLine k) ∷ (not (nat_le (length xs) 1024), TooLarge k) ∷ (not (are_small xs), TooLarge k) ∷ [])
    (λ k m xs p. p) (λ w xs p. not-false (are_small xs) p.1.1.0) (λ k xs. (refl, (refl, (refl, tt)))))) (λ v. refl)

abbrev pub facts_form : {W : Type 0} → Section W (BeginsOther (is_word (codes "fact"))) (List (List ℕ))
facts_form = many (is_word (codes "fact")) fact_fields fact_line (λ seen v. refl) (λ w seen x more p. refl)

module _ (ring : RingValue) where
  abbrev side_form : Form (IsRing ring) Always Side
  side_form = one_of side_word ((codes "chain", Both) ∷ (codes "take", Take) ∷ (codes "give", Give) ∷ []) ((refl, words-plain.2), ((refl, words-plain.3), ((refl, words-plain.4), tt))) side-read

  abbrev node_side_form : Form (IsRing ring) Always NodeSide
  node_side_form = judged Always (λ k x. (not (is_some (allowance_of ring x.1.0 x.0)), BadLine k) ∷ []) (λ k m x p. p) (λ x. record { node = x.1; side = x.0 }) (λ y. (y.side, y.node)) (λ x. refl) (λ y. refl)
      (both Always side_form (node_form ring)) (λ k x. (refl, tt))

  abbrev pub chain_line : (seen : List Chain) → LineForm (IsRing ring) Chain
  chain_line seen = line Last refl (λ x. chain_of x.0.1 x.1) (λ c. ((tt {0}, side_of c), c.steps)) (λ x. refl) (λ y. refl) (both Last (both Always (room (nat_lt (length seen) 65536)) node_side_form)
      (row (λ k xs. (not (nat_le 1 (length xs)), BadLine k) ∷ (not (are_small xs), TooLarge k) ∷ [])
      (λ k m xs p. p) (λ w xs p. not-false (are_small xs) p.1.0) (λ k xs. (refl, (refl, tt))))) (λ v. refl)

  abbrev pub chains_form : Section (IsRing ring) (BeginsOther (begins_chain ring)) (List Chain)
  chains_form = many (begins_chain ring) (chain_fields (names_of ring)) chain_line (λ seen v. refl) (λ r seen x more p. begins-by ring r x.node.0 x.side (not-false _ p.0.1.1.0))

  abbrev pub tail_form : Section (IsRing ring) Any (List Chain × Unit {0})
  tail_form = then (BeginsOther (begins_chain ring)) Any chains_form (λ _. ending) (λ r x y l ls p q d. and-false (not (ring.format == 1)))

  pub no-fact : (t : List Chain × Unit {0}) (x : List (List ℕ)) (xs : List (List (List ℕ))) → BeginsOther (is_word (codes "fact")) (some_lines (tail_form.spell t) x xs).0
  no-fact ([], e) x xs = refl
  no-fact (c ∷ cs, e) x xs = side-other c.side

  abbrev pub body_form : Section (IsRing ring) Any (List (List ℕ) × (List Chain × Unit {0}))
  body_form = then (BeginsOther (is_word (codes "fact"))) Any facts_form (λ _. tail_form) (λ r x y l ls p q d. no-fact y l ls)

  abbrev pub cert_form : Section (IsRing ring) Any Cert
  cert_form = made Any cert_of (λ v. (tt, (v.facts, (v.chains, tt)))) (λ x. refl) (λ y. refl) (then Any Any (header (codes "cert") (cert_format ring) words-plain.0 (either-plain (ring.format == 1) (codes "1") (codes "2") words-plain.5 words-plain.6)) (λ _. body_form) (λ r x y l ls p q d. tt))
