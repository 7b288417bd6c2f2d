-- What a plainly spelled fact or chain is, part by part.
use Rattle.std.proofs.Common.{◌≡◌, ℕ, suc, ◌<◌, Bool, true, List, [], ◌∷◌, ◌++◌, length, get_or, map, codes, Some, Ok, Result, refl, sym, ap, ◌∙◌, append_assoc, arith}
use Rattle.std.specs.Fmt.{decimal}
use Rattle.std.proofs.lemmas.Bool.{lt-ltb, not-false}
use Rattle.ring_names.specs.declared.refusal.Refusal.{Refusal}
use Rattle.ring_names.proofs.Places.{get-place}
use Rattle.texts.specs.Parts.{lines_of, line_text, spaced}
use Rattle.texts.specs.Laws.{IsPlainLine}
use Rattle.texts.specs.Left.{begins_so, is_word, next_number, many_from}
use Rattle.texts.specs.Numbers.{are_small}
use Rattle.texts.proofs.Cuts.{some_line}
use Rattle.texts.proofs.Spaced.{line-written}
use Rattle.texts.proofs.Texts.{lines-cut}
use Rattle.ring_table.proofs.Terms.{place, NodeId, name_at}
use Rattle.plan_cert.proofs.Terms.{RingValue, names_of, IsRing, Chain, fact_fields, chain_fields, begins_chain}
use Rattle.plan_cert.specs.Valid.{IsNextFact, IsNextChain}
use Rattle.plan_cert.specs.Reading.{path_at, steps_at, node_side_at, fact_at, chain_at}
use Rattle.plan_cert.proofs.CertForm.{fact_line, chain_line, begins-by}
use Rattle.plan_cert.proofs.CertLaws.{fact-fits, chain-fits}

-- numbers that are each a `u32`
pub small-each : (xs : List ℕ) → ((k : ℕ) → k < length xs → get_or xs k 0 < 4294967296) → are_small xs ≡ true
small-each [] h = refl
small-each (x ∷ xs) h = rw (lt-ltb x 4294967296 (h 0 (omega arith)), small-each xs (λ k lt. h (suc k) (omega arith))) refl

-- a whole line, of its parts
pub line-front : (w : List ℕ) (fs : List (List ℕ)) (text r t rest : List ℕ) → text ≡ w ++ r → r ≡ spaced fs ++ t → t ≡ codes "\n" ++ rest
    → text ≡ line_text (w ∷ fs) ++ rest
line-front w fs text r t rest e f g =
    e ∙ rw (f, g) (simp append_assoc) ∙ ap (λ (u : List ℕ). u ++ rest) (line-written [] w (w ++ spaced fs) ((w ++ spaced fs) ++ 10 ∷ []) w fs refl refl refl)

-- a name and numbers, after a space
pub name-front : (names : List (List ℕ)) (x : NodeId) (r s t name : List ℕ) (steps : List ℕ) → r ≡ name ++ s → s ≡ spaced (map decimal steps) ++ t
    → Some x.0 ≡ place names name → 32 ∷ r ≡ spaced (name_at names x ∷ map decimal steps) ++ t
name-front names x r s t name steps e f n =
    let same : name_at names x ≡ name = rw (get-place names x.0 name (sym n), name_at) refl in
    rw (e, f, same) (ap (λ (u : List ℕ). 32 ∷ u) (sym (append_assoc name (spaced (map decimal steps)) t)))

module _ {A : Type 0} (test : List ℕ → Bool) (read : List A → ℕ → List (List ℕ) → Result A Refusal) where
  -- reading goes on after a line that says an item
  many-on : (seen : List A) (k : ℕ) (x : A) (line y : List (List ℕ)) (ys : List (List (List ℕ))) → begins_so test (line ∷ y ∷ ys) ≡ true → read seen k line ≡ Ok x
      → many_from test read (seen ++ x ∷ []) (next_number k) (y ∷ ys) ≡ many_from test read seen k (line ∷ y ∷ ys)
  many-on seen k x line y ys b e = rw (b, e) refl

  -- reading a text that begins with a plainly spelled item
  pub many-taken : (seen : List A) (k : ℕ) (x : A) (line : List (List ℕ)) (text rest : List ℕ) → IsPlainLine line
      → ((more : List (List (List ℕ))) → begins_so test (line ∷ more) ≡ true) → read seen k line ≡ Ok x → text ≡ line_text line ++ rest
      → many_from test read (seen ++ x ∷ []) (next_number k) (lines_of rest) ≡ many_from test read seen k (lines_of text)
  many-taken seen k x line text rest plain begins e f =
      let cut : lines_of text ≡ line ∷ lines_of rest = ap lines_of f ∙ lines-cut line rest plain in
      let more = some_line rest in
      ap (λ (l : List (List (List ℕ))). many_from test read (seen ++ x ∷ []) (next_number k) l) more.2 ∙ many-on seen k x line more.0 more.1 (begins (more.0 ∷ more.1)) e
      ∙ ap (λ (l : List (List (List ℕ))). many_from test read seen k (line ∷ l)) (sym more.2) ∙ ap (λ (l : List (List (List ℕ))). many_from test read seen k l) (sym cut)

pub facts-taken : (seen : List (List ℕ)) (k : ℕ) (x : List ℕ) (text rest : List ℕ) → IsNextFact seen x → text ≡ line_text (fact_fields x) ++ rest
    → many_from (is_word (codes "fact")) fact_at (seen ++ x ∷ []) (next_number k) (lines_of rest) ≡ many_from (is_word (codes "fact")) fact_at seen k (lines_of text)
unfolding fact_at path_at
facts-taken seen k x text rest n e =
    let form = fact_line {W = Unit {0}} seen in
    let fits = fact-fits (Unit {0}) seen x n in
    many-taken (is_word (codes "fact")) fact_at seen k x (fact_fields x) text rest (form.plain tt x fits) (λ more. refl) ((form.exact tt k).gives x fits) e

pub chains-taken : (ring : RingValue) → IsRing ring → (seen : List Chain) (k : ℕ) (x : Chain) (text rest : List ℕ) → IsNextChain ring seen x
    → text ≡ line_text (chain_fields (names_of ring) x) ++ rest
    → many_from (begins_chain ring) (chain_at ring) (seen ++ x ∷ []) (next_number k) (lines_of rest) ≡ many_from (begins_chain ring) (chain_at ring) seen k (lines_of text)
unfolding chain_at steps_at node_side_at
chains-taken ring valid seen k x text rest n e =
    let form = chain_line ring seen in
    let fits = chain-fits ring valid seen x n in
    many-taken (begins_chain ring) (chain_at ring) seen k x (chain_fields (names_of ring) x) text rest (form.plain valid x fits)
    (λ more. begins-by ring valid x.node.0 x.side (not-false _ fits.0.1.1.0)) ((form.exact valid k).gives x fits) e
