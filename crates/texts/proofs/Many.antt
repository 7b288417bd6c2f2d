-- Lines that begin alike are read only if they are spelled so.
use Rattle.std.proofs.Common.{◌≡◌, ℕ, Bool, true, false, cond, List, [], ◌∷◌, ◌++◌, map, Result, Ok, Err, refl, sym, ap, subst, ◌∙◌, append_assoc}
use Rattle.std.proofs.lemmas.List.{append-nil}
use Rattle.ring_names.specs.declared.refusal.Refusal.{Refusal}
use Rattle.ring_names.specs.declared.refusal.Refusal.TheVariants.{BadLine}
use Rattle.texts.specs.Left.{Left, ◌>>=◌, next_number, first_line, begins_so, many_from}
use Rattle.texts.specs.Laws.{IsLine, IsPart, SomeLeft, EachNext, BeginsOther}
use Rattle.texts.proofs.Items.{ok_is, bind_ok, first_is, some_lines}

pub other-any : (test : List ℕ → Bool) (line : List (List ℕ)) (more : List (List (List ℕ))) → BeginsOther test line → begins_so test (line ∷ more) ≡ false
other-any test [] more h = refl
other-any test (f ∷ fs) more h = h

pub tail_is : (a b : List (List ℕ)) (xs ys : List (List (List ℕ))) → a ∷ xs ≡ b ∷ ys → xs ≡ ys
tail_is a b xs ys h = cc

first-ok : (k : ℕ) (l : List (List ℕ)) (rest : List (List (List ℕ))) (z : List (List ℕ)) (zs : List (List (List ℕ))) → rest ≡ z ∷ zs → first_line k (l ∷ rest) ≡ Ok (l, record { line = next_number k; lines = rest })
first-ok k l rest z zs e = rw e refl

record Found {A : Type 0} (spell : A → List (List ℕ)) (P : List A → A → Type 0) (seen xs : List A) (lines : List (List (List ℕ))) (t : Left) : Type 0 where
  pub items : List A
  pub all : xs ≡ seen ++ items
  pub parts : lines ≡ map spell items ++ t.lines
  pub next : EachNext P seen items
  pub some : SomeLeft t

-- line by line: where `goes` says so the next is read, and then those after it
abbrev pub Steps : {S A : Type 0} → (List (List (List ℕ)) → Bool) → (S → ℕ → List (List ℕ) → Result A Refusal) → (S → A → S)
    → (S → ℕ → List (List (List ℕ)) → Result (S × Left) Refusal) → Type 0
Steps {S} goes read push loop = (seen : S) (k : ℕ) (line : List (List ℕ)) (more : List (List (List ℕ)))
    → loop seen k (line ∷ more) ≡ cond (goes (line ∷ more))
    (first_line k (line ∷ more) >>= λ _. read seen k line >>= λ x. loop (push seen x) (next_number k) more)
    (Ok (seen, record { line = k; lines = line ∷ more }))

-- with one more
abbrev pub pushed : {A : Type 0} → List A → A → List A
pushed seen x = seen ++ x ∷ []

module _ {A : Type 0} (goes : List (List (List ℕ)) → Bool) (read : List A → ℕ → List (List ℕ) → Result A Refusal)
    (loop : List A → ℕ → List (List (List ℕ)) → Result (List A × Left) Refusal) (steps : Steps goes read pushed loop)
    (spell : A → List (List ℕ)) (P : List A → A → Type 0) (line-law : (seen : List A) (k : ℕ) → IsLine (read seen k) spell (P seen))
    (begins : (seen : List A) (x : A) (more : List (List (List ℕ))) → P seen x → goes (spell x ∷ more) ≡ true)
    (C : List (List ℕ) → Type 0) (ends : (line : List (List ℕ)) (more : List (List (List ℕ))) → C line → goes (line ∷ more) ≡ false) where
  found-by : (b : Bool) (seen xs : List A) (k : ℕ) (line : List (List ℕ)) (more : List (List (List ℕ))) (t : Left)
      → ((ys : List A) (u : Left) → loop ys (next_number k) more ≡ Ok (xs, u) → (x : List (List ℕ)) × (zs : List (List (List ℕ))) × (more ≡ x ∷ zs)
      → Found spell P ys xs more u)
      → ◌≡◌ {A = Result (List A × Left) Refusal} (cond b
      (first_line k (line ∷ more) >>= λ _. read seen k line >>= λ x. loop (seen ++ x ∷ []) (next_number k) more)
      (Ok (seen, record { line = k; lines = line ∷ more }))) (Ok (xs, t))
      → Found spell P seen xs (line ∷ more) t
  found-by false seen xs k line more t later e =
      let G : List A × Left → Type 0 = λ w. Found spell P seen w.0 (line ∷ more) w.1 in
      let start : G (seen, record { line = k; lines = line ∷ more }) = record { items = []; all = sym (append-nil seen); parts = refl; next = tt; some = (line, more, refl) } in
      subst G (ok_is _ (xs, t) e) start
  found-by true seen xs k line more t later e =
      let b = bind_ok (first_line k (line ∷ more)) (λ _. read seen k line >>= λ x. loop (seen ++ x ∷ []) (next_number k) more) (xs, t) e in
      let c = bind_ok (read seen k line) (λ x. loop (seen ++ x ∷ []) (next_number k) more) (xs, t) b.2 in
      let f = first_is k (line ∷ more) b.0.0 b.0.1 b.1 in
      let law = (line-law seen k).takes line c.0 c.1 in
      let some : (x : List (List ℕ)) × (zs : List (List (List ℕ))) × (more ≡ x ∷ zs) = (f.1.0, f.1.1, tail_is line b.0.0 more b.0.1.lines f.0 ∙ f.1.2) in
      let rest = later (seen ++ c.0 ∷ []) t c.2 some in
      record {
        items = c.0 ∷ rest.items;
        all = rest.all ∙ append_assoc seen (c.0 ∷ []) rest.items;
        parts = ap (λ (l : List (List ℕ)). l ∷ more) law.0 ∙ ap (λ (m : List (List (List ℕ))). spell c.0 ∷ m) rest.parts;
        next = (law.1, rest.next);
        some = rest.some;
      }

  found : (seen xs : List A) (k : ℕ) (lines : List (List (List ℕ))) (t : Left) → (x : List (List ℕ)) × (zs : List (List (List ℕ))) × (lines ≡ x ∷ zs)
      → loop seen k lines ≡ Ok (xs, t) → Found spell P seen xs lines t
  found seen xs k [] t some e = absurd cc
  found seen xs k (line ∷ more) t some e = found-by (goes (line ∷ more)) seen xs k line more t (λ ys u h s. found ys xs (next_number k) more u s h)
      (sym (steps seen k line more) ∙ e)

  given : (ys seen : List A) (k : ℕ) (x : List (List ℕ)) (xs : List (List (List ℕ))) → EachNext P seen ys → C x
      → (m : ℕ) × (loop seen k (map spell ys ++ x ∷ xs) ≡ Ok (seen ++ ys, record { line = m; lines = x ∷ xs }))
  given [] seen k x xs next other = (k, steps seen k x xs ∙ rw (ends x xs other, append-nil seen) refl)
  given (y ∷ ys) seen k x xs next other =
      let rest = given ys (seen ++ y ∷ []) (next_number k) x xs next.1 other in
      let line = (line-law seen k).gives y next.0 in
      let sh = some_lines (map spell ys) x xs in
      let first = first-ok k (spell y) (map spell ys ++ x ∷ xs) sh.0 sh.1 sh.2 in
      let same = begins seen y (map spell ys ++ x ∷ xs) next.0 in (
        rest.0,
        steps seen k (spell y) (map spell ys ++ x ∷ xs)
            ∙ rw (same, first, line) (rest.1 ∙ ap (λ (z : List A). Ok (z, record { line = rest.0; lines = x ∷ xs })) (append_assoc seen (y ∷ []) ys)),
      )

  pub loop-part : IsPart C (λ s. loop [] s.line s.lines) (λ xs. map spell xs) (EachNext P [])
  loop-part = record { takes = take; gives = λ k v x xs p other. given v [] k x xs p other }
    where
      take : (a z : Left) (v : List A) → SomeLeft a → loop [] a.line a.lines ≡ Ok (v, z) → (a.lines ≡ map spell v ++ z.lines) × EachNext P [] v × SomeLeft z
      take a z v some e =
          let f = found [] v a.line a.lines z some e in
          let all : v ≡ f.items = f.all in
          (rw all f.parts, rw all f.next, f.some)

-- a line that is taken, and those after it
module _ {S A : Type 0} (goes : List (List (List ℕ)) → Bool) (read : S → ℕ → List (List ℕ) → Result A Refusal) (push : S → A → S)
    (loop : S → ℕ → List (List (List ℕ)) → Result (S × Left) Refusal) (steps : Steps goes read push loop)
    (none : (seen : S) (k : ℕ) → goes [] ≡ true → loop seen k [] ≡ Err (BadLine k)) where
  pub loop-step : (seen : S) (k : ℕ) (lines : List (List (List ℕ))) → goes lines ≡ true
      → loop seen k lines ≡ (first_line k lines >>= λ x. read seen k x.0 >>= λ y. loop (push seen y) x.1.line x.1.lines)
  loop-step seen k [] e = none seen k e
  loop-step seen k (line ∷ []) e = steps seen k line [] ∙ rw e refl
  loop-step seen k (line ∷ next ∷ more) e = steps seen k line (next ∷ more) ∙ rw e refl

pub many-step : {A : Type 0} (test : List ℕ → Bool) (read : List A → ℕ → List (List ℕ) → Result A Refusal) (seen : List A) (k : ℕ) (lines : List (List (List ℕ))) → begins_so test lines ≡ true
    → many_from test read seen k lines ≡ (first_line k lines >>= λ x. read seen k x.0 >>= λ y. many_from test read (seen ++ y ∷ []) x.1.line x.1.lines)
many-step test read = loop-step (begins_so test) read pushed (many_from test read) (λ seen k line more. refl) (λ seen k e. absurd cc)
