-- What every event leaves true of finished steps and of copies.
use Rattle.std.proofs.Common.{◌≡◌, inl, inr, ℕ, ◌<◌, Bool, true, false, not, List, [], ◌∷◌, length, refl, sym, subst, arith, eqb-true}
use Rattle.std.specs.Prelude.{◌&&◌, ◌==◌, Option, Some, None, is_some, option_and_then}
use Rattle.std.proofs.lemmas.Bool.Decides.{eqb_tells}
use Rattle.ring_names.specs.Lists.{has}
use Rattle.std.proofs.lemmas.Bool.{and_parts, not-true, or_right, or_cases}
use Rattle.plan_text.specs.declared.step.Step.{Step}
use Rattle.plan_text.specs.declared.step.Planned.{Planned}
use Rattle.plan_text.specs.Steps.{copy_of, depends}
use Rattle.plan_stage.specs.Each.{step_at}
use Rattle.plan_runs.specs.World.{passing_below}
use Rattle.plan_runs.specs.Guards.{has_copy, has_other}
use Rattle.plan_runs.specs.Effects.{with_number, without_number, with_mark}
use Rattle.plan_runs.specs.Reached.{Ready, Closed, CopiesFit}
use Rattle.plan_runs.proofs.Passing.{is_below}
use Rattle.plan_runs.proofs.Prefix.{passed}

-- ---- tests

pub still_passes : (D : ℕ → Bool) (n m : ℕ) → D m ≡ true → with_number D n m ≡ true
still_passes D n m e = or_right (m == n) (D m) e

pub still_off : (D : ℕ → Bool) (n m : ℕ) → (m == n) ≡ false → D m ≡ false → with_number D n m ≡ false
still_off D n m e f = rw (e, f) refl

pub without_was : (D : ℕ → Bool) (n m : ℕ) → without_number D n m ≡ true → D m ≡ true
without_was D n m e = (and_parts (not (m == n)) (D m) e).1

without_is : (D : ℕ → Bool) (n m : ℕ) → without_number D n m ≡ true → (m == n) ≡ false
without_is D n m e = not-true (m == n) (and_parts (not (m == n)) (D m) e).0

copy_or_not : (o : Option Step) → (elim o [ Some s ↦ not (is_some (copy_of s)) | None ↦ false ]) ≡ true → is_some (option_and_then copy_of o) ≡ false
copy_or_not None h = absurd cc
copy_or_not (Some s) h = not-true (is_some (copy_of s)) h

pub other_is_no_copy : (plan : List Planned) (n : ℕ) → has_other plan n ≡ true → has_copy plan n ≡ false
other_is_no_copy plan n h = copy_or_not (step_at plan n) h

-- ---- finished steps

pub closed_with : (plan : List Planned) (D : ℕ → Bool) (n : ℕ) → Closed plan D → Ready plan D n → Closed plan (with_number D n)
closed_with plan D n c y a m e d = elim (passed D n m e) [
  | inl f ↦ still_passes D n a (y a (subst (λ k. depends plan a k ≡ true) f d))
  | inr f ↦ still_passes D n a (c a m f d)
]

pub ready_with : (plan : List Planned) (D : ℕ → Bool) (n m : ℕ) → Ready plan D m → Ready plan (with_number D n) m
ready_with plan D n m y a d = still_passes D n a (y a d)

-- ---- copies

apart : (plan : List Planned) (n m : ℕ) → has_copy plan m ≡ true → has_copy plan n ≡ false → (m == n) ≡ false
apart plan n m h g = elim (eqb_tells m n) [
  | inl t ↦ absurd (let f = subst (λ z. has_copy plan z ≡ true) t.1 h in cc)
  | inr t ↦ t.0
]

-- a step that is not a copy is done
pub do_copies : (plan : List Planned) (D o : ℕ → Bool) (m : ℕ → ℕ → Bool) (n : ℕ) → CopiesFit plan D o m → has_copy plan n ≡ false → CopiesFit plan (with_number D n) o m
do_copies plan D o m n i none = record {
  copies = i.copies;
  ready = λ k e. ready_with plan D n k (i.ready k e);
  unfinished = λ k e. still_off D n k (apart plan n k (i.copies k e) none) (i.unfinished k e);
  marks = λ k c e. (let r = i.marks k c e in (r.0, r.1, ready_with plan D n k r.2));
  copied = λ k c h e l. elim (passed D n k e) [
    | inl f ↦ absurd (let g = subst (λ z. has_copy plan z ≡ true) f h in cc)
    | inr f ↦ i.copied k c h f l
  ];
}

pub open_copies_fit : (plan : List Planned) (D o : ℕ → Bool) (m : ℕ → ℕ → Bool) (n : ℕ) → CopiesFit plan D o m → has_copy plan n ≡ true → Ready plan D n → D n ≡ false → CopiesFit plan D (with_number o n) m
open_copies_fit plan D o m n i copy y off = record {
  copies = λ k e. elim (passed o n k e) [ inl f ↦ subst (λ z. has_copy plan z ≡ true) (sym f) copy | inr f ↦ i.copies k f ];
  ready = λ k e. elim (passed o n k e) [ inl f ↦ subst (λ z. Ready plan D z) (sym f) y | inr f ↦ i.ready k f ];
  unfinished = λ k e. elim (passed o n k e) [ inl f ↦ subst (λ z. D z ≡ false) (sym f) off | inr f ↦ i.unfinished k f ];
  marks = i.marks;
  copied = i.copied;
}

pub chunk_copies : (plan : List Planned) (D o : ℕ → Bool) (m : ℕ → ℕ → Bool) (n c : ℕ) → CopiesFit plan D o m → o n ≡ true → c < 16 → CopiesFit plan D o (with_mark m n c)
chunk_copies plan D o m n c i opened less = record {
  copies = i.copies;
  ready = i.ready;
  unfinished = i.unfinished;
  marks = λ k d e. elim (or_cases ((k == n) && (d == c)) (m k d) e) [
    | inl f ↦ (
        let b = and_parts (k == n) (d == c) f in
        let same = eqb-true k n b.0 in
        let chunk = eqb-true d c b.1 in
        (subst (λ z. has_copy plan z ≡ true) (sym same) (i.copies n opened), omega arith, subst (λ z. Ready plan D z) (sym same) (i.ready n opened)))
    | inr f ↦ i.marks k d f
  ];
  copied = λ k d h e l. or_right ((k == n) && (d == c)) (m k d) (i.copied k d h e l);
}

-- no number below n passes
some_member : (c : ℕ) (xs : List ℕ) → has c xs ≡ true → 0 < length xs
some_member c [] h = absurd cc
some_member c (x ∷ xs) h = omega arith

pub none_left : (n : ℕ) (test : ℕ → Bool) → (length (passing_below n (λ c. not (test c))) == 0) ≡ true → (c : ℕ) → c < n → test c ≡ true
none_left n test h c l = by (test c) refl
  where
    by : (b : Bool) → test c ≡ b → b ≡ true
    by true e = refl
    by false e = absurd (
        let s = some_member c (passing_below n (λ c. not (test c))) (is_below n (λ c. not (test c)) c l (rw e refl)) in
        let z = eqb-true (length (passing_below n (λ c. not (test c)))) 0 h in
        omega arith)

pub close_copies : (plan : List Planned) (D o : ℕ → Bool) (m : ℕ → ℕ → Bool) (n : ℕ) → CopiesFit plan D o m → ((c : ℕ) → c < 16 → m n c ≡ true) → CopiesFit plan (with_number D n) (without_number o n) m
close_copies plan D o m n i all = record {
  copies = λ k e. i.copies k (without_was o n k e);
  ready = λ k e. ready_with plan D n k (i.ready k (without_was o n k e));
  unfinished = λ k e. still_off D n k (without_is o n k e) (i.unfinished k (without_was o n k e));
  marks = λ k c e. (let r = i.marks k c e in (r.0, r.1, ready_with plan D n k r.2));
  copied = λ k c h e l. elim (passed D n k e) [
    | inl f ↦ subst (λ z. m z c ≡ true) (sym f) (all c l)
    | inr f ↦ i.copied k c h f l
  ];
}

pub abort_copies : (plan : List Planned) (D o : ℕ → Bool) (m : ℕ → ℕ → Bool) (n : ℕ) → CopiesFit plan D o m → CopiesFit plan D (without_number o n) m
abort_copies plan D o m n i = record {
  copies = λ k e. i.copies k (without_was o n k e);
  ready = λ k e. i.ready k (without_was o n k e);
  unfinished = λ k e. i.unfinished k (without_was o n k e);
  marks = i.marks;
  copied = i.copied;
}
