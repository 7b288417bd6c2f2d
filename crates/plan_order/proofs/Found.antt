-- The first bad path, where each number below that of all paths is asked whether its path is bad.
use Rattle.std.proofs.Common.{◌≡◌, ℕ, suc, ◌+◌, Bool, true, false, not, List, [], ◌∷◌, Option, Some, None, length, refl, sym, ap, ◌∙◌, arith}
use Rattle.std.specs.Prelude.{slice_index_or, min, option_map}
use Rattle.std.specs.List.{AllZip, range_with_len}
use Rattle.rayon.specs.Lists.{first_true}
use Rattle.ring_names.specs.declared.refusal.Refusal.{Refusal}
use Rattle.ring_names.specs.declared.refusal.Refusal.TheVariants.{BadPath}
use Rattle.plan_text.specs.declared.step.Planned.{Planned}
use Rattle.plan_order.specs.Paths.{is_path, is_bad_at, first_bad}

-- the refusal of the path of that place, counted from k
abbrev at_place : ℕ → Option ℕ → Option Refusal
at_place k found = option_map (λ n. BadPath (min (k + n) 4294967295)) found

-- a place behind one path more
further : (k : ℕ) (found : Option ℕ) → at_place (k + 1) found ≡ at_place k (option_map (λ n. min (n + 1) 18446744073709551615) found)
further k None = refl
further k (Some n) =
    let e : min (k + 1 + n) 4294967295 ≡ min (k + min (n + 1) 18446744073709551615) 4294967295 = omega arith in
    ap (λ (m : ℕ). Some (BadPath m)) e

module _ (plan : List Planned) (test : ℕ → Bool) where
  -- the paths are those from number k on
  abbrev AsksFrom : ℕ → List (List ℕ) → Type 0
  AsksFrom k rest = (i : ℕ) → test (k + i) ≡ not (is_path plan (slice_index_or rest i []))

  later : (k : ℕ) (path : List ℕ) (rest : List (List ℕ)) → AsksFrom k (path ∷ rest) → AsksFrom (k + 1) rest
  later k path rest asks i = let e : k + 1 + i ≡ k + suc i = omega arith in rw e (asks (suc i))

  -- by what is asked of the first path, and then of the rest
  first_then : (path : List ℕ) (rest : List (List ℕ)) (k : ℕ) (bs : List Bool) (good c : Bool) → is_path plan path ≡ good → c ≡ not good
      → first_bad plan (k + 1) rest ≡ at_place (k + 1) (first_true bs) → first_bad plan k (path ∷ rest) ≡ at_place k (first_true (c ∷ bs))
  first_then path rest k bs true true is e later = absurd cc
  first_then path rest k bs true false is e later = rw is (later ∙ further k (first_true bs))
  first_then path rest k bs false true is e later =
      let here : min k 4294967295 ≡ min (k + 0) 4294967295 = omega arith in
      rw is (ap (λ (m : ℕ). Some (BadPath m)) here)
  first_then path rest k bs false false is e later = absurd cc

  asked : (rest : List (List ℕ)) (k : ℕ) (bs : List Bool) → AsksFrom k rest → AllZip (λ n b. b ≡ test n) (range_with_len k (length rest)) bs
      → first_bad plan k rest ≡ at_place k (first_true bs)
  asked [] k [] asks each = refl
  asked [] k (b ∷ bs) asks each = absurd each
  asked (path ∷ rest) k [] asks each = absurd each
  asked (path ∷ rest) k (b ∷ bs) asks each =
      let here : k + 0 ≡ k = omega arith in
      let told = each.0 ∙ ap test (sym here) ∙ asks 0 in
      first_then path rest k bs (is_path plan path) b refl told (asked rest (k + 1) bs (later k path rest asks) each.1)

-- the answers of all numbers tell the first bad path
pub first_asked : (plan : List Planned) (paths : List (List ℕ)) (bs : List Bool) → AllZip (λ n b. b ≡ is_bad_at plan paths n) (range_with_len 0 (length paths)) bs
    → first_bad plan 0 paths ≡ option_map (λ n. BadPath (min n 4294967295)) (first_true bs)
first_asked plan paths bs each =
    let from : (found : Option ℕ) → at_place 0 found ≡ option_map (λ n. BadPath (min n 4294967295)) found = none_in_front in
    asked plan (is_bad_at plan paths) paths 0 bs (λ i. let e : 0 + i ≡ i = omega arith in rw e refl) each ∙ from (first_true bs)
  where
    none_in_front : (found : Option ℕ) → at_place 0 found ≡ option_map (λ n. BadPath (min n 4294967295)) found
    none_in_front None = refl
    none_in_front (Some n) = let e : min (0 + n) 4294967295 ≡ min n 4294967295 = omega arith in ap (λ (m : ℕ). Some (BadPath m)) e
