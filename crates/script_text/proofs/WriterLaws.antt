-- Names of writers that grow, each at its own number.
use Rattle.std.proofs.Common.{◌≡◌, ℕ, zero, suc, ◌<◌, Bool, true, false, cond, List, [], ◌∷◌, ◌++◌, length, Option, Some, None, refl, sym, ap, ◌∙◌, arith, length-append, inl, inr, slice_get, option_map, bytes_eq}
use Rattle.std.specs.List.{list_all}
use Rattle.std.proofs.lemmas.Bool.{cases_lt, and_parts, and_from}
use Rattle.std.proofs.lemmas.List.Folds.{list_all-append}
use Rattle.std.proofs.lemmas.Option.{slice_get_within}
use Rattle.script_text.proofs.Terms.{place, WriterId, place-get, get-place, AreNames, each_at, with_writer, names_after, SaidWriter, Known, New, SaidEvent, writer_at, AreWriters}
use Rattle.ring_names.proofs.Places.{place-push}
use Rattle.ring_names.proofs.InLists.{get_front, get_last, get_there}
use Rattle.texts.specs.Name.{is_name}
use Rattle.script_text.specs.declared.said.SaidEvent.TheVariants.{Put}
use Rattle.script_text.proofs.ScriptForm.{writer_at-is, IsPlaced, IsWriter, NamesWriter}

-- ---- names at their numbers

-- each of some names is a name
pub named-at : (names : List (List ℕ)) (i : ℕ) (name : List ℕ) → list_all is_name names ≡ true → slice_get names i ≡ Some name → is_name name ≡ true
named-at [] i name all e = absurd cc
named-at (x ∷ xs) zero name all e = let same : x ≡ name = cc in ap is_name (sym same) ∙ (and_parts (is_name x) (list_all is_name xs) all).0
named-at (x ∷ xs) (suc i) name all e = named-at xs i name (and_parts (is_name x) (list_all is_name xs) all).1 e

placed-at : (names : List (List ℕ)) (n : ℕ) (name : List ℕ) → slice_get names n ≡ Some name → is_name name ≡ true → place names name ≡ Some n → IsPlaced names n
placed-at names n name e is at = rw (writer_at-is names (record { 0 = n }) name e) (is, at)

-- each writer is at its number
pub writer-placed : (names : List (List ℕ)) (n : ℕ) → AreWriters names → n < length names → IsPlaced names n
writer-placed names n good lt = (let got = get_there names n lt in placed-at names n got.0 got.1 (named-at names n got.0 good.names got.1) (good.different n got.0 got.1))

-- and each node
pub node-placed : (names : List (List ℕ)) (n : ℕ) → AreNames names → n < length names → IsPlaced names n
node-placed names n good lt = (let got = get_there names n lt in placed-at names n got.0 got.1 (each_at (λ x. is_name x ≡ true) names n got.0 good.each got.1) (place-get names n got.0 good.new got.1))

-- ---- the places of names that grow

-- a place after one more name, where other names after it change none
place-step : (b : Bool) (o p : Option ℕ) (n : ℕ) → ((m : ℕ) → o ≡ Some m → suc m ≡ n → p ≡ Some m) → cond b (Some 0) (option_map (λ m. suc m) o) ≡ Some n → cond b (Some 0) (option_map (λ m. suc m) p) ≡ Some n
place-step true o p n on e = e
place-step false None p n on e = absurd cc
place-step false (Some m) p n on e = (let same : suc m ≡ n = cc in rw (on m refl same) e)

-- a known name stays in its place, and a place among the first names needs no later name
place-both : (names more : List (List ℕ)) (name : List ℕ) (n : ℕ) → (place names name ≡ Some n → place (names ++ more) name ≡ Some n) × (n < length names → place (names ++ more) name ≡ Some n → place names name ≡ Some n)
place-both [] more name n = (λ e. absurd cc, λ lt e. absurd (omega arith))
place-both (x ∷ xs) more name n = (
  λ e. place-step (bytes_eq name x) (place xs name) (place (xs ++ more) name) n (λ m f same. (place-both xs more name m).0 f) e,
  λ lt e. place-step (bytes_eq name x) (place (xs ++ more) name) (place xs name) n (λ m f same. (place-both xs more name m).1 (omega (arith, same, lt)) f) e,
)

-- a name that comes after some is none of them
pub not-before : (names more : List (List ℕ)) (name : List ℕ) → place (names ++ more) name ≡ Some (length names) → place names name ≡ None
not-before names more name e = by (place names name) refl
  where
    by : (o : Option ℕ) → place names name ≡ o → o ≡ None
    by None f = refl
    by (Some m) f =
        let same : Some m ≡ Some (length names) = sym ((place-both names more name m).0 f) ∙ e in
        let number : m ≡ length names = cc in
        let within = slice_get_within names m name (get-place names m name f) in
        absurd (omega arith)

-- ---- writers

-- names with a new one are names of writers
with-new : (names : List (List ℕ)) (name : List ℕ) → AreWriters names → IsWriter names (New name) → AreWriters (names ++ name ∷ [])
with-new names name good p =
    let more = length-append names (name ∷ []) in
    let room = p.2 in
    record {
      few = omega arith;
      names = list_all-append is_name names (name ∷ []) ∙ and_from (list_all is_name names) (list_all is_name (name ∷ [])) good.names (rw p.0 refl);
      different = different;
    }
  where
    different : (n : ℕ) (x : List ℕ) → slice_get (names ++ name ∷ []) n ≡ Some x → place (names ++ name ∷ []) x ≡ Some n
    different n x e = elim (cases_lt n (length names)) [
      | inl lt ↦ (place-both names (name ∷ []) x n).0 (good.different n x (sym (get_front names (name ∷ []) n lt) ∙ e))
      | inr le ↦
          (let more = length-append names (name ∷ []) in
          let within = slice_get_within (names ++ name ∷ []) n x e in
          let last : n ≡ length names = omega arith in
          let same : Some name ≡ Some x = sym (get_last names name) ∙ ap (λ (i : ℕ). slice_get (names ++ name ∷ []) i) (sym last) ∙ e in
          let is : name ≡ x = cc in
          ap (λ (y : List ℕ). place (names ++ name ∷ []) y) (sym is) ∙ place-push names name p.1 ∙ ap (λ (i : ℕ). Some i) (sym last))
    ]

-- after a line they are writers too
pub after-writers : (names : List (List ℕ)) (x : SaidEvent) → AreWriters names → NamesWriter names x → AreWriters (names_after names x)
after-writers names (Put p) good named = by p.writer named
  where
    by : (w : SaidWriter) → IsWriter names w → AreWriters (with_writer names w)
    by (Known w) is = good
    by (New name) is = with-new names name good is
after-writers names x good named = good

-- the first of some writers are writers
pub front-writers : (names more : List (List ℕ)) → AreWriters (names ++ more) → AreWriters names
front-writers names more good =
    let sum = length-append names more in
    let few = good.few in
    record {
      few = omega arith;
      names = (and_parts (list_all is_name names) (list_all is_name more) (sym (list_all-append is_name names more) ∙ good.names)).0;
      different = different;
    }
  where
    different : (n : ℕ) (x : List ℕ) → slice_get names n ≡ Some x → place names x ≡ Some n
    different n x e =
        let lt = slice_get_within names n x e in
        (place-both names more x n).1 lt (good.different n x (get_front names more n lt ∙ e))

-- ---- the spelling of a writer

-- it is the same with later names
pub writer-more : (names more : List (List ℕ)) (w : WriterId) → w.0 < length names → writer_at (names ++ more) w ≡ writer_at names w
writer-more names more w lt =
    let got = get_there names w.0 lt in
    writer_at-is (names ++ more) w got.0 (get_front names more w.0 lt ∙ got.1) ∙ sym (writer_at-is names w got.0 got.1)
