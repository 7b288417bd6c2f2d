-- Names, rows of owners, and how a loop reads and writes rows.
use Rattle.std.proofs.Common.{◌≡◌, ℕ, zero, suc, ◌+◌, ◌<◌, Bool, true, false, cond, ◌==◌, ◌||◌, List, [], ◌∷◌, ◌++◌, length, map, take, get_or, Option, Some, None, Result, Ok, Err, refl, ap, subst, ◌∙◌, arith, slice_get}
use Rattle.std.specs.List.{list_all, list_any, AllByRecursion}
use Rattle.std.proofs.lemmas.Bool.{and_parts}
use Rattle.std.proofs.lemmas.List.{length-map, take_more, length-take, flat_map_more}
use Rattle.std.proofs.lemmas.Option.{slice_get_within}
use Rattle.ring_table.proofs.Terms.{has, AllNew, place, NodeId, place-get, get-place, place-below, Node, is_member, name_at, row_fields, rows_lines, judge_declared, owners_at}
use Rattle.texts.proofs.Forms.{Refusal, BadLine, UnknownNode, is_name, field_at, IsItem, IsPlain, Left, text_of, line_text, IsItem-field, ok_is, At, Judges, at-if, judges-field, judges-map, judges-⊗, name-plain}
use Rattle.ring_names.proofs.InLists.{get_there}
use Rattle.texts.proofs.Items.{IsItem-nil, IsItem-cons}
use Rattle.ring_table.specs.Valid.{EachIsName}

-- names that can be told apart
pub record AreNames (names : List (List ℕ)) : Type 0 where
  pub new : AllNew [] names
  pub each : AllByRecursion (λ x. is_name x ≡ true) names

pub each_at : {A : Type 0} (P : A → Type 0) (xs : List A) (i : ℕ) (f : A) → AllByRecursion P xs → slice_get xs i ≡ Some f → P f
each_at P [] i f a e = absurd cc
each_at P (x ∷ xs) zero f a e = let same : x ≡ f = cc in subst P same a.0
each_at P (x ∷ xs) (suc i) f a e = each_at P xs i f a.1 e

-- what is found among names is one
pub found_name : (names : List (List ℕ)) (f : List ℕ) (n : ℕ) → EachIsName names → place names f ≡ Some n → is_name f ≡ true
found_name names f n each e = each_at (λ x. is_name x ≡ true) names n f each (get-place names n f e)

declared_is : (k : ℕ) (names : List (List ℕ)) (f : List ℕ) (v : NodeId) (b : Bool) (o : Option ℕ) → place names f ≡ o → is_name f ≡ b
    → cond b (elim o [ Some n ↦ Ok (record { 0 = n }) | None ↦ Err (UnknownNode k) ]) (Err (BadLine k)) ≡ Ok v → place names f ≡ Some v.0
declared_is k names f v true None h g e = absurd cc
declared_is k names f v true (Some n) h g e = h ∙ ap (λ (x : NodeId). Some x.0) (ok_is (record { 0 = n }) v e)
declared_is k names f v false o h g e = absurd cc

pub IsItem-declared : (k : ℕ) (names : List (List ℕ)) → AreNames names → IsItem (field_at k (judge_declared k names)) (λ x. name_at names x ∷ [])
    (λ x. x.0 < length names)
IsItem-declared k names good = IsItem-field k (judge_declared k names) (name_at names) (λ x. x.0 < length names)
    (λ f v e.
    let at = declared_is k names f v (is_name f) (place names f) refl refl e in
    (rw (get-place names v.0 f at, name_at) refl, place-below names v.0 f at))
    (λ v lt.
    let f = get_there names v.0 lt in
    let named : is_name f.0 ≡ true = each_at (λ x. is_name x ≡ true) names v.0 f.0 good.each f.1 in
    rw (f.1, named, place-get names v.0 f.0 good.new f.1, name_at) refl)

pub IsItem-owners : (k : ℕ) (names : List (List ℕ)) (m : ℕ) → AreNames names → IsItem (owners_at k names m) (λ xs. map (name_at names) xs)
    (λ xs. (length xs ≡ m) × AllByRecursion (λ x. x.0 < length names) xs)
IsItem-owners k names zero good = IsItem-nil (owners_at k names 0) (name_at names) (λ x. x.0 < length names) (λ fields. refl)
IsItem-owners k names (suc m) good = IsItem-cons (field_at k (judge_declared k names)) (owners_at k names m) (name_at names) (λ x. x.0 < length names) m
    (IsItem-declared k names good) (IsItem-owners k names m good)

-- their faults are at their lines
pub judges-name : (k : ℕ) (names : List (List ℕ)) → Judges k (field_at k (judge_declared k names))
judges-name k names = judges-field k (judge_declared k names) (λ f. at-if k (is_name f) _ (Err (BadLine k))
    (elim (place names f) as (λ o. At {A = NodeId} k (elim o [ Some n ↦ Ok (record { 0 = n }) | None ↦ Err (UnknownNode k) ])) [ None ↦ refl | Some n ↦ tt ])
    refl)

pub judges-owners : (k : ℕ) (names : List (List ℕ)) (m : ℕ) → Judges k (owners_at k names m)
judges-owners k names zero = record { at = λ fields. tt }
judges-owners k names (suc m) = judges-map k (λ x. x.0 ∷ x.1) _ (judges-⊗ k _ _ (judges-name k names) (judges-owners k names m))

-- they are plain
pub name_at-plain : (names : List (List ℕ)) (x : NodeId) → EachIsName names → IsPlain (name_at names x)
name_at-plain names x each = elim (slice_get names x.0) as (λ o. slice_get names x.0 ≡ o → IsPlain (elim o [ Some name ↦ name | None ↦ [] ]))
    [ None ↦ λ e. tt | Some name ↦ λ e. name-plain name (each_at (λ y. is_name y ≡ true) names x.0 name each e) ] refl

pub names-plain : (names : List (List ℕ)) (row : List NodeId) → EachIsName names → AllByRecursion IsPlain (map (name_at names) row)
names-plain names [] each = tt
names-plain names (x ∷ xs) each = (name_at-plain names x each, names-plain names xs each)

-- members are declared
pub members-below : (nodes : List Node) (xs : List NodeId) → list_all (is_member nodes) xs ≡ true
    → AllByRecursion (λ x. x.0 < length (map (λ (y : Node). y.name) nodes)) xs
members-below nodes [] e = tt
members-below nodes (x ∷ xs) e =
    let parts = and_parts (is_member nodes x) (list_all (is_member nodes) xs) e in
    let below = elim (slice_get nodes x.0) as (λ o. slice_get nodes x.0 ≡ o → elim o [ Some node ↦ node.is_member | None ↦ false ] ≡ true → x.0 < length nodes)
    [ Some node ↦ λ h f. slice_get_within nodes x.0 node h | None ↦ λ h f. absurd cc ] in
    (simp length-map (below refl parts.0), members-below nodes xs parts.1)

-- a number that is one of those of some nodes
pub any-has : (x : ℕ) (xs : List NodeId) → has x (map (λ y. y.0) xs) ≡ list_any (λ y. x == y.0) xs
any-has x [] = refl
any-has x (y ∷ ys) = ap (λ b. (x == y.0) || b) (any-has x ys)

pub ruleset among = any-has

-- the rows that were read, and those that are still read
abbrev pub behind : List (List NodeId) → Result (List (List NodeId) × Left) Refusal → Result (List (List NodeId) × Left) Refusal
behind front (Ok x) = Ok (front ++ x.0, x.1)
behind front (Err e) = Err e

-- ---- writing rows

-- the rows before, and one more
rows-push : (names : List (List ℕ)) (p : ℕ) (rows : List (List NodeId)) (row : List NodeId)
    → rows_lines names p (rows ++ row ∷ []) ≡ rows_lines names p rows ++ row_fields names (p + length rows) row ∷ []
rows-push names p [] row = ap (λ (n : ℕ). row_fields names n row ∷ []) (omega arith)
rows-push names p (r ∷ rows) row = ap (λ (ls : List (List (List ℕ))). row_fields names p r ∷ ls)
    (rows-push names (p + 1) rows row ∙ ap (λ (n : ℕ). rows_lines names (p + 1) rows ++ row_fields names n row ∷ []) (omega arith))

pub rows-step : (names : List (List ℕ)) (rows : List (List NodeId)) (i : ℕ) (row at : List NodeId) (start o more : List ℕ) → i < length rows
    → at ≡ get_or rows i at → row ≡ at → o ≡ start ++ text_of (rows_lines names 0 (take i rows)) → more ≡ o ++ line_text (row_fields names i row)
    → more ≡ start ++ text_of (rows_lines names 0 (take (i + 1) rows))
rows-step names rows i row at start o more lt here same so_far added =
    let x = get_or rows i at in
    let front : rows_lines names 0 (take (i + 1) rows) ≡ rows_lines names 0 (take i rows) ++ row_fields names i x ∷ [] =
    ap (rows_lines names 0) (take_more rows i at lt) ∙ rows-push names 0 (take i rows) x ∙ ap
    (λ (n : ℕ). rows_lines names 0 (take i rows) ++ row_fields names n x ∷ []) (omega (arith, length-take i rows)) in
    added ∙ rw (so_far, same ∙ here, front) (flat_map_more line_text start (rows_lines names 0 (take i rows)) (row_fields names i x))
