-- A plan makes a change where its steps name no other nodes, and each of the change's is named.
use Rattle.std.proofs.Common.{◌≡◌, ℕ, Bool, true, false, ◌&&◌, List, [], ◌∷◌, refl, sym, ap, ◌∙◌, ◌||◌, ◌==◌}
use Rattle.std.specs.List.{list_all, list_any, flat_map}
use Rattle.std.proofs.lemmas.List.Concat.{flat_map-cons}
use Rattle.std.proofs.lemmas.List.Folds.{list_all-append, list_all-map}
use Rattle.plan_text.proofs.Terms.{has, NodeId, Step, Join, Mirror, Copy, Switch, Drop, Retire, Planned, joins, retires, joined, retired}
use Rattle.ring_names.proofs.Logic.{and_true, and_false}
use Rattle.plan_text.specs.Changes.{numbers, same_nodes, fulfils, step_names}

-- a node is in the list exactly if its number is in the list of numbers
pub among : (n : ℕ) (nodes : List NodeId) → list_any (λ (x : NodeId). n == x.0) nodes ≡ has n (numbers nodes)
among n [] = refl
among n (x ∷ xs) = ap (λ (b : Bool). (n == x.0) || b) (among n xs)

one_joins : (h a b : Bool) → (h && (a && b)) ≡ (((h && true) && a) && b)
one_joins true a b = refl
one_joins false a b = refl

one_leaves : (h a b : Bool) → (h && (a && b)) ≡ (a && ((h && true) && b))
one_leaves true a b = refl
one_leaves false true b = refl
one_leaves false false b = refl

-- all of them are among these
abbrev all_in : List ℕ → List ℕ → Bool
all_in ys xs = list_all (λ x. has x ys) xs

step_names-parts : (js ls : List NodeId) (s : Step) (a b : Bool) → (step_names js ls s && (a && b)) ≡ ((all_in (numbers js) (joins s) && a) && (all_in (numbers ls) (retires s) && b))
step_names-parts js ls (Join x) a b = one_joins (has x.0 (numbers js)) a b
step_names-parts js ls (Mirror s x) a b = refl
step_names-parts js ls (Copy s from) a b = refl
step_names-parts js ls (Switch s) a b = refl
step_names-parts js ls (Drop s x) a b = refl
step_names-parts js ls (Retire x) a b = one_leaves (has x.0 (numbers ls)) a b

named-more : (named : Step → List ℕ) (ys : List ℕ) (x : Planned) (xs : List Planned)
    → all_in ys (flat_map (λ y. named y.step) (x ∷ xs)) ≡ (all_in ys (named x.step) && all_in ys (flat_map (λ y. named y.step) xs))
named-more named ys x xs = ap (all_in ys) (flat_map-cons (λ (y : Planned). named y.step) x xs) ∙ list_all-append (λ (y : ℕ). has y ys) (named x.step) _

names-parts : (js ls : List NodeId) (plan : List Planned) → list_all (λ (x : Planned). step_names js ls x.step) plan ≡ (all_in (numbers js) (joined plan) && all_in (numbers ls) (retired plan))
names-parts js ls [] = refl
names-parts js ls (x ∷ xs) =
    rw (names-parts js ls xs, named-more joins (numbers js) x xs, named-more retires (numbers ls) x xs) (step_names-parts js ls x.step _ _)

-- each of them is among these
abbrev each_in : List ℕ → List NodeId → Bool
each_in ys nodes = list_all (λ x. has x.0 ys) nodes

numbered : (ys : List ℕ) (nodes : List NodeId) → each_in ys nodes ≡ all_in ys (numbers nodes)
numbered ys nodes = sym (list_all-map (λ (x : ℕ). has x ys) (λ (x : NodeId). x.0) nodes)

-- a node that should join is not named
pub lacks_a_join : (plan : List Planned) (js ls : List NodeId) → list_all (λ (x : NodeId). has x.0 (joined plan)) js ≡ false → false ≡ fulfils plan js ls
lacks_a_join plan js ls e = rw (sym (numbered (joined plan) js) ∙ e, and_false (all_in (numbers js) (joined plan))) refl

-- a node that should leave is not named
pub lacks_a_leave : (plan : List Planned) (js ls : List NodeId) → list_all (λ (x : NodeId). has x.0 (retired plan)) ls ≡ false → false ≡ fulfils plan js ls
lacks_a_leave plan js ls e =
    rw (sym (numbered (retired plan) ls) ∙ e, and_false (all_in (numbers ls) (retired plan)), and_false (same_nodes (joined plan) (numbers js))) refl

-- all that the change names are named, so the change is made if no other node is named
pub lacks_none : (plan : List Planned) (js ls : List NodeId) → list_all (λ (x : NodeId). has x.0 (joined plan)) js ≡ true
    → list_all (λ (x : NodeId). has x.0 (retired plan)) ls ≡ true → list_all (λ (x : Planned). step_names js ls x.step) plan ≡ fulfils plan js ls
lacks_none plan js ls e f =
    let first = sym (numbered (joined plan) js) ∙ e in
    let second = sym (numbered (retired plan) ls) ∙ f in
    rw (first, second, and_true (all_in (numbers js) (joined plan)), and_true (all_in (numbers ls) (retired plan))) (names-parts js ls plan)
