-- What is asked of all holdings is what is asked of the first, which are kept, and then of the others.
use Rattle.std.proofs.Common.{◌≡◌, ◌∙◌, Bool, true, false, List, [], ◌∷◌, ◌++◌, Option, Some, None, refl, sym, ap}
use Rattle.std.specs.Prelude.{ℕ, ◌&&◌, reverse}
use Rattle.std.specs.List.{list_all}
use Rattle.std.proofs.lemmas.List.{reverse-append}
use Rattle.std.proofs.lemmas.List.Folds.{list_all-append}
use Rattle.std.proofs.lemmas.Bool.{and_parts}
use Rattle.ring_names.specs.declared.ids.NodeId.{NodeId}
use Rattle.ring_names.proofs.Logic.{and_false, and_true}
use Rattle.plan_stage.specs.declared.held.Held.{Held}
use Rattle.plan_stage.specs.declared.holding.Holding.{Holding}
use Rattle.plan_stage.specs.Partition.{Test}
use Rattle.plan_stage.specs.Looking.Held.{held_among, held_beside, held_of}
use Rattle.plan_stage.specs.Looking.Asked.{begins_before, is_ended_before, is_left_before, has_left_held, is_dropped_before, has_dropped_held}
use Rattle.plan_stage.proofs.Rising.{InFront, all-until}

-- ---- tests over lists

and-turn : (a b : Bool) → (a && b) ≡ (b && a)
and-turn true b = sym (and_true b)
and-turn false b = sym (and_false b)

pub all-reverse : (f : Holding → Bool) (xs : List Holding) → list_all f (reverse xs) ≡ list_all f xs
all-reverse f [] = refl
all-reverse f (x ∷ xs) =
    let r : reverse (x ∷ xs) ≡ reverse xs ++ x ∷ [] = reverse-append (x ∷ []) xs in
    ap (list_all f) r ∙ list_all-append f (reverse xs) (x ∷ []) ∙ and-turn (list_all f (reverse xs)) (f x && true)
    ∙ (rw (and_true (f x), all-reverse f xs) refl)

-- ---- the holdings that are kept

-- those in front stand in front without what follows
front-of : (p : Holding → Bool) (hs ks : List Holding) → InFront p (hs ++ ks) → InFront p hs
front-of p [] ks front = tt
front-of p (h ∷ hs) ks front = (λ e. (and_parts _ _ (sym (list_all-append _ hs ks) ∙ front.0 e)).0, front-of p hs ks front.1)

left-held : (O : Test) (t : ℕ) (x : NodeId) (a : Held) → InFront (begins_before t) (reverse (held_of a x)) → has_left_held O t x a ≡ list_all (is_left_before O t) (reverse (held_of a x))
left-held O t x a front =
    let f = is_left_before O t in
    let first = held_among a.first x in
    let others = held_beside a.others x in
    let turned : reverse (first ++ others) ≡ reverse others ++ reverse first = reverse-append first others in
    let until = all-until (begins_before t) (is_ended_before O t) (reverse others) (front-of (begins_before t) (reverse others) (reverse first) (rw turned at front)) in
    ap (λ (b : Bool). list_all f first && b) until ∙ and-turn (list_all f first) (list_all f (reverse others))
    ∙ ap (λ (b : Bool). list_all f (reverse others) && b) (sym (all-reverse f first))
    ∙ sym (list_all-append f (reverse others) (reverse first)) ∙ ap (list_all f) (sym turned)

pub left-kept : (O : Test) (t : ℕ) (x : NodeId) (o : Option Held) → InFront (begins_before t) (reverse (elim o [ None ↦ [] | Some a ↦ held_of a x ]))
    → (elim o [ None ↦ true | Some a ↦ has_left_held O t x a ]) ≡ list_all (is_left_before O t) (reverse (elim o [ None ↦ [] | Some a ↦ held_of a x ]))
left-kept O t x None front = refl
left-kept O t x (Some a) front = left-held O t x a front

pub dropped-kept : (O : Test) (t : ℕ) (x : NodeId) (o : Option Held) → (elim o [ None ↦ true | Some a ↦ has_dropped_held O t x a ]) ≡ list_all (is_dropped_before O t) (elim o [ None ↦ [] | Some a ↦ held_of a x ])
dropped-kept O t x None = refl
dropped-kept O t x (Some a) = sym (list_all-append (is_dropped_before O t) (held_among a.first x) (held_beside a.others x))
