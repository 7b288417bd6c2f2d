-- Slots that are named one after the other, and lines that name nothing.
use Rattle.std.proofs.Common.{◌≡◌, ◌<◌, ◌+◌, ℕ, zero, suc, List, get_or, length, map, take, [], ◌∷◌, ◌++◌, IfOk, Result, Ok, Err, Some, refl, sym, subst}
use Rattle.std.specs.Prelude.{slice_get}
use Rattle.std.proofs.lemmas.List.{map_more}
use Rattle.clap.specs.Words.{Row}
use Rattle.ring_names.specs.declared.ids.Slot.{Slot}
use Rattle.ringplan_command.specs.Command.{IsOfWord, TakesValues, to_make}
use Rattle.ringplan_command.specs.Slots.{AreSlots, IsSlot}
use Rattle.ringplan_command.specs.declared.command.Request.{Request}
use Rattle.ringplan_command.specs.declared.command.Request.TheVariants.{Mistaken}
use Rattle.ringplan_command.specs.declared.word.Word.{Word}

-- one slot more
pub one_more : (texts : List (List ℕ)) (slots : List Slot) (text : List ℕ) (slot : Slot) → AreSlots texts slots → IsSlot text slot → AreSlots (texts ++ text ∷ []) (slots ++ slot ∷ [])
one_more [] slots text slot e is = subst (λ (xs : List Slot). AreSlots (text ∷ []) (xs ++ slot ∷ [])) (sym e) (is, refl)
one_more (x ∷ xs) [] text slot e is = absurd e
one_more (x ∷ xs) (y ∷ ys) text slot e is = (e.0, one_more xs ys text slot e.1 is)

-- so it is of the first of a list, with the next one
pub next_more : {T : Type 0} (f : T → List ℕ) (xs : List T) (i : ℕ) (d : T) (slots : List Slot) (slot : Slot) → i < length xs → IsSlot (f (get_or xs i d)) slot → AreSlots (map f (take i xs)) slots
    → AreSlots (map f (take (i + 1) xs)) (slots ++ slot ∷ [])
next_more f xs i d slots slot l is are =
    subst (λ (ys : List (List ℕ)). AreSlots ys (slots ++ slot ∷ [])) (sym (map_more f xs i d l)) (one_more (map f (take i xs)) slots (f (get_or xs i d)) slot are is)

-- a text that names no slot stands among no texts of slots
pub none_with : (texts : List (List ℕ)) (slots : List Slot) (i : ℕ) (text : List ℕ) → slice_get texts i ≡ Some text → ((slot : Slot) → IsSlot text slot → ⊥) → AreSlots texts slots → ⊥
none_with [] slots i text at bad are = absurd cc
none_with (x ∷ xs) [] i text at bad are = are
none_with (x ∷ xs) (y ∷ ys) zero text at bad are = bad y (let e : x ≡ text = cc in subst (λ (t : List ℕ). IsSlot t y) e are.0)
none_with (x ∷ xs) (y ∷ ys) (suc i) text at bad are = none_with xs ys i text at bad are.1

-- texts of no slots are none
pub no_texts : (texts : List (List ℕ)) (slots : List Slot) → slots ≡ [] → AreSlots texts slots → texts ≡ []
no_texts [] slots e are = refl
no_texts (x ∷ xs) [] e are = absurd are
no_texts (x ∷ xs) (y ∷ ys) e are = absurd cc

-- a line that is turned away, for a value that may be refused
pub of_word : {E : Type 0} (w : Word) (rows : List Row) (r : Result Request E) → TakesValues (to_make w rows) → IfOk r (λ line. (text : _) × (line ≡ Mistaken text)) → IfOk r (IsOfWord w rows)
of_word w rows (Ok line) takes is = subst (IsOfWord w rows) (sym is.1) takes
of_word w rows (Err e) takes is = tt
