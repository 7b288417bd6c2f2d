-- What a plainly spelled step is, part by part.
use Rattle.std.proofs.Common.{◌≡◌, ℕ, ◌+◌, ◌<◌, ◌≤◌, true, false, nat_lt, List, [], ◌∷◌, ◌++◌, length, get_or, map, take, codes, Some, Ok, refl, sym, ap, ◌∙◌, append_assoc, arith}
use Rattle.std.specs.Fmt.{decimal}
use Rattle.std.specs.List.{join_with_byte, list_all}
use Rattle.std.proofs.lemmas.Bool.{lt-ltb}
use Rattle.std.proofs.lemmas.List.{take_more}
use Rattle.std.proofs.lemmas.List.Concat.{flat_map-cons}
use Rattle.ring_names.proofs.Places.{get-place, place-below}
use Rattle.ring_table.proofs.NodesLaws.{nodes-length}
use Rattle.texts.specs.Parts.{lines_of, line_text, spaced}
use Rattle.texts.specs.Left.{begins_with, begins_so, is_word, next_number}
use Rattle.texts.specs.Numbers.{ascending}
use Rattle.texts.proofs.Cuts.{some_line}
use Rattle.texts.proofs.Measured.{all_push, ascending_push}
use Rattle.texts.proofs.Texts.{lines-cut}
use Rattle.plan_text.proofs.Terms.{place, NodeId, Slot, RingValue, names_of, IsRing, name_at, Planned, kind_fields, after_fields, step_fields}
use Rattle.plan_text.specs.Fits.{IsNext, IsMove}
use Rattle.plan_text.specs.Reading.{said_at, step_at, steps_from}
use Rattle.plan_text.specs.Spelling.{slot_fields}
use Rattle.plan_text.specs.Valid.{is_declared}
use Rattle.plan_text.proofs.Below.{below_all}
use Rattle.plan_text.proofs.PlanForm.{step-word, step_line}
use Rattle.plan_text.proofs.PlanLaws.{next-move}
use Rattle.plan_text.proofs.WriteLaws.{line-written}

-- a name that has a number is the name of that number
pub named : (names : List (List ℕ)) (x : NodeId) (name : List ℕ) → Some x.0 ≡ place names name → name_at names x ≡ name
named names x name e = rw (get-place names x.0 name (sym e), name_at) refl

-- and its node is declared
pub declared : (ring : RingValue) (x : NodeId) (name : List ℕ) → Some x.0 ≡ place (names_of ring) name → is_declared ring x ≡ true
declared ring x name e = lt-ltb x.0 (length ring.nodes) (rw (← nodes-length ring.nodes) (place-below (names_of ring) x.0 name (sym e)))

-- a slot, and a node after it
pub slot-node : (names : List (List ℕ)) (s : Slot) (x : NodeId) (text r t name rest : List ℕ) → text ≡ join_with_byte 32 (slot_fields s) ++ r → r ≡ codes " " ++ t
    → t ≡ name ++ rest → Some x.0 ≡ place names name → text ≡ join_with_byte 32 (slot_fields s ++ name_at names x ∷ []) ++ rest
slot-node names s x text r t name rest e f g n = e ∙ rw (f, g, named names x name n) (simp append_assoc)

-- the word, and the steps after it
pub after-word : (text r t rest xs : List ℕ) → text ≡ codes " after" ++ r → r ≡ spaced (map decimal xs) ++ t → t ≡ codes "\n" ++ rest → 0 < length xs
    → text ≡ spaced (after_fields xs) ++ 10 ∷ rest
after-word text r t rest [] e f g some = absurd (omega arith)
after-word text r t rest (x ∷ xs) e f g some =
    e ∙ ap (λ (u : List ℕ). codes " after" ++ u) (f ∙ ap (λ (u : List ℕ). spaced (map decimal (x ∷ xs)) ++ u) g)
    ∙ ap (λ (u : List ℕ). u ++ 10 ∷ rest) (sym (flat_map-cons (λ (h : List ℕ). 32 ∷ h) (codes "after") (map decimal (x ∷ xs))))

-- one number more, which is not less than what is above all before it
pub ascends-more : (xs : List ℕ) (k least : ℕ) → k < length xs → least ≤ get_or xs k 0 → ascending (take k xs) ≡ true → list_all (λ x. nat_lt x least) (take k xs) ≡ true
    → (ascending (take (k + 1) xs) ≡ true) × (list_all (λ x. nat_lt x (get_or xs k 0 + 1)) (take (k + 1) xs) ≡ true)
ascends-more xs k least within le up below =
    let n = get_or xs k 0 in
    let here : nat_lt n (n + 1) ≡ true = lt-ltb n (n + 1) (omega arith) in (
      rw (take_more xs k 0 within, ascending_push (take k xs) n, up, below_all n least (take k xs) le below) refl,
      rw (take_more xs k 0 within, all_push (λ x. nat_lt x (n + 1)) (take k xs) n, below_all (n + 1) least (take k xs) (omega arith) below, here) refl,
    )

-- a whole line, of its parts
pub line-front : (names : List (List ℕ)) (x : Planned) (text r rest : List ℕ) → text ≡ join_with_byte 32 (kind_fields names x.step) ++ r
    → r ≡ spaced (after_fields x.after) ++ 10 ∷ rest → text ≡ line_text (step_fields names x) ++ rest
line-front names x text r rest e f =
    let kind = join_with_byte 32 (kind_fields names x.step) in
    let whole = line-written names x [] kind (kind ++ spaced (after_fields x.after)) ((kind ++ spaced (after_fields x.after)) ++ 10 ∷ []) refl refl refl in
    e ∙ rw f (simp append_assoc) ∙ ap (λ (u : List ℕ). u ++ rest) whole

-- reading goes on after a line that says a step
steps-on : (ring : RingValue) (seen : List Planned) (k : ℕ) (x : Planned) (line y : List (List ℕ)) (ys : List (List (List ℕ)))
    → begins_with (codes "end") (line ∷ y ∷ ys) ≡ false → step_at ring seen k line ≡ Ok x
    → steps_from ring (seen ++ x ∷ []) (next_number k) (y ∷ ys) ≡ steps_from ring seen k (line ∷ y ∷ ys)
steps-on ring seen k x line y ys b e = rw (b, e) refl

-- reading a text that begins with a plainly spelled step
pub steps-taken : (ring : RingValue) → IsRing ring → (seen : List Planned) (k : ℕ) (x : Planned) (text rest : List ℕ) → IsNext seen x → IsMove ring x.step
    → text ≡ line_text (step_fields (names_of ring) x) ++ rest
    → steps_from ring (seen ++ x ∷ []) (next_number k) (lines_of rest) ≡ steps_from ring seen k (lines_of text)
unfolding said_at
steps-taken ring valid seen k x text rest n m e =
    let line = step_fields (names_of ring) x in
    let fits = next-move ring seen x n m in
    let cut : lines_of text ≡ line ∷ lines_of rest = ap lines_of e ∙ lines-cut line rest ((step_line ring seen).plain valid x fits) in
    let more = some_line rest in
    let w = step-word (names_of ring) x.step in
    let other : begins_with (codes "end") (line ∷ more.0 ∷ more.1) ≡ false =
    ap (λ (l : List (List ℕ)). begins_so (is_word (codes "end")) ((l ++ after_fields x.after) ∷ more.0 ∷ more.1)) w.2 ∙ w.3 in
    let on = steps-on ring seen k x line more.0 more.1 other (((step_line ring seen).exact valid k).gives x fits) in
    ap (λ (l : List (List (List ℕ))). steps_from ring (seen ++ x ∷ []) (next_number k) l) more.2 ∙ on
    ∙ ap (λ (l : List (List (List ℕ))). steps_from ring seen k (line ∷ l)) (sym more.2) ∙ ap (λ (l : List (List (List ℕ))). steps_from ring seen k l) (sym cut)
