-- The lines of one step more, and of one move more.
use Rattle.std.proofs.Common.{◌≡◌, ◌∙◌, ℕ, ◌+◌, ◌<◌, ◌≤◌, List, [], ◌∷◌, ◌++◌, map, length, get_or, drop, Option, Some, None, refl, sym, ap}
use Rattle.std.specs.Prelude.{option_map, slice_get}
use Rattle.std.proofs.lemmas.List.{append_assoc, append-nil, at_drop_more, at_drop_all}
use Rattle.std.proofs.lemmas.Option.{get_or_from_slice_get, slice_get_within}
use Rattle.serde_json.specs.Data.{Data, array}
use Rattle.serde_json.specs.View.{items_of}
use Rattle.serde_json.specs.Written.{compact_text}
use Rattle.ring_names.specs.declared.ids.Slot.{Slot}
use Rattle.ring_table.specs.Value.{RingValue, names_of}
use Rattle.plan_text.specs.declared.step.Step.{Step}
use Rattle.plan_text.specs.declared.step.Step.TheVariants.{Join, Mirror, Copy, Switch, Drop, Retire}
use Rattle.plan_text.specs.declared.step.Planned.{Planned}
use Rattle.plan_stage.specs.Parties.{stage_before, source_slots}
use Rattle.plan_cover.specs.declared.present.Serving.{Serving}
use Rattle.plan_cover.specs.Looking.Serving.{serving_of}
use Rattle.plan_cover.proofs.Served.{whole}
use Rattle.plan_moves.specs.declared.movement.Move.{Move}
use Rattle.plan_moves.specs.Moves.{served_before}
use Rattle.plan_moves.specs.Lines.{node_data, owners_data, mirror_data, copy_object, step_data, line_at, lines_from, steps_text}
use Rattle.plan_moves.specs.MoveLines.{move_data, move_lines}

-- what a line says depends only on who serves the slots
owners-alike : (names : List (List ℕ)) (f g : Slot → Serving) (slots : List Slot) → ((slot : Slot) → f slot ≡ g slot)
    → map (λ (s : Slot). node_data names (f s).owner) slots ≡ map (λ (s : Slot). node_data names (g s).owner) slots
owners-alike names f g [] same = refl
owners-alike names f g (s ∷ ss) same =
    let owner : node_data names (f s).owner ≡ node_data names (g s).owner = ap (λ (v : Serving). node_data names v.owner) (same s) in
    rw (owner, owners-alike names f g ss same) refl

data-alike : (names : List (List ℕ)) (f g : Slot → Serving) (n : ℕ) (t : Step) (after : List ℕ) → ((slot : Slot) → f slot ≡ g slot) → step_data names f n t after ≡ step_data names g n t after
data-alike names f g n (Join x) after same = refl
data-alike names f g n (Mirror s x) after same = refl
data-alike names f g n (Copy s source) after same =
    let owners : owners_data names f (source_slots s source) ≡ owners_data names g (source_slots s source) = ap (λ (ds : List Data). array (items_of ds)) (owners-alike names f g (source_slots s source) same) in
    ap (λ (d : Data). copy_object after n s source d (mirror_data names (f s).mirror)) owners
    ∙ ap (λ (v : Serving). copy_object after n s source (owners_data names g (source_slots s source)) (mirror_data names v.mirror)) (same s)
data-alike names f g n (Switch s) after same = refl
data-alike names f g n (Drop s x) after same = refl
data-alike names f g n (Retire x) after same = refl

some_is : (o : Option Planned) (p : Planned) (after : List ℕ) → o ≡ Some p → option_map (λ (x : Planned). x.after) o ≡ Some after → p.after ≡ after
some_is None p after is e = absurd cc
some_is (Some q) p after is e = (let f : q ≡ p = cc in let h : q.after ≡ after = cc in rw (← f) h)

pub lines-next : (ring : RingValue) (plan : List Planned) (n : ℕ) (t : Step) (after out new : List ℕ) (serve : Slot → Serving)
    → option_map (λ (x : Planned). x.step) (slice_get plan n) ≡ Some t → option_map (λ (x : Planned). x.after) (slice_get plan n) ≡ Some after
    → ((s : Slot) → serve s ≡ serving_of (stage_before ring plan s n)) → out ++ lines_from ring plan n (drop n plan) ≡ steps_text ring plan
    → new ≡ out ++ (compact_text (step_data (names_of ring) serve n t after) ++ 10 ∷ []) → new ++ lines_from ring plan (n + 1) (drop (n + 1) plan) ≡ steps_text ring plan
lines-next ring plan n t after out new serve at deps same told is =
    let w = whole (slice_get plan n) t at in
    let rest : List ℕ = lines_from ring plan (n + 1) (drop (n + 1) plan) in
    let line : List ℕ = line_at ring (served_before ring plan n) n w.0 in
    let step : lines_from ring plan n (drop n plan) ≡ line ++ rest =
    at_drop_more (lines_from ring plan n) plan n w.0 (slice_get_within plan n w.0 w.1) ∙ ap (λ (x : Planned). lines_from ring plan n (x ∷ drop (n + 1) plan)) (get_or_from_slice_get plan n w.0 w.0 w.1) in
    let text : Data → List ℕ = λ d. compact_text d ++ 10 ∷ [] in
    let mine : text (step_data (names_of ring) serve n t after) ≡ line =
    ap text (data-alike (names_of ring) serve (served_before ring plan n) n t after same
    ∙ ap (λ (u : Step). step_data (names_of ring) (served_before ring plan n) n u after) (sym w.2)
    ∙ ap (λ (a : List ℕ). step_data (names_of ring) (served_before ring plan n) n w.0.step a) (sym (some_is (slice_get plan n) w.0 after w.1 deps))) in
    ap (λ (xs : List ℕ). xs ++ rest) (is ∙ ap (λ (xs : List ℕ). out ++ xs) mine) ∙ append_assoc out line rest ∙ ap (λ (xs : List ℕ). out ++ xs) (sym step) ∙ told

pub lines-end : (ring : RingValue) (plan : List Planned) (n : ℕ) (out : List ℕ) → length plan ≤ n → out ++ lines_from ring plan n (drop n plan) ≡ steps_text ring plan → out ≡ steps_text ring plan
lines-end ring plan n out l told = sym (append-nil out) ∙ ap (λ (xs : List ℕ). out ++ xs) (sym (at_drop_all (lines_from ring plan n) plan n l)) ∙ told

pub moves-next : (names : List (List ℕ)) (plan : List Planned) (ms : List Move) (k : ℕ) (d : Move) (out new text : List ℕ) → k < length ms → out ++ move_lines names plan k (drop k ms) ≡ text
    → new ≡ out ++ (compact_text (move_data names plan k (get_or ms k d)) ++ 10 ∷ []) → new ++ move_lines names plan (k + 1) (drop (k + 1) ms) ≡ text
moves-next names plan ms k d out new text l told is =
    let line : List ℕ = compact_text (move_data names plan k (get_or ms k d)) ++ 10 ∷ [] in
    let rest : List ℕ = move_lines names plan (k + 1) (drop (k + 1) ms) in
    let step : move_lines names plan k (drop k ms) ≡ line ++ rest = at_drop_more (move_lines names plan k) ms k d l in
    ap (λ (xs : List ℕ). xs ++ rest) is ∙ append_assoc out line rest ∙ ap (λ (xs : List ℕ). out ++ xs) (sym step) ∙ told

pub moves-end : (names : List (List ℕ)) (plan : List Planned) (ms : List Move) (k : ℕ) (out text : List ℕ) → length ms ≤ k → out ++ move_lines names plan k (drop k ms) ≡ text → out ≡ text
moves-end names plan ms k out text l told = sym (append-nil out) ∙ ap (λ (xs : List ℕ). out ++ xs) (sym (at_drop_all (move_lines names plan k) ms k l)) ∙ told
