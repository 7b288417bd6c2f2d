-- The moves of one step more.
use Rattle.std.proofs.Common.{◌≡◌, ◌∙◌, ℕ, ◌+◌, ◌≤◌, List, [], ◌∷◌, ◌++◌, length, drop, Some, refl, sym, ap}
use Rattle.std.specs.Prelude.{option_map, slice_get}
use Rattle.std.proofs.lemmas.List.{append_assoc, append-nil, at_drop_more, at_drop_all}
use Rattle.std.proofs.lemmas.Option.{get_or_from_slice_get, slice_get_within}
use Rattle.ring_names.specs.declared.ids.Slot.{Slot}
use Rattle.ring_table.specs.Value.{RingValue}
use Rattle.plan_text.specs.declared.step.Step.{Step}
use Rattle.plan_text.specs.declared.step.Step.TheVariants.{Join, Mirror, Copy, Switch, Drop, Retire}
use Rattle.plan_text.specs.declared.step.Planned.{Planned}
use Rattle.plan_stage.specs.Parties.{stage_before}
use Rattle.plan_cover.specs.declared.present.Serving.{Serving}
use Rattle.plan_cover.specs.Looking.Serving.{serving_of}
use Rattle.plan_cover.proofs.Served.{whole}
use Rattle.plan_moves.specs.declared.movement.Move.{Move}
use Rattle.plan_moves.specs.Moves.{moved_by, served_before, moves_from, moves}

-- what a step begins depends only on who serves the slots
moved_alike : (f g : Slot → Serving) (n : ℕ) (s : Step) → ((slot : Slot) → f slot ≡ g slot) → moved_by f n s ≡ moved_by g n s
moved_alike f g n (Join x) same = refl
moved_alike f g n (Mirror s x) same =
    let begun : Serving → List Move = λ v. record { slot = s; from = v.owner; to = x; mirror = n } ∷ [] in
    ap begun (same s)
moved_alike f g n (Copy s from) same = refl
moved_alike f g n (Switch s) same = refl
moved_alike f g n (Drop s x) same = refl
moved_alike f g n (Retire x) same = refl

pub moves-next : (ring : RingValue) (plan : List Planned) (n : ℕ) (t : Step) (found new : List Move) (serve : Slot → Serving)
    → option_map (λ (x : Planned). x.step) (slice_get plan n) ≡ Some t → ((s : Slot) → serve s ≡ serving_of (stage_before ring plan s n))
    → found ++ moves_from ring plan n (drop n plan) ≡ moves ring plan → new ≡ found ++ moved_by serve n t
    → new ++ moves_from ring plan (n + 1) (drop (n + 1) plan) ≡ moves ring plan
moves-next ring plan n t found new serve at same told is =
    let w = whole (slice_get plan n) t at in
    let rest : List Move = moves_from ring plan (n + 1) (drop (n + 1) plan) in
    let begun : List Move = moved_by (served_before ring plan n) n w.0.step in
    let step : moves_from ring plan n (drop n plan) ≡ begun ++ rest =
    at_drop_more (moves_from ring plan n) plan n w.0 (slice_get_within plan n w.0 w.1) ∙ ap (λ (x : Planned). moves_from ring plan n (x ∷ drop (n + 1) plan)) (get_or_from_slice_get plan n w.0 w.0 w.1) in
    let mine : moved_by serve n t ≡ begun = moved_alike serve (served_before ring plan n) n t same ∙ ap (moved_by (served_before ring plan n) n) (sym w.2) in
    ap (λ (xs : List Move). xs ++ rest) (is ∙ ap (λ (xs : List Move). found ++ xs) mine) ∙ append_assoc found begun rest ∙ ap (λ (xs : List Move). found ++ xs) (sym step) ∙ told

pub moves-end : (ring : RingValue) (plan : List Planned) (n : ℕ) (found : List Move) → length plan ≤ n
    → found ++ moves_from ring plan n (drop n plan) ≡ moves ring plan → found ≡ moves ring plan
moves-end ring plan n found l told = sym (append-nil found) ∙ ap (λ (xs : List Move). found ++ xs) (sym (at_drop_all (moves_from ring plan n) plan n l)) ∙ told
