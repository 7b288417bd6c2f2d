-- The nodes that one step more touches.
use Rattle.std.proofs.Common.{◌≡◌, ◌∙◌, ℕ, ◌+◌, true, List, [], ◌∷◌, map, drop, Some, refl, sym, ap}
use Rattle.std.specs.Prelude.{Bool, ◌&&◌, option_map, slice_get}
use Rattle.std.proofs.lemmas.List.{at_drop_more}
use Rattle.std.proofs.lemmas.Option.{get_or_from_slice_get, slice_get_within}
use Rattle.ring_names.specs.declared.ids.NodeId.{NodeId}
use Rattle.ring_names.specs.declared.ids.Slot.{Slot}
use Rattle.ring_table.specs.Value.{RingValue}
use Rattle.plan_text.specs.declared.step.Step.{Step}
use Rattle.plan_text.specs.declared.step.Step.TheVariants.{Join, Mirror, Copy, Switch, Drop, Retire}
use Rattle.plan_text.specs.declared.step.Planned.{Planned}
use Rattle.plan_stage.specs.Parties.{stage_before, source_slots}
use Rattle.plan_cover.specs.declared.present.Serving.{Serving}
use Rattle.plan_cover.specs.Looking.Serving.{serving_of}
use Rattle.plan_cover.proofs.Served.{whole}
use Rattle.plan_moves.specs.Moves.{served_before}
use Rattle.plan_goal.specs.Reached.{touched, are_spared, spares_from, spares}

owners-alike : (f g : Slot → Serving) (slots : List Slot) → ((slot : Slot) → f slot ≡ g slot) → map (λ (t : Slot). (f t).owner) slots ≡ map (λ (t : Slot). (g t).owner) slots
owners-alike f g [] same = refl
owners-alike f g (s ∷ ss) same = (let one : (f s).owner ≡ (g s).owner = ap (λ (v : Serving). v.owner) (same s) in rw (one, owners-alike f g ss same) refl)

-- what a step touches depends only on who serves the slots
touched-alike : (f g : Slot → Serving) (t : Step) → ((slot : Slot) → f slot ≡ g slot) → touched f t ≡ touched g t
touched-alike f g (Join x) same = refl
touched-alike f g (Mirror s x) same = refl
touched-alike f g (Copy s from) same = owners-alike f g (source_slots s from) same
touched-alike f g (Switch s) same = refl
touched-alike f g (Drop s x) same = refl
touched-alike f g (Retire x) same = refl

pub spares-next : (ring : RingValue) (plan : List Planned) (dead : List NodeId) (n : ℕ) (t : Step) (serve : Slot → Serving)
    → option_map (λ (x : Planned). x.step) (slice_get plan n) ≡ Some t → ((s : Slot) → serve s ≡ serving_of (stage_before ring plan s n))
    → are_spared dead (touched serve t) ≡ true → spares_from ring plan dead n (drop n plan) ≡ spares ring plan dead
    → spares_from ring plan dead (n + 1) (drop (n + 1) plan) ≡ spares ring plan dead
spares-next ring plan dead n t serve at same spared told =
    let w = whole (slice_get plan n) t at in
    let rest : Bool = spares_from ring plan dead (n + 1) (drop (n + 1) plan) in
    let here : Bool = are_spared dead (touched (served_before ring plan n) w.0.step) in
    let step : spares_from ring plan dead n (drop n plan) ≡ (here && rest) =
    at_drop_more (spares_from ring plan dead n) plan n w.0 (slice_get_within plan n w.0 w.1) ∙ ap (λ (x : Planned). spares_from ring plan dead n (x ∷ drop (n + 1) plan)) (get_or_from_slice_get plan n w.0 w.0 w.1) in
    let is : here ≡ true =
    ap (λ (xs : List NodeId). are_spared dead xs) (ap (touched (served_before ring plan n)) w.2 ∙ sym (touched-alike serve (served_before ring plan n) t same)) ∙ spared in
    let one : (here && rest) ≡ rest = rw is refl in
    sym one ∙ sym step ∙ told
