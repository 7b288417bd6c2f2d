-- How many open copies a node takes part in, by the slots and steps that are kept.
use Rattle.std.proofs.Common.{◌≡◌, ◌∙◌, ℕ, ◌<◌, Bool, true, false, List, [], ◌∷◌, length, map, refl, ap, lt-ltb}
use Rattle.std.specs.Prelude.{◌==◌, nat_lt, Option, Some, None, option_and_then}
use Rattle.std.specs.List.{list_any, list_all}
use Rattle.std.proofs.lemmas.Bool.{and_parts, and_from}
use Rattle.ring_names.specs.declared.ids.NodeId.{NodeId}
use Rattle.ring_names.specs.declared.ids.Slot.{Slot}
use Rattle.ring_table.specs.declared.allowance.Side.{Side}
use Rattle.ring_table.specs.declared.allowance.Side.TheVariants.{Both, Take, Give}
use Rattle.ring_table.specs.Value.{RingValue}
use Rattle.plan_text.specs.declared.step.Source.{Source}
use Rattle.plan_text.specs.declared.step.Source.TheVariants as source
use Rattle.plan_text.specs.declared.step.Step.{Step}
use Rattle.plan_text.specs.declared.step.Step.TheVariants as step
use Rattle.plan_text.specs.declared.step.Planned.{Planned}
use Rattle.plan_text.specs.Steps.{copy_of}
use Rattle.plan_text.specs.Valid.{is_ring_slot, source_suits}
use Rattle.plan_stage.specs.Each.{step_at}
use Rattle.plan_stage.specs.Parties.{source_slots}
use Rattle.plan_check.specs.Safe.{open_copies, is_open_copy, takes_part_now, gives_now}
use Rattle.plan_runs.specs.World.{World, passing_below, stage_now, mirrors}
use Rattle.store_parts.specs.declared.slots.SlotNow.{SlotNow}
use Rattle.store_parts.proofs.PutsTests.{same_passing}
use Rattle.store_parts.proofs.StageSuits.{step_suiting}
use Rattle.store_parts.specs.Kept.{Kept, Tells}
use Rattle.store_parts.proofs.StoreInWorld.{slot_there, suits_of}
use Rattle.ring_core.specs.Transfers.{owns_kept, mirrors_kept, part_kept, is_open_kept}
use Rattle.plan_runs.proofs.Suited.{within}

-- whether one of the slots of these indexes passes
pub any_index : (f : Slot → Bool) (p : ℕ) (from : List ℕ) → list_any f (map (λ i. record { partition = p; index = i }) from) ≡ list_any (λ i. f (record { partition = p; index = i })) from
any_index f p [] = refl
any_index f p (i ∷ from) = rw (any_index f p from) refl

module _ (ring : RingValue) (plan : List Planned) (k : Kept) (w : World) (m : Tells ring plan k w) (x : ℕ) where
  owns_told : (t : Slot) → is_ring_slot ring t ≡ true → owns_kept k.rows x t ≡ (x == (stage_now ring plan w t).owner.0)
  owns_told t e =
      let there = slot_there ring plan k w m t e in
      ap (λ (o : Option SlotNow). elim o [ Some a ↦ x == a.owner.0 | None ↦ false ]) there.1 ∙ ap (λ (o : NodeId). x == o.0) there.2.owner

  mirrors_told : (t : Slot) → is_ring_slot ring t ≡ true → mirrors_kept k.rows x t ≡ mirrors (stage_now ring plan w t) x
  mirrors_told t e =
      let there = slot_there ring plan k w m t e in
      ap (λ (o : Option SlotNow). elim o [ Some a ↦ elim a.mirror [ Some y ↦ x == y.0 | None ↦ false ] | None ↦ false ]) there.1
      ∙ ap (λ (o : Option NodeId). elim o [ Some y ↦ x == y.0 | None ↦ false ]) there.2.mirror

  listed_told : (slot : Slot) (from : List ℕ) → slot.partition < ring.q → list_all (λ i. nat_lt i ring.n) from ≡ true
      → list_any (owns_kept k.rows x) (source_slots slot (source.Slots from)) ≡ list_any (λ t. x == (stage_now ring plan w t).owner.0) (source_slots slot (source.Slots from))
  listed_told slot [] l e = refl
  listed_told slot (i ∷ from) l e =
      let b = and_parts (nat_lt i ring.n) (list_all (λ j. nat_lt j ring.n) from) e in
      let one = owns_told (record { partition = slot.partition; index = i }) (and_from (nat_lt slot.partition ring.q) (nat_lt i ring.n) (lt-ltb slot.partition ring.q l) b.0) in
      let more = listed_told slot from l b.1 in
      rw (one, more) refl

  gives_told : (slot : Slot) (from : Source) → is_ring_slot ring slot ≡ true → source_suits ring from ≡ true → list_any (owns_kept k.rows x) (source_slots slot from) ≡ gives_now ring plan w x slot from
  gives_told slot source.Owner e s = rw (owns_told slot e) refl
  gives_told slot (source.Slots from) e s = listed_told slot from (within ring slot e).0 s

  part_told : (side : Side) (slot : Slot) (from : Source) → is_ring_slot ring slot ≡ true → source_suits ring from ≡ true → part_kept k.rows x side slot from ≡ takes_part_now ring plan w x side slot from
  part_told Both slot from e s = rw (mirrors_told slot e, gives_told slot from e s) refl
  part_told Take slot from e s = mirrors_told slot e
  part_told Give slot from e s = gives_told slot from e s

  copy_told : (side : Side) (n : ℕ) (o : Option Step) → step_at plan n ≡ o
      → ◌≡◌ {A = Bool} (elim (option_and_then copy_of o) [ Some c ↦ part_kept k.rows x side c.0 c.1 | None ↦ false ]) (elim (option_and_then copy_of o) [ Some c ↦ takes_part_now ring plan w x side c.0 c.1 | None ↦ false ])
  copy_told side n None at = refl
  copy_told side n (Some (step.Join y)) at = refl
  copy_told side n (Some (step.Mirror s y)) at = refl
  copy_told side n (Some (step.Copy s from)) at =
      let b = and_parts (is_ring_slot ring s) (source_suits ring from) (step_suiting ring plan (suits_of ring plan k w m) n (step.Copy s from) at) in
      part_told side s from b.0 b.1
  copy_told side n (Some (step.Switch s)) at = refl
  copy_told side n (Some (step.Drop s y)) at = refl
  copy_told side n (Some (step.Retire y)) at = refl

  -- the count is that of the world
  pub transfers_told : (side : Side) → length (passing_below (length plan) (is_open_kept plan k.steps k.rows x side)) ≡ open_copies plan w (takes_part_now ring plan w x side)
  transfers_told side = ap (λ (ns : List ℕ). length ns) (same_passing (length plan) (is_open_kept plan k.steps k.rows x side) (is_open_copy plan w (takes_part_now ring plan w x side)) (λ n l. (
      let opened = m.steps.is_open n in
      let copied = copy_told side n (step_at plan n) refl in
      rw (opened, copied) refl)))
