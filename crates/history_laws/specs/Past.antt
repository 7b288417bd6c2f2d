-- The same past by another plan.
use Rattle.std.specs.Prelude.{◌≡◌, ◌⊎◌, ℕ, Bool, true, false, not, ◌&&◌, ◌||◌, List, [], ◌∷◌, ◌++◌, Option, Some, None, MatchOption, is_some, option_map, option_and_then, unwrap_or, slice_get}
use Rattle.std.specs.List.{list_all}
use Rattle.ring_names.specs.declared.ids.NodeId.{NodeId}
use Rattle.ring_names.specs.declared.ids.Slot.{Slot}
use Rattle.plan_text.specs.declared.step.Step.{Step}
use Rattle.plan_text.specs.declared.step.Planned.{Planned}
use Rattle.plan_text.specs.Steps.{is_slot, mirror_of}
use Rattle.plan_stage.specs.Each.{step_at}
use Rattle.plan_runs.specs.declared.event.Event.{Event}
use Rattle.plan_runs.specs.declared.event.Event.TheVariants.{Do, OpenCopy, ChunkCopy, CloseCopy, AbortCopy, Write}
use Rattle.plan_runs.specs.declared.event.Entry.{Entry}
use Rattle.plan_runs.specs.declared.event.Reply.{Reply}
use Rattle.plan_runs.specs.declared.event.Reply.TheVariants.{Ticket}
use Rattle.plan_runs.specs.declared.back.Back.{Back}
use Rattle.plan_runs.specs.declared.back.Back.TheVariants.{Never, Allowed}

-- the step's number in the other plan, if it has one
abbrev pub number_in : List (Option ℕ) → ℕ → Option ℕ
number_in numbers n = unwrap_or (slice_get numbers n) None

-- the slot and the node of step n, where it sets a mirror
abbrev pub mirror_in : List Planned → ℕ → Option (Slot × NodeId)
mirror_in plan n = option_and_then mirror_of (step_at plan n)

-- whether mirrors may be undone
abbrev pub allows : Back → Bool
allows Never = false
allows Allowed = true

-- ---- steps

-- step k in the one plan is step n in the other, with the same kind, slot, sources and node
abbrev pub AreSame : List Planned → List Planned → ℕ → ℕ → Type 0
AreSame old new k n = (s : Step) × (step_at old k ≡ Some s) × (step_at new n ≡ Some s)

-- if step k has a number in the other plan, the step of that number is the same. No other step has that number
abbrev pub Keeps : List Planned → List Planned → List (Option ℕ) → List ℕ → ℕ → Type 0
Keeps old new numbers olds k = (n : ℕ) → number_in numbers k ≡ Some n → AreSame old new k n × (slice_get olds n ≡ Some k)

-- whether the event is a step's
abbrev pub is_of_step : Event → Bool
is_of_step (Do n) = true
is_of_step (OpenCopy n) = true
is_of_step (ChunkCopy n c) = true
is_of_step (CloseCopy n) = true
is_of_step (AbortCopy n) = true
is_of_step e = false

-- the event by the number that its step has in the other plan; none where it has none
abbrev pub renamed : List (Option ℕ) → Event → Option Event
renamed numbers (Do n) = option_map Do (number_in numbers n)
renamed numbers (OpenCopy n) = option_map OpenCopy (number_in numbers n)
renamed numbers (ChunkCopy n c) = option_map (λ m. ChunkCopy m c) (number_in numbers n)
renamed numbers (CloseCopy n) = option_map CloseCopy (number_in numbers n)
renamed numbers (AbortCopy n) = option_map AbortCopy (number_in numbers n)
renamed numbers e = Some e

-- whether the event may go if its step has no number. No done copy goes, and of the other steps only a mirror,
-- if that is allowed
abbrev pub may_go : Back → List Planned → List (Option ℕ) → Event → Bool
may_go back old numbers (Do n) = is_some (number_in numbers n) || (allows back && is_some (mirror_in old n))
may_go back old numbers (CloseCopy n) = is_some (number_in numbers n)
may_go back old numbers e = true

-- ---- undone mirrors

-- whether step n sets a mirror of the slot
abbrev pub sets_mirror : List Planned → ℕ → Slot → Bool
sets_mirror plan n s = elim (mirror_in plan n) [ Some m ↦ is_slot s m.0 | None ↦ false ]

-- the slots with an undone mirror, after an event: a mirror without a number is undone there
abbrev pub taken_after : List Planned → List (Option ℕ) → (Slot → Bool) → Event → Slot → Bool
taken_after old numbers taken (Do n) s = (not (is_some (number_in numbers n)) && sets_mirror old n s) || taken s
taken_after old numbers taken e s = taken s

-- ---- entries

-- another ticket of a slot with an undone mirror
abbrev pub IsOtherTicket : (Slot → Bool) → Reply → Reply → Type 0
IsOtherTicket taken (Ticket s g) (Ticket t h) = (t ≡ s) × (taken s ≡ true)
IsOtherTicket taken r q = ⊥

-- a reply is told by an equal one, or by such a ticket
abbrev pub TellsReply : (Slot → Bool) → Reply → Reply → Type 0
TellsReply taken r q = (q ≡ r) ⊎ IsOtherTicket taken r q

-- whether the entry is a write that got a ticket
abbrev pub is_write : Entry → Bool
is_write x = writes x.event && is_ticket x.reply
  where
    writes : Event → Bool
    writes (Write v i) = true
    writes e = false

    is_ticket : Reply → Bool
    is_ticket (Ticket s g) = true
    is_ticket r = false

-- in the place of a chunk that is left out there may be writes, and nothing in the place of another event
abbrev pub StandFor : Event → List Entry → Type 0
StandFor (ChunkCopy n c) told = list_all is_write told ≡ true
StandFor e told = told ≡ []

-- the entry is told by these: by its event in the other plan, with a reply that tells its reply. An entry that
-- is left out is told by what stands in its place
abbrev pub IsToldBy : List (Option ℕ) → (Slot → Bool) → Entry → List Entry → Type 0
IsToldBy numbers taken x told = MatchOption (renamed numbers x.event) (StandFor x.event told)
    (λ e. (r : Reply) × (told ≡ record { event = e; reply = r } ∷ []) × TellsReply taken x.reply r)

-- ---- histories

-- the later history tells the earlier one entry by entry, if mirrors of these slots were undone before
abbrev pub Tells : List Planned → List (Option ℕ) → (Slot → Bool) → List Entry → List Entry → Type 0
Tells old numbers taken [] later = later ≡ []
Tells old numbers taken (x ∷ xs) later = (told rest : List Entry) × (later ≡ told ++ rest) × IsToldBy numbers taken x told
    × Tells old numbers (taken_after old numbers taken x.event) xs rest

-- the later history tells the earlier one by another plan. Steps are renamed one to one, each to the same step.
-- Entries of copies that are not done may be left out. If that is allowed, so may those of mirrors, and later
-- tickets of such slots may be others. Writes may stand in the place of chunks that are left out
pub record IsSamePast (back : Back) (old new : List Planned) (earlier later : List Entry) : Type 0 where
  pub numbers : List (Option ℕ)
  pub same : (k n : ℕ) → number_in numbers k ≡ Some n → AreSame old new k n
  pub once : (j k n : ℕ) → number_in numbers j ≡ Some n → number_in numbers k ≡ Some n → j ≡ k
  pub gone : list_all (λ x. may_go back old numbers x.event) earlier ≡ true
  pub told : Tells old numbers (λ s. false) earlier later
