-- Reading a plan of a ring: the steps of a text, or its first fault.
use Rattle.std.specs.Prelude.{ℕ, ◌-◌, ◌==◌, ◌||◌, not, nat_lt, nat_le, List, [], ◌∷◌, ◌++◌, length, codes, Some, None, Result, Ok, Err, if◌then◌else◌}
use Rattle.std.specs.List.{list_all}
use Rattle.std.specs.Str.{bytes_eq}
use Rattle.ring_names.specs.Lists.{has}
use Rattle.ring_names.specs.declared.ids.NodeId.{NodeId}
use Rattle.ring_names.specs.declared.ids.Slot.{Slot}
use Rattle.ring_names.specs.declared.refusal.Refusal.{Refusal}
use Rattle.ring_names.specs.declared.refusal.Refusal.TheVariants.{BadLine, TooLarge, Repeated, LaterDependency}
use Rattle.texts.specs.Number.{decimal_value}
use Rattle.texts.specs.Numbers.{numbers_of, beyond, ascending}
use Rattle.texts.specs.Judging.{Item, ◌⊗◌, field_at, need_at, map_ok, map_item, whole, unless}
use Rattle.texts.specs.Left.{Left, ◌>>=◌, next_number, begins_with, first_line, one_line, then_part, map_part, whole_text}
use Rattle.texts.specs.Frames.{header_at, end_line_at}
use Rattle.ring_table.specs.Value.{RingValue, is_member}
use Rattle.ring_table.specs.Reading.{declared_at}
use Rattle.plan_text.specs.declared.step.Step.{Step}
use Rattle.plan_text.specs.declared.step.Step.TheVariants.{Join, Mirror, Copy, Switch, Drop, Retire}
use Rattle.plan_text.specs.declared.step.Source.{Source}
use Rattle.plan_text.specs.declared.step.Source.TheVariants.{Owner, Slots}
use Rattle.plan_text.specs.declared.step.Planned.{Planned}
use Rattle.plan_text.specs.Steps.{dependencies, joined, retired}

-- a number below a limit
abbrev pub judge_below : ℕ → ℕ → List ℕ → Result ℕ Refusal
judge_below k limit field = elim (decimal_value field) [ Some n ↦ if nat_lt n limit then Ok n else Err (TooLarge k) | None ↦ Err (BadLine k) ]

-- `<p> <i>`
unfoldable pub slot_at : RingValue → ℕ → Item Slot
slot_at ring k = map_item (λ x. record { partition = x.0; index = x.1 }) (field_at k (judge_below k ring.q) ⊗ field_at k (judge_below k ring.n))

-- a slot, and a declared node
unfoldable pub slot_node_at : RingValue → ℕ → Item (Slot × NodeId)
slot_node_at ring k = slot_at ring k ⊗ declared_at ring k

-- a node that was not a member, and has not joined yet
unfoldable pub joining_at : RingValue → List Planned → ℕ → Item NodeId
joining_at ring plan k fields = (
  ((declared_at ring k fields).0 >>= λ x. unless ((is_member ring.nodes x || has x.0 (joined plan), Repeated k) ∷ []) x),
  (declared_at ring k fields).1,
)

-- a node that is not retired yet
unfoldable pub retiring_at : RingValue → List Planned → ℕ → Item NodeId
retiring_at ring plan k fields = (((declared_at ring k fields).0 >>= λ x. unless ((has x.0 (retired plan), Repeated k) ∷ []) x), (declared_at ring k fields).1)

-- listed slots of a ring of n slots
abbrev pub judge_indexes : ℕ → ℕ → List ℕ → Result (List ℕ) Refusal
judge_indexes n k xs = unless (
    (length xs == 0, BadLine k)
    ∷ (not (nat_le (length xs) 7), TooLarge k)
    ∷ (not (list_all (λ i. nat_lt i n) xs), TooLarge k)
    ∷ []) xs

-- `owner`, or `slots` and the numbers behind it
unfoldable pub source_at : ℕ → ℕ → Item Source
source_at n k [] = (Err (BadLine k), [])
source_at n k (word ∷ fields) =
    if bytes_eq word (codes "owner") then (Ok Owner, fields)
    else if bytes_eq word (codes "slots") then (map_ok Slots (judge_indexes n k (numbers_of fields)), beyond fields)
    else (Err (BadLine k), fields)

-- a slot, and where its copy reads
unfoldable pub copy_at : RingValue → ℕ → Item (Slot × Source)
copy_at ring k = slot_at ring k ⊗ source_at ring.n k

-- what the step is, behind the steps of a plan
unfoldable pub kind_at : RingValue → List Planned → ℕ → Item Step
kind_at ring plan k [] = (Err (BadLine k), [])
kind_at ring plan k (word ∷ fields) =
    if bytes_eq word (codes "join") then map_item Join (joining_at ring plan k) fields
    else if bytes_eq word (codes "mirror") then map_item (λ x. Mirror x.0 x.1) (slot_node_at ring k) fields
    else if bytes_eq word (codes "copy") then map_item (λ x. Copy x.0 x.1) (copy_at ring k) fields
    else if bytes_eq word (codes "switch") then map_item Switch (slot_at ring k) fields
    else if bytes_eq word (codes "drop") then map_item (λ x. Drop x.0 x.1) (slot_node_at ring k) fields
    else if bytes_eq word (codes "retire") then map_item Retire (retiring_at ring plan k) fields
    else (Err (BadLine k), fields)

-- steps that the next one of a plan waits for
abbrev pub judge_after : List Planned → ℕ → List ℕ → Result (List ℕ) Refusal
judge_after plan k xs = unless (
    (length xs == 0, BadLine k)
    ∷ (not (ascending xs), BadLine k)
    ∷ (not (nat_le (length xs) 4096), TooLarge k)
    ∷ (not (nat_le (length xs) (524288 - dependencies plan)), TooLarge k)
    ∷ (not (list_all (λ x. nat_lt x 4294967296) xs), TooLarge k)
    ∷ (not (list_all (λ x. nat_lt x (length plan)) xs), LaterDependency k)
    ∷ []) xs

-- nothing, or `after` and the numbers behind it
unfoldable pub after_at : List Planned → ℕ → Item (List ℕ)
after_at plan k [] = (Ok [], [])
after_at plan k (word ∷ fields) =
    if bytes_eq word (codes "after") then (judge_after plan k (numbers_of fields), beyond fields)
    else (Err (BadLine k), fields)

-- the next step of a plan, and the steps that it waits for
unfoldable pub said_at : RingValue → List Planned → ℕ → List (List ℕ) → Result (Step × List ℕ) Refusal
said_at ring plan k fields = map_ok (λ x. (x.0.1, x.1)) (whole k (need_at k (nat_lt (length plan) 131072) ⊗ kind_at ring plan k ⊗ after_at plan k) fields)

-- a step with the steps that it waits for
abbrev pub planned_of : Step × List ℕ → Planned
planned_of x = record { step = x.0; after = x.1 }

-- the same as a step of a plan
abbrev pub step_at : RingValue → List Planned → ℕ → List (List ℕ) → Result Planned Refusal
step_at ring plan k fields = map_ok planned_of (said_at ring plan k fields)

-- steps behind those seen, up to a line that begins with `end`
abbrev pub steps_from : RingValue → List Planned → ℕ → List (List (List ℕ)) → Result (List Planned × Left) Refusal
steps_from ring seen k [] = Err (BadLine k)
steps_from ring seen k (line ∷ more) = if begins_with (codes "end") (line ∷ more)
    then Ok (seen, record { line = k; lines = line ∷ more })
    else (first_line k (line ∷ more) >>= λ _. step_at ring seen k line >>= λ x. steps_from ring (seen ++ x ∷ []) (next_number k) more)

-- the steps of a plan, from the first on
unfoldable pub steps_at : RingValue → Left → Result (List Planned × Left) Refusal
steps_at ring s = steps_from ring [] s.line s.lines

-- the lines of a plan, one part behind the other
unfoldable pub plan_at : RingValue → Left → Result (List Planned × Left) Refusal
plan_at ring = map_part (λ (x : Unit {0} × (List Planned × Unit {0})). x.1.0)
    (then_part (one_line (header_at (codes "plan") (codes "1"))) (λ _.
    then_part (steps_at ring) (λ _.
    one_line end_line_at)))

-- a whole text
abbrev pub plan_reading : RingValue → List ℕ → Result (List Planned) Refusal
plan_reading ring text = whole_text (plan_at ring) text
