-- The lines of a plan's steps.
use Rattle.std.specs.Prelude.{ℕ, ◌+◌, List, [], ◌∷◌, ◌++◌, map, codes, Option, Some, None}
use Rattle.serde_json.specs.Data.{Data, Members, null, number, unsigned, string, array, object, member, no_members, put}
use Rattle.serde_json.specs.View.{items_of}
use Rattle.serde_json.specs.Written.{compact_text}
use Rattle.ring_names.specs.declared.ids.NodeId.{NodeId}
use Rattle.ring_names.specs.declared.ids.Slot.{Slot}
use Rattle.ring_table.specs.Value.{RingValue, names_of}
use Rattle.ring_table.specs.Spelling.{name_at}
use Rattle.plan_text.specs.declared.step.Source.{Source}
use Rattle.plan_text.specs.declared.step.Source.TheVariants.{Owner, Slots}
use Rattle.plan_text.specs.declared.step.Step.{Step}
use Rattle.plan_text.specs.declared.step.Step.TheVariants.{Join, Mirror, Copy, Switch, Drop, Retire}
use Rattle.plan_text.specs.declared.step.Planned.{Planned}
use Rattle.plan_stage.specs.Parties.{source_slots}
use Rattle.plan_cover.specs.declared.present.Serving.{Serving}
use Rattle.plan_moves.specs.Moves.{served_before}

-- a number
abbrev pub number_data : ℕ → Data
number_data n = number (unsigned n)

-- a node, by its name
abbrev pub node_data : List (List ℕ) → NodeId → Data
node_data names x = string (name_at names x)

-- the owners of slots that are served so
abbrev pub owners_data : List (List ℕ) → (Slot → Serving) → List Slot → Data
owners_data names serve slots = array (items_of (map (λ s. node_data names (serve s).owner) slots))

-- the mirror, if there is one
abbrev pub mirror_data : List (List ℕ) → Option NodeId → Data
mirror_data names o = elim o [ Some x ↦ node_data names x | None ↦ null ]

-- a step's object: what must be done before it and its kind, the kind's own members, and the number. The
-- members stand by name
abbrev pub node_object : List ℕ → List ℕ → ℕ → Data → Data
node_object word after n node = object (member (codes "after") (array (items_of (map number_data after))) (member (codes "do") (string word)
    (member (codes "node") node (member (codes "step") (number_data n) no_members))))

abbrev pub slot_object : List ℕ → List ℕ → ℕ → Slot → Data
slot_object word after n s = object (member (codes "after") (array (items_of (map number_data after))) (member (codes "do") (string word)
    (member (codes "partition") (number_data s.partition) (member (codes "slot") (number_data s.index) (member (codes "step") (number_data n) no_members)))))

abbrev pub drop_object : List ℕ → ℕ → Slot → Data → Data
drop_object after n s node = object (member (codes "after") (array (items_of (map number_data after))) (member (codes "do") (string (codes "drop"))
    (member (codes "node") node (member (codes "partition") (number_data s.partition) (member (codes "slot") (number_data s.index)
    (member (codes "step") (number_data n) no_members))))))

abbrev pub mirror_object : List ℕ → ℕ → Slot → Data → Data
mirror_object after n s to = object (member (codes "after") (array (items_of (map number_data after))) (member (codes "do") (string (codes "mirror"))
    (member (codes "partition") (number_data s.partition) (member (codes "slot") (number_data s.index)
    (member (codes "step") (number_data n) (member (codes "to") to no_members))))))

-- the members, with the indexes of the listed slots from which a copy reads, in the plan's order. There are
-- none more if it reads from its slot's owner
abbrev pub with_listed : Source → Members → Members
with_listed Owner ms = ms
with_listed (Slots from) ms = put (codes "slots") (array (items_of (map number_data from))) ms

abbrev pub copy_object : List ℕ → ℕ → Slot → Source → Data → Data → Data
copy_object after n s source from to = object (with_listed source (member (codes "after") (array (items_of (map number_data after)))
    (member (codes "do") (string (codes "copy")) (member (codes "from") from (member (codes "partition") (number_data s.partition)
    (member (codes "slot") (number_data s.index) (member (codes "step") (number_data n) (member (codes "to") to no_members))))))))

-- step n with what must be done before it, if the slots are served so. A copy goes from the owners of the slots
-- read to the slot's mirror, and names these slots if they are listed
abbrev pub step_data : List (List ℕ) → (Slot → Serving) → ℕ → Step → List ℕ → Data
step_data names serve n (Join x) after = node_object (codes "join") after n (node_data names x)
step_data names serve n (Mirror s x) after = mirror_object after n s (node_data names x)
step_data names serve n (Copy s source) after = copy_object after n s source (owners_data names serve (source_slots s source)) (mirror_data names (serve s).mirror)
step_data names serve n (Switch s) after = slot_object (codes "switch") after n s
step_data names serve n (Drop s x) after = drop_object after n s (node_data names x)
step_data names serve n (Retire x) after = node_object (codes "retire") after n (node_data names x)

-- the line of step n
abbrev pub line_at : RingValue → (Slot → Serving) → ℕ → Planned → List ℕ
line_at ring serve n x = compact_text (step_data (names_of ring) serve n x.step x.after) ++ 10 ∷ []

-- those of the steps from number n on
abbrev pub lines_from : RingValue → List Planned → ℕ → List Planned → List ℕ
lines_from ring plan n [] = []
lines_from ring plan n (x ∷ xs) = line_at ring (served_before ring plan n) n x ++ lines_from ring plan (n + 1) xs

-- the lines of a plan's steps, in order
abbrev pub steps_text : RingValue → List Planned → List ℕ
steps_text ring plan = lines_from ring plan 0 plan
