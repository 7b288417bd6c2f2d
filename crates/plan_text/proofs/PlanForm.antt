-- A plan of a ring as one form: what is read, how it is spelled and what is allowed.
use Rattle.std.proofs.Common.{◌≡◌, ℕ, ◌≤◌, Bool, true, false, not, nat_lt, nat_le, ◌||◌, List, [], ◌∷◌, ◌++◌, length, codes, refl, ap, ◌∙◌, ◌-◌, arith, rules, ◌==◌}
use Rattle.std.specs.List.{list_all}
use Rattle.std.proofs.lemmas.Bool.{eqb-false, not-false}
use Rattle.plan_text.proofs.Terms.{has, NodeId, Slot, RingValue, names_of, is_member, IsRing, name_at, Step, Join, Mirror, Copy, Switch, Drop, Retire, Source, Owner, Slots, Planned, planned_of, dependencies}
use Rattle.plan_text.proofs.Terms.{joined, retired, kind_fields, after_fields, step_fields}
use Rattle.texts.proofs.Forms.{IsPlain, Any, Always, Last, Free, Passes, Steps, pushed, Begins, begins_so, is_word, has_field, Form, LineForm, Section, Case, Chosen, case_of, choice_at, choice, optional_at, optional, anywhere, pair, both}
use Rattle.texts.proofs.Forms.{mapped, room, judged, free_row, row, line, line_as, until, no-line, goes_on, turned, then, made, header, ending, Refusal, BadLine, TooLarge, Repeated, ascending, are_small}
use Rattle.ring_names.specs.declared.refusal.Refusal.TheVariants.{LaterDependency}
use Rattle.ring_table.proofs.LineLaws.{space-le}
use Rattle.ring_table.proofs.NodesLaws.{node_form}
use Rattle.plan_text.specs.Spelling.{slot_fields, source_fields}
use Rattle.plan_text.specs.Reading.{slot_at, slot_node_at, joining_at, retiring_at, source_at, copy_at, kind_at, after_at, said_at, steps_from}
use Rattle.plan_text.proofs.Below.{below, below_all}

pub words-plain : IsPlain (codes "plan") × IsPlain (codes "1") × IsPlain (codes "join") × IsPlain (codes "mirror") × IsPlain (codes "copy")
    × IsPlain (codes "switch") × IsPlain (codes "drop") × IsPlain (codes "retire") × IsPlain (codes "owner") × IsPlain (codes "slots") × IsPlain (codes "after")
words-plain = (search rules)

pub said-planned : (x : Planned) → (v : Step × List ℕ) × (planned_of v ≡ x)
said-planned x = ((x.step, x.after), refl)

-- a step begins with a word that is not `end`
pub step-word : (names : List (List ℕ)) (s : Step) → (w : List ℕ) × (fs : List (List ℕ)) × (kind_fields names s ≡ w ∷ fs) × (is_word (codes "end") w ≡ false)
step-word names (Join x) = (codes "join", name_at names x ∷ [], refl, refl)
step-word names (Mirror s x) = (codes "mirror", slot_fields s ++ name_at names x ∷ [], refl, refl)
step-word names (Copy s from) = (codes "copy", slot_fields s ++ source_fields from, refl, refl)
step-word names (Switch s) = (codes "switch", slot_fields s, refl, refl)
step-word names (Drop s x) = (codes "drop", slot_fields s ++ name_at names x ∷ [], refl, refl)
step-word names (Retire x) = (codes "retire", name_at names x ∷ [], refl, refl)

-- no number follows where the step waits for none, and none begins what it waits for
pub after-free : (xs : List ℕ) (rest : List (List ℕ)) → Last rest → Free (after_fields xs ++ rest)
after-free [] rest last = rw last (refl, refl)
after-free (x ∷ xs) rest last = (refl, refl)

module _ (ring : RingValue) where
  pub small : IsRing ring → (ring.q ≤ 4294967296) × (ring.n ≤ 4294967296)
  small r = (omega (arith, space-le ring.q r.space), omega (arith, r.slots))

  -- a slot of the ring
  abbrev pub slot_form : Form (IsRing ring) Always Slot
  slot_form = mapped Always (λ x. record { partition = x.0; index = x.1 }) (λ s. (s.partition, s.index)) (λ x. refl) (λ y. refl)
      (both Always (below ring.q (λ r. (small r).0)) (below ring.n (λ r. (small r).1)))

  -- a slot and a node
  abbrev pub slot_node_form : Form (IsRing ring) Always (Slot × NodeId)
  slot_node_form = both Always slot_form (node_form ring)

  -- a node, unless the test is so
  abbrev pub new_form : (NodeId → Bool) → Form (IsRing ring) Always NodeId
  new_form test = judged Always (λ k x. (test x, Repeated k) ∷ []) (λ k m x p. p) (λ x. x) (λ y. y) (λ x. refl) (λ y. refl) (node_form ring) (λ k x. (refl, tt))

  -- ---- what a copy reads

  -- what listed slots must pass
  abbrev pub index_tests : ℕ → List ℕ → List (Bool × Refusal)
  index_tests k xs = (length xs == 0, BadLine k) ∷ (not (nat_le (length xs) 7), TooLarge k) ∷ (not (list_all (λ i. nat_lt i ring.n) xs), TooLarge k) ∷ []

  -- what a copy may read
  abbrev pub SourceFits : Source → Type 0
  SourceFits Owner = Unit {0}
  SourceFits (Slots xs) = Passes (index_tests 0 xs)

  -- what a copy reads, after its word
  abbrev SourceCase : Type 1
  SourceCase = Case (IsRing ring) Free Source source_fields SourceFits

  -- the slot's owner
  abbrev pub owner_case : SourceCase
  owner_case = case_of (codes "owner") words-plain.8 (anywhere Free (room true)) (λ _. Owner) (λ x. refl) (λ x p. tt) (λ x p. refl)

  -- listed slots
  abbrev pub slots_case : SourceCase
  slots_case = case_of (codes "slots") words-plain.9 (free_row index_tests (λ k m xs p. p)
      (λ r xs p. below_all 4294967296 ring.n xs (small r).1 (not-false _ p.1.1.0)) (λ k xs. (refl, (refl, (refl, tt)))))
      Slots (λ x. refl) (λ x p. p) (λ x p. p)

  -- in the order in which a reader tries them
  abbrev pub source_cases : List SourceCase
  source_cases = owner_case ∷ slots_case ∷ []

  pub source-same : (k : ℕ) (fields : List (List ℕ)) → source_at ring.n k fields ≡ choice_at source_cases k fields
  unfolding source_at
  source-same k [] = refl
  source-same k (w ∷ fields) = refl

  pub source-case : (v : Source) → Chosen source_cases v
  source-case Owner = record { case = owner_case; part = tt; is = refl; first = λ k fields. refl }
  source-case (Slots xs) = record { case = slots_case; part = xs; is = refl; first = λ k fields. refl }

  -- what a copy reads
  abbrev pub source_form : Form (IsRing ring) Free Source
  source_form = choice source_cases (source_at ring.n) source-same source-case

  module _ (seen : List Planned) where
    -- ---- what a step is

    -- a node that may join
    abbrev pub join_form : Form (IsRing ring) Always NodeId
    join_form = new_form (λ x. is_member ring.nodes x || has x.0 (joined seen))

    -- a node that may retire
    abbrev pub retire_form : Form (IsRing ring) Always NodeId
    retire_form = new_form (λ x. has x.0 (retired seen))

    -- what a step may be, after those seen
    abbrev pub StepFits : Step → Type 0
    StepFits (Join x) = join_form.allowed x
    StepFits (Mirror s x) = slot_node_form.allowed (s, x)
    StepFits (Copy s from) = slot_form.allowed s × SourceFits from
    StepFits (Switch s) = slot_form.allowed s
    StepFits (Drop s x) = slot_node_form.allowed (s, x)
    StepFits (Retire x) = retire_form.allowed x

    -- a step, after its word
    abbrev StepCase : Type 1
    StepCase = Case (IsRing ring) Free Step (kind_fields (names_of ring)) StepFits

    -- the six of them
    abbrev pub step_kinds : StepCase × StepCase × StepCase × StepCase × StepCase × StepCase
    step_kinds = (
      case_of (codes "join") words-plain.2 (anywhere Free join_form) Join (λ x. refl) (λ x p. p) (λ x p. p),
      case_of (codes "mirror") words-plain.3 (anywhere Free slot_node_form) (λ x. Mirror x.0 x.1) (λ x. refl) (λ x p. p) (λ x p. p),
      case_of (codes "copy") words-plain.4 (both Free slot_form source_form) (λ x. Copy x.0 x.1) (λ x. refl) (λ x p. p) (λ x p. p),
      case_of (codes "switch") words-plain.5 (anywhere Free slot_form) Switch (λ x. refl) (λ x p. p) (λ x p. p),
      case_of (codes "drop") words-plain.6 (anywhere Free slot_node_form) (λ x. Drop x.0 x.1) (λ x. refl) (λ x p. p) (λ x p. p),
      case_of (codes "retire") words-plain.7 (anywhere Free retire_form) Retire (λ x. refl) (λ x p. p) (λ x p. p),
    )

    -- in the order in which a reader tries them
    abbrev pub step_cases : List StepCase
    step_cases = step_kinds.0 ∷ step_kinds.1 ∷ step_kinds.2 ∷ step_kinds.3 ∷ step_kinds.4 ∷ step_kinds.5 ∷ []

    pub step-same : (k : ℕ) (fields : List (List ℕ)) → kind_at ring seen k fields ≡ choice_at step_cases k fields
    unfolding kind_at copy_at slot_node_at slot_at joining_at retiring_at
    step-same k [] = refl
    step-same k (w ∷ fields) = refl

    pub step-case : (v : Step) → Chosen step_cases v
    step-case (Join x) = record { case = step_kinds.0; part = x; is = refl; first = λ k fields. refl }
    step-case (Mirror s x) = record { case = step_kinds.1; part = (s, x); is = refl; first = λ k fields. refl }
    step-case (Copy s from) = record { case = step_kinds.2; part = (s, from); is = refl; first = λ k fields. refl }
    step-case (Switch s) = record { case = step_kinds.3; part = s; is = refl; first = λ k fields. refl }
    step-case (Drop s x) = record { case = step_kinds.4; part = (s, x); is = refl; first = λ k fields. refl }
    step-case (Retire x) = record { case = step_kinds.5; part = x; is = refl; first = λ k fields. refl }

    -- what a step is
    abbrev pub kind_form : Form (IsRing ring) Free Step
    kind_form = choice step_cases (kind_at ring seen) step-same step-case

    -- ---- what it waits for

    -- what the steps that it waits for must pass
    abbrev pub after_tests : ℕ → List ℕ → List (Bool × Refusal)
    after_tests k xs = (length xs == 0, BadLine k) ∷ (not (ascending xs), BadLine k) ∷ (not (nat_le (length xs) 4096), TooLarge k)
        ∷ (not (nat_le (length xs) (524288 - dependencies seen)), TooLarge k) ∷ (not (are_small xs), TooLarge k)
        ∷ (not (list_all (λ x. nat_lt x (length seen)) xs), LaterDependency k) ∷ []

    -- the steps that it waits for
    abbrev pub numbers_form : Form (IsRing ring) Last (List ℕ)
    numbers_form = row after_tests (λ k m xs p. p) (λ r xs p. not-false (are_small xs) p.1.1.1.1.0) (λ k xs. (refl, (refl, (refl, (refl, (refl, (refl, tt)))))))

    pub after-same : (k : ℕ) (fields : List (List ℕ)) → after_at seen k fields ≡ optional_at (codes "after") numbers_form k fields
    unfolding after_at
    after-same k [] = refl
    after-same k (w ∷ fields) = refl

    -- none, or `after` and some
    abbrev pub after_form : Form (IsRing ring) Last (List ℕ)
    after_form = optional (codes "after") words-plain.10 numbers_form (λ p. eqb-false 0 0 p.0 refl) (after_at seen) after-same after_fields refl (λ x xs. refl)

    -- ---- the line of a step

    -- what may be the next step
    abbrev pub IsNextStep : Planned → Type 0
    IsNextStep x = ((nat_lt (length seen) 131072 ≡ true) × StepFits x.step) × after_form.allowed x.after

    -- what a line says
    abbrev pub said_line : LineForm (IsRing ring) (Step × List ℕ)
    said_line = line Last refl (λ x. (x.0.1, x.1)) (λ y. ((tt {0}, y.0), y.1)) (λ x. refl) (λ y. refl)
        (pair Free Last (both Free (room (nat_lt (length seen) 131072)) kind_form) after_form after-free)
        (λ x. ap (λ (l : List (List ℕ)). has_field (l ++ after_fields x.1)) (step-word (names_of ring) x.0.1).2)

    -- the step that it says
    abbrev pub step_line : LineForm (IsRing ring) Planned
    step_line = line_as (step_fields (names_of ring)) IsNextStep planned_of said-planned said_line (λ x. refl) (λ x p. p) (λ x p. p)

  -- ---- the lines of a plan

  pub steps-loop : Steps (goes_on (is_word (codes "end"))) (λ seen. (step_line seen).read) pushed (steps_from ring)
  unfolding said_at
  steps-loop seen k fields more = turned (begins_so (is_word (codes "end")) (fields ∷ more)) _ _

  -- steps, up to a line that begins with `end`
  abbrev pub steps_form : Section (IsRing ring) (Begins (is_word (codes "end"))) (List Planned)
  steps_form = until (is_word (codes "end")) (step_fields (names_of ring)) step_line (steps_from ring) steps-loop (λ seen k. no-line k) (λ seen x. refl)
      (λ r seen x more p. let w = step-word (names_of ring) x.step in
      ap (λ (l : List (List ℕ)). begins_so (is_word (codes "end")) ((l ++ after_fields x.after) ∷ more)) w.2 ∙ w.3)

  -- all lines of a plan
  abbrev pub plan_form : Section (IsRing ring) Any (List Planned)
  plan_form = made Any (λ x. x.1.0) (λ v. (tt, (v, tt))) (λ x. refl) (λ y. refl)
      (then Any Any (header (codes "plan") (codes "1") words-plain.0 words-plain.1)
      (λ _. then (Begins (is_word (codes "end"))) Any steps_form (λ _. ending) (λ r x y l ls p q d. refl)) (λ r x y l ls p q d. tt))
