-- Events that are played one behind the other.
use Rattle.std.proofs.Common.{◌≡◌, ◌∙◌, ℕ, ◌+◌, List, [], ◌∷◌, ◌++◌, length, codes, append_assoc, append-nil, length-append, refl, sym, ap, subst, arith}
use Rattle.std.specs.Prelude.{Result}
use Rattle.std.specs.Fmt.{decimal}
use Rattle.std.proofs.lemmas.Grind.{flat_map-append}
use Rattle.ring_names.specs.declared.ids.NodeId.{NodeId}
use Rattle.ring_names.specs.declared.refusal.Refusal.{Refusal}
use Rattle.ring_names.proofs.Logic.{zero_plus, plus_zero}
use Rattle.texts.specs.Parts.{line_text, text_of}
use Rattle.texts.specs.Frames.{end_fields}
use Rattle.ring_table.specs.Value.{RingValue, names_of}
use Rattle.ring_table.specs.Spelling.{rows_lines}
use Rattle.plan_text.specs.declared.step.Planned.{Planned}
use Rattle.plan_runs.specs.declared.event.Event.{Event}
use Rattle.plan_runs.specs.declared.event.Reply.{Reply}
use Rattle.plan_runs.specs.Answers.{answer}
use Rattle.plan_runs.specs.World.{World as TheWorld, opening_world}
use Rattle.ring_core.specs.declared.world.World.{World}
use Rattle.ring_core.specs.Tables.{owners_now}
use Rattle.ring_core.specs.World.{ring_of, plan_of, Meets}
use Rattle.ring_script.specs.Play.{behind, said, event_line, world_after, event_lines, owners_text, play_text, table_text}
use Rattle.ring_script.specs.Steps.{Happens, Plays}

plus-one : (k : ℕ) (d : Event) (es : List Event) → (k + 1) + length es ≡ k + length (d ∷ es)
plus-one k d es = omega arith

module _ (ring : RingValue) (plan : List Planned) where
  -- the world behind one event more
  pub after_one : (w : TheWorld) (es : List Event) (e : Event) → world_after ring plan w (es ++ e ∷ []) ≡ behind (world_after ring plan w es) (answer ring plan (world_after ring plan w es) e)
  after_one w [] e = refl
  after_one w (d ∷ es) e = after_one (behind w (answer ring plan w d)) es e

  -- and its line
  pub lines_one : (w : TheWorld) (k : ℕ) (es : List Event) (e : Event)
      → event_lines ring plan w k (es ++ e ∷ []) ≡ event_lines ring plan w k es ++ event_line (k + length es) (answer ring plan (world_after ring plan w es) e)
  lines_one w k [] e = append-nil (event_line k (answer ring plan w e)) ∙ ap (λ (n : ℕ). event_line n (answer ring plan w e)) (sym (plus_zero k))
  lines_one w k (d ∷ es) e =
      let next = behind w (answer ring plan w d) in
      let line = event_line k (answer ring plan w d) in
      let last = answer ring plan (world_after ring plan next es) e in
      ap (λ (l : List ℕ). line ++ l) (lines_one next (k + 1) es e)
      ∙ (ap (λ (n : ℕ). line ++ (event_lines ring plan next (k + 1) es ++ event_line n last)) (plus-one k d es)
      ∙ sym (append_assoc line (event_lines ring plan next (k + 1) es) (event_line (k + length (d ∷ es)) last)))

-- one event more was played
pub plays_one : (start old new : World) (es : List Event) (e : Event) (before out after : List ℕ) → Plays start es old before out → Happens old e new out (length es) after → Plays start (es ++ e ∷ []) new before after
plays_one start old new es e before out after p h = record {
  ring = h.ring ∙ p.ring;
  plan = h.plan ∙ p.plan;
  puts = (let a = h.puts in let b = p.puts in let n = length-append es (e ∷ []) in omega arith);
  gets = (let a = h.gets in let b = p.gets in let n = length-append es (e ∷ []) in omega arith);
  world = λ w m. subst (λ (u : TheWorld). Meets new u) (same w) (h.world (there w) (p.world w m));
  text = λ w m. h.text (there w) (p.world w m)
      ∙ (append_assoc out (decimal (length es)) (32 ∷ said (answer (ring_of old) (plan_of old) (there w) e))
      ∙ (ap (λ (r : Result (TheWorld × Reply) Refusal). out ++ event_line (length es) r) (answered w)
      ∙ (ap (λ (l : List ℕ). l ++ event_line (length es) (answer (ring_of start) (plan_of start) (there w) e)) (p.text w m)
      ∙ (append_assoc before (event_lines (ring_of start) (plan_of start) w 0 es) (event_line (length es) (answer (ring_of start) (plan_of start) (there w) e))
      ∙ ap (λ (l : List ℕ). before ++ l) (sym (first_lines w))))));
}
  where
    there : TheWorld → TheWorld
    there w = world_after (ring_of start) (plan_of start) w es

    answered : (w : TheWorld) → answer (ring_of old) (plan_of old) (there w) e ≡ answer (ring_of start) (plan_of start) (there w) e
    answered w = ap (λ (r : RingValue). answer r (plan_of old) (there w) e) p.ring ∙ ap (λ (s : List Planned). answer (ring_of start) s (there w) e) p.plan

    first_lines : (w : TheWorld) → event_lines (ring_of start) (plan_of start) w 0 (es ++ e ∷ [])
        ≡ event_lines (ring_of start) (plan_of start) w 0 es ++ event_line (length es) (answer (ring_of start) (plan_of start) (there w) e)
    first_lines w = lines_one (ring_of start) (plan_of start) w 0 es e
        ∙ ap (λ (n : ℕ). event_lines (ring_of start) (plan_of start) w 0 es ++ event_line n (answer (ring_of start) (plan_of start) (there w) e)) (zero_plus (length es))

    same : (w : TheWorld) → behind (there w) (answer (ring_of old) (plan_of old) (there w) e) ≡ world_after (ring_of start) (plan_of start) w (es ++ e ∷ [])
    same w = ap (λ (r : Result (TheWorld × Reply) Refusal). behind (there w) r) (answered w) ∙ sym (after_one (ring_of start) (plan_of start) w es e)

-- the lines of these owners, and `end` behind them
pub table_shown : (ring : RingValue) (rows : List (List NodeId)) (b c d : List ℕ) → c ≡ b ++ text_of (rows_lines (names_of ring) 0 rows) → d ≡ c ++ (codes "end" ++ 10 ∷ []) → d ≡ b ++ table_text ring rows
table_shown ring rows b c d owners last =
    last
    ∙ (ap (λ (l : List ℕ). l ++ (codes "end" ++ 10 ∷ [])) owners
    ∙ (append_assoc b (text_of (rows_lines (names_of ring) 0 rows)) (codes "end" ++ 10 ∷ [])
    ∙ ap (λ (l : List ℕ). b ++ l) (sym (flat_map-append line_text (rows_lines (names_of ring) 0 rows) (end_fields ∷ [])))))

-- the owners that a store has are those in its world
pub owners_met : (new : World) (ring : RingValue) (rows : List (List NodeId)) → ring_of new ≡ ring → ((w : TheWorld) → Meets new w → rows ≡ owners_now (ring_of new) (plan_of new) w)
    → (w : TheWorld) → Meets new w → rows ≡ owners_now ring (plan_of new) w
owners_met new ring rows same table w m = table w m ∙ ap (λ (r : RingValue). owners_now r (plan_of new) w) same

-- `yes`, all events, and what stands behind them
pub all_shown : (start new : World) (ring : RingValue) (es : List Event) (a b d : List ℕ) → ring_of start ≡ ring → Meets start (opening_world ring) → a ≡ codes "yes" ++ 10 ∷ [] → Plays start es new a b
    → ((w : TheWorld) → Meets new w → d ≡ b ++ owners_text ring (plan_of new) w)
    → d ≡ play_text ring (plan_of start) es
unfolding play_text
all_shown start new ring es a b d same m start_text p ending =
    ending there meets
    ∙ (ap (λ (s : List Planned). b ++ owners_text ring s there) p.plan
    ∙ (ap (λ (l : List ℕ). l ++ owners_text ring (plan_of start) there) (subst (λ (r : RingValue). b ≡ a ++ event_lines r (plan_of start) opening 0 es) same (p.text opening m))
    ∙ (ap (λ (l : List ℕ). l ++ event_lines ring (plan_of start) opening 0 es ++ owners_text ring (plan_of start) there) start_text
    ∙ append_assoc (codes "yes" ++ 10 ∷ []) (event_lines ring (plan_of start) opening 0 es) (owners_text ring (plan_of start) there))))
  where
    opening : TheWorld
    opening = opening_world ring

    there : TheWorld
    there = world_after ring (plan_of start) opening es

    meets : Meets new there
    meets = subst (λ (r : RingValue). Meets new (world_after r (plan_of start) opening es)) same (p.world opening m)
