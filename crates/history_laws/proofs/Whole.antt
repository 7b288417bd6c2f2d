-- A history whose parts are runs is a run.
use Rattle.std.proofs.Common.{◌≡◌, inl, inr, ◌∙◌, ℕ, zero, suc, ◌<◌, Bool, true, false, not, cond, List, [], ◌∷◌, length, map, refl, sym, ap, subst, arith, ltb-true}
use Rattle.std.specs.Prelude.{nat_lt, nat_le, Option, Some, None, Ok, slice_get}
use Rattle.std.specs.Str.{bytes_eq}
use Rattle.std.specs.List.{list_all}
use Rattle.std.proofs.lemmas.Bool.{and_parts, or_left, or_right, cases_lt, le-leb, not-true}
use Rattle.ring_names.specs.declared.ids.Slot.{Slot}
use Rattle.ring_space.specs.Place.{place_of}
use Rattle.ring_table.specs.Value.{RingValue}
use Rattle.plan_text.specs.declared.step.Source.{Source}
use Rattle.plan_text.specs.declared.step.Step.{Step}
use Rattle.plan_text.specs.declared.step.Step.TheVariants as step
use Rattle.plan_text.specs.declared.step.Planned.{Planned}
use Rattle.plan_stage.specs.Each.{step_at}
use Rattle.plan_stage.specs.Clauses.{first_failing}
use Rattle.plan_runs.specs.declared.event.Event.{Event}
use Rattle.plan_runs.specs.declared.event.Event.TheVariants.{Do, OpenCopy, ChunkCopy, CloseCopy, AbortCopy, StartPut, Write, Hint, Ack, StartGet, Read, EndGet, Down, Up, Handoff, Lose}
use Rattle.plan_runs.specs.declared.event.Reply.{Reply}
use Rattle.plan_runs.specs.declared.event.Reply.TheVariants as reply
use Rattle.plan_runs.specs.declared.event.Entry.{Entry}
use Rattle.plan_runs.specs.World.{GetRecord, World, opening_world, some_below, copy_at, key_of_put, key_of_get, is_get_of, keeps, keeps_any, slot_at}
use Rattle.plan_runs.specs.Reached.{Reached}
use Rattle.plan_runs.specs.Guards.{guards, has_ended, is_ready, step_guards, open_copy_guards, close_copy_guards, abort_copy_guards, parties_up, keepers_up, nodes_up, keeps_source, write_guards, hint_guards, ack_guards, read_guards, end_get_guards, down_guards, up_guards, lose_guards}
use Rattle.plan_runs.specs.Effects.{effect}
use Rattle.plan_runs.specs.Answers.{reply_to}
use Rattle.plan_runs.specs.Runs.{Leads, IsRun}
use Rattle.plan_runs.proofs.Answered.{answered, allowed}
use Rattle.plan_runs.proofs.Passed.{AllMet, all_met}
use Rattle.plan_runs.proofs.Passing.{some_found, some_is}
use Rattle.plan_runs.proofs.Reached.{event_reached, start_reached}
use Rattle.history_laws.specs.Parts.{is_of_part, part_size, number_in, renumbered, all_renumbered, is_key_in, is_seen_in, is_kept, puts_after, gets_after, event_in, reply_in, with_entry, part_after, or_none, part_of}
use Rattle.history_laws.proofs.Numbers.{AllOf, of_all, later_of, first_of_all, all_new, number_less, number_new, number_one, new_is}
use Rattle.history_laws.proofs.Follows.{Follows, put_mark, get_mark_is, puts_marked, gets_marked, puts_size, gets_size, key_is_in, keeps_same, other_same}
use Rattle.history_laws.proofs.Effects.{finds_same, answers_same}
use Rattle.history_laws.proofs.Guards.{write_guards_same, hint_guards_same, ack_guards_same, read_guards_same, end_get_guards_same, handoff_guards_same, shared, front_met, both_met, ended_same, nodes_up_same, source_same_keepers}
use Rattle.history_laws.proofs.Steps.{Named, event_follows, event_passes, event_answered, get_of_same, all_mapped}
use Rattle.history_laws.proofs.Runs.{none_failing, opening_follows}

-- ---- numbers that stand in the part name what is of it

number_back : (bs : List Bool) (v n : ℕ) → n ≡ part_size bs → nat_lt (renumbered bs v) n ≡ true → is_of_part bs v ≡ true
number_back bs v n e h = by (is_of_part bs v) refl (ltb-true (renumbered bs v) n h)
  where
    by : (b : Bool) → is_of_part bs v ≡ b → cond b (number_in bs v) (part_size bs) < n → b ≡ true
    by true k l = refl
    by false k l = absurd (omega arith)

get_there : (key : List ℕ) (xs : List GetRecord) (g : ℕ) → (elim (slice_get xs g) [ Some x ↦ bytes_eq x.key key | None ↦ false ]) ≡ true → g < length xs
get_there key [] g e = absurd cc
get_there key (x ∷ xs) zero e = omega arith
get_there key (x ∷ xs) (suc g) e = (let l = get_there key xs g e in omega arith)

pub seen_back : (ring : RingValue) (is_in : ℕ → Bool) (ps gs : List Bool) (w u : World) (key seen : List ℕ) → Follows ring is_in ps gs w u → list_all (is_get_of u key) (all_renumbered gs seen) ≡ true → AllOf gs seen
seen_back ring is_in ps gs w u key seen r h = of_all gs seen (by (list_all (is_of_part gs) seen) refl h)
  where
    by : (b : Bool) → list_all (is_of_part gs) seen ≡ b → list_all (is_get_of u key) (cond b (map (number_in gs) seen) (part_size gs ∷ [])) ≡ true → b ≡ true
    by true k e = refl
    by false k e = absurd (
        let b = and_parts (is_get_of u key (part_size gs)) true e in
        let l = get_there key u.gets (part_size gs) b.0 in
        let z = gets_size ring is_in ps gs w u r in
        omega arith)

pub named_back : (ring : RingValue) (plan : List Planned) (is_in : ℕ → Bool) (ps gs : List Bool) (w u : World) (e : Event) → Follows ring is_in ps gs w u → is_kept ring is_in ps gs e ≡ true → AllMet (guards ring plan u (event_in ps gs e)) → Named ring is_in ps gs e
unfolding guards
named_back ring plan is_in ps gs w u (StartPut writer key value seen) r k g = (k, seen_back ring is_in ps gs w u key seen r g.0)
named_back ring plan is_in ps gs w u (Write v i) r k g = number_back ps v (length u.puts) (puts_size ring is_in ps gs w u r) (and_parts (nat_lt (renumbered ps v) (length u.puts)) (nat_lt i ring.n) g.0).0
named_back ring plan is_in ps gs w u (Hint v i x) r k g = number_back ps v (length u.puts) (puts_size ring is_in ps gs w u r) (and_parts (nat_lt (renumbered ps v) (length u.puts)) (nat_lt i ring.n) g.0).0
named_back ring plan is_in ps gs w u (Ack v) r k g = number_back ps v (length u.puts) (puts_size ring is_in ps gs w u r) g.0
named_back ring plan is_in ps gs w u (StartGet key) r k g = k
named_back ring plan is_in ps gs w u (Read h i) r k g = number_back gs h (length u.gets) (gets_size ring is_in ps gs w u r) (and_parts (nat_lt (renumbered gs h) (length u.gets)) (nat_lt i ring.n) g.0).0
named_back ring plan is_in ps gs w u (EndGet h) r k g = number_back gs h (length u.gets) (gets_size ring is_in ps gs w u r) g.0
named_back ring plan is_in ps gs w u (Handoff x s) r k g = k
named_back ring plan is_in ps gs w u e r k g = tt

-- ---- replies that are right in the part are right in the whole

abbrev ReplyMine : List Bool → List Bool → Reply → Type 0
ReplyMine ps gs (reply.Put v) = is_of_part ps v ≡ true
ReplyMine ps gs (reply.Get g) = is_of_part gs g ≡ true
ReplyMine ps gs (reply.Found vs) = AllOf ps vs
ReplyMine ps gs (reply.Answer vs) = AllOf ps vs
ReplyMine ps gs r = Unit {0}

answered_mine : (ring : RingValue) (plan : List Planned) (is_in : ℕ → Bool) (ps gs : List Bool) (w u : World) (e : Event) → Follows ring is_in ps gs w u → Named ring is_in ps gs e → ReplyMine (puts_after ring is_in ps e) (gets_after ring is_in gs e) (reply_to ring plan w e)
answered_mine ring plan is_in ps gs w u (StartPut writer key value seen) r k = new_is ps (is_key_in ring is_in key) (length w.puts) (sym (puts_marked ring is_in ps gs w u r)) ∙ k.0
answered_mine ring plan is_in ps gs w u (StartGet key) r k = new_is gs (is_key_in ring is_in key) (length w.gets) (sym (gets_marked ring is_in ps gs w u r)) ∙ k
answered_mine ring plan is_in ps gs w u (Read g i) r k = (finds_same ring plan is_in ps gs w u g i r k).0
answered_mine ring plan is_in ps gs w u (EndGet g) r k = (answers_same ring is_in ps gs w u g r k).0
answered_mine ring plan is_in ps gs w u e r k = tt

one_number : (bs : List Bool) (v t : ℕ) → is_of_part bs t ≡ true → renumbered bs v ≡ renumbered bs t → v ≡ t
one_number bs v t h e = by (is_of_part bs v) refl (e ∙ number_new bs t h)
  where
    by : (b : Bool) → is_of_part bs v ≡ b → cond b (number_in bs v) (part_size bs) ≡ number_in bs t → v ≡ t
    by true k f = number_one bs v t k h f
    by false k f = absurd (let l = number_less bs t h in omega arith)

one_list : (bs : List Bool) (vs us : List ℕ) → AllOf bs vs → AllOf bs us → map (number_in bs) vs ≡ map (number_in bs) us → vs ≡ us
one_list bs [] [] a b e = refl
one_list bs [] (u ∷ us) a b e = absurd cc
one_list bs (v ∷ vs) [] a b e = absurd cc
one_list bs (v ∷ vs) (u ∷ us) a b e =
    let f : number_in bs v ≡ number_in bs u = cc in
    let g : map (number_in bs) vs ≡ map (number_in bs) us = cc in
    rw (number_one bs v u (first_of_all bs v vs a) (first_of_all bs u us b) f, one_list bs vs us (later_of bs v vs a) (later_of bs u us b) g) refl

all_one : (bs : List Bool) (vs us : List ℕ) → AllOf bs us → all_renumbered bs vs ≡ all_renumbered bs us → vs ≡ us
all_one bs vs us a e = by (list_all (is_of_part bs) vs) refl (e ∙ all_new bs us a)
  where
    none : (xs : List ℕ) → AllOf bs xs → ◌≡◌ {A = List ℕ} (part_size bs ∷ []) (map (number_in bs) xs) → ⊥
    none [] b f = absurd cc
    none (x ∷ xs) b f = (let g : part_size bs ≡ number_in bs x = cc in let l = number_less bs x (first_of_all bs x xs b) in omega arith)

    by : (b : Bool) → list_all (is_of_part bs) vs ≡ b → cond b (map (number_in bs) vs) (part_size bs ∷ []) ≡ map (number_in bs) us → vs ≡ us
    by true k f = one_list bs vs us (of_all bs vs k) a f
    by false k f = absurd (none us a f)

reply_one : (ps gs : List Bool) (r s : Reply) → ReplyMine ps gs s → reply_in ps gs r ≡ reply_in ps gs s → r ≡ s
reply_one ps gs reply.Plain reply.Plain m e = refl
reply_one ps gs (reply.Put v) (reply.Put t) m e = ap reply.Put (one_number ps v t m (let f : renumbered ps v ≡ renumbered ps t = cc in f))
reply_one ps gs (reply.Ticket s g) (reply.Ticket t h) m e = e
reply_one ps gs (reply.Get v) (reply.Get t) m e = ap reply.Get (one_number gs v t m (let f : renumbered gs v ≡ renumbered gs t = cc in f))
reply_one ps gs (reply.Found vs) (reply.Found us) m e = ap reply.Found (all_one ps vs us m (let f : all_renumbered ps vs ≡ all_renumbered ps us = cc in f))
reply_one ps gs (reply.Answer vs) (reply.Answer us) m e = ap reply.Answer (all_one ps vs us m (let f : all_renumbered ps vs ≡ all_renumbered ps us = cc in f))
reply_one ps gs r s m e = absurd cc

pub reply_back : (ring : RingValue) (plan : List Planned) (is_in : ℕ → Bool) (ps gs : List Bool) (w u : World) (e : Event) (a : Reply) → Follows ring is_in ps gs w u → Named ring is_in ps gs e
    → reply_to ring plan u (event_in ps gs e) ≡ reply_in (puts_after ring is_in ps e) (gets_after ring is_in gs e) a → reply_to ring plan w e ≡ a
reply_back ring plan is_in ps gs w u e a r k h = sym (reply_one (puts_after ring is_in ps e) (gets_after ring is_in gs e) a (reply_to ring plan w e) (answered_mine ring plan is_in ps gs w u e r k) (sym h ∙ event_answered ring plan is_in ps gs w u e r k))

-- ---- what an event of a part needs there it has in the whole, but for steps and chunks

-- the event does no step and copies no chunk
abbrev Alone : Event → Type 0
Alone (Do n) = ⊥
Alone (ChunkCopy n c) = ⊥
Alone e = Unit {0}

pub met_back : (ring : RingValue) (plan : List Planned) (is_in : ℕ → Bool) (ps gs : List Bool) (w u : World) (e : Event) → Reached ring plan w → Follows ring is_in ps gs w u → Named ring is_in ps gs e → Alone e → AllMet (guards ring plan u (event_in ps gs e)) → AllMet (guards ring plan w e)
unfolding guards
met_back ring plan is_in ps gs w u (Do n) i r k o g = absurd o
met_back ring plan is_in ps gs w u (OpenCopy n) i r k o g = subst (λ z. AllMet (open_copy_guards ring plan z n)) (shared ring is_in ps gs w u r) g
met_back ring plan is_in ps gs w u (ChunkCopy n c) i r k o g = absurd o
met_back ring plan is_in ps gs w u (CloseCopy n) i r k o g = subst (λ z. AllMet (close_copy_guards plan z n)) (shared ring is_in ps gs w u r) g
met_back ring plan is_in ps gs w u (AbortCopy n) i r k o g = subst (λ z. AllMet (abort_copy_guards plan z n)) (shared ring is_in ps gs w u r) g
met_back ring plan is_in ps gs w u (StartPut writer key value seen) i r k o g =
    let a = all_mapped gs (is_get_of u key) (is_get_of w key) seen k.1 (λ v m. get_of_same ring is_in ps gs w u key v r m) in
    let b = all_mapped gs (has_ended u) (has_ended w) seen k.1 (λ v m. ended_same ring is_in ps gs w u v r m) in
    let n = all_new gs seen k.1 in
    (sym (ap (list_all (is_get_of u key)) n ∙ a) ∙ g.0, (sym (ap (list_all (has_ended u)) n ∙ b) ∙ g.1.0, tt))
met_back ring plan is_in ps gs w u (Write v i) j r k o g = subst AllMet (write_guards_same ring plan is_in ps gs w u v i r k) (subst (λ z. AllMet (write_guards ring plan u z i)) (number_new ps v k) g)
met_back ring plan is_in ps gs w u (Hint v i x) j r k o g = subst AllMet (hint_guards_same ring plan is_in ps gs w u v i x j r k (key_is_in ring is_in ps gs w u v r k)) (subst (λ z. AllMet (hint_guards ring plan u z i x)) (number_new ps v k) g)
met_back ring plan is_in ps gs w u (Ack v) j r k o g = subst AllMet (ack_guards_same ring plan is_in ps gs w u v r k) (subst (λ z. AllMet (ack_guards ring plan u z)) (number_new ps v k) g)
met_back ring plan is_in ps gs w u (StartGet key) j r k o g = tt
met_back ring plan is_in ps gs w u (Read h i) j r k o g = subst AllMet (read_guards_same ring plan is_in ps gs w u h i r k) (subst (λ z. AllMet (read_guards ring plan u z i)) (number_new gs h k) g)
met_back ring plan is_in ps gs w u (EndGet h) j r k o g = subst AllMet (end_get_guards_same ring is_in ps gs w u h r k) (subst (λ z. AllMet (end_get_guards ring u z)) (number_new gs h k) g)
met_back ring plan is_in ps gs w u (Down x) j r k o g = subst (λ z. AllMet (down_guards ring plan z x)) (shared ring is_in ps gs w u r) g
met_back ring plan is_in ps gs w u (Up x) j r k o g = subst (λ z. AllMet (up_guards ring plan z x)) (shared ring is_in ps gs w u r) g
met_back ring plan is_in ps gs w u (Handoff x s) j r k o g = subst AllMet (handoff_guards_same ring plan is_in ps gs w u x s j r k) g
met_back ring plan is_in ps gs w u (Lose x) j r k o g = subst (λ z. AllMet (lose_guards ring plan z x)) (shared ring is_in ps gs w u r) g

-- ---- all parts at once

-- the worlds of m parts follow the whole's, and each partition is in some part
pub record Apart (ring : RingValue) (plan : List Planned) (m : ℕ) (is_in : ℕ → ℕ → Bool) (ps gs : ℕ → List Bool) (w : World) (us : ℕ → World) : Type 0 where
  pub whole : Reached ring plan w
  pub parts : (k : ℕ) → k < m → Reached ring plan (us k)
  pub follows : (k : ℕ) → k < m → Follows ring (is_in k) (ps k) (gs k) w (us k)
  pub covers : (p : ℕ) → (k : ℕ) × (k < m) × (is_in k p ≡ true)

-- what each part's event needs is met there
abbrev pub EachMet : RingValue → List Planned → ℕ → (ℕ → ℕ → Bool) → (ℕ → List Bool) → (ℕ → List Bool) → (ℕ → World) → Event → Type 0
EachMet ring plan m is_in ps gs us e = (k : ℕ) → k < m → is_kept ring (is_in k) (ps k) (gs k) e ≡ true → AllMet (guards ring plan (us k) (event_in (ps k) (gs k) e))

step_whole : (ring : RingValue) (plan : List Planned) (m : ℕ) (is_in : ℕ → ℕ → Bool) (ps gs : ℕ → List Bool) (w : World) (us : ℕ → World) (o : Option Step) → Apart ring plan m is_in ps gs w us
    → ((k : ℕ) → k < m → AllMet (elim o [ Some s ↦ step_guards ring (us k) s | None ↦ [] ])) → AllMet (elim o [ Some s ↦ step_guards ring w s | None ↦ [] ])
step_whole ring plan m is_in ps gs w us None a g = tt
step_whole ring plan m is_in ps gs w us (Some (step.Join x)) a g = tt
step_whole ring plan m is_in ps gs w us (Some (step.Mirror s x)) a g =
    let c = a.covers s.partition in
    let r = a.follows c.0 c.1 in
    let h = g c.0 c.1 in
    (sym (ap (λ f. f x.0) r.up) ∙ h.0, (sym (ap not (other_same ring plan (is_in c.0) (ps c.0) (gs c.0) w (us c.0) x.0 s a.whole r c.2)) ∙ h.1.0, tt))
step_whole ring plan m is_in ps gs w us (Some (step.Copy s from)) a g = tt
step_whole ring plan m is_in ps gs w us (Some (step.Switch s)) a g = tt
step_whole ring plan m is_in ps gs w us (Some (step.Drop s x)) a g =
    let c = a.covers s.partition in
    (sym (ap (λ f. f x.0) (a.follows c.0 c.1).up) ∙ (g c.0 c.1).0, tt)
step_whole ring plan m is_in ps gs w us (Some (step.Retire x)) a g = (by (keeps_any ring w x.0) refl, tt)
  where
    by : (b : Bool) → keeps_any ring w x.0 ≡ b → not b ≡ true
    by false e = refl
    by true e = absurd (
        let p = some_found ring.q (λ q. some_below ring.n (λ i. keeps w x.0 (slot_at q i))) e in
        let i = some_found ring.n (λ i. keeps w x.0 (slot_at p.0 i)) p.2 in
        let c = a.covers p.0 in
        let t : keeps (us c.0) x.0 (slot_at p.0 i.0) ≡ true = keeps_same ring plan (is_in c.0) (ps c.0) (gs c.0) w (us c.0) x.0 (slot_at p.0 i.0) a.whole (a.follows c.0 c.1) c.2 ∙ i.2 in
        let n : keeps_any ring (us c.0) x.0 ≡ true = some_is ring.q (λ q. some_below ring.n (λ j. keeps (us c.0) x.0 (slot_at q j))) p.0 p.1 (some_is ring.n (λ j. keeps (us c.0) x.0 (slot_at p.0 j)) i.0 i.1 t) in
        let h = not-true (keeps_any ring (us c.0) x.0) (g c.0 c.1).0 in
        let z = sym n ∙ h in
        cc)

keepers_whole : (ring : RingValue) (plan : List Planned) (m : ℕ) (is_in : ℕ → ℕ → Bool) (ps gs : ℕ → List Bool) (w : World) (us : ℕ → World) (c : ℕ) (o : Option (Slot × Source)) → Apart ring plan m is_in ps gs w us
    → ((k : ℕ) → k < m → AllMet (elim o [ Some t ↦ nodes_up (us k).up (length ring.nodes) (keeps_source ring (us k) t.0 t.1 c) | None ↦ [] ])) → AllMet (elim o [ Some t ↦ nodes_up w.up (length ring.nodes) (keeps_source ring w t.0 t.1 c) | None ↦ [] ])
keepers_whole ring plan m is_in ps gs w us c None a g = tt
keepers_whole ring plan m is_in ps gs w us c (Some t) a g =
    let k = a.covers t.0.partition in
    let r = a.follows k.0 k.1 in
    subst AllMet (nodes_up_same (us k.0).up w.up (length ring.nodes) (keeps_source ring (us k.0) t.0 t.1 c) (keeps_source ring w t.0 t.1 c) r.up
    (λ x. source_same_keepers ring (is_in k.0) (ps k.0) (gs k.0) w (us k.0) t.0 t.1 c x r k.2)) (g k.0 k.1)

-- a part that has the event
seen_there : (bs : List Bool) (v n : ℕ) → length bs ≡ n → (v < n → is_of_part bs v ≡ true) → is_seen_in bs v ≡ true
seen_there bs v n e h = elim (cases_lt v n) [
  | inl l ↦ or_left (is_of_part bs v) (nat_le (length bs) v) (h l)
  | inr l ↦ or_right (is_of_part bs v) (nat_le (length bs) v) (le-leb (length bs) v (omega arith))
]

put_somewhere : (ring : RingValue) (plan : List Planned) (m : ℕ) (is_in : ℕ → ℕ → Bool) (ps gs : ℕ → List Bool) (w : World) (us : ℕ → World) (v : ℕ) → Apart ring plan m is_in ps gs w us → (k : ℕ) × (k < m) × (is_seen_in (ps k) v ≡ true)
put_somewhere ring plan m is_in ps gs w us v a =
    let c = a.covers (place_of ring.q (key_of_put w v)).partition in
    let r = a.follows c.0 c.1 in
    (c.0, c.1, seen_there (ps c.0) v (length w.puts) (puts_marked ring (is_in c.0) (ps c.0) (gs c.0) w (us c.0) r) (λ l. put_mark ring (is_in c.0) (ps c.0) (gs c.0) w (us c.0) v r l ∙ c.2))

get_somewhere : (ring : RingValue) (plan : List Planned) (m : ℕ) (is_in : ℕ → ℕ → Bool) (ps gs : ℕ → List Bool) (w : World) (us : ℕ → World) (g : ℕ) → Apart ring plan m is_in ps gs w us → (k : ℕ) × (k < m) × (is_seen_in (gs k) g ≡ true)
get_somewhere ring plan m is_in ps gs w us g a =
    let c = a.covers (place_of ring.q (key_of_get w g)).partition in
    let r = a.follows c.0 c.1 in
    (c.0, c.1, seen_there (gs c.0) g (length w.gets) (gets_marked ring (is_in c.0) (ps c.0) (gs c.0) w (us c.0) r) (λ l. get_mark_is ring (is_in c.0) (ps c.0) (gs c.0) w (us c.0) g r l ∙ c.2))

somewhere : (ring : RingValue) (plan : List Planned) (m : ℕ) (is_in : ℕ → ℕ → Bool) (ps gs : ℕ → List Bool) (w : World) (us : ℕ → World) (e : Event) → Apart ring plan m is_in ps gs w us → (k : ℕ) × (k < m) × (is_kept ring (is_in k) (ps k) (gs k) e ≡ true)
somewhere ring plan m is_in ps gs w us (StartPut writer key value seen) a = a.covers (place_of ring.q key).partition
somewhere ring plan m is_in ps gs w us (Write v i) a = put_somewhere ring plan m is_in ps gs w us v a
somewhere ring plan m is_in ps gs w us (Hint v i x) a = put_somewhere ring plan m is_in ps gs w us v a
somewhere ring plan m is_in ps gs w us (Ack v) a = put_somewhere ring plan m is_in ps gs w us v a
somewhere ring plan m is_in ps gs w us (StartGet key) a = a.covers (place_of ring.q key).partition
somewhere ring plan m is_in ps gs w us (Read g i) a = get_somewhere ring plan m is_in ps gs w us g a
somewhere ring plan m is_in ps gs w us (EndGet g) a = get_somewhere ring plan m is_in ps gs w us g a
somewhere ring plan m is_in ps gs w us (Handoff x s) a = a.covers s.partition
somewhere ring plan m is_in ps gs w us e a = (let c = a.covers 0 in (c.0, c.1, refl))

-- ---- what an event needs in all parts that have it, it has in the whole

do_whole : (ring : RingValue) (plan : List Planned) (m : ℕ) (is_in : ℕ → ℕ → Bool) (ps gs : ℕ → List Bool) (w : World) (us : ℕ → World) (n : ℕ) → Apart ring plan m is_in ps gs w us → EachMet ring plan m is_in ps gs us (Do n) → AllMet (guards ring plan w (Do n))
unfolding guards
do_whole ring plan m is_in ps gs w us n a g =
    let c = a.covers 0 in
    let h = g c.0 c.1 refl in
    let r = a.follows c.0 c.1 in (
      h.0,
      (
        sym (ap (λ f. not (f n)) r.done) ∙ h.1.0,
        (
          sym (ap (λ z. is_ready plan z n) (shared ring (is_in c.0) (ps c.0) (gs c.0) w (us c.0) r)) ∙ h.1.1.0,
          step_whole ring plan m is_in ps gs w us (step_at plan n) a (λ k l. (g k l refl).1.1.1),
        ),
      ),
    )

chunk_whole : (ring : RingValue) (plan : List Planned) (m : ℕ) (is_in : ℕ → ℕ → Bool) (ps gs : ℕ → List Bool) (w : World) (us : ℕ → World) (n c : ℕ) → Apart ring plan m is_in ps gs w us → EachMet ring plan m is_in ps gs us (ChunkCopy n c) → AllMet (guards ring plan w (ChunkCopy n c))
unfolding guards
chunk_whole ring plan m is_in ps gs w us n c a g =
    let k = a.covers 0 in
    let h = g k.0 k.1 refl in
    let r = a.follows k.0 k.1 in
    let p = front_met (parties_up ring plan (us k.0) n) (keepers_up ring plan (us k.0) n c) h.1.1.1 in (
      h.0,
      (
        sym (ap (λ f. f n) r.is_open) ∙ h.1.0,
        (
          sym (ap (λ f. not (f n c)) r.marked) ∙ h.1.1.0,
          both_met (parties_up ring plan w n) (keepers_up ring plan w n c) (subst (λ z. AllMet (parties_up ring plan z n)) (shared ring (is_in k.0) (ps k.0) (gs k.0) w (us k.0) r) p.0)
              (keepers_whole ring plan m is_in ps gs w us c (copy_at plan n) a (λ j l. (front_met (parties_up ring plan (us j) n) (keepers_up ring plan (us j) n c) (g j l refl).1.1.1).1)),
        ),
      ),
    )

alone_whole : (ring : RingValue) (plan : List Planned) (m : ℕ) (is_in : ℕ → ℕ → Bool) (ps gs : ℕ → List Bool) (w : World) (us : ℕ → World) (e : Event) → Apart ring plan m is_in ps gs w us → Alone e → EachMet ring plan m is_in ps gs us e → AllMet (guards ring plan w e)
alone_whole ring plan m is_in ps gs w us e a o g =
    let c = somewhere ring plan m is_in ps gs w us e a in
    let r = a.follows c.0 c.1 in
    let h = g c.0 c.1 c.2 in
    met_back ring plan (is_in c.0) (ps c.0) (gs c.0) w (us c.0) e a.whole r (named_back ring plan (is_in c.0) (ps c.0) (gs c.0) w (us c.0) e r c.2 h) o h

pub whole_met : (ring : RingValue) (plan : List Planned) (m : ℕ) (is_in : ℕ → ℕ → Bool) (ps gs : ℕ → List Bool) (w : World) (us : ℕ → World) (e : Event) → Apart ring plan m is_in ps gs w us → EachMet ring plan m is_in ps gs us e → AllMet (guards ring plan w e)
whole_met ring plan m is_in ps gs w us (Do n) a g = do_whole ring plan m is_in ps gs w us n a g
whole_met ring plan m is_in ps gs w us (ChunkCopy n c) a g = chunk_whole ring plan m is_in ps gs w us n c a g
whole_met ring plan m is_in ps gs w us e a g = alone_whole ring plan m is_in ps gs w us e a tt g

-- ---- entry by entry

-- what the first entry is answered in a part that has it, and where the others lead
part_facts : (ring : RingValue) (plan : List Planned) (u : World) (entry : Entry) (later : List Entry) (b : Bool) → (z : World) × Leads ring plan u (with_entry (cond b (Some entry) None) later) z
    → (b ≡ true → (first_failing (guards ring plan u entry.event) ≡ None) × (reply_to ring plan u entry.event ≡ entry.reply)) × ((z : World) × Leads ring plan (cond b (effect ring plan u entry.event) u) later z)
part_facts ring plan u entry later true l =
    let a = answered ring plan u l.1.0 entry.event entry.reply l.1.1 in
    (λ e. (a.0, a.2), (l.0, subst (λ y. Leads ring plan y later l.0) (sym a.1) l.1.2))
part_facts ring plan u entry later false l = (λ e. absurd cc, l)

-- the world of the part after the entry
part_next : (ring : RingValue) (plan : List Planned) (is_in : ℕ → Bool) (ps gs : List Bool) (w u : World) (e : Event) (b : Bool) → Reached ring plan w → Reached ring plan u → Follows ring is_in ps gs w u → AllMet (guards ring plan w e)
    → is_kept ring is_in ps gs e ≡ b → (b ≡ true → AllMet (guards ring plan u (event_in ps gs e)))
    → Reached ring plan (cond b (effect ring plan u (event_in ps gs e)) u)
    × Follows ring is_in (puts_after ring is_in ps e) (gets_after ring is_in gs e) (effect ring plan w e) (cond b (effect ring plan u (event_in ps gs e)) u)
part_next ring plan is_in ps gs w u e true iw iu r g k m =
    let h = m refl in
    (event_reached ring plan u iu (event_in ps gs e) h, event_follows ring plan is_in ps gs w u e iw iu r g (named_back ring plan is_in ps gs w u e r k h))
part_next ring plan is_in ps gs w u e false iw iu r g k m = (iu, event_passes ring plan is_in ps gs w u e iw iu r k)

whole_leads : (ring : RingValue) (plan : List Planned) (m : ℕ) (is_in : ℕ → ℕ → Bool) (entries : List Entry) (ps gs : ℕ → List Bool) (w : World) (us : ℕ → World) → Apart ring plan m is_in ps gs w us
    → ((k : ℕ) → k < m → (z : World) × Leads ring plan (us k) (part_after ring (is_in k) (ps k) (gs k) entries) z) → (z : World) × Leads ring plan w entries z
whole_leads ring plan m is_in [] ps gs w us a l = (w, refl)
whole_leads ring plan m is_in (x ∷ xs) ps gs w us a l =
    let rest = whole_leads ring plan m is_in xs (λ k. puts_after ring (is_in k) (ps k) x.event) (λ k. gets_after ring (is_in k) (gs k) x.event) next vs after (λ k h. (facts k h).1) in
    (rest.0, (next, allowed ring plan w x.event (none_failing (guards ring plan w x.event) met) ∙ ap (λ q. Ok (next, q)) replied, rest.1))
  where
    entry : ℕ → Entry
    entry k = record { event = event_in (ps k) (gs k) x.event; reply = reply_in (puts_after ring (is_in k) (ps k) x.event) (gets_after ring (is_in k) (gs k) x.event) x.reply }

    later : ℕ → List Entry
    later k = part_after ring (is_in k) (puts_after ring (is_in k) (ps k) x.event) (gets_after ring (is_in k) (gs k) x.event) xs

    kept : ℕ → Bool
    kept k = is_kept ring (is_in k) (ps k) (gs k) x.event

    next : World
    next = effect ring plan w x.event

    vs : ℕ → World
    vs k = cond (kept k) (effect ring plan (us k) (entry k).event) (us k)

    facts : (k : ℕ) → k < m → (kept k ≡ true → (first_failing (guards ring plan (us k) (entry k).event) ≡ None) × (reply_to ring plan (us k) (entry k).event ≡ (entry k).reply)) × ((z : World) × Leads ring plan (vs k) (later k) z)
    facts k h = part_facts ring plan (us k) (entry k) (later k) (kept k) (l k h)

    each : EachMet ring plan m is_in ps gs us x.event
    each k h e = all_met (guards ring plan (us k) (entry k).event) ((facts k h).0 e).0

    met : AllMet (guards ring plan w x.event)
    met = whole_met ring plan m is_in ps gs w us x.event a each

    replied : reply_to ring plan w x.event ≡ x.reply
    replied =
        let c = somewhere ring plan m is_in ps gs w us x.event a in
        let r = a.follows c.0 c.1 in
        reply_back ring plan (is_in c.0) (ps c.0) (gs c.0) w (us c.0) x.event x.reply r (named_back ring plan (is_in c.0) (ps c.0) (gs c.0) w (us c.0) x.event r c.2 (each c.0 c.1 c.2)) ((facts c.0 c.1).0 c.2).1

    nexts : (k : ℕ) → k < m → Reached ring plan (vs k) × Follows ring (is_in k) (puts_after ring (is_in k) (ps k) x.event) (gets_after ring (is_in k) (gs k) x.event) next (vs k)
    nexts k h = part_next ring plan (is_in k) (ps k) (gs k) w (us k) x.event (kept k) a.whole (a.parts k h) (a.follows k h) met refl (λ e. each k h e)

    after : Apart ring plan m is_in (λ k. puts_after ring (is_in k) (ps k) x.event) (λ k. gets_after ring (is_in k) (gs k) x.event) next vs
    after = record { whole = event_reached ring plan w a.whole x.event met; parts = λ k h. (nexts k h).0; follows = λ k h. (nexts k h).1; covers = a.covers }

-- each number of a partition is of some part, also one that no partition has
pub all_covered : (ring : RingValue) (m : ℕ) (is_in : ℕ → ℕ → Bool) → 0 < m → ((p : ℕ) → p < ring.q → (k : ℕ) × (k < m) × (is_in k p ≡ true)) → (p : ℕ) → (k : ℕ) × (k < m) × (or_none ring (is_in k) p ≡ true)
all_covered ring m is_in some cover p = elim (cases_lt p ring.q) [
  | inl l ↦ (let c = cover p l in (c.0, c.1, or_left (is_in c.0 p) (nat_le ring.q p) c.2))
  | inr l ↦ (0, some, or_right (is_in 0 p) (nat_le ring.q p) (le-leb ring.q p (omega arith)))
]

pub whole_run : (ring : RingValue) (plan : List Planned) (entries : List Entry) (m : ℕ) (is_in : ℕ → ℕ → Bool) → 0 < m → ((p : ℕ) → p < ring.q → (k : ℕ) × (k < m) × (is_in k p ≡ true))
    → ((k : ℕ) → k < m → (u : World) × IsRun ring plan (part_of ring (is_in k) entries) u) → (w : World) × IsRun ring plan entries w
whole_run ring plan entries m is_in some cover runs = whole_leads ring plan m (λ k. or_none ring (is_in k)) entries (λ k. []) (λ k. []) (opening_world ring) (λ k. opening_world ring) record {
  whole = start_reached ring plan;
  parts = λ k l. start_reached ring plan;
  follows = λ k l. opening_follows ring (or_none ring (is_in k));
  covers = all_covered ring m is_in some cover;
} runs
