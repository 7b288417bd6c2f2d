-- One entry of a history, in a part and in the whole.
use Rattle.std.proofs.Common.{◌≡◌, inl, inr, ◌∙◌, ℕ, ◌<◌, Bool, true, false, not, List, [], ◌∷◌, ◌++◌, length, map, refl, sym, ap, subst, arith, ltb-true}
use Rattle.std.specs.Prelude.{◌||◌, nat_lt, nat_le, Option, Some, None}
use Rattle.std.specs.Str.{bytes_eq}
use Rattle.std.specs.List.{list_all}
use Rattle.std.proofs.lemmas.Bool.{and_parts, or_cases, leb-true}
use Rattle.ring_names.specs.declared.ids.Slot.{Slot}
use Rattle.ring_table.specs.Value.{RingValue}
use Rattle.plan_text.specs.declared.step.Source.{Source}
use Rattle.plan_text.specs.declared.step.Step.{Step}
use Rattle.plan_text.specs.declared.step.Planned.{Planned}
use Rattle.plan_stage.specs.Each.{step_at}
use Rattle.plan_runs.specs.declared.event.Event.{Event}
use Rattle.plan_runs.specs.declared.event.Event.TheVariants.{Do, OpenCopy, ChunkCopy, CloseCopy, AbortCopy, StartPut, Write, Hint, Ack, StartGet, Read, EndGet, Down, Up, Handoff, Lose}
use Rattle.plan_runs.specs.declared.event.Reply.TheVariants as reply
use Rattle.plan_runs.specs.World.{GetRecord, World, copy_at, is_get_of, generation}
use Rattle.plan_runs.specs.Versions.{put_slot}
use Rattle.plan_runs.specs.Reached.{Reached}
use Rattle.plan_runs.specs.Guards.{guards, has_ended, is_ready, step_guards, open_copy_guards, close_copy_guards, abort_copy_guards, parties_up, keepers_up, nodes_up, keeps_source, write_guards, hint_guards, ack_guards, read_guards, end_get_guards, down_guards, up_guards, lose_guards}
use Rattle.plan_runs.specs.Effects.{with_number, without_number, effect, write_effect, hint_effect, ack_effect, read_effect, end_get_effect, finds, answers}
use Rattle.plan_runs.specs.Answers.{reply_to}
use Rattle.plan_runs.proofs.Passed.{AllMet}
use Rattle.history_laws.specs.Parts.{is_of_part, part_size, number_in, renumbered, is_key_in, is_seen_in, is_kept, puts_after, gets_after, event_in, reply_in}
use Rattle.history_laws.proofs.Numbers.{AllOf, later_of, first_of_all, all_new, number_new, new_is, kept_number, last_number}
use Rattle.history_laws.proofs.Listed.{read_same}
use Rattle.history_laws.proofs.Follows.{SameGet, is_get_in, Follows, get_pair, same_slot, puts_marked, gets_marked, puts_size, gets_size, key_is_in}
use Rattle.history_laws.proofs.Effects.{do_follows, steps_follow, up_follows, chunk_follows, start_put_follows, start_put_passes, start_get_follows, start_get_passes, write_follows, write_passes, hint_follows, hint_passes, ack_follows, ack_passes, read_follows, read_passes, end_get_follows, end_get_passes, handoff_follows, handoff_passes, lose_follows, gets_mine, finds_same, answers_same, slot_generation}
use Rattle.history_laws.proofs.Guards.{write_guards_same, hint_guards_same, ack_guards_same, read_guards_same, end_get_guards_same, handoff_guards_same, shared, step_in, fewer_up, front_met, both_met, source_whole, ended_same}

-- ---- numbers that there are

pub seen_kept : (bs : List Bool) (v : ℕ) → is_seen_in bs v ≡ true → v < length bs → is_of_part bs v ≡ true
seen_kept bs v h l = elim (or_cases (is_of_part bs v) (nat_le (length bs) v) h) [
  | inl f ↦ f
  | inr f ↦ absurd (let m = leb-true (length bs) v f in omega arith)
]

pub not_first : (a b : Bool) → (a || b) ≡ false → a ≡ false
not_first true b e = absurd cc
not_first false b e = refl

-- ---- what stays met in the part

pub get_of_same : (ring : RingValue) (is_in : ℕ → Bool) (ps gs : List Bool) (w u : World) (key : List ℕ) (g : ℕ) → Follows ring is_in ps gs w u → is_of_part gs g ≡ true → is_get_of u key (number_in gs g) ≡ is_get_of w key g
get_of_same ring is_in ps gs w u key g r h = read_same (λ (x : GetRecord). bytes_eq x.key key) false (is_get_in ring is_in) (SameGet ps) g (number_in gs g) w.gets u.gets (λ x y s. ap (λ k. bytes_eq k key) s.key) (get_pair ring is_in ps gs w u g r h)

pub all_mapped : (bs : List Bool) (f g : ℕ → Bool) (xs : List ℕ) → AllOf bs xs → ((v : ℕ) → is_of_part bs v ≡ true → f (number_in bs v) ≡ g v) → list_all f (map (number_in bs) xs) ≡ list_all g xs
all_mapped bs f g [] a h = refl
all_mapped bs f g (x ∷ xs) a h = rw (h x (first_of_all bs x xs a), all_mapped bs f g xs (later_of bs x xs a) h) refl

put_is : (ring : RingValue) (is_in : ℕ → Bool) (ps gs : List Bool) (w u : World) (v : ℕ) → Follows ring is_in ps gs w u → is_seen_in ps v ≡ true → nat_lt v (length w.puts) ≡ true → is_of_part ps v ≡ true
put_is ring is_in ps gs w u v r k e = (let l = ltb-true v (length w.puts) e in let m = puts_marked ring is_in ps gs w u r in seen_kept ps v k (omega arith))

get_is : (ring : RingValue) (is_in : ℕ → Bool) (ps gs : List Bool) (w u : World) (g : ℕ) → Follows ring is_in ps gs w u → is_seen_in gs g ≡ true → nat_lt g (length w.gets) ≡ true → is_of_part gs g ≡ true
get_is ring is_in ps gs w u g r k e = (let l = ltb-true g (length w.gets) e in let m = gets_marked ring is_in ps gs w u r in seen_kept gs g k (omega arith))

-- the puts and gets that the event names are of the part, and so is its key or slot
abbrev pub Named : RingValue → (ℕ → Bool) → List Bool → List Bool → Event → Type 0
Named ring is_in ps gs (StartPut writer key value seen) = (is_key_in ring is_in key ≡ true) × AllOf gs seen
Named ring is_in ps gs (Write v i) = is_of_part ps v ≡ true
Named ring is_in ps gs (Hint v i x) = is_of_part ps v ≡ true
Named ring is_in ps gs (Ack v) = is_of_part ps v ≡ true
Named ring is_in ps gs (StartGet key) = is_key_in ring is_in key ≡ true
Named ring is_in ps gs (Read g i) = is_of_part gs g ≡ true
Named ring is_in ps gs (EndGet g) = is_of_part gs g ≡ true
Named ring is_in ps gs (Handoff x s) = is_in s.partition ≡ true
Named ring is_in ps gs e = Unit {0}

pub event_named : (ring : RingValue) (plan : List Planned) (is_in : ℕ → Bool) (ps gs : List Bool) (w u : World) (e : Event) → Follows ring is_in ps gs w u → AllMet (guards ring plan w e) → is_kept ring is_in ps gs e ≡ true → Named ring is_in ps gs e
unfolding guards
event_named ring plan is_in ps gs w u (StartPut writer key value seen) r g k = (k, gets_mine ring is_in ps gs w u key seen r k g.0)
event_named ring plan is_in ps gs w u (Write v i) r g k = put_is ring is_in ps gs w u v r k (and_parts (nat_lt v (length w.puts)) (nat_lt i ring.n) g.0).0
event_named ring plan is_in ps gs w u (Hint v i x) r g k = put_is ring is_in ps gs w u v r k (and_parts (nat_lt v (length w.puts)) (nat_lt i ring.n) g.0).0
event_named ring plan is_in ps gs w u (Ack v) r g k = put_is ring is_in ps gs w u v r k g.0
event_named ring plan is_in ps gs w u (StartGet key) r g k = k
event_named ring plan is_in ps gs w u (Read h i) r g k = get_is ring is_in ps gs w u h r k (and_parts (nat_lt h (length w.gets)) (nat_lt i ring.n) g.0).0
event_named ring plan is_in ps gs w u (EndGet h) r g k = get_is ring is_in ps gs w u h r k g.0
event_named ring plan is_in ps gs w u (Handoff x s) r g k = k
event_named ring plan is_in ps gs w u e r g k = tt

-- ---- an event that is named in the part, in both worlds

pub event_follows : (ring : RingValue) (plan : List Planned) (is_in : ℕ → Bool) (ps gs : List Bool) (w u : World) (e : Event) → Reached ring plan w → Reached ring plan u → Follows ring is_in ps gs w u → AllMet (guards ring plan w e) → Named ring is_in ps gs e
    → Follows ring is_in (puts_after ring is_in ps e) (gets_after ring is_in gs e) (effect ring plan w e) (effect ring plan u (event_in ps gs e))
unfolding guards effect
event_follows ring plan is_in ps gs w u (Do n) iw iu r g k = do_follows ring is_in ps gs w u n (step_at plan n) r
event_follows ring plan is_in ps gs w u (OpenCopy n) iw iu r g k = steps_follow ring is_in ps gs w u (λ f. f) (λ f. with_number f n) r
event_follows ring plan is_in ps gs w u (ChunkCopy n c) iw iu r g k = chunk_follows ring plan is_in ps gs w u n c r
event_follows ring plan is_in ps gs w u (CloseCopy n) iw iu r g k = steps_follow ring is_in ps gs w u (λ f. with_number f n) (λ f. without_number f n) r
event_follows ring plan is_in ps gs w u (AbortCopy n) iw iu r g k = steps_follow ring is_in ps gs w u (λ f. f) (λ f. without_number f n) r
event_follows ring plan is_in ps gs w u (StartPut writer key value seen) iw iu r g k = start_put_follows ring plan is_in ps gs w u writer.0 key value seen iw iu r g.0 k.0
event_follows ring plan is_in ps gs w u (Write v i) iw iu r g k = subst (λ z. Follows ring is_in ps gs (write_effect ring plan w v i) (write_effect ring plan u z i)) (sym (number_new ps v k)) (write_follows ring plan is_in ps gs w u v i r k)
event_follows ring plan is_in ps gs w u (Hint v i x) iw iu r g k = subst (λ z. Follows ring is_in ps gs (hint_effect ring plan w v i x) (hint_effect ring plan u z i x)) (sym (number_new ps v k)) (hint_follows ring plan is_in ps gs w u v i x r k)
event_follows ring plan is_in ps gs w u (Ack v) iw iu r g k = subst (λ z. Follows ring is_in ps gs (ack_effect w v) (ack_effect u z)) (sym (number_new ps v k)) (ack_follows ring is_in ps gs w u v r k)
event_follows ring plan is_in ps gs w u (StartGet key) iw iu r g k = start_get_follows ring is_in ps gs w u key r k
event_follows ring plan is_in ps gs w u (Read h i) iw iu r g k = subst (λ z. Follows ring is_in ps gs (read_effect ring plan w h i) (read_effect ring plan u z i)) (sym (number_new gs h k)) (read_follows ring plan is_in ps gs w u h i r k)
event_follows ring plan is_in ps gs w u (EndGet h) iw iu r g k = subst (λ z. Follows ring is_in ps gs (end_get_effect ring w h) (end_get_effect ring u z)) (sym (number_new gs h k)) (end_get_follows ring is_in ps gs w u h r k)
event_follows ring plan is_in ps gs w u (Down x) iw iu r g k = up_follows ring is_in ps gs w u (λ f. without_number f x.0) r
event_follows ring plan is_in ps gs w u (Up x) iw iu r g k = up_follows ring is_in ps gs w u (λ f. with_number f x.0) r
event_follows ring plan is_in ps gs w u (Handoff x s) iw iu r g k = handoff_follows ring plan is_in ps gs w u x s r
event_follows ring plan is_in ps gs w u (Lose x) iw iu r g k = lose_follows ring plan is_in ps gs w u x iw r

-- an event that is not of the part
pub event_passes : (ring : RingValue) (plan : List Planned) (is_in : ℕ → Bool) (ps gs : List Bool) (w u : World) (e : Event) → Reached ring plan w → Reached ring plan u → Follows ring is_in ps gs w u → is_kept ring is_in ps gs e ≡ false
    → Follows ring is_in (puts_after ring is_in ps e) (gets_after ring is_in gs e) (effect ring plan w e) u
unfolding effect
event_passes ring plan is_in ps gs w u (StartPut writer key value seen) iw iu r k = start_put_passes ring plan is_in ps gs w u writer.0 key value seen iw iu r k
event_passes ring plan is_in ps gs w u (Write v i) iw iu r k = write_passes ring plan is_in ps gs w u v i r (not_first (is_of_part ps v) (nat_le (length ps) v) k)
event_passes ring plan is_in ps gs w u (Hint v i x) iw iu r k = hint_passes ring plan is_in ps gs w u v i x r (not_first (is_of_part ps v) (nat_le (length ps) v) k)
event_passes ring plan is_in ps gs w u (Ack v) iw iu r k = ack_passes ring is_in ps gs w u v r (not_first (is_of_part ps v) (nat_le (length ps) v) k)
event_passes ring plan is_in ps gs w u (StartGet key) iw iu r k = start_get_passes ring is_in ps gs w u key r k
event_passes ring plan is_in ps gs w u (Read h i) iw iu r k = read_passes ring plan is_in ps gs w u h i r (not_first (is_of_part gs h) (nat_le (length gs) h) k)
event_passes ring plan is_in ps gs w u (EndGet h) iw iu r k = end_get_passes ring is_in ps gs w u h r (not_first (is_of_part gs h) (nat_le (length gs) h) k)
event_passes ring plan is_in ps gs w u (Handoff x s) iw iu r k = handoff_passes ring plan is_in ps gs w u x s iw r k
event_passes ring plan is_in ps gs w u e iw iu r k = absurd cc

-- ---- what the event needs

do_met : (ring : RingValue) (is_in : ℕ → Bool) (ps gs : List Bool) (w u : World) (o : Option Step) → Follows ring is_in ps gs w u → AllMet (elim o [ Some s ↦ step_guards ring w s | None ↦ [] ]) → AllMet (elim o [ Some s ↦ step_guards ring u s | None ↦ [] ])
do_met ring is_in ps gs w u None r m = tt
do_met ring is_in ps gs w u (Some s) r m = step_in ring is_in ps gs w u s r m

pub keepers_met : (ring : RingValue) (is_in : ℕ → Bool) (ps gs : List Bool) (w u : World) (c : ℕ) (o : Option (Slot × Source)) → Follows ring is_in ps gs w u
    → AllMet (elim o [ Some k ↦ nodes_up w.up (length ring.nodes) (keeps_source ring w k.0 k.1 c) | None ↦ [] ]) → AllMet (elim o [ Some k ↦ nodes_up u.up (length ring.nodes) (keeps_source ring u k.0 k.1 c) | None ↦ [] ])
keepers_met ring is_in ps gs w u c None r m = tt
keepers_met ring is_in ps gs w u c (Some k) r m = subst (λ f. AllMet (nodes_up f (length ring.nodes) (keeps_source ring u k.0 k.1 c))) (sym r.up)
    (fewer_up w.up (length ring.nodes) (keeps_source ring u k.0 k.1 c) (keeps_source ring w k.0 k.1 c) (λ x e. source_whole ring is_in ps gs w u k.0 k.1 c x r e) m)

pub event_met : (ring : RingValue) (plan : List Planned) (is_in : ℕ → Bool) (ps gs : List Bool) (w u : World) (e : Event) → Reached ring plan w → Follows ring is_in ps gs w u → Named ring is_in ps gs e → AllMet (guards ring plan w e) → AllMet (guards ring plan u (event_in ps gs e))
unfolding guards
event_met ring plan is_in ps gs w u (Do n) i r k g = (g.0, (ap (λ f. not (f n)) r.done ∙ g.1.0, (ap (λ z. is_ready plan z n) (shared ring is_in ps gs w u r) ∙ g.1.1.0, do_met ring is_in ps gs w u (step_at plan n) r g.1.1.1)))
event_met ring plan is_in ps gs w u (OpenCopy n) i r k g = subst (λ z. AllMet (open_copy_guards ring plan z n)) (sym (shared ring is_in ps gs w u r)) g
event_met ring plan is_in ps gs w u (ChunkCopy n c) i r k g =
    let m = front_met (parties_up ring plan w n) (keepers_up ring plan w n c) g.1.1.1 in (
      g.0,
      (
        ap (λ f. f n) r.is_open ∙ g.1.0,
        (
          ap (λ f. not (f n c)) r.marked ∙ g.1.1.0,
          both_met (parties_up ring plan u n) (keepers_up ring plan u n c) (subst (λ z. AllMet (parties_up ring plan z n)) (sym (shared ring is_in ps gs w u r)) m.0) (keepers_met ring is_in ps gs w u c (copy_at plan n) r m.1),
        ),
      ),
    )
event_met ring plan is_in ps gs w u (CloseCopy n) i r k g = subst (λ z. AllMet (close_copy_guards plan z n)) (sym (shared ring is_in ps gs w u r)) g
event_met ring plan is_in ps gs w u (AbortCopy n) i r k g = subst (λ z. AllMet (abort_copy_guards plan z n)) (sym (shared ring is_in ps gs w u r)) g
event_met ring plan is_in ps gs w u (StartPut writer key value seen) i r k g =
    let a = all_mapped gs (is_get_of u key) (is_get_of w key) seen k.1 (λ v m. get_of_same ring is_in ps gs w u key v r m) in
    let b = all_mapped gs (has_ended u) (has_ended w) seen k.1 (λ v m. ended_same ring is_in ps gs w u v r m) in
    let n = all_new gs seen k.1 in
    (ap (list_all (is_get_of u key)) n ∙ (a ∙ g.0), (ap (list_all (has_ended u)) n ∙ (b ∙ g.1.0), tt))
event_met ring plan is_in ps gs w u (Write v i) j r k g = subst (λ z. AllMet (write_guards ring plan u z i)) (sym (number_new ps v k)) (subst AllMet (sym (write_guards_same ring plan is_in ps gs w u v i r k)) g)
event_met ring plan is_in ps gs w u (Hint v i x) j r k g = subst (λ z. AllMet (hint_guards ring plan u z i x)) (sym (number_new ps v k)) (subst AllMet (sym (hint_guards_same ring plan is_in ps gs w u v i x j r k (key_is_in ring is_in ps gs w u v r k))) g)
event_met ring plan is_in ps gs w u (Ack v) j r k g = subst (λ z. AllMet (ack_guards ring plan u z)) (sym (number_new ps v k)) (subst AllMet (sym (ack_guards_same ring plan is_in ps gs w u v r k)) g)
event_met ring plan is_in ps gs w u (StartGet key) j r k g = tt
event_met ring plan is_in ps gs w u (Read h i) j r k g = subst (λ z. AllMet (read_guards ring plan u z i)) (sym (number_new gs h k)) (subst AllMet (sym (read_guards_same ring plan is_in ps gs w u h i r k)) g)
event_met ring plan is_in ps gs w u (EndGet h) j r k g = subst (λ z. AllMet (end_get_guards ring u z)) (sym (number_new gs h k)) (subst AllMet (sym (end_get_guards_same ring is_in ps gs w u h r k)) g)
event_met ring plan is_in ps gs w u (Down x) j r k g = subst (λ z. AllMet (down_guards ring plan z x)) (sym (shared ring is_in ps gs w u r)) g
event_met ring plan is_in ps gs w u (Up x) j r k g = subst (λ z. AllMet (up_guards ring plan z x)) (sym (shared ring is_in ps gs w u r)) g
event_met ring plan is_in ps gs w u (Handoff x s) j r k g = subst AllMet (sym (handoff_guards_same ring plan is_in ps gs w u x s j r k)) g
event_met ring plan is_in ps gs w u (Lose x) j r k g = subst (λ z. AllMet (lose_guards ring plan z x)) (sym (shared ring is_in ps gs w u r)) g

-- ---- what it is answered

new_number : (bs : List Bool) (b : Bool) (n : ℕ) → n ≡ length bs → b ≡ true → renumbered (bs ++ b ∷ []) n ≡ part_size bs
new_number bs b n e h = number_new (bs ++ b ∷ []) n (new_is bs b n e ∙ h) ∙ (kept_number bs b n (omega arith) ∙ (ap (number_in bs) e ∙ last_number bs))

pub event_answered : (ring : RingValue) (plan : List Planned) (is_in : ℕ → Bool) (ps gs : List Bool) (w u : World) (e : Event) → Follows ring is_in ps gs w u → Named ring is_in ps gs e
    → reply_to ring plan u (event_in ps gs e) ≡ reply_in (puts_after ring is_in ps e) (gets_after ring is_in gs e) (reply_to ring plan w e)
event_answered ring plan is_in ps gs w u (StartPut writer key value seen) r k = ap reply.Put (puts_size ring is_in ps gs w u r ∙ sym (new_number ps (is_key_in ring is_in key) (length w.puts) (sym (puts_marked ring is_in ps gs w u r)) k.0))
event_answered ring plan is_in ps gs w u (Write v i) r k =
    ap (λ z. reply.Ticket (put_slot ring u z i) (generation plan u (put_slot ring u z i))) (number_new ps v k)
    ∙ (ap (λ z. reply.Ticket z (generation plan u (put_slot ring u (number_in ps v) i))) (same_slot ring is_in ps gs w u v i r k) ∙ ap (reply.Ticket (put_slot ring w v i)) (slot_generation ring plan is_in ps gs w u v i r k))
event_answered ring plan is_in ps gs w u (Hint v i x) r k =
    ap (λ z. reply.Ticket (put_slot ring u z i) (generation plan u (put_slot ring u z i))) (number_new ps v k)
    ∙ (ap (λ z. reply.Ticket z (generation plan u (put_slot ring u (number_in ps v) i))) (same_slot ring is_in ps gs w u v i r k) ∙ ap (reply.Ticket (put_slot ring w v i)) (slot_generation ring plan is_in ps gs w u v i r k))
event_answered ring plan is_in ps gs w u (StartGet key) r k = ap reply.Get (gets_size ring is_in ps gs w u r ∙ sym (new_number gs (is_key_in ring is_in key) (length w.gets) (sym (gets_marked ring is_in ps gs w u r)) k))
event_answered ring plan is_in ps gs w u (Read g i) r k =
    let s = finds_same ring plan is_in ps gs w u g i r k in
    ap (λ z. reply.Found (finds ring plan u z i)) (number_new gs g k) ∙ ap reply.Found (s.1 ∙ sym (all_new ps (finds ring plan w g i) s.0))
event_answered ring plan is_in ps gs w u (EndGet g) r k =
    let s = answers_same ring is_in ps gs w u g r k in
    ap (λ z. reply.Answer (answers ring u z)) (number_new gs g k) ∙ ap reply.Answer (s.1 ∙ sym (all_new ps (answers ring w g) s.0))
event_answered ring plan is_in ps gs w u e r k = refl
