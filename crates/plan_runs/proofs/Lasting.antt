-- What a run leaves of the puts and gets that are there, and of succession among them.
use Rattle.std.proofs.Common.{◌≡◌, ◌∙◌, ℕ, zero, suc, ◌<◌, ◌≤◌, Bool, true, false, List, [], ◌∷◌, ◌++◌, length, length-append, refl, sym, ap, subst, arith, ltb-true, lt-ltb, eq-eqb}
use Rattle.std.specs.Prelude.{◌==◌, nat_lt, Option, Some, None, slice_get, is_some}
use Rattle.std.proofs.lemmas.Slice.Eq.{bytes_eq-Decides}
use Rattle.std.proofs.lemmas.Bool.{not-true}
use Rattle.ring_names.specs.Lists.{has}
use Rattle.ring_names.specs.declared.ids.Slot.{Slot}
use Rattle.ring_table.specs.Value.{RingValue}
use Rattle.plan_text.specs.declared.step.Planned.{Planned}
use Rattle.plan_runs.specs.declared.event.Event.{Event}
use Rattle.plan_runs.specs.declared.event.Event.TheVariants.{StartPut, Write, Hint, Ack, StartGet, Read, EndGet}
use Rattle.plan_runs.specs.World.{PutRecord, GetRecord, World, generation, key_of_put, writer_of, seen_of, is_acked}
use Rattle.plan_runs.specs.Succession.{replied, some_replied, is_direct, Succeeds, itself, by}
use Rattle.plan_runs.specs.Versions.{put_slot}
use Rattle.plan_runs.specs.Guards.{has_ended, guards}
use Rattle.plan_runs.specs.Effects.{with_value, changed, finds, answers, effect}
use Rattle.plan_runs.specs.Reached.{Reached}
use Rattle.plan_runs.proofs.Changed.{read_at, length_changed, get_other, part_changed, part_before}
use Rattle.plan_runs.proofs.Frames.{same_puts, same_gets}
use Rattle.plan_runs.proofs.Passed.{AllMet}
use Rattle.plan_runs.proofs.Serial.{acked_exists}
use Rattle.plan_runs.proofs.Succeeding.{direct_parts}
use Rattle.std.proofs.lemmas.Bool.{or_right}

-- puts and ended gets stay what they are
pub record Extends (w u : World) : Type 0 where
  pub puts : length w.puts ≤ length u.puts
  pub key : (v : ℕ) → v < length w.puts → key_of_put u v ≡ key_of_put w v
  pub writer : (v : ℕ) → v < length w.puts → writer_of u v ≡ writer_of w v
  pub value : (v : ℕ) → v < length w.puts → read_at (λ (x : PutRecord). x.value) [] u.puts v ≡ read_at (λ (x : PutRecord). x.value) [] w.puts v
  pub seen : (v : ℕ) → v < length w.puts → seen_of u v ≡ seen_of w v
  pub acked : (v : ℕ) → is_acked w v ≡ true → is_acked u v ≡ true
  pub ended : (g : ℕ) → has_ended w g ≡ true → has_ended u g ≡ true
  pub replied : (g v : ℕ) → has_ended w g ≡ true → replied u.gets g v ≡ replied w.gets g v

-- ---- each event

-- one more put
put_extends : (w : World) (p : PutRecord) → Extends w (record w { puts = w.puts ++ p ∷ [] })
put_extends w p = record {
  puts = (let l = length-append w.puts (p ∷ []) in omega arith);
  key = λ v l. part_before (λ (x : PutRecord). x.key) [] w.puts (p ∷ []) v l;
  writer = λ v l. part_before (λ (x : PutRecord). x.writer) 0 w.puts (p ∷ []) v l;
  value = λ v l. part_before (λ (x : PutRecord). x.value) [] w.puts (p ∷ []) v l;
  seen = λ v l. part_before (λ (x : PutRecord). x.seen) [] w.puts (p ∷ []) v l;
  acked = λ v e. part_before (λ (x : PutRecord). x.acked) false w.puts (p ∷ []) v (acked_exists w.puts v e) ∙ e;
  ended = λ g e. e;
  replied = λ g v e. refl;
}

still_acked : (ps : List PutRecord) (n : ℕ) (f : PutRecord → PutRecord) → ((x : PutRecord) → x.acked ≡ true → (f x).acked ≡ true) → (v : ℕ)
    → read_at (λ (x : PutRecord). x.acked) false ps v ≡ true → read_at (λ (x : PutRecord). x.acked) false (changed ps n f) v ≡ true
still_acked [] n f keep v e = e
still_acked (x ∷ ps) zero f keep zero e = keep x e
still_acked (x ∷ ps) zero f keep (suc v) e = e
still_acked (x ∷ ps) (suc n) f keep zero e = e
still_acked (x ∷ ps) (suc n) f keep (suc v) e = still_acked ps n f keep v e

-- one put changed in its tickets, or acknowledged
changed_extends : (w : World) (n : ℕ) (f : PutRecord → PutRecord) (b h : ℕ → Slot → ℕ → Bool) → ((x : PutRecord) → (f x).key ≡ x.key) → ((x : PutRecord) → (f x).writer ≡ x.writer) → ((x : PutRecord) → (f x).value ≡ x.value)
    → ((x : PutRecord) → (f x).seen ≡ x.seen) → ((x : PutRecord) → x.acked ≡ true → (f x).acked ≡ true) → Extends w (record w { puts = changed w.puts n f; stored = b; hinted = h })
changed_extends w n f b h key writer value seen acked = record {
  puts = (let l = length_changed w.puts n f in omega arith);
  key = λ v l. part_changed (λ (x : PutRecord). x.key) [] w.puts n f key v;
  writer = λ v l. part_changed (λ (x : PutRecord). x.writer) 0 w.puts n f writer v;
  value = λ v l. part_changed (λ (x : PutRecord). x.value) [] w.puts n f value v;
  seen = λ v l. part_changed (λ (x : PutRecord). x.seen) [] w.puts n f seen v;
  acked = λ v e. still_acked w.puts n f acked v e;
  ended = λ g e. e;
  replied = λ g v e. refl;
}

-- what a record had of a reply
abbrev reply_at : List GetRecord → ℕ → Option (List ℕ)
reply_at gs g = read_at (λ (x : GetRecord). x.reply) None gs g

replied_is : (o : Option GetRecord) (v : ℕ)
    → ◌≡◌ {A = Bool} (elim o [ Some x ↦ elim x.reply [ Some puts ↦ has v puts | None ↦ false ] | None ↦ false ]) (elim (elim o as (λ _. Option (List ℕ)) [ Some x ↦ x.reply | None ↦ None ]) [ Some puts ↦ has v puts | None ↦ false ])
replied_is None v = refl
replied_is (Some x) v = refl

-- the same puts, and the same replies
same_extends : (w u : World) → u.puts ≡ w.puts → ((g : ℕ) → has_ended w g ≡ true → reply_at u.gets g ≡ reply_at w.gets g) → Extends w u
same_extends w u same replies = record {
  puts = (let l = ap (λ (ps : List PutRecord). length ps) same in omega arith);
  key = λ v l. ap (λ (ps : List PutRecord). read_at (λ (x : PutRecord). x.key) [] ps v) same;
  writer = λ v l. ap (λ (ps : List PutRecord). read_at (λ (x : PutRecord). x.writer) 0 ps v) same;
  value = λ v l. ap (λ (ps : List PutRecord). read_at (λ (x : PutRecord). x.value) [] ps v) same;
  seen = λ v l. ap (λ (ps : List PutRecord). read_at (λ (x : PutRecord). x.seen) [] ps v) same;
  acked = λ v e. ap (λ (ps : List PutRecord). read_at (λ (x : PutRecord). x.acked) false ps v) same ∙ e;
  ended = λ g e. ap (λ (o : Option (List ℕ)). is_some o) (replies g e) ∙ e;
  replied = λ g v e. replied_is (slice_get u.gets g) v ∙ ap (λ (o : Option (List ℕ)). elim o as (λ _. Bool) [ Some puts ↦ has v puts | None ↦ false ]) (replies g e) ∙ sym (replied_is (slice_get w.gets g) v);
}

before_more : (gs hs : List GetRecord) (g : ℕ) → is_some (reply_at gs g) ≡ true → reply_at (gs ++ hs) g ≡ reply_at gs g
before_more [] hs g e = absurd cc
before_more (x ∷ gs) hs zero e = refl
before_more (x ∷ gs) hs (suc g) e = before_more gs hs g e

pub event_extends : (ring : RingValue) (plan : List Planned) (w : World) (e : Event) → AllMet (guards ring plan w e) → Extends w (effect ring plan w e)
unfolding guards effect
event_extends ring plan w (StartPut writer key value seen) g = put_extends w _
event_extends ring plan w (Write v j) g = changed_extends w v (λ x. record x { ticket = with_value x.ticket j (generation plan w (put_slot ring w v j)) }) _ w.hinted (λ x. refl) (λ x. refl) (λ x. refl) (λ x. refl) (λ x e. e)
event_extends ring plan w (Hint v j x) g = changed_extends w v (λ x. record x { ticket = with_value x.ticket j (generation plan w (put_slot ring w v j)) }) w.stored _ (λ x. refl) (λ x. refl) (λ x. refl) (λ x. refl) (λ x e. e)
event_extends ring plan w (Ack v) g = changed_extends w v (λ x. record x { acked = true }) w.stored w.hinted (λ x. refl) (λ x. refl) (λ x. refl) (λ x. refl) (λ x e. refl)
event_extends ring plan w (StartGet key) g = same_extends w _ refl (λ h e. before_more w.gets _ h e)
event_extends ring plan w (Read h j) g = same_extends w _ refl (λ k e. part_changed (λ (x : GetRecord). x.reply) None w.gets h (λ x. record x { found = with_value x.found j (finds ring plan w h j) }) (λ x. refl) k)
event_extends ring plan w (EndGet h) g = same_extends w _ refl (λ k e. ap (λ (o : Option GetRecord). elim o as (λ _. Option (List ℕ)) [ Some x ↦ x.reply | None ↦ None ]) (get_other w.gets h k (λ x. record x { reply = Some (answers ring w h) }) (λ s. (
    let f : has_ended w h ≡ true = subst (λ (z : ℕ). has_ended w z ≡ true) s e in
    let n = not-true (has_ended w h) g.1.0 in
    cc))))
event_extends ring plan w e g = same_extends w _ (same_puts ring plan w e refl) (λ k h. ap (λ (gs : List GetRecord). reply_at gs k) (same_gets ring plan w e refl))

-- ---- succession among the puts that are there

-- each get that a put names has ended
abbrev pub NamesEnded : World → Type 0
NamesEnded w = (p g : ℕ) → has g (seen_of w p) ≡ true → has_ended w g ≡ true

pub names_ended : (ring : RingValue) (plan : List Planned) (w : World) → Reached ring plan w → NamesEnded w
names_ended ring plan w r p g h = (r.seen p g h).2

same_replies : (w u : World) → Extends w u → (gs : List ℕ) (v : ℕ) → ((g : ℕ) → has g gs ≡ true → has_ended w g ≡ true) → some_replied u.gets gs v ≡ some_replied w.gets gs v
same_replies w u x [] v all = refl
same_replies w u x (g ∷ gs) v all =
    let first : replied u.gets g v ≡ replied w.gets g v = x.replied g v (all g (rw (eq-eqb g g refl) refl)) in
    let rest = same_replies w u x gs v (λ h e. all h (or_right (h == g) (has h gs) e)) in
    rw (first, rest) refl

pub direct_stays : (w u : World) → Extends w u → NamesEnded w → (a b : ℕ) → a < length w.puts → is_direct u a b ≡ is_direct w a b
direct_stays w u x named a b l = by (nat_lt b a) refl
  where
    by : (t : Bool) → nat_lt b a ≡ t → is_direct u a b ≡ is_direct w a b
    by false e = rw e refl
    by true e =
        let less = ltb-true b a e in
        let m : b < length w.puts = omega arith in
        let k = x.puts in
        let first : nat_lt a (length u.puts) ≡ true = lt-ltb a (length u.puts) (omega arith) in
        let second : nat_lt a (length w.puts) ≡ true = lt-ltb a (length w.puts) l in
        let asked : some_replied u.gets (seen_of u a) b ≡ some_replied w.gets (seen_of w a) b = ap (λ (gs : List ℕ). some_replied u.gets gs b) (x.seen a l) ∙ same_replies w u x (seen_of w a) b (named a) in
        rw (first, second, x.key a l, x.key b m, x.writer a l, x.writer b m, asked) refl

pub succeeds_stays : (w u : World) → Extends w u → NamesEnded w → (a b : ℕ) → a < length w.puts → Succeeds w a b → Succeeds u a b
succeeds_stays w u x named a b l (itself _) = itself a
succeeds_stays w u x named a b l (by _ m _ d r) =
    let less = (direct_parts w a m d).less in
    by a m b (direct_stays w u x named a m l ∙ d) (succeeds_stays w u x named m b (omega arith) r)

-- puts that succeed one another are of one key
pub succeeds_same_key : (w : World) (a b : ℕ) → Succeeds w a b → key_of_put w a ≡ key_of_put w b
succeeds_same_key w a b (itself _) = refl
succeeds_same_key w a b (by _ m _ d r) = (bytes_eq-Decides (key_of_put w a) (key_of_put w m)).0 (direct_parts w a m d).same_key ∙ succeeds_same_key w m b r
