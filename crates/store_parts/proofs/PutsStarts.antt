-- A put comes behind those that are kept, with its clock.
use Rattle.std.proofs.Common.{◌≡◌, inl, inr, ◌∙◌, ℕ, ◌<◌, ◌≤◌, Bool, true, false, List, [], ◌∷◌, ◌++◌, length, length-append, refl, sym, ap, subst, arith, eq-eqb, eqb-true}
use Rattle.std.specs.Prelude.{◌&&◌, ◌==◌, Option, Some, None, Ok, slice_get, is_some, if◌then◌else◌}
use Rattle.std.proofs.lemmas.Bool.{and_parts}
use Rattle.std.proofs.lemmas.Bool.Decides.{eqb_tells}
use Rattle.std.proofs.lemmas.Option.{slice_get_cases, slice_get_within}
use Rattle.ring_names.specs.Lists.{has}
use Rattle.ring_names.specs.declared.ids.Slot.{Slot}
use Rattle.ring_names.specs.declared.ids.WriterId.{WriterId}
use Rattle.ring_names.proofs.InLists.{get_there}
use Rattle.ring_table.specs.Value.{RingValue}
use Rattle.ring_clock.specs.declared.entry.Entry.{Entry}
use Rattle.ring_clock.specs.Built.{IsJoinOf, IsNext, with_clock}
use Rattle.ring_versions.specs.declared.version.Version.{Version}
use Rattle.plan_text.specs.declared.step.Planned.{Planned}
use Rattle.plan_stage.specs.Clauses.{first_failing}
use Rattle.plan_runs.specs.declared.event.Event.TheVariants.{StartPut}
use Rattle.plan_runs.specs.declared.event.Reply.{Reply}
use Rattle.plan_runs.specs.declared.event.Reply.TheVariants as reply
use Rattle.plan_runs.specs.World.{PutRecord, GetRecord, World, key_of_put, writer_of, is_of_key}
use Rattle.plan_runs.specs.Succession.{replied}
use Rattle.plan_runs.specs.Guards.{has_ended, guards}
use Rattle.plan_runs.specs.Effects.{effect}
use Rattle.plan_runs.specs.Answers.{answer}
use Rattle.plan_runs.specs.Reached.{Reached}
use Rattle.plan_runs.proofs.Answered.{answered}
use Rattle.plan_runs.proofs.Changed.{part_before, part_new, part_past}
use Rattle.plan_runs.proofs.Passed.{all_met, among}
use Rattle.store_parts.specs.Shows.{Shows, ArePutsOf, value_of}
use Rattle.store_parts.specs.Clocks.{AreClocksOf, IsOwn, IsLastOf, IsInputOf}
use Rattle.store_parts.specs.Found.{IsJoinOfFound}
use Rattle.store_parts.specs.Stored.{ShowAll}
use Rattle.store_parts.proofs.ClocksJoin.{join_is}
use Rattle.store_parts.proofs.ClocksStay.{clocks_grow}
use Rattle.store_parts.proofs.StoredLasts.{all_stay}
use Rattle.store_parts.proofs.ShownSets.{other_clock}
use Rattle.store_parts.specs.declared.puts.PutNow.{PutNow}
use Rattle.store_parts.specs.declared.gets.GetNow.{GetNow}
use Rattle.store_parts.specs.Puts.{ticket_at}
use Rattle.store_parts.specs.PutsMeet.{clock_in, clock_at, PutMeets, PutsMeet, AreNumbered, NoneBehind}
use Rattle.store_parts.specs.GetsMeet.{GetsMeet, found_at}
use Rattle.store_parts.proofs.PutsLists.{appended_at, one_number}
use Rattle.store_parts.proofs.PutsChanges.{same_clocks}
use Rattle.store_parts.proofs.GetsFrames.{gets_stay, gets_stay_with_clocks}

-- ---- clocks

-- when a put comes, those before it keep their clocks
pub clock_before : (puts : List PutNow) (put : PutNow) (v : ℕ) → v < length puts → clock_at (puts ++ put ∷ []) v ≡ clock_at puts v
clock_before puts put v l = part_before (λ (x : PutNow). clock_in x.version) [] puts (put ∷ []) v l

-- and all clocks are as before but its own
pub clock_with_put : (puts : List PutNow) (put : PutNow) (c : List Entry) → clock_in put.version ≡ c → (v : ℕ) → clock_at (puts ++ put ∷ []) v ≡ with_clock (clock_at puts) (length puts) c v
clock_with_put puts put c is v = elim (eqb_tells v (length puts)) [
  | inl t ↦ rw t.0 (part_new (λ (x : PutNow). clock_in x.version) [] puts put v t.1 ∙ is)
  | inr t ↦ rw t.0 (elim (slice_get_cases puts v).1 [
    | inl l ↦ clock_before puts put v l.1
    | inr l ↦ (
        let ne = t.1 in
        let past = l.0 in
        part_past (λ (x : PutNow). clock_in x.version) [] puts put v (omega arith)
        ∙ sym (ap (λ (o : Option PutNow). elim o as (λ _. List Entry) [ Some x ↦ clock_in x.version | None ↦ [] ]) l.1))
  ])
]

-- the gets that a put names have ended, so what they found shows their replies
pub seen_show : (ring : RingValue) (plan : List Planned) (w : World) (writer : WriterId) (key value seen : List ℕ) (clock : ℕ → List Entry) (keys : List (List ℕ)) (gets : List GetNow)
    → first_failing (guards ring plan w (StartPut writer key value seen)) ≡ None → GetsMeet ring clock keys gets w → (g : ℕ) → has g seen ≡ true → Shows clock (value_of w) (found_at gets g) (replied w.gets g)
unfolding guards
seen_show ring plan w writer key value seen clock keys gets none m g named = by (slice_get w.gets g) refl (among (has_ended w) g seen (all_met (guards ring plan w (StartPut writer key value seen)) none).1.0 named)
  where
    by : (o : Option GetRecord) → slice_get w.gets g ≡ o → is_some (elim o as (λ _. Option (List ℕ)) [ Some x ↦ x.reply | None ↦ None ]) ≡ true → Shows clock (value_of w) (found_at gets g) (replied w.gets g)
    by None e ended = absurd cc
    by (Some x) e ended = (
        let l = slice_get_within w.gets g x e in
        let s = m.each in
        let get = get_there gets g (omega arith) in
        subst (λ (held : List Version). Shows clock (value_of w) held (replied w.gets g)) (ap (λ (o : Option GetNow). elim o as (λ _. List Version) [ Some y ↦ y.found | None ↦ [] ]) (sym get.1))
        ((m.at g get.0 x get.1 e).answered ended))

-- the least clock above what those gets found and the clock of the writer's last put joins the clocks of the
-- put's inputs
pub inputs_join : (ring : RingValue) (plan : List Planned) (w : World) (writer : WriterId) (key value seen : List ℕ) (clock : ℕ → List Entry) (keys : List (List ℕ)) (gets : List GetNow) (last : Option ℕ) (d : List Entry)
    → first_failing (guards ring plan w (StartPut writer key value seen)) ≡ None → GetsMeet ring clock keys gets w → IsJoinOfFound clock (found_at gets) seen last d → IsJoinOf clock (IsInputOf w seen last) d
inputs_join ring plan w writer key value seen clock keys gets last d none m join = join_is w clock (value_of w) (found_at gets) seen last d (seen_show ring plan w writer key value seen clock keys gets none m) join

-- ---- last puts of writers

abbrev with_put : World → PutRecord → World
with_put w p = record w { puts = w.puts ++ p ∷ [] }

writer_new : (w : World) (p : PutRecord) → writer_of (with_put w p) (length w.puts) ≡ p.writer
writer_new w p = part_new (λ (x : PutRecord). x.writer) 0 w.puts p (length w.puts) refl

key_new : (w : World) (p : PutRecord) → key_of_put (with_put w p) (length w.puts) ≡ p.key
key_new w p = part_new (λ (x : PutRecord). x.key) [] w.puts p (length w.puts) refl

-- the writer's put of the key that comes is the last one
last_new : (w : World) (p : PutRecord) → IsLastOf (with_put w p) p.writer p.key (Some (length w.puts))
last_new w p = (let s = length-append w.puts (p ∷ []) in (((omega arith), writer_new w p, key_new w p), λ v own. (let l = own.0 in omega arith)))

own_before : (w : World) (p : PutRecord) (writer : ℕ) (key : List ℕ) → (p.writer ≡ writer → p.key ≡ key → ⊥) → (v : ℕ) → IsOwn (with_put w p) writer key v → IsOwn w writer key v
own_before w p writer key other v own = elim (eqb_tells v (length w.puts)) [
  | inl t ↦ absurd (other
      (sym (writer_new w p) ∙ ap (λ (z : ℕ). writer_of (with_put w p) z) (sym t.1) ∙ own.1)
      (sym (key_new w p) ∙ ap (λ (z : ℕ). key_of_put (with_put w p) z) (sym t.1) ∙ own.2))
  | inr t ↦ (
      let s = length-append w.puts (p ∷ []) in
      let ne = t.1 in
      let l = own.0 in
      let m : v < length w.puts = omega arith in
      (m, sym (part_before (λ (x : PutRecord). x.writer) 0 w.puts (p ∷ []) v m) ∙ own.1, sym (part_before (λ (x : PutRecord). x.key) [] w.puts (p ∷ []) v m) ∙ own.2))
]

-- of another writer or key the last one stays
last_other : (w : World) (p : PutRecord) (writer : ℕ) (key : List ℕ) (o : Option ℕ) → (p.writer ≡ writer → p.key ≡ key → ⊥) → IsLastOf w writer key o → IsLastOf (with_put w p) writer key o
last_other w p writer key None other none = λ v own. none v (own_before w p writer key other v own)
last_other w p writer key (Some x) other some = (
    let s = length-append w.puts (p ∷ []) in
    let l : x < length w.puts = some.0.0 in (
      (omega arith, part_before (λ (y : PutRecord). y.writer) 0 w.puts (p ∷ []) x l ∙ some.0.1, part_before (λ (y : PutRecord). y.key) [] w.puts (p ∷ []) x l ∙ some.0.2),
      λ v own. some.1 v (own_before w p writer key other v own),
    ))

-- the last puts once that of one writer on one key is another
abbrev SetsLast : (ℕ → ℕ → Option ℕ) → (ℕ → ℕ → Option ℕ) → ℕ → ℕ → ℕ → Type 0
SetsLast old new k writer n = (j a : ℕ) → new j a ≡ (if (j == k) && (a == writer) then Some n else old j a)

lasts_new : (keys : List (List ℕ)) (last new : ℕ → ℕ → Option ℕ) (w : World) (p : PutRecord) (k : ℕ) → AreNumbered keys → slice_get keys k ≡ Some p.key → SetsLast last new k p.writer (length w.puts)
    → ((j : ℕ) (key : List ℕ) (writer : ℕ) → slice_get keys j ≡ Some key → IsLastOf w writer key (last j writer))
    → (j : ℕ) (key : List ℕ) (writer : ℕ) → slice_get keys j ≡ Some key → IsLastOf (with_put w p) writer key (new j writer)
lasts_new keys last new w p k numbered is sets lasts j key writer e = by ((j == k) && (writer == p.writer)) refl
  where
    by : (b : Bool) → ((j == k) && (writer == p.writer)) ≡ b → IsLastOf (with_put w p) writer key (new j writer)
    by true t = (
        let q = and_parts (j == k) (writer == p.writer) t in
        let same : Some key ≡ Some p.key = sym e ∙ ap (λ (z : ℕ). slice_get keys z) (eqb-true j k q.0) ∙ is in
        let of : p.key ≡ key = cc in
        let mine : p.writer ≡ writer = sym (eqb-true writer p.writer q.1) in
        let now : Some (length w.puts) ≡ new j writer = sym (sets j writer ∙ ap (λ (b : Bool). if b then Some (length w.puts) else last j writer) t) in
        subst (λ (o : Option ℕ). IsLastOf (with_put w p) writer key o) now
        (subst (λ (z : List ℕ). IsLastOf (with_put w p) writer z (Some (length w.puts))) of (subst (λ (z : ℕ). IsLastOf (with_put w p) z p.key (Some (length w.puts))) mine (last_new w p))))
    by false f = (
        let now : last j writer ≡ new j writer = sym (sets j writer ∙ ap (λ (b : Bool). if b then Some (length w.puts) else last j writer) f) in
        subst (λ (o : Option ℕ). IsLastOf (with_put w p) writer key o) now
        (last_other w p writer key (last j writer)
        (λ a b. (
        let c : (writer == p.writer) ≡ true = eq-eqb writer p.writer (sym a) in
        let d : (j == k) ≡ true = eq-eqb j k (one_number keys j k key numbered e (is ∙ ap (λ (z : List ℕ). Some z) b)) in
        let both : true && true ≡ false = subst (λ (x : Bool). x && true ≡ false) d (subst (λ (y : Bool). (j == k) && y ≡ false) c f) in
        cc))
        (lasts j key writer e)))

-- if no writer has a last put on a key behind the first n, so it is for more than n
pub none_behind_more : (last : ℕ → ℕ → Option ℕ) (n m : ℕ) → n ≤ m → NoneBehind last n → NoneBehind last m
none_behind_more last n m le none k writer l = none k writer (omega arith)

-- and where the last put on one of these keys is another
pub none_behind_set : (last new : ℕ → ℕ → Option ℕ) (n k writer x : ℕ) → k < n → ((j a : ℕ) → new j a ≡ (if (j == k) && (a == writer) then Some x else last j a)) → NoneBehind last n → NoneBehind new n
none_behind_set last new n k writer x l sets none j a le = elim (eqb_tells j k) [
  | inl t ↦ absurd (let e = t.1 in omega arith)
  | inr t ↦ (sets j a ∙ ap (λ (b : Bool). if b && (a == writer) then Some x else last j a) t.0) ∙ none j a le
]

-- ---- the put

one_version : ℕ → List Entry → List ℕ → List Version
one_version v c value = record { put = v; clock = c; value = value } ∷ []

-- the put that comes is the new put of the world, and the writer's last put of that key
pub puts_started : (ring : RingValue) (plan : List Planned) (w u : World) (writer : WriterId) (key value seen : List ℕ) (r : Reply) (keys : List (List ℕ)) (last new : ℕ → ℕ → Option ℕ) (puts : List PutNow) (put : PutNow) (c : List Entry)
    → Reached ring plan w → answer ring plan w (StartPut writer key value seen) ≡ Ok (u, r) → AreNumbered keys → slice_get keys put.key ≡ Some key
    → IsNext (clock_at puts) (IsInputOf w seen (last put.key writer.0)) writer.0 c
    → put.version ≡ record { put = length puts; clock = c; value = value } ∷ [] → ((i : ℕ) → ticket_at put i ≡ None) → put.acked ≡ false
    → ((j a : ℕ) → new j a ≡ (if (j == put.key) && (a == writer.0) then Some (length puts) else last j a))
    → PutsMeet keys last puts w → PutsMeet keys new (puts ++ put ∷ []) u
unfolding effect one_version
puts_started ring plan w u writer key value seen r keys last new puts put c reached h numbered is next version tickets acked sets m =
    let p : PutRecord = record { writer = writer.0; key = key; value = value; seen = seen; ticket = λ i. None; acked = false } in
    let a = answered ring plan w u (StartPut writer key value seen) r h in
    let now : u.puts ≡ w.puts ++ p ∷ [] = ap (λ (z : World). z.puts) (sym a.1) in
    let clock : clock_in put.version ≡ c = ap (λ (xs : List Version). clock_in xs) version in
    let fresh : (v : ℕ) → v ≡ length puts → PutMeets keys v put p = λ v e. record {
      key = is;
      version = version ∙ ap (λ (z : ℕ). one_version z c value) (sym e) ∙ ap (λ (z : List Entry). one_version v z value) (sym clock);
      tickets = tickets;
      acked = acked;
    } in
    record {
      each = (let s = m.each in let b = length-append puts (put ∷ []) in let d = length-append w.puts (p ∷ []) in let e = ap (λ (xs : List PutRecord). length xs) now in omega arith);
      at = λ v x y b d. elim (appended_at puts put v x b) [
        | inl s ↦ elim (appended_at w.puts p v y (ap (λ (xs : List PutRecord). slice_get xs v) (sym now) ∙ d)) [
          | inl t ↦ subst (λ (z : PutNow). PutMeets keys v z y) s.1 (subst (λ (z : PutRecord). PutMeets keys v put z) t.1 (fresh v s.0))
          | inr t ↦ absurd (let l = t.0 in let e = s.0 in let f = m.each in omega arith)
        ]
        | inr s ↦ elim (appended_at w.puts p v y (ap (λ (xs : List PutRecord). slice_get xs v) (sym now) ∙ d)) [
          | inl t ↦ absurd (let l = s.0 in let e = t.0 in let f = m.each in omega arith)
          | inr t ↦ m.at v x y s.1 t.1
        ]
      ];
      clocks = same_clocks u (with_clock (clock_at puts) (length puts) c) (clock_at (puts ++ put ∷ [])) (clock_with_put puts put c clock)
          (subst (λ (n : ℕ). AreClocksOf u (with_clock (clock_at puts) n c)) (sym m.each)
          (clocks_grow ring plan w u writer key value seen r (last put.key writer.0) (clock_at puts) c reached m.clocks (m.lasts put.key key writer.0 is) next h));
      lasts = λ j other b e. subst (λ (z : World). IsLastOf z b other (new j b)) a.1
          (lasts_new keys last new w p put.key numbered is (λ i d. sets i d ∙ ap (λ (n : ℕ). if (i == put.key) && (d == writer.0) then Some n else last i d) m.each) m.lasts j other b e);
    }

-- it is answered its number
pub put_numbered : (ring : RingValue) (plan : List Planned) (w u : World) (writer : WriterId) (key value seen : List ℕ) (r : Reply) (keys : List (List ℕ)) (last : ℕ → ℕ → Option ℕ) (puts : List PutNow)
    → answer ring plan w (StartPut writer key value seen) ≡ Ok (u, r) → PutsMeet keys last puts w → r ≡ reply.Put (length puts)
put_numbered ring plan w u writer key value seen r keys last puts h m = sym (answered ring plan w u (StartPut writer key value seen) r h).2 ∙ ap (λ (n : ℕ). reply.Put n) (sym m.each)

-- the gets that are kept stay those of the world, by the clocks with the put's
pub gets_with_put : (ring : RingValue) (plan : List Planned) (w u : World) (writer : WriterId) (key value seen : List ℕ) (r : Reply) (keys : List (List ℕ)) (last : ℕ → ℕ → Option ℕ) (puts : List PutNow) (put : PutNow) (gets : List GetNow)
    → Reached ring plan w → answer ring plan w (StartPut writer key value seen) ≡ Ok (u, r) → PutsMeet keys last puts w → GetsMeet ring (clock_at puts) keys gets w → GetsMeet ring (clock_at (puts ++ put ∷ [])) keys gets u
gets_with_put ring plan w u writer key value seen r keys last puts put gets reached h m g =
    gets_stay ring plan w u (StartPut writer key value seen) r (clock_at (puts ++ put ∷ [])) keys gets reached h refl
    (gets_stay_with_clocks ring plan (clock_at puts) (clock_at (puts ++ put ∷ [])) keys gets w reached (λ v l. clock_before puts put v (let e = m.each in omega arith)) g)

-- versions by node, slot and key show what they showed, by the clocks with the put's
pub stored_with_put : (ring : RingValue) (plan : List Planned) (w u : World) (writer : WriterId) (key value seen : List ℕ) (r : Reply) (keys : List (List ℕ)) (last : ℕ → ℕ → Option ℕ) (puts : List PutNow) (put : PutNow)
    (held : ℕ → Slot → List ℕ → List Version) (test : ℕ → Slot → ℕ → Bool)
    → answer ring plan w (StartPut writer key value seen) ≡ Ok (u, r) → ((x : ℕ) (s : Slot) → ArePutsOf w (test x s)) → PutsMeet keys last puts w → ShowAll w (clock_at puts) held test → ShowAll u (clock_at (puts ++ put ∷ [])) held test
stored_with_put ring plan w u writer key value seen r keys last puts put held test h are m shows =
    all_stay ring plan w u (StartPut writer key value seen) r (clock_at (puts ++ put ∷ [])) held test h are
    (λ x s k. other_clock (clock_at puts) (clock_at (puts ++ put ∷ [])) (value_of w) (held x s k) (λ v. test x s v && is_of_key w k v)
    (λ v e. clock_before puts put v (let l = are x s v (and_parts (test x s v) (is_of_key w k v) e).0 in let n = m.each in omega arith)) (shows x s k))
