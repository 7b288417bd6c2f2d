-- Puts that are kept meet the world at its start, and stay its puts through events that change no put and where keys come.
use Rattle.std.proofs.Common.{◌≡◌, inl, inr, ◌∙◌, ℕ, ◌<◌, false, List, [], ◌∷◌, ◌++◌, length, refl, sym, ap, subst, arith}
use Rattle.std.specs.Prelude.{Option, Some, None, Ok, slice_get}
use Rattle.ring_names.specs.Names.{place}
use Rattle.ring_names.proofs.InLists.{get_there}
use Rattle.ring_table.specs.Value.{RingValue}
use Rattle.plan_text.specs.declared.step.Planned.{Planned}
use Rattle.plan_runs.specs.declared.event.Event.{Event}
use Rattle.plan_runs.specs.declared.event.Event.TheVariants.{StartPut}
use Rattle.plan_runs.specs.declared.event.Reply.{Reply}
use Rattle.plan_runs.specs.World.{PutRecord, World, opening_world, key_of_put, writer_of}
use Rattle.plan_runs.specs.Answers.{answer}
use Rattle.plan_runs.specs.Reached.{Reached}
use Rattle.plan_runs.proofs.Answered.{answered}
use Rattle.store_parts.specs.Clocks.{AreClocksOf, IsOwn, IsLastOf}
use Rattle.store_parts.proofs.ClocksStay.{opening_clocks, clocks_stay}
use Rattle.store_parts.specs.declared.puts.PutNow.{PutNow}
use Rattle.store_parts.specs.PutsMeet.{clock_at, PutsMeet}
use Rattle.plan_runs.specs.Leaves.{starts_put, changes_puts}
use Rattle.plan_runs.proofs.Frames.{same_puts}
use Rattle.store_parts.proofs.PutsLists.{appended_at, stays_there, absent}

-- ---- the start

-- no puts are those of the world at the start, with any keys, if no writer has a last put
pub puts_open : (ring : RingValue) (keys : List (List ℕ)) (last : ℕ → ℕ → Option ℕ) → ((k writer : ℕ) → last k writer ≡ None) → PutsMeet keys last [] (opening_world ring)
puts_open ring keys last none = record {
  each = refl;
  at = λ v put x a b. absurd cc;
  clocks = opening_clocks ring (clock_at []);
  lasts = λ k key writer e. subst (λ (o : Option ℕ). IsLastOf (opening_world ring) writer key o) (sym (none k writer)) (λ v own. (let l = own.0 in absurd (omega arith)));
}

-- ---- last puts of writers

-- the puts of both worlds are as many, of the same writers and keys
pub record SamePuts (w u : World) : Type 0 where
  pub each : length u.puts ≡ length w.puts
  pub writer : (v : ℕ) → writer_of u v ≡ writer_of w v
  pub key : (v : ℕ) → key_of_put u v ≡ key_of_put w v

own_back : (w u : World) (writer : ℕ) (key : List ℕ) (v : ℕ) → SamePuts w u → IsOwn u writer key v → IsOwn w writer key v
own_back w u writer key v s own = ((let l = own.0 in let e = s.each in omega arith), sym (s.writer v) ∙ own.1, sym (s.key v) ∙ own.2)

-- a writer's last put of a key is so in a world of the same puts
pub last_stays : (w u : World) → SamePuts w u → (writer : ℕ) (key : List ℕ) (o : Option ℕ) → IsLastOf w writer key o → IsLastOf u writer key o
last_stays w u s writer key None none = λ v own. none v (own_back w u writer key v s own)
last_stays w u s writer key (Some x) some = (
  ((let l = some.0.0 in let e = s.each in omega arith), s.writer x ∙ some.0.1, s.key x ∙ some.0.2),
  λ v own. some.1 v (own_back w u writer key v s own),
)

-- ---- events that change no put

-- the puts that are kept are those of each world that has the same records
pub puts_as_before : (keys : List (List ℕ)) (last : ℕ → ℕ → Option ℕ) (puts : List PutNow) (w u : World) → u.puts ≡ w.puts → AreClocksOf u (clock_at puts) → PutsMeet keys last puts w → PutsMeet keys last puts u
puts_as_before keys last puts w u same made m = record {
  each = m.each ∙ sym (ap (λ (xs : List PutRecord). length xs) same);
  at = λ v put x a b. m.at v put x a (ap (λ (xs : List PutRecord). slice_get xs v) (sym same) ∙ b);
  clocks = made;
  lasts = λ k key writer e. last_stays w u
      (record {
        each = ap (λ (xs : List PutRecord). length xs) same;
        writer = λ v. ap (λ (xs : List PutRecord). writer_of (record w { puts = xs }) v) same;
        key = λ v. ap (λ (xs : List PutRecord). key_of_put (record w { puts = xs }) v) same;
      })
      writer key (last k writer) (m.lasts k key writer e);
}

starts_none : (e : Event) → changes_puts e ≡ false → starts_put e ≡ false
starts_none (StartPut writer key value seen) c = absurd cc
starts_none e c = refl

-- the puts that are kept stay those of the world through each event that changes no put
pub puts_stay : (ring : RingValue) (plan : List Planned) (w u : World) (e : Event) (r : Reply) (keys : List (List ℕ)) (last : ℕ → ℕ → Option ℕ) (puts : List PutNow)
    → Reached ring plan w → answer ring plan w e ≡ Ok (u, r) → changes_puts e ≡ false → PutsMeet keys last puts w → PutsMeet keys last puts u
puts_stay ring plan w u e r keys last puts reached h none m =
    let a = answered ring plan w u e r h in
    puts_as_before keys last puts w u (ap (λ (z : World). z.puts) (sym a.1) ∙ same_puts ring plan w e none)
    (clocks_stay ring plan w u e r (clock_at puts) reached m.clocks h (starts_none e none)) m

-- ---- keys that come

-- a key of a put is among the keys
pub put_key : (keys : List (List ℕ)) (last : ℕ → ℕ → Option ℕ) (puts : List PutNow) (w : World) → PutsMeet keys last puts w → (v : ℕ) → v < length w.puts → (k : ℕ) × (slice_get keys k ≡ Some (key_of_put w v))
put_key keys last puts w m v l =
    let x = get_there w.puts v l in
    let e = m.each in
    let put = get_there puts v (omega arith) in
    let is : x.0.key ≡ key_of_put w v = ap (λ (o : Option PutRecord). elim o as (λ _. List ℕ) [ Some y ↦ y.key | None ↦ [] ]) (sym x.1) in
    (put.0.key, (m.at v put.0 x.0 put.1 x.1).key ∙ ap (λ (z : List ℕ). Some z) is)

-- the puts that are kept stay those of the world when a new key comes behind, of which no writer has a last put
pub puts_stay_with_key : (keys : List (List ℕ)) (last : ℕ → ℕ → Option ℕ) (puts : List PutNow) (w : World) (key : List ℕ)
    → place keys key ≡ None → ((writer : ℕ) → last (length keys) writer ≡ None) → PutsMeet keys last puts w → PutsMeet (keys ++ key ∷ []) last puts w
puts_stay_with_key keys last puts w key new none m = record {
  each = m.each;
  at = λ v put x a b. (let p = m.at v put x a b in record {
    key = stays_there keys (key ∷ []) put.key x.key p.key;
    version = p.version;
    tickets = p.tickets;
    acked = p.acked;
  });
  clocks = m.clocks;
  lasts = λ k other writer e. elim (appended_at keys key k other e) [
    | inl a ↦ subst (λ (o : Option ℕ). IsLastOf w writer other o) (sym (ap (λ (j : ℕ). last j writer) a.0 ∙ none writer)) (λ v own. (
        let q = put_key keys last puts w m v own.0 in
        absent keys q.0 key new (q.1 ∙ ap (λ (z : List ℕ). Some z) (own.2 ∙ sym a.1))))
    | inr a ↦ m.lasts k other writer a.1
  ];
}
