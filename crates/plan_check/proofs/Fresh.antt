-- What a get that is under way has read shows the puts of its key that were acknowledged before it started.
use Rattle.std.proofs.Common.{◌≡◌, inl, inr, ◌∙◌, ℕ, zero, suc, ◌+◌, ◌<◌, ◌≤◌, Bool, true, false, List, [], ◌∷◌, length, Some, refl, sym, subst, arith}
use Rattle.std.specs.Prelude.{◌&&◌}
use Rattle.std.specs.Str.{bytes_eq}
use Rattle.std.proofs.lemmas.Slice.Eq.{bytes_eq-Decides}
use Rattle.std.proofs.lemmas.Bool.Decides.{eqb_tells}
use Rattle.std.proofs.lemmas.Bool.{and_from}
use Rattle.ring_names.specs.Lists.{has}
use Rattle.ring_names.specs.declared.ids.NodeId.{NodeId}
use Rattle.ring_table.specs.Value.{RingValue}
use Rattle.plan_text.specs.declared.step.Planned.{Planned}
use Rattle.plan_runs.specs.declared.event.Event.{Event}
use Rattle.plan_runs.specs.declared.event.Event.TheVariants.{Lose}
use Rattle.plan_runs.specs.declared.event.Entry.{Entry}
use Rattle.plan_runs.specs.World.{World, passing_below, is_of_key, is_acked, key_of_put, key_of_get, found_at, slot_of}
use Rattle.plan_runs.specs.Succession.{Succeeds, itself, some_succeeds, latest}
use Rattle.plan_runs.specs.Versions.{put_slot, get_slot, slot_has, IsHeld}
use Rattle.plan_runs.specs.Guards.{guards}
use Rattle.plan_runs.specs.Effects.{finds, effect}
use Rattle.plan_check.specs.Firm.{FirmSlots, Holding}
use Rattle.plan_runs.specs.Reached.{Reached}
use Rattle.plan_runs.specs.Runs.{Leads}
use Rattle.plan_runs.proofs.Answered.{answered}
use Rattle.plan_runs.proofs.Asking.{StaysAsked, event_asked}
use Rattle.plan_check.proofs.Apart.{Inv}
use Rattle.plan_check.proofs.Doing.{event_keeps}
use Rattle.plan_check.proofs.Holdings.{may_lose, next_inv, next_holding}
use Rattle.plan_runs.proofs.Lasting.{Extends, event_extends, names_ended, succeeds_stays, succeeds_same_key}
use Rattle.plan_runs.proofs.Latest.{some_succeeds_found, latest_of_is, is_latest_of}
use Rattle.plan_check.proofs.Losing.{lose_slots}
use Rattle.plan_check.proofs.Mirrored.{Holds}
use Rattle.plan_runs.proofs.Passed.{AllMet, all_met}
use Rattle.plan_runs.proofs.Passing.{below_is, is_below}
use Rattle.plan_runs.proofs.Serial.{acked_exists}
use Rattle.plan_check.proofs.Standing.{KeepsFirm, held_exists, slots_stay}
use Rattle.plan_runs.proofs.Succeeding.{not_less, succeeds_through}

-- ---- the latest of some puts

-- of puts below a bound, for each there is one among the latest that succeeds it
pub some_latest : (w : World) (vs : List ℕ) (most left a : ℕ) → ((u : ℕ) → has u vs ≡ true → u < most) → has a vs ≡ true → most ≤ a + left
    → (u : ℕ) × (has u (latest w vs) ≡ true) × Succeeds w u a
some_latest w vs most zero a below h l = absurd (let m = below a h in omega arith)
some_latest w vs most (suc left) a below h l = by (some_succeeds w a vs) refl (λ u i m. some_latest w vs most left u below i m)
  where
    by : (b : Bool) → some_succeeds w a vs ≡ b → ((u : ℕ) → has u vs ≡ true → most ≤ u + left → (x : ℕ) × (has x (latest w vs) ≡ true) × Succeeds w x u)
        → (u : ℕ) × (has u (latest w vs) ≡ true) × Succeeds w u a
    by false e more = (a, is_latest_of w vs vs a h e, itself a)
    by true e more =
        let s = some_succeeds_found w a vs e in
        let up = not_less w s.0 a s.3 in
        elim (eqb_tells s.0 a) [
          | inl t ↦ absurd (let same = t.0 in let other = s.2 in cc)
          | inr t ↦ (let ne = t.1 in let r = more s.0 s.1 (omega arith) in (r.0, r.1, succeeds_through w r.0 s.0 a r.2 s.3))
        ]

-- ---- a get between its start and its end

-- among these puts is one that is there and succeeds v
abbrev pub SeesPut : World → ℕ → List ℕ → Type 0
SeesPut w v vs = (u : ℕ) × (has u vs ≡ true) × (u < length w.puts) × Succeeds w u v

-- an acknowledged put of the get's key is firm at enough slots, of which each that the get has read showed it
pub record Watched (ring : RingValue) (plan : List Planned) (w : World) (v g : ℕ) : Type 0 where
  pub exists : g < length w.gets
  pub key : key_of_get w g ≡ key_of_put w v
  pub acked : is_acked w v ≡ true
  pub slots : List ℕ
  pub firm : FirmSlots ring plan w v slots
  pub enough : ring.w ≤ length slots + w.losses
  pub read : (i : ℕ) → has i slots ≡ true → (vs : List ℕ) → found_at w g i ≡ Some vs → SeesPut w v vs

-- equal keys pass the test
same_bytes : (xs ys : List ℕ) → xs ≡ ys → bytes_eq xs ys ≡ true
same_bytes xs ys e = (bytes_eq-Decides xs ys).1 e

-- a read of a slot that holds the put sees it
finds_it : (ring : RingValue) (plan : List Planned) (w : World) (v g i : ℕ) → Reached ring plan w → key_of_get w g ≡ key_of_put w v
    → IsHeld ring plan w v (put_slot ring w v i) → SeesPut w v (finds ring plan w g i)
finds_it ring plan w v g i r key held = (s.0, s.1, inside s.0 (latest_of_is w all all s.0 s.1).0, succeeds_through w s.0 held.0 v s.2 held.1)
  where
    test : ℕ → Bool
    test u = is_of_key w (key_of_get w g) u && slot_has ring plan w (get_slot ring w g i) u

    all : List ℕ
    all = passing_below (length w.puts) test

    inside : (u : ℕ) → has u all ≡ true → u < length w.puts
    inside u h = (below_is (length w.puts) test u h).0

    passes : test held.0 ≡ true
    passes = and_from (is_of_key w (key_of_get w g) held.0) (slot_has ring plan w (get_slot ring w g i) held.0)
        (same_bytes (key_of_put w held.0) (key_of_get w g) (succeeds_same_key w held.0 v held.1 ∙ sym key))
        (subst (λ (k : List ℕ). slot_has ring plan w (slot_of ring k i) held.0 ≡ true) (sym key) held.2)

    s : (u : ℕ) × (has u (latest w all) ≡ true) × Succeeds w u held.0
    s =
        some_latest w all (length w.puts) (length w.puts) held.0 inside
        (is_below (length w.puts) test held.0 (held_exists ring plan w r (put_slot ring w v i) held.0 held.2) passes) (omega arith)

-- ---- one event

-- slots after the event: at each the put is firm, it was one before, and no more are missing than stores were lost
pub record Rest (ring : RingValue) (plan : List Planned) (w u : World) (v : ℕ) (slots : List ℕ) : Type 0 where
  pub rest : List ℕ
  pub firm : FirmSlots ring plan u v rest
  pub enough : length slots + w.losses ≤ length rest + u.losses
  pub among : (i : ℕ) → has i rest ≡ true → has i slots ≡ true

-- all of them, if the event is not a loss
kept_rest : (ring : RingValue) (plan : List Planned) (w u : World) (v : ℕ) (slots : List ℕ) → KeepsFirm ring plan w u → is_acked w v ≡ true
    → FirmSlots ring plan w v slots → Rest ring plan w u v slots
kept_rest ring plan w u v slots k a f =
    record { rest = slots; firm = slots_stay ring plan w u v slots k a f; enough = (let same = k.losses in omega arith); among = λ i h. h }

-- all but one, if it is a loss
loss_rest : (ring : RingValue) (plan : List Planned) → Holds ring plan → (w : World) → Inv ring plan w → (x : NodeId) → AllMet (guards ring plan w (Lose x))
    → (v : ℕ) (slots : List ℕ) → is_acked w v ≡ true → FirmSlots ring plan w v slots
    → Rest ring plan w (effect ring plan w (Lose x)) v slots
unfolding effect
loss_rest ring plan k w i x g v slots a f =
    let s = lose_slots ring plan w x i.reached (event_extends ring plan w (Lose x) g) k.known (i.apart (may_lose ring plan w x g)) v slots (acked_exists w.puts v a) f in
    record { rest = s.0; firm = s.1; enough = (let m : length slots ≤ length s.0 + 1 = s.2 in omega arith); among = s.3 }

-- so after any event
rest_after : (ring : RingValue) (plan : List Planned) → Holds ring plan → (w : World) → Inv ring plan w → Holding ring plan w → (e : Event)
    → AllMet (guards ring plan w e) → (v : ℕ) (slots : List ℕ) → is_acked w v ≡ true → FirmSlots ring plan w v slots
    → Rest ring plan w (effect ring plan w e) v slots
rest_after ring plan k w i h (Lose x) g v slots a f = loss_rest ring plan k w i x g v slots a f
rest_after ring plan k w i h e g v slots a f = kept_rest ring plan w (effect ring plan w e) v slots (event_keeps ring plan k w i.reached h e refl g) a f

-- so the put goes on to be watched
pub watched_after : (ring : RingValue) (plan : List Planned) → Holds ring plan → (w : World) → Inv ring plan w → Holding ring plan w → (e : Event)
    → AllMet (guards ring plan w e) → (v g : ℕ) → Watched ring plan w v g → Watched ring plan (effect ring plan w e) v g
watched_after ring plan k w i h e met v g c = record {
  exists = a.exists;
  key = a.key ∙ c.key ∙ sym (x.key v (acked_exists w.puts v c.acked));
  acked = x.acked v c.acked;
  slots = s.rest;
  firm = s.firm;
  enough = (let old = c.enough in let new = s.enough in omega arith);
  read = read;
}
  where
    u : World
    u = effect ring plan w e

    x : Extends w u
    x = event_extends ring plan w e met

    a : StaysAsked ring plan w u g
    a = event_asked ring plan w e g c.exists

    s : Rest ring plan w u v c.slots
    s = rest_after ring plan k w i h e met v c.slots c.acked c.firm

    still : (vs : List ℕ) → SeesPut w v vs → SeesPut u v vs
    still vs f =
        let l : f.0 < length w.puts = f.2 in
        let m = x.puts in
        (f.0, f.1, omega arith, succeeds_stays w u x (names_ended ring plan w i.reached) f.0 v l f.3)

    read : (j : ℕ) → has j s.rest ≡ true → (vs : List ℕ) → found_at u g j ≡ Some vs → SeesPut u v vs
    read j is vs f = elim (a.found j vs f) [
      | inl old ↦ still vs (c.read j (s.among j is) vs old)
      | inr new ↦ still vs (subst (λ (z : List ℕ). SeesPut w v z) (sym new) (finds_it ring plan w v g j i.reached c.key (c.firm.firm j (s.among j is)).0))
    ]

-- ---- a run

-- through a run from the get's start
pub watched_through : (ring : RingValue) (plan : List Planned) → Holds ring plan → (run : List Entry) (w u : World) → Inv ring plan w → Holding ring plan w
    → (v g : ℕ) → Watched ring plan w v g → Leads ring plan w run u → Inv ring plan u × Watched ring plan u v g
watched_through ring plan k [] w u i h v g c l = (subst (λ (z : World). Inv ring plan z) (sym l) i, subst (λ (z : World). Watched ring plan z v g) (sym l) c)
watched_through ring plan k (x ∷ xs) w u i h v g c l =
    let a = answered ring plan w l.0 x.event x.reply l.1 in
    let after = watched_after ring plan k w i h x.event (all_met (guards ring plan w x.event) a.0) v g c in
    let next : Watched ring plan l.0 v g = subst (λ (z : World). Watched ring plan z v g) a.1 after in
    watched_through ring plan k xs l.0 u (next_inv ring plan k x w l.0 l.1 i) (next_holding ring plan k x w l.0 l.1 i h) v g next l.2
