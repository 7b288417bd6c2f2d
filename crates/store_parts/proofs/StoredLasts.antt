-- Versions by node, slot and key go on showing puts where others come.
use Rattle.std.proofs.Common.{◌≡◌, ℕ, Bool, true, false, List, length, sym, ap, subst, refl}
use Rattle.std.specs.Prelude.{◌&&◌, Ok}
use Rattle.std.specs.Str.{bytes_eq}
use Rattle.ring_names.specs.declared.ids.Slot.{Slot}
use Rattle.ring_table.specs.Value.{RingValue}
use Rattle.std.proofs.lemmas.Bool.{and_parts}
use Rattle.ring_clock.specs.declared.entry.Entry.{Entry}
use Rattle.ring_clock.specs.Built.{with_clock}
use Rattle.ring_versions.specs.declared.version.Version.{Version}
use Rattle.plan_text.specs.declared.step.Planned.{Planned}
use Rattle.plan_runs.specs.declared.event.Event.{Event}
use Rattle.plan_runs.specs.declared.event.Reply.{Reply}
use Rattle.plan_runs.specs.World.{World, is_of_key}
use Rattle.plan_runs.specs.Guards.{guards}
use Rattle.plan_runs.specs.Answers.{answer}
use Rattle.plan_runs.proofs.Answered.{answered}
use Rattle.plan_runs.proofs.Lasting.{Extends, event_extends}
use Rattle.plan_runs.proofs.Passed.{all_met}
use Rattle.store_parts.specs.Shows.{ArePutsOf, value_of}
use Rattle.store_parts.specs.Stored.{ShowAll}
use Rattle.store_parts.proofs.ShownSets.{other_test, other_value, new_clock}

-- a put that is there is of the same key after the event
same_key : (w u : World) (key : List ℕ) (test : ℕ → Bool) → Extends w u → ArePutsOf w test → (v : ℕ) → (test v && is_of_key w key v) ≡ (test v && is_of_key u key v)
same_key w u key test x are v = by (test v) refl
  where
    by : (b : Bool) → test v ≡ b → (b && is_of_key w key v) ≡ (b && is_of_key u key v)
    by false e = refl
    by true e = ap (λ (k : List ℕ). bytes_eq k key) (sym (x.key v (are v e)))

pub all_stay : (ring : RingValue) (plan : List Planned) (w u : World) (e : Event) (r : Reply) (clock : ℕ → List Entry) (held : ℕ → Slot → List ℕ → List Version) (test : ℕ → Slot → ℕ → Bool) → answer ring plan w e ≡ Ok (u, r)
    → ((x : ℕ) (s : Slot) → ArePutsOf w (test x s)) → ShowAll w clock held test → ShowAll u clock held test
all_stay ring plan w u e r clock held test h are shows x s key =
    let a = answered ring plan w u e r h in
    let extends : Extends w u = subst (λ (z : World). Extends w z) a.1 (event_extends ring plan w e (all_met (guards ring plan w e) a.0)) in
    other_test clock (value_of u) (held x s key) (λ v. test x s v && is_of_key w key v) (λ v. test x s v && is_of_key u key v) (same_key w u key (test x s) extends (are x s))
    (other_value clock (value_of w) (value_of u) (held x s key) (λ v. test x s v && is_of_key w key v)
    (λ v t. extends.value v (are x s v (and_parts (test x s v) (is_of_key w key v) t).0)) (shows x s key))

pub all_with_clock : (w : World) (clock : ℕ → List Entry) (c : List Entry) (held : ℕ → Slot → List ℕ → List Version) (test : ℕ → Slot → ℕ → Bool) → ((x : ℕ) (s : Slot) → ArePutsOf w (test x s)) → ShowAll w clock held test
    → ShowAll w (with_clock clock (length w.puts) c) held test
all_with_clock w clock c held test are shows x s key = new_clock w clock (value_of w) c (held x s key) (λ v. test x s v && is_of_key w key v) (λ v h. are x s v (and_parts (test x s v) (is_of_key w key v) h).0) (shows x s key)
