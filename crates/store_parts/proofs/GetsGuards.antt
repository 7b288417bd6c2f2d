-- The guards of puts and gets, by the tests of those that are kept.
use Rattle.std.proofs.Common.{◌≡◌, ◌∙◌, ℕ, ◌<◌, Bool, not, List, [], ◌∷◌, length, sym, ap}
use Rattle.std.specs.Prelude.{nat_lt, nat_le, Option, Some, slice_get, is_some}
use Rattle.std.specs.List.{list_all}
use Rattle.ring_names.specs.declared.refusal.Refusal.TheVariants.{UnknownNumber, NotReady, AlreadyDone, StaleTickets, TooFewSlots}
use Rattle.ring_table.specs.Value.{RingValue}
use Rattle.ring_table.specs.Valid.{IsRing}
use Rattle.ring_clock.specs.declared.entry.Entry.{Entry}
use Rattle.plan_text.specs.declared.step.Planned.{Planned}
use Rattle.plan_stage.specs.Clauses.{Guard}
use Rattle.plan_runs.specs.World.{World, stage_now, generation, key_of_get, found_at, is_get_of, is_acked}
use Rattle.plan_runs.specs.Versions.{put_slot, get_slot}
use Rattle.plan_runs.specs.Guards.{up_guard, nodes_up, has_ended, keeps_of_key, current_tickets, slots_read, start_put_guards, ack_guards, read_guards, end_get_guards}
use Rattle.store_parts.specs.declared.puts.PutNow.{PutNow}
use Rattle.store_parts.specs.declared.gets.GetNow.{GetNow}
use Rattle.store_parts.specs.Gets.{is_read_at}
use Rattle.store_parts.specs.PutsMeet.{PutsMeet, AreNumbered}
use Rattle.store_parts.specs.GetsMeet.{GetsMeet}
use Rattle.store_parts.specs.PutsTests.{is_acked_at, current_count}
use Rattle.store_parts.specs.GetsTests.{has_get, is_of_number, has_ended_at, read_count, ReadsFit}
use Rattle.store_parts.proofs.PutsTests.{same_put_number, same_acked, same_current_count}
use Rattle.store_parts.proofs.GetsTests.{same_get_number, same_has_get, same_read, same_of_key, same_ended, same_all, same_read_count}

abbrev start_by : Bool → Bool → List Guard
start_by a b = (a, UnknownNumber) ∷ (b, NotReady) ∷ []

abbrev ack_by : ℕ → Bool → Bool → ℕ → List Guard
ack_by n a b m = (a, UnknownNumber) ∷ (not b, AlreadyDone) ∷ (nat_le n m, StaleTickets m) ∷ []

abbrev end_by : ℕ → Bool → Bool → ℕ → List Guard
end_by n a b m = (a, UnknownNumber) ∷ (not b, AlreadyDone) ∷ (nat_le n m, TooFewSlots m) ∷ []

-- the guards of a put's start, where its key has a number
pub start_put_tested : (ring : RingValue) (clock : ℕ → List Entry) (keys : List (List ℕ)) (gets : List GetNow) (w : World) (k : ℕ) (key seen : List ℕ) → AreNumbered keys → slice_get keys k ≡ Some key → GetsMeet ring clock keys gets w
    → start_put_guards w key seen ≡ (list_all (is_of_number gets k) seen, UnknownNumber) ∷ (list_all (has_ended_at gets) seen, NotReady) ∷ []
start_put_tested ring clock keys gets w k key seen numbered is m =
    ap (λ (b : Bool). start_by b (list_all (has_ended w) seen)) (sym (same_all (is_of_number gets k) (is_get_of w key) (λ g. same_of_key ring clock keys gets w k key g numbered is m) seen))
    ∙ ap (λ (b : Bool). start_by (list_all (is_of_number gets k) seen) b) (sym (same_all (has_ended_at gets) (has_ended w) (λ g. same_ended ring clock keys gets w g m) seen))

-- those of an acknowledgement
pub ack_tested : (ring : RingValue) (plan : List Planned) (keys : List (List ℕ)) (last : ℕ → ℕ → Option ℕ) (puts : List PutNow) (w : World) (v : ℕ) (generations : ℕ → ℕ)
    → PutsMeet keys last puts w → ((i : ℕ) → i < ring.n → generations i ≡ generation plan w (put_slot ring w v i))
    → ack_guards ring plan w v
    ≡ (nat_lt v (length puts), UnknownNumber) ∷ (not (is_acked_at puts v), AlreadyDone) ∷ (nat_le ring.w (current_count puts ring.n generations v), StaleTickets (current_count puts ring.n generations v)) ∷ []
ack_tested ring plan keys last puts w v generations m e =
    ap (λ (b : Bool). ack_by ring.w b (is_acked w v) (current_tickets ring plan w v)) (sym (same_put_number keys last puts w v m))
    ∙ ap (λ (b : Bool). ack_by ring.w (nat_lt v (length puts)) b (current_tickets ring plan w v)) (sym (same_acked keys last puts w v m))
    ∙ ap (λ (n : ℕ). ack_by ring.w (nat_lt v (length puts)) (is_acked_at puts v) n) (sym (same_current_count ring plan keys last puts w v generations m e))

-- those of a get's end
pub end_get_tested : (ring : RingValue) (clock : ℕ → List Entry) (keys : List (List ℕ)) (gets : List GetNow) (w : World) (g : ℕ) → IsRing ring → ReadsFit ring w → GetsMeet ring clock keys gets w
    → end_get_guards ring w g ≡ (nat_lt g (length gets), UnknownNumber) ∷ (not (has_ended_at gets g), AlreadyDone) ∷ (nat_le ring.r (read_count gets g), TooFewSlots (read_count gets g)) ∷ []
end_get_tested ring clock keys gets w g valid fit m =
    ap (λ (b : Bool). end_by ring.r b (has_ended w g) (slots_read ring w g)) (sym (same_get_number ring clock keys gets w g m))
    ∙ ap (λ (b : Bool). end_by ring.r (nat_lt g (length gets)) b (slots_read ring w g)) (sym (same_ended ring clock keys gets w g m))
    ∙ ap (λ (n : ℕ). end_by ring.r (nat_lt g (length gets)) (has_ended_at gets g) n) (sym (same_read_count ring clock keys gets w g valid fit m))

abbrev read_by : Bool → Bool → Bool → List Guard → List Guard
read_by a b c more = (a, UnknownNumber) ∷ (not b, AlreadyDone) ∷ (not c, AlreadyDone) ∷ more

-- the tests of a read, in front of those for its slot's owner and keepers
pub read_tested : (ring : RingValue) (plan : List Planned) (clock : ℕ → List Entry) (keys : List (List ℕ)) (gets : List GetNow) (w : World) (g i : ℕ) → GetsMeet ring clock keys gets w
    → read_guards ring plan w g i ≡ (has_get gets ring.n g i, UnknownNumber) ∷ (not (has_ended_at gets g), AlreadyDone) ∷ (not (is_read_at gets g i), AlreadyDone)
    ∷ up_guard w.up (stage_now ring plan w (get_slot ring w g i)).owner ∷ nodes_up w.up (length ring.nodes) (keeps_of_key w (key_of_get w g) (get_slot ring w g i))
read_tested ring plan clock keys gets w g i m =
    let more : List Guard = up_guard w.up (stage_now ring plan w (get_slot ring w g i)).owner ∷ nodes_up w.up (length ring.nodes) (keeps_of_key w (key_of_get w g) (get_slot ring w g i)) in
    ap (λ (b : Bool). read_by b (has_ended w g) (is_some (found_at w g i)) more) (sym (same_has_get ring clock keys gets w g i m))
    ∙ ap (λ (b : Bool). read_by (has_get gets ring.n g i) b (is_some (found_at w g i)) more) (sym (same_ended ring clock keys gets w g m))
    ∙ ap (λ (b : Bool). read_by (has_get gets ring.n g i) (has_ended_at gets g) b more) (sym (same_read ring clock keys gets w g i m))
