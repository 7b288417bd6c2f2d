-- No event is of two kinds.
use Rattle.std.proofs.Common.{◌≡◌, ℕ, true, false, refl, sym}
use Rattle.std.proofs.lemmas.Bool.{true≢false}
use Rattle.plan_runs.specs.declared.event.Event.{Event}
use Rattle.plan_runs.specs.declared.event.Event.TheVariants.{Write, Hint, Ack, Read, EndGet}
use Rattle.script_text.specs.Client.{is_client_event}
use Rattle.ring_board.specs.Kinds.{sends, acknowledges, reads, ends}

-- what a client begins by itself is none of a put or a get that is under way
pub client_sends : (v : ℕ) (e : Event) → is_client_event e ≡ true → sends v e ≡ false
client_sends v (Write u i) c = absurd (true≢false (sym c))
client_sends v (Hint u i x) c = absurd (true≢false (sym c))
client_sends v e c = refl

pub client_acknowledges : (v : ℕ) (e : Event) → is_client_event e ≡ true → acknowledges v e ≡ false
client_acknowledges v (Ack u) c = absurd (true≢false (sym c))
client_acknowledges v e c = refl

pub client_reads : (g : ℕ) (e : Event) → is_client_event e ≡ true → reads g e ≡ false
client_reads g (Read h i) c = absurd (true≢false (sym c))
client_reads g e c = refl

pub client_ends : (g : ℕ) (e : Event) → is_client_event e ≡ true → ends g e ≡ false
client_ends g (EndGet h) c = absurd (true≢false (sym c))
client_ends g e c = refl

-- an acknowledgement is not a write or hint, and an end not a read
pub acknowledged_sends : (v : ℕ) (e : Event) → acknowledges v e ≡ true → sends v e ≡ false
acknowledged_sends v (Write u i) a = absurd (true≢false (sym a))
acknowledged_sends v (Hint u i x) a = absurd (true≢false (sym a))
acknowledged_sends v e a = refl

pub ended_reads : (g : ℕ) (e : Event) → ends g e ≡ true → reads g e ≡ false
ended_reads g (Read h i) a = absurd (true≢false (sym a))
ended_reads g e a = refl
