-- A client's script has only events of clients.
use Rattle.std.proofs.Common.{◌≡◌, ℕ, true, List, ◌∷◌, codes, Ok, ap, subst}
use Rattle.std.specs.List.{list_all}
use Rattle.texts.proofs.Forms.{Left, header_at, one_line, BadLine, then_part, end_line_at, ok_is, bind_ok}
use Rattle.script_text.proofs.Terms.{RingValue, Event, event_of, SaidEvent, Client, may_say, heard_at}
use Rattle.plan_runs.specs.declared.event.Event.TheVariants as event
use Rattle.script_text.specs.Client.{is_client_event}
use Rattle.script_text.specs.declared.said.SaidEvent.TheVariants as said
use Rattle.script_text.specs.Reading.{said_at, events_at, section_at, client_at}
use Rattle.script_text.proofs.Growing.{passed, grows-all, parts-of}
use Rattle.script_text.proofs.ScriptForm.{said_fields, said-law, script_growth}

module _ (ring : RingValue) where
  -- an event whose line a client may say is a client's
  may-client : (names : List (List ℕ)) (x : SaidEvent) (lines : List (List (List ℕ))) → may_say Client (said_fields ring names x ∷ lines) ≡ true → is_client_event (event_of names x) ≡ true
  may-client names (said.Put p) lines e = e
  may-client names (said.Get key) lines e = e
  may-client names (said.Plain (event.Do s)) lines e = e
  may-client names (said.Plain x) lines e = e

  heard-client : (seen : List Event) (names : List (List ℕ)) (k : ℕ) (line : List (List ℕ)) (lines : List (List (List ℕ))) (x : SaidEvent) → heard_at (may_say Client (line ∷ lines)) ring seen names k line ≡ Ok x → is_client_event (event_of names x) ≡ true
  heard-client seen names k line lines x e =
      let h = passed (may_say Client (line ∷ lines)) (said_at ring seen names k line) (BadLine k) x e in
      may-client names x lines (subst (λ (l : List (List ℕ)). may_say Client (l ∷ lines) ≡ true) ((said-law ring seen names k).takes line x h.1).0 h.0)

  -- what is read of a client's section is events of clients
  pub section-client : (old : List (List ℕ)) (s : Left) (v : List Event × List (List ℕ)) (t : Left) → client_at ring old s ≡ Ok (v, t) → list_all is_client_event v.0 ≡ true
  unfolding section_at events_at
  section-client old s v t e =
      let a = bind_ok (then_part (one_line (header_at (codes "script") (codes "1"))) (λ _. then_part (events_at Client ring old) (λ _. one_line end_line_at)) s) (λ x. Ok (x.0.1.0, x.1)) (v, t) e in
      let b = parts-of (one_line (header_at (codes "script") (codes "1"))) (λ _. then_part (events_at Client ring old) (λ _. one_line end_line_at)) s a.0 a.1 in
      let c = parts-of (events_at Client ring old) (λ _. one_line end_line_at) b.0 (a.0.0.1, a.0.1) b.2 in
      let same = ap (λ (x : (List Event × List (List ℕ)) × Left). x.0) (ok_is (a.0.0.1.0, a.0.1) (v, t) a.2) in
      subst (λ (x : List Event × List (List ℕ)). list_all is_client_event x.0 ≡ true) same (grows-all (script_growth Client ring) is_client_event heard-client old b.0.line b.0.lines (a.0.0.1.0, c.0) c.1)
