-- Reading a script does not go back, and each fault is at a line that was reached. What a line says can be the next
-- event.
use Rattle.std.proofs.Common.{◌≡◌, ℕ, List, [], codes, Result, Ok, Err, IfOk, refl, sym}
use Rattle.texts.proofs.Forms.{Left, header_at, one_line, ReadsTo, Advances, header, ending, to-first, to-after, Refusal, then_part, advances-then, advances-map, end_line_at}
use Rattle.script_text.proofs.Terms.{RingValue, Event, FitsWriter, Fits, SaidWriter, Known, New, SaidEvent, Speaker, events_from}
use Rattle.script_text.specs.Said.{IsNext}
use Rattle.script_text.specs.declared.said.SaidEvent.TheVariants as said
use Rattle.script_text.specs.Reading.{said_at, events_at, section_at}
use Rattle.script_text.proofs.Growing.{grows-on}
use Rattle.script_text.proofs.ScriptForm.{IsWriter, NamesWriter, words-plain, said-law, script_growth}

-- ---- a line

-- a writer that has a name can be numbered
pub names-fit : (names : List (List ℕ)) (x : SaidEvent) → NamesWriter names x → Fits names x
names-fit names (said.Put p) is = by p.writer is
  where
    by : (w : SaidWriter) → IsWriter names w → FitsWriter names w
    by (Known n) p = tt
    by (New name) p = (p.1, p.2)
names-fit names x is = tt

-- each answer that is the line's can be the next event
pub next-if : (ring : RingValue) (seen : List Event) (names : List (List ℕ)) (k : ℕ) (fields : List (List ℕ)) (r : Result SaidEvent Refusal) → r ≡ said_at ring seen names k fields → IfOk r (IsNext seen names)
next-if ring seen names k fields (Ok x) e = (let p = ((said-law ring seen names k).takes fields x (sym e)).1 in record { room = p.0; fits = names-fit names x p.1.writer })
next-if ring seen names k fields (Err d) e = tt

-- ---- the events

module _ (by : Speaker) (ring : RingValue) (names : List (List ℕ)) where
  pub events-at : (s : Left) → events_from by ring [] names s.line s.lines ≡ events_at by ring names s
  unfolding events_at
  events-at s = refl

  events-all : Advances (events_at by ring names)
  unfolding events_at
  events-all = record { on = λ s. grows-on (script_growth by ring) [] names s.line s.lines }

  -- after the first line: a place among the events
  pub script-events : (s t : Left) (u : Unit {0}) → one_line (header_at (codes "script") (codes "1")) s ≡ Ok (u, t) → (k : ℕ) → ReadsTo k (events_at by ring names t) → ReadsTo k (section_at by ring names s)
  unfolding section_at
  script-events s t u start k p = to-after (λ (x : Unit {0} × ((List Event × List (List ℕ)) × Unit {0})). x.1.0) (one_line (header_at (codes "script") (codes "1"))) (λ _. then_part (events_at by ring names) (λ _. one_line end_line_at)) k s t u start
      (to-first (events_at by ring names) (λ _. one_line end_line_at) k t (λ _. (ending {W = Unit {0}}).advances) p)

  -- reading a script does not go back
  pub section-on : Advances (section_at by ring names)
  unfolding section_at
  section-on = advances-map _ _ (advances-then _ _ (header {W = Unit {0}} (codes "script") (codes "1") words-plain.0 words-plain.1).advances (λ _. advances-then _ _ events-all (λ _. (ending {W = Unit {0}}).advances)))
