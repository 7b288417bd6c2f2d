-- Reading a history does not go back, and each of its faults is at a line that was reached.
use Rattle.std.proofs.Common.{◌≡◌, ℕ, List, [], codes, Ok, refl}
use Rattle.texts.proofs.Forms.{Left, header_at, one_line, ReadsTo, Advances, ending, to-first, to-after, then_part, end_line_at}
use Rattle.ring_table.specs.Value.{RingValue}
use Rattle.plan_runs.specs.declared.event.Entry.{Entry}
use Rattle.history_text.specs.Reading.{entries_from, entries_at, history_at}
use Rattle.history_text.proofs.HistoryLaws.{history_form}

module _ (ring : RingValue) (names : List (List ℕ)) where
  pub entries-at : (s : Left) → entries_from ring [] names s.line s.lines ≡ entries_at ring names s
  unfolding entries_at
  entries-at s = refl

  -- after the first line: a place among the entries
  pub history-entries : (s t : Left) (u : Unit {0}) → one_line (header_at (codes "history") (codes "1")) s ≡ Ok (u, t) → (k : ℕ) → ReadsTo k (entries_at ring names t) → ReadsTo k (history_at ring names s)
  unfolding history_at
  history-entries s t u start k p = to-after (λ (x : Unit {0} × ((List Entry × List (List ℕ)) × Unit {0})). x.1.0) (one_line (header_at (codes "history") (codes "1"))) (λ _. then_part (entries_at ring names) (λ _. one_line end_line_at)) k s t u start
      (to-first (entries_at ring names) (λ _. one_line end_line_at) k t (λ _. (ending {W = Unit {0}}).advances) p)

  -- reading a history does not go back
  pub history-on : Advances (history_at ring names)
  unfolding history_at entries_at
  history-on = (history_form ring names).advances
