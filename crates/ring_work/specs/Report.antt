-- The value of a drive's report.
use Rattle.std.specs.Prelude.{ℕ, List, map, codes}
use Rattle.serde_json.specs.Data.{Data, number, unsigned, string, array, object, item, no_items, member, no_members}
use Rattle.serde_json.specs.View.{items_of}
use Rattle.ring_table.specs.Value.{RingValue, names_of}
use Rattle.plan_runs.specs.declared.event.Entry.{Entry}
use Rattle.plan_runs.specs.Replies.{reply_text}
use Rattle.history_text.specs.Spelling.{event_words}

-- the pair of an event's text and its reply's, with these nodes and writers
abbrev pub entry_data : List (List ℕ) → List (List ℕ) → Entry → Data
entry_data nodes names x = array (item (string (event_words nodes names x.event)) (item (string (reply_text x.reply)) no_items))

-- the number of a step's finisher
abbrev pub step_data : ℕ → Data
step_data worker = number (unsigned worker)

-- the events with their replies, who finished each step, and the number of workers
abbrev pub report_value : RingValue → List (List ℕ) → List Entry → List ℕ → ℕ → Data
report_value ring names history finishers workers = object
    (member (codes "events") (array (items_of (map (entry_data (names_of ring) names) history)))
    (member (codes "steps") (array (items_of (map step_data finishers)))
    (member (codes "workers") (number (unsigned workers)) no_members)))
