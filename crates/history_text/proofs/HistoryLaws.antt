-- A history is read only from its one text.
use Rattle.std.proofs.Common.{◌≡◌, ℕ, true, false, List, [], ◌∷◌, ◌++◌, map, codes, Ok, refl, sym, ap, subst, ◌∙◌, append_assoc, append-nil, rules}
use Rattle.std.specs.List.{AllByRecursion, flat_map}
use Rattle.std.proofs.lemmas.Grind.{flat_map-append}
use Rattle.std.proofs.lemmas.List.{length-map}
use Rattle.std.proofs.lemmas.List.Concat.{flat_map-cons}
use Rattle.texts.proofs.Forms.{Section, IsPlain, Any, Left, header_at, has_field, plain-line, header, ending, then, made, text-found, text-given, some-first, end_fields, begins_with, line_text, text_of, appended}
use Rattle.script_text.proofs.Terms.{RingValue, names_of, IsRing, AreNames, Event, event_of, names_after, event_fields, AreWriters}
use Rattle.script_text.specs.declared.said.SaidEvent.{SaidEvent}
use Rattle.script_text.specs.declared.speaker.Speaker.TheVariants.{Anyone}
use Rattle.ring_table.proofs.NodesLaws.{names-of}
use Rattle.plan_runs.specs.declared.event.Entry.{Entry}
use Rattle.script_text.proofs.Growing.{Growth, Lines, Ends, EachIn, Says, values_of, state_after, growing}
use Rattle.script_text.proofs.ScriptForm.{IsSaid, said_fields, kind_form, begins, goes-on, script_growth}
use Rattle.script_text.proofs.SightLaws.{script_said, same-fields, says-script, script-says}
use Rattle.history_text.specs.Said.{SaidEntry, entry_of}
use Rattle.history_text.specs.Reading.{said_at, entries_from, entries_at, history_at, history_reading}
use Rattle.history_text.specs.Spelling.{entry_line, history_text}
use Rattle.history_text.specs.Valid.{IsReply, IsHistoryOf}
use Rattle.history_text.proofs.EntryLaws.{sign, entry_fields, said_entry, entry-text, CanBeSaid, entry-law, said-at}
use Rattle.history_text.proofs.ReplyLaws.{reply_fields, reply_form}

-- ---- its lines

pub words-plain : IsPlain (codes "history") × IsPlain (codes "1") × IsPlain (codes "=")
words-plain = (search rules)

-- the events of entries
abbrev events_in : List Entry → List Event
events_in history = map (λ x. x.event) history

-- what the lines say of events
abbrev heard : List SaidEntry → List SaidEvent
heard xs = map (λ x. x.0) xs

pub some-more : (fs gs : List (List ℕ)) → has_field fs ≡ true → has_field (fs ++ gs) ≡ true
some-more [] gs p = absurd cc
some-more (f ∷ fs) gs p = refl

pub begun : (fs gs : List (List ℕ)) (lines : List (List (List ℕ))) → has_field fs ≡ true → begins_with (codes "end") (fs ∷ lines) ≡ false → begins_with (codes "end") ((fs ++ gs) ∷ lines) ≡ false
begun [] gs lines p a = absurd cc
begun (f ∷ fs) gs lines p a = a

module _ (ring : RingValue) where
  -- how the lines of a history are read
  abbrev pub history_growth : Growth (List (List ℕ)) SaidEntry Entry
  history_growth = record {
    read = λ all. said_at ring;
    value = entry_of;
    after = λ names x. names_after names x.0;
    from = entries_from ring;
    none = λ seen names k. refl;
    more = λ seen names k line lines. refl;
    at = λ all. said-at ring;
  }

  -- their events are those of a script's lines, and so are the writers after them
  heard-same : (xs : List SaidEntry) (names : List (List ℕ)) → (events_in (values_of history_growth names xs) ≡ values_of (script_growth Anyone ring) names (heard xs))
      × (state_after history_growth names xs ≡ state_after (script_growth Anyone ring) names (heard xs))
  heard-same [] names = (refl, refl)
  heard-same (x ∷ xs) names = (let later = heard-same xs (names_after names x.0) in (ap (λ (es : List Event). event_of names x.0 ∷ es) later.0, later.1))

  -- each event and each reply is allowed
  each-heard : (xs : List SaidEntry) (names : List (List ℕ)) → EachIn history_growth (CanBeSaid ring) names xs
      → EachIn (script_growth Anyone ring) (IsSaid ring) names (heard xs) × AllByRecursion (λ x. IsReply x.reply) (values_of history_growth names xs)
  each-heard [] names each = (tt, tt)
  each-heard (x ∷ xs) names each = (let later = each-heard xs (names_after names x.0) each.1 in ((each.0.0, later.0), (each.0.1, later.1)))

  pub same-entry : (names : List (List ℕ)) (x : SaidEntry) (xs : List SaidEntry) → CanBeSaid ring names x → EachIn history_growth (CanBeSaid ring) (names_after names x.0) xs
      → entry_fields (names_of ring) (state_after history_growth (names_after names x.0) xs) (entry_of names x) ≡ said_entry ring names x
  same-entry names x xs p each = ap (λ (l : List (List ℕ)). l ++ sign ∷ reply_fields x.1)
      (ap (λ (ns : List (List ℕ)). event_fields (names_of ring) ns (event_of names x.0)) (heard-same xs (names_after names x.0)).1 ∙ same-fields ring names x.0 (heard xs) p.0 (each-heard xs (names_after names x.0) each).0)

  -- how its lines are spelled
  abbrev pub history_said : Lines (List (List ℕ)) SaidEntry Entry history_growth
  history_said = record {
    most = 1000000;
    fields = entry_fields (names_of ring);
    allowed = CanBeSaid ring;
    line = λ all seen names k. entry-law ring seen names k;
    plain = λ names x p. plain-line (said_entry ring names x) (appended IsPlain (said_fields ring names x.0) (sign ∷ reply_fields x.1) ((kind_form ring names).plain tt x.0 p.0) (words-plain.2, reply_form.plain tt x.1 p.1))
        (some-more (said_fields ring names x.0) (sign ∷ reply_fields x.1) (begins (names_of ring) (names_after names x.0) (event_of names x.0)));
    goes_on = λ names e lines. begun (event_fields (names_of ring) names e.event) (sign ∷ reply_fields e.reply) lines (begins (names_of ring) names e.event) (goes-on (names_of ring) names e.event lines);
    same = same-entry;
  }

  -- ---- lines are a history

  abbrev History : Type 0
  History = List Entry × List (List ℕ)

  -- what lines say is a history
  pub says-history : (old : List (List ℕ)) (v : History) → AreWriters old → Says history_growth history_said old v → IsHistoryOf ring old v.1 v.0
  says-history old v good p =
      let few = p.few in
      let same = heard-same p.items old in
      let each = each-heard p.items old p.each in
      let script : Says (script_growth Anyone ring) (script_said ring) old (events_in v.0, v.1) = record {
        items = heard p.items;
        values = sym same.0 ∙ ap events_in p.values;
        state = sym same.1 ∙ p.state;
        each = each.0;
        few = rw (length-map v.0 (λ (x : Entry). x.event)) few;
      } in
      record { script = says-script ring old (events_in v.0, v.1) good script; replies = subst (AllByRecursion (λ (x : Entry). IsReply x.reply)) p.values each.1 }

  -- entries with these events are what lines say that say the events
  record Paired (names : List (List ℕ)) (events : List SaidEvent) (history : List Entry) : Type 0 where
    pub items : List SaidEntry
    pub events_are : heard items ≡ events
    pub entries_are : values_of history_growth names items ≡ history
    pub each : EachIn history_growth (CanBeSaid ring) names items

  paired : (history : List Entry) (names : List (List ℕ)) (xs : List SaidEvent) → values_of (script_growth Anyone ring) names xs ≡ events_in history → EachIn (script_growth Anyone ring) (IsSaid ring) names xs
      → AllByRecursion (λ x. IsReply x.reply) history → Paired names xs history
  paired [] names [] e each replies = record { items = []; events_are = refl; entries_are = refl; each = tt }
  paired [] names (x ∷ xs) e each replies = absurd cc
  paired (h ∷ hs) names [] e each replies = absurd cc
  paired (h ∷ hs) names (x ∷ xs) e each replies =
      let first : event_of names x ≡ h.event = cc in
      let later : values_of (script_growth Anyone ring) (names_after names x) xs ≡ events_in hs = cc in
      let rest = paired hs (names_after names x) xs later each.1 replies.1 in
      record {
        items = (x, h.reply) ∷ rest.items;
        events_are = ap (λ (es : List SaidEvent). x ∷ es) rest.events_are;
        entries_are = ap (λ (es : List Entry). entry_of names (x, h.reply) ∷ es) rest.entries_are ∙ ap (λ (v : Event). record { event = v; reply = h.reply } ∷ hs) first;
        each = ((each.0, replies.0), rest.each);
      }

  -- and a history is what some lines say
  pub history-says : AreNames (names_of ring) → (old names : List (List ℕ)) (history : List Entry) → IsHistoryOf ring old names history → Says history_growth history_said old (history, names)
  history-says nodes old names history p =
      let s = script-says ring nodes (events_in history) old names p.script in
      let q = paired history old s.items s.values s.each p.replies in
      record {
        items = q.items;
        values = q.entries_are;
        state = (heard-same q.items old).1 ∙ ap (state_after (script_growth Anyone ring) old) q.events_are ∙ s.state;
        each = q.each;
        few = rw (← length-map history (λ (x : Entry). x.event)) p.script.few;
      }

  -- ---- its text

  -- the lines of a history after these writers
  abbrev pub body_form : List (List ℕ) → Section (Unit {0}) Any (History × Unit {0})
  body_form old = then Ends Any (growing history_growth history_said old) (λ _. ending) (λ w x y l ls p q d. refl)

  abbrev pub history_form : List (List ℕ) → Section (Unit {0}) Any History
  history_form old = made Any (λ x. x.1.0) (λ v. (tt, (v, tt))) (λ x. refl) (λ y. refl) (then Any Any (header (codes "history") (codes "1") words-plain.0 words-plain.1) (λ _. body_form old) (λ w x y l ls p q d. tt))

  body-text : (names : List (List ℕ)) (history : List Entry) → text_of (map (entry_fields (names_of ring) names) history) ≡ flat_map (entry_line (names_of ring) names) history
  body-text names [] = refl
  body-text names (x ∷ xs) = rw (flat_map-cons line_text, flat_map-cons (entry_line (names_of ring) names), body-text names xs, entry-text (names_of ring) names x) refl

  lines-text : (old : List (List ℕ)) (v : History) → text_of ((history_form old).spell v) ≡ history_text ring v.1 v.0
  lines-text old v = rw (flat_map-cons line_text, flat_map-append line_text, body-text v.1 v.0, flat_map-cons line_text end_fields []) (simp (append_assoc, append-nil))

-- ---- a whole text, and a section

-- what is read of a text was spelled so
pub read-found : (ring : RingValue) (old : List (List ℕ)) (text : List ℕ) (v : List Entry × List (List ℕ)) → history_reading ring old text ≡ Ok v → AreWriters old → IsHistoryOf ring old v.1 v.0 × (text ≡ history_text ring v.1 v.0)
unfolding history_at entries_at
read-found ring old text v e good = (let h = text-found (history_form ring old) tt text v e in (says-history ring old v good h.0.1.0, h.1 ∙ lines-text ring old v))

-- what is spelled so is read of a text
pub read-only : (ring : RingValue) (old names : List (List ℕ)) (text : List ℕ) (history : List Entry) → IsRing ring → IsHistoryOf ring old names history → text ≡ history_text ring names history → history_reading ring old text ≡ Ok (history, names)
unfolding history_at entries_at
read-only ring old names text history r p e = text-given (history_form ring old) tt text (history, names) (tt, (history-says ring (names-of ring r) old names history p, tt)) (e ∙ sym (lines-text ring old (history, names)))

-- what is read of a section is a history
pub section-found : (ring : RingValue) (old : List (List ℕ)) (s : Left) (v : List Entry × List (List ℕ)) (t : Left) → history_at ring old s ≡ Ok (v, t) → AreWriters old → IsHistoryOf ring old v.1 v.0
unfolding history_at entries_at
section-found ring old s v t e good = says-history ring old v good (((history_form ring old).exact tt).takes s t v (some-first (λ x. x.1.0) (header_at (codes "history") (codes "1")) (λ _. (body_form ring old).read) s t v e) e).1.1.0
