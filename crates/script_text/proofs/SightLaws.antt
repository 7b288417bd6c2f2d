-- New writers are numbered in order of first sight: what lines say is a script, and a script is what some lines say.
use Rattle.std.proofs.Common.{◌≡◌, ℕ, zero, suc, ◌<◌, ◌≤◌, List, [], ◌∷◌, ◌++◌, length, Some, refl, sym, ap, subst, ◌∙◌, arith, append_assoc, append-nil, length-append, inl, inr, slice_get}
use Rattle.std.proofs.lemmas.Bool.{cases_lt}
use Rattle.script_text.proofs.Terms.{place, WriterId, RingValue, names_of, AreNames, Event, event_of, names_after, SaidWriter, Known, New, SaidPut, SaidEvent, Anyone, event_fields, IsKnown, AreWriters, IsEvent, IsSmall, IsScriptOf}
use Rattle.ring_names.proofs.InLists.{get_front, get_last}
use Rattle.texts.proofs.Forms.{plain-line}
use Rattle.plan_runs.specs.declared.event.Event.TheVariants as event
use Rattle.script_text.specs.declared.said.SaidEvent.TheVariants as said
use Rattle.script_text.specs.Valid.{WritesAt}
use Rattle.script_text.proofs.Growing.{Lines, EachIn, Says, values_of, state_after}
use Rattle.script_text.proofs.ScriptForm.{placed-below, IsWriter, NamesWriter, NamesNode, IsSaid, said_fields, kind_form, begins, goes-on, said-law, script_growth}
use Rattle.script_text.proofs.WriterLaws.{named-at, writer-placed, node-placed, not-before, writer-more, after-writers, front-writers}

-- ---- one event

-- the event is a put of that writer
abbrev Puts : Event → ℕ → Type 0
Puts e w = WritesAt (e ∷ []) 0 w

-- the writers after an event: the earlier ones, and the writer that the event names first
record Grows (names next : List (List ℕ)) (e : Event) : Type 0 where
  pub grown : (more : List (List ℕ)) × (next ≡ names ++ more)
  pub first : (w : ℕ) → length names ≤ w → w < length next → Puts e w
  pub least : (w : ℕ) → Puts e w → w ≤ length names
  pub kept : (w : ℕ) → Puts e w → w < length next

-- an event that names no new writer
still : (names : List (List ℕ)) (e : Event) → ((w : ℕ) → Puts e w → w < length names) → Grows names names e
still names e below = record { grown = ([], sym (append-nil names)); first = λ w le lt. absurd (omega arith); least = λ w p. omega (arith, below w p); kept = below }

-- a put is of one writer
same-writer : (x : WriterId) (key value gets : List ℕ) (w : ℕ) → Puts (event.StartPut x key value gets) w → x.0 ≡ w
same-writer x key value gets w p = (let e = p.3 in let same : x ≡ record { 0 = w } = cc in ap (λ (y : WriterId). y.0) same)

grows-put : (names : List (List ℕ)) (p : SaidPut) (x : SaidWriter) → IsWriter names x → Grows names (names_after names (said.Put (record p { writer = x }))) (event_of names (said.Put (record p { writer = x })))
grows-put names p (Known n) is = still names (event.StartPut n p.key p.value p.seen) (λ w h. (let same = same-writer n p.key p.value p.seen w h in let lt = placed-below names n.0 is in omega arith))
grows-put names p (New name) is =
    let more = length-append names (name ∷ []) in
    let one = same-writer (record { 0 = length names }) p.key p.value p.seen in
    record {
      grown = (name ∷ [], refl);
      first = λ w le lt. (let same : length names ≡ w = omega arith in (p.key, p.value, p.seen, ap (λ (n : ℕ). Some (event.StartPut (record { 0 = n }) p.key p.value p.seen)) same));
      least = λ w h. (let same = one w h in omega arith);
      kept = λ w h. (let same = one w h in omega arith);
    }

-- the writers after what a line says
grows-said : (names : List (List ℕ)) (x : SaidEvent) → NamesWriter names x → Grows names (names_after names x) (event_of names x)
grows-said names (said.Put p) is = grows-put names p p.writer is
grows-said names (said.Get key) is = still names (event.StartGet key) (λ w h. let e = h.3 in absurd cc)
grows-said names (said.Plain e) is = still names e (none e is)
  where
    none : (e : Event) → IsSmall e → (w : ℕ) → Puts e w → w < length names
    none (event.StartPut x key value gets) small w h = absurd small
    none e small w h = let f = h.3 in absurd cc

-- ---- the lines of a script

-- later writers change no line before them
pub fields-more : (nodes names more : List (List ℕ)) (n : ℕ) (e : Event) → IsKnown n (length names) e → event_fields nodes (names ++ more) e ≡ event_fields nodes names e
fields-more nodes names more n (event.StartPut w key value gets) p = rw (writer-more names more w p) refl
fields-more nodes names more n e p = refl

module _ (ring : RingValue) where
  all-grown : (names : List (List ℕ)) (xs : List SaidEvent) → EachIn (script_growth Anyone ring) (IsSaid ring) names xs → (more : List (List ℕ)) × (state_after (script_growth Anyone ring) names xs ≡ names ++ more)
  all-grown names [] each = ([], sym (append-nil names))
  all-grown names (x ∷ xs) each =
      let one = (grows-said names x each.0.writer).grown in
      let rest = all-grown (names_after names x) xs each.1 in
      (one.0 ++ rest.0, rest.1 ∙ ap (λ (ns : List (List ℕ)). ns ++ rest.0) one.1 ∙ append_assoc names one.0 rest.0)

  -- a line is spelled with the writers that are known in the end
  pub same-fields : (names : List (List ℕ)) (x : SaidEvent) (xs : List SaidEvent) → IsSaid ring names x → EachIn (script_growth Anyone ring) (IsSaid ring) (names_after names x) xs
      → event_fields (names_of ring) (state_after (script_growth Anyone ring) (names_after names x) xs) (event_of names x) ≡ said_fields ring names x
  same-fields names x xs is each =
      let more = all-grown (names_after names x) xs each in
      ap (λ (ns : List (List ℕ)). event_fields (names_of ring) ns (event_of names x)) more.1 ∙ fields-more (names_of ring) (names_after names x) more.0 (length (names_of ring)) (event_of names x) is.known

  -- how its lines are spelled
  abbrev pub script_said : Lines (List (List ℕ)) SaidEvent Event (script_growth Anyone ring)
  script_said = record {
    most = 1000000;
    fields = event_fields (names_of ring);
    allowed = IsSaid ring;
    line = λ all seen names k. said-law ring seen names k;
    plain = λ names x p. plain-line (said_fields ring names x) ((kind_form ring names).plain tt x p) (begins (names_of ring) (names_after names x) (event_of names x));
    goes_on = λ names e lines. goes-on (names_of ring) names e lines;
    same = same-fields;
  }

  abbrev Script : Type 0
  Script = List Event × List (List ℕ)

  -- ---- lines are a script

  -- names that grow do not get fewer
  longer : (names next : List (List ℕ)) → (more : List (List ℕ)) × (next ≡ names ++ more) → length names ≤ length next
  longer names next g =
      let same = ap (λ (xs : List (List ℕ)). length xs) g.1 in
      let sum = length-append names g.0 in
      omega arith

  -- who is known is known with more writers
  known-more : (nodes n m : ℕ) (e : Event) → n ≤ m → IsKnown nodes n e → IsKnown nodes m e
  known-more nodes n m (event.StartPut w key value gets) le p = omega arith
  known-more nodes n m e le p = p

  script-none : (names : List (List ℕ)) → AreWriters names → IsScriptOf ring names names []
  script-none names good = record {
    few = omega arith;
    events = tt;
    known = tt;
    writers = good;
    grown = ([], sym (append-nil names));
    seen = λ w le lt. absurd (omega arith);
    ordered = λ n w v at le lt. (let e = at.3 in absurd cc);
  }

  -- one event more in front
  script-more : (names next last : List (List ℕ)) (e : Event) (es : List Event) → Grows names next e → length es < 1000000 → IsEvent e → IsKnown (length (names_of ring)) (length last) e → IsScriptOf ring next last es → IsScriptOf ring names last (e ∷ es)
  script-more names next last e es g few is knows r =
      record {
        few = omega arith;
        events = (is, r.events);
        known = (knows, r.known);
        writers = r.writers;
        grown = (g.grown.0 ++ r.grown.0, r.grown.1 ∙ ap (λ (xs : List (List ℕ)). xs ++ r.grown.0) g.grown.1 ∙ append_assoc names g.grown.0 r.grown.0);
        seen = seen;
        ordered = ordered;
      }
    where
      seen : (w : ℕ) → length names ≤ w → w < length last → (n : ℕ) × WritesAt (e ∷ es) n w
      seen w le lt = elim (cases_lt w (length next)) [
        | inl now ↦ (0, g.first w le now)
        | inr later ↦ (let s = r.seen w later lt in (suc s.0, s.1))
      ]

      ordered : (n w v : ℕ) → WritesAt (e ∷ es) n w → length names ≤ v → v < w → (m : ℕ) × (m < n) × WritesAt (e ∷ es) m v
      ordered zero w v at le lt = absurd (omega (arith, g.least w at))
      ordered (suc n) w v at le lt = elim (cases_lt v (length next)) [
        | inl now ↦ (0, omega arith, g.first v le now)
        | inr later ↦ (let o = r.ordered n w v at later lt in (suc o.0, omega (arith, o.1), o.2))
      ]

  script-of : (xs : List SaidEvent) (names : List (List ℕ)) → AreWriters names → EachIn (script_growth Anyone ring) (IsSaid ring) names xs → length (values_of (script_growth Anyone ring) names xs) ≤ 1000000
      → IsScriptOf ring names (state_after (script_growth Anyone ring) names xs) (values_of (script_growth Anyone ring) names xs)
  script-of [] names good each few = script-none names good
  script-of (x ∷ xs) names good each few =
      let now = event_of names x in
      let next = names_after names x in
      let last = state_after (script_growth Anyone ring) next xs in
      let p = each.0 in
      let rest = script-of xs next (after-writers names x good p.writer) each.1 (omega arith) in
      script-more names next last now (values_of (script_growth Anyone ring) next xs) (grows-said names x p.writer) (omega arith) p.event (known-more (length (names_of ring)) (length next) (length last) now (longer next last rest.grown) p.known) rest

  -- what lines say is a script
  pub says-script : (old : List (List ℕ)) (v : Script) → AreWriters old → Says (script_growth Anyone ring) script_said old v → IsScriptOf ring old v.1 v.0
  says-script old v good p = rw (← p.values, ← p.state) (script-of p.items old good p.each (rw p.values p.few))

  -- ---- a script is lines

  -- one event less
  script-less : (names next last : List (List ℕ)) (e : Event) (es : List Event) → Grows names next e → (more : List (List ℕ)) × (last ≡ next ++ more) → IsScriptOf ring names last (e ∷ es) → IsScriptOf ring next last es
  script-less names next last e es g on r = record { few = (let le = r.few in omega arith); events = r.events.1; known = r.known.1; writers = r.writers; grown = on; seen = seen; ordered = ordered }
    where
      later : (w : ℕ) → length next ≤ w → (n : ℕ) × WritesAt (e ∷ es) n w → (n : ℕ) × WritesAt es n w
      later w high (zero, at) = absurd (omega (arith, g.kept w at))
      later w high (suc n, at) = (n, at)

      seen : (w : ℕ) → length next ≤ w → w < length last → (n : ℕ) × WritesAt es n w
      seen w high lt = let ge = longer names next g.grown in later w high (r.seen w (omega arith) lt)

      before : (n v : ℕ) → length next ≤ v → (m : ℕ) × (m < suc n) × WritesAt (e ∷ es) m v → (m : ℕ) × (m < n) × WritesAt es m v
      before n v high (zero, lt, at) = absurd (omega (arith, g.kept v at))
      before n v high (suc m, lt, at) = (m, omega arith, at)

      ordered : (n w v : ℕ) → WritesAt es n w → length next ≤ v → v < w → (m : ℕ) × (m < n) × WritesAt es m v
      ordered n w v at high lt = let ge = longer names next g.grown in before n v high (r.ordered (suc n) w v at (omega arith) lt)

  -- after no events no writer is new
  none-new : (names last : List (List ℕ)) → IsScriptOf ring names last [] → last ≡ names
  none-new names last r = by r.grown.0 r.grown.1
    where
      by : (more : List (List ℕ)) → last ≡ names ++ more → last ≡ names
      by [] e = e ∙ append-nil names
      by (x ∷ xs) e =
          let same = ap (λ (ys : List (List ℕ)). length ys) e in
          let sum = length-append names (x ∷ xs) in
          let s = r.seen (length names) (omega arith) (omega arith) in
          let none = s.1.3 in
          absurd cc

  module _ (nodes : AreNames (names_of ring)) where
    -- what the next line says
    record Next (names last : List (List ℕ)) (e : Event) : Type 0 where
      pub item : SaidEvent
      pub event : event_of names item ≡ e
      pub said : IsSaid ring names item
      pub on : (more : List (List ℕ)) × (last ≡ names_after names item ++ more)

    -- a new writer's put
    new-put : (names last more : List (List ℕ)) (w : WriterId) (key value gets : List ℕ) → AreWriters last → last ≡ names ++ more → w.0 ≡ length names → w.0 < length last → IsEvent (event.StartPut w key value gets) → Next names last (event.StartPut w key value gets)
    new-put names last [] w key value gets good e same lt is = absurd (let f = ap (λ (ys : List (List ℕ)). length ys) e in omega (arith, length-append names []))
    new-put names last (name ∷ more) w key value gets good e same lt is =
        let joined : last ≡ (names ++ name ∷ []) ++ more = e ∙ sym (append_assoc names (name ∷ []) more) in
        let sum = length-append names (name ∷ []) in
        let at : slice_get last (length names) ≡ Some name = ap (λ (ns : List (List ℕ)). slice_get ns (length names)) joined ∙ get_front (names ++ name ∷ []) more (length names) (omega arith) ∙ get_last names name in
        let named = named-at last (length names) name good.names at in
        let new = not-before names (name ∷ more) name (ap (λ (ns : List (List ℕ)). place ns name) (sym e) ∙ good.different (length names) name at) in
        let few = good.few in
        record {
          item = said.Put (record { writer = New name; key = key; value = value; seen = gets });
          event = ap (λ (n : ℕ). event.StartPut (record { 0 = n }) key value gets) (sym same);
          said = record { event = is; known = omega arith; node = tt; writer = (named, new, omega arith) };
          on = (more, joined);
        }

    -- the node of an event is declared
    node-of : (n : ℕ) (e : Event) → IsKnown (length (names_of ring)) n e → NamesNode ring e
    node-of n (event.Hint u i x) p = node-placed (names_of ring) x.0 nodes p
    node-of n (event.Down x) p = node-placed (names_of ring) x.0 nodes p
    node-of n (event.Up x) p = node-placed (names_of ring) x.0 nodes p
    node-of n (event.Handoff x s) p = node-placed (names_of ring) x.0 nodes p
    node-of n (event.Lose x) p = node-placed (names_of ring) x.0 nodes p
    node-of n e p = tt

    -- each event is what one line says: a put's writer is known or the next new one
    next-of : (names last : List (List ℕ)) → AreWriters last → (g : (more : List (List ℕ)) × (last ≡ names ++ more)) → (e : Event) → ((w : ℕ) → Puts e w → length names ≤ w → w ≡ length names) → IsEvent e
        → IsKnown (length (names_of ring)) (length last) e → Next names last e
    next-of names last good g (event.StartPut w key value gets) low is known = elim (cases_lt w.0 (length names)) [
      | inl lt ↦ record {
        item = said.Put (record { writer = Known w; key = key; value = value; seen = gets });
        event = refl;
        said = record { event = is; known = lt; node = tt; writer = writer-placed names w.0 (front-writers names g.0 (subst AreWriters g.1 good)) lt };
        on = g;
      }
      | inr high ↦ new-put names last g.0 w key value gets good g.1 (low w.0 (key, value, gets, refl) high) known is
    ]
    next-of names last good g (event.StartGet key) low is known = record { item = said.Get key; event = refl; said = record { event = is; known = tt; node = tt; writer = tt }; on = g }
    next-of names last good g e low is known = record { item = said.Plain e; event = refl; said = record { event = is; known = known; node = node-of (length last) e known; writer = tt }; on = g }

    -- a script is what some lines say
    pub script-says : (es : List Event) (names last : List (List ℕ)) → IsScriptOf ring names last es → Says (script_growth Anyone ring) script_said names (es, last)
    script-says [] names last r = record { items = []; values = refl; state = sym (none-new names last r); each = tt; few = r.few }
    script-says (e ∷ es) names last r =
        let x = next-of names last r.writers r.grown e lowest r.events.0 r.known.0 in
        let next = names_after names x.item in
        let rest = script-says es next last (script-less names next last e es (subst (Grows names next) x.event (grows-said names x.item x.said.writer)) x.on r) in
        record {
          items = x.item ∷ rest.items;
          values = ap (λ (f : Event). f ∷ values_of (script_growth Anyone ring) next rest.items) x.event ∙ ap (λ (fs : List Event). e ∷ fs) rest.values;
          state = rest.state;
          each = (x.said, rest.each);
          few = r.few;
        }
      where
        lowest : (w : ℕ) → Puts e w → length names ≤ w → w ≡ length names
        lowest w p high = elim (cases_lt (length names) w) [
          | inl above ↦ absurd (omega (arith, (r.ordered 0 w (length names) p (omega arith) above).1))
          | inr le ↦ omega arith
        ]
