-- An event's line as one form: what is read, how it is spelled and what is allowed.
use Rattle.std.proofs.Common.{◌≡◌, ℕ, suc, ◌<◌, Bool, true, false, cond, not, eqb, nat_lt, nat_le, ◌&&◌, List, [], ◌∷◌, ◌++◌, length, codes, Option, Some, None, Result, Ok, Err, refl, sym, ap, subst, ◌∙◌, length-append, arith, rules}
use Rattle.std.proofs.Common.{option_map, slice_get, decimal, bytes_eq}
use Rattle.std.specs.List.{AllByRecursion, list_all}
use Rattle.std.specs.Map.{lookup}
use Rattle.std.proofs.lemmas.Bool.{eqb-false, ne_eqb, not-false, and_parts, and_from, ltb-true, lt-ltb}
use Rattle.script_text.proofs.Terms.{place, NodeId, WriterId, get-place, place-below, RingValue, names_of, name_at, is_key, Event, is_value_text, value_of, writer_of, with_writer, event_of, names_after, SaidWriter, Known, New, SaidPut}
use Rattle.script_text.proofs.Terms.{SaidEvent, Speaker, value_text, writer_at, seen_fields, event_fields, judge_value, may_say, heard_at, events_from, IsCount, IsBytes, AreGets, IsEvent, IsSmall, IsKnown, HasNumbers}
use Rattle.texts.proofs.Forms.{Form, LineForm, Always, Last, IsPlain, At, Case, case_of, Chosen, choose, choice_at, choice_if, NoneOr, of_item, field_of, both, mapped, anywhere, room, row, optional_at, optional, line, has_field, Refusal}
use Rattle.texts.proofs.Forms.{BadLine, TooLarge, UnknownNode, is_name, ascending, are_small, map_item, begins_with, IsItem, IsLine, IsItem-number, IsItem-field, IsLine-as, ok_is, at-if}
use Rattle.texts.proofs.Forms.{judges-number, decimal-plain, name-plain}
use Rattle.ring_names.proofs.InLists.{get_last}
use Rattle.texts.specs.Name.{is_name_byte}
use Rattle.texts.proofs.Wholes.{name-bytes-plain}
use Rattle.ring_table.specs.Reading.{judge_declared, declared_at}
use Rattle.ring_table.proofs.RingLates.{judges-declared}
use Rattle.plan_runs.specs.declared.event.Event.TheVariants as event
use Rattle.script_text.specs.declared.said.SaidEvent.TheVariants as said
use Rattle.script_text.specs.Reading.{count_at, pair_at, new_writer, judge_writer, judge_key, seen_at, put_at, hint_at, handoff_at, shape_at, kind_at, said_at}
use Rattle.script_text.specs.declared.kind.EventWord.{EventWord}
use Rattle.script_text.specs.declared.kind.EventWord.TheVariants as word
use Rattle.script_text.specs.Shapes.{words, shape_of}
use Rattle.script_text.proofs.Growing.{form_as, passed, Growth}
use Rattle.script_text.proofs.ValueLaws.{value-plain, text-is, value-given}

-- the words for frames, gets and events
pub words-plain : IsPlain (codes "script") × IsPlain (codes "1") × IsPlain (codes "seen")
words-plain = (search rules)

pub kinds-plain : IsPlain (codes "do") × IsPlain (codes "open") × IsPlain (codes "chunk") × IsPlain (codes "close") × IsPlain (codes "abort") × IsPlain (codes "put") × IsPlain (codes "write") × IsPlain (codes "hint")
    × IsPlain (codes "ack") × IsPlain (codes "get") × IsPlain (codes "read") × IsPlain (codes "endget") × IsPlain (codes "down") × IsPlain (codes "up") × IsPlain (codes "handoff") × IsPlain (codes "lose")
kinds-plain = (search rules)

-- ---- fields

-- a number of 32 bits, and two of them
abbrev pub count_form : Form (Unit {0}) Always ℕ
count_form = of_item count_at (λ n. decimal n ∷ []) IsCount (λ _ k. IsItem-number k 4294967295 (omega arith)) (λ k. judges-number k 4294967295) (λ _ n le. (decimal-plain n (omega arith), tt))

abbrev pair_form : Form (Unit {0}) Always (ℕ × ℕ)
pair_form = both Always count_form count_form

-- a key
abbrev key_form : Form (Unit {0}) Always (List ℕ)
key_form = field_of judge_key (λ key. key) (λ key. is_key key ≡ true) (λ _ k f v e. let h = passed (is_key f) (Ok f) (BadLine k) v e in let same = ok_is f v h.1 in (same, ap is_key (sym same) ∙ h.0)) (λ _ k v p. rw p refl)
    (λ k f. at-if k (is_key f) (Ok f) (Err (BadLine k)) tt refl) (λ _ v p. name-bytes-plain v (and_parts (nat_le 1 (length v) && nat_le (length v) 64) (list_all is_name_byte v) p).1)

-- a value
abbrev value_form : Form (Unit {0}) Always (List ℕ)
value_form = field_of judge_value value_text IsBytes (λ _ k f v e. let h = passed (is_value_text f) (Ok (value_of f)) (BadLine k) v e in rw (← ok_is (value_of f) v h.1) (text-is f h.0)) (λ _. value-given)
    (λ k f. at-if k (is_value_text f) (Ok (value_of f)) (Err (BadLine k)) tt refl) (λ _. value-plain)

-- the name that is at the number
pub writer_at-is : (names : List (List ℕ)) (w : WriterId) (name : List ℕ) → slice_get names w.0 ≡ Some name → writer_at names w ≡ name
writer_at-is names w name e = rw (e, writer_at) refl

-- the number has a name, and the name is found there
abbrev pub IsPlaced : List (List ℕ) → ℕ → Type 0
IsPlaced names n = (is_name (writer_at names (record { 0 = n })) ≡ true) × (place names (writer_at names (record { 0 = n })) ≡ Some n)

placed-is : (names : List (List ℕ)) (f : List ℕ) (n : ℕ) → is_name f ≡ true → place names f ≡ Some n → (f ≡ writer_at names (record { 0 = n })) × IsPlaced names n
placed-is names f n name at = (let is = writer_at-is names (record { 0 = n }) f (get-place names n f at) in (sym is, (ap is_name is ∙ name, ap (place names) is ∙ at)))

pub placed-below : (names : List (List ℕ)) (n : ℕ) → IsPlaced names n → n < length names
placed-below names n p = place-below names n (writer_at names (record { 0 = n })) p.1

-- a declared node
abbrev pub IsNamed : RingValue → NodeId → Type 0
IsNamed ring x = IsPlaced (names_of ring) x.0

pub item-named : (ring : RingValue) (k : ℕ) → IsItem (declared_at ring k) (λ x. name_at (names_of ring) x ∷ []) (IsNamed ring)
unfolding declared_at
item-named ring k = IsItem-field k (judge_declared k (names_of ring)) (name_at (names_of ring)) (IsNamed ring)
    (λ f v e. let h = passed (is_name f) _ (BadLine k) v e in by f v (place (names_of ring) f) h.0 refl h.1) (λ v p. rw (p.0, p.1) refl)
  where
    by : (f : List ℕ) (v : NodeId) (o : Option ℕ) → is_name f ≡ true → place (names_of ring) f ≡ o → ◌≡◌ {A = Result NodeId Refusal} (elim o [ Some n ↦ Ok (record { 0 = n }) | None ↦ Err (UnknownNode k) ]) (Ok v)
        → (f ≡ name_at (names_of ring) v) × IsNamed ring v
    by f v None name at e = absurd cc
    by f v (Some n) name at e = subst (λ (x : NodeId). (f ≡ name_at (names_of ring) x) × IsNamed ring x) (ok_is (record { 0 = n }) v e) (placed-is (names_of ring) f n name at)

abbrev named_form : RingValue → Form (Unit {0}) Always NodeId
named_form ring = of_item (declared_at ring) (λ x. name_at (names_of ring) x ∷ []) (IsNamed ring) (λ _. item-named ring) (judges-declared ring) (λ _ x p. (name-plain (name_at (names_of ring) x) p.0, tt))

-- ---- the writer of a put

-- the name of a writer that a line says
abbrev pub said_name : List (List ℕ) → SaidWriter → List ℕ
said_name names x = writer_at (with_writer names x) (writer_of names x)

-- a writer that was seen, or a new name for which there is room
abbrev pub IsWriter : List (List ℕ) → SaidWriter → Type 0
IsWriter names (Known w) = IsPlaced names w.0
IsWriter names (New name) = (is_name name ≡ true) × (place names name ≡ None) × (length names < 1024)

-- the writer of a put is known after it
pub writer-known : (names : List (List ℕ)) (x : SaidWriter) → IsWriter names x → (writer_of names x).0 < length (with_writer names x)
writer-known names (Known w) p = placed-below names w.0 p
writer-known names (New name) p = (let more = length-append names (name ∷ []) in omega arith)

pub new-name : (names : List (List ℕ)) (name : List ℕ) → said_name names (New name) ≡ name
new-name names name = writer_at-is (names ++ name ∷ []) (record { 0 = length names }) name (get_last names name)

module _ (names : List (List ℕ)) (k : ℕ) where
  pub writer-is : (f : List ℕ) (x : SaidWriter) (o : Option ℕ) → is_name f ≡ true → place names f ≡ o → ◌≡◌ {A = Result SaidWriter Refusal} (elim o [ Some n ↦ Ok (Known (record { 0 = n })) | None ↦ new_writer names k f ]) (Ok x)
      → (f ≡ said_name names x) × IsWriter names x
  writer-is f x None name at e =
      let h = passed (nat_lt (length names) 1024) (Ok (New f)) (TooLarge k) x e in
      subst (λ (y : SaidWriter). (f ≡ said_name names y) × IsWriter names y) (ok_is (New f) x h.1) (sym (new-name names f), (name, at, ltb-true (length names) 1024 h.0))
  writer-is f x (Some n) name at e = subst (λ (y : SaidWriter). (f ≡ said_name names y) × IsWriter names y) (ok_is (Known (record { 0 = n })) x e) (placed-is names f n name at)

  pub writer-given : (x : SaidWriter) → IsWriter names x → judge_writer names k (said_name names x) ≡ Ok x
  writer-given (Known w) p = rw (p.0, p.1) refl
  writer-given (New name) p = ap (judge_writer names k) (new-name names name) ∙ rw (p.0, p.1, lt-ltb (length names) 1024 p.2) refl

  pub writer-at : (f : List ℕ) → At k (judge_writer names k f)
  writer-at f = at-if k (is_name f) _ (Err (BadLine k)) (by (place names f)) refl
    where
      by : (o : Option ℕ) → At {A = SaidWriter} k (elim o [ Some n ↦ Ok (Known (record { 0 = n })) | None ↦ new_writer names k f ])
      by None = at-if k (nat_lt (length names) 1024) (Ok (New f)) (Err (TooLarge k)) tt refl
      by (Some n) = tt

pub writer-plain : (names : List (List ℕ)) (x : SaidWriter) → IsWriter names x → IsPlain (said_name names x)
writer-plain names (Known w) p = name-plain (writer_at names w) p.0
writer-plain names (New name) p = rw (new-name names name) (name-plain name p.0)

abbrev writer_form : List (List ℕ) → Form (Unit {0}) Always SaidWriter
writer_form names = field_of (judge_writer names) (said_name names) (IsWriter names) (λ _ k f x e. let h = passed (is_name f) _ (BadLine k) x e in writer-is names k f x (place names f) h.0 refl h.1)
    (λ _. writer-given names) (writer-at names) (λ _. writer-plain names)

-- ---- the gets that a put knows

-- some of them
abbrev gets_row : Form (Unit {0}) Last (List ℕ)
gets_row = row (λ k xs. (eqb (length xs) 0, BadLine k) ∷ (not (ascending xs), BadLine k) ∷ (not (nat_le (length xs) 16), TooLarge k) ∷ (not (are_small xs), TooLarge k) ∷ []) (λ k m xs p. p)
    (λ w xs p. not-false (are_small xs) p.1.1.1.0) (λ k xs. (refl, (refl, (refl, (refl, tt)))))

-- some, or none, are the gets of a put
pub are-gets : (xs : List ℕ) → NoneOr gets_row.allowed xs → AreGets xs
are-gets [] p = record { ascend = refl; counts = refl }
are-gets (x ∷ xs) p = record { ascend = and_from (nat_le (length (x ∷ xs)) 16) (ascending (x ∷ xs)) (not-false _ p.1.1.0) (not-false _ p.1.0); counts = not-false _ p.1.1.1.0 }

pub gets-are : (xs : List ℕ) → AreGets xs → NoneOr gets_row.allowed xs
gets-are [] p = tt
gets-are (x ∷ xs) p = (let s = and_parts (nat_le (length (x ∷ xs)) 16) (ascending (x ∷ xs)) p.ascend in (ne_eqb (suc (length xs)) 0 (omega arith), (ap not s.1, (ap not s.0, (ap not p.counts, tt)))))

pub seen-same : (k : ℕ) (fields : List (List ℕ)) → seen_at k fields ≡ optional_at (codes "seen") gets_row k fields
unfolding seen_at
seen-same k [] = refl
seen-same k (word ∷ fields) = refl

-- nothing, or they after a word, at the end of a line
abbrev seen_form : Form (Unit {0}) Last (List ℕ)
seen_form = form_as seen_at AreGets (optional (codes "seen") words-plain.2 gets_row (λ p. eqb-false 0 0 p.0 refl) seen_at seen-same seen_fields refl (λ x xs. refl)) (λ k fields. refl) are-gets gets-are

-- ---- an event

-- a put
abbrev put_form : List (List ℕ) → Form (Unit {0}) Last SaidPut
put_form names = mapped Last (λ x. record { writer = x.0.0.0; key = x.0.0.1; value = x.0.1; seen = x.1 }) (λ p. (((p.writer, p.key), p.value), p.seen)) (λ x. refl) (λ y. refl)
    (both Last (both Always (both Always (writer_form names) key_form) value_form) seen_form)

-- the writer of a put can be numbered, and has a name; what is all that a line says takes no memory
abbrev pub NamesWriter : List (List ℕ) → SaidEvent → Type 0
NamesWriter names (said.Put p) = IsWriter names p.writer
NamesWriter names (said.Get k) = Unit {0}
NamesWriter names (said.Plain e) = IsSmall e

-- the node of an event is declared
abbrev pub NamesNode : RingValue → Event → Type 0
NamesNode ring (event.Hint u i x) = IsNamed ring x
NamesNode ring (event.Down x) = IsNamed ring x
NamesNode ring (event.Up x) = IsNamed ring x
NamesNode ring (event.Handoff x s) = IsNamed ring x
NamesNode ring (event.Lose x) = IsNamed ring x
NamesNode ring e = Unit {0}

-- what a line says is an event within its limits, which names who is known after it
pub record IsSaid (ring : RingValue) (names : List (List ℕ)) (x : SaidEvent) : Type 0 where
  pub event : IsEvent (event_of names x)
  pub known : IsKnown (length (names_of ring)) (length (names_after names x)) (event_of names x)
  pub node : NamesNode ring (event_of names x)
  pub writer : NamesWriter names x

-- an event that has only numbers is said
pub said-numbers : (ring : RingValue) (names : List (List ℕ)) (e : Event) → HasNumbers e → IsSaid ring names (said.Plain e)
said-numbers ring names (event.StartPut w k v g) p = absurd p.1
said-numbers ring names (event.StartGet k) p = absurd p.1
said-numbers ring names (event.Hint u i x) p = (let lt = p.2 in absurd (omega arith))
said-numbers ring names (event.Down x) p = (let lt = p.2 in absurd (omega arith))
said-numbers ring names (event.Up x) p = (let lt = p.2 in absurd (omega arith))
said-numbers ring names (event.Handoff x s) p = (let lt = p.2 in absurd (omega arith))
said-numbers ring names (event.Lose x) p = (let lt = p.2 in absurd (omega arith))
said-numbers ring names e p = record { event = p.0; known = tt; node = tt; writer = tt }

-- its line
abbrev pub said_fields : RingValue → List (List ℕ) → SaidEvent → List (List ℕ)
said_fields ring names x = event_fields (names_of ring) (names_after names x) (event_of names x)

-- what each line says, after its word
module _ (ring : RingValue) (names : List (List ℕ)) where
  abbrev SaidCase : Type 1
  SaidCase = Case (Unit {0}) Last SaidEvent (said_fields ring names) (IsSaid ring names)

  pub known : (x : NodeId) → IsNamed ring x → x.0 < length (names_of ring)
  known x p = placed-below (names_of ring) x.0 p

  abbrev said_case : EventWord → SaidCase
  said_case word.Do = case_of (codes "do") kinds-plain.0 (anywhere Last count_form) (λ n. said.Plain (event.Do n)) (λ n. refl) (λ n p. record { event = p; known = tt; node = tt; writer = tt }) (λ n p. p.event)
  said_case word.Open = case_of (codes "open") kinds-plain.1 (anywhere Last count_form) (λ n. said.Plain (event.OpenCopy n)) (λ n. refl) (λ n p. record { event = p; known = tt; node = tt; writer = tt }) (λ n p. p.event)
  said_case word.Chunk = case_of (codes "chunk") kinds-plain.2 (anywhere Last pair_form) (λ x. said.Plain (event.ChunkCopy x.0 x.1)) (λ x. refl) (λ x p. record { event = p; known = tt; node = tt; writer = tt }) (λ x p. p.event)
  said_case word.Close = case_of (codes "close") kinds-plain.3 (anywhere Last count_form) (λ n. said.Plain (event.CloseCopy n)) (λ n. refl) (λ n p. record { event = p; known = tt; node = tt; writer = tt }) (λ n p. p.event)
  said_case word.Abort = case_of (codes "abort") kinds-plain.4 (anywhere Last count_form) (λ n. said.Plain (event.AbortCopy n)) (λ n. refl) (λ n p. record { event = p; known = tt; node = tt; writer = tt }) (λ n p. p.event)
  said_case word.Put = case_of (codes "put") kinds-plain.5 (put_form names) said.Put (λ q. refl) (λ q p. record { event = (p.0.0.1, p.0.1, p.1); known = writer-known names q.writer p.0.0.0; node = tt; writer = p.0.0.0 })
      (λ q p. (((p.writer, p.event.0), p.event.1), p.event.2))
  said_case word.Write = case_of (codes "write") kinds-plain.6 (anywhere Last pair_form) (λ x. said.Plain (event.Write x.0 x.1)) (λ x. refl) (λ x p. record { event = p; known = tt; node = tt; writer = tt }) (λ x p. p.event)
  said_case word.Hint = case_of (codes "hint") kinds-plain.7 (anywhere Last (both Always pair_form (named_form ring))) (λ x. said.Plain (event.Hint x.0.0 x.0.1 x.1)) (λ x. refl)
      (λ x p. record { event = p.0; known = known x.1 p.1; node = p.1; writer = tt }) (λ x p. (p.event, p.node))
  said_case word.Ack = case_of (codes "ack") kinds-plain.8 (anywhere Last count_form) (λ n. said.Plain (event.Ack n)) (λ n. refl) (λ n p. record { event = p; known = tt; node = tt; writer = tt }) (λ n p. p.event)
  said_case word.Get = case_of (codes "get") kinds-plain.9 (anywhere Last key_form) said.Get (λ key. refl) (λ key p. record { event = p; known = tt; node = tt; writer = tt }) (λ key p. p.event)
  said_case word.Read = case_of (codes "read") kinds-plain.10 (anywhere Last pair_form) (λ x. said.Plain (event.Read x.0 x.1)) (λ x. refl) (λ x p. record { event = p; known = tt; node = tt; writer = tt }) (λ x p. p.event)
  said_case word.EndGet = case_of (codes "endget") kinds-plain.11 (anywhere Last count_form) (λ n. said.Plain (event.EndGet n)) (λ n. refl) (λ n p. record { event = p; known = tt; node = tt; writer = tt }) (λ n p. p.event)
  said_case word.Down = case_of (codes "down") kinds-plain.12 (anywhere Last (named_form ring)) (λ x. said.Plain (event.Down x)) (λ x. refl) (λ x p. record { event = tt; known = known x p; node = p; writer = tt }) (λ x p. p.node)
  said_case word.Up = case_of (codes "up") kinds-plain.13 (anywhere Last (named_form ring)) (λ x. said.Plain (event.Up x)) (λ x. refl) (λ x p. record { event = tt; known = known x p; node = p; writer = tt }) (λ x p. p.node)
  said_case word.Handoff = case_of (codes "handoff") kinds-plain.14 (anywhere Last (both Always (named_form ring) pair_form)) (λ x. said.Plain (event.Handoff x.0 (record { partition = x.1.0; index = x.1.1 })))
      (λ x. refl) (λ x p. record { event = p.1; known = known x.0 p.0; node = p.0; writer = tt }) (λ x p. (p.node, p.event))
  said_case word.Lose = case_of (codes "lose") kinds-plain.15 (anywhere Last (named_form ring)) (λ x. said.Plain (event.Lose x)) (λ x. refl) (λ x p. record { event = tt; known = known x p; node = p; writer = tt }) (λ x p. p.node)

  -- in the order in which a reader tries them
  abbrev cases_of : List (List ℕ × EventWord) → List SaidCase
  cases_of [] = []
  cases_of (t ∷ ts) = said_case t.1 ∷ cases_of ts

  -- the definition is the form, by computing
  shape-is : (w : EventWord) (k : ℕ) (fields : List (List ℕ)) → shape_at ring names k (Some (shape_of w)) fields ≡ map_item (said_case w).value ((said_case w).form.item k) fields
  unfolding pair_at put_at hint_at handoff_at
  shape-is word.Do k fields = refl
  shape-is w k fields = refl

  table-is : (ts : List (List ℕ × EventWord)) → AllByRecursion (λ t. (said_case t.1).word ≡ t.0) ts → (k : ℕ) (w : List ℕ) (fields : List (List ℕ))
      → shape_at ring names k (option_map shape_of (lookup (bytes_eq w) ts)) fields ≡ choose (cases_of ts) k w fields
  table-is [] p k w fields = refl
  table-is (t ∷ ts) p k w fields = rw p.0 (by (bytes_eq w t.0) (table-is ts p.1 k w fields))
    where
      by : (b : Bool) → shape_at ring names k (option_map shape_of (lookup (bytes_eq w) ts)) fields ≡ choose (cases_of ts) k w fields
          → shape_at ring names k (option_map shape_of (cond b (Some t.1) (lookup (bytes_eq w) ts))) fields
          ≡ cond b (map_item (said_case t.1).value ((said_case t.1).form.item k) fields) (choose (cases_of ts) k w fields)
      by true later = shape-is t.1 k fields
      by false later = later

  words-are : AllByRecursion (λ t. (said_case t.1).word ≡ t.0) words
  words-are = (search rules)

  pub kind-same : (k : ℕ) (fields : List (List ℕ)) → kind_at ring names k fields ≡ choice_at (cases_of words) k fields
  unfolding kind_at
  kind-same k [] = refl
  kind-same k (w ∷ fields) = table-is words words-are k w fields

  first-is : (w : EventWord) (k : ℕ) (fields : List (List ℕ)) → choose (cases_of words) k (said_case w).word fields ≡ map_item (said_case w).value ((said_case w).form.item k) fields
  first-is word.Do k fields = refl
  first-is w k fields = refl

  abbrev chosen : (w : EventWord) (x : (said_case w).kind) → Chosen (cases_of words) ((said_case w).value x)
  chosen w x = record { case = said_case w; part = x; is = refl; first = first-is w }

  pub kind-case : (v : SaidEvent) → IsSaid ring names v → Chosen (cases_of words) v
  kind-case (said.Put q) p = chosen word.Put q
  kind-case (said.Get key) p = chosen word.Get key
  kind-case (said.Plain (event.StartPut w key value gets)) p = absurd p.writer
  kind-case (said.Plain (event.StartGet key)) p = absurd p.writer
  kind-case (said.Plain (event.Do n)) p = chosen word.Do n
  kind-case (said.Plain (event.OpenCopy n)) p = chosen word.Open n
  kind-case (said.Plain (event.ChunkCopy n m)) p = chosen word.Chunk (n, m)
  kind-case (said.Plain (event.CloseCopy n)) p = chosen word.Close n
  kind-case (said.Plain (event.AbortCopy n)) p = chosen word.Abort n
  kind-case (said.Plain (event.Write n m)) p = chosen word.Write (n, m)
  kind-case (said.Plain (event.Hint u i x)) p = chosen word.Hint ((u, i), x)
  kind-case (said.Plain (event.Ack n)) p = chosen word.Ack n
  kind-case (said.Plain (event.Read n m)) p = chosen word.Read (n, m)
  kind-case (said.Plain (event.EndGet n)) p = chosen word.EndGet n
  kind-case (said.Plain (event.Down x)) p = chosen word.Down x
  kind-case (said.Plain (event.Up x)) p = chosen word.Up x
  kind-case (said.Plain (event.Handoff x s)) p = chosen word.Handoff (x, (s.partition, s.index))
  kind-case (said.Plain (event.Lose x)) p = chosen word.Lose x

  -- what a line says
  abbrev pub kind_form : Form (Unit {0}) Last SaidEvent
  kind_form = choice_if (cases_of words) (kind_at ring names) kind-same kind-case

-- ---- a line

-- no event's line is empty
pub begins : (nodes names : List (List ℕ)) (e : Event) → has_field (event_fields nodes names e) ≡ true
begins nodes names (event.Do s) = refl
begins nodes names e = refl

-- so many values seen, and the event of a line
abbrev pub said_line : RingValue → ℕ → List (List ℕ) → LineForm (Unit {0}) SaidEvent
said_line ring n names = line Last refl (λ x. x.1) (λ x. (tt {0}, x)) (λ x. refl) (λ y. refl) (both Last (room (nat_lt n 1000000)) (kind_form ring names)) (λ v. begins (names_of ring) (names_after names v.1) (event_of names v.1))

pub said-line : (ring : RingValue) (n : ℕ) (names : List (List ℕ)) (k : ℕ) → IsLine ((said_line ring n names).read k) (said_fields ring names) (λ x. (n < 1000000) × IsSaid ring names x)
said-line ring n names k = IsLine-as _ _ _ _ _ (λ v. refl) (λ v p. (ltb-true n 1000000 p.0, p.1)) (λ v p. (lt-ltb n 1000000 p.0, p.1)) ((said_line ring n names).exact tt k)

pub said-law : (ring : RingValue) (seen : List Event) (names : List (List ℕ)) (k : ℕ) → IsLine (said_at ring seen names k) (said_fields ring names) (λ x. (length seen < 1000000) × IsSaid ring names x)
unfolding said_at
said-law ring seen names k = said-line ring (length seen) names k

pub heard-at : (may : Bool) (ring : RingValue) (seen : List Event) (names : List (List ℕ)) (k : ℕ) (fields : List (List ℕ)) → At k (heard_at may ring seen names k fields)
unfolding said_at
heard-at may ring seen names k fields = at-if k may _ (Err (BadLine k)) ((said_line ring (length seen) names).at k fields) refl

-- no event's line ends a script
pub goes-on : (nodes names : List (List ℕ)) (e : Event) (more : List (List (List ℕ))) → begins_with (codes "end") (event_fields nodes names e ∷ more) ≡ false
goes-on nodes names (event.Do s) more = refl
goes-on nodes names e more = refl

-- how the lines of a script are read
abbrev pub script_growth : Speaker → RingValue → Growth (List (List ℕ)) SaidEvent Event
script_growth by ring = record {
  read = λ all. heard_at (may_say by all) ring;
  value = event_of;
  after = names_after;
  from = events_from by ring;
  none = λ seen names k. refl;
  more = λ seen names k line lines. refl;
  at = λ all. heard-at (may_say by all) ring;
}
