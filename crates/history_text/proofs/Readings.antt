-- A history that is read grows by an entry.
use Rattle.std.proofs.Common.{◌≡◌, ℕ, ◌+◌, ◌<◌, ◌≤◌, Bool, true, cond, List, [], ◌∷◌, ◌++◌, length, length-append, take, drop, take-append-drop, Ok, refl, sym, ap, subst, ◌∙◌, append_assoc, append-nil, arith}
use Rattle.std.specs.List.{AllByRecursion}
use Rattle.ring_table.specs.Value.{RingValue, names_of}
use Rattle.ring_table.specs.Valid.{IsRing}
use Rattle.ring_table.proofs.NodesLaws.{names-of}
use Rattle.texts.proofs.Texts.{appended}
use Rattle.plan_runs.specs.declared.event.Event.{Event}
use Rattle.plan_runs.specs.declared.event.Event.TheVariants.{StartPut}
use Rattle.plan_runs.specs.declared.event.Entry.{Entry}
use Rattle.script_text.specs.Said.{names_after, with_writer}
use Rattle.script_text.specs.Valid.{AreWriters, IsKnown}
use Rattle.script_text.specs.declared.said.SaidEvent.{SaidEvent}
use Rattle.script_text.specs.declared.said.SaidEvent.TheVariants as said
use Rattle.script_text.specs.declared.said.SaidWriter.{SaidWriter}
use Rattle.script_text.specs.declared.said.SaidWriter.TheVariants.{Known, New}
use Rattle.script_text.proofs.WriterLaws.{after-writers}
use Rattle.history_text.specs.Said.{SaidEntry, entry_of}
use Rattle.history_text.specs.Reading.{said_at}
use Rattle.history_text.proofs.EntryLaws.{entry-said, IsSaidEntry}
use Rattle.history_text.specs.declared.reader.Reader.{Reader}
use Rattle.history_text.specs.StreamReading.{entries_behind, writers_behind}
use Rattle.history_text.specs.State.{is_start, started, Counted, IsEmptied, IsFirst, IsKnownIn, IsReading, IsTooMany}

-- ---- one entry more

pub writers_more : (names : List (List ℕ)) (xs : List SaidEntry) (x : SaidEntry) → writers_behind names (xs ++ x ∷ []) ≡ names_after (writers_behind names xs) x.0
writers_more names [] x = refl
writers_more names (y ∷ ys) x = writers_more (names_after names y.0) ys x

entries_more : (names : List (List ℕ)) (xs : List SaidEntry) (x : SaidEntry) → entries_behind names (xs ++ x ∷ []) ≡ entries_behind names xs ++ entry_of (writers_behind names xs) x ∷ []
entries_more names [] x = refl
entries_more names (y ∷ ys) x = ap (λ (es : List Entry). entry_of names y ∷ es) (entries_more (names_after names y.0) ys x)

-- one entry more starts a put or get more, or none
pub started_more : (xs : List Entry) (x : Entry) → started (xs ++ x ∷ []) ≡ started xs + cond {A = ℕ} (is_start x.event) 1 0
started_more [] x = omega arith
started_more (y ∷ ys) x = (let h = started_more ys x in omega arith)

pub started_both : (xs ys : List Entry) → started (xs ++ ys) ≡ started xs + started ys
started_both [] ys = omega arith
started_both (x ∷ xs) ys = (let h = started_both xs ys in omega arith)

-- ---- the writers grow

abbrev pub Grown : List (List ℕ) → List (List ℕ) → Type 0
Grown names now = (more : List (List ℕ)) × (now ≡ names ++ more)

writer_grown : (names : List (List ℕ)) (w : SaidWriter) → Grown names (with_writer names w)
writer_grown names (Known n) = ([], sym (append-nil names))
writer_grown names (New name) = (name ∷ [], refl)

pub names_grown : (names : List (List ℕ)) (x : SaidEvent) → Grown names (names_after names x)
names_grown names (said.Put p) = writer_grown names p.writer
names_grown names x = ([], sym (append-nil names))

pub started_take : (k : ℕ) (xs : List Entry) → started (take k xs) ≤ started xs
started_take k xs = (let h = ap started (take-append-drop k xs) in let b = started_both (take k xs) (drop k xs) in omega arith)

-- ---- an entry is known by more writers

known_longer : (nodes n m : ℕ) (e : Event) → n ≤ m → IsKnown nodes n e → IsKnown nodes m e
known_longer nodes n m (StartPut w key value gets) le p = omega arith
known_longer nodes n m e le p = p

pub known_more : (ring : RingValue) (names more : List (List ℕ)) (es : List Entry) → AllByRecursion (IsKnownIn ring names) es → AllByRecursion (IsKnownIn ring (names ++ more)) es
known_more ring names more [] k = tt
known_more ring names more (x ∷ xs) k = (known_longer (length (names_of ring)) (length names) (length (names ++ more)) x.event (omega (arith, length-append names more)) k.0, known_more ring names more xs k.1)

-- ---- the state after an entry

-- an entry more is counted
pub count_on : (old new : Reader) (entry : Entry) → new.entries.items ≡ old.entries.items ++ entry ∷ [] → new.started ≡ old.started + cond {A = ℕ} (is_start entry.event) 1 0 → (old.started < 4294967295 → new.started < 4294967295)
    → (taken : ℕ) → Counted taken old → Counted taken new
count_on old new entry pushed count few taken c = record {
  same = (let a = ap started pushed in let b = started_more old.entries.items entry in let d = c.same in omega arith);
  few = few c.few;
}

module _ (ring : RingValue) (taken : List Entry) (said : List SaidEntry) (old new : Reader) (x : SaidEntry) (entry : Entry) (k : ℕ) (fields : List (List ℕ))
    (so : IsReading ring taken said old) (read : said_at ring [] old.writers k fields ≡ Ok x) (entry_is : entry ≡ entry_of old.writers x)
    (writers : new.writers ≡ names_after old.writers x.0) (same : new.ring.now ≡ old.ring.now) (pushed : new.entries.items ≡ old.entries.items ++ entry ∷ []) (counted : Counted (started taken) new) where
  law : IsSaidEntry ring [] old.writers x
  law = ((entry-said ring [] old.writers k (names-of ring so.valid) so.names).takes fields x read).1

  all : entries_behind [] (said ++ x ∷ []) ≡ taken ++ new.entries.items
  all =
      entries_more [] said x
      ∙ ap (λ (e : Entry). entries_behind [] said ++ e ∷ []) (ap (λ (ns : List (List ℕ)). entry_of ns x) (sym so.writers_are) ∙ sym entry_is)
      ∙ ap (λ (es : List Entry). es ++ entry ∷ []) so.entries_are ∙ append_assoc taken old.entries.items (entry ∷ []) ∙ ap (λ (es : List Entry). taken ++ es) (sym pushed)

  known_entry : IsKnownIn ring new.writers entry
  known_entry = subst (λ (ns : List (List ℕ)). IsKnownIn ring ns entry) (sym writers) (subst (λ (e : Entry). IsKnownIn ring (names_after old.writers x.0) e) (sym entry_is) law.said.known)

  known_all : AllByRecursion (IsKnownIn ring new.writers) new.entries.items
  known_all =
      let g = names_grown old.writers x.0 in
      let before = subst (λ (ns : List (List ℕ)). AllByRecursion (IsKnownIn ring ns) old.entries.items) (sym (writers ∙ g.1)) (known_more ring old.writers g.0 old.entries.items so.known) in
      subst (λ (es : List Entry). AllByRecursion (IsKnownIn ring new.writers) es) (sym pushed) (appended (IsKnownIn ring new.writers) old.entries.items (entry ∷ []) before (known_entry, tt))

  pub reading_on : IsReading ring taken (said ++ x ∷ []) new
  reading_on = record {
    valid = so.valid;
    ring_is = same ∙ so.ring_is;
    writers_are = writers ∙ ap (λ (ns : List (List ℕ)). names_after ns x.0) so.writers_are ∙ sym (writers_more [] said x);
    names = subst AreWriters (sym writers) (after-writers old.writers x.0 so.names law.said.writer);
    entries_are = all;
    known = known_all;
    counted = counted;
  }

-- the last put or get for which there is no room
pub last_start : (ring : RingValue) (taken : List Entry) (said : List SaidEntry) (old : Reader) (x : SaidEntry) (entry : Entry) → IsReading ring taken said old
    → entry ≡ entry_of old.writers x → is_start entry.event ≡ true → 4294967294 ≤ old.started → IsTooMany said x
last_start ring taken said old x entry so entry_is start full =
    let es = entries_behind [] said in
    let all : entries_behind [] (said ++ x ∷ []) ≡ es ++ entry ∷ [] = entries_more [] said x ∙ ap (λ (e : Entry). es ++ e ∷ []) (ap (λ (ns : List (List ℕ)). entry_of ns x) (sym so.writers_are) ∙ sym entry_is) in
    let same = ap started all ∙ started_more es entry in
    let one : cond {A = ℕ} (is_start entry.event) 1 0 ≡ 1 = ap (λ (b : Bool). cond {A = ℕ} b 1 0) start in
    let had = ap started so.entries_are ∙ started_both taken old.entries.items in
    let count = so.counted.same in
    let few = so.counted.few in
    (omega arith, omega arith)

-- ---- the entries are taken

pub emptied_reading : (ring : RingValue) (taken : List Entry) (said : List SaidEntry) (mid new : Reader) → IsEmptied mid new → IsReading ring taken said mid → IsReading ring (entries_behind [] said) said new
emptied_reading ring taken said mid new same so = record {
  valid = so.valid;
  ring_is = same.ring ∙ so.ring_is;
  writers_are = same.writers ∙ so.writers_are;
  names = subst AreWriters (sym same.writers) so.names;
  entries_are = sym (append-nil (entries_behind [] said)) ∙ ap (λ (es : List Entry). entries_behind [] said ++ es) (sym same.none);
  known = subst (λ (es : List Entry). AllByRecursion (IsKnownIn ring new.writers) es) (sym same.none) tt;
  counted = record {
    same = (let z = ap started same.none in let b = started_both taken mid.entries.items in let e = ap started so.entries_are in let c = so.counted.same in let d = same.started in omega arith);
    few = subst (λ (n : ℕ). n < 4294967295) (sym same.started) so.counted.few;
  };
}

-- ---- the first line

no_writers : AreWriters []
no_writers = record { few = omega arith; names = refl; different = λ n name e. absurd cc }

pub first_reading : (ring : RingValue) (line : ℕ) (r : Reader) → IsRing ring → IsFirst ring line r → IsReading ring [] [] r
first_reading ring line r valid first = record {
  valid = valid;
  ring_is = first.ring_is;
  writers_are = first.writers_are;
  names = subst AreWriters (sym first.writers_are) no_writers;
  entries_are = sym first.no_entries;
  known = subst (λ (es : List Entry). AllByRecursion (IsKnownIn ring r.writers) es) (sym first.no_entries) tt;
  counted = record { same = (let z = ap started first.no_entries in let s = first.none_started in omega arith); few = (let s = first.none_started in omega arith) };
}
