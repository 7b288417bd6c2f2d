-- A reader takes a line.
use Rattle.std.proofs.Common.{◌≡◌, ◌⊎◌, ℕ, zero, suc, ◌+◌, ◌<◌, Bool, true, false, not, eqb, List, [], ◌∷◌, ◌++◌, length, map, take, drop, get_or, take-append-drop, append_assoc, append-nil, Result, Ok, Err, IsErrAnd, refl, sym, ap, subst, ◌∙◌, arith, inl, inr}
use Rattle.std.specs.Prelude.{◌≢◌, codes, IfErr, OnOk}
use Rattle.std.specs.List.{AllByRecursion, slice_split, onto_first}
use Rattle.std.specs.Str.{bytes_eq}
use Rattle.std.proofs.lemmas.List.Splits.{slice_split-cons_no, slice_split-cons_yes}
use Rattle.std.proofs.Math.Seq.{take-add}
use Rattle.ring_names.specs.declared.refusal.Refusal.{Refusal}
use Rattle.ring_names.specs.declared.refusal.Refusal.TheVariants.{BadLine, OutOfMemory, TooLarge}
use Rattle.texts.specs.Parts.{fields_of, lines_of}
use Rattle.texts.specs.Left.{Left, next_number, begins_so}
use Rattle.texts.specs.Frames.{header_at, end_line_at}
use Rattle.texts.proofs.Cuts.{first_part}
use Rattle.ring_table.specs.Value.{RingValue}
use Rattle.script_text.specs.Valid.{AreWriters}
use Rattle.plan_runs.specs.declared.event.Entry.{Entry}
use Rattle.script_text.specs.Said.{names_after}
use Rattle.history_text.specs.Said.{SaidEntry}
use Rattle.history_text.specs.Reading.{said_at}
use Rattle.history_text.specs.declared.reader.Reader.{Reader}
use Rattle.history_text.specs.declared.reader.Stage.{Stage}
use Rattle.history_text.specs.declared.reader.Stage.TheVariants.{First, Entries, Over}
use Rattle.history_text.specs.StreamReading.{goes_on, read_from, resume_at}
use Rattle.history_text.specs.State.{IsHeld, IsKnownIn, IsReading, IsTooMany, Stops, TakesEntry, RefusesEntry, RefusesLine, Takes, Refuses, read_by, line_and, lines_and, point_of, started}
use Rattle.history_text.proofs.Resumes.{entry_step, entry_bad, end_step, header_step, over_bad}
use Rattle.history_text.proofs.Pieces.{takes_both}
use Rattle.history_text.proofs.Readings.{names_grown, writers_more}

-- the same but for the next line
pub record Same (old new : Reader) : Type 0 where
  pub ring : new.ring.now ≡ old.ring.now
  pub writers : new.writers ≡ old.writers
  pub started : new.started ≡ old.started
  pub entries : new.entries.items ≡ old.entries.items

moved : (ring : RingValue) (taken : List Entry) (said : List SaidEntry) (old new : Reader) → Same old new → IsReading ring taken said old → IsReading ring taken said new
moved ring taken said old new same so =
    let items = same.entries in
    let count = ap started items in
    record {
      valid = so.valid;
      ring_is = same.ring ∙ so.ring_is;
      writers_are = same.writers ∙ so.writers_are;
      names = subst AreWriters (sym same.writers) so.names;
      entries_are = so.entries_are ∙ ap (λ (es : List Entry). taken ++ es) (sym items);
      known = subst (λ (es : List Entry). AllByRecursion (IsKnownIn ring new.writers) es) (sym items) (subst (λ (ns : List (List ℕ)). AllByRecursion (IsKnownIn ring ns) old.entries.items) (sym same.writers) so.known);
      counted = record { same = same.started ∙ so.counted.same ∙ ap (λ (n : ℕ). started taken + n) (sym count); few = subst (λ (n : ℕ). n < 4294967295) (sym same.started) so.counted.few };
    }

abbrev at : ℕ → List (List (List ℕ)) → Left
at k lines = record { line = k; lines = lines }

-- what a line says at a stage
resumed : (ring : RingValue) (a b : Stage) (said : List SaidEntry) (k m : ℕ) (lines : List (List (List ℕ))) → a ≡ b → k ≡ m → resume_at ring a said (at k lines) ≡ resume_at ring b said (at m lines)
resumed ring a b said k m lines e f = (λ i. resume_at ring (e i) said (at (f i) lines))

module _ (old new : Reader) (text : List ℕ) (line : new.line ≡ next_number old.line) where
  -- the first line
  pub takes_first : (u : Unit {0}) → old.stage ≡ First → new.stage ≡ Entries → Same old new → header_at (codes "history") (codes "1") old.line (fields_of text) ≡ Ok u → Takes old new (line_and text)
  takes_first u was is same e = λ ring taken said so. (
    said,
    moved ring taken said old new same so,
    λ more. resumed ring old.stage First said old.line old.line (line_and text more) was refl ∙ header_step ring said old.line (fields_of text) more (Ok u) e ∙ resumed ring Entries new.stage said (next_number old.line) new.line (lines_of more) (sym is) (sym line),
    ([], same.writers ∙ sym (append-nil old.writers)),
  )

  -- the last line
  pub takes_end : (u : Unit {0}) → old.stage ≡ Entries → new.stage ≡ Over → Same old new → ((lines : List (List (List ℕ))) → begins_so goes_on (fields_of text ∷ lines) ≡ false)
      → end_line_at old.line (fields_of text) ≡ Ok u → Takes old new (line_and text)
  takes_end u was is same off e = λ ring taken said so. (
    said,
    moved ring taken said old new same so,
    λ more. resumed ring old.stage Entries said old.line old.line (line_and text more) was refl ∙ end_step ring said old.line (fields_of text) more (Ok u) (off (lines_of more)) e ∙ resumed ring Over new.stage said (next_number old.line) new.line (lines_of more) (sym is) (sym line),
    ([], same.writers ∙ sym (append-nil old.writers)),
  )

  -- an entry
  pub takes_entry : (mid : Reader) → old.stage ≡ Entries → new.stage ≡ Entries → Same mid new → ((lines : List (List (List ℕ))) → begins_so goes_on (fields_of text ∷ lines) ≡ true)
      → TakesEntry old mid old.line (fields_of text) → Takes old new (line_and text)
  takes_entry mid was is same on entry = λ ring taken said so. (let t = entry ring taken said so in (
    said ++ t.0 ∷ [],
    moved ring taken (said ++ t.0 ∷ []) mid new same t.2,
    λ more. resumed ring old.stage Entries said old.line old.line (line_and text more) was refl
        ∙ entry_step ring said old.line (fields_of text) more t.0 (on (lines_of more)) (ap (λ (ns : List (List ℕ)). said_at ring [] ns old.line (fields_of text)) (sym so.writers_are) ∙ t.1)
        ∙ resumed ring Entries new.stage (said ++ t.0 ∷ []) (next_number old.line) new.line (lines_of more) (sym is) (sym line),
    (let g = names_grown old.writers t.0.0 in (g.0, same.writers ∙ t.2.writers_are ∙ writers_more [] said t.0 ∙ ap (λ (ns : List (List ℕ)). names_after ns t.0.0) (sym so.writers_are) ∙ g.1)),
  ))

module _ (old : Reader) (text : List ℕ) (e : Refusal) where
  pub refuses_first : old.stage ≡ First → header_at (codes "history") (codes "1") old.line (fields_of text) ≡ Err e → RefusesLine old text e
  refuses_first was is = λ ring taken said so. inl (λ more. resumed ring old.stage First said old.line old.line (line_and text more) was refl ∙ header_step ring said old.line (fields_of text) more (Err e) is)

  pub refuses_end : old.stage ≡ Entries → ((lines : List (List (List ℕ))) → begins_so goes_on (fields_of text ∷ lines) ≡ false) → end_line_at old.line (fields_of text) ≡ Err e → RefusesLine old text e
  refuses_end was off is = λ ring taken said so. inl (λ more. resumed ring old.stage Entries said old.line old.line (line_and text more) was refl ∙ end_step ring said old.line (fields_of text) more (Err e) (off (lines_of more)) is)

  pub refuses_over : old.stage ≡ Over → e ≡ BadLine old.line → RefusesLine old text e
  refuses_over was is = λ ring taken said so. inl (λ more. resumed ring old.stage Over said old.line old.line (line_and text more) was refl ∙ over_bad ring said old.line (fields_of text) more ∙ ap (λ (x : Refusal). Err x) (sym is))

  pub refuses_entry : old.stage ≡ Entries → ((lines : List (List (List ℕ))) → begins_so goes_on (fields_of text ∷ lines) ≡ true) → RefusesEntry old old.line (fields_of text) e → RefusesLine old text e
  refuses_entry was on bad = λ ring taken said so. by ring taken said so (bad ring taken said so)
    where
      by : (ring : RingValue) (taken : List Entry) (said : List SaidEntry) (so : IsReading ring taken said old)
          → (said_at ring [] old.writers old.line (fields_of text) ≡ Err e)
          ⊎ ((x : SaidEntry) × (said_at ring [] old.writers old.line (fields_of text) ≡ Ok x) × (e ≡ TooLarge old.line) × IsTooMany said x)
          → ((more : List ℕ) → read_by ring old said (line_and text more) ≡ Err e)
          ⊎ ((x : SaidEntry) × (e ≡ TooLarge old.line) × (old.stage ≡ Entries) × IsTooMany said x
          × ((more : List ℕ) → read_by ring old said (line_and text more) ≡ read_from ring (record { stage = Entries; said = said ++ x ∷ []; line = next_number old.line }) more))
      by ring taken said so (inl f) = inl (λ more. resumed ring old.stage Entries said old.line old.line (line_and text more) was refl
          ∙ entry_bad ring said old.line (fields_of text) more e (on (lines_of more)) (ap (λ (ns : List (List ℕ)). said_at ring [] ns old.line (fields_of text)) (sym so.writers_are) ∙ f))
      by ring taken said so (inr (x, read, large, many)) = inr (
        x,
        large,
        was,
        many,
        λ more. resumed ring old.stage Entries said old.line old.line (line_and text more) was refl
            ∙ entry_step ring said old.line (fields_of text) more x (on (lines_of more)) (ap (λ (ns : List (List ℕ)). said_at ring [] ns old.line (fields_of text)) (sym so.writers_are) ∙ read),
      )

-- ---- whether a line is an entry's

pub goes : (text : List ℕ) → ((x : List ℕ) (xs : List (List ℕ)) → fields_of text ≡ x ∷ xs → bytes_eq x (codes "end") ≡ false) → (lines : List (List (List ℕ))) → begins_so goes_on (fields_of text ∷ lines) ≡ true
goes text other lines =
    let s = first_part (λ b. eqb b 32) text in
    ap (λ (fs : List (List ℕ)). begins_so goes_on (fs ∷ lines)) s.2 ∙ ap (λ (b : Bool). not b) (other s.0 s.1 s.2)

pub stops : (text : List ℕ) (rest : List (List ℕ)) → fields_of text ≡ codes "end" ∷ rest → (lines : List (List (List ℕ))) → begins_so goes_on (fields_of text ∷ lines) ≡ false
stops text rest e lines = ap (λ (fs : List (List ℕ)). begins_so goes_on (fs ∷ lines)) e

-- ---- line after line

-- a line and what follows it
line_ends : (xs more : List ℕ) (i : ℕ) → i < length xs → ((k : ℕ) → k < i → eqb (get_or xs k 0) 10 ≡ false) → eqb (get_or xs i 0) 10 ≡ true
    → slice_split (λ b. eqb b 10) (take (suc i) xs ++ more) ≡ take i xs ∷ slice_split (λ b. eqb b 10) more
line_ends [] more i lt before is = absurd (omega arith)
line_ends (x ∷ xs) more zero lt before is = slice_split-cons_yes (λ b. eqb b 10) x more is
line_ends (x ∷ xs) more (suc i) lt before is =
    slice_split-cons_no (λ b. eqb b 10) x (take (suc i) xs ++ more) (before 0 (omega arith))
    ∙ ap (onto_first x) (line_ends xs more i (omega arith) (λ k h. before (suc k) (omega arith)) is)

-- ---- what is handed on

pub if_err : {A : Type 0} (r : Result A Refusal) (e : Refusal) (P : Refusal → Type 0) → IsErrAnd r (λ x. x ≡ e) → P e → IfErr r P
if_err (Ok x) e P is p = tt
if_err (Err y) e P is p = subst P (sym is) p

-- the last line, or what is none
module _ (old new : Reader) (text : List ℕ) (rest : List (List ℕ)) (was : old.stage ≡ Entries) (first : fields_of text ≡ codes "end" ∷ rest) where
  pub end_ok : (r : Result (Unit {0}) Refusal) → end_line_at old.line (fields_of text) ≡ r → OnOk r (new ≡ record old { stage = Over; line = next_number old.line }) → OnOk r (Takes old new (line_and text))
  end_ok (Ok u) e is =
      takes_end old new text (ap (λ (r : Reader). r.line) is) u was (ap (λ (r : Reader). r.stage) is)
      (record { ring = ap (λ (r : Reader). r.ring.now) is; writers = ap (λ (r : Reader). r.writers) is; started = ap (λ (r : Reader). r.started) is; entries = ap (λ (r : Reader). r.entries.items) is }) (stops text rest first) e
  end_ok (Err x) e is = tt

  pub end_err : (r : Result (Unit {0}) Refusal) → end_line_at old.line (fields_of text) ≡ r → IfErr r (λ e. e ≢ OutOfMemory → RefusesLine old text e)
  end_err (Ok u) e = tt
  end_err (Err x) e = λ ne. refuses_end old text x was (stops text rest first) e

-- an entry, given by its fields
module _ (old : Reader) (text : List ℕ) (k : ℕ) (fs : List (List ℕ)) (k_is : k ≡ old.line) (fs_is : fs ≡ fields_of text) (was : old.stage ≡ Entries)
    (on : (lines : List (List (List ℕ))) → begins_so goes_on (fields_of text ∷ lines) ≡ true) where
  pub next_err : (e : Refusal) → RefusesEntry old k fs e → RefusesLine old text e
  next_err e bad = refuses_entry old text e was on (subst (λ (z : List (List ℕ)). RefusesEntry old old.line z e) fs_is (subst (λ (j : ℕ). RefusesEntry old j fs e) k_is bad))

  pub next_ok : (mid new : Reader) → new.line ≡ next_number old.line → new.stage ≡ Entries → Same mid new → TakesEntry old mid k fs → Takes old new (line_and text)
  next_ok mid new line is same taken = takes_entry old new text line mid was is same on (subst (λ (z : List (List ℕ)). TakesEntry old mid old.line z) fs_is (subst (λ (j : ℕ). TakesEntry old mid j fs) k_is taken))

-- the next line of what is left
module _ (a b : Reader) (bytes h line : List ℕ) (taken i n : ℕ) (h_is : h ≡ drop taken bytes) (lt : i < length h) (before : (k : ℕ) → k < i → eqb (get_or h k 0) 10 ≡ false) (is : eqb (get_or h i 0) 10 ≡ true)
    (n_is : n ≡ i) (line_is : line ≡ take n (drop taken bytes)) (first : Takes a b (lines_and (take taken bytes))) where
  here : line ≡ take i h
  here = line_is ∙ (λ j. take (n_is j) (sym h_is j))

  -- with its last byte
  abbrev ended : List ℕ
  ended = take (i + 1) h

  more_by_one : i + 1 ≡ suc i
  more_by_one = omega arith

  ends : (more : List ℕ) → lines_and ended more ≡ line_and line more
  ends more = ap (λ (k : ℕ). lines_and (take k h) more) more_by_one ∙ ap (map fields_of) (line_ends h more i lt before is) ∙ ap (λ (z : List ℕ). line_and z more) (sym here)

  all : take taken bytes ++ ended ≡ take (taken + (i + 1)) bytes
  all = ap (λ (z : List ℕ). take taken bytes ++ take (i + 1) z) h_is ∙ sym (take-add taken (i + 1) bytes)

  pub lines_more : (c : Reader) → Takes b c (line_and line) → Takes a c (lines_and (take (taken + (i + 1)) bytes))
  lines_more c second = subst (λ (z : List ℕ). Takes a c (lines_and z)) all (takes_both a b c (take taken bytes) ended first (λ ring gone said so. (
      let t = second ring gone said so in
      (t.0, t.1, (λ more. ap (read_by ring b said) (ends more) ∙ t.2 more), t.3))))

  rest : bytes ≡ take taken bytes ++ (ended ++ drop (i + 1) h)
  rest = sym (take-append-drop taken bytes) ∙ ap (λ (z : List ℕ). take taken bytes ++ z) (sym h_is ∙ sym (take-append-drop (i + 1) h))

  -- the next line is refused, whatever follows
  stops_here : (e : Refusal) (ring : RingValue) (said : List SaidEntry) (more : List ℕ)
      → ((u : List ℕ) → read_by ring b said (line_and line u) ≡ Err e)
      ⊎ ((x : SaidEntry) × (e ≡ TooLarge b.line) × (b.stage ≡ Entries) × IsTooMany said x
      × ((u : List ℕ) → read_by ring b said (line_and line u) ≡ read_from ring (record { stage = Entries; said = said ++ x ∷ []; line = next_number b.line }) u))
      → Stops ring (point_of b said) ((ended ++ drop (i + 1) h) ++ more) e
  stops_here e ring said more (inl f) = inl (ap (read_from ring (point_of b said)) (append_assoc ended (drop (i + 1) h) more) ∙ ap (read_by ring b said) (ends (drop (i + 1) h ++ more)) ∙ f (drop (i + 1) h ++ more))
  stops_here e ring said more (inr (x, large, was, many, f)) = inr (
    b.line,
    large,
    inr (record {
      before = [];
      line = ended;
      behind = drop (i + 1) h ++ more;
      whole = append_assoc ended (drop (i + 1) h) more;
      said = said;
      last = x;
      read = λ u. resumed ring b.stage Entries said b.line b.line (lines_of u) was refl;
      one_more = λ u. ap (read_by ring b said) (ends u) ∙ f u;
      many = many;
    }),
  )

  pub lines_stop : (c : Reader) (e : Refusal) → IsHeld b c → RefusesLine b line e → Refuses a c bytes e
  lines_stop c e kept bad = λ ring gone said so. (
      let t = first ring gone said so in
      record {
        done = take taken bytes;
        rest = ended ++ drop (i + 1) h;
        whole = rest;
        to = point_of b t.0;
        read = t.2;
        stage_is = sym kept.stage;
        entries_are = t.1.entries_are ∙ ap (λ (es : List Entry). gone ++ es) (sym kept.entries);
        stops = λ more. stops_here e ring t.0 more (bad ring gone t.0 t.1);
      })
