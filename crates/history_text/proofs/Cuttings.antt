-- A history that is cut grows by an entry.
use Rattle.std.proofs.Common.{◌≡◌, ℕ, ◌+◌, Bool, true, false, cond, List, [], ◌∷◌, ◌++◌, length, length-append, Option, Some, None, refl, sym, ap, subst, ◌∙◌, append_assoc, append-nil, arith}
use Rattle.std.specs.Prelude.{MatchOption, is_some, option_to_list, codes}
use Rattle.std.specs.List.{AllByRecursion, flat_map, join_with_byte}
use Rattle.std.proofs.lemmas.Grind.{flat_map-append}
use Rattle.std.proofs.lemmas.List.Concat.{flat_map-cons}
use Rattle.ring_table.specs.Value.{RingValue, names_of}
use Rattle.plan_runs.specs.declared.event.Event.{Event}
use Rattle.plan_runs.specs.declared.event.Event.TheVariants.{StartPut, StartGet}
use Rattle.plan_runs.specs.declared.event.Entry.{Entry}
use Rattle.plan_runs.specs.Replies.{reply_text}
use Rattle.script_text.specs.Valid.{IsKnown}
use Rattle.script_text.proofs.SightLaws.{fields-more}
use Rattle.history_text.specs.Spelling.{entry_line}
use Rattle.history_laws.specs.Parts.{puts_after, gets_after, event_in, reply_in, is_kept, entry_in, all_puts, all_gets, part_of, or_none, is_marked}
use Rattle.history_laws.specs.Cuts.{CutValue, after_event, entry_next}
use Rattle.history_laws.proofs.Cutting.{gets_more, part_more, puts_more}
use Rattle.history_text.specs.declared.cutter.Kept.{Kept}
use Rattle.history_text.specs.declared.room.PartText.{PartText}
use Rattle.history_text.specs.Place.{Finds, FindsMore}
use Rattle.history_text.specs.Room.{Holds}
use Rattle.history_text.specs.declared.cutter.Cutter.{Cutter}
use Rattle.history_text.specs.declared.reader.Reader.{Reader}
use Rattle.history_text.specs.StreamReading.{entries_behind, read_from}
use Rattle.history_text.specs.State.{Counted, is_start, started, IsEmptied, IsKnownIn, TakesSome}
use Rattle.history_text.specs.Cutter.{Begun, IsKept, CutsOne, CutsMany, CutsSome, HasRoom}
use Rattle.history_text.proofs.Readings.{emptied_reading, started_more}

module _ (ring : RingValue) (f : ℕ → Bool) where
  pub start_counts : (ps gs : List Bool) (e : Event) → length (puts_after ring f ps e) + length (gets_after ring f gs e) ≡ length ps + length gs + cond {A = ℕ} (is_start e) 1 0
  start_counts ps gs (StartPut w k v s) = omega (arith, length-append {A = Bool})
  start_counts ps gs (StartGet k) = omega (arith, length-append {A = Bool})
  start_counts ps gs e = omega arith

-- ---- whom an entry of the part names

event_known : (a b : ℕ) (ps gs : List Bool) (e : Event) → IsKnown a b e → IsKnown a b (event_in ps gs e)
event_known a b ps gs (StartPut w k v s) p = p
event_known a b ps gs e p = p

kept_known : (ring : RingValue) (f : ℕ → Bool) (ps gs : List Bool) (a b : ℕ) (e y : Entry) → entry_in ring f ps gs e ≡ Some y → IsKnown a b e.event → IsKnown a b y.event
kept_known ring f ps gs a b e y h p = by (is_kept ring f ps gs e.event) h
  where
    cut : Entry
    cut = record { event = event_in ps gs e.event; reply = reply_in (puts_after ring f ps e.event) (gets_after ring f gs e.event) e.reply }

    by : (t : Bool) → cond t (Some cut) None ≡ Some y → IsKnown a b y.event
    by true i = (let same : cut ≡ y = cc in subst (λ (z : Entry). IsKnown a b z.event) same (event_known a b ps gs e.event p))
    by false i = absurd cc

-- its line is the same with more writers
line_same : (nodes names more : List (List ℕ)) (a : ℕ) (y : Entry) → IsKnown a (length names) y.event → entry_line nodes names y ≡ entry_line nodes (names ++ more) y
line_same nodes names more a y p =
    ap (λ (fs : List (List ℕ)). join_with_byte 32 fs ++ codes " = " ++ reply_text y.reply ++ 10 ∷ []) (sym (fields-more nodes names more a y.event p))

-- ---- the text grows

text_more : (line : Entry → List ℕ) (front : List ℕ) (part : List Entry) (y : Entry) → (front ++ flat_map line part) ++ line y ≡ front ++ flat_map line (part ++ y ∷ [])
text_more line front part y =
    append_assoc front (flat_map line part) (line y)
    ∙ ap (λ (t : List ℕ). front ++ t) (ap (λ (t : List ℕ). flat_map line part ++ t) (sym (flat_map-cons line y [] ∙ append-nil (line y))) ∙ sym (flat_map-append line part (y ∷ [])))

module _ (nodes now more : List (List ℕ)) (a : ℕ) (front : List ℕ) (base : List Entry) (mid new : PartText) where
  abbrev line : Entry → List ℕ
  line = entry_line nodes (now ++ more)

  room_more : (o : Option Entry) → ((y : Entry) → o ≡ Some y → IsKnown a (length now) y.event) → Holds mid (front ++ flat_map line base) (length base)
      → MatchOption o (new ≡ mid) (λ y. (t : List ℕ) (n : ℕ) → Holds mid t n → Holds new (t ++ entry_line nodes now y) (n + 1))
      → Holds new (front ++ flat_map line (base ++ option_to_list o)) (length (base ++ option_to_list o))
  room_more None known h m = rw (append-nil base) (subst (λ (p : PartText). Holds p (front ++ flat_map line base) (length base)) (sym m) h)
  room_more (Some y) known h m =
      let got = m (front ++ flat_map line base) (length base) h in
      let text : (front ++ flat_map line base) ++ entry_line nodes now y ≡ front ++ flat_map line (base ++ y ∷ []) =
      ap (λ (t : List ℕ). (front ++ flat_map line base) ++ t) (line_same nodes now more a y (known y refl)) ∙ text_more line front base y in
      let count : length base + 1 ≡ length (base ++ y ∷ []) = omega (arith, length-append base (y ∷ [])) in
      subst (λ (n : ℕ). Holds new (front ++ flat_map line (base ++ y ∷ [])) n) count (subst (λ (t : List ℕ). Holds new t (length base + 1)) text got)

-- ---- after an entry

module _ (ring : RingValue) (marks : List Bool) (front : Begun) (es : List Entry) (writers : List (List ℕ)) (old new : Kept) (entry : Entry)
    (so : IsKept ring marks front es writers old) (known : IsKnownIn ring writers entry) (cuts : CutsOne old new ring writers entry) where
  abbrev is_in : ℕ → Bool
  is_in = is_marked marks

  abbrev ps : List Bool
  ps = all_puts ring (or_none ring is_in) [] es

  abbrev gs : List Bool
  gs = all_gets ring (or_none ring is_in) [] es

  abbrev after : List Entry → CutValue
  after entries = record { ring = ring; partitions = marks; puts = all_puts ring (or_none ring is_in) [] entries; gets = all_gets ring (or_none ring is_in) [] entries }

  cut_on : new.cut ≡ after (es ++ entry ∷ [])
  cut_on =
      cuts.cut_is ∙ ap (λ (c : CutValue). after_event c entry.event) so.cut_is
      ∙ ap (λ (qs : List Bool). record { ring = ring; partitions = marks; puts = qs; gets = gets_after ring (or_none ring is_in) gs entry.event }) (sym (puts_more ring (or_none ring is_in) [] es entry))
      ∙ ap (λ (hs : List Bool). record { ring = ring; partitions = marks; puts = all_puts ring (or_none ring is_in) [] (es ++ entry ∷ []); gets = hs }) (sym (gets_more ring (or_none ring is_in) [] es entry))

  abbrev next : Option Entry
  next = entry_in ring (or_none ring is_in) ps gs entry

  next_is : entry_next old.cut entry ≡ next
  next_is = ap (λ (c : CutValue). entry_next c entry) so.cut_is

  known_next : (y : Entry) → next ≡ Some y → IsKnown (length (names_of ring)) (length writers) y.event
  known_next y h = kept_known ring (or_none ring is_in) ps gs (length (names_of ring)) (length writers) entry y h known

  part_on : (more : List (List ℕ)) → Holds new.part (front.text ++ flat_map (entry_line (names_of ring) (writers ++ more)) (part_of ring is_in (es ++ entry ∷ []))) (length (part_of ring is_in (es ++ entry ∷ [])))
  part_on more =
      let pushed : MatchOption next (new.part ≡ old.part) (λ y. (t : List ℕ) (n : ℕ) → Holds old.part t n → Holds new.part (t ++ entry_line (names_of ring) writers y) (n + 1)) =
      subst (λ (o : Option Entry). MatchOption o (new.part ≡ old.part) (λ y. (t : List ℕ) (n : ℕ) → Holds old.part t n → Holds new.part (t ++ entry_line (names_of ring) writers y) (n + 1))) next_is cuts.part_is in
      let parts : part_of ring is_in es ++ option_to_list next ≡ part_of ring is_in (es ++ entry ∷ []) = sym (part_more ring is_in es entry) in
      subst (λ (l : List Entry). Holds new.part (front.text ++ flat_map (entry_line (names_of ring) (writers ++ more)) l) (length l)) parts
      (room_more (names_of ring) writers more (length (names_of ring)) front.text (part_of ring is_in es) old.part new.part next known_next (so.part_is more) pushed)

  -- an entry of the part is one more
  sized : (o : Option Entry) (part : List Entry) → length (part ++ option_to_list o) ≡ length part + cond {A = ℕ} (is_some o) 1 0
  sized (Some y) part = length-append part (y ∷ [])
  sized None part = length-append part []

  place_on : Finds ring is_in (es ++ entry ∷ []) front.wanted new.place
  place_on =
      let more : FindsMore old.place new.place (is_some next) old.part.entries = subst (λ (o : Option Entry). FindsMore old.place new.place (is_some o) old.part.entries) next_is cuts.place_is in
      let size = ap (λ (l : List Entry). length l) (part_more ring is_in es entry) ∙ sized next (part_of ring is_in es) in
      more ring is_in es entry front.wanted so.place_is (so.part_is []).entries size

  pub kept_on : IsKept ring marks front (es ++ entry ∷ []) writers new
  kept_on = record { cut_is = cut_on; part_is = part_on; place_is = place_on }

-- ---- after entries

-- what entries do to the counts of puts and gets
one_counts : (old new : Kept) (ring : RingValue) (writers : List (List ℕ)) (x : Entry) → CutsOne old new ring writers x
    → length new.cut.puts + length new.cut.gets ≡ length old.cut.puts + length old.cut.gets + cond {A = ℕ} (is_start x.event) 1 0
one_counts old new ring writers x one =
    let puts = ap (λ (c : CutValue). length c.puts) one.cut_is in
    let gets = ap (λ (c : CutValue). length c.gets) one.cut_is in
    let counts = start_counts old.cut.ring (or_none old.cut.ring (is_marked old.cut.partitions)) old.cut.puts old.cut.gets x.event in
    omega arith

all_split : {A : Type 0} (P : A → Type 0) (xs ys : List A) → AllByRecursion P (xs ++ ys) → AllByRecursion P xs × AllByRecursion P ys
all_split P [] ys all = (tt, all)
all_split P (x ∷ xs) ys all = (let rest = all_split P xs ys all.1 in ((all.0, rest.0), rest.1))

pub many_more : (first mid new : Kept) (ring : RingValue) (writers : List (List ℕ)) (xs : List Entry) (x : Entry) → CutsMany first mid ring writers xs → CutsOne mid new ring writers x → CutsMany first new ring writers (xs ++ x ∷ [])
many_more first mid new ring writers xs x many one = record {
  counts = (let a = many.counts in let b = one_counts mid new ring writers x one in let c = started_more xs x in omega arith);
  cuts = λ marks front before known so. (
      let both = all_split (IsKnownIn ring writers) xs (x ∷ []) known in
      subst (λ (es : List Entry). IsKept ring marks front es writers new) (append_assoc before xs (x ∷ []))
      (kept_on ring marks front (before ++ xs) writers mid new x (many.cuts marks front before both.0 so) both.1.0 one));
}

-- ---- lines that were read are cut

-- later writers spell the part so too
later : (ring : RingValue) (marks : List Bool) (front : Begun) (es : List Entry) (writers more : List (List ℕ)) (k : Kept) → IsKept ring marks front es writers k → IsKept ring marks front es (writers ++ more) k
later ring marks front es writers more k so = record {
  cut_is = so.cut_is;
  part_is = λ next. subst (λ (ns : List (List ℕ)). Holds k.part (front.text ++ flat_map (entry_line (names_of ring) ns) (part_of ring (is_marked marks) es)) (length (part_of ring (is_marked marks) es))) (sym (append_assoc writers more next)) (so.part_is (more ++ next));
  place_is = so.place_is;
}

-- the entries that a reader kept are cut, and it keeps none
pub cut_lines : (old new : Cutter) (mid : Reader) (bytes left : List ℕ) → TakesSome old.reader mid bytes left → CutsMany old.kept new.kept mid.ring.now mid.writers mid.entries.items → IsEmptied mid new.reader → CutsSome old new bytes left
cut_lines old new mid bytes left some many same = record {
  done = some.done;
  whole = some.whole;
  run = some.run;
  cuts = λ ring marks front said so. (
      let t = some.takes ring (entries_behind [] said) said so.reading in
      let here = later ring marks front (entries_behind [] said) old.reader.writers t.3.0 old.kept so.cut in
      let here = subst (λ (ns : List (List ℕ)). IsKept ring marks front (entries_behind [] said) ns old.kept) (sym t.3.1) here in
      let many = subst (λ (r : RingValue). CutsMany old.kept new.kept r mid.writers mid.entries.items) t.1.ring_is many in
      let next = many.cuts marks front (entries_behind [] said) t.1.known here in
      let next = subst (λ (es : List Entry). IsKept ring marks front es mid.writers new.kept) (sym t.1.entries_are) next in (
        t.0,
        record { reading = emptied_reading ring (entries_behind [] said) t.0 mid new.reader same t.1; cut = subst (λ (ns : List (List ℕ)). IsKept ring marks front (entries_behind [] t.0) ns new.kept) (sym same.writers) next },
        λ more. t.2 more ∙ (λ i. read_from ring (record { stage = sym same.stage i; said = t.0; line = sym same.line i }) more),
      ));
}

-- what was taken is what is cut
pub counted_first : (c : Cutter) → HasRoom c → Counted (length c.kept.cut.puts + length c.kept.cut.gets) c.reader
counted_first c room = record { same = (let none = ap started room.none in let same = room.same in omega arith); few = room.few }
