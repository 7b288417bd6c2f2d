-- An input is read piece by piece.
use Rattle.std.proofs.Common.{◌≡◌, ℕ, ◌<◌, Bool, true, false, cond, eqb, List, suc, get_or, [], ◌∷◌, ◌++◌, length, map, take, drop, Option, Some, None, Result, Ok, Err, IsErrAnd, refl, sym, ap, subst, ◌∙◌, append_assoc, append-nil, take-append-drop, arith, inl, inr}
use Rattle.std.specs.Prelude.{◌≢◌}
use Rattle.std.specs.Io.KnownBytes.{Consumes, IsAtEnd}
use Rattle.std.proofs.KnownBytes.{Consumes-nil, Consumes-trans}
use Rattle.std.proofs.lemmas.List.Elements.{All-from_recursion}
use Rattle.std.proofs.lemmas.List.Splits.{slice_split_none}
use Rattle.ring_names.specs.declared.refusal.Refusal.{Refusal}
use Rattle.ring_names.specs.declared.refusal.Refusal.TheVariants.{BadLine, OutOfMemory, ReadFailed, TooLarge}
use Rattle.texts.specs.Judging.{map_ok}
use Rattle.texts.specs.Parts.{fields_of, lines_of}
use Rattle.texts.specs.Left.{Left, ◌>>=◌, begins_so, next_number, one_line, over_at}
use Rattle.texts.specs.Frames.{end_line_at}
use Rattle.texts.proofs.Cuts.{over}
use Rattle.texts.proofs.Texts.{appended}
use Rattle.ring_table.specs.Value.{RingValue}
use Rattle.plan_runs.specs.declared.event.Entry.{Entry}
use Rattle.history_text.specs.Said.{SaidEntry}
use Rattle.history_text.specs.declared.cutter.Cutter.{Cutter}
use Rattle.history_text.specs.declared.reader.Reader.{Reader}
use Rattle.history_text.specs.declared.reader.Stage.TheVariants.{First, Entries, Over}
use Rattle.history_text.specs.Input.{Tells, IsOutside, IsNext, max_input}
use Rattle.history_text.specs.StreamReading.{IsReadTo, Point, goes_on, read_from, rest_at, resume_at}
use Rattle.history_text.specs.State.{IsRun, Refuses, Stops, StopsAfter, Takes, TakesSome, lines_and, point_of}
use Rattle.history_text.specs.Cutter.{Begun, Cuts, CutsSome, IsCutting}
use Rattle.history_text.proofs.Inputs.{same_end}
use Rattle.history_text.specs.Cutting.{ReadsAll}

abbrev at : ℕ → List (List (List ℕ)) → Left
at k lines = record { line = k; lines = lines }

-- ---- runs

pub runs_on : (xs ys : List ℕ) → IsRun xs → IsRun ys → IsRun (xs ++ ys)
runs_on xs ys a b = appended (λ b. eqb b 10 ≡ false) xs ys a b

run_line : (xs : List ℕ) → IsRun xs → lines_of xs ≡ fields_of xs ∷ []
run_line xs r = ap (map fields_of) (slice_split_none (λ b. eqb b 10) xs (All-from_recursion (λ b. eqb b 10 ≡ false) xs r))

-- what is left is not a line
module _ (ring : RingValue) (said : List SaidEntry) (k : ℕ) (fields : List (List ℕ)) where
  pub unended_first : resume_at ring First said (at k (fields ∷ [])) ≡ Err (BadLine k)
  unended_first = refl

  pub unended_entries : resume_at ring Entries said (at k (fields ∷ [])) ≡ Err (BadLine k)
  unfolding rest_at
  unended_entries = by (begins_so goes_on (fields ∷ []))
    where
      by : (b : Bool) → ◌≡◌ {A = Result (List SaidEntry) Refusal}
          (◌>>=◌ {B = List SaidEntry} (cond {A = Result (List SaidEntry × Left) Refusal} b (Err (BadLine k)) (Ok (said, at k (fields ∷ [])))) (λ x. one_line end_line_at x.1 >>= λ y. over_at y.1 >>= λ _. Ok x.0)) (Err (BadLine k))
      by true = refl
      by false = refl

pub end_first : (ring : RingValue) (said : List SaidEntry) (k : ℕ) (left : List ℕ) → IsRun left → resume_at ring First said (at k (lines_of left)) ≡ Err (BadLine k)
end_first ring said k left r = ap (λ (ls : List (List (List ℕ))). resume_at ring First said (at k ls)) (run_line left r) ∙ unended_first ring said k (fields_of left)

pub end_entries : (ring : RingValue) (said : List SaidEntry) (k : ℕ) (left : List ℕ) → IsRun left → resume_at ring Entries said (at k (lines_of left)) ≡ Err (BadLine k)
end_entries ring said k left r = ap (λ (ls : List (List (List ℕ))). resume_at ring Entries said (at k ls)) (run_line left r) ∙ unended_entries ring said k (fields_of left)

pub end_over : (ring : RingValue) (said : List SaidEntry) (k : ℕ) (left : List ℕ) (b : Bool) → eqb (length left) 0 ≡ b → resume_at ring Over said (at k (lines_of left)) ≡ cond {A = Result (List SaidEntry) Refusal} b (Ok said) (Err (BadLine k))
end_over ring said k left b e = ap (λ (t : Bool). ◌>>=◌ {B = List SaidEntry} (cond {A = Result (Unit {0}) Refusal} t (Ok tt) (Err (BadLine k))) (λ _. Ok said)) (over left ∙ e) ∙ last b
  where
    last : (t : Bool) → ◌≡◌ {A = Result (List SaidEntry) Refusal} (◌>>=◌ {B = List SaidEntry} (cond {A = Result (Unit {0}) Refusal} t (Ok tt) (Err (BadLine k))) (λ _. Ok said)) (cond t (Ok said) (Err (BadLine k)))
    last true = refl
    last false = refl

-- ---- piece after piece

-- lines that are read after others are read with them
pub read_on : (ring : RingValue) (from to : Point) (xs : List ℕ) → IsReadTo ring from xs to → (zs : List ℕ) (q : Point) → IsReadTo ring to zs q → IsReadTo ring from (xs ++ zs) q
read_on ring from to xs on zs q f = λ more. ap (read_from ring from) (append_assoc xs zs more) ∙ on (zs ++ more) ∙ f more

-- what stops after lines that are read stops with them
module _ (ring : RingValue) (from to : Point) (xs ys : List ℕ) (e : Refusal) (on : IsReadTo ring from xs to) where
  whole_on : (b m r : List ℕ) → ys ≡ b ++ (m ++ r) → xs ++ ys ≡ (xs ++ b) ++ (m ++ r)
  whole_on b m r is = ap (λ (z : List ℕ). xs ++ z) is ∙ sym (append_assoc xs b (m ++ r))

  pub stops_on : Stops ring to ys e → Stops ring from (xs ++ ys) e
  stops_on (inl f) = inl (on ys ∙ f)
  stops_on (inr (k, large, inl h)) = inr (
    k,
    large,
    inl (record {
      before = xs ++ h.before;
      run = h.run;
      behind = h.behind;
      whole = whole_on h.before h.run h.behind h.whole;
      stage = h.stage;
      said = h.said;
      read = read_on ring from to xs on h.before (record { stage = h.stage; said = h.said; line = k }) h.read;
      is_run = h.is_run;
      long = h.long;
    }),
  )
  stops_on (inr (k, large, inr h)) = inr (
    k,
    large,
    inr (record {
      before = xs ++ h.before;
      line = h.line;
      behind = h.behind;
      whole = whole_on h.before h.line h.behind h.whole;
      said = h.said;
      last = h.last;
      read = read_on ring from to xs on h.before (record { stage = Entries; said = h.said; line = k }) h.read;
      one_more = subst (λ (z : List ℕ). IsReadTo ring from z (record { stage = Entries; said = h.said ++ h.last ∷ []; line = next_number k })) (sym (append_assoc xs h.before h.line))
          (read_on ring from to xs on (h.before ++ h.line) (record { stage = Entries; said = h.said ++ h.last ∷ []; line = next_number k }) h.one_more);
      many = h.many;
    }),
  )

-- of the whole text so far lines were read and cut, and this is left
pub record So (old now : Cutter) (whole left : List ℕ) : Type 0 where
  pub done : List ℕ
  pub split : whole ≡ done ++ left
  pub run : IsRun left
  pub cuts : Cuts old now done

pub so_none : (r : Cutter) → So r r [] []
so_none r = record { done = []; split = refl; run = tt; cuts = λ ring marks front said so. (said, so, λ more. refl) }

-- lines after others
pub takes_both : (old mid new : Reader) (xs ys : List ℕ) → Takes old mid (lines_and xs) → Takes mid new (lines_and ys) → Takes old new (lines_and (xs ++ ys))
takes_both old mid new xs ys first second = λ ring taken said so. (
    let a = first ring taken said so in
    let b = second ring taken a.0 a.1 in
    let writers = b.3.1 ∙ ap (λ (ns : List (List ℕ)). ns ++ b.3.0) a.3.1 ∙ append_assoc old.writers a.3.0 b.3.0 in
    (b.0, b.1, (λ u. ap (read_from ring (point_of old said)) (append_assoc xs ys u) ∙ a.2 (ys ++ u) ∙ b.2 u), (a.3.0 ++ b.3.0, writers)))

pub so_more : (old mid new : Cutter) (whole left more rest : List ℕ) → So old mid whole left → CutsSome mid new (left ++ more) rest → So old new (whole ++ more) rest
so_more old mid new whole left more rest s t = record {
  done = s.done ++ t.done;
  split = ap (λ (z : List ℕ). z ++ more) s.split ∙ append_assoc s.done left more ∙ ap (λ (z : List ℕ). s.done ++ z) t.whole ∙ sym (append_assoc s.done t.done rest);
  run = t.run;
  cuts = λ ring marks front said so. (
      let a = s.cuts ring marks front said so in
      let b = t.cuts ring marks front a.0 a.1 in
      (b.0, b.1, λ u. ap (read_from ring (point_of old.reader said)) (append_assoc s.done t.done u) ∙ a.2 (t.done ++ u) ∙ b.2 u));
}

-- what is refused after lines that were read refuses the whole, whatever follows
pub after_stops : (ring : RingValue) (from : Point) (bytes : List ℕ) (taken : List Entry) (new : Reader) (e : Refusal) → StopsAfter ring from bytes taken new e → (more : List ℕ) → Stops ring from (bytes ++ more) e
after_stops ring from bytes taken new e s more =
    let whole : bytes ++ more ≡ s.done ++ (s.rest ++ more) = ap (λ (z : List ℕ). z ++ more) s.whole ∙ append_assoc s.done s.rest more in
    subst (λ (z : List ℕ). Stops ring from z e) (sym whole) (stops_on ring from s.to s.done (s.rest ++ more) e s.read (s.stops more))

-- what refuses a piece refuses the text, whatever follows
pub so_stops : (old mid : Cutter) (last : Reader) (whole left more : List ℕ) (e : Refusal) → So old mid whole left → Refuses mid.reader last (left ++ more) e
    → (ring : RingValue) (marks : List Bool) (front : Begun) (said : List SaidEntry) → IsCutting ring marks front said old → (rest : List ℕ) → Stops ring (point_of old.reader said) ((whole ++ more) ++ rest) e
so_stops old mid last whole left more e s stop ring marks front said so rest =
    let a = s.cuts ring marks front said so in
    let here = after_stops ring (point_of mid.reader a.0) (left ++ more) _ last e (stop ring _ a.0 a.1.reading) rest in
    let same : (whole ++ more) ++ rest ≡ s.done ++ ((left ++ more) ++ rest) =
    ap (λ (z : List ℕ). z ++ rest) (ap (λ (z : List ℕ). z ++ more) s.split ∙ append_assoc s.done left more) ∙ append_assoc s.done (left ++ more) rest in
    subst (λ (z : List ℕ). Stops ring (point_of old.reader said) z e) (sym same) (stops_on ring (point_of old.reader said) (point_of mid.reader a.0) s.done ((left ++ more) ++ rest) e a.2 here)

-- a line that is too long is refused, whatever follows
pub too_long : (r : Reader) (bytes : List ℕ) → IsRun bytes → max_input < length bytes → Refuses r r bytes (TooLarge r.line)
too_long r bytes run long = λ ring taken said so. record {
  done = [];
  rest = bytes;
  whole = refl;
  to = point_of r said;
  read = λ more. refl;
  stage_is = refl;
  entries_are = so.entries_are;
  stops = λ more. inr (r.line, refl, inl (record { before = []; run = bytes; behind = more; whole = refl; stage = r.stage; said = said; read = λ u. refl; is_run = run; long = long }));
}

-- ---- the bytes that are told

pub record Told (first whole : List ℕ) (a b : Option (List ℕ)) : Type 0 where
  pub got : List ℕ
  pub whole_is : whole ≡ first ++ got
  pub told : Consumes a b got

pub told_none : (first : List ℕ) (a : Option (List ℕ)) → Told first first a a
told_none first a = record { got = []; whole_is = sym (append-nil first); told = Consumes-nil a }

pub told_more : (first whole more : List ℕ) (most : ℕ) (a b c : Option (List ℕ)) → Told first whole a b → IsNext b c most more → Told first (whole ++ more) a c
told_more first whole more most a b c t n = record {
  got = t.got ++ more;
  whole_is = ap (λ (z : List ℕ). z ++ more) t.whole_is ∙ append_assoc first t.got more;
  told = Consumes-trans a b c t.got more t.told n.bytes;
}

abbrev pub Rest : Option (List ℕ) → List ℕ → Type 0
Rest a got = (rest : List ℕ) × Tells a (got ++ rest)

pub told_rest : (a b : Option (List ℕ)) (got : List ℕ) → Consumes a b got → Rest a got
told_rest None b got p = ([], tt)
told_rest (Some x) None got p = absurd p
told_rest (Some x) (Some y) got p = (y, p)

pub told_all : (a b : Option (List ℕ)) (got : List ℕ) → Consumes a b got → IsAtEnd b → Tells a got
told_all None b got p end = tt
told_all (Some x) None got p end = absurd p
told_all (Some x) (Some y) got p end = p ∙ ap (λ (z : List ℕ). got ++ z) end ∙ append-nil got

pub told_any : (a : Option (List ℕ)) → (bs : List ℕ) × Tells a bs
told_any None = ([], tt)
told_any (Some x) = (x, refl)

-- ---- what comes of a history

abbrev pub Comes : Cutter → Cutter → List ℕ → Option (List ℕ) → Result (Unit {0}) Refusal → Type 0
Comes old new first a r = (more : List ℕ) × Tells a more × ReadsAll old new (first ++ more) r

pub outside : (old new : Cutter) (first : List ℕ) (a : Option (List ℕ)) (r : Result (Unit {0}) Refusal) (e : Refusal) → IsErrAnd r (λ x. x ≡ e) → IsOutside e → Comes old new first a r
outside old new first a (Ok u) e is out = absurd is
outside old new first a (Err x) e is (inl m) = (let t = told_any a in (t.0, t.1, λ ne nr. absurd (ne (is ∙ m))))
outside old new first a (Err x) e is (inr m) = (let t = told_any a in (t.0, t.1, λ ne nr. absurd (nr (is ∙ m))))

pub stopped : (old mid new : Cutter) (last : Reader) (first whole left more : List ℕ) (a b : Option (List ℕ)) (r : Result (Unit {0}) Refusal) (e : Refusal) → IsErrAnd r (λ x. x ≡ e) → So old mid whole left
    → (e ≢ OutOfMemory → Refuses mid.reader last (left ++ more) e) → Told first (whole ++ more) a b → Comes old new first a r
stopped old mid new last first whole left more a b (Ok u) e is s stop t = absurd is
stopped old mid new last first whole left more a b (Err x) e is s stop t =
    let rest = told_rest a b t.got t.told in
    let same : (whole ++ more) ++ rest.0 ≡ first ++ (t.got ++ rest.0) = ap (λ (z : List ℕ). z ++ rest.0) t.whole_is ∙ append_assoc first t.got rest.0 in (
      t.got ++ rest.0,
      rest.1,
      λ ne nr ring marks front said so. (
          let found = so_stops old mid last whole left more x s (subst (λ (z : Refusal). Refuses mid.reader last (left ++ more) z) (sym is) (stop (λ m. ne (is ∙ m)))) ring marks front said so rest.0 in
          subst (λ (z : List ℕ). Stops ring (point_of old.reader said) z x) same found
          ),
    )

pub at_end : (old now : Cutter) (first whole left : List ℕ) (a b : Option (List ℕ)) (r : Result (Unit {0}) Refusal) → So old now whole left → Told first whole a b → IsAtEnd b
    → ((ring : RingValue) (said : List SaidEntry) → map_ok (λ _. said) r ≡ resume_at ring now.reader.stage said (at now.reader.line (lines_of left))) → Comes old now first a r
at_end old now first whole left a b r s t end is = (t.got, told_all a b t.got t.told end, by r is)
  where
    same : (ring : RingValue) (marks : List Bool) (front : Begun) (said : List SaidEntry) (so : IsCutting ring marks front said old)
        → read_from ring (point_of old.reader said) (first ++ t.got) ≡ resume_at ring now.reader.stage (s.cuts ring marks front said so).0 (at now.reader.line (lines_of left))
    same ring marks front said so = ap (read_from ring (point_of old.reader said)) (sym t.whole_is ∙ s.split) ∙ (s.cuts ring marks front said so).2 left

    by : (z : Result (Unit {0}) Refusal) → ((ring : RingValue) (said : List SaidEntry) → map_ok (λ _. said) z ≡ resume_at ring now.reader.stage said (at now.reader.line (lines_of left))) → ReadsAll old now (first ++ t.got) z
    by (Ok u) f = λ ring marks front said so. (let x = s.cuts ring marks front said so in (x.0, x.1, same ring marks front said so ∙ sym (f ring x.0)))
    by (Err e) f = λ ne nr ring marks front said so. (let x = s.cuts ring marks front said so in inl (same ring marks front said so ∙ sym (f ring x.0)))

-- ---- as the code has them

pub run_is : (xs : List ℕ) → ((k : ℕ) → k < length xs → eqb (get_or xs k 0) 10 ≡ false) → IsRun xs
run_is [] h = tt
run_is (x ∷ xs) h = (h 0 (omega arith), run_is xs (λ k l. h (suc k) (omega arith)))

-- all lines that are ended were taken
pub left_taken : (old new : Reader) (bytes shown left : List ℕ) (n : ℕ) → shown ≡ bytes → Takes old new (lines_and (take n shown)) → IsRun (drop n shown) → left ≡ drop n shown → TakesSome old new bytes left
left_taken old new bytes shown left n same takes run is = record {
  done = take n shown;
  whole = sym same ∙ sym (take-append-drop n shown) ∙ ap (λ (z : List ℕ). take n shown ++ z) (sym is);
  run = subst IsRun (sym is) run;
  takes = takes;
}

-- there was no line to take
pub none_taken : (r : Reader) (bytes left : List ℕ) → left ≡ bytes → IsRun bytes → TakesSome r r bytes left
none_taken r bytes left is run = record {
  done = [];
  whole = sym is;
  run = subst IsRun (sym is) run;
  takes = λ ring taken said so. (said, so, (λ more. refl), ([], sym (append-nil r.writers)));
}

abbrev pub SoFar : Cutter → Cutter → List ℕ → List ℕ → Option (List ℕ) → Option (List ℕ) → Type 0
SoFar old now first left a b = (whole : List ℕ) × So old now whole left × Told first whole a b

pub first_stop : (old new : Cutter) (last : Reader) (first l m : List ℕ) (a : Option (List ℕ)) (r : Result (Unit {0}) Refusal) (e : Refusal) → IsErrAnd r (λ x. x ≡ e) → l ≡ [] → m ≡ first → (e ≢ OutOfMemory → Refuses old.reader last (l ++ m) e) → Comes old new first a r
first_stop old new last first l m a r e is p q stop = stopped old old new last first [] [] first a a r e is (so_none old) (λ ne. subst (λ (z : List ℕ). Refuses old.reader last z e) (λ i. p i ++ q i) (stop ne)) (told_none first a)

pub first_on : (old now : Cutter) (first l m left : List ℕ) (a : Option (List ℕ)) → l ≡ [] → m ≡ first → CutsSome old now (l ++ m) left → SoFar old now first left a a
first_on old now first l m left a p q t = (first, so_more old old now [] [] first left (so_none old) (subst (λ (z : List ℕ). CutsSome old now z left) (λ i. p i ++ q i) t), told_none first a)

pub more_stop : (old mid new : Cutter) (last : Reader) (first left m more : List ℕ) (most : ℕ) (a b c : Option (List ℕ)) (r : Result (Unit {0}) Refusal) (e : Refusal) → IsErrAnd r (λ x. x ≡ e) → SoFar old mid first left a b → m ≡ more → IsNext b c most more
    → (e ≢ OutOfMemory → Refuses mid.reader last (left ++ m) e) → Comes old new first a r
more_stop old mid new last first left m more most a b c r e is s same n stop =
    stopped old mid new last first s.0 left more a c r e is s.1 (λ ne. subst (λ (z : List ℕ). Refuses mid.reader last (left ++ z) e) same (stop ne)) (told_more first s.0 more most a b c s.2 n)

pub more_on : (old mid now : Cutter) (first left m more rest : List ℕ) (most : ℕ) (a b c : Option (List ℕ)) → SoFar old mid first left a b → m ≡ more → IsNext b c most more → CutsSome mid now (left ++ m) rest → SoFar old now first rest a c
more_on old mid now first left m more rest most a b c s same n t =
    (s.0 ++ more, so_more old mid now s.0 left more rest s.1 (subst (λ (z : List ℕ). CutsSome mid now (left ++ z) rest) same t), told_more first s.0 more most a b c s.2 n)

pub ends : (old now : Cutter) (first left shown more : List ℕ) (most : ℕ) (a b c : Option (List ℕ)) (r : Result (Unit {0}) Refusal) → SoFar old now first left a b → IsNext b c most more → length more ≡ 0 → shown ≡ left
    → ((ring : RingValue) (said : List SaidEntry) → map_ok (λ _. said) r ≡ resume_at ring now.reader.stage said (at now.reader.line (lines_of shown))) → Comes old now first a r
ends old now first left shown more most a b c r s n none same is =
    let t = told_more first s.0 more most a b c s.2 n in
    at_end old now first s.0 left a c r s.1 (subst (λ (z : List ℕ). Told first z a c) (same_end s.0 more none) t) (n.end none)
    (λ ring said. is ring said ∙ ap (λ (z : List ℕ). resume_at ring now.reader.stage said (at now.reader.line (lines_of z))) same)

pub failed_all : (old new : Cutter) (first : List ℕ) (a : Option (List ℕ)) → Comes old new first a (Err ReadFailed)
failed_all old new first a = (let t = told_any a in (t.0, t.1, λ ne nr. absurd (nr refl)))
