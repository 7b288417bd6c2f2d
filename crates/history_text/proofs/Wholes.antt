-- A bundle is read and cut from its front to its end.
use Rattle.std.proofs.Common.{◌≡◌, ◌⊎◌, ℕ, ◌+◌, ◌<◌, ◌≤◌, Bool, true, false, List, [], ◌∷◌, ◌++◌, length, take, drop, Option, Some, None, Result, Ok, Err, IfOk, IsErr, IsErrAnd, refl, sym, ap, subst, ◌∙◌, append_assoc, append-nil, arith, inl, inr}
use Rattle.std.specs.Prelude.{◌≢◌, codes}
use Rattle.std.specs.List.{flat_map}
use Rattle.std.specs.Io.KnownBytes.{Consumes}
use Rattle.ring_names.specs.declared.refusal.Refusal.{Refusal}
use Rattle.ring_names.specs.declared.refusal.Refusal.TheVariants.{OutOfMemory, ReadFailed, TooLarge}
use Rattle.texts.specs.Parts.{lines_of}
use Rattle.texts.specs.Left.{◌>>=◌}
use Rattle.ring_table.specs.Value.{RingValue, names_of}
use Rattle.ring_table.specs.Valid.{IsRing}
use Rattle.plan_runs.specs.declared.event.Entry.{Entry}
use Rattle.history_text.specs.Said.{SaidEntry}
use Rattle.history_text.specs.Spelling.{entry_line}
use Rattle.ring_names.specs.declared.choice.Choice.{Choice}
use Rattle.history_laws.specs.Choices.{is_chosen}
use Rattle.history_laws.specs.Cuts.{CutValue, first_cut}
use Rattle.history_laws.specs.Parts.{is_marked, part_of}
use Rattle.history_laws.proofs.Cutting.{part_same}
use Rattle.history_text.specs.declared.cutting.Part.{Part}
use Rattle.history_text.specs.declared.cutting.NoPart.{NoPart}
use Rattle.history_text.specs.declared.cutting.NoPart.TheVariants.{Refused, Large}
use Rattle.history_text.specs.declared.front.FrontText.{FrontText}
use Rattle.history_text.specs.declared.input.Head.{Head}
use Rattle.history_text.specs.declared.cutter.Cutter.{Cutter}
use Rattle.history_text.specs.declared.reader.Stage.TheVariants.{First}
use Rattle.history_text.specs.declared.cutting.Unended.{Unended}
use Rattle.history_text.specs.Input.{Tells, IsHead, max_input}
use Rattle.plan_cert.specs.declared.front.Front.{Front}
use Rattle.plan_cert.specs.Front.{front_at}
use Rattle.history_text.specs.Front.{front_text, IsFront}
use Rattle.history_text.specs.StreamReading.{Point, entries_behind, long_reading, read_from, resume_at, writers_behind}
use Rattle.history_text.specs.Place.{Finds, IsPlaceOf}
use Rattle.history_text.specs.Room.{Holds}
use Rattle.history_text.specs.State.{IsFirst, IsTooMuch, Stops, point_of}
use Rattle.history_text.specs.Cutter.{Begun, HasRoom, IsCutting}
use Rattle.history_text.proofs.Readings.{first_reading}
use Rattle.history_text.proofs.Pieces.{told_all, told_any, told_rest}
use Rattle.history_text.specs.Cutting.{HasNoFront, start_at, ReadsAll, CutsRest, CutsAll, HasNone, IsNoFront, IsPartOf, IsStart, chosen, part_text, begun_text, IsCut, IsCutOf}

-- ---- the partitions that are marked are those that are chosen

module _ (ring : RingValue) (choice : Choice) (marks : List Bool) (same : (p : ℕ) → p < ring.q → is_marked marks p ≡ is_chosen choice p) where
  pub place_same : (es : List Entry) (n : ℕ) (o : Option ℕ) → IsPlaceOf ring (is_marked marks) es n o → IsPlaceOf ring (is_chosen choice) es n o
  place_same es n None few = subst (λ (k : ℕ). k ≤ n) (ap (λ (l : List Entry). length l) (part_same ring choice marks same es)) few
  place_same es n (Some k) (p, is, at) =
      let of_front : (xs : List Entry) → length (part_of ring (is_chosen choice) xs) ≡ length (part_of ring (is_marked marks) xs) = λ xs. sym (ap (λ (l : List Entry). length l) (part_same ring choice marks same xs)) in
      (p, is, (at.0, of_front (take p es) ∙ at.1, of_front (take (p + 1) es) ∙ at.2))

-- ---- at the start

pub starts : (ring : RingValue) (marks : List Bool) (front : Begun) (line : ℕ) (c : Cutter) → IsRing ring → IsFirst ring line c.reader → c.kept.cut ≡ first_cut ring marks → Holds c.kept.part front.text 0 → Finds ring (is_marked marks) [] front.wanted c.kept.place
    → IsCutting ring marks front [] c
starts ring marks front line c valid first cut held found = record {
  reading = first_reading ring line c.reader valid first;
  cut = record {
    cut_is = cut;
    part_is = λ more. subst (λ (t : List ℕ). Holds c.kept.part t 0) (sym (append-nil front.text)) held;
    place_is = found;
  };
}

-- there is room at the start
pub start_room : (ring : RingValue) (marks : List Bool) (line : ℕ) (c : Cutter) → IsFirst ring line c.reader → c.kept.cut ≡ first_cut ring marks → HasRoom c
start_room ring marks line c first cut = record {
  none = first.no_entries;
  same = (let p = ap (λ (v : CutValue). length v.puts) cut in let g = ap (λ (v : CutValue). length v.gets) cut in let s = first.none_started in omega arith);
  few = (let s = first.none_started in omega arith);
}

-- ---- after the front

module _ (choice : Choice) (front : FrontText) (marks : List Bool) (same : (p : ℕ) → p < front.ring.q → is_marked marks p ≡ is_chosen choice p) (wanted : ℕ) (text : List ℕ) (old new : Cutter)
    (start : IsCutting front.ring marks (record { text = text; wanted = wanted }) [] old) (text_is : text ≡ front.text.items ++ codes "history 1\n") (stage : old.reader.stage ≡ First) (line : old.reader.line ≡ front.line) (bytes : List ℕ) where
  from_is : point_of old.reader [] ≡ start_at front.line
  from_is = λ i. record { stage = stage i; said = []; line = line i }

  abbrev begun : Begun
  begun = record { text = text; wanted = wanted }

  pub rest_ok : (u : Unit {0}) → ReadsAll old new bytes (Ok u) → CutsRest choice wanted front bytes (Ok (record { text = new.kept.part; place = new.kept.place.found }))
  rest_ok u all =
      let a = all front.ring marks begun [] start in
      let es = entries_behind [] a.0 in
      let line_of : List (List ℕ) → Entry → List ℕ = λ ns. entry_line (names_of front.ring) ns in
      let held = a.1.cut.part_is [] in
      let names : new.reader.writers ++ [] ≡ writers_behind [] a.0 = append-nil new.reader.writers ∙ a.1.reading.writers_are in
      let parts = part_same front.ring choice marks same es in
      let place = place_same front.ring choice marks same es wanted new.kept.place.found a.1.cut.place_is.found in
      let now : Holds new.kept.part (text ++ flat_map (entry_line (names_of front.ring) (writers_behind [] a.0)) (part_of front.ring (is_chosen choice) es)) (length (part_of front.ring (is_chosen choice) es)) =
      subst (λ (l : List Entry). Holds new.kept.part (text ++ flat_map (entry_line (names_of front.ring) (writers_behind [] a.0)) l) (length l)) parts
      (subst (λ (ns : List (List ℕ)). Holds new.kept.part (text ++ flat_map (entry_line (names_of front.ring) ns) (part_of front.ring (is_marked marks) es)) (length (part_of front.ring (is_marked marks) es))) names held) in
      let body = flat_map (entry_line (names_of front.ring) (writers_behind [] a.0)) (part_of front.ring (is_chosen choice) es) in
      let whole : text ++ body ≡ front.text.items ++ (codes "history 1\n" ++ body) = ap (λ (t : List ℕ). t ++ body) text_is ∙ append_assoc front.text.items (codes "history 1\n") body in
      (a.0, ap (λ (p : Point). read_from front.ring p bytes) (sym from_is) ∙ a.2, subst (λ (t : List ℕ). Holds new.kept.part t (length (part_of front.ring (is_chosen choice) es))) whole now, place)

  pub rest_err : (e : Refusal) → ReadsAll old new bytes (Err e) → CutsRest choice wanted front bytes (Err e)
  rest_err e all = λ ne nr. subst (λ (p : Point). Stops front.ring p bytes e) from_is (all ne nr front.ring marks begun [] start)

-- ---- from the first byte

drop_front : (xs ys : List ℕ) → drop (length xs) (xs ++ ys) ≡ ys
drop_front [] ys = refl
drop_front (x ∷ xs) ys = drop_front xs ys

module _ (head : List ℕ) (front : FrontText) (value : Front) (rest more : List ℕ) (is : IsFront head front value rest) where
  behind_is : drop (length (front_text value)) (head ++ more) ≡ rest ++ more
  behind_is = ap (λ (t : List ℕ). drop (length t) (head ++ more)) (sym is.text_is) ∙ ap (λ (t : List ℕ). drop (length front.text.items) t) (ap (λ (t : List ℕ). t ++ more) is.whole ∙ append_assoc front.text.items rest more) ∙ drop_front front.text.items (rest ++ more)

  -- reading goes on after the front
  reads_on : long_reading head (head ++ more) ≡ (resume_at front.ring First [] (record { line = front.line; lines = lines_of (rest ++ more) }) >>= λ said. Ok (value, said))
  unfolding long_reading
  reads_on =
      ap (λ r. r >>= λ x. resume_at x.0.ring First [] (record { line = x.1.line; lines = lines_of (drop (length (front_text x.0)) (head ++ more)) }) >>= λ said. Ok (x.0, said)) is.read
      ∙ (λ i. resume_at (sym is.ring_is i) First [] (record { line = front.line; lines = lines_of (behind_is i) }) >>= λ said. Ok (value, said))

  pub all_ok : (choice : Choice) (wanted : ℕ) (part : Unended) → CutsRest choice wanted front (rest ++ more) (Ok part)
      → (v : Front) × (said : List SaidEntry) × (long_reading head (head ++ more) ≡ Ok (v, said)) × Holds part.text (begun_text choice v said) (length (chosen choice v said))
      × IsPlaceOf v.ring (is_chosen choice) (entries_behind [] said) wanted part.place
  all_ok choice wanted part c =
      let ring_now : RingValue → Type 0 = λ r. Holds part.text (front.text.items ++ (codes "history 1\n" ++ flat_map (entry_line (names_of r) (writers_behind [] c.0)) (part_of r (is_chosen choice) (entries_behind [] c.0)))) (length (part_of r (is_chosen choice) (entries_behind [] c.0))) in
      let held = subst ring_now is.ring_is c.2 in
      let place = subst (λ (r : RingValue). IsPlaceOf r (is_chosen choice) (entries_behind [] c.0) wanted part.place) is.ring_is c.3 in (
        value,
        c.0,
        reads_on ∙ ap (λ (r : Result (List SaidEntry) Refusal). r >>= λ said. Ok (value, said)) c.1,
        subst (λ (t : List ℕ). Holds part.text (t ++ (codes "history 1\n" ++ flat_map (entry_line (names_of value.ring) (writers_behind [] c.0)) (chosen choice value c.0))) (length (chosen choice value c.0))) is.text_is held,
        place,
      )

  pub all_err : (choice : Choice) (wanted : ℕ) (e : Refusal) → Stops front.ring (start_at front.line) (rest ++ more) e → IsCutOf choice wanted head (head ++ more) (Err (Refused e))
  all_err choice wanted e (inl f) = inl (reads_on ∙ ap (λ (r : Result (List SaidEntry) Refusal). r >>= λ said. Ok (value, said)) f)
  all_err choice wanted e (inr (k, large, much)) =
      let after = subst (λ (z : List ℕ). IsTooMuch front.ring (start_at front.line) z k) (sym behind_is) much in
      inr (k, large, (value, _, is.read, subst (λ (r : RingValue). IsTooMuch r (start_at front.line) (drop (length (front_text value)) (head ++ more)) k) is.ring_is after))

-- ---- the last line

last_line : (choice : Choice) (v : Front) (said : List SaidEntry) → begun_text choice v said ++ codes "end\n" ≡ part_text choice v said
last_line choice v said =
    let body = flat_map (entry_line (names_of v.ring) (writers_behind [] said)) (chosen choice v said) in
    append_assoc (front_text v) (codes "history 1\n" ++ body) (codes "end\n") ∙ ap (λ (t : List ℕ). front_text v ++ t) (append_assoc (codes "history 1\n") body (codes "end\n"))

pub cut_ok : (choice : Choice) (wanted : ℕ) (bytes : List ℕ) (part : Unended) (r : Result Part NoPart) → CutsAll choice wanted bytes (Ok part) → ((t : List ℕ) (n : ℕ) → Holds part.text t n → IsPartOf (t ++ codes "end\n") n r)
    → IfOk r (λ p. p.place ≡ part.place) → IsCut choice wanted bytes r
cut_ok choice wanted bytes part r c made place = by r place (subst (λ (t : List ℕ). IsPartOf t (length (chosen choice c.2.0 c.2.1)) r) (last_line choice c.2.0 c.2.1) (made (begun_text choice c.2.0 c.2.1) (length (chosen choice c.2.0 c.2.1)) c.2.3))
  where
    by : (x : Result Part NoPart) → IfOk x (λ p. p.place ≡ part.place) → IsPartOf (part_text choice c.2.0 c.2.1) (length (chosen choice c.2.0 c.2.1)) x → IsCut choice wanted bytes x
    by (Ok p) at h = (c.0, c.1, (c.2.0, c.2.1, c.2.2, h, subst (λ (o : Option ℕ). IsPlaceOf c.2.0.ring (is_chosen choice) (entries_behind [] c.2.1) wanted o) (sym at) c.2.4))
    by (Err (Large n m)) at h = (c.0, c.1, (c.2.0, c.2.1, c.2.2, h))
    by (Err (Refused e)) at h = λ ne nr. absurd (ne h)

-- ---- as the code has them

pub no_memory : (choice : Choice) (wanted : ℕ) (front : FrontText) (first : List ℕ) (a : Option (List ℕ)) (r : Result Unended Refusal) → IsErr r × IsErrAnd r (λ e. e ≡ OutOfMemory) → (more : List ℕ) × Tells a more × CutsRest choice wanted front (first ++ more) r
no_memory choice wanted front first a (Ok p) (bad, is) = absurd cc
no_memory choice wanted front first a (Err e) (bad, is) = (let t = told_any a in (t.0, t.1, λ ne nr. absurd (ne is)))

pub handed_rest : (choice : Choice) (wanted : ℕ) (front : FrontText) (bytes : List ℕ) (r : Result Unended Refusal) (e : Refusal) → IsErrAnd r (λ x. x ≡ e) → CutsRest choice wanted front bytes (Err e) → CutsRest choice wanted front bytes r
handed_rest choice wanted front bytes (Ok p) e is c = absurd is
handed_rest choice wanted front bytes (Err x) e is c = subst (λ (z : Refusal). CutsRest choice wanted front bytes (Err z)) (sym is) c

abbrev pub CutsInput : Choice → ℕ → Option (List ℕ) → Result Unended Refusal → Type 0
CutsInput choice wanted a r = (bytes : List ℕ) × Tells a bytes × CutsAll choice wanted bytes r

pub no_memory_all : (choice : Choice) (wanted : ℕ) (a : Option (List ℕ)) (r : Result Unended Refusal) → IsErr r × IsErrAnd r (λ e. e ≡ OutOfMemory) → CutsInput choice wanted a r
no_memory_all choice wanted a (Ok p) (bad, is) = absurd cc
no_memory_all choice wanted a (Err e) (bad, is) = (let t = told_any a in (t.0, t.1, λ ne nr. absurd (ne is)))

-- ---- an input

tells_both : (a b : Option (List ℕ)) (front more : List ℕ) → Consumes a b front → Tells b more → Tells a (front ++ more)
tells_both None b front more p q = tt
tells_both (Some x) None front more p q = absurd p
tells_both (Some x) (Some y) front more p q = p ∙ ap (λ (z : List ℕ). front ++ z) q

-- the history after its front
pub whole_input : (choice : Choice) (wanted : ℕ) (a b : Option (List ℕ)) (head : Head) (front : FrontText) (value : Front) (rest first more : List ℕ) (r : Result Unended Refusal) (most : ℕ) → IsHead a b most head → IsFront head.bytes.items front value rest
    → first ≡ rest → Tells b more → CutsRest choice wanted front (first ++ more) r → CutsInput choice wanted a r
whole_input choice wanted a b head front value rest first more r most h is same t c =
    (head.bytes.items ++ more, tells_both a b head.bytes.items more h.bytes t, by r (subst (λ (z : List ℕ). CutsRest choice wanted front (z ++ more) r) same c))
  where
    start : IsStart head.bytes.items (head.bytes.items ++ more)
    start = record { rest = more; whole = refl; front = inr (_, is.read) }

    by : (z : Result Unended Refusal) → CutsRest choice wanted front (rest ++ more) z → CutsAll choice wanted (head.bytes.items ++ more) z
    by (Ok part) d = (head.bytes.items, start, all_ok head.bytes.items front value rest more is choice wanted part d)
    by (Err e) d = λ ne nr. inl (head.bytes.items, start, all_err head.bytes.items front value rest more is choice wanted e (d ne nr))

no_reading : (head bytes : List ℕ) (e : Refusal) → front_at (record { line = 1; lines = lines_of head }) ≡ Err e → long_reading head bytes ≡ Err e
unfolding long_reading
no_reading head bytes e f = rw f refl

-- there is no front
module _ (choice : Choice) (wanted : ℕ) (a b : Option (List ℕ)) where
  none_read : (most : ℕ) (head : Head) (e : Refusal) → IsHead a b most head → IsNoFront head e → (head.is_whole ≡ false → most ≡ max_input) → CutsInput choice wanted a (Err e)
  none_read most head e h f long = by head.is_whole refl
    where
      by : (w : Bool) → head.is_whole ≡ w → CutsInput choice wanted a (Err e)
      by true w = (head.bytes.items, told_all a b head.bytes.items h.bytes (h.whole w), λ ne nr. found f)
        where
          found : IsNoFront head e → ((s : List ℕ) × IsStart s head.bytes.items × IsCutOf choice wanted s head.bytes.items (Err (Refused e))) ⊎ ((e ≡ TooLarge 0) × HasNoFront head.bytes.items)
          found (inl g) = inl (head.bytes.items, record { rest = []; whole = sym (append-nil head.bytes.items); front = inl refl }, inl (no_reading head.bytes.items head.bytes.items e g.1))
          found (inr g) = (let bad : true ≡ false = sym w ∙ g.1 in absurd cc)
      by false w = (let t = told_rest a b head.bytes.items h.bytes in (head.bytes.items ++ t.0, t.1, λ ne nr. found t.0 f))
        where
          found : (rest : List ℕ) → IsNoFront head e → ((s : List ℕ) × IsStart s (head.bytes.items ++ rest) × IsCutOf choice wanted s (head.bytes.items ++ rest) (Err (Refused e))) ⊎ ((e ≡ TooLarge 0) × HasNoFront (head.bytes.items ++ rest))
          found rest (inl g) = (let bad : true ≡ false = sym g.0 ∙ w in absurd cc)
          found rest (inr g) = inr (g.0, record { head = head.bytes.items; rest = rest; whole = refl; long = h.long w ∙ long w; fault = g.2.0; is = g.2.1 })

  by_kind : (e : Refusal) → (e ≢ OutOfMemory → e ≢ ReadFailed → HasNone a b e) → CutsInput choice wanted a (Err e)
  by_kind OutOfMemory f = (let t = told_any a in (t.0, t.1, λ ne nr. absurd (ne refl)))
  by_kind ReadFailed f = (let t = told_any a in (t.0, t.1, λ ne nr. absurd (nr refl)))
  by_kind e f = (let n = f (λ same. absurd cc) (λ same. absurd cc) in none_read n.0 n.1 e n.2 n.3 n.4)

  pub no_front : (r : Result Unended Refusal) (e : Refusal) → IsErrAnd r (λ x. x ≡ e) → (e ≢ OutOfMemory → e ≢ ReadFailed → HasNone a b e) → CutsInput choice wanted a r
  no_front (Ok p) e is f = absurd is
  no_front (Err x) e is f = subst (λ (z : Refusal). CutsInput choice wanted a (Err z)) (sym is) (by_kind e f)

-- what is after the front of the first bytes
pub behind_front : (head : List ℕ) (front : FrontText) (value : Front) (rest : List ℕ) (n : ℕ) → IsFront head front value rest → n ≡ length front.text.items → drop n head ≡ rest
behind_front head front value rest n is n_is = (λ i. drop (n_is i) (is.whole i)) ∙ drop_front front.text.items rest
