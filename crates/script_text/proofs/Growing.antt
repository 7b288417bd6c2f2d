-- One section: lines up to `end`, each read in the state that the lines before made. Also some forms of fields.
use Rattle.std.proofs.Common.{◌≡◌, ℕ, ◌+◌, ◌<◌, ◌≤◌, Bool, true, false, cond, List, [], ◌∷◌, ◌++◌, length, map, codes, Result, Ok, Err, refl, sym, ap, subst, ◌∙◌, append_assoc, append-nil, length-append, arith}
use Rattle.std.specs.List.{AllByRecursion, list_all}
use Rattle.std.proofs.lemmas.Bool.{and_from, cond_both}
use Rattle.std.proofs.lemmas.List.Folds.{list_all-append}
use Rattle.texts.proofs.Forms.{Item, Form, Section, Left, IsPart, ReadsTo, At, next_number, some_lines, Refusal, BadLine, ◌>>=◌, begins_with, first_line, next_line, then_part, IsLine, SomeLeft, IsPlainLine, ok_is}
use Rattle.texts.proofs.Forms.{bind_ok, reads-less, next-after}
use Rattle.texts.specs.Parts.{lines_of, line_text}
use Rattle.texts.proofs.Cuts.{some_line}
use Rattle.texts.proofs.Lates.{next-line, next-monotone}
use Rattle.texts.proofs.Texts.{lines-cut}

-- ---- fields

-- the same form, where another item reads it and what is allowed is said in other words
abbrev pub form_as : {W A : Type 0} {C : List (List ℕ) → Type 0} (item : ℕ → Item A) (allowed : A → Type 0) (a : Form W C A) → ((k : ℕ) (fields : List (List ℕ)) → item k fields ≡ a.item k fields)
    → ((v : A) → a.allowed v → allowed v) → ((v : A) → allowed v → a.allowed v) → Form W C A
form_as item allowed a same to from = record {
  item = item;
  spell = a.spell;
  allowed = allowed;
  exact = λ w k. record {
    takes = λ fields rest v e. let i = (a.exact w k).takes fields rest v (sym (same k fields) ∙ e) in (i.0, to v i.1);
    gives = λ v rest p c. same k (a.spell v ++ rest) ∙ (a.exact w k).gives v rest (from v p) c;
  };
  judges = λ k. record { at = λ fields. rw (same k fields) ((a.judges k).at fields) };
  plain = λ w v p. a.plain w v (from v p);
}

-- what passed a test
pub passed : {A : Type 0} (t : Bool) (r : Result A Refusal) (e : Refusal) (v : A) → cond t r (Err e) ≡ Ok v → (t ≡ true) × (r ≡ Ok v)
passed true r e v h = (refl, h)
passed false r e v h = absurd cc

-- ---- lines

-- the line begins with `end`
abbrev pub Ends : List (List ℕ) → Type 0
Ends line = begins_with (codes "end") (line ∷ []) ≡ true

ends-any : (line : List (List ℕ)) (more : List (List (List ℕ))) → Ends line → begins_with (codes "end") (line ∷ more) ≡ true
ends-any [] more h = absurd cc
ends-any (f ∷ fs) more h = h

first-at : (k : ℕ) (lines : List (List (List ℕ))) → At k (first_line k lines)
first-at k [] = refl
first-at k (line ∷ []) = refl
first-at k (line ∷ next ∷ more) = tt

first-ok : (k : ℕ) (line : List (List ℕ)) (rest : List (List (List ℕ))) (z : List (List ℕ)) (zs : List (List (List ℕ))) → rest ≡ z ∷ zs → first_line k (line ∷ rest) ≡ Ok (line, record { line = next_number k; lines = rest })
first-ok k line rest z zs e = rw e refl

reads-on : {A B : Type 0} (k m : ℕ) (r : Result A Refusal) (f : A → Result (B × Left) Refusal) → k ≤ m → At k r → ((x : A) → ReadsTo m (f x)) → ReadsTo k (r >>= f)
reads-on k m (Ok x) f le p q = reads-less k m (f x) le (q x)
reads-on k m (Err e) f le p q = (k, omega arith, p)

-- what is read of two parts is read of each
pub parts-of : {A B : Type 0} (read : Left → Result (A × Left) Refusal) (again : A → Left → Result (B × Left) Refusal) (s : Left) (v : (A × B) × Left) → then_part read again s ≡ Ok v → (t : Left) × (read s ≡ Ok (v.0.0, t)) × (again v.0.0 t ≡ Ok (v.0.1, v.1))
parts-of {A} {B} read again s v e =
    let b = bind_ok (read s) (λ x. again x.0 x.1 >>= λ y. Ok ((x.0, y.0), y.1)) v e in
    let c = bind_ok (again b.0.0 b.0.1) (λ y. Ok ((b.0.0, y.0), y.1)) v b.2 in
    subst (λ (w : (A × B) × Left). (t : Left) × (read s ≡ Ok (w.0.0, t)) × (again w.0.0 t ≡ Ok (w.0.1, w.1))) (ok_is ((b.0.0, c.0.0), c.0.1) v c.2) (b.0.1, b.1, c.1)

-- how lines are read: each in a state, as a value and the state after it, and all of them after the values seen
pub record Growth (S X E : Type 0) : Type 0 where
  pub read : List (List (List ℕ)) → List E → S → ℕ → List (List ℕ) → Result X Refusal
  pub value : S → X → E
  pub after : S → X → S
  pub from : List E → S → ℕ → List (List (List ℕ)) → Result ((List E × S) × Left) Refusal
  pub none : (seen : List E) (s : S) (k : ℕ) → from seen s k [] ≡ Err (BadLine k)
  pub more : (seen : List E) (s : S) (k : ℕ) (line : List (List ℕ)) (lines : List (List (List ℕ))) → from seen s k (line ∷ lines) ≡ cond (begins_with (codes "end") (line ∷ lines)) (Ok ((seen, s), record { line = k; lines = line ∷ lines }))
      (first_line k (line ∷ lines) >>= λ _. read (line ∷ lines) seen s k line >>= λ x. from (seen ++ value s x ∷ []) (after s x) (next_number k) lines)
  pub at : (all : List (List (List ℕ))) (seen : List E) (s : S) (k : ℕ) (fields : List (List ℕ)) → At k (read all seen s k fields)

module _ {S X E : Type 0} (g : Growth S X E) where
  -- the values of lines, the state after them, and that each is allowed in its state
  abbrev pub values_of : S → List X → List E
  values_of s [] = []
  values_of s (x ∷ xs) = g.value s x ∷ values_of (g.after s x) xs

  abbrev pub state_after : S → List X → S
  state_after s [] = s
  state_after s (x ∷ xs) = state_after (g.after s x) xs

  abbrev pub EachIn : (S → X → Type 0) → S → List X → Type 0
  EachIn P s [] = Unit {0}
  EachIn P s (x ∷ xs) = P s x × EachIn P (g.after s x) xs

  -- what is read of a line that is not the last, and of those after it
  abbrev further : List E → S → ℕ → List (List ℕ) → List (List (List ℕ)) → Result ((List E × S) × Left) Refusal
  further seen s k line lines = first_line k (line ∷ lines) >>= λ _. g.read (line ∷ lines) seen s k line >>= λ x. g.from (seen ++ g.value s x ∷ []) (g.after s x) (next_number k) lines

  -- ---- faults

  pub grows-on : (seen : List E) (s : S) (k : ℕ) (lines : List (List (List ℕ))) → ReadsTo k (g.from seen s k lines)
  grows-on seen s k [] = rw (g.none seen s k) (k, omega arith, refl)
  grows-on seen s k (line ∷ lines) = rw (g.more seen s k line lines) (cond_both (begins_with (codes "end") (line ∷ lines)) (Ok ((seen, s), record { line = k; lines = line ∷ lines })) (further seen s k line lines)
      (λ (r : Result ((List E × S) × Left) Refusal). ReadsTo k r) (λ t. omega arith) (λ t. reads-on k k (first_line k (line ∷ lines)) _ (omega arith) (first-at k (line ∷ lines)) (λ _.
      reads-on k (next_number k) (g.read (line ∷ lines) seen s k line) _ (next-after k) (g.at (line ∷ lines) seen s k line) (λ x. grows-on (seen ++ g.value s x ∷ []) (g.after s x) (next_number k) lines))))

  grows-step : (seen : List E) (s : S) (k : ℕ) (lines : List (List (List ℕ))) → begins_with (codes "end") lines ≡ false
      → g.from seen s k lines ≡ (first_line k lines >>= λ l. g.read lines seen s k l.0 >>= λ x. g.from (seen ++ g.value s x ∷ []) (g.after s x) l.1.line l.1.lines)
  grows-step seen s k [] e = g.none seen s k
  grows-step seen s k (line ∷ []) e = g.more seen s k line [] ∙ rw e refl
  grows-step seen s k (line ∷ next ∷ more) e = g.more seen s k line (next ∷ more) ∙ rw e refl

  -- memory that is asked for after a line that was taken
  pub grows-late : (seen : List E) (s : S) (start here there : Left) (fields : List (List ℕ)) (x : X) (total : Result ((List E × S) × Left) Refusal) → begins_with (codes "end") here.lines ≡ false → next_line here ≡ Ok (fields, there)
      → g.read here.lines seen s here.line fields ≡ Ok x → start.line ≤ here.line → g.from seen s here.line here.lines ≡ total → (next_number start.line ≤ there.line) × ReadsTo there.line total
  grows-late seen s start here there fields x total b e f le so_far =
      let behind : g.from seen s here.line here.lines ≡ g.from (seen ++ g.value s x ∷ []) (g.after s x) there.line there.lines = rw (grows-step seen s here.line here.lines b, e, f) refl in
      let on = grows-on (seen ++ g.value s x ∷ []) (g.after s x) there.line there.lines in
      let line = next-line here there fields e in
      let more = next-monotone start.line here.line le in
      (omega (arith, line, more), rw (← so_far, behind) on)

  -- ---- what is read

  -- what holds at the end, and before a line where it holds after it, holds of what is read
  grows-read : (G : List E → S → List (List (List ℕ)) → (List E × S) × Left → Type 0) → ((seen : List E) (s : S) (k : ℕ) (line : List (List ℕ)) (lines : List (List (List ℕ))) → G seen s (line ∷ lines) ((seen, s), record { line = k; lines = line ∷ lines }))
      → ((seen : List E) (s : S) (k : ℕ) (line : List (List ℕ)) (lines : List (List (List ℕ))) (x : X) (w : (List E × S) × Left) → g.read (line ∷ lines) seen s k line ≡ Ok x → G (seen ++ g.value s x ∷ []) (g.after s x) lines w → G seen s (line ∷ lines) w)
      → (seen : List E) (s : S) (k : ℕ) (lines : List (List (List ℕ))) (w : (List E × S) × Left) → g.from seen s k lines ≡ Ok w → G seen s lines w
  grows-read G end on seen s k [] w e = (let f = sym (g.none seen s k) ∙ e in absurd cc)
  grows-read G end on seen s k (line ∷ lines) w e = cond_both (begins_with (codes "end") (line ∷ lines)) (Ok ((seen, s), record { line = k; lines = line ∷ lines })) (further seen s k line lines)
      (λ (r : Result ((List E × S) × Left) Refusal). r ≡ Ok w → G seen s (line ∷ lines) w) (λ t h. subst (G seen s (line ∷ lines)) (ok_is _ w h) (end seen s k line lines)) (λ t h.
      let b = bind_ok (first_line k (line ∷ lines)) (λ _. g.read (line ∷ lines) seen s k line >>= λ x. g.from (seen ++ g.value s x ∷ []) (g.after s x) (next_number k) lines) w h in
      let c = bind_ok (g.read (line ∷ lines) seen s k line) (λ x. g.from (seen ++ g.value s x ∷ []) (g.after s x) (next_number k) lines) w b.2 in
      on seen s k line lines c.0 w c.1 (grows-read G end on (seen ++ g.value s c.0 ∷ []) (g.after s c.0) (next_number k) lines w c.2)) (sym (g.more seen s k line lines) ∙ e)

  -- values that pass a test, where each line's does
  pub grows-all : (test : E → Bool) → ((seen : List E) (s : S) (k : ℕ) (line : List (List ℕ)) (lines : List (List (List ℕ))) (x : X) → g.read (line ∷ lines) seen s k line ≡ Ok x → test (g.value s x) ≡ true)
      → (s : S) (k : ℕ) (lines : List (List (List ℕ))) (w : (List E × S) × Left) → g.from [] s k lines ≡ Ok w → list_all test w.0.0 ≡ true
  grows-all test one s k lines w e = grows-read (λ seen s lines w. list_all test seen ≡ true → list_all test w.0.0 ≡ true) (λ seen s k line lines all. all)
      (λ seen s k line lines x w e later all. (let now = one seen s k line lines x e in later (list_all-append test seen (g.value s x ∷ []) ∙ and_from (list_all test seen) (list_all test (g.value s x ∷ [])) all (rw now refl)))) [] s k lines w e refl

-- how such lines are spelled: the fields of a value in the last state, and what is allowed in the state of its line
pub record Lines (S X E : Type 0) (g : Growth S X E) : Type 1 where
  pub most : ℕ
  pub fields : S → E → List (List ℕ)
  pub allowed : S → X → Type 0
  pub line : (all : List (List (List ℕ))) (seen : List E) (s : S) (k : ℕ) → IsLine (g.read all seen s k) (λ x. fields (g.after s x) (g.value s x)) (λ x. (length seen < most) × allowed s x)
  pub plain : (s : S) (x : X) → allowed s x → IsPlainLine (fields (g.after s x) (g.value s x))
  pub goes_on : (s : S) (e : E) (lines : List (List (List ℕ))) → begins_with (codes "end") (fields s e ∷ lines) ≡ false
  pub same : (s : S) (x : X) (xs : List X) → allowed s x → EachIn g allowed (g.after s x) xs → fields (state_after g (g.after s x) xs) (g.value s x) ≡ fields (g.after s x) (g.value s x)

module _ {S X E : Type 0} (g : Growth S X E) (l : Lines S X E g) where
  -- what some lines say after those seen, spelled in the last state
  record Taken (seen : List E) (s : S) (lines : List (List (List ℕ))) (w : (List E × S) × Left) : Type 0 where
    pub items : List X
    pub values : w.0.0 ≡ seen ++ values_of g s items
    pub state : w.0.1 ≡ state_after g s items
    pub parts : lines ≡ map (l.fields w.0.1) (values_of g s items) ++ w.1.lines
    pub each : EachIn g l.allowed s items
    pub few : length w.0.0 ≤ l.most
    pub some : SomeLeft w.1

  -- these values and this state are what some lines say
  pub record Says (old : S) (v : List E × S) : Type 0 where
    pub items : List X
    pub values : values_of g old items ≡ v.0
    pub state : state_after g old items ≡ v.1
    pub each : EachIn g l.allowed old items
    pub few : length v.0 ≤ l.most

  taken : (seen : List E) (s : S) (k : ℕ) (lines : List (List (List ℕ))) (w : (List E × S) × Left) → g.from seen s k lines ≡ Ok w → length seen ≤ l.most → Taken seen s lines w
  taken = grows-read g (λ seen s lines w. length seen ≤ l.most → Taken seen s lines w)
      (λ seen s k line lines few. record { items = []; values = sym (append-nil seen); state = refl; parts = refl; each = tt; few = few; some = (line, lines, refl) })
      (λ seen s k line lines x w e later few.
      let law = (l.line (line ∷ lines) seen s k).takes line x e in
      let room = law.1.0 in
      let rest = later (let sum = length-append seen (g.value s x ∷ []) in omega arith) in
      record {
        items = x ∷ rest.items;
        values = rest.values ∙ append_assoc seen (g.value s x ∷ []) (values_of g (g.after s x) rest.items);
        state = rest.state;
        parts = ap (λ (f : List (List ℕ)). f ∷ lines) (law.0 ∙ sym (l.same s x rest.items law.1.1 rest.each) ∙ ap (λ (t : S). l.fields t (g.value s x)) (sym rest.state))
            ∙ ap (λ (m : List (List (List ℕ))). l.fields w.0.1 (g.value s x) ∷ m) rest.parts;
        each = (law.1.1, rest.each);
        few = rest.few;
        some = rest.some;
      })

  given : (xs : List X) (seen : List E) (s : S) (k : ℕ) (x : List (List ℕ)) (more : List (List (List ℕ))) → EachIn g l.allowed s xs → length seen + length (values_of g s xs) ≤ l.most → Ends x
      → (m : ℕ) × (g.from seen s k (map (l.fields (state_after g s xs)) (values_of g s xs) ++ x ∷ more) ≡ Ok ((seen ++ values_of g s xs, state_after g s xs), record { line = m; lines = x ∷ more }))
  given [] seen s k x more each few end = (k, g.more seen s k x more ∙ rw (ends-any x more end, append-nil seen) refl)
  given (y ∷ ys) seen s k x more each few end =
      let now = g.value s y in
      let next = g.after s y in
      let sum = length-append seen (now ∷ []) in
      let rest = given ys (seen ++ now ∷ []) next (next_number k) x more each.1 (omega arith) end in
      let later = map (l.fields (state_after g next ys)) (values_of g next ys) in
      let line = (l.line (l.fields next now ∷ (later ++ x ∷ more)) seen s k).gives y (omega arith, each.0) in
      let sh = some_lines later x more in
      let first = first-ok k (l.fields next now) (later ++ x ∷ more) sh.0 sh.1 sh.2 in (
        rest.0,
        ap (λ (f : List (List ℕ)). g.from seen s k (f ∷ (later ++ x ∷ more))) (l.same s y ys each.0 each.1) ∙ g.more seen s k (l.fields next now) (later ++ x ∷ more)
            ∙ rw (l.goes_on next now (later ++ x ∷ more), first, line) (rest.1 ∙ ap (λ (z : List E). Ok ((z, state_after g next ys), record { line = rest.0; lines = x ∷ more })) (append_assoc seen (now ∷ []) (values_of g next ys))),
      )

  pub lines-plain : (xs : List X) (s : S) → EachIn g l.allowed s xs → AllByRecursion IsPlainLine (map (l.fields (state_after g s xs)) (values_of g s xs))
  lines-plain [] s each = tt
  lines-plain (x ∷ xs) s each = (subst IsPlainLine (sym (l.same s x xs each.0 each.1)) (l.plain s x each.0), lines-plain xs (g.after s x) each.1)

  pub growing-part : (old : S) → IsPart Ends (λ a. g.from [] old a.line a.lines) (λ v. map (l.fields v.1) v.0) (Says old)
  growing-part old = record { takes = take; gives = give }
    where
      take : (a z : Left) (v : List E × S) → SomeLeft a → g.from [] old a.line a.lines ≡ Ok (v, z) → (a.lines ≡ map (l.fields v.1) v.0 ++ z.lines) × Says old v × SomeLeft z
      take a z v some e =
          let t = taken [] old a.line a.lines (v, z) e (omega arith) in
          (rw t.values t.parts, record { items = t.items; values = sym t.values; state = sym t.state; each = t.each; few = t.few }, t.some)

      give : (k : ℕ) (v : List E × S) (x : List (List ℕ)) (xs : List (List (List ℕ))) → Says old v → Ends x
          → (m : ℕ) × (g.from [] old k (map (l.fields v.1) v.0 ++ x ∷ xs) ≡ Ok (v, record { line = m; lines = x ∷ xs }))
      give k (es, s) x xs p end = rw (← p.values, ← p.state) (given p.items [] old k x xs p.each (rw p.values (let le = p.few in omega arith)) end)

  -- reading a text that begins with the line of a value
  pub line-taken : (seen : List E) (s : S) (k : ℕ) (x : X) (text rest : List ℕ) → length seen < l.most → l.allowed s x → text ≡ line_text (l.fields (g.after s x) (g.value s x)) ++ rest
      → g.from (seen ++ g.value s x ∷ []) (g.after s x) (next_number k) (lines_of rest) ≡ g.from seen s k (lines_of text)
  line-taken seen s k x text rest room p e =
      let line = l.fields (g.after s x) (g.value s x) in
      let cut : lines_of text ≡ line ∷ lines_of rest = ap lines_of e ∙ lines-cut line rest (l.plain s x p) in
      let more = some_line rest in
      let lines = more.0 ∷ more.1 in
      let says = (l.line (line ∷ lines) seen s k).gives x (room, p) in
      let on : g.from seen s k (line ∷ lines) ≡ g.from (seen ++ g.value s x ∷ []) (g.after s x) (next_number k) lines = g.more seen s k line lines ∙ rw (l.goes_on (g.after s x) (g.value s x) lines, says) refl in
      ap (g.from (seen ++ g.value s x ∷ []) (g.after s x) (next_number k)) more.2 ∙ sym on ∙ ap (λ (ls : List (List (List ℕ))). g.from seen s k (line ∷ ls)) (sym more.2) ∙ ap (g.from seen s k) (sym cut)

  -- all of them, as a section
  abbrev pub growing : {W : Type 0} → S → Section W Ends (List E × S)
  growing old = record {
    read = λ a. g.from [] old a.line a.lines;
    spell = λ v. map (l.fields v.1) v.0;
    allowed = Says old;
    exact = λ _. growing-part old;
    advances = record { on = λ a. grows-on g [] old a.line a.lines };
    plain = λ _ v p. rw (← p.values, ← p.state) (lines-plain p.items old p.each);
  }
