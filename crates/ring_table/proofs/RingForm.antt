-- A ring as one form: what is read, how it is spelled and what is allowed.
use Rattle.std.proofs.Common.{◌≡◌, ℕ, zero, suc, ◌+◌, ◌<◌, ◌≤◌, Bool, true, false, not, cond, nat_lt, nat_le, ◌==◌, List, [], ◌∷◌, ◌++◌, length, map, codes, Option, Some, None, Ok, Err, refl, ap, ◌∙◌, arith}
use Rattle.std.proofs.Common.{rules, length-append, is_some, decimal}
use Rattle.std.specs.List.{AllByRecursion, list_all}
use Rattle.std.proofs.lemmas.Bool.{lt-ltb, ltb-true, le-ltb, le-leb, leb-true, eqb-true, not-false}
use Rattle.std.proofs.lemmas.Fmt.{decimal_digit}
use Rattle.std.proofs.lemmas.Grind.{common_steps}
use Rattle.std.proofs.lemmas.List.{map_push}
use Rattle.ring_table.proofs.Terms.{all_different, AllNew, place, NodeId, Allowance, Joint, Split, Node, RingValue, is_member, IsAllowance, IsNode, name_at, row_fields, rows_lines, owners_at}
use Rattle.ring_names.specs.Space.{is_space}
use Rattle.texts.proofs.Forms.{IsPart, IsPlain, Any, Always, BeginsOther, At, is_word, some_lines, Form, LineForm, Section, Advances, of_item, field_of, mapped, pair, word, room, judge_words, AreWords, words-are, words-at}
use Rattle.texts.proofs.Forms.{one_of, both, line, one, many, then, made, ending, BadLine, Repeated, NotMember, is_name, decimal_value, IsPlainLine, EachNext}
use Rattle.texts.proofs.Forms.{IsItem-word, bind_ok, ok_is, at-bind, at-if}
use Rattle.texts.proofs.Forms.{judges-word, advances-line, advances-map, advances-then, decimal-value, value-decimal, decimal-plain, name-plain}
use Rattle.texts.proofs.MoreForms.{Fields, number, unsaid, maybe, judged_line, at_least_one, after}
use Rattle.ring_names.specs.declared.refusal.Refusal.TheVariants.{QuorumTooSmall, SharedNode}
use Rattle.texts.specs.Numbers.{first_value}
use Rattle.texts.specs.Judging.{word_at, limited}
use Rattle.texts.proofs.Items.{IsPart-nil, IsPart-cons}
use Rattle.texts.proofs.Lates.{at-limited}
use Rattle.texts.proofs.Decimals.{limited_is}
use Rattle.ring_table.specs.declared.head.Head.{Head}
use Rattle.ring_table.specs.declared.head.Quorum.{Quorum}
use Rattle.ring_table.specs.Valid.{is_format, is_loss, is_quorum, IsMost, IsNew, IsRow}
use Rattle.ring_table.specs.Spelling.{allowance_fields, membership, node_fields}
use Rattle.ring_table.specs.Reading.{judge_new, judge_most, above_zero, made as made_of, row_at, rows_at, ring_of}
use Rattle.ring_table.proofs.LineLaws.{space-le, quorum-parts}
use Rattle.ring_table.proofs.RowLaws.{AreNames, IsItem-owners, judges-owners, names-plain, members-below}
use Rattle.ring_table.proofs.NodesLaws.{each-name}

-- ---- the lines before the nodes

pub words-plain : IsPlain (codes "ring") × IsPlain (codes "space") × IsPlain (codes "quorum") × IsPlain (codes "node") × IsPlain (codes "in")
    × IsPlain (codes "out") × IsPlain (codes "slots") × IsPlain (codes "1") × IsPlain (codes "2") × IsPlain (codes "3")
words-plain = (search rules)

-- the words of the formats
abbrev pub formats : List (List ℕ × ℕ)
formats = (codes "1", 1) ∷ (codes "2", 2) ∷ (codes "3", 3) ∷ []

pub formats-spelled : AreWords decimal formats
formats-spelled =
    let is = decimal_digit in
    ((is 1 (omega arith), words-plain.7), ((is 2 (omega arith), words-plain.8), ((is 3 (omega arith), words-plain.9), tt)))

pub format-is : (k : ℕ) (f : List ℕ) (v : ℕ) → judge_words formats k f ≡ Ok v → (f ≡ decimal v) × (is_format v ≡ true)
format-is k f v e = ((words-are decimal formats formats-spelled k f v e).0, grind (arith, common_steps))

pub format-ok : (k v : ℕ) → is_format v ≡ true → judge_words formats k (decimal v) ≡ Ok v
format-ok k zero e = absurd cc
format-ok k (suc zero) e = rw (decimal_digit 1 (omega arith)) refl
format-ok k (suc (suc zero)) e = rw (decimal_digit 2 (omega arith)) refl
format-ok k (suc (suc (suc zero))) e = rw (decimal_digit 3 (omega arith)) refl
format-ok k (suc (suc (suc (suc v)))) e = absurd (grind (arith, common_steps))

-- `ring <format>`
abbrev pub format_line : {W : Type 0} → LineForm W ℕ
format_line = line Always tt (λ x. x.1) (λ v. (tt {0}, v)) (λ x. refl) (λ y. refl) (both Always (word (codes "ring") words-plain.0)
    (field_of (judge_words formats) decimal (λ f. is_format f ≡ true) (λ _. format-is) (λ _. format-ok) (words-at decimal formats)
    (λ _ v p. (words-are decimal formats formats-spelled 0 (decimal v) v (format-ok 0 v p)).1))) (λ v. refl)

-- `space <q>`
abbrev pub space_line : {W : Type 0} → LineForm W ℕ
space_line = judged_line (λ k x. (not (is_space x.1), BadLine k) ∷ []) (λ x. x.1) (λ q. (tt {0}, q)) (λ q. is_space q ≡ true)
    (both Always (word (codes "space") words-plain.1) (number 4096 (omega arith)))
    (λ x. refl) (λ y. refl) (λ v. refl) (λ k x. (refl, tt)) (λ k q p. not-false (is_space q) p.1.0) (λ k q e. ((tt, space-le q e), (ap not e, tt)))

-- how many stores may be lost
abbrev pub loss_form : {W : Type 0} → ℕ → Form W Always ℕ
loss_form format = unsaid 0 (number 6 (omega arith)) (λ b f. cond b (f == 0) (nat_le f 6) ≡ true) refl (λ f e. eqb-true f 0 e) (λ f le. le-leb f 6 le)
    (λ f e. leb-true f 6 e) (nat_lt format 3)

-- `quorum <n> <r> <w>`, and the losses
abbrev pub quorum_line : {W : Type 0} → ℕ → LineForm W Quorum
quorum_line format = judged_line (λ k x. (not (is_quorum x.0.0.0.1 x.0.0.1 x.0.1 x.1), QuorumTooSmall k) ∷ [])
    (λ x. record { n = x.0.0.0.1; r = x.0.0.1; w = x.0.1; loss = x.1 }) (λ y. ((((tt {0}, y.n), y.r), y.w), y.loss))
    (λ y. (y.n ≤ 7) × ((is_loss format y.loss ≡ true) × (is_quorum y.n y.r y.w y.loss ≡ true)))
    (let s = number 7 (omega arith) in both Always (both Always (both Always (both Always (word (codes "quorum") words-plain.2) s) s) s) (loss_form format))
    (λ x. refl) (λ y. refl) (λ v. refl) (λ k x. (refl, tt)) (λ k y p. (p.0.0.0.0.1, (p.0.1, not-false (is_quorum y.n y.r y.w y.loss) p.1.0)))
    (λ k y p. let parts = quorum-parts y.n y.r y.w y.loss p.1.1 in (((((tt, p.0), omega arith), omega arith), p.1.0), (ap not p.1.1, tt)))

-- the lines of the format, the partitions and the quorum
abbrev pub head_form : {W : Type 0} → Section W Any Head
head_form = made Any (λ x. record { format = x.0; q = x.1.0; quorum = x.1.1 }) (λ h. (h.format, (h.q, h.quorum))) (λ x. refl) (λ y. refl)
    (then Any Any (one format_line) (λ format. then Any Any (one space_line) (λ _. one (quorum_line format)) (λ w x y l ls p q d. tt)) (λ w x y l ls p q d. tt))

-- ---- the nodes

-- a name that none of these is
abbrev pub IsUnused : List (List ℕ) → List ℕ → Type 0
IsUnused names v = (is_name v ≡ true) × (place names v ≡ None)

pub new-is : (k : ℕ) (names : List (List ℕ)) (f v : List ℕ) → judge_new k names f ≡ Ok v → (f ≡ v) × IsUnused names v
new-is k names f v e = by (is_name f) (place names f) refl refl e
  where
    by : (b : Bool) (o : Option ℕ) → is_name f ≡ b → place names f ≡ o → cond b (cond (is_some o) (Err (Repeated k)) (Ok f)) (Err (BadLine k)) ≡ Ok v
        → (f ≡ v) × IsUnused names v
    by true None g h e = let same = ok_is f v e in (same, (rw (← same) g, rw (← same) h))
    by true (Some n) g h e = absurd cc
    by false o g h e = absurd cc

-- a name that is new
abbrev pub name_form : {W : Type 0} → List (List ℕ) → Form W Always (List ℕ)
name_form names = field_of (λ k. judge_new k names) (λ v. v) (IsUnused names) (λ _ k f v e. new-is k names f v e) (λ _ k v p. rw (p.0, p.1) refl)
    (λ k f. at-if k (is_name f) _ (Err (BadLine k)) (at-if k (is_some (place names f)) (Err (Repeated k)) (Ok f) refl tt) refl) (λ _ v p. name-plain v p.0)

pub most-is : (k : ℕ) (f : List ℕ) (v : ℕ) → judge_most k f ≡ Ok v → (f ≡ decimal v) × IsMost v
most-is k f v e =
    let b = bind_ok (limited k 64 (decimal_value f)) (above_zero k) v e in
    let l = limited_is k 64 b.0 (decimal_value f) b.1 in
    let a = elim b.0 as (λ n. above_zero k n ≡ Ok v → (n ≡ v) × (1 ≤ n)) [ zero ↦ λ h. absurd cc | suc n ↦ λ h. (ok_is (suc n) v h, omega arith) ] b.2 in
    (decimal-value f b.0 l.0 (omega (arith, l.1)) ∙ ap decimal a.0, (omega (arith, a.0, a.1), omega (arith, a.0, l.1)))

pub most-ok : (k v : ℕ) → IsMost v → judge_most k (decimal v) ≡ Ok v
most-ok k zero p = absurd (omega (arith, p.0))
most-ok k (suc v) p = (let t : nat_lt 64 (suc v) ≡ false = le-ltb 64 (suc v) p.1 in rw (value-decimal (suc v) (omega (arith, p.1)), t) refl)

-- a number of transfers
abbrev pub most_form : {W : Type 0} → Form W Always ℕ
most_form = field_of judge_most decimal IsMost (λ _. most-is) (λ _. most-ok)
    (λ k f. at-bind k (limited k 64 (decimal_value f)) (above_zero k) (at-limited k 64 (decimal_value f)) (λ n. elim n as (λ m. At k (above_zero k m))
    [ zero ↦ refl | suc m ↦ tt ])) (λ _ v p. decimal-plain v (omega (arith, p.1)))

-- no number follows
abbrev pub NoNumber : Fields → Type 0
NoNumber rest = is_some (first_value rest) ≡ false

-- one number, or two
abbrev pub numbers_form : {W : Type 0} → ℕ → Form W NoNumber (ℕ × Option ℕ)
numbers_form format = both NoNumber most_form (maybe (nat_le 2 format) (λ fields. is_some (first_value fields)) most_form
    (λ v rest p. rw (value-decimal v (omega (arith, p.1))) refl))

-- the numbers of an allowance
abbrev pub parts_of : Allowance → ℕ × Option ℕ
parts_of (Joint most) = (most, None)
parts_of (Split take give) = (take, Some give)

-- `<allowance>`, or `<take> <give>`
abbrev pub allowance_form : {W : Type 0} → ℕ → Form W NoNumber Allowance
allowance_form format = mapped NoNumber (λ x. made_of x.0 x.1) parts_of
    (λ x. elim x.1 as (λ o. parts_of (made_of x.0 o) ≡ (x.0, o)) [ None ↦ refl | Some n ↦ refl ])
    (λ y. elim y as (λ z. made_of (parts_of z).0 (parts_of z).1 ≡ z) [ Joint most ↦ refl | Split take give ↦ refl ]) (numbers_form format)

pub allowance-is : (format : ℕ) (x : Allowance) → ((allowance_form {W = Unit {0}} format).spell x ≡ allowance_fields x)
    × ((allowance_form {W = Unit {0}} format).allowed x → IsAllowance format x) × (IsAllowance format x → (allowance_form {W = Unit {0}} format).allowed x)
allowance-is format (Joint most) = (refl, λ p. p.0, λ p. (p, tt))
allowance-is format (Split take give) = (refl, λ p. (leb-true 2 format p.1.0, (p.0, p.1.1)), λ p. (p.1.0, (le-leb 2 format p.0, p.1.1)))

-- the words of memberships
abbrev pub memberships : List (List ℕ × Bool)
memberships = (codes "in", true) ∷ (codes "out", false) ∷ []

-- `node <name> <allowance> in` or `.. out`, after the nodes seen
abbrev pub node_line : {W : Type 0} → ℕ → List Node → LineForm W Node
node_line format seen = line Always tt (λ x. record { name = x.0.0.1; allowance = x.0.1; is_member = x.1 })
    (λ y. ((((tt {0}, tt {0}), y.name), y.allowance), y.is_member)) (λ x. refl) (λ y. refl)
    (pair NoNumber Always (both NoNumber (both Always (both Always (room (nat_lt (length seen) 1024)) (word (codes "node") words-plain.3))
    (name_form (map (λ y. y.name) seen))) (allowance_form format))
    (one_of membership memberships ((refl, words-plain.4), ((refl, words-plain.5), tt)) (λ k v. elim v as (λ b. judge_words memberships k (membership b) ≡ Ok b)
    [ true ↦ refl | false ↦ refl ])) (λ v rest d. elim v as (λ b. NoNumber (membership b ∷ rest)) [ true ↦ refl | false ↦ refl ])) (λ v. refl)

pub line-is : (format : ℕ) (seen : List Node) (v : Node) → (node_line {W = Unit {0}} format seen).allowed v → IsNew format seen v
line-is format seen v p =
    let is = (allowance-is format v.allowance).1 p.0.1 in
    record { room = ltb-true (length seen) 1024 p.0.0.0.0; name = p.0.0.1.1; node = record { name = p.0.0.1.0; allowance = is } }

-- no node line
abbrev pub IsOther : Fields → Type 0
IsOther = BeginsOther (is_word (codes "node"))

-- node lines
abbrev pub lines_form : {W : Type 0} → ℕ → Section W IsOther (List Node)
lines_form format = many (is_word (codes "node")) node_fields (node_line format) (λ seen v. ap
    (λ (f : Fields). codes "node" ∷ v.name ∷ (f ++ membership v.is_member ∷ [])) (allowance-is format v.allowance).0) (λ w seen x more p. refl)

-- one or more node lines
abbrev pub nodes_form : {W : Type 0} → ℕ → Section W IsOther (List Node)
nodes_form format = at_least_one IsOther (lines_form format)

-- nodes that are each allowed after those seen
abbrev pub AreNew : ℕ → List Node → List Node → Type 0
AreNew format = EachNext (λ seen. (node_line {W = Unit {0}} format seen).allowed)

pub new-parts : (format : ℕ) (seen xs : List Node) → AreNew format seen xs
    → AllByRecursion (IsNode format) xs × AllNew (map (λ x. x.name) seen) (map (λ x. x.name) xs)
new-parts format seen [] p = (tt, tt)
new-parts format seen (x ∷ xs) p =
    let new = line-is format seen x p.0 in
    let rest = new-parts format (seen ++ x ∷ []) xs p.1 in
    ((new.node, rest.0), (new.name, rw (← map_push (λ (y : Node). y.name) seen x) rest.1))

pub parts-new : (format : ℕ) (seen xs : List Node) → length seen + length xs ≤ 1024 → AllByRecursion (IsNode format) xs
    → AllNew (map (λ x. x.name) seen) (map (λ x. x.name) xs) → AreNew format seen xs
parts-new format seen [] le each names = tt
parts-new format seen (x ∷ xs) le each names =
    let rest = parts-new format (seen ++ x ∷ []) xs (omega (arith, length-append seen (x ∷ []))) each.1 (rw (map_push (λ (y : Node). y.name) seen x) names.1) in
    (((((lt-ltb (length seen) 1024 (omega arith), tt), (each.0.name, names.0)), (allowance-is format x.allowance).2 each.0.allowance), tt), rest)

-- ---- the rows of owners

module _ (nodes : List Node) (n : ℕ) where
  -- the names of the nodes
  abbrev pub names : List (List ℕ)
  names = map (λ x. x.name) nodes

  -- names can be told apart, and the c numbers from p on are small
  abbrev pub RowsFit : ℕ → ℕ → Type 0
  RowsFit p c = AreNames names × (p + c ≤ 4096)

  -- the number of a partition
  abbrev pub partition_form : (p : ℕ) → Form (RowsFit p 1) Always (Unit {0})
  partition_form p = of_item (λ k. word_at k (decimal p)) (λ _. decimal p ∷ []) (λ _. Unit {0}) (λ _ k. IsItem-word k (decimal p))
      (λ k. judges-word k (decimal p)) (λ w _ q. (decimal-plain p (omega (arith, w.1)), tt))

  -- n owners
  abbrev pub owners_form : (p : ℕ) → Form (RowsFit p 1) Always (List NodeId)
  owners_form p = of_item (λ k. owners_at k names n) (λ xs. map (name_at names) xs) (λ xs. (length xs ≡ n) × AllByRecursion (λ x. x.0 < length names) xs)
      (λ w k. IsItem-owners k names n w.0) (λ k. judges-owners k names n) (λ w v p. names-plain names v w.0.each)

  -- `slots <p>` and the owners
  abbrev pub row_line : (p : ℕ) → LineForm (RowsFit p 1) (List NodeId)
  row_line p = judged_line (λ k x. (not (all_different (map (λ y. y.0) x.1)), SharedNode k) ∷ (not (list_all (is_member nodes) x.1), NotMember k) ∷ [])
      (λ x. x.1) (λ xs. ((tt {0}, tt {0}), xs)) (IsRow n nodes)
      (both Always (both Always (word (codes "slots") words-plain.6) (partition_form p)) (owners_form p)) (λ x. refl) (λ y. refl) (λ v. refl)
      (λ k x. (refl, (refl, tt))) (λ k v q. record { slots = q.0.1.0; different = not-false _ q.1.0; members = not-false _ q.1.1.0 })
      (λ k v q. (((tt, tt), (q.slots, members-below nodes v q.members)), (ap not q.different, (ap not q.members, tt))))

  pub rows-part : (p c : ℕ) → RowsFit p c → IsPart Any (rows_at nodes n p c) (rows_lines names p)
      (λ rows. (length rows ≡ c) × AllByRecursion (IsRow n nodes) rows)
  unfolding rows_at row_at
  rows-part p zero w = IsPart-nil (rows_at nodes n p 0) (rows_lines names) p (IsRow n nodes) refl (λ l. refl)
  rows-part p (suc c) w = IsPart-cons (row_at nodes n p) (rows_at nodes n (p + 1) c) (row_fields names) (rows_lines names) p (IsRow n nodes) c (λ x xs. refl)
      ((row_line p).exact (w.0, omega (arith, w.1))) (rows-part (p + 1) c (w.0, omega (arith, w.1)))

  pub rows-on : (p c : ℕ) → Advances (rows_at nodes n p c)
  unfolding rows_at row_at
  rows-on p zero = record { on = λ s. omega arith }
  rows-on p (suc c) = advances-map _ _ (advances-then _ _ (advances-line _ (row_line p).at) (λ _. rows-on (p + 1) c))

  pub rows-plain : AreNames names → (p : ℕ) (rows : List (List NodeId)) → p + length rows ≤ 4096 → AllByRecursion (IsRow n nodes) rows
      → AllByRecursion IsPlainLine (rows_lines names p rows)
  rows-plain good p [] le is = tt
  rows-plain good p (row ∷ rows) le is = ((row_line p).plain (good, omega arith) row is.0, rows-plain good (p + 1) rows (omega arith) is.1)

  -- c rows from partition p on
  abbrev pub rows_form : (p c : ℕ) → Section (RowsFit p c) Any (List (List NodeId))
  rows_form p c = record {
    read = rows_at nodes n p c;
    spell = rows_lines names p;
    allowed = λ rows. (length rows ≡ c) × AllByRecursion (IsRow n nodes) rows;
    exact = rows-part p c;
    advances = rows-on p c;
    plain = λ w v q. rows-plain w.0 p v (omega (arith, w.1, q.0)) q.1;
  }

  -- q rows, and the end
  abbrev pub tail_form : (q : ℕ) → Section (RowsFit 0 q) Any (List (List NodeId) × Unit {0})
  tail_form q = then Any Any (rows_form 0 q) (λ _. ending) (λ w x y l ls p q d. tt)

  pub no-node : (q : ℕ) (t : List (List NodeId) × Unit {0}) (x : Fields) (xs : List Fields) → IsOther (some_lines ((tail_form q).spell t) x xs).0
  no-node q ([], e) x xs = refl
  no-node q (row ∷ rows, e) x xs = refl

-- ---- a ring

-- nodes, rows and the end
abbrev pub list_form : (head : Head) → Section (head.q ≤ 4096) Any (List Node × (List (List NodeId) × Unit {0}))
list_form head = after (λ nodes. RowsFit nodes head.quorum.n 0 head.q) IsOther Any (nodes_form head.format) (λ nodes. tail_form nodes head.quorum.n head.q)
    (λ w nodes p. let new = new-parts head.format [] nodes p.0 in (record { new = new.1; each = each-name head.format nodes new.0 }, omega arith))
    (λ nodes t x xs d. no-node nodes head.quorum.n head.q t x xs)

-- nodes and rows
abbrev pub listed : List Node × (List (List NodeId) × Unit {0}) → List Node × List (List NodeId)
listed x = (x.0, x.1.0)

-- all lines of a ring
abbrev pub ring_form : Section (Unit {0}) Any RingValue
ring_form = made Any (λ x. ring_of x.0 x.1)
    (λ v. (record { format = v.format; q = v.q; quorum = record { n = v.n; r = v.r; w = v.w; loss = v.loss } }, (v.nodes, v.owners))) (λ x. refl) (λ y. refl)
    (after (λ h. h.q ≤ 4096) Any Any head_form (λ head. made Any listed (λ b. (b.0, (b.1, tt))) (λ x. refl) (λ y. refl) (list_form head))
    (λ w h p. space-le h.q p.1.0) (λ x y l ls d. tt))
