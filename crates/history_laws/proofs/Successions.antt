-- Which puts succeed which in a part, and the latest of some: the same as in the whole.
use Rattle.std.proofs.Common.{◌≡◌, ◌∙◌, ℕ, Bool, true, false, cond, List, [], ◌∷◌, length, map, refl, sym, ap, subst, arith, lt-ltb}
use Rattle.std.specs.Prelude.{◌&&◌, ◌||◌, nat_lt, Option, Some, None}
use Rattle.std.proofs.lemmas.Slice.Eq.{bytes_eq-Decides}
use Rattle.std.proofs.lemmas.Bool.{and_parts}
use Rattle.ring_names.specs.Lists.{has}
use Rattle.ring_names.specs.declared.ids.Slot.{Slot}
use Rattle.plan_text.specs.declared.step.Planned.{Planned}
use Rattle.ring_table.specs.Value.{RingValue}
use Rattle.plan_runs.specs.World.{GetRecord, World, some_below, key_of_put, seen_of}
use Rattle.plan_runs.specs.Versions.{slot_has, is_held}
use Rattle.plan_runs.specs.Succession.{replied, some_replied, is_direct, Succeeds, itself, by, succeeds, some_succeeds, latest_of, latest}
use Rattle.plan_runs.proofs.Succeeding.{direct_parts, succeeds_is, is_succeeds}
use Rattle.history_laws.specs.Parts.{is_of_part, number_in, is_key_in}
use Rattle.history_laws.proofs.Numbers.{AllOf, has_same, later_of, first_of_all, is_less, number_less, number_found, number_one, less_same, one_same, same_test}
use Rattle.history_laws.proofs.Listed.{read_is}
use Rattle.history_laws.proofs.Follows.{has_same_put, some_put_same, SameNumbers, Follows, get_pair, same_key, same_writer, same_seen, seen_mine, put_mark, puts_marked, puts_size}

abbrev pub has_one : Option (List ℕ) → ℕ → Bool
has_one o v = elim o [ Some vs ↦ has v vs | None ↦ false ]

pub numbers_has : (ps : List Bool) (a b : Option (List ℕ)) (v : ℕ) → SameNumbers ps a b → is_of_part ps v ≡ true → has_one b (number_in ps v) ≡ has_one a v
numbers_has ps None None v s h = refl
numbers_has ps (Some vs) (Some us) v s h = ap (has (number_in ps v)) s.1 ∙ has_same ps v vs h s.0
numbers_has ps a b v s h = absurd s

-- ---- replies

pub replied_same : (ring : RingValue) (is_in : ℕ → Bool) (ps gs : List Bool) (w u : World) (g v : ℕ) → Follows ring is_in ps gs w u → is_of_part gs g ≡ true → is_of_part ps v ≡ true
    → replied u.gets (number_in gs g) (number_in ps v) ≡ replied w.gets g v
replied_same ring is_in ps gs w u g v r hg hv =
    let q = get_pair ring is_in ps gs w u g r hg in
    read_is (λ (x : GetRecord). has_one x.reply (number_in ps v)) false u.gets (number_in gs g) q.right q.at_right
    ∙ (numbers_has ps q.left.reply q.right.reply v q.same.reply hv ∙ sym (read_is (λ (x : GetRecord). has_one x.reply v) false w.gets g q.left q.at_left))

some_replied_same : (ring : RingValue) (is_in : ℕ → Bool) (ps gs : List Bool) (w u : World) (named : List ℕ) (v : ℕ) → Follows ring is_in ps gs w u → AllOf gs named → is_of_part ps v ≡ true
    → some_replied u.gets (map (number_in gs) named) (number_in ps v) ≡ some_replied w.gets named v
some_replied_same ring is_in ps gs w u [] v r a h = refl
some_replied_same ring is_in ps gs w u (g ∷ named) v r a h =
    rw (replied_same ring is_in ps gs w u g v r (first_of_all gs g named a) h, some_replied_same ring is_in ps gs w u named v r (later_of gs g named a) h) refl

-- ---- direct succession

pub put_there : (ring : RingValue) (is_in : ℕ → Bool) (ps gs : List Bool) (w u : World) (v : ℕ) → Follows ring is_in ps gs w u → is_of_part ps v ≡ true → nat_lt (number_in ps v) (length u.puts) ≡ nat_lt v (length w.puts)
put_there ring is_in ps gs w u v r h =
    let a = number_less ps v h in
    let b = puts_size ring is_in ps gs w u r in
    let c = is_less ps v h in
    let d = puts_marked ring is_in ps gs w u r in
    lt-ltb (number_in ps v) (length u.puts) (omega arith) ∙ sym (lt-ltb v (length w.puts) (omega arith))

pub direct_same : (ring : RingValue) (is_in : ℕ → Bool) (ps gs : List Bool) (w u : World) (a b : ℕ) → Follows ring is_in ps gs w u → is_of_part ps a ≡ true → is_of_part ps b ≡ true
    → is_direct u (number_in ps a) (number_in ps b) ≡ is_direct w a b
direct_same ring is_in ps gs w u a b r ha hb = rw (
  less_same ps b a hb ha,
  put_there ring is_in ps gs w u a r ha,
  same_key ring is_in ps gs w u a r ha,
  same_key ring is_in ps gs w u b r hb,
  same_writer ring is_in ps gs w u a r ha,
  same_writer ring is_in ps gs w u b r hb,
  same_seen ring is_in ps gs w u a r ha,
  some_replied_same ring is_in ps gs w u (seen_of w a) b r (seen_mine ring is_in ps gs w u a r ha) hb,
) refl

direct_mine : (ring : RingValue) (is_in : ℕ → Bool) (ps gs : List Bool) (w u : World) (a b : ℕ) → Follows ring is_in ps gs w u → is_of_part ps a ≡ true → is_direct w a b ≡ true → is_of_part ps b ≡ true
direct_mine ring is_in ps gs w u a b r h d =
    let p = direct_parts w a b d in
    let l = p.less in
    let m = p.exists in
    let e : key_of_put w a ≡ key_of_put w b = (bytes_eq-Decides (key_of_put w a) (key_of_put w b)).0 p.same_key in
    put_mark ring is_in ps gs w u b r (omega arith) ∙ (ap (is_key_in ring is_in) (sym e) ∙ (sym (put_mark ring is_in ps gs w u a r m) ∙ h))

-- ---- succession

forward : (ring : RingValue) (is_in : ℕ → Bool) (ps gs : List Bool) (w u : World) (a b : ℕ) → Follows ring is_in ps gs w u → is_of_part ps a ≡ true → Succeeds w a b → Succeeds u (number_in ps a) (number_in ps b)
forward ring is_in ps gs w u a b r h (itself _) = itself (number_in ps a)
forward ring is_in ps gs w u a b r h (by _ m _ d s) =
    let o = direct_mine ring is_in ps gs w u a m r h d in
    by (number_in ps a) (number_in ps m) (number_in ps b) (direct_same ring is_in ps gs w u a m r h o ∙ d) (forward ring is_in ps gs w u m b r o s)

back : (ring : RingValue) (is_in : ℕ → Bool) (ps gs : List Bool) (w u : World) (a n t : ℕ) → Follows ring is_in ps gs w u → is_of_part ps a ≡ true → number_in ps a ≡ n → Succeeds u n t → (b : ℕ) × (is_of_part ps b ≡ true) × (number_in ps b ≡ t) × Succeeds w a b
back ring is_in ps gs w u a n t r h e (itself _) = (a, h, e, itself a)
back ring is_in ps gs w u a n t r h e (by _ m _ d s) =
    let l = (direct_parts u n m d).less in
    let k = number_less ps a h in
    let f = number_found ps m (omega arith) in
    let g = back ring is_in ps gs w u f.0 m t r f.1 f.2 s in
    let c : is_direct u (number_in ps a) (number_in ps f.0) ≡ true = subst (λ z. is_direct u z (number_in ps f.0) ≡ true) (sym e) (subst (λ z. is_direct u n z ≡ true) (sym f.2) d) in
    (g.0, g.1, g.2, by a f.0 g.0 (sym (direct_same ring is_in ps gs w u a f.0 r h f.1) ∙ c) g.3)

pub succeeds_same : (ring : RingValue) (is_in : ℕ → Bool) (ps gs : List Bool) (w u : World) (a b : ℕ) → Follows ring is_in ps gs w u → is_of_part ps a ≡ true → is_of_part ps b ≡ true
    → succeeds u (number_in ps a) (number_in ps b) ≡ succeeds w a b
succeeds_same ring is_in ps gs w u a b r ha hb = same_test (succeeds u (number_in ps a) (number_in ps b)) (succeeds w a b)
    (λ e. (
    let g = back ring is_in ps gs w u a (number_in ps a) (number_in ps b) r ha refl (succeeds_is u (number_in ps a) (number_in ps b) e) in
    is_succeeds w a b (subst (λ z. Succeeds w a z) (number_one ps g.0 b g.1 hb g.2) g.3)))
    (λ e. is_succeeds u (number_in ps a) (number_in ps b) (forward ring is_in ps gs w u a b r ha (succeeds_is w a b e)))

-- ---- the latest

some_succeeds_same : (ring : RingValue) (is_in : ℕ → Bool) (ps gs : List Bool) (w u : World) (v : ℕ) (vs : List ℕ) → Follows ring is_in ps gs w u → is_of_part ps v ≡ true → AllOf ps vs
    → some_succeeds u (number_in ps v) (map (number_in ps) vs) ≡ some_succeeds w v vs
some_succeeds_same ring is_in ps gs w u v [] r h a = refl
some_succeeds_same ring is_in ps gs w u v (x ∷ vs) r h a =
    let f = first_of_all ps x vs a in
    rw (one_same ps x v f h, succeeds_same ring is_in ps gs w u x v r f h, some_succeeds_same ring is_in ps gs w u v vs r h (later_of ps x vs a)) refl

latest_of_same : (ring : RingValue) (is_in : ℕ → Bool) (ps gs : List Bool) (w u : World) (all vs : List ℕ) → Follows ring is_in ps gs w u → AllOf ps all → AllOf ps vs
    → latest_of u (map (number_in ps) all) (map (number_in ps) vs) ≡ map (number_in ps) (latest_of w all vs)
latest_of_same ring is_in ps gs w u all [] r a b = refl
latest_of_same ring is_in ps gs w u all (v ∷ vs) r a b =
    rw (some_succeeds_same ring is_in ps gs w u v all r (first_of_all ps v vs b) a, latest_of_same ring is_in ps gs w u all vs r a (later_of ps v vs b)) (here (some_succeeds w v all))
  where
    here : (t : Bool) → cond t (map (number_in ps) (latest_of w all vs)) (number_in ps v ∷ map (number_in ps) (latest_of w all vs)) ≡ map (number_in ps) (cond t (latest_of w all vs) (v ∷ latest_of w all vs))
    here true = refl
    here false = refl

pub latest_same : (ring : RingValue) (is_in : ℕ → Bool) (ps gs : List Bool) (w u : World) (vs : List ℕ) → Follows ring is_in ps gs w u → AllOf ps vs → latest u (map (number_in ps) vs) ≡ map (number_in ps) (latest w vs)
latest_same ring is_in ps gs w u vs r a = latest_of_same ring is_in ps gs w u vs vs r a a

-- ---- what is held

-- a put that succeeds one of the part is of the part
succeeds_mine : (ring : RingValue) (is_in : ℕ → Bool) (ps gs : List Bool) (w u : World) (a b : ℕ) → Follows ring is_in ps gs w u → is_of_part ps b ≡ true → Succeeds w a b → is_of_part ps a ≡ true
succeeds_mine ring is_in ps gs w u a b r h (itself _) = h
succeeds_mine ring is_in ps gs w u a b r h (by _ m _ d s) =
    let o = succeeds_mine ring is_in ps gs w u m b r h s in
    let p = direct_parts w a m d in
    let l = p.less in
    let n = p.exists in
    let e : key_of_put w a ≡ key_of_put w m = (bytes_eq-Decides (key_of_put w a) (key_of_put w m)).0 p.same_key in
    put_mark ring is_in ps gs w u a r n ∙ (ap (is_key_in ring is_in) e ∙ (sym (put_mark ring is_in ps gs w u m r (omega arith)) ∙ o))

pub held_same : (ring : RingValue) (plan : List Planned) (is_in : ℕ → Bool) (ps gs : List Bool) (w u : World) (s : Slot) (v : ℕ) → Follows ring is_in ps gs w u → is_of_part ps v ≡ true → is_held ring plan u (number_in ps v) s ≡ is_held ring plan w v s
held_same ring plan is_in ps gs w u s v r h =
    ap (λ b. b || some_below (length u.puts) part) (has_same_put ring plan is_in ps gs w u s v r h)
    ∙ ap (λ b. slot_has ring plan w s v || b) (some_put_same ring is_in ps gs w u part whole r record {
      same = λ t m. (
          ap (λ b. b && slot_has ring plan u s (number_in ps t)) (succeeds_same ring is_in ps gs w u t v r m h)
          ∙ ap (λ b. succeeds w t v && b) (has_same_put ring plan is_in ps gs w u s t r m));
      only = λ t l e. succeeds_mine ring is_in ps gs w u t v r h (succeeds_is w t v (and_parts (succeeds w t v) (slot_has ring plan w s t) e).0);
    })
  where
    part : ℕ → Bool
    part t = succeeds u t (number_in ps v) && slot_has ring plan u s t

    whole : ℕ → Bool
    whole t = succeeds w t v && slot_has ring plan w s t
