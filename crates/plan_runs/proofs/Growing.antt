-- Puts and gets that come or change keep what every event leaves true of them.
use Rattle.std.proofs.Common.{◌≡◌, ◌⊎◌, inl, inr, ◌∙◌, ℕ, zero, suc, Bool, true, false, List, [], ◌∷◌, ◌++◌, length, length-append, refl, ap, subst, arith}
use Rattle.std.specs.Prelude.{Some, None, slice_get, is_some}
use Rattle.std.specs.Str.{bytes_eq}
use Rattle.ring_names.specs.Lists.{has}
use Rattle.ring_names.specs.declared.ids.Slot.{Slot}
use Rattle.plan_runs.specs.World.{PutRecord, GetRecord, World, seen_of}
use Rattle.plan_runs.specs.Succession.{replied}
use Rattle.plan_runs.specs.Effects.{changed, has_found}
use Rattle.plan_runs.specs.Reached.{IsPutForGet, IsGetForPut}
use Rattle.plan_runs.proofs.Changed.{read_at, length_changed, part_changed, part_before}
use Rattle.plan_runs.proofs.Storing.{GetsFit, Grows, for_get_stays, for_put_stays, found_exists, reply_exists, seen_exists}

-- ---- one more put, one put changed

pub one_put : (w : World) (p : PutRecord) → Grows w (record w { puts = w.puts ++ p ∷ [] })
one_put w p = record {
  puts = (let l = length-append w.puts (p ∷ []) in omega arith);
  gets = omega arith;
  key = λ v l. part_before (λ (x : PutRecord). x.key) [] w.puts (p ∷ []) v l;
  asked = λ g l. refl;
  of_key = λ k g e. e;
  ended = λ g e. e;
}

pub put_changed : (w : World) (n : ℕ) (f : PutRecord → PutRecord) (b h : ℕ → Slot → ℕ → Bool) → ((x : PutRecord) → (f x).key ≡ x.key) → Grows w (record w { puts = changed w.puts n f; stored = b; hinted = h })
put_changed w n f b h same = record {
  puts = (let l = length_changed w.puts n f in omega arith);
  gets = omega arith;
  key = λ v l. part_changed (λ (x : PutRecord). x.key) [] w.puts n f same v;
  asked = λ g l. refl;
  of_key = λ k g e. e;
  ended = λ g e. e;
}

-- ---- one more get, one get changed

of_key_before : (k : List ℕ) (gs hs : List GetRecord) (g : ℕ) → read_at (λ (x : GetRecord). bytes_eq x.key k) false gs g ≡ true → read_at (λ (x : GetRecord). bytes_eq x.key k) false (gs ++ hs) g ≡ true
of_key_before k [] hs g e = absurd cc
of_key_before k (x ∷ gs) hs zero e = e
of_key_before k (x ∷ gs) hs (suc g) e = of_key_before k gs hs g e

ended_before : (gs hs : List GetRecord) (g : ℕ) → is_some (read_at (λ (x : GetRecord). x.reply) None gs g) ≡ true → is_some (read_at (λ (x : GetRecord). x.reply) None (gs ++ hs) g) ≡ true
ended_before [] hs g e = absurd cc
ended_before (x ∷ gs) hs zero e = e
ended_before (x ∷ gs) hs (suc g) e = ended_before gs hs g e

pub one_get : (w : World) (a : GetRecord) → Grows w (record w { gets = w.gets ++ a ∷ [] })
one_get w a = record {
  puts = omega arith;
  gets = (let l = length-append w.gets (a ∷ []) in omega arith);
  key = λ v l. refl;
  asked = λ g l. part_before (λ (x : GetRecord). x.key) [] w.gets (a ∷ []) g l;
  of_key = λ k g e. of_key_before k w.gets (a ∷ []) g e;
  ended = λ g e. ended_before w.gets (a ∷ []) g e;
}

ended_changed : (gs : List GetRecord) (n : ℕ) (f : GetRecord → GetRecord) → ((x : GetRecord) → is_some x.reply ≡ true → is_some (f x).reply ≡ true) → (g : ℕ)
    → is_some (read_at (λ (x : GetRecord). x.reply) None gs g) ≡ true → is_some (read_at (λ (x : GetRecord). x.reply) None (changed gs n f) g) ≡ true
ended_changed [] n f keep g e = e
ended_changed (x ∷ gs) zero f keep zero e = keep x e
ended_changed (x ∷ gs) zero f keep (suc g) e = e
ended_changed (x ∷ gs) (suc n) f keep zero e = e
ended_changed (x ∷ gs) (suc n) f keep (suc g) e = ended_changed gs n f keep g e

pub get_changes : (w : World) (n : ℕ) (f : GetRecord → GetRecord) → ((x : GetRecord) → (f x).key ≡ x.key) → ((x : GetRecord) → is_some x.reply ≡ true → is_some (f x).reply ≡ true) → Grows w (record w { gets = changed w.gets n f })
get_changes w n f same keep = record {
  puts = omega arith;
  gets = (let l = length_changed w.gets n f in omega arith);
  key = λ v l. refl;
  asked = λ g l. part_changed (λ (x : GetRecord). x.key) [] w.gets n f same g;
  of_key = λ k g e. part_changed (λ (x : GetRecord). bytes_eq x.key k) false w.gets n f (λ x. ap (λ (z : List ℕ). bytes_eq z k) (same x)) g ∙ e;
  ended = λ g e. ended_changed w.gets n f keep g e;
}

-- ---- gets fit where puts come or change

pub gets_kept : (w u : World) → Grows w u → u.gets ≡ w.gets → ((p g : ℕ) → has g (seen_of u p) ≡ true → (has g (seen_of w p) ≡ true) ⊎ IsGetForPut u p g) → GetsFit w → GetsFit u
gets_kept w u grows same named i = record {
  found = λ g k v e. (let f : has_found w g v k ≡ true = subst (λ (gs : List GetRecord). has_found (record w { gets = gs }) g v k ≡ true) same e in for_get_stays w u g v grows (found_exists w g k v f) (i.found g k v f));
  replied = λ g v e. (let f : replied w.gets g v ≡ true = subst (λ (gs : List GetRecord). replied gs g v ≡ true) same e in for_get_stays w u g v grows (reply_exists w.gets g v f) (i.replied g v f));
  seen = λ p g e. elim (named p g e) [
    | inl f ↦ for_put_stays w u p g grows (seen_exists w.puts p g f) (i.seen p g f)
    | inr f ↦ f
  ];
}

-- and where gets come or change, if what they found and were answered fits
pub gets_grow : (w u : World) → Grows w u → u.puts ≡ w.puts
    → ((g k v : ℕ) → has_found u g v k ≡ true → (has_found w g v k ≡ true) ⊎ IsPutForGet u g v)
    → ((g v : ℕ) → replied u.gets g v ≡ true → (replied w.gets g v ≡ true) ⊎ IsPutForGet u g v) → GetsFit w → GetsFit u
gets_grow w u grows same found answered i = record {
  found = λ g k v e. elim (found g k v e) [ inl f ↦ for_get_stays w u g v grows (found_exists w g k v f) (i.found g k v f) | inr f ↦ f ];
  replied = λ g v e. elim (answered g v e) [ inl f ↦ for_get_stays w u g v grows (reply_exists w.gets g v f) (i.replied g v f) | inr f ↦ f ];
  seen = λ p g e. (
      let f : has g (seen_of w p) ≡ true = subst (λ (ps : List PutRecord). has g (read_at (λ (x : PutRecord). x.seen) [] ps p) ≡ true) same e in
      for_put_stays w u p g grows (seen_exists w.puts p g f) (i.seen p g f));
}

-- ---- what a new put has seen

pub new_put_seen : (ps : List PutRecord) (p : PutRecord) (u g : ℕ) → has g (read_at (λ (x : PutRecord). x.seen) [] (ps ++ p ∷ []) u) ≡ true
    → (has g (read_at (λ (x : PutRecord). x.seen) [] ps u) ≡ true) ⊎ ((u ≡ length ps) × (has g p.seen ≡ true))
new_put_seen [] p zero g e = inr (refl, e)
new_put_seen [] p (suc u) g e = absurd cc
new_put_seen (x ∷ ps) p zero g e = inl e
new_put_seen (x ∷ ps) p (suc u) g e = elim (new_put_seen ps p u g e) [ inl f ↦ inl f | inr f ↦ inr ((let z : u ≡ length ps = f.0 in omega arith), f.1) ]

-- ---- a get that comes has found nothing and has no reply

pub new_get_found : (gs : List GetRecord) (a : GetRecord) (g k v : ℕ) → ((j : ℕ) → a.found j ≡ None)
    → (elim (read_at (λ (x : GetRecord). x.found k) None (gs ++ a ∷ []) g) [ Some vs ↦ has v vs | None ↦ false ]) ≡ true
    → (elim (read_at (λ (x : GetRecord). x.found k) None gs g) [ Some vs ↦ has v vs | None ↦ false ]) ≡ true
new_get_found [] a zero k v none e = absurd (let f = rw (none k) at e in cc)
new_get_found [] a (suc g) k v none e = absurd cc
new_get_found (x ∷ gs) a zero k v none e = e
new_get_found (x ∷ gs) a (suc g) k v none e = new_get_found gs a g k v none e

pub new_get_replied : (gs : List GetRecord) (a : GetRecord) (g v : ℕ) → a.reply ≡ None → replied (gs ++ a ∷ []) g v ≡ true → replied gs g v ≡ true
new_get_replied [] a zero v none e = absurd (let f = rw none at e in cc)
new_get_replied [] a (suc g) v none e = absurd cc
new_get_replied (x ∷ gs) a zero v none e = e
new_get_replied (x ∷ gs) a (suc g) v none e = new_get_replied gs a g v none e

-- ---- a get that is changed

pub changed_found : (gs : List GetRecord) (n : ℕ) (f : GetRecord → GetRecord) (g k v : ℕ)
    → (elim (read_at (λ (x : GetRecord). x.found k) None (changed gs n f) g) [ Some vs ↦ has v vs | None ↦ false ]) ≡ true
    → ((elim (read_at (λ (x : GetRecord). x.found k) None gs g) [ Some vs ↦ has v vs | None ↦ false ]) ≡ true)
    ⊎ ((g ≡ n) × (x : GetRecord) × ((elim ((f x).found k) [ Some vs ↦ has v vs | None ↦ false ]) ≡ true) × (slice_get gs g ≡ Some x))
changed_found [] n f g k v e = absurd cc
changed_found (x ∷ gs) zero f zero k v e = inr (refl, x, e, refl)
changed_found (x ∷ gs) zero f (suc g) k v e = inl e
changed_found (x ∷ gs) (suc n) f zero k v e = inl e
changed_found (x ∷ gs) (suc n) f (suc g) k v e = elim (changed_found gs n f g k v e) [ inl h ↦ inl h | inr h ↦ inr (ap suc h.0, h.1, h.2, h.3) ]

pub changed_replied : (gs : List GetRecord) (n : ℕ) (f : GetRecord → GetRecord) (g v : ℕ) → replied (changed gs n f) g v ≡ true
    → (replied gs g v ≡ true) ⊎ ((g ≡ n) × (x : GetRecord) × ((elim (f x).reply [ Some vs ↦ has v vs | None ↦ false ]) ≡ true) × (slice_get gs g ≡ Some x))
changed_replied [] n f g v e = absurd cc
changed_replied (x ∷ gs) zero f zero v e = inr (refl, x, e, refl)
changed_replied (x ∷ gs) zero f (suc g) v e = inl e
changed_replied (x ∷ gs) (suc n) f zero v e = inl e
changed_replied (x ∷ gs) (suc n) f (suc g) v e = elim (changed_replied gs n f g v e) [ inl h ↦ inl h | inr h ↦ inr (ap suc h.0, h.1, h.2, h.3) ]
