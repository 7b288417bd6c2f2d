-- Who enters the group of a slot.
use Rattle.std.proofs.Common.{◌≡◌, ◌≢◌, ◌⊎◌, inl, inr, ◌∙◌, ℕ, ◌<◌, Bool, true, false, not, List, length, refl, sym, ap, subst}
use Rattle.std.specs.Prelude.{◌&&◌, ◌==◌, Option, Some, None}
use Rattle.std.proofs.lemmas.Bool.Decides.{eqb_tells}
use Rattle.ring_names.specs.declared.ids.NodeId.{NodeId}
use Rattle.ring_names.specs.declared.ids.Slot.{Slot}
use Rattle.ring_table.specs.Value.{RingValue}
use Rattle.plan_text.specs.declared.step.Step.{Step}
use Rattle.plan_text.specs.declared.step.Step.TheVariants.{Join, Mirror, Copy, Switch, Drop, Retire}
use Rattle.plan_text.specs.declared.step.Planned.{Planned}
use Rattle.plan_runs.specs.World.{PutRecord, World, stage_now, keeps, keeps_other, is_served}
use Rattle.plan_runs.specs.Guards.{serves_in}
use Rattle.plan_runs.specs.Effects.{with_number, with_puts}
use Rattle.plan_stage.specs.Each.{step_at, sibling}
use Rattle.plan_runs.proofs.Groups.{Served, Keeps, InGroup, served_is, moved}
use Rattle.plan_runs.proofs.Passing.{some_is}
use Rattle.plan_order.specs.Before.{Before}
use Rattle.plan_check.specs.Sound.{HaveLeft}
use Rattle.plan_check.proofs.Mirrored.{Known, rises, down, mirrored_alone}
use Rattle.plan_runs.proofs.Copying.{closed_with}
use Rattle.plan_runs.proofs.Storing.{with_puts_is}
use Rattle.plan_runs.specs.Reached.{Ready, Reached}

-- two slots of a partition share no node
abbrev pub Apart : RingValue → List Planned → World → Type 0
Apart ring plan w = (p i j x : ℕ) → p < ring.q → i < ring.n → j < ring.n → i ≢ j → InGroup ring plan w (record { partition = p; index = i }) x → InGroup ring plan w (record { partition = p; index = j }) x → ⊥

-- ---- groups that shrink, and one that grows

shrinks : (ring : RingValue) (plan : List Planned) (w u : World) → Apart ring plan w → ((t : Slot) (x : ℕ) → InGroup ring plan u t x → InGroup ring plan w t x) → Apart ring plan u
shrinks ring plan w u a f p i j x l m n ne g h = a p i j x l m n ne (f (record { partition = p; index = i }) x g) (f (record { partition = p; index = j }) x h)

-- the node y enters the group of s, and is in no other of its partition
grows : (ring : RingValue) (plan : List Planned) (w u : World) (s : Slot) (y : ℕ) → Apart ring plan w
    → ((t : Slot) (x : ℕ) → InGroup ring plan u t x → InGroup ring plan w t x ⊎ ((x ≡ y) × (t ≡ s)))
    → ((j : ℕ) → s.partition < ring.q → j < ring.n → j ≢ s.index → InGroup ring plan w (sibling s j) y → ⊥) → Apart ring plan u
grows ring plan w u s y a f alone p i j x l m n ne g h = elim (f (record { partition = p; index = i }) x g) [
  | inl b ↦ elim (f (record { partition = p; index = j }) x h) [
    | inl c ↦ a p i j x l m n ne b c
    | inr c ↦ clash i j m ne c.0 c.1 b
  ]
  | inr b ↦ elim (f (record { partition = p; index = j }) x h) [
    | inl c ↦ clash j i n (λ e. ne (sym e)) b.0 b.1 c
    | inr c ↦ ne (ap (λ (t : Slot). t.index) (b.1 ∙ sym c.1))
  ]
]
  where
    clash : (old new : ℕ) → old < ring.n → old ≢ new → x ≡ y → record { partition = p; index = new } ≡ s → InGroup ring plan w (record { partition = p; index = old }) x → ⊥
    clash old new lt differ e at b =
        alone old (subst (λ (t : Slot). t.partition < ring.q) at l) lt (λ k. differ (k ∙ sym (ap (λ (t : Slot). t.index) at)))
        (subst (λ (t : Slot). InGroup ring plan w (record { partition = t.partition; index = old }) y) at (subst (λ (z : ℕ). InGroup ring plan w (record { partition = p; index = old }) z) e b))

-- ---- guards, and who is in a group

other_kept : (ring : RingValue) (w : World) (x j : ℕ) (s : Slot) → j < ring.n → j ≢ s.index → Keeps w x (sibling s j) → keeps_other ring w x s ≡ true
other_kept ring w x j s l ne k =
    let f : keeps w x (sibling s j) ≡ true = some_is (length w.puts) (λ v. w.hinted x (sibling s j) v) k.0 k.1 k.2 in
    elim (eqb_tells j s.index) [
      | inl t ↦ absurd (ne t.1)
      | inr t ↦ some_is ring.n (λ i. not (i == s.index) && keeps w x (record { partition = s.partition; index = i })) j l (rw (t.0, f) refl)
    ]

served_serves : (ring : RingValue) (plan : List Planned) (w : World) (p j x : ℕ) → j < ring.n → Served (stage_now ring plan w (record { partition = p; index = j })) x → serves_in ring plan w p x ≡ true
served_serves ring plan w p j x l h =
    some_is ring.n (λ i. is_served (stage_now ring plan w (record { partition = p; index = i })) x) j l (served_is (stage_now ring plan w (record { partition = p; index = j })) x h)

-- ---- a step is done

abbrev pub with_done : World → ℕ → (ℕ → Bool) → (ℕ → Bool) → (ℕ → Slot → ℕ → Bool) → World
with_done w n o a b = record w { done = with_number w.done n; is_open = o; up = a; stored = b }

entered : (ring : RingValue) (plan : List Planned) → Known ring plan → (w : World) (n : ℕ) (o a : ℕ → Bool) (b : ℕ → Slot → ℕ → Bool) → Reached ring plan w → Ready plan w.done n
    → (t : Slot) (x : ℕ) → InGroup ring plan (with_done w n o a b) t x → InGroup ring plan w t x ⊎ (step_at plan n ≡ Some (Mirror t (record { 0 = x })))
entered ring plan k w n o a b r y t x g = elim g [
  | inl s ↦ elim (moved ring plan t w.done n x (rises ring plan k t) (down ring plan k w.done r.closed t) (down ring plan k (with_number w.done n) (closed_with plan w.done n r.closed y) t) s) [
    | inl f ↦ inl (inl f)
    | inr f ↦ inr f
  ]
  | inr s ↦ inl (inr s)
]

-- a mirror step is new, and its node keeps no hint for another slot of the partition
abbrev pub MayMirror : RingValue → List Planned → World → ℕ → Type 0
MayMirror ring plan w n = (s : Slot) (x : NodeId) → step_at plan n ≡ Some (Mirror s x) → (w.done n ≡ false) × (keeps_other ring w x.0 s ≡ false)

pub done_apart : (ring : RingValue) (plan : List Planned) → Known ring plan → HaveLeft ring plan (Before plan) → (w : World) (n : ℕ) (o a : ℕ → Bool) (b : ℕ → Slot → ℕ → Bool) → Reached ring plan w → Apart ring plan w → Ready plan w.done n → MayMirror ring plan w n → Apart ring plan (with_done w n o a b)
done_apart ring plan k left w n o a b r i y may = by (step_at plan n) refl
  where
    same_groups : ((t : Slot) (x : NodeId) → step_at plan n ≡ Some (Mirror t x) → ⊥) → Apart ring plan (with_done w n o a b)
    same_groups never = shrinks ring plan w (with_done w n o a b) i (λ t x g. elim (entered ring plan k w n o a b r y t x g) [ inl f ↦ f | inr f ↦ absurd (never t (record { 0 = x }) f) ])

    alone : (s : Slot) (x : NodeId) → step_at plan n ≡ Some (Mirror s x) → (j : ℕ) → s.partition < ring.q → j < ring.n → j ≢ s.index → InGroup ring plan w (sibling s j) x.0 → ⊥
    alone s x at j p l ne g = elim g [
      | inl h ↦ mirrored_alone ring plan k left w.done n j s x r.closed y (may s x at).0 at p l ne (elim h [
        | inl e ↦ inl (ap (λ (z : ℕ). record { 0 = z }) e)
        | inr e ↦ inr e
      ])
      | inr h ↦ (let e = other_kept ring w x.0 j s l ne h in let f = (may s x at).1 in absurd cc)
    ]

    by : (m : Option Step) → step_at plan n ≡ m → Apart ring plan (with_done w n o a b)
    by None e = same_groups (λ t x f. absurd cc)
    by (Some (Join z)) e = same_groups (λ t x f. absurd cc)
    by (Some (Mirror s z)) e = grows ring plan w (with_done w n o a b) s z.0 i
        (λ t x g. elim (entered ring plan k w n o a b r y t x g) [
          | inl f ↦ inl f
          | inr f ↦ inr (let h : record { 0 = x } ≡ z = cc in ap (λ (m : NodeId). m.0) h, (let h : t ≡ s = cc in h))
        ])
        (alone s z e)
    by (Some (Copy s from)) e = same_groups (λ t x f. absurd cc)
    by (Some (Switch s)) e = same_groups (λ t x f. absurd cc)
    by (Some (Drop s z)) e = same_groups (λ t x f. absurd cc)
    by (Some (Retire z)) e = same_groups (λ t x f. absurd cc)

-- ---- hints

-- hints go, puts come, and stores are lost
pub less_apart : (ring : RingValue) (plan : List Planned) (w : World) (ps : List PutRecord) (b f : ℕ → Slot → ℕ → Bool) (l : ℕ) (m : Slot → ℕ) → Reached ring plan w → Apart ring plan w → ((x : ℕ) (s : Slot) (v : ℕ) → f x s v ≡ true → w.hinted x s v ≡ true)
    → Apart ring plan (record w { puts = ps; stored = b; hinted = f; losses = l; lost = m })
less_apart ring plan w ps b f l m r i fewer = shrinks ring plan w (record w { puts = ps; stored = b; hinted = f; losses = l; lost = m }) i (λ t x g. elim g [
  | inl h ↦ inl h
  | inr h ↦ inr (h.0, (r.hinted x t h.0 (fewer x t h.0 h.2)).0, fewer x t h.0 h.2)
])

pub hint_apart : (ring : RingValue) (plan : List Planned) (w : World) (v : ℕ) (s : Slot) (x : NodeId) (ps : List PutRecord) → Reached ring plan w → Apart ring plan w → serves_in ring plan w s.partition x.0 ≡ false → keeps_other ring w x.0 s ≡ false
    → Apart ring plan (record w { hinted = with_puts w.hinted x s (λ u. u == v); puts = ps })
hint_apart ring plan w v s x ps r i out alone =
    grows ring plan w (record w { hinted = with_puts w.hinted x s (λ u. u == v); puts = ps }) s x.0 i
    (λ t y g. elim g [
      | inl h ↦ inl (inl h)
      | inr h ↦ elim (with_puts_is w.hinted x s (λ u. u == v) y t h.0 h.2) [
        | inl f ↦ inr (f.0, f.1)
        | inr f ↦ inl (inr (h.0, (r.hinted y t h.0 f).0, f))
      ]
    ])
    (λ j p m ne g. elim g [
      | inl h ↦ (let e = served_serves ring plan w s.partition j x.0 m h in absurd cc)
      | inr h ↦ (let e = other_kept ring w x.0 j s m ne h in absurd cc)
    ])
