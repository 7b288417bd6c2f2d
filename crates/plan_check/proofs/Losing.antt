-- A store that is lost takes at most one of the slots at which a put is firm.
use Rattle.std.proofs.Common.{◌≡◌, ◌≢◌, ◌⊎◌, inl, inr, ◌∙◌, ℕ, ◌+◌, ◌<◌, ◌≤◌, Bool, true, false, cond, not, List, [], ◌∷◌, length, Option, Some, None, refl}
use Rattle.std.proofs.Common.{sym, ap, subst, arith, ltb-true, eqb-true, eq-eqb}
use Rattle.std.specs.Prelude.{◌==◌, nat_lt}
use Rattle.std.proofs.lemmas.Bool.Decides.{eqb_tells}
use Rattle.std.proofs.lemmas.Bool.{or_right, and_from, or_cases, or_left}
use Rattle.ring_names.specs.Lists.{has, all_different}
use Rattle.ring_names.specs.declared.ids.NodeId.{NodeId}
use Rattle.ring_names.specs.declared.ids.Slot.{Slot}
use Rattle.ring_table.specs.Value.{RingValue}
use Rattle.plan_text.specs.declared.step.Planned.{Planned}
use Rattle.plan_runs.specs.World.{World, key_of_put, stage_now, keeps, is_served, is_in_group, mirrors_done, generation}
use Rattle.plan_runs.specs.Versions.{put_slot, some_hinted}
use Rattle.plan_runs.specs.Guards.{is_current}
use Rattle.plan_runs.specs.Effects.{without_node, lose_effect}
use Rattle.plan_check.specs.Firm.{IsTwice, FirmSlots, Holding}
use Rattle.plan_runs.specs.Reached.{Reached}
use Rattle.plan_check.proofs.Entering.{Apart}
use Rattle.plan_runs.proofs.Filling.{at_mirror_more}
use Rattle.plan_runs.proofs.Groups.{InGroup, served_is, in_group}
use Rattle.plan_runs.proofs.Lasting.{Extends}
use Rattle.plan_check.proofs.Mirrored.{Known}
use Rattle.plan_runs.proofs.Passing.{some_found, some_is}
use Rattle.plan_runs.proofs.Places.{partition_within}
use Rattle.plan_check.proofs.Quiet.{tickets_keep}
use Rattle.plan_check.proofs.Quorums.{without, kept-in, different-without, one-taken}
use Rattle.plan_runs.proofs.Serial.{acked_exists}
use Rattle.plan_check.proofs.Standing.{SlotKeeps, twice_stays, firm_stays}
use Rattle.plan_runs.proofs.Ticketed.{generation_more, lose_more}
use Rattle.plan_stage.proofs.Truth.{list_all-met, list_all-all}

-- ---- lists

-- one of the list passes the test, or none does
pub one_or_none : (test : ℕ → Bool) (xs : List ℕ) → ((i : ℕ) × (has i xs ≡ true) × (test i ≡ true)) ⊎ ((i : ℕ) → has i xs ≡ true → test i ≡ false)
one_or_none test [] = inr (λ i h. absurd cc)
one_or_none test (x ∷ xs) = by (test x) refl (one_or_none test xs)
  where
    by : (b : Bool) → test x ≡ b → ((i : ℕ) × (has i xs ≡ true) × (test i ≡ true)) ⊎ ((i : ℕ) → has i xs ≡ true → test i ≡ false)
        → ((i : ℕ) × (has i (x ∷ xs) ≡ true) × (test i ≡ true)) ⊎ ((i : ℕ) → has i (x ∷ xs) ≡ true → test i ≡ false)
    by true e rest = inl (x, or_left (x == x) (has x xs) (eq-eqb x x refl), e)
    by false e (inl f) = inl (f.0, or_right (f.0 == x) (has f.0 xs) f.1, f.2)
    by false e (inr f) = inr (λ i h. elim (or_cases (i == x) (has i xs) h) [
      | inl g ↦ subst (λ z. test z ≡ false) (sym (eqb-true i x g)) e
      | inr g ↦ f i g
    ])

-- a number that was taken out is not among the rest
pub gone : (n : ℕ) (xs : List ℕ) → has n (without n xs) ≡ false
gone n [] = refl
gone n (x ∷ xs) = elim (eqb_tells n x) [
  | inl t ↦ rw t.0 (gone n xs)
  | inr t ↦ rw (t.0, t.0) (gone n xs)
]

-- ---- slots whose group does not have the node

-- who is in a group passes the test of it
pub group_is : (ring : RingValue) (plan : List Planned) (w : World) (s : Slot) (x : ℕ) → InGroup ring plan w s x → is_in_group ring plan w s x ≡ true
group_is ring plan w s x g = elim g [
  | inl h ↦ or_left (is_served (stage_now ring plan w s) x) (keeps w x s) (served_is (stage_now ring plan w s) x h)
  | inr h ↦ or_right (is_served (stage_now ring plan w s) x) (keeps w x s) (some_is (length w.puts) (λ v. w.hinted x s v) h.0 h.1 h.2)
]

-- another node keeps what it has
stays_at : (f : ℕ → Slot → ℕ → Bool) (x : NodeId) (y : ℕ) (s : Slot) (v : ℕ) → y ≢ x.0 → f y s v ≡ true → without_node f x y s v ≡ true
stays_at f x y s v ne e = elim (eqb_tells y x.0) [
  | inl t ↦ absurd (ne t.1)
  | inr t ↦ and_from (not (y == x.0)) (f y s v) (rw t.0 refl) e
]

-- node x loses what it stores and keeps
module _ (ring : RingValue) (plan : List Planned) (w : World) (x : NodeId) (r : Reached ring plan w) (e : Extends w (lose_effect ring plan w x)) where
  -- the world after that
  abbrev lost : World
  lost = lose_effect ring plan w x

  -- a slot whose group does not have it keeps what it has
  other_slots : (s : Slot) → is_in_group ring plan w s x.0 ≡ false → SlotKeeps ring plan w lost s
  other_slots s out = record {
    held = λ v f. elim (or_cases (w.stored owner.0 s v) (some_hinted ring w s v) f) [
      | inl g ↦ or_left (lost.stored owner.0 s v) (some_hinted ring lost s v) (stays_at w.stored x owner.0 s v (λ i. apart (inl (inl (sym i)))) g)
      | inr g ↦ or_right (lost.stored owner.0 s v) (some_hinted ring lost s v) (kept v g)
    ];
    alone = λ f. f;
    mirrored = λ m is v f. elim (or_cases (elim mirror [ Some z ↦ w.stored z.0 s v | None ↦ false ]) (some_hinted ring w s v) f) [
      | inl g ↦ or_left (elim mirror [ Some z ↦ lost.stored z.0 s v | None ↦ false ]) (some_hinted ring lost s v)
          (at_mirror_more mirror (λ z. w.stored z s v) (λ z. lost.stored z s v)
          (λ z i d. stays_at w.stored x z.0 s v (λ j. apart (inl (inr (i ∙ ap (λ (q : ℕ). Some (record { 0 = q })) j)))) d) g)
      | inr g ↦ or_right (elim mirror [ Some z ↦ lost.stored z.0 s v | None ↦ false ]) (some_hinted ring lost s v) (kept v g)
    ];
  }
    where
      owner : NodeId
      owner = (stage_now ring plan w s).owner

      mirror : Option NodeId
      mirror = (stage_now ring plan w s).mirror

      apart : InGroup ring plan w s x.0 → ⊥
      apart g = (let f = group_is ring plan w s x.0 g in absurd cc)

      kept : (v : ℕ) → some_hinted ring w s v ≡ true → some_hinted ring lost s v ≡ true
      kept v g =
          let y = some_found (length ring.nodes) (λ z. w.hinted z s v) g in
          some_is (length ring.nodes) (λ z. lost.hinted z s v) y.0 y.1 (stays_at w.hinted x y.0 s v
          (λ i. apart (inr (v, (r.hinted y.0 s v y.2).0, subst (λ (z : ℕ). w.hinted z s v ≡ true) i y.2))) y.2)

  -- a slot of the node's group has a new generation, and the others keep what is at owner and mirror
  twice_or_new : (s : Slot) (v : ℕ) → generation plan lost s ≡ generation plan w s → IsTwice ring plan w v s → IsTwice ring plan lost v s
  twice_or_new s v same t = by (is_in_group ring plan w s x.0) refl same
    where
      by : (b : Bool) → is_in_group ring plan w s x.0 ≡ b → mirrors_done plan w s + cond b (w.lost s + 1) (w.lost s) ≡ mirrors_done plan w s + w.lost s
          → IsTwice ring plan lost v s
      by true g f = absurd (omega arith)
      by false g f = twice_stays ring plan w lost s r e (other_slots s g) v t

  -- so current tickets are of puts at owner and mirror
  pub lose_tickets : Holding ring plan w → (v i : ℕ) → v < length w.puts → is_current ring plan lost v i ≡ true
      → IsTwice ring plan lost v (put_slot ring lost v i)
  lose_tickets h =
      tickets_keep ring plan w lost r h e (λ s. generation_more plan w lost s (λ m d. d) (lose_more ring plan w x s)) twice_or_new (λ v i g d. inl d)

  -- slots whose groups do not have the node
  spared : (v : ℕ) (slots rest : List ℕ) → v < length w.puts → FirmSlots ring plan w v slots → all_different rest ≡ true
      → ((i : ℕ) → has i rest ≡ true → has i slots ≡ true)
      → ((i : ℕ) → has i rest ≡ true → is_in_group ring plan w (put_slot ring w v i) x.0 ≡ false) → FirmSlots ring plan lost v rest
  spared v slots rest l f different among out = record {
    different = different;
    within = list_all-all (λ i. nat_lt i ring.n) rest (λ i h. list_all-met (λ j. nat_lt j ring.n) slots f.within i (among i h));
    firm = λ i h. firm_stays ring plan w lost (put_slot ring w v i) r e (other_slots (put_slot ring w v i) (out i h)) v l (λ g. g) (f.firm i (among i h));
  }

  -- of the slots at which a put is firm at most one goes
  pub lose_slots : Known ring plan → Apart ring plan w → (v : ℕ) (slots : List ℕ) → v < length w.puts → FirmSlots ring plan w v slots
      → (rest : List ℕ) × FirmSlots ring plan lost v rest × (length slots ≤ length rest + 1) × ((i : ℕ) → has i rest ≡ true → has i slots ≡ true)
  lose_slots k i v slots l f = elim (one_or_none (λ j. is_in_group ring plan w (put_slot ring w v j) x.0) slots) [
    | inr none ↦ (slots, spared v slots slots l f f.different (λ j h. h) none, omega arith, λ j h. h)
    | inl one ↦ (
      without one.0 slots,
      spared v slots (without one.0 slots) l f (different-without one.0 slots f.different) (λ j h. kept-in one.0 j slots h)
          (others one.0 one.1 one.2),
      one-taken one.0 slots f.different,
      λ j h. kept-in one.0 j slots h,
    )
  ]
    where
      inside : (j : ℕ) → has j slots ≡ true → j < ring.n
      inside j h = ltb-true j ring.n (list_all-met (λ z. nat_lt z ring.n) slots f.within j h)

      others : (n : ℕ) → has n slots ≡ true → is_in_group ring plan w (put_slot ring w v n) x.0 ≡ true → (j : ℕ) → has j (without n slots) ≡ true
          → is_in_group ring plan w (put_slot ring w v j) x.0 ≡ false
      others n at group j h = by (is_in_group ring plan w (put_slot ring w v j) x.0) refl
        where
          by : (b : Bool) → is_in_group ring plan w (put_slot ring w v j) x.0 ≡ b → b ≡ false
          by false g = refl
          by true g =
              absurd (i (put_slot ring w v n).partition n j x.0 (partition_within ring.q (key_of_put w v) k.is_ring.space) (inside n at)
              (inside j (kept-in n j slots h))
              (λ same. (let o = gone n slots in let m : has n (without n slots) ≡ true = subst (λ z. has z (without n slots) ≡ true) (sym same) h in absurd
              cc))
              (in_group ring plan w (put_slot ring w v n) x.0 group) (in_group ring plan w (put_slot ring w v j) x.0 g))

  -- and acknowledged puts stay firm enough, with one loss more
  pub lose_holding : Known ring plan → Apart ring plan w → Holding ring plan w → Holding ring plan lost
  lose_holding k i h = record {
    tickets = lose_tickets h;
    acked = λ v a. (
        let f = h.acked v a in
        let g = lose_slots k i v f.0 (acked_exists w.puts v a) f.1 in
        let enough : ring.w ≤ length f.0 + w.losses = f.2 in
        let fewer : length f.0 ≤ length g.0 + 1 = g.2 in
        (g.0, g.1, omega arith));
  }
