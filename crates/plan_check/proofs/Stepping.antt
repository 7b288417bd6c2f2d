-- A step that is done keeps what is held at each slot.
use Rattle.std.proofs.Common.{◌≡◌, inl, inr, ◌∙◌, ℕ, ◌<◌, Bool, true, false, List, length, Option, Some, None, refl, sym, ap, subst, arith}
use Rattle.std.specs.Prelude.{◌&&◌, ◌%◌, is_some, unwrap_or, option_and_then}
use Rattle.std.proofs.lemmas.Bool.{and_parts, or_right, or_cases, or_left}
use Rattle.ring_names.specs.Lists.{has}
use Rattle.ring_names.specs.declared.ids.NodeId.{NodeId}
use Rattle.ring_names.specs.declared.ids.Slot.{Slot}
use Rattle.ring_table.specs.Value.{RingValue}
use Rattle.plan_text.specs.declared.step.Step.{Step}
use Rattle.plan_text.specs.declared.step.Step.TheVariants.{Join, Mirror, Copy, Switch, Drop, Retire}
use Rattle.plan_text.specs.declared.step.Planned.{Planned}
use Rattle.plan_text.specs.Steps.{steps_of, is_on, mirror_of}
use Rattle.plan_stage.specs.declared.stage.Stage.{Stage}
use Rattle.plan_stage.specs.Stage.{stage, is_among, switched}
use Rattle.plan_stage.specs.Each.{step_at}
use Rattle.plan_runs.specs.World.{World, count, stage_now, mirror_at, mirrors_done, generation}
use Rattle.plan_runs.specs.Versions.{slot_has, some_hinted}
use Rattle.plan_check.specs.Firm.{mirror_has, IsMirrored, IsTwice, chunk_of_put, IsFirm}
use Rattle.plan_check.specs.Occupies.{IsGoodStage, IsGoodMirror}
use Rattle.plan_runs.specs.Reached.{Ready, Reached}
use Rattle.plan_check.proofs.Entering.{with_done}
use Rattle.plan_runs.proofs.Filling.{at_mirror, from_mirror}
use Rattle.plan_check.proofs.Given.{copied_given, none_given}
use Rattle.plan_check.proofs.Good.{good-stages}
use Rattle.plan_runs.proofs.Groups.{Served}
use Rattle.plan_runs.proofs.Lasting.{Extends}
use Rattle.plan_check.proofs.Mirrored.{Known, down}
use Rattle.plan_check.proofs.Numbering.{mirrors_left, mirrors_up}
use Rattle.plan_runs.proofs.Prefix.{prefix}
use Rattle.plan_check.proofs.Staging.{on_it, count_left, stage_done}
use Rattle.plan_check.proofs.Standing.{SlotKeeps, held_stays, mirrored_by, twice_stays, firm_stays}
use Rattle.plan_runs.proofs.Suited.{step-within}
use Rattle.plan_stage.proofs.Truth.{slot-same}
use Rattle.plan_stage.proofs.Holders.{has-step}

-- what is at owner and mirror stays so where the slot's generation stays, and what is firm stays firm
pub record Goes (ring : RingValue) (plan : List Planned) (w u : World) (s : Slot) : Type 0 where
  pub twice : (v : ℕ) → generation plan u s ≡ generation plan w s → IsTwice ring plan w v s → IsTwice ring plan u v s
  pub firm : (v : ℕ) → v < length w.puts → IsFirm ring plan w v s → IsFirm ring plan u v s

-- a mirror that is there
some_of : (o : Option NodeId) → is_some o ≡ true → (m : NodeId) × (o ≡ Some m)
some_of None e = absurd cc
some_of (Some m) e = (m, refl)

-- a chunk's number is below 16
below_sixteen : (x : ℕ) → x % 16 < 16
below_sixteen x = omega arith

-- step n, new and ready, is done, and nodes store b
module _ (ring : RingValue) (plan : List Planned) (k : Known ring plan) (w : World) (n : ℕ) (o a : ℕ → Bool) (b : ℕ → Slot → ℕ → Bool)
    (r : Reached ring plan w) (x : Extends w (with_done w n o a b)) (y : Ready plan w.done n) (off : w.done n ≡ false) where
  -- the world after it
  abbrev u : World
  u = with_done w n o a b

  -- the slot's stage before
  abbrev was : Slot → Stage
  was s = stage_now ring plan w s

  -- and after
  abbrev is : Slot → Stage
  is s = stage_now ring plan u s

  -- the slot keeps its owner, and the owner what it had
  owned : (s : Slot) → (is s).owner ≡ (was s).owner → ((v : ℕ) → w.stored (was s).owner.0 s v ≡ true → b (was s).owner.0 s v ≡ true)
      → (v : ℕ) → slot_has ring plan w s v ≡ true → slot_has ring plan u s v ≡ true
  owned s owner kept v e = elim (or_cases (w.stored (was s).owner.0 s v) (some_hinted ring w s v) e) [
    | inl g ↦ or_left (b (is s).owner.0 s v) (some_hinted ring w s v) (subst (λ (z : NodeId). b z.0 s v ≡ true) (sym owner) (kept v g))
    | inr g ↦ or_right (b (is s).owner.0 s v) (some_hinted ring w s v) g
  ]

  -- its mirror too
  still : (s : Slot) → (is s).owner ≡ (was s).owner → (is s).mirror ≡ (was s).mirror
      → ((z : ℕ) → Served (was s) z → (v : ℕ) → w.stored z s v ≡ true → b z s v ≡ true) → SlotKeeps ring plan w u s
  still s owner mirror kept = record {
    held = owned s owner (kept (was s).owner.0 (inl refl));
    alone = λ e. mirror ∙ e;
    mirrored = λ m e v f. elim (or_cases (elim (was s).mirror [ Some z ↦ w.stored z.0 s v | None ↦ false ]) (some_hinted ring w s v) f) [
      | inl g ↦ or_left (elim (is s).mirror [ Some z ↦ b z.0 s v | None ↦ false ]) (some_hinted ring w s v)
          (at_mirror (is s).mirror (λ z. b z s v) m (mirror ∙ e) (kept m.0 (inr e) v (from_mirror (was s).mirror (λ z. w.stored z s v) m e g)))
      | inr g ↦ or_right (elim (is s).mirror [ Some z ↦ b z.0 s v | None ↦ false ]) (some_hinted ring w s v) g
    ];
  }

  -- and no mirror of it has begun
  keeping : (s : Slot) → SlotKeeps ring plan w u s → mirrors_done plan u s ≡ mirrors_done plan w s → Goes ring plan w u s
  keeping s m same = record {
    twice = λ v e t. twice_stays ring plan w u s r x m v t;
    firm = λ v l f. firm_stays ring plan w u s r x m v l (λ g. (g.0, g.1, g.2, g.3, g.4 ∙ same)) f;
  }

  -- the step is not on the slot
  elsewhere : (s : Slot) → (has n (steps_of plan s) ≡ true → ⊥) → ((z v : ℕ) → w.stored z s v ≡ true → b z s v ≡ true) → Goes ring plan w u s
  elsewhere s out kept =
      let same = count_left w.done n (steps_of plan s) out in
      keeping s (still s (ap (λ (c : ℕ). (stage ring plan s c).owner) same) (ap (λ (c : ℕ). (stage ring plan s c).mirror) same) (λ z g v e. kept z v e))
      (mirrors_left plan w.done n s (λ h. absurd (out h)))

  -- a mirror begins: no ticket of the slot is current, and no chunk is given
  begun : (s t : Slot) (m : NodeId) → step_at plan n ≡ Some (Mirror t m) → is_on s (Mirror t m) ≡ true → ((z v : ℕ) → w.stored z s v ≡ true → b z s v ≡ true)
      → Goes ring plan w u s
  begun s t m at on kept = record {
    twice = λ v e f. absurd (let l = mirrors_up plan w.done n s inside off is_mirror in omega arith);
    firm = λ v l f. (
      held_stays ring plan w u s r x (owned s owner (kept (was s).owner.0)) v f.0,
      λ g. absurd (none_given ring plan k w.done w.marked n g.0 (chunk_of_put ring u v) s g.1 r.closed (λ c d e. (r.copies.marks c d e).2) off inside
          is_mirror g.2 g.3 g.4),
    );
  }
    where
      inside : has n (steps_of plan s) ≡ true
      inside = has-step plan s n (Mirror t m) at on

      is_mirror : is_some (mirror_at plan n) ≡ true
      is_mirror = ap (λ (q : Option Step). is_some (option_and_then mirror_of q)) at

      owner : (is s).owner ≡ (was s).owner
      owner = ap (λ (c : Stage). c.owner) (stage_done ring plan k w.done n (Mirror t m) s r.closed y off at on).0

  -- the mirror becomes the owner: all chunks were given to it
  switched_over : (s t : Slot) → step_at plan n ≡ Some (Switch t) → is_on s (Switch t) ≡ true → ((z v : ℕ) → w.stored z s v ≡ true → b z s v ≡ true)
      → Goes ring plan w u s
  switched_over s t at on kept = record {
    twice = λ v e f. over v f.1;
    firm =
        λ v l f. (let g = over v (f.1 (copied_given ring plan k w s (chunk_of_put ring w v) r.closed r.copies fit.1 (below_sixteen _))) in (g.0, λ h. g.1));
  }
    where
      done : (is s ≡ switched (was s)) × ((is_some (was s).mirror && (was s).copied) ≡ true)
      done = stage_done ring plan k w.done n (Switch t) s r.closed y off at on

      fit : (is_some (was s).mirror ≡ true) × ((was s).copied ≡ true)
      fit = and_parts (is_some (was s).mirror) (was s).copied done.1

      m : (z : NodeId) × ((was s).mirror ≡ Some z)
      m = some_of (was s).mirror fit.0

      owner : (is s).owner ≡ m.0
      owner = ap (λ (c : Stage). c.owner) done.0 ∙ ap (λ (q : Option NodeId). unwrap_or q (was s).owner) m.1

      alone : (is s).mirror ≡ None
      alone = ap (λ (c : Stage). c.mirror) done.0

      moved : (v : ℕ) → mirror_has ring plan w s v ≡ true → slot_has ring plan u s v ≡ true
      moved v e = elim (or_cases (elim (was s).mirror [ Some z ↦ w.stored z.0 s v | None ↦ false ]) (some_hinted ring w s v) e) [
        | inl g ↦ (
            let there = kept m.0.0 v (from_mirror (was s).mirror (λ z. w.stored z s v) m.0 m.1 g) in
            or_left (b (is s).owner.0 s v) (some_hinted ring w s v) (subst (λ (z : NodeId). b z.0 s v ≡ true) (sym owner) there))
        | inr g ↦ or_right (b (is s).owner.0 s v) (some_hinted ring w s v) g
      ]

      over : (v : ℕ) → IsMirrored ring plan w v s → IsTwice ring plan u v s
      over v (inl none) = absurd (let e = sym none ∙ m.1 in cc)
      over v (inr f) = (mirrored_by ring plan w u s r x v (slot_has ring plan u s) moved f, inl alone)

  -- no node that serves the slot has to drop what it holds of it
  no_leftover : (s : Slot) (m : NodeId) (z : ℕ) → s.partition < ring.q → s.index < ring.n → is_among m (was s).leftovers ≡ true → Served (was s) z → z ≡ m.0
      → ⊥
  no_leftover s m z p i among served same =
      let le = (prefix w.done (steps_of plan s) (down ring plan k w.done r.closed s)).within in
      let good : IsGoodStage (was s) = good-stages ring plan s (λ q f g. k.in_turn.staged q) p i (count w.done (steps_of plan s)) le in
      let listed : is_among (record { 0 = z }) (was s).leftovers ≡ true = subst (λ (q : ℕ). is_among (record { 0 = q }) (was s).leftovers ≡ true) (sym same) among in
      elim served [
        | inl e ↦ (let f = subst (λ (q : ℕ). is_among (record { 0 = q }) (was s).leftovers ≡ false) (sym e) good.0 in cc)
        | inr e ↦ (let f = (subst (λ (q : Option NodeId). IsGoodMirror (was s) q) e good.1).1 in cc)
      ]

  -- the step is on the slot
  here : (t : Step) (s : Slot) → step_at plan n ≡ Some t → is_on s t ≡ true
      → ((z v : ℕ) → ((m : NodeId) → t ≡ Drop s m → z ≡ m.0 → ⊥) → w.stored z s v ≡ true → b z s v ≡ true) → Goes ring plan w u s
  here (Join m) s at on kept = absurd cc
  here (Mirror t m) s at on kept = begun s t m at on (λ z v e. kept z v (λ q f. absurd cc) e)
  here (Copy t from) s at on kept =
      let d = stage_done ring plan k w.done n (Copy t from) s r.closed y off at on in
      keeping s (still s (ap (λ (c : Stage). c.owner) d.0) (ap (λ (c : Stage). c.mirror) d.0) (λ z g v e. kept z v (λ q f. absurd cc) e))
      (mirrors_left plan w.done n s (λ h. ap (λ (q : Option Step). is_some (option_and_then mirror_of q)) at))
  here (Switch t) s at on kept = switched_over s t at on (λ z v e. kept z v (λ q f. absurd cc) e)
  here (Drop t m) s at on kept =
      let d = stage_done ring plan k w.done n (Drop t m) s r.closed y off at on in
      let i = step-within ring plan k.in_turn.suits s n (Drop t m) at on in
      keeping s (still s (ap (λ (c : Stage). c.owner) d.0) (ap (λ (c : Stage). c.mirror) d.0)
      (λ z g v e. kept z v (λ q f h. no_leftover s m z i.0 i.1 d.1 g (h ∙ (let j : m ≡ q = cc in ap (λ (c : NodeId). c.0) (sym j)))) e))
      (mirrors_left plan w.done n s (λ h. ap (λ (q : Option Step). is_some (option_and_then mirror_of q)) at))
  here (Retire m) s at on kept = absurd cc

  -- so at every slot
  pub stepped : (t : Step) → step_at plan n ≡ Some t
      → ((s : Slot) (z v : ℕ) → ((m : NodeId) → t ≡ Drop s m → z ≡ m.0 → ⊥) → w.stored z s v ≡ true → b z s v ≡ true) → (s : Slot) → Goes ring plan w u s
  stepped t at kept s = by (is_on s t) refl
    where
      by : (c : Bool) → is_on s t ≡ c → Goes ring plan w u s
      by true on = here t s at on (kept s)
      by false on =
          elsewhere s (λ h. (let e = on_it plan s n t at h in absurd cc))
          (λ z v e. kept s z v (λ m f g. (let h = ap (is_on s) f in let i = slot-same s in absurd cc)) e)
