-- What comes to nodes by an event, and the versions that show it.
use Rattle.std.proofs.Common.{◌≡◌, ℕ, Bool, true, false, List, refl}
use Rattle.std.specs.Prelude.{◌&&◌, ◌||◌, Option, Some, None}
use Rattle.ring_names.specs.declared.ids.NodeId.{NodeId}
use Rattle.ring_names.specs.declared.ids.Slot.{Slot}
use Rattle.ring_names.proofs.Logic.{or_assoc}
use Rattle.ring_table.specs.Value.{RingValue}
use Rattle.plan_text.specs.declared.step.Source.{Source}
use Rattle.plan_text.specs.declared.step.Planned.{Planned}
use Rattle.ring_clock.specs.declared.entry.Entry.{Entry}
use Rattle.ring_versions.specs.declared.version.Version.{Version}
use Rattle.plan_runs.specs.World.{World, is_of_key, copy_at, stage_now}
use Rattle.plan_runs.specs.Effects.{with_puts, with_mirror_puts, served_puts, is_copied, copied_puts}
use Rattle.store_parts.specs.Shows.{value_of}
use Rattle.store_parts.specs.Stored.{ShowAll, MergeAll, at_node, at_mirror, at_served, copied}
use Rattle.store_parts.proofs.ShownSets.{merge, other_test}

-- puts of the key that were there or come
of_both : (a b k : Bool) → ((a && k) || (b && k)) ≡ ((b || a) && k)
of_both true true true = refl
of_both true true false = refl
of_both true false true = refl
of_both true false false = refl
of_both false true true = refl
of_both false true false = refl
of_both false false true = refl
of_both false false false = refl

pub grown : (w : World) (clock : ℕ → List Entry) (old more new : ℕ → Slot → List ℕ → List Version) (test extra : ℕ → Slot → ℕ → Bool) → ShowAll w clock old test → ShowAll w clock more extra → MergeAll old more new
    → ShowAll w clock new (λ x s v. extra x s v || test x s v)
grown w clock old more new test extra a b m x s k =
    other_test clock (value_of w) (new x s k) (λ v. (test x s v && is_of_key w k v) || (extra x s v && is_of_key w k v)) (λ v. (extra x s v || test x s v) && is_of_key w k v)
    (λ v. of_both (test x s v) (extra x s v) (is_of_key w k v))
    (merge clock (value_of w) (old x s k) (more x s k) (new x s k) (λ v. test x s v && is_of_key w k v) (λ v. extra x s v && is_of_key w k v) (a x s k) (b x s k) (m x s k))

-- ---- what comes stands in front of what was there

pub mirror_more : (test : ℕ → Slot → ℕ → Bool) (o : Option NodeId) (s : Slot) (more : ℕ → Bool) (y : ℕ) (t : Slot) (v : ℕ) → with_mirror_puts test o s more y t v ≡ (at_mirror o s more y t v || test y t v)
mirror_more test None s more y t v = refl
mirror_more test (Some x) s more y t v = refl

pub served_more : (ring : RingValue) (plan : List Planned) (w : World) (s : Slot) (more : ℕ → Bool) (y : ℕ) (t : Slot) (v : ℕ) → served_puts ring plan w s more y t v ≡ (at_served ring plan w s more y t v || w.stored y t v)
served_more ring plan w s more y t v = by (stage_now ring plan w s).mirror (stage_now ring plan w s).owner
  where
    by : (o : Option NodeId) (x : NodeId) → with_mirror_puts (with_puts w.stored x s more) o s more y t v ≡ ((at_mirror o s more y t v || at_node x s more y t v) || w.stored y t v)
    by None x = refl
    by (Some z) x = or_assoc (at_node z s more y t v) (at_node x s more y t v) (w.stored y t v)

pub copied_more : (ring : RingValue) (plan : List Planned) (w : World) (n c : ℕ) (y : ℕ) (t : Slot) (v : ℕ) → copied_puts ring plan w n c y t v ≡ (copied ring plan w n c y t v || w.stored y t v)
copied_more ring plan w n c y t v = by (copy_at plan n)
  where
    by : (o : Option (Slot × Source)) → (elim o as (λ _. ℕ → Slot → ℕ → Bool) [ Some k ↦ with_mirror_puts w.stored (stage_now ring plan w k.0).mirror k.0 (is_copied ring plan w k.0 k.1 c) | None ↦ w.stored ]) y t v
        ≡ ((elim o as (λ _. Bool) [ Some k ↦ at_mirror (stage_now ring plan w k.0).mirror k.0 (is_copied ring plan w k.0 k.1 c) y t v | None ↦ false ]) || w.stored y t v)
    by None = refl
    by (Some k) = mirror_more w.stored (stage_now ring plan w k.0).mirror k.0 (is_copied ring plan w k.0 k.1 c) y t v
