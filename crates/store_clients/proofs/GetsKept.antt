-- Gets that read and end, by all that a store keeps.
use Rattle.std.proofs.Common.{◌≡◌, ◌∙◌, ℕ, ◌<◌, List, sym, ap, subst, arith}
use Rattle.std.specs.Prelude.{Some, None, Ok, slice_get}
use Rattle.std.proofs.Props.{props}
use Rattle.ring_versions.specs.Puts.{ArePuts}
use Rattle.ring_versions.specs.declared.version.Version.{Version}
use Rattle.plan_runs.specs.declared.event.Event.{Event}
use Rattle.plan_runs.specs.declared.event.Event.TheVariants.{Read, EndGet}
use Rattle.plan_runs.specs.declared.event.Reply.{Reply}
use Rattle.plan_runs.specs.declared.event.Reply.TheVariants as reply
use Rattle.plan_runs.specs.World.{World}
use Rattle.plan_runs.specs.Effects.{changed}
use Rattle.plan_runs.specs.Answers.{answer}
use Rattle.store_parts.specs.declared.gets.GetNow.{GetNow}
use Rattle.store_parts.specs.Marks.{with_mark}
use Rattle.store_parts.specs.declared.parts.Parts.{Parts}
use Rattle.store_parts.specs.Kept.{Tells}
use Rattle.store_parts.specs.Parts.{ring_of, plan_of, kept_of, Meets, IsSound, Passes}
use Rattle.store_parts.proofs.StoreInWorld.{holds}
use Rattle.store_clients.specs.Looks.{FindsAt}
use Rattle.store_clients.proofs.GetsStartEnd.{ends_there, ended_on}
use Rattle.store_clients.proofs.SlotHasOfKey.{reads_there}
use Rattle.store_clients.proofs.SlotReads.{read_on}

-- the event is answered so, and all that is kept tells of the next world, with these gets
abbrev pub AnswersBy : Parts → World → Event → Reply → List GetNow → Type 0
AnswersBy a w e r gets = (u : World) × (answer (ring_of a) (plan_of a) w e ≡ Ok (u, r)) × Tells (ring_of a) (plan_of a) (record (kept_of a) { gets = gets }) u

module _ (a : Parts) (g : ℕ) where
  -- ---- a get reads the slot of an index

  few : (i : ℕ) → Passes a (Read g i) → (w : World) → Meets a w → i < 7
  few i passes w m =
      let l = (reads_there (ring_of a) (plan_of a) (kept_of a) w m g i (sym (passes w m))).1 in
      let n = m.is_ring.slots in
      omega arith

  pub index_few : IsSound a → (i : ℕ) → Passes a (Read g i) → i < 7
  index_few sound i passes = holds a sound (hlevel props) (λ w m. few i passes w m)

  pub read_kept : (i : ℕ) (found : List Version) (ns : List ℕ) (gets : List GetNow) (w : World) (m : Meets a w) → Passes a (Read g i) → FindsAt (ring_of a) (plan_of a) (kept_of a) w g i found ns
      → gets ≡ changed a.gets g (λ x. record x { read = with_mark x.read i; found = found }) → AnswersBy a w (Read g i) (reply.Found ns) gets
  read_kept i found ns gets w m passes finds set =
      let s = read_on (ring_of a) (plan_of a) (kept_of a) w g i found ns m (sym (passes w m)) (few i passes w m) finds in
      (s.0, s.1, subst (λ (xs : List GetNow). Tells (ring_of a) (plan_of a) (record (kept_of a) { gets = xs }) s.0) (sym set) s.2)

  -- ---- it ends

  pub end_there : IsSound a → Passes a (EndGet g) → slice_get a.gets g ≡ None → ⊥
  end_there sound passes none = holds a sound (hlevel props) (λ w m. ends_there (ring_of a) (plan_of a) (kept_of a) w g m (sym (passes w m)) none)

  pub end_kept : (get : GetNow) (ns kept : List ℕ) (gets : List GetNow) (w : World) (m : Meets a w) → Passes a (EndGet g) → slice_get a.gets g ≡ Some get → ArePuts get.found ns
      → kept ≡ ns → gets ≡ changed a.gets g (λ x. record x { reply = Some kept }) → AnswersBy a w (EndGet g) (reply.Answer ns) gets
  end_kept get ns kept gets w m passes at numbers same set =
      let s = ended_on (ring_of a) (plan_of a) (kept_of a) w g get ns m (sym (passes w m)) at numbers in
      let all : changed a.gets g (λ (x : GetNow). record x { reply = Some ns }) ≡ gets
      = ap (λ (xs : List ℕ). changed a.gets g (λ (x : GetNow). record x { reply = Some xs })) (sym same) ∙ sym set in
      (s.0, s.1, subst (λ (xs : List GetNow). Tells (ring_of a) (plan_of a) (record (kept_of a) { gets = xs }) s.0) all s.2)
