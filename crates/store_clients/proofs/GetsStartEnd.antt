-- Gets that start and end.
use Rattle.std.proofs.Common.{◌≡◌, ◌∙◌, ℕ, false, List, [], ◌∷◌, ◌++◌, length, refl, sym, ap, arith, ltb-true}
use Rattle.std.specs.Prelude.{Some, None, Ok, slice_get}
use Rattle.ring_names.proofs.InLists.{get_there}
use Rattle.ring_table.specs.Value.{RingValue}
use Rattle.ring_versions.specs.Puts.{ArePuts}
use Rattle.plan_text.specs.declared.step.Planned.{Planned}
use Rattle.plan_stage.specs.Clauses.{first_failing}
use Rattle.plan_runs.specs.declared.event.Event.TheVariants.{StartGet, EndGet}
use Rattle.plan_runs.specs.declared.event.Reply.{Reply}
use Rattle.plan_runs.specs.declared.event.Reply.TheVariants as reply
use Rattle.plan_runs.specs.World.{World}
use Rattle.plan_runs.specs.Guards.{guards}
use Rattle.plan_runs.specs.Effects.{changed, effect}
use Rattle.plan_runs.specs.Answers.{answer, reply_to}
use Rattle.plan_runs.proofs.Answered.{allowed}
use Rattle.plan_runs.proofs.Passed.{all_met}
use Rattle.store_parts.specs.declared.gets.GetNow.{GetNow}
use Rattle.store_parts.specs.Gets.{is_read}
use Rattle.store_parts.specs.PutsMeet.{clock_at}
use Rattle.store_parts.proofs.GetsChanges.{gets_started, gets_answered, gets_ended}
use Rattle.store_parts.proofs.GetsGuards.{end_get_tested}
use Rattle.store_parts.proofs.PutsFrames.{puts_stay}
use Rattle.store_parts.specs.Kept.{Kept, Tells}
use Rattle.store_parts.proofs.StoreInWorld.{reached_of}
use Rattle.store_clients.specs.Gets.{end_guards_kept}
use Rattle.store_clients.proofs.TellsOnClients.{stored_on, hinted_on, tells_next}

-- a get that starts
pub started_on : (ring : RingValue) (plan : List Planned) (k : Kept) (w : World) (key : List ℕ) (get : GetNow) → Tells ring plan k w
    → slice_get k.keys get.key ≡ Some key → ((i : ℕ) → is_read get i ≡ false) → get.found ≡ [] → get.reply ≡ None
    → (u : World) × (answer ring plan w (StartGet key) ≡ Ok (u, reply.Get (length k.gets))) × Tells ring plan (record k { gets = k.gets ++ get ∷ [] }) u
unfolding guards
started_on ring plan k w key get m is unread found none =
    let u = effect ring plan w (StartGet key) in
    let n : length w.gets ≡ length k.gets = sym m.gets.each in
    let first : answer ring plan w (StartGet key) ≡ Ok (u, reply.Get (length w.gets)) = allowed ring plan w (StartGet key) refl in
    let h : answer ring plan w (StartGet key) ≡ Ok (u, reply.Get (length k.gets)) = first ∙ ap (λ (z : ℕ). Ok (u, reply.Get z)) n in
    let r = reply.Get (length k.gets) in (
      u,
      h,
      tells_next ring plan k w u (StartGet key) r m refl h k.keys k.last k.puts (k.gets ++ get ∷ []) m.numbered m.placed m.behind
          (puts_stay ring plan w u (StartGet key) r k.keys k.last k.puts (reached_of ring plan k w m) h refl m.puts)
          (gets_started ring plan w u key r (clock_at k.puts) k.keys k.gets get h is unread found none m.gets)
          (stored_on ring plan k w u (StartGet key) r m refl h)
          (hinted_on ring plan k w u (StartGet key) r m refl h),
    )

-- what the end of a get needs
pub end_tested : (ring : RingValue) (plan : List Planned) (k : Kept) (w : World) (g : ℕ) → Tells ring plan k w → first_failing (end_guards_kept k.gets ring.r g) ≡ first_failing (guards ring plan w (EndGet g))
unfolding guards
end_tested ring plan k w g m = ap first_failing (sym (end_get_tested ring (clock_at k.puts) k.keys k.gets w g m.is_ring m.reads m.gets))

-- a get that may end is there
pub ends_there : (ring : RingValue) (plan : List Planned) (k : Kept) (w : World) (g : ℕ) → Tells ring plan k w → first_failing (guards ring plan w (EndGet g)) ≡ None → slice_get k.gets g ≡ None → ⊥
unfolding guards
ends_there ring plan k w g m p none =
    let met = all_met (guards ring plan w (EndGet g)) p in
    let l = ltb-true g (length w.gets) met.0 in
    let e = m.gets.each in
    let x = get_there k.gets g (omega arith) in
    let f = x.1 in
    cc

-- a get that ends with these numbers
pub ended_on : (ring : RingValue) (plan : List Planned) (k : Kept) (w : World) (g : ℕ) (get : GetNow) (ns : List ℕ) → Tells ring plan k w → first_failing (guards ring plan w (EndGet g)) ≡ None
    → slice_get k.gets g ≡ Some get → ArePuts get.found ns
    → (u : World) × (answer ring plan w (EndGet g) ≡ Ok (u, reply.Answer ns)) × Tells ring plan (record k { gets = changed k.gets g (λ x. record x { reply = Some ns }) }) u
ended_on ring plan k w g get ns m p is numbers =
    let u = effect ring plan w (EndGet g) in
    let first : answer ring plan w (EndGet g) ≡ Ok (u, reply_to ring plan w (EndGet g)) = allowed ring plan w (EndGet g) p in
    let reached = reached_of ring plan k w m in
    let same = gets_answered ring plan w u g (reply_to ring plan w (EndGet g)) (clock_at k.puts) k.keys k.gets get ns reached m.puts.clocks first is numbers m.gets in
    let h : answer ring plan w (EndGet g) ≡ Ok (u, reply.Answer ns) = first ∙ ap (λ (z : Reply). Ok (u, z)) same in
    let r = reply.Answer ns in (
      u,
      h,
      tells_next ring plan k w u (EndGet g) r m refl h k.keys k.last k.puts (changed k.gets g (λ x. record x { reply = Some ns })) m.numbered m.placed m.behind
          (puts_stay ring plan w u (EndGet g) r k.keys k.last k.puts reached h refl m.puts)
          (gets_ended ring plan w u g r (clock_at k.puts) k.keys k.gets get ns reached m.puts.clocks h is numbers m.gets)
          (stored_on ring plan k w u (EndGet g) r m refl h)
          (hinted_on ring plan k w u (EndGet g) r m refl h),
    )
