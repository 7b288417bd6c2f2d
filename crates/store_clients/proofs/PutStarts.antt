-- Puts that start.
use Rattle.std.proofs.Common.{◌≡◌, ◌∙◌, ℕ, Bool, List, [], ◌∷◌, ◌++◌, length, refl, sym, ap, subst}
use Rattle.std.specs.Prelude.{◌&&◌, ◌==◌, Option, Some, None, Ok, slice_get, if◌then◌else◌}
use Rattle.std.specs.List.{list_all}
use Rattle.std.proofs.lemmas.Option.{slice_get_within}
use Rattle.std.proofs.Math.Path.{fun_ext}
use Rattle.ring_names.specs.Names.{place}
use Rattle.ring_names.specs.declared.ids.WriterId.{WriterId}
use Rattle.ring_names.specs.declared.refusal.Refusal.TheVariants.{UnknownNumber, NotReady}
use Rattle.ring_names.proofs.Places.{get-place}
use Rattle.ring_table.specs.Value.{RingValue}
use Rattle.plan_text.specs.declared.step.Planned.{Planned}
use Rattle.plan_stage.specs.Clauses.{first_failing}
use Rattle.plan_runs.specs.declared.event.Event.TheVariants.{StartPut}
use Rattle.plan_runs.specs.declared.event.Reply.{Reply}
use Rattle.plan_runs.specs.declared.event.Reply.TheVariants as reply
use Rattle.plan_runs.specs.World.{World, is_get_of}
use Rattle.plan_runs.specs.Guards.{guards, has_ended}
use Rattle.plan_runs.specs.Effects.{effect}
use Rattle.plan_runs.specs.Answers.{answer, reply_to}
use Rattle.plan_runs.proofs.Answered.{allowed}
use Rattle.store_parts.specs.Clocks.{IsInputOf}
use Rattle.ring_clock.specs.Built.{IsNext}
use Rattle.store_parts.specs.declared.puts.PutNow.{PutNow}
use Rattle.store_parts.specs.PutsMeet.{clock_at}
use Rattle.store_parts.proofs.GetsGuards.{start_put_tested}
use Rattle.store_parts.proofs.GetsTests.{none_of_key}
use Rattle.store_parts.proofs.PutsStarts.{inputs_join, none_behind_set, puts_started, put_numbered, gets_with_put, stored_with_put}
use Rattle.store_parts.specs.Kept.{Kept, Tells}
use Rattle.store_parts.proofs.StoreInWorld.{reached_of}
use Rattle.store_clients.specs.Puts.{IsNewPut, seen_guards_kept}
use Rattle.store_clients.proofs.TellsOnClients.{stored_too, hinted_too, tells_next}

module _ (ring : RingValue) (plan : List Planned) (k : Kept) (w : World) (m : Tells ring plan k w) (writer : WriterId) (key value seen : List ℕ) where
  -- what a put needs whose key has a number
  pub known_key : (n : ℕ) → place k.keys key ≡ Some n → first_failing (seen_guards_kept k.gets n seen) ≡ first_failing (guards ring plan w (StartPut writer key value seen))
  unfolding guards
  known_key n is = ap first_failing (sym (start_put_tested ring (clock_at k.puts) k.keys k.gets w n key seen m.numbered (get-place k.keys n key is) m.gets))

  -- one whose key has none and that names no get needs nothing
  pub none_named : seen ≡ [] → None ≡ first_failing (guards ring plan w (StartPut writer key value seen))
  unfolding guards
  none_named is = sym (ap (λ (gs : List ℕ). first_failing ((list_all (is_get_of w key) gs, UnknownNumber) ∷ (list_all (has_ended w) gs, NotReady) ∷ [])) is)

  -- one that names a get is refused
  pub some_named : place k.keys key ≡ None → (seen ≡ [] → ⊥) → Some UnknownNumber ≡ first_failing (guards ring plan w (StartPut writer key value seen))
  unfolding guards
  some_named absent some = by seen refl
    where
      by : (gs : List ℕ) → seen ≡ gs → Some UnknownNumber ≡ first_failing ((list_all (is_get_of w key) seen, UnknownNumber) ∷ (list_all (has_ended w) seen, NotReady) ∷ [])
      by [] e = absurd (some e)
      by (g ∷ more) e =
          let none = none_of_key ring (clock_at k.puts) k.keys k.gets w key g absent m.gets in
          sym (ap (λ (gs : List ℕ). first_failing ((list_all (is_get_of w key) gs, UnknownNumber) ∷ (list_all (has_ended w) gs, NotReady) ∷ [])) e
          ∙ ap (λ (b : Bool). first_failing ((b && list_all (is_get_of w key) more, UnknownNumber) ∷ (list_all (has_ended w) (g ∷ more), NotReady) ∷ [])) none)

-- a put that starts
pub put_on : (ring : RingValue) (plan : List Planned) (k : Kept) (w : World) (writer : WriterId) (key value seen : List ℕ) (put : PutNow) (n : ℕ) (new : ℕ → ℕ → Option ℕ) → Tells ring plan k w
    → first_failing (guards ring plan w (StartPut writer key value seen)) ≡ None → slice_get k.keys n ≡ Some key → IsNewPut k.puts k.gets k.last n writer.0 value seen put
    → ((j a : ℕ) → new j a ≡ (if (j == put.key) && (a == writer.0) then Some (length k.puts) else k.last j a))
    → (u : World) × (answer ring plan w (StartPut writer key value seen) ≡ Ok (u, reply.Put (length k.puts))) × Tells ring plan (record k { last = new; puts = k.puts ++ put ∷ [] }) u
put_on ring plan k w writer key value seen put n new m p named made set =
    let e = StartPut writer key value seen in
    let u = effect ring plan w (StartPut writer key value seen) in
    let first : answer ring plan w (StartPut writer key value seen) ≡ Ok (u, reply_to ring plan w (StartPut writer key value seen)) = allowed ring plan w (StartPut writer key value seen) p in
    let reached = reached_of ring plan k w m in
    let same = put_numbered ring plan w u writer key value seen (reply_to ring plan w (StartPut writer key value seen)) k.keys k.last k.puts first m.puts in
    let r = reply.Put (length k.puts) in
    let h : answer ring plan w (StartPut writer key value seen) ≡ Ok (u, r) = first ∙ ap (λ (z : Reply). Ok (u, z)) same in
    let of : slice_get k.keys put.key ≡ Some key = subst (λ (j : ℕ). slice_get k.keys j ≡ Some key) (sym made.of_key) named in
    let next : IsNext (clock_at k.puts) (IsInputOf w seen (k.last n writer.0)) writer.0 made.clock
    = (made.next.0, inputs_join ring plan w writer key value seen (clock_at k.puts) k.keys k.gets (k.last n writer.0) made.next.0 p m.gets made.next.1, made.next.2) in
    let next_too = subst (λ (j : ℕ). IsNext (clock_at k.puts) (IsInputOf w seen (k.last j writer.0)) writer.0 made.clock) (sym made.of_key) next in (
      u,
      h,
      tells_next ring plan k w u (StartPut writer key value seen) r m refl h k.keys new (k.puts ++ put ∷ []) k.gets m.numbered m.placed
          (none_behind_set k.last new (length k.keys) put.key writer.0 (length k.puts) (slice_get_within k.keys put.key key of) set m.behind)
          (puts_started ring plan w u writer key value seen r k.keys k.last new k.puts put made.clock reached h m.numbered of next_too made.version made.tickets made.acked set m.puts)
          (gets_with_put ring plan w u writer key value seen r k.keys k.last k.puts put k.gets reached h m.puts m.gets)
          (stored_too ring plan k w u (StartPut writer key value seen) r m refl h (clock_at (k.puts ++ put ∷ []))
          (stored_with_put ring plan w u writer key value seen r k.keys k.last k.puts put k.stored w.stored h (λ x s v t. (reached.stored x s v t).0) m.puts m.stored))
          (hinted_too ring plan k w u (StartPut writer key value seen) r m refl h (clock_at (k.puts ++ put ∷ []))
          (stored_with_put ring plan w u writer key value seen r k.keys k.last k.puts put k.hinted w.hinted h (λ x s v t. (reached.hinted x s v t).0) m.puts m.hinted)),
    )

-- what is kept tells of the world still where last puts read the same
pub lasts_same : (ring : RingValue) (plan : List Planned) (k : Kept) (w : World) (new : ℕ → ℕ → Option ℕ) → ((j a : ℕ) → new j a ≡ k.last j a) → Tells ring plan k w → Tells ring plan (record k { last = new }) w
lasts_same ring plan k w new same m = subst (λ (f : ℕ → ℕ → Option ℕ). Tells ring plan (record k { last = f }) w) (fun_ext (λ j. fun_ext (λ a. sym (same j a)))) m
