use Rattle.std.proofs.Common.{◌∙◌, ℕ, List, refl, sym, ap, subst}
use Rattle.ring_names.specs.declared.ids.Slot.{Slot}
use Rattle.ring_versions.specs.declared.version.Version.{Version}
use Rattle.store_parts.specs.Kept.{Tells}
use Rattle.std.specs.Prelude.{None}
use Rattle.store_maps.proofs.OneAnswer.{on_ok, on_err, on_either}
use Rattle.store_maps.specs.Ids.{id, of_chunk}
use Rattle.ring_store.specs.Stores.{held_at}
use Rattle.plan_runs.specs.World.{stage_now}
use Rattle.store_parts.specs.KeyTable.{chunk_of}
use Rattle.store_parts.specs.Numbers.{by_bytes, in_part}
use Rattle.store_parts.specs.PutsMeet.{clock_at}
use Rattle.store_parts.specs.Parts.{ring_of, plan_of, kept_of}
use Rattle.store_parts.proofs.Numbers.{given, kept_as, part_at, part_apart, placed_as, placed_chunk, placed_given}
use Rattle.store_events.proofs.ChunkSources.{part_shown, owner_shows, owner_there}
use Rattle.store_events.proofs.ChunkCopies.{mirrored_there}
use Rattle.store_events.proofs.RequiresMet.{mirror_stands}
use Rattle.store_events.proofs.sources.give_owner.Goals as goal

pub unreachable-requires : goal.unreachable-requires
unreachable-requires c = owner_there c.args.parts.now.slots c.args.slot (mirrored_there c.args.parts.now.slots c.args.slot c.args.mirror c.requires.mirror) c.in_default.ensures

pub copy_chunk-requires-clause-partition : goal.copy_chunk-requires-clause-partition
copy_chunk-requires-clause-partition c = (mirror_stands c.args.parts.now c.requires.sound c.args.slot c.args.mirror c.requires.mirror).0

pub copy_chunk-requires-clause-apart : goal.copy_chunk-requires-clause-apart
copy_chunk-requires-clause-apart c = (mirror_stands c.args.parts.now c.requires.sound c.args.slot c.args.mirror c.requires.mirror).1 c.in-Some.owner c.in-Some.ensures

pub returns-clause-ok : goal.returns-clause-ok
returns-clause-ok c =
    let a = c.args.parts.now in
    let q = (ring_of a).q in
    let slot = c.args.slot in
    let owner = c.in-Some.owner in
    let s = c.requires.sound.sized in
    let kept = held_at a.stores owner.0 slot in
    let part : ℕ → List Version = λ n. kept (id c.args.chunk n) in
    on_ok c.copy_chunk.result _ _ (λ merged. record {
      versions = in_part a.keys c.args.chunk part;
      shows = λ w m. part_shown q w (clock_at a.puts) c.args.chunk a.keys.q (by_bytes a.keys kept) (in_part a.keys c.args.chunk part) (λ v. w.stored (stage_now (ring_of a) (plan_of a) w slot).owner.0 slot v) s.keys
          (owner_shows (ring_of a) (plan_of a) (kept_of a) w m slot owner c.in-Some.ensures) (part_at a.keys c.args.chunk part kept (λ n. refl));
      others = λ k ne. part_apart a.keys c.args.chunk part k (λ e. ne (ap (λ z. chunk_of z k) (sym s.keys) ∙ e));
      merged = given a.keys c.args.mirror None slot (of_chunk c.args.chunk part) (held_at a.stores) (held_at c.copy_chunk.new.self) merged;
      rest = refl;
    }) c.copy_chunk.ensures.ok

pub returns-clause-err : goal.returns-clause-err
returns-clause-err c =
    let a = c.args.parts.now in
    on_err c.copy_chunk.result _ _ (λ h w m. subst (λ (held : ℕ → Slot → List ℕ → List Version). Tells (ring_of a) (plan_of a) (record (kept_of a) { stored = held }) w) (kept_as a.keys (held_at a.stores) (held_at c.copy_chunk.new.self) h) m) c.copy_chunk.ensures.err

pub returns-clause-follows : goal.returns-clause-follows
returns-clause-follows c =
    let a = c.args.parts.now in
    let s = c.requires.sound.sized in
    record {
      approved = refl;
      sized = record {
        space = c.copy_chunk.ensures.space ∙ s.space;
        keys = s.keys;
        numbered = s.numbered;
        stored = on_either c.copy_chunk.result _ _ _ c.copy_chunk.ensures.ok c.copy_chunk.ensures.err
            (placed_given a.keys c.args.mirror None c.args.slot (of_chunk c.args.chunk (λ n. held_at a.stores c.in-Some.owner.0 c.args.slot (id c.args.chunk n))) (held_at a.stores) (held_at c.copy_chunk.new.self) s.stored (placed_chunk a.keys c.args.chunk (held_at a.stores c.in-Some.owner.0 c.args.slot) (s.stored c.in-Some.owner.0 c.args.slot)))
            (placed_as a.keys (held_at a.stores) (held_at c.copy_chunk.new.self) s.stored);
        hinted = s.hinted;
      };
    }
