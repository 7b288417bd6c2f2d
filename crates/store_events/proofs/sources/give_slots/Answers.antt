use Rattle.std.proofs.Common.{◌∙◌, ℕ, List, refl, sym, ap, subst}
use Rattle.ring_names.specs.declared.ids.Slot.{Slot}
use Rattle.ring_versions.specs.declared.version.Version.{Version}
use Rattle.store_parts.specs.Kept.{Tells}
use Rattle.store_parts.specs.Parts.{ring_of, plan_of, kept_of}
use Rattle.std.specs.Prelude.{None}
use Rattle.store_maps.specs.Held.{held}
use Rattle.store_maps.specs.Ids.{of_chunk}
use Rattle.store_maps.proofs.OneAnswer.{on_ok, on_err, on_either}
use Rattle.ring_store.specs.Stores.{held_at}
use Rattle.store_parts.specs.KeyTable.{chunk_of}
use Rattle.store_parts.specs.Numbers.{in_part}
use Rattle.store_parts.proofs.Numbers.{given, kept_as, part_apart, placed_as, placed_given}
use Rattle.store_events.proofs.RequiresMet.{mirror_stands}
use Rattle.store_events.proofs.sources.give_slots.Goals as goal

pub give_chunk-requires-clause-partition : goal.give_chunk-requires-clause-partition
give_chunk-requires-clause-partition c = (mirror_stands c.args.parts.now c.requires.sound c.args.slot c.args.mirror c.requires.mirror).0

pub returns-clause-ok : goal.returns-clause-ok
returns-clause-ok c =
    let a = c.args.parts.now in
    let s = c.requires.sound.sized in
    let read = held c.in_ok-read.read in
    on_ok c.give_chunk.result _ _ (λ merged. record {
      versions = in_part a.keys c.args.chunk read;
      shows = (c.in_ok-read.ensures).shows;
      others = λ k ne. part_apart a.keys c.args.chunk read k (λ e. ne (ap (λ z. chunk_of z k) (sym s.keys) ∙ e));
      merged = given a.keys c.args.mirror None c.args.slot (of_chunk c.args.chunk read) (held_at a.stores) (held_at c.give_chunk.new.self) merged;
      rest = refl;
    }) c.give_chunk.ensures.ok

pub returns-clause-err : goal.returns-clause-err
returns-clause-err c =
    let a = c.args.parts.now in
    on_err c.give_chunk.result _ _ (λ h w m. subst (λ (held : ℕ → Slot → List ℕ → List Version). Tells (ring_of a) (plan_of a) (record (kept_of a) { stored = held }) w) (kept_as a.keys (held_at a.stores) (held_at c.give_chunk.new.self) h) m) c.give_chunk.ensures.err

pub returns-clause-follows : goal.returns-clause-follows
returns-clause-follows c =
    let a = c.args.parts.now in
    let s = c.requires.sound.sized in
    record {
      approved = refl;
      sized = record {
        space = c.give_chunk.ensures.space ∙ s.space;
        keys = s.keys;
        numbered = s.numbered;
        stored = on_either c.give_chunk.result _ _ _ c.give_chunk.ensures.ok c.give_chunk.ensures.err
            (placed_given a.keys c.args.mirror None c.args.slot (of_chunk c.args.chunk (held c.in_ok-read.read)) (held_at a.stores) (held_at c.give_chunk.new.self) s.stored (c.in_ok-read.ensures).placed)
            (placed_as a.keys (held_at a.stores) (held_at c.give_chunk.new.self) s.stored);
        hinted = s.hinted;
      };
    }
