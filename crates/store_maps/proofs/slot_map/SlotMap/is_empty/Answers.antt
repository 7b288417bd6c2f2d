use Rattle.std.proofs.Common.{◌∙◌}
use Rattle.store_maps.specs.Ids.{id}
use Rattle.store_maps.proofs.slot_map.SlotMap.is_empty.Goals as goal

pub returns-then-not-is_empty : goal.returns-then-not-is_empty
returns-then-not-is_empty c = (λ h. absurd cc, λ h. absurd (let empty = c.is_empty.ensures.1 (λ n. c.chunk.ensures.places n ∙ h (id c.chunks.chunk n)) in cc))
