-- Slots that a command line names.
use Rattle.std.specs.Prelude.{◌≡◌, ◌==◌, ℕ, ◌<◌, List, [], ◌∷◌, length}
use Rattle.std.specs.List.{after_first, before_first, position_or_len}
use Rattle.ring_names.specs.declared.ids.Slot.{Slot}
use Rattle.ringplan_command.specs.Numbers.{IsNumberFrom}

-- numbers before and after the first `.`: a partition and an index
abbrev pub IsSlot : List ℕ → Slot → Type 0
IsSlot text slot = (position_or_len (λ b. b == 46) text < length text) × IsNumberFrom 0 4294967295 (before_first (λ b. b == 46) text) slot.partition
    × IsNumberFrom 0 4294967295 (after_first (λ b. b == 46) text) slot.index

-- the texts name these slots, one after the other
abbrev pub AreSlots : List (List ℕ) → List Slot → Type 0
AreSlots [] slots = slots ≡ []
AreSlots (text ∷ texts) [] = ⊥
AreSlots (text ∷ texts) (slot ∷ slots) = IsSlot text slot × AreSlots texts slots

-- the texts name no such list of slots: one of them is not a partition and an index
abbrev pub HasNoSlot : List (List ℕ) → Type 0
HasNoSlot texts = (slots : List Slot) → AreSlots texts slots → ⊥
