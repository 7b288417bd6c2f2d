-- The words of a board: what each says of its step.
use Rattle.std.specs.Prelude.{◌≡◌, ◌⊎◌, ℕ, ◌+◌, ◌<◌}

-- the word of a step that no worker has
abbrev pub free : ℕ
free = 0

-- the word of a step that worker w claimed
abbrev pub claimed : ℕ → ℕ
claimed w = w + 1

-- the word of a step that worker w finished
abbrev pub finished_word : ℕ → ℕ
finished_word w = 128 + w

-- free, or claimed or finished by one of the workers
abbrev pub IsWord : ℕ → ℕ → Type 0
IsWord workers word = (word ≡ free) ⊎ ((w : ℕ) × (w < workers) × ((word ≡ claimed w) ⊎ (word ≡ finished_word w)))
