-- The puts of a running store, by number.
use Rattle.std.specs.Prelude.{ℕ, zero, suc, List, [], ◌∷◌, Option, Some, None, slice_get, option_and_then}
use Rattle.store_parts.specs.declared.puts.PutNow.{PutNow}

-- the generation of the ticket for the slot of that index, if there is one
abbrev pub ticket_in : List (Option ℕ) → ℕ → Option ℕ
ticket_in tickets i = option_and_then (λ ticket. ticket) (slice_get tickets i)

-- the same of a put
abbrev pub ticket_at : PutNow → ℕ → Option ℕ
ticket_at put i = ticket_in put.tickets i

-- the same of the put of that number
abbrev pub ticket_of : List PutNow → ℕ → ℕ → Option ℕ
ticket_of puts v i = elim (slice_get puts v) [ Some put ↦ ticket_at put i | None ↦ None ]

-- the tickets with one of that generation for the slot of that index
abbrev pub with_ticket : List (Option ℕ) → ℕ → ℕ → List (Option ℕ)
with_ticket [] zero g = Some g ∷ []
with_ticket [] (suc i) g = None ∷ with_ticket [] i g
with_ticket (x ∷ xs) zero g = Some g ∷ xs
with_ticket (x ∷ xs) (suc i) g = x ∷ with_ticket xs i g
