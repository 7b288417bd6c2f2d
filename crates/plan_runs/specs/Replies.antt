-- The text of a reply.
use Rattle.std.specs.Prelude.{ℕ, List, [], ◌∷◌, ◌++◌, map, codes}
use Rattle.std.specs.Fmt.{decimal}
use Rattle.texts.specs.Parts.{spaced}
use Rattle.plan_runs.specs.declared.event.Reply.{Reply}
use Rattle.plan_runs.specs.declared.event.Reply.TheVariants.{Plain, Put, Ticket, Get, Found, Answer}

-- the numbers in order, each behind a space
abbrev pub numbers_text : List ℕ → List ℕ
numbers_text ns = spaced (map decimal ns)

-- a word, and the numbers
abbrev pub reply_text : Reply → List ℕ
reply_text Plain = codes "ok"
reply_text (Put n) = codes "put" ++ numbers_text (n ∷ [])
reply_text (Ticket s g) = codes "ticket" ++ numbers_text (s.partition ∷ s.index ∷ g ∷ [])
reply_text (Get n) = codes "get" ++ numbers_text (n ∷ [])
reply_text (Found vs) = codes "found" ++ numbers_text vs
reply_text (Answer vs) = codes "reply" ++ numbers_text vs
