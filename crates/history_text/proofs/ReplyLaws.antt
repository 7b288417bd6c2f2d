-- A reply is read only from its spelling.
use Rattle.std.proofs.Common.{◌≡◌, ℕ, ◌≤◌, not, nat_lt, List, [], ◌∷◌, ◌++◌, map, codes, Result, true, refl, ap, arith, rules, decimal}
use Rattle.std.specs.List.{AllByRecursion}
use Rattle.std.proofs.lemmas.Bool.{ltb-true, lt-ltb, and_parts, not-false}
use Rattle.std.proofs.lemmas.List.Concat.{flat_map-cons}
use Rattle.texts.proofs.Forms.{Form, Always, Last, IsPlain, Case, Chosen, case_of, choice_at, choice, both, room, row, anywhere, turned, Refusal, TooLarge, spaced, numbers_of, beyond, are_small, whole, IsLine, front-whole}
use Rattle.plan_runs.specs.declared.event.Reply.{Reply}
use Rattle.plan_runs.specs.declared.event.Reply.TheVariants.{Plain, Put, Ticket, Get, Found, Answer}
use Rattle.plan_runs.specs.Replies.{reply_text}
use Rattle.script_text.specs.Valid.{IsCount}
use Rattle.script_text.proofs.Growing.{form_as}
use Rattle.script_text.proofs.ScriptForm.{count_form}
use Rattle.history_text.specs.Reading.{numbers_at, ticket_at, reply_at}
use Rattle.history_text.specs.Valid.{IsReply}

-- the fields of a reply
abbrev pub reply_fields : Reply → List (List ℕ)
reply_fields Plain = codes "ok" ∷ []
reply_fields (Put n) = codes "put" ∷ decimal n ∷ []
reply_fields (Ticket s g) = codes "ticket" ∷ decimal s.partition ∷ decimal s.index ∷ decimal g ∷ []
reply_fields (Get n) = codes "get" ∷ decimal n ∷ []
reply_fields (Found vs) = codes "found" ∷ map decimal vs
reply_fields (Answer vs) = codes "reply" ∷ map decimal vs

-- ---- its text

spaced-word : (w : List ℕ) (fs : List (List ℕ)) → spaced (w ∷ fs) ≡ 32 ∷ (w ++ spaced fs)
spaced-word w fs = flat_map-cons (λ (g : List ℕ). 32 ∷ g) w fs

-- the fields behind spaces are a space and the text
pub reply-spaced : (r : Reply) → spaced (reply_fields r) ≡ 32 ∷ reply_text r
reply-spaced Plain = spaced-word (codes "ok") []
reply-spaced (Put n) = spaced-word (codes "put") (decimal n ∷ [])
reply-spaced (Ticket s g) = spaced-word (codes "ticket") (decimal s.partition ∷ decimal s.index ∷ decimal g ∷ [])
reply-spaced (Get n) = spaced-word (codes "get") (decimal n ∷ [])
reply-spaced (Found vs) = spaced-word (codes "found") (map decimal vs)
reply-spaced (Answer vs) = spaced-word (codes "reply") (map decimal vs)

-- ---- numbers

pub small-of : (xs : List ℕ) → AllByRecursion IsCount xs → are_small xs ≡ true
small-of [] p = refl
small-of (x ∷ xs) p = (let le : x ≤ 4294967295 = p.0 in rw (lt-ltb x 4294967296 (omega arith), small-of xs p.1) refl)

pub counts-of : (xs : List ℕ) → are_small xs ≡ true → AllByRecursion IsCount xs
counts-of [] e = tt
counts-of (x ∷ xs) e =
    let p = and_parts (nat_lt x 4294967296) (are_small xs) e in
    let lt = ltb-true x 4294967296 p.0 in
    (omega arith, counts-of xs p.1)

-- numbers at the end of a line
abbrev numbers_form : Form (Unit {0}) Last (List ℕ)
numbers_form = form_as numbers_at (λ xs. AllByRecursion IsCount xs) (row (λ k xs. (not (are_small xs), TooLarge k) ∷ []) (λ k m xs p. p) (λ w xs p. not-false (are_small xs) p.0) (λ k xs. (refl, tt)))
    (λ k fields. ap (λ (r : Result (List ℕ) Refusal). (r, beyond fields)) (turned (are_small (numbers_of fields)) _ _)) (λ xs p. counts-of xs (not-false (are_small xs) p.0)) (λ xs p. (ap not (small-of xs p), tt))

-- ---- a reply

pub words-plain : IsPlain (codes "ok") × IsPlain (codes "put") × IsPlain (codes "ticket") × IsPlain (codes "get") × IsPlain (codes "found") × IsPlain (codes "reply")
words-plain = (search rules)

-- a reply, after its word
abbrev ReplyCase : Type 1
ReplyCase = Case (Unit {0}) Last Reply reply_fields IsReply

-- the six of them; a ticket has three numbers of 32 bits
abbrev reply_kinds : ReplyCase × ReplyCase × ReplyCase × ReplyCase × ReplyCase × ReplyCase
reply_kinds = (
  case_of (codes "ok") words-plain.0 (anywhere Last (room true)) (λ _. Plain) (λ x. refl) (λ x p. tt) (λ x p. refl),
  case_of (codes "put") words-plain.1 (anywhere Last count_form) Put (λ x. refl) (λ x p. p) (λ x p. p),
  case_of (codes "ticket") words-plain.2 (anywhere Last (both Always (both Always count_form count_form) count_form)) (λ x. Ticket (record { partition = x.0.0; index = x.0.1 }) x.1) (λ x. refl)
      (λ x p. (p.0.0, p.0.1, p.1)) (λ x p. ((p.0, p.1), p.2)),
  case_of (codes "get") words-plain.3 (anywhere Last count_form) Get (λ x. refl) (λ x p. p) (λ x p. p),
  case_of (codes "found") words-plain.4 numbers_form Found (λ x. refl) (λ x p. p) (λ x p. p),
  case_of (codes "reply") words-plain.5 numbers_form Answer (λ x. refl) (λ x p. p) (λ x p. p),
)

-- in the order in which a reader tries them
abbrev reply_cases : List ReplyCase
reply_cases = reply_kinds.0 ∷ reply_kinds.1 ∷ reply_kinds.2 ∷ reply_kinds.3 ∷ reply_kinds.4 ∷ reply_kinds.5 ∷ []

pub reply-same : (k : ℕ) (fields : List (List ℕ)) → reply_at k fields ≡ choice_at reply_cases k fields
unfolding reply_at ticket_at
reply-same k [] = refl
reply-same k (word ∷ fields) = refl

pub reply-case : (r : Reply) → Chosen reply_cases r
reply-case Plain = record { case = reply_kinds.0; part = tt; is = refl; first = λ k fields. refl }
reply-case (Put n) = record { case = reply_kinds.1; part = n; is = refl; first = λ k fields. refl }
reply-case (Ticket s g) = record { case = reply_kinds.2; part = ((s.partition, s.index), g); is = refl; first = λ k fields. refl }
reply-case (Get n) = record { case = reply_kinds.3; part = n; is = refl; first = λ k fields. refl }
reply-case (Found xs) = record { case = reply_kinds.4; part = xs; is = refl; first = λ k fields. refl }
reply-case (Answer xs) = record { case = reply_kinds.5; part = xs; is = refl; first = λ k fields. refl }

-- what a reply's fields say
abbrev pub reply_form : Form (Unit {0}) Last Reply
reply_form = choice reply_cases reply_at reply-same reply-case

-- the fields of a reply are read from just its spelling
pub reply-line : (k : ℕ) → IsLine (whole k (reply_at k)) reply_fields IsReply
reply-line k = front-whole Last k (reply_at k) reply_fields IsReply refl (reply_form.exact tt k)
