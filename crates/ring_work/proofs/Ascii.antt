-- The text of a reply is ASCII, and so it is UTF-8.
use Rattle.std.proofs.Common.{ℕ, zero, suc, ◌+◌, ◌/◌, ◌%◌, ◌<◌, ◌==◌, nat_lt, false, List, [], ◌∷◌, ◌++◌, codes, IsAscii, IsUtf8, arith, rules}
use Rattle.std.specs.Fmt.{decimal, digit_glyph, digits, digits_onto}
use Rattle.std.proofs.lemmas.Bool.{cond_both}
use Rattle.std.proofs.lemmas.Str.{IsAscii-append, IsUtf8-from_ascii}
use Rattle.std.proofs.lemmas.Str.Ascii.{IsAscii-nil, IsAscii-cons, IsAscii-from_all}
use Rattle.plan_runs.specs.declared.event.Reply.{Reply}
use Rattle.plan_runs.specs.declared.event.Reply.TheVariants.{Plain, Put, Ticket, Get, Found, Answer}
use Rattle.plan_runs.specs.Replies.{numbers_text, reply_text}

-- digits before ASCII
onto-ascii : (k n : ℕ) (acc : List ℕ) → IsAscii acc → IsAscii (digits_onto k 10 false n acc)
onto-ascii zero n acc h = h
onto-ascii (suc k) n acc h =
    let glyph = digit_glyph false (n % 10) in
    let below : glyph < 128 = cond_both (nat_lt (n % 10) 10) (48 + n % 10) (87 + n % 10) (λ x. x < 128) (λ t. omega arith) (λ t. omega arith) in
    let more = IsAscii-cons glyph acc below h in
    cond_both (n / 10 == 0) (glyph ∷ acc) (digits_onto k 10 false (n / 10) (glyph ∷ acc)) IsAscii (λ t. more) (λ t. onto-ascii k (n / 10) (glyph ∷ acc) more)

pub decimal-ascii : (n : ℕ) → IsAscii (decimal n)
unfolding digits
decimal-ascii n = onto-ascii 64 n [] IsAscii-nil

pub numbers-ascii : (ns : List ℕ) → IsAscii (numbers_text ns)
numbers-ascii [] = IsAscii-nil
numbers-ascii (n ∷ ns) = IsAscii-cons 32 (decimal n ++ numbers_text ns) (omega arith) (IsAscii-append (decimal n) (numbers_text ns) (decimal-ascii n) (numbers-ascii ns))

behind-word : (word : List ℕ) (ns : List ℕ) → IsAscii word → IsAscii (word ++ numbers_text ns)
behind-word word ns h = IsAscii-append word (numbers_text ns) h (numbers-ascii ns)

pub reply-ascii : (r : Reply) → IsAscii (reply_text r)
reply-ascii Plain = IsAscii-from_all (codes "ok") (search rules)
reply-ascii (Put n) = behind-word (codes "put") (n ∷ []) (IsAscii-from_all (codes "put") (search rules))
reply-ascii (Ticket s g) = behind-word (codes "ticket") (s.partition ∷ s.index ∷ g ∷ []) (IsAscii-from_all (codes "ticket") (search rules))
reply-ascii (Get n) = behind-word (codes "get") (n ∷ []) (IsAscii-from_all (codes "get") (search rules))
reply-ascii (Found vs) = behind-word (codes "found") vs (IsAscii-from_all (codes "found") (search rules))
reply-ascii (Answer vs) = behind-word (codes "reply") vs (IsAscii-from_all (codes "reply") (search rules))

pub reply-utf8 : (r : Reply) → IsUtf8 (reply_text r)
reply-utf8 r = IsUtf8-from_ascii (reply_text r) (reply-ascii r)
