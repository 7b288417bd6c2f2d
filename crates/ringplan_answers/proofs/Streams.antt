-- What reads and writes in turn do to the bytes that are told.
use Rattle.std.proofs.Common.{◌≡◌, ℕ, ◌+◌, ◌<◌, ◌≤◌, List, [], ◌++◌, length, take, drop, Option, Some, None, Result, Ok, Err, IsErr, IsErrAnd, refl, sym, ap, ◌∙◌, subst, arith, append_assoc, append-nil, length-append, take-append-drop, take_all, drop_of_length-le}
use Rattle.std.specs.Global.{Vec}
use Rattle.std.specs.Io.KnownBytes.{Appends, Consumes, IsAtEnd, Keeps}
use Rattle.std.proofs.KnownBytes.{Consumes-trans}
use Rattle.ring_names.specs.declared.refusal.Refusal.{Refusal}
use Rattle.ring_names.specs.declared.refusal.Refusal.TheVariants.{TooLarge, OutOfMemory, ReadFailed}
use Rattle.ringplan_answers.specs.Io.{max_input, Reads, Tells}

-- what reading an input that tells these bytes gives
abbrev pub Gave : Option (List ℕ) → Result (Vec ℕ) Refusal → Type 0
Gave told r = (bs : List ℕ) × Tells told bs × Reads bs r

-- a fault says nothing of the bytes
failed : (told : Option (List ℕ)) (r : Result (Vec ℕ) Refusal) → ((bs : List ℕ) → Reads bs r) → Gave told r
failed None r h = ([], tt, h [])
failed (Some xs) r h = (xs, refl, h xs)

pub read_failed : (told : Option (List ℕ)) → Gave told (Err ReadFailed)
read_failed told = failed told (Err ReadFailed) (λ bs. tt)

no_memory : (r : Result (Vec ℕ) Refusal) → IsErr r → IsErrAnd r (λ e. e ≡ OutOfMemory) → (bs : List ℕ) → Reads bs r
no_memory (Ok v) bad is bs = absurd cc
no_memory (Err e) bad is bs = let P : Refusal → Type 0 = λ e. Reads bs (Err e) in subst P (sym is) tt

pub out_of_memory : (told : Option (List ℕ)) (r : Result (Vec ℕ) Refusal) → IsErr r × IsErrAnd r (λ e. e ≡ OutOfMemory) → Gave told r
out_of_memory told r h = failed told r (no_memory r h.0 h.1)

-- a reader at its end gave all that it had
all_read : (a b : Option (List ℕ)) (v : Vec ℕ) → Consumes a b v.items → IsAtEnd b → length v.items ≤ max_input → Gave a (Ok v)
all_read None b v p q h = (v.items, tt, (refl, h))
all_read (Some x) None v p q h = absurd p
all_read (Some x) (Some y) v p q h = (v.items, p ∙ ap (λ l. v.items ++ l) q ∙ append-nil v.items, (refl, h))

-- the last read gave nothing
pub ended : (a b c : Option (List ℕ)) (v : Vec ℕ) (n : ℕ) (buf : List ℕ) → n ≡ 0 → Consumes a b v.items → Consumes b c (take n buf) → IsAtEnd c → length v.items ≤ max_input → Gave a (Ok v)
ended a b c v n buf none p q end h =
    let same : v.items ++ take n buf ≡ v.items = ap (λ k. v.items ++ take k buf) none ∙ append-nil v.items in
    all_read a c v (subst (Consumes a c) same (Consumes-trans a b c _ _ p q)) end h

-- more came than may
came : (a b : Option (List ℕ)) (front : List ℕ) → Consumes a b front → max_input < length front → Gave a (Err (TooLarge 0))
came None b front p h = (front, tt, (refl, h))
came (Some x) None front p h = absurd p
came (Some x) (Some y) front p h =
    let whole = ap (λ (l : List ℕ). length l) p in
    (x, refl, (refl, omega (arith, whole, length-append front y)))

pub too_much : (a b c : Option (List ℕ)) (front more : List ℕ) → Consumes a b front → Consumes b c more → max_input < length front + length more → Gave a (Err (TooLarge 0))
too_much a b c front more p q h =
    came a c (front ++ more) (Consumes-trans a b c _ _ p q) (omega (arith, length-append front more))

-- the vector grew by the front of what was read
pub gathered : (bytes now shown buf : List ℕ) (n : ℕ) → now ≡ bytes ++ take n shown → shown ≡ buf → now ≡ bytes ++ take n buf
gathered bytes now shown buf n grown same = grown ∙ ap (λ l. bytes ++ take n l) same

-- a write took the front of what was left
pub write_more : (all front rest : List ℕ) (n : ℕ) → all ≡ front ++ rest → all ≡ (front ++ take n rest) ++ drop n rest
write_more all front rest n e = e ∙ ap (λ l. front ++ l) (sym (take-append-drop n rest)) ∙ sym (append_assoc front (take n rest) (drop n rest))

-- a whole buffer after a read into it
pub refilled : (n : ℕ) (new old : List ℕ) → n ≡ length old → length new ≡ length old → take n (new ++ drop (length new) old) ≡ new
refilled n new old e f =
    let none : drop (length new) old ≡ [] = drop_of_length-le old (omega arith) in
    ap (λ l. take n (new ++ l)) none ∙ ap (λ l. take n l) (append-nil new) ∙ take_all n new (omega arith)

-- a read that failed took nothing
pub nothing_read : (a b c : Option (List ℕ)) (bs : List ℕ) → Consumes a b bs → Keeps b c → Consumes a c bs
nothing_read None b c bs p q = tt
nothing_read (Some x) None c bs p q = absurd p
nothing_read (Some x) (Some y) None bs p q = absurd q
nothing_read (Some x) (Some y) (Some z) bs p q = p ∙ ap (λ (l : List ℕ). bs ++ l) (sym q)

-- a write that failed wrote nothing
pub nothing_written : (a b c : Option (List ℕ)) (bs : List ℕ) → Appends a b bs → Keeps b c → Appends a c bs
nothing_written None b c bs p q = tt
nothing_written (Some x) None c bs p q = absurd p
nothing_written (Some x) (Some y) None bs p q = absurd q
nothing_written (Some x) (Some y) (Some z) bs p q = q ∙ p
