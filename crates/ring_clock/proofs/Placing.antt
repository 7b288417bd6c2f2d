-- A block in the place of one of its group, among others.
use Rattle.std.proofs.Common.{◌≡◌, ◌≢◌, ◌∙◌, ℕ, zero, suc, ◌<◌, List, [], ◌∷◌, length, get_or, set, sym, ap, arith, get_or-set_same}
use Rattle.std.specs.Prelude.{max, Some}
use Rattle.std.proofs.lemmas.List.{length-set}
use Rattle.ring_clock.specs.declared.entry.Entry.{Entry}
use Rattle.ring_clock.specs.Clock.{counter}
use Rattle.ring_clock.specs.Groups.{group, group_in, IsAtMostBut, IsBlock, IsBlockFor}
use Rattle.ring_clock.specs.Blocks.{IsBeyond, AreBlocks, entries_of}
use Rattle.ring_clock.proofs.Counting.{by_equal}
use Rattle.ring_clock.proofs.Ascending.{here_group, there_group, in_place}
use Rattle.ring_clock.proofs.Finding.{at}

still_beyond : (g : ℕ) (bs : List (List Entry)) (p : ℕ) (j d : List Entry) → group_in j ≡ group_in (get_or bs p d) → IsBeyond g bs → IsBeyond g (set bs p j)
still_beyond g [] p j d is beyond = tt
still_beyond g (b ∷ bs) zero j d is beyond = (omega (arith, beyond.0), beyond.1)
still_beyond g (b ∷ bs) (suc p) j d is beyond = (beyond.0, still_beyond g bs p j d is beyond.1)

pub still_blocks : (bs : List (List Entry)) (p : ℕ) (j d : List Entry) → p < length bs → IsBlock j → group_in j ≡ group_in (get_or bs p d) → AreBlocks bs → AreBlocks (set bs p j)
still_blocks [] p j d within block is are = absurd (omega arith)
still_blocks (b ∷ bs) zero j d within block is are = in_place b j bs block is are
still_blocks (b ∷ bs) (suc p) j d within block is are = (are.0, still_beyond (group_in b) bs p j d is are.1, still_blocks bs p j d (omega arith) block is are.2)

-- the writers of other groups have the same counters
others_stay : (bs : List (List Entry)) (p : ℕ) (j d : List Entry) (w : ℕ) → p < length bs → IsBlock j → group_in j ≡ group_in (get_or bs p d) → AreBlocks bs → group w ≢ group_in j → counter (entries_of (set bs p j)) w ≡ counter (entries_of bs) w
others_stay [] p j d w within block is are apart = absurd (omega arith)
others_stay (b ∷ bs) zero j d w within block is are apart = there_group j bs w (in_place b j bs block is are) apart ∙ sym (there_group b bs w are (λ e. apart (e ∙ sym is)))
others_stay (b ∷ bs) (suc p) j d w within block is are apart =
    let still : AreBlocks (b ∷ set bs p j) = still_blocks (b ∷ bs) (suc p) j d within block is are in
    by_equal (group w) (group_in b) (counter (entries_of (b ∷ set bs p j)) w ≡ counter (entries_of (b ∷ bs)) w)
    (λ own. here_group b (set bs p j) w still own ∙ sym (here_group b bs w are own))
    (λ other. there_group b (set bs p j) w still other ∙ others_stay bs p j d w (omega arith) block is are.2 apart ∙ sym (there_group b bs w are other))

some_same : (g k : ℕ) → Some g ≡ Some k → k ≡ g
some_same g k e = cc

-- blocks of which one is raised to that of its group among others, which are then reached
pub raised_at : (bs os : List (List Entry)) (p g : ℕ) (o j d : List Entry) → AreBlocks bs → p < length bs → group_in (get_or bs p d) ≡ g → IsBlockFor g (entries_of os) o → IsBlock j → group_in j ≡ group_in (get_or bs p d) → ((w : ℕ) → counter j w ≡ max (counter (get_or bs p d) w) (counter o w)) → IsAtMostBut (Some g) (entries_of os) (entries_of bs) → (w : ℕ) → counter (entries_of (set bs p j)) w ≡ max (counter (entries_of bs) w) (counter (entries_of os) w)
raised_at bs os p g o j d are within of other block is counters le w = by_equal (group w) g (counter (entries_of (set bs p j)) w ≡ max (counter (entries_of bs) w) (counter (entries_of os) w))
    (λ own.
    let still = still_blocks bs p j d within block is are in
    let there : p < length (set bs p j) = omega (arith, length-set bs p j) in
    let same : get_or (set bs p j) p d ≡ j = get_or-set_same bs p j d within in
    let new : counter (get_or (set bs p j) p d) w ≡ counter (entries_of (set bs p j)) w = at (set bs p j) w still p d there (ap group_in same ∙ is ∙ of ∙ sym own) in
    let made : counter (get_or (set bs p j) p d) w ≡ counter j w = ap (λ (x : List Entry). counter x w) same in
    let old = at bs w are p d within (of ∙ sym own) in
    let theirs = other.counters w own in
    let both = counters w in
    omega arith)
    (λ apart.
    let stay = others_stay bs p j d w within block is are (λ e. apart (e ∙ is ∙ of)) in
    let most = le w (λ e. apart (some_same g (group w) e)) in
    omega arith)
