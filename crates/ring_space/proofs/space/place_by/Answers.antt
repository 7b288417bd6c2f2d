use Rattle.std.proofs.Common.{◌≡◌, ◌<◌, ◌+◌, ◌-◌, ◌/◌, ◌^◌, arith, sym, refl, subst, ◌∙◌, Fits, w32}
use Rattle.ring_space.specs.Place.{log2}
use Rattle.ring_space.proofs.space.place_by.Goals as goal
use Rattle.ring_space.proofs.Bits.{bits-most, space-is, power-some, power-le, width, front, four-less}

-- the width of a share
width_is : (c : goal.After-from_be_bytes) → 2 ^ 124 / c.from.result ≡ 2 ^ (124 - log2 12 c.args.q)
width_is c =
    let most = bits-most c.args.q in
    let e = space-is c.args.q c.requires in
    width c.from.result 124 (log2 12 c.args.q) (omega arith) (c.from.ensures ∙ e)

-- src/space.rt:18:17
pub nonzero_div-width : goal.nonzero_div-width
nonzero_div-width c =
    let e = space-is c.args.q c.requires in
    let some = power-some (log2 12 c.args.q) in
    omega arith

-- src/space.rt:19:18
pub nonzero_div-chunks : goal.nonzero_div-chunks
nonzero_div-chunks c = subst (λ w. 0 < w) (sym (width_is c)) (power-some (124 - log2 12 c.args.q))

-- src/space.rt:19:18
pub overflow_cast-chunks : goal.overflow_cast-chunks
overflow_cast-chunks c =
    let most = bits-most c.args.q in
    let e = width_is c in
    let all : (log2 12 c.args.q + 4) + (124 - log2 12 c.args.q) ≡ 128 = omega arith in
    let below = front c.from_be_bytes.result (log2 12 c.args.q + 4) (124 - log2 12 c.args.q) (subst (λ m. c.from_be_bytes.result < 2 ^ m) (sym all) c.from_be_bytes.type_inv) in
    let top = power-le (log2 12 c.args.q + 4) 16 (omega arith) in
    subst (λ w. Fits w32 (c.from_be_bytes.result / w)) (sym e) (omega arith)

-- src/space.rt:10:1
pub returns-clause-place : goal.returns-clause-place
returns-clause-place c =
    let most = bits-most c.args.q in
    let e = width_is c in
    let four : (124 - log2 12 c.args.q) + 4 ≡ 128 - log2 12 c.args.q = omega arith in
    let none : 128 - (log2 12 c.args.q + 4) ≡ 124 - log2 12 c.args.q = omega arith in
    rw (e, c.from_be_bytes.ensures, four-less, four, none) refl

-- src/space.rt:10:1
pub returns-clause-partition : goal.returns-clause-partition
returns-clause-partition c =
    let most = bits-most c.args.q in
    let e = width_is c in
    let is = space-is c.args.q c.requires in
    let four : (124 - log2 12 c.args.q) + 4 ≡ 128 - log2 12 c.args.q = omega arith in
    let all : log2 12 c.args.q + (128 - log2 12 c.args.q) ≡ 128 = omega arith in
    let below = front c.from_be_bytes.result (log2 12 c.args.q) (128 - log2 12 c.args.q) (subst (λ m. c.from_be_bytes.result < 2 ^ m) (sym all) c.from_be_bytes.type_inv) in
    let less : c.from_be_bytes.result / 2 ^ (128 - log2 12 c.args.q) < c.args.q = omega arith in
    rw (e, four-less, four) less
