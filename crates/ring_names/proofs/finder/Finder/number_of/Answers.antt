use Rattle.std.proofs.Common.{◌≡◌, ℕ, List, Some, map, slice_get, sym, subst}
use Rattle.ring_names.specs.Noted.{IsNoted}
use Rattle.ring_names.specs.declared.noted.Noted.{Noted}
use Rattle.ring_names.proofs.Finding.{not-found}
use Rattle.ring_names.proofs.Places.{place-get}
use Rattle.ring_names.proofs.finder.Finder.number_of.Goals as goal

pub returns-in-Some : goal.returns-in-Some
returns-in-Some c = sym (place-get (map (λ b. b.items) c.args.list.now) c.in-Some.number c.args.bytes.now c.requires.new c.in-Some.ensures.found)

pub returns-in-Some-get : goal.returns-in-Some-get
returns-in-Some-get c =
    let n = c.in-Some-get.number.now in
    sym (place-get (map (λ b. b.items) c.args.list.now) n c.args.bytes.now c.requires.new (c.requires.others n c.args.bytes.now (sym c.in-Some-get.ensures.value)))

pub returns-in-None : goal.returns-in-None
returns-in-None c =
    let unnoted : (n : ℕ) → IsNoted c.args.self.now.table.items c.args.bytes.now n → slice_get (map (λ b. b.items) c.args.list.now) n ≡ Some c.args.bytes.now → ⊥ = λ n noted is. c.in_default.ensures.none n (subst (λ (t : List Noted). IsNoted t c.args.bytes.now n) (sym c.as_slice.ensures.value) noted) is in
    sym (not-found c.args.self.now (map (λ b. b.items) c.args.list.now) c.args.bytes.now c.requires unnoted (sym c.in-None.ensures.value))
