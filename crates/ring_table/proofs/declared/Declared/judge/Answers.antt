use Rattle.std.proofs.Common.{◌≡◌, Bool, List, [], ℕ, length, map, nat_lt, Result, sym, ap, ◌∙◌, refl, rules}
use Rattle.std.specs.Borrow.{Bor}
use Rattle.ring_names.specs.declared.refusal.Refusal.{Refusal}
use Rattle.texts.specs.Judging.{both_of, map_ok, end_at, need_at}
use Rattle.texts.proofs.Items.{both-map_left, both-map_right, map-map}
use Rattle.texts.proofs.Lates.{at-is}
use Rattle.ring_table.specs.declared.allowance.Allowance.{Allowance}
use Rattle.ring_table.specs.declared.node.Node.{Node}
use Rattle.ring_table.specs.Reading.{second_at, allowance_at, node_at}
use Rattle.ring_table.proofs.RingForm.{node_line, line-is}
use Rattle.ring_table.proofs.RingLates.{node-at}
use Rattle.ring_table.proofs.declared.Declared.judge.Goals as goal
use Rattle.ring_table.proofs.declared.Declared.judge.Goals.{After-finish}

-- the node of a line, its name in the text or out of it
abbrev made : (((Unit {0} × Unit {0}) × List ℕ) × Allowance) × Bool → Node
made x = record { name = x.0.0.1; allowance = x.0.1; is_member = x.1 }

abbrev made_from : (((Unit {0} × Unit {0}) × Bor (List ℕ)) × Allowance) × Bool → Node
made_from x = record { name = x.0.0.1.now; allowance = x.0.1; is_member = x.1 }

taken : (r w : Result (Unit {0}) Refusal) (n : Result (Bor (List ℕ)) Refusal) (a : Result Allowance Refusal) (m : Result Bool Refusal) (e : Result (Unit {0}) Refusal)
    → map_ok made_from (map_ok (λ x. x.0) (both_of (both_of (both_of (both_of (both_of r w) n) a) m) e))
    ≡ map_ok made (map_ok (λ x. x.0) (both_of (both_of (both_of (both_of (both_of r w) (map_ok (λ x. x.now) n)) a) m) e))
taken r w n a m e = simp (both-map_right, both-map_left, map-map)

read : (c : After-finish) → map_ok made_from c.finish.result ≡ node_at c.args.format c.args.self.now c.args.fields.number c.args.fields.fields
unfolding node_at
read c =
    let line = c.membership-is_member.new.fields in
    let end = (end_at line.number line.fields).0 in
    let all : c.finish.result ≡ map_ok (λ x. x.0) (both_of (both_of (both_of (both_of (both_of c.need-room.result c.word-word.result) c.new_name-name.result) c.allowance-allowance.result) c.membership-is_member.result) end) = search rules in
    let room : c.need-room.result ≡ (need_at c.args.fields.number (nat_lt (length c.args.self.now) 1024) []).0 = search rules in
    let names : c.self.inside.names ≡ map (λ x. x.name) c.args.self.now = search rules in
    let word = c.word-word.ensures in
    let name = c.new_name-name.ensures in
    let allowance = c.allowance-allowance.ensures in
    let member = c.membership-is_member.ensures in
    ap (map_ok made_from) all ∙ taken c.need-room.result c.word-word.result c.new_name-name.result c.allowance-allowance.result c.membership-is_member.result end
    ∙ rw (name.0, room, word.0, allowance.0, member.0, member.1, allowance.1, name.1, word.1, names) (refl {a = node_at c.args.format c.args.self.now c.args.fields.number c.args.fields.fields})

pub returns-in-Ok : goal.returns-in-Ok
unfolding node_at allowance_at second_at
returns-in-Ok c =
    let value = ap (map_ok made_from) (sym c.in-Ok.is) ∙ read (goal.at.returns-in-Ok c).After-finish in
    let said = ((node_line {W = Unit {0}} c.args.format c.args.self.now).exact tt c.args.fields.number).takes c.args.fields.fields _ (sym value) in
    record { value = value; new = line-is c.args.format c.args.self.now _ said.1; at = tt }

pub returns-in-Err : goal.returns-in-Err
returns-in-Err c =
    let value = ap (map_ok made_from) (sym c.in-Err.is) ∙ read (goal.at.returns-in-Err c).After-finish in
    record { value = value; new = tt; at = at-is c.args.fields.number c.in-Err.e (node_at c.args.format c.args.self.now c.args.fields.number c.args.fields.fields) (sym value) (node-at c.args.format c.args.self.now c.args.fields.number c.args.fields.fields) }
