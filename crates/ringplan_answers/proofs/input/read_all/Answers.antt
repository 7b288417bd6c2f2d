use Rattle.std.proofs.Common.{rules, arith, ◌≡◌, ℕ, ◌+◌, ◌<◌, ◌≤◌, List, length, take, sym, ap, ◌∙◌, subst, length-append}
use Rattle.std.specs.Global.{Vec}
use Rattle.std.specs.Io.KnownBytes.{Consumes}
use Rattle.std.proofs.KnownBytes.{Consumes-nil, Consumes-trans}
use Rattle.ringplan_answers.specs.Io.{max_input}
use Rattle.ringplan_answers.proofs.Streams.{read_failed, out_of_memory, ended, gathered, too_much, refilled, nothing_read}
use Rattle.ringplan_answers.proofs.input.read_all.Goals.{in-Ok+else-count-len+in_ok-extend_from_slice-in-Ok, in-Err+else-ne}
use Rattle.ringplan_answers.proofs.input.read_all.Goals as goal

pub loop-turn-init : goal.loop-turn-init
loop-turn-init g c =
    let none = c.new-bytes.ensures.items in
    let zero : length c.new-bytes.result.items ≡ 0 = ap (λ (l : List ℕ). length l) none in
    let chunk : length c.in_ok-chunk.chunk.items ≡ 65536 = search rules in
    (omega arith, omega arith, subst (Consumes _ _) (sym none) (Consumes-nil _))

pub returns-in_err-chunk : goal.returns-in_err-chunk
returns-in_err-chunk g c = out_of_memory _ _ c.from_residual.ensures

pub returns-in-Ok-eq0 : goal.returns-in-Ok-eq0
returns-in-Ok-eq0 g c =
    let (limit, room, told) = c.loop-turn.invariant in
    let buffer : 0 < length c.read.new.buf = search rules in
    let (taken, end) = c.in-Ok-eq0.ensures.bytes in
    ended _ _ _ c.loop-turn.bytes c.in-Ok-eq0.field-0 c.read.new.buf c.in-Ok-eq0.field-0-test told taken (end c.in-Ok-eq0.field-0-test buffer) limit

pub returns-then-count-len : goal.returns-then-count-len
returns-then-count-len g c =
    let (limit, room, told) = c.loop-turn.invariant in
    let front = take c.in-Ok.count c.read.new.buf in
    let long : c.in-Ok.count ≡ length front = c.in-Ok.ensures.bound.1 in
    let before : c.len.result ≡ length c.loop-turn.bytes.items = search rules in
    too_much _ _ _ c.loop-turn.bytes.items front told c.in-Ok.ensures.bytes.0 (omega (arith, c.if-count-len.true))

pub returns-in_err-extend_from_slice-in-Ok : goal.returns-in_err-extend_from_slice-in-Ok
returns-in_err-extend_from_slice-in-Ok g c = out_of_memory _ _ c.from_residual-in_err-extend_from_slice-in-Ok.ensures

pub returns-then-ne : goal.returns-then-ne
returns-then-ne g c = read_failed _

pub returns : goal.returns
returns g c = read_failed _

pub loop-turn-preserved : goal.loop-turn-preserved
loop-turn-preserved g c =
    let (limit, room, told) = c.loop-turn.invariant in
    let whole : c.loop-turn.chunk.len ≡ length c.loop-turn.chunk.items = search rules in
    let kept : length c.read.new.buf ≡ length c.loop-turn.chunk.items = search rules in
    let same = refilled c.loop-turn.chunk.len c.read.new.buf c.loop-turn.chunk.items whole kept in
    let room_after = ap (λ (l : List ℕ). length l) same in
    let from = g.R.Read.remaining c.args.input.now in
    let to = g.R.Read.remaining c.read.new.self in
    let met : (length c.match-read.bytes.items ≤ max_input) × Consumes from to c.match-read.bytes.items = elim c.match-read.branch [
      | in-Ok+else-count-len+in_ok-extend_from_slice-in-Ok w ↦
          (let front = take w.in-Ok.count c.read.new.buf in
          let long : w.in-Ok.count ≡ length front = w.in-Ok.ensures.bound.1 in
          let before : w.len.result ≡ length c.loop-turn.bytes.items = search rules in
          let shown : w.deref.result.now ≡ c.read.new.buf = w.deref.ensures.value ∙ same in
          let now = gathered c.loop-turn.bytes.items w.extend_from_slice.new.self.items w.deref.result.now c.read.new.buf w.in-Ok.count w.in_ok-extend_from_slice-in-Ok.ensures.items shown in
          let size : length w.extend_from_slice.new.self.items ≡ length c.loop-turn.bytes.items + length front = ap (λ (l : List ℕ). length l) now ∙ length-append c.loop-turn.bytes.items front in
          subst (λ (v : Vec ℕ). (length v.items ≤ max_input) × Consumes from to v.items) (sym w.bytes-is)
          (omega (arith, w.if-count-len.false), subst (Consumes from to) (sym now) (Consumes-trans _ _ _ _ _ told w.in-Ok.ensures.bytes.0)))
      | in-Err+else-ne w ↦
          subst (λ (v : Vec ℕ). (length v.items ≤ max_input) × Consumes from to v.items) (sym w.bytes-is)
          (limit, nothing_read _ _ _ _ told w.in-Err.ensures.bytes)
    ] in
    (met.0, omega (arith, room_after), met.1)
