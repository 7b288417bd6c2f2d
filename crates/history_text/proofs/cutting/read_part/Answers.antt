use Rattle.std.proofs.Common.{◌≡◌, drop, length, ap, ◌∙◌, arith}
use Rattle.std.proofs.lemmas.List.{take_rest}
use Rattle.history_text.proofs.Wholes.{behind_front, no_front, no_memory_all, whole_input}
use Rattle.history_text.proofs.cutting.read_part.Goals as goal

pub returns-in_err-head : goal.returns-in_err-head
returns-in_err-head g c = no_front c.args.wanted.choice c.args.wanted.entry (g.R.Read.remaining c.args.input.now) (g.R.Read.remaining c.open.new.input) c.from_residual.result c.in_err-head.field-0.0 c.from_residual.ensures.1 c.in_err-head.ensures.err

pub returns-in_err-first : goal.returns-in_err-first
returns-in_err-first g c = no_memory_all c.args.wanted.choice c.args.wanted.entry (g.R.Read.remaining c.args.input.now) c.from_residual-in_err-first.result c.from_residual-in_err-first.ensures

pub returns : goal.returns
returns g c =
    let head = c.in_ok-head.field-0.head in
    let front = c.in_ok-head.field-0.front in
    let o = c.in_ok-head.ensures.ok in
    let h = c.cut_history.ensures in
    let size = front.text.ok.0 in
    let n_is : c.len.result ≡ length front.text.items = (let e = c.len.ensures in omega arith) in
    whole_input c.args.wanted.choice c.args.wanted.entry (g.R.Read.remaining c.args.input.now) (g.R.Read.remaining c.open.new.input) head front o.2 o.3 c.in_ok-first.first.items h.0 c.cut_history.result o.0 o.1 o.4
    (c.in_ok-first.ensures.items ∙ take_rest c.as_slice.result.now c.len.result ∙ ap (drop c.len.result) c.as_slice.ensures.value ∙ behind_front head.bytes.items front o.2 o.3 c.len.result o.4 n_is) h.1 h.2
