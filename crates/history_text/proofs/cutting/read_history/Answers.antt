use Rattle.std.proofs.Common.{◌≡◌, length, sym, ◌∙◌, arith, eqb-true}
use Rattle.history_text.proofs.Pieces.{ends, failed_all, first_on, first_stop, more_on, more_stop, outside}
use Rattle.history_text.proofs.cutting.read_history.Goals as goal

pub returns-in_err-cut_some : goal.returns-in_err-cut_some
returns-in_err-cut_some g c =
    first_stop c.args.cutter.now c.cut_some.new.self c.cut_some.new.self.reader c.args.first.items c.new-left.result.items c.as_slice.result.now (g.R.Read.remaining c.args.input.now) c.from_residual.result c.in_err-cut_some.field-0.0
    c.from_residual.ensures.1 c.new-left.ensures.items c.as_slice.ensures.value c.in_err-cut_some.ensures.err

pub reads-init : goal.reads-init
reads-init g c = record {
  room = c.in_ok-cut_some.ensures.room;
  some = first_on c.args.cutter.now c.cut_some.new.self c.args.first.items c.new-left.result.items c.as_slice.result.now c.cut_some.new.left.items (g.R.Read.remaining c.args.input.now) c.new-left.ensures.items c.as_slice.ensures.value
      c.in_ok-cut_some.ensures.ok;
}

pub returns-in_err-more : goal.returns-in_err-more
returns-in_err-more g c =
    outside c.args.cutter.now c.reads.cutter c.args.first.items (g.R.Read.remaining c.args.input.now) c.from_residual-in_err-more.result c.in_err-more.field-0.0 c.from_residual-in_err-more.ensures.1 c.in_err-more.ensures.err

pub returns-then-is_empty : goal.returns-then-is_empty
returns-then-is_empty g c =
    let empty : c.in_ok-more.more.len ≡ 0 = eqb-true c.in_ok-more.more.len 0 (sym c.is_empty.ensures ∙ c.if-is_empty.true) in
    let size = c.in_ok-more.more.ok.0 in
    let none : length c.in_ok-more.more.items ≡ 0 = omega arith in
    ends c.args.cutter.now c.reads.cutter c.args.first.items c.reads.left.items c.as_slice-then-is_empty.result.now c.in_ok-more.more.items 65536 (g.R.Read.remaining c.args.input.now) (g.R.Read.remaining c.reads.input)
    (g.R.Read.remaining c.read_some.new.input) c.end.result c.reads.invariant.some c.in_ok-more.ensures.ok none c.as_slice-then-is_empty.ensures.value c.end.ensures

pub returns-in_err-cut_some-2 : goal.returns-in_err-cut_some-2
returns-in_err-cut_some-2 g c =
    more_stop c.args.cutter.now c.reads.cutter c.cut_some-in-reads.new.self c.cut_some-in-reads.new.self.reader c.args.first.items c.reads.left.items c.as_slice-in-reads.result.now c.in_ok-more.more.items 65536 (g.R.Read.remaining c.args.input.now) (g.R.Read.remaining c.reads.input)
    (g.R.Read.remaining c.read_some.new.input) c.from_residual-in_err-cut_some-2.result c.in_err-cut_some-2.field-0.0 c.from_residual-in_err-cut_some-2.ensures.1 c.reads.invariant.some c.as_slice-in-reads.ensures.value
    c.in_ok-more.ensures.ok c.in_err-cut_some-2.ensures.err

pub reads-preserved : goal.reads-preserved
reads-preserved g c = record {
  room = c.in_ok-cut_some-2.ensures.room;
  some = more_on c.args.cutter.now c.reads.cutter c.cut_some-in-reads.new.self c.args.first.items c.reads.left.items c.as_slice-in-reads.result.now c.in_ok-more.more.items c.cut_some-in-reads.new.left.items 65536 (g.R.Read.remaining c.args.input.now)
      (g.R.Read.remaining c.reads.input) (g.R.Read.remaining c.read_some.new.input) c.reads.invariant.some c.as_slice-in-reads.ensures.value c.in_ok-more.ensures.ok c.in_ok-cut_some-2.ensures.ok;
}

pub returns : goal.returns
returns g c = failed_all c.args.cutter.now c.reads.cutter c.args.first.items (g.R.Read.remaining c.args.input.now)
