use Rattle.std.proofs.Common.{◌≢◌, ℕ, List, length, ap, arith}
use Rattle.ring_names.specs.declared.refusal.Refusal.{Refusal}
use Rattle.ring_names.specs.declared.refusal.Refusal.TheVariants.{OutOfMemory, ReadFailed}
use Rattle.history_text.specs.Cutting.{HasNone}
use Rattle.history_text.proofs.Takings.{if_err}
use Rattle.history_text.proofs.Openings.{first_head, found_front, more_bytes, next_head, none_last, none_tried, opened_last}
use Rattle.history_text.proofs.opening.open.Goals as goal

pub returns-in_err-opened-clause-err : goal.returns-in_err-opened-clause-err
returns-in_err-opened-clause-err g c =
    let a = g.R.Read.remaining c.args.input.now in
    let b = g.R.Read.remaining c.read_head.new.input in
    let head = first_head a b c.new.result.items 1048576 c.in_ok-head.head c.new.ensures.items c.in_ok-head.ensures.ok in
    let e = c.in_err-opened.field-0.0 in
    if_err c.from_residual-in_err-opened.result e (λ (x : Refusal). x ≢ OutOfMemory → x ≢ ReadFailed → HasNone a b x) c.from_residual-in_err-opened.ensures.1 (none_tried a b 1048576 c.in_ok-head.head e head c.in_err-opened.ensures.err)

pub returns-in-Found-clause-ok : goal.returns-in-Found-clause-ok
returns-in-Found-clause-ok g c =
    let a = g.R.Read.remaining c.args.input.now in
    let b = g.R.Read.remaining c.read_head.new.input in
    let head = first_head a b c.new.result.items 1048576 c.in_ok-head.head c.new.ensures.items c.in_ok-head.ensures.ok in
    found_front a b 1048576 c.in_ok-head.head c.in_ok-opened.field-0 c.in-Found.opened c.in-Found.is c.in_ok-opened.ensures.ok head

pub read_head-requires-2 : goal.read_head-requires-2
read_head-requires-2 g c =
    let a = g.R.Read.remaining c.args.input.now in
    let head = first_head a (g.R.Read.remaining c.read_head.new.input) c.new.result.items 1048576 c.in_ok-head.head c.new.ensures.items c.in_ok-head.ensures.ok in
    let same = ap (λ (xs : List ℕ). length xs) (more_bytes c.in_ok-head.head c.in_ok-opened.field-0 c.in-More.bytes c.in-More.is c.in_ok-opened.ensures.ok) in
    let few = head.few in
    omega arith

pub returns-in_err-opened-2-clause-err : goal.returns-in_err-opened-2-clause-err
returns-in_err-opened-2-clause-err g c =
    let a = g.R.Read.remaining c.args.input.now in
    let b = g.R.Read.remaining c.read_head.new.input in
    let d = g.R.Read.remaining c.read_head-2.new.input in
    let head = first_head a b c.new.result.items 1048576 c.in_ok-head.head c.new.ensures.items c.in_ok-head.ensures.ok in
    let more = more_bytes c.in_ok-head.head c.in_ok-opened.field-0 c.in-More.bytes c.in-More.is c.in_ok-opened.ensures.ok in
    let next = next_head a b d 1048576 16777216 c.in_ok-head.head c.in_ok-head-2.head c.in-More.bytes.items head more c.in_ok-head-2.ensures.ok in
    let e = c.in_err-opened-2.field-0.0 in
    if_err c.from_residual-in_err-opened-2.result e (λ (x : Refusal). x ≢ OutOfMemory → x ≢ ReadFailed → HasNone a d x) c.from_residual-in_err-opened-2.ensures.1 (none_tried a d 16777216 c.in_ok-head-2.head e next c.in_err-opened-2.ensures.err)

pub returns-in-Found-2-clause-ok : goal.returns-in-Found-2-clause-ok
returns-in-Found-2-clause-ok g c =
    let a = g.R.Read.remaining c.args.input.now in
    let b = g.R.Read.remaining c.read_head.new.input in
    let d = g.R.Read.remaining c.read_head-2.new.input in
    let head = first_head a b c.new.result.items 1048576 c.in_ok-head.head c.new.ensures.items c.in_ok-head.ensures.ok in
    let more = more_bytes c.in_ok-head.head c.in_ok-opened.field-0 c.in-More.bytes c.in-More.is c.in_ok-opened.ensures.ok in
    let next = next_head a b d 1048576 16777216 c.in_ok-head.head c.in_ok-head-2.head c.in-More.bytes.items head more c.in_ok-head-2.ensures.ok in
    found_front a d 16777216 c.in_ok-head-2.head c.in_ok-opened-2.field-0 c.in-Found-2.opened c.in-Found-2.is c.in_ok-opened-2.ensures.ok next

pub read_head-requires-3 : goal.read_head-requires-3
read_head-requires-3 g c =
    let a = g.R.Read.remaining c.args.input.now in
    let b = g.R.Read.remaining c.read_head.new.input in
    let d = g.R.Read.remaining c.read_head-2.new.input in
    let head = first_head a b c.new.result.items 1048576 c.in_ok-head.head c.new.ensures.items c.in_ok-head.ensures.ok in
    let more = more_bytes c.in_ok-head.head c.in_ok-opened.field-0 c.in-More.bytes c.in-More.is c.in_ok-opened.ensures.ok in
    let next = next_head a b d 1048576 16777216 c.in_ok-head.head c.in_ok-head-2.head c.in-More.bytes.items head more c.in_ok-head-2.ensures.ok in
    let same = ap (λ (xs : List ℕ). length xs) (more_bytes c.in_ok-head-2.head c.in_ok-opened-2.field-0 c.in-More-2.bytes c.in-More-2.is c.in_ok-opened-2.ensures.ok) in
    let few = next.few in
    omega arith

pub returns-clause-ok : goal.returns-clause-ok
returns-clause-ok g c =
    let a = g.R.Read.remaining c.args.input.now in
    let b = g.R.Read.remaining c.read_head.new.input in
    let d = g.R.Read.remaining c.read_head-2.new.input in
    let f = g.R.Read.remaining c.read_head-3.new.input in
    let head = first_head a b c.new.result.items 1048576 c.in_ok-head.head c.new.ensures.items c.in_ok-head.ensures.ok in
    let more = more_bytes c.in_ok-head.head c.in_ok-opened.field-0 c.in-More.bytes c.in-More.is c.in_ok-opened.ensures.ok in
    let next = next_head a b d 1048576 16777216 c.in_ok-head.head c.in_ok-head-2.head c.in-More.bytes.items head more c.in_ok-head-2.ensures.ok in
    let most = more_bytes c.in_ok-head-2.head c.in_ok-opened-2.field-0 c.in-More-2.bytes c.in-More-2.is c.in_ok-opened-2.ensures.ok in
    let last = next_head a d f 16777216 67108864 c.in_ok-head-2.head c.in_ok-head-3.head c.in-More-2.bytes.items next most c.in_ok-head-3.ensures.ok in
    opened_last a f 67108864 c.in_ok-head-3.head c.last_front.result last c.last_front.ensures.ok

pub returns-clause-err : goal.returns-clause-err
returns-clause-err g c =
    let a = g.R.Read.remaining c.args.input.now in
    let b = g.R.Read.remaining c.read_head.new.input in
    let d = g.R.Read.remaining c.read_head-2.new.input in
    let f = g.R.Read.remaining c.read_head-3.new.input in
    let head = first_head a b c.new.result.items 1048576 c.in_ok-head.head c.new.ensures.items c.in_ok-head.ensures.ok in
    let more = more_bytes c.in_ok-head.head c.in_ok-opened.field-0 c.in-More.bytes c.in-More.is c.in_ok-opened.ensures.ok in
    let next = next_head a b d 1048576 16777216 c.in_ok-head.head c.in_ok-head-2.head c.in-More.bytes.items head more c.in_ok-head-2.ensures.ok in
    let most = more_bytes c.in_ok-head-2.head c.in_ok-opened-2.field-0 c.in-More-2.bytes c.in-More-2.is c.in_ok-opened-2.ensures.ok in
    let last = next_head a d f 16777216 67108864 c.in_ok-head-2.head c.in_ok-head-3.head c.in-More-2.bytes.items next most c.in_ok-head-3.ensures.ok in
    none_last a f c.in_ok-head-3.head c.last_front.result last c.last_front.ensures.err
