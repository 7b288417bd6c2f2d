use Rattle.std.proofs.Common.{◌∙◌, ◌++◌, [], List, ℕ, ap, sym}
use Rattle.std.proofs.lemmas.List.{append-nil, append_assoc}
use Rattle.ringplan_c.proofs.speaking.push_text.Goals as goal

pub loop-chunk-init : goal.loop-chunk-init
loop-chunk-init c = ([], sym (append-nil c.args.out.now.items))

pub loop-chunk-preserved : goal.loop-chunk-preserved
loop-chunk-preserved c =
    let told = c.loop-chunk.invariant in
    let more = c.as_bytes.result.now in
    (told.0 ++ more, c.in_ok-extend_from_slice.ensures.items ∙ (ap (λ (xs : List ℕ). xs ++ more) told.1 ∙ append_assoc c.args.out.now.items told.0 more))

pub returns : goal.returns
returns c = c.loop-chunk.invariant
