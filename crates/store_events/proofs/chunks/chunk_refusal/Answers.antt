use Rattle.std.proofs.Common.{◌∙◌, sym, ltb-true}
use Rattle.std.specs.Prelude.{nat_lt}
use Rattle.std.proofs.lemmas.Bool.{and_parts}
use Rattle.plan_runs.specs.Guards.{has_copy}
use Rattle.store_parts.specs.Parts.{plan_of}
use Rattle.store_events.proofs.ChunkTests.{chunk_unknown, chunk_not_open, chunk_ready, chunk_done, chunk_party, chunk_keepers}
use Rattle.store_events.proofs.chunks.chunk_refusal.Goals as goal

pub returns-then-not-has_chunk : goal.returns-then-not-has_chunk
returns-then-not-has_chunk c = chunk_unknown c.args.parts.now c.args.step c.args.chunk (sym c.has_chunk.ensures ∙ c.if-not-has_chunk.true)

pub returns-then-not-is_open : goal.returns-then-not-is_open
returns-then-not-is_open c = chunk_not_open c.args.parts.now c.args.step c.args.chunk (sym c.has_chunk.ensures ∙ c.if-not-has_chunk.false) (sym c.is_open.ensures ∙ c.if-not-is_open.true)

pub returns-then-is_marked : goal.returns-then-is_marked
returns-then-is_marked c =
    chunk_done c.args.parts.now c.args.step c.args.chunk (sym c.has_chunk.ensures ∙ c.if-not-has_chunk.false) (sym c.is_open.ensures ∙ c.if-not-is_open.false) (sym c.is_marked.ensures ∙ c.if-is_marked.true)

pub party_refusal-requires-clause-ready : goal.party_refusal-requires-clause-ready
party_refusal-requires-clause-ready c =
    chunk_ready c.args.parts.now c.args.step c.args.chunk (sym c.has_chunk.ensures ∙ c.if-not-has_chunk.false) (sym c.is_open.ensures ∙ c.if-not-is_open.false)

pub returns-in-Some : goal.returns-in-Some
returns-in-Some c =
    chunk_party c.args.parts.now c.args.step c.args.chunk (sym c.has_chunk.ensures ∙ c.if-not-has_chunk.false) (sym c.is_open.ensures ∙ c.if-not-is_open.false) (sym c.is_marked.ensures ∙ c.if-is_marked.false)
    c.in-Some.refusal c.in-Some.ensures

pub keeper_refusal-requires-clause-chunk : goal.keeper_refusal-requires-clause-chunk
keeper_refusal-requires-clause-chunk c =
    ltb-true c.args.chunk 16 (and_parts (has_copy (plan_of c.args.parts.now) c.args.step) (nat_lt c.args.chunk 16) (sym c.has_chunk.ensures ∙ c.if-not-has_chunk.false)).1

pub keeper_refusal-requires-clause-copy : goal.keeper_refusal-requires-clause-copy
keeper_refusal-requires-clause-copy c =
    (and_parts (has_copy (plan_of c.args.parts.now) c.args.step) (nat_lt c.args.chunk 16) (sym c.has_chunk.ensures ∙ c.if-not-has_chunk.false)).0

pub returns : goal.returns
returns c =
    chunk_keepers c.args.parts.now c.args.step c.args.chunk (sym c.has_chunk.ensures ∙ c.if-not-has_chunk.false) (sym c.is_open.ensures ∙ c.if-not-is_open.false) (sym c.is_marked.ensures ∙ c.if-is_marked.false)
    c.keeper_refusal.result c.in_default.ensures c.keeper_refusal.ensures
