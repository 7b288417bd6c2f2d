use Rattle.std.proofs.Common.{List, IfOk, refl, sym, ap, subst}
use Rattle.std.specs.Vec.{vec_len}
use Rattle.std.proofs.lemmas.Result.{IfOk-weaker}
use Rattle.ring_versions.specs.Fresh.{Brings}
use Rattle.ring_versions.specs.Parts.{IsFresh}
use Rattle.ring_versions.specs.Shared.{looked_at}
use Rattle.ring_versions.specs.Versions.{IsMerge}
use Rattle.ring_versions.specs.declared.version.Version.{Version}
use Rattle.ring_versions.proofs.Members.{empty, filled}
use Rattle.ring_versions.proofs.Merging.{fresh_as, brings_merge, brings_nothing}
use Rattle.ring_versions.proofs.merge.merged.Goals as goal

pub returns-then-is_empty-clause-ok : goal.returns-then-is_empty-clause-ok
returns-then-is_empty-clause-ok c =
    let held = looked_at c.args.held in
    let others = c.args.others.now in
    let out = c.in_ok-fresh.fresh in
    let none = empty out.items (vec_len out) c.is_empty.result out.ok.0 c.is_empty.ensures c.if-is_empty.true in
    let fresh = fresh_as held _ held others out.items refl c.held.ensures.value (c.in_ok-fresh.ensures).ok in
    brings_nothing held others c.new.result c.new.ensures c.requires (subst (IsFresh held others) none fresh)

pub returns-in-Few-clause-ok : goal.returns-in-Few-clause-ok
returns-in-Few-clause-ok c =
    let held = looked_at c.args.held in
    let others = c.args.others.now in
    let out = c.in_ok-fresh.fresh in
    let some = filled out.items (vec_len out) c.is_empty.result out.ok.0 c.is_empty.ensures c.if-is_empty.false in
    let fresh = fresh_as held _ held others out.items refl c.held.ensures.value (c.in_ok-fresh.ensures).ok in
    let merged = subst (λ (vs : List Version). IfOk c.merged_with_few.result (IsMerge vs others)) (sym (ap looked_at c.in-Few.is)) c.merged_with_few.ensures.ok in
    IfOk-weaker c.merged_with_few.result (IsMerge held others) (Brings held others) (λ s m. brings_merge held others out.items s fresh some m) merged

pub returns-in-Many-clause-ok : goal.returns-in-Many-clause-ok
returns-in-Many-clause-ok c =
    let held = looked_at c.args.held in
    let others = c.args.others.now in
    let out = c.in_ok-fresh.fresh in
    let some = filled out.items (vec_len out) c.is_empty.result out.ok.0 c.is_empty.ensures c.if-is_empty.false in
    let fresh = fresh_as held _ held others out.items refl c.held.ensures.value (c.in_ok-fresh.ensures).ok in
    let merged = subst (λ (vs : List Version). IfOk c.merged_with_many.result (IsMerge vs others)) (sym (ap looked_at c.in-Many.is)) c.merged_with_many.ensures.ok in
    IfOk-weaker c.merged_with_many.result (IsMerge held others) (Brings held others) (λ s m. brings_merge held others out.items s fresh some m) merged
