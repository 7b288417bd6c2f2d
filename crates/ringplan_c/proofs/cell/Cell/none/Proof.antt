-- `none` makes a cell with no value.
use Rattle.std.proofs.Common.{◌≡◌, List, [], ◌∷◌, ◌++◌, refl, sym, ap, subst, None, lit<}
use mir.Val.{Val, vnull, vstruct, vcons, vnil}
use base.Logic.{SProp, ent, id⊢}
use base.Fml.{ftrue, flft}
use prog.Wp.{WpFn}
use types.Kit.{‵, raw, ◌⊛◌, ◌$◌, ◌∵◌, !, qed, by, move, keep, drop, split, join, fsplit, fjoin, fpack, suffices, feq_i, done}
use types.Run.{lit, of_opd, no_more, and_then, returns, enter}
use types.ByLocal.{alloc_all, pass_all, free_all, look_at, get, sets}
use types.Part.{agg}
use contract.Running.{tables}
use denote.RattleType.{Valss, owns}
use denote.Signature.{types_at}
use denote.Builtin.{RawPtr}
use denote.RawPtr.{null_ptr}
use denote.Struct.Struct.{within}
use denote.Struct.Owning.{shape}
use denote.Steps.{nothing}
use denote.Triple.Walked.{Stays, says, walk_of, ends_at}
use Rattle.std.proofs.raw_atomic.Walks.{proved_at}
use Rattle.ringplan_c.specs.contracts.cell.Cell as cells
use Rattle.ringplan_c.specs.contracts.cell.Cell.none.{ended, clauses}
use Rattle.ringplan_c.specs.contracts.cell.Cell.none.Key.{name as #self}
use Rattle.ringplan_c.proofs.cell.Cell.none.Statement.{statement}
use Rattle.ringplan_c.proofs.cell.Cell.none.Code as code

abbrev one : Val → Val
one v = vstruct (vcons v vnil)

pub none_spec : {M : Type 1} → statement M
none_spec 𝓤 𝓛 𝓜 𝓡 wired =
    let H = 𝓛.H in let 𝓣 = tables 𝓤 H 𝓜 𝓡 𝓡.env in let c = clauses 𝓛 𝓜.mem 𝓡.returns in let hs : Stays ended.signature.params ended.kept = tt in
    proved_at 𝓛 ended hs c 𝓜 𝓡 tt #self code.function (code.unfolded 𝓤 H 𝓜 𝓡 wired) (λ z are.
    let κs = z.0.0 in let Post : Val → SProp 𝓤 = (walk_of 𝓛 ended hs c).post z in
    qed 𝓛 ((‵ ftrue ⊛ ‵ (owns (types_at ended.signature.params κs) z.0.3 z.0.4)) ∷ raw ((c κs z.0.3).requires z.1) ∷ []) ∵ keep ! (0 ∷ []) $ split ! $ move ! (1 ∷ []) $ drop ! $
    enter ! 𝓣.C 𝓣.Λ code.function [] Post $ alloc_all ! (λ l. pass_all ! refl tt $ sets ! (agg ! (and_then ! (lit ! tt) (no_more !))) refl (tt, (record { fits = lit< tt }, tt)) $
    nothing ! $ nothing ! $ feq_i ! (List Val) (vnull ∷ []) (vnull ∷ []) refl $ fjoin ! $ feq_i ! (List Val) (one vnull ∷ []) (one vnull ∷ []) refl $ fjoin ! $
    fpack ! (Valss (RawPtr ∷ [])) (within (shape cells.the_type) (null_ptr, tt) (one vnull ∷ [])) (vnull ∷ [], tt) $ fjoin ! $
    returns ! (look_at ! 0 refl) $ free_all ! refl $
    suffices ! _ (ends_at 𝓛 ended hs c z (one vnull) (record { at = null_ptr; value = None }) tt tt) $ says ! refl $
    nothing ! $ move ! (2 ∷ 0 ∷ 1 ∷ []) $ done !))
