-- `new` picks no events. Assumes `Logic`.
use Rattle.std.proofs.Common.{[], ◌∷◌, refl}
use seplogic.Ra.Ura.{Ura}
use mir.Syntax.{Fn}
use base.Logic.{SProp}
use prog.Memory.{Memory}
use prog.Routine.{Routine}
use prog.Wp.{Tables}
use contract.Monad.{Fun}
use contract.Running.{tables, tables_of}
use types.Logic.{Logic}
use types.Kit.{‵, raw, ◌⊛◌, ◌$◌, ◌∵◌, !, qed, move, keep, drop, split, fjoin, suffices, done}
use types.Part.{agg}
use types.Run.{enter, returns, no_more}
use types.ByLocal.{alloc_all, pass_all, free_all, look_at, sets}
use denote.RattleType.{owns}
use denote.Signature.{types_at}
use denote.Steps.{nothing}
use denote.Triple.Clauses.{Clauses, closing}
use denote.Triple.Entry.{alive}
use denote.Triple.Spec.{triple_of}
use denote.Triple.Table.{entered}
use denote.Triple.Walked.{says, Stays, walk_of, ends_at}
use Rattle.txn_store.proofs.Walks.{none, none_made, AllWalk, meets}
use Rattle.txn_store.specs.contracts.count.Unread as Unread
use Rattle.txn_store.specs.contracts.count.Unread.new as F
use Rattle.txn_store.specs.contracts.count.Unread.new.Key.{name as #self}
use Rattle.txn_store.proofs.count.Unread.new.Statement as stated
use Rattle.txn_store.proofs.count.Unread.new.Code as code

abbrev function : Fn
function = code.function

abbrev stayed : Stays F.ended.signature.params F.ended.kept
stayed = tt

module _ {M : Type 1} {𝓤 : Ura M} (𝓛 : Logic 𝓤) (at_mem : Memory → SProp 𝓤) (run : Routine → Fun 𝓤) where
  abbrev held : Clauses 𝓤 F.ended
  held = F.clauses 𝓛 at_mem run

  walks : AllWalk 𝓛 F.ended stayed held function
  walks C Λ z =
      let log : (Unread.the_row).Denot = record { value = 0 } in
      qed 𝓛 ((raw (alive 𝓛 F.ended.signature z.0.0 z.0.1) ⊛ ‵ (owns (types_at F.ended.signature.params z.0.0) z.0.3 z.0.4)) ∷ raw ((held z.0.0 z.0.3).requires z.1) ∷ []) ∵
      keep ! (0 ∷ []) $ split ! $ move ! (1 ∷ []) $ drop ! $
      enter ! C Λ function [] ((walk_of 𝓛 F.ended stayed held).post z) $ alloc_all ! (λ l. pass_all ! refl tt $
      sets ! (agg ! (no_more !)) refl (tt, tt) $
      nothing ! $ none_made ! $ fjoin ! $
      returns ! (look_at ! 0 refl) $ free_all ! refl $
      suffices ! _ (ends_at 𝓛 F.ended stayed held z none log tt tt) $ says ! refl $
      nothing ! $ move ! (2 ∷ 0 ∷ 1 ∷ []) $ done !)

pub new_spec : {M : Type 1} → stated.statement M
unfolding tables_of
new_spec 𝓤 𝓛 𝓜 𝓡 wired =
    let 𝓣 : Tables 𝓤 𝓛.H = tables_of 𝓤 𝓛.H 𝓜 (tables 𝓤 𝓛.H 𝓜 𝓡 𝓡.env) in
    entered 𝓤 𝓛.H (triple_of 𝓛 F.ended.signature (closing 𝓛 F.ended (held 𝓛 𝓜.mem 𝓡.returns))) 𝓣.C 𝓣.Λ #self function
    (code.unfolded 𝓤 𝓛.H 𝓜 𝓡 wired) (meets 𝓛 F.ended stayed (held 𝓛 𝓜.mem 𝓡.returns) function tt (walks 𝓛 𝓜.mem 𝓡.returns) 𝓣)
