-- `raised` picks the number of the new count. Assumes `Logic`.
use Rattle.std.proofs.Common.{List, [], ◌∷◌, ◌++◌, ◌+◌, refl}
use seplogic.Ra.Ura.{Ura}
use mir.Syntax.{Fn}
use mir.Val.{Val, vptr}
use base.Logic.{SProp}
use prog.Memory.{Memory}
use prog.Routine.{Routine}
use prog.Wp.{WpFn, Tables}
use contract.Monad.{Fun}
use contract.Running.{tables, tables_of}
use types.Logic.{Logic}
use types.Kit.{‵, raw, ◌⊛◌, prop, ◌$◌, ◌∵◌, !, qed, move, keep, drop, split, fsplit, fjoin, feq_l, regoal, suffices, done}
use types.Part.{agg}
use types.Run.{enter, returns, no_more}
use types.ByLocal.{alloc_all, pass_all, free_all, look_at, sets}
use denote.Exit.{yes}
use denote.RattleType.{owns}
use denote.Builtin.{RefOf}
use denote.Signature.{plain, types_at}
use denote.Steps.{nothing}
use denote.Triple.Clauses.{Clauses, closing}
use denote.Triple.Entry.{alive}
use denote.Triple.Spec.{triple_of}
use denote.Triple.Table.{entered}
use denote.Triple.Walked.{says, Stays, stay_dropped, walk_of, ends_at, Goes-dropped}
use Rattle.txn_store.proofs.Walks.{none, none_made, AllWalk, meets}
use Rattle.txn_store.specs.contracts.count.Unread as Unread
use Rattle.txn_store.specs.contracts.count.Unread.raised as F
use Rattle.txn_store.specs.contracts.count.Unread.raised.Key.{name as #self}
use Rattle.txn_store.proofs.count.Unread.raised.Statement as stated
use Rattle.txn_store.proofs.count.Unread.raised.Code as code

abbrev function : Fn
function = code.function

abbrev stayed : Stays F.ended.signature.params F.ended.kept
stayed = (stay_dropped _ yes, tt)

module _ {M : Type 1} {𝓤 : Ura M} (𝓛 : Logic 𝓤) (at_mem : Memory → SProp 𝓤) (run : Routine → Fun 𝓤) where
  abbrev held : Clauses 𝓤 F.ended
  held = F.clauses 𝓛 at_mem run

  walks : AllWalk 𝓛 F.ended stayed held function
  walks C Λ z =
      let a = z.0.3 in
      let u : Val = vptr a.0.ref_ptr.0 a.0.ref_ptr.1 in
      let count : (Unread.the_row).Denot = record { value = a.0.now.value + z.1 } in
      qed 𝓛 ((raw (alive 𝓛 F.ended.signature z.0.0 z.0.1) ⊛ ‵ (owns (types_at F.ended.signature.params z.0.0) a z.0.4)) ∷ raw ((held z.0.0 a).requires z.1) ∷ []) ∵
      keep ! (0 ∷ []) $ split ! $ move ! (1 ∷ []) $ fsplit ! $ fsplit ! $ feq_l ! (λ is₀. drop ! $ drop ! $
      regoal ! (λ (us : List Val). prop (WpFn 𝓤 𝓛.H C Λ function (us ++ []) ((walk_of 𝓛 F.ended stayed held).post z))) is₀ refl $
      enter ! C Λ function (u ∷ []) ((walk_of 𝓛 F.ended stayed held).post z) $ alloc_all ! (λ l. pass_all ! refl ((tt, tt), tt) $
      sets ! (agg ! (no_more !)) refl (tt, tt) $
      nothing ! $ none_made ! $ fjoin ! $
      returns ! (look_at ! 0 refl) $ free_all ! refl $
      suffices ! _ (ends_at 𝓛 F.ended stayed held z none count (tt, tt) (tt, tt)) $ says ! refl $
      nothing ! $ nothing ! $ fjoin ! $ move ! (2 ∷ 0 ∷ 1 ∷ []) $ done !))

pub raised_spec : {M : Type 1} → stated.statement M
unfolding tables_of
raised_spec 𝓤 𝓛 𝓜 𝓡 wired =
    let 𝓣 : Tables 𝓤 𝓛.H = tables_of 𝓤 𝓛.H 𝓜 (tables 𝓤 𝓛.H 𝓜 𝓡 𝓡.env) in
    entered 𝓤 𝓛.H (triple_of 𝓛 F.ended.signature (closing 𝓛 F.ended (held 𝓛 𝓜.mem 𝓡.returns))) 𝓣.C 𝓣.Λ #self function
    (code.unfolded 𝓤 𝓛.H 𝓜 𝓡 wired) (meets 𝓛 F.ended stayed (held 𝓛 𝓜.mem 𝓡.returns) function (Goes-dropped 𝓛 1 (RefOf (0 ∷ []) tt (plain (λ _. Unread.the_row)) (λ _. tt)) yes (λ κs x f. refl), tt) (walks 𝓛 𝓜.mem 𝓡.returns) 𝓣)
