-- `open` gives what lies there, where a state was made.
use Rattle.std.proofs.Common.{◌≡◌, List, [], ◌∷◌, ◌++◌, refl, sym, subst, lit<}
use Rattle.std.specs.Prelude.{Bool, true, false, Some, None}
use mir.Val.{Val, vptr, vcons, vnil}
use base.Logic.{SProp, ent, emp, id⊢}
use prog.Wp.{WpFn}
use types.Kit.{‵, raw, ◌⊛◌, at_ret, ◌$◌, ◌∵◌, !, qed, by, move, keep, drop, split, fsplit, fsplit3, fjoin, rewrite, suffices, use0, use1}
use types.Run.{stop, fld, lit, of_opd, no_more, and_then, first, branches, exec, returns, enter}
use types.ByLocal.{alloc_all, pass_all, free_all, look_at, get, get_in, sets, sets_last, env}
use types.Part.{agg, sub, whole}
use types.Match.{live}
use contract.Monad.{fact, fact_i}
use contract.Running.{tables}
use denote.Exit.{yes}
use denote.RattleType.{RattleType, owns}
use denote.RawPtr.{Ptr, block_ptr}
use denote.Signature.{types_at, type_at, plain}
use denote.Steps.{nothing}
use denote.Param.{layout}
use denote.Triple.Entry.{alive}
use denote.Triple.Walked.{Stays, stay_dropped, walk_of, Goes-dropped}
use Rattle.core.proofs.alloc.Calls.{Goes-blank}
use Rattle.core.proofs.alloc.Shapes.{after}
use Rattle.core.proofs.cell.Inside.{Good, one}
use Rattle.core.proofs.option.Made.{Some-of, none_of}
use Rattle.std_alloc.proofs.ResultValues.{and_tt}
use Rattle.std.specs.contracts.alloc.Global as heap
use Rattle.std.proofs.alloc.Global.TheLaws as heap_laws
use Rattle.std.specs.contracts.impls.GlobalAllocator.TheImpl.{ghosts}
use Rattle.std.proofs.raw_atomic.Walks.{proved_at, leaves}
use Rattle.txnobj_c.proofs.Values.{both, Loose, loose_good, loose_in}
use Rattle.txnobj_c.proofs.HeldValues.{held_val, held_told, held_typed, ptr_typed, either_owned}
use Rattle.txnobj_c.specs.Held.{held_in}
use Rattle.txn_client_seat.specs.contracts.seat.Seat as state
use Rattle.txnobj_c.specs.contracts.client.Client as held
use Rattle.txnobj_c.specs.contracts.client.Client.«open».{ended, clauses}
use Rattle.txnobj_c.specs.contracts.client.Client.«open».Key.{name as #self}
use Rattle.txnobj_c.proofs.client.Client.«open».Statement.{statement}
use Rattle.txnobj_c.proofs.client.Client.«open».Code as code

pub open_spec : {M : Type 1} → statement M
open_spec 𝓤 𝓛 𝓜 𝓡 wired =
    let H = 𝓛.H in let 𝓣 = tables 𝓤 H 𝓜 𝓡 𝓡.env in let En = ended in let c = clauses 𝓛 𝓜.mem 𝓡.returns in let fn = code.function in
    let R : RattleType = state.the_row in let Z : RattleType = heap.the_row in let LZ = heap_laws.the_row_laws in let Lr : RattleType = Loose R Z LZ ghosts in let Hr : RattleType = held.the_row in
    let hs : Stays En.signature.params En.kept = (stay_dropped (plain (λ _. Hr)) En.kept.0, (stay_dropped (plain (λ _. Z)) yes, tt)) in
    proved_at 𝓛 En hs c 𝓜 𝓡 (Goes-blank 𝓛 0 (plain (λ _. Hr)) En.kept.0 (λ κs x f. tt), (Goes-dropped 𝓛 0 (plain (λ _. Z)) yes (λ κs x f. refl), tt)) #self fn (code.unfolded 𝓤 H 𝓜 𝓡 wired) (λ z are.
    let Post : Val → SProp 𝓤 = (walk_of 𝓛 En hs c).post z in let d = z.0.3.0 in let a = z.0.3.1.0 in let Run : List Val → SProp 𝓤 = λ ws. WpFn 𝓤 H 𝓣.C 𝓣.Λ fn ws Post in let Out : RattleType = type_at En.signature.result z.0.0 in
    let told = held_told d.at d.made z.0.4.0 are.0.0 in let hv = one (layout Z) z.0.4.1.0 ((LZ.lawful 𝓛).typed a z.0.4.1.0 are.1.0) in let h = hv.0 in
    qed 𝓛 ((raw (alive 𝓛 En.signature z.0.0 z.0.1) ⊛ ‵ (owns (types_at En.signature.params z.0.0) z.0.3 z.0.4)) ∷ raw ((c z.0.0 z.0.3).requires z.1) ∷ []) ∵
    move ! (1 ∷ []) $ drop ! $ split ! $ move ! (1 ∷ []) $ fsplit3 ! $ fsplit ! $ drop ! $
    rewrite ! 1 (λ (us : List Val). ‵ (Z.own_val a us)) hv.1 refl $
    suffices ! (Run (held_val d.at d.made ∷ h ∷ [])) (subst (λ (us : List Val). ent 𝓤 (Run (held_val d.at d.made ∷ h ∷ [])) (Run us)) (sym (λ i. told i ++ (hv.1 i ++ []))) (id⊢ 𝓤 (Run (held_val d.at d.made ∷ h ∷ [])))) $
    -- [what is owned; the allocator; nothing; the lifetimes]
    either_owned R ! d.at d.made d.value
    (λ m x. suffices ! (Run (held_val d.at false ∷ h ∷ [])) (subst (λ (n : Bool). ent 𝓤 (Run (held_val d.at false ∷ h ∷ [])) (Run (held_val d.at n ∷ h ∷ []))) (sym m) (id⊢ 𝓤 (Run (held_val d.at false ∷ h ∷ [])))) $
    enter ! 𝓣.C 𝓣.Λ fn (held_val d.at false ∷ h ∷ []) Post $ alloc_all ! (λ l. pass_all ! refl (held_typed d.at false, (hv.2, tt)) $ let Ev = env fn.locals l in
    sets ! (of_opd ! (get_in ! (fld ! refl (stop !)) (sub ! 0 refl (whole !)))) refl (ptr_typed d.at) $
    sets ! (of_opd ! (get_in ! (fld ! refl (stop !)) (sub ! 1 refl (whole !)))) refl (tt, tt) $
    sets ! (of_opd ! (get ! refl)) refl (tt, tt) $ first ! $ branches ! (get ! refl) (λ wrong. absurd wrong) (λ _.
    sets_last ! (agg ! (and_then ! (lit ! tt) (no_more !))) refl (tt, (record { fits = lit< tt }, tt)) $ exec ! 𝓣.C 𝓣.Λ Ev (after 4 fn.body) (at_ret Ev Post) $
    sets ! (of_opd ! (get ! refl)) refl (tt, (record { fits = lit< tt }, tt)) $
    returns ! (look_at ! 0 refl) $ free_all ! refl $ move ! (2 ∷ []) $
    use0 𝓛 (‵ (Out.own_val None (live 0 vnil ∷ []))) (none_of 𝓛 Lr) $
    use0 𝓛 (raw (fact 𝓤 (held_in {A = Z.Denot} None ≡ d.value))) (fact_i 𝓤 (held_in {A = Z.Denot} None ≡ d.value) (emp 𝓤) (sym x)) $ nothing ! $ nothing ! $ fjoin ! $ nothing ! $ fjoin ! $
    keep ! (3 ∷ 0 ∷ 2 ∷ 1 ∷ []) $ by ! (leaves 𝓛 En hs c z (live 0 vnil) None (tt, (tt, tt)) (tt, (tt, tt))))))
    (λ b o y e m x. let made : Val = both (vptr b o) h in let typed = loose_good R Z LZ ghosts b o h hv.2 in let v : Val = live 1 (vcons made vnil) in let r : Lr.Denot = record { at = block_ptr b o; alloc = a; value = y } in
    let good : Good (layout Out) v = (and_tt _ typed.0, (record { fits = lit< tt }, (typed.1, tt))) in let w : Val = held_val (block_ptr b o) true in
    suffices ! (Run (w ∷ h ∷ [])) (subst (λ (n : Bool). ent 𝓤 (Run (w ∷ h ∷ [])) (Run (held_val d.at n ∷ h ∷ []))) (sym m) (subst (λ (p : Ptr). ent 𝓤 (Run (w ∷ h ∷ [])) (Run (held_val p true ∷ h ∷ []))) (sym e) (id⊢ 𝓤 (Run (w ∷ h ∷ []))))) $
    enter ! 𝓣.C 𝓣.Λ fn (w ∷ h ∷ []) Post $ alloc_all ! (λ l. pass_all ! refl (held_typed (block_ptr b o) true, (hv.2, tt)) $ let Ev = env fn.locals l in
    sets ! (of_opd ! (get_in ! (fld ! refl (stop !)) (sub ! 0 refl (whole !)))) refl (tt, tt) $
    sets ! (of_opd ! (get_in ! (fld ! refl (stop !)) (sub ! 1 refl (whole !)))) refl (tt, tt) $
    sets ! (of_opd ! (get ! refl)) refl (tt, tt) $ first ! $ branches ! (get ! refl) (λ _.
    sets ! (of_opd ! (get ! refl)) refl (tt, tt) $
    sets ! (agg ! (and_then ! (get ! refl) (and_then ! (get ! refl) (no_more !)))) refl typed $
    sets_last ! (agg ! (and_then ! (lit ! tt) (and_then ! (get ! refl) (no_more !)))) refl good $ exec ! 𝓣.C 𝓣.Λ Ev (after 4 fn.body) (at_ret Ev Post) $
    sets ! (of_opd ! (get ! refl)) refl good $
    returns ! (look_at ! 0 refl) $ free_all ! refl $ loose_in R Z LZ ghosts ! b o h a y $
    -- [where it lies; nothing; the lifetimes]
    use1 𝓛 (‵ (Out.own_val (Some r) (v ∷ []))) (Some-of 𝓛 Lr r made) $ move ! (0 ∷ 2 ∷ []) $
    use0 𝓛 (raw (fact 𝓤 (held_in (Some r) ≡ d.value))) (fact_i 𝓤 (held_in (Some r) ≡ d.value) (emp 𝓤) (sym x)) $ nothing ! $ nothing ! $ fjoin ! $ nothing ! $ fjoin ! $
    keep ! (3 ∷ 0 ∷ 2 ∷ 1 ∷ []) $ by ! (leaves 𝓛 En hs c z v (Some r) (tt, (tt, tt)) (tt, (tt, tt)))) (λ wrong. absurd wrong))))
