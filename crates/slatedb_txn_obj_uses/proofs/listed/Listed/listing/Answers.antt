-- Each file that is listed is told once, in order.
use Rattle.std.proofs.Common.{◌≡◌, ◌∙◌, ◌&&◌, Bool, sym, ap, subst, refl, take, ◌+◌}
use Rattle.std.proofs.lemmas.List.{take_all}
use Rattle.std.specs.FinMap as finmap
use Rattle.std.specs.Option.{option_copied}
use Rattle.txn_store.specs.Paths.{Segments, path_cmp, is_below}
use Rattle.txn_store.specs.Store.{Files, is_above, listing, meta_of}
use Rattle.txn_store.specs.declared.store.ObjectMeta.{ObjectMeta}
use Rattle.slatedb_txn_obj_uses.specs.Listed.{files_in, NoneTwice, keyed}
use Rattle.slatedb_txn_obj_uses.proofs.ListLemmas.{Entries}
use Rattle.slatedb_txn_obj_uses.proofs.TellLemmas.{IsTold, none_told, all_told, not_yet, one_told, one_passed_over}
use Rattle.slatedb_txn_obj_uses.proofs.listed.Listed.listing.Goals as goal
use Rattle.slatedb_txn_obj_uses.proofs.listed.Listed.listing.Goals.{then-is_listed+in_ok-try_clone+in_ok-tell, else-is_listed}

pub loop-file-init : goal.loop-file-init
loop-file-init c = none_told (λ (p : Segments). is_below c.args.prefix.now p && is_above (option_copied c.args.after) p) c.new-told.result.items (ap keyed c.new-told.ensures.items)

pub tell-requires : goal.tell-requires
tell-requires c =
    let e = c.file-item.result in
    let test : Segments → Bool = λ p. is_below c.args.prefix.now p && is_above (option_copied c.args.after) p in
    let once : NoneTwice c.deref-file-items.result.now = subst NoneTwice (sym c.deref-file-items.ensures.value) c.self.invariant in
    ap (λ (p : Segments). finmap.find path_cmp p (keyed c.loop-file.told.items)) c.in_ok-try_clone.ensures
    ∙ not_yet test c.deref-file-items.result.now once c.loop-file.file-index e c.loop-file-test.true c.file-item.is c.loop-file.told.items c.loop-file.invariant

pub loop-file-preserved : goal.loop-file-preserved
loop-file-preserved c =
    let e = c.file-item.result in
    let i = c.loop-file.file-index in
    let test : Segments → Bool = λ p. is_below c.args.prefix.now p && is_above (option_copied c.args.after) p in
    let es = c.deref-file-items.result.now in
    let once : NoneTwice es = subst NoneTwice (sym c.deref-file-items.ensures.value) c.self.invariant in
    elim c.if-is_listed.branch [
      | then-is_listed+in_ok-try_clone+in_ok-tell w ↦
          let meta : ObjectMeta = record { location = w.in_ok-try_clone.field-0; size = w.len.result; token = e.1.token } in
          let same : meta ≡ meta_of e = rw (w.in_ok-try_clone.ensures, w.len.ensures.value) refl in
          let puts = w.in_ok-tell.ensures ∙ ap (λ (m : ObjectMeta). finmap.put path_cmp m.location m (keyed c.loop-file.told.items)) same in
          subst (λ told. IsTold test (take (i + 1) es) told.items) (sym w.told-is) (one_told test es once i e c.loop-file-test.true c.file-item.is c.loop-file.told.items c.loop-file.invariant (sym c.is_listed.ensures ∙ w.if-is_listed.true) w.tell.new.told.items puts)
      | else-is_listed w ↦ subst (λ told. IsTold test (take (i + 1) es) told.items) (sym w.told-is) (one_passed_over test es once i e c.loop-file-test.true c.file-item.is c.loop-file.told.items c.loop-file.invariant (sym c.is_listed.ensures ∙ w.if-is_listed.false))
    ]

pub returns : goal.returns
returns c =
    let test : Segments → Bool = λ p. is_below c.args.prefix.now p && is_above (option_copied c.args.after) p in
    let es = c.deref-file-items.result.now in
    all_told test es c.loop-file.told.items (subst (λ (fs : Entries). IsTold test fs c.loop-file.told.items) (take_all c.loop-file.file-index es c.loop-file-test.false) c.loop-file.invariant)
    ∙ ap (λ (m : Files). listing c.args.prefix.now (option_copied c.args.after) (finmap.entries m)) (ap files_in c.deref-file-items.ensures.value ∙ c.self.view_is)
