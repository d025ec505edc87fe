use Rattle.std.proofs.Common.{List, inl, inr, ◌≡◌, ◌∙◌, ◌+◌, ◌-◌, ◌<◌, ◌^◌, ℕ, [], ◌∷◌, ◌++◌, length, slice_get, Some, None, refl, ap, sym, subst, arith, length-append}
use Rattle.std.proofs.lemmas.Option.{same_Some}
use Rattle.std.specs.FinMap as map
use Rattle.txn_store.specs.VersionName.{Names, version_path}
use Rattle.slatedb_txn_obj.specs.Views.{IsVersion}
use Rattle.txn_manifest.specs.Manifest.{with_pins, with_payload}
use Rattle.txn_manifest.specs.Pins.{pins_with}
use Rattle.txn_manifest.specs.Collected.{LeavesNeeded}
use Rattle.tests_slatedb_txn_obj.specs.Kept.{IsStored}
use Rattle.tests_slatedb_txn_obj.proofs.Keeping.{created_others, leaves_pinned}
use Rattle.txn_history.specs.Trace.{Row}
use Rattle.txn_manifest.specs.declared.manifest.Manifest.{Manifest}
use Rattle.txn_manifest.specs.Text.{manifest_read}
use Rattle.txn_manifest.specs.Tells.{TellsStore, TellsHolder, TellsBoth}
use Rattle.tests_slatedb_txn_obj.proofs.Telling.{told_then, entered_told, refused_told, collected_told}
use Rattle.tests_slatedb_txn_obj.proofs.kept.pin_and_collect.Goals.{After-set_payload, After-collect}
use Rattle.tests_slatedb_txn_obj.proofs.kept.pin_and_collect.Goals as goal

pub returns-clause-left : goal.returns-clause-left
returns-clause-left g c = λ h b stands version. (
    let names = c.args.protocol.now.layout.names in
    let id = c.args.manifests.now.holder.delegate.id in
    let object = c.args.manifests.now.holder.delegate.object in
    let zero = g.S.ObjectStore.state c.args.store.now in
    let one = g.S.ObjectStore.state c.checkpoint.new.store in
    let two = g.S.ObjectStore.state c.set_payload.new.store in
    let three = g.S.ObjectStore.state c.collect.new.store in
    let pinned = with_pins object (pins_with id object.pins) in
    let first = c.in_ok-kept.ensures.entered in
    let top = first.updated.newest h b stands version in
    let top_one = first.updated.next h b stands version in
    let longer = h ++ pinned ∷ [] in
    let long : length longer ≡ length h + 1 = length-append h (pinned ∷ []) in
    let held = c.checkpoint.new.self.holder.delegate.object in
    let version_one : IsVersion longer c.checkpoint.new.self.holder.delegate.id held = record { positive = omega (arith, top_one.id_is, top_one.some); within = omega (arith, top_one.id_is); entry = top_one.entry ∙ ap Some (sym first.now) } in
    let second = c.in_ok-set_payload.ensures.entered in
    let stands_one = first.updated.stands h b stands version in
    let top_two = second.updated.next longer b stands_one version_one in
    let stands_two = second.updated.stands longer b stands_one version_one in
    let ends = longer ++ with_payload held c.args.payload ∷ [] in
    let long_two : length ends ≡ length longer + 1 = length-append longer (with_payload held c.args.payload ∷ []) in
    let done = c.in_ok-collect.ensures.stands ends b stands_two in
    let fits = stands_two.versions.files_stand.fits in
    let small : id + 2 < 2 ^ 64 = omega (arith, top.id_is, long, long_two, fits) in
    let at = c.checkpoint.ensures.placed in
    let at_two = c.set_payload.ensures.placed in
    let names_one : c.checkpoint.new.protocol.layout.names ≡ names = ap (λ place. place.layout.names) at in
    let names_two : c.set_payload.new.protocol.layout.names ≡ names = ap (λ place. place.layout.names) at_two ∙ names_one in
    let names_three : c.collect.new.protocol.layout.names ≡ names = ap (λ layout. layout.names) c.collect.ensures.layout ∙ names_two in
    let middle = c.checkpoint.new.self.holder.delegate.id in
    let middle_is : middle + 1 ≡ id + 2 = omega (arith, top_one.id_is, top.id_is, long) in
    let newest = c.collect.new.self.holder.delegate.id in
    let newest_is : newest ≡ id + 2 = omega (arith, done.0.id_is, top.id_is, long, long_two) in
    let same_id : newest ≡ c.set_payload.new.self.holder.delegate.id = done.0.id_is ∙ sym top_two.id_is in
    let made_is : c.collect.new.self.holder.delegate.object ≡ with_payload pinned c.args.payload =
    same_Some c.collect.new.self.holder.delegate.object (with_payload held c.args.payload) (sym done.0.entry ∙ (ap (λ (k : ℕ). slice_get ends (k - 1)) same_id ∙ top_two.entry)) ∙ ap (λ m. with_payload m c.args.payload) first.now in
    let before = stands.versions.files_stand.stored id (omega (arith, stands.versions.files_stand.newest top.some, top.id_is)) (omega (arith, top.id_is)) in
    let after = done.1.versions.files_stand.stored newest (omega (arith, done.1.versions.files_stand.newest done.0.some, done.0.id_is)) (omega (arith, done.0.id_is)) in
    let left = c.in_ok-collect.ensures.needed stands_two.apart in
    let rest = c.in_ok-collect.ensures.rest stands_two.apart in
    leaves_pinned names id object c.args.payload zero.files one.files two.files three.files small
    (created_others names names (id + 1) zero one refl (omega (arith, small)) c.checkpoint.ensures.writes.creates)
    (λ n fits differs. created_others names c.checkpoint.new.protocol.layout.names (middle + 1) one two names_one (omega (arith, small, middle_is)) c.set_payload.ensures.writes.creates n fits (λ is. differs (is ∙ middle_is)))
    newest c.collect.new.self.holder.delegate.object.pins newest_is (ap (λ m. m.pins) made_is)
    (subst (λ (nm : Names). LeavesNeeded nm newest c.collect.new.self.holder.delegate.object.pins two.files three.files) names_two left)
    (λ n lt unpinned. subst (λ (nm : Names). map.get three.files (version_path nm n) ≡ None) names_two (rest.gone n lt unpinned))
    (before.0, before.1, before.2 ∙ top.entry)
    (subst (λ (nm : Names). IsStored nm three.files newest (with_payload pinned c.args.payload)) names_three (after.0, after.1, after.2 ∙ (done.0.entry ∙ ap Some made_is)))
    )

pub returns-in_err-kept-clause-told : goal.returns-in_err-kept-clause-told
returns-in_err-kept-clause-told g c = λ number rows told w. (
    let call = c.checkpoint.ensures in
    let left = c.in_err-kept.ensures.left in
    refused_told _ _ _ _ number _ _ _ _ _ _ call.epoch (ap (λ at. at.layout) call.placed) rows told w _ (inl refl) (ap (λ h. h.delegate.id) left) (ap (λ h. h.delegate.object) left) c.in_err-kept.ensures.err call.writes.creates
    (λ other. (let shut = call.shut other in (shut.2, ap (λ s. g.S.ObjectStore.state s) shut.3)))
    )

-- the first call is done
pinned_told : (g : _) (c : After-set_payload g) (number : ℕ) (rows : List (Row Manifest)) → TellsStore c.args.protocol.now (g.S.ObjectStore.state c.args.store.now) rows → TellsHolder manifest_read rows number c.args.manifests.now.holder.delegate.id c.args.manifests.now.holder.local_epoch c.args.manifests.now.holder.delegate.object
    → TellsBoth c.checkpoint.new.protocol (g.S.ObjectStore.state c.checkpoint.new.store) rows number c.checkpoint.new.self.holder.delegate.id c.checkpoint.new.self.holder.local_epoch c.checkpoint.new.self.holder.delegate.object
pinned_told g c number rows told w =
    let call = c.checkpoint.ensures in
    entered_told _ _ _ _ number _ _ _ _ _ _ call.epoch (ap (λ at. at.layout) call.placed) rows told w _ (inl refl) c.in_ok-kept.ensures.entered call.writes.creates
    (λ other. (let clash = rw c.in_ok-kept.was at (call.shut other).1 in cc))

pub returns-in_err-set_payload-clause-told : goal.returns-in_err-set_payload-clause-told
returns-in_err-set_payload-clause-told g c = λ number rows told w. (
    let call = c.set_payload.ensures in
    let left = c.in_err-set_payload.ensures.left in
    told_then _ _ _ _ rows number _ _ _ _ _ _ (pinned_told g (goal.at.returns-in_err-set_payload-clause-told g c).After-set_payload number rows told w)
    (λ after told' w'. (
    refused_told _ _ _ _ number _ _ _ _ _ _ call.epoch (ap (λ at. at.layout) call.placed) after told' w' _ (inr (inr (c.args.payload, refl))) (ap (λ h. h.delegate.id) left) (ap (λ h. h.delegate.object) left) c.in_err-set_payload.ensures.err call.writes.creates
    (λ other. (let shut = call.shut other in (shut.2, ap (λ s. g.S.ObjectStore.state s) shut.3)))
    ))
    )

-- and the second, and a collection
collected : (g : _) (c : After-collect g) (number : ℕ) (rows : List (Row Manifest)) → TellsBoth c.checkpoint.new.protocol (g.S.ObjectStore.state c.checkpoint.new.store) rows number c.checkpoint.new.self.holder.delegate.id c.checkpoint.new.self.holder.local_epoch c.checkpoint.new.self.holder.delegate.object
    → TellsBoth c.collect.new.protocol (g.S.ObjectStore.state c.collect.new.store) rows number c.collect.new.self.holder.delegate.id c.collect.new.self.holder.local_epoch c.collect.new.self.holder.delegate.object
collected g c number rows first =
    let paid = c.set_payload.ensures in
    let call = c.collect.ensures in
    told_then _ _ _ _ rows number _ _ _ _ _ _
    (told_then _ _ _ _ rows number _ _ _ _ _ _ first
    (λ after told' w'. entered_told _ _ _ _ number _ _ _ _ _ _ paid.epoch (ap (λ at. at.layout) paid.placed) after told' w' _ (inr (inr (c.args.payload, refl))) c.in_ok-set_payload.ensures.entered paid.writes.creates (λ other. (let clash = rw c.in_ok-set_payload.was at (paid.shut other).1 in cc))))
    (λ after told' w'. collected_told _ _ _ _ number _ _ _ _ _ _ (ap (λ h. h.local_epoch) call.moved) call.layout after told' w' (record {
      met = elim call.met [ inl same ↦ inl (ap (λ h. h.delegate.id) same, ap (λ h. h.delegate.object) same) | inr shows ↦ inr shows ];
      kept = λ h b stands le. call.kept h b stands;
      placed = call.layout;
      needed = call.needed;
      removed = call.removed;
    }))

pub returns-in_err-collect-clause-told : goal.returns-in_err-collect-clause-told
returns-in_err-collect-clause-told g c = λ number rows told w. collected g (goal.at.returns-in_err-collect-clause-told g c).After-collect number rows (pinned_told g (goal.at.returns-in_err-collect-clause-told g c).After-set_payload number rows told w)

pub returns-clause-told : goal.returns-clause-told
returns-clause-told g c = λ number rows told w. collected g (goal.at.returns-clause-told g c).After-collect number rows (pinned_told g (goal.at.returns-clause-told g c).After-set_payload number rows told w)
