-- Each step of the store of what a cut saved is right: that of the call whose point is there, or of none.
use Rattle.std.proofs.Common.{◌≡◌, ℕ, suc, ◌^◌, ◌<◌, ◌≤◌, Bool, true, false, Option, Some, None, refl, ap, sym, subst, ◌∙◌, arith, ◌⊎◌, inl, inr}
use Rattle.std.specs.Prelude.{nat_lt}
use Rattle.std.proofs.lemmas.Bool.{ltb-true, ltb-false}
use Rattle.std.proofs.lemmas.Option.{same_Some}
use Rattle.txn_store.specs.Paths.{Segments}
use Rattle.txn_store.specs.VersionName.{Names}
use Rattle.txn_store.specs.declared.request.Request.{Request}
use Rattle.txn_store.specs.declared.request.Reply.{Reply}
use Rattle.txn_folder.specs.steps.Folders.{Place}
use Rattle.txn_folder_model.specs.Worlds.{World, Event, world}
use Rattle.txn_folder_model.specs.Linear.{Point, IsApart, request_of}
use Rattle.txn_folder_model.specs.Power.{Syncs, SyncsNames}
use Rattle.txn_folder_model.proofs.Ghosts.{Change, Effect, Ghost, ReadsSo, WritesSo, effect_of, changed_by, change_request, change_reply, ghost_at}
use Rattle.txn_folder_model.proofs.Facts.{Holds}
use Rattle.txn_folder_model.proofs.Honest.{IsRight, OneWrites, NoneWrites}
use Rattle.txn_folder_model.proofs.Theorem.{Allowed, all_holds}
use Rattle.txn_folder_model.proofs.ChangedPaths.{EffectIn, effect_in_place, place_of}
use Rattle.txn_folder_model.proofs.Saved as saved_store
use Rattle.txn_folder_model.proofs.SavedPoints as saved_points

module _ (names : Names) (boundary : Segments) (floor : ℕ) (events : ℕ → Event) (apart : IsApart names boundary) (may : Allowed floor events) (cut : Place → ℕ) (syncs : Syncs) (n : ℕ) (room : n < 2 ^ 64) (late : (p : Place) (s : ℕ) → s < n → SyncsNames floor events syncs s p → s ≤ cut p) where
  abbrev g : ℕ → Ghost
  g s = ghost_at names boundary floor events s

  abbrev e : ℕ → Option Effect
  e s = effect_of (world floor events s) (events s)

  abbrev saved : ℕ → Ghost
  saved s = saved_store.saved names boundary floor events cut s

  abbrev w : World
  w = world floor events n

  h : Holds names boundary floor g e n w
  h = all_holds names boundary floor events apart may n room

  abbrev points : ℕ → Option Point
  points c = saved_points.points names boundary floor events apart may cut syncs n room late c

  -- the call that writes at a moment, and what
  pub record Here (s c : ℕ) : Type 0 where
    pub change : Change
    pub is : e s ≡ Some (record { call = c; change = change })
    pub kept : s < cut (place_of change)

  here_of : (s c : ℕ) (p : Point) → c < w.count → points c ≡ Some p → p.at ≡ s → p.writes ≡ true → Here s c
  here_of s c p low has at writes = subst (λ (m : ℕ). Here m c) at (saved_points.each names boundary floor events apart may cut syncs n room late (λ d q. q.writes ≡ true → Here q.at d) (λ d reply so kept same is. record { change = so.change; is = so.here; kept = kept }) (λ d reply r is. absurd (cc)) c p low has writes)

  one_at : (s : ℕ) (x : Effect) → s < n → e s ≡ Some x → s < cut (place_of x.change) → saved (suc s) ≡ changed_by names boundary (saved s) x.change → OneWrites names boundary w.calls points w.count saved s
  one_at s x before is kept becomes =
      let its = saved_points.its_point names boundary floor events apart may cut syncs n room late s x before is kept in
      let so = its.so in
      let fits = subst EffectIn is (effect_in_place names boundary floor events apart may s (omega (arith, before, room))) in
      let right = saved_store.right_by names boundary floor events cut apart may s (omega (arith, before, room)) x.change fits kept (h.right s x.call x.change before is) in
      record {
        call = x.call;
        within = h.writers s x.call before (x.change, is);
        point = record { at = so.at; writes = true; reply = its.reply };
        has = its.has;
        at = its.at;
        writes = refl;
        right = subst (WritesSo (saved s) (request_of names boundary (w.calls x.call).work) its.reply) (sym becomes)
            (subst (λ (r : Reply). WritesSo (saved s) (request_of names boundary (w.calls x.call).work) r (changed_by names boundary (saved s) x.change)) (ap (λ (y : Effect). change_reply y.change) its.same ∙ so.reply_is)
            (subst (λ (q : Request). WritesSo (saved s) q (change_reply x.change) (changed_by names boundary (saved s) x.change)) (ap (λ (y : Effect). change_request names boundary y.change) its.same ∙ so.request_is) right));
        alone = λ d p below has here_at writes. let other = here_of s d p below has here_at writes in ap (λ (y : Effect). y.call) (same_Some (record { call = d; change = other.change }) x (sym other.is ∙ is));
      }

  abbrev Right : ℕ → Type 0
  Right s = ((saved (suc s) ≡ saved s) × NoneWrites names boundary w.calls points w.count saved s w.count) ⊎ OneWrites names boundary w.calls points w.count saved s

  pub right_at : (s : ℕ) → s < n → IsRight names boundary w.calls points w.count saved s
  right_at s before = record { reads = reads; writes = by (e s) refl }
    where
      reads : (c : ℕ) (p : Point) → c < w.count → points c ≡ Some p → p.at ≡ s → p.writes ≡ false → ReadsSo (saved s) (request_of names boundary (w.calls c).work) p.reply
      reads c p low has at is = subst (λ (m : ℕ). ReadsSo (saved m) (request_of names boundary (w.calls c).work) p.reply) at (saved_points.each names boundary floor events apart may cut syncs n room late (λ d q. q.writes ≡ false → ReadsSo (saved q.at) (request_of names boundary (w.calls d).work) q.reply) (λ d reply so kept same none. absurd (cc)) (λ d reply r none. r.right) c p low has is)

      by_kept : (x : Effect) → e s ≡ Some x → (b : Bool) → nat_lt s (cut (place_of x.change)) ≡ b → Right s
      by_kept x is true kept = inr (one_at s x before is (ltb-true s (cut (place_of x.change)) kept) (saved_store.one_saved names boundary floor events cut s x is true kept))
      by_kept x is false not_kept = inl (
        saved_store.one_saved names boundary floor events cut s x is false not_kept,
        λ c p low has at writes.
            let its = here_of s c p low has at writes in
            let same = same_Some (record { call = c; change = its.change }) x (sym its.is ∙ is) in
            let kept : s < cut (place_of x.change) = subst (λ (y : Effect). s < cut (place_of y.change)) same its.kept in
            let most = ltb-false s (cut (place_of x.change)) not_kept in
            omega (arith, kept, most),
      )

      by : (o : Option Effect) → e s ≡ o → Right s
      by None is = inl (saved_store.none_saved names boundary floor events cut s is, λ c p low has at writes. let its = here_of s c p low has at writes in let clash : None ≡ Some (record { call = c; change = its.change }) = sym is ∙ its.is in cc)
      by (Some x) is = by_kept x is (nat_lt s (cut (place_of x.change))) refl
