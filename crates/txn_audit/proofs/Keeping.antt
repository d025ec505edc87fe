-- Diaries that keep what their journals lead to, one more at a time.
use Rattle.std.proofs.Common.{◌≡◌, ℕ, zero, suc, ◌+◌, ◌<◌, List, [], ◌∷◌, length, map, take, get_or, reverse, Option, sym, subst, arith}
use Rattle.txn_client_journals.specs.Journals.{Replays}
use Rattle.txn_client_journals.specs.Shares.{AreDiaries}
use Rattle.txn_diary.specs.Diaries.{DiaryState, as_diary, IsMadeWith}

module _ {T C E : Type 0} (encoded : C → T → List ℕ) (decoded : C → List ℕ → Option T) (epoch_of : E → T → ℕ) (with_epoch : E → T → ℕ → T) (page : ℕ) (codec : C) (epochs : E) where
  abbrev Keep : List (DiaryState T C E) → Type 0
  Keep ds = AreDiaries page (encoded codec) (decoded codec) (epoch_of epochs) (with_epoch epochs) (map as_diary ds)

  -- its journal replays by what its client was made with
  abbrev Leads : ℕ → C → E → DiaryState T C E → Type 0
  Leads n c e d = Replays n (encoded c) (decoded c) (epoch_of e) (with_epoch e) d.client (reverse d.rows) d.part

  leads_at : (d : DiaryState T C E) → IsMadeWith page codec epochs d → Leads d.page d.codec d.epochs d → Leads page codec epochs d
  leads_at d made leads = subst (λ n. Leads n codec epochs d) made.page_is (subst (λ c. Leads d.page c epochs d) made.codec_is (subst (λ e. Leads d.page d.codec e d) made.epochs_are leads))

  one_further : (ds : List (DiaryState T C E)) (k : ℕ) (d : DiaryState T C E) → k < length ds → d ≡ get_or ds k d → Keep (take k ds) → Leads page codec epochs d → Keep (take (suc k) ds)
  one_further [] k d below is so_far leads = absurd (omega (arith, below))
  one_further (other ∷ ds) zero d below is so_far leads = subst (λ (it : DiaryState T C E). Keep (it ∷ [])) is (leads, tt)
  one_further (other ∷ ds) (suc k) d below is so_far leads = (so_far.0, one_further ds k d (omega (arith, below)) is so_far.1 leads)

  -- the first diaries and one more
  pub one_more : (ds : List (DiaryState T C E)) (k : ℕ) (d : DiaryState T C E) → k < length ds → d ≡ get_or ds k d → Keep (take k ds) → ((i : ℕ) (x : DiaryState T C E) → i < length ds → IsMadeWith page codec epochs (get_or ds i x)) → Leads d.page d.codec d.epochs d → Keep (take (k + 1) ds)
  one_more ds k d below is so_far made leads =
      subst (λ n. Keep (take n ds)) (let e : suc k ≡ k + 1 = omega arith in e)
      (one_further ds k d below is so_far (leads_at d (subst (λ (it : DiaryState T C E). IsMadeWith page codec epochs it) (sym is) (made k d below)) leads))
