-- The diaries up to a moment: those of clients of the folder up to then.
use Rattle.std.proofs.Common.{◌≡◌, ℕ, ◌<◌, ◌≤◌, ◌==◌, if◌then◌else◌, List, [], ◌∷◌, Option, Some, None, refl, ap, sym, subst, ◌∙◌, arith, ◌⊎◌, inl, inr}
use Rattle.std.specs.Prelude.{reverse}
use Rattle.std.proofs.lemmas.Bool.{eq-eqb, ne_eqb}
use Rattle.std.proofs.lemmas.List.{append-nil}
use Rattle.txn_store.specs.Paths.{Segments}
use Rattle.txn_store.specs.VersionName.{Names}
use Rattle.txn_store.specs.declared.request.Reply.{Reply}
use Rattle.txn_client_journals.specs.declared.rows.JournalRow.{JournalRow}
use Rattle.txn_client_journals.specs.Parts.{Part}
use Rattle.txn_client_journals.specs.Journals.{Replays}
use Rattle.txn_client_journals.specs.Verdict.{AuditedDiary, HasClient, HaveDifferentClients}
use Rattle.txn_client_journals.specs.Shares.{AreDiaries}
use Rattle.txn_client_journals.proofs.Woven.{pushed, pushed_reverse}
use Rattle.txn_folder_model.specs.Worlds.{World}
use Rattle.txn_folder_model.specs.Listings.{Listing}
use Rattle.txn_folder_model.specs.Clients.{KeepsJournal, AllKeep, AreOfFolder}
use Rattle.txn_folder_model.proofs.Earlier.{GoesOn, IsTimed}
use Rattle.txn_folder_model.proofs.Cut.{cut, taker, cut_replays}
use Rattle.txn_folder_model.proofs.Kept.{pick, picked}
use Rattle.txn_folder_model.proofs.Prefix.{op_by, few, keep, listings_then, many_then, keeps_then}

pub push : {A : Type 0} (xs : List A) → pushed xs [] ≡ reverse xs
push xs = pushed_reverse xs [] ∙ append-nil (reverse xs)

module _ {T : Type 0} (page : ℕ) (encode : T → List ℕ) (decode : List ℕ → Option T) (get_epoch : T → ℕ) (set_epoch : T → ℕ → T)
    (names : Names) (boundary : Segments) (ops : ℕ → ℕ) (n : ℕ) (worlds : ℕ → World) (listings : ℕ → Listing) (many m : ℕ) (before : ℕ → World)
    (on : (c : ℕ) → c < (before m).count → ((before m).count ≤ (worlds n).count) × GoesOn names boundary m ((before m).calls c) ((worlds n).calls c))
    (there : (c : ℕ) → c < (worlds n).count → (c < (before m).count) ⊎ (m ≤ ((worlds n).calls c).began))
    (timed : (c : ℕ) → c < (before m).count → IsTimed m ((before m).calls c))
    (timed_last : (c : ℕ) → c < (worlds n).count → IsTimed n ((worlds n).calls c))
    (listed : (l : ℕ) → l < many → (listings l).began ≤ (listings l).ended) where
  abbrev pub Keeps : List (AuditedDiary T) → Type 0
  Keeps ds = AllKeep names boundary ops n worlds listings many ds

  abbrev pub Kept : List (AuditedDiary T) → Type 0
  Kept ds = AreDiaries page encode decode get_epoch set_epoch ds

  -- how many replies the client had taken then
  abbrev pub size : (client : ℕ) (rows : List (JournalRow T)) → KeepsJournal names boundary ops n worlds listings many client rows → ℕ
  size client rows k = few names boundary ops n worlds listings many m before on there timed timed_last listed k.all

  -- the operation of each client that was to take its next one
  abbrev pub takers : (ds : List (AuditedDiary T)) → Keeps ds → ℕ → ℕ
  takers [] keep client = 0
  takers (d ∷ ds) keep client = if d.client == client then taker (size d.client d.rows keep.0) d.rows else takers ds keep.1 client

  abbrev pub ops_by : (ds : List (AuditedDiary T)) → Keeps ds → ℕ → ℕ
  ops_by ds keep c = op_by ((worlds n).calls c).answer (takers ds keep ((worlds n).calls c).client) (ops c)

  pub replays_then : (d : AuditedDiary T) (number : ℕ) → Replays page encode decode get_epoch set_epoch d.client (reverse d.rows) d.part → (now : Part T) × Replays page encode decode get_epoch set_epoch d.client (reverse (cut number d.rows)) now
  replays_then d number r =
      let c = cut_replays page encode decode get_epoch set_epoch d.client number d.rows [] d.part (subst (λ (l : List (JournalRow T)). Replays page encode decode get_epoch set_epoch d.client l d.part) (sym (push d.rows)) r) in
      (c.0, subst (λ (l : List (JournalRow T)). Replays page encode decode get_epoch set_epoch d.client l c.0) (push (cut number d.rows)) c.1)

  abbrev pub diaries_then : (ds : List (AuditedDiary T)) → Kept ds → Keeps ds → List (AuditedDiary T)
  diaries_then [] kept keep = []
  diaries_then (d ∷ ds) kept keep = record { client = d.client; rows = cut (size d.client d.rows keep.0) d.rows; part = (replays_then d (size d.client d.rows keep.0) kept.0).0 } ∷ diaries_then ds kept.1 keep.1

  pub are_diaries : (ds : List (AuditedDiary T)) (kept : Kept ds) (keep : Keeps ds) → Kept (diaries_then ds kept keep)
  are_diaries [] kept keep = tt
  are_diaries (d ∷ ds) kept keep = ((replays_then d (size d.client d.rows keep.0) kept.0).1, are_diaries ds kept.1 keep.1)

  has_then : (client : ℕ) (ds : List (AuditedDiary T)) (kept : Kept ds) (keep : Keeps ds) → HasClient ds client → HasClient (diaries_then ds kept keep) client
  has_then client [] kept keep has = absurd has
  has_then client (d ∷ ds) kept keep (inl is) = inl is
  has_then client (d ∷ ds) kept keep (inr more) = inr (has_then client ds kept.1 keep.1 more)

  had_then : (client : ℕ) (ds : List (AuditedDiary T)) (kept : Kept ds) (keep : Keeps ds) → HasClient (diaries_then ds kept keep) client → HasClient ds client
  had_then client [] kept keep has = absurd has
  had_then client (d ∷ ds) kept keep (inl is) = inl is
  had_then client (d ∷ ds) kept keep (inr more) = inr (had_then client ds kept.1 keep.1 more)

  differ_then : (ds : List (AuditedDiary T)) (kept : Kept ds) (keep : Keeps ds) → HaveDifferentClients ds → HaveDifferentClients (diaries_then ds kept keep)
  differ_then [] kept keep differ = tt
  differ_then (d ∷ ds) kept keep differ = (λ has. differ.0 (had_then d.client ds kept.1 keep.1 has), differ_then ds kept.1 keep.1 differ.1)

  module _ (ops_then taken : ℕ → ℕ) (op_taken : (c : ℕ) (reply : Reply) → ((worlds n).calls c).answer ≡ Some reply → ops_then c ≡ taken ((worlds n).calls c).client) (op_lost : (c : ℕ) → ((worlds n).calls c).answer ≡ None → ops_then c ≡ ops c) where
    all_keep : (ds : List (AuditedDiary T)) (kept : Kept ds) (keep : Keeps ds) → HaveDifferentClients ds → ((client : ℕ) → HasClient ds client → taken client ≡ takers ds keep client) →
        AllKeep names boundary ops_then m before (listings_then names boundary ops n worlds listings many m before on there timed timed_last listed) (many_then names boundary ops n worlds listings many m before on there timed timed_last listed) (diaries_then ds kept keep)
    all_keep [] kept keep differ same = tt
    all_keep (d ∷ ds) kept keep differ same = (
      keeps_then names boundary ops n worlds listings many m before on there timed timed_last listed ops_then page encode decode get_epoch set_epoch d.client d.rows keep.0 d.part
          (subst (λ (l : List (JournalRow T)). Replays page encode decode get_epoch set_epoch d.client l d.part) (sym (push d.rows)) kept.0)
          (λ c reply its answer. op_taken c reply answer ∙ ap taken its ∙ same d.client (inl refl) ∙ rw (eq-eqb d.client d.client refl) refl)
          op_lost,
      all_keep ds kept.1 keep.1 differ.1 (λ client has. same client (inr has) ∙ rw (ne_eqb d.client client (λ e. differ.0 (subst (HasClient ds) (sym e) has))) refl),
    )

  -- the operations of the calls
  abbrev pub ops_then : (ds : List (AuditedDiary T)) → AreOfFolder names boundary ops n worlds listings many ds → ℕ → ℕ
  ops_then ds of = ops_by ds of.keep

  pub of_folder : (ds : List (AuditedDiary T)) (kept : Kept ds) (of : AreOfFolder names boundary ops n worlds listings many ds) →
      AreOfFolder names boundary (ops_then ds of) m before (listings_then names boundary ops n worlds listings many m before on there timed timed_last listed) (many_then names boundary ops n worlds listings many m before on there timed timed_last listed) (diaries_then ds kept of.keep)
  of_folder ds kept of = record {
    differ = differ_then ds kept of.keep of.differ;
    of_calls = λ c low. (
        let both = on c low in
        let more = both.0 in
        has_then ((before m).calls c).client ds kept of.keep (subst (HasClient ds) both.1.client (of.of_calls c (omega (arith, low, more)))));
    of_lists = λ j low. (
        let p = picked (keep names boundary ops n worlds listings many m before on there timed timed_last listed) many j low in
        has_then (listings (pick (keep names boundary ops n worlds listings many m before on there timed timed_last listed) many j)).client ds kept of.keep (of.of_lists (pick (keep names boundary ops n worlds listings many m before on there timed timed_last listed) many j) p.below));
    keep = all_keep (ops_then ds of) (takers ds of.keep)
        (λ c reply answer. ap (λ (o : Option Reply). op_by o (takers ds of.keep ((worlds n).calls c).client) (ops c)) answer)
        (λ c answer. ap (λ (o : Option Reply). op_by o (takers ds of.keep ((worlds n).calls c).client) (ops c)) answer)
        ds kept of.keep of.differ (λ client has. refl);
  }
