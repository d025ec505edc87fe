-- Clients of the folder keep their journals of any worlds that are the same at the last moment.
use Rattle.std.proofs.Common.{◌≡◌, ℕ, ◌<◌, List, [], ◌∷◌, Some, None, refl, subst}
use Rattle.std.specs.Prelude.{Contains}
use Rattle.txn_store.specs.Paths.{Segments}
use Rattle.txn_store.specs.VersionName.{Names}
use Rattle.txn_store.specs.declared.request.Reply.{Reply}
use Rattle.txn_client_journals.specs.declared.rows.Receipt.{Receipt}
use Rattle.txn_client_journals.specs.declared.rows.JournalRow.{JournalRow}
use Rattle.txn_client_journals.specs.Verdict.{AuditedDiary, HasClient}
use Rattle.txn_folder_model.specs.Worlds.{World}
use Rattle.txn_folder_model.specs.Linear.{request_of}
use Rattle.txn_folder_model.specs.Listings.{Listing}
use Rattle.txn_folder_model.specs.Clients.{Taken, Called, Listed, KeepsJournal, IsLost, InTurn, IsPast, IsOf, IsChange, AreTold, IsTold, AllKeep, AreOfFolder, began_of, left_before}

module _ (names : Names) (boundary : Segments) (ops : ℕ → ℕ) (n : ℕ) (w v : ℕ → World) (listings : ℕ → Listing) (many : ℕ) (same : w n ≡ v n) where
  past_alike : (x : Taken) (t : ℕ) → IsPast names boundary ops n w listings many x t → IsPast names boundary ops n v listings many x t
  past_alike (Called c) t past = subst (λ (u : World). (e : ℕ) × ((u.calls c).ended ≡ Some e) × (e < t)) same past
  past_alike (Listed l) t past = past

  began_alike : (x : Taken) → began_of names boundary ops n w listings many x ≡ began_of names boundary ops n v listings many x
  began_alike (Called c) = subst (λ (u : World). ((w n).calls c).began ≡ (u.calls c).began) same refl
  began_alike (Listed l) = refl

  told_alike : (x : Taken) (r : Receipt) → IsTold names boundary ops n w listings many x r → IsTold names boundary ops n v listings many x r
  told_alike (Called c) r told = subst (λ (u : World). (r.request ≡ request_of names boundary (u.calls c).work) × ((u.calls c).answer ≡ Some r.reply)) same told
  told_alike (Listed l) r told = told

  of_alike : (client : ℕ) (x : Taken) → IsOf names boundary ops n w listings many client x → IsOf names boundary ops n v listings many client x
  of_alike client (Called c) of = subst (λ (u : World). (c < u.count) × ((u.calls c).client ≡ client)) same of
  of_alike client (Listed l) of = of

  all_told : (xs : List Taken) (rs : List Receipt) → AreTold names boundary ops n w listings many xs rs → AreTold names boundary ops n v listings many xs rs
  all_told [] [] told = tt
  all_told [] (r ∷ rs) told = absurd told
  all_told (x ∷ xs) [] told = absurd told
  all_told (x ∷ xs) (r ∷ rs) told = (told_alike x r told.0, all_told xs rs told.1)

  all_turn : (xs : List Taken) → InTurn names boundary ops n w listings many xs → InTurn names boundary ops n v listings many xs
  all_turn [] turn = tt
  all_turn (x ∷ xs) turn = (λ y has. subst (IsPast names boundary ops n v listings many x) (began_alike y) (past_alike x (began_of names boundary ops n w listings many y) (turn.0 y has)), all_turn xs turn.1)

  module _ {T : Type 0} where
    lost_alike : (rows : List (JournalRow T)) (all : List Taken) (c : ℕ) → IsLost names boundary ops n w listings many rows all c → IsLost names boundary ops n v listings many rows all c
    lost_alike rows all c lost = record {
      before = lost.before;
      few = lost.few;
      earlier = λ x has. subst (λ (u : World). IsPast names boundary ops n v listings many x (u.calls c).began) same (past_alike x ((w n).calls c).began (lost.earlier x has));
      later = λ x has. subst (λ (b : ℕ). (e : ℕ) × (((v n).calls c).ended ≡ Some e) × (e < b)) (began_alike x) (subst (λ (u : World). (e : ℕ) × ((u.calls c).ended ≡ Some e) × (e < began_of names boundary ops n w listings many x)) same (lost.later x has));
      left = subst (λ (u : World). left_before lost.before (ops c) None rows ≡ Some (request_of names boundary (u.calls c).work)) same lost.left;
    }

    keeps_alike : (client : ℕ) (rows : List (JournalRow T)) → KeepsJournal names boundary ops n w listings many client rows → KeepsJournal names boundary ops n v listings many client rows
    keeps_alike client rows k = record {
      all = k.all;
      told = all_told k.all _ k.told;
      in_turn = all_turn k.all k.in_turn;
      its = λ x has. of_alike client x (k.its x has);
      calls = subst (λ (u : World). (c : ℕ) (reply : Reply) → c < u.count → (u.calls c).client ≡ client → (u.calls c).answer ≡ Some reply → Contains k.all (Called c)) same k.calls;
      lists = k.lists;
      lost = λ c low its none change. lost_alike rows k.all c
          (subst (λ (u : World). c < u.count → (u.calls c).client ≡ client → (u.calls c).answer ≡ None → IsChange (request_of names boundary (u.calls c).work) → IsLost names boundary ops n w listings many rows k.all c) same (k.lost c) low its none change);
    }

    all_alike : (ds : List (AuditedDiary T)) → AllKeep names boundary ops n w listings many ds → AllKeep names boundary ops n v listings many ds
    all_alike [] keep = tt
    all_alike (d ∷ ds) keep = (keeps_alike d.client d.rows keep.0, all_alike ds keep.1)

    pub of_folder_alike : (ds : List (AuditedDiary T)) → AreOfFolder names boundary ops n w listings many ds → AreOfFolder names boundary ops n v listings many ds
    of_folder_alike ds of = record {
      differ = of.differ;
      of_calls = subst (λ (u : World). (c : ℕ) → c < u.count → HasClient ds (u.calls c).client) same of.of_calls;
      of_lists = of.of_lists;
      keep = all_alike ds of.keep;
    }
