-- Clients of a folder share only a store.
use Rattle.std.proofs.Common.{◌≡◌, ℕ, ◌<◌, ◌≤◌, ◌^◌, true, List, [], ◌∷◌, ◌++◌, Option, Some, refl, ap, sym, ◌∙◌, subst, arith}
use Rattle.std.specs.Prelude.{reverse}
use Rattle.std.proofs.lemmas.List.{reverse-reverse}
use Rattle.txn_store.specs.Paths.{Segments}
use Rattle.txn_store.specs.VersionName.{Names}
use Rattle.txn_store.specs.Store.{State as StoreState}
use Rattle.txn_store.specs.declared.request.Request.{Request}
use Rattle.txn_store.specs.declared.request.Reply.{Reply}
use Rattle.txn_history.specs.Seen.{Store}
use Rattle.txn_history.specs.declared.event.Answer.{Answer}
use Rattle.txn_client_journals.specs.declared.rows.LogRow.{LogRow}
use Rattle.txn_client_journals.specs.declared.rows.Receipt.{Receipt}
use Rattle.txn_client_journals.specs.declared.rows.Act.TheVariants as acts
use Rattle.txn_client_journals.specs.declared.rows.Step.{Step}
use Rattle.txn_client_journals.specs.declared.rows.Step.TheVariants as steps
use Rattle.txn_client_journals.specs.declared.rows.JournalRow.{JournalRow}
use Rattle.txn_client_journals.specs.Parts.{Part}
use Rattle.txn_client_journals.specs.Journals.{TakesTurn, Follows, Lives, Replays, goes_on}
use Rattle.txn_client_journals.specs.Logs.{IsLog}
use Rattle.txn_client_journals.specs.Merged.{part_of, IsMerged}
use Rattle.txn_client_journals.specs.Verdict.{AuditedDiary, journal_of, kept_by, clients_in}
use Rattle.txn_client_journals.specs.Shares.{merged, AreDiaries, ShareOnlyTheStore}
use Rattle.txn_client_journals.proofs.Shares.{part_reverse, is_merged, share_only_the_store}
use Rattle.txn_folder_model.specs.Worlds.{Event, world}
use Rattle.txn_folder_model.specs.Linear.{IsApart, IsElsewhere, IsLinearizable, AreRuns, AllComeInOrder}
use Rattle.txn_folder_model.specs.Listings.{Listing}
use Rattle.txn_folder_model.specs.Clients.{IsSameStep, AreSameRows, AreSameDiaries, AreOfFolder, ShareAFolder}
use Rattle.txn_folder_model.proofs.Taken.{log}
use Rattle.txn_folder_model.proofs.Placing.{reverse_first}
use Rattle.txn_folder_model.proofs.Due.{log_of_folder, placed_diaries, agrees, same_diaries}
use Rattle.txn_folder_model.proofs.Runs.{is_linearizable, its_files}
use Rattle.txn_folder_model.proofs.Theorem.{Allowed, ghosts}

module _ {T : Type 0} where
  rows_append : (xs ys zs ws : List (JournalRow T)) → AreSameRows xs ys → AreSameRows zs ws → AreSameRows (xs ++ zs) (ys ++ ws)
  rows_append [] [] zs ws some more = more
  rows_append [] (y ∷ ys) zs ws some more = absurd some
  rows_append (x ∷ xs) [] zs ws some more = absurd some
  rows_append (x ∷ xs) (y ∷ ys) zs ws some more = (some.0, some.1, rows_append xs ys zs ws some.2 more)

  rows_reverse : (xs ys : List (JournalRow T)) → AreSameRows xs ys → AreSameRows (reverse xs) (reverse ys)
  rows_reverse [] [] some = tt
  rows_reverse [] (y ∷ ys) some = absurd some
  rows_reverse (x ∷ xs) [] some = absurd some
  rows_reverse (x ∷ xs) (y ∷ ys) some =
      subst (λ (l : List (JournalRow T)). AreSameRows l (reverse (y ∷ ys))) (sym (reverse_first x xs))
      (subst (AreSameRows (reverse xs ++ x ∷ [])) (sym (reverse_first y ys))
      (rows_append (reverse xs) (reverse ys) (x ∷ []) (y ∷ []) (rows_reverse xs ys some.2) (some.0, some.1, tt)))

  -- What holds of a step and speaks of no place holds of the same step with another.
  pub same_step : (P : Step T → Type 0) → ((op other : ℕ) (r now : Receipt) → op ≡ other → r.request ≡ now.request → r.reply ≡ now.reply → P (steps.Act op (acts.Receive r)) → P (steps.Act other (acts.Receive now))) → (step other : Step T) → IsSameStep step other → P step → P other
  same_step P receives (steps.Begin call) other same p = subst P same p
  same_step P receives (steps.Killed lefts) other same p = subst P same p
  same_step P receives (steps.Act op acts.Look) other same p = subst P same p
  same_step P receives (steps.Act op acts.Lacks) other same p = subst P same p
  same_step P receives (steps.Act op (acts.GiveUp left)) other same p = subst P same p
  same_step P receives (steps.Act op (acts.Fails request)) other same p = subst P same p
  same_step P receives (steps.Act op (acts.Receive r)) (steps.Act other (acts.Receive now)) same p = receives op other r now same.0 same.1 same.2 p
  same_step P receives (steps.Act op (acts.Receive r)) (steps.Begin call) same p = subst P same p
  same_step P receives (steps.Act op (acts.Receive r)) (steps.Killed lefts) same p = subst P same p
  same_step P receives (steps.Act op (acts.Receive r)) (steps.Act other acts.Look) same p = subst P same p
  same_step P receives (steps.Act op (acts.Receive r)) (steps.Act other acts.Lacks) same p = subst P same p
  same_step P receives (steps.Act op (acts.Receive r)) (steps.Act other (acts.GiveUp left)) same p = subst P same p
  same_step P receives (steps.Act op (acts.Receive r)) (steps.Act other (acts.Fails request)) same p = subst P same p

  lives_same : (rows others : List (JournalRow T)) → AreSameRows rows others → Lives rows → Lives others
  lives_same [] [] some lives = tt
  lives_same [] (other ∷ others) some lives = absurd some
  lives_same (row ∷ rows) [] some lives = absurd some
  lives_same (row ∷ rows) (other ∷ others) some lives = same_step (λ (s : Step T). goes_on s ≡ true) (λ op o r now a b c lives. refl) row.step other.step some.0 lives

module _ {T : Type 0} (page : ℕ) (encode : T → List ℕ) (decode : List ℕ → Option T) (get_epoch : T → ℕ) (set_epoch : T → ℕ → T) where
  turn_same : (old : Part T) (answer : Option (Answer T)) (new : Part T) (op other : ℕ) (r now : Receipt) → op ≡ other → r.request ≡ now.request → r.reply ≡ now.reply → TakesTurn page encode decode get_epoch set_epoch old op (Store r.request) (Some r.reply) answer new → TakesTurn page encode decode get_epoch set_epoch old other (Store now.request) (Some now.reply) answer new
  turn_same old answer new op other r now is asks replies turn =
      subst (λ (o : ℕ). TakesTurn page encode decode get_epoch set_epoch old o (Store now.request) (Some now.reply) answer new) is
      (subst (λ (q : Request). TakesTurn page encode decode get_epoch set_epoch old op (Store q) (Some now.reply) answer new) asks
      (subst (λ (x : Reply). TakesTurn page encode decode get_epoch set_epoch old op (Store r.request) (Some x) answer new) replies turn))

  replays_same : (client : ℕ) (rows others : List (JournalRow T)) (part : Part T) → AreSameRows rows others → Replays page encode decode get_epoch set_epoch client rows part → Replays page encode decode get_epoch set_epoch client others part
  replays_same client [] [] part some r = r
  replays_same client [] (other ∷ others) part some r = absurd some
  replays_same client (row ∷ rows) [] part some r = absurd some
  replays_same client (row ∷ rows) (other ∷ others) part some r = (
    r.0,
    replays_same client rows others r.0 some.2 r.1,
    subst (λ (a : Option (Answer T)). Follows page encode decode get_epoch set_epoch client r.0 other.step a part) some.1
        (same_step (λ (s : Step T). Follows page encode decode get_epoch set_epoch client r.0 s row.answer part) (turn_same r.0 row.answer part) row.step other.step some.0 r.2),
    lives_same rows others some.2 r.3,
  )

  diaries_same : (ds others : List (AuditedDiary T)) → AreSameDiaries ds others → AreDiaries page encode decode get_epoch set_epoch ds → AreDiaries page encode decode get_epoch set_epoch others
  diaries_same [] [] some kept = tt
  diaries_same [] (other ∷ others) some kept = absurd some
  diaries_same (d ∷ ds) [] some kept = absurd some
  diaries_same (d ∷ ds) (other ∷ others) some kept = (
    subst (λ (c : ℕ). Replays page encode decode get_epoch set_epoch c (reverse other.rows) other.part) some.0
        (subst (Replays page encode decode get_epoch set_epoch d.client (reverse other.rows)) some.1
        (replays_same d.client (reverse d.rows) (reverse other.rows) d.part (rows_reverse d.rows other.rows some.2) kept.0)),
    diaries_same ds others some.3 kept.1,
  )

  clients_same : (ds others : List (AuditedDiary T)) → AreSameDiaries ds others → clients_in ds ≡ clients_in others
  clients_same [] [] some = refl
  clients_same [] (other ∷ others) some = absurd some
  clients_same (d ∷ ds) [] some = absurd some
  clients_same (d ∷ ds) (other ∷ others) some = rw some.0 (rw (clients_same ds others some.3) refl)

  module _ (names : Names) (boundary : Segments) (floor n many : ℕ) (ops : ℕ → ℕ) (events : ℕ → Event) (listings : ℕ → Listing) (apart : IsApart names boundary) (elsewhere : IsElsewhere names boundary) (may : Allowed floor events) (room : n < 2 ^ 64) (made : AreRuns names n (world floor events) listings many) (in_order : AllComeInOrder (world floor events) listings many) where
    abbrev lin : IsLinearizable names boundary ops n (world floor events) listings many
    lin = is_linearizable names boundary floor events apart elsewhere may n room listings many made in_order ops

    module _ (ds : List (AuditedDiary T)) (paged : 1 ≤ page) (kept : AreDiaries page encode decode get_epoch set_epoch ds) (of : AreOfFolder names boundary ops n (world floor events) listings many ds) where
      abbrev pub its_log : List LogRow
      its_log = log_of_folder names boundary ops n (world floor events) listings many lin ds of

      abbrev pub its_diaries : List (AuditedDiary T)
      its_diaries = placed_diaries names boundary ops n (world floor events) listings many lin ds of

      pub its_same : AreSameDiaries ds its_diaries
      its_same = same_diaries names boundary ops n (world floor events) listings many lin ds of

      its_honest : IsLog (reverse its_log) lin.store
      its_honest = subst (λ (l : List LogRow). IsLog l lin.store) (sym (reverse-reverse (log names boundary ops n (world floor events) listings many lin n))) lin.honest

      its_kept : AreDiaries page encode decode get_epoch set_epoch its_diaries
      its_kept = diaries_same ds its_diaries its_same kept

      share : (clients : ℕ) → clients_in ds ≤ clients → ShareOnlyTheStore page encode decode get_epoch set_epoch clients its_log its_diaries lin.store
      share clients few = share_only_the_store page encode decode get_epoch set_epoch clients its_log its_diaries lin.store paged (subst (λ (c : ℕ). c ≤ clients) (clients_same ds its_diaries its_same) few) its_honest its_kept (agrees names boundary ops n (world floor events) listings many lin ds of)

      pub share_a_folder : (clients : ℕ) → clients_in ds ≤ clients → ShareAFolder page encode decode get_epoch set_epoch clients ds
      share_a_folder clients few = record { log = its_log; store = lin.store; honest = its_honest; placed = its_diaries; same = its_same; share = share clients few }

      -- a list that merges the diaries leads to a store that has the files of the moment
      pub is_merged_of : (store : StoreState) × (store.files ≡ (ghosts names boundary floor events apart may n).files) × IsMerged page encode decode get_epoch set_epoch (reverse (merged its_log its_diaries)) (kept_by its_diaries) store × ((client : ℕ) → part_of client (reverse (merged its_log its_diaries)) ≡ reverse (journal_of its_diaries client))
      is_merged_of = (
        lin.store,
        its_files names boundary floor events apart elsewhere may n room listings many made in_order ops,
        is_merged page encode decode get_epoch set_epoch its_log its_diaries lin.store (merged its_log its_diaries) its_honest its_kept (share (clients_in ds) (omega arith)).merges,
        λ client. part_reverse client (merged its_log its_diaries) ∙ ap reverse ((share (clients_in ds) (omega arith)).merges.parts client),
      )
