-- What an audit that agrees promises.
use Rattle.std.proofs.Common.{◌≡◌, ℕ, ◌<◌, ◌≤◌, max, List, [], ◌∷◌, ◌++◌, drop, take, reverse, ◌==◌, if◌then◌else◌, Bool, true, false, Option, None, Ok, inl, inr, refl, sym, ◌∙◌, ap, subst, arith}
use Rattle.std.proofs.lemmas.List.{append-nil, reverse-append, take-append-drop}
use Rattle.std.proofs.lemmas.Bool.{cases_eq, cases_Bool, cases_lt, eq-eqb, ne_eqb}
use Rattle.txn_store.specs.Store.{State as StoreState}
use Rattle.txn_client_journals.specs.declared.rows.LogRow.{LogRow}
use Rattle.txn_client_journals.specs.declared.rows.Act.TheVariants as acts
use Rattle.txn_client_journals.specs.declared.rows.Step.{Step}
use Rattle.txn_client_journals.specs.declared.rows.Step.TheVariants as steps
use Rattle.txn_client_journals.specs.declared.rows.JournalRow.{JournalRow}
use Rattle.txn_client_journals.specs.Parts.{Part}
use Rattle.txn_client_journals.specs.Journals.{Replays}
use Rattle.txn_client_journals.specs.Logs.{IsLog}
use Rattle.txn_client_journals.specs.Merged.{Did, Lands, Merged, part_of, clients_of, landing_row, with_receipt, log_of, IsMerged}
use Rattle.txn_client_journals.specs.Verdict.{AuditedDiary, IsDue, HasClient, journal_of, kept_by, clients_in}
use Rattle.txn_client_journals.specs.Shares.{Merges, AreDiaries, IsBeginning, ShareOnlyTheStore}
use Rattle.txn_client_journals.proofs.Runs.{tail, landing_tail, merged_runs, merged_history}
use Rattle.txn_client_journals.proofs.Woven.{part_append, receipts_append, no_journal, merged_merges}

module _ {T : Type 0} where
  -- a list in the other order

  pub part_reverse : (c : ℕ) (m : Merged T) → part_of c (reverse m) ≡ reverse (part_of c m)
  part_reverse c [] = refl
  part_reverse c (Did d row ∷ m) =
      ap (part_of c) (reverse-append (Did d row ∷ []) m) ∙ (part_append c (reverse m) (Did d row ∷ []) ∙ elim (cases_Bool (d == c)) [
        | inl e ↦ rw (part_reverse c m) (rw e (sym (reverse-append (row ∷ []) (part_of c m))))
        | inr e ↦ rw (part_reverse c m) (rw e (append-nil (reverse (part_of c m))))
      ])
  part_reverse c (Lands landing ∷ m) = ap (part_of c) (reverse-append (Lands landing ∷ []) m) ∙ (part_append c (reverse m) (Lands landing ∷ []) ∙ (append-nil (part_of c (reverse m)) ∙ part_reverse c m))

  receipt_reverse : (client : ℕ) (step : Step T) (log : List LogRow) → reverse log ++ with_receipt client step [] ≡ reverse (with_receipt client step log)
  receipt_reverse client (steps.Begin call) log = append-nil (reverse log)
  receipt_reverse client (steps.Act op acts.Look) log = append-nil (reverse log)
  receipt_reverse client (steps.Act op acts.Lacks) log = append-nil (reverse log)
  receipt_reverse client (steps.Act op (acts.Receive receipt)) log = sym (reverse-append (record { client = client; request = receipt.request; reply = receipt.reply; landed = None } ∷ []) log)
  receipt_reverse client (steps.Act op (acts.GiveUp left)) log = append-nil (reverse log)
  receipt_reverse client (steps.Act op (acts.Fails request)) log = append-nil (reverse log)
  receipt_reverse client (steps.Killed lefts) log = append-nil (reverse log)

  pub receipts_reverse : (m : Merged T) → log_of (reverse m) ≡ reverse (log_of m)
  receipts_reverse [] = refl
  receipts_reverse (Did client row ∷ m) =
      ap log_of (reverse-append (Did client row ∷ []) m) ∙ (receipts_append (reverse m) (Did client row ∷ []) ∙ (ap (λ (log : List LogRow). log ++ log_of (Did client row ∷ [])) (receipts_reverse m) ∙ receipt_reverse client row.step (log_of m)))
  receipts_reverse (Lands landing ∷ m) =
      ap log_of (reverse-append (Lands landing ∷ []) m) ∙ (receipts_append (reverse m) (Lands landing ∷ []) ∙ (ap (λ (log : List LogRow). log ++ landing_row landing ∷ []) (receipts_reverse m) ∙ sym (reverse-append (landing_row landing ∷ []) (log_of m))))

  -- its clients

  clients_append : (a b : Merged T) → clients_of (a ++ b) ≡ max (clients_of a) (clients_of b)
  clients_append [] b = omega arith
  clients_append (Did client row ∷ a) b = let rest = clients_append a b in omega (arith, rest)
  clients_append (Lands landing ∷ a) b = clients_append a b

  clients_reverse : (m : Merged T) → clients_of (reverse m) ≡ clients_of m
  clients_reverse [] = refl
  clients_reverse (Did client row ∷ m) = let rest = clients_reverse m in let split = ap (λ (n : Merged T). clients_of n) (reverse-append (Did client row ∷ []) m) ∙ clients_append (reverse m) (Did client row ∷ []) in omega (arith, rest, split)
  clients_reverse (Lands landing ∷ m) = let rest = clients_reverse m in let split = ap (λ (n : Merged T). clients_of n) (reverse-append (Lands landing ∷ []) m) ∙ clients_append (reverse m) (Lands landing ∷ []) in omega (arith, rest, split)

  clients_bound : (clients : ℕ) (m : Merged T) → ((c : ℕ) → clients < c → part_of c m ≡ []) → clients_of m ≤ clients
  clients_bound clients [] h = omega arith
  clients_bound clients (Lands landing ∷ m) h = clients_bound clients m h
  clients_bound clients (Did client row ∷ m) h =
      let rest = clients_bound clients m (λ c lt. tail_empty client row c m (h c lt)) in
      elim (cases_lt clients client) [
        | inl lt ↦ absurd (head_there client row m (h client lt))
        | inr le ↦ omega (arith, rest, le)
      ]
    where
      head_there : (client : ℕ) (row : JournalRow T) (m : Merged T) → part_of client (Did client row ∷ m) ≡ [] → ⊥
      head_there client row m e = (let is : row ∷ part_of client m ≡ [] = sym (rw (eq-eqb client client refl) refl) ∙ e in cc)

      tail_empty : (client : ℕ) (row : JournalRow T) (c : ℕ) (m : Merged T) → part_of c (Did client row ∷ m) ≡ [] → part_of c m ≡ []
      tail_empty client row c m e = by (client == c) e
        where
          by : (b : Bool) → (if b then row ∷ part_of c m else part_of c m) ≡ [] → part_of c m ≡ []
          by true e = absurd (cc)
          by false e = e

  no_client : (ds : List (AuditedDiary T)) (c : ℕ) → clients_in ds < c → HasClient ds c → ⊥
  no_client [] c lt h = h
  no_client (d ∷ ds) c lt h = elim h [ inl e ↦ absurd (omega (arith, e, lt)) | inr i ↦ no_client ds c (omega (arith, lt)) i ]

module _ {T : Type 0} (page : ℕ) (encode : T → List ℕ) (decode : List ℕ → Option T) (get_epoch : T → ℕ) (set_epoch : T → ℕ → T) where
  pub are_journals : (ds : List (AuditedDiary T)) → AreDiaries page encode decode get_epoch set_epoch ds → (c : ℕ) → Replays page encode decode get_epoch set_epoch c (reverse (journal_of ds c)) (kept_by ds c)
  are_journals [] h c = refl
  are_journals (d ∷ ds) h c =
      elim (cases_eq d.client c) [
        | inl e ↦ subst (λ (n : ℕ). Replays page encode decode get_epoch set_epoch n (reverse (journal_of (d ∷ ds) n)) (kept_by (d ∷ ds) n)) e (rw (eq-eqb d.client d.client refl) h.0)
        | inr ne ↦ rw (ne_eqb d.client c ne) (are_journals ds h.1 c)
      ]

  pub is_merged : (log : List LogRow) (ds : List (AuditedDiary T)) (store : StoreState) (m : Merged T) → IsLog (reverse log) store → AreDiaries page encode decode get_epoch set_epoch ds → Merges log ds m → IsMerged page encode decode get_epoch set_epoch (reverse m) (kept_by ds) store
  is_merged log ds store m l h g =
      record {
        journals = λ c. subst (λ (rows : List (JournalRow T)). Replays page encode decode get_epoch set_epoch c rows (kept_by ds c)) (sym (part_reverse c m ∙ ap reverse (g.parts c))) (are_journals ds h c);
        log = subst (λ (rows : List LogRow). IsLog rows store) (sym (receipts_reverse m ∙ ap reverse g.receipts)) l;
        landings = g.landings;
      }

  -- the rows before others
  beginning : (clients : ℕ) (a b : Merged T) (parts : ℕ → Part T) (store : StoreState) → 1 ≤ page → clients_of b ≤ clients → IsMerged page encode decode get_epoch set_epoch (a ++ b) parts store → IsBeginning page encode decode get_epoch set_epoch clients b
  beginning clients [] b parts store room le h = record { parts = parts; store = store; merged = h; run = merged_runs page encode decode get_epoch set_epoch clients b parts store room le h; history = merged_history page encode decode get_epoch set_epoch b parts store room h }
  beginning clients (Did client row ∷ a) b parts store room le h = (let t = tail page encode decode get_epoch set_epoch client row (a ++ b) parts store h in beginning clients a b t.was t.before room le t.merged)
  beginning clients (Lands landing ∷ a) b parts store room le h = (let t = landing_tail page encode decode get_epoch set_epoch landing (a ++ b) parts store h in beginning clients a b parts t.before room le t.merged)

  pub share_only_the_store : (clients : ℕ) (log : List LogRow) (ds : List (AuditedDiary T)) (store : StoreState) → 1 ≤ page → clients_in ds ≤ clients → IsLog (reverse log) store → AreDiaries page encode decode get_epoch set_epoch ds → IsDue log ds (Ok tt) → ShareOnlyTheStore page encode decode get_epoch set_epoch clients log ds store
  share_only_the_store clients log ds store room le l h due =
      record {
        histories = λ m g. merged_history page encode decode get_epoch set_epoch (reverse m) (kept_by ds) store room (is_merged log ds store m l h g);
        runs = λ m g. merged_runs page encode decode get_epoch set_epoch clients (reverse m) (kept_by ds) store room (bound m g) (is_merged log ds store m l h g);
        beginnings = λ m g k. (
            let two : reverse m ≡ reverse (drop k m) ++ reverse (take k m) = ap reverse (sym (take-append-drop k m)) ∙ reverse-append (take k m) (drop k m) in
            let more = ap (λ (n : Merged T). clients_of n) two ∙ clients_append (reverse (drop k m)) (reverse (take k m)) in
            let all = bound m g in
            beginning clients (reverse (drop k m)) (reverse (take k m)) (kept_by ds) store room (omega (arith, more, all)) (subst (λ (n : Merged T). IsMerged page encode decode get_epoch set_epoch n (kept_by ds) store) two (is_merged log ds store m l h g)));
        merges = merged_merges log ds due.0 due.1 due.2 due.3;
      }
    where
      bound : (m : Merged T) → Merges log ds m → clients_of (reverse m) ≤ clients
      bound m g = (let same = clients_reverse m in let low = clients_bound clients m (λ c lt. g.parts c ∙ no_journal ds c (no_client ds c (omega (arith, lt, le)))) in omega (arith, same, low))
