-- Where there is a merged list, its landings were left.
use Rattle.std.proofs.Common.{◌≡◌, ℕ, ◌+◌, ◌≤◌, List, [], ◌∷◌, reverse, ◌==◌, not, Bool, false, if◌then◌else◌, Option, None, inl, inr, refl, sym, ◌∙◌, ap, subst, arith}
use Rattle.std.proofs.lemmas.Bool.{cases_Bool, cases_eq, eq-eqb, ne_eqb, lt-ltb}
use Rattle.std.proofs.lemmas.List.{append-nil}
use Rattle.txn_history.specs.declared.event.Answer.{Answer}
use Rattle.txn_client_journals.specs.declared.rows.LogRow.{LogRow}
use Rattle.txn_client_journals.specs.declared.rows.Receipt.{Receipt}
use Rattle.txn_client_journals.specs.declared.rows.Act.TheVariants as acts
use Rattle.txn_client_journals.specs.declared.rows.Step.{Step}
use Rattle.txn_client_journals.specs.declared.rows.Step.TheVariants as steps
use Rattle.txn_client_journals.specs.declared.rows.JournalRow.{JournalRow}
use Rattle.txn_client_journals.specs.Parts.{Part}
use Rattle.txn_client_journals.specs.Journals.{Replays, left_of}
use Rattle.txn_client_journals.specs.Merged.{Landing, Did, Lands, Merged, part_of, landing_row, with_receipt, log_of, AllCanLand}
use Rattle.txn_client_journals.specs.Verdict.{AuditedDiary, receipts_in, receipt_at, is_taken, rows_of, HasDiaries, HaveRows, journal_of, kept_by, stops_at, left_at, WereLeft}
use Rattle.txn_client_journals.specs.Shares.{is_receipt, Merges, AreDiaries}
use Rattle.txn_client_journals.proofs.Woven.{tail_of, head_or, taken_own, taken_other, pushed, pushed_reverse, LandsAfter, no_receipt, no_logged, no_stop, goes_past, own_rows, no_rows, no_journal, decides}
use Rattle.txn_client_journals.proofs.Once.{left_stays}
use Rattle.txn_client_journals.proofs.Shares.{are_journals}

taken_landing : (landing : Landing) (c : ℕ) → is_taken c (landing_row landing) ≡ false
taken_landing landing c = elim (cases_Bool (landing.client == c)) [ inl h ↦ rw h refl | inr h ↦ rw h refl ]

module _ {T : Type 0} where
  -- what lands lands after what stands before it
  after_all : (before m : Merged T) → AllCanLand (pushed m before) → LandsAfter before m × AllCanLand before
  after_all before [] h = (tt, h)
  after_all before (Did d row ∷ m) h = after_all (Did d row ∷ before) m h
  after_all before (Lands landing ∷ m) h = (let a = after_all (Lands landing ∷ before) m h in ((a.1.0, a.0), a.1.1))

  abbrev RowsFrom : ℕ → Merged T → Type 0
  RowsFrom place m = (c : ℕ) → receipts_in (part_of c m) ≡ rows_of c place (log_of m)

  abbrev FollowFrom : List (AuditedDiary T) → ℕ → Merged T → Merged T → Type 0
  FollowFrom ds place before m = (c p op : ℕ) → place ≤ p → left_at p op None (journal_of ds c) ≡ left_at p op (left_of op (part_of c before)) (part_of c m)

  -- one row more before

  row_of : Step T → Option (Answer T) → JournalRow T
  row_of step answer = record { step = step; answer = answer }

  passes : (d c p op : ℕ) (row : JournalRow T) (before m : Merged T) → (d ≡ c → stops_at p row.step ≡ false) → left_at p op (left_of op (part_of c before)) (part_of c (Did d row ∷ m)) ≡ left_at p op (left_of op (part_of c (Did d row ∷ before))) (part_of c m)
  passes d c p op row before m none = elim (cases_eq d c) [
    | inl e ↦ rw (eq-eqb d c e) (goes_past p op row (part_of c m) (part_of c before) (none e))
    | inr ne ↦ rw (ne_eqb d c ne) refl
  ]

  no_more : (d c : ℕ) (row : JournalRow T) (m : Merged T) → is_receipt row.step ≡ false → receipts_in (part_of c (Did d row ∷ m)) ≡ receipts_in (part_of c m)
  no_more d c row m none = elim (cases_Bool (d == c)) [ inl h ↦ rw h (no_receipt row.step (receipts_in (part_of c m)) none) | inr h ↦ rw h refl ]

  whole_more : (d c : ℕ) (row : JournalRow T) (before m : Merged T) → pushed (part_of c (Did d row ∷ m)) (part_of c before) ≡ pushed (part_of c m) (part_of c (Did d row ∷ before))
  whole_more d c row before m = elim (cases_Bool (d == c)) [ inl h ↦ rw h refl | inr h ↦ rw h refl ]

  module _ (ds : List (AuditedDiary T)) (place d : ℕ) (row : JournalRow T) (before m : Merged T) (rest : (place' : ℕ) → RowsFrom place' m → FollowFrom ds place' (Did d row ∷ before) m → WereLeft place' (log_of m) ds) (rows : RowsFrom place (Did d row ∷ m)) (follow : FollowFrom ds place before (Did d row ∷ m)) where
    -- a row without a receipt
    quiet : is_receipt row.step ≡ false → WereLeft place (log_of (Did d row ∷ m)) ds
    quiet none =
        let same = no_logged d row.step (log_of m) none in
        subst (λ (log : List LogRow). WereLeft place log ds) (sym same)
        (rest place (λ c. sym (no_more d c row m none) ∙ (rows c ∙ ap (rows_of c place) same)) (λ c p op le. follow c p op le ∙ passes d c p op row before m (λ e. no_stop p row.step none)))

  module _ (ds : List (AuditedDiary T)) (place d k : ℕ) (receipt : Receipt) (answer : Option (Answer T)) (before m : Merged T) where
    abbrev row : JournalRow T
    row = record { step = steps.Act k (acts.Receive receipt); answer = answer }

    abbrev logged : LogRow
    logged = record { client = d; request = receipt.request; reply = receipt.reply; landed = None }

    abbrev either : ℕ → Bool → List Receipt
    either c b = if b then receipt_at place logged ∷ rows_of c (place + 1) (log_of m) else rows_of c (place + 1) (log_of m)

    -- a row with a receipt
    got : ((place' : ℕ) → RowsFrom place' m → FollowFrom ds place' (Did d row ∷ before) m → WereLeft place' (log_of m) ds) → RowsFrom place (Did d row ∷ m) → FollowFrom ds place before (Did d row ∷ m) → WereLeft place (logged ∷ log_of m) ds
    got rest rows follow = (tt, rest (place + 1) rows_after follow_after)
      where
        own : receipt ∷ receipts_in (part_of d m) ≡ receipt_at place logged ∷ rows_of d (place + 1) (log_of m)
        own = ap (λ (b : Bool). receipts_in (if b then row ∷ part_of d m else part_of d m)) (sym (eq-eqb d d refl)) ∙ (rows d ∙ ap (either d) (taken_own logged refl))

        at : receipt.place ≡ place
        at = ap (λ (xs : List Receipt). (head_or receipt xs).place) own

        rows_after : RowsFrom (place + 1) m
        rows_after c = elim (cases_eq d c) [
          | inl e ↦ subst (λ (n : ℕ). receipts_in (part_of n m) ≡ rows_of n (place + 1) (log_of m)) e (ap tail_of own)
          | inr ne ↦ ap (λ (b : Bool). receipts_in (if b then row ∷ part_of c m else part_of c m)) (sym (ne_eqb d c ne)) ∙ (rows c ∙ ap (either c) (taken_other logged c ne))
        ]

        follow_after : FollowFrom ds (place + 1) (Did d row ∷ before) m
        follow_after c p op le = follow c p op (omega (arith, le)) ∙ passes d c p op row before m (λ e. ap not (lt-ltb receipt.place p (omega (arith, at, le))))

  did : (ds : List (AuditedDiary T)) (place d : ℕ) (step : Step T) (answer : Option (Answer T)) (before m : Merged T) → ((place' : ℕ) → RowsFrom place' m → FollowFrom ds place' (Did d (record { step = step; answer = answer }) ∷ before) m → WereLeft place' (log_of m) ds) → RowsFrom place (Did d (record { step = step; answer = answer }) ∷ m) →
      FollowFrom ds place before (Did d (record { step = step; answer = answer }) ∷ m) → WereLeft place (with_receipt d step (log_of m)) ds
  did ds place d (steps.Begin call) answer before m rest rows follow = quiet ds place d (record { step = steps.Begin call; answer = answer }) before m rest rows follow refl
  did ds place d (steps.Act k acts.Look) answer before m rest rows follow = quiet ds place d (record { step = steps.Act k acts.Look; answer = answer }) before m rest rows follow refl
  did ds place d (steps.Act k acts.Lacks) answer before m rest rows follow = quiet ds place d (record { step = steps.Act k acts.Lacks; answer = answer }) before m rest rows follow refl
  did ds place d (steps.Act k (acts.Receive receipt)) answer before m rest rows follow = got ds place d k receipt answer before m rest rows follow
  did ds place d (steps.Act k (acts.GiveUp left)) answer before m rest rows follow = quiet ds place d (record { step = steps.Act k (acts.GiveUp left); answer = answer }) before m rest rows follow refl
  did ds place d (steps.Act k (acts.Fails request)) answer before m rest rows follow = quiet ds place d (record { step = steps.Act k (acts.Fails request); answer = answer }) before m rest rows follow refl
  did ds place d (steps.Killed lefts) answer before m rest rows follow = quiet ds place d (record { step = (steps.Killed lefts); answer = answer }) before m rest rows follow refl

module _ {T : Type 0} (page : ℕ) (encode : T → List ℕ) (decode : List ℕ → Option T) (get_epoch : T → ℕ) (set_epoch : T → ℕ → T) where
  abbrev Whole : Merged T → Merged T → Type 0
  Whole before m = (c : ℕ) → (part : Part T) × Replays page encode decode get_epoch set_epoch c (pushed (part_of c m) (part_of c before)) part

  complete : (ds : List (AuditedDiary T)) (place : ℕ) (before m : Merged T) → Whole before m → LandsAfter before m → RowsFrom place m → FollowFrom ds place before m → WereLeft place (log_of m) ds
  complete ds place before [] whole lands rows follow = tt
  complete ds place before (Did d row ∷ m) whole lands rows follow =
      let whole' : Whole (Did d row ∷ before) m = λ c. (let w = whole c in (w.0, subst (λ (rs : List (JournalRow T)). Replays page encode decode get_epoch set_epoch c rs w.0) (whole_more d c row before m) w.1)) in
      did ds place d row.step row.answer before m (λ place' rows' follow'. complete ds place' (Did d row ∷ before) m whole' lands rows' follow') rows follow
  complete ds place before (Lands landing ∷ m) whole lands rows follow =
      let c = landing.client in
      let w = whole c in
      let left = follow c place landing.op (omega arith) ∙ left_stays page encode decode get_epoch set_epoch c place (part_of c m) (part_of c before) w.0 landing.op landing.request w.1 lands.0.0 in (
        (left, lands.0.1),
        complete ds (place + 1) (Lands landing ∷ before) m whole lands.1
            (λ c. rows c ∙ ap (λ (b : Bool). if b then receipt_at place (landing_row landing) ∷ rows_of c (place + 1) (log_of m) else rows_of c (place + 1) (log_of m)) (taken_landing landing c))
            (λ c p op le. follow c p op (omega (arith, le))),
      )

  pub merged_left : (log : List LogRow) (ds : List (AuditedDiary T)) (m : Merged T) → AreDiaries page encode decode get_epoch set_epoch ds → HasDiaries log ds → HaveRows log ds → Merges log ds m → WereLeft 0 log ds
  merged_left log ds m kept there rows g =
      let lands : LandsAfter [] m = (after_all [] m (subst (λ (n : Merged T). AllCanLand n) (sym (pushed_reverse m [] ∙ append-nil (reverse m))) g.landings)).0 in
      let own : (c : ℕ) → receipts_in (journal_of ds c) ≡ rows_of c 0 log = λ c. elim (decides ds c) [
        | inl has ↦ own_rows log ds c rows has
        | inr none ↦ ap receipts_in (no_journal ds c none) ∙ sym (no_rows 0 log ds c there none)
      ] in
      let whole : Whole [] m = λ c. (kept_by ds c, subst (λ (rs : List (JournalRow T)). Replays page encode decode get_epoch set_epoch c rs (kept_by ds c)) (sym (ap (λ (xs : List (JournalRow T)). pushed xs []) (g.parts c) ∙ (pushed_reverse (journal_of ds c) [] ∙ append-nil (reverse (journal_of ds c))))) (are_journals page encode decode get_epoch set_epoch ds kept c)) in
      subst (λ (l : List LogRow). WereLeft 0 l ds) g.receipts
      (complete ds 0 [] m whole lands (λ c. ap (λ (xs : List (JournalRow T)). receipts_in xs) (g.parts c) ∙ (own c ∙ ap (rows_of c 0) (sym g.receipts))) (λ c p op le. ap (left_at p op None) (sym (g.parts c))))
