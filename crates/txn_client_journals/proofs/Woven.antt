-- The log's rows with the diaries' rows between them are a merged list.
use Rattle.std.proofs.Common.{◌≡◌, ◌≢◌, ℕ, ◌+◌, ◌<◌, ◌≤◌, List, [], ◌∷◌, ◌++◌, reverse, ◌==◌, not, if◌then◌else◌, Option, Some, None, ◌⊎◌, inl, inr, Bool, true, false, refl, sym, ◌∙◌, ap, subst, arith}
use Rattle.std.proofs.lemmas.Bool.{cases_eq, cases_Bool, eq-eqb, ne_eqb, lt-ltb, le-ltb}
use Rattle.std.proofs.lemmas.List.{append-nil, append_assoc, reverse-append}
use Rattle.txn_store.specs.declared.request.Request.{Request}
use Rattle.txn_store.specs.declared.request.Reply.{Reply}
use Rattle.txn_client_journals.specs.declared.rows.LogRow.{LogRow}
use Rattle.txn_client_journals.specs.declared.rows.Receipt.{Receipt}
use Rattle.txn_client_journals.specs.declared.rows.Act.TheVariants as acts
use Rattle.txn_client_journals.specs.declared.rows.Step.{Step}
use Rattle.txn_client_journals.specs.declared.rows.Step.TheVariants as steps
use Rattle.txn_client_journals.specs.declared.rows.JournalRow.{JournalRow}
use Rattle.txn_client_journals.specs.Journals.{left_of}
use Rattle.txn_client_journals.specs.Merged.{Did, Lands, Merged, part_of, with_receipt, landing_row, log_of, CanLand, AllCanLand}
use Rattle.txn_client_journals.specs.Verdict.{AuditedDiary, received_by, receipts_in, receipt_at, rows_of, HasClient, HaveDifferentClients, HasDiaries, HaveRows, journal_of, is_taken, stops_at, left_at, WasLeft, WereLeft}
use Rattle.txn_client_journals.specs.Shares.{Merges, is_receipt, up_to, after, ahead, behind, landing_of, turn_of, rows_after, of_client, with_journal, rests, merged_from, merged}

abbrev pub tail_of : List Receipt → List Receipt
tail_of [] = []
tail_of (x ∷ xs) = xs

abbrev pub head_or : Receipt → List Receipt → Receipt
head_or r [] = r
head_or r (x ∷ xs) = x

abbrev row_of : ℕ → Request → Reply → Option ℕ → LogRow
row_of client request reply landed = record { client = client; request = request; reply = reply; landed = landed }

-- whether a row is its client's receipt

pub taken_own : (row : LogRow) → row.landed ≡ None → is_taken row.client row ≡ true
taken_own row none = rw (eq-eqb row.client row.client refl, none) refl

landed_own : (row : LogRow) (op : ℕ) → row.landed ≡ Some op → is_taken row.client row ≡ false
landed_own row op some = rw (eq-eqb row.client row.client refl, some) refl

pub taken_other : (row : LogRow) (c : ℕ) → row.client ≢ c → is_taken c row ≡ false
taken_other row c ne = rw (ne_eqb row.client c ne) refl

none_left : {r : Receipt} {rs : List Receipt} {P : Type 0} → [] ≡ r ∷ rs → P
none_left e = absurd (cc)

-- the first of these receipts is of this place or a later one
abbrev StartsFrom : ℕ → List Receipt → Type 0
StartsFrom place [] = Unit {0}
StartsFrom place (receipt ∷ receipts) = place ≤ receipt.place

starts_from : (client place low : ℕ) (log : List LogRow) → low ≤ place → StartsFrom low (rows_of client place log)
starts_from client place low [] le = tt
starts_from client place low (row ∷ log) le = elim (cases_Bool (is_taken client row)) [ inl h ↦ rw h le | inr h ↦ rw h (starts_from client (place + 1) low log (omega (arith, le))) ]

-- rows onto those before them, the newest first
abbrev pub pushed : {A : Type 0} → List A → List A → List A
pushed [] base = base
pushed (x ∷ xs) base = pushed xs (x ∷ base)

pub pushed_reverse : {A : Type 0} (xs base : List A) → pushed xs base ≡ reverse xs ++ base
pushed_reverse [] base = refl
pushed_reverse (x ∷ xs) base = pushed_reverse xs (x ∷ base) ∙ (sym (append_assoc (reverse xs) (x ∷ []) base) ∙ ap (λ ys. ys ++ base) (sym (reverse-append (x ∷ []) xs)))

module _ {T : Type 0} where
  -- merged lists

  pub part_append : (c : ℕ) (a b : Merged T) → part_of c (a ++ b) ≡ part_of c a ++ part_of c b
  part_append c [] b = refl
  part_append c (Did d row ∷ a) b = elim (cases_Bool (d == c)) [ inl h ↦ rw h (ap (λ (xs : List (JournalRow T)). row ∷ xs) (part_append c a b)) | inr h ↦ rw h (part_append c a b) ]
  part_append c (Lands landing ∷ a) b = part_append c a b

  pub part_same : (c : ℕ) (rows : List (JournalRow T)) → part_of c (of_client c rows) ≡ rows
  part_same c [] = refl
  part_same c (row ∷ rows) = rw (eq-eqb c c refl) (ap (λ (xs : List (JournalRow T)). row ∷ xs) (part_same c rows))

  pub part_else : (c d : ℕ) (rows : List (JournalRow T)) → c ≢ d → part_of d (of_client c rows) ≡ []
  part_else c d [] ne = refl
  part_else c d (row ∷ rows) ne = rw (ne_eqb c d ne) (part_else c d rows ne)

  receipt_append : (client : ℕ) (step : Step T) (a b : List LogRow) → with_receipt client step a ++ b ≡ with_receipt client step (a ++ b)
  receipt_append client (steps.Begin call) a b = refl
  receipt_append client (steps.Act op acts.Look) a b = refl
  receipt_append client (steps.Act op acts.Lacks) a b = refl
  receipt_append client (steps.Act op (acts.Receive receipt)) a b = refl
  receipt_append client (steps.Act op (acts.GiveUp left)) a b = refl
  receipt_append client (steps.Act op (acts.Fails request)) a b = refl
  receipt_append client (steps.Killed lefts) a b = refl

  pub receipts_append : (a b : Merged T) → log_of (a ++ b) ≡ log_of a ++ log_of b
  receipts_append [] b = refl
  receipts_append (Did client row ∷ a) b = ap (with_receipt client row.step) (receipts_append a b) ∙ sym (receipt_append client row.step (log_of a) (log_of b))
  receipts_append (Lands landing ∷ a) b = ap (λ (log : List LogRow). landing_row landing ∷ log) (receipts_append a b)

  -- journals

  pub no_receipt : (step : Step T) (rs : List Receipt) → is_receipt step ≡ false → received_by step rs ≡ rs
  no_receipt (steps.Begin call) rs h = refl
  no_receipt (steps.Act op acts.Look) rs h = refl
  no_receipt (steps.Act op acts.Lacks) rs h = refl
  no_receipt (steps.Act op (acts.Receive receipt)) rs h = absurd (cc)
  no_receipt (steps.Act op (acts.GiveUp left)) rs h = refl
  no_receipt (steps.Act op (acts.Fails request)) rs h = refl
  no_receipt (steps.Killed lefts) rs h = refl

  pub no_logged : (client : ℕ) (step : Step T) (log : List LogRow) → is_receipt step ≡ false → with_receipt client step log ≡ log
  no_logged client (steps.Begin call) log h = refl
  no_logged client (steps.Act op acts.Look) log h = refl
  no_logged client (steps.Act op acts.Lacks) log h = refl
  no_logged client (steps.Act op (acts.Receive receipt)) log h = absurd (cc)
  no_logged client (steps.Act op (acts.GiveUp left)) log h = refl
  no_logged client (steps.Act op (acts.Fails request)) log h = refl
  no_logged client (steps.Killed lefts) log h = refl

  both_parts : (rows : List (JournalRow T)) → up_to rows ++ after rows ≡ rows
  both_parts [] = refl
  both_parts (row ∷ rows) = elim (cases_Bool (is_receipt row.step)) [ inl h ↦ rw h refl | inr h ↦ rw h (ap (λ (xs : List (JournalRow T)). row ∷ xs) (both_parts rows)) ]

  -- a receipt that is the log's row
  record Same (row : LogRow) (step : Step T) (rest rows : List Receipt) : Type 0 where
    is : (log : List LogRow) → with_receipt row.client step log ≡ row ∷ log
    rest_is : rest ≡ rows

  same_row : (row : LogRow) (place : ℕ) (step : Step T) (rest rows : List Receipt) → row.landed ≡ None → is_receipt step ≡ true → received_by step rest ≡ receipt_at place row ∷ rows → Same row step rest rows
  same_row row place (steps.Begin call) rest rows none h e = absurd (cc)
  same_row row place (steps.Act op acts.Look) rest rows none h e = absurd (cc)
  same_row row place (steps.Act op acts.Lacks) rest rows none h e = absurd (cc)
  same_row row place (steps.Act op (acts.Receive r)) rest rows none h e =
      let a : r.request ≡ row.request = ap (λ (xs : List Receipt). (head_or r xs).request) e in
      let b : r.reply ≡ row.reply = ap (λ (xs : List Receipt). (head_or r xs).reply) e in
      record {
        is = λ log. ap (λ (q : Request). row_of row.client q r.reply None ∷ log) a ∙ (ap (λ (q : Reply). row_of row.client row.request q None ∷ log) b ∙ ap (λ (l : Option ℕ). row_of row.client row.request row.reply l ∷ log) (sym none));
        rest_is = ap tail_of e;
      }
  same_row row place (steps.Act op (acts.GiveUp left)) rest rows none h e = absurd (cc)
  same_row row place (steps.Act op (acts.Fails request)) rest rows none h e = absurd (cc)
  same_row row place (steps.Killed lefts) rest rows none h e = absurd (cc)

  -- the first turn of a journal, whose first receipt is the log's row
  record FirstTurn (row : LogRow) (rows : List Receipt) (es : List (JournalRow T)) : Type 0 where
    rest : receipts_in (after es) ≡ rows
    receipts : log_of (of_client row.client (up_to es)) ≡ row ∷ []

  first_turn : (row : LogRow) (place : ℕ) (rows : List Receipt) (es : List (JournalRow T)) → row.landed ≡ None → receipts_in es ≡ receipt_at place row ∷ rows → FirstTurn row rows es
  first_turn row place rows [] none e = none_left e
  first_turn row place rows (x ∷ es) none e = elim (cases_Bool (is_receipt x.step)) [
    | inl h ↦ (let same = same_row row place x.step (receipts_in es) rows none h e in record { rest = rw h same.rest_is; receipts = rw h (same.is []) })
    | inr h ↦ (let rest = first_turn row place rows es none (sym (no_receipt x.step (receipts_in es) h) ∙ e) in record { rest = rw h rest.rest; receipts = rw h (no_logged row.client x.step (log_of (of_client row.client (up_to es))) h ∙ rest.receipts) })
  ]

  rest_of : (step : Step T) (rs : List Receipt) → received_by step rs ≡ [] → (is_receipt step ≡ false) × (rs ≡ [])
  rest_of (steps.Begin call) rs h = (refl, h)
  rest_of (steps.Act op acts.Look) rs h = (refl, h)
  rest_of (steps.Act op acts.Lacks) rs h = (refl, h)
  rest_of (steps.Act op (acts.Receive receipt)) rs h = none_left (sym h)
  rest_of (steps.Act op (acts.GiveUp left)) rs h = (refl, h)
  rest_of (steps.Act op (acts.Fails request)) rs h = (refl, h)
  rest_of (steps.Killed lefts) rs h = (refl, h)

  no_receipts : (client : ℕ) (es : List (JournalRow T)) → receipts_in es ≡ [] → log_of (of_client client es) ≡ []
  no_receipts client [] e = refl
  no_receipts client (x ∷ es) e = (let r = rest_of x.step (receipts_in es) e in no_logged client x.step (log_of (of_client client es)) r.0 ∙ no_receipts client es r.1)

  -- a landing: the rows before the next receipt

  ahead_behind : (rows : List (JournalRow T)) → ahead rows ++ behind rows ≡ rows
  ahead_behind [] = refl
  ahead_behind (row ∷ rows) = elim (cases_Bool (is_receipt row.step)) [ inl h ↦ rw h refl | inr h ↦ rw h (ap (λ (xs : List (JournalRow T)). row ∷ xs) (ahead_behind rows)) ]

  none_ahead : (client : ℕ) (rows : List (JournalRow T)) → log_of (of_client client (ahead rows)) ≡ []
  none_ahead client [] = refl
  none_ahead client (row ∷ rows) = elim (cases_Bool (is_receipt row.step)) [ inl h ↦ rw h refl | inr h ↦ rw h (no_logged client row.step (log_of (of_client client (ahead rows))) h ∙ none_ahead client rows) ]

  all_behind : (rows : List (JournalRow T)) → receipts_in (behind rows) ≡ receipts_in rows
  all_behind [] = refl
  all_behind (row ∷ rows) = elim (cases_Bool (is_receipt row.step)) [ inl h ↦ rw h refl | inr h ↦ rw h (all_behind rows ∙ sym (no_receipt row.step (receipts_in rows) h)) ]

  -- what a row of the log takes of its client's journal
  record Turns (row : LogRow) (landed : Option ℕ) (place : ℕ) (log : List LogRow) (es : List (JournalRow T)) : Type 0 where
    own : part_of row.client (turn_of row landed es) ++ rows_after landed es ≡ es
    others : (c : ℕ) → row.client ≢ c → part_of c (turn_of row landed es) ≡ []
    receipts : log_of (turn_of row landed es) ≡ row ∷ []
    rest : receipts_in (rows_after landed es) ≡ rows_of row.client (place + 1) log

  a_turn : (row : LogRow) (landed : Option ℕ) (place : ℕ) (log : List LogRow) (es : List (JournalRow T)) → row.landed ≡ landed → receipts_in es ≡ rows_of row.client place (row ∷ log) → Turns row landed place log es
  a_turn row None place log es is h =
      let own : receipts_in es ≡ receipt_at place row ∷ rows_of row.client (place + 1) log = h ∙ ap (λ (b : Bool). if b then receipt_at place row ∷ rows_of row.client (place + 1) log else rows_of row.client (place + 1) log) (taken_own row is) in
      let f = first_turn row place (rows_of row.client (place + 1) log) es is own in
      record {
        own = ap (λ (xs : List (JournalRow T)). xs ++ after es) (part_same row.client (up_to es)) ∙ both_parts es;
        others = λ c ne. part_else row.client c (up_to es) ne;
        receipts = f.receipts;
        rest = f.rest;
      }
  a_turn row (Some op) place log es is h =
      let turn = of_client row.client (ahead es) in
      let land : Merged T = Lands (landing_of row op) ∷ [] in
      record {
        own = ap (λ (xs : List (JournalRow T)). xs ++ behind es) (part_append row.client turn land ∙ (append-nil (part_of row.client turn) ∙ part_same row.client (ahead es))) ∙ ahead_behind es;
        others = λ c ne. part_append c turn land ∙ (append-nil (part_of c turn) ∙ part_else row.client c (ahead es) ne);
        receipts = receipts_append turn land ∙ (ap (λ (log : List LogRow). log ++ landing_row (landing_of row op) ∷ []) (none_ahead row.client es) ∙ ap (λ (l : Option ℕ). row_of row.client row.request row.reply l ∷ []) (sym is));
        rest = all_behind es ∙ (h ∙ ap (λ (b : Bool). if b then receipt_at place row ∷ rows_of row.client (place + 1) log else rows_of row.client (place + 1) log) (landed_own row op is));
      }

  none_after : (landed : Option ℕ) (es : List (JournalRow T)) → es ≡ [] → rows_after landed es ≡ []
  none_after None es e = ap (λ (xs : List (JournalRow T)). after xs) e
  none_after (Some op) es e = ap (λ (xs : List (JournalRow T)). behind xs) e

  -- the rests

  no_part : (ds : List (AuditedDiary T)) (journals : ℕ → List (JournalRow T)) (c : ℕ) → (HasClient ds c → ⊥) → part_of c (rests ds journals) ≡ []
  no_part [] journals c none = refl
  no_part (d ∷ ds) journals c none = part_append c (of_client d.client (journals d.client)) (rests ds journals) ∙ rw (part_else d.client c (journals d.client) (λ e. none (inl e)), no_part ds journals c (λ h. none (inr h))) refl

  one_part : (ds : List (AuditedDiary T)) (journals : ℕ → List (JournalRow T)) (c : ℕ) → HaveDifferentClients ds → HasClient ds c → part_of c (rests ds journals) ≡ journals c
  one_part [] journals c h has = absurd has
  one_part (d ∷ ds) journals c h has =
      part_append c (of_client d.client (journals d.client)) (rests ds journals) ∙ elim (cases_eq d.client c) [
        | inl e ↦ subst (λ (n : ℕ). part_of n (of_client d.client (journals d.client)) ++ part_of n (rests ds journals) ≡ journals n) e (rw (part_same d.client (journals d.client), no_part ds journals d.client h.0) (append-nil (journals d.client)))
        | inr ne ↦ rw (part_else d.client c (journals d.client) ne) (one_part ds journals c h.1 (elim has [ inl e ↦ absurd (ne e) | inr i ↦ i ]))
      ]

  rests_receipts : (ds : List (AuditedDiary T)) (journals : ℕ → List (JournalRow T)) → ((c : ℕ) → receipts_in (journals c) ≡ []) → log_of (rests ds journals) ≡ []
  rests_receipts [] journals h = refl
  rests_receipts (d ∷ ds) journals h = receipts_append (of_client d.client (journals d.client)) (rests ds journals) ∙ rw (no_receipts d.client (journals d.client) (h d.client), rests_receipts ds journals h) refl

  pub decides : (ds : List (AuditedDiary T)) (c : ℕ) → HasClient ds c ⊎ (HasClient ds c → ⊥)
  decides [] c = inr (λ h. absurd h)
  decides (d ∷ ds) c =
      elim (cases_eq d.client c) [
        | inl e ↦ inl (inl e)
        | inr ne ↦ elim (decides ds c) [ inl h ↦ inl (inr h) | inr none ↦ inr (λ h. elim h [ inl e ↦ ne e | inr i ↦ none i ]) ]
      ]

  -- the weave

  record Weaves (log : List LogRow) (journals : ℕ → List (JournalRow T)) (m : Merged T) : Type 0 where
    parts : (c : ℕ) → part_of c m ≡ journals c
    receipts : log_of m ≡ log

  -- the journals' receipts are the log's rows, and those of no diary are empty
  record CanWeave (ds : List (AuditedDiary T)) (place : ℕ) (log : List LogRow) (journals : ℕ → List (JournalRow T)) : Type 0 where
    rows : (c : ℕ) → receipts_in (journals c) ≡ rows_of c place log
    none : (c : ℕ) → (HasClient ds c → ⊥) → journals c ≡ []

  weaves : (ds : List (AuditedDiary T)) (place : ℕ) (log : List LogRow) (journals : ℕ → List (JournalRow T)) → HaveDifferentClients ds → CanWeave ds place log journals → Weaves log journals (merged_from ds log journals)
  weaves ds place [] journals different h =
      record {
        parts = λ c. elim (decides ds c) [ inl has ↦ one_part ds journals c different has | inr none ↦ no_part ds journals c none ∙ sym (h.none c none) ];
        receipts = rests_receipts ds journals (λ c. h.rows c);
      }
  weaves ds place (row ∷ log) journals different h =
      let client = row.client in
      let es = journals client in
      let turn = turn_of row row.landed es in
      let f = a_turn row row.landed place log es refl (h.rows client) in
      let left = with_journal journals client (rows_after row.landed es) in
      let w = weaves ds (place + 1) log left different (record {
        rows = λ c. elim (cases_eq c client) [
          | inl e ↦ subst (λ (n : ℕ). receipts_in (left n) ≡ rows_of n (place + 1) log) (sym e) (rw (eq-eqb client client refl) f.rest)
          | inr ne ↦ rw (ne_eqb c client ne) (h.rows c ∙ ap (λ (b : Bool). if b then receipt_at place row ∷ rows_of c (place + 1) log else rows_of c (place + 1) log) (taken_other row c (λ s. ne (sym s))))
        ];
        none = λ c none. elim (cases_eq c client) [
          | inl e ↦ subst (λ (n : ℕ). left n ≡ []) (sym e) (rw (eq-eqb client client refl) (none_after row.landed es (h.none client (subst (λ (n : ℕ). HasClient ds n → ⊥) e none))))
          | inr ne ↦ rw (ne_eqb c client ne) (h.none c none)
        ];
      }) in
      record {
        parts = λ c. part_append c turn (merged_from ds log left) ∙ elim (cases_eq c client) [
          | inl e ↦ subst (λ (n : ℕ). part_of n turn ++ part_of n (merged_from ds log left) ≡ journals n) (sym e) (rw (w.parts client) (rw (eq-eqb client client refl) f.own))
          | inr ne ↦ rw (f.others c (λ s. ne (sym s)), w.parts c) (rw (ne_eqb c client ne) refl)
        ];
        receipts = receipts_append turn (merged_from ds log left) ∙ rw (f.receipts, w.receipts) refl;
      }

  -- the rows of a client

  pub no_rows : (place : ℕ) (log : List LogRow) (ds : List (AuditedDiary T)) (c : ℕ) → HasDiaries log ds → (HasClient ds c → ⊥) → rows_of c place log ≡ []
  no_rows place [] ds c h none = refl
  no_rows place (row ∷ log) ds c h none = rw (taken_other row c (λ e. none (subst (λ (n : ℕ). HasClient ds n) e h.0))) (no_rows (place + 1) log ds c h.1 none)

  pub no_journal : (ds : List (AuditedDiary T)) (c : ℕ) → (HasClient ds c → ⊥) → journal_of ds c ≡ []
  no_journal [] c none = refl
  no_journal (d ∷ ds) c none = rw (ne_eqb d.client c (λ e. none (inl e))) (no_journal ds c (λ h. none (inr h)))

  pub own_rows : (log : List LogRow) (ds : List (AuditedDiary T)) (c : ℕ) → HaveRows log ds → HasClient ds c → receipts_in (journal_of ds c) ≡ rows_of c 0 log
  own_rows log [] c h has = absurd has
  own_rows log (d ∷ ds) c h has =
      elim (cases_eq d.client c) [
        | inl e ↦ subst (λ (n : ℕ). receipts_in (journal_of (d ∷ ds) n) ≡ rows_of n 0 log) e (rw (eq-eqb d.client d.client refl) h.0)
        | inr ne ↦ rw (ne_eqb d.client c ne) (own_rows log ds c h.1 (elim has [ inl e ↦ absurd (ne e) | inr i ↦ i ]))
      ]

  -- the landings of the list are of what was left before them

  -- this list comes after what stands here, the newest first
  abbrev pub LandsAfter : Merged T → Merged T → Type 0
  LandsAfter before [] = Unit {0}
  LandsAfter before (Did client row ∷ m) = LandsAfter (Did client row ∷ before) m
  LandsAfter before (Lands landing ∷ m) = CanLand before landing × LandsAfter (Lands landing ∷ before) m

  lands_append : (before a b : Merged T) → LandsAfter before a → LandsAfter (pushed a before) b → LandsAfter before (a ++ b)
  lands_append before [] b h k = k
  lands_append before (Did client row ∷ a) b h k = lands_append (Did client row ∷ before) a b h k
  lands_append before (Lands landing ∷ a) b h k = (h.0, lands_append (Lands landing ∷ before) a b h.1 k)

  all_land : (before m : Merged T) → AllCanLand before → LandsAfter before m → AllCanLand (pushed m before)
  all_land before [] h k = h
  all_land before (Did client row ∷ m) h k = all_land (Did client row ∷ before) m h k
  all_land before (Lands landing ∷ m) h k = all_land (Lands landing ∷ before) m (k.0, h) k.1

  none_land : (before : Merged T) (client : ℕ) (rows : List (JournalRow T)) → LandsAfter before (of_client client rows)
  none_land before client [] = tt
  none_land before client (row ∷ rows) = none_land (Did client row ∷ before) client rows

  rests_land : (before : Merged T) (ds : List (AuditedDiary T)) (journals : ℕ → List (JournalRow T)) → LandsAfter before (rests ds journals)
  rests_land before [] journals = tt
  rests_land before (d ∷ ds) journals = lands_append before (of_client d.client (journals d.client)) (rests ds journals) (none_land before d.client (journals d.client)) (rests_land (pushed (of_client d.client (journals d.client)) before) ds journals)

  pushed_own : (before : Merged T) (client : ℕ) (rows : List (JournalRow T)) → part_of client (pushed (of_client client rows) before) ≡ pushed rows (part_of client before)
  pushed_own before client [] = refl
  pushed_own before client (row ∷ rows) = pushed_own (Did client row ∷ before) client rows ∙ ap (λ (b : Bool). pushed rows (if b then row ∷ part_of client before else part_of client before)) (eq-eqb client client refl)

  pushed_other : (before : Merged T) (client d : ℕ) (rows : List (JournalRow T)) → client ≢ d → part_of d (pushed (of_client client rows) before) ≡ part_of d before
  pushed_other before client d [] ne = refl
  pushed_other before client d (row ∷ rows) ne = pushed_other (Did client row ∷ before) client d rows ne ∙ ap (λ (b : Bool). if b then row ∷ part_of d before else part_of d before) (ne_eqb client d ne)

  -- rows without a receipt do not stop
  pub no_stop : (place : ℕ) (step : Step T) → is_receipt step ≡ false → stops_at place step ≡ false
  no_stop place (steps.Begin call) h = refl
  no_stop place (steps.Act op acts.Look) h = refl
  no_stop place (steps.Act op acts.Lacks) h = refl
  no_stop place (steps.Act op (acts.Receive receipt)) h = absurd (cc)
  no_stop place (steps.Act op (acts.GiveUp left)) h = refl
  no_stop place (steps.Act op (acts.Fails request)) h = refl
  no_stop place (steps.Killed lefts) h = refl

  pub goes_past : (place op : ℕ) (row : JournalRow T) (rows base : List (JournalRow T)) → stops_at place row.step ≡ false → left_at place op (left_of op base) (row ∷ rows) ≡ left_at place op (left_of op (row ∷ base)) rows
  goes_past place op row rows base h = rw h refl

  -- a receipt of an earlier place does not stop, one of this place or a later one does
  early : (place : ℕ) (step : Step T) (rest rows : List Receipt) (receipt : Receipt) → is_receipt step ≡ true → received_by step rest ≡ receipt ∷ rows → receipt.place < place → stops_at place step ≡ false
  early place (steps.Begin call) rest rows receipt h e lt = absurd (cc)
  early place (steps.Act op acts.Look) rest rows receipt h e lt = absurd (cc)
  early place (steps.Act op acts.Lacks) rest rows receipt h e lt = absurd (cc)
  early place (steps.Act op (acts.Receive r)) rest rows receipt h e lt = (let at : r.place ≡ receipt.place = ap (λ (xs : List Receipt). (head_or r xs).place) e in ap not (lt-ltb r.place place (omega (arith, at, lt))))
  early place (steps.Act op (acts.GiveUp left)) rest rows receipt h e lt = absurd (cc)
  early place (steps.Act op (acts.Fails request)) rest rows receipt h e lt = absurd (cc)
  early place (steps.Killed lefts) rest rows receipt h e lt = absurd (cc)

  late : (place : ℕ) (step : Step T) (rest : List Receipt) → is_receipt step ≡ true → StartsFrom place (received_by step rest) → stops_at place step ≡ true
  late place (steps.Begin call) rest h from = absurd (cc)
  late place (steps.Act op acts.Look) rest h from = absurd (cc)
  late place (steps.Act op acts.Lacks) rest h from = absurd (cc)
  late place (steps.Act op (acts.Receive r)) rest h from = ap not (le-ltb r.place place from)
  late place (steps.Act op (acts.GiveUp left)) rest h from = absurd (cc)
  late place (steps.Act op (acts.Fails request)) rest h from = absurd (cc)
  late place (steps.Killed lefts) rest h from = absurd (cc)

  -- past the rows up to a receipt, for a place after it
  past_turn : (place op : ℕ) (es base : List (JournalRow T)) (receipt : Receipt) (rows : List Receipt) → receipts_in es ≡ receipt ∷ rows → receipt.place < place → left_at place op (left_of op base) es ≡ left_at place op (left_of op (pushed (up_to es) base)) (after es)
  past_turn place op [] base receipt rows e lt = none_left e
  past_turn place op (x ∷ es) base receipt rows e lt = elim (cases_Bool (is_receipt x.step)) [
    | inl h ↦ goes_past place op x es base (early place x.step (receipts_in es) rows receipt h e lt) ∙ rw h refl
    | inr h ↦ goes_past place op x es base (no_stop place x.step h) ∙ (past_turn place op es (x ∷ base) receipt rows (sym (no_receipt x.step (receipts_in es) h) ∙ e) lt ∙ rw h refl)
  ]

  -- past the rows before a receipt
  past_ahead : (place op : ℕ) (es base : List (JournalRow T)) → left_at place op (left_of op base) es ≡ left_at place op (left_of op (pushed (ahead es) base)) (behind es)
  past_ahead place op [] base = refl
  past_ahead place op (x ∷ es) base = elim (cases_Bool (is_receipt x.step)) [
    | inl h ↦ rw h refl
    | inr h ↦ goes_past place op x es base (no_stop place x.step h) ∙ (past_ahead place op es (x ∷ base) ∙ rw h refl)
  ]

  -- up to a receipt of this place or a later one
  at_ahead : (place op : ℕ) (es base : List (JournalRow T)) → StartsFrom place (receipts_in es) → left_at place op (left_of op base) es ≡ left_of op (pushed (ahead es) base)
  at_ahead place op [] base from = refl
  at_ahead place op (x ∷ es) base from = elim (cases_Bool (is_receipt x.step)) [
    | inl h ↦ rw (late place x.step (receipts_in es) h from) (rw h refl)
    | inr h ↦ goes_past place op x es base (no_stop place x.step h) ∙ (at_ahead place op es (x ∷ base) (subst (StartsFrom place) (no_receipt x.step (receipts_in es) h) from) ∙ rw h refl)
  ]

  abbrev Follow : List (AuditedDiary T) → ℕ → (ℕ → List (JournalRow T)) → Merged T → Type 0
  Follow ds place journals before = (c p op : ℕ) → place ≤ p → left_at p op None (journal_of ds c) ≡ left_at p op (left_of op (part_of c before)) (journals c)

  -- what a row of the log makes of a client's journal, for later places
  turn_past : (row : LogRow) (landed : Option ℕ) (place p op : ℕ) (log : List LogRow) (es : List (JournalRow T)) (before : Merged T) → row.landed ≡ landed → receipts_in es ≡ rows_of row.client place (row ∷ log) → place + 1 ≤ p →
      left_at p op (left_of op (part_of row.client before)) es ≡ left_at p op (left_of op (part_of row.client (pushed (turn_of row landed es) before))) (rows_after landed es)
  turn_past row None place p op log es before is h le =
      let own : receipts_in es ≡ receipt_at place row ∷ rows_of row.client (place + 1) log = h ∙ ap (λ (b : Bool). if b then receipt_at place row ∷ rows_of row.client (place + 1) log else rows_of row.client (place + 1) log) (taken_own row is) in
      past_turn p op es (part_of row.client before) (receipt_at place row) (rows_of row.client (place + 1) log) own (omega (arith, le)) ∙ ap (λ (rows : List (JournalRow T)). left_at p op (left_of op rows) (after es)) (sym (pushed_own before row.client (up_to es)))
  turn_past row (Some o) place p op log es before is h le =
      past_ahead p op es (part_of row.client before) ∙ ap (λ (rows : List (JournalRow T)). left_at p op (left_of op rows) (behind es)) (sym (pushed_own before row.client (ahead es)) ∙ sym (pushed_landing (of_client row.client (ahead es)) before (landing_of row o) row.client))
    where
      pushed_landing : (a before : Merged T) (landing : Rattle.txn_client_journals.specs.Merged.Landing) (c : ℕ) → part_of c (pushed (a ++ Lands landing ∷ []) before) ≡ part_of c (pushed a before)
      pushed_landing [] before landing c = refl
      pushed_landing (x ∷ a) before landing c = pushed_landing a (x ∷ before) landing c

  turn_else : (row : LogRow) (landed : Option ℕ) (c : ℕ) (es : List (JournalRow T)) (before : Merged T) → row.client ≢ c → part_of c (pushed (turn_of row landed es) before) ≡ part_of c before
  turn_else row None c es before ne = pushed_other before row.client c (up_to es) ne
  turn_else row (Some op) c es before ne = by (of_client row.client (ahead es)) before ∙ pushed_other before row.client c (ahead es) ne
    where
      by : (a before : Merged T) → part_of c (pushed (a ++ Lands (landing_of row op) ∷ []) before) ≡ part_of c (pushed a before)
      by [] before = refl
      by (x ∷ a) before = by a (x ∷ before)

  -- a row's landing
  turn_lands : (ds : List (AuditedDiary T)) (row : LogRow) (landed : Option ℕ) (place : ℕ) (log : List LogRow) (journals : ℕ → List (JournalRow T)) (before : Merged T) → row.landed ≡ landed → receipts_in (journals row.client) ≡ rows_of row.client place (row ∷ log) → Follow ds place journals before → WasLeft place row landed ds →
      LandsAfter before (turn_of row landed (journals row.client))
  turn_lands ds row None place log journals before is h follow known = none_land before row.client (up_to (journals row.client))
  turn_lands ds row (Some op) place log journals before is h follow known =
      let es = journals row.client in
      let from : StartsFrom place (receipts_in es) = subst (StartsFrom place) (sym h) (starts_from row.client place place (row ∷ log) (omega arith)) in
      let left : left_of op (part_of row.client (pushed (of_client row.client (ahead es)) before)) ≡ Some row.request = ap (left_of op) (pushed_own before row.client (ahead es)) ∙ (sym (at_ahead place op es (part_of row.client before) from) ∙ (sym (follow row.client place op (omega arith)) ∙ known.0)) in
      lands_append before (of_client row.client (ahead es)) (Lands (landing_of row op) ∷ []) (none_land before row.client (ahead es)) ((left, known.1), tt)

  lands_from : (ds : List (AuditedDiary T)) (place : ℕ) (log : List LogRow) (journals : ℕ → List (JournalRow T)) (before : Merged T) → ((c : ℕ) → receipts_in (journals c) ≡ rows_of c place log) → Follow ds place journals before → WereLeft place log ds → LandsAfter before (merged_from ds log journals)
  lands_from ds place [] journals before rows follow known = rests_land before ds journals
  lands_from ds place (row ∷ log) journals before rows follow known =
      let client = row.client in
      let es = journals client in
      let turn = turn_of row row.landed es in
      let f = a_turn row row.landed place log es refl (rows client) in
      let left = with_journal journals client (rows_after row.landed es) in
      lands_append before turn (merged_from ds log left) (turn_lands ds row row.landed place log journals before refl (rows client) follow known.0)
      (lands_from ds (place + 1) log left (pushed turn before)
      (λ c. elim (cases_eq c client) [
        | inl e ↦ subst (λ (n : ℕ). receipts_in (left n) ≡ rows_of n (place + 1) log) (sym e) (rw (eq-eqb client client refl) f.rest)
        | inr ne ↦ rw (ne_eqb c client ne) (rows c ∙ ap (λ (b : Bool). if b then receipt_at place row ∷ rows_of c (place + 1) log else rows_of c (place + 1) log) (taken_other row c (λ s. ne (sym s))))
      ])
      (λ c p op le. follow c p op (omega (arith, le)) ∙ elim (cases_eq c client) [
        | inl e ↦ subst (λ (n : ℕ). left_at p op (left_of op (part_of n before)) (journals n) ≡ left_at p op (left_of op (part_of n (pushed turn before))) (left n)) (sym e) (rw (eq-eqb client client refl) (turn_past row row.landed place p op log es before refl (rows client) le))
        | inr ne ↦ rw (ne_eqb c client ne) (ap (λ (rs : List (JournalRow T)). left_at p op (left_of op rs) (journals c)) (sym (turn_else row row.landed c es before (λ s. ne (sym s)))))
      ])
      known.1)

  pub merged_merges : (log : List LogRow) (ds : List (AuditedDiary T)) → HaveDifferentClients ds → HasDiaries log ds → HaveRows log ds → WereLeft 0 log ds → Merges log ds (merged log ds)
  merged_merges log ds different there rows landings =
      let own : (c : ℕ) → receipts_in (journal_of ds c) ≡ rows_of c 0 log = λ c. elim (decides ds c) [
        | inl has ↦ own_rows log ds c rows has
        | inr none ↦ ap receipts_in (no_journal ds c none) ∙ sym (no_rows 0 log ds c there none)
      ] in
      let w = weaves ds 0 log (journal_of ds) different (record { rows = own; none = λ c none. no_journal ds c none }) in
      let lands = all_land [] (merged log ds) tt (lands_from ds 0 log (journal_of ds) [] own (λ c p op le. refl) landings) in
      record { parts = w.parts; receipts = w.receipts; landings = subst (λ (m : Merged T). AllCanLand m) (pushed_reverse (merged log ds) [] ∙ append-nil (reverse (merged log ds))) lands }
