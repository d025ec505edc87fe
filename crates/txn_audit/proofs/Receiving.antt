-- The receipts and the log's rows that are left.
use Rattle.std.proofs.Common.{◌≡◌, ℕ, suc, ◌+◌, ◌<◌, ◌≤◌, List, [], ◌∷◌, length, drop, map, get_or, if◌then◌else◌, Bool, true, refl, sym, ◌∙◌, ap, subst, arith}
use Rattle.std.proofs.Math.Seq.{drop-cons}
use Rattle.std.proofs.Math.ListN.{drop_of_length-le}
use Rattle.std.proofs.lemmas.Bool.{eq-eqb}
use Rattle.txn_client_journals.specs.declared.rows.LogRow.{LogRow}
use Rattle.txn_client_journals.specs.declared.rows.Receipt.{Receipt}
use Rattle.txn_client_journals.specs.declared.rows.JournalRow.{JournalRow}
use Rattle.txn_client_journals.specs.Verdict.{AuditedDiary, received_by, receipts_in, receipt_at, is_taken, rows_of, HaveRows, journal_of}
use Rattle.txn_audit.specs.Receipts.{IsNext}

abbrev head_or : Receipt → List Receipt → Receipt
head_or r [] = r
head_or r (x ∷ xs) = x

abbrev tail_of : List Receipt → List Receipt
tail_of [] = []
tail_of (x ∷ xs) = xs

pub same_head : (r s : Receipt) (rs ss : List Receipt) → r ∷ rs ≡ s ∷ ss → r ≡ s
same_head r s rs ss e = ap (head_or r) e

pub same_tail : (r s : Receipt) (rs ss : List Receipt) → r ∷ rs ≡ s ∷ ss → rs ≡ ss
same_tail r s rs ss e = ap tail_of e

pub not_none : (r : Receipt) (rs : List Receipt) → r ∷ rs ≡ [] → ⊥
not_none r rs e = cc

pub with_row : {T : Type 0} (rows : List (JournalRow T)) (i : ℕ) (x : JournalRow T) → i < length rows → x ≡ get_or rows i x → receipts_in (drop i rows) ≡ received_by x.step (receipts_in (drop (i + 1) rows))
with_row {T} rows i x lt is =
    let next : suc i ≡ i + 1 = omega arith in
    let one : drop i rows ≡ get_or rows i x ∷ drop (suc i) rows = drop-cons rows i x lt in
    ap (λ (rs : List (JournalRow T)). receipts_in rs) one ∙ (ap (λ (y : JournalRow T). received_by y.step (receipts_in (drop (suc i) rows))) (sym is) ∙ ap (λ n. received_by x.step (receipts_in (drop n rows))) next)

log_cons : (log : List LogRow) (at : ℕ) (row : LogRow) → at < length log → row ≡ get_or log at row → drop at log ≡ row ∷ drop (at + 1) log
log_cons log at row lt is = (let next : suc at ≡ at + 1 = omega arith in drop-cons log at row lt ∙ (ap (λ (r : LogRow). r ∷ drop (suc at) log) (sym is) ∙ ap (λ n. row ∷ drop n log) next))

pub log_row : (client : ℕ) (log : List LogRow) (at : ℕ) (row : LogRow) → at < length log → row ≡ get_or log at row → IsNext client (drop at log) → rows_of client at (drop at log) ≡ receipt_at at row ∷ rows_of client (at + 1) (drop (at + 1) log)
log_row client log at row lt is next =
    let one = log_cons log at row lt is in
    let own : is_taken client row ≡ true = subst (λ (rs : List LogRow). IsNext client rs) one next in
    ap (rows_of client at) one ∙ ap (λ (b : Bool). if b then receipt_at at row ∷ rows_of client (at + 1) (drop (at + 1) log) else rows_of client (at + 1) (drop (at + 1) log)) own

pub log_end : (client : ℕ) (log : List LogRow) (at : ℕ) → at ≡ length log → rows_of client at (drop at log) ≡ []
log_end client log at is = ap (rows_of client at) (drop_of_length-le log {i = at} (omega (arith, is)))

some_row : (client at : ℕ) (rows : List LogRow) → IsNext client rows → rows_of client at rows ≡ [] → rows ≡ []
some_row client at [] next e = refl
some_row client at (row ∷ rows) next e = absurd (not_none (receipt_at at row) (rows_of client (at + 1) rows) (sym (ap (λ (b : Bool). if b then receipt_at at row ∷ rows_of client (at + 1) rows else rows_of client (at + 1) rows) next) ∙ e))

-- where no row is left of the client, this is the log's end
pub log_over : (client : ℕ) (log : List LogRow) (at : ℕ) → at ≤ length log → IsNext client (drop at log) → rows_of client at (drop at log) ≡ [] → at ≡ length log
log_over client log at le next e =
    let none = some_row client at (drop at log) next e in
    let len : length (drop at log) ≡ 0 = ap length none in
    omega (arith, len, Rattle.std.proofs.lemmas.List.length-drop at log, le)

-- a diary more
pub with_diary : {T D : Type 0} (f : D → AuditedDiary T) (log : List LogRow) (ds : List D) (i : ℕ) (d : D) → i < length ds → d ≡ get_or ds i d → HaveRows log (map f (drop i ds)) ≡ ((receipts_in (f d).rows ≡ rows_of (f d).client 0 log) × HaveRows log (map f (drop (i + 1) ds)))
with_diary {T} {D} f log ds i d lt is =
    let next : suc i ≡ i + 1 = omega arith in
    ap (λ (xs : List D). HaveRows log (map f xs)) (drop-cons ds i d lt ∙ (ap (λ (x : D). x ∷ drop (suc i) ds) (sym is) ∙ ap (λ n. d ∷ drop n ds) next))

-- the first diary that is the client's
pub journal_here : {T D : Type 0} (f : D → AuditedDiary T) (client : ℕ) (ds : List D) (i : ℕ) (d : D) → i < length ds → d ≡ get_or ds i d → (f d).client ≡ client → journal_of (map f (drop i ds)) client ≡ (f d).rows
journal_here {T} {D} f client ds i d lt is own =
    ap (λ (xs : List D). journal_of (map f xs) client) (drop-cons ds i d lt ∙ ap (λ (x : D). x ∷ drop (suc i) ds) (sym is))
    ∙ ap (λ (b : Bool). if b then (f d).rows else journal_of (map f (drop (suc i) ds)) client) (eq-eqb (f d).client client own)
