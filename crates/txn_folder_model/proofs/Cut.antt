-- A journal that is cut before one of its receipts: its client gives up there what it had asked for.
use Rattle.std.proofs.Common.{◌≡◌, ℕ, zero, suc, ◌≤◌, if◌then◌else◌, Bool, true, false, List, [], ◌∷◌, Option, Some, None, refl, ap, sym, subst, ◌∙◌, arith, ◌⊎◌, inl, inr}
use Rattle.std.specs.Prelude.{take, slice_get}
use Rattle.std.proofs.lemmas.Bool.{eq-eqb}
use Rattle.std.proofs.lemmas.Option.{same_Some}
use Rattle.txn_store.specs.declared.request.Request.{Request}
use Rattle.txn_history.specs.Seen.{Store}
use Rattle.txn_history.specs.GoesOn.{may_be_loose}
use Rattle.txn_history.specs.declared.event.Answer.{Answer}
use Rattle.txn_client_journals.specs.declared.rows.Receipt.{Receipt}
use Rattle.txn_client_journals.specs.declared.rows.Act.TheVariants as acts
use Rattle.txn_client_journals.specs.declared.rows.Step.{Step}
use Rattle.txn_client_journals.specs.declared.rows.Step.TheVariants as steps
use Rattle.txn_client_journals.specs.declared.rows.JournalRow.{JournalRow}
use Rattle.txn_client_journals.specs.Parts.{Part, given_up}
use Rattle.txn_client_journals.specs.Journals.{Replays, left_now, left_in, left_of}
use Rattle.txn_client_journals.specs.Verdict.{received_by, receipts_in}
use Rattle.txn_client_journals.proofs.Once.{left_once, replays_front}
use Rattle.txn_client_journals.proofs.Woven.{pushed}
use Rattle.txn_folder_model.specs.Clients.{takes_it, number_behind, left_before}
use Rattle.txn_folder_model.proofs.Placing.{Receives, Other, view}

abbrev no_receipts : List Receipt
no_receipts = []

none_taken : (number : ℕ) → no_receipts ≡ take number no_receipts
none_taken zero = refl
none_taken (suc number) = refl

none_at : (number : ℕ) (receipt : Receipt) → slice_get no_receipts number ≡ Some receipt → ⊥
none_at zero receipt e = cc
none_at (suc number) receipt e = cc

module _ {T : Type 0} where
  -- an operation that is to take a reply gives up in its place
  abbrev pub giving : Step T → Step T
  giving (steps.Act op (acts.Receive receipt)) = steps.Act op (acts.GiveUp (may_be_loose (Store receipt.request)))
  giving step = step

  abbrev row_of : Step T → Option (Answer T) → JournalRow T
  row_of step answer = record { step = step; answer = answer }

  -- the rows before the receipt of this number, and that its operation gives up
  abbrev pub cut : ℕ → List (JournalRow T) → List (JournalRow T)
  cut number [] = []
  cut number (row ∷ rows) = if takes_it number row.step then row_of (giving row.step) None ∷ [] else row ∷ cut (number_behind number row.step) rows

  abbrev op_of : Step T → ℕ
  op_of (steps.Act op act) = op
  op_of step = 0

  -- the operation that takes this receipt
  abbrev pub taker : ℕ → List (JournalRow T) → ℕ
  taker number [] = 0
  taker number (row ∷ rows) = if takes_it number row.step then op_of row.step else taker (number_behind number row.step) rows

  abbrev took : ℕ → Receipt → Step T
  took op receipt = steps.Act op (acts.Receive receipt)

  -- its receipts are the first ones

  pub cut_receipts : (number : ℕ) (rows : List (JournalRow T)) → receipts_in (cut number rows) ≡ take number (receipts_in rows)
  cut_receipts number [] = none_taken number
  cut_receipts number (row ∷ rows) = by number row.step row.answer (λ k. cut_receipts k rows) (view row.step)
    where
      took_by : (number op : ℕ) (old : Receipt) (answer : Option (Answer T)) → ((k : ℕ) → receipts_in (cut k rows) ≡ take k (receipts_in rows)) → receipts_in (if takes_it number (took op old) then row_of (giving (took op old)) None ∷ [] else row_of (took op old) answer ∷ cut (number_behind number (took op old)) rows) ≡ take number (received_by (took op old) (receipts_in rows))
      took_by zero op old answer more = refl
      took_by (suc k) op old answer more = ap (λ (l : List Receipt). old ∷ l) (more k)

      by : (number : ℕ) (step : Step T) (answer : Option (Answer T)) → ((k : ℕ) → receipts_in (cut k rows) ≡ take k (receipts_in rows)) → Receives step ⊎ Other step → receipts_in (if takes_it number step then row_of (giving step) None ∷ [] else row_of step answer ∷ cut (number_behind number step) rows) ≡ take number (received_by step (receipts_in rows))
      by number step answer more (inl (op, old, is)) = subst (λ (s : Step T). receipts_in (if takes_it number s then row_of (giving s) None ∷ [] else row_of s answer ∷ cut (number_behind number s) rows) ≡ take number (received_by s (receipts_in rows))) (sym is) (took_by number op old answer more)
      by number step answer more (inr o) = rw (o.takes number) (rw (o.behind number) (o.received (receipts_in (cut number rows)) ∙ more number ∙ ap (take number) (sym (o.received (receipts_in rows)))))

  -- what it leaves there

  -- the operation that was to take the receipt has left its request
  pub cut_leaves : (receipt : Receipt) (request : Request) (op number : ℕ) (found : Option Request) (rows : List (JournalRow T)) → may_be_loose (Store receipt.request) ≡ Some request → slice_get (receipts_in rows) number ≡ Some receipt → taker number rows ≡ op → left_before number op found (cut number rows) ≡ Some request
  cut_leaves receipt request op number found [] loose has is = absurd (none_at number receipt has)
  cut_leaves receipt request op number found (row ∷ rows) loose has is = by number found row.step row.answer (λ k f. cut_leaves receipt request op k f rows loose) (view row.step) has is
    where
      took_by : (number : ℕ) (found : Option Request) (o : ℕ) (old : Receipt) (answer : Option (Answer T)) → ((k : ℕ) (f : Option Request) → slice_get (receipts_in rows) k ≡ Some receipt → taker k rows ≡ op → left_before k op f (cut k rows) ≡ Some request) → slice_get (received_by (took o old) (receipts_in rows)) number ≡ Some receipt → (if takes_it number (took o old) then op_of (took o old) else taker (number_behind number (took o old)) rows) ≡ op →
          left_before number op found (if takes_it number (took o old) then row_of (giving (took o old)) None ∷ [] else row_of (took o old) answer ∷ cut (number_behind number (took o old)) rows) ≡ Some request
      took_by zero found o old answer more has same =
          let it : old ≡ receipt = same_Some old receipt has in
          rw (eq-eqb o op same) (ap (λ (r : Receipt). left_now true (may_be_loose (Store r.request)) found) it ∙ rw loose refl)
      took_by (suc k) found o old answer more has same = more k found has same

      by : (number : ℕ) (found : Option Request) (step : Step T) (answer : Option (Answer T)) → ((k : ℕ) (f : Option Request) → slice_get (receipts_in rows) k ≡ Some receipt → taker k rows ≡ op → left_before k op f (cut k rows) ≡ Some request) → Receives step ⊎ Other step → slice_get (received_by step (receipts_in rows)) number ≡ Some receipt → (if takes_it number step then op_of step else taker (number_behind number step) rows) ≡ op →
          left_before number op found (if takes_it number step then row_of (giving step) None ∷ [] else row_of step answer ∷ cut (number_behind number step) rows) ≡ Some request
      by number found step answer more (inl (o, old, at)) =
          subst (λ (s : Step T). slice_get (received_by s (receipts_in rows)) number ≡ Some receipt → (if takes_it number s then op_of s else taker (number_behind number s) rows) ≡ op → left_before number op found (if takes_it number s then row_of (giving s) None ∷ [] else row_of s answer ∷ cut (number_behind number s) rows) ≡ Some request) (sym at)
          (took_by number found o old answer more)
      by number found step answer more (inr o) = λ has same.
          rw (o.takes number) (rw (o.takes number) (rw (o.behind number) (more number (left_in op step found) (subst (λ (l : List Receipt). slice_get l number ≡ Some receipt) (o.received (receipts_in rows)) has)
          (sym (ap (λ (b : Bool). if b then op_of step else taker (number_behind number step) rows) (o.takes number) ∙ ap (λ (k : ℕ). taker k rows) (o.behind number)) ∙ same))))

module _ {T : Type 0} (page : ℕ) (encode : T → List ℕ) (decode : List ℕ → Option T) (get_epoch : T → ℕ) (set_epoch : T → ℕ → T) where
  abbrev Journal : ℕ → List (JournalRow T) → Part T → Type 0
  Journal client rows part = Replays page encode decode get_epoch set_epoch client rows part

  given : (client : ℕ) (step : Step T) (answer : Option (Answer T)) (rows : List (JournalRow T)) (part : Part T) → Receives step → Journal client (row_of step answer ∷ rows) part → (now : Part T) × Journal client (row_of (giving step) None ∷ rows) now
  given client step answer rows part (op, old, is) h = by (subst (λ (s : Step T). Journal client (row_of s answer ∷ rows) part) is h)
    where
      given_by : Journal client (row_of (took {T = T} op old) answer ∷ rows) part → (now : Part T) × Journal client (row_of (giving (took {T = T} op old)) None ∷ rows) now
      given_by h = let t = h.2 in (given_up h.0 op t.operation, (h.0, h.1, record { operation = t.operation; ask = Store old.request; found = t.found; asks = t.asks; leaves = refl; tells = refl; part = refl }, h.3))

      by : Journal client (row_of (took {T = T} op old) answer ∷ rows) part → (now : Part T) × Journal client (row_of (giving step) None ∷ rows) now
      by h = subst (λ (s : Step T). (now : Part T) × Journal client (row_of (giving s) None ∷ rows) now) (sym is) (given_by h)

  -- it is a journal
  pub cut_replays : (client number : ℕ) (rows base : List (JournalRow T)) (part : Part T) → Journal client (pushed rows base) part → (now : Part T) × Journal client (pushed (cut number rows) base) now
  cut_replays client number [] base part h = (part, h)
  cut_replays client number (row ∷ rows) base part h = by number (λ k. cut_replays client k rows (row ∷ base) part h) (takes_it number row.step) refl
    where
      by : (number : ℕ) → ((k : ℕ) → (now : Part T) × Journal client (pushed (cut k rows) (row ∷ base)) now) → (b : Bool) → takes_it number row.step ≡ b → (now : Part T) × Journal client (pushed (if b then row_of (giving row.step) None ∷ [] else row ∷ cut (number_behind number row.step) rows) base) now
      by number more false is = more (number_behind number row.step)
      by number more true is = let front = replays_front page encode decode get_epoch set_epoch client rows (row ∷ base) part h in given client row.step row.answer base front.0 (takes_is number row.step is (view row.step)) front.1
        where
          takes_is : (number : ℕ) (step : Step T) → takes_it number step ≡ true → Receives step ⊎ Other step → Receives step
          takes_is number step is (inl r) = r
          takes_is number step is (inr o) = absurd (let clash = sym is ∙ o.takes number in cc)

  -- what was left before that was left
  pub cut_keeps : (client j number op : ℕ) (request : Request) (rows base : List (JournalRow T)) (part : Part T) → j ≤ number → Journal client (pushed rows base) part → left_before j op (left_of op base) rows ≡ Some request → left_before j op (left_of op base) (cut number rows) ≡ Some request
  cut_keeps client j number op request [] base part low h e = e
  cut_keeps client j number op request (row ∷ rows) base part low h e = by j number row.step row.answer low front.1 (λ i k less. cut_keeps client i k op request rows (row ∷ base) part less h) (view row.step) e
    where
      front : (was : Part T) × Journal client (row ∷ base) was
      front = replays_front page encode decode get_epoch set_epoch client rows (row ∷ base) part h

      took_by : (j number o : ℕ) (old : Receipt) (answer : Option (Answer T)) (was : Part T) → j ≤ number → Journal client (row_of (took {T = T} o old) answer ∷ base) was → ((i k : ℕ) → i ≤ k → left_before i op (left_of op base) rows ≡ Some request → left_before i op (left_of op base) (cut k rows) ≡ Some request) →
          left_before j op (left_of op base) (row_of (took {T = T} o old) answer ∷ rows) ≡ Some request → left_before j op (left_of op base) (if takes_it number (took {T = T} o old) then row_of (giving (took {T = T} o old)) None ∷ [] else row_of (took {T = T} o old) answer ∷ cut (number_behind number (took {T = T} o old)) rows) ≡ Some request
      took_by zero zero o old answer was low h more e =
          let next = given client (took {T = T} o old) answer base was (o, old, refl) h in
          left_once page encode decode get_epoch set_epoch client (row_of (giving (took {T = T} o old)) None) base next.0 op request next.1 e
      took_by zero (suc k) o old answer was low h more e = e
      took_by (suc i) zero o old answer was low h more e = absurd (omega (arith, low))
      took_by (suc i) (suc k) o old answer was low h more e = more i k (omega (arith, low)) e

      by : (j number : ℕ) (step : Step T) (answer : Option (Answer T)) → j ≤ number → Journal client (row_of step answer ∷ base) front.0 → ((i k : ℕ) → i ≤ k → left_before i op (left_in op step (left_of op base)) rows ≡ Some request → left_before i op (left_in op step (left_of op base)) (cut k rows) ≡ Some request) → Receives step ⊎ Other step →
          left_before j op (left_of op base) (row_of step answer ∷ rows) ≡ Some request → left_before j op (left_of op base) (if takes_it number step then row_of (giving step) None ∷ [] else row_of step answer ∷ cut (number_behind number step) rows) ≡ Some request
      by j number step answer low h more (inl (o, old, at)) e =
          let same : left_in op (took {T = T} o old) (left_of op base) ≡ left_of op base = refl in
          subst (λ (s : Step T). left_before j op (left_of op base) (if takes_it number s then row_of (giving s) None ∷ [] else row_of s answer ∷ cut (number_behind number s) rows) ≡ Some request) (sym at)
          (took_by j number o old answer front.0 low (subst (λ (s : Step T). Journal client (row_of s answer ∷ base) front.0) at h)
          (subst (λ (s : Step T). (i k : ℕ) → i ≤ k → left_before i op (left_in op s (left_of op base)) rows ≡ Some request → left_before i op (left_in op s (left_of op base)) (cut k rows) ≡ Some request) at more)
          (subst (λ (s : Step T). left_before j op (left_of op base) (row_of s answer ∷ rows) ≡ Some request) at e))
      by j number step answer low h more (inr o) e =
          let was : left_before j op (left_in op step (left_of op base)) rows ≡ Some request = sym (ap (λ (b : Bool). if b then left_of op base else left_before (number_behind j step) op (left_in op step (left_of op base)) rows) (o.takes j) ∙ ap (λ (i : ℕ). left_before i op (left_in op step (left_of op base)) rows) (o.behind j)) ∙ e in
          rw (o.takes number) (rw (o.takes j) (rw (o.behind j) (rw (o.behind number) (more j number low was))))
