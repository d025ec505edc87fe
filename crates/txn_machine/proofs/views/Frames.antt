-- What one more row keeps.
use Rattle.std.proofs.Common.{◌≡◌, ◌≢◌, ℕ, ◌≤◌, max, List, [], ◌∷◌, ◌++◌, length, Bool, true, false, ◌||◌, Option, Some, None, inl, inr, refl, sym, ◌∙◌, ap, subst, arith}
use Rattle.std.specs.List.{list_any}
use Rattle.std.proofs.lemmas.Bool.{cases_lt}
use Rattle.txn_store.specs.declared.request.Request.{Request}
use Rattle.txn_history.specs.declared.event.PlainCall.{PlainCall}
use Rattle.txn_history.specs.declared.event.PlainCall.TheVariants as calls
use Rattle.txn_history.specs.declared.trace.RowOf.TheVariants.{Effect, Begun, Answered}
use Rattle.txn_history.specs.History.{created, newest, boundary, IsEntry, epoch_at}
use Rattle.txn_history.specs.Calls.{begins, ends, was_begun, before_begin, view_used}
use Rattle.txn_history.specs.Facts.{base_on, Entered}
use Rattle.txn_history.proofs.Lists.{any_false}
use Rattle.txn_history.proofs.Rows.{row_op, newest_grows}
use Rattle.txn_history.proofs.More.{entered_back, IsCall-more, begun_kept, epoch_kept, begins_other, ends_other}
use Rattle.txn_history.proofs.Entries.{entry_more}
use Rattle.txn_history.specs.declared.event.ViewCall.TheVariants as view_calls
use Rattle.txn_history.specs.declared.event.Call.{Call}
use Rattle.txn_history.specs.declared.event.Call.TheVariants as any
use Rattle.txn_history.specs.declared.event.Answer.TheVariants as answers
use Rattle.txn_history.specs.Trace.{Row}
use Rattle.txn_history.specs.Views.{or_else, id_shown, epoch_shown, epoch_held, view_count, View, ViewFits}
use Rattle.txn_history.specs.OneHistory.{base_now, base_by, WritesOn}
use Rattle.txn_history.proofs.Holders.{told_in, last_more, first_more}
use Rattle.txn_machine.specs.views.Layer.{Used, Inner, Starts, Writes, Reads, Acts, Operation, Asked}
use Rattle.txn_machine.proofs.views.History.{front_before, front_all}
use Rattle.txn_machine.proofs.views.Stands.{NeverBelow, Uses, Fresh, Quiet, IsUnseen, shown_by, MayWrite, WriteStands, AttemptStands, Attempts, OwnFenced, InnerStands, OpStands, AskedStand, ViewAt}

held_same : (a b : Option ℕ) → b ≡ None → a ≡ or_else a b
held_same None b e = sym e
held_same (Some x) b e = refl

held_first : (a b : Option ℕ) (n : ℕ) → a ≡ Some n → or_else a b ≡ Some n
held_first a b n e = rw e refl

module _ {T : Type 0} where
  pub begun_more : (rows : List (Row T)) (row : Row T) (op : ℕ) → was_begun rows op ≡ true → was_begun (rows ++ row ∷ []) op ≡ true
  begun_more rows row op h = begun_kept rows (row ∷ []) op h

  pub held_more : (rows : List (Row T)) (row : Row T) (number epoch : ℕ) → epoch_held rows number ≡ Some epoch → epoch_held (rows ++ row ∷ []) number ≡ Some epoch
  held_more rows row number epoch h = first_more (epoch_shown number) rows row ∙ held_first (epoch_held rows number) (told_in (epoch_shown number) row) epoch h

  -- the rows before a begin stay
  pub before_more : (op : ℕ) (rows : List (Row T)) (row : Row T) → was_begun rows op ≡ true → before_begin op (rows ++ row ∷ []) ≡ before_begin op rows
  before_more op [] row h = cc
  before_more op (r ∷ rows) row h = by (begins op r) refl h (λ later. before_more op rows row later)
    where
      by : (b : Bool) → begins op r ≡ b → (b || list_any (begins op) rows) ≡ true → (was_begun rows op ≡ true → before_begin op (rows ++ row ∷ []) ≡ before_begin op rows) → before_begin op (r ∷ rows ++ row ∷ []) ≡ before_begin op (r ∷ rows)
      by true is h rest = rw is refl
      by false is h rest = rw is (ap (λ (rs : List (Row T)). r ∷ rs) (rest h))

  base_more : (rows : List (Row T)) (row : Row T) (op : ℕ) (call : Call T) (base : Option ℕ) → was_begun rows op ≡ true → base_by rows op call ≡ base → base_by (rows ++ row ∷ []) op call ≡ base
  base_more rows row op call base begun h = ap (λ (rs : List (Row T)). base_now rs call) (before_more op rows row begun) ∙ h

  pub never_more : (rows : List (Row T)) (row : Row T) (op id : ℕ) → id ≤ newest rows → NeverBelow rows op id → NeverBelow (rows ++ row ∷ []) op id
  never_more rows row op id known h place within begun =
      elim (cases_lt (length rows) place) [
        | inl late ↦
            let up = newest_grows rows row in
            subst (λ (front : List (Row T)). id ≤ newest front) (sym (front_all rows row place late)) (omega (arith, known, up))
        | inr le ↦
            let same = front_before rows row place le in
            subst (λ (front : List (Row T)). id ≤ newest front) (sym same) (h place le (subst (λ (front : List (Row T)). was_begun front op ≡ true) same begun))
      ]

  -- the row creates nothing for this operation
  abbrev pub NotBy : Row T → ℕ → Type 0
  NotBy row op = (request : Request) (n : ℕ) (bytes : List ℕ) → row ≡ Effect op request → created request ≡ Some (n, bytes) → ⊥

  pub other_row : (row : Row T) (op : ℕ) → row_op row ≢ op → NotBy row op
  other_row row op ne request n bytes e creates = ne (ap row_op e)

  pub fresh_more : (rows : List (Row T)) (row : Row T) (op : ℕ) → row_op row ≢ op → Fresh rows op → Fresh (rows ++ row ∷ []) op
  fresh_more rows row op ne f = record { begun = any_false (begins op) rows row f.begun (begins_other op row ne); running = any_false (ends op) rows row f.running (ends_other op row ne) }

  -- how many views there are
  abbrev shown_in : Row T → ℕ
  shown_in (Answered op answer) = shown_by answer
  shown_in (Effect op request) = 0
  shown_in (Begun op call) = 0

  pub count_more : (rows : List (Row T)) (row : Row T) → view_count (rows ++ row ∷ []) ≡ max (view_count rows) (shown_in row)
  count_more [] (Answered op (answers.View shown id value)) = omega arith
  count_more [] (Answered op (answers.Held shown id value epoch)) = refl
  count_more [] (Answered op (answers.Plain answer)) = refl
  count_more [] (Effect op request) = refl
  count_more [] (Begun op call) = refl
  count_more (Answered op (answers.View shown id value) ∷ rows) row = (let rest = count_more rows row in omega (arith, rest))
  count_more (Answered op (answers.Held shown id value epoch) ∷ rows) row = count_more rows row
  count_more (Answered op (answers.Plain answer) ∷ rows) row = count_more rows row
  count_more (Effect op request ∷ rows) row = count_more rows row
  count_more (Begun op call ∷ rows) row = count_more rows row

  -- a row that says nothing of a view leaves it unseen
  pub unseen_more : (rows : List (Row T)) (row : Row T) (number : ℕ) → Quiet row number → IsUnseen rows number → IsUnseen (rows ++ row ∷ []) number
  unseen_more rows row number q h = (last_more (id_shown number) None rows row ∙ rw q.0 h.0, first_more (epoch_shown number) rows row ∙ rw h.1 q.1)

  -- an operation that writes
  abbrev pub is_write : Inner T → Bool
  is_write (Writes base value epoch) = true
  is_write inner = false

  -- views are at or below the newest id
  abbrev pub AreKnown : List (Row T) → (ℕ → Option (Used T)) → Type 0
  AreKnown rows views = (number : ℕ) (used : Used T) → views number ≡ Some used → used.view.id ≤ newest rows

  uses_more : (rows : List (Row T)) (row : Row T) (views : ℕ → Option (Used T)) → AreKnown rows views → (op : ℕ) (o : Operation T) (number : Option ℕ) → Uses rows views op o number → Uses (rows ++ row ∷ []) views op o number
  uses_more rows row views k op o None h = tt
  uses_more rows row views k op o (Some number) h =
      record { used = h.used; there = h.there; busy = h.busy; client = h.client; kind = h.kind; least = never_more rows row op h.used.view.id (k number h.used h.there) h.least }

module _ {T : Type 0} (decode : List ℕ → Option T) (get_epoch : T → ℕ) (set_epoch : T → ℕ → T) where
  pub entry_kept : (rows : List (Row T)) (row : Row T) (n : ℕ) (v : T) → IsEntry decode rows n v → IsEntry decode (rows ++ row ∷ []) n v
  entry_kept rows row n v h = entry_more decode get_epoch rows row n v h

  writes_more : (rows : List (Row T)) (row : Row T) (op : ℕ) → was_begun rows op ≡ true → (call : Call T) (n : ℕ) (value : T) → WritesOn decode get_epoch set_epoch rows op call n value → WritesOn decode get_epoch set_epoch (rows ++ row ∷ []) op call n value
  writes_more rows row op begun (any.Plain call) n value h = plain call h
    where
      plain : (c : PlainCall T) → WritesOn decode get_epoch set_epoch rows op (any.Plain c) n value → WritesOn decode get_epoch set_epoch (rows ++ row ∷ []) op (any.Plain c) n value
      plain (calls.Write base v) h = h
      plain (calls.WriteUnchecked base v) h = h
      plain _ h = absurd h
  writes_more rows row op begun (any.View (view_calls.Init v)) n value h = h
  writes_more rows row op begun (any.View (view_calls.Update number v)) n value h = (base_more rows row op (any.View (view_calls.Update number v)) (base_on n) begun h.0, h.1)
  writes_more rows row op begun (any.View (view_calls.HolderUpdate number v)) n value h = (base_more rows row op (any.View (view_calls.HolderUpdate number v)) (base_on n) begun h.0, h.1)
  writes_more rows row op begun (any.View (view_calls.Claim number)) n value h = record { old = h.old; found = entry_kept rows row n h.old h.found; raised = h.raised }
  writes_more rows row op begun (any.View (view_calls.ClaimAt number at)) n value h = record { old = h.old; found = entry_kept rows row n h.old h.found; higher = h.higher; raised = h.raised }
  writes_more rows row op begun (any.View view_calls.Load) n value h = absurd h
  writes_more rows row op begun (any.View (view_calls.Refresh number)) n value h = absurd h
  writes_more rows row op begun (any.View (view_calls.HolderRefresh number)) n value h = absurd h

  epoch_more : (rows : List (Row T)) (row : Row T) (base epoch : ℕ) → base ≤ newest rows → epoch_at decode get_epoch rows base ≤ epoch → epoch_at decode get_epoch (rows ++ row ∷ []) base ≤ epoch
  epoch_more rows row base epoch known le = (let same = epoch_kept decode get_epoch rows (row ∷ []) base known in omega (arith, same, le))

  may_more : (rows : List (Row T)) (row : Row T) (call : Call T) (base : ℕ) → base ≤ newest rows → MayWrite decode get_epoch set_epoch rows call base → MayWrite decode get_epoch set_epoch (rows ++ row ∷ []) call base
  may_more rows row (any.View (view_calls.HolderUpdate number v)) base known h = record { epoch = h.epoch; holder = held_more rows row number h.epoch h.holder; keeps = h.keeps; below = epoch_more rows row base h.epoch known h.below }
  may_more rows row _ base known h = tt

  pub write_more : (rows : List (Row T)) (row : Row T) (op : ℕ) (call : Call T) (base : ℕ) (value : T) → WriteStands decode get_epoch set_epoch rows op call base value → WriteStands decode get_epoch set_epoch (rows ++ row ∷ []) op call base value
  write_more rows row op call base value h =
      record {
        called = IsCall-more rows row op call h.called;
        begun = begun_more rows row op h.begun;
        known = (let up = newest_grows rows row in omega (arith, h.known, up));
        written = writes_more rows row op h.begun call base value h.written;
        rises = epoch_more rows row base (get_epoch value) h.known h.rises;
        may = may_more rows row call base h.known h.may;
      }

  attempt_more : (rows : List (Row T)) (row : Row T) (base : ℕ) (value : T) (epoch : ℕ) → AttemptStands decode get_epoch set_epoch rows base value epoch → AttemptStands decode get_epoch set_epoch (rows ++ row ∷ []) base value epoch
  attempt_more rows row base value epoch h = record { has = h.has; old = h.old; entry = entry_kept rows row base h.old h.entry; smaller = h.smaller }

  attempts_more : (rows : List (Row T)) (row : Row T) (call : Call T) (base : ℕ) (value : T) (epoch : ℕ) → Attempts decode get_epoch set_epoch rows call base value epoch → Attempts decode get_epoch set_epoch (rows ++ row ∷ []) call base value epoch
  attempts_more rows row (any.View (view_calls.Claim number)) base value epoch h = attempt_more rows row base value epoch h
  attempts_more rows row (any.View (view_calls.ClaimAt number at)) base value epoch h = (attempt_more rows row base value epoch h.0, h.1)
  attempts_more rows row _ base value epoch h = tt

  pub asked_more : (rows : List (Row T)) (row : Row T) (asked : List (Asked T)) → AskedStand decode get_epoch set_epoch rows asked → AskedStand decode get_epoch set_epoch (rows ++ row ∷ []) asked
  asked_more rows row [] h = tt
  asked_more rows row (write ∷ rest) h = ((h.0.0, write_more rows row write.op h.0.0 write.base write.value h.0.1), asked_more rows row rest h.1)

  -- entries of one operation, after a row that makes none for it

  pub entered_before : (rows : List (Row T)) (row : Row T) (op n : ℕ) (v : T) → NotBy row op → Entered decode (rows ++ row ∷ []) op n v → Entered decode rows op n v
  entered_before rows row op n v nb e = elim (entered_back decode rows row op n v e) [ inl old ↦ old | inr last ↦ absurd (nb last.0 n last.1 last.2 last.3) ]

  pub own_more : (rows : List (Row T)) (row : Row T) (op : ℕ) → boundary rows ≤ boundary (rows ++ row ∷ []) → NotBy row op → OwnFenced decode get_epoch set_epoch rows op → OwnFenced decode get_epoch set_epoch (rows ++ row ∷ []) op
  own_more rows row op up nb h n v e = (let old = h n v (entered_before rows row op n v nb e) in omega (arith, old, up))

  -- views

  pub view_more : (rows : List (Row T)) (row : Row T) (number : ℕ) (view : View T) → Quiet row number → ViewFits decode get_epoch rows number view → ViewFits decode get_epoch (rows ++ row ∷ []) number view
  view_more rows row number view q h =
      record {
        object = entry_kept rows row view.id view.object h.object;
        shown = h.shown;
        last = last_more (id_shown number) None rows row ∙ rw q.0 h.last;
        stands = h.stands;
        epoch = h.epoch ∙ (held_same (epoch_held rows number) (told_in (epoch_shown number) row) q.1 ∙ sym (first_more (epoch_shown number) rows row));
      }

  pub view_at_more : (rows : List (Row T)) (row : Row T) (count more number : ℕ) → count ≤ more → (used : Option (Used T)) → Quiet row number → ViewAt decode get_epoch set_epoch rows count number used → ViewAt decode get_epoch set_epoch (rows ++ row ∷ []) more number used
  view_at_more rows row count more number le None q h = tt
  view_at_more rows row count more number le (Some used) q h = (omega (arith, le, h.0), view_more rows row number used.view q h.1)

  -- operations

  inner_more : (rows : List (Row T)) (row : Row T) (op : ℕ) → boundary rows ≤ boundary (rows ++ row ∷ []) → (call : Call T) (inner : Inner T) → (is_write inner ≡ false → NotBy row op) → InnerStands decode get_epoch set_epoch rows op call inner → InnerStands decode get_epoch set_epoch (rows ++ row ∷ []) op call inner
  inner_more rows row op up call (Writes base value epoch) nb h = (write_more rows row op call base value h.0, attempts_more rows row call base value epoch h.1)
  inner_more rows row op up call Reads nb h = (h.0, own_more rows row op up (nb refl) h.1)
  inner_more rows row op up call Starts nb h = own_more rows row op up (nb refl) h
  inner_more rows row op up call Acts nb h = tt

  pub op_more : (rows : List (Row T)) (row : Row T) (views : ℕ → Option (Used T)) → boundary rows ≤ boundary (rows ++ row ∷ []) → AreKnown rows views → (op : ℕ) (o : Operation T) → ends op row ≡ false → (is_write o.inner ≡ false → NotBy row op) → OpStands decode get_epoch set_epoch rows views op o → OpStands decode get_epoch set_epoch (rows ++ row ∷ []) views op o
  op_more rows row views up k op o e nb h =
      record {
        called = IsCall-more rows row op o.call h.called;
        begun = begun_more rows row op h.begun;
        once = any_false (ends op) rows row h.once e;
        inner = inner_more rows row op up o.call o.inner nb h.inner;
        uses = uses_more rows row views k op o (view_used o.call) h.uses;
      }
