-- Each id that a call on a view answers, puts its view at, or writes on, is one that its write or its read answered, or is where
-- its view stood when it began, or 0.
use Rattle.std.proofs.Common.{◌≡◌, ℕ, ◌==◌, ◌&&◌, ◌⊎◌, Bool, false, Option, Some, None, Result, Ok, Err, inl, inr, refl, sym, subst}
use Rattle.std.proofs.lemmas.Bool.{cases_Bool}
use Rattle.txn_store.specs.declared.types.error.TransactionalObjectError.{TransactionalObjectError}
use Rattle.txn_store.specs.types.Epochs.{claimed_epoch, epoch_tested}
use Rattle.txn_history.specs.Calls as plain_calls
use Rattle.txn_history.specs.Facts.{greatest}
use Rattle.txn_steps_views.specs.Entries.{own_epochs}
use Rattle.txn_history.specs.declared.event.ViewCall.{ViewCall}
use Rattle.txn_history.specs.declared.event.ViewCall.TheVariants as view_calls
use Rattle.txn_history.specs.declared.event.Call.{Call}
use Rattle.txn_history.specs.declared.event.Call.TheVariants as any
use Rattle.txn_history.specs.declared.event.Answer.{Answer}
use Rattle.txn_history.specs.declared.event.Answer.TheVariants as answers
use Rattle.txn_machine.specs.views.Layer.{Used, Inner, Starts, Writes, Reads, Acts, Change, Keeps, Puts, Makes, Closes, Next, Goes, Ends, Opens}
use Rattle.txn_machine.specs.views.Parts.{Inside, Wrote, Found, Nothing, Refused, is_claim_call, refusing, entered, denied, missed, written, viewed, tested, with_local, claimed, attempted, found, taken, started_on, started, OrLacking}

module _ {T : Type 0} (P : ℕ → Type 0) where
  abbrev pub AnswerOnly : Answer T → Type 0
  AnswerOnly (answers.View number id value) = P id
  AnswerOnly (answers.Held number id value epoch) = P id
  AnswerOnly (answers.Plain answer) = (test : ℕ → Bool) → plain_calls.plain_tells_id test answer ≡ false

  abbrev pub ChangeOnly : Change T → Type 0
  ChangeOnly Keeps = Unit {0}
  ChangeOnly (Puts id value) = P id
  ChangeOnly (Makes id value epoch) = P id
  ChangeOnly Closes = Unit {0}

  abbrev pub NextOnly : Next T → Type 0
  NextOnly (Goes (Writes base value epoch)) = (base ≡ 0) ⊎ P base
  NextOnly (Goes Reads) = Unit {0}
  NextOnly (Goes Starts) = Unit {0}
  NextOnly (Goes Acts) = Unit {0}
  NextOnly (Ends answer change) = AnswerOnly answer × ChangeOnly change
  NextOnly (Opens id value) = P id

  refusing_only : (call : Call T) (number : ℕ) → NextOnly (refusing call number)
  refusing_only (any.Plain call) number = ((λ test. refl), tt)
  refusing_only (any.View (view_calls.Init value)) number = ((λ test. refl), tt)
  refusing_only (any.View view_calls.Load) number = ((λ test. refl), tt)
  refusing_only (any.View (view_calls.Refresh view)) number = ((λ test. refl), tt)
  refusing_only (any.View (view_calls.Update view value)) number = ((λ test. refl), tt)
  refusing_only (any.View (view_calls.Claim view)) number = ((λ test. refl), tt)
  refusing_only (any.View (view_calls.ClaimAt view epoch)) number = ((λ test. refl), tt)
  refusing_only (any.View (view_calls.HolderRefresh view)) number = ((λ test. refl), tt)
  refusing_only (any.View (view_calls.HolderUpdate view value)) number = ((λ test. refl), tt)

  entered_only : (call : ViewCall T) (id : ℕ) (value : T) (epoch : ℕ) → P id → NextOnly (entered (any.View call) id value epoch)
  entered_only (view_calls.Init v) id value epoch h = h
  entered_only view_calls.Load id value epoch h = refusing_only (any.View view_calls.Load) 7
  entered_only (view_calls.Refresh view) id value epoch h = refusing_only (any.View (view_calls.Refresh view)) 7
  entered_only (view_calls.Update view v) id value epoch h = (h, h)
  entered_only (view_calls.Claim view) id value epoch h = (h, h)
  entered_only (view_calls.ClaimAt view at) id value epoch h = (h, h)
  entered_only (view_calls.HolderRefresh view) id value epoch h = refusing_only (any.View (view_calls.HolderRefresh view)) 7
  entered_only (view_calls.HolderUpdate view v) id value epoch h = (h, h)

  denied_only : (call : Call T) (number : ℕ) → NextOnly (denied call number)
  denied_only call number = elim (cases_Bool (is_claim_call call && (number == 5))) [ inl e ↦ rw e tt | inr e ↦ rw e (refusing_only call number) ]

  missed_only : (call : ViewCall T) → NextOnly (missed (any.View call))
  missed_only (view_calls.Init value) = refusing_only (any.View (view_calls.Init value)) 7
  missed_only view_calls.Load = ((λ test. refl), tt)
  missed_only (view_calls.Refresh view) = refusing_only (any.View (view_calls.Refresh view)) 7
  missed_only (view_calls.Update view value) = refusing_only (any.View (view_calls.Update view value)) 7
  missed_only (view_calls.Claim view) = refusing_only (any.View (view_calls.Claim view)) 7
  missed_only (view_calls.ClaimAt view epoch) = refusing_only (any.View (view_calls.ClaimAt view epoch)) 7
  missed_only (view_calls.HolderRefresh view) = refusing_only (any.View (view_calls.HolderRefresh view)) 7
  missed_only (view_calls.HolderUpdate view value) = refusing_only (any.View (view_calls.HolderUpdate view value)) 7

  written_only : (call : Call T) (id : ℕ) (value : T) (epoch : ℕ) → (id ≡ 0) ⊎ P id → NextOnly (written call id value epoch)
  written_only call id value epoch h = elim (cases_Bool (id == greatest)) [ inl e ↦ rw e (refusing_only call 10) | inr e ↦ rw e h ]

  viewed_only : (view id : ℕ) (value : T) (own : Result (Unit {0}) TransactionalObjectError) → P id → NextOnly (viewed view id value own)
  viewed_only view id value (Ok own) h = (h, h)
  viewed_only view id value (Err error) h = ((λ test. refl), h)

  tested_only : (call : Call T) (id : ℕ) (value : T) (epoch : ℕ) (own : Result (Unit {0}) ℕ) → (id ≡ 0) ⊎ P id → NextOnly (tested call id value epoch own)
  tested_only call id value epoch (Ok own) h = written_only call id value epoch h
  tested_only call id value epoch (Err number) h = refusing_only call number

  module _ (get_epoch : T → ℕ) (set_epoch : T → ℕ → T) where
    claimed_only : (call : Call T) (id : ℕ) (value : T) (epoch : Result ℕ TransactionalObjectError) → (id ≡ 0) ⊎ P id → NextOnly (claimed set_epoch call id value epoch)
    claimed_only call id value (Ok epoch) h = written_only call id (set_epoch value epoch) epoch h
    claimed_only call id value (Err error) h = refusing_only call _

    attempted_only : (call : Call T) (asked : Option ℕ) (id : ℕ) (value : T) → (id ≡ 0) ⊎ P id → NextOnly (attempted get_epoch set_epoch call asked id value)
    attempted_only call asked id value h = claimed_only call id value (claimed_epoch asked (get_epoch value)) h

    locals_only : (call : Call T) (local : Option ℕ) (next : ℕ → Next T) → ((own : ℕ) → NextOnly (next own)) → NextOnly (with_local call local next)
    locals_only call None next h = refusing_only call 7
    locals_only call (Some local) next h = h local

    found_only : (call : ViewCall T) (local : Option ℕ) (id : ℕ) (value : T) → P id → NextOnly (found get_epoch set_epoch (any.View call) local id value)
    found_only (view_calls.Init v) local id value h = refusing_only (any.View (view_calls.Init v)) 7
    found_only view_calls.Load local id value h = h
    found_only (view_calls.Refresh view) local id value h = (h, h)
    found_only (view_calls.Update view v) local id value h = refusing_only (any.View (view_calls.Update view v)) 7
    found_only (view_calls.Claim view) local id value h = attempted_only (any.View (view_calls.Claim view)) None id value (inr h)
    found_only (view_calls.ClaimAt view epoch) local id value h = attempted_only (any.View (view_calls.ClaimAt view epoch)) (Some epoch) id value (inr h)
    found_only (view_calls.HolderRefresh view) local id value h = locals_only (any.View (view_calls.HolderRefresh view)) local (λ own. viewed view id value (epoch_tested own (get_epoch value))) (λ own. viewed_only view id value (epoch_tested own (get_epoch value)) h)
    found_only (view_calls.HolderUpdate view v) local id value h = refusing_only (any.View (view_calls.HolderUpdate view v)) 7

    -- the ids that an answer of a write or a read tells
    abbrev pub InsideOnly : Inside T → Type 0
    InsideOnly (Wrote id) = P id
    InsideOnly (Found id value) = P id
    InsideOnly Nothing = Unit {0}
    InsideOnly (Refused number) = Unit {0}

    pub taken_only : (call : ViewCall T) (local : Option ℕ) (inner : Inner T) (answer : Inside T) → InsideOnly answer → NextOnly (taken get_epoch set_epoch (any.View call) local inner answer)
    taken_only call local (Writes base value epoch) (Wrote id) h = entered_only call id value epoch h
    taken_only call local (Writes base value epoch) (Refused number) h = denied_only (any.View call) number
    taken_only call local (Writes base value epoch) (Found id v) h = refusing_only (any.View call) 7
    taken_only call local (Writes base value epoch) Nothing h = refusing_only (any.View call) 7
    taken_only call local Reads (Found id value) h = found_only call local id value h
    taken_only call local Reads Nothing h = missed_only call
    taken_only call local Reads (Refused number) h = refusing_only (any.View call) number
    taken_only call local Reads (Wrote id) h = refusing_only (any.View call) 7
    taken_only call local Starts answer h = refusing_only (any.View call) 7
    taken_only call local Acts answer h = refusing_only (any.View call) 7

    used_only : (call : ViewCall T) (used : Used T) → P used.view.id → NextOnly (started_on get_epoch set_epoch (any.View call) used.view)
    used_only (view_calls.Init value) used h = refusing_only (any.View (view_calls.Init value)) 7
    used_only view_calls.Load used h = refusing_only (any.View view_calls.Load) 7
    used_only (view_calls.Refresh number) used h = tt
    used_only (view_calls.Update number value) used h = written_only (any.View (view_calls.Update number value)) used.view.id value (get_epoch value) (inr h)
    used_only (view_calls.Claim number) used h = attempted_only (any.View (view_calls.Claim number)) None used.view.id used.view.object (inr h)
    used_only (view_calls.ClaimAt number epoch) used h = attempted_only (any.View (view_calls.ClaimAt number epoch)) (Some epoch) used.view.id used.view.object (inr h)
    used_only (view_calls.HolderRefresh number) used h = tt
    used_only (view_calls.HolderUpdate number value) used h =
        locals_only (any.View (view_calls.HolderUpdate number value)) used.view.epoch (λ local. tested (any.View (view_calls.HolderUpdate number value)) used.view.id value (get_epoch value) (own_epochs local (get_epoch used.view.object) (get_epoch value)))
        (λ local. tested_only (any.View (view_calls.HolderUpdate number value)) used.view.id value (get_epoch value) (own_epochs local (get_epoch used.view.object) (get_epoch value)) (inr h))

    none_only : (call : ViewCall T) → NextOnly (started get_epoch set_epoch (any.View call) None)
    none_only (view_calls.Init value) = inl refl
    none_only view_calls.Load = tt
    none_only (view_calls.Refresh number) = refusing_only (any.View (view_calls.Refresh number)) 7
    none_only (view_calls.Update number value) = refusing_only (any.View (view_calls.Update number value)) 7
    none_only (view_calls.Claim number) = refusing_only (any.View (view_calls.Claim number)) 7
    none_only (view_calls.ClaimAt number epoch) = refusing_only (any.View (view_calls.ClaimAt number epoch)) 7
    none_only (view_calls.HolderRefresh number) = refusing_only (any.View (view_calls.HolderRefresh number)) 7
    none_only (view_calls.HolderUpdate number value) = refusing_only (any.View (view_calls.HolderUpdate number value)) 7

    some_only : (call : ViewCall T) (used : Used T) → P used.view.id → NextOnly (started get_epoch set_epoch (any.View call) (Some used))
    some_only (view_calls.Init value) used h = inl refl
    some_only view_calls.Load used h = tt
    some_only (view_calls.Refresh number) used h = used_only (view_calls.Refresh number) used h
    some_only (view_calls.Update number value) used h = used_only (view_calls.Update number value) used h
    some_only (view_calls.Claim number) used h = used_only (view_calls.Claim number) used h
    some_only (view_calls.ClaimAt number epoch) used h = used_only (view_calls.ClaimAt number epoch) used h
    some_only (view_calls.HolderRefresh number) used h = used_only (view_calls.HolderRefresh number) used h
    some_only (view_calls.HolderUpdate number value) used h = used_only (view_calls.HolderUpdate number value) used h

    abbrev pub UsedOnly : Option (Used T) → Type 0
    UsedOnly None = Unit {0}
    UsedOnly (Some used) = P used.view.id

    pub started_only : (call : ViewCall T) (used : Option (Used T)) → UsedOnly used → NextOnly (started get_epoch set_epoch (any.View call) used)
    started_only call None h = none_only call
    started_only call (Some used) h = some_only call used h

  pub lacking_only : (call : Call T) (due next : Next T) → OrLacking call due next → NextOnly due → NextOnly next
  lacking_only call due next (inl e) h = subst NextOnly (sym e) h
  lacking_only call due next (inr e) h = subst NextOnly (sym e) (refusing_only call 9)
