-- A client that forgets something after a call.
use Rattle.std.proofs.Common.{◌≡◌, ℕ, List, [], ◌∷◌, ◌++◌, Option, Some, refl, sym, subst, ◌∙◌}
use Rattle.txn_store.specs.declared.request.Request.{Request}
use Rattle.txn_store.specs.declared.request.Reply.{Reply}
use Rattle.txn_history.specs.declared.event.EventFault.{EventFault}
use Rattle.txn_history.specs.declared.event.Call.{Call}
use Rattle.txn_history.specs.declared.event.Answer.{Answer}
use Rattle.txn_client_journals.specs.declared.rows.Step.{Step}
use Rattle.txn_client_journals.specs.declared.rows.JournalRow.{JournalRow}
use Rattle.txn_diary.specs.Keepers.{KeeperState, Does, DoesAndForgets, DoesAll, Forgets}
use Rattle.txn_diary.proofs.Diaries.{forgets_none, did_and_forgot}
use Rattle.txnobj.specs.declared.clients.stop.Stop.{Stop}
use Rattle.txnobj.specs.declared.clients.stop.Stop.TheVariants as stops
use Rattle.txnobj.specs.clients.Noted.{Noted}
use Rattle.txnobj.specs.clients.Calling.{ClientState, CutsOff, Ends, MakesCall, Stops}

module _ {T C E : Type 0} (one other : KeeperState T C E → Step T → Option (Answer T) → KeeperState T C E → Type 0) (so : (old : KeeperState T C E) (step : Step T) (answer : Option (Answer T)) (new : KeeperState T C E) → one old step answer new → other old step answer new) where
  did_so : (old new : KeeperState T C E) (rows : List (JournalRow T)) → DoesAll one old rows new → DoesAll other old rows new
  did_so old new [] did = did
  did_so old new (row ∷ rows) did = (did.0, so old row.step row.answer did.0 did.1, did_so did.0 new rows did.2)

  module _ {R S : Type 0} (hands : R → Noted T → R → Type 0) (serves : S → Request → Reply → S → Type 0) where
    makes_so : (limit : ℕ) (call : Call T) (answer : Option (Answer T)) (old new : ClientState T C E R S) → MakesCall hands serves one limit call answer old new → MakesCall hands serves other limit call answer old new
    makes_so limit call answer old new m = record { went_on = m.went_on; op = m.op; rows = m.rows; is_call = m.is_call; did = did_so old.keeper new.keeper m.rows m.did; happened = m.happened; goes_on = m.goes_on }

    cuts_so : (begun limit : ℕ) (call : Call T) (stop : Stop) (old : KeeperState T C E) (recorder : R) (store : S) (new : KeeperState T C E) (recorder' : R) (store' : S) → CutsOff hands serves one begun limit call stop old recorder store new recorder' store' → CutsOff hands serves other begun limit call stop old recorder store new recorder' store'
    cuts_so begun limit call stop old recorder store new recorder' store' c = record {
      rows = c.rows;
      did = did_so old new c.rows c.did;
      untold = c.untold;
      are_untold = c.are_untold;
      cut_off = c.cut_off;
      before = c.before;
      last = c.last;
      rows_are = c.rows_are;
      one = c.one;
      between = c.between;
      beneath = c.beneath;
      happened = c.happened;
      until = c.until;
    }

    ends_so : (limit : ℕ) (call : Call T) (stop : Stop) (old new : ClientState T C E R S) → Ends hands serves one limit call stop old new → Ends hands serves other limit call stop old new
    ends_so limit call stop old new e = record { went_on = e.went_on; cuts_off = cuts_so _ limit call stop old.keeper old.recorder old.store new.keeper new.recorder new.store e.cuts_off; ended = e.ended }

    pub stops_so : (refusal : Option EventFault) (limit : ℕ) (call : Call T) (old new : ClientState T C E R S) (stop : Stop) → Stops hands serves one refusal limit call old new stop → Stops hands serves other refusal limit call old new stop
    stops_so refusal limit call old new (stops.Refused fault) h = h
    stops_so refusal limit call old new stops.StepsSpent h = makes_so limit call _ old new h
    stops_so refusal limit call old new (stops.Unrecorded error) h = ends_so limit call (stops.Unrecorded error) old new h
    stops_so refusal limit call old new stops.NoMemory h = ends_so limit call stops.NoMemory old new h
    stops_so refusal limit call old new stops.Ended h = h

module _ {T C E : Type 0} (encoded : C → T → List ℕ) (decoded : C → List ℕ → Option T) (epoch_of : E → T → ℕ) (with_epoch : E → T → ℕ → T) where
  -- one that does a thing may forget nothing
  pub does_forgetting : (old : KeeperState T C E) (step : Step T) (answer : Option (Answer T)) (new : KeeperState T C E) → Does encoded decoded epoch_of with_epoch old step answer new → DoesAndForgets encoded decoded epoch_of with_epoch old step answer new
  does_forgetting old step answer new does = record { between = new; does = does; forgets = forgets_none new }

  module _ {R S : Type 0} (hands : R → Noted T → R → Type 0) (serves : S → Request → Reply → S → Type 0) where
    -- a client made a call, and then forgot something
    pub makes_forgetting : (limit : ℕ) (call : Call T) (answer : Option (Answer T)) (old new : ClientState T C E R S) (keeper : KeeperState T C E) → MakesCall hands serves (Does encoded decoded epoch_of with_epoch) limit call answer old new → Forgets new.keeper keeper →
        MakesCall hands serves (DoesAndForgets encoded decoded epoch_of with_epoch) limit call answer old (record new { keeper = keeper })
    makes_forgetting limit call answer old new keeper m forgets = record {
      went_on = m.went_on;
      op = m.op;
      rows = m.rows;
      is_call = m.is_call;
      did = subst (λ (rows : List (JournalRow T)). DoesAll (DoesAndForgets encoded decoded epoch_of with_epoch) old.keeper rows keeper) (sym m.is_call.rows_are)
          (did_and_forgot encoded decoded epoch_of with_epoch old.keeper new.keeper keeper m.is_call.first (m.is_call.turns ++ m.is_call.end) (subst (λ (rows : List (JournalRow T)). DoesAll (Does encoded decoded epoch_of with_epoch) old.keeper rows new.keeper) m.is_call.rows_are m.did) forgets);
      happened = m.happened;
      goes_on = m.goes_on;
    }
