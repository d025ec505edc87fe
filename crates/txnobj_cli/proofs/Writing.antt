-- Updates that were written, by what their clauses say.
use Rattle.std.proofs.Common.{◌≡◌, ℕ, zero, suc, false, List, Option, Some, None, Result, Ok, Err, inl, inr}
use Rattle.txn_store.specs.declared.types.callback.CallbackFault.{CallbackFault}
use Rattle.txn_store.specs.declared.types.dirty.DirtyObject.{DirtyObject}
use Rattle.txn_store.specs.declared.types.invariant.NoInvariant.{NoInvariant}
use Rattle.txn_history.specs.declared.event.Call.{Call}
use Rattle.txn_history.specs.declared.event.ViewCall.TheVariants as view_calls
use Rattle.txn_history.specs.declared.event.Answer.{Answer}
use Rattle.txnobj.specs.declared.clients.stop.Stop.{Stop}
use Rattle.txnobj.specs.declared.answers.Viewed.{Viewed}
use Rattle.txn_script_lines.specs.declared.values.entry.Entry.{Entry}
use Rattle.txn_script_lines.specs.values.Holder.{may_write}
use Rattle.txnobj.specs.declared.error.Error.{Error}
use Rattle.txnobj.specs.declared.error.Error.TheVariants as error
use Rattle.txnobj.specs.Calls.{ViewEnds}
use Rattle.txnobj.specs.Objects.{update_of, moved_to, Updates, OfAnother, Barred, Written, Unwritten}
use Rattle.txnobj.specs.Rounds.{Rounds, AfterRounds}
use Rattle.txnobj.specs.Retrying.{Lent, Tries, Round, EndsSo, Unchanged, NotAsked, Tried, NotRefreshed, Applies}
use Rattle.txnobj_cli.specs.Calls.{Object, AsksNext}

module _ {F P : Type 0} (holds : NoInvariant → Entry → Entry → Type 0) (fails : NoInvariant → Entry → Entry → CallbackFault → Type 0) (made : P → Call Entry → Answer Entry → P → Type 0) (stopped : P → Call Entry → Stop → P → Type 0) (tells : P → Option F → Type 0) where
  -- an update that is Ok was one update of the object's view, by a candidate of the object's version
  pub written : (object object' : Object) (old new : P) (dirty : DirtyObject Entry ℕ) → Updates holds fails made stopped tells (update_of false) object old dirty (Ok tt) object' new
      → (viewed : Viewed Entry) × (dirty.id ≡ object.id) × ViewEnds made stopped tells (view_calls.Update object.view dirty.value) old (Ok viewed) new × (object' ≡ moved_to object viewed)
  written object object' old new dirty (OfAnother other err same still) = absurd cc
  written object object' old new dirty (Barred fault at tested err same still) = absurd cc
  written object object' old new dirty (Written viewed at tested ends ok moved) = (viewed, at, ends, moved)
  written object object' old new dirty (Unwritten e at tested ends err same) = absurd cc

module _ {F P : Type 0} (refreshes : Object → P → Result (Unit {0}) (Error F) → Object → P → Type 0) (updates : Object → P → DirtyObject Entry ℕ → Result (Unit {0}) (Error F) → Object → P → Type 0) (asks : Object → Result (Option (DirtyObject Entry ℕ)) CallbackFault → Type 0) (holder : Option ℕ) (payload : List ℕ) (so : (object : Object) (answer : Result (Option (DirtyObject Entry ℕ)) CallbackFault) → asks object answer → AsksNext holder payload object answer) where
  tries_so : (old new : Lent Object P) (result : Result (Unit {0}) (Error F)) → Tries asks refreshes updates old result new → Tries (AsksNext holder payload) refreshes updates old result new
  tries_so old new result tries = record { dirty = tries.dirty; asked = so old.object (Ok (Some tries.dirty)) tries.asked; update = tries.update }

  round_so : (old new : Lent Object P) → Round asks refreshes updates old new → Round (AsksNext holder payload) refreshes updates old new
  round_so old new round = record { between = round.between; conflict = tries_so old round.between (Err error.ObjectVersionExists) round.conflict; refresh = round.refresh }

  rounds_so : (count : ℕ) (start state : Lent Object P) → Rounds (Round asks refreshes updates) count start state → Rounds (Round (AsksNext holder payload) refreshes updates) count start state
  rounds_so zero start state same = same
  rounds_so (suc count) start state (last, rounds, round) = (last, rounds_so count start last rounds, round_so last state round)

  ended_so : (last new : Lent Object P) → EndsSo asks refreshes updates last (Ok tt) new → may_write holder new.object.object.epoch ≡ Ok tt → Tries (AsksNext holder payload) refreshes updates last (Ok tt) new
  ended_so last new (Unchanged asked ok same) may = absurd (so last.object (Ok None) asked (rw same at may))
  ended_so last new (NotAsked fault asked err same) may = absurd cc
  ended_so last new (Tried tries other) may = tries_so last new (Ok tt) tries
  ended_so last new (NotRefreshed e refreshed err) may = absurd cc

  -- An update that is made again and is Ok was written in the end, where its holder may write on what it is at.
  pub applied : (attempts : ℕ) (object object' : Object) (old new : P) → Applies asks refreshes updates attempts object old (Ok tt) object' new → may_write holder object'.object.epoch ≡ Ok tt
      → AfterRounds (Round (AsksNext holder payload) refreshes updates) attempts (record { object = object; protocol = old }) (λ last. Tries (AsksNext holder payload) refreshes updates last (Ok tt) (record { object = object'; protocol = new }))
  applied attempts object object' old new (inl after) may =
      record {
        count = after.count;
        fewer = after.fewer;
        last = after.last;
        rounds = rounds_so after.count (record { object = object; protocol = old }) after.last after.rounds;
        so = ended_so after.last (record { object = object'; protocol = new }) after.so may;
      }
  applied attempts object object' old new (inr (rounds, err)) may = absurd cc
