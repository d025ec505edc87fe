-- A call without a view takes a look or a reply as the operation of the machine of plain calls does.
use Rattle.std.proofs.Common.{◌≡◌, ℕ, ◌==◌, List, Bool, true, false, if◌then◌else◌, Option, Some, None, refl, sym, ap, subst}
use Rattle.txn_store.specs.declared.request.Reply.{Reply}
use Rattle.txn_steps.specs.declared.boundary.caches.Caches.{Caches}
use Rattle.txn_steps.specs.boundary.Advances.{advance_turned}
use Rattle.txn_steps.specs.boundary.Checks.{check_turned}
use Rattle.txn_steps.specs.Deletes.{delete_turned}
use Rattle.txn_steps.specs.Listings.{listing_turned}
use Rattle.txn_steps.specs.Reads.{read_turned}
use Rattle.txn_steps.specs.SeenSteps.{unchecked_turned as value_turned, seen_turned}
use Rattle.txn_steps.specs.Writes.{unchecked_started, unchecked_turned, write_started, write_turned}
use Rattle.txn_store.specs.types.Numbers.{number_of}
use Rattle.txn_history.specs.declared.event.PlainCall.{PlainCall}
use Rattle.txn_history.specs.declared.event.PlainCall.TheVariants as calls
use Rattle.txn_history.specs.declared.event.PlainAnswer.{PlainAnswer}
use Rattle.txn_history.specs.declared.event.PlainAnswer.TheVariants as plain_answers
use Rattle.txn_history.specs.Names.{world_names, world_boundary}
use Rattle.txn_machine.specs.declared.plain.doing.PlainDoing.{PlainDoing}
use Rattle.txn_machine.specs.declared.plain.doing.PlainDoing.TheVariants as doings
use Rattle.txn_machine.specs.plain.Doing as plain
use Rattle.txn_history.specs.declared.event.Call.TheVariants as any
use Rattle.txn_history.specs.Views.{View}
use Rattle.txn_machine.specs.views.Layer.{Inner}
use Rattle.txn_machine.specs.views.Parts.{plain_inner}
use Rattle.txn_machine.specs.declared.doing.Doing.TheVariants as does
use Rattle.txn_machine.specs.declared.doing.Ending.TheVariants as endings
use Rattle.txn_machine.specs.Doing.{Next, answer_in, plain_next}
use Rattle.txn_machine.specs.Doing as whole
use Rattle.txn_machine.proofs.Matched.{Answered, TurnsAs}

module _ {T : Type 0} where
  -- an answer ends it
  abbrev EndsWhere : plain.Next T → Type 0
  EndsWhere next = (answer : PlainAnswer T) → next.1 ≡ Some answer → next.0 ≡ doings.Ended

  next_ends : (doing : PlainDoing T) (found : Option (PlainAnswer T)) → EndsWhere (plain.next_of doing found)
  next_ends doing None = λ answer e. absurd (cc)
  next_ends doing (Some found) = λ answer e. refl

  lacking_ends : (refused : Bool) (next : plain.Next T) → EndsWhere next → EndsWhere (plain.or_no_memory refused next)
  lacking_ends true next h = λ answer e. refl
  lacking_ends false next h = h

  none_ends : EndsWhere (doings.Ended, None)
  none_ends = λ answer e. refl

  answer_same : (next : plain.Next T) → answer_in (plain_next next).1 ≡ next.1
  answer_same (doing, None) = refl
  answer_same (doing, Some answer) = refl

module _ {T : Type 0} (page : ℕ) (decode : List ℕ → Option T) where
  turned_ends : (refused : Bool) (doing : PlainDoing T) (caches : Caches) (reply : Option Reply) → EndsWhere (plain.turned page decode refused doing caches reply)
  turned_ends refused (doings.Write op) caches reply = let x = write_turned op caches reply in next_ends (doings.Write x.0) (plain.write_answer x.1)
  turned_ends refused (doings.WriteUnchecked op) caches reply = let x = unchecked_turned op reply in next_ends (doings.WriteUnchecked x.0) (plain.write_answer x.1)
  turned_ends refused (doings.Read op) caches reply =
      let x = read_turned world_names world_boundary page decode op caches reply in
      lacking_ends refused (plain.read_next x) (next_ends (doings.Read x.0) (plain.read_answer x.1))
  turned_ends refused (doings.ReadUnchecked op) caches reply =
      let x = value_turned decode reply in
      lacking_ends refused (plain.value_next op x) (next_ends (doings.ReadUnchecked op) (plain.value_answer x))
  turned_ends refused (doings.ReadSeen op) caches reply =
      let x = seen_turned world_names decode op caches.latest reply in
      lacking_ends refused (plain.seen_next x) (next_ends (doings.ReadSeen x.0) (plain.value_answer x.1))
  turned_ends refused (doings.ListIds op) caches reply =
      let x = listing_turned world_names page op reply in
      lacking_ends refused (plain.ids_next x) (next_ends (doings.ListIds x.0) (plain.ids_answer x.1))
  turned_ends refused (doings.Delete op) caches reply = let x = delete_turned op caches reply in next_ends (doings.Delete x.0) (plain.done_answer x.1)
  turned_ends refused (doings.Check op) caches reply = let x = check_turned op caches reply in next_ends (doings.Check x.0) (plain.done_answer x.1)
  turned_ends refused (doings.Advance op) caches reply =
      let x = advance_turned world_boundary op caches reply in
      lacking_ends refused (plain.advance_next x) (next_ends (doings.Advance x.0) (plain.done_answer x.1))
  turned_ends refused doings.Ended caches reply = none_ends

module _ {T : Type 0} (page : ℕ) (encode : T → List ℕ) (decode : List ℕ → Option T) (get_epoch : T → ℕ) (set_epoch : T → ℕ → T) where
  pub plain_answered : (call : PlainCall T) (local : Option ℕ) (inner : Inner T) → inner ≡ plain_inner get_epoch call → (next : plain.Next T) → EndsWhere next →
      Answered page encode decode get_epoch set_epoch (any.Plain call) local inner next.0 next.1 (plain_next next)
  plain_answered call local inner is (doing, None) h = (does.Plain doing, refl, (is, refl))
  plain_answered call local inner is (doing, Some answer) h = (h answer refl, ap (λ (d : PlainDoing T). (does.Plain d, Some (endings.Answers answer))) (h answer refl))

  pub plain_turns : (call : PlainCall T) (local : Option ℕ) (inner : Inner T) (doing fine : PlainDoing T) (caches : Caches) (reply : Option Reply) (refused : Bool) → inner ≡ plain_inner get_epoch call → fine ≡ doing →
      TurnsAs page encode decode get_epoch set_epoch (any.Plain call) local inner (does.Plain doing) fine caches reply (whole.turned page encode decode get_epoch set_epoch refused (does.Plain doing) caches reply)
  plain_turns call local inner doing fine caches reply refused is same =
      let after = plain.turned page decode refused doing caches reply in
      subst (λ (f : PlainDoing T). TurnsAs page encode decode get_epoch set_epoch (any.Plain call) local inner (does.Plain doing) f caches reply (whole.turned page encode decode get_epoch set_epoch refused (does.Plain doing) caches reply)) (sym same)
      (record {
        refused = refused;
        after = after;
        turns = refl;
        answered = plain_answered call local inner is after (turned_ends page decode refused doing caches reply);
        leaves = ap (plain.plain_caches_after doing caches) (answer_same after);
      })

module _ {T : Type 0} (page : ℕ) (encode : T → List ℕ) where
  begun_ends : (base : Option ℕ) (full : Bool) (doing : PlainDoing T) → EndsWhere (if◌then◌else◌ {A = plain.Next T} full (doings.Ended, Some (plain_answers.Refused 10)) (doing, None))
  begun_ends base true doing = λ answer e. refl
  begun_ends base false doing = λ answer e. absurd (cc)

  started_ends : (call : PlainCall T) → EndsWhere (plain.started page encode call)
  started_ends (calls.Write base value) = begun_ends base (number_of base == 18446744073709551615) (doings.Write (write_started world_names world_boundary base (encode value)))
  started_ends (calls.WriteUnchecked base value) = begun_ends base (number_of base == 18446744073709551615) (doings.WriteUnchecked (unchecked_started world_names base (encode value)))
  started_ends calls.Read = λ answer e. absurd (cc)
  started_ends (calls.ReadUnchecked id) = λ answer e. absurd (cc)
  started_ends (calls.ReadSeen id) = λ answer e. absurd (cc)
  started_ends (calls.ListIds from to) = λ answer e. absurd (cc)
  started_ends (calls.Delete id) = λ answer e. absurd (cc)
  started_ends (calls.Check id) = λ answer e. absurd (cc)
  started_ends (calls.Advance to) = λ answer e. absurd (cc)

module _ {T : Type 0} (page : ℕ) (encode : T → List ℕ) (decode : List ℕ → Option T) (get_epoch : T → ℕ) (set_epoch : T → ℕ → T) where
  -- a call without a view begins as an operation of plain calls does
  pub plain_start : (call : PlainCall T) (local : Option ℕ) (view : Option (View T)) (next : Next T) → next ≡ whole.started page encode get_epoch set_epoch (any.Plain call) view →
      Answered page encode decode get_epoch set_epoch (any.Plain call) local (plain_inner get_epoch call) (plain.started page encode call).0 (plain.started page encode call).1 next
  plain_start call local view next e =
      let fine = plain.started page encode call in
      subst (λ (n : Next T). Answered page encode decode get_epoch set_epoch (any.Plain call) local (plain_inner get_epoch call) fine.0 fine.1 n) (sym e)
      (plain_answered page encode decode get_epoch set_epoch call local (plain_inner get_epoch call) refl fine (started_ends page encode call))
