-- What its own create leaves a write with, and what a write that asks for it owes.
use Rattle.std.proofs.Common.{◌≡◌, ℕ, ◌+◌, ◌<◌, ◌≤◌, ◌^◌, List, [], ◌∷◌, ◌++◌, length, take, true, false, Option, Some, None, Ok, Err, Result, ◌⊎◌, inl, inr, refl, sym, ◌∙◌, ap, subst, arith}
use Rattle.std.specs.FinMap.{get}
use Rattle.std.proofs.lemmas.List.{length-append, append-nil, take-append-le, take_all}
use Rattle.std.proofs.lemmas.Bool.{both_ways}
use Rattle.std.proofs.lemmas.Option.{same_Some}
use Rattle.txn_store.specs.VersionName.{version_path}
use Rattle.txn_store.specs.Store.{State as StoreState, Puts}
use Rattle.txn_store.specs.Requests.{Serves}
use Rattle.txn_store.specs.declared.store.PutMode.TheVariants.{Create}
use Rattle.txn_store.specs.declared.store.StoreError.{StoreError}
use Rattle.txn_store.specs.declared.store.StoreError.TheVariants as errors
use Rattle.txn_store.specs.declared.request.Request.{Request}
use Rattle.txn_store.specs.declared.request.Reply.{Reply}
use Rattle.txn_store.specs.declared.request.Reply.TheVariants as replies
use Rattle.txn_steps.specs.declared.boundary.caches.Cached.{Cached}
use Rattle.txn_steps.specs.declared.write.WriteUncheckedOp.TheVariants as unchecked
use Rattle.txn_steps.specs.Writes.{unchecked_turned, put_answered}
use Rattle.txn_history.specs.declared.event.PlainCall.{PlainCall}
use Rattle.txn_history.specs.declared.event.PlainAnswer.TheVariants as answers
use Rattle.txn_history.specs.Trace.{PlainRow}
use Rattle.txn_history.specs.declared.trace.RowOf.TheVariants.{Effect}
use Rattle.txn_history.specs.Names.{world_names}
use Rattle.txn_history.specs.History.{Version, created, has_id, versions_of, newest, boundary}
use Rattle.txn_history.specs.Calls.{ends as ends_row, was_begun, was_answered}
use Rattle.txn_machine.specs.plain.PlainHistory.{Appends, Recreates, AnswerFits}
use Rattle.txn_history.specs.Facts.{Created, Entered, Overtaken, NoTokens, WriteRefused}
use Rattle.txn_history.specs.Added.{effect_rows}
use Rattle.txn_history.proofs.Lists.{get_more, get_last, any_false}
use Rattle.txn_history.proofs.Apart.{created_is}
use Rattle.txn_machine.specs.plain.Machine.{effect_of}
use Rattle.txn_machine.proofs.plain.Stands.{IsKnown, Open, KnowStands, IsWriteOf, Creates, PuttingStands, CreatedStands, Only, Asks, Runs, has_effect, bytes_at, create, is_there}
use Rattle.txn_machine.proofs.plain.Turns.{UncheckedTells}
use Rattle.txn_history.proofs.More.{call_kept, begun_kept}
use Rattle.txn_machine.proofs.plain.Rows.{effect_found}
use Rattle.txn_machine.proofs.plain.Effects.{at_last, appended, recreated, create_boundary}
use Rattle.txn_machine.proofs.plain.Reaches.{create_is, recreated_known}
use Rattle.txn_machine.proofs.plain.Faults.{create_none, create_other, create_there, ruled_out}

module _ {T : Type 0} (decode : List ℕ → Option T) (get_epoch : T → ℕ) where
  -- a call runs on, whatever its request did to the store
  pub runs_kept : (rows : List (PlainRow T)) (op : ℕ) (call : PlainCall T) (effect : Option Request) → Runs decode get_epoch rows op call → Runs decode get_epoch (rows ++ effect_rows op effect) op call
  runs_kept rows op call effect r =
      record {
        called = call_kept rows (effect_rows op effect) op call r.called;
        begun = begun_kept rows (effect_rows op effect) op r.begun;
        running = unanswered effect;
      }
    where
      unanswered : (effect : Option Request) → was_answered (rows ++ effect_rows op effect) op ≡ false
      unanswered None = ap (λ (rs : List (PlainRow T)). was_answered rs op) (append-nil rows) ∙ r.running
      unanswered (Some request) = any_false (ends_row op) rows (Effect op request) r.running refl

  -- a write that asks for its create asks for what is legal
  pub putting_asks : (rows : List (PlainRow T)) (store : StoreState) (op : ℕ) (call : PlainCall T) (id : ℕ) (version : Cached) (request : Request) → Runs decode get_epoch rows op call → PuttingStands decode get_epoch rows op call id version request → Asks decode get_epoch rows store op request
  putting_asks rows store op call id version request r w =
      inl (record { base = w.base; value = w.value; version = version; call = call; called = r.called; call_is = w.call_is; asks = w.asks; creates = w.creates })

  -- after its create

  -- no effect of the operation came before it
  only_created : (rows : List (PlainRow T)) (op id : ℕ) (bytes : List ℕ) → id < 2 ^ 64 → has_effect rows op ≡ false → Only (rows ++ Effect op (create id bytes) ∷ []) op id
  only_created rows op id bytes fits none k request version e creates =
      elim (get_more rows (Effect op (create id bytes)) k (Effect op request) e) [
        | inl h ↦ absurd (both_ways _ none (effect_found rows op k request h))
        | inr h ↦
            let same : request ≡ create id bytes = cc in
            ap (λ (v : Version). v.0) (sym (same_Some (id, bytes) version (sym (created_is id bytes Create fits) ∙ (ap created (sym same) ∙ creates))))
      ]

  -- the rows before it
  front : (rows : List (PlainRow T)) (row : PlainRow T) → take (length rows) (rows ++ row ∷ []) ≡ rows
  front rows row = take-append-le (length rows) rows (row ∷ []) (omega arith) ∙ take_all (length rows) rows (omega arith)

  made : (rows : List (PlainRow T)) (op id : ℕ) (bytes : List ℕ) → id < 2 ^ 64 → was_begun rows op ≡ true → Created (rows ++ Effect op (create id bytes) ∷ []) op id
  made rows op id bytes fits begun =
      let row : PlainRow T = Effect op (create id bytes) in
      record {
        place = length rows;
        request = create id bytes;
        bytes = bytes;
        effect = get_last rows row;
        creates = created_is id bytes Create fits;
        begun = subst (λ (rs : List (PlainRow T)). was_begun rs op ≡ true) (sym (front rows row)) begun;
      }

  entered : (rows : List (PlainRow T)) (op id : ℕ) (bytes : List ℕ) (value : T) → id < 2 ^ 64 → was_begun rows op ≡ true → has_id (versions_of rows) id ≡ false → decode bytes ≡ Some value → Entered decode (rows ++ Effect op (create id bytes) ∷ []) op id value
  unfolding made
  entered rows op id bytes value fits begun lacks reads =
      let row : PlainRow T = Effect op (create id bytes) in
      record { create = made rows op id bytes fits begun; first = subst (λ (rs : List (PlainRow T)). has_id (versions_of rs) id ≡ false) (sym (front rows row)) lacks; reads = reads }

  -- its version is known, and the boundary has reached it, or it is its own entry
  record Stays (rows : List (PlainRow T)) (op : ℕ) (value : T) (version : Cached) : Type 0 where
    known : IsKnown rows version.id
    is : Open rows version.id (bytes_at (versions_of rows) version.id ≡ Some version.bytes)
    own : Open rows version.id (Entered decode rows op version.id value)

  created_stands : (rows : List (PlainRow T)) (op : ℕ) (call : PlainCall T) (id : ℕ) (version : Cached) (request : Request) → Runs decode get_epoch rows op call → (w : PuttingStands decode get_epoch rows op call id version request) →
      Stays (rows ++ Effect op (create version.id version.bytes) ∷ []) op w.value version → CreatedStands decode get_epoch (rows ++ Effect op (create version.id version.bytes) ∷ []) op call id version
  created_stands rows op call id version request r w s =
      let c = w.creates in
      record {
        base = w.base;
        value = w.value;
        call_is = w.call_is;
        id_is = w.id_is;
        next = c.next;
        carried = record { known = s.known; value = w.value; reads = c.reads; is = s.is };
        reads = c.reads;
        only = only_created rows op version.id version.bytes c.fits w.none;
        made = made rows op version.id version.bytes c.fits r.begun;
        own = s.own;
      }

module _ {T : Type 0} (decode : List ℕ → Option T) (get_epoch : T → ℕ) (failed : List ℕ) where
  stays : (rows : List (PlainRow T)) (store : StoreState) (op : ℕ) (base : Option ℕ) (value : T) (version : Cached) → KnowStands decode get_epoch failed rows store → was_begun rows op ≡ true → Creates decode get_epoch rows base value version →
      Appends decode get_epoch rows op version.id version.bytes ⊎ Recreates decode get_epoch rows op version.id version.bytes → Stays decode get_epoch (rows ++ Effect op (create version.id version.bytes) ∷ []) op value version
  stays rows store op base value version k begun c (inl a) =
      let next = a.next in
      let made = appended decode get_epoch failed rows op version.id version.bytes k.history c.fits next in
      let grown : newest (rows ++ Effect op (create version.id version.bytes) ∷ []) ≡ newest rows + 1 = ap (λ (vs : List Version). length vs) made.1 ∙ length-append (versions_of rows) ((version.id, version.bytes) ∷ []) in
      record {
        known = (omega (arith, next), omega (arith, next, grown));
        is = inr (ap (λ (vs : List Version). bytes_at vs version.id) made.1 ∙ at_last (versions_of rows) (version.id, version.bytes) version.id next);
        own = inr (entered decode get_epoch rows op version.id version.bytes value c.fits begun made.0 c.reads);
      }
  stays rows store op base value version k begun c (inr again) =
      let known = recreated_known decode get_epoch failed rows store op version.id version.bytes k again in
      let same = (recreated decode get_epoch failed rows op version.id version.bytes k.history c.fits known.0 known.1).1 in
      let count : newest (rows ++ Effect op (create version.id version.bytes) ∷ []) ≡ newest rows = ap (λ (vs : List Version). length vs) same in
      let at : boundary (rows ++ Effect op (create version.id version.bytes) ∷ []) ≡ boundary rows = create_boundary rows op version.id version.bytes Create in
      let below : version.id ≤ boundary (rows ++ Effect op (create version.id version.bytes) ∷ []) = (let low = again.below in omega (arith, low, at)) in
      record { known = (known.0, omega (arith, known.1, count)); is = inl below; own = inl below }

  -- where its create is refused

  write_refused : (rows : List (PlainRow T)) (op : ℕ) (call : PlainCall T) (base : Option ℕ) (value : T) (number : ℕ) → IsWriteOf call base value → WriteRefused decode rows op base number → AnswerFits decode get_epoch failed rows op call (answers.Refused number)
  write_refused rows op call base value number (inl is) h = subst (λ (c : PlainCall T). AnswerFits decode get_epoch failed rows op c (answers.Refused number)) (sym is) (inl h)
  write_refused rows op call base value number (inr is) h = subst (λ (c : PlainCall T). AnswerFits decode get_epoch failed rows op c (answers.Refused number)) (sym is) (inl h)

  -- another version has its name
  overtaken : (rows : List (PlainRow T)) (store : StoreState) (op : ℕ) (base : Option ℕ) (value : T) (version : Cached) → KnowStands decode get_epoch failed rows store → Creates decode get_epoch rows base value version → has_effect rows op ≡ false → is_there store.files version.id ≡ true → Overtaken decode rows op base
  overtaken rows store op base value version k c none there =
      let bound = k.files.within version.id c.fits there in
      let next = c.next in
      record { longer = omega (arith, next, bound.1); fenced = λ n v e. absurd (both_ways _ none (effect_found rows op e.create.place e.create.request e.create.effect)) }

  no_tokens : (rows : List (PlainRow T)) (store : StoreState) → KnowStands decode get_epoch failed rows store → store.left ≡ 0 → NoTokens rows
  no_tokens rows store k none = let left = k.files.left in omega (arith, left, none)

  put_turns : (rows : List (PlainRow T)) (old new : StoreState) (op : ℕ) (call : PlainCall T) (id : ℕ) (version : Cached) (request : Request) (answer : Result ℕ StoreError) → KnowStands decode get_epoch failed rows old → Runs decode get_epoch rows op call → PuttingStands decode get_epoch rows op call id version request →
      Puts (version_path world_names version.id) version.bytes Create old answer new → new.failures ≡ 0 →
      UncheckedTells decode get_epoch failed (rows ++ effect_rows op (effect_of old.files (create version.id version.bytes) (replies.Put answer))) op call id (put_answered (unchecked.Puts version request) answer)
  put_turns rows old new op call id version request (Ok token) k r w p honest =
      let missing = create_none (get old.files (version_path world_names version.id)) p.allowed in
      let put = create_is decode get_epoch failed rows old op call w.base w.value version k r.called w.call_is w.creates missing in
      created_stands decode get_epoch rows op call id version request r w (stays rows old op w.base w.value version k r.begun w.creates put)
  put_turns rows old new op call id version request (Err errors.AlreadyExists) k r w p honest =
      let there = create_there (get old.files (version_path world_names version.id)) p.err.0 in
      rw (append-nil rows) (write_refused rows op call w.base w.value 5 w.call_is (inl (refl, overtaken rows old op w.base w.value version k w.creates w.none there)))
  put_turns rows old new op call id version request (Err errors.TokensExhausted) k r w p honest =
      rw (append-nil rows) (write_refused rows op call w.base w.value 2 w.call_is (inr (inl (refl, no_tokens rows old k p.err.1))))
  put_turns rows old new op call id version request (Err errors.NoMemory) k r w p honest = inr (inr refl)
  put_turns rows old new op call id version request (Err errors.Failed) k r w p honest = ruled_out old new honest p.err.0
  put_turns rows old new op call id version request (Err errors.NotFound) k r w p honest = absurd (create_other (get old.files (version_path world_names version.id)) errors.NotFound (λ e. cc) p.err.0)
  put_turns rows old new op call id version request (Err errors.Precondition) k r w p honest = absurd (create_other (get old.files (version_path world_names version.id)) errors.Precondition (λ e. cc) p.err.0)
  put_turns rows old new op call id version request (Err errors.NotModified) k r w p honest = absurd (create_other (get old.files (version_path world_names version.id)) errors.NotModified (λ e. cc) p.err.0)

  created_turns : (rows : List (PlainRow T)) (old new : StoreState) (op : ℕ) (call : PlainCall T) (id : ℕ) (version : Cached) (request : Request) (reply : Reply) → KnowStands decode get_epoch failed rows old → Runs decode get_epoch rows op call → PuttingStands decode get_epoch rows op call id version request →
      Serves (create version.id version.bytes) old reply new → new.failures ≡ 0 →
      UncheckedTells decode get_epoch failed (rows ++ effect_rows op (effect_of old.files (create version.id version.bytes) reply)) op call id (unchecked_turned (unchecked.Puts version request) (Some reply))
  created_turns rows old new op call id version request (replies.Put answer) k r w p honest = put_turns rows old new op call id version request answer k r w p honest
  created_turns rows old new op call id version request (replies.Get answer) k r w p honest = absurd p
  created_turns rows old new op call id version request (replies.List answer) k r w p honest = absurd p
  created_turns rows old new op call id version request (replies.Delete answer) k r w p honest = absurd p

  -- what a write makes of the reply to its create
  pub put_serves : (rows : List (PlainRow T)) (old new : StoreState) (op : ℕ) (call : PlainCall T) (id : ℕ) (version : Cached) (request : Request) (reply : Reply) → KnowStands decode get_epoch failed rows old → Runs decode get_epoch rows op call → PuttingStands decode get_epoch rows op call id version request →
      Serves request old reply new → new.failures ≡ 0 →
      UncheckedTells decode get_epoch failed (rows ++ effect_rows op (effect_of old.files request reply)) op call id (unchecked_turned (unchecked.Puts version request) (Some reply))
  put_serves rows old new op call id version request reply k r w serves honest =
      subst (λ (asked : Request). Serves asked old reply new → UncheckedTells decode get_epoch failed (rows ++ effect_rows op (effect_of old.files asked reply)) op call id (unchecked_turned (unchecked.Puts version request) (Some reply))) (sym w.asks)
      (λ s. created_turns rows old new op call id version request reply k r w s honest) serves
