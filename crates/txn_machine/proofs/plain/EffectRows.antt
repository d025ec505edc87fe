-- The row of a request that was served, where it had an effect, and the row of an answer, where one is told. So what an event adds.
use Rattle.std.proofs.Common.{◌≡◌, ◌≢◌, ℕ, List, [], ◌∷◌, ◌++◌, not, Bool, true, false, cond, is_some, Option, Some, None, Result, Ok, Err, inl, inr, refl, sym, ◌∙◌, ap, subst}
use Rattle.std.specs.FinMap.{get}
use Rattle.txn_store.specs.Paths.{Segments}
use Rattle.txn_store.specs.Store.{State as StoreState, Files, Placed, Removed, Puts, Deletes}
use Rattle.txn_store.specs.Requests.{Serves}
use Rattle.txn_store.specs.declared.store.PutMode.{PutMode}
use Rattle.txn_store.specs.declared.store.StoreError.{StoreError}
use Rattle.txn_store.specs.declared.store.StoreError.TheVariants as errors
use Rattle.txn_store.specs.declared.request.Request.{Request}
use Rattle.txn_store.specs.declared.request.Request.TheVariants as requests
use Rattle.txn_store.specs.declared.request.Reply.{Reply}
use Rattle.txn_store.specs.declared.request.Reply.TheVariants as replies
use Rattle.txn_history.specs.declared.event.ToldOf.{ToldOf}
use Rattle.txn_history.specs.declared.event.ToldOf.TheVariants as told
use Rattle.txn_history.specs.declared.trace.RowOf.{RowOf}
use Rattle.txn_history.specs.declared.trace.RowOf.TheVariants.{Answered}
use Rattle.txn_history.specs.Lists.{numbered}
use Rattle.txn_history.specs.Seen.{Store, Seen, asks_of}
use Rattle.txn_history.specs.Added.{is_empty, Tells, told_of, answer_row, answer_rows, effect_rows, IsEffectRow, AddsEffect, AddsLanding, AddsAnswer}
use Rattle.txn_machine.specs.plain.Machine.{effect_of}
use Rattle.txn_machine.proofs.plain.Stands.{AllGiven}
use Rattle.txn_machine.proofs.plain.Effects.{removed_missing}
use Rattle.txn_machine.proofs.plain.Faults.{get_kept, listed_kept, not_some, ruled_out}

module _ (C A : Type 0) where
  -- what a request that was served adds

  abbrev pub Adds : ℕ → StoreState → StoreState → Request → Reply → Type 0
  Adds op old new request reply = IsEffectRow {C = C} {A = A} op request old.files new.files (effect_rows op (effect_of old.files request reply))

  -- a token that is new is not a file's
  fresh_token : (path : Segments) (bytes : List ℕ) (token : ℕ) (old new : StoreState) → AllGiven old → Placed path bytes token old new → get old.files path ≢ Some (record { bytes = bytes; token = token })
  fresh_token path bytes token old new all placed e = placed.fresh (all path (record { bytes = bytes; token = token }) e)

  put_row : (op : ℕ) (path : Segments) (bytes : List ℕ) (mode : PutMode) (old new : StoreState) (answer : Result ℕ StoreError) → AllGiven old → Puts path bytes mode old answer new → new.failures ≡ 0 → Adds op old new (requests.Put path bytes mode) (replies.Put answer)
  put_row op path bytes mode old new (Ok token) all p honest = inr (refl, (token, p.placed.files, fresh_token path bytes token old new all p.placed))
  put_row op path bytes mode old new (Err errors.AlreadyExists) all p honest = inl (refl, p.err.1.files)
  put_row op path bytes mode old new (Err errors.NoMemory) all p honest = inl (refl, p.err.1.files)
  put_row op path bytes mode old new (Err errors.TokensExhausted) all p honest = inl (refl, p.err.2.files)
  put_row op path bytes mode old new (Err errors.Failed) all p honest = ruled_out old new honest p.err.0
  put_row op path bytes mode old new (Err errors.NotFound) all p honest = inl (refl, p.err.1.files)
  put_row op path bytes mode old new (Err errors.Precondition) all p honest = inl (refl, p.err.1.files)
  put_row op path bytes mode old new (Err errors.NotModified) all p honest = inl (refl, p.err.1.files)

  removed_row : (there : Bool) (op : ℕ) (path : Segments) (old new : StoreState) → is_some (get old.files path) ≡ there → Removed path old new → IsEffectRow {C = C} {A = A} op (requests.Delete path) old.files new.files (effect_rows op (cond there (Some (requests.Delete path)) None))
  removed_row true op path old new e gone = inr (refl, (gone.files, e))
  removed_row false op path old new e gone = inl (refl, gone.files ∙ removed_missing old.files path (not_some (get old.files path) e))

  delete_row : (op : ℕ) (path : Segments) (old new : StoreState) (answer : Result (Unit {0}) StoreError) → Deletes path old answer new → new.failures ≡ 0 → Adds op old new (requests.Delete path) (replies.Delete answer)
  delete_row op path old new (Ok done) d honest = removed_row (is_some (get old.files path)) op path old new refl d.removed
  delete_row op path old new (Err errors.NoMemory) d honest = inl (refl, d.err.1.files)
  delete_row op path old new (Err errors.Failed) d honest = ruled_out old new honest d.err.0
  delete_row op path old new (Err errors.TokensExhausted) d honest = absurd d.err
  delete_row op path old new (Err errors.NotFound) d honest = inl (refl, d.err.1.files)
  delete_row op path old new (Err errors.AlreadyExists) d honest = inl (refl, d.err.1.files)
  delete_row op path old new (Err errors.Precondition) d honest = inl (refl, d.err.1.files)
  delete_row op path old new (Err errors.NotModified) d honest = inl (refl, d.err.1.files)

  pub served_row : (op : ℕ) (old new : StoreState) (request : Request) (reply : Reply) → AllGiven old → Serves request old reply new → new.failures ≡ 0 → Adds op old new request reply
  served_row op old new (requests.Put path bytes mode) (replies.Put answer) all s honest = put_row op path bytes mode old new answer all s honest
  served_row op old new (requests.Get path known) (replies.Get answer) all s honest = inl (refl, (get_kept path known old new answer s honest).files)
  served_row op old new (requests.List prefix after limit) (replies.List answer) all s honest = inl (refl, (listed_kept prefix after limit old new answer s honest).files)
  served_row op old new (requests.Delete path) (replies.Delete answer) all s honest = delete_row op path old new answer s honest
  served_row op old new _ _ all s honest = absurd s

  pub effect_empty : (op : ℕ) (effect : Option Request) → is_some effect ≡ not (is_empty (effect_rows {C = C} {A = A} op effect))
  effect_empty op None = refl
  effect_empty op (Some request) = refl

module _ {A : Type 0} where
  pub tells_answer : (otherwise : ToldOf A) (op : ℕ) (answer : Option A) → Tells otherwise op (told_of otherwise op answer)
  tells_answer otherwise op None = inl refl
  tells_answer otherwise op (Some answer) = inr (answer, refl)

module _ {C A : Type 0} where
  -- the rows of answers

  pub went_row : (op : ℕ) (answer : Option A) → answer_rows {C = C} op answer ≡ answer_row (told_of (told.Went op) op answer)
  went_row op None = refl
  went_row op (Some answer) = refl

  pub began_row : (op : ℕ) (answer : Option A) → answer_rows {C = C} op answer ≡ answer_row (told_of (told.Began op) op answer)
  began_row op None = refl
  began_row op (Some answer) = refl

  -- what an event adds

  -- an operation is answered so, and nothing reaches the store
  pub adds_answer : (op : ℕ) (answer : A) (old new : List (RowOf C A)) (before after : Files) (said : ToldOf A) → said ≡ told.Answered op answer → new ≡ old ++ Answered op answer ∷ [] → after ≡ before → AddsAnswer op old before said new after
  adds_answer op answer old new before after said tells added files = (inr (answer, tells), added ∙ ap (λ (t : ToldOf A). old ++ answer_row t) (sym tells), files)

  -- a request is served, and this is told of its operation
  pub adds_effect : (seen : Seen) (op : ℕ) (request : Request) (reply : Reply) (store served : StoreState) (old new : List (RowOf C A)) (after : Files) (said : ToldOf A) → asks_of seen op ≡ Some (Store request) → AllGiven store → Serves request store reply served → served.failures ≡ 0 →
      after ≡ served.files → Tells (told.Went op) op said → new ≡ (old ++ effect_rows op (effect_of store.files request reply)) ++ answer_row said → AddsEffect seen op old store.files said new after
  adds_effect seen op request reply store served old new after said asked given serves honest files tells added =
      let rows : List (RowOf C A) = effect_rows op (effect_of store.files request reply) in
      record { request = request; asked = asked; rows = rows; effect = subst (λ (f : Files). IsEffectRow op request store.files f rows) (sym files) (served_row C A op store served request reply given serves honest); told = tells; added = added }

  -- a loose request is served
  pub adds_landing : (seen : Seen) (k op : ℕ) (request : Request) (reply : Reply) (store served : StoreState) (old new : List (RowOf C A)) (after : Files) (said : ToldOf A) → numbered seen.loose k ≡ Some (op, request) → AllGiven store → Serves request store reply served → served.failures ≡ 0 →
      after ≡ served.files → said ≡ told.Landed k (is_some (effect_of store.files request reply)) → new ≡ old ++ effect_rows op (effect_of store.files request reply) → AddsLanding seen k old store.files said new after
  adds_landing seen k op request reply store served old new after said loose given serves honest files tells added =
      let effect = effect_of store.files request reply in
      let rows : List (RowOf C A) = effect_rows op effect in
      record {
        op = op;
        request = request;
        loose = loose;
        rows = rows;
        effect = subst (λ (f : Files). IsEffectRow op request store.files f rows) (sym files) (served_row C A op store served request reply given serves honest);
        told = tells ∙ ap (told.Landed k) (effect_empty C A op effect);
        added = added;
      }
