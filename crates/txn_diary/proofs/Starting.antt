-- A call that begins.
use Rattle.std.proofs.Common.{◌≡◌, ℕ, ◌+◌, List, [], ◌∷◌, ◌++◌, length, Bool, true, is_some, Option, Some, None, refl, sym, ◌∙◌, ap}
use Rattle.std.proofs.lemmas.List.{append-nil}
use Rattle.txn_history.specs.declared.event.PlainAnswer.{PlainAnswer}
use Rattle.txn_history.specs.declared.event.PlainAnswer.TheVariants as answers
use Rattle.txn_history.specs.declared.event.Call.{Call}
use Rattle.txn_history.specs.Calls.{view_used}
use Rattle.txn_history.specs.Views.{View}
use Rattle.txn_machine.specs.views.Layer.{Used}
use Rattle.txn_machine.specs.declared.doing.Doing.{Doing}
use Rattle.txn_machine.specs.declared.doing.Operation.{Operation}
use Rattle.txn_machine.specs.declared.doing.Ending.TheVariants as endings
use Rattle.txn_machine.specs.Doing.{refusal_in, started, ReadsBack, FitsWord, IsMadeSo}
use Rattle.txn_machine.specs.views.Parts.{is_claim_call}
use Rattle.txn_machine.specs.Machine.{seen_view, used_by, let_go, views_changed, views_after, views_taken, new_operation, answered}
use Rattle.txn_client_journals.specs.Parts.{Part, client_begin_fault, epoch_written}
use Rattle.txn_client_journals.specs.Journals.{BeginsCall}

module _ {T : Type 0} where
  -- an answer that is not of the view lets the view go
  pub lets_go : (views : List (Option (Used T))) (client : ℕ) (view : Option ℕ) (claims : Bool) (answer : PlainAnswer T) → views_changed views view (let_go claims) ≡ views_after views client view claims (Some (endings.Answers answer))
  lets_go views client None claims answer = sym (append-nil views)
  lets_go views client (Some number) claims answer = refl

  -- a call that is refused at once lets its view go
  pub refused_so : (views taken new : List (Option (Used T))) (count op client : ℕ) (view : Option ℕ) (claims : Bool) (call : Call T) (refusal : Option ℕ) → view ≡ view_used call → claims ≡ is_claim_call call → op ≡ count → taken ≡ views_taken views view op → new ≡ views_changed taken view (let_go claims) → is_some refusal ≡ true →
      new ≡ views_after (views_taken views (view_used call) count) client (view_used call) (is_claim_call call) (refusal_in refusal)
  refused_so views taken new count op client view claims call None v c n t e is = cc
  refused_so views taken new count op client view claims call (Some number) v c n t e is =
      e ∙ (ap (λ vs. views_changed vs view (let_go claims)) (t ∙ ap (views_taken views view) n) ∙ (ap (λ w. views_changed (views_taken views w count) w (let_go claims)) v
      ∙ (ap (λ b. views_changed (views_taken views (view_used call) count) (view_used call) (let_go b)) c ∙ lets_go (views_taken views (view_used call) count) client (view_used call) (is_claim_call call) (answers.Refused number))))

  -- the operation of a call
  pub made_so : (operations new : List (Operation T)) (client : ℕ) (view : Option ℕ) (claims : Bool) (doing : Doing T) (call : Call T) → view ≡ view_used call → claims ≡ is_claim_call call → new ≡ operations ++ record { client = client; view = view; claims = claims; doing = doing } ∷ [] → new ≡ operations ++ new_operation client call doing ∷ []
  made_so operations new client view claims doing call v c e =
      e ∙ (ap (λ w. operations ++ record { client = client; view = w; claims = claims; doing = doing } ∷ []) v ∙ ap (λ b. operations ++ record { client = client; view = view_used call; claims = b; doing = doing } ∷ []) c)

module _ {T : Type 0} (page : ℕ) (encode : T → List ℕ) (decode : List ℕ → Option T) (get_epoch : T → ℕ) (set_epoch : T → ℕ → T) where
  pub begins_so : (client : ℕ) (old : Part T) (call : Call T) (doing : Doing T) (refusal : Option ℕ) (view : Option (View T)) (operations : List (Operation T)) (views : List (Option (Used T))) (writes : List (Option ℕ)) → client_begin_fault get_epoch client old call ≡ None → ReadsBack encode decode call → FitsWord call →
      (doing, refusal_in refusal) ≡ started page encode get_epoch set_epoch call view → view ≡ seen_view (used_by old.views (view_used call)) → IsMadeSo encode decode get_epoch doing → operations ≡ old.operations ++ new_operation client call doing ∷ [] →
      views ≡ views_after (views_taken old.views (view_used call) (length old.operations + 1)) client (view_used call) (is_claim_call call) (refusal_in refusal) → writes ≡ old.writes ++ epoch_written get_epoch call ∷ [] →
      BeginsCall page encode decode get_epoch set_epoch client old call (answered (length old.views) (view_used call) (refusal_in refusal)) (record { caches = old.caches; operations = operations; views = views; writes = writes; told = old.told })
  begins_so client old call doing refusal view operations views writes permits reads word starts is made ops vs ws = record {
    permits = permits;
    reads_back = reads;
    word = word;
    next = (doing, refusal_in refusal);
    starts = starts ∙ ap (started page encode get_epoch set_epoch call) is;
    made = made;
    tells = refl;
    part = rw (ops, vs, ws) refl;
  }
