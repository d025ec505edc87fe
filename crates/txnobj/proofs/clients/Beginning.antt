-- A call that begins.
use Rattle.std.proofs.Common.{◌≡◌, ◌+◌, ℕ, List, [], ◌∷◌, ◌++◌, Option, refl, sym, ap, subst, ◌∙◌, append-nil}
use Rattle.txn_history.specs.declared.event.Call.{Call}
use Rattle.txn_history.specs.declared.event.Answer.{Answer}
use Rattle.txn_client_journals.specs.declared.rows.Step.{Step}
use Rattle.txn_client_journals.specs.declared.rows.Step.TheVariants as steps
use Rattle.txn_diary.specs.Keepers.{KeeperState, DoesAll}
use Rattle.txn_store.specs.declared.request.Request.{Request}
use Rattle.txn_store.specs.declared.request.Reply.{Reply}
use Rattle.txnobj.specs.clients.Noted.{Noted, Begun}
use Rattle.txnobj.specs.clients.Happenings.{Happening, Handed, answer_happens, HappensAll, HappensUntil}
use Rattle.txnobj.specs.declared.clients.stop.Stop.{Stop}
use Rattle.txnobj.specs.clients.Working.{IsUnrecorded, BeginsWith, CutsBegin}
use Rattle.txnobj.proofs.clients.Stopping.{until_failed, until_more}

-- what happens with the answer of a call that begins
rest_of : {T : Type 0} (op begun : ℕ) (found : Option (Answer T)) → op ≡ begun + 1 → answer_happens op found ≡ answer_happens (begun + 1) found ++ []
rest_of op begun found is = ap (λ o. answer_happens o found) is ∙ sym (append-nil (answer_happens (begun + 1) found))

module _ {T C E R S : Type 0} (hands : R → Noted T → R → Type 0) (serves : S → Request → Reply → S → Type 0) (does : KeeperState T C E → Step T → Option (Answer T) → KeeperState T C E → Type 0) where
  pub begins_with : (call : Call T) (found answer : Option (Answer T)) (op : ℕ) (old new : KeeperState T C E) (recorder between recorder' : R) (store store' : S) (begun end : ℕ)
      → DoesAll does old (record { step = steps.Begin call; answer = found } ∷ []) new → op ≡ begun + 1 → hands recorder (Begun op call) between
      → HappensAll hands serves between store (answer_happens op found) recorder' store' → found ≡ answer → end ≡ begun + 1 → BeginsWith hands serves does call answer old recorder store begun new recorder' store' end
  begins_with call found answer op old new recorder between recorder' store store' begun end did op_is first second answer_is end_is = record {
    row = record { step = steps.Begin call; answer = found };
    begins = refl;
    answer_is = answer_is;
    advances = record {
      did = did;
      happened = (between, store, (subst (λ o. hands recorder (Begun o call) between) op_is first, refl), subst (λ (all : List (Happening T)). HappensAll hands serves between store all recorder' store') (rest_of op begun found op_is) second);
      begun_is = end_is;
    };
  }

  -- the client stopped before its recorder had the begin
  pub cuts_begun : (call : Call T) (found : Option (Answer T)) (stop : Stop) (old new : KeeperState T C E) (recorder recorder' : R) (store store' : S) (begun : ℕ)
      → DoesAll does old (record { step = steps.Begin call; answer = found } ∷ []) new → IsUnrecorded stop → store' ≡ store → CutsBegin hands serves does call begun stop old recorder store new recorder' store'
  cuts_begun call found stop old new recorder recorder' store store' begun did is same = record {
    row = record { step = steps.Begin call; answer = found };
    did = did;
    begins = refl;
    until = until_failed hands serves stop (Begun (begun + 1) call) (answer_happens (begun + 1) found ++ []) recorder recorder' store store' is same;
  }

  -- the recorder had the begin, and failed at the answer
  pub cuts_answered : (call : Call T) (found : Option (Answer T)) (op : ℕ) (stop : Stop) (old new : KeeperState T C E) (recorder between recorder' : R) (store store' : S) (begun : ℕ)
      → DoesAll does old (record { step = steps.Begin call; answer = found } ∷ []) new → op ≡ begun + 1 → hands recorder (Begun op call) between
      → HappensUntil hands serves stop (answer_happens op found) between store recorder' store' → CutsBegin hands serves does call begun stop old recorder store new recorder' store'
  cuts_answered call found op stop old new recorder between recorder' store store' begun did op_is first until = record {
    row = record { step = steps.Begin call; answer = found };
    did = did;
    begins = refl;
    until = until_more hands serves stop (Handed (Begun (begun + 1) call) ∷ []) (answer_happens (begun + 1) found ++ []) recorder between recorder' store store store'
        (between, store, (subst (λ o. hands recorder (Begun o call) between) op_is first, refl), (refl, refl))
        (subst (λ (all : List (Happening T)). HappensUntil hands serves stop all between store recorder' store') (rest_of op begun found op_is) until);
  }
