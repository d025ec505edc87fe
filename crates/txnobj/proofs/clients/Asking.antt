-- An operation that acts, and what happens with that.
use Rattle.std.proofs.Common.{◌≡◌, ℕ, List, [], ◌∷◌, ◌++◌, Bool, true, false, if◌then◌else◌, Option, Some, None, Result, Ok, Err, IfOk, OnOk, refl, sym, ap, subst, ◌∙◌, append-nil}
use Rattle.std.proofs.lemmas.Option.{same_Some}
use Rattle.txn_store.specs.declared.request.Request.{Request}
use Rattle.txn_store.specs.declared.request.Reply.{Reply}
use Rattle.txn_history.specs.Seen.{Ask, Store, Look}
use Rattle.txn_history.specs.declared.event.Answer.{Answer}
use Rattle.txn_machine.specs.declared.doing.Operation.{Operation}
use Rattle.txn_machine.specs.Doing.{asked}
use Rattle.txn_client_journals.specs.tables.Operations.{asked_of, request_of}
use Rattle.txn_client_journals.specs.declared.rows.Act.{Act}
use Rattle.txn_client_journals.specs.declared.rows.Act.TheVariants as acts
use Rattle.txn_client_journals.specs.declared.rows.Step.{Step}
use Rattle.txn_client_journals.specs.declared.rows.Step.TheVariants as steps
use Rattle.txn_diary.specs.Keepers.{KeeperState, DoesAll}
use Rattle.txn_diary.specs.Reading.{op_of, begun_by}
use Rattle.txnobj.specs.declared.clients.work.Heard.{Heard}
use Rattle.txnobj.specs.clients.Noted.{Noted, Asked}
use Rattle.txnobj.specs.clients.Happenings.{Happening, Handed, act_happens, answer_happens, row_happens, Happens, HappensAll}
use Rattle.txnobj.specs.clients.Calling.{IsLookOrCall, IsActOf}
use Rattle.txnobj.specs.clients.Working.{heard_in, TakesStep, TakesAsked}
use Rattle.txnobj.proofs.clients.Calling.{act_op}

-- one that asks the store for something
pub asks_so : (ask : Option Ask) (request : Request) → Some request ≡ request_of ask → ask ≡ Some (Store request)
asks_so None request h = cc
asks_so (Some Look) request h = cc
asks_so (Some (Store other)) request h = ap (λ r. Some (Store r)) (same_Some other request (sym h))

module _ {T : Type 0} where
  act_begun : (such : Act → Type 0) (begun op : ℕ) (step : Step T) → IsActOf op such step → begun_by begun step ≡ begun
  act_begun such begun op (steps.Begin call) h = absurd h
  act_begun such begun op (steps.Act o act) h = refl
  act_begun such begun op (steps.Killed lefts) h = absurd h

  -- the store call that failed is the one that the operation asked for
  pub fails_asked : (alive : Bool) (found : Option (Operation T)) (operation : Operation T) (request wanted : Request) → found ≡ Some operation → asked operation.doing ≡ Some (Store request) → (if alive then asked_of found else None) ≡ Some (Store wanted) → request ≡ wanted
  fails_asked true found operation request wanted is asks wants = let at : asked_of found ≡ asked operation.doing = ap asked_of is in cc
  fails_asked false found operation request wanted is asks wants = cc

module _ {T C E R S F : Type 0} (hands : R → Noted T → R → Type 0) (serves : S → Request → Reply → S → Type 0) (does : KeeperState T C E → Step T → Option (Answer T) → KeeperState T C E → Type 0) where
  -- an operation acts on what came of its store call, of which the recorder is handed this
  pub takes_asked : (result : Result (Heard T) F) (op : ℕ) (request : Request) (called : Happening T) (note : Noted T) (act : Act) (answer : Option (Answer T)) (old new : KeeperState T C E) (recorder between recorder' : R) (store store' : S) (begun begun' : ℕ)
      → IsLookOrCall act
      → act_happens op act ≡ Handed (Asked op request) ∷ called ∷ Handed note ∷ []
      → DoesAll does old (record { step = steps.Act op act; answer = answer } ∷ []) new
      → hands recorder note between
      → begun' ≡ begun
      → IfOk result (λ heard. heard ≡ heard_in answer)
      → OnOk result (HappensAll hands serves between store (answer_happens op answer) recorder' store')
      → IfOk result (λ heard. TakesAsked hands serves does op request called old recorder store begun heard new recorder' store' begun')
  takes_asked (Ok heard) op request called note act answer old new recorder between recorder' store store' begun begun' is_such happens did first begun_is heard_is rest = record {
    row = record { step = steps.Act op act; answer = answer };
    acts = (refl, is_such);
    heard_is = heard_is;
    did = did;
    rest = Handed note ∷ answer_happens op answer;
    row_is = ap (λ (all : List (Happening T)). all ++ answer_happens op answer) happens;
    happened = (between, store, (first, refl), rest);
    begun_is = begun_is;
  }
  takes_asked (Err error) op request called note act answer old new recorder between recorder' store store' begun begun' is_such happens did first begun_is heard_is rest = tt

  -- an operation acts on what came of its store call, after its request was handed over and the store was called for it
  pub asks_step : (result : Result (Heard T) F) (op : ℕ) (request : Request) (called : Happening T) (old new : KeeperState T C E) (recorder between recorder' : R) (store beneath store' : S) (begun begun' : ℕ)
      → hands recorder (Asked op request) between
      → Happens hands serves between store called between beneath
      → IfOk result (λ heard. TakesAsked hands serves does op request called old between beneath begun heard new recorder' store' begun')
      → IfOk result (λ heard. TakesStep hands serves does IsLookOrCall op old recorder store begun heard new recorder' store' begun')
  asks_step (Ok heard) op request called old new recorder between recorder' store beneath store' begun begun' asked calls takes = record {
    row = takes.row;
    acts = takes.acts;
    heard_is = takes.heard_is;
    advances = record {
      did = takes.did;
      happened = subst (λ (all : List (Happening T)). HappensAll hands serves recorder store all recorder' store')
          (sym (append-nil (row_happens (op_of begun takes.row.step) takes.row) ∙ (ap (λ at. row_happens at takes.row) (act_op IsLookOrCall begun op takes.row.step takes.acts) ∙ takes.row_is)))
          (between, store, (asked, refl), (between, beneath, calls, takes.happened));
      begun_is = takes.begun_is ∙ sym (act_begun IsLookOrCall begun op takes.row.step takes.acts);
    };
  }
  asks_step (Err error) op request called old new recorder between recorder' store beneath store' begun begun' asked calls takes = tt

  -- an operation looks, and the recorder is handed its answer, where it has one
  pub looks_so : (result : Result (Heard T) F) (op : ℕ) (answer : Option (Answer T)) (old new : KeeperState T C E) (recorder recorder' : R) (store store' : S) (begun begun' : ℕ)
      → DoesAll does old (record { step = steps.Act op acts.Look; answer = answer } ∷ []) new
      → begun' ≡ begun
      → IfOk result (λ heard. heard ≡ heard_in answer)
      → OnOk result (HappensAll hands serves recorder store (answer_happens op answer) recorder' store')
      → IfOk result (λ heard. TakesStep hands serves does IsLookOrCall op old recorder store begun heard new recorder' store' begun')
  looks_so (Ok heard) op answer old new recorder recorder' store store' begun begun' did begun_is heard_is happened = record {
    row = record { step = steps.Act op acts.Look; answer = answer };
    acts = (refl, tt);
    heard_is = heard_is;
    advances = record {
      did = did;
      happened = subst (λ (all : List (Happening T)). HappensAll hands serves recorder store all recorder' store') (sym (append-nil (answer_happens op answer))) happened;
      begun_is = begun_is;
    };
  }
  looks_so (Err error) op answer old new recorder recorder' store store' begun begun' did begun_is heard_is happened = tt
