-- Where a client stops.
use Rattle.std.proofs.Common.{◌≡◌, ℕ, List, [], ◌∷◌, ◌++◌, Option, None, Some, refl, sym, ap, subst, ◌∙◌, append_assoc, append-nil}
use Rattle.txn_store.specs.declared.request.Request.{Request}
use Rattle.txn_store.specs.declared.request.Reply.{Reply}
use Rattle.txn_history.specs.Seen.{Store}
use Rattle.txn_history.specs.declared.event.Answer.{Answer}
use Rattle.txn_client_journals.specs.declared.rows.Act.{Act}
use Rattle.txn_client_journals.specs.declared.rows.Act.TheVariants as acts
use Rattle.txn_client_journals.specs.declared.rows.JournalRow.{JournalRow}
use Rattle.txn_client_journals.specs.declared.rows.Step.{Step}
use Rattle.txn_client_journals.specs.declared.rows.Step.TheVariants as steps
use Rattle.txn_diary.specs.Keepers.{KeeperState, keeper_asked, DoesAll}
use Rattle.txn_diary.specs.Reading.{op_of}
use Rattle.txnobj.specs.declared.clients.stop.Stop.{Stop}
use Rattle.txnobj.specs.declared.clients.stop.Stop.TheVariants as stops
use Rattle.txnobj.specs.clients.Noted.{Noted, Asked}
use Rattle.txnobj.specs.clients.Happenings.{Happening, Handed, act_happens, answer_happens, row_happens, happens_from, Happens, HappensAll, HappensUntil}
use Rattle.txnobj.specs.clients.Calling.{IsLookOrCall, IsActOf, IsStoreCall}
use Rattle.txnobj.specs.clients.Working.{IsUnrecorded, IsOneOrNone, CutsStep, CutsAsked}
use Rattle.txnobj.proofs.clients.Adding.{happens_more}
use Rattle.txnobj.proofs.clients.Calling.{act_op}

module _ {T R S : Type 0} (hands : R → Noted T → R → Type 0) (serves : S → Request → Reply → S → Type 0) where
  -- the recorder failed at the first of these
  pub until_failed : (stop : Stop) (note : Noted T) (rest : List (Happening T)) (recorder recorder' : R) (store store' : S) → IsUnrecorded stop → store' ≡ store → HappensUntil hands serves stop (Handed note ∷ rest) recorder store recorder' store'
  until_failed (stops.Unrecorded error) note rest recorder recorder' store store' is same = record { done = []; rest = Handed note ∷ rest; all_are = refl; between = recorder; happened = (refl, same); stopped = tt }
  until_failed stops.NoMemory note rest recorder recorder' store store' is same = absurd is
  until_failed (stops.Refused fault) note rest recorder recorder' store store' is same = absurd is
  until_failed stops.StepsSpent note rest recorder recorder' store store' is same = absurd is
  until_failed stops.Ended note rest recorder recorder' store store' is same = absurd is

  -- memory was wanting before any of these
  pub until_lacks : (all : List (Happening T)) (recorder recorder' : R) (store store' : S) → recorder' ≡ recorder → store' ≡ store → HappensUntil hands serves stops.NoMemory all recorder store recorder' store'
  until_lacks all recorder recorder' store store' same_recorder same_store = record { done = []; rest = all; all_are = refl; between = recorder; happened = (refl, same_store); stopped = same_recorder }

  -- others came before
  pub until_more : (stop : Stop) (xs ys : List (Happening T)) (a b c : R) (p q r : S) → HappensAll hands serves a p xs b q → HappensUntil hands serves stop ys b q c r → HappensUntil hands serves stop (xs ++ ys) a p c r
  until_more stop xs ys a b c p q r first until = record {
    done = xs ++ until.done;
    rest = until.rest;
    all_are = ap (λ (all : List (Happening T)). xs ++ all) until.all_are ∙ sym (append_assoc xs until.done until.rest);
    between = until.between;
    happened = happens_more hands serves a b until.between p q r xs until.done first until.happened;
    stopped = until.stopped;
  }

module _ {T : Type 0} where
  happens_one : (such : Act → Type 0) (op begun : ℕ) (row : JournalRow T) → IsActOf op such row.step → happens_from begun (row ∷ []) ≡ row_happens op row
  happens_one such op begun row acts = append-nil (row_happens (op_of begun row.step) row) ∙ ap (λ o. row_happens o row) (act_op such begun op row.step acts)

module _ {T C E R S : Type 0} (hands : R → Noted T → R → Type 0) (serves : S → Request → Reply → S → Type 0) (does : KeeperState T C E → Step T → Option (Answer T) → KeeperState T C E → Type 0) where
  -- memory was wanting before the operation did anything
  pub cuts_none : (such : Act → Type 0) (op begun : ℕ) (old new : KeeperState T C E) (recorder recorder' : R) (store store' : S) → new ≡ old → recorder' ≡ recorder → store' ≡ store → CutsStep hands serves does such op begun stops.NoMemory old recorder store new recorder' store'
  cuts_none such op begun old new recorder recorder' store store' same_keeper same_recorder same_store = record {
    rows = [];
    did = same_keeper;
    untold = [];
    are_untold = tt;
    acts = tt;
    until = until_lacks hands serves [] recorder recorder' store store' same_recorder same_store;
  }

  -- the client stopped after the row of the operation's act
  pub cuts_row : (such : Act → Type 0) (op begun : ℕ) (stop : Stop) (row : JournalRow T) (old new : KeeperState T C E) (recorder recorder' : R) (store store' : S) → DoesAll does old (row ∷ []) new → IsActOf op such row.step → HappensUntil hands serves stop (row_happens op row) recorder store recorder' store' → CutsStep hands serves does such op begun stop old recorder store new recorder' store'
  cuts_row such op begun stop row old new recorder recorder' store store' did acts until = record {
    rows = row ∷ [];
    did = did;
    untold = [];
    are_untold = tt;
    acts = acts;
    until = subst (λ (all : List (Happening T)). HappensUntil hands serves stop all recorder store recorder' store') (sym (happens_one such op begun row acts)) until;
  }

  -- the client stopped before what the operation asks for was handed over
  pub cuts_unasked : (op begun : ℕ) (stop : Stop) (request : Request) (old new : KeeperState T C E) (recorder recorder' : R) (store store' : S) → keeper_asked old op ≡ Some (Store request) → new ≡ old → IsUnrecorded stop → store' ≡ store → CutsStep hands serves does IsLookOrCall op begun stop old recorder store new recorder' store'
  cuts_unasked op begun stop request old new recorder recorder' store store' asks same_keeper is same_store = record {
    rows = [];
    did = same_keeper;
    untold = record { step = steps.Act op (acts.Fails request); answer = None } ∷ [];
    are_untold = (refl, subst (λ (keeper : KeeperState T C E). keeper_asked keeper op ≡ Some (Store request)) (sym same_keeper) asks);
    acts = (refl, tt);
    until = until_failed hands serves stop (Asked op request) _ recorder recorder' store store' is same_store;
  }

  -- the client stopped after the store was called, before a row tells of that
  pub cuts_untold : (op : ℕ) (act : Act) (request : Request) (called : Happening T) (stop : Stop) (rest : List (Happening T)) (old new : KeeperState T C E) (recorder recorder' : R) (store store' : S)
      → IsLookOrCall act
      → act_happens op act ≡ Handed (Asked op request) ∷ called ∷ rest
      → IsStoreCall old op (steps.Act op act)
      → new ≡ old
      → HappensUntil hands serves stop rest recorder store recorder' store'
      → CutsAsked hands serves does op request called stop old recorder store new recorder' store'
  cuts_untold op act request called stop rest old new recorder recorder' store store' is_such happens asks same_keeper until = record {
    rows = [];
    did = same_keeper;
    untold = record { step = steps.Act op act; answer = None } ∷ [];
    are_untold = subst (λ (keeper : KeeperState T C E). IsStoreCall keeper op (steps.Act op act)) (sym same_keeper) asks;
    row = record { step = steps.Act op act; answer = None };
    rows_are = refl;
    acts = (refl, is_such);
    rest = rest;
    row_is = append-nil (act_happens op act) ∙ happens;
    until = until;
  }

  -- the client stopped after the row of what came of the store call
  pub cuts_told : (op : ℕ) (act : Act) (answer : Option (Answer T)) (request : Request) (called : Happening T) (note : Noted T) (stop : Stop) (old new : KeeperState T C E) (recorder recorder' : R) (store store' : S)
      → IsLookOrCall act
      → act_happens op act ≡ Handed (Asked op request) ∷ called ∷ Handed note ∷ []
      → DoesAll does old (record { step = steps.Act op act; answer = answer } ∷ []) new
      → HappensUntil hands serves stop (Handed note ∷ answer_happens op answer) recorder store recorder' store'
      → CutsAsked hands serves does op request called stop old recorder store new recorder' store'
  cuts_told op act answer request called note stop old new recorder recorder' store store' is_such happens did until = record {
    rows = record { step = steps.Act op act; answer = answer } ∷ [];
    did = did;
    untold = [];
    are_untold = tt;
    row = record { step = steps.Act op act; answer = answer };
    rows_are = refl;
    acts = (refl, is_such);
    rest = Handed note ∷ answer_happens op answer;
    row_is = ap (λ (all : List (Happening T)). all ++ answer_happens op answer) happens;
    until = until;
  }

  -- the recorder, which was handed what came of the store call, failed at the answer
  pub cuts_heard : (op : ℕ) (act : Act) (answer : Option (Answer T)) (request : Request) (called : Happening T) (note : Noted T) (stop : Stop) (old new : KeeperState T C E) (recorder between recorder' : R) (store store' : S)
      → IsLookOrCall act
      → act_happens op act ≡ Handed (Asked op request) ∷ called ∷ Handed note ∷ []
      → DoesAll does old (record { step = steps.Act op act; answer = answer } ∷ []) new
      → hands recorder note between
      → HappensUntil hands serves stop (answer_happens op answer) between store recorder' store'
      → CutsAsked hands serves does op request called stop old recorder store new recorder' store'
  cuts_heard op act answer request called note stop old new recorder between recorder' store store' is_such happens did first until =
      cuts_told op act answer request called note stop old new recorder recorder' store store' is_such happens did
      (until_more hands serves stop (Handed note ∷ []) (answer_happens op answer) recorder between recorder' store store store' (between, store, (first, refl), (refl, refl)) until)

  -- the client stopped after it had the store called
  pub cuts_asked : (op begun : ℕ) (request : Request) (called : Happening T) (stop : Stop) (old new : KeeperState T C E) (recorder between recorder' : R) (store beneath store' : S)
      → hands recorder (Asked op request) between
      → Happens hands serves between store called between beneath
      → CutsAsked hands serves does op request called stop old between beneath new recorder' store'
      → CutsStep hands serves does IsLookOrCall op begun stop old recorder store new recorder' store'
  cuts_asked op begun request called stop old new recorder between recorder' store beneath store' asked calls cuts = record {
    rows = cuts.rows;
    did = cuts.did;
    untold = cuts.untold;
    are_untold = cuts.are_untold;
    acts = subst (λ (rows : List (JournalRow T)). IsOneOrNone IsLookOrCall op rows) (sym cuts.rows_are) cuts.acts;
    until = subst (λ (all : List (Happening T)). HappensUntil hands serves stop all recorder store recorder' store')
        (sym (ap (happens_from begun) cuts.rows_are ∙ (happens_one IsLookOrCall op begun cuts.row cuts.acts ∙ cuts.row_is)))
        (until_more hands serves stop (Handed (Asked op request) ∷ called ∷ []) cuts.rest recorder between recorder' store beneath store' (between, store, (asked, refl), (between, beneath, calls, (refl, refl))) cuts.until);
  }

  -- the client stopped after the operation's look
  pub looks_cut : (op begun : ℕ) (answer : Option (Answer T)) (stop : Stop) (old new : KeeperState T C E) (recorder recorder' : R) (store store' : S)
      → DoesAll does old (record { step = steps.Act op acts.Look; answer = answer } ∷ []) new
      → HappensUntil hands serves stop (answer_happens op answer) recorder store recorder' store'
      → CutsStep hands serves does IsLookOrCall op begun stop old recorder store new recorder' store'
  looks_cut op begun answer stop old new recorder recorder' store store' did until =
      cuts_row IsLookOrCall op begun stop (record { step = steps.Act op acts.Look; answer = answer }) old new recorder recorder' store store' did (refl, tt) until
