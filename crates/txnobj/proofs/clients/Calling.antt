-- A call that goes on.
use Rattle.std.proofs.Common.{inl, inr, arith, lit≤, All, length, ◌≡◌, ◌≤◌, ◌+◌, ℕ, List, [], ◌∷◌, ◌++◌, Option, Some, None, refl, sym, ap, subst, ◌∙◌, append_assoc, append-nil, length-append}
use Rattle.std.proofs.lemmas.List.Elements.{All-nil, All-push, All-append}
use Rattle.txn_store.specs.declared.request.Request.{Request}
use Rattle.txn_store.specs.declared.request.Reply.{Reply}
use Rattle.txn_history.specs.declared.event.Call.{Call}
use Rattle.txn_history.specs.declared.event.Answer.{Answer}
use Rattle.txn_client_journals.specs.declared.rows.JournalRow.{JournalRow}
use Rattle.txn_client_journals.specs.declared.rows.Act.{Act}
use Rattle.txn_client_journals.specs.declared.rows.Step.{Step}
use Rattle.txn_client_journals.specs.declared.rows.Step.TheVariants as steps
use Rattle.txn_diary.specs.Keepers.{KeeperState}
use Rattle.txn_diary.specs.Reading.{op_of, with_answer, answers_from}
use Rattle.txnobj.specs.declared.clients.stop.Stop.{Stop}
use Rattle.txnobj.specs.declared.clients.work.Heard.{Heard}
use Rattle.txnobj.specs.declared.clients.work.Heard.TheVariants as heards
use Rattle.txnobj.specs.clients.Noted.{Noted}
use Rattle.txnobj.specs.clients.Happenings.{happens_from, begun_with, HappensUntil}
use Rattle.txnobj.specs.clients.Calling.{IsLookOrCall, IsGiveUp, IsActOf, IsCutOff, AreUntold, CutsOff}
use Rattle.txnobj.specs.clients.Working.{heard_in, IsOneOrNone, CutsStep, CutsBegin, BeginsWith, TakesStep, CallsAs, Calls}
use Rattle.txnobj.proofs.clients.Adding.{answers_added, does_more, advances_more}

module _ {T : Type 0} where
  pub act_op : (such : Act → Type 0) (begun op : ℕ) (step : Step T) → IsActOf op such step → op_of begun step ≡ op
  act_op such begun op (steps.Begin call) h = absurd h
  act_op such begun op (steps.Act o act) h = h.0
  act_op such begun op (steps.Killed lefts) h = absurd h

  -- what an operation's act adds to the answers that were told before
  answers_more : (such : Act → Type 0) (begun op : ℕ) (told : Option (Answer T)) (rows : List (JournalRow T)) (row : JournalRow T) → answers_from begun rows ≡ [] → IsActOf op such row.step → row.answer ≡ told → answers_from begun (rows ++ row ∷ []) ≡ with_answer op told
  answers_more such begun op told rows row none acts is =
      answers_added begun rows (row ∷ []) ∙ (ap (λ (before : List (ℕ × Answer T)). before ++ answers_from (begun_with begun rows) (row ∷ [])) none ∙ (append-nil (with_answer (op_of (begun_with begun rows) row.step) row.answer) ∙ (ap (λ at. with_answer at row.answer) (act_op such (begun_with begun rows) op row.step acts) ∙ ap (with_answer op) is)))

  begun_op : (begun : ℕ) (step : Step T) (call : Call T) → step ≡ steps.Begin call → op_of begun step ≡ begun + 1
  begun_op begun step call h = ap (op_of begun) h

  pub going : (answer : Option (Answer T)) → heard_in answer ≡ heards.Goes → answer ≡ None
  going None h = refl
  going (Some answer) h = cc

  pub ended : (answer : Option (Answer T)) (told : Answer T) → heard_in answer ≡ heards.Answered told → answer ≡ Some told
  ended None told h = cc
  ended (Some answer) told h = cc

module _ {T C E R S : Type 0} (hands : R → Noted T → R → Type 0) (serves : S → Request → Reply → S → Type 0) (does : KeeperState T C E → Step T → Option (Answer T) → KeeperState T C E → Type 0) where
  -- a call that has begun
  pub calls_first : (op : ℕ) (call : Call T) (answer : Option (Answer T)) (old : KeeperState T C E) (recorder : R) (store : S) (begun : ℕ) (new : KeeperState T C E) (recorder' : R) (store' : S) (begun' : ℕ)
      → op ≡ begun + 1 → BeginsWith hands serves does call answer old recorder store begun new recorder' store' begun' → CallsAs hands serves does op 0 call answer old recorder store begun new recorder' store' begun'
  calls_first op call answer old recorder store begun new recorder' store' begun' own b = record {
    rows = b.row ∷ [];
    is_call = record {
      own = own;
      first = b.row;
      turns = [];
      rows_are = refl;
      begins = b.begins;
      acts = All-nil (λ row. IsActOf op IsLookOrCall row.step);
      taken_is = refl;
      answers_are = append-nil (with_answer (op_of begun b.row.step) b.row.answer) ∙ (ap (λ o. with_answer o b.row.answer) (begun_op begun b.row.step call b.begins) ∙ (ap (with_answer (begun + 1)) b.answer_is ∙ ap (λ o. with_answer o answer) (sym own)));
    };
    advances = b.advances;
  }

  -- a call with one look or store call more
  calls_more : (op taken : ℕ) (call : Call T) (heard : Heard T) (answer : Option (Answer T)) (a b c : KeeperState T C E) (m n o : R) (p q r : S) (i j k : ℕ)
      → CallsAs hands serves does op taken call None a m p i b n q j → (step : TakesStep hands serves does IsLookOrCall op b n q j heard c o r k) → step.row.answer ≡ answer → CallsAs hands serves does op (taken + 1) call answer a m p i c o r k
  calls_more op taken call heard answer a b c m n o p q r i j k so step is = record {
    rows = so.rows ++ step.row ∷ [];
    is_call = record {
      own = so.is_call.own;
      first = so.is_call.first;
      turns = so.is_call.turns ++ step.row ∷ [];
      rows_are = ap (λ (rows : List (JournalRow T)). rows ++ step.row ∷ []) so.is_call.rows_are;
      begins = so.is_call.begins;
      acts = All-push (λ row. IsActOf op IsLookOrCall row.step) so.is_call.turns step.row so.is_call.acts step.acts;
      taken_is = length-append so.is_call.turns (step.row ∷ []) ∙ ap (λ n. n + 1) so.is_call.taken_is;
      answers_are = answers_more IsLookOrCall i op answer so.rows step.row so.is_call.answers_are step.acts is;
    };
    advances = advances_more hands serves does a b c m n o p q r i j k so.rows (step.row ∷ []) so.advances step.advances;
  }

  pub calls_on : (op taken : ℕ) (call : Call T) (a b c : KeeperState T C E) (m n o : R) (p q r : S) (i j k : ℕ)
      → CallsAs hands serves does op taken call None a m p i b n q j → TakesStep hands serves does IsLookOrCall op b n q j heards.Goes c o r k → CallsAs hands serves does op (taken + 1) call None a m p i c o r k
  calls_on op taken call a b c m n o p q r i j k so step = calls_more op taken call heards.Goes None a b c m n o p q r i j k so step (going step.row.answer (sym step.heard_is))

  -- a call that was answered, after so many looks and store calls
  pub calls_done : (op limit taken : ℕ) (call : Call T) (told : Answer T) (old : KeeperState T C E) (recorder : R) (store : S) (begun : ℕ) (new : KeeperState T C E) (recorder' : R) (store' : S) (begun' : ℕ)
      → CallsAs hands serves does op taken call (Some told) old recorder store begun new recorder' store' begun' → taken ≤ limit → Calls hands serves does limit call (Some told) old recorder store begun new recorder' store' begun'
  calls_done op limit taken call told old recorder store begun new recorder' store' begun' so few = record {
    op = op;
    rows = so.rows;
    is_call = record {
      own = so.is_call.own;
      first = so.is_call.first;
      turns = so.is_call.turns;
      end = [];
      rows_are = so.is_call.rows_are ∙ ap (λ (rows : List (JournalRow T)). so.is_call.first ∷ rows) (sym (append-nil so.is_call.turns));
      begins = so.is_call.begins;
      acts = so.is_call.acts;
      ends = (subst (λ n. n ≤ limit) (sym so.is_call.taken_is) few, refl);
      answers_are = so.is_call.answers_are;
    };
    advances = so.advances;
  }

  -- a call that was answered by the look or the store call that it made now
  pub calls_end : (op limit taken : ℕ) (call : Call T) (told : Answer T) (a b c : KeeperState T C E) (m n o : R) (p q r : S) (i j k : ℕ)
      → CallsAs hands serves does op taken call None a m p i b n q j → TakesStep hands serves does IsLookOrCall op b n q j (heards.Answered told) c o r k → taken + 1 ≤ limit → Calls hands serves does limit call (Some told) a m p i c o r k
  calls_end op limit taken call told a b c m n o p q r i j k so step few = calls_done op limit (taken + 1) call told a m p i c o r k (calls_more op taken call (heards.Answered told) (Some told) a b c m n o p q r i j k so step (ended step.row.answer told (sym step.heard_is))) few

  -- a call that was not answered by as many looks and store calls as it may take, and is given up
  pub calls_spent : (op limit : ℕ) (call : Call T) (a b c : KeeperState T C E) (m n o : R) (p q r : S) (i j k : ℕ)
      → CallsAs hands serves does op limit call None a m p i b n q j → TakesStep hands serves does IsGiveUp op b n q j heards.Goes c o r k → Calls hands serves does limit call None a m p i c o r k
  calls_spent op limit call a b c m n o p q r i j k so step = record {
    op = op;
    rows = so.rows ++ step.row ∷ [];
    is_call = record {
      own = so.is_call.own;
      first = so.is_call.first;
      turns = so.is_call.turns;
      end = step.row ∷ [];
      rows_are = ap (λ (rows : List (JournalRow T)). rows ++ step.row ∷ []) so.is_call.rows_are;
      begins = so.is_call.begins;
      acts = so.is_call.acts;
      ends = (so.is_call.taken_is, step.row, refl, step.acts);
      answers_are = answers_more IsGiveUp i op None so.rows step.row so.is_call.answers_are step.acts (going step.row.answer (sym step.heard_is));
    };
    advances = advances_more hands serves does a b c m n o p q r i j k so.rows (step.row ∷ []) so.advances step.advances;
  }

module _ {T : Type 0} where
  -- one act or none as acts, each such a one
  few_all : (such : Act → Type 0) (op : ℕ) (rows : List (JournalRow T)) → IsOneOrNone such op rows → All (λ row. IsActOf op such row.step) rows
  few_all such op [] one = All-nil (λ row. IsActOf op such row.step)
  few_all such op (row ∷ []) one = All-push (λ row. IsActOf op such row.step) [] row (All-nil (λ row. IsActOf op such row.step)) one
  few_all such op (row ∷ next ∷ rows) one = absurd one

  few_length : (such : Act → Type 0) (op : ℕ) (rows : List (JournalRow T)) → IsOneOrNone such op rows → length rows ≤ 1
  few_length such op [] one = lit≤ tt
  few_length such op (row ∷ []) one = lit≤ tt
  few_length such op (row ∷ next ∷ rows) one = absurd one

module _ {T C E R S : Type 0} (hands : R → Noted T → R → Type 0) (serves : S → Request → Reply → S → Type 0) (does : KeeperState T C E → Step T → Option (Answer T) → KeeperState T C E → Type 0) where
  -- a call that was cut off as it began
  pub cut_first : (begun limit : ℕ) (call : Call T) (stop : Stop) (old new : KeeperState T C E) (recorder recorder' : R) (store store' : S) → CutsBegin hands serves does call begun stop old recorder store new recorder' store' → CutsOff hands serves does begun limit call stop old recorder store new recorder' store'
  cut_first begun limit call stop old new recorder recorder' store store' h = record {
    rows = h.row ∷ [];
    did = h.did;
    untold = [];
    are_untold = tt;
    cut_off = record {
      first = h.row;
      turns = [];
      end = [];
      rows_are = refl;
      begins = h.begins;
      acts = All-nil (λ row. IsActOf (begun + 1) IsLookOrCall row.step);
      few = omega arith;
      gives_up = All-nil (λ row. IsActOf (begun + 1) IsGiveUp row.step);
      spent = inl refl;
    };
    before = [];
    last = h.row ∷ [];
    rows_are = refl;
    one = lit≤ tt;
    between = recorder;
    beneath = store;
    happened = (refl, refl);
    until = h.until;
  }

  -- what was cut off of a call in its next act, by what that leaves of the call's rows
  cuts_so : (such : Act → Type 0) (op taken limit : ℕ) (call : Call T) (stop : Stop) (a b c : KeeperState T C E) (m n o : R) (p q r : S) (i j : ℕ)
      → (so : CallsAs hands serves does op taken call None a m p i b n q j) → (more : CutsStep hands serves does such op j stop b n q c o r) → IsCutOff i limit call (so.rows ++ (more.rows ++ more.untold)) → CutsOff hands serves does i limit call stop a m p c o r
  cuts_so such op taken limit call stop a b c m n o p q r i j so more cut = record {
    rows = so.rows ++ more.rows;
    did = does_more does a b c so.rows more.rows so.advances.did more.did;
    untold = more.untold;
    are_untold = subst (λ at. AreUntold c at more.untold) so.is_call.own more.are_untold;
    cut_off = subst (λ (rows : List (JournalRow T)). IsCutOff i limit call rows) (sym (append_assoc so.rows more.rows more.untold)) cut;
    before = so.rows;
    last = more.rows ++ more.untold;
    rows_are = append_assoc so.rows more.rows more.untold;
    one = few_length such op (more.rows ++ more.untold) more.acts;
    between = n;
    beneath = q;
    happened = so.advances.happened;
    until = subst (λ at. HappensUntil hands serves stop (happens_from at (more.rows ++ more.untold)) n q o r) so.advances.begun_is more.until;
  }

  -- a call that was cut off in its next look or store call
  pub cut_step : (op limit taken : ℕ) (call : Call T) (stop : Stop) (a b c : KeeperState T C E) (m n o : R) (p q r : S) (i j : ℕ)
      → CallsAs hands serves does op taken call None a m p i b n q j → CutsStep hands serves does IsLookOrCall op j stop b n q c o r → taken + 1 ≤ limit → CutsOff hands serves does i limit call stop a m p c o r
  cut_step op limit taken call stop a b c m n o p q r i j so more few =
      let so_far = so.is_call in
      let rows : List (JournalRow T) = more.rows ++ more.untold in
      let one = few_length IsLookOrCall op rows more.acts in
      let sum = length-append so_far.turns rows in
      let taken_is = so_far.taken_is in
      cuts_so IsLookOrCall op taken limit call stop a b c m n o p q r i j so more (record {
        first = so_far.first;
        turns = so_far.turns ++ rows;
        end = [];
        rows_are = ap (λ (before : List (JournalRow T)). before ++ rows) so_far.rows_are ∙ ap (λ (all : List (JournalRow T)). so_far.first ∷ all) (sym (append-nil (so_far.turns ++ rows)));
        begins = so_far.begins;
        acts = subst (λ o. All (λ row. IsActOf o IsLookOrCall row.step) (so_far.turns ++ rows)) so_far.own (All-append (λ row. IsActOf op IsLookOrCall row.step) so_far.turns rows so_far.acts (few_all IsLookOrCall op rows more.acts));
        few = omega (arith, one, sum, taken_is, few);
        gives_up = All-nil (λ row. IsActOf (i + 1) IsGiveUp row.step);
        spent = inl refl;
      })

  -- a call that was cut off as its operation was given up
  pub cut_spent : (op limit : ℕ) (call : Call T) (stop : Stop) (a b c : KeeperState T C E) (m n o : R) (p q r : S) (i j : ℕ)
      → CallsAs hands serves does op limit call None a m p i b n q j → CutsStep hands serves does IsGiveUp op j stop b n q c o r → CutsOff hands serves does i limit call stop a m p c o r
  cut_spent op limit call stop a b c m n o p q r i j so more =
      let so_far = so.is_call in
      let rows : List (JournalRow T) = more.rows ++ more.untold in
      let taken_is = so_far.taken_is in
      cuts_so IsGiveUp op limit limit call stop a b c m n o p q r i j so more (record {
        first = so_far.first;
        turns = so_far.turns;
        end = rows;
        rows_are = ap (λ (before : List (JournalRow T)). before ++ rows) so_far.rows_are;
        begins = so_far.begins;
        acts = subst (λ o. All (λ row. IsActOf o IsLookOrCall row.step) so_far.turns) so_far.own so_far.acts;
        few = omega (arith, taken_is);
        gives_up = subst (λ o. All (λ row. IsActOf o IsGiveUp row.step) rows) so_far.own (few_all IsGiveUp op rows more.acts);
        spent = inr taken_is;
      })
