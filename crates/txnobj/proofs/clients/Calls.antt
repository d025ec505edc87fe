-- A call of a client takes no more looks and store calls than it has at most.
use Rattle.std.proofs.Common.{◌≡◌, ℕ, ◌+◌, ◌≤◌, List, [], ◌∷◌, ◌++◌, length, All, Option, Some, None, refl, sym, ◌∙◌, subst, arith}
use Rattle.std.proofs.lemmas.List.Elements.{All-head, All-tail}
use Rattle.txn_store.specs.declared.request.Request.{Request}
use Rattle.txn_store.specs.declared.request.Reply.{Reply}
use Rattle.txn_steps.specs.boundary.Counts.{Budget}
use Rattle.txn_history.specs.declared.event.Call.{Call}
use Rattle.txn_history.specs.declared.event.Answer.{Answer}
use Rattle.txn_machine.specs.CallsLeft.{most_of}
use Rattle.txn_client_journals.specs.declared.rows.Act.{Act}
use Rattle.txn_client_journals.specs.declared.rows.Act.TheVariants as acts
use Rattle.txn_client_journals.specs.declared.rows.Step.{Step}
use Rattle.txn_client_journals.specs.declared.rows.Step.TheVariants as steps
use Rattle.txn_client_journals.specs.declared.rows.JournalRow.{JournalRow}
use Rattle.txn_client_journals.specs.Parts.{Part}
use Rattle.txn_diary.specs.Keepers.{KeeperState, Does, DoesAndForgets, DoesAll}
use Rattle.txnobj.specs.clients.Noted.{Noted}
use Rattle.txnobj.specs.clients.Calling.{ClientState, IsLookOrCall, IsGiveUp, IsActOf, EndsAfter, begun_in, MakesCall}
use Rattle.txnobj.specs.clients.Bounds.{act_looks, act_calls, step_looks, step_calls, looks_in, calls_in, StaysWithin}
use Rattle.txnobj.proofs.clients.Spent.{Has, Took, forget_took, look_took, reply_took, fail_took, given_up_had, begin_took}

module _ {T : Type 0} where
  -- each turn is a look or a store call
  step_is_one : (op : ℕ) (step : Step T) → IsActOf op IsLookOrCall step → step_looks step + step_calls step ≡ 1
  step_is_one op (steps.Begin call) h = absurd h
  step_is_one op (steps.Killed lefts) h = absurd h
  step_is_one op (steps.Act o acts.Look) h = refl
  step_is_one op (steps.Act o (acts.Receive receipt)) h = refl
  step_is_one op (steps.Act o (acts.Fails request)) h = refl
  step_is_one op (steps.Act o (acts.GiveUp left)) h = absurd h.1
  step_is_one op (steps.Act o acts.Lacks) h = absurd h.1

  turns_are : (op : ℕ) (turns : List (JournalRow T)) → All (λ row. IsActOf op IsLookOrCall row.step) turns → looks_in turns + calls_in turns ≡ length turns
  turns_are op [] h = refl
  turns_are op (row ∷ turns) h =
      let one = step_is_one op row.step (All-head (λ row. IsActOf op IsLookOrCall row.step) row turns h) in
      let rest = turns_are op turns (All-tail (λ row. IsActOf op IsLookOrCall row.step) row turns h) in
      omega (arith, one, rest)

module _ {T C E : Type 0} (encoded : C → T → List ℕ) (decoded : C → List ℕ → Option T) (epoch_of : E → T → ℕ) (with_epoch : E → T → ℕ → T) where
  abbrev Did : KeeperState T C E → Step T → Option (Answer T) → KeeperState T C E → Type 0
  Did = DoesAndForgets encoded decoded epoch_of with_epoch

  did_split : (xs ys : List (JournalRow T)) (a c : KeeperState T C E) → DoesAll Did a (xs ++ ys) c → (b : KeeperState T C E) × DoesAll Did a xs b × DoesAll Did b ys c
  did_split [] ys a c h = (a, refl, h)
  did_split (x ∷ xs) ys a c h = (let s = did_split xs ys h.0 c h.2 in (s.0, (h.0, h.1, s.1), s.2))

  -- the pages stay
  keeps_page : (old : KeeperState T C E) (step : Step T) (answer : Option (Answer T)) (new : KeeperState T C E) → Did old step answer new → 1 ≤ old.page → 1 ≤ new.page
  keeps_page old step answer new d room = subst (λ (page : ℕ). 1 ≤ page) (sym (d.forgets.page ∙ d.does.page)) room

  -- one act of an operation takes what it is
  act_does : (old between : KeeperState T C E) (op : ℕ) (act : Act) (answer : Option (Answer T)) (left : Budget) → 1 ≤ old.page → IsLookOrCall act → Does encoded decoded epoch_of with_epoch old (steps.Act op act) answer between → Has old.part op left → Took (act_looks act) (act_calls act) left between.part op
  act_does old between op acts.Look answer left room is d h = look_took old.page room (encoded old.codec) (decoded old.codec) (epoch_of old.epochs) (with_epoch old.epochs) old.part op answer between.part left d.follows h
  act_does old between op (acts.Receive receipt) answer left room is d h = reply_took old.page room (encoded old.codec) (decoded old.codec) (epoch_of old.epochs) (with_epoch old.epochs) old.part op receipt.request receipt.reply answer between.part left is d.follows h
  act_does old between op (acts.Fails request) answer left room is d h = fail_took old.page room (encoded old.codec) (decoded old.codec) (epoch_of old.epochs) (with_epoch old.epochs) old.part op request answer between.part left d.follows h
  act_does old between op (acts.GiveUp leaves) answer left room is d h = absurd is
  act_does old between op acts.Lacks answer left room is d h = absurd is

  step_took : (old new : KeeperState T C E) (op : ℕ) (step : Step T) (answer : Option (Answer T)) (left : Budget) → 1 ≤ old.page → IsActOf op IsLookOrCall step → Did old step answer new → Has old.part op left → Took (step_looks step) (step_calls step) left new.part op
  step_took old new op (steps.Begin call) answer left room is d h = absurd is
  step_took old new op (steps.Killed lefts) answer left room is d h = absurd is
  step_took old new op (steps.Act o act) answer left room is d h =
      let own : Has old.part o left = subst (λ (n : ℕ). Has old.part n left) (sym is.0) h in
      let took = act_does old d.between o act answer left room is.1 d.does own in
      subst (λ (n : ℕ). Took (act_looks act) (act_calls act) left new.part n) is.0 (forget_took (act_looks act) (act_calls act) left d.between.part new.part o d.forgets.remembers took)

  -- so do all the turns of a call
  turns_took : (turns : List (JournalRow T)) (old new : KeeperState T C E) (op : ℕ) (left : Budget) → 1 ≤ old.page → All (λ row. IsActOf op IsLookOrCall row.step) turns → DoesAll Did old turns new → Has old.part op left → (1 ≤ new.page) × Took (looks_in turns) (calls_in turns) left new.part op
  turns_took [] old new op left room all did h =
      let same : old ≡ new = sym did in
      (subst (λ (k : KeeperState T C E). 1 ≤ k.page) same room, record { after = left; holds = subst (λ (k : KeeperState T C E). Has k.part op left) same h; looks_left = omega arith; calls_left = omega arith })
  turns_took (row ∷ turns) old new op left room all did h =
      let one = step_took old did.0 op row.step row.answer left room (All-head (λ row. IsActOf op IsLookOrCall row.step) row turns all) did.1 h in
      let rest = turns_took turns did.0 new op one.after (keeps_page old row.step row.answer did.0 did.1 room) (All-tail (λ row. IsActOf op IsLookOrCall row.step) row turns all) did.2 one.holds in (
        rest.0,
        record {
          after = rest.1.after;
          holds = rest.1.holds;
          looks_left = (let a = one.looks_left in let b = rest.1.looks_left in omega (arith, a, b));
          calls_left = (let a = one.calls_left in let b = rest.1.calls_left in omega (arith, a, b));
        },
      )

  -- one that is given up at last had something left
  end_had : (old new : KeeperState T C E) (op : ℕ) (step : Step T) (answer : Option (Answer T)) (left : Budget) → 1 ≤ old.page → IsActOf op IsGiveUp step → Did old step answer new → Has old.part op left → 1 ≤ left.looks + left.calls
  end_had old new op (steps.Begin call) answer left room is d h = absurd is
  end_had old new op (steps.Killed lefts) answer left room is d h = absurd is
  end_had old new op (steps.Act o acts.Look) answer left room is d h = absurd is.1
  end_had old new op (steps.Act o (acts.Receive receipt)) answer left room is d h = absurd is.1
  end_had old new op (steps.Act o (acts.Fails request)) answer left room is d h = absurd is.1
  end_had old new op (steps.Act o acts.Lacks) answer left room is d h = absurd is.1
  end_had old new op (steps.Act o (acts.GiveUp leaves)) answer left room is d h =
      given_up_had old.page room (encoded old.codec) (decoded old.codec) (epoch_of old.epochs) (with_epoch old.epochs) old.part o leaves answer d.between.part left d.does.follows (subst (λ (n : ℕ). Has old.part n left) (sym is.0) h)

  first_took : (old new : KeeperState T C E) (step : Step T) (call : Call T) (answer : Option (Answer T)) (most : Budget) → 1 ≤ old.page → most_of call ≡ Some most → step ≡ steps.Begin call → Did old step answer new → Took 0 0 most new.part (begun_in old + 1)
  first_took old new step call answer most room bound is d =
      let begins : Did old (steps.Begin call) answer new = subst (λ (s : Step T). Did old s answer new) is d in
      let took = begin_took old.page room (encoded old.codec) (decoded old.codec) (epoch_of old.epochs) (with_epoch old.epochs) old.client old.part call answer begins.between.part most bound begins.does.follows in
      forget_took 0 0 most begins.between.part new.part (begun_in old + 1) begins.forgets.remembers took

  -- a call that was given up took less than it has at most
  spent : (turns : List (JournalRow T)) (old new : KeeperState T C E) (op : ℕ) (left : Budget) (last : JournalRow T) → 1 ≤ old.page → All (λ row. IsActOf op IsLookOrCall row.step) turns → Took (looks_in turns) (calls_in turns) left old.part op → IsActOf op IsGiveUp last.step → DoesAll Did old (last ∷ []) new → length turns + 1 ≤ left.looks + left.calls
  spent turns old new op left last room all took gives did =
      let one = end_had old did.0 op last.step last.answer took.after room gives did.1 took.holds in
      let looks = took.looks_left in
      let calls = took.calls_left in
      let count = turns_are op turns all in
      omega (arith, one, looks, calls, count)

  ends_within : (turns end : List (JournalRow T)) (old new : KeeperState T C E) (op limit : ℕ) (most : Budget) (answer : Option (Answer T)) → 1 ≤ old.page → All (λ row. IsActOf op IsLookOrCall row.step) turns → Took (looks_in turns) (calls_in turns) most old.part op → EndsAfter op limit (length turns) answer end → DoesAll Did old end new → StaysWithin most limit answer turns
  ends_within turns end old new op limit most (Some answer) room all took ends did = record {
    looks = (let few = took.looks_left in omega (arith, few));
    calls = (let few = took.calls_left in omega (arith, few));
    answered = λ many. refl;
  }
  ends_within turns end old new op limit most None room all took ends did = record {
    looks = (let few = took.looks_left in omega (arith, few));
    calls = (let few = took.calls_left in omega (arith, few));
    answered = λ many. (let few = spent turns old new op most ends.1 room all took ends.3 (subst (λ rows. DoesAll Did old rows new) ends.2 did) in let all_taken = ends.0 in absurd (omega (arith, few, all_taken, many)));
  }

  -- what was left after what was left
  took_more : (looks calls : ℕ) (left : Budget) (part : Part T) (op : ℕ) (most : Budget) → left.looks ≤ most.looks → left.calls ≤ most.calls → Took looks calls left part op → Took looks calls most part op
  took_more looks calls left part op most few_looks few_calls t = record {
    after = t.after;
    holds = t.holds;
    looks_left = (let a = t.looks_left in omega (arith, a, few_looks));
    calls_left = (let a = t.calls_left in omega (arith, a, few_calls));
  }

  rows_stay : (first : JournalRow T) (turns end : List (JournalRow T)) (old new : KeeperState T C E) (call : Call T) (limit : ℕ) (answer : Option (Answer T)) (most : Budget) → 1 ≤ old.page → most_of call ≡ Some most → first.step ≡ steps.Begin call → All (λ row. IsActOf (begun_in old + 1) IsLookOrCall row.step) turns → EndsAfter (begun_in old + 1) limit (length turns) answer end → DoesAll Did old (first ∷ turns ++ end) new → StaysWithin most limit answer turns
  rows_stay first turns end old new call limit answer most room bound begins all ends did =
      let begun = first_took old did.0 first.step call first.answer most room bound begins did.1 in
      let parts = did_split turns end did.0 new did.2 in
      let few_looks : begun.after.looks ≤ most.looks = (let a = begun.looks_left in omega (arith, a)) in
      let few_calls : begun.after.calls ≤ most.calls = (let a = begun.calls_left in omega (arith, a)) in
      let taken = turns_took turns did.0 parts.0 (begun_in old + 1) begun.after (keeps_page old first.step first.answer did.0 did.1 room) all parts.1 begun.holds in
      ends_within turns end parts.0 new (begun_in old + 1) limit most answer taken.0 all (took_more (looks_in turns) (calls_in turns) begun.after parts.0.part (begun_in old + 1) most few_looks few_calls taken.1) ends parts.2

  module _ {R S : Type 0} (hands : R → Noted T → R → Type 0) (serves : S → Request → Reply → S → Type 0) where
    pub call_stays : (limit : ℕ) (call : Call T) (answer : Option (Answer T)) (old new : ClientState T C E R S) (most : Budget) → 1 ≤ old.keeper.page → most_of call ≡ Some most → (made : MakesCall hands serves Did limit call answer old new) → StaysWithin most limit answer made.is_call.turns
    call_stays limit call answer old new most room bound made =
        let c = made.is_call in
        let did = subst (λ rows. DoesAll Did old.keeper rows new.keeper) c.rows_are made.did in
        let acts_are = subst (λ (o : ℕ). All (λ row. IsActOf o IsLookOrCall row.step) c.turns) c.own c.acts in
        let ends = subst (λ (o : ℕ). EndsAfter o limit (length c.turns) answer c.end) c.own c.ends in
        rows_stay c.first c.turns c.end old.keeper new.keeper call limit answer most room bound c.begins acts_are ends did
