-- A journal with one row more leads to what its client keeps then.
use Rattle.std.proofs.Common.{◌≡◌, ℕ, ◌≤◌, List, [], ◌∷◌, ◌++◌, reverse, true, if◌then◌else◌, Option, None, refl, sym, ◌∙◌, ap, subst}
use Rattle.std.proofs.lemmas.List.{append_assoc, append-nil, reverse-append}
use Rattle.txn_history.specs.declared.event.Answer.{Answer}
use Rattle.txn_client_journals.specs.tables.Operations.{asked_by}
use Rattle.txn_client_journals.specs.declared.rows.Step.{Step}
use Rattle.txn_client_journals.specs.declared.rows.JournalRow.{JournalRow}
use Rattle.txn_client_journals.specs.Parts.{Part, no_part}
use Rattle.txn_client_journals.specs.Journals.{goes_on, Lives, Follows, Replays}
use Rattle.txn_diary.specs.Forgetting.{Remembers}
use Rattle.txn_diary.specs.Keepers.{KeeperState, lives_after, keeper_asked, Does, DoesAndForgets, DoesAll, Forgets, IsLed}
use Rattle.txn_diary.specs.Diaries.{DiaryState, diary_of, asked_in, lives, Adds}
use Rattle.txn_diary.proofs.Forgetting.{remembers_all, remembers_less, goes_beside}

module _ {T : Type 0} where
  reverse_last : (rows : List (JournalRow T)) (row : JournalRow T) → reverse (rows ++ row ∷ []) ≡ row ∷ reverse rows
  reverse_last rows row = reverse-append rows (row ∷ [])

  -- nothing comes after a kill
  pub goes_after : (rows : List (JournalRow T)) → lives_after rows ≡ true → Lives rows
  goes_after [] h = tt
  goes_after (row ∷ rows) h = h

  -- a client that did this lives, if this is no kill
  pub lives_so : (rows more : List (JournalRow T)) (step : Step T) (answer : Option (Answer T)) → more ≡ rows ++ record { step = step; answer = answer } ∷ [] → lives more ≡ goes_on step
  lives_so rows more step answer is = ap lives_after (ap reverse is ∙ reverse_last rows (record { step = step; answer = answer }))

module _ {T : Type 0} (page : ℕ) (encode : T → List ℕ) (decode : List ℕ → Option T) (get_epoch : T → ℕ) (set_epoch : T → ℕ → T) where
  pub replays_more : (client : ℕ) (rows more : List (JournalRow T)) (old new : Part T) (step : Step T) (answer : Option (Answer T)) → Replays page encode decode get_epoch set_epoch client (reverse rows) old → lives rows ≡ true → more ≡ rows ++ record { step = step; answer = answer } ∷ [] →
      Follows page encode decode get_epoch set_epoch client old step answer new → Replays page encode decode get_epoch set_epoch client (reverse more) new
  replays_more client rows more old new step answer replays live is follows =
      subst (λ (rs : List (JournalRow T)). Replays page encode decode get_epoch set_epoch client rs new) (sym (ap reverse is ∙ reverse_last rows (record { step = step; answer = answer })))
      (old, replays, follows, goes_after (reverse rows) live)

module _ {T C E : Type 0} (encoded : C → T → List ℕ) (decoded : C → List ℕ → Option T) (epoch_of : E → T → ℕ) (with_epoch : E → T → ℕ → T) where
  -- what a step changes of a client
  part_alone : (old new : KeeperState T C E) (step : Step T) (answer : Option (Answer T)) → Does encoded decoded epoch_of with_epoch old step answer new → new ≡ record old { part = new.part; alive = new.alive }
  part_alone old new step answer does = λ i. record { client = does.client i; page = does.page i; codec = does.codec i; epochs = does.epochs i; part = new.part; alive = new.alive }

  -- what the type keeps of a client and its journal
  abbrev pub IsKeptWith : KeeperState T C E → List (JournalRow T) → Type 0
  IsKeptWith k rows = (1 ≤ k.client) × (1 ≤ k.page) × (k.alive ≡ lives rows) × Replays k.page (encoded k.codec) (decoded k.codec) (epoch_of k.epochs) (with_epoch k.epochs) k.client (reverse rows) k.part

  abbrev AddsTo : DiaryState T C E → Step T → Option (Answer T) → DiaryState T C E → Type 0
  AddsTo old step answer new = Adds (encoded old.codec) (decoded old.codec) (epoch_of old.epochs) (with_epoch old.epochs) old step answer new

  -- What a step leaves whose row was noted: a diary that its type keeps, with the row more.
  pub record IsNoted (now : DiaryState T C E) (step : Step T) (answer : Option (Answer T)) (k : KeeperState T C E) (rows : List (JournalRow T)) : Type 0 where
    pub kept : IsKeptWith k rows
    pub adds : AddsTo now step answer (diary_of k rows)

  -- a client that did this, and noted its row
  pub noted : (now : DiaryState T C E) (old new : KeeperState T C E) (rows more : List (JournalRow T)) (step : Step T) (answer : Option (Answer T)) → diary_of old rows ≡ now → IsKeptWith old rows → more ≡ rows ++ record { step = step; answer = answer } ∷ [] →
      Does encoded decoded epoch_of with_epoch old step answer new → IsNoted now step answer new more
  noted now old new rows more step answer is kept row does =
      let same = part_alone old new step answer does in
      let replays = replays_more old.page (encoded old.codec) (decoded old.codec) (epoch_of old.epochs) (with_epoch old.epochs) old.client rows more old.part new.part step answer kept.3 (sym kept.2 ∙ does.lived) row does.follows in
      let adds : AddsTo (diary_of old rows) step answer (diary_of new more) = record { rows = row; follows = does.follows; client = does.client; page = does.page; codec = does.codec; epochs = does.epochs } in
      record {
        kept = subst (λ k. IsKeptWith k more) (sym same) (kept.0, kept.1, does.lives ∙ sym (lives_so rows more step answer row), replays);
        adds = subst (λ d. AddsTo d step answer (diary_of new more)) is adds;
      }

module _ {T C E : Type 0} where
  -- a client that forgets nothing
  pub forgets_none : (keeper : KeeperState T C E) → Forgets keeper keeper
  forgets_none keeper = record { remembers = remembers_all keeper.part; client = refl; page = refl; codec = refl; epochs = refl; alive = refl }

  -- what an operation asks for, of a client and of its diary
  pub asked_same : (now : DiaryState T C E) (k : KeeperState T C E) (rows : List (JournalRow T)) (op : ℕ) → diary_of k rows ≡ now → k.alive ≡ lives rows → keeper_asked k op ≡ asked_in now op
  asked_same now k rows op is alive = ap (λ b. if b then asked_by k.part.operations op else None) alive ∙ ap (λ d. asked_in d op) is

module _ {T C E : Type 0} (encoded : C → T → List ℕ) (decoded : C → List ℕ → Option T) (epoch_of : E → T → ℕ) (with_epoch : E → T → ℕ → T) where
  -- this journal, the newest row first, leads to a part of which the client keeps all but what it forgot
  abbrev LeadsTo : List (JournalRow T) → KeeperState T C E → Type 0
  LeadsTo rows k = (k.alive ≡ lives_after rows) × ((whole : Part T) × Replays k.page (encoded k.codec) (decoded k.codec) (epoch_of k.epochs) (with_epoch k.epochs) k.client rows whole × Remembers whole k.part)

  -- what the client did next leads on
  leads_on : (old new : KeeperState T C E) (rows : List (JournalRow T)) (step : Step T) (answer : Option (Answer T)) → LeadsTo rows old → Does encoded decoded epoch_of with_epoch old step answer new → LeadsTo (record { step = step; answer = answer } ∷ rows) new
  leads_on old new rows step answer led does =
      let whole = led.1.0 in
      let beside = goes_beside old.page (encoded old.codec) (decoded old.codec) (epoch_of old.epochs) (with_epoch old.epochs) old.client whole old.part new.part step answer led.1.2 does.follows in
      subst (LeadsTo (record { step = step; answer = answer } ∷ rows)) (sym (part_alone encoded decoded epoch_of with_epoch old new step answer does)) (does.lives, (beside.new, (whole, led.1.1, beside.follows, goes_after rows (sym led.0 ∙ does.lived)), beside.remembers))

  -- what it forgot leads nowhere else
  leads_still : (old new : KeeperState T C E) (rows : List (JournalRow T)) → LeadsTo rows old → Forgets old new → LeadsTo rows new
  leads_still old new rows led forgets =
      let same : new ≡ record old { part = new.part } = λ i. record { client = forgets.client i; page = forgets.page i; codec = forgets.codec i; epochs = forgets.epochs i; part = new.part; alive = forgets.alive i } in
      subst (LeadsTo rows) (sym same) (led.0, (led.1.0, led.1.1, remembers_less led.1.0 old.part new.part led.1.2 forgets.remembers))

  as_led : (keeper : KeeperState T C E) → IsLed encoded decoded epoch_of with_epoch keeper → (rows : List (JournalRow T)) × LeadsTo rows keeper
  as_led keeper led = (led.rows, (led.alive, (led.whole, led.replays, led.remembers)))

  is_led : (keeper : KeeperState T C E) (rows : List (JournalRow T)) → LeadsTo rows keeper → IsLed encoded decoded epoch_of with_epoch keeper
  is_led keeper rows led = record { rows = rows; whole = led.1.0; alive = led.0; replays = led.1.1; remembers = led.1.2 }

  pub led_on : (old new : KeeperState T C E) (step : Step T) (answer : Option (Answer T)) → IsLed encoded decoded epoch_of with_epoch old → Does encoded decoded epoch_of with_epoch old step answer new → IsLed encoded decoded epoch_of with_epoch new
  led_on old new step answer led does = let was = as_led old led in is_led new (record { step = step; answer = answer } ∷ was.0) (leads_on old new was.0 step answer was.1 does)

  pub led_still : (old new : KeeperState T C E) → IsLed encoded decoded epoch_of with_epoch old → Forgets old new → IsLed encoded decoded epoch_of with_epoch new
  led_still old new led forgets = let was = as_led old led in is_led new was.0 (leads_still old new was.0 was.1 forgets)

  leads_all : (old new : KeeperState T C E) (rows before : List (JournalRow T)) → LeadsTo before old → DoesAll (DoesAndForgets encoded decoded epoch_of with_epoch) old rows new → LeadsTo (reverse rows ++ before) new
  leads_all old new [] before led did = subst (LeadsTo before) (sym did) led
  leads_all old new (row ∷ rows) before led did =
      subst (λ (all : List (JournalRow T)). LeadsTo all new) (sym (ap (λ (all : List (JournalRow T)). all ++ before) (reverse-append (row ∷ []) rows) ∙ append_assoc (reverse rows) (row ∷ []) before))
      (leads_all did.0 new rows (row ∷ before) (leads_still did.1.between did.0 (row ∷ before) (leads_on old did.1.between before row.step row.answer led did.1.does) did.1.forgets) did.2)

  pub done_journal : (old new : KeeperState T C E) (rows : List (JournalRow T)) → old.part ≡ no_part → old.alive ≡ true → DoesAll (DoesAndForgets encoded decoded epoch_of with_epoch) old rows new →
      (whole : Part T) × Replays new.page (encoded new.codec) (decoded new.codec) (epoch_of new.epochs) (with_epoch new.epochs) new.client (reverse rows) whole × Remembers whole new.part
  done_journal old new rows none alive did = (subst (λ (all : List (JournalRow T)). LeadsTo all new) (append-nil (reverse rows)) (leads_all old new rows [] (alive, (old.part, none, remembers_all old.part)) did)).1

  -- what is done one after another, before something is forgotten
  pub did_and_forgot : (old between new : KeeperState T C E) (row : JournalRow T) (rows : List (JournalRow T)) → DoesAll (Does encoded decoded epoch_of with_epoch) old (row ∷ rows) between → Forgets between new → DoesAll (DoesAndForgets encoded decoded epoch_of with_epoch) old (row ∷ rows) new
  did_and_forgot old between new row [] did forgets = (new, record { between = did.0; does = did.1; forgets = subst (λ k. Forgets k new) did.2 forgets }, refl)
  did_and_forgot old between new row (next ∷ rows) did forgets = (did.0, record { between = did.0; does = did.1; forgets = forgets_none did.0 }, did_and_forgot did.0 between new next rows did.2 forgets)
