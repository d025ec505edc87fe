-- A client before a step and after it.
use Rattle.std.proofs.Common.{◌≡◌, ℕ, ◌≤◌, List, [], ◌∷◌, Bool, true, false, if◌then◌else◌, ◌&&◌, not, unwrap_or, Option, Some, None, Err, refl, sym, ◌∙◌, ap, subst}
use Rattle.std.proofs.lemmas.Option.{same_Some}
use Rattle.txn_store.specs.declared.request.Request.{Request}
use Rattle.txn_store.specs.declared.request.Reply.{Reply}
use Rattle.txn_history.specs.Seen.{Ask, Store, Look}
use Rattle.txn_history.specs.Allowed.{ask_fault, first_fault}
use Rattle.txn_history.specs.declared.event.EventFault.{EventFault}
use Rattle.txn_history.specs.declared.event.EventFault.TheVariants as faults
use Rattle.txn_machine.specs.plain.Machine.{fault_met}
use Rattle.txn_store.specs.declared.types.codec.ObjectCodec as coding
use Rattle.txn_store.specs.declared.types.epoch.EpochField as fields
use Rattle.txn_history.specs.declared.event.Call.{Call}
use Rattle.txn_history.specs.declared.event.Answer.{Answer}
use Rattle.txn_client_journals.specs.tables.Operations.{asked_by}
use Rattle.txn_client_journals.specs.declared.rows.Step.{Step}
use Rattle.txn_store.specs.types.Numbers.{number_of}
use Rattle.txn_history.specs.Allowed.{is_client, may_use, base_seen}
use Rattle.txn_history.specs.Calls.{view_used, is_holders, value_written}
use Rattle.txn_history.specs.Facts.{is_high}
use Rattle.txn_machine.specs.Machine.{used_by}
use Rattle.txn_client_journals.specs.Parts.{Part, seen_in, knows_base, is_low, epoch_told, is_in_use, client_begin_fault}
use Rattle.txn_client_journals.specs.Journals.{goes_on, Follows}
use Rattle.txn_diary.specs.Keepers.{KeeperState, keeper_asked, end_fault, fault_if, IsReceiptFault, IsReplyFault, AreSound, Does, Forgets, IsLed}
use Rattle.txn_diary.specs.Diaries.{DiaryState, lives, asked_in}
use Rattle.txn_diary.specs.declared.tables.Tables.{Tables}
use Rattle.txn_diary.specs.Shown.{operations_of, shown, keeper_of}
use Rattle.txn_client_journals.specs.Logged.{IsOfKind}
use Rattle.txn_client_journals.specs.declared.rows.Receipt.{Receipt}
use Rattle.txn_diary.proofs.Sound.{replays_sound, kept_sound}
use Rattle.txn_diary.proofs.Diaries.{led_on, led_still}

-- what is asked for

pub looks_so : (ask : Option Ask) → None ≡ ask_fault false ask → ask ≡ Some Look
looks_so None h = cc
looks_so (Some Look) h = refl
looks_so (Some (Store request)) h = cc

pub stores_so : (ask : Option Ask) → None ≡ ask_fault true ask → (request : Request) × (ask ≡ Some (Store request))
stores_so None h = cc
stores_so (Some Look) h = cc
stores_so (Some (Store request)) h = (request, refl)

living : (alive : Bool) (found : Option Ask) (ask : Ask) → (if alive then found else None) ≡ Some ask → (alive ≡ true) × (found ≡ Some ask)
living true found ask h = (refl, h)
living false found ask h = cc

-- a fault that is named is met

met_so : (A : Type 0) (fault due : EventFault) → fault ≡ due → fault_met {A = A} (Err due) ≡ Some due → fault_met {A = A} (Err fault) ≡ Some due
met_so A fault due e h = subst (λ f. fault_met {A = A} (Err f) ≡ Some due) (sym e) h

pub met_ask : (A : Type 0) (store : Bool) (ask : Option Ask) (fault : EventFault) → Some fault ≡ ask_fault store ask → fault_met {A = A} (Err fault) ≡ ask_fault store ask
met_ask A store None fault e = met_so A fault faults.UnknownNumber (same_Some fault faults.UnknownNumber e) refl
met_ask A true (Some (Store request)) fault e = cc
met_ask A false (Some (Store request)) fault e = met_so A fault faults.NotAsked (same_Some fault faults.NotAsked e) refl
met_ask A true (Some Look) fault e = met_so A fault faults.NotAsked (same_Some fault faults.NotAsked e) refl
met_ask A false (Some Look) fault e = cc

pub met_end : (A : Type 0) (ask : Option Ask) (fault : EventFault) → Some fault ≡ end_fault ask → fault_met {A = A} (Err fault) ≡ end_fault ask
met_end A None fault e = met_so A fault faults.UnknownNumber (same_Some fault faults.UnknownNumber e) refl
met_end A (Some ask) fault e = cc

pub met_receipt : (A : Type 0) (ask : Option Ask) (receipt : Receipt) (fault : EventFault) → IsReceiptFault ask receipt (Some fault) → IsReceiptFault ask receipt (fault_met {A = A} (Err fault))
met_receipt A None receipt fault h = met_so A fault faults.UnknownNumber (same_Some fault faults.UnknownNumber h) refl
met_receipt A (Some Look) receipt fault h = met_so A fault faults.NotAsked (same_Some fault faults.NotAsked h) refl
met_receipt A (Some (Store request)) receipt faults.NotAsked h = h
met_receipt A (Some (Store request)) receipt faults.UnknownNumber h = absurd h
met_receipt A (Some (Store request)) receipt faults.UnknownBase h = absurd h
met_receipt A (Some (Store request)) receipt faults.BoundaryTooHigh h = absurd h
met_receipt A (Some (Store request)) receipt faults.EpochLowered h = absurd h
met_receipt A (Some (Store request)) receipt faults.ViewBusy h = absurd h
met_receipt A (Some (Store request)) receipt faults.NoMemory h = absurd h

pub met_reply : (A : Type 0) (ask : Option Ask) (reply : Reply) (fault : EventFault) → IsReplyFault ask reply (Some fault) → IsReplyFault ask reply (fault_met {A = A} (Err fault))
met_reply A None reply fault h = met_so A fault faults.UnknownNumber (same_Some fault faults.UnknownNumber h) refl
met_reply A (Some Look) reply fault h = met_so A fault faults.NotAsked (same_Some fault faults.NotAsked h) refl
met_reply A (Some (Store request)) reply faults.NotAsked h = h
met_reply A (Some (Store request)) reply faults.UnknownNumber h = absurd h
met_reply A (Some (Store request)) reply faults.UnknownBase h = absurd h
met_reply A (Some (Store request)) reply faults.BoundaryTooHigh h = absurd h
met_reply A (Some (Store request)) reply faults.EpochLowered h = absurd h
met_reply A (Some (Store request)) reply faults.ViewBusy h = absurd h
met_reply A (Some (Store request)) reply faults.NoMemory h = absurd h

-- why a step stops whose row finds no room
pub met_lack : (A : Type 0) (fault : EventFault) (due : Option EventFault) → ((met : EventFault) → Some met ≡ due → fault_met {A = A} (Err met) ≡ due) → fault ≡ unwrap_or due faults.NoMemory → fault_met {A = A} (Err fault) ≡ due
met_lack A fault None meets e = subst (λ f. fault_met {A = A} (Err f) ≡ None) (sym e) refl
met_lack A fault (Some met) meets e = subst (λ f. fault_met {A = A} (Err f) ≡ Some met) (sym e) (meets met refl)

pub lacks_receipt : (A : Type 0) (ask : Option Ask) (receipt : Receipt) (fault : EventFault) (due : Option EventFault) → IsReceiptFault ask receipt due → fault ≡ unwrap_or due faults.NoMemory → IsReceiptFault ask receipt (fault_met {A = A} (Err fault))
lacks_receipt A ask receipt fault None h e = subst (λ f. IsReceiptFault ask receipt (fault_met {A = A} (Err f))) (sym e) h
lacks_receipt A ask receipt fault (Some met) h e = subst (λ f. IsReceiptFault ask receipt (fault_met {A = A} (Err f))) (sym e) (met_receipt A ask receipt met h)

-- the faults that tests name are no want of memory
abbrev AreMet : (A : Type 0) → List (Bool × EventFault) → Type 0
AreMet A [] = Unit {0}
AreMet A (test ∷ tests) = (fault_met {A = A} (Err test.1) ≡ Some test.1) × AreMet A tests

met_first : (A : Type 0) (tests : List (Bool × EventFault)) → AreMet A tests → (fault : EventFault) → Some fault ≡ first_fault tests → fault_met {A = A} (Err fault) ≡ first_fault tests
met_first A [] all fault e = cc
met_first A ((true, test) ∷ tests) all fault e = met_first A tests all.1 fault e
met_first A ((false, test) ∷ tests) all fault e = met_so A fault test (same_Some fault test e) all.0

-- why a client that lives, or was killed, is refused a begin
pub met_begin : {T : Type 0} (A : Type 0) (get_epoch : T → ℕ) (alive : Bool) (client : ℕ) (part : Part T) (call : Call T) (fault : EventFault) → Some fault ≡ fault_if alive (client_begin_fault get_epoch client part call) → fault_met {A = A} (Err fault) ≡ fault_if alive (client_begin_fault get_epoch client part call)
met_begin A get_epoch true client part call fault e =
    let seen = seen_in client part in
    let base = base_seen seen call in
    let tests : List (Bool × EventFault) = (is_client client client && may_use seen client (is_holders call) (view_used call), faults.UnknownNumber)
    ∷ (not (is_in_use (used_by part.views (view_used call))), faults.ViewBusy)
    ∷ (knows_base part.told base, faults.UnknownBase)
    ∷ (is_low part.told call, faults.BoundaryTooHigh)
    ∷ (is_high get_epoch (epoch_told part.told (number_of base)) (value_written call), faults.EpochLowered)
    ∷ [] in
    let all : AreMet A tests = (refl, (refl, (refl, (refl, (refl, tt))))) in
    met_first A tests all fault e
met_begin A get_epoch false client part call fault e = met_so A fault faults.UnknownNumber (same_Some fault faults.UnknownNumber e) refl

pub met_kill : (A : Type 0) (alive : Bool) (fault : EventFault) → Some fault ≡ fault_if alive None → fault_met {A = A} (Err fault) ≡ fault_if alive None
met_kill A true fault e = cc
met_kill A false fault e = met_so A fault faults.UnknownNumber (same_Some fault faults.UnknownNumber e) refl

-- a receipt that is not refused is of what was asked for
pub receives_so : (ask : Option Ask) (receipt : Receipt) → IsReceiptFault ask receipt None → (ask ≡ Some (Store receipt.request)) × IsOfKind receipt.request receipt.reply
receives_so None receipt h = cc
receives_so (Some Look) receipt h = cc
receives_so (Some (Store request)) receipt h = (ap (λ r. Some (Store r)) (sym h.request_is), subst (λ r. IsOfKind r receipt.reply) (sym h.request_is) h.kind)

-- a reply that is not refused is of the kind that was asked for
pub replies_so : (ask : Option Ask) (reply : Reply) → IsReplyFault ask reply None → (request : Request) × (ask ≡ Some (Store request)) × IsOfKind request reply
replies_so None reply h = cc
replies_so (Some Look) reply h = cc
replies_so (Some (Store request)) reply h = (request, refl, h)

pub alive_so : (alive : Bool) (due : Option EventFault) → None ≡ fault_if alive due → alive ≡ true
alive_so true due h = refl
alive_so false due h = cc

pub permits_so : (alive : Bool) (due : Option EventFault) → None ≡ fault_if alive due → due ≡ None
permits_so true due h = sym h
permits_so false due h = cc

-- one that is not refused to be given up asks for something
pub asks_so : (ask : Option Ask) → None ≡ end_fault ask → (a : Ask) × (ask ≡ Some a)
asks_so None h = cc
asks_so (Some a) h = (a, refl)

module _ {T C E : Type 0} where
  -- an operation that asks for something is a living client's
  keeper_alive : (keeper : KeeperState T C E) (op : ℕ) (ask : Ask) → keeper_asked keeper op ≡ Some ask → (keeper.alive ≡ true) × (asked_by keeper.part.operations op ≡ Some ask)
  keeper_alive keeper op ask h = living keeper.alive (asked_by keeper.part.operations op) ask h

  pub asks_alive : (diary : DiaryState T C E) (op : ℕ) (ask : Ask) → asked_in diary op ≡ Some ask → (lives diary.rows ≡ true) × (asked_by diary.part.operations op ≡ Some ask)
  asks_alive diary op ask h = living (lives diary.rows) (asked_by diary.part.operations op) ask h

module _ {T C E : Type 0} (encoded : C → T → List ℕ) (decoded : C → List ℕ → Option T) (epoch_of : E → T → ℕ) (with_epoch : E → T → ℕ → T) where
  -- what the type keeps
  abbrev pub IsKept : KeeperState T C E → Type 0
  IsKept k = (1 ≤ k.client) × (1 ≤ k.page) × IsLed encoded decoded epoch_of with_epoch k

  sound_of : (k : KeeperState T C E) → IsKept k → AreSound k.part.operations
  sound_of k kept =
      let led = kept.2 in
      kept_sound led.whole.operations k.part.operations led.remembers.operations (replays_sound k.page kept.1 (encoded k.codec) (decoded k.codec) (epoch_of k.epochs) (with_epoch k.epochs) k.client led.rows led.whole led.replays)

  -- one row more
  kept_more : (old new : KeeperState T C E) (step : Step T) (answer : Option (Answer T)) → IsKept old → Does encoded decoded epoch_of with_epoch old step answer new → IsKept new
  kept_more old new step answer kept does =
      (subst (λ n. 1 ≤ n) (sym does.client) kept.0, subst (λ n. 1 ≤ n) (sym does.page) kept.1, led_on encoded decoded epoch_of with_epoch old new step answer kept.2 does)

  -- something less
  pub kept_still : (old new : KeeperState T C E) → IsKept old → Forgets old new → IsKept new
  kept_still old new kept forgets =
      (subst (λ n. 1 ≤ n) (sym forgets.client) kept.0, subst (λ n. 1 ≤ n) (sym forgets.page) kept.1, led_still encoded decoded epoch_of with_epoch old new kept.2 forgets)

module _ {T C E : Type 0} {codec : coding.Ghosts C T} {field : fields.Ghosts E T} where
  -- What a step finds: the tables are this client, which its type keeps.
  pub record IsReady (now : KeeperState T C E) (t : Tables T C E codec field) (alive : Bool) : Type 0 where
    pub is : keeper_of t alive ≡ now
    pub kept : IsKept codec.encoded codec.decoded field.epoch_of field.with_epoch now

  -- What a step leaves: a client that its type keeps, which did it.
  pub record IsStepped (now : KeeperState T C E) (step : Step T) (answer : Option (Answer T)) (t : Tables T C E codec field) (alive : Bool) : Type 0 where
    pub kept : IsKept codec.encoded codec.decoded field.epoch_of field.with_epoch (keeper_of t alive)
    pub does : Does codec.encoded codec.decoded field.epoch_of field.with_epoch now step answer (keeper_of t alive)

  -- a step finds the client as it was before room was made
  pub room_made : (now : KeeperState T C E) (old t : Tables T C E codec field) (alive : Bool) → keeper_of old alive ≡ now → IsKept codec.encoded codec.decoded field.epoch_of field.with_epoch (keeper_of old alive) →
      t.client ≡ old.client → t.layout ≡ old.layout → t.epochs ≡ old.epochs → shown t ≡ shown old → IsReady now t alive
  room_made now old t alive is kept client layout epochs parts =
      let made : keeper_of t alive ≡ keeper_of old alive = λ i. record { client = client i; page = (layout i).page; codec = (layout i).codec; epochs = epochs i; part = parts i; alive = alive } in
      record { is = made ∙ is; kept = subst (IsKept codec.encoded codec.decoded field.epoch_of field.with_epoch) is kept }

module _ {T C E : Type 0} {codec : coding.Ghosts C T} {field : fields.Ghosts E T} {now : KeeperState T C E} {t : Tables T C E codec field} {alive : Bool} (ready : IsReady now t alive) where
  -- what a step finds can take what it asks for
  pub ready_sound : AreSound (operations_of t.calls)
  ready_sound = subst (λ (k : KeeperState T C E). AreSound k.part.operations) (sym ready.is) (sound_of codec.encoded codec.decoded field.epoch_of field.with_epoch now ready.kept)

  -- a step finds that an operation asks for what it asked for, and that its client lives
  pub ready_asks : (op : ℕ) (ask : Ask) → keeper_asked now op ≡ Some ask → (alive ≡ true) × (asked_by (operations_of t.calls) op ≡ Some ask)
  ready_asks op ask asks = (let found = keeper_alive now op ask asks in (ap (λ (k : KeeperState T C E). k.alive) ready.is ∙ found.0, ap (λ (k : KeeperState T C E). asked_by k.part.operations op) ready.is ∙ found.1))

  -- a step of a living client
  pub stepped : {new : Tables T C E codec field} {after : Bool} {step : Step T} {answer : Option (Answer T)} → alive ≡ true → after ≡ goes_on step →
      Follows t.layout.page (codec.encoded t.layout.codec) (codec.decoded t.layout.codec) (field.epoch_of t.epochs) (field.with_epoch t.epochs) t.client (shown t) step answer (shown new) → new.client ≡ t.client → new.layout ≡ t.layout → new.epochs ≡ t.epochs → IsStepped now step answer new after
  stepped {new = new} {after = after} {step = step} {answer = answer} live on follows client layout epochs =
      let found : Does codec.encoded codec.decoded field.epoch_of field.with_epoch (keeper_of t alive) step answer (keeper_of new after) = record { lived = live; follows = follows; lives = on; client = client; page = ap (λ l. l.page) layout; codec = ap (λ l. l.codec) layout; epochs = epochs } in
      let does = subst (λ k. Does codec.encoded codec.decoded field.epoch_of field.with_epoch k step answer (keeper_of new after)) ready.is found in
      record { kept = kept_more codec.encoded codec.decoded field.epoch_of field.with_epoch now (keeper_of new after) step answer ready.kept does; does = does }
