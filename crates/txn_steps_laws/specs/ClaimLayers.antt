-- A claim's step as one of its write, or of its read.
use Rattle.std.specs.Prelude.{◌≡◌, ◌⊎◌, ℕ, ◌==◌, if◌then◌else◌, Bool, true, false, List, Option, Result, Ok, Err}
use Rattle.std.proofs.Common.{refl, sym, ap, subst, ◌∙◌, inl, inr}
use Rattle.std.proofs.lemmas.Bool.{eqb-true, eqb-false}
use Rattle.txn_store.specs.Paths.{Segments}
use Rattle.txn_store.specs.VersionName.{Names}
use Rattle.txn_store.specs.declared.request.Reply.{Reply}
use Rattle.txn_store.specs.types.Errors.{error_number}
use Rattle.txn_store.specs.declared.types.error.TransactionalObjectError.{TransactionalObjectError}
use Rattle.txn_store.specs.declared.types.error.TransactionalObjectError.TheVariants.{ObjectVersionExists, NoMemory}
use Rattle.txn_steps.specs.declared.boundary.turned.Turned.{Turned}
use Rattle.txn_steps.specs.declared.boundary.turned.Turned.TheVariants.{Goes, Done}
use Rattle.txn_steps.specs.boundary.Asking.{reply_told, unless_lacking}
use Rattle.txn_steps.specs.boundary.Steps.{by_number, turned_by_number, lacks_memory, TellsErrorOf}
use Rattle.txn_steps.specs.declared.read.ReadOp.{ReadOp}
use Rattle.txn_steps.specs.declared.write.WriteOp.{WriteOp}
use Rattle.txn_steps.specs.Latest.{ReadAnswer}
use Rattle.txn_steps.specs.Reads.{read_started, read_asked, read_turned, read_caches_after}
use Rattle.txn_steps.specs.Writes.{write_asked, write_turned, write_caches}
use Rattle.txn_steps_driven.specs.Asked.{Replies}
use Rattle.txn_steps_driven.specs.DriveRuns.{Scene}
use Rattle.txn_steps_driven.specs.DriveSteps.{WriteSteps, ReadSteps}
use Rattle.txn_steps_driven.proofs.Refusals.{error_is}
use Rattle.txn_steps_views.specs.declared.claiming.Claiming.{Claiming}
use Rattle.txn_steps_views.specs.declared.claiming.Claiming.TheVariants.{Writes, Reads, Ended}
use Rattle.txn_steps_views.specs.declared.outcome.Outcome.{Outcome}
use Rattle.txn_steps_views.specs.declared.outcome.Outcome.TheVariants.{Held}
use Rattle.txn_steps_views.specs.Attempts.{attempted_again, attempt_turned, refreshed_turned, followed, claiming_asked, claiming_turned, claiming_caches_after, IsMade, IsRefreshing}
use Rattle.txn_steps_views.specs.Readings.{said}
use Rattle.txn_steps_views.specs.Shortages.{IsShort, LacksAsWrite}
use Rattle.txn_steps_views.proofs.ReadLemmas.{left_as_said, left_where_answered}
use Rattle.txn_steps_laws.specs.ClaimSteps.{AttemptStepped}
use Rattle.txn_steps_laws.specs.Layers.{part_of}

module _ {T : Type 0} where
  -- what an attempt's write says ends the claim: the id is held, and an error but for a conflict is answered
  abbrev pub HeldAs : T → ℕ → Result ℕ TransactionalObjectError → Result (Outcome T) TransactionalObjectError → Type 0
  HeldAs value epoch (Ok id) answer = answer ≡ Ok (Held id value epoch)
  HeldAs value epoch (Err error) answer = (answer ≡ Err error) × (error_number error ≡ 5 → ⊥)

  -- what a step of an attempt is of its write: a conflict leads to a read, or to want of memory
  abbrev pub AttemptLed : Segments → T → ℕ → Scene WriteOp → Turned (Result (Outcome T) TransactionalObjectError) → Scene (Claiming T) → Type 0
  AttemptLed path value epoch from Goes c = ((next : WriteOp) × WriteSteps from Goes (part_of next c) × (c.op ≡ Writes next value epoch)) ⊎ ((next : WriteOp) × WriteSteps from (Done (Err ObjectVersionExists)) (part_of next c) × (c.op ≡ Reads (read_started path)))
  AttemptLed path value epoch from (Done answer) c = (next : WriteOp) × (told : Result ℕ TransactionalObjectError) × WriteSteps from (Done told) (part_of next c) × (HeldAs value epoch told answer ⊎ ((told ≡ Err ObjectVersionExists) × (answer ≡ Err NoMemory)))

module _ {T : Type 0} (path : Segments) (write : WriteOp) (value : T) (epoch : ℕ) (a c : Scene (Claiming T)) (reply : Option Reply) (served : Replies (write_asked write) a.store reply c.store) (leaves : c.caches ≡ write_caches write a.caches) where
  wrote : (next : WriteOp) (told : Turned (Result ℕ TransactionalObjectError)) → (next, turned_by_number told) ≡ write_turned write a.caches reply → TellsErrorOf (reply_told reply) told → WriteSteps (part_of write a) told (part_of next c)
  wrote next told takes tells = record { reply = reply; replies = served; takes = takes; leaves = leaves; error = tells }

  overtaken : (next : WriteOp) (number : ℕ) → number ≡ 5 → (next, Done (Err number)) ≡ write_turned write a.caches reply → WriteSteps (part_of write a) (Done (Err ObjectVersionExists)) (part_of next c)
  overtaken next number five turned = wrote next (Done (Err ObjectVersionExists)) (ap (λ (n : ℕ). (next, Done (Err n))) (sym five) ∙ turned) tt

  goes_at : (five : Bool) (next : WriteOp) (number : ℕ) → (number == 5) ≡ five → (next, Done (Err number)) ≡ write_turned write a.caches reply → (c.op, Goes) ≡ (if◌then◌else◌ {A = Claiming T × Turned (Result (Outcome T) ℕ)} five (Reads (read_started path), Goes) (Ended, Done (Err number))) → AttemptLed path value epoch (part_of write a) Goes c
  goes_at true next number is turned takes = inr (next, overtaken next number (eqb-true number 5 is) turned, ap (λ p. p.0) takes)
  goes_at false next number is turned takes = let e = ap (λ p. p.1) takes in absurd (cc)

  goes : (next : WriteOp × Turned (Result ℕ ℕ)) → next ≡ write_turned write a.caches reply → (c.op, Goes) ≡ attempt_turned path value epoch next → AttemptLed path value epoch (part_of write a) Goes c
  goes (next, Goes) turned takes = inl (next, wrote next Goes turned tt, ap (λ p. p.0) takes)
  goes (next, Done (Ok id)) turned takes = let e = ap (λ p. p.1) takes in absurd (cc)
  goes (next, Done (Err number)) turned takes = goes_at (number == 5) next number refl turned takes

  never_ok : (five : Bool) (number : ℕ) (outcome : Outcome T) → (c.op, Done (Ok outcome)) ≡ (if◌then◌else◌ {A = Claiming T × Turned (Result (Outcome T) ℕ)} five (Reads (read_started path), Goes) (Ended, Done (Err number))) → ⊥
  never_ok true number outcome takes = let e = ap (λ p. p.1) takes in cc
  never_ok false number outcome takes = let e = ap (λ p. p.1) takes in cc

  answers : (next : WriteOp × Turned (Result ℕ ℕ)) (outcome : Outcome T) → next ≡ write_turned write a.caches reply → (c.op, Done (Ok outcome)) ≡ attempt_turned path value epoch next → AttemptLed path value epoch (part_of write a) (Done (Ok outcome)) c
  answers (next, Goes) outcome turned takes = let e = ap (λ p. p.1) takes in absurd (cc)
  answers (next, Done (Ok id)) outcome turned takes =
      let e = ap (λ p. p.1) takes in
      let same : outcome ≡ Held id value epoch = cc in
      (next, Ok id, wrote next (Done (Ok id)) turned tt, inl (ap Ok same))
  answers (next, Done (Err number)) outcome turned takes = absurd (never_ok (number == 5) number outcome takes)

  fails_at : (five : Bool) (next : WriteOp) (number : ℕ) (error : TransactionalObjectError) → (number == 5) ≡ five → (next, Done (Err number)) ≡ write_turned write a.caches reply → (c.op, Done (Err (error_number error))) ≡ (if◌then◌else◌ {A = Claiming T × Turned (Result (Outcome T) ℕ)} five (Reads (read_started path), Goes) (Ended, Done (Err number))) → TellsErrorOf {A = ℕ} (reply_told reply) (Done (Err error)) → AttemptLed path value epoch (part_of write a) (Done (Err error)) c
  fails_at true next number error is turned takes tells = let e = ap (λ p. p.1) takes in absurd (cc)
  fails_at false next number error is turned takes tells =
      let e = ap (λ p. p.1) takes in
      let same : error_number error ≡ number = cc in
      (next, Err error, wrote next (Done (Err error)) (ap (λ (n : ℕ). (next, Done (Err n))) same ∙ turned) tells, inl (refl, λ five. eqb-false number 5 is (sym same ∙ five)))

  fails : (next : WriteOp × Turned (Result ℕ ℕ)) (error : TransactionalObjectError) → next ≡ write_turned write a.caches reply → (c.op, Done (Err (error_number error))) ≡ attempt_turned path value epoch next → TellsErrorOf {A = ℕ} (reply_told reply) (Done (Err error)) → AttemptLed path value epoch (part_of write a) (Done (Err error)) c
  fails (next, Goes) error turned takes tells = let e = ap (λ p. p.1) takes in absurd (cc)
  fails (next, Done (Ok id)) error turned takes tells = let e = ap (λ p. p.1) takes in absurd (cc)
  fails (next, Done (Err number)) error turned takes tells = fails_at (number == 5) next number error refl turned takes tells

  -- want of memory: the write was overtaken, or lacked it
  lacks : (next : WriteOp × Turned (Result ℕ ℕ)) (error : TransactionalObjectError) → error_number error ≡ 9 → next ≡ write_turned write a.caches reply → IsShort next.1 → TellsErrorOf {A = ℕ} (reply_told reply) (Done (Err error)) → AttemptLed path value epoch (part_of write a) (Done (Err error)) c
  lacks (next, Goes) error nine turned short tells = absurd short
  lacks (next, Done (Ok id)) error nine turned short tells = absurd short
  lacks (next, Done (Err number)) error nine turned (inl five) tells = (next, Err ObjectVersionExists, overtaken next number five turned, inr (refl, ap Err (error_is NoMemory error tt nine)))
  lacks (next, Done (Err number)) error nine turned (inr too) tells = (next, Err error, wrote next (Done (Err error)) (ap (λ (n : ℕ). (next, Done (Err n))) (nine ∙ sym too) ∙ turned) tells, inl (refl, λ five. let e : 9 ≡ 5 = sym nine ∙ five in cc))

  by_error : (lacking : Bool) (error : TransactionalObjectError) → (error_number error == 9) ≡ lacking → (lacking ≡ true → IsShort (write_turned write a.caches reply).1) → (c.op, Done (Err (error_number error))) ≡ unless_lacking lacking Ended (attempt_turned path value epoch (write_turned write a.caches reply)) → TellsErrorOf {A = ℕ} (reply_told reply) (Done (Err error)) → AttemptLed path value epoch (part_of write a) (Done (Err error)) c
  by_error true error is short takes tells = lacks (write_turned write a.caches reply) error (eqb-true (error_number error) 9 is) refl (short refl) tells
  by_error false error is short takes tells = fails (write_turned write a.caches reply) error refl takes tells

  attempt_by : (told : Turned (Result (Outcome T) TransactionalObjectError)) → (lacks_memory (turned_by_number told) ≡ true → IsShort (write_turned write a.caches reply).1) → (c.op, turned_by_number told) ≡ unless_lacking (lacks_memory (turned_by_number told)) Ended (attempt_turned path value epoch (write_turned write a.caches reply)) → TellsErrorOf (reply_told reply) told → AttemptLed path value epoch (part_of write a) told c
  attempt_by Goes short takes tells = goes (write_turned write a.caches reply) refl takes
  attempt_by (Done (Ok outcome)) short takes tells = answers (write_turned write a.caches reply) outcome refl takes
  attempt_by (Done (Err error)) short takes tells = by_error (error_number error == 9) error refl short takes tells

module _ {T : Type 0} (names : Names) (path : Segments) (page : ℕ) (encode : T → List ℕ) (decode : List ℕ → Option T) (epoch_of : T → ℕ) (with_epoch : T → ℕ → T) (asked : Option ℕ) where
  abbrev Again : Option (ℕ × T) → Result (Claiming T) ℕ
  Again found = attempted_again names path encode epoch_of with_epoch asked found

  -- what a read says ends the claim: an error is its own, and a version on which there is no next attempt is refused
  abbrev pub EndsRead : Result (Option (ℕ × T)) TransactionalObjectError → Result (Outcome T) TransactionalObjectError → Type 0
  EndsRead (Ok found) answer = (number : ℕ) × (attempted_again names path encode epoch_of with_epoch asked found ≡ Err number) × (by_number answer ≡ Err number)
  EndsRead (Err error) answer = answer ≡ Err error

  -- what a step of a claim that reads is of its read: what that finds leads to the next attempt
  abbrev pub ReadLed : Scene (ReadOp T) → Turned (Result (Outcome T) TransactionalObjectError) → Scene (Claiming T) → Type 0
  ReadLed from Goes c = ((next : ReadOp T) × ReadSteps names path page decode from Goes (part_of next c) × (c.op ≡ Reads next)) ⊎ ((next : ReadOp T) × (found : Option (ℕ × T)) × ReadSteps names path page decode from (Done (Ok found)) (part_of next c) × (attempted_again names path encode epoch_of with_epoch asked found ≡ Ok c.op))
  ReadLed from (Done answer) c = (next : ReadOp T) × (told : Result (Option (ℕ × T)) TransactionalObjectError) × ReadSteps names path page decode from (Done told) (part_of next c) × EndsRead told answer

  module _ (read : ReadOp T) (a c : Scene (Claiming T)) (reply : Option Reply) (served : Replies (read_asked read) a.store reply c.store) where
    abbrev turned : ReadOp T × Turned (ReadAnswer T)
    turned = read_turned names path page decode read a.caches reply

    was_read : (next : ReadOp T) (told : Turned (Result (Option (ℕ × T)) TransactionalObjectError)) → (next, turned_by_number told) ≡ unless_lacking (lacks_memory (turned_by_number told)) read turned → c.caches ≡ read_caches_after read a.caches (turned_by_number told) → TellsErrorOf (reply_told reply) told → ReadSteps names path page decode (part_of read a) told (part_of next c)
    was_read next told takes leaves tells = record { reply = reply; replies = served; takes = takes; leaves = leaves; error = tells }

    -- where the claim ends so does the read
    read_ended : (next : ReadOp T) (told : Result (Option (ℕ × T)) TransactionalObjectError) → (next, Done (by_number told)) ≡ unless_lacking (lacks_memory (Done (by_number told))) read turned → c.caches ≡ read_caches_after read a.caches (Done (Err 9)) → TellsErrorOf (reply_told reply) (Done told) → ReadSteps names path page decode (part_of read a) (Done told) (part_of next c)
    read_ended next told takes leaves tells = was_read next (Done told) takes (leaves ∙ sym (left_as_said names path page decode read a.caches reply next (Done (by_number told)) takes)) tells

    follows : (again : Result (Claiming T) ℕ) (next : ReadOp T) (found : Option (ℕ × T)) → Again found ≡ again → (next, Done (Ok found)) ≡ turned → (c.op, Goes) ≡ followed again → c.caches ≡ read_caches_after read a.caches Goes → ReadLed (part_of read a) Goes c
    follows (Ok claiming) next found is at takes leaves =
        let same : c.op ≡ claiming = ap (λ p. p.0) takes in
        inr (next, found, was_read next (Done (Ok found)) at (leaves ∙ sym (left_where_answered names path page decode read a.caches reply next (Done (Ok found)) at)) tt, is ∙ ap Ok (sym same))
    follows (Err number) next found is at takes leaves = let e = ap (λ p. p.1) takes in absurd (cc)

    reads_on : (next : ReadOp T × Turned (ReadAnswer T)) → next ≡ turned → (c.op, Goes) ≡ refreshed_turned names path encode epoch_of with_epoch asked next → c.caches ≡ read_caches_after read a.caches Goes → ReadLed (part_of read a) Goes c
    reads_on (next, Goes) at takes leaves = inl (next, was_read next Goes at leaves tt, ap (λ p. p.0) takes)
    reads_on (next, Done (Ok found)) at takes leaves = follows (Again found) next found refl at takes leaves
    reads_on (next, Done (Err number)) at takes leaves = let e = ap (λ p. p.1) takes in absurd (cc)

    never_followed : (again : Result (Claiming T) ℕ) (outcome : Outcome T) → (c.op, Done (Ok outcome)) ≡ followed again → ⊥
    never_followed (Ok claiming) outcome takes = let e = ap (λ p. p.1) takes in cc
    never_followed (Err number) outcome takes = let e = ap (λ p. p.1) takes in cc

    never_answers : (next : ReadOp T × Turned (ReadAnswer T)) (outcome : Outcome T) → (c.op, Done (Ok outcome)) ≡ refreshed_turned names path encode epoch_of with_epoch asked next → ⊥
    never_answers (next, Goes) outcome takes = let e = ap (λ p. p.1) takes in cc
    never_answers (next, Done (Ok found)) outcome takes = never_followed (Again found) outcome takes
    never_answers (next, Done (Err number)) outcome takes = let e = ap (λ p. p.1) takes in cc

    refused : (again : Result (Claiming T) ℕ) (next : ReadOp T) (found : Option (ℕ × T)) (error : TransactionalObjectError) → Again found ≡ again → (next, Done (Ok found)) ≡ turned → (c.op, Done (Err (error_number error))) ≡ followed again → c.caches ≡ read_caches_after read a.caches (Done (Err 9)) → ReadLed (part_of read a) (Done (Err error)) c
    refused (Ok claiming) next found error is at takes leaves = let e = ap (λ p. p.1) takes in absurd (cc)
    refused (Err number) next found error is at takes leaves =
        let e = ap (λ p. p.1) takes in
        let same : by_number {A = Outcome T} (Err error) ≡ Err number = cc in
        (next, Ok found, read_ended next (Ok found) at leaves tt, (number, is, same))

    ends : (next : ReadOp T × Turned (ReadAnswer T)) (error : TransactionalObjectError) → (error_number error == 9) ≡ false → next ≡ turned → (c.op, Done (Err (error_number error))) ≡ refreshed_turned names path encode epoch_of with_epoch asked next → c.caches ≡ read_caches_after read a.caches (Done (Err 9)) → TellsErrorOf {A = Option (ℕ × T)} (reply_told reply) (Done (Err error)) → ReadLed (part_of read a) (Done (Err error)) c
    ends (next, Goes) error is at takes leaves tells = let e = ap (λ p. p.1) takes in absurd (cc)
    ends (next, Done (Ok found)) error is at takes leaves tells = refused (Again found) next found error refl at takes leaves
    ends (next, Done (Err number)) error is at takes leaves tells =
        let e = ap (λ p. p.1) takes in
        let same : error_number error ≡ number = cc in
        let here : (next, Done (Err (error_number error))) ≡ turned = ap (λ (n : ℕ). (next, Done (Err n))) same ∙ at in
        let takes' : (next, Done (Err (error_number error))) ≡ unless_lacking (error_number error == 9) read turned = subst (λ (lacking : Bool). (next, Done (Err (error_number error))) ≡ unless_lacking lacking read turned) (sym is) here in
        (next, Err error, read_ended next (Err error) takes' leaves tells, refl)

    ends_by : (lacking : Bool) (error : TransactionalObjectError) → (error_number error == 9) ≡ lacking → (c.op, Done (Err (error_number error))) ≡ unless_lacking lacking Ended (refreshed_turned names path encode epoch_of with_epoch asked turned) → c.caches ≡ read_caches_after read a.caches (Done (Err 9)) → TellsErrorOf {A = Option (ℕ × T)} (reply_told reply) (Done (Err error)) → ReadLed (part_of read a) (Done (Err error)) c
    ends_by true error is takes leaves tells =
        let nine = eqb-true (error_number error) 9 is in
        let takes' : (read, Done (Err (error_number error))) ≡ unless_lacking (error_number error == 9) read turned = subst (λ (lacking : Bool). (read, Done (Err (error_number error))) ≡ unless_lacking lacking read turned) (sym is) (ap (λ (n : ℕ). (read, Done (Err n))) nine) in
        (read, Err error, read_ended read (Err error) takes' leaves tells, refl)
    ends_by false error is takes leaves tells = ends turned error is refl takes leaves tells

    read_by : (told : Turned (Result (Outcome T) TransactionalObjectError)) → (c.op, turned_by_number told) ≡ unless_lacking (lacks_memory (turned_by_number told)) Ended (refreshed_turned names path encode epoch_of with_epoch asked turned) → c.caches ≡ read_caches_after read a.caches (said (turned_by_number told)) → TellsErrorOf (reply_told reply) told → ReadLed (part_of read a) told c
    read_by Goes takes leaves tells = reads_on turned refl takes leaves
    read_by (Done (Ok outcome)) takes leaves tells = absurd (never_answers turned outcome takes)
    read_by (Done (Err error)) takes leaves tells = ends_by (error_number error == 9) error refl takes leaves tells

  -- what a step of a claim is, by what it is at
  abbrev pub ClaimLed : Claiming T → Scene (Claiming T) → Turned (Result (Outcome T) TransactionalObjectError) → Scene (Claiming T) → Type 0
  ClaimLed (Writes write value epoch) a told c = AttemptLed path value epoch (part_of write a) told c
  ClaimLed (Reads read) a told c = ReadLed (part_of read a) told c × IsMade encode decode epoch_of c.op
  ClaimLed Ended a told c = Unit {0}

  led_by : (op : Claiming T) (a c : Scene (Claiming T)) (told : Turned (Result (Outcome T) TransactionalObjectError)) (reply : Option Reply) → Replies (claiming_asked op) a.store reply c.store → (c.op, turned_by_number told) ≡ unless_lacking (lacks_memory (turned_by_number told)) Ended (claiming_turned names path page encode decode epoch_of with_epoch asked op a.caches reply) → c.caches ≡ claiming_caches_after op a.caches (turned_by_number told) → TellsErrorOf (reply_told reply) told → (IsRefreshing op → IsMade encode decode epoch_of c.op) → LacksAsWrite op a.caches reply (lacks_memory (turned_by_number told)) → ClaimLed op a told c
  led_by (Writes write value epoch) a c told reply served takes leaves tells made short = attempt_by path write value epoch a c reply served leaves told short takes tells
  led_by (Reads read) a c told reply served takes leaves tells made short = (read_by read a c reply served told takes leaves tells, made tt)
  led_by Ended a c told reply served takes leaves tells made short = tt

  pub claim_led : (a c : Scene (Claiming T)) (told : Turned (Result (Outcome T) TransactionalObjectError)) → AttemptStepped names path page encode decode epoch_of with_epoch asked a told c → ClaimLed a.op a told c
  claim_led a c told s = led_by a.op a c told s.step.reply s.step.replies s.step.takes s.step.leaves s.step.error s.made s.short
