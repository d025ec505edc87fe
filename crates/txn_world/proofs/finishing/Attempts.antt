-- An attempt of a claim on the newest version is the last one: its create and its check succeed, or it is refused for another reason.
use Rattle.std.proofs.Common.{◌≡◌, ℕ, ◌+◌, ◌<◌, ◌^◌, ◌==◌, if◌then◌else◌, Bool, true, false, List, Option, Some, None, Ok, Err, Result, inl, inr, refl, sym, ◌∙◌, ap, subst, arith, is_some}
use Rattle.std.specs.FinMap.{get, insert}
use Rattle.std.proofs.lemmas.Bool.{cases_lt}
use Rattle.std.proofs.lemmas.Option.{same_Some}
use Rattle.txn_store.specs.VersionName.{version_path}
use Rattle.txn_store.specs.Store.{Files, State as StoreState, Puts, create_fault}
use Rattle.txn_store.specs.Requests.{Serves}
use Rattle.txn_store.specs.declared.store.Got.{Got}
use Rattle.txn_store.specs.declared.store.PutMode.TheVariants.{Create}
use Rattle.txn_store.specs.declared.store.StoreError.{StoreError}
use Rattle.txn_store.specs.declared.store.StoreError.TheVariants as errors
use Rattle.txn_store.specs.declared.request.Request.{Request}
use Rattle.txn_store.specs.declared.request.Reply.{Reply}
use Rattle.txn_store.specs.declared.request.Reply.TheVariants as replies
use Rattle.txn_store.proofs.FileLemmas.{get-insert_same, get-insert_other}
use Rattle.txn_store.proofs.VersionOfLemmas.{one_path}
use Rattle.txn_steps.specs.declared.boundary.caches.Cached.{Cached}
use Rattle.txn_steps.specs.declared.boundary.caches.CachedBoundary.{CachedBoundary}
use Rattle.txn_steps.specs.declared.boundary.caches.Caches.{Caches}
use Rattle.txn_steps.specs.declared.boundary.check.BoundaryCheck.{BoundaryCheck}
use Rattle.txn_steps.specs.declared.boundary.check.CheckOp.{CheckOp}
use Rattle.txn_steps.specs.declared.boundary.check.CheckOp.TheVariants as checks
use Rattle.txn_steps.specs.declared.boundary.turned.Turned.{Turned}
use Rattle.txn_steps.specs.declared.boundary.turned.Turned.TheVariants.{Goes, Done}
use Rattle.txn_steps.specs.boundary.BoundaryChecks.{boundary_check_turned}
use Rattle.txn_steps.specs.boundary.Checks.{check_asked, check_turned, checks_turned as check_told}
use Rattle.txn_steps.specs.declared.write.WriteUncheckedOp.{WriteUncheckedOp}
use Rattle.txn_steps.specs.declared.write.WriteUncheckedOp.TheVariants as unchecked
use Rattle.txn_steps.specs.declared.write.WriteStep.{WriteStep}
use Rattle.txn_steps.specs.declared.write.WriteStep.TheVariants as writes
use Rattle.txn_steps.specs.declared.write.WriteOp.{WriteOp}
use Rattle.txn_steps.specs.Writes.{unchecked_asked, unchecked_turned, put_answered, write_asked_at, write_asked, written_turned, checked_turned, write_turned_at, write_turned, IsUncheckedReply, IsWriteReplyAt, IsWriteReply}
use Rattle.txn_history.specs.Trace.{PlainRow}
use Rattle.txn_history.specs.declared.event.PlainCall.{PlainCall}
use Rattle.txn_history.specs.Names.{world_names}
use Rattle.txn_history.specs.History.{newest, boundary}
use Rattle.txn_machine.proofs.plain.Parts.{check_asks}
use Rattle.txn_machine.proofs.plain.Stands.{CheckStands, PuttingStands, UncheckedStands, WriteStands, KnowStands}
use Rattle.txn_machine.proofs.plain.Stored.{there_above}
use Rattle.txn_world.proofs.finishing.Quiet.{quiet_files, newest_same}

told_five : (b : Bool) (n number checked : ℕ) (check : BoundaryCheck) → (n == 5) ≡ b → (if◌then◌else◌ {A = CheckOp × Turned (Result (Unit {0}) ℕ)} b (checks.Drops checked, Goes) (checks.Checks check, Done (Err n))).1 ≡ Done (Err number) → (number == 5) ≡ false
told_five true n number checked check five e = cc
told_five false n number checked check other e = (let is : n ≡ number = cc in ap (λ (i : ℕ). i == 5) (sym is) ∙ other)

module _ {T : Type 0} where
  -- it creates the version after the newest, or has created it
  abbrev pub FinalWrite : List (PlainRow T) → ℕ → WriteUncheckedOp → Type 0
  FinalWrite rows id (unchecked.Puts version request) = id ≡ newest rows + 1
  FinalWrite rows id (unchecked.Keeps version) = id ≡ newest rows
  FinalWrite rows id unchecked.Ended = ⊥

  abbrev pub FinalAt : List (PlainRow T) → WriteStep → WriteOp → Type 0
  FinalAt rows writes.Writes write = FinalWrite rows write.id write.write
  FinalAt rows writes.Checks write = write.id ≡ newest rows

  abbrev pub Final : List (PlainRow T) → WriteOp → Type 0
  Final rows write = FinalAt rows write.step write

  -- it goes on so, and meets no conflict
  abbrev pub FinalOn : List (PlainRow T) → WriteOp × Turned (Result ℕ ℕ) → Type 0
  FinalOn rows (write, Goes) = Final rows write
  FinalOn rows (write, Done (Ok id)) = Unit {0}
  FinalOn rows (write, Done (Err number)) = (number == 5) ≡ false

  final_write_same : (rows others : List (PlainRow T)) (id : ℕ) (write : WriteUncheckedOp) → newest rows ≡ newest others → FinalWrite rows id write → FinalWrite others id write
  final_write_same rows others id (unchecked.Puts version request) e f = omega (arith, e, f)
  final_write_same rows others id (unchecked.Keeps version) e f = f ∙ e
  final_write_same rows others id unchecked.Ended e f = f

  final_at_same : (rows others : List (PlainRow T)) (step : WriteStep) (write : WriteOp) → newest rows ≡ newest others → FinalAt rows step write → FinalAt others step write
  final_at_same rows others writes.Writes write e f = final_write_same rows others write.id write.write e f
  final_at_same rows others writes.Checks write e f = f ∙ e

  pub final_same : (rows others : List (PlainRow T)) (write : WriteOp) → newest rows ≡ newest others → Final rows write → Final others write
  final_same rows others write e f = final_at_same rows others write.step write e f

-- a look has no reply; else the store serves what is asked for
abbrev pub WriteGiven : WriteOp → StoreState → Option Reply → StoreState → Type 0
WriteGiven write old None new = new ≡ old
WriteGiven write old (Some reply) new = (request : Request) × (write_asked write ≡ Some request) × Serves request old reply new × (new.failures ≡ 0)

module _ {T : Type 0} (decode : List ℕ → Option T) (get_epoch : T → ℕ) (failed others : List ℕ) (rows after : List (PlainRow T)) (store new : StoreState) (k : KnowStands decode get_epoch failed rows store) (k' : KnowStands decode get_epoch others after new) where
  -- where the files stay, so does the newest
  stays : new.files ≡ store.files → newest rows ≡ newest after
  stays same = newest_same decode get_epoch failed others rows after store new k k' same

  -- the created version is the newest now
  created_newest : (id : ℕ) (got : Got) → id < 2 ^ 64 → id ≡ newest rows + 1 → new.files ≡ insert store.files (version_path world_names id) got → id ≡ newest after
  created_newest id got fits is placed =
      let here : get new.files (version_path world_names id) ≡ Some got = ap (λ (files : Files). get files (version_path world_names id)) placed ∙ get-insert_same store.files (version_path world_names id) got in
      let known = k'.files.within id fits (ap is_some here) in
      let least = known.1 in
      elim (cases_lt id (newest after)) [
        | inr most ↦ omega (arith, least, most)
        | inl more ↦ absurd (
            let small = k'.history.small in
            let above : boundary after < newest after = elim k'.history.gap [ inl lt ↦ lt | inr none ↦ absurd (let zero = none.0 in omega (arith, zero, more)) ] in
            let there = there_above decode get_epoch others after new k' (newest after) above (omega arith) in
            let apart : get new.files (version_path world_names (newest after)) ≡ get store.files (version_path world_names (newest after)) =
            ap (λ (files : Files). get files (version_path world_names (newest after))) placed ∙ get-insert_other store.files (version_path world_names id) (version_path world_names (newest after)) got (λ e. (let same = one_path world_names (newest after) id small fits e in omega (arith, same, more))) in
            let old = k.files.within (newest after) small (ap is_some (sym apart) ∙ there) in
            let top = old.1 in
            omega (arith, top, is, more)
            )
      ]

  -- the version after the newest has no file
  none_after : (id : ℕ) → id < 2 ^ 64 → id ≡ newest rows + 1 → create_fault (get store.files (version_path world_names id)) ≡ Some errors.AlreadyExists → ⊥
  none_after id fits is e = by (get store.files (version_path world_names id)) refl e
    where
      by : (found : Option Got) → get store.files (version_path world_names id) ≡ found → create_fault found ≡ Some errors.AlreadyExists → ⊥
      by None same e = cc
      by (Some got) same e = (let known = k.files.within id fits (ap is_some same) in let top = known.1 in omega (arith, top, is))

  module _ (cached : Option CachedBoundary) (op : ℕ) (call : PlainCall T) (write : WriteOp) where
    -- after its put
    put_on : (version : Cached) (request : Request) (answer : Result ℕ StoreError) → write.step ≡ writes.Writes → PuttingStands decode get_epoch rows op call write.id version request → Serves request store (replies.Put answer) new → write.id ≡ newest rows + 1 →
        FinalOn after (written_turned write (put_answered (unchecked.Puts version request) answer))
    put_on version request answer e p serves is = served answer (subst (λ (r : Request). Serves r store (replies.Put answer) new) p.asks serves)
      where
        version_is : version.id ≡ newest rows + 1
        version_is = p.id_is ∙ is

        served : (answer : Result ℕ StoreError) → Puts (version_path world_names version.id) version.bytes Create store answer new → FinalOn after (written_turned write (put_answered (unchecked.Puts version request) answer))
        served (Ok token) s = rw e (sym p.id_is ∙ created_newest version.id (record { bytes = version.bytes; token = token }) p.creates.fits version_is s.placed.files)
        served (Err errors.AlreadyExists) s = absurd (none_after version.id p.creates.fits version_is s.err.0)
        served (Err errors.NotFound) s = refl
        served (Err errors.NotModified) s = refl
        served (Err errors.Failed) s = refl
        served (Err errors.NoMemory) s = refl
        served (Err errors.TokensExhausted) s = refl
        served (Err errors.Precondition) s = refl

    writes_on : (inner : WriteUncheckedOp) (reply : Option Reply) → write.write ≡ inner → write.step ≡ writes.Writes → UncheckedStands decode get_epoch rows op call write.id inner → IsUncheckedReply inner reply →
        ((told : Reply) → reply ≡ Some told → (request : Request) → unchecked_asked inner ≡ Some request → Serves request store told new) → (reply ≡ None → new ≡ store) → FinalWrite rows write.id inner → FinalOn after (written_turned write (unchecked_turned inner reply))
    writes_on (unchecked.Puts version request) (Some (replies.Put answer)) w e p is serves looks f = put_on version request answer e p (serves (replies.Put answer) refl request refl) f
    writes_on (unchecked.Puts version request) (Some (replies.Get answer)) w e p is serves looks f = absurd is
    writes_on (unchecked.Puts version request) (Some (replies.List answer)) w e p is serves looks f = absurd is
    writes_on (unchecked.Puts version request) (Some (replies.Delete answer)) w e p is serves looks f = absurd is
    writes_on (unchecked.Puts version request) None w e p is serves looks f = absurd is
    writes_on (unchecked.Keeps version) None w e p is serves looks f = f ∙ stays (ap (λ (s : StoreState). s.files) (looks refl))
    writes_on (unchecked.Keeps version) (Some told) w e p is serves looks f = absurd is
    writes_on unchecked.Ended reply w e p is serves looks f = absurd f

    -- its check is not refused
    checked_on : (x : CheckOp × Turned (Result (Unit {0}) ℕ)) → write.step ≡ writes.Checks → write.id ≡ newest after → ((number : ℕ) → x.1 ≡ Done (Err number) → (number == 5) ≡ false) → FinalOn after (checked_turned write x)
    checked_on (check, Goes) e is fair = rw e is
    checked_on (check, Done (Ok accepted)) e is fair = tt
    checked_on (check, Done (Err number)) e is fair = fair number refl

    told_fair : (checked : ℕ) (told : BoundaryCheck × Turned (Result (Unit {0}) ℕ)) (number : ℕ) → (check_told checked told).1 ≡ Done (Err number) → (number == 5) ≡ false
    told_fair checked (check, Goes) number e = cc
    told_fair checked (check, Done (Ok accepted)) number e = cc
    told_fair checked (check, Done (Err n)) number e = told_five (n == 5) n number checked check refl e

    check_fair : (Q : Type 0) (check : CheckOp) (caches : Caches) (reply : Option Reply) (number : ℕ) → CheckStands rows store cached write.id Q check → write.id ≡ newest rows → 0 < write.id → (check_turned check caches reply).1 ≡ Done (Err number) → (number == 5) ≡ false
    check_fair Q (checks.Checks check) caches reply number h is some e = told_fair check.id (boundary_check_turned check caches.boundary reply) number e
    check_fair Q (checks.Drops i) caches reply number h is some e =
        absurd (let below = h.1 in elim k.history.gap [ inl lt ↦ omega (arith, lt, is, below) | inr none ↦ (let zero = none.0 in omega (arith, zero, is, some)) ])

  pub final_step : (op : ℕ) (call : PlainCall T) (write : WriteOp) (caches : Caches) (reply : Option Reply) → WriteStands decode get_epoch rows store caches.boundary op call write.step write → IsWriteReply write reply → WriteGiven write store reply new → Final rows write → FinalOn after (write_turned write caches reply)
  final_step op call write caches reply h is given f = by write.step refl h is f
    where
      looks : reply ≡ None → new ≡ store
      looks e = subst (λ (r : Option Reply). WriteGiven write store r new) e given

      serves : (told : Reply) → reply ≡ Some told → (request : Request) → write_asked write ≡ Some request → Serves request store told new × (new.failures ≡ 0)
      serves told e request asks =
          let g : WriteGiven write store (Some told) new = subst (λ (r : Option Reply). WriteGiven write store r new) e given in
          (subst (λ (r : Request). Serves r store told new) (same_Some g.0 request (sym g.1 ∙ asks)) g.2, g.3)

      by : (step : WriteStep) → write.step ≡ step → WriteStands decode get_epoch rows store caches.boundary op call step write → IsWriteReplyAt step write reply → FinalAt rows step write → FinalOn after (write_turned_at write.step write caches reply)
      by writes.Writes e st given' final = subst (λ (s : WriteStep). FinalOn after (write_turned_at s write caches reply)) (sym e) (writes_on caches.boundary op call write write.write reply refl e st.0 given' (λ told at request asks. (serves told at request (ap (λ (s : WriteStep). write_asked_at s write) e ∙ asks)).0) looks final)
      by writes.Checks e st given' final =
          let same : new.files ≡ store.files = files_stay reply refl in
          subst (λ (s : WriteStep). FinalOn after (write_turned_at s write caches reply)) (sym e) (checked_on caches.boundary op call write (check_turned write.check caches reply) e (final ∙ stays same)
          (λ number told. check_fair caches.boundary op call write _ write.check caches reply number st.checks final (let next = st.next in omega (arith, next)) told))
        where
          files_stay : (r : Option Reply) → reply ≡ r → new.files ≡ store.files
          files_stay None at = ap (λ (s : StoreState). s.files) (looks at)
          files_stay (Some told) at =
              let g : WriteGiven write store (Some told) new = subst (λ (r : Option Reply). WriteGiven write store r new) at given in
              let asks : check_asked write.check ≡ Some g.0 = ap (λ (s : WriteStep). write_asked_at s write) (sym e) ∙ g.1 in
              quiet_files g.0 told store new (check_asks rows store caches.boundary write.id _ write.check g.0 st.checks asks) g.2 g.3
