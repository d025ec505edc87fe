-- An unchecked read of one id that runs alone from its start: what it leaves.
use Rattle.std.proofs.Common.{◌≡◌, ℕ, zero, suc, ◌<◌, ◌^◌, Bool, true, false, List, Option, Some, None, Result, refl, ap, subst, ◌∙◌, arith}
use Rattle.txn_store.specs.VersionName.{Names, version_path}
use Rattle.txn_store.specs.declared.types.error.TransactionalObjectError.{TransactionalObjectError}
use Rattle.txn_steps.specs.boundary.Asking.{unless_lacking}
use Rattle.txn_steps.specs.boundary.Steps.{turned_by_number, lacks_memory}
use Rattle.txn_steps.specs.declared.boundary.turned.Turned.{Turned}
use Rattle.txn_steps.specs.declared.boundary.turned.Turned.TheVariants.{Goes, Done}
use Rattle.txn_steps.specs.Requests.{version_got}
use Rattle.txn_steps.specs.SeenSteps.{or_lacks_memory, value_got, unchecked_turned}
use Rattle.txn_steps.specs.declared.seen.ReadUncheckedOp.{ReadUncheckedOp}
use Rattle.txn_steps_driven.specs.declared.drive_version.ReadVersion.{ReadVersion}
use Rattle.txn_steps_driven.specs.DriveRuns.{Scene, GoesOn, Drives}
use Rattle.txn_steps_driven.specs.DriveSteps.{ReadVersionSteps}
use Rattle.txn_steps_laws.specs.DrivenReads.{UncheckedReadDriven}
use Rattle.txn_steps_driven.proofs.LatestTurns.{asked_get}
use Rattle.txn_steps_driven.proofs.VersionLemmas.{reads_version}

-- a growth that is refused leaves what was
pub lacking_stays : {O A : Type 0} (lacks : Bool) (op : O) (told : Turned (Result A ℕ)) → unless_lacking lacks op (op, told) ≡ (op, or_lacks_memory lacks told)
lacking_stays true op told = refl
lacking_stays false op told = refl

module _ {T : Type 0} (names : Names) (decode : List ℕ → Option T) (id : ℕ) (small : id < 2 ^ 64) (a : Scene (ReadVersion T)) (starts : a.op.op ≡ record { request = version_got names id }) where
  asks : a.op.op.request ≡ version_got names id
  asks = ap (λ (op : ReadUncheckedOp). op.request) starts

  -- what it tells, by its number
  turned : (b : Scene (ReadVersion T)) (told : Turned (Result (Option T) TransactionalObjectError)) (step : ReadVersionSteps decode a told b) → turned_by_number told ≡ or_lacks_memory (lacks_memory (turned_by_number told)) (unchecked_turned decode step.reply)
  turned b told step = ap (λ p. p.1) (step.takes ∙ lacking_stays (lacks_memory (turned_by_number told)) a.op (unchecked_turned decode step.reply))

  -- its first step ends it
  never_goes : (b : Scene (ReadVersion T)) → ReadVersionSteps decode a Goes b → ⊥
  never_goes b step =
      let got = asked_get (version_path names id) a.op.op.request a.store b.store step.reply asks step.replies in
      let told : Goes ≡ unchecked_turned decode step.reply = turned b Goes step in
      let done : Goes ≡ Done (value_got decode got.0) = told ∙ ap (unchecked_turned decode) got.1 in
      cc

  still : (n : ℕ) (b : Scene (ReadVersion T)) → GoesOn (ReadVersionSteps decode) n a b → (n ≡ 0) × (b ≡ a)
  still zero b same = (refl, same)
  still (suc n) c (b, on, step) = absurd (never_goes c (subst (λ s. ReadVersionSteps decode s Goes c) (still n b on).1 step))

  pub unchecked_read_driven : (steps : ℕ) (result : Option (Result (Option T) TransactionalObjectError)) (b : Scene (ReadVersion T)) → Drives (ReadVersionSteps decode) steps a result b → UncheckedReadDriven names decode id steps a result b
  unchecked_read_driven steps None b on = let none = (still steps b on).0 in omega (arith, none)
  unchecked_read_driven steps (Some answer) c (n, b, within, on, step) =
      let first : ReadVersionSteps decode a (Done answer) c = subst (λ s. ReadVersionSteps decode s (Done answer) c) (still n b on).1 step in
      (reads_version names decode a.store c.store id a.op.op.request first.reply (lacks_memory (turned_by_number (Done answer))) answer small asks first.replies (turned c (Done answer) first) first.error, first.leaves)
