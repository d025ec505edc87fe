-- A read of the newest version as the part of a call on a view: an answer ends it.
use Rattle.std.specs.Prelude.{◌≡◌, ℕ, Option, Result, Ok, Err}
use Rattle.txn_steps.specs.declared.boundary.turned.Turned.{Turned}
use Rattle.txn_steps.specs.declared.boundary.turned.Turned.TheVariants.{Goes, Done}
use Rattle.txn_steps.specs.declared.read.ReadOp.{ReadOp}
use Rattle.txn_steps.specs.declared.read.ReadOp.TheVariants.{Ended}
use Rattle.txn_steps.specs.Latest.{ReadAnswer}
use Rattle.txn_steps_views.specs.declared.outcome.Outcome.{Outcome}

module _ {T : Type 0} where
  -- A call on a view is answered where its read is: with what it makes of the version that was found, or of none, or with the error of the read.
  abbrev pub seen : {O : Type 0} → (ReadOp T → O) → (Option (ℕ × T) → Result (Outcome T) ℕ) → ReadOp T × Turned (ReadAnswer T) → O × Turned (Result (Outcome T) ℕ)
  seen as_read see (read, Goes) = (as_read read, Goes)
  seen as_read see (read, Done (Ok found)) = (as_read Ended, Done (see found))
  seen as_read see (read, Done (Err number)) = (as_read Ended, Done (Err number))

  -- What a read says for what it leaves of the caches: whether it goes on. A step that caches a version that it found ends it with an error alone.
  abbrev pub said : {A : Type 0} → Turned A → Turned (ReadAnswer T)
  said Goes = Goes
  said (Done answer) = Done (Err 9)

  -- a call goes on or is refused where its read does, and else either way
  abbrev pub GoesAs : Turned (ReadAnswer T) → Turned (Result (Outcome T) ℕ) → Type 0
  GoesAs Goes answer = answer ≡ Goes
  GoesAs (Done (Ok found)) answer = Unit {0}
  GoesAs (Done (Err number)) answer = answer ≡ Done (Err number)

  -- a fact where it answers a version, or that there is none
  abbrev pub OnAnswer : Turned (ReadAnswer T) → Type 0 → Type 0
  OnAnswer Goes P = Unit {0}
  OnAnswer (Done (Ok found)) P = P
  OnAnswer (Done (Err number)) P = Unit {0}
