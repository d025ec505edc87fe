-- Attempts of claims that lack memory.
use Rattle.std.specs.Prelude.{◌≡◌, ◌⊎◌, ℕ, Bool, true, Option, Result, Ok, Err}
use Rattle.txn_store.specs.declared.request.Reply.{Reply}
use Rattle.txn_steps.specs.declared.boundary.caches.Caches.{Caches}
use Rattle.txn_steps.specs.declared.boundary.turned.Turned.{Turned}
use Rattle.txn_steps.specs.declared.boundary.turned.Turned.TheVariants.{Goes, Done}
use Rattle.txn_steps.specs.Writes.{write_turned}
use Rattle.txn_steps_views.specs.declared.claiming.Claiming.{Claiming}
use Rattle.txn_steps_views.specs.declared.claiming.Claiming.TheVariants.{Writes, Reads, Ended}

-- the write was overtaken, so that a read is to be made, or it lacked memory itself
abbrev pub IsShort : Turned (Result ℕ ℕ) → Type 0
IsShort (Done (Err number)) = (number ≡ 5) ⊎ (number ≡ 9)
IsShort (Done (Ok id)) = ⊥
IsShort Goes = ⊥

-- an attempt lacks memory only where its write ended so
abbrev pub LacksAsWrite : {T : Type 0} → Claiming T → Caches → Option Reply → Bool → Type 0
LacksAsWrite (Writes write value epoch) caches reply lacks = lacks ≡ true → IsShort (write_turned write caches reply).1
LacksAsWrite (Reads read) caches reply lacks = Unit {0}
LacksAsWrite Ended caches reply lacks = Unit {0}
