-- A write on a version stands where there is a next id, and so does a claim's attempt.
use Rattle.std.proofs.Common.{◌≡◌, ℕ, ◌+◌, ◌<◌, ◌≤◌, List, Bool, true, false, if◌then◌else◌, ◌==◌, nat_le, Option, Some, None, Ok, Err, inl, inr, refl, subst, arith}
use Rattle.std.proofs.lemmas.Bool.{cases_lt, eqb-true, both_ways, leb-true, le-leb}
use Rattle.txn_store.specs.declared.types.error.TransactionalObjectError.TheVariants.{Fenced, IdExhausted}
use Rattle.txn_history.specs.History.{newest, IsEntry, epoch_at}
use Rattle.txn_history.specs.Calls.{was_begun, IsCall}
use Rattle.txn_history.specs.Facts.{greatest}
use Rattle.txn_history.specs.declared.event.ViewCall.TheVariants as view_calls
use Rattle.txn_history.specs.declared.event.Call.{Call}
use Rattle.txn_history.specs.declared.event.Call.TheVariants as any
use Rattle.txn_history.specs.OneHistory.{AnswerFits}
use Rattle.txn_machine.specs.views.Layer.{Inner, Writes, Layer, Next, Goes, refused}
use Rattle.txn_machine.specs.views.Parts.{refusing, written, claimed, attempted, HasEpoch}
use Rattle.txn_machine.proofs.views.History.{entry_within, epoch_is}
use Rattle.txn_machine.proofs.views.Stands.{WriteStands, Attempts, OwnFenced, Stands, NextStands}
use Rattle.txn_machine.proofs.views.Shows.{op_as, refusing_stands}

module _ {T : Type 0} (decode : List ℕ → Option T) (get_epoch : T → ℕ) (set_epoch : T → ℕ → T) (s : Layer T) (st : Stands decode get_epoch set_epoch s) (op client : ℕ) where
  -- what a call does next stands
  abbrev pub NextFits : Call T → Inner T → Next T → Type 0
  NextFits call inner next = NextStands decode get_epoch set_epoch s.failed s.rows s.views s.count op (op_as client call inner) next

  -- a write on a version, where there is a next id
  pub written_stands : (call : Call T) (inner : Inner T) (id : ℕ) (value : T) (epoch : ℕ) → HasEpoch get_epoch (written call id value epoch) → (id ≡ greatest → AnswerFits decode get_epoch s.failed s.rows op call (refused 10)) →
      (get_epoch value ≡ epoch → (WriteStands decode get_epoch set_epoch s.rows op call id value × Attempts decode get_epoch set_epoch s.rows call id value epoch) × OwnFenced decode get_epoch set_epoch s.rows op) →
      NextFits call inner (written call id value epoch)
  written_stands call inner id value epoch has last write = by (id == greatest) refl has
    where
      by : (b : Bool) → (id == greatest) ≡ b → HasEpoch get_epoch (if b then refusing call 10 else Goes (Writes id value epoch)) → NextFits call inner (if b then refusing call 10 else Goes (Writes id value epoch))
      by true e has = refusing_stands decode get_epoch set_epoch s st op client call inner 10 (last (eqb-true id greatest e))
      by false e has = write has

  -- an entry of the greatest id is the newest
  pub last_id : (id : ℕ) (value : T) → IsEntry decode s.rows id value → id ≡ greatest → greatest ≤ newest s.rows
  last_id id value there e = subst (λ (n : ℕ). n ≤ newest s.rows) e (entry_within decode get_epoch set_epoch s.failed s.rows id value there).1

  rises_to : (id : ℕ) (old value : T) (epoch : ℕ) → IsEntry decode s.rows id old → get_epoch old < epoch → get_epoch value ≡ epoch → epoch_at decode get_epoch s.rows id ≤ get_epoch value
  rises_to id old value epoch there lt has = (let at = epoch_is decode get_epoch set_epoch s.failed s.rows id old there in omega (arith, at, lt, has))

  -- the attempt of a claim

  pub claim_stands : (number : ℕ) (inner : Inner T) (id : ℕ) (found : T) → HasEpoch get_epoch (attempted get_epoch set_epoch (any.View (view_calls.Claim number)) None id found) → IsCall s.rows op (any.View (view_calls.Claim number)) → was_begun s.rows op ≡ true → IsEntry decode s.rows id found → OwnFenced decode get_epoch set_epoch s.rows op →
      NextFits (any.View (view_calls.Claim number)) inner (attempted get_epoch set_epoch (any.View (view_calls.Claim number)) None id found)
  claim_stands number inner id found has called begun there fenced = by (get_epoch found == greatest) refl has
    where
      by : (b : Bool) → (get_epoch found == greatest) ≡ b → HasEpoch get_epoch (claimed set_epoch (any.View (view_calls.Claim number)) id found (if b then Err IdExhausted else Ok (get_epoch found + 1))) →
          NextFits (any.View (view_calls.Claim number)) inner (claimed set_epoch (any.View (view_calls.Claim number)) id found (if b then Err IdExhausted else Ok (get_epoch found + 1)))
      by true e has =
          let top = eqb-true (get_epoch found) greatest e in
          refusing_stands decode get_epoch set_epoch s st op client (any.View (view_calls.Claim number)) inner 10 (inl (inl (refl, record { id = id; value = found; entry = there; high = omega (arith, top) })))
      by false e has =
          written_stands (any.View (view_calls.Claim number)) inner id (set_epoch found (get_epoch found + 1)) (get_epoch found + 1) has
          (λ last. inl (inr (inr (refl, last_id id found there last))))
          (λ own. (
            (
              record {
                called = called;
                begun = begun;
                known = (entry_within decode get_epoch set_epoch s.failed s.rows id found there).1;
                written = record { old = found; found = there; raised = refl };
                rises = rises_to id found (set_epoch found (get_epoch found + 1)) (get_epoch found + 1) there (omega arith) own;
                may = tt;
              },
              record { has = own; old = found; entry = there; smaller = omega arith },
            ),
            fenced,
          ))

  pub claim_at_stands : (number at : ℕ) (inner : Inner T) (id : ℕ) (found : T) → HasEpoch get_epoch (attempted get_epoch set_epoch (any.View (view_calls.ClaimAt number at)) (Some at) id found) → IsCall s.rows op (any.View (view_calls.ClaimAt number at)) → was_begun s.rows op ≡ true → IsEntry decode s.rows id found → OwnFenced decode get_epoch set_epoch s.rows op →
      NextFits (any.View (view_calls.ClaimAt number at)) inner (attempted get_epoch set_epoch (any.View (view_calls.ClaimAt number at)) (Some at) id found)
  claim_at_stands number at inner id found has called begun there fenced = by (nat_le at (get_epoch found)) refl has
    where
      by : (b : Bool) → nat_le at (get_epoch found) ≡ b → HasEpoch get_epoch (claimed set_epoch (any.View (view_calls.ClaimAt number at)) id found (if b then Err Fenced else Ok at)) →
          NextFits (any.View (view_calls.ClaimAt number at)) inner (claimed set_epoch (any.View (view_calls.ClaimAt number at)) id found (if b then Err Fenced else Ok at))
      by true e has = refusing_stands decode get_epoch set_epoch s st op client (any.View (view_calls.ClaimAt number at)) inner 6 (inl (inl (refl, record { id = id; value = found; entry = there; high = leb-true at (get_epoch found) e })))
      by false e has =
          let lt : get_epoch found < at = elim (cases_lt (get_epoch found) at) [ inl h ↦ h | inr h ↦ absurd (both_ways (nat_le at (get_epoch found)) e (le-leb at (get_epoch found) h)) ] in
          written_stands (any.View (view_calls.ClaimAt number at)) inner id (set_epoch found at) at has
          (λ last. inl (inr (inr (refl, last_id id found there last))))
          (λ own. (
            (
              record {
                called = called;
                begun = begun;
                known = (entry_within decode get_epoch set_epoch s.failed s.rows id found there).1;
                written = record { old = found; found = there; higher = lt; raised = refl };
                rises = rises_to id found (set_epoch found at) at there lt own;
                may = tt;
              },
              (record { has = own; old = found; entry = there; smaller = lt }, refl),
            ),
            fenced,
          ))
