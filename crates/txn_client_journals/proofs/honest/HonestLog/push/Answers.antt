use Rattle.std.proofs.Common.{◌≡◌, ◌⊎◌, List, ◌++◌, ◌∷◌, [], subst}
use Rattle.txn_client_journals.specs.declared.rows.LogRow.{LogRow}
use Rattle.txn_client_journals.specs.declared.log_fault.LogFault.TheVariants as faults
use Rattle.txn_client_journals.specs.Honest.{IsHonest, IsReasonAfter}
use Rattle.txn_client_journals.proofs.OneStore.{row_taken, row_refused, reason_after}
use Rattle.txn_client_journals.proofs.honest.HonestLog.push.Goals as goal

pub invariant_of-self-in-Err-follow : goal.invariant_of-self-in-Err-follow
invariant_of-self-in-Err-follow c =
    let k = c.self.invariant in
    rw c.reserve.ensures.items (record { store = k.store; leads = k.leads; stands = (c.in-Err-follow.ensures k.store k.stands).0 })

pub returns-in-Err-follow-clause-refused : goal.returns-in-Err-follow-clause-refused
returns-in-Err-follow-clause-refused c =
    let k = c.self.invariant in
    let why = c.in-Err-follow.fault in
    let reason = (c.in-Err-follow.ensures k.store k.stands).1 in
    subst (λ (rows : List LogRow). (why ≡ faults.NoMemory) ⊎ (IsHonest (rows ++ c.args.row ∷ []) → ⊥)) c.self.view_is (row_refused c.self.inside.rows.items c.args.row c.self.inside.kept k why reason)

pub returns-in-Err-follow-clause-reason : goal.returns-in-Err-follow-clause-reason
returns-in-Err-follow-clause-reason c =
    let k = c.self.invariant in
    let why = c.in-Err-follow.fault in
    let reason = (c.in-Err-follow.ensures k.store k.stands).1 in
    subst (λ (rows : List LogRow). IsReasonAfter rows c.args.row why) c.self.view_is (reason_after c.self.inside.rows.items c.args.row c.self.inside.kept k why reason)

pub invariant_of-self-in-Ok : goal.invariant_of-self-in-Ok
invariant_of-self-in-Ok c =
    let k = c.self.invariant in
    let more = row_taken c.self.inside.rows.items c.args.row c.self.inside.kept c.follow.new.self k (c.in-Ok.ensures k.store k.stands) in
    rw (c.push_within.ensures.items, c.reserve.ensures.items) more

pub returns-in-Ok-clause-honest : goal.returns-in-Ok-clause-honest
returns-in-Ok-clause-honest c =
    let k = c.self.invariant in
    let more = row_taken c.self.inside.rows.items c.args.row c.self.inside.kept c.follow.new.self k (c.in-Ok.ensures k.store k.stands) in
    subst (λ (rows : List LogRow). IsHonest (rows ++ c.args.row ∷ [])) c.self.view_is (more.store, more.leads)
