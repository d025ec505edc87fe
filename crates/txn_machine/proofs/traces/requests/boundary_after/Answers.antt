use Rattle.std.proofs.Common.{◌≡◌, true, false, cond, Some, sym, ap, ◌∙◌, unwrap_or}
use Rattle.txn_store.specs.types.BoundaryText.{boundary_read}
use Rattle.txn_history.specs.History.{is_boundary, boundary_said}
use Rattle.txn_machine.specs.traces.Beside.{boundary_after}
use Rattle.txn_history.proofs.Apart.{same_path}
use Rattle.txn_machine.proofs.traces.requests.boundary_after.Goals as goal

pub returns-in-Put : goal.returns-in-Put
returns-in-Put c =
    let is : is_boundary c.in-Put.path ≡ true = same_path c.in-Put.path c.args.file.now c.requires c.eq.result c.eq.ensures ∙ c.if-eq.true in
    (c.unwrap_or.ensures ∙ ap (λ o. unwrap_or o 0) (c.read_boundary.ensures ∙ ap boundary_read c.deref.ensures))
    ∙ (sym (ap (λ b. cond b (boundary_said (Some c.in-Put.bytes)) c.args.before) is) ∙ sym (ap (boundary_after c.args.before) c.in-Put.is))

pub returns-in-Delete : goal.returns-in-Delete
returns-in-Delete c =
    let is : is_boundary c.in-Delete.path ≡ true = same_path c.in-Delete.path c.args.file.now c.requires true c.if-eq-2.ensures in
    sym (ap (λ b. cond b 0 c.args.before) is) ∙ sym (ap (boundary_after c.args.before) c.in-Delete.is)

pub returns-in_default : goal.returns-in_default
returns-in_default c =
    let is : is_boundary c.in-Put.path ≡ false = same_path c.in-Put.path c.args.file.now c.requires c.eq.result c.eq.ensures ∙ c.if-eq.false in
    sym (ap (λ b. cond b (boundary_said (Some c.in-Put.bytes)) c.args.before) is) ∙ sym (ap (boundary_after c.args.before) c.in-Put.is)

pub returns-in_default-2 : goal.returns-in_default-2
returns-in_default-2 c =
    let is : is_boundary c.in-Delete.path ≡ false = same_path c.in-Delete.path c.args.file.now c.requires false c.if-eq-2.ensures in
    sym (ap (λ b. cond b 0 c.args.before) is) ∙ sym (ap (boundary_after c.args.before) c.in-Delete.is)
