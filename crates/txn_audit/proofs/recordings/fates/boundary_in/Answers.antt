use Rattle.std.proofs.Common.{◌≡◌, true, false, cond, Some, sym, ap, ◌∙◌, unwrap_or}
use Rattle.txn_store.specs.types.BoundaryText.{boundary_read}
use Rattle.txn_history.specs.History.{is_boundary, boundary_said}
use Rattle.txn_history.proofs.Apart.{same_path}
use Rattle.txn_audit.proofs.recordings.fates.boundary_in.Goals as goal

pub returns-then-eq : goal.returns-then-eq
returns-then-eq c =
    let path = c.args.file.path.now in
    let is : is_boundary path ≡ true = same_path path c.args.path.now c.requires c.eq.result c.eq.ensures ∙ c.if-eq.true in
    (c.unwrap_or.ensures ∙ ap (λ o. unwrap_or o 0) (c.read_boundary.ensures ∙ ap boundary_read c.deref.ensures)) ∙ sym (ap (λ b. cond b (boundary_said (Some c.args.file.bytes.now)) 0) is)

pub returns-else-eq : goal.returns-else-eq
returns-else-eq c =
    let path = c.args.file.path.now in
    let is : is_boundary path ≡ false = same_path path c.args.path.now c.requires c.eq.result c.eq.ensures ∙ c.if-eq.false in
    sym (ap (λ b. cond b (boundary_said (Some c.args.file.bytes.now)) 0) is)
