use Rattle.std.proofs.Common.{refl}
use Rattle.std.proofs.lemmas.Result.{err_from_is_err_and}
use Rattle.txnobj.specs.Objects.{Barred, Written, Unwritten}
use Rattle.txnobj.proofs.simple.SimpleTransactionalObject.update_as.Goals as goal

pub returns-in_err-test_all : goal.returns-in_err-test_all
returns-in_err-test_all g c =
    let p = err_from_is_err_and c.from_residual.result c.from_residual.ensures.1 in
    rw (p.1, p.2) (Barred c.in_err-test_all.field-0.0 (c.if-not-is.ensures.0 refl) (rw c.as_slice.ensures.value at c.in_err-test_all.ensures.tested) refl refl refl)

pub returns-in_err-viewed : goal.returns-in_err-viewed
returns-in_err-viewed g c =
    let p = err_from_is_err_and c.from_residual-in_err-viewed.result c.from_residual-in_err-viewed.ensures.1 in
    rw (p.1, p.2) (Unwritten _ (c.if-not-is.ensures.0 refl) (rw c.as_slice.ensures.value at c.in_ok-test_all.ensures.tested) (rw c.update_call.ensures at c.in_err-viewed.ensures) refl refl)

pub returns : goal.returns
returns g c =
    Written c.in_ok-viewed.viewed (c.if-not-is.ensures.0 refl) (rw c.as_slice.ensures.value at c.in_ok-test_all.ensures.tested) (rw c.update_call.ensures at c.in_ok-viewed.ensures) refl c.move_to.ensures
