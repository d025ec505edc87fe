use Rattle.std.proofs.Common.{refl, sym, ◌∙◌}
use Rattle.std.proofs.lemmas.Result.{err_from_is_err_and}
use Rattle.txnobj.specs.Collecting.{NotRead, NoVersion, NoneBelow, NotRaised, NotListed, Deletes}
use Rattle.txnobj.proofs.protocol.TransactionalStorageProtocol.collect_below.Goals as goal

pub returns-in_err-found : goal.returns-in_err-found
returns-in_err-found g c =
    let p = err_from_is_err_and c.from_residual.result c.from_residual.ensures.1 in
    rw (p.1, p.2) (NotRead _ c.in_err-found.ensures refl)

pub returns-then-end-le1 : goal.returns-then-end-le1
returns-then-end-le1 g c =
    NoneBelow c.in-Some.end (record {
      found = c.in_ok-found.found;
      read = c.in_ok-found.ensures;
      end_is = sym c.end_of.ensures ∙ c.in-Some.is;
    }) c.if-end-le1.true refl

pub returns-in_err-advance : goal.returns-in_err-advance
returns-in_err-advance g c =
    let p = err_from_is_err_and c.from_residual-in_err-advance.result c.from_residual-in_err-advance.ensures.1 in
    rw (p.1, p.2) (NotRaised c.in-Some.end c.try_read_latest.new.self _ (record {
      found = c.in_ok-found.found;
      read = c.in_ok-found.ensures;
      end_is = sym c.end_of.ensures ∙ c.in-Some.is;
    }) (rw c.new.ensures at c.in_err-advance.ensures) refl)

pub returns-in_err-ids : goal.returns-in_err-ids
returns-in_err-ids g c =
    let p = err_from_is_err_and c.from_residual-in_err-ids.result c.from_residual-in_err-ids.ensures.1 in
    rw (p.1, p.2) (NotListed c.in-Some.end c.try_read_latest.new.self c.advance.new.self _ (record {
      found = c.in_ok-found.found;
      read = c.in_ok-found.ensures;
      end_is = sym c.end_of.ensures ∙ c.in-Some.is;
    }) (rw c.new.ensures at c.in_ok-advance.ensures) c.in_err-ids.ensures refl)

pub returns : goal.returns
returns g c =
    Deletes c.in-Some.end c.try_read_latest.new.self c.advance.new.self c.list.new.self c.in_ok-ids.ids (record {
      found = c.in_ok-found.found;
      read = c.in_ok-found.ensures;
      end_is = sym c.end_of.ensures ∙ c.in-Some.is;
    }) (rw c.new.ensures at c.in_ok-advance.ensures) c.in_ok-ids.ensures (rw c.as_slice.ensures at c.delete_below.ensures)

pub returns-in_default : goal.returns-in_default
returns-in_default g c = NoVersion c.in_ok-found.found c.in_ok-found.ensures (sym c.end_of.ensures ∙ c.in_default.is) refl
