-- A check changes no file, and a delete of the version follows it at most.
use Rattle.std.proofs.Common.{rules, refl, subst, inl}
use Rattle.slatedb_txn_obj.specs.Checked.{Unfenced, Fenced, Failed}
use Rattle.slatedb_txn_obj.specs.Leaves.{MayRemove}
use Rattle.slatedb_txn_obj.proofs.Leaving.{same-remove}
use Rattle.slatedb_txn_obj.proofs.sequenced.SequencedStorageProtocol.delete.Goals as goal

pub returns-in-Ok-clause-removes : goal.returns-in-Ok-clause-removes
returns-in-Ok-clause-removes g c = inl (record { files = g.met.Self.BoundaryObject.check_frame _ _ _ _ _ _ c.check.ensures.moved; given = λ token. g.met.Self.BoundaryObject.check_given _ _ _ _ _ token _ c.check.ensures.moved })

pub returns-in-Ok-clause-untouched : goal.returns-in-Ok-clause-untouched
returns-in-Ok-clause-untouched g c is = record { files = g.met.Self.BoundaryObject.check_frame _ _ _ _ _ _ c.check.ensures.moved; given = λ token. g.met.Self.BoundaryObject.check_given _ _ _ _ _ token _ c.check.ensures.moved }

pub returns-in-Err-ObjectVersionExists-clause-removes :
    goal.returns-in-Err-ObjectVersionExists-clause-removes
returns-in-Err-ObjectVersionExists-clause-removes g c =
    let same = g.met.Self.SequencedStorageProtocol.place_checked _ _ _ _ _ _ c.check.ensures.moved in
    same-remove (record {
      files = g.met.Self.BoundaryObject.check_frame _ _ _ _ _ _ c.check.ensures.moved;
      given = λ token. g.met.Self.BoundaryObject.check_given _ _ _ _ _ token _ c.check.ensures.moved;
    }) (subst (λ at. MayRemove (g.Self.SequencedStorageProtocol.version_file at c.args.id) (g.S.ObjectStore.state c.check.new.store) (g.S.ObjectStore.state c.delete_unchecked.new.store)) same c.delete_unchecked.ensures.removes)

pub returns-in-Err-ObjectVersionExists-clause-moved :
    goal.returns-in-Err-ObjectVersionExists-clause-moved
returns-in-Err-ObjectVersionExists-clause-moved g c =
    Fenced c.check.new.self c.check.new.store (rw c.in-Err-ObjectVersionExists.field-0-is at c.in-Err-ObjectVersionExists.ensures.moved) c.delete_unchecked.ensures.moved

pub returns-in-Err-clause-removes : goal.returns-in-Err-clause-removes
returns-in-Err-clause-removes g c = inl (record { files = g.met.Self.BoundaryObject.check_frame _ _ _ _ _ _ c.check.ensures.moved; given = λ token. g.met.Self.BoundaryObject.check_given _ _ _ _ _ token _ c.check.ensures.moved })

pub returns-in-Err-clause-untouched : goal.returns-in-Err-clause-untouched
returns-in-Err-clause-untouched g c is = record { files = g.met.Self.BoundaryObject.check_frame _ _ _ _ _ _ c.check.ensures.moved; given = λ token. g.met.Self.BoundaryObject.check_given _ _ _ _ _ token _ c.check.ensures.moved }

pub returns-in-Err-clause-moved : goal.returns-in-Err-clause-moved
returns-in-Err-clause-moved g c = Failed c.in-Err.error (λ is. search rules) c.in-Err.ensures.moved refl

pub returns-in-Ok-clause-moved : goal.returns-in-Ok-clause-moved
returns-in-Ok-clause-moved g c = Unfenced c.in-Ok.ensures.moved refl
