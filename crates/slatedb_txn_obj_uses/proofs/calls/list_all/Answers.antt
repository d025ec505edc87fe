-- Where the versions are so many, so many are listed.
use Rattle.std.proofs.Common.{map, ◌∙◌, arith}
use Rattle.std.proofs.lemmas.List.{length-map}
use Rattle.slatedb_txn_obj_uses.specs.Workloads.{numbers_to}
use Rattle.slatedb_txn_obj_uses.proofs.Ids.{all_listed}
use Rattle.slatedb_txn_obj_uses.proofs.calls.list_all.Goals as goal

pub returns-then-len-newest-clause-right : goal.returns-then-len-newest-clause-right
returns-then-len-newest-clause-right g c =
    let versions = c.in_ok-versions.versions in
    λ wrong stands.
    let listed = all_listed c.args.newest (map (λ v. v.id) versions.items) (c.in_ok-versions.ensures.listed (numbers_to c.args.newest) 0 stands) in
    let mapped = length-map versions.items (λ v. v.id) in
    c.if-len-newest.true (c.len.ensures ∙ omega (arith, versions.ok.0, listed, mapped))
