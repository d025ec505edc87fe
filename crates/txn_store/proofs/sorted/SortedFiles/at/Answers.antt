-- What a place says of the files.
use Rattle.std.proofs.Common.{◌≡◌, ◌∙◌, Some, sym, ap, subst, length, slice_index_or, arith}
use Rattle.std.specs.FinMap.{entries}
use Rattle.txn_store.specs.Sorted.{IsPlace, StandsAt}
use Rattle.txn_store.specs.Paths.{Segments}
use Rattle.txn_store.specs.declared.store.Got.{Got}
use Rattle.txn_store.specs.declared.sorted.Mark.TheVariants.{Path}
use Rattle.txn_store.proofs.EntryLemmas.{Entries}
use Rattle.txn_store.proofs.SortedLemmas.{entries_are}
use Rattle.txn_store.proofs.PlaceLemmas.{there_within, there_is, got_at, none_between}
use Rattle.txn_store.proofs.sorted.SortedFiles.at.Goals as goal
use Rattle.txn_store.proofs.sorted.SortedFiles.at.Goals.{In-Ok}

stands : (c : In-Ok) → StandsAt Path c.args.path.now (entries c.args.self.now) c.in-Ok.index
stands c = subst (IsPlace Path c.args.path.now (entries c.args.self.now)) c.in-Ok.is c.requires

pub index-requires : goal.index-requires
index-requires c =
    let at = stands c in
    let lt = there_within (entries c.args.self.now) c.in-Ok.index at.entry at.there in
    let long = c.self.inside.entries.ok.0 in
    let same = ap (λ (es : Entries). length es) (entries_are c.self.inside.entries.items c.args.self.now c.self.invariant c.self.view_is) in
    omega (arith, lt, long, same)

pub returns-in-Ok : goal.returns-in-Ok
returns-in-Ok c =
    let at : StandsAt Path c.args.path.now (entries c.args.self.now) c.in-Ok.index = subst (IsPlace Path c.args.path.now (entries c.args.self.now)) c.in-Ok.is c.requires in
    let es = entries_are c.self.inside.entries.items c.args.self.now c.self.invariant c.self.view_is in
    let there : c.index.result.now ≡ slice_index_or (entries c.args.self.now) c.in-Ok.index c.index.result.now = c.index.ensures ∙ ap (λ (xs : Entries). slice_index_or xs c.in-Ok.index c.index.result.now) (sym es) in
    ap (λ (e : Segments × Got). Some e.1) (sym (there_is (entries c.args.self.now) c.in-Ok.index at.entry c.index.result.now at.there there)) ∙ got_at c.args.path.now c.args.self.now c.in-Ok.index at

pub returns-in-Err : goal.returns-in-Err
returns-in-Err c = none_between c.args.path.now c.args.self.now c.in-Err.field-0 (subst (IsPlace Path c.args.path.now (entries c.args.self.now)) c.in-Err.is c.requires)
