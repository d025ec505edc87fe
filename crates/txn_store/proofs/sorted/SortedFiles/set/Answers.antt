-- What a put makes of the files at a place.
use Rattle.std.proofs.Common.{◌∙◌, ap, subst}
use Rattle.std.specs.FinMap.{entries}
use Rattle.std.specs.List.{insert}
use Rattle.txn_store.specs.Paths.{Segments}
use Rattle.txn_store.specs.Sorted.{IsPlace}
use Rattle.txn_store.specs.declared.sorted.Mark.TheVariants.{Path}
use Rattle.txn_store.proofs.SortedLemmas.{entries_are}
use Rattle.txn_store.proofs.PlaceLemmas.{place_within, between_within, leaves_put_at, leaves_put_between}
use Rattle.txn_store.proofs.sorted.SortedFiles.set.Goals as goal
use Rattle.txn_store.proofs.sorted.SortedFiles.set.Goals.{in-Some-2, in-None-2}

pub index_mut-requires : goal.index_mut-requires
index_mut-requires c = place_within c.args.path.now c.args.self.now c.self.inside.entries.items (entries_are c.self.inside.entries.items c.args.self.now c.self.invariant c.self.view_is) c.in-Ok.index c.self.inside.entries.len c.self.inside.entries.ok.0 (subst (IsPlace Path c.args.path.now (entries c.args.self.now)) c.in-Ok.is c.requires)

pub invariant_of-self : goal.invariant_of-self
invariant_of-self c = (leaves_put_at c.args.path.now c.args.self.now c.self.inside.entries.items (entries_are c.self.inside.entries.items c.args.self.now c.self.invariant c.self.view_is) c.in-Ok.index (subst (IsPlace Path c.args.path.now (entries c.args.self.now)) c.in-Ok.is c.requires) c.index_mut.result.now c.args.got c.index_mut.ensures.value).sorted

pub invariant_of-self-in-Ok-2 : goal.invariant_of-self-in-Ok-2
invariant_of-self-in-Ok-2 c = (leaves_put_at c.args.path.now c.args.self.now c.self.inside.entries.items (entries_are c.self.inside.entries.items c.args.self.now c.self.invariant c.self.view_is) c.in-Ok.index (subst (IsPlace Path c.args.path.now (entries c.args.self.now)) c.in-Ok.is c.requires) c.index_mut.result.now c.args.got c.index_mut.ensures.value).sorted

pub returns-in-Ok-clause-ok : goal.returns-in-Ok-clause-ok
returns-in-Ok-clause-ok c =
    let put = leaves_put_at c.args.path.now c.args.self.now c.self.inside.entries.items (entries_are c.self.inside.entries.items c.args.self.now c.self.invariant c.self.view_is) c.in-Ok.index (subst (IsPlace Path c.args.path.now (entries c.args.self.now)) c.in-Ok.is c.requires) c.index_mut.result.now c.args.got c.index_mut.ensures.value in
    elim c.match-index_mut-got.branch [ in-Some-2 w ↦ w.self-is ∙ put.seen | in-None-2 w ↦ w.self-is ∙ put.seen ]

pub insert-requires : goal.insert-requires
insert-requires c = between_within c.args.path.now c.args.self.now c.self.inside.entries.items (entries_are c.self.inside.entries.items c.args.self.now c.self.invariant c.self.view_is) c.in-Err.index c.self.inside.entries.len c.self.inside.entries.ok.0 (subst (IsPlace Path c.args.path.now (entries c.args.self.now)) c.in-Err.is c.requires)

pub invariant_of-self-in_ok-insert-in-Err : goal.invariant_of-self-in_ok-insert-in-Err
invariant_of-self-in_ok-insert-in-Err c =
    (leaves_put_between c.args.path.now c.args.self.now c.self.inside.entries.items (entries_are c.self.inside.entries.items c.args.self.now c.self.invariant c.self.view_is) c.in-Err.index (subst (IsPlace Path c.args.path.now (entries c.args.self.now)) c.in-Err.is c.requires) c.args.got c.insert.new.self.items
    (c.in_ok-insert-in-Err.ensures.items ∙ ap (λ (p : Segments). insert c.self.inside.entries.items c.in-Err.index (p, c.args.got)) c.in_ok-try_clone-in-Err.ensures)).sorted

pub returns-in_ok-insert-in-Err-clause-ok : goal.returns-in_ok-insert-in-Err-clause-ok
returns-in_ok-insert-in-Err-clause-ok c =
    (leaves_put_between c.args.path.now c.args.self.now c.self.inside.entries.items (entries_are c.self.inside.entries.items c.args.self.now c.self.invariant c.self.view_is) c.in-Err.index (subst (IsPlace Path c.args.path.now (entries c.args.self.now)) c.in-Err.is c.requires) c.args.got c.insert.new.self.items
    (c.in_ok-insert-in-Err.ensures.items ∙ ap (λ (p : Segments). insert c.self.inside.entries.items c.in-Err.index (p, c.args.got)) c.in_ok-try_clone-in-Err.ensures)).seen
