-- What is left without the file at the place, or with no file there.
use Rattle.std.proofs.Common.{◌∙◌, sym, subst}
use Rattle.std.specs.FinMap.{entries}
use Rattle.txn_store.specs.Sorted.{IsPlace}
use Rattle.txn_store.specs.declared.sorted.Mark.TheVariants.{Path}
use Rattle.txn_store.proofs.SortedLemmas.{entries_are}
use Rattle.txn_store.proofs.PlaceLemmas.{when_some, place_within, leaves_removed_at, leaves_removed_between}
use Rattle.txn_store.proofs.sorted.SortedFiles.remove.Goals as goal
use Rattle.txn_store.proofs.sorted.SortedFiles.remove.Goals.{in-Some+in-Some-remove-2, in-Some+in-None-1, in-None-1}

pub invariant_of-self : goal.invariant_of-self
invariant_of-self c = (leaves_removed_at c.args.path.now c.args.self.now c.self.inside.entries.items (entries_are c.self.inside.entries.items c.args.self.now c.self.invariant c.self.view_is) c.in-Ok.index (subst (IsPlace Path c.args.path.now (entries c.args.self.now)) c.in-Ok.is c.requires) c.remove.new.self.items (when_some c.remove.result c.remove.ensures.items (c.remove.ensures.variant.1 (place_within c.args.path.now c.args.self.now c.self.inside.entries.items (entries_are c.self.inside.entries.items c.args.self.now c.self.invariant c.self.view_is) c.in-Ok.index (c.self.inside.entries.len) c.self.inside.entries.ok.0 (subst (IsPlace Path c.args.path.now (entries c.args.self.now)) c.in-Ok.is c.requires))))).sorted

pub invariant_of-self-in-Ok-2 : goal.invariant_of-self-in-Ok-2
invariant_of-self-in-Ok-2 c = (leaves_removed_at c.args.path.now c.args.self.now c.self.inside.entries.items (entries_are c.self.inside.entries.items c.args.self.now c.self.invariant c.self.view_is) c.in-Ok.index (subst (IsPlace Path c.args.path.now (entries c.args.self.now)) c.in-Ok.is c.requires) c.remove.new.self.items (when_some c.remove.result c.remove.ensures.items (c.remove.ensures.variant.1 (place_within c.args.path.now c.args.self.now c.self.inside.entries.items (entries_are c.self.inside.entries.items c.args.self.now c.self.invariant c.self.view_is) c.in-Ok.index (c.self.inside.entries.len) c.self.inside.entries.ok.0 (subst (IsPlace Path c.args.path.now (entries c.args.self.now)) c.in-Ok.is c.requires))))).sorted

pub returns-in-Ok : goal.returns-in-Ok
returns-in-Ok c =
    let left = leaves_removed_at c.args.path.now c.args.self.now c.self.inside.entries.items (entries_are c.self.inside.entries.items c.args.self.now c.self.invariant c.self.view_is) c.in-Ok.index (subst (IsPlace Path c.args.path.now (entries c.args.self.now)) c.in-Ok.is c.requires) c.remove.new.self.items (when_some c.remove.result c.remove.ensures.items (c.remove.ensures.variant.1 (place_within c.args.path.now c.args.self.now c.self.inside.entries.items (entries_are c.self.inside.entries.items c.args.self.now c.self.invariant c.self.view_is) c.in-Ok.index (c.self.inside.entries.len) c.self.inside.entries.ok.0 (subst (IsPlace Path c.args.path.now (entries c.args.self.now)) c.in-Ok.is c.requires)))) in
    elim c.match-remove.branch [
      | in-Some+in-Some-remove-2 w ↦ w.self-is ∙ left.seen
      | in-Some+in-None-1 w ↦ w.self-is ∙ left.seen
      | in-None-1 w ↦ w.self-is ∙ left.seen
    ]

pub returns-in_default : goal.returns-in_default
returns-in_default c =
    let left = leaves_removed_between c.args.path.now c.args.self.now c.self.inside.entries.items (entries_are c.self.inside.entries.items c.args.self.now c.self.invariant c.self.view_is) c.in_default.field-0 (subst (IsPlace Path c.args.path.now (entries c.args.self.now)) c.in_default.is c.requires) in
    sym c.self.view_is ∙ left.seen
