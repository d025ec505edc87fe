use Rattle.std.proofs.Common.{◌+◌, ◌∙◌, ap}
use Rattle.txn_machine.proofs.traces.Making.{on_refused, never_refused, one_entry, no_entry}
use Rattle.txn_machine.proofs.traces.entries.entries_of.Goals as goal
use Rattle.txn_machine.proofs.traces.entries.entries_of.Goals.{in-Some+in-Ok+in_ok-push-in-Ok, in_default}

pub unreachable-requires : goal.unreachable-requires
unreachable-requires g c =
    never_refused (g.C.ObjectCodec.decoded c.args.layout.now.codec) (g.E.EpochField.epoch_of c.args.field.now) (g.E.EpochField.with_epoch c.args.field.now) c.args.failed.now c.args.rows.now c.loop-row.row-index c.row-item.result c.in-Some.bytes.now c.loop-row.entries.items _ c.requires.good c.loop-row-test.true c.row-item.is c.loop-row.invariant
    (ap (λ n. n + 1) (c.len.ensures ∙ c.loop-row.entries.ok.0)) c.in-Some.ensures (on_refused _ _ _ c.in-Err-Refused.field-0-is c.in-Err-Refused.ensures.refused)

pub loop-row-preserved : goal.loop-row-preserved
loop-row-preserved g c =
    let decode = g.C.ObjectCodec.decoded c.args.layout.now.codec in
    let get_epoch = g.E.EpochField.epoch_of c.args.field.now in
    let set_epoch = g.E.EpochField.with_epoch c.args.field.now in
    elim c.match-bytes_of.branch [
      | in-Some+in-Ok+in_ok-push-in-Ok w ↦
          one_entry decode get_epoch set_epoch c.args.failed.now c.args.rows.now c.loop-row.row-index c.row-item.result w.in-Some.bytes.now c.loop-row.entries.items c.match-bytes_of.entries.items w.in-Ok.value _ c.requires.good c.loop-row-test.true c.row-item.is
          (ap (λ n. n + 1) (c.len.ensures ∙ c.loop-row.entries.ok.0)) w.in-Some.ensures w.in-Ok.ensures.value c.loop-row.invariant (ap (λ entries. entries.items) w.entries-is ∙ w.in_ok-push-in-Ok.ensures.items)
      | in_default w ↦
          rw w.entries-is (no_entry decode get_epoch set_epoch c.args.failed.now c.args.rows.now c.loop-row.row-index c.row-item.result c.loop-row.entries.items _ c.requires.good c.loop-row-test.true c.row-item.is (ap (λ n. n + 1) (c.len.ensures ∙ c.loop-row.entries.ok.0)) w.in_default.ensures c.loop-row.invariant)
    ]
