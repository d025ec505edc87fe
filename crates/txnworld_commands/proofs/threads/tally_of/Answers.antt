use Rattle.std.proofs.Common.{rules, ◌≡◌, refl, sym, ◌∙◌, ap, length, Some}
use Rattle.std.specs.Vec.{vec_len}
use Rattle.std.proofs.lemmas.List.{length-map}
use Rattle.txn_script_lines.specs.declared.record.Record.{Record}
use Rattle.txn_script_lines.specs.declared.record.RecordCodec.{RecordCodec}
use Rattle.txn_script_lines.specs.declared.record.RecordEpoch.{RecordEpoch}
use Rattle.txn_script_lines.specs.Record.{record_read}
use Rattle.txn_history.specs.History.{history}
use Rattle.txn_machine.specs.Machine.{WorldState}
use Rattle.txnworld_commands.proofs.Finishing.{agrees_then, agrees_else}
use Rattle.txnworld_commands.proofs.threads.tally_of.Goals as goal
use Rattle.txnworld_commands.proofs.threads.tally_of.Goals.{then-counts, else-counts}

pub returns : goal.returns
returns c =
    let items : vec_len c.in-Ok.entries ≡ length c.in-Ok.entries.items = search rules in
    record {
      ok = record {
        workers_are = refl;
        calls = search rules;
        answers = search rules;
        entries = (c.len-history.ensures ∙ items) ∙ (sym (length-map c.in-Ok.entries.items Some) ∙ (ap length c.in-Ok.ensures ∙ ap (λ (w : WorldState Record RecordCodec RecordEpoch). length (history record_read w.state.trace)) c.world-2.ensures.world));
        agree = elim c.if-counts.branch [
          | then-counts w ↦ agrees_then c.args.workers c.args.kept c.args.shares.items c.counts_agree-counts.result c.if-counts.result c.clients.result c.counts_agree-counts.ensures w.if-counts.true w.result-is (c.clients.ensures ∙ ap (λ (w : WorldState Record RecordCodec RecordEpoch). w.state.clients) c.world-3.ensures.world)
          | else-counts w ↦ agrees_else c.args.workers c.args.kept c.args.shares.items c.counts_agree-counts.result c.if-counts.result c.counts_agree-counts.ensures w.if-counts.false (w.result-is ∙ w.if-counts.false)
        ];
        replays = c.world.ensures.replays;
      };
      err = search rules;
    }
