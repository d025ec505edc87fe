-- A call that writes no value starts as it does there, and a codec has nothing to read back of it.
use Rattle.std.proofs.Common.{◌≡◌, ℕ, List, Option, false, rules}
use Rattle.txn_history.specs.declared.event.PlainCall.{PlainCall}
use Rattle.txn_history.specs.declared.event.PlainCall.TheVariants as calls
use Rattle.txn_machine.specs.plain.Doing.{is_write, ReadsBack}
use Rattle.txn_machine.proofs.plain.doing.start.Goals as goal

reads_other : {T : Type 0} (encode : T → List ℕ) (decode : List ℕ → Option T) (call : PlainCall T) → is_write call ≡ false → ReadsBack encode decode call
reads_other encode decode (calls.Write base value) e = absurd (cc e)
reads_other encode decode (calls.WriteUnchecked base value) e = absurd (cc e)
reads_other encode decode calls.Read e = tt
reads_other encode decode (calls.ReadUnchecked id) e = tt
reads_other encode decode (calls.ReadSeen id) e = tt
reads_other encode decode (calls.ListIds from to) e = tt
reads_other encode decode (calls.Delete id) e = tt
reads_other encode decode (calls.Check id) e = tt
reads_other encode decode (calls.Advance to) e = tt

pub returns-in_ok-start_other-in_default : goal.returns-in_ok-start_other-in_default
returns-in_ok-start_other-in_default g c =
    let own : is_write c.args.call.now ≡ false = search rules in
    record {
      started = search rules;
      reads_back = reads_other (g.C.ObjectCodec.encoded c.args.layout.now.codec) (g.C.ObjectCodec.decoded c.args.layout.now.codec) c.args.call.now own;
      word = search rules;
    }
