use Rattle.std.proofs.Common.{◌≡◌, ◌+◌}
use Rattle.txn_audit_recordings.proofs.TokenTables.{extended, up_to_next, stays_one_to_one}
use Rattle.txn_audit_recordings.proofs.token_table.TokenTable.add.Goals as goal

pub invariant_of-self-2 : goal.invariant_of-self-2
invariant_of-self-2 c =
    let follows : c.in-Some.next ≡ c.args.self.now.last + 1 = c.in-Some.ensures.1 in
    let up_to = c.args.self.now.up_to in
    record {
      one_to_one = stays_one_to_one c.args.self.now.becomes c.insert.new.self c.args.key c.in-Some.next c.in_ok-insert.ensures.updates c.args.self.now.last follows up_to c.args.self.now.one_to_one;
      up_to = up_to_next c.args.self.now.becomes c.insert.new.self c.args.key c.in-Some.next c.in_ok-insert.ensures.updates c.args.self.now.last follows up_to;
    }

pub returns-clause-kept : goal.returns-clause-kept
returns-clause-kept c = extended c.args.self.now.becomes c.insert.new.self c.args.key c.in-Some.next c.in_ok-insert.ensures.updates c.requires.new
