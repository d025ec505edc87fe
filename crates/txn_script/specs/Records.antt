-- Scripts of records: a world of records, without pins.
use Rattle.std.specs.Prelude.{◌≡◌, ℕ, None}
use Rattle.std.specs.Option.{option_map}
use Rattle.txn_history.specs.declared.event.Call.{Call}
use Rattle.txn_history.specs.Allowed.{fault_of}
use Rattle.txn_machine.specs.Machine.{seen_of, next_event, Takes}
use Rattle.txn_script_lines.specs.declared.record.Record.{Record}
use Rattle.txn_script_lines.specs.Record.{record_text, record_read, IsNumbers}
use Rattle.txn_script_lines.specs.Grammar.{call_text, CallFits}
use Rattle.txn_script_lines.specs.Printed.{fault_text}
use Rattle.txn_script.specs.Rules.{WorldRules, Rules}

-- the epoch of a record
abbrev pub record_epoch : Record → ℕ
record_epoch value = value.epoch

-- a record with another epoch
abbrev pub record_with : Record → ℕ → Record
record_with value epoch = record value { epoch = epoch }

-- an event is taken as the world takes it, or refused with the fault that it is due
abbrev pub record_world : WorldRules Record (Call Record)
record_world = record {
  takes = Takes record_text record_read record_epoch record_with;
  due = λ s event. option_map fault_text (fault_of record_read record_epoch (seen_of s) s.trace event);
  next = next_event;
  decode = record_read;
  pins = λ s pins. pins ≡ None;
}

abbrev pub record_rules : Rules Record (Call Record)
record_rules = record {
  call_text = call_text record_text;
  call_fits = CallFits IsNumbers;
  value_text = record_text;
  world = record_world;
}
