use Rattle.std.proofs.Common.{◌≡◌, ◌++◌, string_bytes, drop}
use Rattle.txn_audit_recordings.specs.Written.{metas_text}
use Rattle.txn_audit_recordings.proofs.written.push_metas.Given as goal

-- with the files that are left the text is whole
abbrev pub invariant-loop-meta : goal.invariant-loop-meta
invariant-loop-meta l = string_bytes l.text ++ metas_text (drop l.meta-index l.metas) ≡ string_bytes l.fn.text ++ metas_text l.metas
