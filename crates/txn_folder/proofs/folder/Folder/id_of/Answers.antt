-- The name is stripped from the back.
use Rattle.std.proofs.Common.{lit<, Some, None}
use Rattle.std.proofs.lemmas.Str.Pattern.{strip_suffix_char}
use Rattle.txn_store.proofs.NameLemmas.{suffix_parts}
use Rattle.txn_folder.proofs.NameLemmas.{other_suffix, no_dot, read_name}
use Rattle.txn_folder.proofs.folder.Folder.id_of.Goals as goal

pub returns-in_err-strip_suffix : goal.returns-in_err-strip_suffix
returns-in_err-strip_suffix c = rw (← c.self.view_is) (other_suffix _ _ _ c.as_str.ensures.value _ c.from_residual.ensures c.in_err-strip_suffix.ensures.cases)

pub returns-in_err-strip_suffix-2 : goal.returns-in_err-strip_suffix-2
returns-in_err-strip_suffix-2 c =
    let begun = suffix_parts _ _ _ c.in_ok-strip_suffix.ensures.cases in
    let none = strip_suffix_char 46 c.in_ok-strip_suffix.field-0.now None c.in_err-strip_suffix-2.ensures.cases (lit< tt) in
    rw (← c.self.view_is) (no_dot _ _ _ c.as_str.ensures.value _ begun _ c.from_residual-in_err-strip_suffix-2.ensures none)

pub returns : goal.returns
returns c =
    let begun = suffix_parts _ _ _ c.in_ok-strip_suffix.ensures.cases in
    let digits = strip_suffix_char 46 c.in_ok-strip_suffix.field-0.now (Some c.in_ok-strip_suffix-2.field-0) c.in_ok-strip_suffix-2.ensures.cases (lit< tt) in
    rw (← c.self.view_is) (read_name _ _ _ c.as_str.ensures.value _ begun _ _ digits c.read_twenty.ensures)
