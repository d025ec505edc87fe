use Rattle.std.proofs.Common.{◌∙◌, ap, sym, nat_eq, string_bytes}
use Rattle.std.specs.Cmp.Lexicographic.{same_text}
use lib.Pointwise.{pointwise}
use Rattle.slatedb_txn_obj_uses.proofs.CommandWords.{two_words, asks_to_run, asks_to_check}
use Rattle.slatedb_txn_obj_uses.proofs.command.command_of.Goals as goal

pub returns-in-len2 : goal.returns-in-len2
returns-in-len2 c = record {
  exact = asks_to_run _ (string_bytes c.word-item.result)
      (two_words string_bytes c.args.words.now c.word-item.result c.in-len2.len_at_least c.in-len2.len_below c.word-item.is)
      (same_text (string_bytes c.word-item.result) _ (sym c.if-eq.true ∙ c.eq.ensures ∙ ap (λ t. pointwise nat_eq t _) c.as_str.ensures.value));
}

pub returns-in-len2-2 : goal.returns-in-len2-2
returns-in-len2-2 c = record {
  exact = asks_to_check _ (string_bytes c.word-item-then-words-lt3.result)
      (two_words string_bytes c.args.words.now c.word-item-then-words-lt3.result c.in-len2.len_at_least c.in-len2.len_below c.word-item-then-words-lt3.is)
      (same_text (string_bytes c.word-item-then-words-lt3.result) _ (sym c.if-eq-2.true ∙ c.eq-then-words-lt3.ensures ∙ ap (λ t. pointwise nat_eq t _) c.as_str-then-words-lt3.ensures.value));
}
