use Rattle.std.proofs.Common.{◌≡◌, ◌↔◌, ◌∙◌, Some, ap, sym, subst, nat_eq, string_bytes}
use Rattle.std.specs.Cmp.Lexicographic.{same_text}
use lib.Pointwise.{pointwise}
use Rattle.txnworld_commands.specs.Commands.{count_text}
use Rattle.txnworld_commands.proofs.CommandWords.{two_words, three_words, asks_for_script, asks_for_manifest, asks_for_trace, asks_for_picture, asks_for_manifest_trace, asks_for_manifest_picture, asks_for_threads, asks_for_explore}
use Rattle.txnworld_commands.proofs.command.command_of.Goals as goal

pub returns-in-len2-clause-exact : goal.returns-in-len2-clause-exact
returns-in-len2-clause-exact c =
    asks_for_script _ (string_bytes c.mode-item.result)
    (two_words string_bytes c.args.words.now c.mode-item.result c.in-len2.len_at_least c.in-len2.len_below c.mode-item.is)
    (same_text (string_bytes c.mode-item.result) _ (sym c.if-eq.true ∙ c.eq.ensures ∙ ap (λ t. pointwise nat_eq t _) c.as_str.ensures.value))

pub returns-in-len2-2-clause-exact : goal.returns-in-len2-2-clause-exact
returns-in-len2-2-clause-exact c =
    asks_for_manifest _ (string_bytes c.mode-item-then-words-lt3.result)
    (two_words string_bytes c.args.words.now c.mode-item-then-words-lt3.result c.in-len2.len_at_least c.in-len2.len_below c.mode-item-then-words-lt3.is)
    (same_text (string_bytes c.mode-item-then-words-lt3.result) _ (sym c.if-eq-2.true ∙ c.eq-then-words-lt3.ensures ∙ ap (λ t. pointwise nat_eq t _) c.as_str-then-words-lt3.ensures.value))

pub returns-in-len2-3-clause-exact : goal.returns-in-len2-3-clause-exact
returns-in-len2-3-clause-exact c =
    asks_for_trace _ (string_bytes c.mode-item-then-words-lt3-2.result)
    (two_words string_bytes c.args.words.now c.mode-item-then-words-lt3-2.result c.in-len2.len_at_least c.in-len2.len_below c.mode-item-then-words-lt3-2.is)
    (same_text (string_bytes c.mode-item-then-words-lt3-2.result) _ (sym c.if-eq-3.true ∙ c.eq-then-words-lt3-2.ensures ∙ ap (λ t. pointwise nat_eq t _) c.as_str-then-words-lt3-2.ensures.value))

pub returns-in-len2-4-clause-exact : goal.returns-in-len2-4-clause-exact
returns-in-len2-4-clause-exact c =
    asks_for_picture _ (string_bytes c.mode-item-then-words-lt3-3.result)
    (two_words string_bytes c.args.words.now c.mode-item-then-words-lt3-3.result c.in-len2.len_at_least c.in-len2.len_below c.mode-item-then-words-lt3-3.is)
    (same_text (string_bytes c.mode-item-then-words-lt3-3.result) _ (sym c.if-eq-4.true ∙ c.eq-then-words-lt3-3.ensures ∙ ap (λ t. pointwise nat_eq t _) c.as_str-then-words-lt3-3.ensures.value))

pub returns-in-len2-5-clause-exact : goal.returns-in-len2-5-clause-exact
returns-in-len2-5-clause-exact c =
    asks_for_explore _ (string_bytes c.mode-item-then-words-lt3-4.result)
    (two_words string_bytes c.args.words.now c.mode-item-then-words-lt3-4.result c.in-len2.len_at_least c.in-len2.len_below c.mode-item-then-words-lt3-4.is)
    (same_text (string_bytes c.mode-item-then-words-lt3-4.result) _ (sym c.if-eq-5.true ∙ c.eq-then-words-lt3-4.ensures ∙ ap (λ t. pointwise nat_eq t _) c.as_str-then-words-lt3-4.ensures.value))

pub returns-in-len3-clause-exact : goal.returns-in-len3-clause-exact
returns-in-len3-clause-exact c =
    asks_for_manifest_trace _ (string_bytes c.mode-item-then-words-lt4.result) (string_bytes c.kind-item.result)
    (three_words string_bytes c.args.words.now c.mode-item-then-words-lt4.result c.kind-item.result c.in-len3.len_at_least c.in-len3.len_below c.mode-item-then-words-lt4.is c.kind-item.is)
    (same_text (string_bytes c.mode-item-then-words-lt4.result) _ (sym c.if-eq-6.true ∙ c.eq-then-words-lt4.ensures ∙ ap (λ t. pointwise nat_eq t _) c.as_str-then-words-lt4.ensures.value))
    (same_text (string_bytes c.kind-item.result) _ (sym c.if-eq-7.true ∙ c.eq-then-eq-6.ensures ∙ ap (λ t. pointwise nat_eq t _) c.as_str-then-eq-6.ensures.value))

pub returns-in-len3-2-clause-exact : goal.returns-in-len3-2-clause-exact
returns-in-len3-2-clause-exact c =
    asks_for_manifest_picture _ (string_bytes c.mode-item-then-words-lt4-2.result) (string_bytes c.kind-item-then-words-lt4.result)
    (three_words string_bytes c.args.words.now c.mode-item-then-words-lt4-2.result c.kind-item-then-words-lt4.result c.in-len3.len_at_least c.in-len3.len_below c.mode-item-then-words-lt4-2.is c.kind-item-then-words-lt4.is)
    (same_text (string_bytes c.mode-item-then-words-lt4-2.result) _ (sym c.if-eq-8.true ∙ c.eq-then-words-lt4-2.ensures ∙ ap (λ t. pointwise nat_eq t _) c.as_str-then-words-lt4-2.ensures.value))
    (same_text (string_bytes c.kind-item-then-words-lt4.result) _ (sym c.if-eq-9.true ∙ c.eq-then-eq-8.ensures ∙ ap (λ t. pointwise nat_eq t _) c.as_str-then-eq-8.ensures.value))

pub returns-in_ok-count_of-in-len3-3-clause-exact : goal.returns-in_ok-count_of-in-len3-3-clause-exact
returns-in_ok-count_of-in-len3-3-clause-exact c =
    asks_for_threads _ (string_bytes c.mode-item-then-words-lt4-3.result) (string_bytes c.count-item.result) c.in_ok-count_of-in-len3-3.field-0
    (three_words string_bytes c.args.words.now c.mode-item-then-words-lt4-3.result c.count-item.result c.in-len3.len_at_least c.in-len3.len_below c.mode-item-then-words-lt4-3.is c.count-item.is)
    (same_text (string_bytes c.mode-item-then-words-lt4-3.result) _ (sym c.if-eq-10.true ∙ c.eq-then-words-lt4-3.ensures ∙ ap (λ t. pointwise nat_eq t _) c.as_str-then-words-lt4-3.ensures.value))
    (λ n fits. subst (λ t. (Some c.in_ok-count_of-in-len3-3.field-0 ≡ Some n) ↔ (t ≡ count_text n)) c.as_str-in-len3-3.ensures.value (c.in_ok-count_of-in-len3-3.ensures.exact n fits))
