-- What words ask for.
use Rattle.std.proofs.Common.{◌≡◌, ℕ, ◌<◌, ◌≤◌, ◌↔◌, List, [], ◌∷◌, length, get_or, drop, drop_of_length-le, map, Some, refl, sym, ap, ◌∙◌, arith}
use Rattle.std.specs.Prelude.{codes}
use Rattle.std.proofs.lemmas.List.{drop_more}
use Rattle.slatedb_txn_obj_uses.specs.declared.command.Command.{Command}
use Rattle.slatedb_txn_obj_uses.specs.declared.command.Command.TheVariants as commands
use Rattle.slatedb_txn_obj_uses.specs.Commands.{command_words}

pub two_words : {S : Type 0} (f : S → List ℕ) (words : List S) (word : S) → 2 ≤ length words → length words < 3 → word ≡ get_or words 1 word → map f (drop 1 words) ≡ f word ∷ []
two_words f words word least most is = ap (map f) (drop_more words 1 word least ∙ ap (λ rest. get_or words 1 word ∷ rest) (drop_of_length-le words {i = 2} (omega (arith, most)))) ∙ ap (λ w. f w ∷ []) (sym is)

pub asks_to_run : (words : List (List ℕ)) (word : List ℕ) → words ≡ word ∷ [] → word ≡ codes "run" → (command : Command) → (Some commands.Run ≡ Some command) ↔ (words ≡ command_words command)
asks_to_run words word is run commands.Run = (λ _. is ∙ ap (λ w. w ∷ []) run, λ _. refl)
asks_to_run words word is run commands.Check = (λ e. cc, λ e. cc)

pub asks_to_check : (words : List (List ℕ)) (word : List ℕ) → words ≡ word ∷ [] → word ≡ codes "check" → (command : Command) → (Some commands.Check ≡ Some command) ↔ (words ≡ command_words command)
asks_to_check words word is check commands.Run = (λ e. cc, λ e. cc)
asks_to_check words word is check commands.Check = (λ _. is ∙ ap (λ w. w ∷ []) check, λ _. refl)
