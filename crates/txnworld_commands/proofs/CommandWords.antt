-- What words ask for.
use Rattle.std.proofs.Common.{◌≡◌, ◌≢◌, ℕ, ◌<◌, ◌≤◌, ◌↔◌, List, [], ◌∷◌, length, get_or, drop, drop_of_length-le, map, Some, refl, sym, ap, ◌∙◌, arith}
use Rattle.std.specs.Prelude.{codes}
use Rattle.std.proofs.lemmas.List.{drop_more}
use Rattle.std.proofs.lemmas.Option.{same_Some}
use Rattle.txnworld_commands.specs.declared.command.Command.{Command}
use Rattle.txnworld_commands.specs.declared.command.Command.TheVariants as commands
use Rattle.txnworld_commands.specs.Commands.{IsCount, count_text, IsCommand, command_words}

pub two_words : {S : Type 0} (f : S → List ℕ) (words : List S) (mode : S) → 2 ≤ length words → length words < 3 → mode ≡ get_or words 1 mode → map f (drop 1 words) ≡ f mode ∷ []
two_words f words mode least most is = ap (map f) (drop_more words 1 mode least ∙ ap (λ rest. get_or words 1 mode ∷ rest) (drop_of_length-le words {i = 2} (omega (arith, most)))) ∙ ap (λ w. f w ∷ []) (sym is)

pub three_words : {S : Type 0} (f : S → List ℕ) (words : List S) (mode count : S) → 3 ≤ length words → length words < 4 → mode ≡ get_or words 1 mode → count ≡ get_or words 2 count → map f (drop 1 words) ≡ f mode ∷ f count ∷ []
three_words f words mode count least most is at =
    let rest = drop_more words 2 count least ∙ ap (λ more. get_or words 2 count ∷ more) (drop_of_length-le words {i = 3} (omega (arith, most))) in
    ap (map f) (drop_more words 1 mode (omega (arith, least)) ∙ ap (λ more. get_or words 1 mode ∷ more) rest) ∙ ap (λ w. f w ∷ f (get_or words 2 count) ∷ []) (sym is) ∙ ap (λ w. f mode ∷ f w ∷ []) (sym at)

one_not_two : (a b c : List ℕ) → (a ∷ []) ≡ (b ∷ c ∷ []) → ⊥
one_not_two a b c e = let lengths : length (a ∷ []) ≡ length (b ∷ c ∷ []) = ap length e in absurd (omega (arith, lengths))

-- a word that is another
other_word : (mode want other : List ℕ) → mode ≡ want → want ≢ other → (mode ∷ []) ≡ (other ∷ []) → ⊥
other_word mode want other is apart e = apart (sym is ∙ first_same mode other e)
  where
    first_same : (a b : List ℕ) → (a ∷ []) ≡ (b ∷ []) → a ≡ b
    first_same a b same = cc

-- two words of one length: their first letters differ
picture_not_explore : codes "picture" ≢ codes "explore"
picture_not_explore same = let letters : 112 ≡ 101 = ap (λ w. get_or w 0 0) same in absurd (omega (arith, letters))

last_of_two : (a b c : List ℕ) → (a ∷ b ∷ []) ≡ (a ∷ c ∷ []) → b ≡ c
last_of_two a b c e = cc

pub asks_for_script : (words : List (List ℕ)) (mode : List ℕ) → words ≡ mode ∷ [] → mode ≡ codes "script" → (command : Command) → IsCommand command
    → (Some commands.Script ≡ Some command) ↔ (words ≡ command_words command)
asks_for_script words mode is script commands.Script fits = (λ _. is ∙ ap (λ m. m ∷ []) script, λ _. refl)
asks_for_script words mode is script commands.Manifest fits = (λ e. cc, λ e. absurd (other_word mode (codes "script") (codes "manifest") script (λ same. cc) (sym is ∙ e)))
asks_for_script words mode is script commands.Trace fits = (λ e. cc, λ e. absurd (other_word mode (codes "script") (codes "trace") script (λ same. cc) (sym is ∙ e)))
asks_for_script words mode is script commands.Picture fits = (λ e. cc, λ e. absurd (other_word mode (codes "script") (codes "picture") script (λ same. cc) (sym is ∙ e)))
asks_for_script words mode is script commands.ManifestTrace fits = (λ e. cc, λ e. absurd (one_not_two mode (codes "trace") (codes "manifest") (sym is ∙ e)))
asks_for_script words mode is script commands.ManifestPicture fits = (λ e. cc, λ e. absurd (one_not_two mode (codes "picture") (codes "manifest") (sym is ∙ e)))
asks_for_script words mode is script (commands.Threads n) fits = (λ e. cc, λ e. absurd (one_not_two mode (codes "threads") (count_text n) (sym is ∙ e)))
asks_for_script words mode is script commands.Explore fits = (λ e. cc, λ e. absurd (other_word mode (codes "script") (codes "explore") script (λ same. cc) (sym is ∙ e)))

pub asks_for_manifest : (words : List (List ℕ)) (mode : List ℕ) → words ≡ mode ∷ [] → mode ≡ codes "manifest" → (command : Command) → IsCommand command
    → (Some commands.Manifest ≡ Some command) ↔ (words ≡ command_words command)
asks_for_manifest words mode is manifest commands.Script fits = (λ e. cc, λ e. absurd (other_word mode (codes "manifest") (codes "script") manifest (λ same. cc) (sym is ∙ e)))
asks_for_manifest words mode is manifest commands.Manifest fits = (λ _. is ∙ ap (λ m. m ∷ []) manifest, λ _. refl)
asks_for_manifest words mode is manifest commands.Trace fits = (λ e. cc, λ e. absurd (other_word mode (codes "manifest") (codes "trace") manifest (λ same. cc) (sym is ∙ e)))
asks_for_manifest words mode is manifest commands.Picture fits = (λ e. cc, λ e. absurd (other_word mode (codes "manifest") (codes "picture") manifest (λ same. cc) (sym is ∙ e)))
asks_for_manifest words mode is manifest commands.ManifestTrace fits = (λ e. cc, λ e. absurd (one_not_two mode (codes "trace") (codes "manifest") (sym is ∙ e)))
asks_for_manifest words mode is manifest commands.ManifestPicture fits = (λ e. cc, λ e. absurd (one_not_two mode (codes "picture") (codes "manifest") (sym is ∙ e)))
asks_for_manifest words mode is manifest (commands.Threads n) fits = (λ e. cc, λ e. absurd (one_not_two mode (codes "threads") (count_text n) (sym is ∙ e)))
asks_for_manifest words mode is manifest commands.Explore fits = (λ e. cc, λ e. absurd (other_word mode (codes "manifest") (codes "explore") manifest (λ same. cc) (sym is ∙ e)))

pub asks_for_trace : (words : List (List ℕ)) (mode : List ℕ) → words ≡ mode ∷ [] → mode ≡ codes "trace" → (command : Command) → IsCommand command
    → (Some commands.Trace ≡ Some command) ↔ (words ≡ command_words command)
asks_for_trace words mode is trace commands.Script fits = (λ e. cc, λ e. absurd (other_word mode (codes "trace") (codes "script") trace (λ same. cc) (sym is ∙ e)))
asks_for_trace words mode is trace commands.Manifest fits = (λ e. cc, λ e. absurd (other_word mode (codes "trace") (codes "manifest") trace (λ same. cc) (sym is ∙ e)))
asks_for_trace words mode is trace commands.Trace fits = (λ _. is ∙ ap (λ m. m ∷ []) trace, λ _. refl)
asks_for_trace words mode is trace commands.Picture fits = (λ e. cc, λ e. absurd (other_word mode (codes "trace") (codes "picture") trace (λ same. cc) (sym is ∙ e)))
asks_for_trace words mode is trace commands.ManifestTrace fits = (λ e. cc, λ e. absurd (one_not_two mode (codes "trace") (codes "manifest") (sym is ∙ e)))
asks_for_trace words mode is trace commands.ManifestPicture fits = (λ e. cc, λ e. absurd (one_not_two mode (codes "picture") (codes "manifest") (sym is ∙ e)))
asks_for_trace words mode is trace (commands.Threads n) fits = (λ e. cc, λ e. absurd (one_not_two mode (codes "threads") (count_text n) (sym is ∙ e)))
asks_for_trace words mode is trace commands.Explore fits = (λ e. cc, λ e. absurd (other_word mode (codes "trace") (codes "explore") trace (λ same. cc) (sym is ∙ e)))

pub asks_for_picture : (words : List (List ℕ)) (mode : List ℕ) → words ≡ mode ∷ [] → mode ≡ codes "picture" → (command : Command) → IsCommand command
    → (Some commands.Picture ≡ Some command) ↔ (words ≡ command_words command)
asks_for_picture words mode is picture commands.Script fits = (λ e. cc, λ e. absurd (other_word mode (codes "picture") (codes "script") picture (λ same. cc) (sym is ∙ e)))
asks_for_picture words mode is picture commands.Manifest fits = (λ e. cc, λ e. absurd (other_word mode (codes "picture") (codes "manifest") picture (λ same. cc) (sym is ∙ e)))
asks_for_picture words mode is picture commands.Trace fits = (λ e. cc, λ e. absurd (other_word mode (codes "picture") (codes "trace") picture (λ same. cc) (sym is ∙ e)))
asks_for_picture words mode is picture commands.Picture fits = (λ _. is ∙ ap (λ m. m ∷ []) picture, λ _. refl)
asks_for_picture words mode is picture commands.ManifestTrace fits = (λ e. cc, λ e. absurd (one_not_two mode (codes "trace") (codes "manifest") (sym is ∙ e)))
asks_for_picture words mode is picture commands.ManifestPicture fits = (λ e. cc, λ e. absurd (one_not_two mode (codes "picture") (codes "manifest") (sym is ∙ e)))
asks_for_picture words mode is picture (commands.Threads n) fits = (λ e. cc, λ e. absurd (one_not_two mode (codes "threads") (count_text n) (sym is ∙ e)))
asks_for_picture words mode is picture commands.Explore fits = (λ e. cc, λ e. absurd (other_word mode (codes "picture") (codes "explore") picture picture_not_explore (sym is ∙ e)))

-- a first word that is another
other_first : (mode want other count more : List ℕ) → mode ≡ want → want ≢ other → (mode ∷ count ∷ []) ≡ (other ∷ more ∷ []) → ⊥
other_first mode want other count more is apart e = apart (sym is ∙ first_of_two mode other count more e)
  where
    first_of_two : (a b c d : List ℕ) → (a ∷ c ∷ []) ≡ (b ∷ d ∷ []) → a ≡ b
    first_of_two a b c d same = cc

pub asks_for_manifest_trace : (words : List (List ℕ)) (mode kind : List ℕ) → words ≡ mode ∷ kind ∷ [] → mode ≡ codes "trace" → kind ≡ codes "manifest" → (command : Command) → IsCommand command
    → (Some commands.ManifestTrace ≡ Some command) ↔ (words ≡ command_words command)
asks_for_manifest_trace words mode kind is trace manifest commands.Script fits = (λ e. cc, λ e. absurd (one_not_two (codes "script") mode kind (sym e ∙ is)))
asks_for_manifest_trace words mode kind is trace manifest commands.Manifest fits = (λ e. cc, λ e. absurd (one_not_two (codes "manifest") mode kind (sym e ∙ is)))
asks_for_manifest_trace words mode kind is trace manifest commands.Trace fits = (λ e. cc, λ e. absurd (one_not_two (codes "trace") mode kind (sym e ∙ is)))
asks_for_manifest_trace words mode kind is trace manifest commands.Picture fits = (λ e. cc, λ e. absurd (one_not_two (codes "picture") mode kind (sym e ∙ is)))
asks_for_manifest_trace words mode kind is trace manifest commands.ManifestTrace fits = (λ _. is ∙ (ap (λ m. m ∷ kind ∷ []) trace ∙ ap (λ k. codes "trace" ∷ k ∷ []) manifest), λ _. refl)
asks_for_manifest_trace words mode kind is trace manifest commands.ManifestPicture fits = (λ e. cc, λ e. absurd (other_first mode (codes "trace") (codes "picture") kind (codes "manifest") trace (λ same. cc) (sym is ∙ e)))
asks_for_manifest_trace words mode kind is trace manifest (commands.Threads n) fits = (λ e. cc, λ e. absurd (other_first mode (codes "trace") (codes "threads") kind (count_text n) trace (λ same. cc) (sym is ∙ e)))
asks_for_manifest_trace words mode kind is trace manifest commands.Explore fits = (λ e. cc, λ e. absurd (one_not_two (codes "explore") mode kind (sym e ∙ is)))

pub asks_for_manifest_picture : (words : List (List ℕ)) (mode kind : List ℕ) → words ≡ mode ∷ kind ∷ [] → mode ≡ codes "picture" → kind ≡ codes "manifest" → (command : Command) → IsCommand command
    → (Some commands.ManifestPicture ≡ Some command) ↔ (words ≡ command_words command)
asks_for_manifest_picture words mode kind is picture manifest commands.Script fits = (λ e. cc, λ e. absurd (one_not_two (codes "script") mode kind (sym e ∙ is)))
asks_for_manifest_picture words mode kind is picture manifest commands.Manifest fits = (λ e. cc, λ e. absurd (one_not_two (codes "manifest") mode kind (sym e ∙ is)))
asks_for_manifest_picture words mode kind is picture manifest commands.Trace fits = (λ e. cc, λ e. absurd (one_not_two (codes "trace") mode kind (sym e ∙ is)))
asks_for_manifest_picture words mode kind is picture manifest commands.Picture fits = (λ e. cc, λ e. absurd (one_not_two (codes "picture") mode kind (sym e ∙ is)))
asks_for_manifest_picture words mode kind is picture manifest commands.ManifestTrace fits = (λ e. cc, λ e. absurd (other_first mode (codes "picture") (codes "trace") kind (codes "manifest") picture (λ same. cc) (sym is ∙ e)))
asks_for_manifest_picture words mode kind is picture manifest commands.ManifestPicture fits = (λ _. is ∙ (ap (λ m. m ∷ kind ∷ []) picture ∙ ap (λ k. codes "picture" ∷ k ∷ []) manifest), λ _. refl)
asks_for_manifest_picture words mode kind is picture manifest (commands.Threads n) fits = (λ e. cc, λ e. absurd (other_first mode (codes "picture") (codes "threads") kind (count_text n) picture (λ same. cc) (sym is ∙ e)))
asks_for_manifest_picture words mode kind is picture manifest commands.Explore fits = (λ e. cc, λ e. absurd (one_not_two (codes "explore") mode kind (sym e ∙ is)))

-- two words of one length: their first letters differ
threads_not_picture : codes "threads" ≢ codes "picture"
threads_not_picture same = let letters : 116 ≡ 112 = ap (λ w. get_or w 0 0) same in absurd (omega (arith, letters))

pub asks_for_threads : (words : List (List ℕ)) (mode count : List ℕ) (m : ℕ) → words ≡ mode ∷ count ∷ [] → mode ≡ codes "threads" → ((n : ℕ) → IsCount n → (Some m ≡ Some n) ↔ (count ≡ count_text n)) → (command : Command) → IsCommand command
    → (Some (commands.Threads m) ≡ Some command) ↔ (words ≡ command_words command)
asks_for_threads words mode count m is threads exact commands.Script fits = (λ e. cc, λ e. absurd (one_not_two (codes "script") mode count (sym e ∙ is)))
asks_for_threads words mode count m is threads exact commands.Manifest fits = (λ e. cc, λ e. absurd (one_not_two (codes "manifest") mode count (sym e ∙ is)))
asks_for_threads words mode count m is threads exact commands.Trace fits = (λ e. cc, λ e. absurd (one_not_two (codes "trace") mode count (sym e ∙ is)))
asks_for_threads words mode count m is threads exact commands.ManifestTrace fits = (λ e. cc, λ e. absurd (other_first mode (codes "threads") (codes "trace") count (codes "manifest") threads (λ same. cc) (sym is ∙ e)))
asks_for_threads words mode count m is threads exact commands.Picture fits = (λ e. cc, λ e. absurd (one_not_two (codes "picture") mode count (sym e ∙ is)))
asks_for_threads words mode count m is threads exact commands.ManifestPicture fits = (λ e. cc, λ e. absurd (other_first mode (codes "threads") (codes "picture") count (codes "manifest") threads threads_not_picture (sym is ∙ e)))
asks_for_threads words mode count m is threads exact commands.Explore fits = (λ e. cc, λ e. absurd (one_not_two (codes "explore") mode count (sym e ∙ is)))
asks_for_threads words mode count m is threads exact (commands.Threads n) fits = (
  λ e. let same : Some m ≡ Some n = cc in is ∙ (ap (λ t. t ∷ count ∷ []) threads ∙ ap (λ t. codes "threads" ∷ t ∷ []) ((exact n fits).0 same)),
  λ e. let same : count ≡ count_text n = last_of_two (codes "threads") count (count_text n) (sym (is ∙ ap (λ t. t ∷ count ∷ []) threads) ∙ e) in
      ap (λ k. Some (commands.Threads k)) (same_Some _ _ ((exact n fits).1 same)),
)

pub asks_for_explore : (words : List (List ℕ)) (mode : List ℕ) → words ≡ mode ∷ [] → mode ≡ codes "explore" → (command : Command) → IsCommand command
    → (Some commands.Explore ≡ Some command) ↔ (words ≡ command_words command)
asks_for_explore words mode is explore commands.Script fits = (λ e. cc, λ e. absurd (other_word mode (codes "explore") (codes "script") explore (λ same. cc) (sym is ∙ e)))
asks_for_explore words mode is explore commands.Manifest fits = (λ e. cc, λ e. absurd (other_word mode (codes "explore") (codes "manifest") explore (λ same. cc) (sym is ∙ e)))
asks_for_explore words mode is explore commands.Trace fits = (λ e. cc, λ e. absurd (other_word mode (codes "explore") (codes "trace") explore (λ same. cc) (sym is ∙ e)))
asks_for_explore words mode is explore commands.Picture fits = (λ e. cc, λ e. absurd (other_word mode (codes "explore") (codes "picture") explore (λ same. picture_not_explore (sym same)) (sym is ∙ e)))
asks_for_explore words mode is explore commands.ManifestTrace fits = (λ e. cc, λ e. absurd (one_not_two mode (codes "trace") (codes "manifest") (sym is ∙ e)))
asks_for_explore words mode is explore commands.ManifestPicture fits = (λ e. cc, λ e. absurd (one_not_two mode (codes "picture") (codes "manifest") (sym is ∙ e)))
asks_for_explore words mode is explore (commands.Threads n) fits = (λ e. cc, λ e. absurd (one_not_two mode (codes "threads") (count_text n) (sym is ∙ e)))
asks_for_explore words mode is explore commands.Explore fits = (λ _. is ∙ ap (λ m. m ∷ []) explore, λ _. refl)
