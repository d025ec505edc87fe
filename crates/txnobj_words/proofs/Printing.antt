-- Lines that are printed one after another.
use Rattle.std.proofs.Common.{◌≡◌, ℕ, ◌+◌, ◌<◌, List, [], ◌∷◌, ◌++◌, length, drop, get_or, add-one, refl, Option, Some, None, sym, ◌∙◌, ap, append_assoc}
use Rattle.std.proofs.lemmas.List.{append-nil}
use Rattle.std.proofs.Math.Seq.{drop-cons}
use Rattle.std.specs.Io.KnownBytes.{Appends}
use Rattle.txnobj_words.specs.Said.{with_feed, lines_of}

pub appends_nothing : (o : Option (List ℕ)) → Appends o o []
appends_nothing None = tt
appends_nothing (Some xs) = sym (append-nil xs)

pub appends_both : (a b c : Option (List ℕ)) (xs ys : List ℕ) → Appends a b xs → Appends b c ys → Appends a c (xs ++ ys)
appends_both None b c xs ys one two = tt
appends_both (Some us) None c xs ys one two = absurd one
appends_both (Some us) (Some bs) None xs ys one two = absurd two
appends_both (Some us) (Some bs) (Some cs) xs ys one two = two ∙ ap (λ zs. zs ++ ys) one ∙ append_assoc us xs ys

module _ {X : Type 0} (text : X → List ℕ) where
  -- One more line is printed.
  pub one_more : (xs : List X) (i : ℕ) (d : X) (a b c : Option (List ℕ)) (before : List ℕ) → i < length xs → Appends a b before → Appends b c (with_feed (text (get_or xs i d))) → before ++ lines_of text (drop i xs) ≡ lines_of text xs
      → (printed : List ℕ) × Appends a c printed × (printed ++ lines_of text (drop (i + 1) xs) ≡ lines_of text xs)
  one_more xs i d a b c before lt so_far written whole =
      let this = with_feed (text (get_or xs i d)) in (
        before ++ this,
        appends_both a b c before this so_far written,
        append_assoc before this (lines_of text (drop (i + 1) xs)) ∙ ap (λ more. before ++ more) (sym (ap (lines_of text) (drop-cons xs i d lt) ∙ rw add-one refl)) ∙ whole,
      )
