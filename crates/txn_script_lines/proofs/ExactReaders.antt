-- A reader of exactly the texts of values.
use Rattle.std.proofs.Common.{◌≡◌, ℕ, ◌↔◌, List, Option, Some, None, refl, sym, ◌∙◌, ap}
use Rattle.std.specs.Option.{IfSome}

-- Two such readers read the same.
pub reads_alike : {V : Type 0} (text : V → List ℕ) (fits : V → Type 0) (read : List ℕ → Option V) → ((v : V) → fits v → read (text v) ≡ Some v) → ((bs : List ℕ) (v : V) → read bs ≡ Some v → fits v × (bs ≡ text v)) → (bs : List ℕ) (r : Option V) → IfSome r fits → ((v : V) → fits v → (r ≡ Some v) ↔ (bs ≡ text v)) → r ≡ read bs
reads_alike text fits read reads is_read bs (Some v) fit exact = sym (ap read ((exact v fit).0 refl) ∙ reads v fit)
reads_alike {V} text fits read reads is_read bs None fit exact = by (read bs) refl
  where
    by : (o : Option V) → read bs ≡ o → None ≡ o
    by None is = refl
    by (Some v) is = let one = is_read bs v is in (exact v one.0).1 one.1
