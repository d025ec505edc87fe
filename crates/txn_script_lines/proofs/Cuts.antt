-- What `split_once` finds of a text that begins with words of our own.
use Rattle.std.proofs.Common.{◌≡◌, ◌≢◌, ℕ, zero, suc, subst, ◌<◌, ◌^◌, List, [], ◌∷◌, ◌++◌, length, get_or, Option, Some, None, decimal, sym, ◌∙◌, ap, refl, arith, rules, lit<, Bool, true, false, ◌==◌, nat_eq}
use Rattle.std.specs.Int.{IsInRange}
use Rattle.std.specs.Option.{MatchOption}
use Rattle.std.specs.List.{list_any}
use Rattle.std.specs.Cmp.Lexicographic.{same_text}
use Rattle.std.proofs.lemmas.Str.Parse.{not_in_digits}
use Rattle.std.proofs.lemmas.Str.Pattern.{IsSplitOnceResult, split_after, split_parts}
use Rattle.std.proofs.lemmas.Fmt.{digits_decimal}
use Rattle.std.proofs.lemmas.Option.{same_Some}
use Rattle.std.proofs.lemmas.Grind.{common_steps}
use denote.Ref.{Bor}
use lib.Pointwise.{pointwise}
use Rattle.std.specs.declared.ops.Bound.{Bound}
use Rattle.std.specs.declared.ops.Bound.TheVariants as bounds
use Rattle.txn_history.specs.declared.event.Failure.{Failure}
use Rattle.txn_script_lines.specs.Numerals.{decimal_read}
use Rattle.txn_script_lines.proofs.NumeralLemmas.{decimal_read_is}
use Rattle.txn_script_lines.proofs.RecordLemmas.{own}
use Rattle.txn_script_lines.specs.Numerals.{pair_text}
use Rattle.txn_script_lines.specs.Grammar.{base_text, write_text, bound_text, list_text, begin_text, failure_text, fail_text, BaseFits, BoundFits}

-- the bytes do not have this one among them
abbrev pub Lacks : ℕ → List ℕ → Type 0
Lacks c bs = (i : ℕ) → i < length bs → get_or bs i 0 ≢ c

-- a printed number has digits alone
decimal_lacks : (c n : ℕ) → n < 2 ^ 64 → ¬ (IsInRange 48 57 c) → Lacks c (decimal n)
decimal_lacks c n small apart i lt = not_in_digits own (decimal n) c (digits_decimal own n small) apart i lt

base_lacks : (base : Option ℕ) → BaseFits base → Lacks 32 (base_text base)
base_lacks None fits zero lt = search rules
base_lacks None fits (suc i) lt = absurd (omega (arith, lt))
base_lacks (Some id) fits i lt = decimal_lacks 32 id fits (λ h. omega (arith, h)) i lt

-- a word without a byte lacks it
lacks_of : (c : ℕ) (xs : List ℕ) → list_any (λ b. b == c) xs ≡ false → Lacks c xs
lacks_of c [] e i lt = absurd (omega (arith, lt))
lacks_of c (x ∷ xs) e zero lt = grind (arith, common_steps, e)
lacks_of c (x ∷ xs) e (suc i) lt = lacks_of c xs (grind (arith, common_steps, e)) i (omega (arith, lt))

-- a byte before a number
sign_lacks : (c d n : ℕ) → d ≢ c → n < 2 ^ 64 → ¬ (IsInRange 48 57 c) → Lacks c (d ∷ decimal n)
sign_lacks c d n other small apart zero lt = other
sign_lacks c d n other small apart (suc i) lt = decimal_lacks c n small apart i (omega (arith, lt))

bound_lacks : (bound : Bound ℕ) → BoundFits bound → Lacks 32 (bound_text bound)
bound_lacks (bounds.Included id) fits = sign_lacks 32 61 id (λ e. omega (arith, e)) fits (λ h. omega (arith, h))
bound_lacks (bounds.Excluded id) fits = sign_lacks 32 33 id (λ e. omega (arith, e)) fits (λ h. omega (arith, h))
bound_lacks bounds.Unbounded fits = lacks_of 32 (45 ∷ []) refl

-- what `split_once` finds at a space
abbrev pub Found : Type 0
Found = Option (Bor (List ℕ) × Bor (List ℕ))

abbrev Cut : List ℕ → List ℕ → Found → Type 0
Cut xs ys r = MatchOption r ⊥ (λ x. (x.0.now ≡ xs) × (x.1.now ≡ ys))

-- a text of a word, a space and the rest is cut there
cut : (bs xs ys : List ℕ) (r : Found) → IsSplitOnceResult 32 bs r → Lacks 32 xs → bs ≡ xs ++ (32 ∷ ys) → Cut xs ys r
cut bs xs ys r h lacks e = split_after 32 bs xs ys r h (lit< tt) e lacks

at_some : (xs ys : List ℕ) (r : Found) (a b : Bor (List ℕ)) → Cut xs ys r → r ≡ Some (a, b) → (a.now ≡ xs) × (b.now ≡ ys)
at_some xs ys r a b h is = subst (Cut xs ys) is h

at_none : (xs ys : List ℕ) (r : Found) → Cut xs ys r → r ≡ None → ⊥
at_none xs ys r h is = subst (Cut xs ys) is h

-- a text of a word and what stands after it, which are read
pub word_rest : (bs word rest : List ℕ) (a b : Bor (List ℕ)) → IsSplitOnceResult 32 bs (Some (a, b)) → a.now ≡ word → b.now ≡ rest → bs ≡ word ++ (32 ∷ rest)
word_rest bs word rest a b h one two = (split_parts 32 bs (Some (a, b)) h (lit< tt)).0 ∙ rw (one, two) refl

-- the same where that is a number
pub word_number : (bs word : List ℕ) (a b : Bor (List ℕ)) (n : ℕ) → IsSplitOnceResult 32 bs (Some (a, b)) → a.now ≡ word → Some n ≡ decimal_read b.now → bs ≡ word ++ (32 ∷ decimal n)
word_number bs word a b n h one two = word_rest bs word (decimal n) a b h one (decimal_read_is b.now n (sym two)).0

-- what a reader says of a value, where it is read, and where it is not
pub clash : {A : Type 0} (r : Option A) (x : A) → r ≡ Some x → r ≡ None → ⊥
clash r x some none = let same : None ≡ Some x = sym none ∙ some in cc

pub same : {A : Type 0} (r : Option A) (x y : A) → r ≡ Some x → r ≡ Some y → y ≡ x
same r x y one two = let both : Some y ≡ Some x = sym two ∙ one in cc

-- a view and a value that are read as a base and a value, and a base that is none
pub view_same : {T : Type 0} (r : Option (Option ℕ × T)) (base : Option ℕ) (view wanted : ℕ) (value told : T) → r ≡ Some (Some wanted, value) → r ≡ Some (base, told) → base ≡ Some view → ◌≡◌ {A = Option (ℕ × T)} (Some (view, told)) (Some (wanted, value))
view_same {T} r base view wanted value told one two is =
    let pair = same r (Some wanted, value) (base, told) one two in
    let view_is = same_Some view wanted (sym is ∙ ap (λ (p : Option ℕ × T). p.0) pair) in
    let value_is : told ≡ value = ap (λ (p : Option ℕ × T). p.1) pair in
    rw (view_is, value_is) refl

pub no_view : {T : Type 0} (r : Option (Option ℕ × T)) (base : Option ℕ) (wanted : ℕ) (value told : T) → r ≡ Some (Some wanted, value) → r ≡ Some (base, told) → base ≡ None → ⊥
no_view {T} r base wanted value told one two is = clash base wanted (ap (λ (p : Option ℕ × T). p.0) (same r (Some wanted, value) (base, told) one two)) is

module _ {T : Type 0} (text : T → List ℕ) where
  -- the client and the call of a begin
  pub begin_cut : (bs : List ℕ) (client : ℕ) (call : T) (r : Found) (a b : Bor (List ℕ)) → IsSplitOnceResult 32 bs r → client < 2 ^ 64 → bs ≡ begin_text text client call → r ≡ Some (a, b) → (a.now ≡ decimal client) × (b.now ≡ text call)
  begin_cut bs client call r a b h small e is = at_some (decimal client) (text call) r a b (cut bs (decimal client) (text call) r h (decimal_lacks 32 client small (λ k. omega (arith, k))) e) is

  pub begin_no_cut : (bs : List ℕ) (client : ℕ) (call : T) (r : Found) → IsSplitOnceResult 32 bs r → client < 2 ^ 64 → bs ≡ begin_text text client call → r ≡ None → ⊥
  begin_no_cut bs client call r h small e is = at_none (decimal client) (text call) r (cut bs (decimal client) (text call) r h (decimal_lacks 32 client small (λ k. omega (arith, k))) e) is

  -- the base and the value of a write
  pub write_cut : (bs : List ℕ) (base : Option ℕ) (value : T) (r : Found) (a b : Bor (List ℕ)) → IsSplitOnceResult 32 bs r → BaseFits base → bs ≡ write_text text base value → r ≡ Some (a, b) → (a.now ≡ base_text base) × (b.now ≡ text value)
  write_cut bs base value r a b h fits e is = at_some (base_text base) (text value) r a b (cut bs (base_text base) (text value) r h (base_lacks base fits) e) is

  pub write_no_cut : (bs : List ℕ) (base : Option ℕ) (value : T) (r : Found) → IsSplitOnceResult 32 bs r → BaseFits base → bs ≡ write_text text base value → r ≡ None → ⊥
  write_no_cut bs base value r h fits e is = at_none (base_text base) (text value) r (cut bs (base_text base) (text value) r h (base_lacks base fits) e) is

-- the bounds of a listing
pub list_cut : (bs : List ℕ) (from to : Bound ℕ) (r : Found) (a b : Bor (List ℕ)) → IsSplitOnceResult 32 bs r → BoundFits from → bs ≡ list_text from to → r ≡ Some (a, b) → (a.now ≡ bound_text from) × (b.now ≡ bound_text to)
list_cut bs from to r a b h fits e is = at_some (bound_text from) (bound_text to) r a b (cut bs (bound_text from) (bound_text to) r h (bound_lacks from fits) e) is

pub list_no_cut : (bs : List ℕ) (from to : Bound ℕ) (r : Found) → IsSplitOnceResult 32 bs r → BoundFits from → bs ≡ list_text from to → r ≡ None → ⊥
list_no_cut bs from to r h fits e is = at_none (bound_text from) (bound_text to) r (cut bs (bound_text from) (bound_text to) r h (bound_lacks from fits) e) is

-- two numbers
pub pair_cut : (bs : List ℕ) (view epoch : ℕ) (r : Found) (a b : Bor (List ℕ)) → IsSplitOnceResult 32 bs r → view < 2 ^ 64 → bs ≡ pair_text view epoch → r ≡ Some (a, b) → (a.now ≡ decimal view) × (b.now ≡ decimal epoch)
pair_cut bs view epoch r a b h small e is = at_some (decimal view) (decimal epoch) r a b (cut bs (decimal view) (decimal epoch) r h (decimal_lacks 32 view small (λ k. omega (arith, k))) e) is

pub pair_no_cut : (bs : List ℕ) (view epoch : ℕ) (r : Found) → IsSplitOnceResult 32 bs r → view < 2 ^ 64 → bs ≡ pair_text view epoch → r ≡ None → ⊥
pair_no_cut bs view epoch r h small e is = at_none (decimal view) (decimal epoch) r (cut bs (decimal view) (decimal epoch) r h (decimal_lacks 32 view small (λ k. omega (arith, k))) e) is

-- the operation and the way to fail
pub fail_cut : (bs : List ℕ) (op : ℕ) (failure : Failure) (r : Found) (a b : Bor (List ℕ)) → IsSplitOnceResult 32 bs r → op < 2 ^ 64 → bs ≡ fail_text op failure → r ≡ Some (a, b) → (a.now ≡ decimal op) × (b.now ≡ failure_text failure)
fail_cut bs op failure r a b h small e is = at_some (decimal op) (failure_text failure) r a b (cut bs (decimal op) (failure_text failure) r h (decimal_lacks 32 op small (λ k. omega (arith, k))) e) is

pub fail_no_cut : (bs : List ℕ) (op : ℕ) (failure : Failure) (r : Found) → IsSplitOnceResult 32 bs r → op < 2 ^ 64 → bs ≡ fail_text op failure → r ≡ None → ⊥
fail_no_cut bs op failure r h small e is = at_none (decimal op) (failure_text failure) r (cut bs (decimal op) (failure_text failure) r h (decimal_lacks 32 op small (λ k. omega (arith, k))) e) is

-- no number is a dash
pub dash_is_none : (bs : List ℕ) (base : Option ℕ) (b : Bool) → b ≡ pointwise nat_eq bs (45 ∷ []) → b ≡ true → BaseFits base → bs ≡ base_text base → ◌≡◌ {A = Option (Option ℕ)} (Some None) (Some base)
dash_is_none bs None b test dashed fits e = refl
dash_is_none bs (Some id) b test dashed fits e =
    let alike : bs ≡ 45 ∷ [] = same_text bs (45 ∷ []) (sym dashed ∙ test) in
    let dash : decimal id ≡ 45 ∷ [] = sym e ∙ alike in
    let first : get_or (decimal id) 0 0 ≡ 45 = ap (λ xs. get_or xs 0 0) dash in
    let some : 0 < length (decimal id) = rw dash (lit< tt) in
    absurd (decimal_lacks 45 id fits (λ h. omega (arith, h)) 0 some first)

-- what is no dash, and begins with no sign, is no bound
pub not_dash : (bs : List ℕ) (b : Bool) → b ≡ pointwise nat_eq bs (45 ∷ []) → b ≡ false → bs ≢ 45 ∷ []
not_dash bs b test other is = let same : true ≡ false = sym (ap (λ xs. pointwise nat_eq xs (45 ∷ [])) is) ∙ sym test ∙ other in cc

pub no_bound : (bs : List ℕ) (bound : Bound ℕ) → bs ≢ 45 ∷ [] → ((rest : List ℕ) → bs ≢ 61 ∷ rest) → ((rest : List ℕ) → bs ≢ 33 ∷ rest) → bs ≡ bound_text bound → ⊥
no_bound bs (bounds.Included id) dash within beyond e = within (decimal id) e
no_bound bs (bounds.Excluded id) dash within beyond e = beyond (decimal id) e
no_bound bs bounds.Unbounded dash within beyond e = dash e
