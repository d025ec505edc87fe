-- Lemmas on steps within steps.
use Rattle.std.proofs.Common.{◌≡◌, ℕ, Bool, true, false, Option, Some, None, Result, Ok, Err, refl, sym, ap, subst, ◌∙◌}
use Rattle.txn_store.specs.Paths.{Segments}
use Rattle.txn_store.specs.declared.store.Got.{Got}
use Rattle.txn_store.specs.declared.store.StoreError.{StoreError}
use Rattle.txn_store.specs.declared.store.StoreError.TheVariants as errors
use Rattle.txn_store.specs.declared.request.Reply.{Reply}
use Rattle.txn_store.specs.declared.request.Reply.TheVariants as replies
use Rattle.txn_store.specs.types.BoundaryText.{boundary_read}
use Rattle.txn_steps.specs.declared.boundary.caches.CachedBoundary.{CachedBoundary}
use Rattle.txn_steps.specs.declared.boundary.boundary_read.BoundaryRead.{BoundaryRead}
use Rattle.txn_steps.specs.declared.boundary.boundary_read.BoundaryRead.TheVariants as read
use Rattle.txn_steps.specs.declared.boundary.advance.BoundaryAdvance.{BoundaryAdvance}
use Rattle.txn_steps.specs.declared.boundary.advance.BoundaryAdvance.TheVariants as advance
use Rattle.txn_steps.specs.declared.boundary.turned.Turned.{Turned}
use Rattle.txn_steps.specs.declared.boundary.turned.Turned.TheVariants.{Goes, Done}
use Rattle.txn_steps.specs.boundary.Boundaries.{Known}
use Rattle.txn_steps.specs.boundary.Steps.{lacks_memory}
use Rattle.txn_steps.specs.boundary.Asking.{unless_lacking}
use Rattle.txn_steps.specs.boundary.BoundaryReads.{text_read, boundary_got, boundary_held, boundary_replied, boundary_turned}
use Rattle.txn_steps.specs.boundary.BoundaryAdvances.{advance_after, advance_read}

first_of : {A B : Type 0} (a : A) (b : B) (x : A × B) → (a, b) ≡ x → a ≡ x.0
first_of a b x e = ap (λ p. p.0) e

second_of : {A B : Type 0} (a : A) (b : B) (x : A × B) → (a, b) ≡ x → b ≡ x.1
second_of a b x e = ap (λ p. p.1) e

-- a read of the boundary that ends leaves its state
text_same : (op : BoundaryRead) (token : ℕ) (n : Option ℕ) (a : Result Known ℕ) → (text_read op token n).1 ≡ Done a → (text_read op token n).0 ≡ op
text_same op token None a e = refl
text_same op token (Some n) a e = absurd (cc)

got_same : (op : BoundaryRead) (answer : Result Got StoreError) (a : Result Known ℕ) → (boundary_got op answer).1 ≡ Done a → (boundary_got op answer).0 ≡ op
got_same op (Ok got) a e = text_same op got.token (boundary_read got.bytes) a e
got_same op (Err errors.NotModified) a e = absurd (cc)
got_same op (Err error) a e = refl

held_same : (op : BoundaryRead) (known cached : Option CachedBoundary) → (boundary_held op known cached).0 ≡ op
held_same op (Some known) cached = refl
held_same op None (Some cached) = refl
held_same op None None = refl

replied_same : (op : BoundaryRead) (reply : Option Reply) (a : Result Known ℕ) → (boundary_replied op reply).1 ≡ Done a → (boundary_replied op reply).0 ≡ op
replied_same op (Some (replies.Get answer)) a e = got_same op answer a e
replied_same op (Some reply) a e = refl
replied_same op None a e = refl

pub ended_same : (r : BoundaryRead) (cached : Option CachedBoundary) (reply : Option Reply) (a : Result Known ℕ) → (boundary_turned r cached reply).1 ≡ Done a → (boundary_turned r cached reply).0 ≡ r
ended_same (read.Looks path) cached reply a e = absurd (cc)
ended_same (read.Gets request) cached reply a e = replied_same (read.Gets request) reply a e
ended_same (read.Holds known) cached reply a e = held_same (read.Holds known) known cached

-- an advance goes on as what its read says
module _ (path : Segments) (target : ℕ) (again : Bool) (r : BoundaryRead) (op' : BoundaryAdvance) (t : Turned (Result (Unit {0}) ℕ)) where
  going_on : (m : Bool) → m ≡ lacks_memory t → (s : BoundaryRead) → t ≡ Goes → (op', t) ≡ unless_lacking m (advance.Reads target again s) (advance.Reads target again s, Goes)
      → (op', t) ≡ unless_lacking m (advance.Reads target again r) (advance.Reads target again s, Goes)
  going_on true lacks s goes e = absurd (let l : true ≡ false = lacks ∙ ap lacks_memory goes in cc)
  going_on false lacks s goes e = e

  pub reads_on : (x : BoundaryRead × Turned (Result Known ℕ)) → ((a : Result Known ℕ) → x.1 ≡ Done a → x.0 ≡ r) → (x.1 ≡ Goes → t ≡ Goes)
      → (op', t) ≡ unless_lacking (lacks_memory t) (advance.Reads target again x.0) (advance_read path target again x)
      → (op', t) ≡ unless_lacking (lacks_memory t) (advance.Reads target again r) (advance_read path target again x)
  reads_on (s, Goes) same goes e = going_on (lacks_memory t) refl s (goes refl) e
  reads_on (s, Done answer) same goes e = subst (λ y. (op', t) ≡ unless_lacking (lacks_memory t) (advance.Reads target again y) (advance_read path target again (s, Done answer))) (same answer refl) e

  pub reads_on_from : (r' : BoundaryRead) (told : Turned (Result Known ℕ)) (x : BoundaryRead × Turned (Result Known ℕ)) → (r', told) ≡ x → ((a : Result Known ℕ) → x.1 ≡ Done a → x.0 ≡ r) → (told ≡ Goes → t ≡ Goes)
      → (op', t) ≡ unless_lacking (lacks_memory t) (advance.Reads target again r') (advance_after path (advance.Reads target again r') target again told)
      → (op', t) ≡ unless_lacking (lacks_memory t) (advance.Reads target again r) (advance_read path target again x)
  reads_on_from r' told x is same goes e = subst (λ y. (op', t) ≡ unless_lacking (lacks_memory t) (advance.Reads target again r) (advance_read path target again y)) is
      (reads_on (r', told) (λ a is_done. first_of r' told x is ∙ same a (sym (second_of r' told x is) ∙ is_done)) goes e)
