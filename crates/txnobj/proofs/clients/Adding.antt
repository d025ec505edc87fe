-- Rows that are added to rows, and what happens with them.
use Rattle.std.proofs.Common.{◌≡◌, ℕ, List, [], ◌∷◌, ◌++◌, Option, refl, sym, ap, subst, ◌∙◌, append_assoc}
use Rattle.txn_history.specs.declared.event.Answer.{Answer}
use Rattle.txn_client_journals.specs.declared.rows.Step.{Step}
use Rattle.txn_client_journals.specs.declared.rows.JournalRow.{JournalRow}
use Rattle.txn_diary.specs.Keepers.{KeeperState, DoesAll}
use Rattle.txn_diary.specs.Reading.{op_of, begun_by, with_answer, answers_from}
use Rattle.txn_store.specs.declared.request.Request.{Request}
use Rattle.txn_store.specs.declared.request.Reply.{Reply}
use Rattle.txnobj.specs.clients.Noted.{Noted}
use Rattle.txnobj.specs.clients.Happenings.{Happening, row_happens, happens_from, begun_with, HappensAll}
use Rattle.txnobj.specs.clients.Working.{Advances}

module _ {T : Type 0} where
  pub begun_added : (begun : ℕ) (xs ys : List (JournalRow T)) → begun_with begun (xs ++ ys) ≡ begun_with (begun_with begun xs) ys
  begun_added begun [] ys = refl
  begun_added begun (x ∷ xs) ys = begun_added (begun_by begun x.step) xs ys

  pub happens_added : (begun : ℕ) (xs ys : List (JournalRow T)) → happens_from begun (xs ++ ys) ≡ happens_from begun xs ++ happens_from (begun_with begun xs) ys
  happens_added begun [] ys = refl
  happens_added begun (x ∷ xs) ys = ap (λ rest. row_happens (op_of begun x.step) x ++ rest) (happens_added (begun_by begun x.step) xs ys) ∙ sym (append_assoc (row_happens (op_of begun x.step) x) (happens_from (begun_by begun x.step) xs) (happens_from (begun_with (begun_by begun x.step) xs) ys))

  pub answers_added : (begun : ℕ) (xs ys : List (JournalRow T)) → answers_from begun (xs ++ ys) ≡ answers_from begun xs ++ answers_from (begun_with begun xs) ys
  answers_added begun [] ys = refl
  answers_added begun (x ∷ xs) ys = ap (λ rest. with_answer (op_of begun x.step) x.answer ++ rest) (answers_added (begun_by begun x.step) xs ys) ∙ sym (append_assoc (with_answer (op_of begun x.step) x.answer) (answers_from (begun_by begun x.step) xs) (answers_from (begun_with (begun_by begun x.step) xs) ys))

module _ {T C E : Type 0} (does : KeeperState T C E → Step T → Option (Answer T) → KeeperState T C E → Type 0) where
  pub does_one : (old new : KeeperState T C E) (step : Step T) (answer : Option (Answer T)) → does old step answer new → DoesAll does old (record { step = step; answer = answer } ∷ []) new
  does_one old new step answer h = (new, h, refl)

  pub does_more : (a b c : KeeperState T C E) (xs ys : List (JournalRow T)) → DoesAll does a xs b → DoesAll does b ys c → DoesAll does a (xs ++ ys) c
  does_more a b c [] ys one two = subst (λ from. DoesAll does from ys c) one two
  does_more a b c (x ∷ xs) ys one two = (one.0, one.1, does_more one.0 b c xs ys one.2 two)

module _ {T R S : Type 0} (hands : R → Noted T → R → Type 0) (serves : S → Request → Reply → S → Type 0) where
  pub happens_more : (a b c : R) (p q r : S) (xs ys : List (Happening T)) → HappensAll hands serves a p xs b q → HappensAll hands serves b q ys c r → HappensAll hands serves a p (xs ++ ys) c r
  happens_more a b c p q r [] ys one two = subst (λ from. HappensAll hands serves from p ys c r) one.0 (subst (λ from. HappensAll hands serves b from ys c r) one.1 two)
  happens_more a b c p q r (x ∷ xs) ys one two = (one.0, one.1, one.2, happens_more one.0 b c one.1 q r xs ys one.3 two)

module _ {T C E R S : Type 0} (hands : R → Noted T → R → Type 0) (serves : S → Request → Reply → S → Type 0) (does : KeeperState T C E → Step T → Option (Answer T) → KeeperState T C E → Type 0) where
  pub advances_more : (a b c : KeeperState T C E) (m n o : R) (p q r : S) (i j k : ℕ) (xs ys : List (JournalRow T)) → Advances hands serves does a m p i xs b n q j → Advances hands serves does b n q j ys c o r k → Advances hands serves does a m p i (xs ++ ys) c o r k
  advances_more a b c m n o p q r i j k xs ys one two = record {
    did = does_more does a b c xs ys one.did two.did;
    happened = subst (λ (all : List (Happening T)). HappensAll hands serves m p all o r) (ap (λ at. happens_from i xs ++ happens_from at ys) one.begun_is ∙ sym (happens_added i xs ys)) (happens_more hands serves m n o p q r (happens_from i xs) (happens_from j ys) one.happened two.happened);
    begun_is = two.begun_is ∙ (ap (λ at. begun_with at ys) one.begun_is ∙ sym (begun_added i xs ys));
  }
