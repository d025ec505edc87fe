-- How far those who make calls may go, a share in its count and a client in its journal, and that both keep what is owed of it.
use Rattle.std.proofs.Common.{◌≡◌, ℕ, ◌+◌, ◌≤◌, List, [], ◌++◌, length, refl, sym, ap, ◌∙◌, arith, append_assoc, append-nil, length-append}
use Rattle.txn_client_journals.specs.declared.rows.JournalRow.{JournalRow}
use Rattle.txn_diary.specs.Diaries.{DiaryState}
use Rattle.txn_world_threads.specs.declared.kept.Share.{Share}

-- after no event it is itself, what is at most so many is at most more, events after events are as many as both, and the number stays
pub record GoesOn {X : Type 0} (numbered : X → ℕ) (goes : X → ℕ → X → Type 0) : Type 0 where
  pub none : (x : X) (most : ℕ) → goes x most x
  pub fewer : (x y : X) (m most : ℕ) → goes x m y → m ≤ most → goes x most y
  pub further : (x y z : X) (m n most : ℕ) → goes x m y → goes y n z → m + n ≤ most → goes x most z
  pub number : (x y : X) (most : ℕ) → goes x most y → numbered y ≡ numbered x

-- the same worker's share, after so many more events at most
pub record Grows (old : Share) (most : ℕ) (new : Share) : Type 0 where
  pub worker : new.worker ≡ old.worker
  pub from : old.count ≤ new.count
  pub to : new.count ≤ old.count + most

pub grows_on : GoesOn (λ (share : Share). share.worker) Grows
grows_on = record {
  none = λ x most. record { worker = refl; from = omega arith; to = omega arith };
  fewer = λ x y m most g few. record { worker = g.worker; from = g.from; to = omega (arith, g.to, few) };
  further = λ x y z m n most g h few. record { worker = h.worker ∙ g.worker; from = omega (arith, g.from, h.from); to = omega (arith, g.to, h.to, few) };
  number = λ x y most g. g.worker;
}

-- the same client, after so many more rows at most
pub record Lengthens {T C E : Type 0} (old : DiaryState T C E) (most : ℕ) (new : DiaryState T C E) : Type 0 where
  pub client : new.client ≡ old.client
  pub page : new.page ≡ old.page
  pub codec : new.codec ≡ old.codec
  pub epochs : new.epochs ≡ old.epochs
  pub added : List (JournalRow T)
  pub rows : new.rows ≡ old.rows ++ added
  pub few : length added ≤ most

pub lengthens_on : {T C E : Type 0} → GoesOn (λ (diary : DiaryState T C E). diary.client) Lengthens
lengthens_on {T = T} = record {
  none = λ x most. record { client = refl; page = refl; codec = refl; epochs = refl; added = []; rows = sym (append-nil x.rows); few = omega arith };
  fewer = λ x y m most l few. record { client = l.client; page = l.page; codec = l.codec; epochs = l.epochs; added = l.added; rows = l.rows; few = omega (arith, l.few, few) };
  further = λ x y z m n most l k few. record {
    client = k.client ∙ l.client;
    page = k.page ∙ l.page;
    codec = k.codec ∙ l.codec;
    epochs = k.epochs ∙ l.epochs;
    added = l.added ++ k.added;
    rows = k.rows ∙ (ap (λ (rows : List (JournalRow T)). rows ++ k.added) l.rows ∙ append_assoc x.rows l.added k.added);
    few = omega (arith, l.few, k.few, few, length-append l.added k.added);
  };
  number = λ x y most l. l.client;
}
