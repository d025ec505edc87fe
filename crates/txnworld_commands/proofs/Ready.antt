-- Who makes the calls of a run, before and after it: shares and clients are numbered from 1 on, and clients stay clients.
use Rattle.std.proofs.Common.{◌≡◌, ℕ, zero, suc, ◌+◌, List, [], ◌∷◌, ◌++◌, length, map, slice_get, Some, inl, inr, refl, sym, ◌∙◌, ap, subst, arith, length-append}
use Rattle.std.specs.Option.{option_map}
use Rattle.std.proofs.lemmas.List.{length-map, map-append}
use Rattle.std.proofs.lemmas.Option.{slice_get-map, slice_get_within, same_Some}
use Rattle.txn_world_threads.specs.declared.kept.Share.{Share}
use Rattle.txn_world_threads.specs.Kept.{AreFirst}
use Rattle.txn_world_threads.specs.GoesOn.{Lengthens}
use Rattle.txn_world_threads.specs.Lists.{AreEach}
use Rattle.txnworld_commands.specs.Audits.{RecordDiary, AreClients}
use Rattle.txnworld_commands.specs.Workers.{AreNumbered, AreAfter}
use Rattle.txn_world_threads.proofs.Shares.{near}
use Rattle.txnworld_commands.proofs.Auditing.{client_at}
use Rattle.txnworld_commands.proofs.Sharing.{has_at}

at_more : {X : Type 0} (xs : List X) (x : X) (k : ℕ) (y : X) → slice_get xs k ≡ Some y → slice_get (xs ++ x ∷ []) k ≡ Some y
at_more [] x k y is = cc
at_more (z ∷ xs) x zero y is = is
at_more (z ∷ xs) x (suc k) y is = at_more xs x k y is

at_end : {X : Type 0} (xs : List X) (x : X) (k : ℕ) → k ≡ length xs → slice_get (xs ++ x ∷ []) k ≡ Some x
at_end [] x zero is = refl
at_end [] x (suc k) is = absurd (omega (arith, is))
at_end (z ∷ xs) x zero is = absurd (omega (arith, is))
at_end (z ∷ xs) x (suc k) is = at_end xs x k (omega (arith, is))

each_more : {X : Type 0} (f : ℕ → X) (n : ℕ) (xs : List X) (x : X) → AreEach f n xs → x ≡ f n → AreEach f (n + 1) (xs ++ x ∷ [])
each_more f n xs x are is = record {
  all = omega (arith, length-append xs (x ∷ []), are.all);
  each = λ k below. elim (near k n below) [
    | inl before ↦ at_more xs x k (f k) (are.each k before)
    | inr at ↦ at_end xs x k (at ∙ sym are.all) ∙ ap Some (is ∙ ap f (sym at))
  ];
}

abbrev pair_of : RecordDiary → ℕ × ℕ
pair_of diary = (diary.client, diary.page)

-- the clients so far and one more
pub clients_more : (n : ℕ) (clients items : List RecordDiary) (one : RecordDiary) → AreClients n clients → items ≡ clients ++ one ∷ [] → pair_of one ≡ (n + 1, 1000) → AreClients (n + 1) items
clients_more n clients items one are is new =
    subst (λ (them : List RecordDiary). AreClients (n + 1) them) (sym is) (subst (λ (them : List (ℕ × ℕ)). AreEach (λ k. (k + 1, 1000)) (n + 1) them) (sym (map-append pair_of clients (one ∷ [])))
    (each_more (λ k. (k + 1, 1000)) n (map pair_of clients) (pair_of one) are new))

pub clients_numbered : (workers : ℕ) (clients : List RecordDiary) → AreClients workers clients → AreNumbered (λ (diary : RecordDiary). diary.client) clients
clients_numbered workers clients are k client at = (client_at workers clients k client are at).0

pub are_clients : (workers : ℕ) (before after : List RecordDiary) → AreClients workers before → AreAfter Lengthens before after → AreClients workers after
are_clients workers before after are went =
    let lengths : length after ≡ workers = omega (arith, went.all, length-map before pair_of, are.all) in
    record {
      all = length-map after pair_of ∙ lengths;
      each = λ k below.
          let one = has_at after k (omega (arith, below, lengths)) in
          let was = went.each k one.0 one.1 in
          let is = client_at workers before k was.0 are was.1 in
          let pair_is : slice_get (map pair_of after) k ≡ Some (one.0.client, one.0.page) = slice_get-map pair_of after k ∙ ap (option_map pair_of) one.1 in
          pair_is ∙ (ap (λ n. Some (n, one.0.page)) (was.3.client ∙ is.0) ∙ ap (λ n. Some (k + 1, n)) (was.3.page ∙ is.1));
    }

pub shares_numbered : (workers : ℕ) (shares : List Share) → AreFirst workers shares → AreNumbered (λ (share : Share). share.worker) shares
shares_numbered workers shares first k share at =
    let is : record { worker = k + 1; count = 0 } ≡ share = same_Some _ _ (sym (first.each k (omega (arith, slice_get_within shares k share at, first.all))) ∙ at) in
    ap (λ (it : Share). it.worker) (sym is)
