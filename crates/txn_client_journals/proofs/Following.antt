-- What is kept of an honest store decides what it can reply, and stands for it after its reply.
use Rattle.std.proofs.Common.{◌≡◌, ℕ, ◌+◌, ◌==◌, ◌||◌, Bool, true, false, is_some, List, [], ◌∷◌, ◌++◌, nat_eq, Option, Some, None, Result, Ok, Err, OnOk, OnErr, IfErr, refl, sym, ◌∙◌, ap, subst, arith}
use Rattle.std.specs.FinMap.{get, insert, remove, entries}
use Rattle.std.specs.Cmp.{nat_eq_equiv}
use Rattle.std.specs.HashSet.{contains}
use Rattle.std.specs.List.{list_any}
use Rattle.std.proofs.Math.Bool.{or-false}
use Rattle.std.proofs.lemmas.Bool.{eqb-true, eq-eqb}
use Rattle.std.proofs.lemmas.List.Folds.{list_any-append}
use Rattle.std.proofs.lemmas.Map.Views.{list_any-from_Contains, Contains-from_any}
use Rattle.txn_store.specs.Paths.{Segments}
use Rattle.txn_store.specs.Store.{Files, State as StoreState, Counted, Kept, Removed, Refused, PutRefused, TookPut, put_fault, get_fault, listing, page_of}
use Rattle.txn_store.specs.declared.page.Page.{Page}
use Rattle.txn_store.specs.declared.store.Got.{Got}
use Rattle.txn_store.specs.declared.store.PutMode.{PutMode}
use Rattle.txn_store.specs.declared.store.StoreError.{StoreError}
use Rattle.txn_store.specs.declared.store.StoreError.TheVariants as errors
use Rattle.txn_store.specs.declared.request.Request.{Request}
use Rattle.txn_store.specs.declared.request.Request.TheVariants as requests
use Rattle.txn_store.specs.declared.request.Reply.{Reply}
use Rattle.txn_store.specs.declared.request.Reply.TheVariants as replies
use Rattle.txn_machine.proofs.plain.Faults.{ruled_out}
use Rattle.txn_client_journals.specs.declared.log_fault.LogFault.{LogFault}
use Rattle.txn_client_journals.specs.declared.log_fault.LogFault.TheVariants as faults
use Rattle.txn_client_journals.specs.declared.replayed.Replayed.{Replayed}
use Rattle.txn_client_journals.specs.Logged.{IsOfKind}
use Rattle.txn_client_journals.specs.Honest.{CanReply, SaysFailed, with_token}
use Rattle.txn_client_journals.specs.Replayed.{HasError, HasFile, IsErrorFault, IsPutFault, StandsFor, KeepsAll, KeepsPut, KeepsRemoved, IsTaken, Follows}

-- a store after a call that changed nothing
abbrev counted : StoreState → StoreState
counted s = record s { calls = s.calls + 1 }

once : (s : StoreState) → Counted s (counted s)
once s = record { calls = refl; failures = omega arith }

keeps : (s : StoreState) → Kept s (counted s)
keeps s = record { files = refl; given = refl; left = refl }

untrue : false ≡ true → ⊥
untrue e = cc

-- the errors that an honest store gives

gives : (fault : Option StoreError) (effect : Type 0) (s : StoreState) (error : StoreError) → HasError fault false error → Refused fault effect s (counted s) error
gives fault effect s errors.Failed h = absurd h
gives fault effect s errors.TokensExhausted h = absurd (untrue h.1)
gives fault effect s errors.NoMemory h = (h, keeps s)
gives fault effect s errors.NotFound h = (h, keeps s)
gives fault effect s errors.AlreadyExists h = (h, keeps s)
gives fault effect s errors.Precondition h = (h, keeps s)
gives fault effect s errors.NotModified h = (h, keeps s)

put_gives : (fault : Option StoreError) (effect : Type 0) (s : StoreState) (error : StoreError) → HasError fault (s.left == 0) error → PutRefused fault effect s (counted s) error
put_gives fault effect s errors.Failed h = absurd h
put_gives fault effect s errors.TokensExhausted h = (h.0, eqb-true s.left 0 h.1, keeps s)
put_gives fault effect s errors.NoMemory h = (h, keeps s)
put_gives fault effect s errors.NotFound h = (h, keeps s)
put_gives fault effect s errors.AlreadyExists h = (h, keeps s)
put_gives fault effect s errors.Precondition h = (h, keeps s)
put_gives fault effect s errors.NotModified h = (h, keeps s)

gave : (fault : Option StoreError) (effect : Type 0) (s after : StoreState) (error : StoreError) → Refused fault effect s after error → after.failures ≡ 0 → HasError fault false error
gave fault effect s after errors.Failed r honest = ruled_out s after honest r.0
gave fault effect s after errors.TokensExhausted r honest = absurd r
gave fault effect s after errors.NoMemory r honest = r.0
gave fault effect s after errors.NotFound r honest = r.0
gave fault effect s after errors.AlreadyExists r honest = r.0
gave fault effect s after errors.Precondition r honest = r.0
gave fault effect s after errors.NotModified r honest = r.0

put_gave : (fault : Option StoreError) (effect : Type 0) (s after : StoreState) (error : StoreError) → PutRefused fault effect s after error → after.failures ≡ 0 → HasError fault (s.left == 0) error
put_gave fault effect s after errors.Failed r honest = ruled_out s after honest r.0
put_gave fault effect s after errors.TokensExhausted r honest = (r.0, eq-eqb s.left 0 r.1)
put_gave fault effect s after errors.NoMemory r honest = r.0
put_gave fault effect s after errors.NotFound r honest = r.0
put_gave fault effect s after errors.AlreadyExists r honest = r.0
put_gave fault effect s after errors.Precondition r honest = r.0
put_gave fault effect s after errors.NotModified r honest = r.0

move_error : (f g : Option StoreError) (a b : Bool) (error : StoreError) → f ≡ g → a ≡ b → HasError f a error → HasError g b error
move_error f g a b error e d h = subst (λ (x : Bool). HasError g x error) d (subst (λ (x : Option StoreError). HasError x a error) e h)

abbrev error_in : {A : Type 0} → Result A StoreError → StoreError
error_in (Ok done) = errors.NotFound
error_in (Err error) = error

-- what is kept stands for the store after

stays : (kept : Replayed) (store : StoreState) → StandsFor kept store → StandsFor kept (counted store)
stays kept store s = record { files = s.files; given = s.given; left = s.left; honest = s.honest }

all_stays : (old new : Replayed) (store : StoreState) → StandsFor old store → KeepsAll old new → StandsFor new store
all_stays old new store s k = record { files = k.files ∙ s.files; given = λ token. k.given token ∙ s.given token; left = k.left ∙ s.left; honest = s.honest }

any_one : (xs : List ℕ) (x n : ℕ) → list_any (nat_eq n) (xs ++ x ∷ []) ≡ (list_any (nat_eq n) xs || nat_eq n x)
any_one xs x n = list_any-append (nat_eq n) xs (x ∷ []) ∙ ap (λ (b : Bool). list_any (nat_eq n) xs || b) (or-false (nat_eq n x))

same_number : (x y : ℕ) → nat_eq x y ≡ true → x ≡ y
same_number x y e = eqb-true x y e

-- an attempt to take an error
error_follows : (request : Request) (reply : Reply) (error : StoreError) (store : StoreState) (kept : Replayed) (P : Type 0) (r : Result (Unit {0}) LogFault) → IsOfKind request reply → (SaysFailed reply → error ≡ errors.Failed) → (error ≡ errors.Failed → SaysFailed reply) → (P → IsTaken request store reply kept) → ((token : ℕ) → CanReply request store (with_token token reply) → P) → OnOk r P → IfErr r (IsErrorFault P error) → StandsFor kept store → Follows request store reply r kept
error_follows request reply error store kept P (Ok done) kind says said taken can ok err s = taken ok
error_follows request reply error store kept P (Err faults.Failed) kind says said taken can ok err s = (s, (kind, said err))
error_follows request reply error store kept P (Err faults.OtherAnswer) kind says said taken can ok err s = (s, (kind, (λ f. err.0 (says f)), λ token c. err.1 (can token c)))
error_follows request reply error store kept P (Err faults.OtherKind) kind says said taken can ok err s = absurd err
error_follows request reply error store kept P (Err faults.TokenGiven) kind says said taken can ok err s = absurd err
error_follows request reply error store kept P (Err faults.NoMemory) kind says said taken can ok err s = absurd err

-- puts

pub not_some : (fault other : Option StoreError) → fault ≡ other → is_some fault ≡ false → other ≡ None
not_some fault None is none = refl
not_some fault (Some error) is none = absurd (untrue (sym none ∙ ap is_some is))

module _ (path : Segments) (bytes : List ℕ) (mode : PutMode) (kept : Replayed) (store : StoreState) (s : StandsFor kept store) where
  put_here : put_fault mode (get kept.files path) ≡ put_fault mode (get store.files path)
  put_here = ap (λ (fs : Files). put_fault mode (get fs path)) s.files

  pub put_error_follows : (fault : Option StoreError) (spent : Bool) (error : StoreError) (r : Result (Unit {0}) LogFault) → fault ≡ put_fault mode (get kept.files path) → spent ≡ (kept.left == 0) → OnOk r (HasError fault spent error) → IfErr r (IsErrorFault (HasError fault spent error) error) → Follows (requests.Put path bytes mode) store (replies.Put (Err error)) r kept
  put_error_follows fault spent error r is none ok err =
      let there = put_fault mode (get store.files path) in
      let one : fault ≡ there = is ∙ put_here in
      let two : spent ≡ (store.left == 0) = none ∙ ap (λ (n : ℕ). n == 0) s.left in
      error_follows (requests.Put path bytes mode) (replies.Put (Err error)) error store kept (HasError fault spent error) r tt (λ f. ap error_in f) (λ e. ap (λ (x : StoreError). Err x) e)
      (λ h. record {
        after = counted store;
        serves = record { counted = once store; allowed = tt; placed = tt; err = put_gives there (TookPut path bytes mode store (counted store)) store error (move_error fault there spent (store.left == 0) error one two h) };
        stands = stays kept store s;
      })
      (λ token c. move_error there fault (store.left == 0) spent error (sym one) (sym two) (put_gave there (TookPut path bytes mode store c.0) store c.0 error c.1.err c.2))
      ok err s

  put_taken : (token : ℕ) (new : Replayed) → put_fault mode (get kept.files path) ≡ None → KeepsPut path bytes token kept new → IsTaken (requests.Put path bytes mode) store (replies.Put (Ok token)) new
  put_taken token new allowed k =
      let got : Got = record { bytes = bytes; token = token } in
      let fresh : list_any (nat_eq token) store.given ≡ false = sym (s.given token) ∙ k.fresh in
      let one = k.left in
      let left = s.left in
      record {
        after = record { files = insert store.files path got; given = store.given ++ token ∷ []; left = new.left; calls = store.calls + 1; failures = store.failures };
        serves = record {
          counted = record { calls = refl; failures = omega arith };
          allowed = sym put_here ∙ allowed;
          placed = record {
            files = refl;
            fresh = λ h. untrue (sym fresh ∙ list_any-from_Contains nat_eq_equiv token store.given h);
            given = refl;
            left = sym left ∙ one;
          };
          err = tt;
        };
        stands = record {
          files = k.files ∙ ap (λ (fs : Files). insert fs path got) s.files;
          given = λ other. k.given other ∙ (ap (λ (b : Bool). b || nat_eq other token) (s.given other) ∙ sym (any_one store.given token other));
          left = refl;
          honest = s.honest;
        };
      }

  pub put_follows : (token : ℕ) (new : Replayed) (r : Result (Unit {0}) LogFault) → put_fault mode (get kept.files path) ≡ None → OnOk r (KeepsPut path bytes token kept new) → OnErr r (KeepsAll kept new) → IfErr r (IsPutFault (contains nat_eq kept.given token)) → Follows (requests.Put path bytes mode) store (replies.Put (Ok token)) r new
  put_follows token new (Ok done) allowed ok err fault = put_taken token new allowed ok
  put_follows token new (Err faults.TokenGiven) allowed ok err fault = (all_stays kept new store s err, (tt, Contains-from_any same_number token store.given (sym (s.given token) ∙ fault)))
  put_follows token new (Err faults.NoMemory) allowed ok err fault = (all_stays kept new store s err, tt)
  put_follows token new (Err faults.OtherKind) allowed ok err fault = absurd fault
  put_follows token new (Err faults.Failed) allowed ok err fault = absurd fault
  put_follows token new (Err faults.OtherAnswer) allowed ok err fault = absurd fault

-- gets

module _ (path : Segments) (known : Option ℕ) (kept : Replayed) (store : StoreState) (s : StandsFor kept store) where
  found_here : get kept.files path ≡ get store.files path
  found_here = ap (λ (fs : Files). get fs path) s.files

  pub get_error_follows : (fault : Option StoreError) (error : StoreError) (r : Result (Unit {0}) LogFault) → fault ≡ get_fault known (get kept.files path) → OnOk r (HasError fault false error) → IfErr r (IsErrorFault (HasError fault false error) error) → Follows (requests.Get path known) store (replies.Get (Err error)) r kept
  get_error_follows fault error r is ok err =
      let there = get_fault known (get store.files path) in
      let one : fault ≡ there = is ∙ ap (get_fault known) found_here in
      error_follows (requests.Get path known) (replies.Get (Err error)) error store kept (HasError fault false error) r tt (λ f. ap error_in f) (λ e. ap (λ (x : StoreError). Err x) e)
      (λ h. record {
        after = counted store;
        serves = record { counted = once store; allowed = tt; found = tt; kept = tt; err = gives there ⊥ store error (move_error fault there false false error one refl h) };
        stands = stays kept store s;
      })
      (λ token c. move_error there fault false false error (sym one) refl (gave there ⊥ store c.0 error c.1.err c.2))
      ok err s

  pub got_follows : (found : Option Got) (got : Got) → found ≡ get kept.files path → HasFile known found got → IsTaken (requests.Get path known) store (replies.Get (Ok got)) kept
  got_follows found got is h =
      let there : found ≡ get store.files path = is ∙ found_here in
      record {
        after = counted store;
        serves = record { counted = once store; allowed = sym (ap (get_fault known) there) ∙ h.0; found = sym there ∙ h.1; kept = keeps store; err = tt };
        stands = stays kept store s;
      }

-- listings

module _ (prefix : Segments) (after : Option Segments) (limit : ℕ) (kept : Replayed) (store : StoreState) (s : StandsFor kept store) where
  abbrev page_in : Files → Page
  page_in fs = page_of limit (listing prefix after (entries fs))

  pub list_error_follows : (error : StoreError) (r : Result (Unit {0}) LogFault) → OnOk r (HasError None false error) → IfErr r (IsErrorFault (HasError None false error) error) → Follows (requests.List prefix after limit) store (replies.List (Err error)) r kept
  list_error_follows error r ok err =
      error_follows (requests.List prefix after limit) (replies.List (Err error)) error store kept (HasError None false error) r tt (λ f. ap error_in f) (λ e. ap (λ (x : StoreError). Err x) e)
      (λ h. record { after = counted store; serves = record { counted = once store; listed = tt; kept = tt; err = gives None ⊥ store error h }; stands = stays kept store s })
      (λ token c. gave None ⊥ store c.0 error c.1.err c.2)
      ok err s

  pub listed_follows : (told page : Page) → page ≡ page_in kept.files → told ≡ page → IsTaken (requests.List prefix after limit) store (replies.List (Ok told)) kept
  listed_follows told page is same = record {
    after = counted store;
    serves = record { counted = once store; listed = same ∙ (is ∙ ap page_in s.files); kept = keeps store; err = tt };
    stands = stays kept store s;
  }

-- deletes

module _ (path : Segments) (kept : Replayed) (store : StoreState) (s : StandsFor kept store) where
  pub delete_error_follows : (error : StoreError) (r : Result (Unit {0}) LogFault) → OnOk r (HasError None false error) → IfErr r (IsErrorFault (HasError None false error) error) → Follows (requests.Delete path) store (replies.Delete (Err error)) r kept
  delete_error_follows error r ok err =
      error_follows (requests.Delete path) (replies.Delete (Err error)) error store kept (HasError None false error) r tt (λ f. ap error_in f) (λ e. ap (λ (x : StoreError). Err x) e)
      (λ h. record { after = counted store; serves = record { counted = once store; removed = tt; err = gives None (Removed path store (counted store)) store error h }; stands = stays kept store s })
      (λ token c. gave None (Removed path store c.0) store c.0 error c.1.err c.2)
      ok err s

  pub removed_follows : (done : Unit {0}) (new : Replayed) → KeepsRemoved path kept new → IsTaken (requests.Delete path) store (replies.Delete (Ok done)) new
  removed_follows done new k = record {
    after = record { files = remove store.files path; given = store.given; left = store.left; calls = store.calls + 1; failures = store.failures };
    serves = record { counted = record { calls = refl; failures = omega arith }; removed = record { files = refl; given = refl; left = refl }; err = tt };
    stands = record { files = k.files ∙ ap (λ (fs : Files). remove fs path) s.files; given = λ token. k.given token ∙ s.given token; left = k.left ∙ s.left; honest = s.honest };
  }
