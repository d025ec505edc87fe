-- Why the files of a store refuse a put or a get, and what a call that is not done leaves.
use Rattle.std.proofs.Common.{◌≡◌, ◌≢◌, ℕ, ◌<◌, List, ◌==◌, Bool, true, false, cond, is_some, Option, Some, None, Ok, Err, Result, refl, sym, ap, arith}
use Rattle.std.proofs.lemmas.Bool.{eqb-true}
use Rattle.std.proofs.lemmas.Option.{same_Some}
use Rattle.txn_store.specs.Paths.{Segments}
use Rattle.txn_store.specs.Store.{State as StoreState, Kept, Puts, Gets, Lists, Deletes, create_fault, update_fault, put_fault, get_fault}
use Rattle.txn_store.specs.declared.page.Page.{Page}
use Rattle.txn_store.specs.declared.store.Got.{Got}
use Rattle.txn_store.specs.declared.store.PutMode.{PutMode}
use Rattle.txn_store.specs.declared.store.StoreError.{StoreError}
use Rattle.txn_store.specs.declared.store.StoreError.TheVariants as errors
use Rattle.txn_steps.specs.boundary.BoundaryAdvances.{raise_mode}

-- why they refuse a put

pub create_none : (found : Option Got) → create_fault found ≡ None → is_some found ≡ false
create_none None e = refl
create_none (Some got) e = cc

pub create_there : (found : Option Got) → create_fault found ≡ Some errors.AlreadyExists → is_some found ≡ true
create_there None e = cc
create_there (Some got) e = refl

pub create_other : (found : Option Got) (error : StoreError) → error ≢ errors.AlreadyExists → create_fault found ≡ Some error → ⊥
create_other None error other e = cc
create_other (Some got) error other e = other (sym (same_Some errors.AlreadyExists error e))

cond_other : (b : Bool) (error : StoreError) → error ≢ errors.Precondition → cond b None (Some errors.Precondition) ≡ Some error → ⊥
cond_other true error other e = cc
cond_other false error other e = other (sym (same_Some errors.Precondition error e))

update_other : (token : ℕ) (found : Option Got) (error : StoreError) → error ≢ errors.Precondition → update_fault token found ≡ Some error → ⊥
update_other token None error other e = other (sym (same_Some errors.Precondition error e))
update_other token (Some got) error other e = cond_other (got.token == token) error other e

pub raise_other : (token : Option ℕ) (found : Option Got) (error : StoreError) → error ≢ errors.AlreadyExists → error ≢ errors.Precondition → put_fault (raise_mode token) found ≡ Some error → ⊥
raise_other None found error other other' e = create_other found error other e
raise_other (Some token) found error other other' e = update_other token found error other' e

cond_none : (b : Bool) → cond b None (Some errors.Precondition) ≡ None → b ≡ true
cond_none true e = refl
cond_none false e = cc

pub update_none : (token : ℕ) (found : Option Got) → update_fault token found ≡ None → (got : Got) × (found ≡ Some got) × (got.token ≡ token)
update_none token None e = cc
update_none token (Some got) e = (got, refl, eqb-true got.token token (cond_none (got.token == token) e))

pub not_some : (found : Option Got) → is_some found ≡ false → found ≡ None
not_some None e = refl
not_some (Some got) e = cc

-- why the files of a store refuse a get

match_other : (same : Bool) (error : StoreError) → error ≢ errors.NotModified → cond same (Some errors.NotModified) None ≡ Some error → ⊥
match_other true error other e = other (sym (same_Some errors.NotModified error e))
match_other false error other e = cc

pub get_other : (token : Option ℕ) (found : Option Got) (error : StoreError) → error ≢ errors.NotFound → error ≢ errors.NotModified → get_fault token found ≡ Some error → ⊥
get_other token None error other other' e = other (sym (same_Some errors.NotFound error e))
get_other None (Some got) error other other' e = cc
get_other (Some token) (Some got) error other other' e = match_other (got.token == token) error other' e

match_missing : (same : Bool) → cond same (Some errors.NotModified) None ≡ Some errors.NotFound → ⊥
match_missing true e = cc
match_missing false e = cc

pub get_missing : (token : Option ℕ) (found : Option Got) → get_fault token found ≡ Some errors.NotFound → found ≡ None
get_missing token None e = refl
get_missing None (Some got) e = cc
get_missing (Some token) (Some got) e = absurd (match_missing (got.token == token) e)

match_same : (same : Bool) → cond same (Some errors.NotModified) None ≡ Some errors.NotModified → same ≡ true
match_same true e = refl
match_same false e = cc

-- the file has the token that was sent
pub record SameFile (token : Option ℕ) (found : Option Got) : Type 0 where
  pub got : Got
  pub there : found ≡ Some got
  pub sent : token ≡ Some got.token

pub get_same : (token : Option ℕ) (found : Option Got) → get_fault token found ≡ Some errors.NotModified → SameFile token found
get_same token None e = cc
get_same None (Some got) e = cc
get_same (Some token) (Some got) e = record { got = got; there = refl; sent = ap Some (sym (eqb-true got.token token (match_same (got.token == token) e))) }

-- without a token nothing but a missing file is refused
pub missing_other : (found : Option Got) (error : StoreError) → error ≢ errors.NotFound → get_fault None found ≡ Some error → ⊥
missing_other None error other e = other (sym (same_Some errors.NotFound error e))
missing_other (Some got) error other e = cc

-- an answer that the store's honesty rules out
pub ruled_out : {P : Type 0} (old new : StoreState) → new.failures ≡ 0 → old.failures < new.failures → P
ruled_out old new honest more = absurd (omega (arith, honest, more))

-- what is not done changes nothing but the store's counts

pub put_kept : (path : Segments) (bytes : List ℕ) (mode : PutMode) (old new : StoreState) (error : StoreError) → Puts path bytes mode old (Err error) new → new.failures ≡ 0 → Kept old new
put_kept path bytes mode old new errors.Failed p honest = ruled_out old new honest p.err.0
put_kept path bytes mode old new errors.NoMemory p honest = p.err.1
put_kept path bytes mode old new errors.TokensExhausted p honest = p.err.2
put_kept path bytes mode old new errors.NotFound p honest = p.err.1
put_kept path bytes mode old new errors.AlreadyExists p honest = p.err.1
put_kept path bytes mode old new errors.Precondition p honest = p.err.1
put_kept path bytes mode old new errors.NotModified p honest = p.err.1

pub delete_kept : (path : Segments) (old new : StoreState) (error : StoreError) → Deletes path old (Err error) new → new.failures ≡ 0 → Kept old new
delete_kept path old new errors.Failed d honest = ruled_out old new honest d.err.0
delete_kept path old new errors.NoMemory d honest = d.err.1
delete_kept path old new errors.TokensExhausted d honest = absurd d.err
delete_kept path old new errors.NotFound d honest = d.err.1
delete_kept path old new errors.AlreadyExists d honest = d.err.1
delete_kept path old new errors.Precondition d honest = d.err.1
delete_kept path old new errors.NotModified d honest = d.err.1

-- a get and a listing change nothing but the store's counts

pub get_kept : (path : Segments) (known : Option ℕ) (old new : StoreState) (answer : Result Got StoreError) → Gets path known old answer new → new.failures ≡ 0 → Kept old new
get_kept path known old new (Ok got) g honest = g.kept
get_kept path known old new (Err errors.Failed) g honest = ruled_out old new honest g.err.0
get_kept path known old new (Err errors.NoMemory) g honest = g.err.1
get_kept path known old new (Err errors.TokensExhausted) g honest = absurd g.err
get_kept path known old new (Err errors.NotFound) g honest = g.err.1
get_kept path known old new (Err errors.AlreadyExists) g honest = g.err.1
get_kept path known old new (Err errors.Precondition) g honest = g.err.1
get_kept path known old new (Err errors.NotModified) g honest = g.err.1

pub listed_kept : (prefix : Segments) (after : Option Segments) (limit : ℕ) (old new : StoreState) (answer : Result Page StoreError) → Lists prefix after limit old answer new → new.failures ≡ 0 → Kept old new
listed_kept prefix after limit old new (Ok page) l honest = l.kept
listed_kept prefix after limit old new (Err errors.Failed) l honest = ruled_out old new honest l.err.0
listed_kept prefix after limit old new (Err errors.NoMemory) l honest = l.err.1
listed_kept prefix after limit old new (Err errors.TokensExhausted) l honest = absurd l.err
listed_kept prefix after limit old new (Err errors.NotFound) l honest = l.err.1
listed_kept prefix after limit old new (Err errors.AlreadyExists) l honest = l.err.1
listed_kept prefix after limit old new (Err errors.Precondition) l honest = l.err.1
listed_kept prefix after limit old new (Err errors.NotModified) l honest = l.err.1
