-- Legal effects are moves, whatever the calls are, and which of them creates a version, or removes one.
use Rattle.std.proofs.Common.{◌≡◌, ℕ, List, Bool, true, false, cond, Option, Some, None, ◌⊎◌, inl, inr, sym, ◌∙◌, refl, ap, subst}
use Rattle.txn_store.specs.Paths.{Segments}
use Rattle.txn_store.specs.declared.request.Request.{Request}
use Rattle.txn_store.specs.declared.request.Request.TheVariants as requests
use Rattle.txn_store.specs.declared.store.PutMode.{PutMode}
use Rattle.txn_store.specs.types.BoundaryText.{boundary_read}
use Rattle.txn_history.specs.declared.event.PlainCall.{PlainCall}
use Rattle.txn_history.specs.declared.trace.RowOf.{RowOf}
use Rattle.txn_history.specs.declared.trace.RowOf.TheVariants.{Effect}
use Rattle.txn_history.specs.History.{Version, is_boundary, created, raised, removed}
use Rattle.txn_history.proofs.Apart.{raise_creates, is_boundary_path}
use Rattle.std.proofs.lemmas.Option.{same_Some}
use Rattle.txn_history.proofs.Moves.{GoesUp, IsReached, IsPut, IsMove, AreMoves}
use Rattle.txn_history.specs.Effects.{Appends, Recreates, Erases, IsLegal, Append, Recreate, Raise, Erase}
use Rattle.txn_history.specs.Trace.{Row}
use Rattle.txn_history.specs.OneHistory.{IsOneHistory}

-- a put of the boundary, and a removal, create no version

put_raises : (path : Segments) (bytes : List ℕ) (mode : PutMode) (to : ℕ) (b : Bool) → is_boundary path ≡ b → cond b (boundary_read bytes) None ≡ Some to → created (requests.Put path bytes mode) ≡ None
put_raises path bytes mode to true e said = ap (λ (p : Segments). created (requests.Put p bytes mode)) (is_boundary_path path e) ∙ raise_creates bytes mode
put_raises path bytes mode to false e said = cc

pub raised_creates : (request : Request) (to : ℕ) → raised request ≡ Some to → created request ≡ None
raised_creates (requests.Put path bytes mode) to e = put_raises path bytes mode to (is_boundary path) refl e
raised_creates (requests.Get path known) to e = cc
raised_creates (requests.List prefix after limit) to e = cc
raised_creates (requests.Delete path) to e = cc

pub removed_creates : (request : Request) (id : ℕ) → removed request ≡ Some id → created request ≡ None
removed_creates (requests.Put path bytes mode) id e = cc
removed_creates (requests.Get path known) id e = cc
removed_creates (requests.List prefix after limit) id e = cc
removed_creates (requests.Delete path) id e = refl

-- what is removed is put in no file
removed_raises : (request : Request) (id : ℕ) → removed request ≡ Some id → raised request ≡ None
removed_raises (requests.Put path bytes mode) id e = cc
removed_raises (requests.Get path known) id e = cc
removed_raises (requests.List prefix after limit) id e = cc
removed_raises (requests.Delete path) id e = refl

module _ {C A T : Type 0} (decode : List ℕ → Option T) (get_epoch : T → ℕ) (WritesOn : List (RowOf C A) → ℕ → C → ℕ → T → Type 0) (MayAppend : List (RowOf C A) → C → Type 0) where
  -- a version is appended, or created again
  abbrev pub VersionPut : List (RowOf C A) → ℕ → Version → Type 0
  VersionPut before op version = Appends decode get_epoch WritesOn MayAppend before op version.0 version.1 ⊎ Recreates decode get_epoch WritesOn MayAppend before op version.0 version.1

  pub move_of : (plain : PlainCall T → C) (before : List (RowOf C A)) (op : ℕ) (request : Request) → IsLegal plain decode get_epoch WritesOn MayAppend before op request → IsMove decode get_epoch before request
  move_of plain before op request (Append id bytes creates a) = inl (subst (IsPut decode get_epoch before) (sym creates) (inl (record { value = a.value; reads = a.reads; next = a.next; rises = a.rises })))
  move_of plain before op request (Recreate id bytes creates r) = inl (subst (IsPut decode get_epoch before) (sym creates) (inr r.again))
  move_of plain before op request (Raise to raises r) = inr (inl (subst (GoesUp before) (sym raises) r.up))
  move_of plain before op request (Erase id removes r) = inr (inr (subst (IsReached before) (sym removes) r.below))

  -- a legal effect that creates a version appends it, or creates it again
  pub put_of_legal : (plain : PlainCall T → C) (before : List (RowOf C A)) (op : ℕ) (request : Request) (version : Version) → created request ≡ Some version → IsLegal plain decode get_epoch WritesOn MayAppend before op request → VersionPut before op version
  put_of_legal plain before op request version e (Append id bytes creates a) = subst (VersionPut before op) (same_Some (id, bytes) version (sym creates ∙ e)) (inl a)
  put_of_legal plain before op request version e (Recreate id bytes creates r) = subst (VersionPut before op) (same_Some (id, bytes) version (sym creates ∙ e)) (inr r)
  put_of_legal plain before op request version e (Raise to raises r) = (let none = raised_creates request to raises in cc)
  put_of_legal plain before op request version e (Erase id removes r) = (let none = removed_creates request id removes in cc)

  -- a legal effect that removes a version erases it
  pub erasure_of_legal : (plain : PlainCall T → C) (before : List (RowOf C A)) (op : ℕ) (request : Request) (id : ℕ) → removed request ≡ Some id → IsLegal plain decode get_epoch WritesOn MayAppend before op request → Erases plain before op id
  erasure_of_legal plain before op request id e (Append n bytes creates a) = (let none = removed_creates request id e in cc)
  erasure_of_legal plain before op request id e (Recreate n bytes creates r) = (let none = removed_creates request id e in cc)
  erasure_of_legal plain before op request id e (Raise to raises r) = (let none = removed_raises request id e in cc)
  erasure_of_legal plain before op request id e (Erase n removes r) = subst (Erases plain before op) (same_Some n id (sym removes ∙ e)) r

-- the effects of one history are moves
pub are_moves : {T : Type 0} (decode : List ℕ → Option T) (get_epoch : T → ℕ) (set_epoch : T → ℕ → T) (failed : List ℕ) (rows : List (Row T)) → IsOneHistory decode get_epoch set_epoch failed rows → AreMoves decode get_epoch rows
are_moves decode get_epoch set_epoch failed rows good k op request e = move_of decode get_epoch _ _ _ _ op request (good k (Effect op request) e)
