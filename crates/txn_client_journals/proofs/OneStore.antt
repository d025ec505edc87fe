-- A log leads to one store, so what is refused at its end stands in no log.
use Rattle.std.proofs.Common.{◌≡◌, ℕ, ◌⊎◌, inl, inr, List, [], ◌∷◌, ◌++◌, reverse, Option, None, Result, Ok, Err, IfErr, refl, sym, ◌∙◌, ap, subst, arith}
use Rattle.std.proofs.lemmas.List.{reverse-append}
use Rattle.std.specs.FinMap.{get}
use Rattle.txn_store.specs.Paths.{Segments}
use Rattle.txn_store.specs.Store.{Files, State as StoreState, Counted, Kept, Removed, Refused, PutRefused, TookPut, Puts, Deletes, put_fault, get_fault}
use Rattle.txn_store.specs.Requests.{Serves}
use Rattle.txn_store.specs.declared.page.Page.{Page}
use Rattle.txn_store.specs.declared.store.Got.{Got}
use Rattle.txn_store.specs.declared.store.PutMode.{PutMode}
use Rattle.txn_store.specs.declared.store.StoreError.{StoreError}
use Rattle.txn_store.specs.declared.request.Request.{Request}
use Rattle.txn_store.specs.declared.request.Request.TheVariants as requests
use Rattle.txn_store.specs.declared.request.Reply.{Reply}
use Rattle.txn_store.specs.declared.request.Reply.TheVariants as replies
use Rattle.txn_machine.proofs.plain.Faults.{ruled_out, put_kept, get_kept, listed_kept, delete_kept}
use Rattle.txn_client_journals.specs.declared.rows.LogRow.{LogRow}
use Rattle.txn_client_journals.specs.Logs.{IsLog}
use Rattle.txn_client_journals.specs.declared.log_fault.LogFault.{LogFault}
use Rattle.txn_client_journals.specs.declared.log_fault.LogFault.TheVariants as faults
use Rattle.txn_client_journals.specs.declared.replayed.Replayed.{Replayed}
use Rattle.txn_client_journals.specs.Logged.{IsOfKind}
use Rattle.txn_client_journals.specs.Honest.{IsHonest, CanReply, SaysFailed, with_token, GivesAgain, IsReason, IsReasonAfter}
use Rattle.txn_client_journals.specs.Replayed.{IsTaken, IsKept}

-- by the kind of a request and its reply

by_kind : (P : Request → Reply → Type 0) → ((path : Segments) (bytes : List ℕ) (mode : PutMode) (answer : Result ℕ StoreError) → P (requests.Put path bytes mode) (replies.Put answer)) → ((path : Segments) (known : Option ℕ) (answer : Result Got StoreError) → P (requests.Get path known) (replies.Get answer)) → ((prefix : Segments) (after : Option Segments) (limit : ℕ) (answer : Result Page StoreError) → P (requests.List prefix after limit) (replies.List answer)) → ((path : Segments) (answer : Result (Unit {0}) StoreError) → P (requests.Delete path) (replies.Delete answer)) → (request : Request) (reply : Reply) → IsOfKind request reply → P request reply
by_kind P p g l d (requests.Put path bytes mode) (replies.Put answer) k = p path bytes mode answer
by_kind P p g l d (requests.Get path known) (replies.Get answer) k = g path known answer
by_kind P p g l d (requests.List prefix after limit) (replies.List answer) k = l prefix after limit answer
by_kind P p g l d (requests.Delete path) (replies.Delete answer) k = d path answer
by_kind P p g l d (requests.Put path bytes mode) (replies.Get answer) k = absurd k
by_kind P p g l d (requests.Put path bytes mode) (replies.List answer) k = absurd k
by_kind P p g l d (requests.Put path bytes mode) (replies.Delete answer) k = absurd k
by_kind P p g l d (requests.Get path known) (replies.Put answer) k = absurd k
by_kind P p g l d (requests.Get path known) (replies.List answer) k = absurd k
by_kind P p g l d (requests.Get path known) (replies.Delete answer) k = absurd k
by_kind P p g l d (requests.List prefix after limit) (replies.Put answer) k = absurd k
by_kind P p g l d (requests.List prefix after limit) (replies.Get answer) k = absurd k
by_kind P p g l d (requests.List prefix after limit) (replies.Delete answer) k = absurd k
by_kind P p g l d (requests.Delete path) (replies.Put answer) k = absurd k
by_kind P p g l d (requests.Delete path) (replies.Get answer) k = absurd k
by_kind P p g l d (requests.Delete path) (replies.List answer) k = absurd k

-- what is served is of the request's kind
served_kind : (request : Request) (s : StoreState) (reply : Reply) (after : StoreState) → Serves request s reply after → IsOfKind request reply
served_kind (requests.Put path bytes mode) s (replies.Put answer) after serves = tt
served_kind (requests.Get path known) s (replies.Get answer) after serves = tt
served_kind (requests.List prefix from limit) s (replies.List answer) after serves = tt
served_kind (requests.Delete path) s (replies.Delete answer) after serves = tt
served_kind (requests.Put path bytes mode) s (replies.Get answer) after serves = absurd serves
served_kind (requests.Put path bytes mode) s (replies.List answer) after serves = absurd serves
served_kind (requests.Put path bytes mode) s (replies.Delete answer) after serves = absurd serves
served_kind (requests.Get path known) s (replies.Put answer) after serves = absurd serves
served_kind (requests.Get path known) s (replies.List answer) after serves = absurd serves
served_kind (requests.Get path known) s (replies.Delete answer) after serves = absurd serves
served_kind (requests.List prefix from limit) s (replies.Put answer) after serves = absurd serves
served_kind (requests.List prefix from limit) s (replies.Get answer) after serves = absurd serves
served_kind (requests.List prefix from limit) s (replies.Delete answer) after serves = absurd serves
served_kind (requests.Delete path) s (replies.Put answer) after serves = absurd serves
served_kind (requests.Delete path) s (replies.Get answer) after serves = absurd serves
served_kind (requests.Delete path) s (replies.List answer) after serves = absurd serves

-- a store without failures is after a reply as one other such store

abbrev of : Files → List ℕ → ℕ → ℕ → ℕ → StoreState
of files given left calls failures = record { files = files; given = given; left = left; calls = calls; failures = failures }

same_state : (a b : StoreState) → a.files ≡ b.files → a.given ≡ b.given → a.left ≡ b.left → a.calls ≡ b.calls → a.failures ≡ b.failures → a ≡ b
same_state a b f g l c e =
    ap (λ (x : Files). of x a.given a.left a.calls a.failures) f
    ∙ (ap (λ (x : List ℕ). of b.files x a.left a.calls a.failures) g
    ∙ (ap (λ (x : ℕ). of b.files b.given x a.calls a.failures) l
    ∙ (ap (λ (x : ℕ). of b.files b.given b.left x a.failures) c
    ∙ ap (λ (x : ℕ). of b.files b.given b.left b.calls x) e)))

module _ (s a b : StoreState) (fine : a.failures ≡ 0) (well : b.failures ≡ 0) where
  same_after : Counted s a → Counted s b → a.files ≡ b.files → a.given ≡ b.given → a.left ≡ b.left → a ≡ b
  same_after c d f g l = same_state a b f g l (c.calls ∙ sym d.calls) (fine ∙ sym well)

  same_kept : Counted s a → Counted s b → Kept s a → Kept s b → a ≡ b
  same_kept c d k m = same_after c d (k.files ∙ sym m.files) (k.given ∙ sym m.given) (k.left ∙ sym m.left)

  puts_once : (path : Segments) (bytes : List ℕ) (mode : PutMode) (answer : Result ℕ StoreError) → Puts path bytes mode s answer a → Puts path bytes mode s answer b → a ≡ b
  puts_once path bytes mode (Ok token) p q =
      let one = p.placed.left in
      let other = q.placed.left in
      same_after p.counted q.counted (p.placed.files ∙ sym q.placed.files) (p.placed.given ∙ sym q.placed.given) (omega (arith, one, other))
  puts_once path bytes mode (Err error) p q = same_kept p.counted q.counted (put_kept path bytes mode s a error p fine) (put_kept path bytes mode s b error q well)

  deletes_once : (path : Segments) (answer : Result (Unit {0}) StoreError) → Deletes path s answer a → Deletes path s answer b → a ≡ b
  deletes_once path (Ok done) d e = same_after d.counted e.counted (d.removed.files ∙ sym e.removed.files) (d.removed.given ∙ sym e.removed.given) (d.removed.left ∙ sym e.removed.left)
  deletes_once path (Err error) d e = same_kept d.counted e.counted (delete_kept path s a error d fine) (delete_kept path s b error e well)

  serves_once : (request : Request) (reply : Reply) → Serves request s reply a → Serves request s reply b → a ≡ b
  serves_once request reply serves again =
      by_kind (λ request reply. Serves request s reply a → Serves request s reply b → a ≡ b)
      (λ path bytes mode answer. puts_once path bytes mode answer)
      (λ path known answer g h. same_kept g.counted h.counted (get_kept path known s a answer g fine) (get_kept path known s b answer h well))
      (λ prefix after limit answer l m. same_kept l.counted m.counted (listed_kept prefix after limit s a answer l fine) (listed_kept prefix after limit s b answer m well))
      (λ path answer. deletes_once path answer)
      request reply (served_kind request s reply a serves) serves again

one_store : (log : List LogRow) (a b : StoreState) → IsLog log a → IsLog log b → a ≡ b
one_store [] a b h k = h ∙ sym k
one_store (row ∷ log) a b h k =
    let same : k.0 ≡ h.0 = one_store log k.0 h.0 k.1 h.1 in
    let moved : Serves row.request h.0 row.reply b = subst (λ (x : StoreState). Serves row.request x row.reply b) same k.2 in
    serves_once h.0 a b h.3 k.3 row.request row.reply h.2 moved

-- what no honest store can reply

fails_not : (request : Request) (reply : Reply) (s after : StoreState) → SaysFailed reply → Serves request s reply after → after.failures ≡ 0 → ⊥
fails_not request reply s after fails serves honest =
    by_kind (λ request reply. SaysFailed reply → Serves request s reply after → ⊥)
    (λ path bytes mode answer f p. ruled_out s after honest (subst (λ (x : Result ℕ StoreError). IfErr x (PutRefused (put_fault mode (get s.files path)) (TookPut path bytes mode s after) s after)) f p.err).0)
    (λ path known answer f g. ruled_out s after honest (subst (λ (x : Result Got StoreError). IfErr x (Refused (get_fault known (get s.files path)) ⊥ s after)) f g.err).0)
    (λ prefix from limit answer f l. ruled_out s after honest (subst (λ (x : Result Page StoreError). IfErr x (Refused None ⊥ s after)) f l.err).0)
    (λ path answer f d. ruled_out s after honest (subst (λ (x : Result (Unit {0}) StoreError). IfErr x (Refused None (Removed path s after) s after)) f d.err).0)
    request reply (served_kind request s reply after serves) fails serves

again_not : (request : Request) (reply : Reply) (s after : StoreState) → GivesAgain s reply → Serves request s reply after → ⊥
again_not (requests.Put path bytes mode) (replies.Put (Ok token)) s after again p = p.placed.fresh again
again_not (requests.Get path known) (replies.Put (Ok token)) s after again p = p
again_not (requests.List prefix from limit) (replies.Put (Ok token)) s after again p = p
again_not (requests.Delete path) (replies.Put (Ok token)) s after again p = p
again_not request (replies.Put (Err error)) s after again p = again
again_not request (replies.Get answer) s after again p = again
again_not request (replies.List answer) s after again p = again
again_not request (replies.Delete answer) s after again p = again

-- each reply has a token with which it is itself
own_token : (reply : Reply) → (token : ℕ) × (with_token token reply ≡ reply)
own_token (replies.Put (Ok token)) = (token, refl)
own_token (replies.Put (Err error)) = (0, refl)
own_token (replies.Get answer) = (0, refl)
own_token (replies.List answer) = (0, refl)
own_token (replies.Delete answer) = (0, refl)

cannot : (request : Request) (s : StoreState) (reply : Reply) (why : LogFault) → IsReason why request s reply → (why ≡ faults.NoMemory) ⊎ (CanReply request s reply → ⊥)
cannot request s reply faults.OtherKind r = inr (λ c. r (served_kind request s reply c.0 c.1))
cannot request s reply faults.Failed r = inr (λ c. fails_not request reply s c.0 r.1 c.1 c.2)
cannot request s reply faults.OtherAnswer r = inr (λ c. let own = own_token reply in r.2 own.0 (subst (λ (x : Reply). CanReply request s x) (sym own.1) c))
cannot request s reply faults.TokenGiven r = inr (λ c. again_not request reply s c.0 r.1 c.1)
cannot request s reply faults.NoMemory r = inl refl

-- a row more

pub row_taken : (log : List LogRow) (row : LogRow) (old new : Replayed) (k : IsKept log old) → IsTaken row.request k.store row.reply new → IsKept (log ++ row ∷ []) new
row_taken log row old new k t = record {
  store = t.after;
  leads = subst (λ (rows : List LogRow). IsLog rows t.after) (sym (reverse-append log (row ∷ []))) (k.store, k.leads, t.serves, t.stands.honest);
  stands = t.stands;
}

pub row_refused : (log : List LogRow) (row : LogRow) (old : Replayed) (k : IsKept log old) (why : LogFault) → IsReason why row.request k.store row.reply → (why ≡ faults.NoMemory) ⊎ (IsHonest (log ++ row ∷ []) → ⊥)
row_refused log row old k why r = elim (cannot row.request k.store row.reply why r) [
  | inl memory ↦ inl memory
  | inr never ↦ inr (λ h. (
      let more : IsLog (row ∷ reverse log) h.0 = subst (λ (rows : List LogRow). IsLog rows h.0) (reverse-append log (row ∷ [])) h.1 in
      let same : more.0 ≡ k.store = one_store (reverse log) more.0 k.store more.1 k.leads in
      never (h.0, subst (λ (x : StoreState). Serves row.request x row.reply h.0) same more.2, more.3)))
]

pub reason_after : (log : List LogRow) (row : LogRow) (old : Replayed) (k : IsKept log old) (why : LogFault) → IsReason why row.request k.store row.reply → IsReasonAfter log row why
reason_after log row old k why r = λ store leads. subst (λ (x : StoreState). IsReason why row.request x row.reply) (one_store (reverse log) k.store store k.leads leads) r
