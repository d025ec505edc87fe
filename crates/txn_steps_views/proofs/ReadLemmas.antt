-- What a read leaves of the caches depends on whether it goes on alone, and a call goes on as its read does.
use Rattle.std.proofs.Common.{◌≡◌, ℕ, ◌==◌, Bool, true, false, List, if◌then◌else◌, Option, Some, None, Result, Ok, Err, refl, sym, ◌∙◌, ap, subst}
use Rattle.txn_store.specs.Paths.{Segments}
use Rattle.txn_store.specs.VersionName.{Names}
use Rattle.txn_store.specs.declared.request.Reply.{Reply}
use Rattle.txn_steps.specs.declared.boundary.boundary_read.BoundaryRead.{BoundaryRead}
use Rattle.txn_steps.specs.declared.boundary.caches.Cached.{Cached}
use Rattle.txn_steps.specs.declared.boundary.caches.Caches.{Caches}
use Rattle.txn_steps.specs.declared.boundary.turned.Turned.{Turned}
use Rattle.txn_steps.specs.declared.boundary.turned.Turned.TheVariants.{Goes, Done}
use Rattle.txn_steps.specs.boundary.Steps.{lacks_memory}
use Rattle.txn_steps.specs.boundary.Asking.{unless_lacking}
use Rattle.txn_steps.specs.declared.latest.LatestOp.{LatestOp}
use Rattle.txn_steps.specs.declared.latest.LatestOp.TheVariants.{Looks, Probes, Finds, Lists, Chooses, Gets, Keeps, Drops, Ended}
use Rattle.txn_steps.specs.declared.read.ReadOp.{ReadOp}
use Rattle.txn_steps.specs.declared.read.ReadOp.TheVariants as reads
use Rattle.txn_steps.specs.Latest.{ReadAnswer, latest_listing, read_in_hand, answered, in_hand, found_turned}
use Rattle.txn_steps.specs.Reads.{reads_turned, read_turned, read_caches_after}
use Rattle.txn_steps_views.specs.declared.outcome.Outcome.{Outcome}
use Rattle.txn_steps_views.specs.declared.view_read.ViewReadOp.{ViewReadOp}
use Rattle.txn_steps_views.specs.Readings.{seen, said, GoesAs, OnAnswer}
use Rattle.txn_steps_views.specs.ViewReads.{as_view_read, view_read_ended, view_read_told, view_read_turned, shown}

module _ {T : Type 0} where
  -- it answers neither a version nor that there is none
  abbrev NotAnswered : Turned (ReadAnswer T) → Type 0
  NotAnswered Goes = Unit {0}
  NotAnswered (Done (Ok found)) = ⊥
  NotAnswered (Done (Err number)) = Unit {0}

  abbrev Goes1 : ReadOp T × Turned (ReadAnswer T) → Type 0
  Goes1 x = NotAnswered x.1

  lacking_on : (lacks : Bool) (op : ReadOp T) (x : ReadOp T × Turned (ReadAnswer T)) → Goes1 x → Goes1 (unless_lacking lacks op x)
  lacking_on false op x h = h
  lacking_on true op x h = tt

  found_said : (successor : Cached) (found : ℕ) (boundary : BoundaryRead) (caches : Caches) (told : Turned (ReadAnswer T)) → NotAnswered told →
      read_caches_after {T = T} (reads.Reads (Finds successor found) boundary) caches told ≡ read_caches_after {T = T} (reads.Reads (Finds successor found) boundary) caches (said told)
  found_said successor found boundary caches Goes h = refl
  found_said successor found boundary caches (Done (Ok x)) h = absurd h
  found_said successor found boundary caches (Done (Err number)) h = refl

  found_answered : (successor : Cached) (found : ℕ) (boundary : BoundaryRead) (caches : Caches) (told : Turned (ReadAnswer T)) → NotAnswered told →
      OnAnswer told (read_caches_after {T = T} (reads.Reads (Finds successor found) boundary) caches told ≡ read_caches_after {T = T} (reads.Reads (Finds successor found) boundary) caches Goes)
  found_answered successor found boundary caches Goes h = tt
  found_answered successor found boundary caches (Done (Ok x)) h = absurd h
  found_answered successor found boundary caches (Done (Err number)) h = tt

  on_answer : (told : Turned (ReadAnswer T)) (P : Type 0) → P → OnAnswer told P
  on_answer Goes P p = tt
  on_answer (Done (Ok x)) P p = p
  on_answer (Done (Err number)) P p = tt

  -- an answer of a call on a view says what its read leaves as that read's own does
  said_alike : (read : ReadOp T) (caches : Caches) (told : Turned (ReadAnswer T)) (answer : Turned (Result (Outcome T) ℕ)) → read_caches_after read caches told ≡ read_caches_after read caches (said told) → OnAnswer told (read_caches_after read caches told ≡ read_caches_after read caches Goes) → GoesAs told answer →
      read_caches_after read caches told ≡ read_caches_after read caches (said answer)
  said_alike read caches Goes answer e h goes = sym (ap (λ (a : Turned (Result (Outcome T) ℕ)). read_caches_after read caches (said a)) goes)
  said_alike read caches (Done (Ok found)) Goes e h goes = h
  said_alike read caches (Done (Ok found)) (Done answer) e h goes = e
  said_alike read caches (Done (Err number)) answer e h goes = e ∙ sym (ap (λ (a : Turned (Result (Outcome T) ℕ)). read_caches_after read caches (said a)) goes)

-- a step of a part as one of the whole
pub part_of_whole : {A B S : Type 0} (whole : A → B) (lacking : Bool) (old new : A) (told : Turned (Result S ℕ)) (next : A × Turned (Result S ℕ)) → (new, told) ≡ unless_lacking lacking old next → (whole new, told) ≡ unless_lacking lacking (whole old) (whole next.0, next.1)
part_of_whole whole true old new told next e = ap (λ x. (whole x.0, x.1)) e
part_of_whole whole false old new told next e = ap (λ x. (whole x.0, x.1)) e

-- A call goes on as its read does, a growth that was refused aside. `next` is what it makes of what the read says.
module _ {T O : Type 0} (next : ReadOp T × Turned (ReadAnswer T) → O × Turned (Result (Outcome T) ℕ)) (ended : O) (refuses : (read : ReadOp T) → next (read, Done (Err 9)) ≡ (ended, Done (Err 9))) where
  abbrev or_ended : Bool → O × Turned (Result (Outcome T) ℕ) → O × Turned (Result (Outcome T) ℕ)
  or_ended lacking x = unless_lacking lacking ended x

  ends_lacking : (lacking : Bool) (x : O × Turned (Result (Outcome T) ℕ)) → x ≡ or_ended lacking (ended, Done (Err 9)) → x ≡ (ended, Done (Err 9))
  ends_lacking true x e = e
  ends_lacking false x e = e

  as_read : (lacking : Bool) (x : ReadOp T × Turned (ReadAnswer T)) (old after : ReadOp T) (told : Turned (ReadAnswer T)) (new : O) (answer : Turned (Result (Outcome T) ℕ)) → (after, told) ≡ unless_lacking lacking old x →
      (new, answer) ≡ or_ended (lacks_memory answer) (next (after, told)) → (new, answer) ≡ or_ended (lacks_memory answer) (next x)
  as_read true x old after told new answer e h =
      let end = ends_lacking (lacks_memory answer) (new, answer) (h ∙ ap (λ (p : ReadOp T × Turned (ReadAnswer T)). or_ended (lacks_memory answer) (next p)) e ∙ ap (or_ended (lacks_memory answer)) (refuses old)) in
      let lacks : answer ≡ Done (Err 9) = ap (λ (p : O × Turned (Result (Outcome T) ℕ)). p.1) end in
      end ∙ sym (ap (λ (a : Turned (Result (Outcome T) ℕ)). or_ended (lacks_memory a) (next x)) lacks)
  as_read false x old after told new answer e h = h ∙ ap (λ (p : ReadOp T × Turned (ReadAnswer T)). or_ended (lacks_memory answer) (next p)) e

  pub goes_as_read : (x : ReadOp T × Turned (ReadAnswer T)) (old after : ReadOp T) (told : Turned (ReadAnswer T)) (new : O) (answer : Turned (Result (Outcome T) ℕ)) → (after, told) ≡ unless_lacking (lacks_memory told) old x →
      (new, answer) ≡ or_ended (lacks_memory answer) (next (after, told)) → (new, answer) ≡ or_ended (lacks_memory answer) (next x)
  goes_as_read x old after told new answer e h = as_read (lacks_memory told) x old after told new answer e h

module _ {T : Type 0} (names : Names) (path : Segments) (page : ℕ) (decode : List ℕ → Option T) where
  hand_on : (boundary : BoundaryRead) (op : LatestOp T) (id : ℕ) (value : Option T) → Goes1 (reads_turned boundary (read_in_hand decode op id value))
  hand_on boundary op id None = tt
  hand_on boundary op id (Some value) = tt

  probe_on : (b : Bool) (boundary : BoundaryRead) (op probe : LatestOp T) (hand : Cached) → Goes1 (reads_turned boundary (if b then answered decode op hand else (probe, Goes)))
  probe_on true boundary op probe hand = hand_on boundary op hand.id (decode hand.bytes)
  probe_on false boundary op probe hand = tt

  list_on : (b : Bool) (boundary : BoundaryRead) (successor : Cached) (found : ℕ) →
      Goes1 (reads_turned boundary (if b then (latest_listing names page, Goes) else in_hand names decode (Finds successor found) successor found))
  list_on true boundary successor found = tt
  list_on false boundary successor found = probe_on (successor.id == 18446744073709551615) boundary (Finds successor found) _ successor

  -- a step that caches a version that it found answers nothing but an error
  found_on : (boundary : BoundaryRead) (successor : Cached) (found : ℕ) → Goes1 (reads_turned boundary (found_turned names page decode (Finds successor found) successor found))
  found_on boundary successor found = list_on (found == 4) boundary successor found

  found_told : (boundary : BoundaryRead) (successor : Cached) (found : ℕ) (new : ReadOp T) (told : Turned (ReadAnswer T)) →
      (new, told) ≡ unless_lacking (lacks_memory told) (reads.Reads (Finds successor found) boundary) (reads_turned boundary (found_turned names page decode (Finds successor found) successor found)) → NotAnswered told
  found_told boundary successor found new told e =
      subst Goes1 (sym e) (lacking_on (lacks_memory told) (reads.Reads (Finds successor found) boundary) _ (found_on boundary successor found))

  pub left_as_said : (op : ReadOp T) (caches : Caches) (reply : Option Reply) (new : ReadOp T) (told : Turned (ReadAnswer T)) →
      (new, told) ≡ unless_lacking (lacks_memory told) op (read_turned names path page decode op caches reply) → read_caches_after op caches told ≡ read_caches_after op caches (said told)
  left_as_said (reads.Checks id value check) caches reply new told e = refl
  left_as_said reads.Ended caches reply new told e = refl
  left_as_said (reads.Reads Looks boundary) caches reply new told e = refl
  left_as_said (reads.Reads (Probes hand found next request) boundary) caches reply new told e = refl
  left_as_said (reads.Reads (Finds successor found) boundary) caches reply new told e = found_said successor found boundary caches told (found_told boundary successor found new told e)
  left_as_said (reads.Reads (Lists found request) boundary) caches reply new told e = refl
  left_as_said (reads.Reads (Chooses greatest) boundary) caches reply new told e = refl
  left_as_said (reads.Reads (Gets id request) boundary) caches reply new told e = refl
  left_as_said (reads.Reads (Keeps version value) boundary) caches reply new told e = refl
  left_as_said (reads.Reads (Drops id) boundary) caches reply new told e = refl
  left_as_said (reads.Reads Ended boundary) caches reply new told e = refl

  pub left_where_answered : (op : ReadOp T) (caches : Caches) (reply : Option Reply) (new : ReadOp T) (told : Turned (ReadAnswer T)) →
      (new, told) ≡ unless_lacking (lacks_memory told) op (read_turned names path page decode op caches reply) → OnAnswer told (read_caches_after op caches told ≡ read_caches_after op caches Goes)
  left_where_answered (reads.Checks id value check) caches reply new told e = on_answer told _ refl
  left_where_answered reads.Ended caches reply new told e = on_answer told _ refl
  left_where_answered (reads.Reads Looks boundary) caches reply new told e = on_answer told _ refl
  left_where_answered (reads.Reads (Probes hand found next request) boundary) caches reply new told e = on_answer told _ refl
  left_where_answered (reads.Reads (Finds successor found) boundary) caches reply new told e = found_answered successor found boundary caches told (found_told boundary successor found new told e)
  left_where_answered (reads.Reads (Lists found request) boundary) caches reply new told e = on_answer told _ refl
  left_where_answered (reads.Reads (Chooses greatest) boundary) caches reply new told e = on_answer told _ refl
  left_where_answered (reads.Reads (Gets id request) boundary) caches reply new told e = on_answer told _ refl
  left_where_answered (reads.Reads (Keeps version value) boundary) caches reply new told e = on_answer told _ refl
  left_where_answered (reads.Reads (Drops id) boundary) caches reply new told e = on_answer told _ refl
  left_where_answered (reads.Reads Ended boundary) caches reply new told e = on_answer told _ refl

  -- what a call leaves of the caches is what its read does
  pub left_as_read : (op : ReadOp T) (caches left : Caches) (reply : Option Reply) (new : ReadOp T) (told : Turned (ReadAnswer T)) (answer : Turned (Result (Outcome T) ℕ)) →
      (new, told) ≡ unless_lacking (lacks_memory told) op (read_turned names path page decode op caches reply) → left ≡ read_caches_after op caches told → GoesAs told answer → left ≡ read_caches_after op caches (said answer)
  left_as_read op caches left reply new told answer e leaves goes = leaves ∙ said_alike op caches told answer (left_as_said op caches reply new told e) (left_where_answered op caches reply new told e) goes

  -- a read for a view goes on as its read does
  pub view_goes_as_read : (epoch_of : T → ℕ) (op : ViewReadOp T) (caches : Caches) (reply : Option Reply) (after : ReadOp T) (told : Turned (ReadAnswer T)) (new : ViewReadOp T) (answer : Turned (Result (Outcome T) ℕ)) →
      (after, told) ≡ unless_lacking (lacks_memory told) op.read (read_turned names path page decode op.read caches reply) → (new, answer) ≡ unless_lacking (lacks_memory answer) (view_read_ended op) (view_read_told epoch_of (as_view_read op.purpose after) told) →
      (new, answer) ≡ unless_lacking (lacks_memory answer) (view_read_ended op) (view_read_turned names path page decode epoch_of op caches reply)
  view_goes_as_read epoch_of op caches reply after told new answer e h =
      goes_as_read (seen (as_view_read op.purpose) (shown epoch_of op.purpose)) (view_read_ended op) (λ read. refl) (read_turned names path page decode op.read caches reply) op.read after told new answer e h
