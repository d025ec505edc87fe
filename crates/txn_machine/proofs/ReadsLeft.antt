-- What a read leaves of the caches: by whether it goes on, is answered, or is refused.
use Rattle.std.proofs.Common.{◌≡◌, ℕ, List, Option, None, Ok, Err, refl, sym, ◌∙◌, ap}
use Rattle.txn_store.specs.Paths.{Segments}
use Rattle.txn_store.specs.VersionName.{Names}
use Rattle.txn_store.specs.declared.request.Reply.{Reply}
use Rattle.txn_steps.specs.declared.boundary.caches.Cached.{Cached}
use Rattle.txn_steps.specs.declared.boundary.caches.Caches.{Caches}
use Rattle.txn_steps.specs.declared.boundary.turned.Turned.{Turned}
use Rattle.txn_steps.specs.declared.boundary.turned.Turned.TheVariants.{Goes, Done}
use Rattle.txn_steps.specs.declared.latest.LatestOp.TheVariants.{Looks, Probes, Finds, Lists, Chooses, Gets, Keeps, Drops, Ended}
use Rattle.txn_steps.specs.declared.read.ReadOp.{ReadOp}
use Rattle.txn_steps.specs.declared.read.ReadOp.TheVariants as reads
use Rattle.txn_steps.specs.Latest.{ReadAnswer, found_kept}
use Rattle.txn_steps.specs.Reads.{read_turned, read_caches_after}
use Rattle.txn_steps_views.proofs.ReadLemmas.{left_as_said, left_where_answered}

module _ {T : Type 0} where
  -- what it tells changes what it leaves only where it has found a version
  left_by : (op : ReadOp T) (caches : Caches) (told other : Turned (ReadAnswer T)) → ((latest : List Cached) (found : Cached) → found_kept latest found told ≡ found_kept latest found other) → read_caches_after op caches told ≡ read_caches_after op caches other
  left_by (reads.Reads (Finds successor found) boundary) caches told other same = ap (λ (latest : List Cached). record { latest = latest; boundary = caches.boundary }) (same caches.latest successor)
  left_by (reads.Checks id value check) caches told other same = refl
  left_by reads.Ended caches told other same = refl
  left_by (reads.Reads Looks boundary) caches told other same = refl
  left_by (reads.Reads (Probes hand found next request) boundary) caches told other same = refl
  left_by (reads.Reads (Lists found request) boundary) caches told other same = refl
  left_by (reads.Reads (Chooses greatest) boundary) caches told other same = refl
  left_by (reads.Reads (Gets id request) boundary) caches told other same = refl
  left_by (reads.Reads (Keeps version value) boundary) caches told other same = refl
  left_by (reads.Reads (Drops id) boundary) caches told other same = refl
  left_by (reads.Reads Ended boundary) caches told other same = refl

  -- a refusal leaves the same, whatever its number
  pub left_by_refusal : (op : ReadOp T) (caches : Caches) (n m : ℕ) → read_caches_after op caches (Done (Err n)) ≡ read_caches_after op caches (Done (Err m))
  left_by_refusal op caches n m = left_by op caches (Done (Err n)) (Done (Err m)) (λ latest found. refl)

  -- and so does an answer, whatever it says
  left_by_answer : (op : ReadOp T) (caches : Caches) (f g : Option (ℕ × T)) → read_caches_after op caches (Done (Ok f)) ≡ read_caches_after op caches (Done (Ok g))
  left_by_answer op caches f g = left_by op caches (Done (Ok f)) (Done (Ok g)) (λ latest found. refl)

module _ {T : Type 0} (names : Names) (path : Segments) (page : ℕ) (decode : List ℕ → Option T) where
  -- where it is answered it leaves what it would with a refusal, and what it would if it went on
  pub left_as_refused : (op : ReadOp T) (caches : Caches) (reply : Option Reply) (new : ReadOp T) (found : Option (ℕ × T)) → (new, Done (Ok found)) ≡ read_turned names path page decode op caches reply → read_caches_after op caches (Done (Err 9)) ≡ read_caches_after op caches (Done (Ok None))
  left_as_refused op caches reply new found e = sym (left_as_said names path page decode op caches reply new (Done (Ok found)) e) ∙ left_by_answer op caches found None

  pub left_as_going : (op : ReadOp T) (caches : Caches) (reply : Option Reply) (new : ReadOp T) (found : Option (ℕ × T)) → (new, Done (Ok found)) ≡ read_turned names path page decode op caches reply → read_caches_after op caches Goes ≡ read_caches_after op caches (Done (Ok None))
  left_as_going op caches reply new found e = sym (left_where_answered names path page decode op caches reply new (Done (Ok found)) e) ∙ left_by_answer op caches found None
