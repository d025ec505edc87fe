-- An operation that stands in its place, as a turn finds it.
use Rattle.std.proofs.Common.{◌≡◌, ℕ, List, ◌++◌, length, true, is_some, Option, Some, None, refl, sym, ◌∙◌, ap, subst}
use Rattle.std.proofs.lemmas.Option.{same_Some}
use Rattle.std.specs.Option.{option_map}
use Rattle.txn_store.specs.declared.request.Request.{Request}
use Rattle.txn_store.specs.declared.request.Reply.{Reply}
use Rattle.txn_history.specs.Lists.{numbered}
use Rattle.txn_history.specs.Seen.{Ask, Store}
use Rattle.txn_machine.specs.declared.doing.Operation.{Operation}
use Rattle.txn_machine.specs.views.Layer.{Used}
use Rattle.txn_machine.specs.Doing.{asked, refused}
use Rattle.txn_machine.specs.Machine.{let_go, views_changed}
use Rattle.txn_client_journals.specs.declared.tables.operations.Usage.{Usage}
use Rattle.txn_client_journals.specs.tables.Operations.{asked_of, asked_by, request_of, loose_of, usage_of, TakesReply, Ends, TakesTurn as Turned}
use Rattle.txn_client_journals.specs.tables.Views.{IsFromOne}
use Rattle.txn_history.specs.declared.event.Answer.{Answer}
use Rattle.txn_steps.specs.declared.boundary.caches.Caches.{Caches}
use Rattle.txn_machine.specs.declared.doing.Ending.{Ending}
use Rattle.txn_machine.specs.Machine.{views_after, answered}
use Rattle.txn_client_journals.specs.Parts.{Part, note_of, written_in, answer_in, turned, turned_with, given_up}
use Rattle.txn_client_journals.specs.Journals.{GivesUp, FailsAt, LacksAt, TakesTurn}
use Rattle.txn_diary.specs.Taking.{FitsAsk}
use Rattle.txn_diary.proofs.Replied.{takes_fitting, is_in_range}
use Rattle.txn_diary.specs.Keepers.{AreSound}

module _ {T : Type 0} where
  abbrev part_of : Caches → List (Operation T) → List (Option (Used T)) → List (Option ℕ) → List (ℕ × ℕ) → Part T
  part_of caches operations views writes told = record { caches = caches; operations = operations; views = views; writes = writes; told = told }

  same_fields : (c d : Caches) (o p : List (Operation T)) (v w : List (Option (Used T))) (x y : List (Option ℕ)) (t u : List (ℕ × ℕ)) → c ≡ d → o ≡ p → v ≡ w → x ≡ y → t ≡ u → part_of c o v x t ≡ part_of d p w y u
  same_fields c d o p v w x y t u a b e f h = rw (a, b, e, f, h) refl

  -- what clients keep is the same where each part of it is
  pub same_part : (one other : Part T) → one.caches ≡ other.caches → one.operations ≡ other.operations → one.views ≡ other.views → one.writes ≡ other.writes → one.told ≡ other.told → one ≡ other
  same_part one other a b c d e = same_fields one.caches other.caches one.operations other.operations one.views other.views one.writes other.writes one.told other.told a b c d e

  -- one that asks for something is there
  pub asks_there : (operations : List (Operation T)) (op : ℕ) → is_some (asked_by operations op) ≡ true → is_some (numbered operations op) ≡ true
  asks_there operations op asks = by (numbered operations op) asks
    where
      by : (found : Option (Operation T)) → is_some (asked_of found) ≡ true → is_some found ≡ true
      by None h = cc
      by (Some o) h = refl

  -- an operation that asks for this
  pub found_so : (operations : List (Operation T)) (op : ℕ) (ask : Ask) → asked_by operations op ≡ Some ask → (o : Operation T) × (numbered operations op ≡ Some o) × (asked o.doing ≡ Some ask)
  found_so operations op ask asks = by (numbered operations op) refl asks
    where
      by : (found : Option (Operation T)) → numbered operations op ≡ found → asked_of found ≡ Some ask → (o : Operation T) × (numbered operations op ≡ Some o) × (asked o.doing ≡ Some ask)
      by None e h = cc
      by (Some o) e h = (o, e, h)

  -- one that asks for a store call is refused
  pub fails_so : (get_epoch : T → ℕ) (old new : Part T) (op : ℕ) (request : Request) (answer : Option (Answer T)) → asked_by old.operations op ≡ Some (Store request) → ((o : Operation T) → numbered old.operations op ≡ Some o → answer ≡ answer_in old o (refused 2)) →
      ((o : Operation T) → numbered old.operations op ≡ Some o → new ≡ turned_with get_epoch old op o (refused 2) old.caches) → FailsAt get_epoch old op request answer new
  fails_so get_epoch old new op request answer asks tells leaves =
      let there = found_so old.operations op (Store request) asks in
      record { operation = there.0; found = there.1; asks = there.2; tells = tells there.0 there.1; part = leaves there.0 there.1 }

  pub lacks_so : (get_epoch : T → ℕ) (old new : Part T) (op : ℕ) (request : Request) (answer : Option (Answer T)) → asked_by old.operations op ≡ Some (Store request) → ((o : Operation T) → numbered old.operations op ≡ Some o → answer ≡ answer_in old o (refused 9)) →
      ((o : Operation T) → numbered old.operations op ≡ Some o → new ≡ turned_with get_epoch old op o (refused 9) old.caches) → LacksAt get_epoch old op answer new
  lacks_so get_epoch old new op request answer asks tells leaves =
      let there = found_so old.operations op (Store request) asks in
      record { operation = there.0; request = request; found = there.1; asks = there.2; tells = tells there.0 there.1; part = leaves there.0 there.1 }

  -- the view of one that is there
  pub used_from_one : (operations : List (Operation T)) (op : ℕ) (of : Usage) → AreSound operations → option_map usage_of (numbered operations op) ≡ Some of → IsFromOne of.view
  used_from_one operations op of all is = by (numbered operations op) refl is
    where
      by : (found : Option (Operation T)) → numbered operations op ≡ found → option_map usage_of found ≡ Some of → IsFromOne of.view
      by None e h = cc
      by (Some o) e h = subst (λ (u : Usage). IsFromOne u.view) (same_Some (usage_of o) of h) (all op o e).view

  -- an operation of this usage is given up
  pub gives_up_so : (old : Part T) (op : ℕ) (of : Usage) (left : Option Request) (operations : List (Operation T)) (views : List (Option (Used T))) → option_map usage_of (numbered old.operations op) ≡ Some of → is_some (asked_by old.operations op) ≡ true → left ≡ loose_of (asked_by old.operations op) → Ends old.operations op operations → views ≡ views_changed old.views of.view (let_go of.claims) →
      GivesUp old op left None (record { caches = old.caches; operations = operations; views = views; writes = old.writes; told = old.told })
  gives_up_so old op of left operations views is asks leaves ends changes =
      by (asked o.doing) refl (sym (ap (λ found. is_some (asked_of found)) ends.found) ∙ asks)
    where
      o : Operation T
      o = ends.operation

      same : usage_of o ≡ of
      same = same_Some (usage_of o) of (sym (ap (option_map usage_of) ends.found) ∙ is)

      no_ask : Option Ask
      no_ask = None

      by : (found : Option Ask) → asked o.doing ≡ found → is_some (asked o.doing) ≡ true → GivesUp old op left None (record { caches = old.caches; operations = operations; views = views; writes = old.writes; told = old.told })
      by None e h = let clash : is_some (no_ask) ≡ true = sym (ap (λ (a : Option Ask). is_some a) e) ∙ h in cc
      by (Some ask) e h = record {
        operation = o;
        ask = ask;
        found = ends.found;
        asks = e;
        leaves = leaves ∙ (ap (λ found. loose_of (asked_of found)) ends.found ∙ ap loose_of e);
        tells = refl;
        part = same_part (record { caches = old.caches; operations = operations; views = views; writes = old.writes; told = old.told }) (given_up old op o) refl ends.operations (changes ∙ ap (λ (u : Usage). views_changed old.views u.view (let_go u.claims)) (sym same)) refl refl;
      }

  -- an operation takes what fits its ask
  pub takes_so : (operations : List (Operation T)) (op : ℕ) (ask : Ask) (reply : Option Reply) → AreSound operations → asked_by operations op ≡ Some ask → FitsAsk (request_of (Some ask)) reply → TakesReply operations op reply
  takes_so operations op ask reply all asks fits = by (numbered operations op) refl asks
    where
      by : (found : Option (Operation T)) → numbered operations op ≡ found → asked_of found ≡ Some ask → TakesReply operations op reply
      by None e h = cc
      by (Some o) e h =
          let can = (all op o e).can in
          record {
            operation = o;
            found = e;
            kind = takes_fitting o.doing ask reply can h (subst (λ (a : Option Ask). FitsAsk (request_of a) reply) (sym h) fits);
            range = is_in_range o.doing can;
          }

module _ {T : Type 0} (page : ℕ) (encode : T → List ℕ) (decode : List ℕ → Option T) (get_epoch : T → ℕ) (set_epoch : T → ℕ → T) where
  -- an operation of this usage takes its turn
  pub takes_turn_so : (old new : Part T) (op : ℕ) (ask : Ask) (reply : Option Reply) (of : Usage) (ending : Option (Ending T)) (caches : Caches) (operations : List (Operation T)) (answer : Option (Answer T)) → option_map usage_of (numbered old.operations op) ≡ Some of → asked_by old.operations op ≡ Some ask →
      Turned page encode decode get_epoch set_epoch old.operations old.caches op reply operations caches ending → new.caches ≡ caches → new.operations ≡ operations → new.views ≡ views_after old.views of.client of.view of.claims ending → new.writes ≡ old.writes → answer ≡ answered (length old.views) of.view ending →
      new.told ≡ note_of get_epoch (written_in (numbered old.writes op)) (answered (length old.views) of.view ending) ++ old.told → TakesTurn page encode decode get_epoch set_epoch old op ask reply answer new
  takes_turn_so old new op ask reply of ending caches operations answer is asks t cs os vs ws tells notes = record {
    operation = o;
    found = t.found;
    asks = sym (ap asked_of t.found) ∙ asks;
    next = t.next;
    turns = t.turns;
    tells = tells ∙ named;
    part = same_part new (turned get_epoch old op o t.next) (cs ∙ t.leaves) (os ∙ t.operations) (vs ∙ after) ws (notes ∙ ap (λ (a : Option (Answer T)). note_of get_epoch (written_in (numbered old.writes op)) a ++ old.told) named);
  }
    where
      o : Operation T
      o = t.operation

      same : of ≡ usage_of o
      same = sym (same_Some (usage_of o) of (sym (ap (option_map usage_of) t.found) ∙ is))

      named : answered (length old.views) of.view ending ≡ answered (length old.views) o.view t.next.1
      named = ap (λ (u : Usage). answered (length old.views) u.view ending) same ∙ ap (answered (length old.views) o.view) t.ends

      after : views_after old.views of.client of.view of.claims ending ≡ views_after old.views o.client o.view o.claims t.next.1
      after = ap (λ (u : Usage). views_after old.views u.client u.view u.claims ending) same ∙ ap (views_after old.views o.client o.view o.claims) t.ends
