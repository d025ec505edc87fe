-- The steps of an unchecked read of the newest version: probes from the greatest cached version, else a listing page by page and a get.
use Rattle.std.specs.Prelude.{ℕ, ◌+◌, ◌<◌, ◌≤◌, ◌==◌, max, List, [], ◌∷◌, if◌then◌else◌, Bool, true, false, Option, Some, None, Result, Ok, Err}
use Rattle.txn_store.specs.Paths.{Segments}
use Rattle.txn_store.specs.VersionName.{Names}
use Rattle.txn_store.specs.VersionOf.{version_of}
use Rattle.txn_store.specs.declared.store.Got.{Got}
use Rattle.txn_store.specs.declared.store.ObjectMeta.{ObjectMeta}
use Rattle.txn_store.specs.declared.store.StoreError.{StoreError}
use Rattle.txn_store.specs.declared.store.StoreError.TheVariants as errors
use Rattle.txn_store.specs.declared.page.Page.{Page}
use Rattle.txn_store.specs.declared.request.Request.{Request}
use Rattle.txn_store.specs.declared.request.Reply.{Reply}
use Rattle.txn_store.specs.declared.request.Reply.TheVariants as replies
use Rattle.txn_store.specs.types.Errors.{store_error_number}
use Rattle.txn_steps.specs.declared.boundary.caches.Cached.{Cached}
use Rattle.txn_steps.specs.declared.boundary.turned.Turned.{Turned}
use Rattle.txn_steps.specs.declared.boundary.turned.Turned.TheVariants.{Goes, Done}
use Rattle.txn_steps.specs.boundary.Asking.{IsLook, IsGot, IsListed}
use Rattle.txn_steps.specs.boundary.Windows.{held, greatest_held, kept, above}
use Rattle.txn_steps.specs.declared.latest.LatestOp.{LatestOp}
use Rattle.txn_steps.specs.declared.latest.LatestOp.TheVariants.{Looks, Probes, Finds, Lists, Chooses, Gets, Keeps, Drops, Ended}
use Rattle.txn_steps.specs.Requests.{version_got, version_page, next_after}

abbrev pub greater_of : Option ℕ → Option ℕ → Option ℕ
greater_of None found = found
greater_of (Some n) None = Some n
greater_of (Some n) (Some m) = Some (max n m)

-- the greatest of an id and those of the versions among listed files
abbrev pub greatest_from : Option ℕ → Names → List ObjectMeta → Option ℕ
greatest_from greatest names [] = greatest
greatest_from greatest names (meta ∷ metas) = greatest_from (greater_of greatest (version_of names meta.location)) names metas

-- what a read answers, an error by its number: nothing, or an id and a value
abbrev pub ReadAnswer : Type 0 → Type 0
ReadAnswer T = Result (Option (ℕ × T)) ℕ

module _ {T : Type 0} where
  -- it asks for the first page of the versions, of so many files at most
  abbrev pub latest_listing : Names → ℕ → LatestOp T
  latest_listing names page = Lists None (version_page names None page)

  -- it asks for the page after a path; the greatest id listed so far is this
  abbrev pub listing_on : Names → ℕ → Option ℕ → Segments → LatestOp T
  listing_on names page found after = Lists found (version_page names (Some after) page)

  -- it asks for the get of a version
  abbrev pub latest_getting : Names → ℕ → LatestOp T
  latest_getting names id = Gets id (version_got names id)

  -- as the first look leaves it, by the greatest held version; one that can have no successor is looked at
  abbrev pub latest_begun : Names → ℕ → Option Cached → LatestOp T
  latest_begun names page None = latest_listing names page
  latest_begun names page (Some hand) = if hand.id == 18446744073709551615 then Looks else Probes hand 0 (hand.id + 1) (version_got names (hand.id + 1))

  -- what it asks
  abbrev pub latest_asked : LatestOp T → Option Request
  latest_asked Looks = None
  latest_asked (Probes hand found next request) = Some request
  latest_asked (Finds successor found) = None
  latest_asked (Lists found request) = Some request
  latest_asked (Chooses greatest) = None
  latest_asked (Gets id request) = Some request
  latest_asked (Keeps version value) = None
  latest_asked (Drops id) = None
  latest_asked Ended = None

  -- a reply of the kind that it asks for, where it has not ended
  abbrev pub IsLatestReply : LatestOp T → Option Reply → Type 0
  IsLatestReply Looks reply = IsLook reply
  IsLatestReply (Probes hand found next request) reply = IsGot reply
  IsLatestReply (Finds successor found) reply = IsLook reply
  IsLatestReply (Lists found request) reply = IsListed reply
  IsLatestReply (Chooses greatest) reply = IsLook reply
  IsLatestReply (Gets id request) reply = IsGot reply
  IsLatestReply (Keeps version value) reply = IsLook reply
  IsLatestReply (Drops id) reply = IsLook reply
  IsLatestReply Ended reply = ⊥

  -- at most four are found
  abbrev pub InRange : LatestOp T → Type 0
  InRange (Probes hand found next request) = found < 4
  InRange (Finds successor found) = found ≤ 4
  InRange Looks = Unit {0}
  InRange (Lists found request) = Unit {0}
  InRange (Chooses greatest) = Unit {0}
  InRange (Gets id request) = Unit {0}
  InRange (Keeps version value) = Unit {0}
  InRange (Drops id) = Unit {0}
  InRange Ended = Unit {0}

  abbrev pub is_keeping : LatestOp T → Bool
  is_keeping (Keeps version value) = true
  is_keeping Looks = false
  is_keeping (Probes hand found next request) = false
  is_keeping (Finds successor found) = false
  is_keeping (Lists found request) = false
  is_keeping (Chooses greatest) = false
  is_keeping (Gets id request) = false
  is_keeping (Drops id) = false
  is_keeping Ended = false

  abbrev pub IsKeeping : LatestOp T → Type 0
  IsKeeping (Keeps version value) = Unit {0}
  IsKeeping Looks = ⊥
  IsKeeping (Probes hand found next request) = ⊥
  IsKeeping (Finds successor found) = ⊥
  IsKeeping (Lists found request) = ⊥
  IsKeeping (Chooses greatest) = ⊥
  IsKeeping (Gets id request) = ⊥
  IsKeeping (Drops id) = ⊥
  IsKeeping Ended = ⊥

  -- after a page, by where the next one begins and the greatest id so far
  abbrev pub paged_turned : Names → ℕ → Option Segments → Option ℕ → LatestOp T × Turned (ReadAnswer T)
  paged_turned names page (Some after) found = (listing_on names page found after, Goes)
  paged_turned names page None found = (Chooses found, Goes)

  abbrev pub listed : Names → ℕ → LatestOp T → Option ℕ → Result Page StoreError → LatestOp T × Turned (ReadAnswer T)
  listed names page op found (Ok told) = paged_turned names page (next_after told) (greatest_from found names told.metas)
  listed names page op found (Err error) = (op, Done (Err (store_error_number error)))

  -- what it holds is cached and answered
  abbrev pub kept_turned : LatestOp T → LatestOp T × Turned (ReadAnswer T)
  kept_turned (Keeps version value) = (Ended, Done (Ok (Some (version.id, value))))
  kept_turned op = (op, Goes)

  abbrev pub latest_kept : LatestOp T → List Cached → List Cached
  latest_kept (Keeps version value) latest = kept version latest
  latest_kept op latest = latest

  -- nothing is listed: the greatest held id is noted
  abbrev pub unlisted : LatestOp T → Option Cached → LatestOp T × Turned (ReadAnswer T)
  unlisted op None = (op, Done (Ok None))
  unlisted op (Some cached) = (Drops cached.id, Goes)

  abbrev pub found_kept : List Cached → Cached → Turned (ReadAnswer T) → List Cached
  found_kept latest successor Goes = kept successor latest
  found_kept latest successor (Done (Ok answer)) = kept successor latest
  found_kept latest successor (Done (Err number)) = latest

  -- what it leaves of the cached versions, by what it says: a found successor is cached but for an error
  abbrev pub latest_window_after : LatestOp T → List Cached → Turned (ReadAnswer T) → List Cached
  latest_window_after (Finds successor found) latest told = found_kept latest successor told
  latest_window_after (Keeps version value) latest told = kept version latest
  latest_window_after (Drops id) latest told = above id latest
  latest_window_after Looks latest told = latest
  latest_window_after (Probes hand found next request) latest told = latest
  latest_window_after (Lists found request) latest told = latest
  latest_window_after (Chooses greatest) latest told = latest
  latest_window_after (Gets id request) latest told = latest
  latest_window_after Ended latest told = latest

module _ {T : Type 0} (decode : List ℕ → Option T) where
  abbrev pub read_in_hand : LatestOp T → ℕ → Option T → LatestOp T × Turned (ReadAnswer T)
  read_in_hand op id (Some value) = (op, Done (Ok (Some (id, value))))
  read_in_hand op id None = (op, Done (Err 8))

  -- it answers the version in hand, with what the codec reads
  abbrev pub answered : LatestOp T → Cached → LatestOp T × Turned (ReadAnswer T)
  answered op hand = read_in_hand op hand.id (decode hand.bytes)

  abbrev pub probed : LatestOp T → Cached → ℕ → ℕ → Result Got StoreError → LatestOp T × Turned (ReadAnswer T)
  probed op hand found next (Ok got) = (Finds (record { id = next; bytes = got.bytes }) (found + 1), Goes)
  probed op hand found next (Err errors.NotFound) = answered op hand
  probed op hand found next (Err error) = (op, Done (Err (store_error_number error)))

  abbrev pub keeping : LatestOp T → Cached → Option T → LatestOp T × Turned (ReadAnswer T)
  keeping op version (Some value) = (Keeps version value, Goes)
  keeping op version None = (op, Done (Err 8))

  abbrev pub got_decoded : LatestOp T → Cached → LatestOp T × Turned (ReadAnswer T)
  got_decoded op version = keeping op version (decode version.bytes)

module _ {T : Type 0} (names : Names) (decode : List ℕ → Option T) where
  -- it asks for the successor, unless there can be none
  abbrev pub in_hand : LatestOp T → Cached → ℕ → LatestOp T × Turned (ReadAnswer T)
  in_hand op hand found = if hand.id == 18446744073709551615 then answered decode op hand else (Probes hand found (hand.id + 1) (version_got names (hand.id + 1)), Goes)

  abbrev pub held_or_got : LatestOp T → ℕ → Option Cached → LatestOp T × Turned (ReadAnswer T)
  held_or_got op id None = (latest_getting names id, Goes)
  held_or_got op id (Some cached) = got_decoded decode op cached

  -- after the listing: the greatest listed version, where it is cached, else its get
  abbrev pub chosen : LatestOp T → Option ℕ → List Cached → LatestOp T × Turned (ReadAnswer T)
  chosen op None latest = unlisted op (greatest_held latest)
  chosen op (Some id) latest = held_or_got op id (held id latest)

module _ {T : Type 0} (names : Names) (page : ℕ) (decode : List ℕ → Option T) where
  abbrev pub begins_with : LatestOp T → Option Cached → LatestOp T × Turned (ReadAnswer T)
  begins_with op None = (latest_listing names page, Goes)
  begins_with op (Some hand) = in_hand names decode op hand 0

  abbrev pub looked : LatestOp T → List Cached → LatestOp T × Turned (ReadAnswer T)
  looked op latest = begins_with op (greatest_held latest)

  abbrev pub found_turned : LatestOp T → Cached → ℕ → LatestOp T × Turned (ReadAnswer T)
  found_turned op successor found = if found == 4 then (latest_listing names page, Goes) else in_hand names decode op successor found

  -- a version that is missing was removed since it was listed: it lists from the first page again
  abbrev pub latest_got : LatestOp T → ℕ → Result Got StoreError → LatestOp T × Turned (ReadAnswer T)
  latest_got op id (Ok got) = got_decoded decode op (record { id = id; bytes = got.bytes })
  latest_got op id (Err errors.NotFound) = (latest_listing names page, Goes)
  latest_got op id (Err error) = (op, Done (Err (store_error_number error)))

  -- what it makes of a reply, memory aside
  abbrev pub latest_replied : LatestOp T → Option Reply → LatestOp T × Turned (ReadAnswer T)
  latest_replied (Probes hand found next request) (Some (replies.Get answer)) = probed decode (Probes hand found next request) hand found next answer
  latest_replied (Lists found request) (Some (replies.List answer)) = listed names page (Lists found request) found answer
  latest_replied (Gets id request) (Some (replies.Get answer)) = latest_got (Gets id request) id answer
  latest_replied op reply = (op, Goes)

  -- what it makes of a look or a reply, memory aside
  abbrev pub latest_turned : LatestOp T → List Cached → Option Reply → LatestOp T × Turned (ReadAnswer T)
  latest_turned Looks latest reply = looked Looks latest
  latest_turned (Finds successor found) latest reply = found_turned (Finds successor found) successor found
  latest_turned (Chooses greatest) latest reply = chosen names decode (Chooses greatest) greatest latest
  latest_turned (Keeps version value) latest reply = kept_turned (Keeps version value)
  latest_turned (Drops id) latest reply = (Drops id, Done (Ok None))
  latest_turned (Probes hand found next request) latest reply = latest_replied (Probes hand found next request) reply
  latest_turned (Lists found request) latest reply = latest_replied (Lists found request) reply
  latest_turned (Gets id request) latest reply = latest_replied (Gets id request) reply
  latest_turned Ended latest reply = (Ended, Goes)
