-- Each step of a read of the newest version: what it leaves, in any files.
use Rattle.std.proofs.Common.{◌≡◌, ℕ, ◌+◌, ◌-◌, ◌*◌, ◌<◌, ◌≤◌, ◌==◌, ◌^◌, not, ◌++◌, Bool, true, false, List, [], length, take, drop, is_some, Option, Some, None, IfSome, Result, Ok, Err, IfOk, refl, sym, ap, subst, ◌∙◌, inl, inr, arith}
use Rattle.std.proofs.lemmas.Bool.{cases_Bool, cases_lt, eqb-true, eqb-false}
use Rattle.std.proofs.lemmas.Option.{same_Some}
use Rattle.std.specs.FinMap as map
use Rattle.txn_store.specs.Paths.{Segments}
use Rattle.txn_store.specs.VersionName.{Names, version_path}
use Rattle.txn_store.specs.Store.{Files, get_fault, listing, page_of}
use Rattle.txn_store.specs.declared.page.Page.{Page}
use Rattle.txn_store.specs.declared.store.Got.{Got}
use Rattle.txn_store.specs.declared.store.StoreError.{StoreError}
use Rattle.txn_store.specs.declared.store.StoreError.TheVariants as errors
use Rattle.txn_store.specs.declared.request.Request.{Request}
use Rattle.txn_store.specs.types.Errors.{store_error_number}
use Rattle.txn_steps.specs.declared.boundary.caches.Cached.{Cached}
use Rattle.txn_steps.specs.declared.boundary.turned.Turned.{Turned}
use Rattle.txn_steps.specs.declared.boundary.turned.Turned.TheVariants.{Goes, Done}
use Rattle.txn_steps.specs.boundary.Windows.{Ascends, held, greatest_held, kept}
use Rattle.txn_steps.specs.declared.latest.LatestOp.{LatestOp}
use Rattle.txn_steps.specs.declared.latest.LatestOp.TheVariants.{Looks, Probes, Finds, Lists, Chooses, Gets, Ended}
use Rattle.txn_steps.specs.Requests.{version_page, next_after}
use Rattle.txn_steps.specs.Latest.{ReadAnswer, greatest_from, read_in_hand, probed, in_hand, begins_with, found_turned, found_kept, paged_turned, listed, unlisted, keeping, held_or_got, chosen, latest_got}
use Rattle.txn_steps_driven.specs.Calls.{one_if}
use Rattle.txn_steps_driven.specs.LatestReads.{IsOneOf, Every, UpTo, IsStored, IsHeldOrStored, HasGrown, IsRefused, NoneStored, IsMost, Walked, HasToList, IsLast, IsAnswer}
use Rattle.txn_steps_driven.specs.PageCount.{files_below}
use Rattle.txn_steps_driven.specs.LatestRuns.{steps_left, calls_left, Walks, Seeks, Listing, IsGreatest, Holds}
use Rattle.txn_steps_driven.proofs.LatestWindows.{every_held, grown_kept, grown_every, held_above, held_kept, held_same, held_greatest, up_if, up_more, up_one, up_kept, up_greatest, one_greatest, none_greatest}
use Rattle.txn_steps_driven.proofs.Listings.{greatest_append, listed_most, listed_stored}
use Rattle.txn_steps_driven.proofs.Pages.{PageLeaves, page_leaves}

pub missing : (now : Option Got) → get_fault None now ≡ Some errors.NotFound → now ≡ None
missing None e = refl
missing (Some g) e = absurd (cc)

not_refused : (e : StoreError) → store_error_number e ≡ 8 → ⊥
not_refused errors.NotFound is = omega (arith, is)
not_refused error is = omega (arith, is)

module _ {T : Type 0} (names : Names) (page : ℕ) (room : 1 ≤ page) (decode : List ℕ → Option T) (files : Files) (first : List Cached) (ascending : Ascends first) (small_first : IfSome (greatest_held first) (λ version. version.id < 2 ^ 64)) where
  abbrev P : Cached → Type 0
  P = IsHeldOrStored names files first

  abbrev Grown : List Cached → Type 0
  Grown = HasGrown names files first

  abbrev At : ℕ → ℕ → Bool → List Cached → LatestOp T → Type 0
  At = Holds names page decode files first

  -- what a step leaves: it goes on with less to do, or ends; `left` is what it leaves of the held versions, by what it says
  abbrev pub Leaves : (Turned (ReadAnswer T) → List Cached) → ℕ → ℕ → Bool → ℕ → ℕ → LatestOp T × Turned (ReadAnswer T) → Type 0
  Leaves left spent calls paged steps most (next, Goes) = (At spent calls paged (left Goes) next × Grown (left Goes)) × (steps_left paged next < steps) × (calls + calls_left paged next ≤ most)
  Leaves left spent calls paged steps most (next, Done (Ok answer)) = IsAnswer names decode files first spent calls (left (Done (Ok answer))) answer × Grown (left (Done (Ok answer)))
  Leaves left spent calls paged steps most (next, Done (Err number)) = Grown (left (Done (Err number))) × (number ≡ 8 → IsRefused names decode files first)

  -- a version was held where there is a greatest one
  warm : (from : Cached) → greatest_held first ≡ Some from → first ≡ [] → ⊥
  warm from greatest none = let at : greatest_held [] ≡ Some from = ap greatest_held (sym none) ∙ greatest in cc

  hand_known : (from hand : Cached) (found : ℕ) → greatest_held first ≡ Some from → Walked names files from found hand → P hand
  hand_known from hand found greatest w = elim w.is [ inl same ↦ inl (subst (IsOneOf first) (sym same) (one_greatest first from greatest)) | inr stored ↦ inr stored ]

  -- the fourth stored successor is stored
  fourth_stored : (from fourth : Cached) → Walked names files from 4 fourth → IsStored names files fourth
  fourth_stored from fourth w = elim w.is [
    | inl same ↦ absurd (let e = ap (λ (c : Cached). c.id) same in let i = w.id in omega (arith, e, i))
    | inr stored ↦ stored
  ]

  -- where it lists, no version that was held is above the greatest stored one
  first_below : (id : ℕ) → HasToList names files first → IsMost names files id → (version : Cached) → IsOneOf first version → version.id < id
  first_below id (inl none) most version is = absurd (subst (λ (versions : List Cached). IsOneOf versions version) none is)
  first_below id (inr (from, greatest, (fourth, w))) most version is =
      let s = fourth_stored from fourth w in
      let up = most fourth.id s.file s.small s.is_file in
      let le = up_one from.id first version (up_greatest first from ascending greatest) is in
      let i = w.id in
      omega (arith, up, le, i)

  up_most : (id : ℕ) (latest : List Cached) → HasToList names files first → IsMost names files id → Every P latest → UpTo id latest
  up_most id latest why most every = up_if P id latest by_kind every
    where
      by_kind : (version : Cached) → P version → version.id ≤ id
      by_kind version (inl is) = (let lt = first_below id why most version is in omega (arith, lt))
      by_kind version (inr s) = most version.id s.file s.small s.is_file

  module _ (left : Turned (ReadAnswer T) → List Cached) (spent calls : ℕ) (steps most : ℕ) (every : (told : Turned (ReadAnswer T)) → Grown (left told)) where
    -- it answers what it has in hand
    answers : (op : LatestOp T) (found : ℕ) (hand from : Cached) (value : Option T) → decode hand.bytes ≡ value → greatest_held first ≡ Some from → Walked names files from found hand → found < 4 → spent ≡ 0
        → IsLast names files hand.id found calls
        → ((answer : Option (ℕ × T)) → UpTo hand.id (left (Done (Ok answer)))) → ((answer : Option (ℕ × T)) → held hand.id (left (Done (Ok answer))) ≡ Some hand) → (paged : Bool) → Leaves left spent calls paged steps most (read_in_hand decode op hand.id value)
    answers op found hand from (Some value) reads greatest walked few unspent last ups has paged =
        ((inl (record { from = from; greatest = greatest; found = found; few = few; hand = hand; walked = walked; id_is = refl; reads = reads; last = last; unspent = unspent }), (hand, has (Some (hand.id, value)), reads), ups (Some (hand.id, value))), every (Done (Ok (Some (hand.id, value)))))
    answers op found hand from None reads greatest walked few unspent last ups has paged = (every (Done (Err 8)), λ e. (hand, hand_known from hand found greatest walked, reads))

    -- it goes on from what it has in hand
    goes_from : (op : LatestOp T) (found : ℕ) (hand : Cached) (paged : Bool) (latest : List Cached) → Walks names page decode files first found hand spent calls paged latest → found < 4
        → UpTo hand.id (left Goes) → held hand.id (left Goes) ≡ Some hand → ((answer : Option (ℕ × T)) → UpTo hand.id (left (Done (Ok answer)))) → ((answer : Option (ℕ × T)) → held hand.id (left (Done (Ok answer))) ≡ Some hand) → 15 - 2 * found < steps → calls + (6 - found) ≤ most
        → Leaves left spent calls paged steps most (in_hand names decode op hand found)
    goes_from op found hand paged latest w few up has ups hass less within =
        elim (cases_Bool (hand.id == 18446744073709551615)) [
          | inl last ↦ rw last (answers op found hand w.from (decode hand.bytes) refl w.greatest w.walked few w.unspent (inl (let top = eqb-true hand.id 18446744073709551615 last in omega (arith, top), w.calls_are)) ups hass paged)
          | inr more ↦ rw more (((record { from = w.from; greatest = w.greatest; walked = w.walked; small = w.small; up_to = up; unlisted = w.unlisted; unspent = w.unspent; calls_are = w.calls_are }, has, few, refl, (let s = w.small in let o = eqb-false hand.id 18446744073709551615 more in omega (arith, s, o)), refl), every Goes), less, within)
        ]

    -- it asks for the first page
    lists_from : (found : Option ℕ) → found ≡ None → (paged : Bool) → HasToList names files first → (first ≡ [] → left Goes ≡ []) → paged ≡ false → spent ≡ 0 → 6 < steps → calls + 2 ≤ most
        → Leaves left spent calls paged steps most (Lists found (version_page names None page), Goes)
    lists_from found none paged why cold before unspent less within = (
      (
        (
          (why, cold),
          record {
            seen = [];
            rest = files_below names files;
            split = refl;
            after = None;
            asks = refl;
            follows = refl;
            found_is = none;
            full = rw (unspent, before) (omega arith);
            more = rw before (omega arith);
          },
        ),
        every Goes,
      ),
      rw before (omega (arith, less)),
      rw before (omega (arith, within)),
    )

    -- a version that is stored and the greatest is kept, once it is decoded
    keeps_read : (op : LatestOp T) (paged : Bool) (version : Cached) (value : Option T) → decode version.bytes ≡ value → Seeks names page decode files first (left Goes) → IsGreatest names page decode files first version.id → IsStored names files version → 2 < steps → calls ≤ most
        → Leaves left spent calls paged steps most (keeping decode op version value)
    keeps_read op paged version (Some value) reads seeks greatest stored less within = (((seeks, greatest, stored, reads), every Goes), less, omega (arith, within))
    keeps_read op paged version None reads seeks greatest stored less within = (every (Done (Err 8)), λ e. (version, inr stored, reads))

  -- the looks

  pub looks : (latest : List Cached) (spent calls : ℕ) (paged : Bool) (most : ℕ) (o : Option Cached) → greatest_held first ≡ o → latest ≡ first → Grown latest → paged ≡ false → spent ≡ 0 → calls ≡ 0 → calls + 6 ≤ most → Leaves (λ told. latest) spent calls paged 16 most (begins_with names page decode Looks o)
  looks latest spent calls paged most None is same every before unspent none within = lists_from (λ told. latest) spent calls 16 most (λ told. every) None refl paged (inl (none_greatest first is)) (λ empty. same ∙ empty) before unspent (omega arith) (omega (arith, within))
  looks latest spent calls paged most (Some hand) is same every before unspent none within =
      let up : UpTo hand.id latest = subst (UpTo hand.id) (sym same) (up_greatest first hand ascending is) in
      let has : held hand.id latest ≡ Some hand = ap (held hand.id) same ∙ held_greatest first hand ascending is in
      goes_from (λ told. latest) spent calls 16 most (λ told. every) Looks 0 hand paged latest (record {
        from = hand;
        greatest = is;
        walked = record { id = omega arith; between = λ n above le. absurd (omega (arith, above, le)); is = inl refl };
        small = rw is at small_first;
        up_to = up;
        unlisted = before;
        unspent = unspent;
        calls_are = none;
      }) (omega arith) up has (λ answer. up) (λ answer. has) (omega arith) (omega (arith, within))

  pub finds : (successor : Cached) (found spent calls : ℕ) (paged : Bool) (latest : List Cached) (most : ℕ) → Walks names page decode files first found successor spent calls paged latest → held successor.id latest ≡ None → found ≤ 4 → IsStored names files successor → Grown latest → calls + (6 - found) ≤ most
      → Leaves (found_kept latest successor) spent calls paged (16 - 2 * found) most (found_turned names page decode (Finds successor found) successor found)
  finds successor found spent calls paged latest most w none few stored every within =
      let all : Grown (kept successor latest) = grown_kept names files first successor latest stored every in
      let up : UpTo successor.id (kept successor latest) = up_kept successor latest w.up_to in
      let has : held successor.id (kept successor latest) ≡ Some successor = held_kept successor latest w.up_to none in
      elim (cases_Bool (found == 4)) [
        | inl last ↦
            let four : found ≡ 4 = eqb-true found 4 last in
            rw last (lists_from (found_kept latest successor) spent calls (16 - 2 * found) most (each all) None refl paged (inr (w.from, w.greatest, (successor, subst (λ n. Walked names files w.from n successor) four w.walked))) (λ none. absurd (warm w.from w.greatest none)) w.unlisted w.unspent (omega (arith, four)) (omega (arith, four, within)))
        | inr more ↦
            let less : found < 4 = (let o = eqb-false found 4 more in omega (arith, few, o)) in
            rw more (goes_from (found_kept latest successor) spent calls (16 - 2 * found) most (each all) (Finds successor found) found successor paged latest w less up has (λ answer. up) (λ answer. has) (omega (arith, less)) within)
      ]
    where
      each : Grown (kept successor latest) → (told : Turned (ReadAnswer T)) → Grown (found_kept latest successor told)
      each all Goes = all
      each all (Done (Ok answer)) = all
      each all (Done (Err number)) = every

  -- the replies

  pub probes : (hand : Cached) (found next spent calls : ℕ) (paged : Bool) (latest : List Cached) (most : ℕ) (request : Request) (answer : Result Got StoreError) → Walks names page decode files first found hand spent calls paged latest → held hand.id latest ≡ Some hand → found < 4 → next ≡ hand.id + 1 → next < 2 ^ 64 → Grown latest → calls + (6 - found) ≤ most
      → IfOk answer (λ got. map.get files (version_path names next) ≡ Some got) → (answer ≡ Err errors.NotFound → map.get files (version_path names next) ≡ None)
      → Leaves (λ told. latest) spent (calls + 1) paged (15 - 2 * found) most (probed decode (Probes hand found next request) hand found next answer)
  probes hand found next spent calls paged latest most request (Ok got) w has few is small every within there gone =
      let stored : IsStored names files (record { id = next; bytes = got.bytes }) = record { small = small; file = got; is_file = there; bytes = refl } in (
        (
          (
            record {
              from = w.from;
              greatest = w.greatest;
              walked = record {
                id = (let i = w.walked.id in omega (arith, is, i));
                between = λ n above le. elim (cases_lt n next) [
                  | inl lt ↦ w.walked.between n above (omega (arith, lt, is))
                  | inr ge ↦ (let same : n ≡ next = omega (arith, ge, le) in ap is_some (ap (λ k. map.get files (version_path names k)) same ∙ there))
                ];
                is = inr stored;
              };
              small = small;
              up_to = up_more hand.id next latest (omega (arith, is)) w.up_to;
              unlisted = w.unlisted;
              unspent = w.unspent;
              calls_are = (let c = w.calls_are in omega (arith, c));
            },
            held_above hand.id next latest w.up_to (omega (arith, is)),
            omega (arith, few),
            stored,
          ),
          every,
        ),
        omega (arith, few),
        omega (arith, few, within),
      )
  probes hand found next spent calls paged latest most request (Err errors.NotFound) w has few is small every within there gone =
      answers (λ told. latest) spent (calls + 1) (15 - 2 * found) most (λ told. every) (Probes hand found next request) found hand w.from (decode hand.bytes) refl w.greatest w.walked few w.unspent
      (inr (omega (arith, small, is), ap (λ k. map.get files (version_path names k)) (sym is) ∙ gone refl, (let c = w.calls_are in omega (arith, c)))) (λ answer. w.up_to) (λ answer. has) paged
  probes hand found next spent calls paged latest most request (Err error) w has few is small every within there gone = (every, λ e. absurd (omega (arith, e)))

  -- a page has its turn, and the calls that are left have theirs
  page_steps : (paged : Bool) (left : ℕ) → left ≤ 5 → left < 5 + one_if (not paged) + 16 * one_if paged
  page_steps true left le = omega (arith, le)
  page_steps false left le = omega (arith, le)

  page_calls : (paged : Bool) (spent spent' calls most : ℕ) → spent' ≡ spent + one_if paged → calls + (1 + one_if (not paged)) ≤ 6 + spent → most ≡ 6 + spent' → calls + 1 + 1 ≤ most
  page_calls true spent spent' calls most due within is = omega (arith, due, within, is)
  page_calls false spent spent' calls most due within is = omega (arith, due, within, is)

  one_more : (n s k m : ℕ) → n ≡ s * page → m ≡ n + page → m ≡ (s + 1) * page
  one_more n s k m e f = omega (arith, e, f)

  pages : (found : Option ℕ) (request : Request) (spent spent' calls : ℕ) (paged : Bool) (latest : List Cached) (most : ℕ) (l : Listing names page decode files first found request spent paged) → Seeks names page decode files first latest → Grown latest
      → spent' ≡ spent + one_if paged → calls + (1 + one_if (not paged)) ≤ 6 + spent → most ≡ 6 + spent' → (next : Option Segments) → PageLeaves names.dir files page l.seen l.rest next
      → Leaves (λ told. latest) spent' (calls + 1) true (5 + one_if (not paged) + 16 * one_if paged) most (paged_turned names page next (greatest_from found names (take page l.rest)))
  pages found request spent spent' calls paged latest most l seeks every due within is None whole =
      let told : greatest_from found names (take page l.rest) ≡ greatest_from None names (files_below names files) =
      (ap (λ metas. greatest_from found names metas) whole ∙ (ap (λ g. greatest_from g names l.rest) l.found_is ∙ (sym (greatest_append names None l.seen l.rest) ∙ ap (λ metas. greatest_from None names metas) (sym l.split)))) in
      (((seeks, told), every), page_steps paged 4 (omega arith), page_calls paged spent spent' calls most due within is)
  pages found request spent spent' calls paged latest most l seeks every due within is (Some after) n = (
    (
      (
        seeks,
        record {
          seen = l.seen ++ take page l.rest;
          rest = drop page l.rest;
          split = n.split;
          after = Some after;
          asks = refl;
          follows = n.follows;
          found_is = ap (λ g. greatest_from g names (take page l.rest)) l.found_is ∙ sym (greatest_append names None l.seen (take page l.rest));
          full = one_more (length l.seen) spent' page (length (l.seen ++ take page l.rest)) (l.full ∙ ap (λ k. k * page) (sym due)) n.full;
          more = n.more;
        },
      ),
      every,
    ),
    page_steps paged 5 (omega arith),
    page_calls paged spent spent' calls most due within is,
  )

  pub lists : (found : Option ℕ) (request : Request) (spent spent' calls : ℕ) (paged : Bool) (latest : List Cached) (most : ℕ) (l : Listing names page decode files first found request spent paged) → Seeks names page decode files first latest → Grown latest
      → spent' ≡ spent + one_if paged → calls + (1 + one_if (not paged)) ≤ 6 + spent → most ≡ 6 + spent' → (answer : Result Page StoreError) → IfOk answer (λ told. told ≡ page_of page (listing names.dir l.after (map.entries files)))
      → Leaves (λ told. latest) spent' (calls + 1) true (5 + one_if (not paged) + 16 * one_if paged) most (listed names page (Lists found request) found answer)
  lists found request spent spent' calls paged latest most l seeks every due within is (Ok told) page_is =
      let at : told ≡ page_of page l.rest = page_is ∙ ap (page_of page) l.follows in
      rw at (pages found request spent spent' calls paged latest most l seeks every due within is (next_after (page_of page l.rest)) (page_leaves names.dir files page room l.seen l.rest l.split))
  lists found request spent spent' calls paged latest most l seeks every due within is (Err error) page_is = (every, λ e. absurd (not_refused error e))

  -- the choice

  none_stored : greatest_from None names (files_below names files) ≡ None → NoneStored names files
  none_stored none n small = by_file (map.get files (version_path names n)) refl
    where
      by_file : (o : Option Got) → map.get files (version_path names n) ≡ o → map.get files (version_path names n) ≡ None
      by_file None e = e
      by_file (Some got) e = (let k = listed_most names files n got small e in let clash = sym none ∙ k.1 in cc)

  none_held : (latest : List Cached) → Seeks names page decode files first latest → NoneStored names files → (first ≡ []) × (latest ≡ [])
  none_held latest (inl none, cold) nothing = (none, cold none)
  none_held latest (inr (from, greatest, (fourth, w)), cold) nothing =
      let s = fourth_stored from fourth w in
      absurd (let clash = sym (nothing fourth.id s.small) ∙ s.is_file in cc)

  unlisted_leaves : (spent calls : ℕ) (paged : Bool) (latest : List Cached) (most : ℕ) → Seeks names page decode files first latest → NoneStored names files → Grown latest → (o : Option Cached) → greatest_held latest ≡ o → Leaves (λ told. latest) spent calls paged 4 most (unlisted (Chooses None) o)
  unlisted_leaves spent calls paged latest most seeks nothing every None is = (((none_held latest seeks nothing).0, nothing), every)
  unlisted_leaves spent calls paged latest most seeks nothing every (Some cached) is =
      absurd (let none : greatest_held [] ≡ Some cached = ap greatest_held (sym (none_held latest seeks nothing).1) ∙ is in cc)

  is_greatest : (id : ℕ) → greatest_from None names (files_below names files) ≡ Some id → IsGreatest names page decode files first id
  is_greatest id e =
      let s = listed_stored names files id e in
      record {
        small = s.0;
        most = λ n got small is. (let k = listed_most names files n got small is in let same = same_Some k.0 id (sym k.1 ∙ e) in let le = k.2 in omega (arith, le, same));
        there = s.1;
      }

  -- a held version of the greatest stored id is the stored one
  held_stored : (id : ℕ) (latest : List Cached) (cached : Cached) → HasToList names files first → IsGreatest names page decode files first id → Grown latest → held id latest ≡ Some cached → IsStored names files cached × (cached.id ≡ id)
  held_stored id latest cached why g every is = by_kind (every_held P id latest cached (grown_every names files first latest every) is)
    where
      by_kind : P cached × (cached.id ≡ id) → IsStored names files cached × (cached.id ≡ id)
      by_kind (inl one, at) = absurd (let lt = first_below id why g.most cached one in omega (arith, lt, at))
      by_kind (inr stored, at) = (stored, at)

  held_leaves : (id spent calls : ℕ) (paged : Bool) (latest : List Cached) (most : ℕ) → Seeks names page decode files first latest → IsGreatest names page decode files first id → Grown latest → calls + 1 ≤ most → (o : Option Cached) → held id latest ≡ o
      → Leaves (λ told. latest) spent calls paged 4 most (held_or_got names decode (Chooses (Some id)) id o)
  held_leaves id spent calls paged latest most seeks g every within None is = (((seeks, g, refl), every), omega arith, within)
  held_leaves id spent calls paged latest most seeks g every within (Some cached) is =
      let s = held_stored id latest cached seeks.0 g every is in
      keeps_read (λ told. latest) spent calls 4 most (λ told. every) (Chooses (Some id)) paged cached (decode cached.bytes) refl seeks (subst (IsGreatest names page decode files first) (sym s.1) g) s.0 (omega arith) (omega (arith, within))

  pub chooses : (greatest : Option ℕ) (spent calls : ℕ) (paged : Bool) (latest : List Cached) (most : ℕ) → Seeks names page decode files first latest → greatest ≡ greatest_from None names (files_below names files) → Grown latest → calls + 1 ≤ most
      → Leaves (λ told. latest) spent calls paged 4 most (chosen names decode (Chooses greatest) greatest latest)
  chooses None spent calls paged latest most seeks is every within = unlisted_leaves spent calls paged latest most seeks (none_stored (sym is)) every (greatest_held latest) refl
  chooses (Some id) spent calls paged latest most seeks is every within = held_leaves id spent calls paged latest most seeks (is_greatest id (sym is)) every within (held id latest) refl

  -- the get of the greatest stored version finds it
  pub gets : (id : ℕ) (request : Request) (spent calls : ℕ) (paged : Bool) (latest : List Cached) (most : ℕ) (answer : Result Got StoreError) → Seeks names page decode files first latest → IsGreatest names page decode files first id → Grown latest → calls + 1 ≤ most
      → IfOk answer (λ got. map.get files (version_path names id) ≡ Some got) → (answer ≡ Err errors.NotFound → map.get files (version_path names id) ≡ None)
      → Leaves (λ told. latest) spent (calls + 1) paged 3 most (latest_got names page decode (Gets id request) id answer)
  gets id request spent calls paged latest most (Ok got) seeks g every within there gone =
      keeps_read (λ told. latest) spent (calls + 1) 3 most (λ told. every) (Gets id request) paged (record { id = id; bytes = got.bytes }) (decode got.bytes) refl seeks g (record { small = g.small; file = got; is_file = there; bytes = refl }) (omega arith) within
  gets id request spent calls paged latest most (Err errors.NotFound) seeks g every within there gone = absurd (g.there (gone refl))
  gets id request spent calls paged latest most (Err error) seeks g every within there gone = (every, λ e. absurd (omega (arith, e)))

  pub keeps : (version : Cached) (value : T) (spent calls : ℕ) (paged : Bool) (latest : List Cached) (steps most : ℕ) → Seeks names page decode files first latest → IsGreatest names page decode files first version.id → IsStored names files version → decode version.bytes ≡ Some value → Grown latest
      → Leaves (λ told. kept version latest) spent calls paged steps most (Ended, Done (Ok (Some (version.id, value))))
  keeps version value spent calls paged latest steps most seeks g stored reads every = (
    (
      inr (record { lists = seeks.0; small = g.small; file = stored.file; is_file = stored.is_file; reads = ap decode (sym stored.bytes) ∙ reads; most = g.most }),
      has_held (held version.id latest) refl,
      up_kept version latest (up_most version.id latest seeks.0 g.most (grown_every names files first latest every)),
    ),
    grown_kept names files first version latest stored every,
  )
    where
      has_held : (o : Option Cached) → held version.id latest ≡ o → (same : Cached) × (held version.id (kept version latest) ≡ Some same) × (decode same.bytes ≡ Some value)
      has_held None none = (version, held_kept version latest (up_most version.id latest seeks.0 g.most (grown_every names files first latest every)) none, reads)
      has_held (Some same) is =
          let s = held_stored version.id latest same seeks.0 g every is in
          let at : map.get files (version_path names version.id) ≡ Some s.0.file = ap (λ k. map.get files (version_path names k)) (sym s.1) ∙ s.0.is_file in
          let file : s.0.file ≡ stored.file = same_Some s.0.file stored.file (sym at ∙ stored.is_file) in
          let bytes : same.bytes ≡ version.bytes = s.0.bytes ∙ (ap (λ (f : Got). f.bytes) file ∙ sym stored.bytes) in
          (same, held_same version same latest is, ap decode bytes ∙ reads)
