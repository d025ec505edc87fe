-- What a read of the newest version leaves and answers, where the files and the held versions stand for a history.
use Rattle.std.proofs.Common.{◌≡◌, ◌⊎◌, ℕ, ◌+◌, ◌-◌, ◌<◌, ◌≤◌, ◌^◌, is_some, true, Bool, List, [], ◌∷◌, length, slice_get, Option, Some, None, IsSome, refl, sym, ap, subst, ◌∙◌, inl, inr, arith}
use Rattle.std.proofs.lemmas.Bool.{cases_lt}
use Rattle.std.proofs.lemmas.Option.{same_Some}
use Rattle.std.specs.FinMap as map
use Rattle.txn_store.specs.VersionName.{Names, version_path}
use Rattle.txn_store.specs.Store.{Files}
use Rattle.txn_store.specs.declared.store.Got.{Got}
use Rattle.txn_steps.specs.declared.boundary.caches.Cached.{Cached}
use Rattle.txn_steps.specs.boundary.Windows.{greatest_held}
use Rattle.txn_steps.specs.declared.latest.LatestOp.{LatestOp}
use Rattle.txn_steps.specs.declared.latest.LatestOp.TheVariants.{Looks, Probes, Finds, Lists, Chooses, Gets, Keeps, Drops, Ended}
use Rattle.txn_steps_driven.specs.Standing.{FilesStand, Carried, WindowFits}
use Rattle.txn_steps_driven.specs.LatestReads.{Every, UpTo, IsStored, IsHeldOrStored, NoneStored, Walked, HasToList, IsProbed, IsListed, IsAnswer, IsLatest, AnswersOf}
use Rattle.txn_steps_driven.specs.LatestRuns.{Walks, Holds}
use Rattle.txn_steps_driven.proofs.LatestTurns.{calls_of}
use Rattle.txn_steps_driven.proofs.LatestWindows.{every_as, every_one, every_carried, carried_every, one_greatest}

-- a file that stands, or none does
pub some_file : (o : Option Got) → is_some o ≡ true → (got : Got) × (o ≡ Some got)
some_file None is = cc
some_file (Some got) is = (got, refl)

module _ {T : Type 0} (names : Names) (decode : List ℕ → Option T) (files : Files) (h : List T) (b : ℕ) (stand : FilesStand names decode files h b) where
  -- a stored version is carried
  pub stored_carried : (version : Cached) → IsStored names files version → Carried decode h b version
  stored_carried version s =
      let known = stand.known version.id s.file s.small s.is_file in
      record {
        positive = known.0;
        within = known.1;
        decodes = subst (λ bytes. IsSome (decode bytes)) (sym s.bytes) known.2;
        entry = λ above.
            let e = stand.stored version.id above known.1 in
            let same : e.0 ≡ s.file = same_Some e.0 s.file (sym e.1 ∙ s.is_file) in
            ap decode s.bytes ∙ (sym (ap (λ g. decode g.bytes) same) ∙ e.2);
      }

  -- the newest entry is stored
  top_stored : 0 < length h → (got : Got) × (map.get files (version_path names (length h)) ≡ Some got) × (decode got.bytes ≡ slice_get h (length h - 1))
  top_stored some = stand.stored (length h) (stand.newest some) (omega arith)

  empty_if : (k : List T) → k ≡ h → (0 < length h → ⊥) → k ≡ []
  empty_if [] same none = refl
  empty_if (x ∷ k) same none = absurd (none (let long : length h ≡ length (x ∷ k) = ap length (sym same) in omega (arith, long)))

  none_empty : NoneStored names files → h ≡ []
  none_empty nothing = empty_if h refl (λ some. let top = top_stored some in let clash = sym (nothing (length h) stand.fits) ∙ top.1 in cc)

  module _ (first : List Cached) (fits : WindowFits decode h b first) where
    held_carried : (version : Cached) → IsHeldOrStored names files first version → Carried decode h b version
    held_carried version (inl one) = every_one (Carried decode h b) first version (every_carried decode h b first fits) one
    held_carried version (inr stored) = stored_carried version stored

    pub window_stands : (latest : List Cached) → Every (IsHeldOrStored names files first) latest → WindowFits decode h b latest
    window_stands latest every = carried_every decode h b latest (every_as (IsHeldOrStored names files first) (Carried decode h b) latest held_carried every)

    greatest_carried : (from : Cached) → greatest_held first ≡ Some from → Carried decode h b from
    greatest_carried from greatest = every_one (Carried decode h b) first from (every_carried decode h b first fits) (one_greatest first from greatest)

    hand_carried : (from hand : Cached) (found : ℕ) → greatest_held first ≡ Some from → Walked names files from found hand → Carried decode h b hand
    hand_carried from hand found greatest w = elim w.is [
      | inl same ↦ subst (Carried decode h b) (sym same) (greatest_carried from greatest)
      | inr stored ↦ stored_carried hand stored
    ]

    -- a carried version of the newest id is the last entry
    last_entry : (version : Cached) (value : T) → Carried decode h b version → decode version.bytes ≡ Some value → version.id ≡ length h → IsLatest h version.id value
    last_entry version value c reads is =
        let some : 0 < length h = (let p = c.positive in omega (arith, p, is)) in
        record { some = some; id_is = is; entry = sym (c.entry (let n = stand.newest some in omega (arith, n, is))) ∙ reads }

    warm : (from : Cached) → greatest_held first ≡ Some from → first ≡ [] → ⊥
    warm from greatest none = let at : greatest_held [] ≡ Some from = ap greatest_held (sym none) ∙ greatest in cc

    -- with no stored successor it is the newest, or fenced
    last_or_fenced : (id : ℕ) → id ≤ length h → map.get files (version_path names (id + 1)) ≡ None → (id ≡ length h) ⊎ (id ≤ b)
    last_or_fenced id within none =
        elim (cases_lt id (length h)) [
          | inr top ↦ inl (omega (arith, within, top))
          | inl less ↦ elim (cases_lt b (id + 1)) [
            | inl above ↦ absurd (let s = stand.stored (id + 1) above (omega (arith, less)) in let clash = sym none ∙ s.1 in cc)
            | inr below ↦ inr (omega (arith, below))
          ]
        ]

    probed_answers : (spent calls : ℕ) (latest : List Cached) (id : ℕ) (value : T) → IsProbed names decode files first spent calls id value → UpTo id latest → AnswersOf h b first latest (Some (id, value))
    probed_answers spent calls latest id value p up =
        let c = hand_carried p.from p.hand p.found p.greatest p.walked in
        let within : id ≤ length h = (let w = c.within in let i = p.id_is in omega (arith, w, i)) in
        let newest : id ≡ length h → AnswersOf h b first latest (Some (id, value)) = (λ is. inl (subst (λ k. IsLatest h k value) p.id_is (last_entry p.hand value c p.reads (p.id_is ∙ is)))) in
        elim p.last [
          | inl top ↦ newest (let f = stand.fits in let t = top.0 in omega (arith, within, f, t))
          | inr none ↦ elim (last_or_fenced id within none.1) [ inl is ↦ newest is | inr below ↦ inr (warm p.from p.greatest, below, up) ]
        ]

    listed_answers : (spent calls : ℕ) (latest : List Cached) (id : ℕ) (value : T) → IsListed names decode files first spent calls id value → AnswersOf h b first latest (Some (id, value))
    listed_answers spent calls latest id value l =
        let known = stand.known id l.file l.small l.is_file in
        let some : 0 < length h = (let p = known.0 in let w = known.1 in omega (arith, p, w)) in
        let top = top_stored some in
        let up = l.most (length h) top.0 stand.fits top.1 in
        let is : id ≡ length h = (let w = known.1 in omega (arith, up, w)) in
        inl (last_entry (record { id = id; bytes = l.file.bytes }) value (stored_carried (record { id = id; bytes = l.file.bytes }) (record { small = l.small; file = l.file; is_file = l.is_file; bytes = refl })) l.reads is)

    pub answer_stands : (spent calls : ℕ) (latest : List Cached) (answer : Option (ℕ × T)) → IsAnswer names decode files first spent calls latest answer → AnswersOf h b first latest answer
    answer_stands spent calls latest None is = (none_empty is.1, is.0)
    answer_stands spent calls latest (Some read) is = elim is.0 [ inl p ↦ probed_answers spent calls latest read.0 read.1 p is.2 | inr l ↦ listed_answers spent calls latest read.0 read.1 l ]

    -- no stored successor follows the newest
    none_walked : (from hand : Cached) (found : ℕ) → Walked names files from found hand → from.id ≡ length h → 0 < found → ⊥
    none_walked from hand found w is some =
        let small : hand.id < 2 ^ 64 = elim w.is [
          | inl same ↦ absurd (let e = ap (λ (c : Cached). c.id) same in let i = w.id in omega (arith, e, i, some))
          | inr stored ↦ stored.small
        ] in
        let i = w.id in
        let file = some_file (map.get files (version_path names (from.id + 1))) (w.between (from.id + 1) (omega arith) (omega (arith, i, some))) in
        let known = stand.known (from.id + 1) file.0 (omega (arith, small, i, some)) file.1 in
        let le = known.1 in
        omega (arith, le, is)

    -- it does not list where the newest version is the greatest that was held
    not_listing : HasToList names files first → (from : Cached) → greatest_held first ≡ Some from → from.id ≡ length h → ⊥
    not_listing (inl empty) from greatest at = warm from greatest empty
    not_listing (inr (before, is_greatest, (fourth, w))) from greatest at = none_walked before fourth 4 w (ap (λ (c : Cached). c.id) (same_Some before from (sym is_greatest ∙ greatest)) ∙ at) (omega arith)

    walks_none : (page found : ℕ) (hand : Cached) (spent calls : ℕ) (paged : Bool) (latest : List Cached) → Walks names page decode files first found hand spent calls paged latest → (from : Cached) → greatest_held first ≡ Some from → from.id ≡ length h → calls ≡ 0
    walks_none page found hand spent calls paged latest w from greatest at =
        let same : w.from ≡ from = same_Some w.from from (sym w.greatest ∙ greatest) in
        let c = w.calls_are in
        elim (cases_lt 0 found) [
          | inl some ↦ absurd (none_walked w.from hand found w.walked (ap (λ (v : Cached). v.id) same ∙ at) some)
          | inr none ↦ omega (arith, none, c)
        ]

    -- at most one call is made there
    pub newest_few : (page spent calls : ℕ) (paged : Bool) (latest : List Cached) (op : LatestOp T) → Holds names page decode files first spent calls paged latest op → (from : Cached) → greatest_held first ≡ Some from → from.id ≡ length h → calls + calls_of op ≤ 1
    newest_few page spent calls paged latest Looks is from greatest at = (let c = is.3 in omega (arith, c))
    newest_few page spent calls paged latest (Probes hand found next request) is from greatest at = (let c = walks_none page found hand spent calls paged latest is.0 from greatest at in omega (arith, c))
    newest_few page spent calls paged latest (Finds successor found) is from greatest at = (let c = walks_none page found successor spent calls paged latest is.0 from greatest at in omega (arith, c))
    newest_few page spent calls paged latest (Lists found request) is from greatest at = absurd (not_listing is.0.0 from greatest at)
    newest_few page spent calls paged latest (Chooses greatest_id) is from greatest at = absurd (not_listing is.0.0 from greatest at)
    newest_few page spent calls paged latest (Gets id request) is from greatest at = absurd (not_listing is.0.0 from greatest at)
    newest_few page spent calls paged latest (Keeps version value) is from greatest at = absurd (not_listing is.0.0 from greatest at)
    newest_few page spent calls paged latest (Drops id) is from greatest at = absurd is
    newest_few page spent calls paged latest Ended is from greatest at = absurd is

    pub newest_calls : (spent calls : ℕ) (latest : List Cached) (answer : Option (ℕ × T)) → IsAnswer names decode files first spent calls latest answer → (from : Cached) → greatest_held first ≡ Some from → from.id ≡ length h → ((from.id + 1 ≡ 2 ^ 64) × (calls ≡ 0)) ⊎ ((from.id + 1 < 2 ^ 64) × (calls ≡ 1))
    newest_calls spent calls latest None is from greatest at = absurd (warm from greatest is.0)
    newest_calls spent calls latest (Some read) is from greatest at =
        elim is.0 [
          | inl p ↦
              let same : p.from ≡ from = same_Some p.from from (sym p.greatest ∙ greatest) in
              let still : p.found ≡ 0 = elim (cases_lt 0 p.found) [
                | inl some ↦ absurd (none_walked p.from p.hand p.found p.walked (ap (λ (c : Cached). c.id) same ∙ at) some)
                | inr none ↦ omega (arith, none)
              ] in
              let i = p.walked.id in
              let r = p.id_is in
              let f = ap (λ (c : Cached). c.id) same in
              elim p.last [
                | inl top ↦ inl (let t = top.0 in omega (arith, t, i, r, f, still), (let c = top.1 in omega (arith, c, still)))
                | inr none ↦ inr (let t = none.0 in omega (arith, t, i, r, f, still), (let c = none.2 in omega (arith, c, still)))
              ]
          | inr l ↦ absurd (not_listing l.lists from greatest at)
        ]
