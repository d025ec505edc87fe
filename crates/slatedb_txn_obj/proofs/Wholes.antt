-- What the calls of a protocol over an object store make of what it stands for.
use Rattle.std.proofs.Common.{◌≡◌, ◌⊎◌, ℕ, ◌+◌, ◌^◌, ◌<◌, ◌≤◌, nat_lt, List, [], ◌∷◌, ◌++◌, length, Option, Some, None, Result, Ok, Err, IsSome, OnOk, IfOk, IfErr, refl, sym, ap, subst, ◌∙◌, inl, inr, arith}
use Rattle.std.specs.FinMap as map
use Rattle.std.proofs.lemmas.Bool.{cases_Bool, ltb-true, ltb-false, eq-eqb, ne_eqb}
use Rattle.std.proofs.lemmas.Option.{same_Some}
use Rattle.txn_store.specs.Paths.{Segments}
use Rattle.txn_store.specs.VersionName.{Names, version_path}
use Rattle.txn_store.specs.Store.{State, Kept}
use Rattle.txn_store.proofs.FileLemmas.{get-remove_same}
use Rattle.txn_store.specs.declared.store.Got.{Got}
use Rattle.txn_store.specs.declared.store.StoreError.TheVariants as errors
use Rattle.txn_store.specs.types.Errors.{error_number}
use Rattle.txn_store.specs.types.Numbers.{number_of}
use Rattle.txn_store.specs.declared.types.error.TransactionalObjectError.{TransactionalObjectError}
use Rattle.txn_store.specs.declared.types.error.TransactionalObjectError.TheVariants as kinds
use Rattle.txn_steps.specs.declared.boundary.caches.Cached.{Cached}
use Rattle.txn_steps.specs.boundary.Windows.{greatest_held}
use Rattle.txn_steps_driven.specs.Calls.{SameAt, Spends, HasCauseOfRead, HasCauseOfGet}
use Rattle.txn_steps_driven.specs.Standing.{Carried, FilesStand, WindowFits}
use Rattle.txn_steps_driven.specs.WriteRuns.{VersionsStand, WriteLeaves, WriteStands, Written}
use Rattle.txn_steps_driven.specs.RemovalRuns.{Deleted}
use Rattle.txn_steps_driven.specs.LatestReads.{UpTo, Ended, IsLatest, Walked, IsStored, IsRefused, HasToList, IsProbed, IsListed}
use Rattle.txn_steps_driven.specs.PageCount.{pages_below}
use Rattle.txn_steps_driven.specs.ListRuns.{VersionsListed, ids_of}
use Rattle.txn_steps_driven.specs.VersionReads.{AreRefused, VersionRead, SeenRead}
use Rattle.txn_steps.specs.Listed.{Listed}
use Rattle.std.specs.declared.ops.Bound.{Bound}
use Rattle.txn_steps_driven.proofs.LatestStands.{stored_carried}
use Rattle.txn_steps_driven.proofs.LatestWindows.{every_carried, every_one}
use Rattle.txn_steps_driven.proofs.NextPages.{has_pages}
use Rattle.txn_steps_driven.proofs.Frames.{same_at-kept, kept-refl, FilesStand-kept}
use Rattle.slatedb_txn_obj.specs.Protocol.{base_number, EntryStands, Overtaken, MayAppend, Stays, LatestOrFenced, IsEntry, AreListed, IsWarmRead, Unheld, HasCauseOfLatestUnchecked, HasCauseOfVersion}
use Rattle.slatedb_txn_obj.specs.Whole.{Whole, IsGreatestHeld, IsMissing, probe_calls}

-- the number of a base, both ways
pub base_is : (base : Option ℕ) → base_number (λ n. n) base ≡ number_of base
base_is None = refl
base_is (Some n) = refl

-- what a write leaves, where its protocol and the store stood for a history and a boundary
module _ {T : Type 0} (names : Names) (decode : List ℕ → Option T) (bounds bounds' : ℕ → Type 0) (file : Segments) (base : Option ℕ) (bytes : List ℕ) (value : T) (old new : State) (latest latest' : List Cached) (keeps : (b : ℕ) → SameAt file old new → bounds b → bounds' b) where
  abbrev before : List T → ℕ → Type 0
  before h b = Whole bounds file names decode latest old.files h b

  abbrev after : List T → ℕ → Type 0
  after h b = Whole bounds' file names decode latest' new.files h b

  module _ (result : Result ℕ TransactionalObjectError) (written : Written names decode base bytes value old new latest latest' result) where
    -- the file of the boundary is another one
    same_at : (h : List T) (b : ℕ) → before h b → number_of base + 1 < 2 ^ 64 → SameAt file old new
    same_at h b whole small = record { same = written.others file (λ e. whole.apart (number_of base + 1) small (sym e)); given = written.given }

    now : (h h' : List T) (b : ℕ) → before h b → number_of base + 1 < 2 ^ 64 → VersionsStand names decode new.files latest' h' b → after h' b
    now h h' b whole small versions = record { bounded = keeps b (same_at h b whole small) whole.bounded; apart = whole.apart; versions = versions }

    left : (h : List T) (b : ℕ) → before h b → number_of base ≤ length h → WriteStands names decode h b value (number_of base) new.files latest' result
    left h b whole le = written.stands h b whole.versions.files_stand whole.versions.window_fits le

    -- no id follows the greatest
    small : (told : Result ℕ TransactionalObjectError) → result ≡ told → (told ≡ Err kinds.IdExhausted → ⊥) → (h : List T) (b : ℕ) → before h b → number_of base ≤ length h → number_of base + 1 < 2 ^ 64
    small told is other h b whole le =
        let fits = whole.versions.files_stand.fits in
        elim (cases_Bool (nat_lt (number_of base + 1) (2 ^ 64))) [
          | inl lt ↦ ltb-true (number_of base + 1) (2 ^ 64) lt
          | inr ge ↦ let most = ltb-false (number_of base + 1) (2 ^ 64) ge in absurd (other (sym is ∙ written.exhausted (omega (arith, most, le, fits))))
        ]

  module _ (n : ℕ) (written : Written names decode base bytes value old new latest latest' (Ok n)) where
    entered_as : (h : List T) (b : ℕ) → before h b → number_of base ≤ length h → (n ≡ number_of base + 1) × (((number_of base ≡ length h) × after (h ++ value ∷ []) b) ⊎ ((number_of base < length h) × (n ≤ b) × after h b))
    entered_as h b whole le =
        let id = written.ends.leaves.0 in
        let fits = small (Ok n) written (Ok n) refl (λ e. cc) h b whole le in (
          id,
          elim (left (Ok n) written h b whole le) [
            | inl newest ↦ inl (newest.0, now (Ok n) written h (h ++ value ∷ []) b whole fits newest.1)
            | inr fenced ↦ let below = whole.versions.files_stand.below in let up = fenced.0 in inr (omega (arith, up, below), omega (arith, up, id), now (Ok n) written h h b whole fits fenced.1)
          ],
        )

    pub whole-entered : EntryStands before after (base_number (λ n. n) base) value n
    whole-entered = rw (base_is base) (λ h b whole le. entered_as h b whole le)

  module _ (written : Written names decode base bytes value old new latest latest' (Err kinds.ObjectVersionExists)) where
    stored_above : (h : List T) (b : ℕ) → before h b → number_of base ≤ length h → (got : Option Got) → map.get old.files (version_path names (number_of base + 1)) ≡ got → IsSome got → number_of base < length h
    stored_above h b whole le None is some = absurd (cc)
    stored_above h b whole le (Some got) is some =
        let k = whole.versions.files_stand.known (number_of base + 1) got (small (Err kinds.ObjectVersionExists) written (Err kinds.ObjectVersionExists) refl (λ e. cc) h b whole le) is in
        let most = k.1 in omega (arith, most)

    pub whole-overtaken : Overtaken before after (base_number (λ n. n) base)
    whole-overtaken = rw (base_is base) (record {
      newer = λ h b whole le. stored_above h b whole le (map.get old.files (version_path names (number_of base + 1))) refl written.ends.name;
      stands = λ h b whole le. now (Err kinds.ObjectVersionExists) written h h b whole (small (Err kinds.ObjectVersionExists) written (Err kinds.ObjectVersionExists) refl (λ e. cc) h b whole le) (left (Err kinds.ObjectVersionExists) written h b whole le);
    })

  -- an error leaves the history, or the value was appended on the newest
  may : (h : List T) (b : ℕ) (error : TransactionalObjectError) → WriteStands names decode h b value (number_of base) new.files latest' (Err error) → VersionsStand names decode new.files latest' h b ⊎ ((number_of base ≡ length h) × VersionsStand names decode new.files latest' (h ++ value ∷ []) b)
  may h b (kinds.ObjectStoreError errors.Failed) (inl stays) = inl stays
  may h b (kinds.ObjectStoreError errors.Failed) (inr grown) = inr grown
  may h b error stays = inl stays

  module _ (error : TransactionalObjectError) (written : Written names decode base bytes value old new latest latest' (Err error)) where
    -- also where no id is left, since nothing was done then
    at_error : (h : List T) (b : ℕ) → before h b → number_of base ≤ length h → SameAt file old new
    at_error h b whole le =
        elim (cases_Bool (nat_lt (number_of base + 1) (2 ^ 64))) [
          | inl lt ↦ same_at (Err error) written h b whole (ltb-true (number_of base + 1) (2 ^ 64) lt)
          | inr ge ↦
              let most = ltb-false (number_of base + 1) (2 ^ 64) ge in
              let fits = whole.versions.files_stand.fits in
              let none : Err error ≡ Err kinds.IdExhausted = written.exhausted (omega (arith, most, le, fits)) in
              let leaves : WriteLeaves (version_path names (number_of base + 1)) bytes (number_of base + 1) old new latest latest' (Err kinds.IdExhausted) = subst (λ r. WriteLeaves (version_path names (number_of base + 1)) bytes (number_of base + 1) old new latest latest' r) none written.ends.leaves in
              same_at-kept file old new (kept-refl old new leaves.0)
        ]

    whole-after : (h h' : List T) (b : ℕ) → before h b → number_of base ≤ length h → VersionsStand names decode new.files latest' h' b → after h' b
    whole-after h h' b whole le versions =
        record { bounded = keeps b (at_error h b whole le) whole.bounded; apart = whole.apart; versions = versions }

    pub whole-may_append : MayAppend before after (base_number (λ n. n) base) value
    whole-may_append = rw (base_is base) (λ h b whole le. elim (may h b error (left (Err error) written h b whole le)) [
      | inl stays ↦ inl (whole-after h h b whole le stays)
      | inr grown ↦ inr (grown.0, whole-after h (h ++ value ∷ []) b whole le grown.1)
    ])

  -- the same of every answer of a write
  pub whole-answered : (result : Result ℕ TransactionalObjectError) → Written names decode base bytes value old new latest latest' result → IfOk result (λ n. EntryStands before after (base_number (λ n. n) base) value n)
  whole-answered (Ok n) written = whole-entered n written
  whole-answered (Err error) written = tt

  pub whole-conflict : (result : Result ℕ TransactionalObjectError) → Written names decode base bytes value old new latest latest' result → result ≡ Err kinds.ObjectVersionExists → Overtaken before after (base_number (λ n. n) base)
  whole-conflict result written is = whole-overtaken (subst (λ (r : Result ℕ TransactionalObjectError). Written names decode base bytes value old new latest latest' r) is written)

  -- want of an id comes of the greatest base, and moves nothing
  pub whole-full : (result : Result ℕ TransactionalObjectError) → Written names decode base bytes value old new latest latest' result → base_number (λ n. n) base + 1 ≡ 2 ^ 64 → result ≡ Err kinds.IdExhausted
  whole-full result written full = written.exhausted (ap (λ n. n + 1) (sym (base_is base)) ∙ full)

  pub whole-exhausted : (result : Result ℕ TransactionalObjectError) → Written names decode base bytes value old new latest latest' result → result ≡ Err kinds.IdExhausted → (new ≡ old) × Stays before after
  whole-exhausted result written is =
      let told : Written names decode base bytes value old new latest latest' (Err kinds.IdExhausted) = subst (λ (r : Result ℕ TransactionalObjectError). Written names decode base bytes value old new latest latest' r) is written in
      let left = told.ends.leaves in (
        left.0,
        λ h b whole. record {
          bounded = keeps b (same_at-kept file old new (kept-refl old new left.0)) whole.bounded;
          apart = whole.apart;
          versions = rw left.0 (rw left.1 whole.versions);
        },
      )

  pub whole-refused : (result : Result ℕ TransactionalObjectError) → Written names decode base bytes value old new latest latest' result → IfErr result (λ error. MayAppend before after (base_number (λ n. n) base) value)
  whole-refused (Ok n) written = tt
  whole-refused (Err error) written = whole-may_append error written

-- a delete of a version that is fenced, and a call that only reads
module _ {T : Type 0} (names : Names) (decode : List ℕ → Option T) (bounds bounds' : ℕ → Type 0) (file : Segments) (old new : State) (latest latest' : List Cached) (keeps : (b : ℕ) → SameAt file old new → bounds b → bounds' b) where
  pub whole-deleted : (id : ℕ) (result : Result (Unit {0}) TransactionalObjectError) → id < 2 ^ 64 → Deleted names decode id old new latest latest' result → (h : List T) (b : ℕ) → Whole bounds file names decode latest old.files h b → id ≤ b → Whole bounds' file names decode latest' new.files h b
  whole-deleted id result small deleted h b whole le = record {
    bounded = keeps b (record { same = deleted.ends.others file (λ e. whole.apart id small (sym e)); given = deleted.ends.given }) whole.bounded;
    apart = whole.apart;
    versions = record { files_stand = deleted.files_stand h b whole.versions.files_stand le; window_fits = deleted.window_fits h b whole.versions.window_fits };
  }

  pub whole-kept : Kept old new → (h : List T) (b : ℕ) → (WindowFits decode h b latest → WindowFits decode h b latest') → Whole bounds file names decode latest old.files h b → Whole bounds' file names decode latest' new.files h b
  whole-kept kept h b fits whole = record {
    bounded = keeps b (same_at-kept file old new kept) whole.bounded;
    apart = whole.apart;
    versions = record { files_stand = FilesStand-kept names decode h b old new kept whole.versions.files_stand; window_fits = fits whole.versions.window_fits };
  }

  -- the greatest held version is the newest, so no fenced one is answered
  no_versions : (version : Cached) (held : List Cached) → held ≡ [] → greatest_held held ≡ Some version → ⊥
  no_versions version [] e is = cc
  no_versions version (first ∷ versions) e is = cc

  module _ (h : List T) (b : ℕ) (version : Cached) (is : greatest_held latest ≡ Some version) (at : version.id ≡ length h) (stand : FilesStand names decode old.files h b) where
    same_greatest : (from : Cached) → greatest_held latest ≡ Some from → from.id ≡ length h
    same_greatest from same = let one : from ≡ version = same_Some from version (sym same ∙ is) in ap (λ (v : Cached). v.id) one ∙ at

    no_fourth : (from fourth : Cached) → greatest_held latest ≡ Some from → Walked names old.files from 4 fourth → (fourth ≡ from) ⊎ IsStored names old.files fourth → ⊥
    no_fourth from fourth same walked (inl first) =
        let id = walked.id in
        let one : fourth.id ≡ from.id = ap (λ (v : Cached). v.id) first in
        omega (arith, id, one)
    no_fourth from fourth same walked (inr stored) =
        let id = walked.id in
        let top = same_greatest from same in
        let known = (stand.known fourth.id stored.file stored.small stored.is_file).1 in
        omega (arith, id, top, known)

    need_not_list : HasToList names old.files latest → ⊥
    need_not_list (inl empty) = no_versions version latest empty is
    need_not_list (inr (from, same, (fourth, walked))) = no_fourth from fourth same walked walked.is

    unfenced : (spent calls id : ℕ) (value : T) → IsProbed names decode old.files latest spent calls id value ⊎ IsListed names decode old.files latest spent calls id value → length h ≤ id
    unfenced spent calls id value (inl probed) =
        let top = same_greatest probed.from probed.greatest in
        let walked = probed.walked.id in
        let last = probed.id_is in
        omega (arith, top, walked, last)
    unfenced spent calls id value (inr listed) = absurd (need_not_list listed.lists)

    probed_unspent : (spent calls id : ℕ) (value : T) → IsProbed names decode old.files latest spent calls id value ⊎ IsListed names decode old.files latest spent calls id value → spent ≡ 0
    probed_unspent spent calls id value (inl probed) = probed.unspent
    probed_unspent spent calls id value (inr listed) = absurd (need_not_list listed.lists)

    newest_of : (spent calls : ℕ) (read : ℕ × T) → 0 < length h → IsProbed names decode old.files latest spent calls read.0 read.1 ⊎ IsListed names decode old.files latest spent calls read.0 read.1 → IsLatest h read.0 read.1 ⊎ ((latest ≡ [] → ⊥) × (read.0 ≤ b) × UpTo read.0 latest') → IsLatest h read.0 read.1
    newest_of spent calls read some found (inl newest) = newest
    newest_of spent calls read some found (inr fenced) =
        let above = stand.newest some in
        let up = unfenced spent calls read.0 read.1 found in
        let low = fenced.1 in
        absurd (omega (arith, above, up, low))

  -- it looked once for a successor of that id, where one may follow
  probed_calls : (id : ℕ) → ((id + 1 ≡ 2 ^ 64) × (new.calls ≡ old.calls)) ⊎ ((id + 1 < 2 ^ 64) × (new.calls ≡ old.calls + 1)) → new.calls ≡ old.calls + probe_calls id
  probed_calls id (inl none) = let same = none.1 in rw (eq-eqb (id + 1) (2 ^ 64) none.0) (omega (arith, same))
  probed_calls id (inr one) = let small = one.0 in let more = one.1 in rw (ne_eqb (id + 1) (2 ^ 64) (λ same. omega (arith, small, same))) more

  few_calls : (page : ℕ) (turns turns' : ℕ) (calls : ℕ) (result : Result (Option (ℕ × T)) TransactionalObjectError) → Ended names page decode old new turns turns' latest latest' result → new.calls ≡ old.calls + calls → Spends calls 0 old new
  few_calls page turns turns' calls result ended made =
      let spends = ended.spends in
      record { calls_rise = spends.calls_rise; calls_most = omega (arith, made); failures_rise = spends.failures_rise; left_falls = spends.left_falls; left_least = spends.left_least }

  -- a read of the newest version
  pub whole-found : (page : ℕ) (turns turns' : ℕ) (result : Result (Option (ℕ × T)) TransactionalObjectError) → Ended names page decode old new turns turns' latest latest' result
      → IfOk result (λ read. (h : List T) (b : ℕ) → Whole bounds file names decode latest old.files h b → LatestOrFenced h b (latest ≡ []) (λ id. UpTo id latest') read)
  whole-found page turns turns' (Ok None) ended = λ h b whole. (ended.stands h b whole.versions.files_stand whole.versions.window_fits).answer.0
  whole-found page turns turns' (Ok (Some read)) ended = λ h b whole. (ended.stands h b whole.versions.files_stand whole.versions.window_fits).answer
  whole-found page turns turns' (Err error) ended = tt

  pub whole-read : (page : ℕ) (turns turns' : ℕ) (result : Result (Option (ℕ × T)) TransactionalObjectError) → Ended names page decode old new turns turns' latest latest' result
      → (h : List T) (b : ℕ) → Whole bounds file names decode latest old.files h b → Whole bounds' file names decode latest' new.files h b
  whole-read page turns turns' result ended h b whole = whole-kept ended.kept h b (λ fits. (ended.stands h b whole.versions.files_stand fits).window) whole

  pub whole-warm : (page : ℕ) (turns turns' : ℕ) (result : Result (Option (ℕ × T)) TransactionalObjectError) → Ended names page decode old new turns turns' latest latest' result
      → (h : List T) (b : ℕ) → Whole bounds file names decode latest old.files h b → IsGreatestHeld latest (length h) → 0 < length h → IsWarmRead (probe_calls (length h)) 0 (λ n. n) h turns turns' old new result
  whole-warm page turns turns' (Ok None) ended h b whole (version, is, at) some =
      let stands = ended.stands h b whole.versions.files_stand whole.versions.window_fits in
      absurd (no_versions version latest stands.answer.1 is)
  whole-warm page turns turns' (Ok (Some read)) ended h b whole (version, is, at) some =
      let stands = ended.stands h b whole.versions.files_stand whole.versions.window_fits in
      let made : new.calls ≡ old.calls + probe_calls (length h) = subst (λ n. new.calls ≡ old.calls + probe_calls n) at (probed_calls version.id (stands.at_newest version is at)) in
      (newest_of h b version is at whole.versions.files_stand ended.spent ended.calls read some ended.answer.0 stands.answer, few_calls page turns turns' (probe_calls (length h)) (Ok (Some read)) ended made, made, (let none = probed_unspent h b version is at whole.versions.files_stand ended.spent ended.calls read.0 read.1 ended.answer.0 in let all = ended.spent_is in omega (arith, none, all)))
  whole-warm page turns turns' (Err error) ended h b whole warm some = tt

  -- a read of a version that was perhaps seen
  pub whole-seen : (id : ℕ) (result : Result (Option T) TransactionalObjectError) → SeenRead names decode old new latest latest' id result → IfOk result (λ answer. (h : List T) (b : ℕ) → Whole bounds file names decode latest old.files h b → IsEntry h b id answer)
  whole-seen id (Ok answer) read = λ h b whole. (read.stands h b whole.versions.files_stand whole.versions.window_fits).2
  whole-seen id (Err error) read = tt

  pub whole-seen_kept : (id : ℕ) (result : Result (Option T) TransactionalObjectError) → SeenRead names decode old new latest latest' id result → (h : List T) (b : ℕ) → Whole bounds file names decode latest old.files h b → Whole bounds' file names decode latest' new.files h b
  whole-seen_kept id result read h b whole = whole-kept read.kept h b (λ fits. (read.stands h b whole.versions.files_stand fits).1) whole

-- whatever stands decodes
module _ {T : Type 0} (names : Names) (decode : List ℕ → Option T) (old : State) (h : List T) (b : ℕ) (stand : FilesStand names decode old.files h b) where
  decodes_not : (answer : Option T) → IsSome answer → answer ≡ None → ⊥
  decodes_not None some none = cc
  decodes_not (Some value) some none = cc

  stored_decodes : (id : ℕ) → id < 2 ^ 64 → AreRefused names decode old.files id → ⊥
  stored_decodes id fits (got, is_file, refused) = decodes_not (decode got.bytes) (stand.known id got fits is_file).2 refused

  none_refused : (latest : List Cached) → WindowFits decode h b latest → IsRefused names decode old.files latest → ⊥
  none_refused latest fits (version, inl held, refused) = decodes_not (decode version.bytes) (every_one (Carried decode h b) latest version (every_carried decode h b latest fits) held).decodes refused
  none_refused latest fits (version, inr stored, refused) = decodes_not (decode version.bytes) (stored_carried names decode old.files h b stand version stored).decodes refused

-- why reads of a protocol failed
module _ {T : Type 0} (names : Names) (decode : List ℕ → Option T) (bounds : ℕ → Type 0) (file : Segments) (old new : State) (latest : List Cached) where
  abbrev stood : List T → ℕ → Type 0
  stood h b = Whole bounds file names decode latest old.files h b

  unheld : IsRefused names decode old.files latest → Unheld stood
  unheld refused h b whole = none_refused names decode old h b whole.versions.files_stand latest whole.versions.window_fits refused

  latest_by : (left : ℕ) (error : TransactionalObjectError) → HasCauseOfRead left old new error → (error_number error ≡ 8 → IsRefused names decode old.files latest) → HasCauseOfLatestUnchecked (Unheld stood) left old new error
  latest_by left kinds.TurnsExhausted cause refused = cause
  latest_by left (kinds.CallbackError error) cause refused = unheld (refused refl)
  latest_by left (kinds.ObjectStoreError error) cause refused = cause
  latest_by left kinds.NoMemory cause refused = cause
  latest_by left error cause refused = absurd cause

  version_by : (error : TransactionalObjectError) → HasCauseOfGet old new error → (error_number error ≡ 8 → Unheld stood) → HasCauseOfVersion (Unheld stood) old new error
  version_by (kinds.CallbackError error) cause refused = refused refl
  version_by (kinds.ObjectStoreError error) cause refused = cause
  version_by kinds.NoMemory cause refused = cause
  version_by error cause refused = absurd cause

  pub whole-latest_cause : (page : ℕ) (turns turns' : ℕ) (latest' : List Cached) (result : Result (Option (ℕ × T)) TransactionalObjectError) → Ended names page decode old new turns turns' latest latest' result → IfErr result (HasCauseOfLatestUnchecked (Unheld stood) turns' old new)
  whole-latest_cause page turns turns' latest' (Ok read) ended = tt
  whole-latest_cause page turns turns' latest' (Err error) ended = latest_by turns' error ended.cause ended.refused

  pub whole-version_cause : (id : ℕ) (result : Result (Option T) TransactionalObjectError) → id < 2 ^ 64 → VersionRead names decode old new id result → IfErr result (HasCauseOfVersion (Unheld stood) old new)
  whole-version_cause id (Ok answer) small read = tt
  whole-version_cause id (Err error) small read = version_by error read.cause (λ is h b whole. stored_decodes names decode old h b whole.versions.files_stand id small (read.refused is))

  pub whole-seen_cause : (id : ℕ) (latest' : List Cached) (result : Result (Option T) TransactionalObjectError) → SeenRead names decode old new latest latest' id result → IfErr result (HasCauseOfVersion (Unheld stood) old new)
  whole-seen_cause id latest' (Ok answer) read = tt
  whole-seen_cause id latest' (Err error) read = version_by error read.cause (λ is. unheld (read.refused is))

-- where a delete is done no file stands under the version's name
pub whole-removed : {T : Type 0} (names : Names) (decode : List ℕ → Option T) (id : ℕ) (old new : State) (latest latest' : List Cached) (result : Result (Unit {0}) TransactionalObjectError) → Deleted names decode id old new latest latest' result → OnOk result (IsMissing names new.files id)
whole-removed names decode id old new latest latest' (Ok done) deleted = ap (λ files. map.get files (version_path names id)) deleted.ends.leaves.0.files ∙ get-remove_same old.files (version_path names id)
whole-removed names decode id old new latest latest' (Err error) deleted = tt

-- a read of one version
pub whole-version : {T : Type 0} (names : Names) (decode : List ℕ → Option T) (bounds : ℕ → Type 0) (file : Segments) (old new : State) (latest : List Cached) (id : ℕ) (result : Result (Option T) TransactionalObjectError) → VersionRead names decode old new id result → IfOk result (λ answer. (h : List T) (b : ℕ) → Whole bounds file names decode latest old.files h b → IsEntry h b id answer)
whole-version names decode bounds file old new latest id (Ok answer) read = λ h b whole. (read.stands h b whole.versions.files_stand).1
whole-version names decode bounds file old new latest id (Err error) read = tt

-- none is read where no file stands
pub version-absent : {T : Type 0} (names : Names) (decode : List ℕ → Option T) (old new : State) (id : ℕ) (result : Result (Option T) TransactionalObjectError) → VersionRead names decode old new id result → IsMissing names old.files id → IfOk result (λ answer. answer ≡ None)
version-absent names decode old new id (Ok None) read missing = refl
version-absent names decode old new id (Ok (Some value)) read missing = let none : None ≡ Some read.value.0 = sym missing ∙ read.value.1 in absurd (cc)
version-absent names decode old new id (Err error) read missing = tt

-- what a listing answers
pub whole-listed : {T : Type 0} (names : Names) (page : ℕ) (decode : List ℕ → Option T) (from to : Bound ℕ) (old new : State) (bounds : ℕ → Type 0) (file : Segments) (latest : List Cached) (found : List Listed) → VersionsListed names page decode from to old new (Ok found)
    → (h : List T) (b : ℕ) → Whole bounds file names decode latest old.files h b → AreListed h b from to (ids_of found)
whole-listed names page decode from to old new bounds file latest found listed h b whole =
    let ids = listed.stands h b whole.versions.files_stand in
    record {
      ascend = listed.stored.ascend;
      within = λ n among. let k = ids.known n among in (k.0, k.1, (listed.stored.stored n among).1);
      every = ids.there;
    }

-- the turns of a read, by its pages
module _ {T : Type 0} (names : Names) (page : ℕ) (decode : List ℕ → Option T) (old new : State) (turns turns' : ℕ) (first latest : List Cached) (room : 1 ≤ page) (result : Result (Option (ℕ × T)) TransactionalObjectError) (ended : Ended names page decode old new turns turns' first latest result) where
  pub turns_few : turns + 1 ≤ turns' + pages_below names page old.files
  turns_few = let less = ended.pages (pages_below names page old.files) (has_pages names page old.files room) in omega (arith, less)

  pub turns_enough : pages_below names page old.files ≤ turns + 1 → result ≡ Err kinds.TurnsExhausted → ⊥
  turns_enough enough is = ended.enough (pages_below names page old.files) (has_pages names page old.files room) enough is
