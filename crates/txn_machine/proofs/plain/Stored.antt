-- What the file of a version tells, and its absence.
use Rattle.std.proofs.Common.{◌≡◌, ℕ, ◌<◌, ◌≤◌, ◌^◌, List, true, is_some, Option, Some, None, inl, inr, refl, sym, ◌∙◌, ap, arith}
use Rattle.std.specs.Option.{option_map}
use Rattle.std.specs.FinMap.{get}
use Rattle.std.proofs.lemmas.Bool.{cases_lt}
use Rattle.std.proofs.lemmas.Option.{same_Some}
use Rattle.txn_store.specs.VersionName.{version_path}
use Rattle.txn_store.specs.Store.{State as StoreState}
use Rattle.txn_store.specs.declared.store.Got.{Got}
use Rattle.txn_steps.specs.declared.boundary.caches.Cached.{Cached}
use Rattle.txn_history.specs.Trace.{PlainRow}
use Rattle.txn_history.specs.Lists.{numbered}
use Rattle.txn_history.specs.Names.{world_names}
use Rattle.txn_history.specs.History.{Version, newest, boundary, versions_of, IsEntry}
use Rattle.txn_history.proofs.Rows.{entry_at}
use Rattle.txn_machine.proofs.plain.Lists.{numbered_there}
use Rattle.txn_machine.proofs.plain.Effects.{there_bytes}
use Rattle.txn_machine.proofs.plain.Stands.{KnowStands, Open, Carried, file_at, is_there, bytes_at}

-- bytes of a version
bytes_of : (versions : List Version) (n : ℕ) (bytes : List ℕ) → bytes_at versions n ≡ Some bytes → (version : Version) × (numbered versions n ≡ Some version) × (version.1 ≡ bytes)
bytes_of versions n bytes e = from (numbered versions n) refl e
  where
    from : (found : Option Version) → numbered versions n ≡ found → option_map (λ (v : Version). v.1) found ≡ Some bytes → (version : Version) × (numbered versions n ≡ Some version) × (version.1 ≡ bytes)
    from None is e = cc
    from (Some version) is e = (version, is, same_Some version.1 bytes e)

module _ {T : Type 0} (decode : List ℕ → Option T) where
  -- a carried version's value is its entry's, above the boundary
  pub carried_entry : (rows : List (PlainRow T)) (version : Cached) (value : T) → Carried decode rows version → decode version.bytes ≡ Some value → Open rows version.id (IsEntry decode rows version.id value)
  carried_entry rows version value c reads =
      elim c.is [
        | inl below ↦ inl below
        | inr own ↦ (let v = bytes_of (versions_of rows) version.id version.bytes own in inr (entry_at decode rows version.id v.0 value v.1 (ap decode v.2 ∙ reads)))
      ]

module _ {T : Type 0} (decode : List ℕ → Option T) (get_epoch : T → ℕ) where
  -- a version above the boundary is there
  pub there_above : (failed : List ℕ) (rows : List (PlainRow T)) (store : StoreState) → KnowStands decode get_epoch failed rows store → (n : ℕ) → boundary rows < n → n ≤ newest rows → is_there store.files n ≡ true
  there_above failed rows store k n above le =
      let v = numbered_there (versions_of rows) n (omega (arith, above)) le in
      there_bytes store.files n ∙ ap is_some (k.files.there n above le ∙ ap (option_map (λ (version : Version). version.1)) v.1)

module _ {T : Type 0} (decode : List ℕ → Option T) (get_epoch : T → ℕ) (failed : List ℕ) (rows : List (PlainRow T)) (store : StoreState) (k : KnowStands decode get_epoch failed rows store) where
  -- a version that is stored is carried
  pub carried_stored : (id : ℕ) (got : Got) → id < 2 ^ 64 → get store.files (version_path world_names id) ≡ Some got → Carried decode rows (record { id = id; bytes = got.bytes })
  carried_stored id got fits e =
      let file : file_at store.files id ≡ Some got.bytes = ap (option_map (λ (g : Got). g.bytes)) e in
      let known = k.files.within id fits (ap is_some e) in
      let value = k.files.decodes id got.bytes fits file in
      record {
        known = known;
        value = value.0;
        reads = value.1;
        is = elim (cases_lt (boundary rows) id) [ inl above ↦ inr (sym (k.files.there id above known.1) ∙ file) | inr below ↦ inl below ];
      }

  -- one that is not stored is at or below the boundary, or above the newest
  pub none_stored : (id : ℕ) → get store.files (version_path world_names id) ≡ None → Open rows id (newest rows < id)
  none_stored id e =
      elim (cases_lt (boundary rows) id) [
        | inr below ↦ inl below
        | inl above ↦ elim (cases_lt (newest rows) id) [
          | inl over ↦ inr over
          | inr most ↦
              let v = numbered_there (versions_of rows) id (omega (arith, above)) most in
              let file : file_at store.files id ≡ None = ap (option_map (λ (g : Got). g.bytes)) e in
              let there = k.files.there id above most in
              let bytes = ap (option_map (λ (version : Version). version.1)) v.1 in
              absurd (let clash = sym file ∙ (there ∙ bytes) in cc)
        ]
      ]
