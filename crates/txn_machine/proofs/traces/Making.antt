-- The entries that the rows so far make.
use Rattle.std.proofs.Common.{◌≡◌, ◌≢◌, ℕ, suc, ◌+◌, ◌<◌, ◌==◌, List, [], ◌∷◌, ◌++◌, length, take, map, get_or, Bool, true, false, cond, Option, Some, None, ◌⊎◌, inl, inr, refl, sym, ◌∙◌, ap, subst, arith}
use Rattle.std.proofs.lemmas.List.{take_more, map-append, length-map, length-append, append-nil}
use Rattle.std.proofs.lemmas.Bool.{both_ways, ne_eqb, eq-eqb}
use Rattle.std.proofs.lemmas.Option.{same_Some}
use Rattle.anyhow.specs.declared.error.Error.{Error}
use Rattle.txn_store.specs.declared.types.codec.CodecFault.{CodecFault}
use Rattle.txn_store.specs.declared.types.codec.CodecFault.TheVariants.{Refused}
use Rattle.txn_store.specs.types.Refusal.{OnRefused}
use Rattle.txn_history.specs.Trace.{Row}
use Rattle.txn_history.specs.Lists.{numbered}
use Rattle.txn_history.specs.History.{Version, bytes_as, created_by, has_id, with_version, versions_of, newest, history}
use Rattle.txn_history.specs.OneHistory.{IsOneHistory}
use Rattle.txn_history.proofs.Lists.{numbered_last}
use Rattle.txn_history.proofs.Rows.{versions_of-more}
use Rattle.txn_history.proofs.Entries.{Front, fronts_of}
use Rattle.txn_history.proofs.Legal.{are_moves}
use Rattle.txn_machine.proofs.plain.Effects.{lacks_counted}

module _ {T : Type 0} (decode : List ℕ → Option T) where
  abbrev read_all : List Version → List (Option T)
  read_all versions = map (λ (v : Version). decode v.1) versions

  -- what a row makes of the versions: it creates the next, whose bytes are read, and adds it, or another, and adds nothing
  abbrev PutsNext : List Version → Version → List Version → Type 0
  PutsNext versions version more =
      ((version.0 ≡ length versions + 1) × (more ≡ versions ++ version ∷ []) × ((value : T) × (decode version.1 ≡ Some value)))
      ⊎ ((version.0 ≢ length versions + 1) × (more ≡ versions))

  abbrev MakesOf : List Version → Option Version → List Version → Type 0
  MakesOf versions None more = more ≡ versions
  MakesOf versions (Some version) more = PutsNext versions version more

module _ {T : Type 0} (decode : List ℕ → Option T) (get_epoch : T → ℕ) where
  last_read : (versions : List Version) (version : Version) (value : T) → numbered (read_all decode (versions ++ version ∷ [])) (length versions + 1) ≡ Some (Some value) → decode version.1 ≡ Some value
  last_read versions version value e =
      let at : numbered (read_all decode versions ++ decode version.1 ∷ []) (suc (length (read_all decode versions))) ≡ Some (decode version.1) = numbered_last (read_all decode versions) (decode version.1) in
      let len : suc (length (read_all decode versions)) ≡ length versions + 1 = omega (arith, length-map versions (λ (v : Version). decode v.1)) in
      let there : numbered (read_all decode versions ++ decode version.1 ∷ []) (length versions + 1) ≡ Some (decode version.1) = subst (λ (n : ℕ). numbered (read_all decode versions ++ decode version.1 ∷ []) n ≡ Some (decode version.1)) len at in
      let split : read_all decode (versions ++ version ∷ []) ≡ read_all decode versions ++ decode version.1 ∷ [] = map-append (λ (v : Version). decode v.1) versions (version ∷ []) in
      same_Some (decode version.1) (Some value) (sym there ∙ (ap (λ (os : List (Option T)). numbered os (length versions + 1)) (sym split) ∙ e))

  put_next : (versions : List Version) (version : Version) (b : Bool) → has_id versions version.0 ≡ b → Front decode get_epoch versions → Front decode get_epoch (cond b versions (versions ++ version ∷ [])) → PutsNext decode versions version (cond b versions (versions ++ version ∷ []))
  put_next versions version true has f g =
      inr ((λ e. both_ways (has_id versions version.0) (lacks_counted 0 versions version.0 (λ k v is. omega (arith, f.counted k v is)) (omega (arith, e))) has), refl)
  put_next versions version false lacks f g =
      let last : numbered (versions ++ version ∷ []) (suc (length versions)) ≡ Some version = numbered_last versions version in
      let r = g.reads (length versions + 1) (omega arith) (omega (arith, length-append versions (version ∷ []))) in
      inl (g.counted (length versions) version last, refl, (r.0, last_read versions version r.0 r.1))

  makes_of : (versions : List Version) (found : Option Version) → Front decode get_epoch versions → Front decode get_epoch (with_version versions found) → MakesOf decode versions found (with_version versions found)
  makes_of versions None f g = refl
  makes_of versions (Some version) f g = put_next versions version (has_id versions version.0) refl f g

module _ {T : Type 0} (decode : List ℕ → Option T) where
  -- the entry that a row makes

  abbrev made : Option (List ℕ) → List (Option T)
  made None = []
  made (Some bytes) = decode bytes ∷ []

  makes_made : (versions : List Version) (found : Option Version) (more : List Version) → MakesOf decode versions found more → read_all decode more ≡ read_all decode versions ++ made (bytes_as (length versions + 1) found)
  makes_made versions None more m = ap (read_all decode) m ∙ sym (append-nil (read_all decode versions))
  makes_made versions (Some version) more (inl m) =
      let next : (version.0 == length versions + 1) ≡ true = eq-eqb version.0 (length versions + 1) m.0 in
      rw next (ap (read_all decode) m.1 ∙ map-append (λ (v : Version). decode v.1) versions (version ∷ []))
  makes_made versions (Some version) more (inr m) =
      let next : (version.0 == length versions + 1) ≡ false = ne_eqb version.0 (length versions + 1) m.0 in
      rw next (ap (read_all decode) m.1 ∙ sym (append-nil (read_all decode versions)))

  makes_reads : (versions : List Version) (found : Option Version) (more : List Version) (bytes : List ℕ) → MakesOf decode versions found more → Some bytes ≡ bytes_as (length versions + 1) found → (value : T) × (decode bytes ≡ Some value)
  makes_reads versions None more bytes m e = cc
  makes_reads versions (Some version) more bytes (inl m) e =
      let next : (version.0 == length versions + 1) ≡ true = eq-eqb version.0 (length versions + 1) m.0 in
      let same : bytes ≡ version.1 = same_Some bytes version.1 (e ∙ ap (λ (b : Bool). cond b (Some version.1) None) next) in
      (m.2.0, ap decode same ∙ m.2.1)
  makes_reads versions (Some version) more bytes (inr m) e =
      let next : (version.0 == length versions + 1) ≡ false = ne_eqb version.0 (length versions + 1) m.0 in
      let clash : Some bytes ≡ None = e ∙ ap (λ (b : Bool). cond b (Some version.1) None) next in
      cc

  -- so many entries so far
  pub entries_count : (rows : List (Row T)) (k : ℕ) (entries : List T) → map Some entries ≡ history decode (take k rows) → length entries ≡ newest (take k rows)
  entries_count rows k entries so_far = sym (length-map entries Some) ∙ (ap (λ (os : List (Option T)). length os) so_far ∙ length-map (versions_of (take k rows)) (λ (v : Version). decode v.1))

module _ {T : Type 0} (decode : List ℕ → Option T) (get_epoch : T → ℕ) (set_epoch : T → ℕ → T) (failed : List ℕ) where
  row_makes : (rows : List (Row T)) (k : ℕ) (row : Row T) → IsOneHistory decode get_epoch set_epoch failed rows → k < length rows → row ≡ get_or rows k row → MakesOf decode (versions_of (take k rows)) (created_by row) (versions_of (take (k + 1) rows))
  row_makes rows k row good lt is =
      let longer : take (k + 1) rows ≡ take k rows ++ row ∷ [] = take_more rows k row lt ∙ ap (λ (r : Row T). take k rows ++ r ∷ []) (sym is) in
      let more : versions_of (take (k + 1) rows) ≡ with_version (versions_of (take k rows)) (created_by row) = ap (λ (front : List (Row T)). versions_of front) longer ∙ versions_of-more (take k rows) row in
      let after = subst (λ (vs : List Version). Front decode get_epoch vs) more (fronts_of decode get_epoch rows (are_moves decode get_epoch set_epoch failed rows good) (k + 1)) in
      subst (λ (vs : List Version). MakesOf decode (versions_of (take k rows)) (created_by row) vs) (sym more) (makes_of decode get_epoch (versions_of (take k rows)) (created_by row) (fronts_of decode get_epoch rows (are_moves decode get_epoch set_epoch failed rows good) k) after)

  history_more : (rows : List (Row T)) (k : ℕ) (row : Row T) → IsOneHistory decode get_epoch set_epoch failed rows → k < length rows → row ≡ get_or rows k row → history decode (take (k + 1) rows) ≡ history decode (take k rows) ++ made decode (bytes_as (newest (take k rows) + 1) (created_by row))
  history_more rows k row good lt is = makes_made decode (versions_of (take k rows)) (created_by row) (versions_of (take (k + 1) rows)) (row_makes rows k row good lt is)

  -- what was written is read
  pub never_refused : (rows : List (Row T)) (k : ℕ) (row : Row T) (bytes : List ℕ) (entries : List T) (next : ℕ) → IsOneHistory decode get_epoch set_epoch failed rows → k < length rows → row ≡ get_or rows k row → map Some entries ≡ history decode (take k rows) → next ≡ length entries + 1 →
      Some bytes ≡ bytes_as next (created_by row) → decode bytes ≡ None → ⊥
  never_refused rows k row bytes entries next good lt is so_far n e none =
      let at : next ≡ newest (take k rows) + 1 = n ∙ ap (λ m. m + 1) (entries_count decode rows k entries so_far) in
      let reads = makes_reads decode (versions_of (take k rows)) (created_by row) (versions_of (take (k + 1) rows)) bytes (row_makes rows k row good lt is) (e ∙ ap (λ m. bytes_as m (created_by row)) at) in
      let clash = sym none ∙ reads.1 in
      cc

  -- one more entry
  pub one_entry : (rows : List (Row T)) (k : ℕ) (row : Row T) (bytes : List ℕ) (entries more : List T) (value : T) (next : ℕ) → IsOneHistory decode get_epoch set_epoch failed rows → k < length rows → row ≡ get_or rows k row → next ≡ length entries + 1 → Some bytes ≡ bytes_as next (created_by row) → decode bytes ≡ Some value →
      map Some entries ≡ history decode (take k rows) → more ≡ entries ++ value ∷ [] → map Some more ≡ history decode (take (k + 1) rows)
  one_entry rows k row bytes entries more value next good lt is n e reads so_far pushed =
      let at : next ≡ newest (take k rows) + 1 = n ∙ ap (λ m. m + 1) (entries_count decode rows k entries so_far) in
      let found : Some bytes ≡ bytes_as (newest (take k rows) + 1) (created_by row) = e ∙ ap (λ m. bytes_as m (created_by row)) at in
      ap (λ (es : List T). map Some es) pushed ∙ (map-append Some entries (value ∷ []) ∙ (ap (λ (os : List (Option T)). os ++ Some value ∷ []) so_far
      ∙ sym (history_more rows k row good lt is ∙ (ap (λ (o : Option (List ℕ)). history decode (take k rows) ++ made decode o) (sym found) ∙ ap (λ (o : Option T). history decode (take k rows) ++ o ∷ []) reads))))

  -- no more entry
  pub no_entry : (rows : List (Row T)) (k : ℕ) (row : Row T) (entries : List T) (next : ℕ) → IsOneHistory decode get_epoch set_epoch failed rows → k < length rows → row ≡ get_or rows k row → next ≡ length entries + 1 → None ≡ bytes_as next (created_by row) →
      map Some entries ≡ history decode (take k rows) → map Some entries ≡ history decode (take (k + 1) rows)
  no_entry rows k row entries next good lt is n e so_far =
      let at : next ≡ newest (take k rows) + 1 = n ∙ ap (λ m. m + 1) (entries_count decode rows k entries so_far) in
      let none : None ≡ bytes_as (newest (take k rows) + 1) (created_by row) = e ∙ ap (λ m. bytes_as m (created_by row)) at in
      so_far ∙ sym (history_more rows k row good lt is ∙ (ap (λ (o : Option (List ℕ)). history decode (take k rows) ++ made decode o) (sym none) ∙ append-nil (history decode (take k rows))))

-- a refusal is of bytes that are not read
pub on_refused : (P : Type 0) (fault : CodecFault) (error : Error) → fault ≡ Refused error → OnRefused P fault → P
on_refused P fault error e h = subst (OnRefused P) e h
