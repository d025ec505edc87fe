-- Rows that tell a store and a holder go on with an update of the holder: it begins, its version is the next, and it is answered.
use Rattle.std.proofs.Common.{◌≡◌, ◌≢◌, ℕ, zero, suc, ◌+◌, ◌<◌, ◌^◌, List, [], ◌∷◌, ◌++◌, length, nat_lt, true, false, Option, Some, None, is_some, ◌⊎◌, inl, inr, refl, sym, ◌∙◌, ap, subst, arith}
use Rattle.std.proofs.lemmas.Bool.{eq-eqb, ne_eqb, lt-ltb}
use Rattle.std.proofs.lemmas.Option.{same_Some}
use Rattle.txn_store.specs.declared.store.PutMode.TheVariants as modes
use Rattle.txn_store.specs.declared.request.Request.TheVariants as requests
use Rattle.txn_store.specs.VersionName.{Names, version_path}
use Rattle.txn_store.specs.Store.{Files}
use Rattle.txn_store.specs.types.Numbers.{number_of}
use Rattle.txn_history.specs.declared.trace.RowOf.TheVariants.{Effect, Begun, Answered}
use Rattle.txn_history.specs.declared.event.ViewCall.TheVariants as view_calls
use Rattle.txn_history.specs.declared.event.Call.{Call}
use Rattle.txn_history.specs.declared.event.Call.TheVariants as any
use Rattle.txn_history.specs.declared.event.Answer.TheVariants as answers
use Rattle.txn_history.specs.Names.{world_names}
use Rattle.txn_history.specs.History.{has_id, versions_of, newest, IsEntry, epoch_at}
use Rattle.txn_history.specs.Calls.{was_begun, begun_count, tells}
use Rattle.txn_history.specs.Facts.{base_on, Entered}
use Rattle.txn_history.specs.Effects.{Appends}
use Rattle.txn_history.specs.Trace.{Row}
use Rattle.txn_history.specs.Views.{id_shown, view_at, View}
use Rattle.txn_history.specs.OneHistory.{agree, base_now, base_by, has_shown_view, WritesOn, MayAppend, Opens, Answers}
use Rattle.txn_history.proofs.Apart.{created_is}
use Rattle.txn_history.proofs.Begins.{stood_told}
use Rattle.txn_history.proofs.Holders.{last_more}
use Rattle.txn_history.proofs.Lists.{get_last, any_last}
use Rattle.txn_machine.proofs.views.History.{whole_front, front_before, entry_within, epoch_is, top_epoch, entered_now}
use Rattle.txn_machine.proofs.views.Frames.{held_more, entry_kept}
use Rattle.txn_machine.proofs.views.Opens.{before_now}
use Rattle.txn_manifest.specs.declared.manifest.Manifest.{Manifest}
use Rattle.txn_manifest.specs.Manifest.{is_pinned, epoch_of, with_epoch}
use Rattle.txn_manifest.specs.Tells.{bytes_of, Tells, TellsHolder, GoesOn}
use Rattle.txn_manifest.proofs.Taking.{made_from}
use Rattle.txn_manifest.proofs.Growing.{goes_nowhere, goes_more, goes_quiet, Pending, effect_pending, unbegun, begin_pending, told_length, begun_told, answer_told, told_new, version_told, holder_more}

base_some : (n : ℕ) → 0 < n → Some n ≡ base_on n
base_some zero p = absurd (omega (arith, p))
base_some (suc n) p = refl

module _ (decode : List ℕ → Option Manifest) where
  -- the view of a holder
  abbrev pub view_of : (rows : List (Row Manifest)) (number id epoch : ℕ) (object : Manifest) → TellsHolder decode rows number id epoch object → View Manifest
  view_of rows number id epoch object w = record { client = w.client; id = id; object = object; epoch = Some epoch }

  -- a holder was shown, and is one
  pub holder_shown : (rows : List (Row Manifest)) (number id epoch : ℕ) (object : Manifest) → TellsHolder decode rows number id epoch object → has_shown_view rows (Some number) true ≡ true
  holder_shown rows number id epoch object w = rw w.fits.last (subst (λ (o : Option ℕ). agree true (is_some o) ≡ true) w.fits.epoch refl)

  -- a holder whose version has its epoch stands where it was last shown
  pub stands_shown : (rows : List (Row Manifest)) (number id epoch : ℕ) (object : Manifest) → TellsHolder decode rows number id epoch object → object.epoch ≡ epoch → view_at rows number ≡ Some id
  stands_shown rows number id epoch object w own =
      elim w.fits.stands [
        | inl same ↦ w.fits.last ∙ ap Some (sym same)
        | inr up ↦ absurd (let held : epoch ≡ up.1.epoch = same_Some epoch up.1.epoch up.1.holder in let greater = up.1.greater in omega (arith, own, held, greater))
      ]

  -- a version that an operation created, where its name was new
  pub entered_last : (rows : List (Row Manifest)) (op id : ℕ) (bytes : List ℕ) (value : Manifest) → id < 2 ^ 64 → was_begun rows op ≡ true → has_id (versions_of rows) id ≡ false → decode bytes ≡ Some value → Entered decode (rows ++ Effect op (requests.Put (version_path world_names id) bytes modes.Create) ∷ []) op id value
  entered_last rows op id bytes value small begun lacks reads =
      let row : Row Manifest = Effect op (requests.Put (version_path world_names id) bytes modes.Create) in
      let front = front_before rows row (length rows) (omega arith) ∙ whole_front rows in
      record {
        create = record {
          place = length rows;
          request = requests.Put (version_path world_names id) bytes modes.Create;
          bytes = bytes;
          effect = get_last rows row;
          creates = created_is id bytes modes.Create small;
          begun = subst (λ (rs : List (Row Manifest)). was_begun rs op ≡ true) (sym front) begun;
        };
        first = subst (λ (rs : List (Row Manifest)). has_id (versions_of rs) id ≡ false) (sym front) lacks;
        reads = reads;
      }

  -- a holder after an answer that shows it at an entry of its epoch
  pub holder_answered : (rows : List (Row Manifest)) (op number id id' epoch : ℕ) (object value : Manifest) → TellsHolder decode rows number id epoch object → IsEntry decode rows id' value → TellsHolder decode (rows ++ Answered op (answers.View number id' value) ∷ []) number id' epoch value
  holder_answered rows op number id id' epoch object value w entry =
      let row : Row Manifest = Answered op (answers.View number id' value) in
      record {
        client = w.client;
        fits = record {
          object = entry_kept decode epoch_of with_epoch rows row id' value entry;
          shown = id';
          last = last_more (id_shown number) None rows row ∙ rw (eq-eqb number number refl) refl;
          stands = inl refl;
          epoch = sym (held_more rows row number epoch (sym w.fits.epoch));
        };
        told = λ n below. any_last (tells (nat_lt n)) rows row (lt-ltb n id' below);
      }

  -- what an update of a holder is made over
  pub record Updates (names : Names) (files : Files) (rows : List (Row Manifest)) (h : List Manifest) (b number id epoch : ℕ) (object made : Manifest) : Type 0 where
    pub tells : Tells decode names files rows h b
    pub holder : TellsHolder decode rows number id epoch object
    pub newest : id ≡ length h
    pub own : object.epoch ≡ epoch
    pub same : made.epoch ≡ object.epoch
    pub pins : (n : ℕ) → is_pinned made n ≡ true → (n ≡ id) ⊎ (is_pinned object n ≡ true)
    pub small : id + 1 < 2 ^ 64

  module _ (names : Names) (files : Files) (rows : List (Row Manifest)) (h : List Manifest) (b number id epoch : ℕ) (object made : Manifest) (u : Updates names files rows h b number id epoch object made) where
    abbrev op : ℕ
    op = begun_count rows + 1

    abbrev call : Call Manifest
    call = any.View (view_calls.HolderUpdate number made)

    abbrev begin : Row Manifest
    begin = Begun op call

    abbrev began : List (Row Manifest)
    began = rows ++ begin ∷ []

    stood : view_at rows number ≡ Some id
    stood = stands_shown rows number id epoch object u.holder u.own

    opens : Opens decode epoch_of rows op call
    opens =
        record {
          next = refl;
          shown = holder_shown rows number id epoch object u.holder;
          known = rw stood (stood_told rows number id stood);
          low = refl;
          keeps = refl;
        }

    told_begun : Tells decode names files began h b
    told_begun = begun_told decode names files rows h b u.tells call opens (made_from decode rows number (view_of rows number id epoch object u.holder) made u.holder.fits u.pins)

    pending_begun : Pending began op call
    pending_begun = begin_pending decode rows u.tells.one call

    at_newest : id ≡ newest began
    at_newest = u.newest ∙ sym (told_length decode names files began h b told_begun)

    written_on : base_by began op call ≡ base_on (newest began)
    written_on =
        let some = (entry_within decode epoch_of with_epoch [] rows id object u.holder.fits.object).0 in
        ap (λ (rs : List (Row Manifest)). base_now rs call) (before_now op rows call (unbegun decode rows u.tells.one)) ∙ (stood ∙ (base_some id some ∙ ap base_on at_newest))

    top : epoch_at decode epoch_of began (newest began) ≡ epoch
    top =
        ap (epoch_at decode epoch_of began) (sym at_newest)
        ∙ (epoch_is decode epoch_of with_epoch [] began id object (entry_kept decode epoch_of with_epoch rows begin id object u.holder.fits.object) ∙ u.own)

    appends : (bytes : List ℕ) → decode bytes ≡ Some made → Appends decode epoch_of (WritesOn decode epoch_of with_epoch) (MayAppend decode epoch_of with_epoch) began op (id + 1) bytes
    appends bytes reads =
        record {
          call = call;
          called = pending_begun.called;
          value = made;
          reads = reads;
          next = ap (λ (n : ℕ). n + 1) at_newest;
          written = (written_on, refl);
          rises = (let own = u.own in let same = u.same in let t = top in omega (arith, own, same, t));
          unfenced = record {
            epoch = epoch;
            holder = held_more rows begin number epoch (sym u.holder.fits.epoch);
            keeps = u.same ∙ u.own;
            none_above = λ n. (let most = top_epoch decode epoch_of with_epoch [] began told_begun.one n in let t = top in omega (arith, most, t));
          };
        }

    -- the bytes of the next version's file, and the other files as they were
    pub record NextFile (new : Files) : Type 0 where
      pub bytes : List ℕ
      pub there : bytes_of names new (id + 1) ≡ Some bytes
      pub reads : decode bytes ≡ Some made
      pub others : (n : ℕ) → n < 2 ^ 64 → n ≢ id + 1 → bytes_of names new n ≡ bytes_of names files n

    abbrev put : List ℕ → Row Manifest
    put bytes = Effect op (requests.Put (version_path world_names (id + 1)) bytes modes.Create)

    -- it began, and its version is the next; the holder is as it was
    pub record Put (new : Files) (after : List (Row Manifest)) : Type 0 where
      pub later : GoesOn decode (λ other. other ≢ number) rows after
      pub tells : Tells decode names new after (h ++ made ∷ []) b
      pub holder : TellsHolder decode after number id epoch object

    put_told : (new : Files) (f : NextFile new) → Put new (began ++ put f.bytes ∷ [])
    unfolding appends
    put_told new f =
        record {
          later = goes_quiet decode (λ other. other ≢ number) rows began (put f.bytes) (λ n. (refl, refl)) (goes_quiet decode (λ other. other ≢ number) rows rows begin (λ n. (refl, refl)) (goes_nowhere decode (λ other. other ≢ number) rows));
          tells = version_told decode names files began h b told_begun new op (id + 1) f.bytes u.small (appends f.bytes f.reads) f.there (λ n fits other spared. f.others n fits other);
          holder = holder_more decode began (put f.bytes) number id epoch object (refl, refl) (holder_more decode rows begin number id epoch object (refl, refl) u.holder);
        }

    pub putted : (new : Files) → NextFile new → (after : List (Row Manifest)) × Put new after
    putted new f = (began ++ put f.bytes ∷ [], put_told new f)

    abbrev answer : Row Manifest
    answer = Answered op (answers.View number (id + 1) made)

    -- and it was answered
    pub record Done (new : Files) (after : List (Row Manifest)) : Type 0 where
      pub later : GoesOn decode (λ other. other ≢ number) rows after
      pub tells : Tells decode names new after (h ++ made ∷ []) b
      pub holder : TellsHolder decode after number (id + 1) epoch made

    pub done_told : (new : Files) → NextFile new → (after : List (Row Manifest)) × Done new after
    done_told new f =
        let rows' = began ++ put f.bytes ∷ [] in
        let p = put_told new f in
        let pending = effect_pending began op call op (requests.Put (version_path world_names (id + 1)) f.bytes modes.Create) pending_begun in
        let lacks = told_new decode names files began h b told_begun (id + 1) (ap (λ (n : ℕ). n + 1) at_newest) in
        let entered = entered_last began op (id + 1) f.bytes made u.small pending_begun.begun lacks f.reads in
        let at : number_of (view_at rows' number) ≡ id = ap number_of (stands_shown rows' number id epoch object p.holder u.own) in
        let fits : Answers decode epoch_of [] rows' op (answers.View number (id + 1) made) = record {
          call = call;
          called = pending.called;
          once = pending.once;
          fits = (record { same = refl; rises = omega (arith, at) }, entered);
        } in (
          rows' ++ answer ∷ [],
          record {
            later = goes_more decode (λ other. other ≢ number) rows rows' answer (λ n shown other e. (rw (ne_eqb number n (λ is. other (sym is))) refl, refl)) p.later;
            tells = answer_told decode names new rows' (h ++ made ∷ []) b p.tells op (answers.View number (id + 1) made) fits;
            holder = holder_answered rows' op number id (id + 1) epoch object made p.holder (entered_now decode epoch_of with_epoch [] rows' p.tells.one op (id + 1) made entered);
          },
        )
