-- What a call was answered lasts.
use Rattle.std.proofs.Common.{◌≡◌, ℕ, zero, suc, ◌<◌, ◌≤◌, List, Option, Some, None, Ok, Err, ap, sym, subst, ◌∙◌, arith, ◌⊎◌, inl, inr}
use Rattle.std.specs.Prelude.{true, false}
use Rattle.std.proofs.lemmas.Bool.{cases_lt}
use Rattle.std.proofs.lemmas.Option.{same_Some}
use Rattle.txn_store.specs.declared.request.Reply.TheVariants as replies
use Rattle.txn_store.specs.declared.request.Reply.{Reply}
use Rattle.txn_store.specs.declared.store.Got.{Got}
use Rattle.txn_store.specs.declared.store.StoreError.TheVariants as errors
use Rattle.txn_folder.specs.steps.Folders.{Place, Version, Boundary, At, Temporary, Ask}
use Rattle.txn_folder.specs.steps.Steps as steps
use Rattle.txn_folder.specs.steps.Steps.{Verdict, Tells, Phase, Is, Ends, Work, Creates, Gets, Updates, Deletes, create_asked, update_asked, asked, verdict_of}
use Rattle.txn_folder_model.specs.Worlds.{Call, World, Event, world, after}
use Rattle.txn_folder_model.specs.Power.{Syncs, AfterCut, IsLeft, SyncsNames, IsPut, LastsSince, LastsOf, IsSynced, TellsOf, SyncsAll, Stands, NameIsLeft, name_at}
use Rattle.txn_folder_model.proofs.Events.{by_event, Places, step_from}
use Rattle.txn_folder_model.proofs.Sealed.{IsGone, limit, Rests, Was, WasSynced, Skipped, WorkSo, PutEnds, GoneEnds, FileEnds, GotEnds, CallSo}
use Rattle.txn_folder_model.proofs.Power.{all_so, left_whole}

-- a call that rests gives no name of a place
no_place : (c : ℕ) (work : Work) (ask : Ask) (place : Place) → asked c work ≡ Some ask → Places ask place → ¬ (Rests work)
no_place c (Creates there bytes (Is state)) ask place asks gives = by state (subst (λ (a : Ask). Places a place) (sym (same_Some (create_asked c there bytes state) ask asks)) gives)
  where
    by : (s : steps.Creating) → Places (create_asked c there bytes s) place → ¬ (Rests (Creates there bytes (Is s)))
    by (steps.Links n) it = λ rests. rests
    by s it = absurd it
no_place c (Updates bytes token (Is state)) ask place asks gives = by state (subst (λ (a : Ask). Places a place) (sym (same_Some (update_asked c bytes state) ask asks)) gives)
  where
    by : (s : steps.Updating) → Places (update_asked c bytes s) place → ¬ (Rests (Updates bytes token (Is s)))
    by (steps.Renames n) it = λ rests. rests
    by s it = absurd it
no_place c (Gets there known phase) ask place asks gives = λ rests. rests
no_place c (Deletes id phase) ask place asks gives = λ rests. rests
no_place c (Creates there bytes (Ends verdict)) ask place asks gives = absurd (cc)
no_place c (Updates bytes token (Ends verdict)) ask place asks gives = absurd (cc)

module _ (floor : ℕ) (events : ℕ → Event) (syncs : Syncs) where
  -- a file that has had a name is given none again
  module _ (t : ℕ) (place : Place) (file : ℕ) where
    abbrev w : World
    w = world floor events t

    abbrev Before : Event → World → Type 0
    Before e v = v.folder.names (At place) ≡ Some file → (w.folder.names (At place) ≡ Some file) ⊎ ((ask : Ask) × (asked file (w.calls file).work ≡ Some ask) × Places ask place)

    gave : (c : ℕ) (ask : Ask) → asked c (w.calls c).work ≡ Some ask → (w.folder.names (At place) ≡ Some file) ⊎ (Places ask place × (w.folder.names (Temporary c) ≡ Some file)) → (w.folder.names (At place) ≡ Some file) ⊎ ((ask : Ask) × (asked file (w.calls file).work ≡ Some ask) × Places ask place)
    gave c ask asks (inl old) = inl old
    gave c ask asks (inr new) = inr (ask, subst (λ (x : ℕ). asked x (w.calls x).work ≡ Some ask) (sym ((all_so floor events syncs t).temps c file new.1)) asks, new.0)

    before_event : Before (events t) (after floor t (events t) w)
    before_event = by_event floor t w Before (record {
      begins = λ client job is. inl is;
      idles = λ c way is. inl is;
      ends = λ c way verdict on says is. inl is;
      steps = λ c way ask on asks may is. gave c ask asks (step_from c w.folder place file ask way is);
      rests = λ c is. inl is;
      kills = λ c on is. inl is;
      cleans = λ c is. inl is;
    }) (events t)

    was_before : Rests (w.calls file).work → name_at floor events (suc t) place ≡ Some file → name_at floor events t place ≡ Some file
    was_before rests is = by (before_event is)
      where
        by : (w.folder.names (At place) ≡ Some file) ⊎ ((ask : Ask) × (asked file (w.calls file).work ≡ Some ask) × Places ask place) → name_at floor events t place ≡ Some file
        by (inl old) = old
        by (inr (ask, asks, gives)) = absurd (no_place file (w.calls file).work ask place asks gives rests)

  -- what stood at two moments stood between
  stood_between : (place : Place) (file from m to : ℕ) → from ≤ m → m ≤ to → name_at floor events from place ≡ Some file → name_at floor events to place ≡ Some file → name_at floor events m place ≡ Some file
  stood_between place file from m zero since until first last = let same : m ≡ zero = omega (arith, until) in subst (λ (x : ℕ). name_at floor events x place ≡ Some file) (sym same) last
  stood_between place file from m (suc to) since until first last = elim (cases_lt m (suc to)) [
    | inl less ↦ stood_between place file from m to since (omega (arith, less)) first (was_before to place file ((all_so floor events syncs to).ever from place file (omega (arith, since, less)) first).rests last)
    | inr most ↦ let same : m ≡ suc to = omega (arith, until, most) in subst (λ (x : ℕ). name_at floor events x place ≡ Some file) (sym same) last
  ]

  -- a name that nobody changes
  same_since : (place : Place) (from m : ℕ) → from ≤ m → ((n : ℕ) → from ≤ n → n < m → name_at floor events (suc n) place ≡ name_at floor events n place) → name_at floor events m place ≡ name_at floor events from place
  same_since place from zero since same = let now : from ≡ zero = omega (arith, since) in ap (λ (x : ℕ). name_at floor events x place) (sym now)
  same_since place from (suc m) since same = elim (cases_lt from (suc m)) [
    | inl less ↦ same m (omega (arith, less)) (omega arith) ∙ same_since place from m (omega (arith, less)) (λ n low high. same n low (omega (arith, high)))
    | inr most ↦ let now : from ≡ suc m = omega (arith, since, most) in ap (λ (x : ℕ). name_at floor events x place) (sym now)
  ]

  module _ (t began : ℕ) (ended : Option ℕ) where
    abbrev LeftSince : ℕ → Place → Type 0
    LeftSince at place = (left : AfterCut) → IsLeft floor events syncs t left → (m : ℕ) × (at ≤ m) × (m ≤ t) × (left.names place ≡ name_at floor events m place)

    lasts_from : (place : Place) (name : Option ℕ) (at : ℕ) → began ≤ at → ((end : ℕ) → ended ≡ Some end → at ≤ end) → name_at floor events at place ≡ name → LeftSince at place → LastsSince floor events syncs t began ended place name
    lasts_from place name at since until stood left = record {
      at = at;
      since = since;
      until = until;
      stood = stood;
      left = left;
      stays = λ what is same. let one = left what is in let most = one.2 in one.3 ∙ same_since place at one.0 one.1 (λ n low high. same n low (omega (arith, high, most))) ∙ stood;
    }

    pub lasts_by : (place : Place) (name : Option ℕ) (at sync : ℕ) → began ≤ at → ((end : ℕ) → ended ≡ Some end → at ≤ end) → name_at floor events at place ≡ name → at ≤ sync → sync < t → SyncsNames floor events syncs sync place → LastsSince floor events syncs t began ended place name
    lasts_by place name at sync since until stood after past synced = lasts_from place name at since until stood left
      where
        left : LeftSince at place
        left what is =
            let name = is.names place in
            let late = name.since sync past synced in
            (name.at, omega (arith, late, after), name.past, name.is)

    lasts_of : (place : Place) (name : Option ℕ) → WasSynced floor events syncs t (limit t ended) began place name → LastsSince floor events syncs t began ended place name
    lasts_of place name was = lasts_by place name was.at was.sync was.since until was.is was.after was.past was.synced
      where
        until : (end : ℕ) → ended ≡ Some end → was.at ≤ end
        until end is = let after = was.after in let within : was.sync < end = subst (λ (o : Option ℕ). was.sync < limit t o) is was.within in omega (arith, after, within)

  module _ (t call : ℕ) where
    abbrev its : Call
    its = (world floor events t).calls call

    module _ (low : call < (world floor events t).count) where
      so : CallSo floor events syncs t (world floor events t) call its
      so = (all_so floor events syncs t).calls call low

      abbrev until : ℕ
      until = limit t its.ended

      -- puts
      put_by : (place : Place) (verdict : Verdict) (token : ℕ) → Some verdict ≡ Some (Tells (replies.Put (Ok token))) → PutEnds floor events syncs t (world floor events t) until its.began call place verdict → WasSynced floor events syncs t until its.began place (Some call)
      put_by place verdict token is ends = subst (PutEnds floor events syncs t (world floor events t) until its.began call place) (same_Some verdict (Tells (replies.Put (Ok token))) is) ends

      put_of : (work : Work) (place : Place) (bytes : List ℕ) (token : ℕ) → verdict_of work ≡ Some (Tells (replies.Put (Ok token))) → IsPut work place bytes → WorkSo floor events syncs t (world floor events t) until its.began call work → WasSynced floor events syncs t until its.began place (Some call)
      put_of (Creates there put (Ends verdict)) place bytes token is asks ends = subst (λ (p : Place). WasSynced floor events syncs t until its.began p (Some call)) asks.0 (put_by there verdict token is ends)
      put_of (Updates put old (Ends verdict)) place bytes token is asks ends = subst (λ (p : Place). WasSynced floor events syncs t until its.began p (Some call)) asks.0 (put_by Boundary verdict token is ends)
      put_of (Creates there put (Is state)) place bytes token is asks ends = absurd (cc)
      put_of (Updates put old (Is state)) place bytes token is asks ends = absurd (cc)
      put_of (Gets there known phase) place bytes token is asks ends = absurd asks
      put_of (Deletes id phase) place bytes token is asks ends = absurd asks

      pub put_synced : (place : Place) (bytes : List ℕ) (token : ℕ) → IsPut its.work place bytes → its.answer ≡ Some (replies.Put (Ok token)) → WasSynced floor events syncs t until its.began place (Some call)
      put_synced place bytes token asks answered = put_of its.work place bytes token (so.told (replies.Put (Ok token)) answered) asks so.work

      pub put_lasts : (place : Place) (bytes : List ℕ) (token : ℕ) → IsPut its.work place bytes → its.answer ≡ Some (replies.Put (Ok token)) → LastsOf floor events syncs t call place (Some call)
      put_lasts place bytes token asks answered = lasts_of t its.began its.ended place (Some call) (put_synced place bytes token asks answered)

      -- the bytes of a put
      put_same : (work : Work) (place : Place) (one two : List ℕ) → IsPut work place one → IsPut work place two → one ≡ two
      put_same (Creates there put phase) place one two first second = sym first.1 ∙ second.1
      put_same (Updates put old phase) place one two first second = sym first.1 ∙ second.1
      put_same (Gets there known phase) place one two first second = absurd first
      put_same (Deletes id phase) place one two first second = absurd first

      kept_since : (place : Place) (from m : ℕ) → from ≤ m → m ≤ t → ((n : ℕ) → n < t → name_at floor events n place ≡ Some call → name_at floor events (suc n) place ≡ Some call) → name_at floor events from place ≡ Some call → name_at floor events m place ≡ Some call
      kept_since place from zero since most kept first = let now : from ≡ zero = omega (arith, since) in subst (λ (x : ℕ). name_at floor events x place ≡ Some call) now first
      kept_since place from (suc m) since most kept first = elim (cases_lt from (suc m)) [
        | inl less ↦ kept m (omega (arith, most)) (kept_since place from m (omega (arith, less)) (omega (arith, most)) kept first)
        | inr more ↦ let now : from ≡ suc m = omega (arith, since, more) in subst (λ (x : ℕ). name_at floor events x place ≡ Some call) now first
      ]

      pub put_stands : (place : Place) (bytes : List ℕ) (token : ℕ) (left : AfterCut) → IsPut its.work place bytes → its.answer ≡ Some (replies.Put (Ok token)) → ((m : ℕ) → m < t → name_at floor events m place ≡ Some call → name_at floor events (suc m) place ≡ Some call) → IsLeft floor events syncs t left → Stands left place call bytes
      put_stands place bytes token left asks answered kept is =
          let lasts = put_lasts place bytes token asks answered in
          let one = lasts.left left is in
          let name : left.names place ≡ Some call = one.3 ∙ kept_since place lasts.at one.0 one.1 one.2 kept lasts.stood in
          record { name = name; file = put_same its.work place (left.files call).bytes bytes (left_whole floor events syncs t call left place is name).put asks }

      -- deletes
      gone_of : (work : Work) (id : ℕ) (phase : Phase steps.Deleting) → work ≡ Deletes id phase → verdict_of work ≡ Some (Tells (replies.Delete (Ok tt))) → WorkSo floor events syncs t (world floor events t) until its.began call work → WasSynced floor events syncs t until its.began (Version id) None × IsGone floor events syncs t call id
      gone_of work id phase is says ends = by phase (ap verdict_of (sym is) ∙ says) (subst (WorkSo floor events syncs t (world floor events t) until its.began call) is ends)
        where
          by : (p : Phase steps.Deleting) → verdict_of (Deletes id p) ≡ Some (Tells (replies.Delete (Ok tt))) → WorkSo floor events syncs t (world floor events t) until its.began call (Deletes id p) → WasSynced floor events syncs t until its.began (Version id) None × IsGone floor events syncs t call id
          by (Ends verdict) told end = subst (GoneEnds floor events syncs t (world floor events t) until its.began call id) (same_Some verdict (Tells (replies.Delete (Ok tt))) told) end
          by (Is state) told end = absurd (cc)

      pub gone_lasts : (id : ℕ) (phase : Phase steps.Deleting) → its.work ≡ Deletes id phase → its.answer ≡ Some (replies.Delete (Ok tt)) → LastsOf floor events syncs t call (Version id) None
      gone_lasts id phase is answered = lasts_of t its.began its.ended (Version id) None (gone_of its.work id phase is (so.told (replies.Delete (Ok tt)) answered) so.work).0

      pub is_gone : (id : ℕ) (phase : Phase steps.Deleting) → its.work ≡ Deletes id phase → its.answer ≡ Some (replies.Delete (Ok tt)) → IsGone floor events syncs t call id
      is_gone id phase is answered = (gone_of its.work id phase is (so.told (replies.Delete (Ok tt)) answered) so.work).1

      -- gets
      got_of : (work : Work) (place : Place) (known : Option ℕ) (phase : Phase steps.Getting) (reply : Reply) → work ≡ Gets place known phase → verdict_of work ≡ Some (Tells reply) → WorkSo floor events syncs t (world floor events t) until its.began call work → GotEnds floor events syncs t (world floor events t) until its.began call place known (Tells reply)
      got_of work place known phase reply is says ends = by phase (ap verdict_of (sym is) ∙ says) (subst (WorkSo floor events syncs t (world floor events t) until its.began call) is ends)
        where
          by : (p : Phase steps.Getting) → verdict_of (Gets place known p) ≡ Some (Tells reply) → WorkSo floor events syncs t (world floor events t) until its.began call (Gets place known p) → GotEnds floor events syncs t (world floor events t) until its.began call place known (Tells reply)
          by (Ends verdict) told end = subst (GotEnds floor events syncs t (world floor events t) until its.began call place known) (same_Some verdict (Tells reply) told) end
          by (Is state) told end = absurd (cc)

      known_lasts : (place : Place) (file : ℕ) → Was floor events syncs t until its.began place (Some file) → IsSynced floor events syncs t place file → LastsOf floor events syncs t call place (Some file)
      known_lasts place file was known = lasts_from t its.began its.ended place (Some file) was.at was.since ends was.is left
        where
          ends : (end : ℕ) → its.ended ≡ Some end → was.at ≤ end
          ends end is = subst (λ (o : Option ℕ). was.at ≤ limit t o) is was.within

          left : LeftSince t its.began its.ended was.at place
          left what is = by (cases_lt name.at was.at)
            where
              name : NameIsLeft floor events syncs t place (what.names place)
              name = is.names place

              late : known.seen ≤ name.at
              late = let sync = name.since known.sync known.past known.synced in let after = known.after in omega (arith, sync, after)

              by : (name.at < was.at) ⊎ (was.at ≤ name.at) → (m : ℕ) × (was.at ≤ m) × (m ≤ t) × (what.names place ≡ name_at floor events m place)
              by (inl before) = (was.at, omega arith, was.past, name.is ∙ stood_between place file known.seen name.at was.at late (omega (arith, before)) known.there was.is ∙ sym was.is)
              by (inr most) = (name.at, most, name.past, name.is)

      -- a sync that was left out, where none was
      unskipped : (P : Type 0) → SyncsAll floor events syncs t call → Skipped floor events syncs t call → P
      unskipped P none left = absurd (let clash : true ≡ false = sym left.3 ∙ none left.0 left.1 left.2 in cc)

      got_lasts_by : (place : Place) (file : ℕ) → Was floor events syncs t until its.began place (Some file) → Skipped floor events syncs t call ⊎ WasSynced floor events syncs t until its.began place (Some file) → SyncsAll floor events syncs t call ⊎ IsSynced floor events syncs t place file → LastsOf floor events syncs t call place (Some file)
      got_lasts_by place file was synced (inr known) = known_lasts place file was known
      got_lasts_by place file was (inr synced) (inl none) = lasts_of t its.began its.ended place (Some file) synced
      got_lasts_by place file was (inl left) (inl none) = unskipped (LastsOf floor events syncs t call place (Some file)) none left

      told_of : (place : Place) (known : Option ℕ) (reply : Reply) → FileEnds floor events syncs t (world floor events t) until its.began call place known (Tells reply) → TellsOf floor events syncs t call place known reply
      told_of place known reply ends = record { file = ends.0; told = ends.2; lasts = got_lasts_by place ends.0 ends.1 ends.3 }

      pub got_lasts : (place : Place) (known : Option ℕ) (phase : Phase steps.Getting) (got : Got) → its.work ≡ Gets place known phase → its.answer ≡ Some (replies.Get (Ok got)) → TellsOf floor events syncs t call place known (replies.Get (Ok got))
      got_lasts place known phase got is answered = told_of place known (replies.Get (Ok got)) (got_of its.work place known phase (replies.Get (Ok got)) is (so.told (replies.Get (Ok got)) answered) so.work)

      pub same_lasts : (place : Place) (known : Option ℕ) (phase : Phase steps.Getting) → its.work ≡ Gets place known phase → its.answer ≡ Some (replies.Get (Err errors.NotModified)) → TellsOf floor events syncs t call place known (replies.Get (Err errors.NotModified))
      same_lasts place known phase is answered = told_of place known (replies.Get (Err errors.NotModified)) (got_of its.work place known phase (replies.Get (Err errors.NotModified)) is (so.told (replies.Get (Err errors.NotModified)) answered) so.work)
