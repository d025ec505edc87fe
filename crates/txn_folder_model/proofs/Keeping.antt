-- Of the run in which a call is killed after its link, the journals of both clients are those of clients of the folder.
use Rattle.std.proofs.Common.{◌≡◌, ℕ, zero, suc, ◌<◌, List, [], ◌∷◌, Option, Some, None, false, refl, ap, subst, arith, inl, inr}
use Rattle.std.specs.Prelude.{Contains, Vec, map, Ok}
use Rattle.std.proofs.lemmas.Bool.{le-leb}
use Rattle.std.specs.declared.alloc.Global.{Global}
use Rattle.txn_store.specs.declared.request.Reply.{Reply}
use Rattle.txn_store.specs.declared.request.Reply.TheVariants as replies
use Rattle.txn_history.specs.Names.{world_names, world_boundary}
use Rattle.txn_history.proofs.Apart.{apart}
use Rattle.txn_history.specs.declared.event.PlainCall.TheVariants as plain_calls
use Rattle.txn_history.specs.declared.event.Call.{Call}
use Rattle.txn_history.specs.declared.event.Call.TheVariants as any
use Rattle.txn_machine.specs.Doing.{Next, started, turned}
use Rattle.txn_machine.specs.plain.Machine.{no_caches}
use Rattle.txn_client_journals.specs.declared.rows.Left.{Left}
use Rattle.txn_client_journals.specs.declared.rows.Step.TheVariants as steps
use Rattle.txn_client_journals.specs.declared.rows.JournalRow.{JournalRow}
use Rattle.txn_client_journals.specs.Parts.{Part, no_part, begun}
use Rattle.txn_client_journals.specs.Journals.{as_pair, left_among, Replays}
use Rattle.txn_client_journals.specs.Shares.{AreDiaries}
use Rattle.txn_client_journals.specs.Verdict.{AuditedDiary, HasClient}
use Rattle.txn_folder_model.specs.Worlds.{World, MayHappen, world}
use Rattle.txn_folder_model.specs.Linear.{IsApart, IsElsewhere, request_of}
use Rattle.txn_folder_model.specs.Clients.{Called, IsChange, IsLost, IsOf, KeepsJournal, AreOfFolder}
use Rattle.txn_folder_model.specs.Examples.{killed_run, killed_left, ended_part, killed_diary, reader_diary, no_listing}
use Rattle.txn_folder_model.proofs.Taken.{none_has, only_one, first_has}

-- the boundary's file is none of a version, and lies in another folder

pub are_apart : IsApart world_names world_boundary
are_apart id fits same = apart id same

pub are_elsewhere : IsElsewhere world_names world_boundary
unfolding world_names world_boundary
are_elsewhere = refl

-- what is asked for in this run fits
pub asks_fit : (bytes : List ℕ) (t : ℕ) → MayHappen 10 (killed_run bytes t)
asks_fit bytes zero = omega arith
asks_fit bytes (suc zero) = tt
asks_fit bytes (suc (suc zero)) = tt
asks_fit bytes (suc (suc (suc zero))) = tt
asks_fit bytes (suc (suc (suc (suc zero)))) = tt
asks_fit bytes (suc (suc (suc (suc (suc zero))))) = tt
asks_fit bytes (suc (suc (suc (suc (suc (suc zero)))))) = tt
asks_fit bytes (suc (suc (suc (suc (suc (suc (suc zero))))))) = tt
asks_fit bytes (suc (suc (suc (suc (suc (suc (suc (suc zero)))))))) = omega arith
asks_fit bytes (suc (suc (suc (suc (suc (suc (suc (suc (suc zero))))))))) = tt
asks_fit bytes (suc (suc (suc (suc (suc (suc (suc (suc (suc (suc zero)))))))))) = tt
asks_fit bytes (suc (suc (suc (suc (suc (suc (suc (suc (suc (suc (suc zero))))))))))) = tt
asks_fit bytes (suc (suc (suc (suc (suc (suc (suc (suc (suc (suc (suc (suc zero)))))))))))) = tt
asks_fit bytes (suc (suc (suc (suc (suc (suc (suc (suc (suc (suc (suc (suc (suc zero))))))))))))) = tt
asks_fit bytes (suc (suc (suc (suc (suc (suc (suc (suc (suc (suc (suc (suc (suc (suc t)))))))))))))) = tt

module _ {T : Type 0} (page : ℕ) (encode : T → List ℕ) (decode : List ℕ → Option T) (get_epoch : T → ℕ) (set_epoch : T → ℕ → T) (value : T) (reads : decode (encode value) ≡ Some value) (lefts : Vec Left Global) (is : lefts.items ≡ killed_left (encode value) ∷ []) where
  abbrev first : Call T → Next T
  first call = started page encode get_epoch set_epoch call None

  abbrev after_begin : ℕ → Call T → Part T
  after_begin client call = begun get_epoch client no_part call (first call)

  abbrev writes : Call T
  writes = any.Plain (plain_calls.WriteUnchecked None value)

  abbrev gets : Call T
  gets = any.Plain (plain_calls.ReadUnchecked 1)

  killed_replays : Replays page encode decode get_epoch set_epoch 1 (record { step = steps.Killed lefts; answer = None } ∷ record { step = steps.Begin writes; answer = None } ∷ []) (ended_part 1)
  killed_replays = (
    after_begin 1 writes,
    (no_part, refl, record { permits = rw (le-leb 0 (get_epoch value) (omega arith)) refl; reads_back = λ e. reads; word = tt; next = first writes; starts = refl; made = tt; tells = refl; part = refl }, tt),
    record { some = omega arith; leaves = ap (λ (l : List Left). map as_pair l) is; tells = refl; part = refl },
    refl,
  )

  pub are_diaries : AreDiaries page encode decode get_epoch set_epoch (killed_diary value lefts ∷ reader_diary value (encode value) ∷ [])
  are_diaries = (
    killed_replays,
    (
      (
        after_begin 2 gets,
        (no_part, refl, record { permits = refl; reads_back = tt; word = omega arith; next = first gets; starts = refl; made = tt; tells = refl; part = refl }, tt),
        record {
          operation = record { client = 2; view = None; claims = false; doing = (first gets).0 };
          found = refl;
          asks = refl;
          next = turned page encode decode get_epoch set_epoch false (first gets).0 no_caches (Some (replies.Get (Ok (record { bytes = encode value; token = 11 }))));
          turns = record { refused = false; turns = refl; may = tt; made = λ h. absurd h };
          tells = rw reads refl;
          part = rw reads refl;
        },
        refl,
      ),
      tt,
    ),
  )

module _ {T : Type 0} (value : T) (bytes : List ℕ) (lefts : Vec Left Global) (is : lefts.items ≡ killed_left bytes ∷ []) where
  abbrev worlds : ℕ → World
  worlds = world 10 (killed_run bytes)

  abbrev Keeps : ℕ → List (JournalRow T) → Type 0
  Keeps = KeepsJournal world_names world_boundary (λ _. 1) 14 worlds (λ _. no_listing) 0

  abbrev ds : List (AuditedDiary T)
  ds = killed_diary value lefts ∷ reader_diary value bytes ∷ []

  lost : IsLost world_names world_boundary (λ _. 1) 14 worlds (λ _. no_listing) 0 (killed_diary value lefts).rows [] 0
  lost = record { before = 0; few = omega arith; earlier = λ x has. absurd (none_has x has); later = λ x has. absurd (none_has x has); left = ap (λ ls. left_among 1 ls None) is }

  killed_keeps : Keeps 1 (killed_diary value lefts).rows
  killed_keeps = record {
    all = [];
    told = tt;
    in_turn = tt;
    its = λ x has. absurd (none_has x has);
    calls = calls;
    lists = λ j low. absurd (omega (arith, low));
    lost = losses;
  }
    where
      calls : (c : ℕ) (reply : Reply) → c < 2 → ((worlds 14).calls c).client ≡ 1 → ((worlds 14).calls c).answer ≡ Some reply → Contains [] (Called c)
      calls zero reply low its answer = absurd (cc)
      calls (suc zero) reply low its answer = absurd (omega (arith, its))
      calls (suc (suc k)) reply low its answer = absurd (omega (arith, low))

      losses : (c : ℕ) → c < 2 → ((worlds 14).calls c).client ≡ 1 → ((worlds 14).calls c).answer ≡ None → IsChange (request_of world_names world_boundary ((worlds 14).calls c).work) → IsLost world_names world_boundary (λ _. 1) 14 worlds (λ _. no_listing) 0 (killed_diary value lefts).rows [] c
      losses zero low its answer change = lost
      losses (suc zero) low its answer change = absurd (omega (arith, its))
      losses (suc (suc k)) low its answer change = absurd (omega (arith, low))

  reader_keeps : Keeps 2 (reader_diary value bytes).rows
  reader_keeps = record {
    all = Called 1 ∷ [];
    told = ((refl, refl), tt);
    in_turn = (λ later has. absurd (none_has later has), tt);
    its = λ x has. subst (IsOf world_names world_boundary (λ _. 1) 14 worlds (λ _. no_listing) 0 2) (only_one (Called 1) x has) (omega arith, refl);
    calls = calls;
    lists = λ j low. absurd (omega (arith, low));
    lost = losses;
  }
    where
      calls : (c : ℕ) (reply : Reply) → c < 2 → ((worlds 14).calls c).client ≡ 2 → ((worlds 14).calls c).answer ≡ Some reply → Contains (Called 1 ∷ []) (Called c)
      calls zero reply low its answer = absurd (omega (arith, its))
      calls (suc zero) reply low its answer = first_has (Called 1) []
      calls (suc (suc k)) reply low its answer = absurd (omega (arith, low))

      losses : (c : ℕ) → c < 2 → ((worlds 14).calls c).client ≡ 2 → ((worlds 14).calls c).answer ≡ None → IsChange (request_of world_names world_boundary ((worlds 14).calls c).work) → IsLost world_names world_boundary (λ _. 1) 14 worlds (λ _. no_listing) 0 (reader_diary value bytes).rows (Called 1 ∷ []) c
      losses zero low its answer change = absurd (omega (arith, its))
      losses (suc zero) low its answer change = absurd (cc)
      losses (suc (suc k)) low its answer change = absurd (omega (arith, low))

  pub are_of_folder : AreOfFolder world_names world_boundary (λ _. 1) 14 worlds (λ _. no_listing) 0 ds
  are_of_folder = record {
    differ = (differ, (λ has. has, tt));
    of_calls = of_calls;
    of_lists = λ j low. absurd (omega (arith, low));
    keep = (killed_keeps, (reader_keeps, tt));
  }
    where
      differ : HasClient (reader_diary value bytes ∷ []) 1 → ⊥
      differ (inl same) = omega (arith, same)
      differ (inr none) = none

      of_calls : (c : ℕ) → c < 2 → HasClient ds ((worlds 14).calls c).client
      of_calls zero low = inl refl
      of_calls (suc zero) low = inr (inl refl)
      of_calls (suc (suc k)) low = absurd (omega (arith, low))
