-- Of clients that keep journals: the verdict on the log and their diaries is that they agree.
use Rattle.std.proofs.Common.{◌≡◌, ℕ, zero, suc, ◌+◌, ◌<◌, ◌≤◌, ◌==◌, ◌&&◌, if◌then◌else◌, Bool, true, false, List, [], ◌∷◌, ◌++◌, map, length, Option, Some, None, Ok, refl, ap, sym, subst, ◌∙◌, append_assoc, arith, ◌⊎◌, inl, inr}
use Rattle.std.specs.Prelude.{Contains, filter, reverse}
use Rattle.std.proofs.lemmas.Bool.{eqb-true, eqb-false}
use Rattle.std.proofs.lemmas.List.{length-reverse, reverse-reverse, reverse-append}
use Rattle.std.proofs.lemmas.List.Elements.{filter-append}
use Rattle.txn_store.specs.Paths.{Segments}
use Rattle.txn_store.specs.VersionName.{Names}
use Rattle.txn_store.specs.MemoryServes.{lacks_memory}
use Rattle.txn_store.specs.declared.request.Request.{Request}
use Rattle.txn_store.specs.declared.request.Request.TheVariants as requests
use Rattle.txn_store.specs.declared.request.Reply.{Reply}
use Rattle.txn_store.specs.declared.request.Reply.TheVariants as replies
use Rattle.txn_client_journals.specs.declared.rows.LogRow.{LogRow}
use Rattle.txn_client_journals.specs.declared.rows.Receipt.{Receipt}
use Rattle.txn_client_journals.specs.declared.rows.JournalRow.{JournalRow}
use Rattle.txn_client_journals.specs.Verdict.{AuditedDiary, HasClient, HaveDifferentClients, HasDiaries, HaveRows, WasLeft, WereLeft, IsDue, journal_of, is_taken, receipts_in, receipt_at, rows_of, left_at}
use Rattle.txn_folder_model.specs.Worlds.{Call, World}
use Rattle.txn_folder_model.specs.Linear.{Point, IsDone, IsLinearizable, request_of, row_of, row_at}
use Rattle.txn_folder_model.specs.Listings.{Listing, listing_row}
use Rattle.txn_folder_model.specs.Clients.{Taken, Called, Listed, KeepsJournal, IsChange, AreTold, IsTold, AllKeep, AreOfFolder, AreSameDiaries, left_before}
use Rattle.txn_folder_model.proofs.Taken.{Hit, ListHit, rows, lists, no_rows, no_lists, log}
use Rattle.txn_folder_model.proofs.Sharing.{its_row, point_at, all_taken, apart, count_is as count_of_lost}
use Rattle.txn_folder_model.proofs.Placing.{Like, count_front, placed, receipts_placed, left_placed, same_placed, count_is, reverse_first, filter_reverse}

-- what took its effect is a change, and its reply says that memory was there
done_change : (q : Request) (r : Reply) → IsDone q r → IsChange q × (lacks_memory r ≡ false)
done_change (requests.Put path bytes mode) (replies.Put (Ok token)) done = (tt, refl)
done_change (requests.Delete path) (replies.Delete (Ok answer)) done = (tt, refl)
done_change q r done = absurd done

diaries_append : {T : Type 0} (ds : List (AuditedDiary T)) (ys zs : List LogRow) → HasDiaries ys ds → HasDiaries zs ds → HasDiaries (ys ++ zs) ds
diaries_append ds [] zs some more = more
diaries_append ds (y ∷ ys) zs some more = (some.0, diaries_append ds ys zs some.1 more)

left_append : {T : Type 0} (place : ℕ) (ds : List (AuditedDiary T)) (ys zs : List LogRow) → WereLeft place ys ds → WereLeft (place + length ys) zs ds → WereLeft place (ys ++ zs) ds
left_append place ds [] zs some more = let same : place + 0 ≡ place = omega arith in subst (λ (n : ℕ). WereLeft n zs ds) same more
left_append place ds (y ∷ ys) zs some more = (some.0, left_append (place + 1) ds ys zs some.1 (let same : place + suc (length ys) ≡ (place + 1) + length ys = omega arith in subst (λ (n : ℕ). WereLeft n zs ds) same more))

module _ {T : Type 0} (names : Names) (boundary : Segments) (ops : ℕ → ℕ) (n : ℕ) (worlds : ℕ → World) (listings : ℕ → Listing) (many : ℕ) (lin : IsLinearizable names boundary ops n worlds listings many) (ds : List (AuditedDiary T)) (of : AreOfFolder names boundary ops n worlds listings many ds) where
  abbrev calls : ℕ → Call
  calls = (worlds n).calls

  abbrev count : ℕ
  count = (worlds n).count

  abbrev pub Keeps : ℕ → List (JournalRow T) → Type 0
  Keeps = KeepsJournal names boundary ops n worlds listings many

  abbrev log_to : ℕ → List LogRow
  log_to = log names boundary ops n worlds listings many lin

  abbrev rows_of_moment : ℕ → Bool → ℕ → List LogRow
  rows_of_moment = rows names boundary ops n worlds listings many lin

  abbrev lists_of_moment : ℕ → ℕ → List LogRow
  lists_of_moment = lists names boundary ops n worlds listings many lin

  keep_by : (client : ℕ) (d : AuditedDiary T) (rest : List (AuditedDiary T)) → Keeps d.client d.rows → (HasClient rest client → Keeps client (journal_of rest client)) → (d.client ≡ client) ⊎ HasClient rest client → (b : Bool) → (d.client == client) ≡ b → Keeps client (if b then d.rows else journal_of rest client)
  keep_by client d rest keeps more has true is = subst (λ (c : ℕ). Keeps c d.rows) (eqb-true d.client client is) keeps
  keep_by client d rest keeps more (inl same) false is = absurd (eqb-false d.client client is same)
  keep_by client d rest keeps more (inr has) false is = more has

  keep_in : (client : ℕ) (all : List (AuditedDiary T)) → AllKeep names boundary ops n worlds listings many all → HasClient all client → Keeps client (journal_of all client)
  keep_in client [] keep has = absurd has
  keep_in client (d ∷ all) keep has = keep_by client d all keep.0 (keep_in client all keep.1) has (d.client == client) refl

  pub keeps : (client : ℕ) → HasClient ds client → Keeps client (journal_of ds client)
  keeps client has = keep_in client ds of.keep has

  -- A row is of a diary's client, and a landing was left, as many receipts being before it as the client has rows before.

  abbrev LandedSo : List LogRow → LogRow → Option ℕ → Type 0
  LandedSo xs row None = Unit {0}
  LandedSo xs row (Some op) = (left_before (length (filter (is_taken row.client) xs)) op None (journal_of ds row.client) ≡ Some row.request) × (lacks_memory row.reply ≡ false)

  abbrev IsGood : List LogRow → LogRow → Type 0
  IsGood xs row = HasClient ds row.client × LandedSo xs row row.landed

  abbrev AllGood : List LogRow → Type 0
  AllGood [] = Unit {0}
  AllGood (row ∷ xs) = IsGood xs row × AllGood xs

  list_good : (j : ℕ) (ys xs : List LogRow) → j < many → AllGood (ys ++ xs) → (b : Bool) → AllGood (((if b then listing_row names (listings j) ∷ [] else []) ++ ys) ++ xs)
  list_good j ys xs low good true = ((of.of_lists j low, tt), good)
  list_good j ys xs low good false = good

  lists_good : (t k : ℕ) (xs : List LogRow) → k ≤ many → AllGood xs → AllGood (lists_of_moment t k ++ xs)
  lists_good t zero xs most good = good
  lists_good t (suc k) xs most good = list_good k (lists_of_moment t k) xs (omega (arith, most)) (lists_good t k xs (omega (arith, most)) good) (lin.moments k == t)

  abbrev selects : Bool → Bool → Bool
  selects writes does = if writes then does else if does then false else true

  -- a row, where it is right behind all before it
  row_at_good : (t : ℕ) (writes : Bool) (k : ℕ) (ys xs : List LogRow) → AllGood (ys ++ xs) → ((p : Point) → lin.points k ≡ Some p → p.at ≡ t → selects writes p.writes ≡ true → IsGood (ys ++ xs) (row_of names boundary ops k (calls k) p.reply)) → (o : Option Point) → lin.points k ≡ o → AllGood ((row_at names boundary ops t writes k (calls k) o ++ ys) ++ xs)
  row_at_good t writes k ys xs good here None is = good
  row_at_good t writes k ys xs good here (Some p) is = by (p.at == t) refl (selects writes p.writes) refl
    where
      by : (b : Bool) → (p.at == t) ≡ b → (s : Bool) → selects writes p.writes ≡ s → AllGood (((if b && s then row_of names boundary ops k (calls k) p.reply ∷ [] else []) ++ ys) ++ xs)
      by true at true does = (here p is (eqb-true p.at t at) does, good)
      by true at false does = good
      by false at s does = good

  not_both : (x : Bool) → selects false x ≡ true → x ≡ true → ⊥
  not_both true does is = cc
  not_both false does is = cc

  read_good : (t k : ℕ) (xs : List LogRow) → k < count → (p : Point) → lin.points k ≡ Some p → selects false p.writes ≡ true → (a : Option Reply) → (calls k).answer ≡ a → IsGood xs (row_of names boundary ops k (calls k) p.reply)
  read_good t k xs low p is does None answer = absurd (not_both p.writes does (lin.unanswered k p low answer is).0)
  read_good t k xs low p is does (Some told) answer = (of.of_calls k low, rw answer tt)

  reads_good : (t k : ℕ) (xs : List LogRow) → k ≤ count → AllGood xs → AllGood (rows_of_moment t false k ++ xs)
  reads_good t zero xs most good = good
  reads_good t (suc k) xs most good = row_at_good t false k (rows_of_moment t false k) xs (reads_good t k xs (omega (arith, most)) good) (λ p is at does. read_good t k (rows_of_moment t false k ++ xs) (omega (arith, most)) p is does (calls k).answer refl) (lin.points k) refl

  -- what a moment's rows are before those of the calls that write
  abbrev behind : ℕ → List LogRow
  behind t = rows_of_moment t false count ++ (lists_of_moment t many ++ log_to t)

  lost_good : (k : ℕ) (low : k < count) (p : Point) → lin.points k ≡ Some p → (calls k).answer ≡ None → IsGood (rows_of_moment p.at true k ++ behind p.at) (row_of names boundary ops k (calls k) p.reply)
  lost_good k low p is answer =
      let client = (calls k).client in
      let has = of.of_calls k low in
      let j = keeps client has in
      let done = done_change (request_of names boundary (calls k).work) p.reply (lin.unanswered k p low answer is).1 in
      let lost = j.lost k low refl answer done.0 in
      let never = apart names boundary ops n worlds listings many lin client (journal_of ds client) j k p low is lost in
      let no_call : (writes : Bool) (c : ℕ) → c < count → ¬ (Hit names boundary ops n worlds listings many lin client p.at writes c) = λ writes c less h. never (Called c) (j.calls c h.told less h.its h.answer_is) (sym (point_at names boundary ops n worlds listings many lin c h.point h.point_is) ∙ h.at_is) in
      let no_list : (i : ℕ) → i < many → ¬ (ListHit names boundary ops n worlds listings many lin client p.at i) = λ i less h. never (Listed i) (j.lists i less h.its) h.at_is in
      let none : filter (is_taken client) (rows_of_moment p.at true k ++ behind p.at) ≡ filter (is_taken client) (log_to p.at) =
      filter-append (is_taken client) (rows_of_moment p.at true k) (behind p.at)
      ∙ ap (λ (l : List LogRow). l ++ filter (is_taken client) (behind p.at)) (no_rows names boundary ops n worlds listings many lin client p.at true k (λ c less. no_call true c (omega (arith, less, low))))
      ∙ filter-append (is_taken client) (rows_of_moment p.at false count) (lists_of_moment p.at many ++ log_to p.at)
      ∙ ap (λ (l : List LogRow). l ++ filter (is_taken client) (lists_of_moment p.at many ++ log_to p.at)) (no_rows names boundary ops n worlds listings many lin client p.at false count (no_call false))
      ∙ filter-append (is_taken client) (lists_of_moment p.at many) (log_to p.at)
      ∙ ap (λ (l : List LogRow). l ++ filter (is_taken client) (log_to p.at)) (no_lists names boundary ops n worlds listings many lin client p.at many no_list) in
      let number = ap length none ∙ count_of_lost names boundary ops n worlds listings many lin client (journal_of ds client) j k p low is lost in
      (has, rw answer (ap (λ (i : ℕ). left_before i (ops k) None (journal_of ds client)) number ∙ lost.left, done.1))

  write_good : (t k : ℕ) → k < count → (p : Point) → lin.points k ≡ Some p → p.at ≡ t → (a : Option Reply) → (calls k).answer ≡ a → IsGood (rows_of_moment t true k ++ behind t) (row_of names boundary ops k (calls k) p.reply)
  write_good t k low p is at None answer = subst (λ (m : ℕ). IsGood (rows_of_moment m true k ++ behind m) (row_of names boundary ops k (calls k) p.reply)) at (lost_good k low p is answer)
  write_good t k low p is at (Some told) answer = (of.of_calls k low, rw answer tt)

  writes_good : (t k : ℕ) → k ≤ count → AllGood (behind t) → AllGood (rows_of_moment t true k ++ behind t)
  writes_good t zero most good = good
  writes_good t (suc k) most good = row_at_good t true k (rows_of_moment t true k) (behind t) (writes_good t k (omega (arith, most)) good) (λ p is at does. write_good t k (omega (arith, most)) p is at (calls k).answer refl) (lin.points k) refl

  log_good : (t : ℕ) → AllGood (log_to t)
  log_good zero = tt
  log_good (suc t) = writes_good t count (omega arith) (reads_good t count (lists_of_moment t many ++ log_to t) (omega arith) (lists_good t many (log_to t) (omega arith) (log_good t)))

  -- The log, the oldest row first, and the diaries with its places.

  abbrev pub log_of_folder : List LogRow
  log_of_folder = reverse (log_to n)

  abbrev placed_diary : AuditedDiary T → AuditedDiary T
  placed_diary d = record { client = d.client; rows = placed (rows_of d.client 0 log_of_folder) d.rows; part = d.part }

  abbrev pub placed_diaries : List (AuditedDiary T)
  placed_diaries = map placed_diary ds

  like_by : (client p : ℕ) (all : List Taken) (receipts : List Receipt) (xs : List LogRow) → ((x : Taken) (r : Receipt) → IsTold names boundary ops n worlds listings many x r → Contains all x → (its_row names boundary ops n worlds listings many lin x).reply ≡ r.reply) → AreTold names boundary ops n worlds listings many all receipts → filter (is_taken client) xs ≡ map (its_row names boundary ops n worlds listings many lin) all → Like (rows_of client p xs) receipts
  like_by client p all receipts [] replies told same = none_by all receipts told same
    where
      none_by : (all : List Taken) (receipts : List Receipt) → AreTold names boundary ops n worlds listings many all receipts → [] ≡ map (its_row names boundary ops n worlds listings many lin) all → Like [] receipts
      none_by [] [] told same = tt
      none_by [] (r ∷ receipts) told same = absurd told
      none_by (x ∷ all) receipts told same = absurd (cc)
  like_by client p all receipts (row ∷ xs) replies told same = by all receipts replies told (is_taken client row) same (λ more rs. like_by client (p + 1) more rs xs)
    where
      its_request : (x : Taken) (r : Receipt) → IsTold names boundary ops n worlds listings many x r → (its_row names boundary ops n worlds listings many lin x).request ≡ r.request
      its_request (Called c) r told = sym told.0
      its_request (Listed j) r told = sym told.0

      by : (all : List Taken) (receipts : List Receipt) → ((x : Taken) (r : Receipt) → IsTold names boundary ops n worlds listings many x r → Contains all x → (its_row names boundary ops n worlds listings many lin x).reply ≡ r.reply) → AreTold names boundary ops n worlds listings many all receipts → (b : Bool) → (if b then row ∷ filter (is_taken client) xs else filter (is_taken client) xs) ≡ map (its_row names boundary ops n worlds listings many lin) all →
          ((more : List Taken) (rs : List Receipt) → ((x : Taken) (r : Receipt) → IsTold names boundary ops n worlds listings many x r → Contains more x → (its_row names boundary ops n worlds listings many lin x).reply ≡ r.reply) → AreTold names boundary ops n worlds listings many more rs → filter (is_taken client) xs ≡ map (its_row names boundary ops n worlds listings many lin) more → Like (rows_of client (p + 1) xs) rs) →
          Like (if b then receipt_at p row ∷ rows_of client (p + 1) xs else rows_of client (p + 1) xs) receipts
      by all receipts replies told false same more = more all receipts replies told same
      by [] receipts replies told true same more = absurd (cc)
      by (x ∷ all) [] replies told true same more = absurd told
      by (x ∷ all) (r ∷ receipts) replies told true same more =
          let head : row ≡ its_row names boundary ops n worlds listings many lin x = cc in
          let tail : filter (is_taken client) xs ≡ map (its_row names boundary ops n worlds listings many lin) all = cc in (
            (ap (λ (y : LogRow). y.request) head ∙ its_request x r told.0, ap (λ (y : LogRow). y.reply) head ∙ replies x r told.0 (0, omega arith, refl)),
            more all receipts (λ y s is has. let low = has.1 in replies y s is (suc has.0, omega (arith, low), has.2)) told.1 tail,
          )

  its_reply : (client : ℕ) (journal : List (JournalRow T)) (j : Keeps client journal) (x : Taken) (r : Receipt) → IsTold names boundary ops n worlds listings many x r → Contains j.all x → (its_row names boundary ops n worlds listings many lin x).reply ≡ r.reply
  its_reply client journal j (Called c) r told has =
      let low = j.its (Called c) has in
      let p = lin.answered c r.reply low.0 told.1 in
      rw p.1 p.2
  its_reply client journal j (Listed i) r told has = sym told.1

  like : (client : ℕ) (journal : List (JournalRow T)) → Keeps client journal → Like (rows_of client 0 log_of_folder) (receipts_in journal)
  like client journal j =
      like_by client 0 j.all (receipts_in journal) log_of_folder (its_reply client journal j) j.told
      (filter_reverse (is_taken client) (log_to n) ∙ ap reverse (all_taken names boundary ops n worlds listings many lin client journal j) ∙ reverse-reverse (map (its_row names boundary ops n worlds listings many lin) j.all))

  journal_by : (client : ℕ) (d : AuditedDiary T) (rest : List (AuditedDiary T)) → journal_of (map placed_diary rest) client ≡ placed (rows_of client 0 log_of_folder) (journal_of rest client) → (b : Bool) → (d.client == client) ≡ b → (if b then placed (rows_of d.client 0 log_of_folder) d.rows else journal_of (map placed_diary rest) client) ≡ placed (rows_of client 0 log_of_folder) (if b then d.rows else journal_of rest client)
  journal_by client d rest more true is = ap (λ (c : ℕ). placed (rows_of c 0 log_of_folder) d.rows) (eqb-true d.client client is)
  journal_by client d rest more false is = more

  placed_journal : (client : ℕ) (all : List (AuditedDiary T)) → journal_of (map placed_diary all) client ≡ placed (rows_of client 0 log_of_folder) (journal_of all client)
  placed_journal client [] = refl
  placed_journal client (d ∷ all) = journal_by client d all (placed_journal client all) (d.client == client) refl

  has_placed : (client : ℕ) (all : List (AuditedDiary T)) → HasClient all client → HasClient (map placed_diary all) client
  has_placed client [] has = absurd has
  has_placed client (d ∷ all) (inl same) = inl same
  has_placed client (d ∷ all) (inr more) = inr (has_placed client all more)

  was_placed : (client : ℕ) (all : List (AuditedDiary T)) → HasClient (map placed_diary all) client → HasClient all client
  was_placed client [] has = absurd has
  was_placed client (d ∷ all) (inl same) = inl same
  was_placed client (d ∷ all) (inr more) = inr (was_placed client all more)

  differ : (all : List (AuditedDiary T)) → HaveDifferentClients all → HaveDifferentClients (map placed_diary all)
  differ [] apart_all = tt
  differ (d ∷ all) apart_all = (λ has. apart_all.0 (was_placed d.client all has), differ all apart_all.1)

  have_rows : (all : List (AuditedDiary T)) → AllKeep names boundary ops n worlds listings many all → HaveRows log_of_folder (map placed_diary all)
  have_rows [] keep = tt
  have_rows (d ∷ all) keep = (receipts_placed (rows_of d.client 0 log_of_folder) d.rows (like d.client d.rows keep.0), have_rows all keep.1)

  same : (all : List (AuditedDiary T)) → AllKeep names boundary ops n worlds listings many all → AreSameDiaries all (map placed_diary all)
  same [] keep = tt
  same (d ∷ all) keep = (refl, refl, same_placed (rows_of d.client 0 log_of_folder) d.rows (like d.client d.rows keep.0), same all keep.1)

  has_diaries : (xs : List LogRow) → AllGood xs → HasDiaries (reverse xs) placed_diaries
  has_diaries [] good = tt
  has_diaries (row ∷ xs) good = subst (λ (l : List LogRow). HasDiaries l placed_diaries) (sym (reverse_first row xs)) (diaries_append placed_diaries (reverse xs) (row ∷ []) (has_diaries xs good.1) (has_placed row.client ds good.0.0, tt))

  -- a landing was left before the client's next receipt, by its place
  was_left : (done xs : List LogRow) (row : LogRow) → log_to n ≡ done ++ row ∷ xs → HasClient ds row.client → (landed : Option ℕ) → LandedSo xs row landed → WasLeft (length (reverse xs)) row landed placed_diaries
  was_left done xs row is has None so = tt
  was_left done xs row is has (Some op) so =
      let client = row.client in
      let whole : log_of_folder ≡ reverse xs ++ (row ∷ reverse done) = ap reverse is ∙ reverse-append done (row ∷ xs) ∙ ap (λ (l : List LogRow). l ++ reverse done) (reverse_first row xs) ∙ append_assoc (reverse xs) (row ∷ []) (reverse done) in
      let number : count_front (length (reverse xs)) (rows_of client 0 log_of_folder) ≡ length (filter (is_taken client) xs) =
      ap (λ (l : List LogRow). count_front (length (reverse xs)) (rows_of client 0 l)) whole
      ∙ count_is client (reverse xs) (row ∷ reverse done)
      ∙ ap length (filter_reverse (is_taken client) xs)
      ∙ length-reverse (filter (is_taken client) xs) in (
        ap (λ (l : List (JournalRow T)). left_at (length (reverse xs)) op None l) (placed_journal client ds)
            ∙ left_placed (length (reverse xs)) op None (rows_of client 0 log_of_folder) (journal_of ds client) (like client (journal_of ds client) (keeps client has))
            ∙ ap (λ (i : ℕ). left_before i op None (journal_of ds client)) number
            ∙ so.0,
        so.1,
      )

  were_left : (done xs : List LogRow) → log_to n ≡ done ++ xs → AllGood xs → WereLeft 0 (reverse xs) placed_diaries
  were_left done [] is good = tt
  were_left done (row ∷ xs) is good =
      subst (λ (l : List LogRow). WereLeft 0 l placed_diaries) (sym (reverse_first row xs))
      (left_append 0 placed_diaries (reverse xs) (row ∷ [])
      (were_left (done ++ row ∷ []) xs (is ∙ sym (append_assoc done (row ∷ []) xs)) good.1)
      (let zero_first : length (reverse xs) ≡ 0 + length (reverse xs) = omega arith in subst (λ (place : ℕ). WasLeft place row row.landed placed_diaries) zero_first (was_left done xs row is good.0.0 row.landed good.0.1), tt))

  -- the verdict that is due
  pub agrees : IsDue log_of_folder placed_diaries (Ok tt)
  agrees = (differ ds of.differ, has_diaries (log_to n) (log_good n), have_rows ds of.keep, were_left [] (log_to n) refl (log_good n))

  pub same_diaries : AreSameDiaries ds placed_diaries
  same_diaries = same ds of.keep
