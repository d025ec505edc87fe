-- What a folder tells in a reply that is no error.
use Rattle.std.specs.Prelude.{◌≡◌, ℕ, Option, IfOk, option_map}
use Rattle.txn_store.specs.Paths.{Segments}
use Rattle.txn_store.specs.VersionName.{Names, version_path}
use Rattle.txn_store.specs.declared.page.Page.{Page}
use Rattle.txn_store.specs.declared.store.Got.{Got}
use Rattle.txn_store.specs.declared.request.Request.{Request}
use Rattle.txn_store.specs.declared.request.Request.TheVariants as requests
use Rattle.txn_store.specs.declared.request.Reply.{Reply}
use Rattle.txn_store.specs.declared.request.Reply.TheVariants as replies
use Rattle.txn_folder.specs.Tokens.{IsBoundary, IsTokenOf, boundary_token}
use Rattle.txn_folder.specs.Pages.{IsPageAfter}

-- what is got of the boundary has the number that its bytes say as its token
abbrev pub IsGotOf : Names → Segments → Segments → Got → Type 0
IsGotOf names boundary path got = IsBoundary names boundary path → got.token ≡ boundary_token got.bytes

-- a listing of the versions, which goes on after the path of one where that is given
pub record IsListing (names : Names) (prefix : Segments) (after : Option Segments) (limit : ℕ) (page : Page) : Type 0 where
  pub of_versions : prefix ≡ names.dir
  pub from : Option ℕ
  pub goes_on : after ≡ option_map (version_path names) from
  pub told : IsPageAfter names from limit page

-- what a reply tells, where the greatest number that the store gave was one before the call, and is another after it
abbrev pub Tells : Names → Segments → ℕ → ℕ → Request → Reply → Type 0
Tells names boundary before after (requests.Put path bytes mode) (replies.Put answer) = IfOk answer (IsTokenOf names boundary path bytes before after)
Tells names boundary before after (requests.Get path known) (replies.Get answer) = IfOk answer (IsGotOf names boundary path)
Tells names boundary before after (requests.List prefix from limit) (replies.List answer) = IfOk answer (IsListing names prefix from limit)
Tells names boundary before after request reply = Unit {0}
