-- The steps of a listing of versions within bounds: page by page, keeping those of each.
use Rattle.std.specs.Prelude.{ℕ, List, [], ◌++◌, Option, Some, None, Result, Ok, Err}
use Rattle.std.specs.declared.ops.Bound.{Bound}
use Rattle.txn_store.specs.Paths.{Segments}
use Rattle.txn_store.specs.VersionName.{Names}
use Rattle.txn_store.specs.declared.store.ObjectMeta.{ObjectMeta}
use Rattle.txn_store.specs.declared.store.StoreError.{StoreError}
use Rattle.txn_store.specs.declared.page.Page.{Page}
use Rattle.txn_store.specs.declared.request.Reply.{Reply}
use Rattle.txn_store.specs.declared.request.Reply.TheVariants as replies
use Rattle.txn_store.specs.types.Errors.{store_error_number}
use Rattle.txn_steps.specs.declared.boundary.turned.Turned.{Turned}
use Rattle.txn_steps.specs.declared.boundary.turned.Turned.TheVariants.{Goes, Done}
use Rattle.txn_steps.specs.declared.listing.ListOp.{ListOp}
use Rattle.txn_steps.specs.Requests.{version_page, next_after}
use Rattle.txn_steps.specs.Listed.{Listed}
use Rattle.txn_steps.specs.Picked.{picked}

-- it asks for the first page of the versions, of so many files at most
abbrev pub listing_started : Names → ℕ → Bound ℕ → Bound ℕ → ListOp
listing_started names page from to = record { from = from; to = to; found = []; request = version_page names None page }

abbrev pub with_found : ListOp → List Listed → ListOp
with_found op found = record { from = op.from; to = op.to; found = found; request = op.request }

-- what it found, with what a page tells
abbrev pub listing_found : Names → ListOp → List ObjectMeta → List Listed
listing_found names op metas = op.found ++ picked names op.from op.to metas

-- it asks for the page after a path
abbrev pub listing_paged : Names → ℕ → ListOp → Segments → List ObjectMeta → ListOp
listing_paged names page op after metas = record { from = op.from; to = op.to; found = listing_found names op metas; request = version_page names (Some after) page }

abbrev pub listing_after : Names → ℕ → ListOp → List ObjectMeta → Option Segments → ListOp × Turned (Result (List Listed) ℕ)
listing_after names page op metas (Some after) = (listing_paged names page op after metas, Goes)
listing_after names page op metas None = (with_found op [], Done (Ok (listing_found names op metas)))

-- after a page
abbrev pub listing_got : Names → ℕ → ListOp → Page → ListOp × Turned (Result (List Listed) ℕ)
listing_got names page op told = listing_after names page op told.metas (next_after told)

abbrev pub listing_answered : Names → ℕ → ListOp → Result Page StoreError → ListOp × Turned (Result (List Listed) ℕ)
listing_answered names page op (Ok told) = listing_got names page op told
listing_answered names page op (Err error) = (op, Done (Err (store_error_number error)))

-- what it makes of a reply, memory aside
abbrev pub listing_turned : Names → ℕ → ListOp → Option Reply → ListOp × Turned (Result (List Listed) ℕ)
listing_turned names page op (Some (replies.List answer)) = listing_answered names page op answer
listing_turned names page op (Some reply) = (op, Goes)
listing_turned names page op None = (op, Goes)
