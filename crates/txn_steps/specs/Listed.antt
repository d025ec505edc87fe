-- A listed version: its id, and what the listing told of its file.
use Rattle.std.specs.Prelude.{ℕ}
use Rattle.txn_store.specs.declared.types.identified.IdentifiedObjectMetadata.{IdentifiedObjectMetadata}

abbrev pub Listed : Type 0
Listed = IdentifiedObjectMetadata ℕ
