-- How the record's codec refuses bytes.
use Rattle.std.specs.Prelude.{Some, codes}
use Rattle.anyhow.specs.Error.{HasMessage}
use Rattle.txn_store.specs.declared.types.codec.CodecFault.{CodecFault}
use Rattle.txn_store.specs.declared.types.codec.CodecFault.TheVariants.{Refused, NoMemory}

-- refused, as a bad record
abbrev pub IsBadRecord : CodecFault → Type 0
IsBadRecord (Refused e) = HasMessage (Some (codes "bad record")) e
IsBadRecord NoMemory = ⊥
