-- How a codec refuses bytes.
use Rattle.txn_store.specs.declared.types.codec.CodecFault.{CodecFault}
use Rattle.txn_store.specs.declared.types.codec.CodecFault.TheVariants.{Refused, NoMemory}

-- a fact where the bytes were refused, and not for want of memory
abbrev pub OnRefused : Type 0 → CodecFault → Type 0
OnRefused P (Refused e) = P
OnRefused P NoMemory = Unit {0}
