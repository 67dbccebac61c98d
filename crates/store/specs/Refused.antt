-- What refusal a refused write tells. It assumes nothing.
use Rattle.awl.specs.declared.refusals.Refusal.{Refusal}
use Rattle.awl.specs.declared.refusals.Refusal.TheVariants as refusal
use Rattle.reader.specs.Faults.{block_refusal}
use Rattle.store.specs.declared.refusals.WriteRefusal.{WriteRefusal}
use Rattle.store.specs.declared.refusals.WriteRefusal.TheVariants.{Text, NoFreePlace}

-- a fault of the text has its own refusal, 1 to 6; no place for one more block is 12
abbrev pub write_refusal : WriteRefusal → Refusal
write_refusal (Text f) = block_refusal f
write_refusal NoFreePlace = refusal.NoFreePlace
