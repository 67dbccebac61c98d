-- What the store's answers are told as. It assumes nothing.
use Rattle.std.specs.Prelude.{◌≡◌, ℕ, List, Some, None, Ok, Err, vec_items, Option, Result, Vec}
use Rattle.std.specs.declared.alloc.Global.{Global}
use Rattle.awl.specs.declared.refusals.Refusal.TheVariants as refusal
use Rattle.reader.specs.Faults.{block_refusal, line_of_block, column_of_block}
use Rattle.store.specs.declared.refusals.WriteRefusal.{WriteRefusal}
use Rattle.store.specs.declared.refusals.WriteRefusal.TheVariants.{Text, NoFreePlace}
use Rattle.walk.specs.Faults.{fault_number}
use Rattle.checker.specs.Verdicts.{Verdict}
use Rattle.answers.specs.declared.Answer.{Answer}
use Rattle.answers.specs.declared.Answer.TheVariants.{Done, Nothing, Refused, RefusedAt, Pass, Fault, Words}

-- ok, or refused N LINE COLUMN for the text, or refused N where there is no place
abbrev pub write_told : Result (Unit {0}) WriteRefusal → Answer
write_told (Ok x) = Done
write_told (Err (Text f)) = RefusedAt (block_refusal f) (line_of_block f) (column_of_block f)
write_told (Err NoFreePlace) = Refused refusal.NoFreePlace

-- pass, or K KIND N STATEMENT NUMBER
abbrev pub verdict_told : Verdict → Answer
verdict_told (Ok pass) = Pass
verdict_told (Err f) = Fault f.block f.statement (fault_number f.fault)

-- all words, or none
abbrev pub WordsTold : Option (List ℕ) → Answer → Type 0
WordsTold None a = a ≡ Nothing
WordsTold (Some ws) a = (v : Vec ℕ Global) × (a ≡ Words v) × (vec_items v ≡ ws)
