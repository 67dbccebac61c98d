-- How an answer is written. It assumes nothing.
use Rattle.std.specs.Prelude.{ℕ, ◌+◌, ◌/◌, ◌%◌, cond, List, [], ◌∷◌, ◌++◌, vec_items, codes, decimal, nat_lt}
use Rattle.std.specs.List.{flat_map}
use Rattle.awl.specs.Refusals.{refusal_number}
use Rattle.awl.specs.Names.{block_name_text}
use Rattle.awl.specs.declared.names.BlockName.{BlockName}
use Rattle.answers.specs.declared.Answer.{Answer}
use Rattle.answers.specs.declared.Answer.TheVariants.{Done, Yes, No, Number, Nothing, Refused, RefusedAt, Pass, Fault, Bytes, Words, BadLine}

-- a hexadecimal digit, in lower case
abbrev pub hex_char : ℕ → ℕ
hex_char d = cond (nat_lt d 10) (48 + d) (87 + d)

-- a byte is two digits, the higher first
abbrev pub hex_pair : ℕ → List ℕ
hex_pair b = hex_char (b / 16) ∷ hex_char (b % 16) ∷ []

-- a word of 16 bits is four
abbrev pub hex_quad : ℕ → List ℕ
hex_quad n = hex_pair (n / 256) ++ hex_pair (n % 256)

-- refused N
abbrev pub refused_text : ℕ → List ℕ
refused_text number = codes "refused " ++ decimal number

-- refused N LINE COLUMN
abbrev pub refused_at_text : ℕ → ℕ → ℕ → List ℕ
refused_at_text number line column = codes "refused " ++ (decimal number ++ (codes " " ++ (decimal line ++ (codes " " ++ decimal column))))

-- K KIND N STATEMENT NUMBER
abbrev pub fault_text : BlockName → ℕ → ℕ → List ℕ
fault_text block statement number =
    codes "K " ++ (block_name_text block ++ (codes " " ++ (decimal statement ++ (codes " " ++ decimal number))))

-- each answer as it is written, without the end of its line
abbrev pub written : Answer → List ℕ
written Done = codes "ok"
written Yes = codes "yes"
written No = codes "no"
written (Number n) = decimal n
written Nothing = codes "none"
written (Refused r) = refused_text (refusal_number r)
written (RefusedAt r line column) = refused_at_text (refusal_number r) line column
written Pass = codes "pass"
written (Fault block statement number) = fault_text block statement number
written (Bytes bs) = flat_map hex_pair bs
written (Words ws) = flat_map hex_quad (vec_items ws)
written BadLine = codes "bad line"
