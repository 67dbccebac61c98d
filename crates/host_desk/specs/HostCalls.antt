-- What the host calls answer, and what they make of the host that is there. It assumes nothing.
use Rattle.std.specs.Prelude.{◌≡◌, ℕ, List, map}
use Rattle.std.specs.List.{range_with_len}
use Rattle.hosts.specs.Meaning.{Meaning, Advanced, given}
use Rattle.answers.specs.Told.{yes_no}
use Rattle.answers.specs.declared.Answer.{Answer}
use Rattle.answers.specs.declared.Answer.TheVariants.{Done, Number, Bytes, BadLine}
use Rattle.protocol.specs.declared.calls.HostCall.{HostCall}
use Rattle.protocol.specs.declared.calls.HostCall.TheVariants.{SetElapsed, SetInput, Input, Output, Elapsed, Taken, Outputs, Give, Advance}

-- output bytes 0 to 127
unfoldable pub output_row : Meaning → List ℕ
output_row m = map m.outputs (range_with_len 0 128)

-- the answer of any host; setd and seti are for a bench alone
abbrev pub any_answer : Meaning → HostCall → Answer
any_answer m (SetElapsed d) = BadLine
any_answer m (SetInput n v) = BadLine
any_answer m (Input n) = Number (m.inputs n)
any_answer m (Output n) = Number (m.outputs n)
any_answer m Elapsed = Number m.elapsed
any_answer m (Taken n) = yes_no (m.taken n)
any_answer m Outputs = Bytes (output_row m)
any_answer m (Give n v) = Done
any_answer m Advance = Done

-- what a call leaves of any host: all but give and advance change nothing
abbrev pub AnyAfter : {S : Type 0} → (S → Meaning) → (S → ℕ → ℕ → S → Type 0) → (S → S → Type 0) → HostCall → S → S → Type 0
AnyAfter meaning gives advances (SetElapsed d) s t = t ≡ s
AnyAfter meaning gives advances (SetInput n v) s t = t ≡ s
AnyAfter meaning gives advances (Input n) s t = t ≡ s
AnyAfter meaning gives advances (Output n) s t = t ≡ s
AnyAfter meaning gives advances Elapsed s t = t ≡ s
AnyAfter meaning gives advances (Taken n) s t = t ≡ s
AnyAfter meaning gives advances Outputs s t = t ≡ s
AnyAfter meaning gives advances (Give n v) s t = (meaning t ≡ given (meaning s) n v) × gives s n v t
AnyAfter meaning gives advances Advance s t = Advanced (meaning s) (meaning t) × advances s t
