-- The host that is there, as its users see it. It assumes nothing.
use Rattle.std.specs.Prelude.{ℕ, Bool, true, false, cond, ◌&&◌, List, [], ◌∷◌, Some, None, Option, nat_lt}
use Rattle.std.specs.Option.{option_map}
use Rattle.awl.specs.declared.refusals.Refusal.TheVariants as refusal
use Rattle.hosts.specs.declared.frames.Frame.{Frame}
use Rattle.hosts.specs.Benches.{bench_of, bench_meaning, with_elapsed, with_input}
use Rattle.hosts.specs.Feeds.{feed_of, feed_meaning, standing, zeros}
use Rattle.hosts.specs.Frames.{accepted, frames}
use Rattle.hosts.specs.Masks.{masked}
use Rattle.hosts.specs.Meaning.{Meaning, below, given}
use Rattle.answers.specs.Told.{yes_no}
use Rattle.answers.specs.declared.Answer.{Answer}
use Rattle.answers.specs.declared.Answer.TheVariants.{Done, Refused, BadLine}
use Rattle.protocol.specs.declared.calls.HostCall.{HostCall}
use Rattle.protocol.specs.declared.calls.HostCall.TheVariants.{SetElapsed, SetInput, Input, Output, Elapsed, Taken, Outputs, Give, Advance}
use Rattle.protocol.specs.declared.calls.NewHost.{NewHost}
use Rattle.protocol.specs.declared.calls.NewHost.TheVariants as new
use Rattle.host_desk.specs.HostCalls.{any_answer}
use Rattle.host_desk.specs.declared.seats.Seat.{Seat}
use Rattle.host_desk.specs.declared.slots.HostSlot.{HostSlot}
use Rattle.host_desk.specs.declared.seats.Seat.TheVariants.{ByHand, Fed}

-- whether it is set by hand, masked or not; what it means; the frames still ahead of it
pub record Seated : Type 0 where
  pub bench : Bool
  pub meaning : Meaning
  pub ahead : List Frame

-- a host that is set by hand has no frames
abbrev pub bench_seated : Meaning → Seated
bench_seated m = record { bench = true; meaning = m; ahead = [] }

-- a host that is fed has these frames ahead
abbrev pub feed_seated : Meaning → List Frame → Seated
feed_seated m fs = record { bench = false; meaning = m; ahead = fs }

-- the host that is there
abbrev pub seated : Seat → Seated
seated (ByHand m) = bench_seated (masked m.bits (bench_meaning m.host))
seated (Fed m) = feed_seated (masked m.bits (feed_meaning m.host)) (standing m.host).ahead

-- a host under a mask of these bits, or as it is
abbrev pub under : Option ℕ → Meaning → Meaning
under None m = m
under (Some bits) m = masked bits m

-- a new host: a bench has the bytes that are asked for and no time has elapsed, a feed has all of its frames ahead
abbrev pub first_seated : NewHost (List ℕ) → Seated
first_seated (new.Bench mask inputs outputs) = bench_seated (under mask (bench_of inputs 0 outputs))
first_seated (new.Feed mask text) = feed_seated (under mask (feed_of zeros 0 zeros)) (frames text)

-- a host is refused if it has frame lines that are not accepted
abbrev pub is_accepted : NewHost (List ℕ) → Bool
is_accepted (new.Bench mask inputs outputs) = true
is_accepted (new.Feed mask text) = accepted text

-- the same host, with another meaning
abbrev pub with_meaning : Seated → Meaning → Seated
with_meaning s m = record { bench = s.bench; meaning = m; ahead = s.ahead }

-- what an advance leaves: a bench stands still; a feed shows the next frame, and past the last keeps its inputs and lets no
-- time elapse
abbrev pub advanced : Bool → Meaning → List Frame → Seated
advanced true m fs = record { bench = true; meaning = m; ahead = fs }
advanced false m [] = feed_seated (record { inputs = m.inputs; elapsed = 0; taken = m.taken; outputs = m.outputs }) []
advanced false m (f ∷ fs) = feed_seated (record { inputs = below 4 f.inputs; elapsed = f.elapsed; taken = m.taken; outputs = m.outputs }) fs

-- what each call leaves of the host
abbrev pub after_call : Seated → HostCall → Seated
after_call s (SetElapsed d) = with_meaning s (cond s.bench (with_elapsed s.meaning d) s.meaning)
after_call s (SetInput n v) = with_meaning s (with_input (s.bench && nat_lt n 128) s.meaning n v)
after_call s (Input n) = s
after_call s (Output n) = s
after_call s Elapsed = s
after_call s (Taken n) = s
after_call s Outputs = s
after_call s (Give n v) = with_meaning s (given s.meaning n v)
after_call s Advance = advanced s.bench s.meaning s.ahead

-- the answer to setd or seti, which are for a bench alone
abbrev pub bench_answer : Bool → Answer → Answer
bench_answer bench answer = cond bench answer BadLine

-- what each call answers
abbrev pub call_answer : Seated → HostCall → Answer
call_answer s (SetElapsed d) = bench_answer s.bench Done
call_answer s (SetInput n v) = bench_answer s.bench (yes_no (nat_lt n 128))
call_answer s (Input n) = any_answer s.meaning (Input n)
call_answer s (Output n) = any_answer s.meaning (Output n)
call_answer s Elapsed = any_answer s.meaning Elapsed
call_answer s (Taken n) = any_answer s.meaning (Taken n)
call_answer s Outputs = any_answer s.meaning Outputs
call_answer s (Give n v) = any_answer s.meaning (Give n v)
call_answer s Advance = any_answer s.meaning Advance

-- a call on an empty slot is a bad line
abbrev pub slot_answer : Option Seated → HostCall → Answer
slot_answer None call = BadLine
slot_answer (Some s) call = call_answer s call

-- the host in a slot, as its users see it
abbrev pub host_in : HostSlot → Option Seated
host_in slot = option_map seated slot.seat

-- a host that is set is granted, or refused for its frame lines
abbrev pub set_answer : NewHost (List ℕ) → Answer
set_answer host = cond (is_accepted host) Done (Refused refusal.Frame)

-- what setting a host leaves in the slot
abbrev pub after_set : Option Seated → NewHost (List ℕ) → Option Seated
after_set old host = cond (is_accepted host) (Some (first_seated host)) old

-- what a call leaves in the slot
abbrev pub slot_after : Option Seated → HostCall → Option Seated
slot_after None call = None
slot_after (Some s) call = Some (after_call s call)
