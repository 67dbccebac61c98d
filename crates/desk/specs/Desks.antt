-- What is answered to a line, and what the line leaves on the desk. It assumes nothing.
use Rattle.std.specs.Prelude.{◌≡◌, ℕ, ◌-◌, Bool, cond, ◌&&◌, List, length, take, Some, None, MatchBool, Option, ◌==◌, nat_le, slice_index}
use Rattle.answers.specs.Written.{written}
use Rattle.answers.specs.declared.Answer.{Answer}
use Rattle.answers.specs.declared.Answer.TheVariants.{BadLine}
use Rattle.host_desk.specs.Seats.{Seated, host_in, set_answer, after_set, slot_answer, slot_after as host_after}
use Rattle.project_desk.specs.Projects.{Held, project_in, SlotTells, slot_after as project_after}
use Rattle.protocol.specs.Calls.{call_of, is_silent}
use Rattle.protocol.specs.declared.calls.Call.{Call}
use Rattle.protocol.specs.declared.calls.Call.TheVariants.{Project, NewHost, Host}
use Rattle.desk.specs.declared.desks.Desk.{Desk}

-- what lies on the desk: a project or none, and a host or none
pub record OnDesk : Type 0 where
  pub project : Option Held
  pub host : Option Seated

-- what lies in the two slots
abbrev pub desk_of : Desk → OnDesk
desk_of d = record { project = project_in d.project; host = host_in d.host }

-- at first nothing
abbrev pub empty_desk : OnDesk
empty_desk = record { project = None; host = None }

-- the answer to a call
abbrev pub Answered : OnDesk → Call (List ℕ) → Answer → Type 0
Answered d (Project c) a = SlotTells d.project c a
Answered d (NewHost h) a = a ≡ set_answer h
Answered d (Host c) a = a ≡ slot_answer d.host c

-- what a call leaves on the desk: a project call the host, and a host call the project
abbrev pub after_call : OnDesk → Call (List ℕ) → OnDesk
after_call d (Project c) = record { project = project_after d.project c; host = d.host }
after_call d (NewHost h) = record { project = d.project; host = after_set d.host h }
after_call d (Host c) = record { project = d.project; host = host_after d.host c }

-- whether the last byte is 10, which ends a line
abbrev pub is_ended : List ℕ → Bool
is_ended bs = nat_le 1 (length bs) && slice_index bs (length bs - 1) == 10

-- a line is read without the byte that ends it, which the last one may lack
abbrev pub line_of : List ℕ → List ℕ
line_of bs = cond (is_ended bs) (take (length bs - 1) bs) bs

-- what is written in answer to a line that is not silent: its call's answer, or that it is a bad line
abbrev pub RepliedTo : OnDesk → Option (Call (List ℕ)) → Option (List ℕ) → Type 0
RepliedTo d None text = text ≡ Some (written BadLine)
RepliedTo d (Some c) text = (a : Answer) × Answered d c a × (text ≡ Some (written a))

-- what is written in answer to a line; nothing to a silent one
abbrev pub Replied : OnDesk → List ℕ → Option (List ℕ) → Type 0
Replied d line text = MatchBool (is_silent line) (text ≡ None) (RepliedTo d (call_of line) text)

-- a line that is no call leaves all as it was
abbrev pub after_read : OnDesk → Option (Call (List ℕ)) → OnDesk
after_read d None = d
after_read d (Some c) = after_call d c

-- what a line leaves on the desk
abbrev pub after_line : OnDesk → List ℕ → OnDesk
after_line d line = cond (is_silent line) d (after_read d (call_of line))
