-- Which call a line asks for. It assumes nothing.
use Rattle.std.specs.Prelude.{ℕ, Bool, cond, ◌||◌, List, length, is_some, Some, None, Option, ◌==◌, slice_index}
use Rattle.std.specs.Option.{option_map}
use Rattle.awl.specs.declared.names.BlockName.{BlockName}
use Rattle.protocol.specs.declared.calls.Call.{Call}
use Rattle.protocol.specs.declared.calls.Call.TheVariants as call
use Rattle.protocol.specs.declared.calls.ProjectCall.{ProjectCall}
use Rattle.protocol.specs.declared.calls.ProjectCall.TheVariants.{Open, Write, Erase, Lay, Check, Word, Data}
use Rattle.protocol.specs.declared.calls.NewHost.{NewHost}
use Rattle.protocol.specs.declared.calls.NewHost.TheVariants.{Bench, Feed}
use Rattle.protocol.specs.declared.calls.HostCall.{HostCall}
use Rattle.protocol.specs.declared.calls.HostCall.TheVariants.{SetElapsed, SetInput, Input, Output, Elapsed, Taken, Outputs, Give, Advance}
use Rattle.protocol.specs.declared.names.ProjectVerb.{ProjectVerb}
use Rattle.protocol.specs.declared.names.ProjectVerb.TheVariants as project
use Rattle.protocol.specs.declared.names.HostVerb.{HostVerb}
use Rattle.protocol.specs.declared.names.HostVerb.TheVariants as ask
use Rattle.protocol.specs.declared.names.HostKind.{HostKind}
use Rattle.protocol.specs.declared.names.HostKind.TheVariants as kind
use Rattle.protocol.specs.declared.names.Verb.{Verb}
use Rattle.protocol.specs.declared.names.Verb.TheVariants as verb
use Rattle.protocol.specs.Words.{words_of, nth}
use Rattle.protocol.specs.Numbers.{number_within}
use Rattle.protocol.specs.Names.{verb_of, host_kind_of, block_kind_of}
use Rattle.protocol.specs.Hex.{hex_of}

-- two parts put together, where both are there
abbrev pub two : {X Y Z : Type 0} → (X → Y → Z) → Option X → Option Y → Option Z
two f None y = None
two f (Some x) None = None
two f (Some x) (Some y) = Some (f x y)

-- three parts put together, where all are there
abbrev pub three : {X Y Z U : Type 0} → (X → Y → Z → U) → Option X → Option Y → Option Z → Option U
three f None y z = None
three f (Some x) y z = two (f x) y z

-- a number of one byte
abbrev pub byte : List ℕ → Option ℕ
byte w = number_within 255 w

-- a number of two bytes
abbrev pub short : List ℕ → Option ℕ
short w = number_within 65535 w

-- a number of four bytes
abbrev pub long : List ℕ → Option ℕ
long w = number_within 4294967295 w

-- the length of a table has a bound, so that a slip of the hand takes no more than a part of the memory
abbrev pub table_length : List ℕ → Option ℕ
table_length w = number_within 1000000 w

-- a block is named by its kind and its number
abbrev pub block_of : List ℕ → List ℕ → Option BlockName
block_of k n = two (λ kind number. record { kind = kind; number = number }) (block_kind_of k) (byte n)

-- how many words each call of the project has
abbrev pub project_size : ProjectVerb → ℕ
project_size project.Open = 5
project_size project.Write = 5
project_size project.Erase = 4
project_size project.Lay = 4
project_size project.Check = 2
project_size project.Word = 4
project_size project.Data = 3

-- the call of the project, by the words behind the slot
abbrev pub project_call : ProjectVerb → List ℕ → List ℕ → List ℕ → Option (ProjectCall (List ℕ))
project_call project.Open w x y = three Open (long w) (table_length x) (table_length y)
project_call project.Write w x y = two Write (block_of w x) (hex_of y)
project_call project.Erase w x y = option_map Erase (block_of w x)
project_call project.Lay w x y = two Lay (byte w) (short x)
project_call project.Check w x y = Some Check
project_call project.Word w x y = two Word (byte w) (byte x)
project_call project.Data w x y = option_map Data (byte w)

-- how many words each call of the host has
abbrev pub host_size : HostVerb → ℕ
host_size ask.SetElapsed = 3
host_size ask.SetInput = 4
host_size ask.Input = 3
host_size ask.Output = 3
host_size ask.Elapsed = 2
host_size ask.Taken = 3
host_size ask.Outputs = 2
host_size ask.Give = 4
host_size ask.Advance = 2

-- the call of the host, by the words behind the slot
abbrev pub host_call : HostVerb → List ℕ → List ℕ → Option HostCall
host_call ask.SetElapsed w x = option_map SetElapsed (long w)
host_call ask.SetInput w x = two SetInput (byte w) (byte x)
host_call ask.Input w x = option_map Input (byte w)
host_call ask.Output w x = option_map Output (byte w)
host_call ask.Elapsed w x = Some Elapsed
host_call ask.Taken w x = option_map Taken (byte w)
host_call ask.Outputs w x = Some Outputs
host_call ask.Give w x = two Give (byte w) (byte x)
host_call ask.Advance w x = Some Advance

-- a bench has 128 bytes each way
abbrev pub row : Option (List ℕ) → Option (List ℕ)
row None = None
row (Some bs) = cond (length bs == 128) (Some bs) None

-- how many words it takes to set a host, by its kind
abbrev pub kind_size : HostKind → ℕ
kind_size kind.Bench = 5
kind_size kind.Feed = 4
kind_size kind.MaskBench = 6
kind_size kind.MaskFeed = 5

-- the host, by the words behind its kind
abbrev pub new_host : HostKind → List ℕ → List ℕ → List ℕ → Option (NewHost (List ℕ))
new_host kind.Bench w x y = two (Bench None) (row (hex_of w)) (row (hex_of x))
new_host kind.Feed w x y = option_map (Feed None) (hex_of w)
new_host kind.MaskBench w x y = three (λ bits. Bench (Some bits)) (long w) (row (hex_of x)) (row (hex_of y))
new_host kind.MaskFeed w x y = two (λ bits. Feed (Some bits)) (long w) (hex_of x)

-- no call has words too many or too few
abbrev pub sized : {X : Type 0} → ℕ → List (List ℕ) → Option X → Option X
sized n ws call = cond (length ws == n) call None

-- the kind of a host that is to be set is the third word
abbrev pub new_host_of : Option HostKind → List (List ℕ) → Option (NewHost (List ℕ))
new_host_of None ws = None
new_host_of (Some k) ws = sized (kind_size k) ws (new_host k (nth ws 3) (nth ws 4) (nth ws 5))

-- the first word says which call it is
abbrev pub verb_call : Option Verb → List (List ℕ) → Option (Call (List ℕ))
verb_call None ws = None
verb_call (Some (verb.Project v)) ws = option_map call.Project (sized (project_size v) ws (project_call v (nth ws 2) (nth ws 3) (nth ws 4)))
verb_call (Some verb.NewHost) ws = option_map call.NewHost (new_host_of (host_kind_of (nth ws 2)) ws)
verb_call (Some (verb.Host v)) ws = option_map call.Host (sized (host_size v) ws (host_call v (nth ws 2) (nth ws 3)))

-- the slot is the second word, and there is none but 0
abbrev pub is_slot : List ℕ → Bool
is_slot w = is_some (number_within 0 w)

-- the call that a line asks for; none where the line is a bad one
unfoldable pub call_of : List ℕ → Option (Call (List ℕ))
call_of line = cond (is_slot (nth (words_of line) 1)) (verb_call (verb_of (nth (words_of line) 0)) (words_of line)) None

-- an empty line, and one that starts with # (35), is no call and gets no answer
abbrev pub is_silent : List ℕ → Bool
is_silent line = length line == 0 || slice_index line 0 == 35

-- the same call of the project, with its text held in another way
abbrev pub project_texts : {X Y : Type 0} → (X → Y) → ProjectCall X → ProjectCall Y
project_texts f (Open n s w) = Open n s w
project_texts f (Write b t) = Write b (f t)
project_texts f (Erase b) = Erase b
project_texts f (Lay n l) = Lay n l
project_texts f Check = Check
project_texts f (Word d n) = Word d n
project_texts f (Data d) = Data d

-- the same host, with its frame lines held in another way
abbrev pub host_texts : {X Y : Type 0} → (X → Y) → NewHost X → NewHost Y
host_texts f (Bench m i o) = Bench m i o
host_texts f (Feed m t) = Feed m (f t)

-- the same call, with its text held in another way
abbrev pub texts : {X Y : Type 0} → (X → Y) → Call X → Call Y
texts f (call.Project c) = call.Project (project_texts f c)
texts f (call.NewHost h) = call.NewHost (host_texts f h)
texts f (call.Host c) = call.Host c
