-- The words that are names. It assumes nothing.
use Rattle.std.specs.Prelude.{ℕ, List, [], ◌∷◌, codes, Option}
use Rattle.awl.specs.Named.{first_named}
use Rattle.awl.specs.Names.{kind_letters}
use Rattle.awl.specs.declared.names.BlockKind.{BlockKind}
use Rattle.awl.specs.declared.names.BlockKind.TheVariants.{Organisation, Program, Function}
use Rattle.protocol.specs.declared.names.Verb.{Verb}
use Rattle.protocol.specs.declared.names.Verb.TheVariants.{Project, NewHost, Host}
use Rattle.protocol.specs.declared.names.ProjectVerb.TheVariants.{Open, Write, Erase, Lay, Check, Word, Data}
use Rattle.protocol.specs.declared.names.HostVerb.TheVariants.{SetElapsed, SetInput, Input, Output, Elapsed, Taken, Outputs, Give, Advance}
use Rattle.protocol.specs.declared.names.HostKind.{HostKind}
use Rattle.protocol.specs.declared.names.HostKind.TheVariants.{Bench, Feed, MaskBench, MaskFeed}

-- the first word of each call
abbrev pub verb_name : Verb → List ℕ
verb_name (Project Open) = codes "open"
verb_name (Project Write) = codes "write"
verb_name (Project Erase) = codes "erase"
verb_name (Project Lay) = codes "lay"
verb_name (Project Check) = codes "check"
verb_name (Project Word) = codes "word"
verb_name (Project Data) = codes "data"
verb_name NewHost = codes "host"
verb_name (Host SetElapsed) = codes "setd"
verb_name (Host SetInput) = codes "seti"
verb_name (Host Input) = codes "input"
verb_name (Host Output) = codes "output"
verb_name (Host Elapsed) = codes "elapsed"
verb_name (Host Taken) = codes "taken"
verb_name (Host Outputs) = codes "outputs"
verb_name (Host Give) = codes "give"
verb_name (Host Advance) = codes "advance"

-- all calls, by their first words
abbrev pub verbs : List Verb
verbs =
    Project Open ∷
    Project Write ∷
    Project Erase ∷
    Project Lay ∷
    Project Check ∷
    Project Word ∷
    Project Data ∷
    NewHost ∷
    Host SetElapsed ∷
    Host SetInput ∷
    Host Input ∷
    Host Output ∷
    Host Elapsed ∷
    Host Taken ∷
    Host Outputs ∷
    Host Give ∷
    Host Advance ∷ []

-- the call whose first word the bytes are, or none
unfoldable pub verb_of : List ℕ → Option Verb
verb_of bs = first_named verb_name verbs bs

-- the word for each kind of host
abbrev pub host_kind_name : HostKind → List ℕ
host_kind_name Bench = codes "bench"
host_kind_name Feed = codes "feed"
host_kind_name MaskBench = codes "maskbench"
host_kind_name MaskFeed = codes "maskfeed"

-- the kind of host that the bytes name, or none
unfoldable pub host_kind_of : List ℕ → Option HostKind
host_kind_of bs = first_named host_kind_name (Bench ∷ Feed ∷ MaskBench ∷ MaskFeed ∷ []) bs

-- the kind of block that the bytes name, or none
unfoldable pub block_kind_of : List ℕ → Option BlockKind
block_kind_of bs = first_named kind_letters (Organisation ∷ Program ∷ Function ∷ []) bs
