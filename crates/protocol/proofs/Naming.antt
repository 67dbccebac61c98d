-- Names are told apart, and no other bytes are one. Assumes nothing.
use Rattle.std.proofs.Common.{◌≡◌, ℕ, List, [], ◌∷◌, Some, Option, refl, MatchOption}
use Rattle.awl.specs.declared.names.BlockKind.{BlockKind}
use Rattle.awl.specs.declared.names.BlockKind.TheVariants.{Organisation, Program, Function}
use Rattle.protocol.specs.declared.names.Verb.{Verb}
use Rattle.protocol.specs.declared.names.Verb.TheVariants.{Project, NewHost, Host}
use Rattle.protocol.specs.declared.names.ProjectVerb.TheVariants.{Open, Write, Erase, Lay, Check, Word, Data}
use Rattle.protocol.specs.declared.names.HostVerb.TheVariants.{SetElapsed, SetInput, Input, Output, Elapsed, Taken, Outputs, Give, Advance}
use Rattle.protocol.specs.declared.names.HostKind.{HostKind}
use Rattle.protocol.specs.declared.names.HostKind.TheVariants.{Bench, Feed, MaskBench, MaskFeed}
use Rattle.awl.specs.Names.{kind_letters}
use Rattle.awl.specs.Named.{first_named}
use Rattle.awl.proofs.Named.{known}
use Rattle.protocol.specs.Names.{verb_name, verbs, verb_of, host_kind_name, host_kind_of, block_kind_of}

first_verb : (v : Verb) → first_named verb_name verbs (verb_name v) ≡ Some v
first_verb (Project Open) = refl
first_verb (Project Write) = refl
first_verb (Project Erase) = refl
first_verb (Project Lay) = refl
first_verb (Project Check) = refl
first_verb (Project Word) = refl
first_verb (Project Data) = refl
first_verb NewHost = refl
first_verb (Host SetElapsed) = refl
first_verb (Host SetInput) = refl
first_verb (Host Input) = refl
first_verb (Host Output) = refl
first_verb (Host Elapsed) = refl
first_verb (Host Taken) = refl
first_verb (Host Outputs) = refl
first_verb (Host Give) = refl
first_verb (Host Advance) = refl

pub known_verb : (bs : List ℕ) (r : Option Verb) → MatchOption r ((v : Verb) → verb_name v ≡ bs → ⊥) (λ v. verb_name v ≡ bs) → r ≡ verb_of bs
unfolding verb_of
known_verb = known verb_name verbs first_verb

first_host : (k : HostKind) → first_named host_kind_name (Bench ∷ Feed ∷ MaskBench ∷ MaskFeed ∷ []) (host_kind_name k) ≡ Some k
first_host Bench = refl
first_host Feed = refl
first_host MaskBench = refl
first_host MaskFeed = refl

pub known_host : (bs : List ℕ) (r : Option HostKind) → MatchOption r ((k : HostKind) → host_kind_name k ≡ bs → ⊥) (λ k. host_kind_name k ≡ bs) → r ≡ host_kind_of bs
unfolding host_kind_of
known_host = known host_kind_name (Bench ∷ Feed ∷ MaskBench ∷ MaskFeed ∷ []) first_host

first_block : (k : BlockKind) → first_named kind_letters (Organisation ∷ Program ∷ Function ∷ []) (kind_letters k) ≡ Some k
first_block Organisation = refl
first_block Program = refl
first_block Function = refl

pub known_block : (bs : List ℕ) (r : Option BlockKind) → MatchOption r ((k : BlockKind) → kind_letters k ≡ bs → ⊥) (λ k. kind_letters k ≡ bs) → r ≡ block_kind_of bs
unfolding block_kind_of
known_block = known kind_letters (Organisation ∷ Program ∷ Function ∷ []) first_block
