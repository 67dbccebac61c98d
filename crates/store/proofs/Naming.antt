-- Two names that are found to be the same are one. Assumes nothing.
use Rattle.std.proofs.Common.{◌≡◌, ℕ, true, eqb, Some, None, Option, refl, ap, ◌∙◌, ap₂, arith}
use Rattle.std.proofs.lemmas.Bool.{and_parts, and_from, eqb-true, eq-eqb}
use Rattle.awl.specs.Order.{kind_rank}
use Rattle.awl.specs.declared.names.BlockKind.{BlockKind}
use Rattle.awl.specs.declared.names.BlockKind.TheVariants.{Organisation, Program, Function}
use Rattle.awl.specs.declared.names.BlockName.{BlockName}
use Rattle.store.specs.Slots.{same_name, is_named, share_name}

kind_from_rank : (k l : BlockKind) → kind_rank k ≡ kind_rank l → k ≡ l
kind_from_rank Organisation Organisation h = refl
kind_from_rank Organisation Program h = absurd (omega arith)
kind_from_rank Organisation Function h = absurd (omega arith)
kind_from_rank Program Organisation h = absurd (omega arith)
kind_from_rank Program Program h = refl
kind_from_rank Program Function h = absurd (omega arith)
kind_from_rank Function Organisation h = absurd (omega arith)
kind_from_rank Function Program h = absurd (omega arith)
kind_from_rank Function Function h = refl

-- names that are found the same are one, and one name is found the same
pub name_from_same : (a b : BlockName) → same_name a b ≡ true → a ≡ b
name_from_same a b h =
    let p = and_parts (eqb (kind_rank a.kind) (kind_rank b.kind)) (eqb a.number b.number) h in
    let kinds = kind_from_rank a.kind b.kind (eqb-true (kind_rank a.kind) (kind_rank b.kind) p.0) in
    let numbers = eqb-true a.number b.number p.1 in
    ap₂ (λ (k : BlockKind) (n : ℕ). let r : BlockName = record { kind = k; number = n } in r) kinds numbers

pub same_from_name : (a b : BlockName) → a ≡ b → same_name a b ≡ true
same_from_name a b e =
    and_from (eqb (kind_rank a.kind) (kind_rank b.kind)) (eqb a.number b.number)
    (eq-eqb (kind_rank a.kind) (kind_rank b.kind) (ap (λ (n : BlockName). kind_rank n.kind) e))
    (eq-eqb a.number b.number (ap (λ (n : BlockName). n.number) e))

-- a slot that is found to have a name has it, and one that has it is found to
pub name_from_named : (o : Option BlockName) (n : BlockName) → is_named o n ≡ true → o ≡ Some n
name_from_named None n h = let z : ◌≡◌ {A = ℕ} 0 1 = cc in absurd (omega arith)
name_from_named (Some m) n h = ap Some (name_from_same m n h)

pub named_from_name : (o : Option BlockName) (n : BlockName) → o ≡ Some n → is_named o n ≡ true
named_from_name o n e = ap (λ (x : Option BlockName). is_named x n) e ∙ same_from_name n n refl

-- slots that share a name have it, and those that have one share it
pub share_from_names : (a b : Option BlockName) (n : BlockName) → a ≡ Some n → b ≡ Some n → share_name a b ≡ true
share_from_names a b n e f = ap (λ (x : Option BlockName). share_name x b) e ∙ named_from_name b n f

pub name_from_share : (a b : Option BlockName) → share_name a b ≡ true → (n : BlockName) × (a ≡ Some n) × (b ≡ Some n)
name_from_share None b h = let z : ◌≡◌ {A = ℕ} 0 1 = cc in absurd (omega arith)
name_from_share (Some n) b h = (n, refl, name_from_named b n h)

-- a slot that no block has is that of no name
pub none_named : (n : BlockName) → None ≡ Some n → ⊥
none_named n e = let z : ◌≡◌ {A = ℕ} 0 1 = cc in omega arith
