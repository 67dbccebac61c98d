-- What slots that no block has hold: nothing. Assumes nothing.
use Rattle.std.proofs.Common.{◌≡◌, ℕ, zero, suc, ◌+◌, List, [], replicate, None, refl, arith}
use Rattle.awl.specs.declared.names.BlockName.{BlockName}
use Rattle.awl.specs.declared.statements.Statement.{Statement}
use Rattle.store.specs.Slots.{free, slot_from, name_in, size_in, names_in, Single, Emptied, Small, AllReadable}
use Rattle.store.proofs.Naming.{name_from_share}

name_free : (n i : ℕ) → name_in (replicate n free) i ≡ None
name_free zero i = refl
name_free (suc n) zero = refl
name_free (suc n) (suc i) = name_free n i

size_free : (n i : ℕ) → size_in (replicate n free) i ≡ 0
size_free zero i = refl
size_free (suc n) zero = refl
size_free (suc n) (suc i) = size_free n i

pub slot_free : (n k : ℕ) (m : BlockName) → slot_from k (replicate n free) m ≡ None
slot_free zero k m = refl
slot_free (suc n) k m = slot_free n (k + 1) m

pub names-free : (n : ℕ) → names_in (replicate n free) ≡ []
names-free zero = refl
names-free (suc n) = names-free n

pub single_free : (n : ℕ) → Single (replicate n free)
single_free n i j h =
    let shared = name_from_share (name_in (replicate n free) i) (name_in (replicate n free) j) h in
    let none = name_free n i in
    let some = shared.1 in
    let z : ◌≡◌ {A = ℕ} 0 1 = cc in
    absurd (omega arith)

pub emptied_free : (n : ℕ) → Emptied (replicate n free)
emptied_free n i h = size_free n i

pub small_free : (n : ℕ) → Small (replicate n free)
small_free n i = omega (arith, size_free n i)

pub readable_free : (n : ℕ) (table : List Statement) → AllReadable (replicate n free) table
readable_free n table i m h =
    let none = name_free n i in
    let z : ◌≡◌ {A = ℕ} 0 1 = cc in
    absurd (omega arith)
