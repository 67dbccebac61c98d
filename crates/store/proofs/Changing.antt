-- One slot changed: what the slots keep, and what they hold. Assumes nothing.
use Rattle.std.proofs.Common.{◌≡◌, ℕ, ◌+◌, ◌*◌, ◌<◌, ◌≤◌, true, ◌⊎◌, List, map, length, take, drop, set, Some, None, sym, ap, ◌∙◌, subst, inl, inr, arith}
use lib.Seq.{paste}
use Rattle.std.proofs.lemmas.List.{get_or-set_same, get_or-set_other}
use Rattle.std.proofs.lemmas.Bool.{cases_eq, cases_order}
use Rattle.parser.specs.Statements.{written}
use Rattle.awl.specs.declared.names.BlockName.{BlockName}
use Rattle.awl.specs.declared.statements.Statement.{Statement}
use Rattle.store.specs.Slots.{free, name_in, size_in, statements_in, is_readable, Single, Emptied, Small, AllReadable}
use Rattle.store.specs.declared.slots.Slot.{Slot}
use Rattle.store.proofs.Naming.{name_from_share, share_from_names}
use Rattle.store.proofs.Pasting.{paste_inside, paste_outside}

pub name_put : (ss : List Slot) (i : ℕ) (s : Slot) → i < length ss → name_in (set ss i s) i ≡ s.name
name_put ss i s h = ap (λ (x : Slot). x.name) (get_or-set_same ss i s free h)

pub name_kept : (ss : List Slot) (i j : ℕ) (s : Slot) → (j ≡ i → ⊥) → name_in (set ss i s) j ≡ name_in ss j
name_kept ss i j s h = ap (λ (x : Slot). x.name) (get_or-set_other ss i j s free h)

size_put : (ss : List Slot) (i : ℕ) (s : Slot) → i < length ss → size_in (set ss i s) i ≡ s.size
size_put ss i s h = ap (λ (x : Slot). x.size) (get_or-set_same ss i s free h)

size_kept : (ss : List Slot) (i j : ℕ) (s : Slot) → (j ≡ i → ⊥) → size_in (set ss i s) j ≡ size_in ss j
size_kept ss i j s h = ap (λ (x : Slot). x.size) (get_or-set_other ss i j s free h)

-- what holds of every slot after the change, from what holds of the changed one and of every other
each : (P : ℕ → Type 0) (i : ℕ) → P i → ((j : ℕ) → (j ≡ i → ⊥) → P j) → (j : ℕ) → P j
each P i here else j =
    elim (cases_eq j i) [
      | inl e ↦ subst P (sym e) here
      | inr ne ↦ else j ne
    ]

pub single_set : (ss : List Slot) (i : ℕ) (s : Slot) → i < length ss → Single ss → ((j : ℕ) (n : BlockName) → s.name ≡ Some n → name_in ss j ≡ Some n → j ≡ i) → Single (set ss i s)
single_set ss i s h single only j k shared =
    let p = name_from_share (name_in (set ss i s) j) (name_in (set ss i s) k) shared in
    elim (cases_eq j i) [
      | inl e ↦
          elim (cases_eq k i) [
            | inl f ↦ e ∙ sym f
            | inr nf ↦ e ∙ sym (only k p.0 (sym (ap (name_in (set ss i s)) e ∙ name_put ss i s h) ∙ p.1) (sym (name_kept ss i k s nf) ∙ p.2))
          ]
      | inr ne ↦
          elim (cases_eq k i) [
            | inl f ↦ only j p.0 (sym (ap (name_in (set ss i s)) f ∙ name_put ss i s h) ∙ p.2) (sym (name_kept ss i j s ne) ∙ p.1) ∙ sym f
            | inr nf ↦ single j k (share_from_names (name_in ss j) (name_in ss k) p.0 (sym (name_kept ss i j s ne) ∙ p.1) (sym (name_kept ss i k s nf) ∙ p.2))
          ]
    ]

pub emptied_set : (ss : List Slot) (i : ℕ) (s : Slot) → i < length ss → Emptied ss → (s.name ≡ None → s.size ≡ 0) → Emptied (set ss i s)
emptied_set ss i s h emptied here =
    let P : ℕ → Type 0 = λ j. name_in (set ss i s) j ≡ None → size_in (set ss i s) j ≡ 0 in
    each P i (λ e. size_put ss i s h ∙ here (sym (name_put ss i s h) ∙ e))
    (λ j ne e. size_kept ss i j s ne ∙ emptied j (sym (name_kept ss i j s ne) ∙ e))

pub small_set : (ss : List Slot) (i : ℕ) (s : Slot) → i < length ss → Small ss → s.size ≤ 255 → Small (set ss i s)
small_set ss i s h small here =
    let P : ℕ → Type 0 = λ j. size_in (set ss i s) j ≤ 255 in
    each P i (omega (arith, size_put ss i s h)) (λ j ne. omega (arith, size_kept ss i j s ne, small j))

pub readable_set : (ss : List Slot) (i : ℕ) (s : Slot) (old new : List Statement) → i < length ss → AllReadable ss old → ((j : ℕ) → (j ≡ i → ⊥) → statements_in (set ss i s) new j ≡ statements_in ss old j) → ((n : BlockName) → s.name ≡ Some n → is_readable (statements_in (set ss i s) new i) ≡ true) → AllReadable (set ss i s) new
readable_set ss i s old new h readable kept here =
    let P : ℕ → Type 0 = λ j. (n : BlockName) → name_in (set ss i s) j ≡ Some n → is_readable (statements_in (set ss i s) new j) ≡ true in
    each P i (λ n e. here n (sym (name_put ss i s h) ∙ e))
    (λ j ne n e. ap is_readable (kept j ne) ∙ readable j n (sym (name_kept ss i j s ne) ∙ e))

-- the statements in the other slots stay, where the table does
pub text_same : (ss : List Slot) (i j : ℕ) (s : Slot) (table : List Statement) → (j ≡ i → ⊥) → statements_in (set ss i s) table j ≡ statements_in ss table j
unfolding statements_in
text_same ss i j s table ne = ap (λ (n : ℕ). map written (take n (drop (j * 255) table))) (size_kept ss i j s ne)

-- and where a run of at most 255 entries is written into the slot
pub text_kept : (ss : List Slot) (i j : ℕ) (s : Slot) (table run : List Statement) (n : ℕ) → Small ss → i * 255 ≤ length table → n ≤ length run → n ≤ 255 → (j ≡ i → ⊥) → statements_in (set ss i s) (paste table (i * 255) run n) j ≡ statements_in ss table j
unfolding statements_in
text_kept ss i j s table run n small h l few ne =
    let size = small j in
    let apart : (j * 255 + size_in ss j ≤ i * 255) ⊎ (i * 255 + n ≤ j * 255) = elim (cases_order j i) [
      | inl e ↦ absurd (ne e)
      | inr o ↦ elim o [
        | inl lt ↦ inl (omega arith)
        | inr gt ↦ inr (omega arith)
      ]
    ] in
    ap (λ (k : ℕ). map written (take k (drop (j * 255) (paste table (i * 255) run n)))) (size_kept ss i j s ne)
    ∙ ap (map written) (paste_outside table (i * 255) run n (j * 255) (size_in ss j) h l apart)

-- the statements of the slot are the run
pub text_put : (ss : List Slot) (i : ℕ) (s : Slot) (table run : List Statement) → i < length ss → i * 255 ≤ length table → s.size ≤ length run → statements_in (set ss i s) (paste table (i * 255) run s.size) i ≡ map written (take s.size run)
unfolding statements_in
text_put ss i s table run h g l =
    ap (λ (k : ℕ). map written (take k (drop (i * 255) (paste table (i * 255) run s.size)))) (size_put ss i s h)
    ∙ ap (map written) (paste_inside table (i * 255) run s.size g l)
