-- Where a statement stands: its line in a text, and in a file. Assumes nothing.
use Rattle.std.proofs.Common.{◌≡◌, ℕ, suc, ◌-◌, ◌<◌, ◌≤◌, Bool, true, false, cond, ◌&&◌, eqb, leb, List, [], ◌∷◌, length, get_or, Some, None, Ok, Result, sym, refl, ap, ◌∙◌, arith, ne_eqb, eqb-true, leb-false, leb-true}
use borrow.Author.Tests.{eqb-false}
use Rattle.std.specs.Option.{option_map}
use Rattle.reader.specs.Reading.{Entry, reading}
use Rattle.reader.specs.declared.faults.BlockFault.{BlockFault}
use Rattle.projects.specs.Origins.{line_among, line_read, below, line_below}
use Rattle.projects.specs.Sections.{Cut}

-- the line of a statement that a text has
pub among_here : (s : ℕ) (es : List Entry) (d : Entry) → 1 ≤ s → s ≤ length es → line_among s es ≡ Some (get_or es (s - 1) d).line
among_here s [] d h g = absurd (omega arith)
among_here s (e ∷ es) d h g = at (eqb s 1) refl (among_here (s - 1) es d)
  where
    at : (b : Bool) → eqb s 1 ≡ b → (1 ≤ s - 1 → s - 1 ≤ length es → line_among (s - 1) es ≡ Some (get_or es (s - 1 - 1) d).line) → cond (eqb s 1) (Some e.line) (line_among (s - 1) es) ≡ Some (get_or (e ∷ es) (s - 1) d).line
    at true f rest =
        let first : s - 1 ≡ 0 = omega (arith, eqb-true s 1 f) in
        ap (λ (x : Bool). cond x (Some e.line) (line_among (s - 1) es)) f ∙ sym (ap (λ (n : ℕ). Some (get_or (e ∷ es) n d).line) first)
    at false f rest =
        let other : s ≡ 1 → ⊥ = eqb-false s 1 f in
        let more : s - 1 ≡ suc (s - 1 - 1) = omega arith in
        ap (λ (x : Bool). cond x (Some e.line) (line_among (s - 1) es)) f
        ∙ rest (omega arith) (omega arith)
        ∙ sym (ap (λ (n : ℕ). Some (get_or (e ∷ es) n d).line) more)

-- a text has no statement 0, and none past its last
none_first : (es : List Entry) → line_among 0 es ≡ None
none_first [] = refl
none_first (e ∷ es) = none_first es

none_past : (s : ℕ) (es : List Entry) → length es < s → line_among s es ≡ None
none_past s [] h = refl
none_past s (e ∷ es) h =
    let other : s ≡ 1 → ⊥ = λ f. omega arith in
    ap (λ (x : Bool). cond x (Some e.line) (line_among (s - 1) es)) (ne_eqb s 1 other) ∙ none_past (s - 1) es (omega arith)

pub among_none : (s : ℕ) (es : List Entry) → false ≡ (leb 1 s && leb s (length es)) → line_among s es ≡ None
among_none s es e = at (leb 1 s) refl e
  where
    at : (b : Bool) → leb 1 s ≡ b → false ≡ (b && leb s (length es)) → line_among s es ≡ None
    at true f g = none_past s es (leb-false s (length es) (sym g))
    at false f g =
        let zero : s ≡ 0 = omega (arith, leb-false 1 s f) in
        ap (λ (n : ℕ). line_among n es) zero ∙ none_first es

-- the line of a section's statement, by what was read
pub stands : (s n : ℕ) (c : Cut) (es : List Entry) → Ok es ≡ reading c.text → line_among s es ≡ Some n → Some (below c.line n) ≡ line_below s c
stands s n c es r e =
    sym (ap (λ (x : Result (List Entry) BlockFault). option_map (below c.line) (line_read s x)) (sym r) ∙ ap (option_map (below c.line)) e)

pub stands_not : (s : ℕ) (c : Cut) (es : List Entry) → Ok es ≡ reading c.text → line_among s es ≡ None → None ≡ line_below s c
stands_not s c es r e =
    sym (ap (λ (x : Result (List Entry) BlockFault). option_map (below c.line) (line_read s x)) (sym r) ∙ ap (option_map (below c.line)) e)

-- both tests hold where their conjunction does
pub in_range : (s n : ℕ) → true ≡ (leb 1 s && leb s n) → (1 ≤ s) × (s ≤ n)
in_range s n e = at (leb 1 s) refl e
  where
    at : (b : Bool) → leb 1 s ≡ b → true ≡ (b && leb s n) → (1 ≤ s) × (s ≤ n)
    at true f g = (leb-true 1 s f, leb-true s n (sym g))
    at false f g = absurd (let z : ◌≡◌ {A = ℕ} 0 1 = cc in omega arith)
