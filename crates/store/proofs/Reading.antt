-- A block that can be read: the test and what it says. Assumes nothing.
use Rattle.std.proofs.Common.{◌≡◌, ℕ, zero, suc, ◌<◌, ◌≤◌, true, ◌&&◌, leb, List, [], ◌∷◌, length, get_or, Some, None, Option, sym, refl, ap, ◌∙◌, arith}
use Rattle.std.proofs.lemmas.Bool.{and_parts, and_from, leb-true, le-leb}
use Rattle.parser.specs.Statements.{Written}
use Rattle.store.specs.Slots.{goes_within, all_within, is_readable}
use Rattle.store.specs.Held.{Readable}

goes_from : (n : ℕ) (o : Option ℕ) (t : ℕ) → goes_within n o ≡ true → o ≡ Some t → (1 ≤ t) × (t ≤ n)
goes_from n o t h e =
    let p = and_parts (leb 1 t) (leb t n) (sym (ap (goes_within n) e) ∙ h) in
    (leb-true 1 t p.0, leb-true t n p.1)

goes_to : (n : ℕ) (o : Option ℕ) → ((t : ℕ) → o ≡ Some t → (1 ≤ t) × (t ≤ n)) → goes_within n o ≡ true
goes_to n None h = refl
goes_to n (Some t) h = and_from (leb 1 t) (leb t n) (le-leb 1 t (h t refl).0) (le-leb t n (h t refl).1)

within_from : (n : ℕ) (ws : List Written) → all_within n ws ≡ true → (s t : ℕ) (d : Written) → s < length ws → (get_or ws s d).target ≡ Some t → (1 ≤ t) × (t ≤ n)
within_from n [] h s t d l e = absurd (omega arith)
within_from n (w ∷ ws) h zero t d l e = goes_from n w.target t (and_parts (goes_within n w.target) (all_within n ws) h).0 e
within_from n (w ∷ ws) h (suc s) t d l e = within_from n ws (and_parts (goes_within n w.target) (all_within n ws) h).1 s t d (omega arith) e

within_to : (n : ℕ) (ws : List Written) → ((s t : ℕ) (d : Written) → s < length ws → (get_or ws s d).target ≡ Some t → (1 ≤ t) × (t ≤ n)) → all_within n ws ≡ true
within_to n [] h = refl
within_to n (w ∷ ws) h =
    and_from (goes_within n w.target) (all_within n ws) (goes_to n w.target (λ t e. h 0 t w (omega arith) e)) (within_to n ws (λ s t d l e. h (suc s) t d (omega arith) e))

pub readable_from : (block : List Written) → is_readable block ≡ true → Readable block
unfolding is_readable
readable_from block h =
    let p = and_parts (leb 1 (length block) && leb (length block) 255) (all_within (length block) block) h in
    let q = and_parts (leb 1 (length block)) (leb (length block) 255) p.0 in
    record {
      some = leb-true 1 (length block) q.0;
      few = leb-true (length block) 255 q.1;
      aimed = within_from (length block) block p.1;
    }

pub readable_to : (block : List Written) → Readable block → is_readable block ≡ true
unfolding is_readable
readable_to block r =
    and_from (leb 1 (length block) && leb (length block) 255) (all_within (length block) block)
    (and_from (leb 1 (length block)) (leb (length block) 255) (le-leb 1 (length block) r.some) (le-leb (length block) 255 r.few))
    (within_to (length block) block r.aimed)
