-- The listed statements: how many there are, which carries a mark, and one more with its jump looked up. Assumes nothing.
use Rattle.std.proofs.Common.{◌≡◌, ℕ, ◌+◌, ◌<◌, ◌≤◌, Bool, true, false, cond, List, [], ◌∷◌, map, length, get_or, take, drop, set, Some, None, Option, MatchOption, IsSomeAnd, refl, ap, ◌∙◌, arith}
use Rattle.std.specs.List.{position, position_from}
use Rattle.std.specs.Option.{option_map}
use Rattle.std.proofs.lemmas.Iterator.Adapters.{position_from-zero}
use Rattle.awl.specs.Written.{mark_text}
use Rattle.std.proofs.lemmas.List.{take_more, take_more_set, map_push, at_drop_more, length-drop, drop-set-lt, length-map, length-take-le}
use Rattle.reader.specs.Listed.{entry, listed}
use Rattle.reader.specs.Reading.{Entry, carries_mark, carrier_from, carrier}
use Rattle.reader.specs.declared.listings.Line.{Line}
use Rattle.reader.specs.declared.listings.Listing.{Listing}

pub listed-length : (ls : List Line) (n : ℕ) → n ≤ length ls → length (listed ls n) ≡ n
listed-length ls n h = length-map (take n ls) entry ∙ length-take-le n ls h

-- a listing has as many statements as it counts
pub listed_size : (l : Listing) → length (listed l.lines l.count) ≡ l.count
listed_size l = let room = l.room in let few = l.few in listed-length l.lines l.count (omega arith)

-- one line more is looked up
pub resolve_more : (R : Entry → Entry) (xs ys : List Line) (i : ℕ) (x y : Line) → i < length ys → entry y ≡ R (entry (get_or ys i x)) → map entry (take i ys) ≡ map R (map entry (take i xs)) → drop i ys ≡ drop i xs → (map entry (take (i + 1) (set ys i y)) ≡ map R (map entry (take (i + 1) xs))) × (drop (i + 1) (set ys i y) ≡ drop (i + 1) xs)
resolve_more R xs ys i x y h f done left =
    let long : i < length xs = omega (arith, ap length left, length-drop i xs, length-drop i ys) in
    let new_front = ap (map entry) (take_more_set ys i y h) ∙ map_push entry (take i ys) y in
    let old_front = ap (λ (l : List Line). map R (map entry l)) (take_more xs i x long) in
    let pushed = map_push entry (take i xs) (get_or xs i x) in
    let looked_up = map_push R (map entry (take i xs)) (entry (get_or xs i x)) in
    let behind = drop-set-lt (i + 1) ys i y (omega arith) in
    let at_new = at_drop_more (λ (l : List Line). l) ys i x h in
    let at_old = at_drop_more (λ (l : List Line). l) xs i x long in
    (cc, cc)

-- what is made of each place that is found
pub found_mapped : (P : ℕ → ℕ → Type 0) (f : ℕ → ℕ) (found made : Option ℕ) → MatchOption found (made ≡ None) (λ i. IsSomeAnd made (P i)) → ((i j : ℕ) → P i j → j ≡ f i) → made ≡ option_map f found
found_mapped P f None made e same = e
found_mapped P f (Some i) (Some j) e same = ap Some (same i j e)
found_mapped P f (Some i) None e same = absurd e

-- the statement that carries a mark is the first line that does, counted from 1
pub carrier_position : (ls : List Line) (m : List ℕ) → option_map (λ (i : ℕ). i + 1) (position (λ (l : Line). carries_mark (option_map mark_text l.mark) m) ls) ≡ carrier (map entry ls) m
carrier_position ls m = ap (option_map (λ (i : ℕ). i + 1)) (position_from-zero (λ (l : Line). carries_mark (option_map mark_text l.mark) m) ls) ∙ from 0 ls
  where
    step : (b : Bool) (k : ℕ) (p q : Option ℕ) → option_map (λ (i : ℕ). i + 1) p ≡ q → option_map (λ (i : ℕ). i + 1) (cond b (Some k) p) ≡ cond b (Some (k + 1)) q
    step true k p q e = refl
    step false k p q e = e

    from : (k : ℕ) (ls : List Line) → option_map (λ (i : ℕ). i + 1) (position_from (λ (l : Line). carries_mark (option_map mark_text l.mark) m) k ls) ≡ carrier_from (k + 1) (map entry ls) m
    from k [] = refl
    from k (l ∷ ls) = step (carries_mark (option_map mark_text l.mark) m) k _ _ (from (k + 1) ls)
