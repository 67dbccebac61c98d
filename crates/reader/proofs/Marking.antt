-- Marks among statements: which are free, and where a mark leads. Assumes nothing.
use Rattle.std.proofs.Common.{◌≡◌, ℕ, zero, suc, ◌+◌, ◌-◌, ◌<◌, ◌≤◌, Bool, true, false, cond, ◌⊎◌, List, [], ◌∷◌, ◌++◌, length, get_or, is_some, Some, None, Option, sym, refl, ap, ◌∙◌, subst, inl, inr, arith, MatchOption}
use Rattle.std.proofs.lemmas.Slice.Eq.{bytes_eq-Decides}
use Rattle.std.proofs.lemmas.List.{length_push, get_or_push, get_or_append_left}
use Rattle.std.proofs.lemmas.Bool.{cases_lt}
use Rattle.reader.specs.Laws.{Carries, NoneCarries}
use Rattle.reader.specs.Reading.{Entry, carries_mark, carrier_from, carrier}

-- the test for a mark says what it seems to say
carries_so : (o : Option (List ℕ)) (m : List ℕ) → carries_mark o m ≡ true → o ≡ Some m
carries_so None m e = let z : ◌≡◌ {A = Bool} false true = e in cc
carries_so (Some k) m e = ap Some ((bytes_eq-Decides k m).0 e)

carries_not : (o : Option (List ℕ)) (m : List ℕ) → carries_mark o m ≡ false → o ≡ Some m → ⊥
carries_not o m e s =
    let t = (bytes_eq-Decides m m).1 refl in
    let u : carries_mark (Some m) m ≡ false = subst (λ (p : Option (List ℕ)). carries_mark p m ≡ false) s e in
    let z : ◌≡◌ {A = ℕ} 0 1 = ap (λ (b : Bool). cond b 0 1) (sym t ∙ u) in
    absurd (omega arith)

-- what the search answers, where it counts the first statement as n
abbrev Found : ℕ → List Entry → List ℕ → Option ℕ → Type 0
Found n es m o =
    MatchOption o (NoneCarries es m) (λ t. (n ≤ t) × (t < n + length es) × ((d : Entry) → (get_or es (t - n) d).mark ≡ Some m))

found_here : (n : ℕ) (e : Entry) (es : List Entry) (m : List ℕ) → carries_mark e.mark m ≡ true → Found n (e ∷ es) m (Some n)
found_here n e es m h =
    (omega arith, omega arith, λ d. let z : n - n ≡ 0 = omega arith in subst (λ (k : ℕ). (get_or (e ∷ es) k d).mark ≡ Some m) (sym z) (carries_so e.mark m h))

none_later : (e : Entry) (es : List Entry) (m : List ℕ) → carries_mark e.mark m ≡ false → NoneCarries es m → (i : ℕ) (d : Entry) → i < length (e ∷ es) → (get_or (e ∷ es) i d).mark ≡ Some m → ⊥
none_later e es m h f zero d l q = carries_not e.mark m h q
none_later e es m h f (suc i) d l q = f i d (omega arith) q

found_later : (n : ℕ) (e : Entry) (es : List Entry) (m : List ℕ) (o : Option ℕ) → carries_mark e.mark m ≡ false → Found (n + 1) es m o → Found n (e ∷ es) m o
found_later n e es m None h f = none_later e es m h f
found_later n e es m (Some t) h f =
    let l = f.0 in
    let u = f.1 in
    let k : t - n ≡ suc (t - (n + 1)) = omega arith in
    (omega arith, omega arith, λ d. subst (λ (j : ℕ). (get_or (e ∷ es) j d).mark ≡ Some m) (sym k) (f.2 d))

found_first : (n : ℕ) (es : List Entry) (m : List ℕ) → Found n es m (carrier_from n es m)
found_first n [] m = λ i d l q. absurd (omega arith)
found_first n (e ∷ es) m = at (carries_mark e.mark m) refl (found_first (n + 1) es m)
  where
    at : (b : Bool) → carries_mark e.mark m ≡ b → Found (n + 1) es m (carrier_from (n + 1) es m) → Found n (e ∷ es) m (cond b (Some n) (carrier_from (n + 1) es m))
    at true h f = found_here n e es m h
    at false h f = found_later n e es m (carrier_from (n + 1) es m) h f

-- the statement that is found carries the mark, and where none is found none does
pub carrier_law : (es : List Entry) (m : List ℕ) → MatchOption (carrier es m) (NoneCarries es m) (Carries es m)
carrier_law es m = at (carrier_from 1 es m) (found_first 1 es m)
  where
    at : (o : Option ℕ) → Found 1 es m o → MatchOption o (NoneCarries es m) (Carries es m)
    at None f = f
    at (Some t) f = (f.0, (let u = f.1 in omega arith), f.2)

-- where the search finds nothing the mark is new
pub none_carries : (es : List Entry) (m : List ℕ) → is_some (carrier es m) ≡ false → NoneCarries es m
none_carries es m e = at (carrier es m) e (carrier_law es m)
  where
    at : (o : Option ℕ) → is_some o ≡ false → MatchOption o (NoneCarries es m) (Carries es m) → NoneCarries es m
    at None e f = f
    at (Some t) e f = let z : ◌≡◌ {A = ℕ} 0 1 = ap (λ (b : Bool). cond b 1 0) (sym e) in absurd (omega arith)

-- no two statements carry one mark
abbrev pub Once : List Entry → Type 0
Once es = (i j : ℕ) (d : Entry) (m : List ℕ) → i < j → j < length es → (get_or es i d).mark ≡ Some m → (get_or es j d).mark ≡ Some m → ⊥

pub once_more : (es : List Entry) (e : Entry) → Once es → ((m : List ℕ) → e.mark ≡ Some m → NoneCarries es m) → Once (es ++ e ∷ [])
once_more es e once new i j d m h l p q = at (cases_lt j (length es))
  where
    long : length (es ++ e ∷ []) ≡ length es + 1
    long = length_push es e

    left : (k : ℕ) → k < length es → get_or (es ++ e ∷ []) k d ≡ get_or es k d
    left k g = get_or_append_left es (e ∷ []) d k g

    at : (j < length es) ⊎ (length es ≤ j) → ⊥
    at (inl g) =
        once i j d m h g (subst (λ (x : Entry). x.mark ≡ Some m) (left i (omega arith)) p) (subst (λ (x : Entry). x.mark ≡ Some m) (left j g) q)
    at (inr g) =
        let last : length es ≡ j = omega (arith, long) in
        let own : e.mark ≡ Some m = subst (λ (x : Entry). x.mark ≡ Some m) (get_or_push es e d j last) q in
        new m own i d (omega arith) (subst (λ (x : Entry). x.mark ≡ Some m) (left i (omega arith)) p)
