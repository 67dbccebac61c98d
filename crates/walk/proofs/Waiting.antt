-- A stack of places as a list, the newest first.
use Rattle.std.proofs.Common.{◌≡◌, ℕ, ◌+◌, ◌-◌, ◌<◌, ◌≤◌, Bool, true, cond, ltb, List, [], ◌∷◌, reverse, length, get_or, take, drop, set, sym, refl, ap, ◌∙◌, arith}
use Rattle.std.proofs.lemmas.List.{take_more_set, take_more, reverse-append, length-reverse, length-take-le, length-set, drop-set-lt}
use Rattle.std.proofs.lemmas.Bool.{lt-ltb}
use Rattle.walk.specs.Search.{waiting_on}
use Rattle.walk.specs.declared.places.Place.{Place}

pub waiting_length : (xs : List Place) (d : ℕ) → d ≤ length xs → length (waiting_on xs d) ≡ d
unfolding waiting_on
waiting_length xs d h = length-reverse (take d xs) ∙ length-take-le d xs h

pub waiting_none : (xs : List Place) → waiting_on xs 0 ≡ []
unfolding waiting_on
waiting_none xs = refl

waiting_push : (xs : List Place) (d : ℕ) (x : Place) → d < length xs → waiting_on (set xs d x) (d + 1) ≡ x ∷ waiting_on xs d
unfolding waiting_on
waiting_push xs d x h = ap reverse (take_more_set xs d x h) ∙ reverse-append (take d xs) (x ∷ [])

waiting_pop : (xs : List Place) (d : ℕ) (x : Place) → 0 < d → d ≤ length xs → waiting_on xs d ≡ get_or xs (d - 1) x ∷ waiting_on xs (d - 1)
unfolding waiting_on
waiting_pop xs d x p h =
    let s : d ≡ d - 1 + 1 = omega arith in
    let l : d - 1 < length xs = omega arith in
    ap (λ (n : ℕ). reverse (take n xs)) s ∙ (ap reverse (take_more xs (d - 1) x l) ∙ reverse-append (take (d - 1) xs) (get_or xs (d - 1) x ∷ []))

-- a push with room, as the stack's contract tells it
pub record Pushed (xs ys : List Place) (d e : ℕ) (x : Place) (n : ℕ) : Type 0 where
  pub deep : e ≡ d + 1
  pub waiting : waiting_on ys e ≡ x ∷ waiting_on xs d
  pub size : length ys ≡ length xs
  pub rest : drop n ys ≡ drop n xs

pub pushed : (xs ys : List Place) (d e : ℕ) (x : Place) (r : Bool) (n : ℕ) → r ≡ ltb d (length xs) → e ≡ cond r (d + 1) d → ys ≡ cond r (set xs d x) xs → d < n → n ≤ length xs → Pushed xs ys d e x n
pushed xs ys d e x r n said deep is l m =
    let room : d < length xs = omega arith in
    let yes : r ≡ true = said ∙ lt-ltb d (length xs) room in
    let e₁ : e ≡ d + 1 = deep ∙ ap (λ b. cond b (d + 1) d) yes in
    let y₁ : ys ≡ set xs d x = is ∙ ap (λ b. cond b (set xs d x) xs) yes in
    record {
      deep = e₁;
      waiting = rw (y₁, e₁) (waiting_push xs d x room);
      size = ap length y₁ ∙ length-set xs d x;
      rest = ap (drop n) y₁ ∙ drop-set-lt n xs d x l;
    }

-- a pop of what waits, as the stack's contract tells it
pub popped : (xs ys : List Place) (d e : ℕ) (x : Place) → 0 < d → d ≤ length xs → x ≡ get_or xs (d - 1) x → ys ≡ xs → e ≡ d - 1 → waiting_on xs d ≡ x ∷ waiting_on ys e
popped xs ys d e x p h is same deep =
    waiting_pop xs d x p h
    ∙ ap (λ (y : Place). y ∷ waiting_on xs (d - 1)) (sym is)
    ∙ ap (λ (l : List Place). x ∷ l) (ap (λ (l : List Place). waiting_on l (d - 1)) (sym same) ∙ ap (waiting_on ys) (sym deep))
