-- The search of a walk, step by step.
use Rattle.std.proofs.Common.{◌≡◌, ℕ, ◌+◌, ◌-◌, ◌*◌, ◌<◌, ◌≤◌, Bool, true, false, cond, not, List, [], ◌∷◌, length, get_or, set, replicate, IfSome, Some, None, Option, sym, refl, ap, ◌∙◌, subst, inl, inr, ⊎_elim, arith}
use Rattle.std.proofs.lemmas.List.{length-set, length-replicate, get_or-set_same, get_or-set_other, get_or-replicate, get_or_past, set-get_or}
use Rattle.std.proofs.lemmas.List.Sums.{sum_by-set, count_by-le-length}
use Rattle.std.proofs.lemmas.Bool.{cases_lt, cases_eq, both_ways}
use Rattle.walk.specs.declared.flows.Flow.{Flow}
use Rattle.walk.specs.declared.places.Place.{Place}
use Rattle.walk.specs.Places.{place_at, on_from, jump_from}
use Rattle.walk.specs.Search.{spot, Marked, unmarked, marking, joining, Hunt, Exact}
use Rattle.walk.specs.Walk.{Goes, OnWalk, start, on, Fit}
use Rattle.walk.proofs.Ways.{walk_in, goes_found, on_goes, jump_goes}

-- one mark more
pub unmarked-set : (seen : List Bool) (i : ℕ) → i < length seen → get_or seen i false ≡ false → unmarked (set seen i true) + 1 ≡ unmarked seen
unfolding unmarked
unmarked-set seen i h e =
    let f : Bool → ℕ = λ b. cond (not b) 1 0 in
    let s = sum_by-set f seen i true false h in
    let one : f (get_or seen i false) ≡ 1 = rw e in
    omega arith

pub some_unmarked : (seen : List Bool) (i : ℕ) → i < length seen → get_or seen i false ≡ false → 0 < unmarked seen
some_unmarked seen i h e = let u = unmarked-set seen i h e in omega arith

-- what a mark's answer tells of the marks before
pub was_unmarked : (seen : List Bool) (i : ℕ) (b : Bool) → b ≡ not (get_or seen i false) → b ≡ true → get_or seen i false ≡ false
was_unmarked seen i b e t = go (get_or seen i false) (sym e ∙ t)
  where
    go : (x : Bool) → not x ≡ true → x ≡ false
    go true h = sym h
    go false h = refl

-- a mark set again changes nothing
marked_again : (seen : List Bool) (i : ℕ) → get_or seen i false ≡ true → set seen i true ≡ seen
marked_again seen i e = ap (set seen i) (sym e) ∙ set-get_or seen i false

marked_set : (seen : List Bool) (i j : ℕ) → i < length seen → get_or seen j false ≡ true → get_or (set seen i true) j false ≡ true
marked_set seen i j h m =
    ⊎_elim (λ (e : j ≡ i). rw (e, get_or-set_same seen i true false h)) (λ (ne : j ≡ i → ⊥). get_or-set_other seen i j true false ne ∙ m) (cases_eq j i)

none_marked : (i : ℕ) → get_or (replicate 1530 false) i false ≡ true → ⊥
none_marked i m = ⊎_elim
    (λ (l : i < 1530). both_ways _ (get_or-replicate 1530 i false false l) m)
    (λ (l : 1530 ≤ i). both_ways _ (get_or_past (replicate 1530 false) i false (omega (arith, length-replicate 1530 false))) m)
    (cases_lt i 1530)

pub none_room : 0 + unmarked (replicate 1530 false) ≤ 1530
unfolding unmarked
none_room = omega (arith, count_by-le-length not (replicate 1530 false), length-replicate 1530 false)

module _ (block : List Flow) where
  -- nothing is marked yet
  pub none_hunt : Hunt block (replicate 1530 false) []
  none_hunt = record {
    size = length-replicate 1530 false;
    sound = λ s k l h m. absurd (none_marked ((s - 1) * 6 + k) m);
    onward = λ s k l h m. absurd (none_marked ((s - 1) * 6 + k) m);
    waits = λ s k m. absurd m;
    room = none_room;
  }

  -- a place of the walk is a place of the table
  pub in_table : (seen : List Bool) (waiting : List Place) (q : Place) → Fit block → Hunt block seen waiting → OnWalk block q.statement q.brackets → spot q < length seen
  in_table seen waiting q fit h w = let r = walk_in block fit w in let few = fit.few in let z = h.size in omega arith

  -- a place of the walk that was not marked is marked, and waits
  new_hunt : (seen : List Bool) (waiting : List Place) (q : Place) →
      Fit block → OnWalk block q.statement q.brackets → get_or seen (spot q) false ≡ false →
      Hunt block seen waiting → Hunt block (set seen (spot q) true) (q ∷ waiting)
  new_hunt seen waiting q fit w fresh h =
      let r = walk_in block fit w in
      let inside = in_table seen waiting q fit h w in
      record {
        size = length-set seen (spot q) true ∙ h.size;
        sound = λ s k b l m. ⊎_elim
            (λ (e : (s - 1) * 6 + k ≡ spot q).
            let a : q.statement ≡ s = omega arith in
            let b : q.brackets ≡ k = omega arith in
            rw (a, b) at w)
            (λ (ne : (s - 1) * 6 + k ≡ spot q → ⊥). h.sound s k b l (sym (get_or-set_other seen (spot q) ((s - 1) * 6 + k) true false ne) ∙ m))
            (cases_eq ((s - 1) * 6 + k) (spot q));
        onward = λ s k b l m. ⊎_elim
            (λ (e : (s - 1) * 6 + k ≡ spot q). inl (inl (omega arith)))
            (λ (ne : (s - 1) * 6 + k ≡ spot q → ⊥). ⊎_elim
            (λ a. inl (inr a))
            (λ done. inr (λ t j g. marked_set seen (spot q) ((t - 1) * 6 + j) inside (done t j g)))
            (h.onward s k b l (sym (get_or-set_other seen (spot q) ((s - 1) * 6 + k) true false ne) ∙ m)))
            (cases_eq ((s - 1) * 6 + k) (spot q));
        waits = λ s k a. ⊎_elim (λ (e : (q.statement ≡ s) × (q.brackets ≡ k)). rw (e.0, e.1) at w) (h.waits s k) a;
        room = let u = unmarked-set seen (spot q) inside fresh in let v = h.room in omega arith;
      }

  -- the order of what waits does not matter
  swap : (seen : List Bool) (waiting : List Place) (p q : Place) → Hunt block seen (q ∷ p ∷ waiting) → Hunt block seen (p ∷ q ∷ waiting)
  swap seen waiting p q h = record {
    size = h.size;
    sound = h.sound;
    onward = λ s k b l m. ⊎_elim (λ a. inl (⊎_elim (λ x. inr (inl x)) (⊎_elim (λ y. inl y) (λ z. inr (inr z))) a)) (λ d. inr d) (h.onward s k b l m);
    waits = λ s k a. h.waits s k (⊎_elim (λ x. inr (inl x)) (⊎_elim (λ y. inl y) (λ z. inr (inr z))) a);
    room = h.room;
  }

  -- a place of the walk is noted, while p is in hand
  noted : (seen : List Bool) (waiting : List Place) (p : Place) (o : Option Place) → Fit block →
      ((q : Place) → o ≡ Some q → OnWalk block q.statement q.brackets) →
      Hunt block seen (p ∷ waiting) → Hunt block (marking seen o) (p ∷ joining seen waiting o)
  noted seen waiting p None fit w h = h
  noted seen waiting p (Some q) fit w h = go (get_or seen (spot q) false) refl
    where
      go : (b : Bool) → get_or seen (spot q) false ≡ b → Hunt block (set seen (spot q) true) (p ∷ cond b waiting (q ∷ waiting))
      go true e = subst (λ (xs : List Bool). Hunt block xs (p ∷ waiting)) (sym (marked_again seen (spot q) e)) h
      go false e = swap _ waiting p q (new_hunt seen (p ∷ waiting) q fit (w q refl) e h)

  -- each noted place makes the search shorter
  shorter : (seen : List Bool) (waiting : List Place) (o : Option Place) →
      ((q : Place) → o ≡ Some q → spot q < length seen) →
      length (joining seen waiting o) + 2 * unmarked (marking seen o) ≤ length waiting + 2 * unmarked seen
  shorter seen waiting None l = omega arith
  shorter seen waiting (Some q) l = go (get_or seen (spot q) false) refl
    where
      go : (b : Bool) → get_or seen (spot q) false ≡ b → length (cond b waiting (q ∷ waiting)) + 2 * unmarked (set seen (spot q) true) ≤ length waiting + 2 * unmarked seen
      go true e = let u = ap unmarked (marked_again seen (spot q) e) in omega arith
      go false e = let u = unmarked-set seen (spot q) (l q refl) e in omega arith

  kept_mark : (seen : List Bool) (o : Option Place) (i : ℕ) → ((q : Place) → o ≡ Some q → spot q < length seen) → get_or seen i false ≡ true → get_or (marking seen o) i false ≡ true
  kept_mark seen None i l m = m
  kept_mark seen (Some q) i l m = marked_set seen (spot q) i (l q refl) m

  -- a place all of whose next places are marked waits no more
  done : (seen : List Bool) (waiting : List Place) (p : Place) → ((t j : ℕ) → Goes block p.statement p.brackets t j → Marked seen t j) → Hunt block seen (p ∷ waiting) → Hunt block seen waiting
  done seen waiting p all h = record {
    size = h.size;
    sound = h.sound;
    onward = λ s k b l m. ⊎_elim
        (⊎_elim (λ (e : (p.statement ≡ s) × (p.brackets ≡ k)). inr (λ t j g. all t j (rw (← e.0, ← e.1) at g))) (λ a. inl a))
        (λ d. inr d)
        (h.onward s k b l m);
    waits = λ s k a. h.waits s k (inr a);
    room = let r = h.room in omega arith;
  }

  -- once nothing waits, the marks are the walk
  pub closed : (seen : List Bool) → Marked seen 1 0 → Fit block → Hunt block seen [] → Exact block seen
  closed seen first fit h = record { size = h.size; sound = h.sound; whole = λ s k w. whole w }
    where
      whole : {s k : ℕ} → OnWalk block s k → Marked seen s k
      whole start = first
      whole (on {s} {k} {t} {j} w g) = let i = walk_in block fit w in ⊎_elim (λ a. absurd a) (λ d. d t j g) (h.onward s k i.low i.few (whole w))

  pub on_walk : (seen : List Bool) (waiting : List Place) (p : Place) → Hunt block seen (p ∷ waiting) → OnWalk block p.statement p.brackets
  on_walk seen waiting p h = h.waits p.statement p.brackets (inl (refl, refl))

  -- the places that the walk goes on to are on it
  pub on_next : (p : Place) → OnWalk block p.statement p.brackets → (q : Place) → on_from block p ≡ Some q → OnWalk block q.statement q.brackets
  on_next p w q e = on w (on_goes block p q e)

  pub jump_next : (p : Place) → OnWalk block p.statement p.brackets → (q : Place) → jump_from block p ≡ Some q → OnWalk block q.statement q.brackets
  jump_next p w q e = on w (jump_goes block p q e)

  -- one place, with both its next places noted
  visited : (seen : List Bool) (waiting : List Place) (p : Place) → Fit block → Hunt block seen (p ∷ waiting) →
      Hunt block (marking (marking seen (on_from block p)) (jump_from block p)) (joining (marking seen (on_from block p)) (joining seen waiting (on_from block p)) (jump_from block p))
  visited seen waiting p fit h =
      let w = on_walk seen waiting p h in
      let h₁ = noted seen waiting p (on_from block p) fit (on_next p w) h in
      let s₁ = marking seen (on_from block p) in
      let w₁ = joining seen waiting (on_from block p) in
      let h₂ = noted s₁ w₁ p (jump_from block p) fit (jump_next p w) h₁ in
      done (marking s₁ (jump_from block p)) (joining s₁ w₁ (jump_from block p)) p
      (λ t j g. ⊎_elim
      (λ (e : on_from block p ≡ Some (place_at t j)).
      kept_mark s₁ (jump_from block p) ((t - 1) * 6 + j) (λ q f. in_table s₁ (p ∷ w₁) q fit h₁ (jump_next p w q f))
      (marked-at seen (on_from block p) (place_at t j) e (in_table seen (p ∷ waiting) (place_at t j) fit h (on w g))))
      (λ (e : jump_from block p ≡ Some (place_at t j)).
      marked-at s₁ (jump_from block p) (place_at t j) e (in_table s₁ (p ∷ w₁) (place_at t j) fit h₁ (on w g)))
      (goes_found block p t j g))
      h₂
    where
      marked-at : (seen : List Bool) (o : Option Place) (q : Place) → o ≡ Some q → spot q < length seen → get_or (marking seen o) (spot q) false ≡ true
      marked-at seen o q e l = rw (e, get_or-set_same seen (spot q) true false l)

  -- what a note asks
  pub inside : (seen : List Bool) (waiting : List Place) (o : Option Place) → Fit block → Hunt block seen waiting →
      ((q : Place) → o ≡ Some q → OnWalk block q.statement q.brackets) → IfSome o (λ q. (1 ≤ q.statement) × (spot q < 1530))
  inside seen waiting None fit h w = tt
  inside seen waiting (Some q) fit h w = let l = in_table seen waiting q fit h (w q refl) in let z = h.size in let r = walk_in block fit (w q refl) in (r.low, omega arith)

  -- a note, as its contract tells it
  pub half : (seen seen' : List Bool) (waiting waiting' : List Place) (p : Place) (o : Option Place) → Fit block →
      ((q : Place) → o ≡ Some q → OnWalk block q.statement q.brackets) →
      seen' ≡ marking seen o → waiting' ≡ joining seen waiting o →
      Hunt block seen (p ∷ waiting) → Hunt block seen' (p ∷ waiting')
  half seen seen' waiting waiting' p o fit w e f h = rw (e, f) (noted seen waiting p o fit w h)

  -- a visit, as the contracts of its two notes tell it
  pub visit_hunt : (seen seen₁ seen₂ : List Bool) (waiting waiting₁ waiting₂ : List Place) (p : Place) (a b : Option Place) → Fit block →
      a ≡ on_from block p → b ≡ jump_from block p →
      seen₁ ≡ marking seen a → waiting₁ ≡ joining seen waiting a →
      seen₂ ≡ marking seen₁ b → waiting₂ ≡ joining seen₁ waiting₁ b →
      Hunt block seen (p ∷ waiting) → Hunt block seen₂ waiting₂
  visit_hunt seen seen₁ seen₂ waiting waiting₁ waiting₂ p a b fit ea eb e₁ f₁ e₂ f₂ h = rw (e₂, f₂, e₁, f₁, ea, eb) (visited seen waiting p fit h)

  pub visit_first : (seen seen₁ seen₂ : List Bool) (a b : Option Place) →
      ((q : Place) → a ≡ Some q → spot q < length seen) → ((q : Place) → b ≡ Some q → spot q < length seen₁) →
      seen₁ ≡ marking seen a → seen₂ ≡ marking seen₁ b → (i : ℕ) → get_or seen i false ≡ true → get_or seen₂ i false ≡ true
  visit_first seen seen₁ seen₂ a b la lb e₁ e₂ i m = rw e₂ (kept_mark seen₁ b i lb (rw e₁ (kept_mark seen a i la m)))

  pub visit_shorter : (seen seen₁ seen₂ : List Bool) (waiting waiting₁ waiting₂ : List Place) (a b : Option Place) →
      ((q : Place) → a ≡ Some q → spot q < length seen) → ((q : Place) → b ≡ Some q → spot q < length seen₁) →
      seen₁ ≡ marking seen a → waiting₁ ≡ joining seen waiting a →
      seen₂ ≡ marking seen₁ b → waiting₂ ≡ joining seen₁ waiting₁ b →
      length waiting₂ + 2 * unmarked seen₂ ≤ length waiting + 2 * unmarked seen
  visit_shorter seen seen₁ seen₂ waiting waiting₁ waiting₂ a b la lb e₁ f₁ e₂ f₂ =
      let s₁ : length waiting₁ + 2 * unmarked seen₁ ≤ length waiting + 2 * unmarked seen = rw (e₁, f₁) (shorter seen waiting a la) in
      let s₂ : length waiting₂ + 2 * unmarked seen₂ ≤ length waiting₁ + 2 * unmarked seen₁ = rw (e₂, f₂) (shorter seen₁ waiting₁ b lb) in
      omega arith

  -- the search begins with the first place noted
  pub start_hunt : (seen : List Bool) (empty waiting : List Place) → Fit block →
      seen ≡ marking (replicate 1530 false) (Some (place_at 1 0)) → empty ≡ [] → waiting ≡ joining (replicate 1530 false) empty (Some (place_at 1 0)) →
      Hunt block seen waiting × Marked seen 1 0
  start_hunt seen empty waiting fit e z f =
      let w : waiting ≡ place_at 1 0 ∷ [] = f ∙ ap (λ (l : List Place). place_at 1 0 ∷ l) z in
      (rw (e, w) (new_hunt (replicate 1530 false) [] (place_at 1 0) fit start refl none_hunt), rw e)
