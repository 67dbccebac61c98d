-- One advance leads from where a feed stands after k advances to where it stands after k + 1.
use Rattle.std.proofs.Common.{◌≡◌, ℕ, zero, suc, ◌+◌, ◌-◌, ◌<◌, ◌≤◌, List, [], ◌∷◌, length, drop, sym, refl, ap, ◌∙◌, inl, inr, add-one, arith}
use Rattle.std.proofs.lemmas.List.{drop_all, drop_more}
use Rattle.std.proofs.lemmas.Bool.{cases_lt, cond-false, cond-true, le-ltb, lt-ltb}
use Rattle.hosts.specs.declared.frames.Frame.{Frame}
use Rattle.hosts.specs.Feeds.{Standing, frame_at, taken_from, fed, shown, zeros}

-- a feed stands at a frame, with these ahead, or past the last frame
abbrev at_frame : List Frame → Frame → Standing
at_frame ahead f = record { ahead = ahead; elapsed = f.elapsed; inputs = f.inputs }

abbrev past_last : List ℕ → Standing
past_last inputs = record { ahead = []; elapsed = 0; inputs = inputs }

shown_within : (fs : List Frame) (k : ℕ) → k < length fs → shown fs (suc k) ≡ at_frame (drop (suc k) fs) (frame_at fs k)
shown_within fs k h = cond-true _ _ _ (lt-ltb _ _ h)

shown-past : (fs : List Frame) (k : ℕ) → length fs ≤ k → shown fs (suc k) ≡ past_last (frame_at fs (length fs - 1)).inputs
shown-past fs k h = cond-false _ _ _ (le-ltb _ _ h)

-- what an advance takes where the frames from k on are ahead
taken_within : (fs : List Frame) (k : ℕ) (inputs : List ℕ) → k < length fs → taken_from (drop k fs) inputs ≡ shown fs (suc k)
taken_within fs k inputs h =
    ap (λ a. taken_from a inputs) (drop_more fs k (record { elapsed = 0; inputs = zeros }) h) ∙ (rw add-one (sym (shown_within fs k h)))

taken_past : (fs : List Frame) (k : ℕ) (inputs : List ℕ) → length fs ≤ k → taken_from (drop k fs) inputs ≡ past_last inputs
taken_past fs k inputs h = ap (λ a. taken_from a inputs) (drop_all k fs h)

pub shown_next : (fs : List Frame) (k : ℕ) → fed (shown fs k) ≡ shown fs (k + 1)
shown_next [] zero = refl
shown_next (f ∷ fs) zero = taken_within (f ∷ fs) 0 zeros (omega arith)
shown_next fs (suc k) =
    elim (cases_lt k (length fs)) [
      | inl lt ↦ ap fed (shown_within fs k lt)
          ∙ elim (cases_lt (suc k) (length fs)) [
            | inl more ↦ taken_within fs (suc k) (frame_at fs k).inputs more ∙ (rw add-one refl)
            | inr last ↦ let here : k ≡ length fs - 1 = omega arith in
                taken_past fs (suc k) (frame_at fs k).inputs last
                ∙ ap (λ n. past_last (frame_at fs n).inputs) here
                ∙ sym (rw add-one (shown-past fs (suc k) last))
          ]
      | inr ge ↦ ap fed (shown-past fs k ge) ∙ sym (rw add-one (shown-past fs (suc k) (omega arith)))
    ]
