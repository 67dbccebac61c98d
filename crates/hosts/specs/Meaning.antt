-- What a host means at one moment, and what giving and advancing may make of that. Assumes nothing.
use Rattle.std.specs.Prelude.{◌≡◌, ℕ, ◌≤◌, Bool, false, cond, ◌&&◌, List, ◌==◌, nat_lt, slice_index}

-- A host: its input bytes, the milliseconds that elapsed, which output bytes it takes, and its output bytes.
pub record Meaning : Type 0 where
  pub inputs : ℕ → ℕ
  pub elapsed : ℕ
  pub taken : ℕ → Bool
  pub outputs : ℕ → ℕ

-- A width is 1 to 128.
pub record Ranged (width : ℕ) : Type 0 where
  pub low : 1 ≤ width
  pub high : width ≤ 128

-- From the width on there is nothing: no input, no byte taken, no output.
pub record Beyond (width : ℕ) (m : Meaning) : Type 0 where
  pub no_input : (n : ℕ) → width ≤ n → m.inputs n ≡ 0
  pub no_taken : (n : ℕ) → width ≤ n → m.taken n ≡ false
  pub no_output : (n : ℕ) → width ≤ n → m.outputs n ≡ 0

-- Bytes with b at n where that is granted, and else as they were.
abbrev pub placed : Bool → ℕ → ℕ → (ℕ → ℕ) → ℕ → ℕ
placed granted n b bytes k = cond (granted && k == n) b (bytes k)

-- Giving sets output n if n is taken; all else stays.
abbrev pub given : Meaning → ℕ → ℕ → Meaning
given m n b = record {
  inputs = m.inputs;
  elapsed = m.elapsed;
  taken = m.taken;
  outputs = placed (m.taken n) n b m.outputs;
}

-- An advance may change inputs and elapsed time, and nothing else.
pub record Advanced (old new : Meaning) : Type 0 where
  pub taken : new.taken ≡ old.taken
  pub outputs : new.outputs ≡ old.outputs

-- The bytes of a row below a width, and 0 from there on.
abbrev pub below : ℕ → List ℕ → ℕ → ℕ
below width row n = cond (nat_lt n width) (slice_index row n) 0

-- A host of so many bytes each way, which takes every one of them.
abbrev pub image_of : ℕ → List ℕ → ℕ → List ℕ → Meaning
image_of width inputs elapsed outputs = record {
  inputs = below width inputs;
  elapsed = elapsed;
  taken = λ n. nat_lt n width;
  outputs = below width outputs;
}
