-- What a bench means, and what its own calls make of it. Assumes nothing.
use Rattle.std.specs.Prelude.{ℕ, Bool, List}
use Rattle.hosts.specs.declared.bench.Bench.{Bench}
use Rattle.hosts.specs.Meaning.{Meaning, placed, image_of}

-- A bench of these inputs, elapsed time and outputs: 128 bytes wide, and it takes every one of them.
abbrev pub bench_of : List ℕ → ℕ → List ℕ → Meaning
bench_of inputs elapsed outputs = image_of 128 inputs elapsed outputs

-- What a bench means.
abbrev pub bench_meaning : Bench → Meaning
bench_meaning s = bench_of s.image.inputs s.image.elapsed s.image.outputs

-- The same host, with d milliseconds elapsed.
abbrev pub with_elapsed : Meaning → ℕ → Meaning
with_elapsed m d = record { inputs = m.inputs; elapsed = d; taken = m.taken; outputs = m.outputs }

-- The same host, with b as input n where that is granted.
abbrev pub with_input : Bool → Meaning → ℕ → ℕ → Meaning
with_input granted m n b = record {
  inputs = placed granted n b m.inputs;
  elapsed = m.elapsed;
  taken = m.taken;
  outputs = m.outputs;
}
