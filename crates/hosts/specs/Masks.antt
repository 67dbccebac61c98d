-- What a mask makes of the host under it. Assumes nothing.
use Rattle.std.specs.Prelude.{ℕ, ◌/◌, ◌%◌, ◌^◌, Bool, not, ◌&&◌, ◌==◌, nat_lt}
use Rattle.hosts.specs.Meaning.{Meaning}

-- A mask of 32 bits holds byte n back where bit n is set; it has no bit from 32 on.
abbrev pub held_back : ℕ → ℕ → Bool
held_back bits n = nat_lt n 32 && bits / 2 ^ n % 2 == 1

-- A byte that is held back is not taken; all else is the host's.
abbrev pub masked : ℕ → Meaning → Meaning
masked bits m = record {
  inputs = m.inputs;
  elapsed = m.elapsed;
  taken = λ n. m.taken n && not (held_back bits n);
  outputs = m.outputs;
}
