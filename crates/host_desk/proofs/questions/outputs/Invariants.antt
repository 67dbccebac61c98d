use Rattle.std.proofs.Common.{◌≡◌, ℕ, ◌<◌, length, get_or}
use Rattle.host_desk.proofs.questions.outputs.Given as goal

abbrev pub invariant-loop-n : goal.invariant-loop-n
invariant-loop-n g l =
    (length l.byte-items ≡ 128) × ((k : ℕ) → k < l.n → get_or l.byte-items k 0 ≡ (g.H.Host.meaning l.host).outputs k)
