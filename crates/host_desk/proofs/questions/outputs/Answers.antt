use Rattle.std.proofs.Common.{arith}
use Rattle.std.proofs.lemmas.List.FromFn.{fill_by_all}
use Rattle.host_desk.specs.HostCalls.{output_row}
use Rattle.host_desk.proofs.questions.outputs.Goals as goal

pub returns : goal.returns
unfolding output_row
returns g c =
    let all = fill_by_all (g.H.Host.meaning c.args.host.now).outputs c.loop-n.byte-items 128 0 c.loop-n.invariant.0 (λ k h. c.loop-n.invariant.1 k (omega (arith, h, c.loop-n.invariant.0))) in
    record { value = all }
