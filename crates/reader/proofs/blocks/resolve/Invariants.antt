use Rattle.std.proofs.Common.{◌≡◌, map, take, drop}
use Rattle.reader.specs.Listed.{entry, listed}
use Rattle.reader.specs.Reading.{resolved}
use Rattle.reader.proofs.blocks.resolve.Given as goal

abbrev pub invariant-loop-line : goal.invariant-loop-line
invariant-loop-line l =
    (map entry (take l.line-index l.lines)
    ≡ map (resolved (listed l.listing.lines l.listing.count)) (map entry (take l.line-index l.initial.lines)))
    × (drop l.line-index l.lines ≡ drop l.line-index l.initial.lines)
