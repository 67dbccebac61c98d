use Rattle.std.proofs.Common.{vec_items, ◌∙◌}
use Rattle.protocol.proofs.Spelling.{byte_more}
use Rattle.protocol.proofs.hex.hex_bytes.Goals as goal

pub loop-rest-preserved : goal.loop-rest-preserved
loop-rest-preserved c =
    byte_more c.loop-rest.rest.now (vec_items c.loop-rest.bytes) (vec_items c.push.new.self) c.in-Some.byte c.in-len2-up.len_at_least c.in-Some.ensures.value c.in_ok-push.ensures.items
    ∙ c.loop-rest.invariant
