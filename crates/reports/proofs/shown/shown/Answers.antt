use Rattle.std.proofs.Common.{◌≡◌, ℕ, List, map, IfOk, string_bytes, subst, tests, rules}
use Rattle.std.proofs.lemmas.Iterator.{YieldsList-from_slice, YieldsList-from_map, text_from_collect}
use Rattle.std.proofs.lemmas.Str.{encodes-IsAscii}
use Rattle.reports.specs.Shown.{shown_byte}
use Rattle.reports.proofs.Showing.{shown_all}
use Rattle.reports.proofs.shown.shown.Goals as goal

pub returns : goal.returns
returns c =
    let bytes = c.args.bytes.now in
    let made = text_from_collect _ c.collect.ensures.ran (YieldsList-from_map _ shown_byte (YieldsList-from_slice bytes (cc)) c.map.ensures.closure (λ x r q k. search (rules, tests))) in
    record { value = subst (λ (text : List ℕ). IfOk c.collect.result (λ s. string_bytes s ≡ text)) (encodes-IsAscii (map shown_byte bytes) (shown_all bytes)) made }
