-- The report on a block's fault from its parts. Assumes nothing.
use Rattle.std.proofs.Common.{◌≡◌, ℕ, List, refl, ◌∙◌}
use Rattle.awl.specs.declared.refusals.Refusal.{Refusal}
use Rattle.reader.specs.Faults.{block_refusal}
use Rattle.reader.specs.declared.faults.BlockFault.{BlockFault}
use Rattle.reader.specs.declared.faults.BlockFault.TheVariants.{Line, MarkTwice, Full, Empty}
use Rattle.reports.specs.Words.{block_words}
use Rattle.reports.specs.Refused.{sentence, report_at, spot_of, report_of}
use Rattle.reports.specs.declared.refused.Spot.{Spot}

-- no statement: the sentence alone
pub alone : (f : BlockFault) (r : Refusal) (s : Spot) (w text : List ℕ) → f ≡ Empty → r ≡ block_refusal f → s ≡ spot_of f → w ≡ block_words f → sentence r s w ≡ report_of f text
alone f r s w text e g h k = cc

-- any other fault: the line too
pub with_line : (f : BlockFault) (r : Refusal) (s : Spot) (w text : List ℕ) → (f ≡ Empty → ⊥) → r ≡ block_refusal f → s ≡ spot_of f → w ≡ block_words f → report_at r s w text ≡ report_of f text
with_line f r s w text e g h k = parts ∙ whole f e
  where
    parts : report_at r s w text ≡ report_at (block_refusal f) (spot_of f) (block_words f) text
    parts = cc

    whole : (f : BlockFault) → (f ≡ Empty → ⊥) → report_at (block_refusal f) (spot_of f) (block_words f) text ≡ report_of f text
    whole (Line f) e = refl
    whole (MarkTwice l c) e = refl
    whole (Full l) e = refl
    whole Empty e = absurd (e refl)
