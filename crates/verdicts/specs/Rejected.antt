-- What is told of a section that is refused. It assumes nothing.
use Rattle.std.specs.Prelude.{ℕ, max, List, ◌++◌, codes}
use Rattle.awl.specs.declared.refusals.Refusal.{Refusal}
use Rattle.reader.specs.Faults.{block_refusal, line_of_block, column_of_block}
use Rattle.reader.specs.declared.faults.BlockFault.{BlockFault}
use Rattle.reports.specs.Refused.{report_at}
use Rattle.reports.specs.Words.{block_words, refusal_words}
use Rattle.projects.specs.Origins.{below}
use Rattle.projects.specs.Told.{head_name}
use Rattle.verdicts.specs.declared.loading.Cause.{Cause}
use Rattle.verdicts.specs.declared.loading.Cause.TheVariants.{Text, Whole}
use Rattle.verdicts.specs.declared.loading.Rejected.{Rejected}

-- a fault of the text below a head, at its line of the file; that of no statement at the head itself
abbrev pub text_report : ℕ → BlockFault → List ℕ → List ℕ
text_report head f file =
    report_at (block_refusal f) (record { line = below head (line_of_block f); column = max (column_of_block f) 1 }) (block_words f) file

-- a refusal of a section as it is, at its head
abbrev pub whole_report : ℕ → Refusal → List ℕ → List ℕ
whole_report head r file = report_at r (record { line = head; column = 1 }) (refusal_words r) file

abbrev pub cause_report : ℕ → Cause → List ℕ → List ℕ
cause_report head (Text f) file = text_report head f file
cause_report head (Whole r) file = whole_report head r file

-- the name of the block or data block, and why it is refused
abbrev pub rejected_report : Rejected → List ℕ → List ℕ
rejected_report r file = head_name r.head ++ (codes ": " ++ cause_report r.line r.cause file)
