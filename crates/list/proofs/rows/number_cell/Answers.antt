use Rattle.std.proofs.Common.{decimal, ap, ◌∙◌}
use Rattle.std.specs.Fmt.{styled_decimal}
use Rattle.reports.proofs.Showing.{made_equal}
use Rattle.list.specs.Shown.{right_aligned}
use Rattle.list.proofs.Aligning.{laid_right}
use Rattle.list.proofs.rows.number_cell.Goals as goal

pub returns : goal.returns
returns c =
    let n = c.args.number in
    let w = c.args.width in
    record { value = made_equal c.format.result (styled_decimal c.laid_out.result n) (right_aligned w (decimal n)) (ap (λ s. styled_decimal s n) c.laid_out.ensures ∙ laid_right w n) c.format.ensures.ok }
