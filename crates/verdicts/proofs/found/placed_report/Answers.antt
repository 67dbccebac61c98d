use Rattle.std.proofs.Common.{◌≡◌, ◌-◌, [], ◌++◌, map, get_or, string_bytes, codes, ap, ◌∙◌}
use Rattle.lines.specs.Lines.{lines_of}
use Rattle.reports.proofs.Showing.{made_equal}
use Rattle.reports.specs.Shown.{shown_byte}
use Rattle.verdicts.specs.Found.{fault_words, place_told, placed_report}
use Rattle.verdicts.proofs.Telling.{placed}
use Rattle.verdicts.proofs.found.placed_report.Goals as goal

pub returns : goal.returns
returns c =
    let line = get_or (lines_of c.args.file.now) (c.args.line - 1) [] in
    let text = c.in_ok-text.ensures.value ∙ ap (map shown_byte) c.line_numbered.ensures.value in
    let told = placed_report c.args.found c.args.line c.args.file.now in
    let written =
    string_bytes c.in_ok-place.place
    ++ (codes ": " ++ (c.fault_words-words.result.now
    ++ (codes "\n" ++ (string_bytes c.in_ok-text.text ++ codes "\n")))) in
    let same : written ≡ told =
    placed (string_bytes c.in_ok-place.place) c.fault_words-words.result.now (string_bytes c.in_ok-text.text) (place_told c.args.found c.args.line) (fault_words c.args.found.fault) (map shown_byte line) c.in_ok-place.ensures.value c.fault_words-words.ensures.value text in
    record { value = made_equal c.format.result written told same c.format.ensures.ok }
