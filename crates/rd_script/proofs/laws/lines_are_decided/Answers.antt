use Rattle.rd_script.specs.Row.{words_of}
use Rattle.rd_script.specs.Rows.{line_row}
use Rattle.rd_script.specs.Script.{is_application}
use Rattle.rd_script.proofs.RowLemmas.{row_is_decided}
use Rattle.rd_script.proofs.laws.lines_are_decided.Goals as goal

pub returns : goal.returns
returns c said text = row_is_decided (line_row said (is_application text)) (words_of text)
