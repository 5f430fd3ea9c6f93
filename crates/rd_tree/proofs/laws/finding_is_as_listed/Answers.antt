use Rattle.std.proofs.Common.{refl}
use Rattle.unicode.specs.CaseFolding.{simple_folding}
use Rattle.unicode.specs.Rows.{value_in}
use Rattle.ucd_case.specs.SimpleFoldingRows.{simple_folding_rows}
use Rattle.rd_tree.proofs.laws.finding_is_as_listed.Goals as goal

pub returns : goal.returns
unfolding simple_folding value_in simple_folding_rows
returns c = record {
  root = refl;
  case = refl;
  case_exact = refl;
  below_a_file = refl;
  bytes = refl;
  folder = refl;
  parent = refl;
  leaf = refl;
  gone = refl;
  others = refl;
  changed = refl;
}
