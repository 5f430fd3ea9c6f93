use Rattle.std.proofs.Common.{refl}
use Rattle.unicode.specs.CaseFolding.{simple_folding}
use Rattle.unicode.specs.Rows.{value_in}
use Rattle.ucd_case.specs.SimpleFoldingRows.{simple_folding_rows}
use Rattle.rd_tree.proofs.laws.adding_is_as_listed.Goals as goal

pub returns : goal.returns
unfolding simple_folding value_in simple_folding_rows
returns c = record {
  root = refl;
  there = refl;
  free = refl;
  no_folder = refl;
  under_a_file = refl;
  full = refl;
  one_more = refl;
  kept_parent = refl;
  new = refl;
}
