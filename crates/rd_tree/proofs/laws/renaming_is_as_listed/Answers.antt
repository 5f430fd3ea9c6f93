use Rattle.std.proofs.Common.{refl}
use Rattle.unicode.specs.CaseFolding.{simple_folding}
use Rattle.unicode.specs.Rows.{value_in}
use Rattle.ucd_case.specs.SimpleFoldingRows.{simple_folding_rows}
use Rattle.rd_tree.proofs.laws.renaming_is_as_listed.Goals as goal

pub returns : goal.returns
unfolding simple_folding value_in simple_folding_rows
returns c = record {
  inside = refl;
  not_inside = refl;
  under_a_file = refl;
  many_names = refl;
  most_names = refl;
  many_units = refl;
  most_units = refl;
  many_units_below = refl;
  most_units_below = refl;
  collision = refl;
  replaced = refl;
  no_folder_replaced = refl;
  own = refl;
  own_name = refl;
  own_parent = refl;
  below = refl;
  left = refl;
  replaces = refl;
  target_gone = refl;
  others = refl;
}
