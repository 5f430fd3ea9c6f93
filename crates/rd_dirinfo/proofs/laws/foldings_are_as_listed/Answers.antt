use Rattle.std.proofs.Common.{refl}
use Rattle.unicode.specs.CaseFolding.{simple_folding}
use Rattle.unicode.specs.Rows.{value_in}
use Rattle.ucd_case.specs.SimpleFoldingRows.{simple_folding_rows}
use Rattle.rd_dirinfo.proofs.laws.foldings_are_as_listed.Goals as goal

pub returns : goal.returns
unfolding simple_folding value_in simple_folding_rows
returns c = record {
  sigmas = refl;
  dotted_capital = refl;
  sharp_s = refl;
  capital_sharp_s = refl;
  kelvin = refl;
  pair = refl;
  case = refl;
  before = refl;
  before_exact = refl;
}
