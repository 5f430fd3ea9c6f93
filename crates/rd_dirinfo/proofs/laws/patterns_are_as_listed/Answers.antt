use Rattle.std.proofs.Common.{refl}
use Rattle.unicode.specs.CaseFolding.{simple_folding}
use Rattle.unicode.specs.Rows.{value_in}
use Rattle.ucd_case.specs.SimpleFoldingRows.{simple_folding_rows}
use Rattle.rd_dirinfo.specs.Patterns.{is_cut_by}
use Rattle.rd_dirinfo.proofs.laws.patterns_are_as_listed.Goals as goal

pub returns : goal.returns
unfolding simple_folding value_in simple_folding_rows is_cut_by
returns c = record {
  runs = refl;
  last = refl;
  no_run = refl;
  one = refl;
  not_none = refl;
  case = refl;
  case_exact = refl;
  half = refl;
  after_folder = refl;
  nothing = refl;
  dot = refl;
  long = refl;
}
