use Rattle.std.proofs.Common.{refl}
use Rattle.unicode.specs.CaseFolding.{simple_folding}
use Rattle.unicode.specs.Rows.{value_in}
use Rattle.ucd_case.specs.SimpleFoldingRows.{simple_folding_rows}
use Rattle.rd_dirinfo.specs.Patterns.{is_cut_by}
use Rattle.rd_tree.proofs.laws.listing_is_as_listed.Goals as goal

pub returns : goal.returns
unfolding simple_folding value_in simple_folding_rows is_cut_by
returns c = record {
  first = refl;
  first_folded = refl;
  after = refl;
  last = refl;
  matching = refl;
  matching_folded = refl;
  matching_exact = refl;
  children_alone = refl;
}
