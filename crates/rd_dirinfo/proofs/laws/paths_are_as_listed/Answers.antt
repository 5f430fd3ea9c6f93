use Rattle.std.proofs.Common.{refl}
use Rattle.rd_dirinfo.proofs.laws.paths_are_as_listed.Goals as goal

pub returns : goal.returns
returns c = record {
  none = refl;
  root = refl;
  two = refl;
  names = refl;
  empty_name = refl;
  colon = refl;
  dots = refl;
  long_name = refl;
}
