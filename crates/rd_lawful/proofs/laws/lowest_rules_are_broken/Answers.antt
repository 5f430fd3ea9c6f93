use Rattle.std.proofs.Common.{◌∷◌, ◌++◌}
use Rattle.rd_lawful.proofs.LawLemmas.{broken_is, lower_is, lower_whole, whole_broken, whole_is}
use Rattle.rd_lawful.proofs.laws.lowest_rules_are_broken.Goals as goal

pub returns : goal.returns
returns c = record {
  broken = broken_is;
  whole = whole_broken;
  unlawful = λ items entry rest rule e law. whole_broken items entry rest rule e (((whole_is (items ++ entry ∷ rest)).0 law).0 rule);
  lower = lower_is;
  lower_whole = lower_whole;
}
