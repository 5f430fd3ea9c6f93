use Rattle.rd_lawful.proofs.LawLemmas.{so_far-less, so_far-more, so_far-nil, whole_is}
use Rattle.rd_lawful.proofs.laws.journals_are_judged_by_entries.Goals as goal

pub returns : goal.returns
returns c = record {
  first = so_far-nil;
  next = λ items entry. (λ both. so_far-more items entry both.0 both.1, so_far-less items entry);
  whole = whole_is;
}
