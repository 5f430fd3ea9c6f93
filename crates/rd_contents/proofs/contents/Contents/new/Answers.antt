use Rattle.rd_contents.proofs.ContentsLemmas.{none_sound, shows_none}
use Rattle.rd_contents.proofs.contents.Contents.new.Goals as goal

pub invariant_of-result : goal.invariant_of-result
invariant_of-result c = none_sound c.new.result.entries c.new.ensures.empty

pub returns : goal.returns
returns c = shows_none c.new.result.entries
