use Rattle.rd_headline.proofs.SessionLemmas.{runs_are_whole}
use Rattle.rd_headline.proofs.laws.runs_are_whole.Goals as goal

pub returns : goal.returns
returns c script books told deeds premises run = runs_are_whole script books told deeds premises run
