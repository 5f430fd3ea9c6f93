use Rattle.std.proofs.Common.{ap}
use Rattle.rd_world.proofs.OwnAnswers.{is_own}
use Rattle.rd_world.proofs.Unheard.{unheard}
use Rattle.rd_world.proofs.laws.losses_are_no_replies.Goals as goal

pub returns : goal.returns
returns c client devices deeds is a reply came = (
  λ e. unheard client devices deeds is a reply came (ap is_own e),
  λ e. unheard client devices deeds is a reply came (ap is_own e),
)
