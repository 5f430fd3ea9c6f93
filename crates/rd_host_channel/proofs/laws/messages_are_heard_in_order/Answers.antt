use Rattle.rd_host_channel.proofs.BackLemmas.{history_back, step_back}
use Rattle.rd_host_channel.proofs.GivenLemmas.{came_heard}
use Rattle.rd_host_channel.proofs.laws.messages_are_heard_in_order.Goals as goal

pub returns-clause-step : goal.returns-clause-step
returns-clause-step g c = λ old new does back step. step_back old new does back step

pub returns-clause-history : goal.returns-clause-history
returns-clause-history g c = λ old new entries number leads. history_back old new entries number leads

pub returns-clause-heard : goal.returns-clause-heard
returns-clause-heard g c = λ channel calls came rest are gives. came_heard channel calls came rest are gives
