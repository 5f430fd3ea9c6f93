use denote.Param.Send.{sendable}
use Rattle.std.proofs.Common.{◌∙◌, ap}
use Rattle.std.proofs.Crossing.{crosses}
use Rattle.rd_host_channel.proofs.ending.Ending.TheSendSync as ending
use Rattle.rd_sleepers.proofs.sleepers.Sleepers.TheSendSync as sleepers
use Rattle.rd_turn.proofs.caller.Caller.TheSendSync as caller
use Rattle.rd_turn.proofs.pass.Pass.TheSendSync as pass
use Rattle.rd_host_session.proofs.PassLemmas.{comes_back_as}
use Rattle.rd_host_session.proofs.SendLemmas.{incoming_send}
use Rattle.rd_host_session.proofs.channels.read_beside.Goals as goal

pub spawn_with-requires-send-F : goal.spawn_with-requires-send-F
spawn_with-requires-send-F g c κs within = search (sendable, crosses, sleepers.the_field_sync, caller.the_field_send, incoming_send) depth 40

pub spawn_with-requires-send-T : goal.spawn_with-requires-send-T
spawn_with-requires-send-T g c κs within = search (sendable, crosses, pass.the_send, ending.the_field_send, incoming_send) depth 40

pub spawn_with-requires-clause-keeps : goal.spawn_with-requires-clause-keeps
spawn_with-requires-clause-keeps g c κs within = λ r e. rw (c.of.ensures, c.of-2.ensures) e

pub returns-in-Ok-clause-reader : goal.returns-in-Ok-clause-reader
returns-in-Ok-clause-reader g c = comes_back_as _ _ _ (ap (λ p. p.pass.value) c.in-Ok.ensures.ok ∙ c.of.ensures) c.join-read.ensures.0

pub returns-in-Err-clause-reader : goal.returns-in-Err-clause-reader
returns-in-Err-clause-reader g c = comes_back_as _ _ _ (ap (λ f. f.3.pass) c.in-Err.ensures.err) c.spawn_with-read.ensures.back
