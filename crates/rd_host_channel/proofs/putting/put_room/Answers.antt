use Rattle.std.proofs.Common.{refl}
use Rattle.rd_host_channel.proofs.PuttingLemmas.{on_starved}
use Rattle.rd_host_channel.proofs.putting.put_room.Goals as goal

pub returns-then-starved : goal.returns-then-starved
returns-then-starved g c = on_starved c.args.starved.now c.args.starved.now c.args.room.messages c.args.output.now c.args.output.now c.if-starved.true refl refl
