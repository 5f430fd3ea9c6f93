use Rattle.std.proofs.Common.{refl}
use Rattle.rd_world.specs.Bits.{where_holds}
use Rattle.rd_world.proofs.choices.choices_stand_in_order.Goals as goal

pub returns : goal.returns
unfolding where_holds
returns _ c e = rw (e.issues, e.host_sends, e.client_reads, e.client_sends, e.collects, e.host_reads, e.waiting, e.free, e.full) refl
