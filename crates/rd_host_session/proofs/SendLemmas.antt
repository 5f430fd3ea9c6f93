-- The half of a channel that is read may go to another thread, where its source may.
use denote.RattleType.{RattleType}
use denote.Param.Send.{AllSend, IsSend, recorded_send, sendable, struct_send}
use denote.Struct.Declared.{fields, shape}
use Rattle.std.proofs.Crossing.{crosses}
use Rattle.rd_base.specs.declared.outside.Source as source
use Rattle.rd_carry.specs.contracts.incoming.Incoming as half
use Rattle.rd_carry.specs.contracts.incoming.Incoming.TheInside as inside

module _ (S : RattleType) (g : source.Ghosts S.Denot) (sends : IsSend S) where
  -- its source, its joiner, its buffer, four numbers, and two traces
  fields_send : AllSend (fields (inside.the_type S g))
  fields_send = (sends, (search (sendable, crosses) depth 40, (search (sendable, crosses), (search sendable, (search sendable, (search sendable, (search sendable, (search (sendable, crosses) depth 40, (search (sendable, crosses) depth 40, tt)))))))))

  inside_send : IsSend (inside.the_row S g)
  inside_send = recorded_send (inside.the_field S g).row _ _ (inside.the_type S g).to_one (struct_send (shape (inside.the_type S g)) fields_send)

  pub incoming_send : IsSend (half.the_row S g)
  incoming_send = search (sendable, inside_send) depth 10
