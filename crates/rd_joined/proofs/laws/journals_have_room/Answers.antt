use Rattle.rd_world.proofs.NumberedLemmas.{scripts_are_numbered}
use Rattle.rd_joined.proofs.RoomLemmas.{unworn}
use Rattle.rd_joined.proofs.ScriptLemmas.{script_fit, script_premises}
use Rattle.rd_joined.proofs.laws.journals_have_room.Goals as goal

pub returns : goal.returns
returns c m text script starves w is reached device =
    unworn script.lines starves (script_premises m text script is) w reached (scripts_are_numbered m text script is).few (script_fit m text script is) device
