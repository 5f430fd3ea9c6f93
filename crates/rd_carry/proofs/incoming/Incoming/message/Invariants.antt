use Rattle.std.specs.Prelude.{◌++◌}
use Rattle.std.specs.Option.{option_to_list}
use Rattle.rd_carry.proofs.incoming.Incoming.message.Given as goal

-- the messages handed out, and this one if there is one
abbrev pub ghost-becoming : goal.ghost-becoming
ghost-becoming g a = a.self.now.items ++ option_to_list a.from.now
