use Rattle.std.specs.Prelude.{◌++◌}
use Rattle.rd_carry.proofs.incoming.Incoming.read.Given as goal

-- the bytes read, and those that came
abbrev pub ghost-becoming : goal.ghost-becoming
ghost-becoming g a = a.self.now.items ++ a.from.now.now
