use Rattle.std.specs.Prelude.{[], ◌++◌, if◌then◌else◌}
use Rattle.rd_world.proofs.way.Way.handle.Given as goal

-- what was handled since the last message: nothing where one came, else these bytes too
abbrev pub ghost-becoming : goal.ghost-becoming
ghost-becoming a = if a.from.now.0 then [] else a.self.now.items ++ a.from.now.1.now
