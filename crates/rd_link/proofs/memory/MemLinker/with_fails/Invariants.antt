-- Each channel so far is to come, and there is room for the rest.
use Rattle.std.proofs.Common.{◌≡◌, map}
use Rattle.rd_link.specs.InMemory.{scripted}
use Rattle.rd_link.proofs.memory.MemLinker.with_fails.Given as goal

abbrev pub invariant-loop-bytes : goal.invariant-loop-bytes
invariant-loop-bytes l = l.ahead.items ≡ map (scripted l.fn.reads l.fn.writes) l.yielded
