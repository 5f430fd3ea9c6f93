use Rattle.std.proofs.Common.{◌≡◌, drop}
use Rattle.std.specs.Prelude.{fold}
use Rattle.rd_host_player.specs.Plan.{with_devices}
use Rattle.rd_host_player.proofs.plan.awaited_devices.Given as goal

-- what the lines so far say
abbrev pub invariant-loop-line : goal.invariant-loop-line
invariant-loop-line l = fold with_devices 1 l.lines ≡ fold with_devices l.devices (drop l.line-index l.lines)
