-- What a script's lines make a host do.
use Rattle.std.specs.Prelude.{ℕ, List, Option, Some, None, fold}
use Rattle.rd_script.specs.declared.line.Line.{Line}
use Rattle.rd_script.specs.declared.line.Line.TheVariants as line
use Rattle.rd_script.specs.declared.line.NumberedLine.{NumberedLine}
use Rattle.rd_host_player.specs.declared.plan.Control.{Control}
use Rattle.rd_host_player.specs.declared.plan.Control.TheVariants as control

-- what a line does that the calling thread acts itself
abbrev pub acted_by : Line → Option Control
acted_by line.Drop = Some control.Drop
acted_by line.Connect = Some control.Connect
acted_by _ = None

-- for how many devices a line has a host wait, or for as many as before
abbrev pub devices_by : ℕ → Line → ℕ
devices_by n (line.Devices count) = count
devices_by n _ = n

abbrev pub with_devices : ℕ → NumberedLine → ℕ
with_devices n l = devices_by n l.line

-- for as many as the last line says that says it; for one, where none does
abbrev pub awaited_devices : List NumberedLine → ℕ
awaited_devices lines = fold with_devices 1 lines
