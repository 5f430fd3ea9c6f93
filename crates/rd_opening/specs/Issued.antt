-- When a request is accepted.
use Rattle.std.specs.Prelude.{ℕ, List}
use Rattle.rd_world.specs.Acts.{Opens}
use Rattle.rd_declared.specs.Devices.{Declared}
use Rattle.rd_world.specs.Lines.{last_begun}
use Rattle.rd_deeds.specs.Talk.{Deed, submits}

-- A request is accepted after the opening of the channel that began last.
abbrev pub ComesOpened : List (ℕ × Declared) → List Deed → Deed → Type 0
ComesOpened devices before (submits a named op) = Opens devices before (last_begun before)
ComesOpened devices before deed = Unit {0}
