use Rattle.std.proofs.Common.{◌≡◌, ℕ, ◌++◌, map}
use Rattle.rd_declared.specs.Devices.{Declared}
use Rattle.rd_audit.proofs.judging.ids_of.Given as goal

-- the ids so far, and those that are left
abbrev pub invariant-loop-id : goal.invariant-loop-id
invariant-loop-id l = l.ids.items ++ map (λ (d : ℕ × Declared). d.0) l.id-iterator ≡ map (λ (d : ℕ × Declared). d.0) l.fn.devices.entries
