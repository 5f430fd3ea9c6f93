use Rattle.std.proofs.Common.{◌≡◌, ℕ, take}
use Rattle.rd_audit.specs.Telling.{told_in, told_removed}
use Rattle.rd_audit.proofs.completions.Telling.remove.Given as goal

-- those up to a place were removed
abbrev pub invariant-loop-id : goal.invariant-loop-id
invariant-loop-id l = (d : ℕ) → told_in l.self d ≡ told_removed (take l.id-index l.ids) l.entry (told_in l.initial.self d) d
