use Rattle.std.proofs.Common.{◌≡◌, ℕ, take}
use Rattle.rd_audit.specs.Telling.{told_announced, told_in}
use Rattle.rd_audit.proofs.completions.Telling.announce.Given as goal

-- those up to a place were announced
abbrev pub invariant-loop-id : goal.invariant-loop-id
invariant-loop-id l = (d : ℕ) → told_in l.self d ≡ told_announced (take l.id-index l.ids) (told_in l.initial.self d) d
