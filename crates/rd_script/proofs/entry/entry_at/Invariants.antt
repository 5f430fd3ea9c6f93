use Rattle.std.proofs.Common.{◌≡◌, map, drop}
use Rattle.rd_script.specs.Keywords.{entry_at}
use Rattle.rd_script.proofs.entry.entry_at.Given as goal

abbrev pub invariant-loop-text : goal.invariant-loop-text
invariant-loop-text g l = entry_at (map (λ e. (e.0.now, e.1)) (drop l.text-index l.table)) l.word ≡ entry_at (map (λ e. (e.0.now, e.1)) l.table) l.word
