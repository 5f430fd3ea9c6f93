use Rattle.std.proofs.Common.{◌≡◌}
use Rattle.std.specs.List.{list_any}
use Rattle.rd_folder_drive.specs.Moving.{is_open_in}
use Rattle.rd_folder_drive.proofs.moves.any_open_in.Given as goal

-- none that was looked at
abbrev pub invariant-loop-open : goal.invariant-loop-open
invariant-loop-open l = list_any (is_open_in l.path) l.open-iterator ≡ list_any (is_open_in l.path) l.opens.entries
