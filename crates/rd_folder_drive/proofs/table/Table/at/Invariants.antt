use Rattle.std.proofs.Common.{◌≡◌}
use Rattle.rd_folder_drive.specs.Opening.{number_at}
use Rattle.rd_folder_drive.proofs.table.Table.at.Given as goal

-- what is open so far is at other paths
abbrev pub invariant-loop-node : goal.invariant-loop-node
invariant-loop-node l = number_at l.path l.node-iterator ≡ number_at l.path l.self.opens.entries
