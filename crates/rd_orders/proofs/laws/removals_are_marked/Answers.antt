use Rattle.rd_controls.proofs.RunsParts.{reached_behind}
use Rattle.rd_orders.proofs.Marked.{behind_marked}
use Rattle.rd_orders.proofs.laws.removals_are_marked.Goals as goal

pub returns : goal.returns
returns c lines starves w reached = behind_marked lines starves w (reached_behind lines starves w reached)
