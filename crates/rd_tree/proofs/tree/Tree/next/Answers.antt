use Rattle.std.proofs.Common.{◌∙◌, sym, ap}
use Rattle.std.specs.Option.{is_some}
use Rattle.rd_tree.specs.Places.{Places, is_folder}
use Rattle.rd_tree.proofs.PlaceLemmas.{folder_kind}
use Rattle.rd_tree.proofs.tree.Tree.next.Goals as goal

pub next_name-requires-clause-live : goal.next_name-requires-clause-live
next_name-requires-clause-live c = ap is_some (sym (folder_kind c.self.inside.naming c.self.inside.nodes c.args.folder.0) ∙ ap (λ (t : Places). is_folder t c.args.folder.0) c.self.view_is ∙ c.requires)
