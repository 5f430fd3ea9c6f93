use Rattle.std.proofs.Common.{◌≡◌, ◌∙◌, ◌++◌, sym, ap, subst, List, ℕ}
use Rattle.std.specs.Result.{OnOk}
use Rattle.rd_contents.specs.Contents.{part}
use Rattle.rd_tree.specs.Places.{Places, file_at, IsFile}
use Rattle.rd_tree.proofs.FileLemmas.{file_found, contents_seen}
use Rattle.rd_tree.proofs.tree.Tree.read_into.Goals as goal

pub unreachable-requires : goal.unreachable-requires
unreachable-requires c =
    file_found c.self.inside.naming c.self.inside.nodes c.args.node.0 (subst (λ (t : Places). IsFile t c.args.node.0) (sym c.self.view_is) c.requires) (sym c.in_default.ensures)

pub returns-clause-read : goal.returns-clause-read
returns-clause-read c =
    let file = contents_seen c.self.inside.naming c.self.inside.nodes c.args.node.0 c.in-Some.file.now (sym c.in-Some.ensures) (subst (λ (t : Places). IsFile t c.args.node.0) (sym c.self.view_is) c.requires) in
    subst (λ (f : List ℕ). OnOk c.read_into.result (c.read_into.new.out.items ≡ c.args.out.now.items ++ part f c.args.offset c.args.count)) (sym file ∙ ap (λ (t : Places). file_at t c.args.node.0) c.self.view_is) c.read_into.ensures.read
