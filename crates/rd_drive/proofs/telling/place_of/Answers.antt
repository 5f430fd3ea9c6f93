use Rattle.std.proofs.Common.{◌∙◌, sym, ap, [], ◌∷◌, ◌++◌, subst}
use Rattle.rd_tree.specs.Places.{own_path}
use Rattle.rd_drive.specs.Store.{named_path, IsTold}
use Rattle.rd_drive.proofs.TellLemmas.{has_names, path_split}
use Rattle.rd_drive.proofs.telling.place_of.Goals as goal

pub returns-else-node-eq0-clause-some : goal.returns-else-node-eq0-clause-some
returns-else-node-eq0-clause-some c =
    let tree = c.args.tree.now in
    let n = c.in-Node.node.0 in
    let live = subst (IsTold tree) c.in-Node.is c.requires.told in (
      c.parent.ensures.live,
      ap (named_path tree) c.in-Node.is
          ∙ path_split (own_path tree n) (has_names tree c.requires.is_whole n live (λ z. c.if-node-eq0.false (sym z)))
          ∙ (λ i. sym c.parent.ensures.above i ++ sym c.name.ensures.last i ∷ []),
    )
