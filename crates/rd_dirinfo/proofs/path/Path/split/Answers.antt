use Rattle.std.proofs.Common.{◌∙◌, sym, ap, List}
use Rattle.rd_dirinfo.specs.Naming.{Name}
use Rattle.rd_dirinfo.specs.Paths.{is_path}
use Rattle.rd_dirinfo.proofs.PathLemmas.{path_is_within}
use Rattle.rd_dirinfo.proofs.path.Path.split.Goals as goal

pub invariant_of-result : goal.invariant_of-result
invariant_of-result c = ap (λ (names : List Name). is_path names) c.in_ok-names.ensures ∙ path_is_within c.args.units.now (sym c.path_fault.ensures ∙ c.in_default.is)
