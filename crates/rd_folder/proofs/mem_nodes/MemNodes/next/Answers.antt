use Rattle.std.proofs.Common.{◌∙◌, sym, ap, Some}
use Rattle.std.specs.Option.{option_map}
use Rattle.rd_dirinfo.specs.Paths.{is_name}
use Rattle.rd_folder.specs.declared.look.Listed.{Listed}
use Rattle.rd_folder.proofs.AtLemmas.{listed, listed_named}
use Rattle.rd_folder.proofs.mem_nodes.MemNodes.next.Goals as goal

pub returns-in-Ok-clause-tries : goal.returns-in-Ok-clause-tries
returns-in-Ok-clause-tries c =
    listed c.self.inside.root c.self.inside.others.items c.self.invariant c.args.self.now c.self.view_is c.args.path.now (option_map (λ other. other.now) c.args.after) c.args.pattern.now (Some c.in-Some.node.now)
    c.in-Some.ensures (sym c.has_folder.ensures ∙ c.if-not-has_folder.false)
    ∙ ap (λ (listed : Listed). Some (Some listed, c.args.self.now)) (sym c.in-Ok.ensures.listed)

pub returns-in-Ok-clause-name : goal.returns-in-Ok-clause-name
returns-in-Ok-clause-name c =
    ap (λ (listed : Listed). is_name listed.name) c.in-Ok.ensures.listed
    ∙ listed_named c.self.inside.root c.self.inside.others.items c.self.invariant c.args.path.now (option_map (λ other. other.now) c.args.after) c.args.pattern.now c.in-Some.node.now c.in-Some.ensures
