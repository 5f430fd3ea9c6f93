use Rattle.std.proofs.Common.{◌∙◌, sym}
use Rattle.std.specs.Cmp.{Equal-is}
use Rattle.rd_dirinfo.proofs.NamingLemmas.{equal_is_same}
use Rattle.rd_dirinfo.proofs.naming.Naming.same.Goals as goal

pub returns : goal.returns
returns c =
    let both = equal_is_same c.args.self c.args.a.now c.args.b.now in
    let is = Equal-is c.compare.result in
    (λ yes. both.0 (sym c.compare.ensures ∙ is.0 (sym c.is_eq.ensures ∙ yes)), λ same. c.is_eq.ensures ∙ is.1 (c.compare.ensures ∙ both.1 same))
