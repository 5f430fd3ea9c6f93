use Rattle.std.proofs.Common.{◌≡◌, subst, rules, List, [], ◌∷◌, ◌++◌}
use Rattle.std.specs.List.{AllZip}
use Rattle.rd_front.specs.Kept.{DeskGoesOn}
use Rattle.rd_front.specs.State.{DeviceDeskState}
use Rattle.rd_front_tests.proofs.DeskLemmas.{one_goes_on}
use Rattle.rd_front_tests.proofs.side_by_side.on_one_desk.Goals as goal

pub returns-clause-same : goal.returns-clause-same
returns-clause-same g c =
    let first : c.new-front.result.desks ≡ c.new.result ∷ [] = search rules in
    let goes : AllZip DeskGoesOn c.new-front.result.desks c.in_ok-first.front.desks = search rules in
    let last : c.in_ok-first.front.desks ≡ c.pop.new.self.items ++ c.in_ok-desk.desk ∷ [] = search rules in
    let one = one_goes_on c.new.result c.in_ok-desk.desk c.in_ok-first.front.desks c.pop.new.self.items
    (subst (λ (ds : List DeviceDeskState). AllZip DeskGoesOn ds c.in_ok-first.front.desks) first goes) last in
    let pass : c.new.result.pass ≡ c.args.pass = search rules in
    rw (c.into_pass.ensures.same, ← pass) one.same
