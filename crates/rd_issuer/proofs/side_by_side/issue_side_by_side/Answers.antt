use Rattle.std.proofs.Common.{◌≡◌, ap, subst, true, length, map, arith}
use Rattle.std.specs.Prelude.{All}
use Rattle.rd_turn.specs.Pass.{GoesOn}
use Rattle.rd_issuer.specs.Issues.{TablePass}
use Rattle.rd_issuer.specs.SideBySide.{RanSideBySide}
use Rattle.rd_issuer.specs.Stints.{StintState, issuer_of}
use Rattle.rd_issuer.proofs.StintLemmas.{both_ok, goes_on_none, goes_on_split, ran_side_by_side, splits_belong, splits_first, stints_count, turns_stay}
use Rattle.rd_issuer.proofs.side_by_side.issue_side_by_side.Goals as goal

pub returns-in_err-stints-2-clause-own : goal.returns-in_err-stints-2-clause-own
returns-in_err-stints-2-clause-own g c = splits_belong c.args.turn.now c.args.pass.now c.split_all-stints.new.pass c.args.issuers.items c.split_all-stints.ensures.kept c.requires.own

pub returns-in_err-stints-2-clause-first : goal.returns-in_err-stints-2-clause-first
returns-in_err-stints-2-clause-first g c = splits_first c.args.pass.now c.split_all-stints.new.pass c.args.issuers.items c.split_all-stints.ensures.kept c.requires.first

pub returns-in_err-stints-2-clause-goes_on : goal.returns-in_err-stints-2-clause-goes_on
returns-in_err-stints-2-clause-goes_on g c =
    goes_on_split c.args.pass.now c.split_all-stints.new.pass c.args.issuers.items
    (subst (λ (q : TablePass). GoesOn q c.split_all-stints.new.pass) c.split_all-stints.ensures.kept (goes_on_none c.split_all-stints.new.pass))

pub join_all-requires-clause-own : goal.join_all-requires-clause-own
join_all-requires-clause-own g c = splits_belong c.args.turn.now c.args.pass.now c.split_all-stints.new.pass c.args.issuers.items c.split_all-stints.ensures.kept c.requires.own

pub join_all-requires-clause-first : goal.join_all-requires-clause-first
join_all-requires-clause-first g c = splits_first c.args.pass.now c.split_all-stints.new.pass c.args.issuers.items c.split_all-stints.ensures.kept c.requires.first

pub join_all-requires-clause-turns : goal.join_all-requires-clause-turns
join_all-requires-clause-turns g c =
    turns_stay c.args.turn.now c.args.pass.now c.args.issuers.items c.split_all-stints.result.items c.in_ok-stints-2.stints.items c.split_all-stints.ensures.stints c.in_ok-stints-2.ensures.count c.in_ok-stints-2.ensures.each

pub join_all-requires-clause-room : goal.join_all-requires-clause-room
join_all-requires-clause-room g c =
    let made = stints_count c.args.turn.now c.args.pass.now c.args.issuers.items in
    let stints = ap length c.split_all-stints.ensures.stints in
    omega (arith, made, stints, c.in_ok-stints-2.ensures.count, c.in_ok-home.ensures.capacity, c.len.ensures)

pub returns-clause-goes_on : goal.returns-clause-goes_on
returns-clause-goes_on g c =
    goes_on_split c.args.pass.now c.join_all.new.pass c.args.issuers.items (subst (λ (q : TablePass). GoesOn q c.join_all.new.pass) c.split_all-stints.ensures.kept c.join_all.ensures.goes_on)

pub returns-clause-ran : goal.returns-clause-ran
returns-clause-ran g c =
    let done = c.in_ok-stints-2.stints.items in
    let counts = c.join_all.ensures.counts in
    both_ok c.join_all.result (λ home. All (λ (s : StintState). s.found ≡ true) done) (λ home. home.items ≡ map issuer_of done) (λ home. RanSideBySide c.args.pass.now c.join_all.new.pass c.args.issuers.items home.items)
    c.join_all.ensures.found c.join_all.ensures.issuers
    (λ home found is.
    ran_side_by_side c.args.turn.now c.args.pass.now c.split_all-stints.new.pass c.join_all.new.pass c.args.issuers.items home.items c.split_all-stints.result.items done c.split_all-stints.ensures.stints
    c.split_all-stints.ensures.fresh c.split_all-stints.ensures.kept c.in_ok-stints-2.ensures.count c.in_ok-stints-2.ensures.each counts.0 counts.1 counts.2 c.join_all.ensures.kept c.join_all.ensures.home found is)
