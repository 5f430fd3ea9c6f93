use Rattle.std.proofs.Common.{◌∙◌, Some, ap, subst, sym, inl, inr}
use Rattle.rd_host_player.proofs.PlayLemmas.{if_none_map, if_some_map, issued_at, of_none, of_some}
use Rattle.rd_host_player.proofs.player.Player.act.Goals as goal
use Rattle.rd_host_player.specs.Play.{ComesToControl, Ended, PlayState, Stops}
use Rattle.rd_host_player.specs.declared.plan.Control.{Control}
use Rattle.rd_host_player.specs.declared.plan.Control.TheVariants as control
use Rattle.rd_host_player.specs.declared.player.Stop.{Stop}

pub next_control-requires-after_bounds : goal.next_control-requires-after_bounds
next_control-requires-after_bounds g c κs within = issued_at c.args.self.now c.issue.new.self c.in_ok-issue.ensures

pub returns-in_ok-end_channel-in-Some-Drop-clause-goes_on : goal.returns-in_ok-end_channel-in-Some-Drop-clause-goes_on
returns-in_ok-end_channel-in-Some-Drop-clause-goes_on g c =
    let is = c.in-Some-Drop.is ∙ ap Some c.in-Some-Drop.field-0-is in
    let comes = of_some (λ (k : Control). ComesToControl k c.issue.new.self c.next_control.new.self) c.in_ok-next_control.field-0 control.Drop is c.in_ok-next_control.ensures.some in
    (c.issue.new.self, c.next_control.new.self, c.in_ok-issue.ensures, inl (comes, c.in_ok-end_channel-in-Some-Drop.ensures))

pub returns-in-Some-Connect-clause-goes_on : goal.returns-in-Some-Connect-clause-goes_on
returns-in-Some-Connect-clause-goes_on g c =
    let is = c.in-Some-Connect.is ∙ ap Some c.in-Some-Connect.field-0-is in
    let comes = of_some (λ (k : Control). ComesToControl k c.issue.new.self c.next_control.new.self) c.in_ok-next_control.field-0 control.Connect is c.in_ok-next_control.ensures.some in
    if_none_map c.go_on.result c.go_on.ensures.goes_on (λ looks. (c.issue.new.self, c.next_control.new.self, c.in_ok-issue.ensures, inr (looks.0, comes, looks.1, looks.2)))

pub returns-in-Some-Connect-clause-stops : goal.returns-in-Some-Connect-clause-stops
returns-in-Some-Connect-clause-stops g c =
    let is = c.in-Some-Connect.is ∙ ap Some c.in-Some-Connect.field-0-is in
    let comes = of_some (λ (k : Control). ComesToControl k c.issue.new.self c.next_control.new.self) c.in_ok-next_control.field-0 control.Connect is c.in_ok-next_control.ensures.some in
    if_some_map c.go_on.result c.go_on.ensures.stops (λ why looks. subst (λ (w : Stop). Stops g.W.TableTurn.turn w c.args.self.now c.go_on.new.self) (sym looks.0) (c.issue.new.self, c.next_control.new.self, looks.1, c.in_ok-issue.ensures, comes, looks.2, looks.3))

pub returns-in_ok-check_outcomes-in-None-clause-stops : goal.returns-in_ok-check_outcomes-in-None-clause-stops
returns-in_ok-check_outcomes-in-None-clause-stops g c =
    let left = of_none _ c.in_ok-next_control.field-0 c.in-None.is c.in_ok-next_control.ensures.none in
    let ended = subst (λ (s : PlayState g.row.F.Denot g.row.W.Denot). Ended s c.end_channel-in-None.new.self) left.1 c.in_ok-end_channel-in-None.ensures in
    (c.issue.new.self, c.end_channel-in-None.new.self, c.in_ok-issue.ensures, left.0, ended, c.in_ok-issue-in-None.ensures, c.in_ok-check_outcomes-in-None.ensures)
