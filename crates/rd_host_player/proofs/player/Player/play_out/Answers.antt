use Rattle.std.proofs.Common.{◌≡◌, [], suc, subst, sym}
use Rattle.rd_host_player.proofs.PlayLemmas.{is_no_value, is_value, issued_at, of_none, of_some, on_ok_map}
use Rattle.rd_host_player.proofs.player.Player.play_out.Goals as goal
use Rattle.rd_host_player.specs.Play.{ComesToControl, Issued, PlayState}
use Rattle.rd_host_player.specs.declared.plan.Control.{Control}

pub next_control-requires-after_bounds : goal.next_control-requires-after_bounds
next_control-requires-after_bounds g c κs within = issued_at c.loop.self c.issue.new.self c.in_ok-issue.ensures

pub returns-then-is_none : goal.returns-then-is_none
returns-then-is_none g c =
    let left = of_none _ c.in_ok-next_control.field-0 (is_no_value c.in_ok-next_control.field-0 c.if-is_none.ensures) c.in_ok-next_control.ensures.none in
    let issued = subst (λ (s : PlayState g.row.F.Denot g.row.W.Denot). Issued c.loop.self s) (sym left.1) c.in_ok-issue.ensures in
    let none = subst (λ (s : PlayState g.row.F.Denot g.row.W.Denot). s.lines ≡ []) (sym left.1) left.0 in
    on_ok_map c.check_outcomes.result c.check_outcomes.ensures (λ all. (c.loop.invariant.0, c.loop.self, c.loop.invariant.1, issued, none, all))

pub loop-preserved : goal.loop-preserved
loop-preserved g c =
    let control = is_value c.in_ok-next_control.field-0 c.if-is_none.ensures in
    let comes = of_some (λ (k : Control). ComesToControl k c.issue.new.self c.next_control.new.self) c.in_ok-next_control.field-0 control.0 control.1 c.in_ok-next_control.ensures.some in
    (suc c.loop.invariant.0, (c.loop.self, c.issue.new.self, control.0, c.loop.invariant.1, c.in_ok-issue.ensures, comes))
