use Rattle.std.proofs.Common.{◌≡◌, ◌∙◌, ap, subst, false}
use Rattle.rd_host.specs.Core.{HostCoreState}
use Rattle.rd_host_front.specs.State.{HostFrontState, PassOfTable, TurnOfTable}
use Rattle.rd_host_player.specs.Play.{PlayState}
use Rattle.rd_turn.specs.Pass.{Belongs, TurnId, new_pass}
use Rattle.rd_host_session.specs.Channels.{linked_told, stands}
use Rattle.rd_host_session.specs.Hosted.{front_over}
use Rattle.rd_host_session.proofs.HostedLemmas.{begins_so, plays_over}
use Rattle.rd_host_session.proofs.ServingLemmas.{session_turn}
use Rattle.rd_host_session.proofs.session.serve_over.Goals as goal

pub close-requires-clause-own : goal.close-requires-clause-own
close-requires-clause-own g c =
    let old = stands c.new-player.result (linked_told (g.L.Linker.linked c.args.linker.now) (g.L.Linker.failures c.args.linker.now)) in
    let new = stands c.in_ok-other.player (linked_told (g.L.Linker.linked c.serve_all.new.linker) (g.L.Linker.failures c.serve_all.new.linker)) in
    let is : c.into_parts-caller.result.0.turn.now ≡ c.in-Ok.front =
    c.into_parts-caller.ensures.at ∙ session_turn g.W.TableTurn.turn c.awaited_devices.result c.in_ok-other.other old new c.in_ok-other.ensures
    ∙ ap (λ (s : PlayState HostFrontState g.row.W.Denot). s.at) c.new-player.ensures ∙ c.new-3.ensures.0 in
    subst (λ (t : TurnId HostFrontState). Belongs t c.into_pass-caller.result) is c.into_pass-caller.ensures.own

pub returns-clause-plays : goal.returns-clause-plays
returns-clause-plays g c =
    let old = linked_told (g.L.Linker.linked c.args.linker.now) (g.L.Linker.failures c.args.linker.now) in
    let new = linked_told (g.L.Linker.linked c.serve_all.new.linker) (g.L.Linker.failures c.serve_all.new.linker) in
    let opening : (c.in-Ok.front).opening ≡ front_over g.W.TableTurn.turn c.args.pass =
    c.in-Ok.ensures.turn ∙ c.new.ensures
    ∙ ap (λ (x : TurnOfTable). record { core = c.new-core.result; table = record { turn = x; pass = c.split-own.result }; channel = 0; on = false; unsent = 0 }) c.requires.turn
    ∙ ap (λ (x : PassOfTable). record { core = c.new-core.result; table = record { turn = g.W.TableTurn.turn; pass = x }; channel = 0; on = false; unsent = 0 }) c.split-own.ensures.given
    ∙ ap (λ (x : HostCoreState). record { core = x; table = record { turn = g.W.TableTurn.turn; pass = new_pass c.args.pass }; channel = 0; on = false; unsent = 0 }) c.new-core.ensures.step in
    let begun = begins_so c.args.lines.now c.args.issuers.items _ c.args.pass c.split-own.new.pass c.in-Ok.front _ _ c.in-Ok.caller c.new-player.result c.requires.issuers c.split-own.ensures.kept c.new-3.ensures.0 c.new-3.ensures.1
    c.in-Ok.ensures.pass c.new-player.ensures in
    plays_over g.W.TableTurn.turn c.args.lines.now c.awaited_devices.result c.in_ok-other.other c.into_parts-caller.result.3.items c.args.pass c.join.new.pass c.into_parts-caller.result.1 c.into_pass-own.result old new c.in-Ok.front
    c.new-player.result c.in_ok-other.player c.close.result c.into_pass-caller.result opening c.awaited_devices.ensures begun c.in_ok-other.ensures c.into_parts-caller.ensures.issuers
    (c.into_pass-caller.ensures.same ∙ c.into_parts-caller.ensures.front) c.close.ensures.leads c.close.ensures.all c.close.ensures.numbers c.into_parts-caller.ensures.first c.into_pass-own.ensures.same (record {
      number = c.join.ensures.counts.0;
      made = c.join.ensures.counts.1;
      out = c.join.ensures.counts.2;
      joined = c.join.ensures.joined;
      longer = c.join.ensures.longer;
      other_calls = c.join.ensures.other_calls;
      goes_on = c.join.ensures.goes_on;
      numbers = c.join.ensures.numbers;
    })
