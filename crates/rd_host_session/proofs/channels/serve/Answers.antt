use Rattle.std.proofs.Common.{◌≡◌, ◌∙◌, [], ap, subst, sym}
use Rattle.rd_host_channel.specs.Calls.{HostPass}
use Rattle.rd_host_player.specs.Play.{PlayState, Plays}
use Rattle.rd_host_player.specs.declared.player.Stop.{Stop}
use Rattle.rd_turn.specs.History.{calls_of}
use Rattle.rd_host_session.proofs.ServingLemmas.{of_ok, played_turn, serves_begun}
use Rattle.rd_host_session.proofs.channels.serve.Goals as goal

pub join-requires-clause-at : goal.join-requires-clause-at
join-requires-clause-at g c κs within =
    let over = c.serve_beside-player.result.0.1 in
    let plays = of_ok (λ (why : Stop). Plays g.W.TableTurn.turn c.args.devices why c.split-writer.new.self over) c.serve_beside-player.result.0.0 c.in-Ok.why c.in-Ok.is c.serve_beside-player.ensures.plays in
    c.new.ensures.0 ∙ c.split-reader.ensures.at
    ∙ sym (played_turn g.W.TableTurn.turn c.args.devices c.in-Ok.why c.args.player c.split-reader.new.self c.split-writer.new.self over c.split-reader.ensures.kept c.split-writer.ensures.kept plays)

pub join-requires-in-Ok-clause-at : goal.join-requires-in-Ok-clause-at
join-requires-in-Ok-clause-at g c κs within =
    let over = c.serve_beside-player.result.0.1 in
    let plays = of_ok (λ (why : Stop). Plays g.W.TableTurn.turn c.args.devices why c.split-writer.new.self over) c.serve_beside-player.result.0.0 c.in-Ok.why c.in-Ok.is c.serve_beside-player.ensures.plays in
    c.new-in-Ok.ensures.0 ∙ c.split-reader.ensures.at
    ∙ sym (played_turn g.W.TableTurn.turn c.args.devices c.in-Ok.why c.args.player c.split-reader.new.self c.split-writer.new.self over c.split-reader.ensures.kept c.split-writer.ensures.kept plays)
    ∙ sym (ap (λ (s : PlayState g.row.F.Denot g.row.W.Denot). s.at) c.join.ensures.kept)

pub returns-in-Ok : goal.returns-in-Ok
returns-in-Ok g c =
    let read = c.serve_beside-player.result.1 in
    let written = c.serve_beside-player.result.2 in
    let plays = of_ok (λ (why : Stop). Plays g.W.TableTurn.turn c.args.devices why c.split-writer.new.self c.serve_beside-player.result.0.1) c.serve_beside-player.result.0.0 c.in-Ok.why c.in-Ok.is c.serve_beside-player.ensures.plays in
    serves_begun g.W.TableTurn.turn c.args.devices c.args.channel c.in-Ok.why read.ending written.starved c.args.incoming read.incoming c.args.outgoing written.outgoing c.args.player c.split-reader.new.self
    c.split-writer.new.self c.serve_beside-player.result.0.1 c.join.new.self c.join-in-Ok.new.self _ _ read.pass written.pass _ _ c.split-reader.ensures.kept c.split-writer.ensures.kept
    (c.into_pass.ensures.same ∙ c.split-reader.ensures.given) (c.into_pass-2.ensures.same ∙ c.split-writer.ensures.given)
    (subst (λ (p : HostPass g.row.F.Denot g.row.W.Denot). calls_of p.number p.seen ≡ []) (sym c.into_pass.ensures.same) c.split-reader.ensures.fresh)
    (subst (λ (p : HostPass g.row.F.Denot g.row.W.Denot). calls_of p.number p.seen ≡ []) (sym c.into_pass-2.ensures.same) c.split-writer.ensures.fresh) plays c.serve_beside-player.ensures.listens c.serve_beside-player.ensures.sends c.new.ensures.1
    c.new-in-Ok.ensures.1 c.join.ensures.kept c.join.ensures.joined c.join-in-Ok.ensures.kept c.join-in-Ok.ensures.joined
