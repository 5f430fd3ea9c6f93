use Rattle.std.proofs.Common.{subst, sym}
use Rattle.rd_host_session.specs.Channels.{ServesBegun, ServesNext, linked_told, stands}
use Rattle.rd_host_session.specs.declared.channels.Next.{Next}
use Rattle.rd_host_player.specs.declared.player.Stop.{Stop}
use Rattle.rd_host_session.proofs.ServingLemmas.{of_ok, served_next, serves_channel}
use Rattle.rd_host_session.proofs.channels.serve_next.Goals as goal

pub returns : goal.returns
returns g c =
    let turn = g.W.TableTurn.turn in
    let ending = c.serve-halves.result.0.ending in
    let starved = c.serve-halves.result.0.starved in
    let why = c.in_ok-stop.field-0 in
    let old = stands c.args.player (linked_told (g.L.Linker.linked c.args.linker.now) (g.L.Linker.failures c.args.linker.now)) in
    let new = stands c.serve-halves.result.2 (linked_told (g.L.Linker.linked c.settle-2.new.self) (g.L.Linker.failures c.settle-2.new.self)) in
    let serves = of_ok (λ (why : Stop). ServesBegun turn c.args.devices c.args.channel why ending starved c.new-incoming.result c.new-outgoing.result c.begins.new.player c.serve-halves.result.0.incoming c.serve-halves.result.0.outgoing c.serve-halves.result.2)
    c.serve-halves.result.1 why c.in_ok-stop.was c.serve-halves.ensures in
    let channel = serves_channel turn c.args.devices c.args.channel why ending starved c.args.player c.begins.new.player c.serve-halves.result.2
    (g.L.Linker.linked c.args.linker.now) (g.L.Linker.linked c.connect.new.self) (g.L.Linker.linked c.settle-2.new.self)
    (g.L.Linker.failures c.args.linker.now) (g.L.Linker.failures c.connect.new.self) (g.L.Linker.failures c.settle-2.new.self)
    (g.L.In.Source.left c.in-Ok.input) (g.L.Out.Sink.held c.in-Ok.output) _ _ _ c.new-incoming.result c.serve-halves.result.0.incoming c.new-outgoing.result c.serve-halves.result.0.outgoing
    _ _ _ _ (c.if-not-begins.ensures.began search) c.new-incoming.ensures.value c.in-Ok.ensures.faultless.0 c.new-outgoing.ensures.value serves c.in-Ok.ensures.lends c.settle-2.ensures.settles
    c.into_parts-input.ensures.left c.into_parts-output.ensures.held c.into_parts-input.ensures.faults c.into_parts-output.ensures.faults c.in-Ok.ensures.failures c.settle-2.ensures.failures in
    subst (λ (x : Next). ServesNext turn c.args.devices c.args.channel x old new) (sym c.next_of.ensures)
    (served_next turn c.args.devices c.args.channel why ending starved c.end_by_channel.result old new (sym c.end_by_channel.ensures) channel)
