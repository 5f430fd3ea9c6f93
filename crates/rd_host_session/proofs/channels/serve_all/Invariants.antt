use Rattle.rd_host_player.specs.Play.{PlayState}
use Rattle.rd_host_session.specs.Channels.{Served, linked_told, stands}
use Rattle.rd_host_session.proofs.channels.serve_all.Given as goal

-- each channel up to this one was served, and a line begins the next
abbrev pub invariant-loop : goal.invariant-loop
invariant-loop g l =
    Served g.W.TableTurn.turn l.devices l.channel (stands l.fn.player (linked_told (g.L.Linker.linked l.fn.linker) (g.L.Linker.failures l.fn.linker)))
    (stands l.player (linked_told (g.L.Linker.linked l.linker) (g.L.Linker.failures l.linker)))
