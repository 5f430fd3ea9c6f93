use Rattle.std.proofs.Common.{◌∙◌, subst, sym, Option}
use Rattle.rd_carry.specs.declared.ended.Ended.{Ended}
use Rattle.rd_host_session.specs.Channels.{ServesAll, linked_told, stands}
use Rattle.rd_host_session.proofs.ServingLemmas.{ends_as_last, ends_by_channel, ends_for_none, if_ok_map, plus_one, served_more}
use Rattle.rd_host_session.proofs.channels.serve_all.Goals as goal

pub loop-preserved : goal.loop-preserved
loop-preserved g c =
    served_more g.W.TableTurn.turn c.args.devices c.loop.channel c.in-Some-checked_add.next c.in_ok-came.came _ _ _ (c.in-Some-checked_add.ensures.1 ∙ plus_one c.loop.channel) c.in-Goes.is c.loop.invariant c.in_ok-came.ensures

pub returns-in-None-came : goal.returns-in-None-came
returns-in-None-came g c =
    let old = stands c.args.player (linked_told (g.L.Linker.linked c.args.linker.now) (g.L.Linker.failures c.args.linker.now)) in
    let linker = linked_told (g.L.Linker.linked c.serve_next.new.linker) (g.L.Linker.failures c.serve_next.new.linker) in
    if_ok_map c.play_out.result (λ r holds. subst (λ (e : Option Ended). ServesAll g.W.TableTurn.turn c.args.devices e old (stands r.1 linker)) (sym holds.0)
    (ends_for_none g.W.TableTurn.turn c.args.devices c.loop.channel c.in-Some-checked_add.next c.in_ok-came.came old _ c.in_ok-came.back r.1 linker (c.in-Some-checked_add.ensures.1 ∙ plus_one c.loop.channel) c.in-None-came.is
    c.loop.invariant c.in_ok-came.ensures holds.1)) c.play_out.ensures

pub returns-in-Last : goal.returns-in-Last
returns-in-Last g c =
    ends_as_last g.W.TableTurn.turn c.args.devices c.loop.channel c.in-Some-checked_add.next c.in_ok-came.came _ _ _ (c.in-Some-checked_add.ensures.1 ∙ plus_one c.loop.channel) c.in-Last.is c.loop.invariant c.in_ok-came.ensures

pub returns-in-Ends : goal.returns-in-Ends
returns-in-Ends g c =
    let old = stands c.args.player (linked_told (g.L.Linker.linked c.args.linker.now) (g.L.Linker.failures c.args.linker.now)) in
    let linker = linked_told (g.L.Linker.linked c.serve_next.new.linker) (g.L.Linker.failures c.serve_next.new.linker) in
    if_ok_map c.play_out-in-Ends.result (λ r holds. subst (λ (e : Option Ended). ServesAll g.W.TableTurn.turn c.args.devices e old (stands r.1 linker)) (sym holds.0)
    (ends_by_channel g.W.TableTurn.turn c.args.devices c.loop.channel c.in-Some-checked_add.next c.in_ok-came.came c.in-Ends.ended old _ c.in_ok-came.back r.1 linker (c.in-Some-checked_add.ensures.1 ∙ plus_one c.loop.channel)
    c.in-Ends.is c.loop.invariant c.in_ok-came.ensures holds.1)) c.play_out-in-Ends.ensures
