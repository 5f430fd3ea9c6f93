use Rattle.std.proofs.Common.{List, subst, sym}
use Rattle.rd_pending.specs.History.{Call, HandsOut, Holds}
use Rattle.rd_pending.proofs.Handed as handed
use Rattle.rd_pending.proofs.Histories as histories
use Rattle.rd_deeds.specs.HostDeeds.{calls_of}
use Rattle.rd_declared.specs.Declaring.{bare_lines, declared_devices}
use Rattle.rd_world.specs.Recording.{client_id}
use Rattle.rd_world.specs.Session.{replies_in}
use Rattle.rd_deeds.specs.Talk.{journal}
use Rattle.rd_deeds.proofs.Calls.{calls_hold}
use Rattle.rd_deeds.proofs.Joining.{all_join}
use Rattle.rd_deeds.proofs.Journals.{plain_of}
use Rattle.rd_deeds.proofs.Order as order
use Rattle.rd_joined.proofs.TiedLemmas.{joined_with, scripts_tied}
use Rattle.rd_joined.proofs.laws.sessions_run_in_order.Goals as goal

pub returns-clause-in_order : goal.returns-clause-in_order
returns-clause-in_order c m text script starves w is reached =
    let tied = scripts_tied m text script is starves w reached in
    order.in_order w.deeds tied.carried tied.stands (λ device. plain_of (journal device w.deeds) (tied.lawful device))

pub returns-clause-outcomes : goal.returns-clause-outcomes
returns-clause-outcomes c m text script starves w is reached =
    histories.outcomes (calls_of client_id w.deeds) (calls_hold client_id w.deeds (scripts_tied m text script is starves w reached).host)

pub returns-clause-handed_out : goal.returns-clause-handed_out
returns-clause-handed_out c m text script starves w is reached later before call parts =
    let holds : Holds (calls_of client_id w.deeds) = calls_hold client_id w.deeds (scripts_tied m text script is starves w reached).host in
    subst (λ (h : List Call). HandsOut h before call) (sym parts) (handed.handed_out later before call (subst Holds parts holds))

pub returns-clause-joins : goal.returns-clause-joins
returns-clause-joins c m text script starves w is reached told =
    let replies = replies_in (declared_devices (bare_lines script.lines)) w.deeds in
    all_join client_id replies w.deeds (joined_with client_id replies w.deeds (scripts_tied m text script is starves w reached) told)
