use Rattle.std.proofs.Common.{◌≡◌, ◌∙◌, subst}
use Rattle.std.specs.declared.marker.Brand.{Brand}
use Rattle.rd_host_front.specs.State.{PassOfTable}
use Rattle.rd_pending.specs.Table.{TableState, new_table}
use Rattle.rd_table.specs.Calls.{PendingStep}
use Rattle.rd_turn.specs.History.{Leads}
use Rattle.rd_host_session.specs.Channels.{linked_told}
use Rattle.rd_host_session.specs.Hosted.{PlaysOver}
use Rattle.rd_host_session.proofs.session.serve.Goals as goal

pub returns-clause-hosted : goal.returns-clause-hosted
returns-clause-hosted g c =
    let opening : (c.in-Ok.turn).opening ≡ new_table = c.in-Ok.ensures.turn ∙ c.in_ok-new.ensures in
    record {
      turn = c.in-Ok.turn;
      opening = opening;
      issuers = c.in_ok-other.issuers.items;
      last = c.in_ok-other.pass;
      plays = subst (λ (p : PassOfTable). PlaysOver Brand c.in-Ok.turn c.args.lines.now c.in_ok-other.other c.in_ok-other.issuers.items p c.in_ok-other.pass (linked_told (g.L.Linker.linked c.args.linker.now) (g.L.Linker.failures c.args.linker.now))
          (linked_told (g.L.Linker.linked c.serve_over.new.linker) (g.L.Linker.failures c.serve_over.new.linker))) c.in-Ok.ensures.pass c.in_ok-other.ensures.plays;
      table = c.close.result;
      leads = subst (λ (t : TableState). Leads PendingStep t c.in_ok-other.pass.seen c.close.result) opening c.close.ensures.leads;
      all = c.close.ensures.all;
      told_are = c.in_ok-tell_all.ensures.told;
    }
