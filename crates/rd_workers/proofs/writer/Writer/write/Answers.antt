use Rattle.std.proofs.Common.{rules, ◌≡◌, Some, ap, sym, subst, refl, false, true, ◌<◌, ◌⊎◌}
use Rattle.rd_workers.specs.Passes.{WriterState}
use Rattle.rd_workers.proofs.WritingLemmas.{takes_and, writes_ready}
use Rattle.rd_workers.proofs.writer.Writer.write.Goals as goal

pub returns : goal.returns
returns g c =
    let half : c.args.self.now.half ≡ Some c.in-Some.output = search rules in
    let back = ap (λ (w : WriterState g.row.F.Denot). record w { half = Some c.flush_if.new.output }) c.self-2.view_is in
    writes_ready c.args.self.now _ _ c.in-Some.output c.flush_if.new.output c.goes_on-going.result half refl (search rules)
    (takes_and _ c.gather.new.self _ c.in-Some.output c.gather.new.output c.flush_if.new.output c.gather.ensures c.flush_if.ensures back)
    (subst (λ (w : WriterState g.row.F.Denot). c.goes_on-going.result ≡ false → (0 < c.flush_if.new.output.faults) ⊎ (w.starved ≡ true)) (sym c.self-2.view_is) c.goes_on-going.ensures)
