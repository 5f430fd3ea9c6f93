use Rattle.std.proofs.Common.{ap}
use Rattle.rd_workers.specs.Channels.{told_as}
use Rattle.rd_workers.specs.Lines.{at_lines}
use Rattle.rd_workers.specs.Passes.{ReaderState}
use Rattle.rd_workers.proofs.ServedLemmas.{read_whole}
use Rattle.rd_workers.proofs.session.read_all.Goals as goal

pub returns-clause-read : goal.returns-clause-read
returns-clause-read g c =
    read_whole (at_lines c.args.plan.lines.now) c.args.plan.channels c.serve_channels-ended.result c.serve_channels-ended.new.reader c.end_session.new.self c.into_parts-front.result.0.pass c.into_parts-front.result.1.pass
    (told_as (g.L.Linker.linked c.args.linker.now) (g.L.Linker.failures c.args.linker.now)) (told_as (g.L.Linker.linked c.serve_channels-ended.new.linker) (g.L.Linker.failures c.serve_channels-ended.new.linker))
    c.serve_channels-ended.ensures.ends c.end_session.ensures (ap (λ (s : ReaderState g.row.F.Denot). s.own) c.into_parts-front.ensures.parts) (ap (λ (s : ReaderState g.row.F.Denot). s.written) c.into_parts-front.ensures.parts) c.into_parts-front.ensures.asks
