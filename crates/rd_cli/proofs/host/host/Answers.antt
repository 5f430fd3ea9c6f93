use Rattle.std.proofs.Common.{refl}
use Rattle.std.specs.List.{flat_map}
use Rattle.rd_script.specs.declared.keyword.Mode.TheVariants as mode
use Rattle.rd_script.specs.Report.{outcome_line}
use Rattle.rd_world.proofs.NumberedLemmas.{scripts_are_numbered}
use Rattle.rd_cli.proofs.ServingLemmas.{stopped_end, told_end}
use Rattle.rd_cli.proofs.host.host.Goals as goal

pub serve_host-ended-requires-after_bounds : goal.serve_host-ended-requires-after_bounds
serve_host-ended-requires-after_bounds g c κs within =
    let reads = c.in-Ok.ensures.script in
    scripts_are_numbered mode.Host reads.text c.in-Ok.script reads.script_is

pub returns-in-Ok : goal.returns-in-Ok
returns-in-Ok g c = λ moment.
    told_end _ _ _ _ _ _ _ _ _ c.serve_host-ended.result.0
    (record {
      script = c.in-Ok.script;
      reads = c.in-Ok.ensures.script;
      text = flat_map (outcome_line c.in-Ok.script.lines) c.serve_host-ended.result.1.entries;
      session = record {
        told = c.serve_host-ended.result.1.entries;
        hosted = c.serve_host-ended.ensures.hosted;
        counts = c.serve_host-ended.ensures.counts;
        lines = refl;
      };
    })
    c.outcome_text-text.result c.outcome_text-text.ensures c.end_served.ensures.told c.end_served.ensures.starved

pub returns-in-Err : goal.returns-in-Err
returns-in-Err g c = λ moment. stopped_end _ _ _ _ _ _ _ _ _ c.in-Err.stop c.in-Err.ensures.err refl c.end.ensures
