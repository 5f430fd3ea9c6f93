use Rattle.std.proofs.Common.{refl}
use Rattle.rd_headline.proofs.JoinedScriptLemmas.{script_premises}
use Rattle.rd_script.specs.declared.keyword.Mode.TheVariants as mode
use Rattle.rd_script.specs.Report.{device_lines}
use Rattle.rd_cli.proofs.ServingLemmas.{stopped_end, told_end}
use Rattle.rd_cli.proofs.client.client.Goals as goal

pub serve_client-requires-clause-declared : goal.serve_client-requires-clause-declared
serve_client-requires-clause-declared g c κs within =
    let reads = c.in-Ok.ensures.script in
    (script_premises mode.Client reads.text c.in-Ok.script reads.script_is).declared

pub returns-in-Ended : goal.returns-in-Ended
returns-in-Ended g c =
    told_end _ _ _ _ _ _ _ _ _ c.in-Ended.ended
    (record {
      script = c.in-Ok.script;
      reads = c.in-Ok.ensures.script;
      text = device_lines c.in-Ok.script.lines c.serve_client.new.books;
      session = record {
        channels = c.in-Ended.ensures.served;
        lawful = c.in-Ended.ensures.books.0;
        moments = c.in-Ended.ensures.books.1;
        faults = c.in-Ended.ensures.faults;
        lines = refl;
      };
    })
    c.device_text-text.result c.device_text-text.ensures c.end_served.ensures.told c.end_served.ensures.starved

pub returns : goal.returns
returns g c = stopped_end _ _ _ _ _ _ _ _ _ c.in-Err.stop c.in-Err.ensures.err (record { unlinked = refl; unshared = refl; unstored = c.requires }) c.end.ensures
