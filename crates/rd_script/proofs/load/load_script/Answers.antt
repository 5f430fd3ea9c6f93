use Rattle.std.proofs.Common.{ap, ◌∙◌, ◌++◌, List}
use Rattle.rd_script.specs.declared.keyword.Mode.TheVariants as mode
use Rattle.rd_script.specs.declared.line.NumberedLine.{NumberedLine}
use Rattle.rd_script.specs.declared.script.Script.{Script}
use Rattle.rd_script.specs.Load.{load_application, load_lines, settings}
use Rattle.rd_script.proofs.LoadLemmas.{adds_more, adds_from}
use Rattle.rd_script.proofs.load.load_script.Goals as goal

abbrev script_of_lines : List NumberedLine → Script
script_of_lines lines = record { mode = mode.Both; lines = lines }

pub returns : goal.returns
returns c =
    let n = c.args.number in
    let last = c.push_application-4.new.lines.items in
    let all = adds_more c.new-lines.result.items c.push_settings.new.lines.items last (settings n) (load_application n 1 ++ (load_application n 2 ++ (load_application n 3 ++ load_application n 4))) c.in_ok-push_settings.ensures.added
    (adds_more c.push_settings.new.lines.items c.push_application.new.lines.items last (load_application n 1) (load_application n 2 ++ (load_application n 3 ++ load_application n 4)) c.in_ok-push_application.ensures.added
    (adds_more c.push_application.new.lines.items c.push_application-2.new.lines.items last (load_application n 2) (load_application n 3 ++ load_application n 4) c.in_ok-push_application-2.ensures.added
    (adds_more c.push_application-2.new.lines.items c.push_application-3.new.lines.items last (load_application n 3) (load_application n 4) c.in_ok-push_application-3.ensures.added
    c.in_ok-push_application-4.ensures.added))) in
    ap script_of_lines (c.of.ensures ∙ adds_from c.new-lines.result.items last (load_lines n) c.new-lines.ensures.items all)
