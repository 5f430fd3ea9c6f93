use Rattle.rd_cli.proofs.PlayingLemmas.{audit_written}
use Rattle.rd_cli.proofs.ReadingLemmas.{text_short}
use Rattle.rd_headline.proofs.LoadsScriptLemmas.{scripts_meet_all}
use Rattle.rd_cli.proofs.trace.trace_script.Goals as goal

pub play_kept-requires-clause-script : goal.play_kept-requires-clause-script
play_kept-requires-clause-script g c = scripts_meet_all c.in_ok-text.text.items c.in_ok-text.script c.in_ok-text.ensures.script.script_is

pub print_audit-requires : goal.print_audit-requires
print_audit-requires g c = text_short _ _ _ _ _ _ c.in_ok-text.ensures.script c.as_slice-3.ensures.value

pub returns : goal.returns
returns g c = audit_written _ _ _ _ _ _ _ c.in_ok-text.script c.in_ok-told.told _ c.in_ok-text.ensures.script c.in_ok-told.ensures.played c.as_slice-3.ensures.value c.bytes.ensures c.print_audit.ensures
