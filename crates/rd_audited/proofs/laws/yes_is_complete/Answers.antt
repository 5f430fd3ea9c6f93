use Rattle.rd_audit_file.specs.Journals.{journal_lines}
use Rattle.rd_audited.proofs.YesLemmas.{all_complete, no_strays, says_yes}
use Rattle.rd_audited.proofs.laws.yes_is_complete.Goals as goal

-- src/laws.rt:32:1
pub returns : goal.returns
returns c devices journals channels is =
    let y = says_yes devices (journal_lines journals) channels is in
    (no_strays y.account 1 channels y.right, all_complete y.account 1 channels y.whole)
