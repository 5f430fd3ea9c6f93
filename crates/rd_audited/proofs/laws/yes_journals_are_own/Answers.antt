use Rattle.std.proofs.Common.{None}
use Rattle.rd_audit_file.specs.Journals.{journal_lines}
use Rattle.rd_audit.specs.Replayed.{account_new}
use Rattle.rd_audit.proofs.LawLemmas.{whole_are}
use Rattle.rd_audited.proofs.OwnLemmas.{own_journals}
use Rattle.rd_audited.proofs.YesLemmas.{says_yes}
use Rattle.rd_audited.proofs.laws.yes_journals_are_own.Goals as goal

-- src/laws.rt:26:1
pub returns : goal.returns
returns c devices journals channels same is =
    let y = says_yes devices (journal_lines journals) channels is in
    own_journals channels devices None account_new journals y.account same ((whole_are journals).0 y.lawful) y.replays
