use Rattle.std.proofs.Common.{refl, []}
use Rattle.rd_journals.proofs.AnswerLemmas.{reached_spelled}
use Rattle.rd_journals.proofs.DeclaredLemmas.{bounded_fit}
use Rattle.rd_journals.proofs.RunLemmas.{orderly_lawful, reached_orderly}
use Rattle.rd_journals.proofs.RunsTogether.{known}
use Rattle.rd_declared.specs.Declaring.{bare_lines, declared_devices}
use Rattle.rd_deeds.proofs.Joined.{carried_now}
use Rattle.rd_replied.proofs.MatchLemmas.{all_same}
use Rattle.rd_replied.proofs.laws.completions_are_replied.Goals as goal

pub returns : goal.returns
returns c lines starves w premises reached =
    let fit = bounded_fit lines premises.bounded in
    let orderly = reached_orderly lines starves w fit reached in
    all_same (declared_devices (bare_lines lines)) w.deeds (carried_now w.deeds (known lines starves premises w reached).carries.each) (orderly_lawful w orderly) orderly.held.reads
    [] w.deeds refl (reached_spelled lines starves fit premises w reached).each
