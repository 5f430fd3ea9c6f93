use Rattle.rd_headline.proofs.WrongLemmas.{earlier_completion, lost_by_another, lost_though_heard, lost_while_open, never_heard, never_taken, not_removed, one_outcome, other_file_read, other_reply, ran_again, sent_without_run, taken_once}
use Rattle.rd_headline.proofs.laws.wrong_runs_are_refused.Goals as goal

pub returns-clause-unrun : goal.returns-clause-unrun
returns-clause-unrun c = sent_without_run

pub returns-clause-again : goal.returns-clause-again
returns-clause-again c = ran_again

pub returns-clause-other_reply : goal.returns-clause-other_reply
returns-clause-other_reply c = other_reply

pub returns-clause-other_file : goal.returns-clause-other_file
returns-clause-other_file c replies = other_file_read replies

pub returns-clause-no_outcome : goal.returns-clause-no_outcome
returns-clause-no_outcome c devices deeds holds x from ends = ends

pub returns-clause-two_outcomes : goal.returns-clause-two_outcomes
returns-clause-two_outcomes c devices deeds holds x o other from ends = one_outcome devices deeds holds x o other from ends

pub returns-clause-never_taken : goal.returns-clause-never_taken
returns-clause-never_taken c devices holds x o before named count ends = never_taken devices holds x o before named count ends

pub returns-clause-taken_twice : goal.returns-clause-taken_twice
returns-clause-taken_twice c = taken_once

pub returns-clause-never_heard : goal.returns-clause-never_heard
returns-clause-never_heard c devices holds x o before named ends = never_heard devices holds x o before named ends

pub returns-clause-earlier_completion : goal.returns-clause-earlier_completion
returns-clause-earlier_completion c = earlier_completion

pub returns-clause-lost_by_another : goal.returns-clause-lost_by_another
returns-clause-lost_by_another c = lost_by_another

pub returns-clause-lost_while_open : goal.returns-clause-lost_while_open
returns-clause-lost_while_open c = lost_while_open

pub returns-clause-lost_though_heard : goal.returns-clause-lost_though_heard
returns-clause-lost_though_heard c = lost_though_heard

pub returns-clause-not_removed : goal.returns-clause-not_removed
returns-clause-not_removed c = not_removed
