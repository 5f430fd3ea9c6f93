use Rattle.rd_refused.proofs.MarkLemmas.{addition_marks, first_marks, refresh_marks, removal_marks}
use Rattle.rd_refused.proofs.laws.marks_are_said.Goals as goal

pub returns-clause-removed : goal.returns-clause-removed
returns-clause-removed context c device older fits say = removal_marks c device older fits say

pub returns-clause-added : goal.returns-clause-added
returns-clause-added context c device older spells say = addition_marks c device older spells say

pub returns-clause-refreshed : goal.returns-clause-refreshed
returns-clause-refreshed context c device body older say = refresh_marks c device body older say

pub returns-clause-first : goal.returns-clause-first
returns-clause-first context c older are spells say = first_marks c older are spells say
