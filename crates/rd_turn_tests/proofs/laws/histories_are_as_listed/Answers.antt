use Rattle.std.proofs.Common.{refl, ap, arith}
use Rattle.rd_turn_tests.specs.declared.adder.Adder.{Adder}
use Rattle.rd_turn_tests.specs.Calls.{adder}
use Rattle.rd_turn_tests.proofs.laws.histories_are_as_listed.Goals as goal

pub returns-clause-legal : goal.returns-clause-legal
returns-clause-legal c = (adder 5 1, (refl, refl, refl), (adder 7 2, (refl, refl, refl), (adder 8 3, (refl, refl, refl), refl)))

pub returns-clause-other_order : goal.returns-clause-other_order
returns-clause-other_order c = (adder 5 1, (refl, refl, refl), (adder 6 2, (refl, refl, refl), (adder 8 3, (refl, refl, refl), refl)))

pub returns-clause-other_reply : goal.returns-clause-other_reply
returns-clause-other_reply c = λ l. let first = l.1.1.0 in let second = l.1.2.1.0 in let reply = l.1.2.1.2 in absurd (omega arith)

pub returns-clause-lost_change : goal.returns-clause-lost_change
returns-clause-lost_change c = λ l. let first = l.1.1.0 in let second = l.1.2.1.0 in let reply = l.1.2.1.2 in absurd (omega arith)

pub returns-clause-call_made_twice : goal.returns-clause-call_made_twice
returns-clause-call_made_twice c = λ l. let first = l.1.0 in let last = ap (λ (a : Adder). a.sum) l.2 in absurd (omega arith)
