use Rattle.rd_pool.proofs.CallsLemmas.{came_home, still_home, the_one, then_hands, with_hands}
use Rattle.rd_pool.proofs.laws.all_but_one_are_hands.Goals as goal

pub returns-clause-one : goal.returns-clause-one
returns-clause-one g c = the_one

pub returns-clause-joined : goal.returns-clause-joined
returns-clause-joined g c = came_home

pub returns-clause-stays : goal.returns-clause-stays
returns-clause-stays g c = still_home

pub returns-clause-hands : goal.returns-clause-hands
returns-clause-hands g c turn p q s is but home = with_hands p q is.numbers is.number is.all but home

pub returns-clause-later : goal.returns-clause-later
returns-clause-later g c turn p q s is but home = then_hands p q is.numbers is.number is.all but home
