use Rattle.rd_host_player_tests.proofs.session.over_table.Given as goal

-- the turn that was just made
abbrev pub ghosts-over_turn : goal.ghosts-over_turn
ghosts-over_turn g a = record { turn = a.turn.now }
