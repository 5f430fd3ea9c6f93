use Rattle.rd_host_session.proofs.session.serve.Given as goal

-- the turn that was just made
abbrev pub ghosts-serve_over : goal.ghosts-serve_over
ghosts-serve_over g a = record { turn = a.turn.now }
