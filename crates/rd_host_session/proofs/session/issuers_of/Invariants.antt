use Rattle.std.proofs.Common.{◌≡◌, ◌++◌, map}
use Rattle.rd_host_session.specs.Hosted.{issuer_by}
use Rattle.rd_host_session.proofs.session.issuers_of.Given as goal

-- the applications so far, and then the rest
abbrev pub invariant-loop-number : goal.invariant-loop-number
invariant-loop-number l = l.issuers.items ++ map issuer_by l.number-iterator ≡ map issuer_by l.initial.number-iterator
