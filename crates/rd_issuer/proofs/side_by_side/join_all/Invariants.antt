use Rattle.std.proofs.Common.{◌≡◌, ◌≤◌, ℕ, ◌+◌, ◌++◌, List, length, map, true}
use Rattle.std.specs.Prelude.{All, vec_capacity}
use Rattle.rd_turn.specs.Pass.{Belongs, GoesOn}
use Rattle.rd_issuer.specs.Stints.{CameHome, StintState, issuer_of}
use Rattle.rd_issuer.proofs.side_by_side.join_all.Given as goal

abbrev pub invariant-loop-stint : goal.invariant-loop-stint
invariant-loop-stint l = record {
  done : List StintState;
  whole : l.fn.stints.items ≡ done ++ l.stint-iterator.rest.items;
  own : Belongs l.turn l.pass;
  first : l.pass.number ≡ 0;
  made : l.pass.made ≡ l.fn.pass.made;
  out : l.pass.out + length done ≡ l.fn.pass.out;
  more : List (ℕ × ℕ);
  joined : l.pass.joined ≡ more ++ l.fn.pass.joined;
  goes_on : GoesOn l.fn.pass l.pass;
  came : All (λ (s : StintState). CameHome l.pass s.pass) done;
  turns : All (λ (s : StintState). s.turn ≡ l.turn) l.stint-iterator.rest.items;
  room : length l.home.items + length l.stint-iterator.rest.items ≤ vec_capacity l.home;
  issuers : l.home.items ≡ map issuer_of done;
  all : l.found ≡ true → All (λ (s : StintState). s.found ≡ true) done;
}
