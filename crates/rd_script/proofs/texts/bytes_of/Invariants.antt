use Rattle.std.proofs.Common.{◌≡◌, ◌++◌, ℕ, List, length}
use Rattle.std.specs.Option.{option_map}
use Rattle.rd_script.specs.Texts.{pairs_of}
use Rattle.rd_script.proofs.texts.bytes_of.Given as goal

-- the bytes that were read, and those that are left
abbrev pub invariant-loop-rest : goal.invariant-loop-rest
invariant-loop-rest l = option_map (λ (bs : List ℕ). l.bytes.items ++ bs) (pairs_of l.rest) ≡ pairs_of l.word

abbrev pub decreases-loop-rest : goal.decreases-loop-rest
decreases-loop-rest l = length l.rest
