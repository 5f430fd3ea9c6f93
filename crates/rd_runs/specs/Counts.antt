-- What is counted of a session's deeds.
use Rattle.std.specs.Prelude.{ℕ, List, [], ◌∷◌}
use Rattle.std.proofs.Common.{suc}
use Rattle.rd_deeds.specs.Talk.{Deed, submits}

-- how many requests were accepted_count, on all channels
abbrev pub accepted_count : List Deed → ℕ
accepted_count [] = 0
accepted_count (submits a named op ∷ before) = suc (accepted_count before)
accepted_count (deed ∷ before) = accepted_count before
