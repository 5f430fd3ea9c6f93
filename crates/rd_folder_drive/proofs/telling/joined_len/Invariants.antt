use Rattle.std.proofs.Common.{◌≡◌, ◌+◌, ℕ, List, ◌∷◌, length, drop}
use Rattle.std.specs.Prelude.{flat_map}
use Rattle.rd_dirinfo.specs.Paths.{backslash, joined}
use Rattle.rd_folder_drive.proofs.telling.joined_len.Given as goal

abbrev pub invariant-loop-name : goal.invariant-loop-name
invariant-loop-name l = l.len + length (flat_map (λ (other : List ℕ). backslash ∷ other) (drop l.name-index l.others)) ≡ length (joined l.names)
