use Rattle.std.proofs.Common.{◌≡◌, ◌+◌, ◌*◌, ◌≤◌, ◌++◌, ℕ, List, ◌∷◌, length, drop, vec_capacity, vec_len}
use Rattle.std.specs.Prelude.{flat_map}
use Rattle.rd_base.specs.Fields.{text_bytes}
use Rattle.rd_dirinfo.specs.Paths.{backslash, joined}
use Rattle.rd_folder_drive.proofs.telling.put_joined.Given as goal

abbrev pub invariant-loop-name : goal.invariant-loop-name
invariant-loop-name l = record {
  bytes : l.out.items ++ text_bytes (flat_map (λ (other : List ℕ). backslash ∷ other) (drop l.name-index l.others)) ≡ l.fn.out.items ++ text_bytes (joined l.names);
  room : vec_len l.out + 2 * length (flat_map (λ (other : List ℕ). backslash ∷ other) (drop l.name-index l.others)) ≤ vec_capacity l.out;
}
