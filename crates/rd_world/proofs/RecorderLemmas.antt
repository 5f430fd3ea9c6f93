-- Frames with marks as the entries of a recording.
use Rattle.std.proofs.Common.{◌≡◌, refl, ap, ℕ, List, [], ◌∷◌, ◌++◌}
use Rattle.std.specs.Prelude.{map}
use Rattle.std.specs.List.{flat_map}
use Rattle.rd_world.specs.Recording.{from_client, from_host, mark_before, recording_entry_bytes}

pub host_entries : (frames : List (List ℕ)) → flat_map (mark_before 0) frames ≡ flat_map recording_entry_bytes (map from_host frames)
host_entries [] = refl
host_entries (frame ∷ frames) = ap (λ (rest : List ℕ). mark_before 0 frame ++ rest) (host_entries frames)

pub client_entries : (frames : List (List ℕ)) → flat_map (mark_before 1) frames ≡ flat_map recording_entry_bytes (map from_client frames)
client_entries [] = refl
client_entries (frame ∷ frames) = ap (λ (rest : List ℕ). mark_before 1 frame ++ rest) (client_entries frames)
