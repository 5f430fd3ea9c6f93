-- Which bytes are one name in a folder of the system.
use Rattle.std.specs.Prelude.{ℕ, ◌==◌, ◌&&◌, ◌||◌, Bool, not, List, length, codes, bytes_eq}
use Rattle.std.specs.List.{list_all}

-- neither `/`, which stands between names, nor 0, which ends them
abbrev pub is_name_byte : ℕ → Bool
is_name_byte byte = not (byte == 0x2f || byte == 0)

-- the folder itself, or the one above it
abbrev pub is_dot_name : List ℕ → Bool
is_dot_name bytes = bytes_eq bytes (codes ".") || bytes_eq bytes (codes "..")

abbrev pub is_one_name : List ℕ → Bool
is_one_name bytes = not (length bytes == 0) && (list_all is_name_byte bytes && not (is_dot_name bytes))
