-- Lists of names.
use Rattle.std.proofs.Common.{◌≡◌, ◌∙◌, ◌≤◌, ap, true, ◌∷◌, length, nat_le}
use Rattle.std.specs.List.{list_all}
use Rattle.std.proofs.lemmas.Bool.{and_parts, leb-true}
use Rattle.rd_dirinfo.specs.Naming.{Name}
use Rattle.rd_dirinfo.specs.Paths.{Names, is_name, is_path, is_within_limits, path_len}

pub first_name : (name : Name) (names : Names) → list_all is_name (name ∷ names) ≡ true → is_name name ≡ true
first_name name names all = (and_parts (is_name name) (list_all is_name names) all).0

pub later_names : (name : Name) (names : Names) → list_all is_name (name ∷ names) ≡ true → list_all is_name names ≡ true
later_names name names all = (and_parts (is_name name) (list_all is_name names) all).1

pub path_names : (names path : Names) → names ≡ path → is_path path ≡ true → list_all is_name names ≡ true
path_names names path same within = ap (list_all is_name) same ∙ (and_parts (list_all is_name path) (is_within_limits path) within).0

pub path_depth : (path : Names) → is_path path ≡ true → length path ≤ 64
path_depth path within = leb-true (length path) 64 (and_parts (nat_le (length path) 64) (nat_le (path_len path) 4096) (and_parts (list_all is_name path) (is_within_limits path) within).1).0

pub path_limits : (names path : Names) → names ≡ path → is_path path ≡ true → is_within_limits names ≡ true
path_limits names path same within = ap is_within_limits same ∙ (and_parts (list_all is_name path) (is_within_limits path) within).1
