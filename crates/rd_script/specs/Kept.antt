-- How the nodes of a drive are kept.
use Rattle.std.specs.Prelude.{ℕ, Bool, List, map, Vec}
use Rattle.rd_dirinfo.specs.Paths.{Names}
use Rattle.rd_script.specs.Said.{Nodes}

-- the path of a key, as its drive's naming sees it
abbrev pub kept_key : {A B : Type 0} → Vec (Vec ℕ A) B → Names
kept_key {A = A} key = map (λ (name : Vec ℕ A). name.items) key.items

-- the nodes in a map of such keys
abbrev pub kept_nodes : {A B : Type 0} → List (Vec (Vec ℕ A) B × Bool) → Nodes
kept_nodes {A = A} {B = B} entries = map (λ (e : Vec (Vec ℕ A) B × Bool). (kept_key e.0, e.1)) entries
