-- Trees for worked cases.
use Rattle.std.specs.Prelude.{ℕ, zero, suc, ◌+◌, List, [], ◌∷◌, ◌++◌, codes, replicate, Some, None}
use Rattle.rd_dirinfo.specs.declared.naming.Naming.{Naming}
use Rattle.rd_dirinfo.specs.Paths.{Names}
use Rattle.rd_tree.specs.Places.{Place, Places}

-- the root; the folder D, and in it the file b with one byte; beside it the empty file c
abbrev pub sample : Naming → Places
sample naming = record {
  naming = naming;
  list = (0, record { path = []; bytes = None })
      ∷ (1, record { path = codes "D" ∷ []; bytes = None })
      ∷ (2, record { path = codes "D" ∷ codes "b" ∷ []; bytes = Some (7 ∷ []) })
      ∷ (3, record { path = codes "c" ∷ []; bytes = Some [] })
      ∷ [];
}

-- so many names of 254 units
abbrev pub long_names : ℕ → Names
long_names n = replicate n (replicate 254 0x61)

-- so many folders with such names, each but the first in the one before
abbrev pub long_folders : ℕ → List (ℕ × Place)
long_folders zero = []
long_folders (suc n) = long_folders n ++ (n + 4, record { path = long_names (n + 1); bytes = None }) ∷ []

-- the small tree, and beside what it has 16 such folders
abbrev pub deep : Naming → Places
deep naming = record (sample naming) { list = (sample naming).list ++ long_folders 16 }

-- The root and so many files. They all have one number and one path: it is their count that matters.
abbrev pub crowded : ℕ → Naming → Places
crowded n naming = record {
  naming = naming;
  list = (0, record { path = []; bytes = None }) ∷ replicate n (1, record { path = codes "c" ∷ []; bytes = Some [] });
}
