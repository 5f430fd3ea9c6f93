-- Maps whose keys are the names of handles, as bytes.
use Rattle.std.specs.Prelude.{ℕ, List, map, Vec}
use Rattle.std.specs.declared.cmp.Ordering.{Ordering}
use Rattle.rd_printer.specs.Cache.{bytes_cmp}

-- how two names in memory compare
abbrev pub handle_cmp : {A : Type 0} → Vec ℕ A → Vec ℕ A → Ordering
handle_cmp x y = bytes_cmp x.items y.items

-- the entries by the bytes of their names
abbrev pub by_name : {A V : Type 0} → List (Vec ℕ A × V) → List (List ℕ × V)
by_name entries = map (λ e. (e.0.items, e.1)) entries
