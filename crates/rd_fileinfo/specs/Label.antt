-- The label that a volume is given (FileFsLabelInformation, MS-FSCC 2.5.5).
use Rattle.std.specs.Prelude.{ℕ, ◌+◌, ◌*◌, ◌%◌, ◌≤◌, ◌≢◌, ◌==◌, nat_le, List, ◌++◌, All, length}
use Rattle.rd_base.specs.declared.bad.Bad.{Bad}
use Rattle.rd_base.specs.declared.bad.Why.TheVariants.{Count, Length}
use Rattle.rd_base.specs.Layout.{Layout, test, ◌>>=◌, ◌>>◌, Spells, FirstFault}
use Rattle.rd_base.specs.Fields.{number32, bytes32, path, path_bytes}

-- the most bytes of a label, its zero unit counted
abbrev pub max_label : ℕ
max_label = 64

-- the most units of a label
abbrev pub max_label_units : ℕ
max_label_units = 31

-- the buffer: a length in bytes, and so many bytes of a path
unfoldable pub label_set : Layout (List ℕ)
label_set = do
  count ← number32
  test (nat_le count max_label) 4 Count
  test (count % 2 == 0) 4 Length
  path count

-- The bytes begin with a spelling of this label, and so many more come after it.
abbrev pub SpellsLabel : List ℕ → ℕ → List ℕ → Type 0
SpellsLabel label tail bytes = Spells label_set label tail bytes

-- what goes wrong first in bytes that are no label
abbrev pub FirstFaultOfLabel : List ℕ → Bad → Type 0
FirstFaultOfLabel bytes bad = FirstFault label_set bytes bad

-- A label can be written: with its zero unit it isn't too long, and none of its units is zero.
abbrev pub LabelFits : List ℕ → Type 0
LabelFits label = (length label ≤ max_label_units) × All (λ unit. unit ≢ 0) label

-- the bytes that are written
abbrev pub label_bytes : List ℕ → List ℕ
label_bytes label = bytes32 (2 * length label + 2) ++ path_bytes label
