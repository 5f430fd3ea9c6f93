-- Requests on files and folders that were worked by hand from MS-RDPEFS: what they ask for, and the bytes.
use Rattle.std.specs.Prelude.{ℕ, List, [], ◌∷◌, ◌++◌, replicate, true}
use Rattle.rd_irp.specs.declared.op.Op.{Op}
use Rattle.rd_irp.specs.declared.op.Op.TheVariants as op
use Rattle.rd_irp.specs.declared.request.Request.{Request}

-- an operation on file 1 of device 1
abbrev pub request : Op → Request
request o = record { device = 1; file = 1; completion = 0; op = o }

-- the head of such a request with this MajorFunction and MinorFunction
abbrev pub head : ℕ → ℕ → List ℕ
head major minor =
    0x72 ∷ 0x44 ∷ 0x52 ∷ 0x49 ∷ 1 ∷ 0 ∷ 0 ∷ 0 ∷ 1 ∷ 0 ∷ 0 ∷ 0 ∷ 0 ∷ 0 ∷ 0 ∷ 0 ∷ major ∷ 0 ∷ 0 ∷ 0 ∷ minor ∷ 0 ∷ 0 ∷ 0 ∷ []

-- two bytes at offset 256 (2.2.1.4.4)
abbrev pub write : Op
write = op.Write 256 (7 ∷ 8 ∷ [])

abbrev pub write_fields : List ℕ
write_fields = 2 ∷ 0 ∷ 0 ∷ 0 ∷ 0 ∷ 1 ∷ 0 ∷ 0 ∷ 0 ∷ 0 ∷ 0 ∷ 0 ∷ replicate 20 0

abbrev pub write_message : List ℕ
write_message = head 4 0 ++ write_fields ++ 7 ∷ 8 ∷ []

-- the first query of the names in the root (2.2.3.3.10): class 12, the path `\*`
abbrev pub query_dir : Op
query_dir = op.QueryDir 12 true (0x5c ∷ 0x2a ∷ [])

abbrev pub pattern_field : List ℕ
pattern_field = replicate 23 0 ++ 0x5c ∷ 0 ∷ 0x2a ∷ 0 ∷ 0 ∷ 0 ∷ []

abbrev pub query_dir_message : List ℕ
query_dir_message = head 12 1 ++ 12 ∷ 0 ∷ 0 ∷ 0 ∷ 1 ∷ 6 ∷ 0 ∷ 0 ∷ 0 ∷ pattern_field

-- a lock of 16 bytes from the first on (2.2.3.3.12), waited for
abbrev pub lock : Op
lock = op.Lock 3 true (record { offset = 0; length = 16 } ∷ [])

-- with so many ranges by its count, of which one is there
abbrev pub lock_body_of : ℕ → ℕ → List ℕ
lock_body_of low high =
    3 ∷ 0 ∷ 0 ∷ 0 ∷ 1 ∷ 0 ∷ 0 ∷ 0 ∷ low ∷ high ∷ 0 ∷ 0 ∷ replicate 20 0 ++ 16 ∷ 0 ∷ 0 ∷ 0 ∷ 0 ∷ 0 ∷ 0 ∷ 0 ∷ replicate 8 0

-- one byte fewer than the count says
abbrev pub cut_write : List ℕ
cut_write = write_fields ++ 7 ∷ []

-- a path with an odd length
abbrev pub odd_query_dir : List ℕ
odd_query_dir = 12 ∷ 0 ∷ 0 ∷ 0 ∷ 1 ∷ 5 ∷ 0 ∷ 0 ∷ 0 ∷ pattern_field
