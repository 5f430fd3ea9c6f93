-- Capability sets (MS-RDPEFS 2.2.1.2 and 2.2.2.7.1 to 2.2.2.7.5).
use Rattle.std.specs.Prelude.{ℕ, ◌+◌, ◌-◌, ◌<◌, ◌≤◌, ◌^◌, ◌==◌, ◌&&◌, ◌||◌, not, nat_le, Bool, if◌then◌else◌, IsTrue, List, [], ◌∷◌, ◌++◌, All, length, Option, Some, None}
use Rattle.std.specs.Int.{w16, w32, to_le_bytes}
use Rattle.std.specs.List.{flat_map}
use Rattle.rd_base.specs.declared.bad.Why.TheVariants as why
use Rattle.rd_base.specs.Layout.{Layout, done, any_bytes, test, within, two_bytes, ◌>>=◌, ◌>>◌, choose}
use Rattle.rd_base.specs.Fields.{number16, number32, pad, times}
use Rattle.rd_base.specs.Counted.{count_to}
use Rattle.rd_hello.specs.declared.capability.General.{General}
use Rattle.rd_hello.specs.declared.capability.Cap.{Cap}
use Rattle.rd_hello.specs.declared.capability.Cap.TheVariants as cap

-- CapabilityType: CAP_GENERAL_TYPE, CAP_PRINTER_TYPE and CAP_DRIVE_TYPE
abbrev pub general_type : ℕ
general_type = 1

abbrev pub printer_type : ℕ
printer_type = 2

abbrev pub drive_type : ℕ
drive_type = 4

-- the most sets of a message
abbrev pub most_sets : ℕ
most_sets = 64

-- the least CapabilityLength of a set of this type: its head of 8 bytes, and in GENERAL eight fields with 32 bytes
abbrev pub least_length : ℕ → ℕ
least_length kind = if kind == general_type then 40 else 8

-- the same where its Version is read: in GENERAL one more field of 4 bytes from version 2 on
abbrev pub least_of_version : ℕ → ℕ → ℕ
least_of_version kind version = if kind == general_type && nat_le 2 version then 44 else 8

-- SpecialTypeDeviceCap, from version 2 on
unfoldable pub special : ℕ → Layout (Option ℕ)
special version = choose (nat_le 2 version) (number32 >>= λ n. done (Some n)) (done None)

-- GENERAL after its Version (2.2.2.7.1)
unfoldable pub general : ℕ → Layout Cap
general version = do
  os ← number32
  os_version ← number32
  major ← number16
  test (major == 1) 2 why.Value
  minor ← number16
  codes ← number32
  codes2 ← number32
  extended ← number32
  extra ← number32
  extra2 ← number32
  special_cap ← special version
  done (cap.General (record { os = os; os_version = os_version; minor = minor; codes = codes; codes2 = codes2; extended = extended; extra = extra; extra2 = extra2; special = special_cap }))

-- a set of another type, whose bytes after its Version are kept
unfoldable pub other : ℕ → ℕ → ℕ → Layout Cap
other kind version count = do
  body ← any_bytes count
  done (cap.Other kind version body)

-- what stands after the Version of a set of this type, in so many bytes
unfoldable pub body_of : ℕ → ℕ → ℕ → Layout Cap
body_of kind version count =
    choose (kind == general_type) (general version) (choose (kind == printer_type) (done (cap.Printer version)) (choose (kind == drive_type) (done (cap.Drive version)) (other kind version count)))

-- a set; its CapabilityLength counts all its bytes, and limits what is read of it
unfoldable pub capability : Layout Cap
capability = do
  kind ← number16
  count ← number16
  test (nat_le (least_length kind) count) 2 why.Length
  version ← number32
  test (nat_le (least_of_version kind version) count) 6 why.Length
  within (count - 8) (body_of kind version (count - 8))

-- the sets of a message after its header
unfoldable pub sets : Layout (List Cap)
sets = do
  count ← count_to two_bytes most_sets
  pad 2
  times count capability

-- the bytes of a set's head
abbrev pub capability_head_bytes : ℕ → ℕ → ℕ → List ℕ
capability_head_bytes kind count version = to_le_bytes w16 kind ++ to_le_bytes w16 count ++ to_le_bytes w32 version

-- the bytes of SpecialTypeDeviceCap
abbrev pub special_bytes : Option ℕ → List ℕ
special_bytes (Some n) = to_le_bytes w32 n
special_bytes None = []

-- the head of GENERAL: version 2 with that field, version 1 without
abbrev pub general_head : Option ℕ → List ℕ
general_head (Some _) = capability_head_bytes general_type 44 2
general_head None = capability_head_bytes general_type 40 1

-- osType, osVersion, and the version of the protocol, whose protocolMajor is 1
abbrev pub system_bytes : ℕ → ℕ → ℕ → List ℕ
system_bytes os os_version minor = to_le_bytes w32 os ++ to_le_bytes w32 os_version ++ to_le_bytes w16 1 ++ to_le_bytes w16 minor

-- ioCode1, ioCode2, extendedPDU, extraFlags1 and extraFlags2
abbrev pub codes_bytes : ℕ → ℕ → ℕ → ℕ → ℕ → List ℕ
codes_bytes codes codes2 extended extra extra2 = to_le_bytes w32 codes ++ to_le_bytes w32 codes2 ++ to_le_bytes w32 extended ++ to_le_bytes w32 extra ++ to_le_bytes w32 extra2

-- the bytes of GENERAL after its Version
abbrev pub general_bytes : General → List ℕ
general_bytes g = system_bytes g.os g.os_version g.minor ++ codes_bytes g.codes g.codes2 g.extended g.extra g.extra2 ++ special_bytes g.special

-- the bytes of a set
abbrev pub capability_bytes : Cap → List ℕ
capability_bytes (cap.General g) = general_head g.special ++ general_bytes g
capability_bytes (cap.Printer version) = capability_head_bytes printer_type 8 version
capability_bytes (cap.Drive version) = capability_head_bytes drive_type 8 version
capability_bytes (cap.Other kind version body) = capability_head_bytes kind (8 + length body) version ++ body

-- the bytes of the sets of a message
abbrev pub sets_bytes : List Cap → List ℕ
sets_bytes caps = to_le_bytes w16 (length caps) ++ 0 ∷ 0 ∷ [] ++ flat_map capability_bytes caps

-- whether a set of this type is kept unread
abbrev pub is_kept : ℕ → Bool
is_kept kind = not (kind == general_type || kind == printer_type || kind == drive_type)

-- A set that can be written. Of a kept one the type has no reading of its own, and the length fits its field.
abbrev pub IsWritableSet : Cap → Type 0
IsWritableSet (cap.Other kind version body) = IsTrue (is_kept kind) × (8 + length body < 2 ^ 16)
IsWritableSet _ = Unit {0}

-- sets that can be written in one message
abbrev pub AreWritableSets : List Cap → Type 0
AreWritableSets caps = (length caps ≤ most_sets) × All IsWritableSet caps
