-- What a client keeps for printers, by what it is told of them (MS-RDPEPC 2.2.2.3 to 2.2.2.6).
use Rattle.std.specs.Prelude.{◌≡◌, ◌≢◌, ℕ, List, Option, Result, Ok, Err, fold, map, Vec}
use Rattle.std.specs.Option.{IsSome, option_map_or}
use Rattle.std.specs.Map.{lookup, remove_entry}
use Rattle.std.specs.Ordering.{nat_cmp}
use Rattle.std.specs.Cmp.Lexicographic.{slice_cmp}
use Rattle.std.specs.declared.cmp.Ordering.{Ordering}
use Rattle.std.specs.BTreeMap.{insert_entry, is_at}
use Rattle.rd_printer.specs.declared.notice.Notice.{Notice}
use Rattle.rd_printer.specs.declared.notice.Notice.TheVariants.{Add, Update, Delete, Rename, UsingXps}

-- the configuration bytes of each printer, by the bytes of its name
abbrev pub CacheState : Type 0
CacheState = List (List ℕ × List ℕ)

-- names in the order of their bytes
abbrev pub bytes_cmp : List ℕ → List ℕ → Ordering
bytes_cmp = slice_cmp nat_cmp

abbrev pub kept_for : CacheState → List ℕ → Option (List ℕ)
kept_for cache name = lookup (is_at (bytes_cmp name)) cache

abbrev pub keeping : CacheState → List ℕ → List ℕ → CacheState
keeping cache name bytes = insert_entry bytes_cmp cache name bytes

abbrev pub forgetting : CacheState → List ℕ → CacheState
forgetting cache name = remove_entry (is_at (bytes_cmp name)) cache

-- A notice sets a printer's bytes, sets them where there are some, forgets them, or moves them to another name where there are some.
abbrev pub heard : CacheState → Notice → CacheState
heard cache (Add port pnp driver name config) = keeping cache name config
heard cache (Update name config) = option_map_or (λ (bytes : List ℕ). keeping cache name config) (kept_for cache name) cache
heard cache (Delete name) = forgetting cache name
heard cache (Rename old new) = option_map_or (λ (bytes : List ℕ). keeping (forgetting cache old) new bytes) (kept_for cache old) cache
heard cache (UsingXps printer flags) = cache

-- A notice takes memory: for a configuration that it sets, or for another name of one.
abbrev pub TakesMemory : CacheState → Notice → Type 0
TakesMemory cache (Add port pnp driver name config) = Unit {0}
TakesMemory cache (Update name config) = IsSome (kept_for cache name)
TakesMemory cache (Delete name) = ⊥
TakesMemory cache (Rename old new) = (old ≢ new) × IsSome (kept_for cache old)
TakesMemory cache (UsingXps printer flags) = ⊥

-- A notice is heard; or nothing changes, where no memory was found for one that takes some.
abbrev pub HearsNotice : {E : Type 0} → CacheState → Notice → Result (Unit {0}) E → CacheState → Type 0
HearsNotice old notice (Ok done) new = new ≡ heard old notice
HearsNotice old notice (Err no_memory) new = TakesMemory old notice × (new ≡ old)

-- what is kept after notices, in order
abbrev pub heard_all : CacheState → List Notice → CacheState
heard_all cache notices = fold heard cache notices

-- the order of names that are kept
abbrev pub printer_name_cmp : {A : Type 0} → Vec ℕ A → Vec ℕ A → Ordering
printer_name_cmp x y = bytes_cmp x.items y.items

-- what is kept by names, by the bytes of the names
abbrev pub by_bytes : {A : Type 0} → List (Vec ℕ A × List ℕ) → CacheState
by_bytes entries = map (λ e. (e.0.items, e.1)) entries
