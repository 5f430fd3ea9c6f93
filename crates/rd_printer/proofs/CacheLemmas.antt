-- What is kept by the bytes of names, where a map keeps it by names; and what a renaming does to it.
use Rattle.std.proofs.Common.{◌≡◌, ◌≢◌, ◌∙◌, refl, sym, ap, subst, ℕ, Bool, true, false, cond, List, [], ◌∷◌, Option, Some, None}
use Rattle.std.specs.Prelude.{Vec}
use Rattle.std.specs.Cmp.Lexicographic.{nat_list_cmp_total}
use Rattle.std.specs.List.{AllByRecursion}
use Rattle.std.specs.List.Sorted.{IsStrictlySortedBy}
use Rattle.std.specs.Option.{IsSome, is_some, option_map_or}
use Rattle.std.specs.Ordering.{is_eq, match_ordering}
use Rattle.std.specs.declared.cmp.Ordering.{Ordering}
use Rattle.std.specs.declared.cmp.Ordering.TheVariants.{Less, Equal, Greater}
use Rattle.std.specs.Map.{keys_of, lookup, remove_entry, set_value}
use Rattle.std.specs.BTreeMap.{BTreeMap, IsOrdered, insert_entry, is_at}
use Rattle.std.proofs.lemmas.Map.Lookups.{exact_bytes}
use Rattle.rd_printer.specs.declared.notice.Notice.TheVariants.{Rename, Update}
use Rattle.rd_printer.specs.Cache.{CacheState, by_bytes, bytes_cmp, forgetting, heard, kept_for, keeping, printer_name_cmp}
use Rattle.rd_printer.proofs.EntryLemmas.{inserted-inserted, inserted-removed, lookup-inserted, lookup-inserted_other, lookup-removed_other, removed-inserted_other, set_value-inserted}

module _ {A : Type 0} where
  -- how a name compares to one that is kept
  abbrev pub to_printer_name : List ℕ → Vec ℕ A → Ordering
  to_printer_name name x = bytes_cmp name x.items

  pub seen_lookup : (name : List ℕ) (es : List (Vec ℕ A × List ℕ)) → lookup (is_at (to_printer_name name)) es ≡ kept_for (by_bytes es) name
  seen_lookup name [] = refl
  seen_lookup name (e ∷ es) = ap (cond (is_at (to_printer_name name) e.0) (Some e.1)) (seen_lookup name es)

  pub seen_removed : (name : List ℕ) (es : List (Vec ℕ A × List ℕ)) → by_bytes (remove_entry (is_at (to_printer_name name)) es) ≡ forgetting (by_bytes es) name
  seen_removed name [] = refl
  seen_removed name (e ∷ es) = by (seen_removed name es) (is_at (to_printer_name name) e.0)
    where
      by : by_bytes (remove_entry (is_at (to_printer_name name)) es) ≡ forgetting (by_bytes es) name → (b : Bool)
          → by_bytes (cond b es (e ∷ remove_entry (is_at (to_printer_name name)) es)) ≡ cond b (by_bytes es) ((e.0.items, e.1) ∷ forgetting (by_bytes es) name)
      by same true = refl
      by same false = ap (◌∷◌ (e.0.items, e.1)) same

  pub seen_set : (name bytes : List ℕ) (es : List (Vec ℕ A × List ℕ)) → by_bytes (set_value (is_at (to_printer_name name)) es bytes) ≡ set_value (is_at (bytes_cmp name)) (by_bytes es) bytes
  seen_set name bytes [] = refl
  seen_set name bytes (e ∷ es) = by (seen_set name bytes es) (is_at (to_printer_name name) e.0)
    where
      by : by_bytes (set_value (is_at (to_printer_name name)) es bytes) ≡ set_value (is_at (bytes_cmp name)) (by_bytes es) bytes → (b : Bool)
          → by_bytes (cond b ((e.0, bytes) ∷ es) (e ∷ set_value (is_at (to_printer_name name)) es bytes))
          ≡ cond b ((e.0.items, bytes) ∷ by_bytes es) ((e.0.items, e.1) ∷ set_value (is_at (bytes_cmp name)) (by_bytes es) bytes)
      by same true = refl
      by same false = ap (◌∷◌ (e.0.items, e.1)) same

  pub seen_inserted : (name : Vec ℕ A) (bytes : List ℕ) (es : List (Vec ℕ A × List ℕ)) → by_bytes (insert_entry printer_name_cmp es name bytes) ≡ keeping (by_bytes es) name.items bytes
  seen_inserted name bytes [] = refl
  seen_inserted name bytes (e ∷ es) = by (seen_inserted name bytes es) (printer_name_cmp name e.0)
    where
      by : by_bytes (insert_entry printer_name_cmp es name bytes) ≡ keeping (by_bytes es) name.items bytes → (r : Ordering)
          → by_bytes (match_ordering r ((name, bytes) ∷ e ∷ es) ((e.0, bytes) ∷ es) (e ∷ insert_entry printer_name_cmp es name bytes))
          ≡ match_ordering r ((name.items, bytes) ∷ by_bytes (e ∷ es)) ((e.0.items, bytes) ∷ by_bytes es) ((e.0.items, e.1) ∷ keeping (by_bytes es) name.items bytes)
      by same Less = refl
      by same Equal = refl
      by same Greater = ap (◌∷◌ (e.0.items, e.1)) same

  all_seen : (x : List ℕ) (es : List (Vec ℕ A × List ℕ)) → AllByRecursion (λ (y : Vec ℕ A). to_printer_name x y ≡ Less) (keys_of es) → AllByRecursion (λ y. bytes_cmp x y ≡ Less) (keys_of (by_bytes es))
  all_seen x [] all = tt
  all_seen x (e ∷ es) all = (all.0, all_seen x es all.1)

  pub seen_rising : (es : List (Vec ℕ A × List ℕ)) → IsStrictlySortedBy printer_name_cmp (keys_of es) → IsStrictlySortedBy bytes_cmp (keys_of (by_bytes es))
  unfolding IsStrictlySortedBy
  seen_rising [] rising = tt
  seen_rising (e ∷ es) rising = (all_seen e.0.items es rising.0, seen_rising es rising.1)

-- names that differ
pub apart : (x y : List ℕ) → x ≢ y → is_at (bytes_cmp x) y ≡ false
apart x y other = by (bytes_cmp x y) refl
  where
    by : (r : Ordering) → bytes_cmp x y ≡ r → is_eq r ≡ false
    by Less e = refl
    by Equal e = absurd (other (exact_bytes x y e))
    by Greater e = refl

-- the names rise
abbrev pub IsRising : CacheState → Type 0
IsRising cache = IsStrictlySortedBy bytes_cmp (keys_of cache)

-- the names of a map rise
pub seen_map : {A : Type 0} (kept : BTreeMap (Vec ℕ A) (List ℕ)) (cache : CacheState) → IsOrdered printer_name_cmp kept → by_bytes kept.entries ≡ cache → IsRising cache
seen_map kept cache ordered is = subst IsRising is (seen_rising kept.entries ordered)

-- what is set where there is something is kept
pub set_value-kept : (cache : CacheState) (name bytes before : List ℕ) → IsRising cache → kept_for cache name ≡ Some before → set_value (is_at (bytes_cmp name)) cache bytes ≡ keeping cache name bytes
set_value-kept cache name bytes before rising is = set_value-inserted nat_list_cmp_total exact_bytes name bytes cache rising (ap is_some is)

pub updated_some : (cache : CacheState) (name bytes before : List ℕ) → kept_for cache name ≡ Some before → heard cache (Update name bytes) ≡ keeping cache name bytes
updated_some cache name bytes before is = ap (λ (found : Option (List ℕ)). option_map_or (λ (bytes' : List ℕ). keeping cache name bytes) found cache) is

pub updated_none : (cache : CacheState) (name bytes : List ℕ) → kept_for cache name ≡ None → heard cache (Update name bytes) ≡ cache
updated_none cache name bytes none = ap (λ (found : Option (List ℕ)). option_map_or (λ (bytes' : List ℕ). keeping cache name bytes) found cache) none

pub renamed_some : (cache : CacheState) (old new bytes : List ℕ) → kept_for cache old ≡ Some bytes → heard cache (Rename old new) ≡ keeping (forgetting cache old) new bytes
renamed_some cache old new bytes is = ap (λ (found : Option (List ℕ)). option_map_or (λ (bytes' : List ℕ). keeping (forgetting cache old) new bytes') found cache) is

-- a name of which nothing is kept is renamed
pub renamed_none : (cache : CacheState) (old new : List ℕ) → kept_for cache old ≡ None → heard cache (Rename old new) ≡ cache
renamed_none cache old new none = ap (λ (found : Option (List ℕ)). option_map_or (λ (bytes : List ℕ). keeping (forgetting cache old) new bytes) found cache) none

-- a name is renamed to itself
pub renamed_same : (cache : CacheState) (name : List ℕ) → IsRising cache → heard cache (Rename name name) ≡ cache
renamed_same cache name rising = by (kept_for cache name) refl
  where
    by : (found : Option (List ℕ)) → kept_for cache name ≡ found → option_map_or (λ (bytes : List ℕ). keeping (forgetting cache name) name bytes) found cache ≡ cache
    by None is = refl
    by (Some bytes) is = inserted-removed nat_list_cmp_total exact_bytes name bytes cache rising is

-- a name is renamed where the new one got a place before
pub renamed_placed : (cache : CacheState) (old new : List ℕ) → IsRising cache → old ≢ new → IsSome (kept_for cache old) → heard (keeping cache new []) (Rename old new) ≡ heard cache (Rename old new)
renamed_placed cache old new rising other some = by (kept_for cache old) refl some
  where
    placed : CacheState
    placed = keeping cache new []

    by : (found : Option (List ℕ)) → kept_for cache old ≡ found → IsSome found → heard placed (Rename old new) ≡ option_map_or (λ (bytes : List ℕ). keeping (forgetting cache old) new bytes) found cache
    by None is some = absurd (cc)
    by (Some bytes) is some =
        ap (λ (found : Option (List ℕ)). option_map_or (λ (bytes : List ℕ). keeping (forgetting placed old) new bytes) found placed)
        (lookup-inserted_other nat_list_cmp_total exact_bytes old new [] (apart old new other) cache ∙ is)
        ∙ ap (λ (left : CacheState). keeping left new bytes) (removed-inserted_other nat_list_cmp_total exact_bytes old new [] (apart old new other) cache rising)
        ∙ inserted-inserted nat_list_cmp_total exact_bytes new [] bytes (forgetting cache old)

-- a name keeps what it has where another is forgotten
pub kept_other : (cache : CacheState) (old new : List ℕ) → old ≢ new → kept_for (forgetting cache old) new ≡ kept_for cache new
kept_other cache old new other = lookup-removed_other nat_list_cmp_total exact_bytes old new (apart new old (λ e. other (sym e))) cache

-- what is kept for a name
pub kept_there : (cache : CacheState) (name bytes : List ℕ) → kept_for (keeping cache name bytes) name ≡ Some bytes
kept_there cache name bytes = lookup-inserted nat_list_cmp_total exact_bytes name bytes cache
