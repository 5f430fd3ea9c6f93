-- What a map does that keeps its entries by names in memory, as contracts see it: by the bytes of the names.
use Rattle.std.proofs.Common.{◌≡◌, refl, ap, ℕ, Bool, true, false, cond, List, [], ◌∷◌, Some}
use Rattle.std.specs.Prelude.{Vec}
use Rattle.std.specs.Ordering.{match_ordering}
use Rattle.std.specs.declared.cmp.Ordering.{Ordering}
use Rattle.std.specs.declared.cmp.Ordering.TheVariants.{Less, Equal, Greater}
use Rattle.std.specs.Map.{lookup, remove_entry}
use Rattle.std.specs.BTreeMap.{insert_entry, is_at}
use Rattle.rd_printer.specs.Cache.{bytes_cmp}
use Rattle.rd_world.specs.Names.{by_name, handle_cmp}

-- how a name compares to one that is there
abbrev pub to_name : {A : Type 0} → List ℕ → Vec ℕ A → Ordering
to_name name x = bytes_cmp name x.items

module _ {A V : Type 0} where
  pub seen_lookup : (name : List ℕ) (es : List (Vec ℕ A × V)) → lookup (is_at (to_name name)) es ≡ lookup (is_at (bytes_cmp name)) (by_name es)
  seen_lookup name [] = refl
  seen_lookup name (e ∷ es) = ap (cond (is_at (to_name name) e.0) (Some e.1)) (seen_lookup name es)

  pub seen_removed : (name : List ℕ) (es : List (Vec ℕ A × V)) → by_name (remove_entry (is_at (to_name name)) es) ≡ remove_entry (is_at (bytes_cmp name)) (by_name es)
  seen_removed name [] = refl
  seen_removed name (e ∷ es) = by (seen_removed name es) (is_at (to_name name) e.0)
    where
      by : by_name (remove_entry (is_at (to_name name)) es) ≡ remove_entry (is_at (bytes_cmp name)) (by_name es) → (b : Bool)
          → by_name (cond b es (e ∷ remove_entry (is_at (to_name name)) es)) ≡ cond b (by_name es) ((e.0.items, e.1) ∷ remove_entry (is_at (bytes_cmp name)) (by_name es))
      by same true = refl
      by same false = ap (◌∷◌ (e.0.items, e.1)) same

  pub seen_inserted : (name : Vec ℕ A) (value : V) (es : List (Vec ℕ A × V)) → by_name (insert_entry handle_cmp es name value) ≡ insert_entry bytes_cmp (by_name es) name.items value
  seen_inserted name value [] = refl
  seen_inserted name value (e ∷ es) = by (seen_inserted name value es) (handle_cmp name e.0)
    where
      by : by_name (insert_entry handle_cmp es name value) ≡ insert_entry bytes_cmp (by_name es) name.items value → (r : Ordering)
          → by_name (match_ordering r ((name, value) ∷ e ∷ es) ((e.0, value) ∷ es) (e ∷ insert_entry handle_cmp es name value))
          ≡ match_ordering r ((name.items, value) ∷ by_name (e ∷ es)) ((e.0.items, value) ∷ by_name es) ((e.0.items, e.1) ∷ insert_entry bytes_cmp (by_name es) name.items value)
      by same Less = refl
      by same Equal = refl
      by same Greater = ap (◌∷◌ (e.0.items, e.1)) same
