-- What is open, once what is at or below one path is moved to another: the table stays sound.
use Rattle.std.proofs.Common.{◌≡◌, ◌∙◌, refl, sym, ap, subst, ℕ, inl, inr, true, false, not, ◌&&◌, ◌||◌, cond, List, [], ◌∷◌, ◌++◌, drop, length, map, Option, Some, None, nat_le, suc, arith, append-nil}
use Rattle.std.specs.List.{list_any}
use Rattle.std.specs.List.Sorted.{IsStrictlySortedBy}
use Rattle.std.specs.Map.{keys_of, lookup}
use Rattle.std.specs.Option.{IsSome, is_some, option_map, option_map_or}
use Rattle.std.specs.Ordering.{nat_cmp}
use Rattle.std.specs.BTreeMap.{BTreeMap, is_at}
use Rattle.std.proofs.lemmas.Bool.{cases_Bool, or_parts}
use Rattle.std.proofs.lemmas.Bool.Decides.{nat_tests}
use Rattle.std.proofs.lemmas.Map.Made.{keys_of-map_values, lookup-map_values}
use Rattle.std.proofs.lemmas.Option.{none-some, same_Some}
use Rattle.rd_dirinfo.specs.declared.naming.Naming.TheVariants.{Exact}
use Rattle.rd_dirinfo.specs.Paths.{Names, is_path, is_prefix, is_same_path, is_within_limits, moved_path}
use Rattle.rd_folder.proofs.ExactLemmas.{exact_same, joined_prefix, joined_rest, same_exact}
use Rattle.rd_folder.proofs.RenameLemmas.{back_same}
use Rattle.rd_drive.proofs.LockLemmas.{alike}
use Rattle.rd_folder_drive.specs.declared.open.Open.{Open}
use Rattle.rd_folder_drive.specs.declared.table.Table.{Table}
use Rattle.rd_folder_drive.specs.Moving.{is_far, is_open_in, moved_entry, moved_open}
use Rattle.rd_folder_drive.specs.Table.{IsSound, is_pending_open, open_at, path_at}
use Rattle.rd_folder_drive.proofs.EntryLemmas.{entry_any}
use Rattle.rd_folder_drive.proofs.WayLemmas.{moved_is_path}

-- ---- what moving makes of a path

-- no other path than the root's begins the root's
pub none_above : (p : Names) → (p ≡ [] → ⊥) → is_prefix Exact p [] ≡ false
none_above [] some = absurd (some refl)
none_above (y ∷ ys) some = ap (λ b. b && is_same_path Exact (y ∷ ys) []) (none_fits (length ys))
  where
    none_fits : (n : ℕ) → nat_le (suc n) 0 ≡ false
    none_fits n = grind (arith, nat_tests)

-- a path is at itself
pub own_prefix : (p : Names) → is_prefix Exact p p ≡ true
own_prefix p = ap (is_prefix Exact p) (sym (append-nil p)) ∙ joined_prefix p []

no_front : (p r : Names) → p ++ r ≡ [] → p ≡ []
no_front [] r e = refl
no_front (y ∷ ys) r e = absurd (cc)

module _ (from to : Names) where
  abbrev pub new_path : Names → Names
  new_path path = moved_path Exact from to path

  pub gone : (path : Names) → is_prefix Exact from path ≡ true → new_path path ≡ to ++ drop (length from) path
  gone path t = ap (λ b. cond b (to ++ drop (length from) path) path) t

  pub stays : (path : Names) → is_prefix Exact from path ≡ false → new_path path ≡ path
  stays path f = ap (λ b. cond b (to ++ drop (length from) path) path) f

  pub moved_own : new_path from ≡ to
  moved_own = gone from (own_prefix from) ∙ ap (λ (r : Names). to ++ r) (ap (drop (length from)) (sym (append-nil from)) ∙ joined_rest from []) ∙ append-nil to

  -- no path becomes the root's
  pub still_root : (to ≡ [] → ⊥) → (path : Names) → new_path path ≡ [] → path ≡ []
  still_root some path e = elim (cases_Bool (is_prefix Exact from path)) [
    | inl t ↦ absurd (some (no_front to (drop (length from) path) (sym (gone path t) ∙ e)))
    | inr f ↦ sym (stays path f) ∙ e
  ]

  -- two paths are the same then where they were
  pub same_moved : (p q : Names) → (is_prefix Exact to p ≡ true → ⊥) → (is_prefix Exact to q ≡ true → ⊥) → is_same_path Exact (new_path p) (new_path q) ≡ is_same_path Exact p q
  same_moved p q free other =
      alike (is_same_path Exact (new_path p) (new_path q)) (is_same_path Exact p q)
      (λ t. exact_same p q (back_same from to p q free other (same_exact (new_path p) (new_path q) t)))
      (λ t. exact_same (new_path p) (new_path q) (ap new_path (same_exact p q t)))

  -- so the marks move along
  pub pending_moved : (path : Names) → (is_prefix Exact to path ≡ true → ⊥) → (es : List (ℕ × Open)) → list_any (is_open_in to) es ≡ false
      → list_any (is_pending_open (new_path path)) (map (moved_entry from to) es) ≡ list_any (is_pending_open path) es
  pending_moved path free [] none = refl
  pending_moved path free (e ∷ es) none =
      let both = or_parts (is_open_in to e) (list_any (is_open_in to) es) none in
      λ i. ((e.1).pending && same_moved (e.1).path path (off both.0) free i) || pending_moved path free es both.1 i
    where
      off : is_open_in to e ≡ false → is_open_in to e ≡ true → ⊥
      off f t = absurd (let clash : true ≡ false = sym t ∙ f in cc)

-- ---- what is open

module _ (t : Table) (from to : Names) (opens : BTreeMap ℕ Open) (are : opens.entries ≡ map (moved_entry from to) t.opens.entries) where
  abbrev pub moved_table : Table
  moved_table = record t { opens = opens }

  pub open_so : (n : ℕ) → open_at moved_table n ≡ option_map (moved_open from to) (open_at t n)
  open_so n = ap (lookup (is_at (nat_cmp n))) are ∙ lookup-map_values (moved_open from to) (is_at (nat_cmp n)) t.opens.entries

  -- what is open then was open
  pub was : (n : ℕ) (o : Open) → open_at moved_table n ≡ Some o → (p : Open) × (open_at t n ≡ Some p) × (o ≡ moved_open from to p)
  was n o on = by (open_at t n) refl (sym (open_so n) ∙ on)
    where
      by : (found : Option Open) → open_at t n ≡ found → option_map (moved_open from to) found ≡ Some o → (p : Open) × (open_at t n ≡ Some p) × (o ≡ moved_open from to p)
      by None e some = absurd (none-some o some)
      by (Some p) e some = (p, e, sym (same_Some (moved_open from to p) o some))

  pub on_so : (n : ℕ) → IsSome (open_at t n) → IsSome (open_at moved_table n)
  on_so n some = ap is_some (open_so n) ∙ by (open_at t n) ∙ some
    where
      by : (found : Option Open) → is_some (option_map (moved_open from to) found) ≡ is_some found
      by None = refl
      by (Some o) = refl

  pub path_so : (from ≡ [] → ⊥) → (n : ℕ) → path_at moved_table n ≡ moved_path Exact from to (path_at t n)
  path_so some n = ap (λ (found : Option Open). option_map_or (λ (o : Open). o.path) found []) (open_so n) ∙ by (open_at t n)
    where
      by : (found : Option Open) → option_map_or (λ (o : Open). o.path) (option_map (moved_open from to) found) [] ≡ moved_path Exact from to (option_map_or (λ (o : Open). o.path) found [])
      by None = sym (stays from to [] (none_above from some))
      by (Some o) = refl

  module _ (sound : IsSound t) (below : from ≡ [] → ⊥) (some : to ≡ [] → ⊥) (is : is_path to ≡ true) (near : list_any (is_far from to) t.opens.entries ≡ false) (bare : list_any (is_open_in to) t.opens.entries ≡ false) where
    -- nothing was open at the target or below it
    pub free : (n : ℕ) (o : Open) → open_at t n ≡ Some o → is_prefix Exact to o.path ≡ true → ⊥
    free n o on at = absurd (let clash : true ≡ false = sym (entry_any (is_open_in to) t.opens.entries n o on at) ∙ bare in cc)

    within : (n : ℕ) (o : Open) → open_at t n ≡ Some o → is_prefix Exact from o.path ≡ true → is_within_limits (to ++ drop (length from) o.path) ≡ true
    within n o on at = elim (cases_Bool (is_within_limits (to ++ drop (length from) o.path))) [
      | inl w ↦ w
      | inr w ↦ absurd (let clash : true ≡ false = sym (entry_any (is_far from to) t.opens.entries n o on (λ i. at i && not (w i))) ∙ near in cc)
    ]

    still_path : (n : ℕ) (o : Open) → open_at t n ≡ Some o → is_path (moved_path Exact from to o.path) ≡ true
    still_path n o on = elim (cases_Bool (is_prefix Exact from o.path)) [
      | inl at ↦ ap is_path (gone from to o.path at) ∙ moved_is_path from to o.path is (sound.opened n o on).path at (within n o on at)
      | inr off ↦ ap is_path (stays from to o.path off) ∙ (sound.opened n o on).path
    ]

    pub sound_moved : IsSound moved_table
    sound_moved = record {
      label = sound.label;
      rising = (subst (λ (ks : List ℕ). IsStrictlySortedBy nat_cmp ks) (sym (ap keys_of are ∙ keys_of-map_values (moved_open from to) t.opens.entries)) sound.rising.0, sound.rising.1);
      handles = λ file h at.
          let old = sound.handles file h at in
          record { on = on_so h.node old.on; before = old.before; root = λ e. old.root (still_root from to some (path_at t h.node) (sym (path_so below h.node) ∙ e)) };
      opened = λ n o on.
          let p = was n o on in
          let old = sound.opened n p.0 p.1 in
          record {
            path = ap (λ (x : Open). is_path x.path) p.2 ∙ still_path n p.0 p.1;
            root = λ e. ap (λ (x : Open). x.pending) p.2 ∙ old.root (still_root from to some (p.0).path (ap (λ (x : Open). x.path) (sym p.2) ∙ e));
            used = old.used;
            uses = ap (λ (x : Open). x.uses) p.2 ∙ old.uses;
            before = old.before;
          };
      apart = λ n m o p on other e.
          let x = was n o on in
          let y = was m p other in
          sound.apart n m x.0 y.0 x.1 y.1 (back_same from to (x.0).path (y.0).path (free n x.0 x.1) (free m y.0 y.1) (sym (ap (λ (z : Open). z.path) x.2) ∙ e ∙ ap (λ (z : Open). z.path) y.2));
      locked = sound.locked;
      waits = sound.waits;
      reserved = sound.reserved;
      few = sound.few;
      ids = sound.ids;
    }
