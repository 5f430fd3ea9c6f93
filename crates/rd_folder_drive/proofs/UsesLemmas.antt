-- The counts of the uses of what is open by a number: what a handle more or fewer makes of them.
use Rattle.std.proofs.Common.{◌≡◌, ◌∙◌, refl, sym, ap, ℕ, ◌≤◌, ◌==◌, Bool, true, false, ◌&&◌, ◌||◌, cond, List, [], ◌∷◌, length, Some, None, arith}
use Rattle.std.specs.Prelude.{nat_lt}
use Rattle.std.specs.List.{list_any}
use Rattle.std.specs.Ordering.{nat_cmp, is_eq, match_ordering}
use Rattle.std.specs.declared.cmp.Ordering.{Ordering}
use Rattle.std.specs.declared.cmp.Ordering.TheVariants.{Less, Equal, Greater}
use Rattle.std.specs.Map.{lookup, remove_entry}
use Rattle.std.specs.BTreeMap.{insert_entry, is_at}
use Rattle.std.proofs.lemmas.Bool.Decides.{nat_tests}
use Rattle.std.proofs.lemmas.Option.{same_Some}
use Rattle.rd_drive.specs.declared.access.Use.{Use}
use Rattle.rd_drive.specs.Access.{use_of}
use Rattle.rd_drive.specs.Uses.{uses_of}
use Rattle.rd_drive.specs.UseCounts.{more}
use Rattle.rd_drive.proofs.UsesLemmas.{more_swap, uses_more}
use Rattle.rd_folder_drive.specs.declared.handle.Handle as kept
use Rattle.rd_folder_drive.specs.Table.{uses_on}

abbrev pub use_by : kept.Handle → Use
use_by h = use_of h.access h.share

module _ (n : ℕ) where
  -- those of one entry and of others
  abbrev on_with : Bool → kept.Handle → List Use → List Use
  on_with here h us = cond here (use_by h ∷ us) us

  counted_with : (b : Bool) (h : kept.Handle) (us : List Use) → uses_of (on_with b h us) ≡ cond b (more (use_by h) (uses_of us)) (uses_of us)
  counted_with true h us = uses_more (use_by h) us
  counted_with false h us = refl

  -- without the handle that a file id has
  module _ (test : ℕ → Bool) where
    pub on_removed : (es : List (ℕ × kept.Handle)) (h : kept.Handle) → lookup test es ≡ Some h
        → uses_of (uses_on n es) ≡ cond (h.node == n) (more (use_by h) (uses_of (uses_on n (remove_entry test es)))) (uses_of (uses_on n (remove_entry test es)))
    on_removed [] h is = absurd (cc)
    on_removed (e ∷ es) h is = by (λ there. on_removed es h there) (test e.0) refl
      where
        rest : List (ℕ × kept.Handle)
        rest = remove_entry test es

        past : (b : Bool) (c : Bool) → uses_of (uses_on n es) ≡ cond c (more (use_by h) (uses_of (uses_on n rest))) (uses_of (uses_on n rest))
            → uses_of (on_with b e.1 (uses_on n es)) ≡ cond c (more (use_by h) (uses_of (on_with b e.1 (uses_on n rest)))) (uses_of (on_with b e.1 (uses_on n rest)))
        past true true same =
            uses_more (use_by e.1) (uses_on n es) ∙ ap (more (use_by e.1)) same ∙ more_swap (use_by e.1) (use_by h) (uses_of (uses_on n rest))
            ∙ ap (more (use_by h)) (sym (uses_more (use_by e.1) (uses_on n rest)))
        past true false same = uses_more (use_by e.1) (uses_on n es) ∙ ap (more (use_by e.1)) same ∙ sym (uses_more (use_by e.1) (uses_on n rest))
        past false c same = same

        by : (lookup test es ≡ Some h → uses_of (uses_on n es) ≡ cond (h.node == n) (more (use_by h) (uses_of (uses_on n rest))) (uses_of (uses_on n rest))) → (b : Bool) → test e.0 ≡ b
            → uses_of (on_with (e.1.node == n) e.1 (uses_on n es)) ≡ cond (h.node == n) (more (use_by h) (uses_of (uses_on n (cond (test e.0) es (e ∷ rest))))) (uses_of (uses_on n (cond (test e.0) es (e ∷ rest))))
        by after true this =
            let one : e.1 ≡ h = same_Some e.1 h (sym (ap (λ b. cond b (Some e.1) (lookup test es)) this) ∙ is) in
            ap (λ (g : kept.Handle). uses_of (on_with (g.node == n) g (uses_on n es))) one
            ∙ counted_with (h.node == n) h (uses_on n es)
            ∙ ap (λ b. cond (h.node == n) (more (use_by h) (uses_of (uses_on n (cond b es (e ∷ rest))))) (uses_of (uses_on n (cond b es (e ∷ rest))))) (sym this)
        by after false this =
            past (e.1.node == n) (h.node == n) (after (sym (ap (λ b. cond b (Some e.1) (lookup test es)) this) ∙ is))
            ∙ ap (λ b. cond (h.node == n) (more (use_by h) (uses_of (uses_on n (cond b es (e ∷ rest))))) (uses_of (uses_on n (cond b es (e ∷ rest))))) (sym this)

  -- with a handle for a file id that had none
  module _ (k : ℕ) (h : kept.Handle) where
    pub on_inserted : (es : List (ℕ × kept.Handle)) → lookup (is_at (nat_cmp k)) es ≡ None
        → uses_of (uses_on n (insert_entry nat_cmp es k h)) ≡ cond (h.node == n) (more (use_by h) (uses_of (uses_on n es))) (uses_of (uses_on n es))
    on_inserted [] none = counted_with (h.node == n) h []
    on_inserted (e ∷ es) none = by (λ there. on_inserted es there) (nat_cmp k e.0) refl
      where
        past : (b : Bool) (c : Bool) → uses_of (uses_on n (insert_entry nat_cmp es k h)) ≡ cond c (more (use_by h) (uses_of (uses_on n es))) (uses_of (uses_on n es))
            → uses_of (on_with b e.1 (uses_on n (insert_entry nat_cmp es k h))) ≡ cond c (more (use_by h) (uses_of (on_with b e.1 (uses_on n es)))) (uses_of (on_with b e.1 (uses_on n es)))
        past true true same =
            uses_more (use_by e.1) (uses_on n (insert_entry nat_cmp es k h)) ∙ ap (more (use_by e.1)) same ∙ more_swap (use_by e.1) (use_by h) (uses_of (uses_on n es))
            ∙ ap (more (use_by h)) (sym (uses_more (use_by e.1) (uses_on n es)))
        past true false same = uses_more (use_by e.1) (uses_on n (insert_entry nat_cmp es k h)) ∙ ap (more (use_by e.1)) same ∙ sym (uses_more (use_by e.1) (uses_on n es))
        past false c same = same

        by : (lookup (is_at (nat_cmp k)) es ≡ None → uses_of (uses_on n (insert_entry nat_cmp es k h)) ≡ cond (h.node == n) (more (use_by h) (uses_of (uses_on n es))) (uses_of (uses_on n es)))
            → (r : Ordering) → nat_cmp k e.0 ≡ r
            → uses_of (uses_on n (match_ordering (nat_cmp k e.0) ((k, h) ∷ e ∷ es) ((e.0, h) ∷ es) (e ∷ insert_entry nat_cmp es k h)))
            ≡ cond (h.node == n) (more (use_by h) (uses_of (uses_on n (e ∷ es)))) (uses_of (uses_on n (e ∷ es)))
        by after Less this =
            ap (λ r. uses_of (uses_on n (match_ordering r ((k, h) ∷ e ∷ es) ((e.0, h) ∷ es) (e ∷ insert_entry nat_cmp es k h)))) this
            ∙ counted_with (h.node == n) h (uses_on n (e ∷ es))
        by after Equal this =
            let clash_here : Some e.1 ≡ None = sym (ap (λ r. cond (is_eq r) (Some e.1) (lookup (is_at (nat_cmp k)) es)) this) ∙ none in absurd (cc)
        by after Greater this =
            ap (λ r. uses_of (uses_on n (match_ordering r ((k, h) ∷ e ∷ es) ((e.0, h) ∷ es) (e ∷ insert_entry nat_cmp es k h)))) this
            ∙ past (e.1.node == n) (h.node == n) (after (sym (ap (λ r. cond (is_eq r) (Some e.1) (lookup (is_at (nat_cmp k)) es)) this) ∙ none))

  -- the number of handles on the node tells whether there is one
  pub any_handle : (es : List (ℕ × kept.Handle)) → nat_lt 0 (length (uses_on n es)) ≡ list_any (λ (e : ℕ × kept.Handle). e.1.node == n) es
  any_handle [] = refl
  any_handle (e ∷ es) = by (any_handle es) (e.1.node == n)
    where
      by : nat_lt 0 (length (uses_on n es)) ≡ list_any (λ (g : ℕ × kept.Handle). g.1.node == n) es → (b : Bool)
          → nat_lt 0 (length (on_with b e.1 (uses_on n es))) ≡ (b || list_any (λ (g : ℕ × kept.Handle). g.1.node == n) es)
      by same true = grind (arith, nat_tests)
      by same false = same

  -- a test of the uses is one of the handles on the node
  pub any_use : (q : Use → Bool) (es : List (ℕ × kept.Handle)) → list_any q (uses_on n es) ≡ list_any (λ (e : ℕ × kept.Handle). e.1.node == n && q (use_by e.1)) es
  any_use q [] = refl
  any_use q (e ∷ es) = by (any_use q es) (e.1.node == n)
    where
      by : list_any q (uses_on n es) ≡ list_any (λ (g : ℕ × kept.Handle). g.1.node == n && q (use_by g.1)) es → (b : Bool)
          → list_any q (on_with b e.1 (uses_on n es)) ≡ ((b && q (use_by e.1)) || list_any (λ (g : ℕ × kept.Handle). g.1.node == n && q (use_by g.1)) es)
      by same true = ap (λ c. q (use_by e.1) || c) same
      by same false = same

  pub few_uses : (es : List (ℕ × kept.Handle)) → length (uses_on n es) ≤ length es
  few_uses [] = omega arith
  few_uses (e ∷ es) = by (few_uses es) (e.1.node == n)
    where
      by : length (uses_on n es) ≤ length es → (b : Bool) → length (on_with b e.1 (uses_on n es)) ≤ length (e ∷ es)
      by low true = omega (arith, low)
      by low false = omega (arith, low)
