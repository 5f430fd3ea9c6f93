-- The counts of the uses of a node's handles: what a handle more or fewer makes of them, and where a use clashes.
use Rattle.std.proofs.Common.{◌≡◌, ◌∙◌, refl, sym, ap, ℕ, ◌+◌, ◌≤◌, ◌==◌, Bool, true, false, not, ◌&&◌, ◌||◌, cond, List, [], ◌∷◌, length, Some, None, count_by, zero-add, arith}
use Rattle.std.specs.Prelude.{nat_lt}
use Rattle.std.specs.List.{list_any}
use Rattle.std.specs.Ordering.{nat_cmp, is_eq}
use Rattle.std.specs.declared.cmp.Ordering.{Ordering}
use Rattle.std.specs.declared.cmp.Ordering.TheVariants.{Less, Equal, Greater}
use Rattle.std.specs.Map.{lookup, remove_entry}
use Rattle.std.specs.BTreeMap.{insert_entry, is_at}
use Rattle.std.specs.Ordering.{match_ordering}
use Rattle.std.proofs.lemmas.Bool.Decides.{nat_tests}
use Rattle.std.proofs.lemmas.List.Sums.{sum_by-cons}
use Rattle.std.proofs.lemmas.Option.{same_Some}
use Rattle.std.proofs.Math.Bool.{and_assoc, and-or_distrib_left}
use Rattle.rd_drive.specs.declared.access.Use.{Use}
use Rattle.rd_drive.specs.declared.uses.Uses.{Uses}
use Rattle.rd_drive.specs.declared.handle.Handle as kept
use Rattle.rd_drive.specs.Access.{use_of, is_using, is_unshared, clash, has_any, share_read, share_write, share_delete}
use Rattle.rd_drive.specs.Uses.{uses_of}
use Rattle.rd_drive.specs.UseCounts.{more, one_if, is_clashing, is_use_unshared, is_use_unsharing}
use Rattle.rd_drive.specs.Store.{uses_on}

-- ---- one use more

counts_same : (a b : Uses) → a.handles ≡ b.handles → a.reading ≡ b.reading → a.writing ≡ b.writing → a.deleting ≡ b.deleting
    → a.unshared_reading ≡ b.unshared_reading → a.unshared_writing ≡ b.unshared_writing → a.unshared_deleting ≡ b.unshared_deleting → a ≡ b
counts_same a b handles reading writing deleting r w d = λ i. record {
  handles = handles i;
  reading = reading i;
  writing = writing i;
  deleting = deleting i;
  unshared_reading = r i;
  unshared_writing = w i;
  unshared_deleting = d i;
}

one_more : (n : ℕ) (us : List Use) (u : Use) → n ≡ length us → length (u ∷ us) ≡ n + 1
one_more n us u e = omega arith

turned : (a b : ℕ) → a + b ≡ b + a
turned a b = omega arith

counted_more : (p : Use → Bool) (u : Use) (us : List Use) → count_by p (u ∷ us) ≡ count_by p us + one_if (p u)
counted_more p u us = sum_by-cons (λ (x : Use). cond (p x) 1 0) u us ∙ turned (one_if (p u)) (count_by p us)

pub uses_more : (u : Use) (us : List Use) → uses_of (u ∷ us) ≡ more u (uses_of us)
uses_more u us = counts_same (uses_of (u ∷ us)) (more u (uses_of us))
    (one_more (length us) us u refl)
    (counted_more (λ (v : Use). v.is_reading) u us)
    (counted_more (λ (v : Use). v.is_writing) u us)
    (counted_more (λ (v : Use). v.is_deleting) u us)
    (counted_more (λ (v : Use). is_using v && not (has_any share_read v.share)) u us)
    (counted_more (λ (v : Use). is_using v && not (has_any share_write v.share)) u us)
    (counted_more (λ (v : Use). is_using v && not (has_any share_delete v.share)) u us)

later : (a b c : ℕ) → a + b + c ≡ a + c + b
later a b c = omega arith

-- two uses count alike in either order
pub more_swap : (u v : Use) (c : Uses) → more u (more v c) ≡ more v (more u c)
more_swap u v c = counts_same (more u (more v c)) (more v (more u c))
    refl
    (later c.reading (one_if v.is_reading) (one_if u.is_reading))
    (later c.writing (one_if v.is_writing) (one_if u.is_writing))
    (later c.deleting (one_if v.is_deleting) (one_if u.is_deleting))
    (later c.unshared_reading (one_if (is_using v && not (has_any share_read v.share))) (one_if (is_using u && not (has_any share_read u.share))))
    (later c.unshared_writing (one_if (is_using v && not (has_any share_write v.share))) (one_if (is_using u && not (has_any share_write u.share))))
    (later c.unshared_deleting (one_if (is_using v && not (has_any share_delete v.share))) (one_if (is_using u && not (has_any share_delete u.share))))

-- ---- the handles on a node

abbrev pub use_by : kept.Handle → Use
use_by h = use_of h.access h.share

module _ (n : ℕ) where
  -- those of one entry and of others
  abbrev on_with : Bool → kept.Handle → List Use → List Use
  on_with here h us = cond here (use_by h ∷ us) us

  counted_with : (b : Bool) (h : kept.Handle) (us : List Use) → uses_of (on_with b h us) ≡ cond b (more (use_by h) (uses_of us)) (uses_of us)
  counted_with true h us = uses_more (use_by h) us
  counted_with false h us = refl

  -- without the handle that a file id has
  module _ (test : ℕ → Bool) where
    pub on_removed : (es : List (ℕ × kept.Handle)) (h : kept.Handle) → lookup test es ≡ Some h
        → uses_of (uses_on n es) ≡ cond (h.node.0 == n) (more (use_by h) (uses_of (uses_on n (remove_entry test es)))) (uses_of (uses_on n (remove_entry test es)))
    on_removed [] h is = absurd (cc)
    on_removed (e ∷ es) h is = by (λ there. on_removed es h there) (test e.0) refl
      where
        rest : List (ℕ × kept.Handle)
        rest = remove_entry test es

        past : (b : Bool) (c : Bool) → uses_of (uses_on n es) ≡ cond c (more (use_by h) (uses_of (uses_on n rest))) (uses_of (uses_on n rest))
            → uses_of (on_with b e.1 (uses_on n es)) ≡ cond c (more (use_by h) (uses_of (on_with b e.1 (uses_on n rest)))) (uses_of (on_with b e.1 (uses_on n rest)))
        past true true same =
            uses_more (use_by e.1) (uses_on n es) ∙ ap (more (use_by e.1)) same ∙ more_swap (use_by e.1) (use_by h) (uses_of (uses_on n rest))
            ∙ ap (more (use_by h)) (sym (uses_more (use_by e.1) (uses_on n rest)))
        past true false same = uses_more (use_by e.1) (uses_on n es) ∙ ap (more (use_by e.1)) same ∙ sym (uses_more (use_by e.1) (uses_on n rest))
        past false c same = same

        by : (lookup test es ≡ Some h → uses_of (uses_on n es) ≡ cond (h.node.0 == n) (more (use_by h) (uses_of (uses_on n rest))) (uses_of (uses_on n rest))) → (b : Bool) → test e.0 ≡ b
            → uses_of (on_with (e.1.node.0 == n) e.1 (uses_on n es)) ≡ cond (h.node.0 == n) (more (use_by h) (uses_of (uses_on n (cond (test e.0) es (e ∷ rest))))) (uses_of (uses_on n (cond (test e.0) es (e ∷ rest))))
        by after true this =
            let one : e.1 ≡ h = same_Some e.1 h (sym (ap (λ b. cond b (Some e.1) (lookup test es)) this) ∙ is) in
            ap (λ (g : kept.Handle). uses_of (on_with (g.node.0 == n) g (uses_on n es))) one
            ∙ counted_with (h.node.0 == n) h (uses_on n es)
            ∙ ap (λ b. cond (h.node.0 == n) (more (use_by h) (uses_of (uses_on n (cond b es (e ∷ rest))))) (uses_of (uses_on n (cond b es (e ∷ rest))))) (sym this)
        by after false this =
            past (e.1.node.0 == n) (h.node.0 == n) (after (sym (ap (λ b. cond b (Some e.1) (lookup test es)) this) ∙ is))
            ∙ ap (λ b. cond (h.node.0 == n) (more (use_by h) (uses_of (uses_on n (cond b es (e ∷ rest))))) (uses_of (uses_on n (cond b es (e ∷ rest))))) (sym this)

  -- with a handle for a file id that had none
  module _ (k : ℕ) (h : kept.Handle) where
    pub on_inserted : (es : List (ℕ × kept.Handle)) → lookup (is_at (nat_cmp k)) es ≡ None
        → uses_of (uses_on n (insert_entry nat_cmp es k h)) ≡ cond (h.node.0 == n) (more (use_by h) (uses_of (uses_on n es))) (uses_of (uses_on n es))
    on_inserted [] none = counted_with (h.node.0 == n) h []
    on_inserted (e ∷ es) none = by (λ there. on_inserted es there) (nat_cmp k e.0) refl
      where
        past : (b : Bool) (c : Bool) → uses_of (uses_on n (insert_entry nat_cmp es k h)) ≡ cond c (more (use_by h) (uses_of (uses_on n es))) (uses_of (uses_on n es))
            → uses_of (on_with b e.1 (uses_on n (insert_entry nat_cmp es k h))) ≡ cond c (more (use_by h) (uses_of (on_with b e.1 (uses_on n es)))) (uses_of (on_with b e.1 (uses_on n es)))
        past true true same =
            uses_more (use_by e.1) (uses_on n (insert_entry nat_cmp es k h)) ∙ ap (more (use_by e.1)) same ∙ more_swap (use_by e.1) (use_by h) (uses_of (uses_on n es))
            ∙ ap (more (use_by h)) (sym (uses_more (use_by e.1) (uses_on n es)))
        past true false same = uses_more (use_by e.1) (uses_on n (insert_entry nat_cmp es k h)) ∙ ap (more (use_by e.1)) same ∙ sym (uses_more (use_by e.1) (uses_on n es))
        past false c same = same

        by : (lookup (is_at (nat_cmp k)) es ≡ None → uses_of (uses_on n (insert_entry nat_cmp es k h)) ≡ cond (h.node.0 == n) (more (use_by h) (uses_of (uses_on n es))) (uses_of (uses_on n es)))
            → (r : Ordering) → nat_cmp k e.0 ≡ r
            → uses_of (uses_on n (match_ordering (nat_cmp k e.0) ((k, h) ∷ e ∷ es) ((e.0, h) ∷ es) (e ∷ insert_entry nat_cmp es k h)))
            ≡ cond (h.node.0 == n) (more (use_by h) (uses_of (uses_on n (e ∷ es)))) (uses_of (uses_on n (e ∷ es)))
        by after Less this =
            ap (λ r. uses_of (uses_on n (match_ordering r ((k, h) ∷ e ∷ es) ((e.0, h) ∷ es) (e ∷ insert_entry nat_cmp es k h)))) this
            ∙ counted_with (h.node.0 == n) h (uses_on n (e ∷ es))
        by after Equal this =
            let clash_here : Some e.1 ≡ None = sym (ap (λ r. cond (is_eq r) (Some e.1) (lookup (is_at (nat_cmp k)) es)) this) ∙ none in absurd (cc)
        by after Greater this =
            ap (λ r. uses_of (uses_on n (match_ordering r ((k, h) ∷ e ∷ es) ((e.0, h) ∷ es) (e ∷ insert_entry nat_cmp es k h)))) this
            ∙ past (e.1.node.0 == n) (h.node.0 == n) (after (sym (ap (λ r. cond (is_eq r) (Some e.1) (lookup (is_at (nat_cmp k)) es)) this) ∙ none))

  -- the number of handles on the node tells whether there is one
  pub any_handle : (es : List (ℕ × kept.Handle)) → nat_lt 0 (length (uses_on n es)) ≡ list_any (λ (e : ℕ × kept.Handle). e.1.node.0 == n) es
  any_handle [] = refl
  any_handle (e ∷ es) = by (any_handle es) (e.1.node.0 == n)
    where
      by : nat_lt 0 (length (uses_on n es)) ≡ list_any (λ (g : ℕ × kept.Handle). g.1.node.0 == n) es → (b : Bool)
          → nat_lt 0 (length (on_with b e.1 (uses_on n es))) ≡ (b || list_any (λ (g : ℕ × kept.Handle). g.1.node.0 == n) es)
      by same true = grind (arith, nat_tests)
      by same false = same

  -- a test of the uses is one of the handles on the node
  pub any_use : (q : Use → Bool) (es : List (ℕ × kept.Handle)) → list_any q (uses_on n es) ≡ list_any (λ (e : ℕ × kept.Handle). e.1.node.0 == n && q (use_by e.1)) es
  any_use q [] = refl
  any_use q (e ∷ es) = by (any_use q es) (e.1.node.0 == n)
    where
      by : list_any q (uses_on n es) ≡ list_any (λ (g : ℕ × kept.Handle). g.1.node.0 == n && q (use_by g.1)) es → (b : Bool)
          → list_any q (on_with b e.1 (uses_on n es)) ≡ ((b && q (use_by e.1)) || list_any (λ (g : ℕ × kept.Handle). g.1.node.0 == n && q (use_by g.1)) es)
      by same true = ap (λ c. q (use_by e.1) || c) same
      by same false = same

  pub few_uses : (es : List (ℕ × kept.Handle)) → length (uses_on n es) ≤ length es
  few_uses [] = omega arith
  few_uses (e ∷ es) = by (few_uses es) (e.1.node.0 == n)
    where
      by : length (uses_on n es) ≤ length es → (b : Bool) → length (on_with b e.1 (uses_on n es)) ≤ length (e ∷ es)
      by low true = omega (arith, low)
      by low false = omega (arith, low)

-- ---- where a use clashes

any_counted : (p : Use → Bool) (us : List Use) → nat_lt 0 (count_by p us) ≡ list_any p us
any_counted p [] = refl
any_counted p (u ∷ us) = ap (nat_lt 0) (sum_by-cons (λ (x : Use). cond (p x) 1 0) u us) ∙ by (any_counted p us) (p u)
  where
    by : nat_lt 0 (count_by p us) ≡ list_any p us → (b : Bool) → nat_lt 0 (cond b 1 0 + count_by p us) ≡ (b || list_any p us)
    by same true = grind (arith, nat_tests)
    by same false = ap (nat_lt 0) (zero-add (count_by p us)) ∙ same

any_or : (p q : Use → Bool) (us : List Use) → list_any (λ o. p o || q o) us ≡ (list_any p us || list_any q us)
any_or p q [] = refl
any_or p q (u ∷ us) = ap (λ b. (p u || q u) || b) (any_or p q us) ∙ by (p u) (q u) (list_any p us)
  where
    by : (a b c : Bool) → ((a || b) || (c || list_any q us)) ≡ ((a || c) || (b || list_any q us))
    by true b c = refl
    by false true true = refl
    by false true false = refl
    by false false c = refl

any_and : (b : Bool) (p : Use → Bool) (us : List Use) → list_any (λ o. b && p o) us ≡ (b && list_any p us)
any_and true p us = refl
any_and false p [] = refl
any_and false p (u ∷ us) = any_and false p us

any_held : (p : Use → Bool) (b : Bool) (us : List Use) → list_any (λ o. p o && b) us ≡ (list_any p us && b)
any_held p b [] = refl
any_held p b (u ∷ us) = ap (λ c. (p u && b) || c) (any_held p b us) ∙ by (p u) b
  where
    by : (a b : Bool) → ((a && b) || (list_any p us && b)) ≡ ((a || list_any p us) && b)
    by true true = refl
    by true false = nothing (list_any p us)
      where
        nothing : (c : Bool) → (false || (c && false)) ≡ false
        nothing true = refl
        nothing false = refl
    by false b = refl

-- what one use doesn't share with another counts only where the other uses the node
past_using : (g r w d x y z : Bool) → (g && ((r && x) || (w && y) || (d && z))) ≡ ((r && (g && x)) || (w && (g && y)) || (d && (g && z)))
past_using true r w d x y z = refl
past_using false true true true x y z = refl
past_using false true true false x y z = refl
past_using false true false true x y z = refl
past_using false true false false x y z = refl
past_using false false true true x y z = refl
past_using false false true false x y z = refl
past_using false false false true x y z = refl
past_using false false false false x y z = refl

uses_already : (r w d x y z : Bool) → ((r || w || d) && ((r && x) || (w && y) || (d && z))) ≡ ((r && x) || (w && y) || (d && z))
uses_already true w d x y z = refl
uses_already false true d x y z = refl
uses_already false false true x y z = refl
uses_already false false false x y z = refl

module _ (u : Use) where
  abbrev unshared_by : Use → Bool
  unshared_by o =
      (u.is_reading && (is_using o && not (has_any share_read o.share)))
      || (u.is_writing && (is_using o && not (has_any share_write o.share)))
      || (u.is_deleting && (is_using o && not (has_any share_delete o.share)))

  clash_is : (o : Use) → clash u o ≡ (is_using u && (unshared_by o || is_unshared o u))
  clash_is o =
      and_assoc (is_using u) (is_using o) (is_unshared u o || is_unshared o u)
      ∙ ap (λ b. is_using u && b) (
      and-or_distrib_left (is_using o) (is_unshared u o) (is_unshared o u)
      ∙ (λ i. past_using (is_using o) u.is_reading u.is_writing u.is_deleting (not (has_any share_read o.share)) (not (has_any share_write o.share)) (not (has_any share_delete o.share)) i
      || uses_already o.is_reading o.is_writing o.is_deleting (not (has_any share_read u.share)) (not (has_any share_write u.share)) (not (has_any share_delete u.share)) i))

  unshared_seen : (us : List Use) → list_any unshared_by us ≡ is_use_unshared u (uses_of us)
  unshared_seen us =
      any_or (λ o. (u.is_reading && (is_using o && not (has_any share_read o.share))) || (u.is_writing && (is_using o && not (has_any share_write o.share)))) (λ o. u.is_deleting && (is_using o && not (has_any share_delete o.share))) us
      ∙ ap (λ b. b || list_any (λ o. u.is_deleting && (is_using o && not (has_any share_delete o.share))) us)
      (any_or (λ o. u.is_reading && (is_using o && not (has_any share_read o.share))) (λ o. u.is_writing && (is_using o && not (has_any share_write o.share))) us)
      ∙ (λ i. one u.is_reading (λ o. is_using o && not (has_any share_read o.share)) i || one u.is_writing (λ o. is_using o && not (has_any share_write o.share)) i || one u.is_deleting (λ o. is_using o && not (has_any share_delete o.share)) i)
    where
      one : (b : Bool) (p : Use → Bool) → list_any (λ o. b && p o) us ≡ (b && nat_lt 0 (count_by p us))
      one b p = any_and b p us ∙ ap (λ c. b && c) (sym (any_counted p us))

  unsharing_seen : (us : List Use) → list_any (λ o. is_unshared o u) us ≡ is_use_unsharing u (uses_of us)
  unsharing_seen us =
      any_or (λ o. (o.is_reading && not (has_any share_read u.share)) || (o.is_writing && not (has_any share_write u.share))) (λ o. o.is_deleting && not (has_any share_delete u.share)) us
      ∙ ap (λ b. b || list_any (λ o. o.is_deleting && not (has_any share_delete u.share)) us)
      (any_or (λ o. o.is_reading && not (has_any share_read u.share)) (λ o. o.is_writing && not (has_any share_write u.share)) us)
      ∙ (λ i. one (λ o. o.is_reading) (not (has_any share_read u.share)) i || one (λ o. o.is_writing) (not (has_any share_write u.share)) i || one (λ o. o.is_deleting) (not (has_any share_delete u.share)) i)
    where
      one : (p : Use → Bool) (b : Bool) → list_any (λ o. p o && b) us ≡ (nat_lt 0 (count_by p us) && b)
      one p b = any_held p b us ∙ ap (λ c. c && b) (sym (any_counted p us))

  -- the counts tell whether one of the uses clashes
  pub clash_seen : (us : List Use) → is_clashing u (uses_of us) ≡ list_any (clash u) us
  clash_seen us = sym (
      ap (λ (q : Use → Bool). list_any q us) (λ i. λ (o : Use). clash_is o i)
      ∙ any_and (is_using u) (λ o. unshared_by o || is_unshared o u) us
      ∙ ap (λ b. is_using u && b) (any_or unshared_by (λ o. is_unshared o u) us ∙ (λ i. unshared_seen us i || unsharing_seen us i)))
