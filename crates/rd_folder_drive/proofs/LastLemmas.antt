-- A number above all others goes to the end of the entries.
use Rattle.std.proofs.Common.{◌≡◌, ◌∙◌, refl, ap, ℕ, List, [], ◌∷◌, ◌++◌}
use Rattle.std.specs.List.{AllByRecursion}
use Rattle.std.specs.List.Sorted.{IsStrictlySortedBy}
use Rattle.std.specs.Map.{keys_of}
use Rattle.std.specs.Ordering.{match_ordering, nat_cmp, ordering_reverse}
use Rattle.std.specs.BTreeMap.{insert_entry}
use Rattle.std.specs.Cmp.{nat_cmp_total}
use Rattle.std.specs.declared.cmp.Ordering.TheVariants.{Less, Greater}

last_key : {X : Type 0} (R : ℕ → Type 0) (es : List (ℕ × X)) (k : ℕ) (v : X) (rest : List (ℕ × X)) → AllByRecursion R (keys_of (es ++ (k, v) ∷ rest)) → R k
last_key R [] k v rest all = all.0
last_key R (e ∷ es) k v rest all = last_key R es k v rest all.1

pub insert_last : {X : Type 0} (es : List (ℕ × X)) (k : ℕ) (v : X) (rest : List (ℕ × X)) → IsStrictlySortedBy nat_cmp (keys_of (es ++ (k, v) ∷ rest)) → insert_entry nat_cmp es k v ≡ es ++ (k, v) ∷ []
unfolding IsStrictlySortedBy
insert_last [] k v rest rising = refl
insert_last (e ∷ es) k v rest rising =
    let less : nat_cmp e.0 k ≡ Less = last_key (λ (y : ℕ). nat_cmp e.0 y ≡ Less) es k v rest rising.0 in
    let greater : nat_cmp k e.0 ≡ Greater = nat_cmp_total.antisymm k e.0 ∙ ap ordering_reverse less in
    ap (λ r. match_ordering r ((k, v) ∷ e ∷ es) ((e.0, v) ∷ es) (e ∷ insert_entry nat_cmp es k v)) greater ∙ ap (◌∷◌ e) (insert_last es k v rest rising.1)
