-- Entries of a map in the order of their keys: one that is set, put in or taken out, beside another.
use Rattle.std.proofs.Common.{◌≡◌, ◌∙◌, refl, sym, ap, subst, Bool, true, false, cond, List, [], ◌∷◌, Option, Some, None}
use Rattle.std.specs.Cmp.{IsTotalOrder, tied_itself}
use Rattle.std.specs.List.Sorted.{IsStrictlySortedBy}
use Rattle.std.specs.Option.{IsSome}
use Rattle.std.specs.Ordering.{is_eq, match_ordering}
use Rattle.std.specs.declared.cmp.Ordering.{Ordering}
use Rattle.std.specs.declared.cmp.Ordering.TheVariants.{Less, Equal, Greater}
use Rattle.std.specs.Map.{keys_of, lookup, remove_entry, set_value}
use Rattle.std.specs.BTreeMap.{insert_entry, is_at}
use Rattle.std.proofs.lemmas.Map.{lookup-none}
use Rattle.std.proofs.lemmas.Map.Entries.{none_below_head}
use Rattle.std.proofs.lemmas.Map.Keys.{sorted_head, sorted_tail}
use Rattle.std.proofs.lemmas.Map.Lookups.{CmpEqualImpliesEq}
use Rattle.std.proofs.lemmas.Option.{none-some, same_Some}

-- nothing is there and isn't
pub missing : {X : Type 0} (found : Option X) → found ≡ None → IsSome found → ⊥
missing None none some = absurd (cc)
missing (Some x) none some = absurd (cc)

-- a key is equal to itself
itself : {K : Type 0} {R : K → K → Ordering} → IsTotalOrder R → (k : K) → is_at (R k) k ≡ true
itself o k = ap is_eq (tied_itself o k)

-- a key that is equal to one of two keys that differ isn't equal to the other
elsewhere : {K : Type 0} {R : K → K → Ordering} → CmpEqualImpliesEq R → (j k l : K) → is_at (R j) k ≡ false → R k l ≡ Equal → is_at (R j) l ≡ false
elsewhere {K} {R} exact j k l other this = subst (λ (m : K). is_at (R j) m ≡ false) (exact k l this) other

module _ {K X : Type 0} {R : K → K → Ordering} (o : IsTotalOrder R) (exact : CmpEqualImpliesEq R) where
  -- a key is below the first one, if there is one
  abbrev IsBelow : K → List (K × X) → Type 0
  IsBelow k [] = Unit {0}
  IsBelow k (e ∷ es) = R k e.0 ≡ Less

  below_next : (k : K) (e : K × X) (es : List (K × X)) → IsStrictlySortedBy R (keys_of (e ∷ es)) → R k e.0 ≡ Less → IsBelow k es
  below_next k e [] rising below = tt
  below_next k e (d ∷ es) rising below = o.trans k e.0 d.0 below (sorted_head R e.0 (keys_of (d ∷ es)) rising).0

  below_others : (k : K) (e : K × X) (es : List (K × X)) → IsStrictlySortedBy R (keys_of (e ∷ es)) → R k e.0 ≡ Equal → IsBelow k es
  below_others k e [] rising this = tt
  below_others k e (d ∷ es) rising this = o.congr k e.0 d.0 this ∙ (sorted_head R e.0 (keys_of (d ∷ es)) rising).0

  put_first : (k : K) (v : X) (es : List (K × X)) → IsBelow k es → insert_entry R es k v ≡ (k, v) ∷ es
  put_first k v [] below = refl
  put_first k v (e ∷ es) below = ap (λ r. match_ordering r ((k, v) ∷ e ∷ es) ((e.0, v) ∷ es) (e ∷ insert_entry R es k v)) below

  -- a key that has an entry gets another value
  pub set_value-inserted : (k : K) (w : X) (es : List (K × X)) → IsStrictlySortedBy R (keys_of es) → IsSome (lookup (is_at (R k)) es) → set_value (is_at (R k)) es w ≡ insert_entry R es k w
  set_value-inserted k w [] rising some = absurd (cc)
  set_value-inserted k w (e ∷ es) rising some = by (λ later. set_value-inserted k w es (sorted_tail R e.0 (keys_of es) rising) later) (R k e.0) refl
    where
      by : (IsSome (lookup (is_at (R k)) es) → set_value (is_at (R k)) es w ≡ insert_entry R es k w) → (r : Ordering) → R k e.0 ≡ r
          → cond (is_eq r) ((e.0, w) ∷ es) (e ∷ set_value (is_at (R k)) es w) ≡ match_ordering r ((k, w) ∷ e ∷ es) ((e.0, w) ∷ es) (e ∷ insert_entry R es k w)
      by same Less this = absurd (missing (lookup (is_at (R k)) (e ∷ es)) (lookup-none (is_at (R k)) (e ∷ es) (none_below_head o k e es rising this)) some)
      by same Equal this = refl
      by same Greater this = ap (◌∷◌ e) (same (subst (λ r. IsSome (cond (is_eq r) (Some e.1) (lookup (is_at (R k)) es))) this some))

  -- of two values that a key gets the later one stays
  pub inserted-inserted : (k : K) (v w : X) (es : List (K × X)) → insert_entry R (insert_entry R es k v) k w ≡ insert_entry R es k w
  inserted-inserted k v w [] = ap (λ r. match_ordering r ((k, w) ∷ (k, v) ∷ []) ((k, w) ∷ []) ((k, v) ∷ (k, w) ∷ [])) (tied_itself o k)
  inserted-inserted k v w (e ∷ es) = by (inserted-inserted k v w es) (R k e.0) refl
    where
      by : insert_entry R (insert_entry R es k v) k w ≡ insert_entry R es k w → (r : Ordering) → R k e.0 ≡ r
          → insert_entry R (match_ordering r ((k, v) ∷ e ∷ es) ((e.0, v) ∷ es) (e ∷ insert_entry R es k v)) k w ≡ match_ordering r ((k, w) ∷ e ∷ es) ((e.0, w) ∷ es) (e ∷ insert_entry R es k w)
      by same Less this = ap (λ r. match_ordering r ((k, w) ∷ (k, v) ∷ e ∷ es) ((k, w) ∷ e ∷ es) ((k, v) ∷ insert_entry R (e ∷ es) k w)) (tied_itself o k)
      by same Equal this = ap (λ r. match_ordering r ((k, w) ∷ (e.0, v) ∷ es) ((e.0, w) ∷ es) ((e.0, v) ∷ insert_entry R es k w)) this
      by same Greater this =
          ap (λ r. match_ordering r ((k, w) ∷ e ∷ insert_entry R es k v) ((e.0, w) ∷ insert_entry R es k v) (e ∷ insert_entry R (insert_entry R es k v) k w)) this
          ∙ ap (◌∷◌ e) same

  -- a key has the value that it got
  pub lookup-inserted : (k : K) (v : X) (es : List (K × X)) → lookup (is_at (R k)) (insert_entry R es k v) ≡ Some v
  lookup-inserted k v [] = ap (λ b. cond b (Some v) None) (itself o k)
  lookup-inserted k v (e ∷ es) = by (lookup-inserted k v es) (R k e.0) refl
    where
      by : lookup (is_at (R k)) (insert_entry R es k v) ≡ Some v → (r : Ordering) → R k e.0 ≡ r
          → lookup (is_at (R k)) (match_ordering r ((k, v) ∷ e ∷ es) ((e.0, v) ∷ es) (e ∷ insert_entry R es k v)) ≡ Some v
      by later Less this = ap (λ b. cond b (Some v) (lookup (is_at (R k)) (e ∷ es))) (itself o k)
      by later Equal this = ap (λ r. cond (is_eq r) (Some v) (lookup (is_at (R k)) es)) this
      by later Greater this = ap (λ r. cond (is_eq r) (Some e.1) (lookup (is_at (R k)) (insert_entry R es k v))) this ∙ later

  -- a key that is taken out and put in again stands where it stood
  pub inserted-removed : (k : K) (v : X) (es : List (K × X)) → IsStrictlySortedBy R (keys_of es) → lookup (is_at (R k)) es ≡ Some v → insert_entry R (remove_entry (is_at (R k)) es) k v ≡ es
  inserted-removed k v [] rising is = absurd (none-some v is)
  inserted-removed k v (e ∷ es) rising is = by (λ there. inserted-removed k v es (sorted_tail R e.0 (keys_of es) rising) there) (R k e.0) refl
    where
      by : (lookup (is_at (R k)) es ≡ Some v → insert_entry R (remove_entry (is_at (R k)) es) k v ≡ es) → (r : Ordering) → R k e.0 ≡ r
          → insert_entry R (cond (is_eq r) es (e ∷ remove_entry (is_at (R k)) es)) k v ≡ e ∷ es
      by later Less this = absurd (none-some v (sym (lookup-none (is_at (R k)) (e ∷ es) (none_below_head o k e es rising this)) ∙ is))
      by later Equal this =
          put_first k v es (below_others k e es rising this)
          ∙ (λ i. (exact k e.0 this i, same_Some v e.1 (sym is ∙ ap (λ r. cond (is_eq r) (Some e.1) (lookup (is_at (R k)) es)) this) i) ∷ es)
      by later Greater this =
          ap (λ r. match_ordering r ((k, v) ∷ e ∷ remove_entry (is_at (R k)) es) ((e.0, v) ∷ remove_entry (is_at (R k)) es) (e ∷ insert_entry R (remove_entry (is_at (R k)) es) k v)) this
          ∙ ap (◌∷◌ e) (later (sym (ap (λ r. cond (is_eq r) (Some e.1) (lookup (is_at (R k)) es)) this) ∙ is))

  module _ (j k : K) (v : X) (other : is_at (R j) k ≡ false) where
    -- a value that one key gets is none of another's
    pub lookup-inserted_other : (es : List (K × X)) → lookup (is_at (R j)) (insert_entry R es k v) ≡ lookup (is_at (R j)) es
    lookup-inserted_other [] = ap (λ b. cond b (Some v) None) other
    lookup-inserted_other (e ∷ es) = by (lookup-inserted_other es) (R k e.0) refl
      where
        by : lookup (is_at (R j)) (insert_entry R es k v) ≡ lookup (is_at (R j)) es → (r : Ordering) → R k e.0 ≡ r
            → lookup (is_at (R j)) (match_ordering r ((k, v) ∷ e ∷ es) ((e.0, v) ∷ es) (e ∷ insert_entry R es k v)) ≡ lookup (is_at (R j)) (e ∷ es)
        by later Less this = ap (λ b. cond b (Some v) (lookup (is_at (R j)) (e ∷ es))) other
        by later Equal this =
            ap (λ b. cond b (Some v) (lookup (is_at (R j)) es)) (elsewhere exact j k e.0 other this)
            ∙ sym (ap (λ b. cond b (Some e.1) (lookup (is_at (R j)) es)) (elsewhere exact j k e.0 other this))
        by later Greater this = ap (cond (is_at (R j) e.0) (Some e.1)) later

    -- a key is put in beside another that is taken out
    pub removed-inserted_other : (es : List (K × X)) → IsStrictlySortedBy R (keys_of es) → remove_entry (is_at (R j)) (insert_entry R es k v) ≡ insert_entry R (remove_entry (is_at (R j)) es) k v
    removed-inserted_other [] rising = ap (λ b. cond b [] ((k, v) ∷ [])) other
    removed-inserted_other (e ∷ es) rising = by (removed-inserted_other es (sorted_tail R e.0 (keys_of es) rising)) (R k e.0) refl (is_at (R j) e.0) refl
      where
        left : List (K × X)
        left = remove_entry (is_at (R j)) es

        by : remove_entry (is_at (R j)) (insert_entry R es k v) ≡ insert_entry R left k v → (r : Ordering) → R k e.0 ≡ r → (b : Bool) → is_at (R j) e.0 ≡ b
            → remove_entry (is_at (R j)) (match_ordering r ((k, v) ∷ e ∷ es) ((e.0, v) ∷ es) (e ∷ insert_entry R es k v)) ≡ insert_entry R (cond b es (e ∷ left)) k v
        by same Less this true here =
            ap (λ b. cond b (e ∷ es) ((k, v) ∷ remove_entry (is_at (R j)) (e ∷ es))) other
            ∙ ap (λ b. (k, v) ∷ cond b es (e ∷ left)) here
            ∙ sym (put_first k v es (below_next k e es rising this))
        by same Less this false here =
            ap (λ b. cond b (e ∷ es) ((k, v) ∷ remove_entry (is_at (R j)) (e ∷ es))) other
            ∙ ap (λ b. (k, v) ∷ cond b es (e ∷ left)) here
            ∙ sym (put_first k v (e ∷ left) this)
        by same Equal this true here = let both : true ≡ false = sym here ∙ elsewhere exact j k e.0 other this in absurd (cc)
        by same Equal this false here =
            ap (λ b. cond b es ((e.0, v) ∷ left)) here
            ∙ sym (ap (λ r. match_ordering r ((k, v) ∷ e ∷ left) ((e.0, v) ∷ left) (e ∷ insert_entry R left k v)) this)
        by same Greater this true here = ap (λ b. cond b (insert_entry R es k v) (e ∷ remove_entry (is_at (R j)) (insert_entry R es k v))) here
        by same Greater this false here =
            ap (λ b. cond b (insert_entry R es k v) (e ∷ remove_entry (is_at (R j)) (insert_entry R es k v))) here
            ∙ ap (◌∷◌ e) same
            ∙ sym (ap (λ r. match_ordering r ((k, v) ∷ e ∷ left) ((e.0, v) ∷ left) (e ∷ insert_entry R left k v)) this)

  -- a key keeps its value where another is taken out
  pub lookup-removed_other : (j k : K) → is_at (R k) j ≡ false → (es : List (K × X)) → lookup (is_at (R k)) (remove_entry (is_at (R j)) es) ≡ lookup (is_at (R k)) es
  lookup-removed_other j k other [] = refl
  lookup-removed_other j k other (e ∷ es) = by (lookup-removed_other j k other es) (R j e.0) refl
    where
      by : lookup (is_at (R k)) (remove_entry (is_at (R j)) es) ≡ lookup (is_at (R k)) es → (r : Ordering) → R j e.0 ≡ r
          → lookup (is_at (R k)) (cond (is_eq r) es (e ∷ remove_entry (is_at (R j)) es)) ≡ lookup (is_at (R k)) (e ∷ es)
      by later Less this = ap (cond (is_at (R k) e.0) (Some e.1)) later
      by later Equal this = sym (ap (λ b. cond b (Some e.1) (lookup (is_at (R k)) es)) (elsewhere exact k j e.0 other this))
      by later Greater this = ap (cond (is_at (R k) e.0) (Some e.1)) later
