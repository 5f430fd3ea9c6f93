-- Lawful journals, with the newest entry first.
use Rattle.std.proofs.Common.{◌≡◌, ◌≢◌, ◌⊎◌, ◌∙◌, refl, sym, ap, subst, inl, inr, ℕ, zero, suc, Bool, List, [], ◌∷◌, ◌++◌, reverse, append_assoc, arith, lit<}
use Rattle.std.specs.Prelude.{Any, Contains}
use Rattle.std.proofs.lemmas.List.{reverse-append}
use Rattle.std.proofs.lemmas.List.Elements.{All-contains, Contains-append_cases, Contains-append_left, Contains-append_right}
use Rattle.rd_base.specs.declared.journal.Item.{Item}
use Rattle.rd_base.specs.declared.journal.Item.TheVariants.{Came, Ran, Cancelled, Sent, Cut}
use Rattle.rd_base.specs.declared.journal.Key.{Key}
use Rattle.rd_base.specs.Lawful as base
use Rattle.rd_base.specs.Lawful.{IsLawful, SendsFirst, Settles, SettlesFirst}
use Rattle.rd_deeds.specs.Talk.{EachAfter, Has}

-- ---- lists in both orders

contains_one : {A : Type 0} (x : A) → Contains (x ∷ []) x
contains_one x = (0, lit< tt, refl)

one_contains : {A : Type 0} (x y : A) → Contains (x ∷ []) y → y ≡ x
one_contains x y (zero, low, e) = sym e
one_contains x y (suc k, low, e) = absurd (omega (arith, low))

pub has_contains : {A : Type 0} (x : A) (xs : List A) → Has x xs → Contains (reverse xs) x
has_contains x [] has = absurd has
has_contains {A} x (y ∷ ys) has = subst (λ (zs : List A). Contains zs x) (sym (reverse-append (y ∷ []) ys)) (elim has [
  | inl same ↦ Contains-append_right (reverse ys) (y ∷ []) x (subst (λ (z : A). Contains (z ∷ []) x) same (contains_one x))
  | inr later ↦ Contains-append_left (reverse ys) (y ∷ []) x (has_contains x ys later)
])

pub contains_has : {A : Type 0} (x : A) (xs : List A) → Contains (reverse xs) x → Has x xs
contains_has x [] has = absurd (omega (arith, has.1))
contains_has {A} x (y ∷ ys) has = elim (Contains-append_cases (reverse ys) (y ∷ []) x (subst (λ (zs : List A). Contains zs x) (reverse-append (y ∷ []) ys) has)) [
  | inl later ↦ inr (contains_has x ys later)
  | inr here ↦ inl (one_contains y x here)
]

-- ---- the entries of a key

abbrev pub HasRun : Key → List Item → Type 0
HasRun key items = (moment : ℕ) × (starved : Bool) × (parked : Bool) × Has (Ran key moment starved parked) items

-- What runs or is cancelled came, and did neither before; what is sent did one of them, and wasn't sent before.
abbrev pub IsPlain : List Item → Item → Type 0
IsPlain before (Ran key moment starved parked) = Has (Came key) before × (¬ (HasRun key before)) × (¬ (Has (Cancelled key) before))
IsPlain before (Cancelled key) = Has (Came key) before × (¬ (HasRun key before)) × (¬ (Has (Cancelled key) before))
IsPlain before (Sent key) = (HasRun key before ⊎ Has (Cancelled key) before) × (¬ (Has (Sent key) before))
IsPlain before _ = Unit {0}

head_of : {P : List Item → Item → Type 0} (x : Item) (older : List Item) → base.EachEntry P (reverse (x ∷ older)) → P (reverse older) x
head_of x older each = each (reverse older) x [] (reverse-append (x ∷ []) older)

older_of : {P : List Item → Item → Type 0} (x : Item) (older : List Item) → base.EachEntry P (reverse (x ∷ older)) → base.EachEntry P (reverse older)
older_of x older each before entry after same =
    each before entry (after ++ x ∷ []) (reverse-append (x ∷ []) older ∙ ap (λ (ys : List Item). ys ++ x ∷ []) same ∙ append_assoc before (entry ∷ after) (x ∷ []))

unsettled : (key : Key) (older : List Item) → base.IsUnsettled (reverse older) key → Has (Came key) older × (¬ (HasRun key older)) × (¬ (Has (Cancelled key) older))
unsettled key older is = (
  contains_has (Came key) older is.0,
  (λ ran. All-contains (λ (entry : Item). ¬ (Settles key entry)) (reverse older) (Ran key ran.0 ran.1 ran.2) is.1 (has_contains _ older ran.3) refl),
  (λ cancelled. All-contains (λ (entry : Item). ¬ (Settles key entry)) (reverse older) (Cancelled key) is.1 (has_contains _ older cancelled) refl),
)

settled : (key : Key) (older : List Item) → Any (Settles key) (reverse older) → HasRun key older ⊎ Has (Cancelled key) older
settled key older (k, x, low, at, settles) = go x (contains_has x older (k, low, at)) settles
  where
    go : (x : Item) → Has x older → Settles key x → HasRun key older ⊎ Has (Cancelled key) older
    go (Ran j moment starved parked) has same = inl (moment, starved, parked, subst (λ (i : Key). Has (Ran i moment starved parked) older) same has)
    go (Cancelled j) has same = inr (subst (λ (i : Key). Has (Cancelled i) older) same has)
    go (Came j) has same = absurd same
    go (Sent j) has same = absurd same
    go (Cut cause) has same = absurd same

pub plain : (items : List Item) → base.EachEntry SettlesFirst (reverse items) → base.EachEntry SendsFirst (reverse items) → EachAfter IsPlain items
plain [] runs sends = tt
plain (Came key ∷ older) runs sends = (tt, plain older (older_of (Came key) older runs) (older_of (Came key) older sends))
plain (Ran key moment starved parked ∷ older) runs sends =
    (unsettled key older (head_of (Ran key moment starved parked) older runs), plain older (older_of (Ran key moment starved parked) older runs) (older_of (Ran key moment starved parked) older sends))
plain (Cancelled key ∷ older) runs sends =
    (unsettled key older (head_of (Cancelled key) older runs), plain older (older_of (Cancelled key) older runs) (older_of (Cancelled key) older sends))
plain (Sent key ∷ older) runs sends =
    let head = head_of (Sent key) older sends in
    ((settled key older head.0, λ sent. All-contains (λ (entry : Item). entry ≢ Sent key) (reverse older) (Sent key) head.2 (has_contains _ older sent) refl), plain older (older_of (Sent key) older runs) (older_of (Sent key) older sends))
plain (Cut cause ∷ older) runs sends = (tt, plain older (older_of (Cut cause) older runs) (older_of (Cut cause) older sends))

pub plain_of : (items : List Item) → IsLawful (reverse items) → EachAfter IsPlain items
plain_of items lawful = plain items lawful.runs_once lawful.sent_once
