-- Journals that pass a test are lawful.
use Rattle.std.proofs.Common.{◌≡◌, ◌≢◌, ◌∙◌, refl, sym, ap, subst, inl, inr, ℕ, zero, suc, ◌<◌, ◌≤◌, ◌==◌, ◌&&◌, ◌||◌, not, Bool, true, false, List, [], ◌∷◌, ◌++◌, length, ltb, leb, ltb-true, leb-true, eqb-true, arith}
use Rattle.std.specs.Prelude.{All, Any, Contains, IfSome, Some, slice_get, slice_index_or}
use Rattle.std.specs.List.{AllByRecursion, list_all, list_any}
use Rattle.std.proofs.lemmas.List.Elements.{All-from_recursion}
use Rattle.std.proofs.lemmas.List.Sums.{count_by-le-length}
use Rattle.std.proofs.lemmas.Bool.{and_parts, or_cases, not-true}
use Rattle.rd_base.specs.declared.journal.Cause.TheVariants.{Dropped, Removed}
use Rattle.rd_base.specs.declared.journal.Item.{Item}
use Rattle.rd_base.specs.declared.journal.Item.TheVariants.{Came, Cancelled, Cut, Ran, Sent}
use Rattle.rd_base.specs.declared.journal.Key.{Key}
use Rattle.rd_base.proofs.JournalLemmas.{EachAfter-from_turns, EachInTurn, EndedInTurn, IsEnded-from_turns}
use Rattle.rd_base.specs.Lawful.{CancelsRemoved, CutsFewUnsent, FewUnsent, IsBefore, IsBelow, IsLawful, MayEnd, NamesRemembered, RisesAbove, RunsUncut, SendsFirst, Settles, SettlesFirst, is_unsent, named_key}
use Rattle.rd_drive.specs.Replies.{KeyedReply}
use Rattle.rd_irp.specs.declared.completion.Reply.{Reply}
use Rattle.rd_station.specs.Station.{is_key}
use Rattle.rd_station.proofs.Members.{key_self, same_key}

-- ---- tests

pub by_recursion : {A : Type 0} {P : A → Type 0} (p : A → Bool) → ((x : A) → p x ≡ true → P x) → (xs : List A) → list_all p xs ≡ true → AllByRecursion P xs
by_recursion p sound [] e = tt
by_recursion p sound (x ∷ xs) e = let parts = and_parts _ _ e in (sound x parts.0, by_recursion p sound xs parts.1)

pub all_pass : {A : Type 0} {P : A → Type 0} (p : A → Bool) → ((x : A) → p x ≡ true → P x) → (xs : List A) → list_all p xs ≡ true → All P xs
all_pass {P = P} p sound xs e = All-from_recursion P xs (by_recursion p sound xs e)

any_passes : {A : Type 0} {P : A → Type 0} (p : A → Bool) → ((x : A) → p x ≡ true → P x) → (xs : List A) → list_any p xs ≡ true → Any P xs
any_passes p sound [] e = absurd (cc)
any_passes p sound (x ∷ xs) e = elim (or_cases _ _ e) [
  | inl here ↦ (0, x, omega arith, refl, sound x here)
  | inr there ↦ let found = any_passes p sound xs there in (suc found.0, found.1, omega (arith, found.2), found.3, found.4)
]

member_passes : {A : Type 0} (p : A → Bool) (xs : List A) (x : A) → list_all p xs ≡ true → Contains xs x → p x ≡ true
member_passes p [] x e has = absurd (omega (arith, has.1))
member_passes p (y ∷ ys) x e (zero, low, same) = subst (λ z. p z ≡ true) same (and_parts _ _ e).0
member_passes p (y ∷ ys) x e (suc k, low, same) = member_passes p ys x (and_parts _ _ e).1 (k, omega (arith, low), same)

place_passes : {A : Type 0} (p : A → Bool) (xs : List A) (x : A) (i : ℕ) → list_all p xs ≡ true → slice_get xs i ≡ Some x → p x ≡ true
place_passes p [] x i e at = absurd (cc)
place_passes p (y ∷ ys) x zero e at = let same : y ≡ x = cc in subst (λ z. p z ≡ true) same (and_parts _ _ e).0
place_passes p (y ∷ ys) x (suc i) e at = place_passes p ys x i (and_parts _ _ e).1 at

-- ---- entries

abbrev pub is_came : Key → Item → Bool
is_came key (Came k) = is_key k key
is_came key _ = false

abbrev settles : Key → Item → Bool
settles key (Ran k moment starved parked) = is_key k key
settles key (Cancelled k) = is_key k key
settles key _ = false

abbrev waits : Key → Item → Bool
waits key (Ran k moment starved true) = is_key k key
waits key _ = false

abbrev pub is_sent : Key → Item → Bool
is_sent key (Sent k) = is_key k key
is_sent key _ = false

abbrev may_end : Item → Bool
may_end (Ran k moment starved parked) = true
may_end (Cut cause) = true
may_end _ = false

abbrev is_cut : Item → Bool
is_cut (Cut cause) = true
is_cut _ = false

abbrev is_drop : Item → Bool
is_drop (Cut Dropped) = true
is_drop _ = false

abbrev is_removal : Item → Bool
is_removal (Cut Removed) = true
is_removal _ = false

pub came_is : (key : Key) (x : Item) → is_came key x ≡ true → x ≡ Came key
came_is key (Came k) e = ap (λ (l : Key). Came l) (same_key k key e)
came_is key _ e = absurd (cc)

pub sent_is : (key : Key) (x : Item) → is_sent key x ≡ true → x ≡ Sent key
sent_is key (Sent k) e = ap (λ (l : Key). Sent l) (same_key k key e)
sent_is key _ e = absurd (cc)

removal_is : (x : Item) → is_removal x ≡ true → x ≡ Cut Removed
removal_is (Cut Removed) e = refl
removal_is _ e = absurd (cc)

settles_is : (key : Key) (x : Item) → settles key x ≡ true → Settles key x
settles_is key (Ran k moment starved parked) e = same_key k key e
settles_is key (Cancelled k) e = same_key k key e
settles_is key _ e = absurd (cc)

is_settled : (key : Key) (x : Item) → Settles key x → settles key x ≡ true
is_settled key (Ran k moment starved parked) same = rw same (key_self key)
is_settled key (Cancelled k) same = rw same (key_self key)
is_settled key _ none = absurd none

unsettles : (key : Key) (x : Item) → not (settles key x) ≡ true → ¬ (Settles key x)
unsettles key x e is = let isnt = not-true (settles key x) e in let also = is_settled key x is in cc

may_end_is : (x : Item) → may_end x ≡ true → MayEnd x
may_end_is (Ran k moment starved parked) e = tt
may_end_is (Cut cause) e = tt
may_end_is _ e = absurd (cc)

unlike : (p : Item → Bool) (y : Item) → p y ≡ true → (x : Item) → not (p x) ≡ true → x ≢ y
unlike p y is x e same = let isnt : p x ≡ false = not-true (p x) e in let also : p x ≡ true = subst (λ z. p z ≡ true) (sym same) is in cc

-- ---- what stands before what

-- nothing that passes the second test stands after what passes the first
abbrev apart : (Item → Bool) → (Item → Bool) → List Item → Bool
apart p q [] = true
apart p q (x ∷ xs) = (not (p x) || list_all (λ y. not (q y)) xs) && apart p q xs

stay_apart : (p q : Item → Bool) (xs : List Item) → apart p q xs ≡ true → (x y : Item) → p x ≡ true → q y ≡ true → (i j : ℕ) → i < j → slice_get xs i ≡ Some x → ¬ (slice_get xs j ≡ Some y)
stay_apart p q [] e x y px qy i j low first second = absurd (cc)
stay_apart p q (z ∷ zs) e x y px qy i zero low first second = absurd (omega arith)
stay_apart p q (z ∷ zs) e x y px qy (suc i) (suc j) low first second = stay_apart p q zs (and_parts _ _ e).1 x y px qy i j (omega arith) first second
stay_apart p q (z ∷ zs) e x y px qy zero (suc j) low first second =
    elim (or_cases _ _ (and_parts _ _ e).0) [
      | inl isnt ↦ let same : z ≡ x = cc in absurd (unlike p x px z isnt same)
      | inr none ↦ absurd (unlike q y qy y (place_passes (λ y. not (q y)) zs y j none second) refl)
    ]

never_before : (p q : Item → Bool) (xs : List Item) → apart p q xs ≡ true → (x y : Item) → p x ≡ true → q y ≡ true → ¬ (IsBefore xs x y)
never_before p q xs e x y px qy (i, j, low, first, second) = stay_apart p q xs e x y px qy i j low first second

-- something that passes the second test stands after what passes the first
abbrev follows : (Item → Bool) → (Item → Bool) → List Item → Bool
follows p q [] = false
follows p q (x ∷ xs) = (p x && list_any q xs) || follows p q xs

place_of : (q : Item → Bool) (y : Item) → ((x : Item) → q x ≡ true → x ≡ y) → (xs : List Item) → list_any q xs ≡ true → (j : ℕ) × (slice_get xs j ≡ Some y)
place_of q y only [] e = absurd (cc)
place_of q y only (x ∷ xs) e = elim (or_cases _ _ e) [
  | inl here ↦ (0, ap (λ (z : Item). Some z) (only x here))
  | inr there ↦ let found = place_of q y only xs there in (suc found.0, found.1)
]

is_before : (p q : Item → Bool) (x y : Item) → ((z : Item) → p z ≡ true → z ≡ x) → ((z : Item) → q z ≡ true → z ≡ y) → (xs : List Item) → follows p q xs ≡ true → IsBefore xs x y
is_before p q x y only_x only_y [] e = absurd (cc)
is_before p q x y only_x only_y (z ∷ zs) e = elim (or_cases _ _ e) [
  | inl here ↦
      let parts = and_parts _ _ here in
      let later = place_of q y only_y zs parts.1 in
      (0, suc later.0, omega arith, ap (λ (w : Item). Some w) (only_x z parts.0), later.1)
  | inr there ↦ let found = is_before p q x y only_x only_y zs there in (suc found.0, suc found.1, omega (arith, found.2), found.3, found.4)
]

-- ---- the clauses

abbrev below : Key → Key → Bool
below k l = ltb k.channel l.channel || (k.channel == l.channel && ltb k.index l.index)

abbrev comes_below : Key → Item → Bool
comes_below key (Came k) = below k key
comes_below key _ = true

below_is : (k l : Key) → below k l ≡ true → IsBelow k l
below_is k l e = elim (or_cases _ _ e) [
  | inl lower ↦ inl (ltb-true k.channel l.channel lower)
  | inr same ↦ let parts = and_parts _ _ same in inr (eqb-true k.channel l.channel parts.0, ltb-true k.index l.index parts.1)
]

abbrev low : ℕ → Item → Bool
low channel (Came k) = leb k.channel channel
low channel (Ran k moment starved parked) = leb k.channel channel
low channel (Cancelled k) = leb k.channel channel
low channel (Sent k) = leb k.channel channel
low channel (Cut cause) = true

low_is : (channel : ℕ) (x : Item) → low channel x ≡ true → IfSome (named_key x) (λ key. key.channel ≤ channel)
low_is channel (Came k) e = leb-true k.channel channel e
low_is channel (Ran k moment starved parked) e = leb-true k.channel channel e
low_is channel (Cancelled k) e = leb-true k.channel channel e
low_is channel (Sent k) e = leb-true k.channel channel e
low_is channel (Cut cause) e = tt

abbrev ended : Key → List Item → Bool
ended key [] = true
ended key (x ∷ xs) = (not (waits key x) || list_any may_end xs) && ended key xs

are_ended : (key : Key) (xs : List Item) → ended key xs ≡ true → EndedInTurn key xs
are_ended key [] e = tt
are_ended key (x ∷ xs) e =
    let parts = and_parts _ _ e in (
      (λ moment starved same. elim (or_cases _ _ parts.0) [
        | inl isnt ↦ absurd (unlike (waits key) (Ran key moment starved true) (key_self key) x isnt same)
        | inr end ↦ any_passes {P = MayEnd} may_end may_end_is xs end
      ]),
      are_ended key xs parts.1,
    )

abbrev fresh : List Item → Key → Bool
fresh before key = list_any (is_came key) before && list_all (λ x. not (settles key x)) before

abbrev remembered : List Item → Key → Bool
remembered before key = apart (is_came key) is_drop before && list_all (low key.channel) before

-- what all clauses want of an entry
abbrev may_stand : List Item → Item → Bool
may_stand before (Came key) = remembered before key && list_all (comes_below key) before
may_stand before (Ran key moment starved parked) = remembered before key && (fresh before key && apart (is_came key) is_cut before)
may_stand before (Cancelled key) = remembered before key && (fresh before key && follows (is_came key) is_removal before)
may_stand before (Sent key) = remembered before key && (list_any (settles key) before && (ended key before && list_all (λ x. not (is_sent key x)) before))
may_stand before (Cut cause) = leb (length before) 128

rises : (before : List Item) (x : Item) → may_stand before x ≡ true → RisesAbove before x
rises before (Came key) e = λ k has. below_is k key (member_passes (comes_below key) before (Came k) (and_parts _ _ e).1 has)
rises before _ e = tt

unsettled : (before : List Item) (key : Key) → fresh before key ≡ true → Contains before (Came key) × All (λ x. ¬ (Settles key x)) before
unsettled before key e =
    let parts = and_parts _ _ e in
    let came = any_passes {P = λ x. x ≡ Came key} (is_came key) (came_is key) before parts.0 in
    ((came.0, came.2, subst (λ z. slice_index_or before came.0 z ≡ z) came.4 came.3), all_pass {P = λ x. ¬ (Settles key x)} (λ x. not (settles key x)) (unsettles key) before parts.1)

settles_first : (before : List Item) (x : Item) → may_stand before x ≡ true → SettlesFirst before x
settles_first before (Ran key moment starved parked) e = unsettled before key (and_parts _ _ (and_parts _ _ e).1).0
settles_first before (Cancelled key) e = unsettled before key (and_parts _ _ (and_parts _ _ e).1).0
settles_first before _ e = tt

sends_first : (before : List Item) (x : Item) → may_stand before x ≡ true → SendsFirst before x
sends_first before (Sent key) e =
    let sends = and_parts _ _ e in
    let settled = and_parts _ _ sends.1 in
    let last = and_parts _ _ settled.1 in (
      any_passes {P = Settles key} (settles key) (settles_is key) before settled.0,
      IsEnded-from_turns before key (are_ended key before last.0),
      all_pass {P = λ x. x ≢ Sent key} (λ x. not (is_sent key x)) (unlike (is_sent key) (Sent key) (key_self key)) before last.1,
    )
sends_first before _ e = tt

runs_uncut : (before : List Item) (x : Item) → may_stand before x ≡ true → RunsUncut before x
runs_uncut before (Ran key moment starved parked) e = λ cause.
    never_before (is_came key) is_cut before (and_parts _ _ (and_parts _ _ e).1).1 (Came key) (Cut cause) (key_self key) refl
runs_uncut before _ e = tt

cancels_removed : (before : List Item) (x : Item) → may_stand before x ≡ true → CancelsRemoved before x
cancels_removed before (Cancelled key) e =
    is_before (is_came key) is_removal (Came key) (Cut Removed) (came_is key) removal_is before (and_parts _ _ (and_parts _ _ e).1).1
cancels_removed before _ e = tt

remembers : (before : List Item) (key : Key) → remembered before key ≡ true → (¬ (IsBefore before (Came key) (Cut Dropped))) × All (λ x. IfSome (named_key x) (λ k. k.channel ≤ key.channel)) before
remembers before key e =
    let parts = and_parts _ _ e in
    (never_before (is_came key) is_drop before parts.0 (Came key) (Cut Dropped) (key_self key) refl, all_pass {P = λ x. IfSome (named_key x) (λ k. k.channel ≤ key.channel)} (low key.channel) (low_is key.channel) before parts.1)

names_remembered : (before : List Item) (x : Item) → may_stand before x ≡ true → NamesRemembered before x
names_remembered before (Came key) e = remembers before key (and_parts _ _ e).0
names_remembered before (Ran key moment starved parked) e = remembers before key (and_parts _ _ e).0
names_remembered before (Cancelled key) e = remembers before key (and_parts _ _ e).0
names_remembered before (Sent key) e = remembers before key (and_parts _ _ e).0
names_remembered before (Cut cause) e = tt

few_of_short : (items : List Item) → leb (length items) 128 ≡ true → FewUnsent items
few_of_short items short channel last = let most = leb-true (length items) 128 short in omega (arith, most, count_by-le-length (is_unsent items channel) items)

cuts_few : (before : List Item) (x : Item) → may_stand before x ≡ true → CutsFewUnsent before x
cuts_few before (Cut cause) e = few_of_short before e
cuts_few before _ e = tt

-- ---- the test

abbrev may_stand_after : List Item → List Item → Bool
may_stand_after before [] = true
may_stand_after before (x ∷ xs) = may_stand before x && may_stand_after (before ++ x ∷ []) xs

in_turn : {P : List Item → Item → Type 0} → ((before : List Item) (x : Item) → may_stand before x ≡ true → P before x) → (before items : List Item) → may_stand_after before items ≡ true → EachInTurn P before items
in_turn sound before [] e = tt
in_turn sound before (x ∷ xs) e =
    let parts = and_parts _ _ e in (sound before x parts.0, in_turn sound (before ++ x ∷ []) xs parts.1)

abbrev pub is_lawful : List Item → Bool
is_lawful items = leb (length items) 128 && may_stand_after [] items

pub lawful_by_test : (items : List Item) → is_lawful items ≡ true → IsLawful items
lawful_by_test items e =
    let parts = and_parts _ _ e in
    record {
      keys_rise = EachAfter-from_turns RisesAbove items (in_turn rises [] items parts.1);
      runs_once = EachAfter-from_turns SettlesFirst items (in_turn settles_first [] items parts.1);
      sent_once = EachAfter-from_turns SendsFirst items (in_turn sends_first [] items parts.1);
      no_run_after_cut = EachAfter-from_turns RunsUncut items (in_turn runs_uncut [] items parts.1);
      cancelled_after_removal = EachAfter-from_turns CancelsRemoved items (in_turn cancels_removed [] items parts.1);
      drop_forgets = EachAfter-from_turns NamesRemembered items (in_turn names_remembered [] items parts.1);
      few_unsent = (EachAfter-from_turns CutsFewUnsent items (in_turn cuts_few [] items parts.1), few_of_short items parts.0);
    }

-- ---- replies

-- no two replies are a key's
abbrev pub are_distinct : List KeyedReply → Bool
are_distinct [] = true
are_distinct (x ∷ xs) = list_all (λ (y : KeyedReply). not (is_key x.0 y.0)) xs && are_distinct xs

apart_from : (xs : List KeyedReply) (x y : KeyedReply) → list_all (λ (z : KeyedReply). not (is_key x.0 z.0)) xs ≡ true → Contains xs y → x.0 ≡ y.0 → ⊥
apart_from xs x y e has same =
    let none : not (is_key x.0 y.0) ≡ true = member_passes (λ (z : KeyedReply). not (is_key x.0 z.0)) xs y e has in
    let is : is_key x.0 y.0 ≡ true = subst (λ (k : Key). is_key x.0 k ≡ true) same (key_self x.0) in
    let isnt = not-true (is_key x.0 y.0) none in
    cc (is, isnt)

pub one_of_key : (xs : List KeyedReply) → are_distinct xs ≡ true → (key : Key) (reply other : Reply) → Contains xs (key, reply) → Contains xs (key, other) → other ≡ reply
one_of_key [] e key reply other has has_other = absurd (omega (arith, has.1))
one_of_key (x ∷ xs) e key reply other (zero, lt, is) (zero, lt_other, is_other) = ap (λ (y : KeyedReply). y.1) (sym is_other ∙ is)
one_of_key (x ∷ xs) e key reply other (zero, lt, is) (suc k, lt_other, is_other) =
    absurd (apart_from xs x (key, other) (and_parts _ _ e).0 (k, omega (arith, lt_other), is_other) (ap (λ (y : KeyedReply). y.0) is))
one_of_key (x ∷ xs) e key reply other (suc k, lt, is) (zero, lt_other, is_other) =
    absurd (apart_from xs x (key, reply) (and_parts _ _ e).0 (k, omega (arith, lt), is) (ap (λ (y : KeyedReply). y.0) is_other))
one_of_key (x ∷ xs) e key reply other (suc k, lt, is) (suc j, lt_other, is_other) =
    one_of_key xs (and_parts _ _ e).1 key reply other (k, omega (arith, lt), is) (j, omega (arith, lt_other), is_other)
