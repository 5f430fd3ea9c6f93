-- Each test of the rules tells what its rule asks.
use Rattle.std.proofs.Common.{◌≡◌, ◌≢◌, ◌∙◌, refl, ap, ap₂, subst, inl, inr, ℕ, zero, suc, ◌<◌, ◌≤◌, ◌&&◌, ◌==◌, max, Bool, true, false, cond, not, List, [], ◌∷◌, ◌++◌, arith, eqb-true, eq-eqb}
use Rattle.std.specs.Prelude.{All, Any, Contains, IfSome, Some, nat_lt, slice_get}
use Rattle.std.specs.Bool.{Decides}
use Rattle.std.specs.List.{list_all, list_any}
use Rattle.std.proofs.lemmas.Bool.{le-leb, leb-true}
use Rattle.rd_lawful.proofs.CountLemmas.{cnt, cnt-cons, cnt-is, cnt-nil}
use Rattle.std.proofs.lemmas.Bool.Decides.{Decides-and, Decides-by_and, Decides-by_or, Decides-eqb, Decides-like, Decides-ltb, Decides-not, Decides-or}
use Rattle.std.proofs.lemmas.List.Elements.{Decides-contains}
use Rattle.std.proofs.lemmas.List.Folds.{Any-from_list_any, list_any-from_Any}
use Rattle.rd_base.specs.declared.journal.Key.{Key}
use Rattle.rd_base.specs.declared.journal.Cause.{Cause}
use Rattle.rd_base.specs.declared.journal.Cause.TheVariants.{Dropped, Removed}
use Rattle.rd_base.specs.declared.journal.Item.{Item}
use Rattle.rd_base.specs.declared.journal.Item.TheVariants.{Came, Cancelled, Cut, Ran, Sent}
use Rattle.rd_base.specs.Lawful.{CancelsRemoved, CutsFewUnsent, FewUnsent, IsBefore, IsBelow, IsEnded, IsUnsettled, MayEnd, NamesRemembered, NoneAboveChannel, RisesAbove, RunsUncut, SendsFirst, Settles, SettlesFirst, is_unsent, named_key, sends}
use Rattle.rd_lawful.specs.declared.rule.Rule.{Rule}
use Rattle.rd_lawful.specs.declared.rule.Rule.TheVariants as rule
use Rattle.rd_lawful.specs.Rules.{KeepsRule, came_before, cancels_removed, cuts_few_unsent, few_unsent, is_cut, is_drop, is_removal, is_unsettled, keeps_rule, key_below, key_is, last_channel, may_end, named_channel, names_remembered, names_within, remembers_key, rises_above, runs_uncut, says_came, says_came_above, says_parked, says_settled, sends_first, settles_first, still_waits, unsent_count}
use Rattle.rd_lawful.proofs.BoolLemmas.{both_true, either, either_true, first_true, is_false, left_true, not_or, not_true, right_true, second_true}

-- ---- keys

key_made : ℕ → ℕ → Key
key_made channel index = record { channel = channel; index = index }

pub key_is-decides : (k l : Key) → Decides (key_is k l) (k ≡ l)
unfolding key_made
key_is-decides k l =
    Decides-like (key_is k l) (λ (both : (k.channel ≡ l.channel) × (k.index ≡ l.index)). ap₂ key_made both.0 both.1) (λ e. (ap (λ (x : Key). x.channel) e, ap (λ (x : Key). x.index) e))
    (Decides-and (k.channel == l.channel) (k.index == l.index) (Decides-eqb k.channel l.channel) (Decides-eqb k.index l.index))

pub key_below-decides : (k l : Key) → Decides (key_below k l) (IsBelow k l)
key_below-decides k l =
    Decides-or (nat_lt k.channel l.channel) (k.channel == l.channel && nat_lt k.index l.index) (Decides-ltb k.channel l.channel)
    (Decides-and (k.channel == l.channel) (nat_lt k.index l.index) (Decides-eqb k.channel l.channel) (Decides-ltb k.index l.index))

-- ---- entries

never : {P : Type 0} → ¬ P → Decides false P
never none = (λ e. absurd (cc), λ p. absurd (none p))

pub says_came-decides : (key : Key) (x : Item) → Decides (says_came key x) (x ≡ Came key)
says_came-decides key (Came k) = Decides-like (key_is k key) (ap Came) (λ e. cc) (key_is-decides k key)
says_came-decides key (Ran k moment starved parked) = never (λ e. cc)
says_came-decides key (Cancelled k) = never (λ e. cc)
says_came-decides key (Sent k) = never (λ e. cc)
says_came-decides key (Cut cause) = never (λ e. cc)

pub says_settled-decides : (key : Key) (x : Item) → Decides (says_settled key x) (Settles key x)
says_settled-decides key (Ran k moment starved parked) = key_is-decides k key
says_settled-decides key (Cancelled k) = key_is-decides k key
says_settled-decides key (Came k) = never (λ none. none)
says_settled-decides key (Sent k) = never (λ none. none)
says_settled-decides key (Cut cause) = never (λ none. none)

pub sends-decides : (key : Key) (x : Item) → Decides (sends key x) (x ≡ Sent key)
sends-decides key (Sent k) = Decides-like (key_is k key) (ap Sent) (λ e. cc) (key_is-decides k key)
sends-decides key (Came k) = never (λ e. cc)
sends-decides key (Ran k moment starved parked) = never (λ e. cc)
sends-decides key (Cancelled k) = never (λ e. cc)
sends-decides key (Cut cause) = never (λ e. cc)

may_end-decides : (x : Item) → Decides (may_end x) (MayEnd x)
may_end-decides (Ran k moment starved parked) = (λ e. tt, λ may. refl)
may_end-decides (Cut cause) = (λ e. tt, λ may. refl)
may_end-decides (Came k) = never (λ none. none)
may_end-decides (Cancelled k) = never (λ none. none)
may_end-decides (Sent k) = never (λ none. none)

-- a run that left the request waiting
says_parked-is : (key : Key) (x : Item) → says_parked key x ≡ true → (moment : ℕ) × (starved : Bool) × (x ≡ Ran key moment starved true)
says_parked-is key (Ran k moment starved true) e = (moment, starved, ap (λ (l : Key). Ran l moment starved true) ((key_is-decides k key).0 e))
says_parked-is key (Ran k moment starved false) e = absurd (cc)
says_parked-is key (Came k) e = absurd (cc)
says_parked-is key (Cancelled k) e = absurd (cc)
says_parked-is key (Sent k) e = absurd (cc)
says_parked-is key (Cut cause) e = absurd (cc)

pub key_is-self : (k : Key) → key_is k k ≡ true
key_is-self k = (key_is-decides k k).1 refl

-- ---- lists

any-decides : (p : Item → Bool) (P : Item → Type 0) → ((x : Item) → Decides (p x) (P x)) → (xs : List Item) → Decides (list_any p xs) (Any P xs)
any-decides p P each xs = (
  λ e. let (k, x, below, is, holds) = Any-from_list_any p xs e in (k, x, below, is, (each x).0 holds),
  λ any. let (k, x, below, is, holds) = any in list_any-from_Any p xs (k, x, below, is, (each x).1 holds),
)

none-decides : (p : Item → Bool) (P : Item → Type 0) → ((x : Item) → Decides (p x) (P x)) → (xs : List Item) → Decides (not (list_any p xs)) (All (λ x. ¬ (P x)) xs)
none-decides p P each xs =
    Decides-by_and (λ x. not (p x)) (λ x. ¬ (P x)) (λ ys. not (list_any p ys)) (λ x. Decides-not (p x) (each x)) refl (λ x ys. not_or (p x) (list_any p ys)) xs

pub came-decides : (key : Key) (xs : List Item) → Decides (list_any (says_came key) xs) (Contains xs (Came key))
came-decides key xs =
    Decides-contains xs (Came key) (list_any (says_came key) xs) (Decides-by_or (says_came key) (λ y. y ≡ Came key) (list_any (says_came key)) (says_came-decides key) refl (λ _ _. refl) xs)

-- what stands somewhere passes a test, and something that passes it stands somewhere
pub any-at : (p : Item → Bool) (xs : List Item) (i : ℕ) (y : Item) → slice_get xs i ≡ Some y → p y ≡ true → list_any p xs ≡ true
any-at p [] i y at e = absurd (cc)
any-at p (x ∷ xs) zero y at e = let same : x ≡ y = cc in left_true (p x) (list_any p xs) (ap p same ∙ e)
any-at p (x ∷ xs) (suc i) y at e = right_true (p x) (list_any p xs) (any-at p xs i y at e)

pub at-any : (p : Item → Bool) (xs : List Item) → list_any p xs ≡ true → (i : ℕ) × (y : Item) × (slice_get xs i ≡ Some y) × (p y ≡ true)
at-any p [] e = absurd (cc)
at-any p (x ∷ xs) e = elim (either_true (p x) (list_any p xs) e) [
  | inl here ↦ (0, x, refl, here)
  | inr later ↦ let (i, y, at, holds) = at-any p xs later in (suc i, y, at, holds)
]

-- ---- what stands after a request came

came_before-is : (test : Item → Bool) (key : Key) (xs : List Item) → came_before test key xs ≡ true → (y : Item) × (test y ≡ true) × IsBefore xs (Came key) y
came_before-is test key [] e = absurd (cc)
came_before-is test key (x ∷ xs) e = elim (either_true (says_came key x && list_any test xs) (came_before test key xs) e) [
  | inl here ↦
      let came : x ≡ Came key = (says_came-decides key x).0 (first_true (says_came key x) (list_any test xs) here) in
      let (j, y, at, holds) = at-any test xs (second_true (says_came key x) (list_any test xs) here) in
      (y, holds, (0, suc j, omega arith, ap Some came, at))
  | inr later ↦
      let (y, holds, before) = came_before-is test key xs later in
      let (i, j, less, first, second) = before in
      (y, holds, (suc i, suc j, omega (arith, less), first, second))
]

came_before-from : (test : Item → Bool) (key : Key) (y : Item) → test y ≡ true → (xs : List Item) (i j : ℕ) → i < j → slice_get xs i ≡ Some (Came key) → slice_get xs j ≡ Some y → came_before test key xs ≡ true
came_before-from test key y holds [] i j less first second = absurd (cc)
came_before-from test key y holds (x ∷ xs) i zero less first second = absurd (omega (arith, less))
came_before-from test key y holds (x ∷ xs) zero (suc j) less first second =
    let came : x ≡ Came key = cc in
    left_true (says_came key x && list_any test xs) (came_before test key xs) (both_true (says_came key x) (list_any test xs) ((says_came-decides key x).1 came) (any-at test xs j y second holds))
came_before-from test key y holds (x ∷ xs) (suc i) (suc j) less first second =
    right_true (says_came key x && list_any test xs) (came_before test key xs) (came_before-from test key y holds xs i j (omega (arith, less)) first second)

before-decides : (test : Item → Bool) (b : Item) → ((x : Item) → Decides (test x) (x ≡ b)) → (key : Key) (xs : List Item) → Decides (came_before test key xs) (IsBefore xs (Came key) b)
before-decides test b each key xs = (
  λ e. let (y, holds, before) = came_before-is test key xs e in subst (IsBefore xs (Came key)) ((each y).0 holds) before,
  λ before. came_before-from test key b ((each b).1 refl) xs before.0 before.1 before.2 before.3 before.4,
)

is_removal-decides : (x : Item) → Decides (is_removal x) (x ≡ Cut Removed)
is_removal-decides (Cut Removed) = (λ e. refl, λ e. refl)
is_removal-decides (Cut Dropped) = never (λ e. let causes : Dropped ≡ Removed = cc in cc)
is_removal-decides (Came k) = never (λ e. cc)
is_removal-decides (Ran k moment starved parked) = never (λ e. cc)
is_removal-decides (Cancelled k) = never (λ e. cc)
is_removal-decides (Sent k) = never (λ e. cc)

is_drop-decides : (x : Item) → Decides (is_drop x) (x ≡ Cut Dropped)
is_drop-decides (Cut Dropped) = (λ e. refl, λ e. refl)
is_drop-decides (Cut Removed) = never (λ e. let causes : Removed ≡ Dropped = cc in cc)
is_drop-decides (Came k) = never (λ e. cc)
is_drop-decides (Ran k moment starved parked) = never (λ e. cc)
is_drop-decides (Cancelled k) = never (λ e. cc)
is_drop-decides (Sent k) = never (λ e. cc)

is_cut-is : (x : Item) → is_cut x ≡ true → (cause : Cause) × (x ≡ Cut cause)
is_cut-is (Cut cause) e = (cause, refl)
is_cut-is (Came k) e = absurd (cc)
is_cut-is (Ran k moment starved parked) e = absurd (cc)
is_cut-is (Cancelled k) e = absurd (cc)
is_cut-is (Sent k) e = absurd (cc)

uncut-decides : (key : Key) (xs : List Item) → Decides (not (came_before is_cut key xs)) ((cause : Cause) → ¬ (IsBefore xs (Came key) (Cut cause)))
uncut-decides key xs = (
  λ e cause before. let was = came_before-from is_cut key (Cut cause) refl xs before.0 before.1 before.2 before.3 before.4 in absurd (cc (not_true (came_before is_cut key xs) e, was)),
  λ none. ap not (is_false (came_before is_cut key xs) (λ e.
      let (y, holds, before) = came_before-is is_cut key xs e in
      let (cause, is) = is_cut-is y holds in
      none cause (subst (IsBefore xs (Came key)) is before))),
)

-- ---- what was left waiting

still_waits-is : (key : Key) (xs : List Item) → still_waits key xs ≡ true
    → (earlier : List Item) × (moment : ℕ) × (starved : Bool) × (since : List Item) × (xs ≡ earlier ++ Ran key moment starved true ∷ since) × (list_any may_end since ≡ false)
still_waits-is key [] e = absurd (cc)
still_waits-is key (x ∷ xs) e = elim (either_true (says_parked key x && not (list_any may_end xs)) (still_waits key xs) e) [
  | inl here ↦
      let (moment, starved, is) = says_parked-is key x (first_true (says_parked key x) (not (list_any may_end xs)) here) in
      ([], moment, starved, xs, ap (λ (y : Item). y ∷ xs) is, not_true (list_any may_end xs) (second_true (says_parked key x) (not (list_any may_end xs)) here))
  | inr later ↦
      let (earlier, moment, starved, since, is, none) = still_waits-is key xs later in
      (x ∷ earlier, moment, starved, since, ap (λ (ys : List Item). x ∷ ys) is, none)
]

still_waits-from : (key : Key) (earlier since : List Item) (moment : ℕ) (starved : Bool) → list_any may_end since ≡ false → still_waits key (earlier ++ Ran key moment starved true ∷ since) ≡ true
still_waits-from key [] since moment starved none =
    left_true (key_is key key && not (list_any may_end since)) (still_waits key since) (both_true (key_is key key) (not (list_any may_end since)) (key_is-self key) (ap not none))
still_waits-from key (x ∷ earlier) since moment starved none =
    right_true (says_parked key x && not (list_any may_end (earlier ++ Ran key moment starved true ∷ since))) (still_waits key (earlier ++ Ran key moment starved true ∷ since))
    (still_waits-from key earlier since moment starved none)

ended-decides : (key : Key) (xs : List Item) → Decides (not (still_waits key xs)) (IsEnded xs key)
ended-decides key xs = (
  λ e earlier moment starved since is. elim (either (list_any may_end since)) [
    | inl some ↦ (any-decides may_end MayEnd may_end-decides since).0 some
    | inr none ↦
        let waits : still_waits key xs ≡ true = ap (still_waits key) is ∙ still_waits-from key earlier since moment starved none in
        absurd (cc (not_true (still_waits key xs) e, waits))
  ],
  λ ended. ap not (is_false (still_waits key xs) (λ e.
      let (earlier, moment, starved, since, is, none) = still_waits-is key xs e in
      let some = (any-decides may_end MayEnd may_end-decides since).1 (ended earlier moment starved since is) in
      absurd (cc (none, some)))),
)

-- ---- channels

within-decides : (c : ℕ) (x : Item) → Decides (names_within c x) (IfSome (named_key x) (λ key. key.channel ≤ c))
within-decides c (Came k) = (leb-true k.channel c, le-leb k.channel c)
within-decides c (Ran k moment starved parked) = (leb-true k.channel c, le-leb k.channel c)
within-decides c (Cancelled k) = (leb-true k.channel c, le-leb k.channel c)
within-decides c (Sent k) = (leb-true k.channel c, le-leb k.channel c)
within-decides c (Cut cause) = (λ e. tt, λ h. refl)

pub none_above-decides : (c : ℕ) (xs : List Item) → Decides (list_all (names_within c) xs) (NoneAboveChannel c xs)
none_above-decides c xs = Decides-by_and (names_within c) (λ entry. IfSome (named_key entry) (λ key. key.channel ≤ c)) (list_all (names_within c)) (within-decides c) refl (λ _ _. refl) xs

one_within : (c : ℕ) (x : Item) → Decides (names_within c x) (named_channel x ≤ c)
one_within c (Came k) = (leb-true k.channel c, le-leb k.channel c)
one_within c (Ran k moment starved parked) = (leb-true k.channel c, le-leb k.channel c)
one_within c (Cancelled k) = (leb-true k.channel c, le-leb k.channel c)
one_within c (Sent k) = (leb-true k.channel c, le-leb k.channel c)
one_within c (Cut cause) = (λ e. omega arith, λ h. refl)

-- no later channel is named than the last
pub all_within : (c : ℕ) (xs : List Item) → Decides (list_all (names_within c) xs) (last_channel xs ≤ c)
all_within c [] = (λ e. omega arith, λ h. refl)
all_within c (x ∷ xs) =
    Decides-like (names_within c x && list_all (names_within c) xs) (λ (both : (named_channel x ≤ c) × (last_channel xs ≤ c)). omega (arith, both.0, both.1)) (λ (h : max (named_channel x) (last_channel xs) ≤ c). (omega (arith, h), omega (arith, h)))
    (Decides-and (names_within c x) (list_all (names_within c) xs) (one_within c x) (all_within c xs))

-- what is counted on a later channel than any that is named
one_unsent : (j : List Item) (c : ℕ) (x : Item) → named_channel x < c → is_unsent j c x ≡ false
one_unsent j c (Came k) less = ap (λ b. b && not (list_any (sends k) j)) (is_false (k.channel == c) (λ e. omega (arith, less, eqb-true k.channel c e)))
one_unsent j c (Ran k moment starved parked) less = refl
one_unsent j c (Cancelled k) less = refl
one_unsent j c (Sent k) less = refl
one_unsent j c (Cut cause) less = refl

pub none_unsent : (j : List Item) (c : ℕ) (xs : List Item) → last_channel xs < c → cnt (is_unsent j c) xs ≡ 0
none_unsent j c [] less = cnt-nil (is_unsent j c)
none_unsent j c (x ∷ xs) less =
    let fails : is_unsent j c x ≡ false = one_unsent j c x (omega (arith, less)) in
    let here : cond {A = ℕ} (is_unsent j c x) 1 0 ≡ 0 = ap (λ b. cond {A = ℕ} b 1 0) fails in
    omega (arith, here, cnt-cons (is_unsent j c) x xs, none_unsent j c xs (omega (arith, less)))

-- ---- each rule

always : Decides true (Unit {0})
always = (λ e. tt, λ u. refl)

says_came_above-is : (key : Key) (x : Item) → says_came_above key x ≡ true → (earlier : Key) × (x ≡ Came earlier) × (key_below earlier key ≡ false)
says_came_above-is key (Came k) e = (k, refl, not_true (key_below k key) e)
says_came_above-is key (Ran k moment starved parked) e = absurd (cc)
says_came_above-is key (Cancelled k) e = absurd (cc)
says_came_above-is key (Sent k) e = absurd (cc)
says_came_above-is key (Cut cause) e = absurd (cc)

above-decides : (key : Key) (before : List Item) → Decides (not (list_any (says_came_above key) before)) ((earlier : Key) → Contains before (Came earlier) → IsBelow earlier key)
above-decides key before = (
  λ e earlier has. elim (either (key_below earlier key)) [
    | inl below ↦ (key_below-decides earlier key).0 below
    | inr fails ↦
        let (k, low, is) = has in
        let above : list_any (says_came_above key) before ≡ true = list_any-from_Any (says_came_above key) before (k, Came earlier, low, is, ap not fails) in
        absurd (cc (not_true (list_any (says_came_above key) before) e, above))
  ],
  λ each. ap not (is_false (list_any (says_came_above key) before) (λ e.
      let (k, x, low, is, holds) = Any-from_list_any (says_came_above key) before e in
      let (earlier, came, fails) = says_came_above-is key x holds in
      let has : Contains before x = (k, low, is) in
      let below : key_below earlier key ≡ true = (key_below-decides earlier key).1 (each earlier (subst (Contains before) came has)) in
      absurd (cc (fails, below)))),
)

rises-decides : (before : List Item) (entry : Item) → Decides (rises_above before entry) (RisesAbove before entry)
rises-decides before (Came key) = above-decides key before
rises-decides before _ = always

unsettled-decides : (before : List Item) (key : Key) → Decides (is_unsettled before key) (IsUnsettled before key)
unsettled-decides before key =
    Decides-and (list_any (says_came key) before) (not (list_any (says_settled key) before)) (came-decides key before) (none-decides (says_settled key) (Settles key) (says_settled-decides key) before)

settles-decides : (before : List Item) (entry : Item) → Decides (settles_first before entry) (SettlesFirst before entry)
settles-decides before (Ran key moment starved parked) = unsettled-decides before key
settles-decides before (Cancelled key) = unsettled-decides before key
settles-decides before _ = always

sends_first-decides : (before : List Item) (entry : Item) → Decides (sends_first before entry) (SendsFirst before entry)
sends_first-decides before (Sent key) =
    let settled = any-decides (says_settled key) (Settles key) (says_settled-decides key) before in
    let ended = ended-decides key before in
    let unsent = none-decides (sends key) (λ x. x ≡ Sent key) (sends-decides key) before in
    Decides-like (sends_first before (Sent key)) (λ (all : Any (Settles key) before × (IsEnded before key × All (λ x. x ≢ Sent key) before)). (all.0, all.1.0, all.1.1)) (λ (all : SendsFirst before (Sent key)). (all.0, (all.1, all.2)))
    (Decides-and (list_any (says_settled key) before) (not (still_waits key before) && not (list_any (sends key) before)) settled
    (Decides-and (not (still_waits key before)) (not (list_any (sends key) before)) ended unsent))
sends_first-decides before _ = always

runs-decides : (before : List Item) (entry : Item) → Decides (runs_uncut before entry) (RunsUncut before entry)
runs-decides before (Ran key moment starved parked) = uncut-decides key before
runs-decides before _ = always

cancels-decides : (before : List Item) (entry : Item) → Decides (cancels_removed before entry) (CancelsRemoved before entry)
cancels-decides before (Cancelled key) = before-decides is_removal (Cut Removed) is_removal-decides key before
cancels-decides before _ = always

remembers-decides : (before : List Item) (key : Key) → Decides (remembers_key before key) ((¬ (IsBefore before (Came key) (Cut Dropped))) × NoneAboveChannel key.channel before)
remembers-decides before key =
    Decides-and (not (came_before is_drop key before)) (list_all (names_within key.channel) before)
    (Decides-not (came_before is_drop key before) (before-decides is_drop (Cut Dropped) is_drop-decides key before)) (none_above-decides key.channel before)

names-decides : (before : List Item) (entry : Item) → Decides (names_remembered before entry) (NamesRemembered before entry)
names-decides before (Came key) = remembers-decides before key
names-decides before (Ran key moment starved parked) = remembers-decides before key
names-decides before (Cancelled key) = remembers-decides before key
names-decides before (Sent key) = remembers-decides before key
names-decides before (Cut cause) = always

pub few-decides : (j : List Item) → Decides (few_unsent j) (FewUnsent j)
few-decides j = (
  λ e channel low. elim (either (last_channel j == channel)) [
    | inl same ↦ subst (λ (c : ℕ). unsent_count j c ≤ 128) (eqb-true (last_channel j) channel same) (leb-true (unsent_count j (last_channel j)) 128 e)
    | inr other ↦
        let less : last_channel j ≤ channel = (all_within channel j).0 ((none_above-decides channel j).1 low) in
        let apart : last_channel j ≢ channel = λ same. cc (other, eq-eqb (last_channel j) channel same) in
        omega (arith, cnt-is (is_unsent j channel) j, none_unsent j channel j (omega (arith, less, apart)))
  ],
  λ few. le-leb (unsent_count j (last_channel j)) 128 (few (last_channel j) ((none_above-decides (last_channel j) j).0 ((all_within (last_channel j) j).1 (omega arith)))),
)

cuts-decides : (before : List Item) (entry : Item) → Decides (cuts_few_unsent before entry) (CutsFewUnsent before entry)
cuts-decides before (Cut cause) = few-decides before
cuts-decides before _ = always

-- A test of a rule passes exactly where the rule is kept.
pub rule-decides : (r : Rule) (before : List Item) (entry : Item) → Decides (keeps_rule r before entry) (KeepsRule r before entry)
rule-decides rule.KeysRise = rises-decides
rule-decides rule.RunsOnce = settles-decides
rule-decides rule.SentOnce = sends_first-decides
rule-decides rule.NoRunAfterCut = runs-decides
rule-decides rule.CancelledAfterRemoval = cancels-decides
rule-decides rule.DropForgets = names-decides
rule-decides rule.FewUnsent = cuts-decides
