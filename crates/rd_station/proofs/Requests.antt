-- What a journal tells of a request, and what one entry more makes of that.
use Rattle.std.proofs.Common.{◌≡◌, ◌≢◌, ◌⊎◌, refl, sym, ap, subst, inl, inr, ℕ, zero, suc, List, [], ◌∷◌, ◌++◌, length, arith}
use Rattle.std.specs.Prelude.{All, Any, Bool, Contains, None, Some, false, slice_get, true}
use Rattle.std.proofs.lemmas.List.Elements.{All-append, All-contains, All-cons, All-nil, All-weaker, Contains-append_left}
use Rattle.std.proofs.lemmas.Option.{slice_get_within}
use Rattle.rd_base.specs.declared.journal.Key.{Key}
use Rattle.rd_base.specs.declared.journal.Cause.{Cause}
use Rattle.rd_base.specs.declared.journal.Cause.TheVariants.{Removed, Dropped}
use Rattle.rd_base.specs.declared.journal.Item.{Item}
use Rattle.rd_base.specs.declared.journal.Item.TheVariants.{Came, Ran, Cancelled, Sent, Cut}
use Rattle.rd_base.specs.Lawful.{CancelsRemoved, CutsFewUnsent, FewUnsent, IsBefore, IsBelow, IsEnded, IsLawful, MayEnd, NamesRemembered, NoneAboveChannel, RisesAbove, RunsUncut, SendsFirst, Settles, SettlesFirst, named_key}
use Rattle.rd_base.proofs.JournalLemmas.{EachAfter-append}
use Rattle.rd_station.proofs.Members.{all_of, has_left, to_contains}

-- ---- one more in a list

pub all_more : {A : Type 0} (P : A → Type 0) (xs : List A) (x : A) → All P xs → P x → All P (xs ++ x ∷ [])
all_more P xs x all one = All-append P xs (x ∷ []) all (All-cons P x [] one (All-nil P))

pub all_less : {A : Type 0} (P : A → Type 0) (xs ys : List A) → All P (xs ++ ys) → All P xs
all_less P xs ys all = all_of P xs (λ x has. All-contains P (xs ++ ys) x all (to_contains (xs ++ ys) x (has_left x xs ys has)))

contains_last : {A : Type 0} (xs : List A) (x : A) → Contains (xs ++ x ∷ []) x
contains_last [] x = (0, omega arith, refl)
contains_last (y ∷ xs) x = let (k, below, is) = contains_last xs x in (suc k, omega (arith, below), is)

contains_middle : {A : Type 0} (xs : List A) (x : A) (ys : List A) → Contains (xs ++ x ∷ ys) x
contains_middle [] x ys = (0, omega arith, refl)
contains_middle (y ∷ xs) x ys = let (k, below, is) = contains_middle xs x ys in (suc k, omega (arith, below), is)

any_more : {A : Type 0} (P : A → Type 0) (xs : List A) (x : A) → Any P xs → Any P (xs ++ x ∷ [])
any_more P xs x (k, y, below, is, holds) = let (l, less, same) = Contains-append_left xs (x ∷ []) y (k, below, is) in (l, y, less, same, holds)

any_last : {A : Type 0} (P : A → Type 0) (xs : List A) (x : A) → P x → Any P (xs ++ x ∷ [])
any_last P xs x holds = let (k, below, is) = contains_last xs x in (k, x, below, is, holds)

get_more : {A : Type 0} (xs ys : List A) (x : A) (i : ℕ) → slice_get xs i ≡ Some x → slice_get (xs ++ ys) i ≡ Some x
get_more [] ys x i e = absurd (cc)
get_more (z ∷ xs) ys x zero e = e
get_more (z ∷ xs) ys x (suc i) e = get_more xs ys x i e

get_end : {A : Type 0} (xs : List A) (x : A) → slice_get (xs ++ x ∷ []) (length xs) ≡ Some x
get_end [] x = refl
get_end (z ∷ xs) x = get_end xs x

-- what stands at a place stood there before, or is the last
get_or_end : {A : Type 0} (xs : List A) (y x : A) (i : ℕ) → slice_get (xs ++ y ∷ []) i ≡ Some x → (slice_get xs i ≡ Some x) ⊎ ((i ≡ length xs) × (y ≡ x))
get_or_end [] y x zero e = let same : y ≡ x = cc in inr (refl, same)
get_or_end [] y x (suc i) e = absurd (cc)
get_or_end (z ∷ xs) y x zero e = inl e
get_or_end (z ∷ xs) y x (suc i) e = elim (get_or_end xs y x i e) [ inl there ↦ inl there | inr last ↦ inr (ap suc last.0, last.1) ]

get_contains : {A : Type 0} (xs : List A) (x : A) (i : ℕ) → slice_get xs i ≡ Some x → Contains xs x
get_contains [] x i e = absurd (cc)
get_contains (y ∷ xs) x zero e = let same : y ≡ x = cc in (0, omega arith, same)
get_contains (y ∷ xs) x (suc i) e = let (k, below, is) = get_contains xs x i e in (suc k, omega (arith, below), is)

contains_get : {A : Type 0} (xs : List A) (x : A) → Contains xs x → (i : ℕ) × (slice_get xs i ≡ Some x)
contains_get [] x (k, below, is) = absurd (omega (arith, below))
contains_get (y ∷ xs) x (zero, below, is) = (0, ap Some is)
contains_get (y ∷ xs) x (suc k, below, is) = let (i, at) = contains_get xs x (k, omega (arith, below), is) in (suc i, at)

before_more : (j : List Item) (x a b : Item) → IsBefore j a b → IsBefore (j ++ x ∷ []) a b
before_more j x a b (i, k, less, at_a, at_b) = (i, k, less, get_more j (x ∷ []) a i at_a, get_more j (x ∷ []) b k at_b)

before_last : (j : List Item) (a b : Item) → Contains j a → IsBefore (j ++ b ∷ []) a b
before_last j a b has =
    let (i, at) = contains_get j a has in
    (i, length j, slice_get_within j i a at, get_more j (b ∷ []) a i at, get_end j b)

-- two that stand one before the other did so before, or the second one is the last
was_before : (j : List Item) (x a b : Item) → IsBefore (j ++ x ∷ []) a b → IsBefore j a b ⊎ (Contains j a × (x ≡ b))
was_before j x a b (i, k, less, at_a, at_b) = elim (get_or_end j x b k at_b) [
  | inl there ↦ elim (get_or_end j x a i at_a) [
    | inl earlier ↦ inl (i, k, less, earlier, there)
    | inr last ↦ absurd (omega (arith, less, last.0, slice_get_within j k b there))
  ]
  | inr last ↦ elim (get_or_end j x a i at_a) [
    | inl earlier ↦ inr (get_contains j a i earlier, last.1)
    | inr end ↦ absurd (omega (arith, less, last.0, end.0))
  ]
]

-- a list with one more, parted at an element: this is the one more, or it stood there before
parted : {A : Type 0} (xs earlier since : List A) (x y : A) → xs ++ x ∷ [] ≡ earlier ++ y ∷ since
    → ((since ≡ []) × (x ≡ y)) ⊎ ((rest : List A) × (since ≡ rest ++ x ∷ []) × (xs ≡ earlier ++ y ∷ rest))
parted [] [] since x y e = let same : x ≡ y = cc in let none : since ≡ [] = cc in inl (none, same)
parted [] (z ∷ []) since x y e = absurd (cc)
parted [] (z ∷ w ∷ earlier) since x y e = absurd (cc)
parted (z ∷ xs) [] since x y e = let same : z ≡ y = cc in let rest : since ≡ xs ++ x ∷ [] = cc in inr (xs, rest, ap (λ w. w ∷ xs) same)
parted (z ∷ xs) (w ∷ earlier) since x y e =
    let same : z ≡ w = cc in
    let rest : xs ++ x ∷ [] ≡ earlier ++ y ∷ since = cc in
    elim (parted xs earlier since x y rest) [
      | inl last ↦ inl last
      | inr more ↦ inr (more.0, more.1, cc (same, more.2))
    ]

-- ---- what a journal tells of a request

-- it came, and neither ran nor was cancelled nor sent, and no channel ended since
pub record IsUnrun (key : Key) (j : List Item) : Type 0 where
  pub came : Contains j (Came key)
  pub unsettled : All (λ x. ¬ (Settles key x)) j
  pub unsent : All (λ x. x ≢ Sent key) j
  pub remembered : ¬ (IsBefore j (Came key) (Cut Dropped))

-- and its device wasn't cut off since
pub record IsFresh (key : Key) (j : List Item) : Type 0 where
  pub unrun : IsUnrun key j
  pub uncut : (cause : Cause) → ¬ (IsBefore j (Came key) (Cut cause))

-- or was removed since
pub record IsOvertaken (key : Key) (j : List Item) : Type 0 where
  pub unrun : IsUnrun key j
  pub removed : IsBefore j (Came key) (Cut Removed)

-- it ran or was cancelled, and wasn't sent, and no channel ended since
pub record IsRun (key : Key) (j : List Item) : Type 0 where
  pub came : Contains j (Came key)
  pub settled : Any (Settles key) j
  pub unsent : All (λ x. x ≢ Sent key) j
  pub remembered : ¬ (IsBefore j (Came key) (Cut Dropped))

-- and doesn't wait any more
pub record IsDone (key : Key) (j : List Item) : Type 0 where
  pub run : IsRun key j
  pub ended : IsEnded j key

-- an entry of which none is the request's
abbrev pub IsOther : Key → Item → Type 0
IsOther key x = ¬ (named_key x ≡ Some key)

settles_named : (key : Key) (x : Item) → Settles key x → named_key x ≡ Some key
settles_named key (Ran k moment starved parked) settles = ap Some settles
settles_named key (Cancelled k) settles = ap Some settles
settles_named key (Came k) settles = absurd settles
settles_named key (Sent k) settles = absurd settles
settles_named key (Cut cause) settles = absurd settles

never_settles : (key : Key) (x : Item) → IsOther key x → ¬ (Settles key x)
never_settles key x other settles = other (settles_named key x settles)

never_sent : (key : Key) (x : Item) → IsOther key x → x ≢ Sent key
never_sent key x other e = other (ap named_key e)

still_before : (key : Key) (j : List Item) (x b : Item) → ¬ (IsBefore j (Came key) b) → x ≢ b → ¬ (IsBefore (j ++ x ∷ []) (Came key) b)
still_before key j x b none apart before = elim (was_before j x (Came key) b before) [ inl was ↦ none was | inr last ↦ apart last.1 ]

-- ---- another's entry

module _ (key : Key) (j : List Item) (x : Item) (other : IsOther key x) where
  pub unrun_stays : x ≢ Cut Dropped → IsUnrun key j → IsUnrun key (j ++ x ∷ [])
  unrun_stays no_drop was = record {
    came = Contains-append_left j (x ∷ []) (Came key) was.came;
    unsettled = all_more (λ y. ¬ (Settles key y)) j x was.unsettled (never_settles key x other);
    unsent = all_more (λ y. y ≢ Sent key) j x was.unsent (never_sent key x other);
    remembered = still_before key j x (Cut Dropped) was.remembered no_drop;
  }

  pub fresh_stays : ((cause : Cause) → x ≢ Cut cause) → IsFresh key j → IsFresh key (j ++ x ∷ [])
  fresh_stays no_cut was = record {
    unrun = unrun_stays (no_cut Dropped) was.unrun;
    uncut = λ cause. still_before key j x (Cut cause) (was.uncut cause) (no_cut cause);
  }

  pub overtaken_stays : x ≢ Cut Dropped → IsOvertaken key j → IsOvertaken key (j ++ x ∷ [])
  overtaken_stays no_drop was = record { unrun = unrun_stays no_drop was.unrun; removed = before_more j x (Came key) (Cut Removed) was.removed }

  pub run_stays : x ≢ Cut Dropped → IsRun key j → IsRun key (j ++ x ∷ [])
  run_stays no_drop was = record {
    came = Contains-append_left j (x ∷ []) (Came key) was.came;
    settled = any_more (Settles key) j x was.settled;
    unsent = all_more (λ y. y ≢ Sent key) j x was.unsent (never_sent key x other);
    remembered = still_before key j x (Cut Dropped) was.remembered no_drop;
  }

  -- where it waited, what stood after its run still does
  ended_stays : IsEnded j key → IsEnded (j ++ x ∷ []) key
  ended_stays was earlier moment starved since e = elim (parted j earlier since x (Ran key moment starved true) e) [
    | inl last ↦ absurd (other (ap named_key last.1))
    | inr more ↦ subst (Any MayEnd) (sym more.1) (any_more MayEnd more.0 x (was earlier moment starved more.0 more.2))
  ]

  pub done_stays : x ≢ Cut Dropped → IsDone key j → IsDone key (j ++ x ∷ [])
  done_stays no_drop was = record { run = run_stays no_drop was.run; ended = ended_stays was.ended }

  -- an entry that may end what waits ends it
  pub ends : x ≢ Cut Dropped → MayEnd x → IsRun key j → IsDone key (j ++ x ∷ [])
  ends no_drop may was = record { run = run_stays no_drop was; ended = now }
    where
      now : IsEnded (j ++ x ∷ []) key
      now earlier moment starved since e = elim (parted j earlier since x (Ran key moment starved true) e) [
        | inl last ↦ absurd (other (ap named_key last.1))
        | inr more ↦ subst (Any MayEnd) (sym more.1) (any_last MayEnd more.0 x may)
      ]

-- an entry that names one key leaves what is told of each other
module _ (j : List Item) (x : Item) (k : Key) (names : named_key x ≡ Some k) (key : Key) (apart : key ≢ k) where
  not_its : IsOther key x
  not_its e = let same : key ≡ k = cc in apart same

  no_cut : (cause : Cause) → x ≢ Cut cause
  no_cut cause e = let none : named_key x ≡ None = ap named_key e in cc

  pub fresh_on : IsFresh key j → IsFresh key (j ++ x ∷ [])
  fresh_on = fresh_stays key j x not_its no_cut

  pub overtaken_on : IsOvertaken key j → IsOvertaken key (j ++ x ∷ [])
  overtaken_on = overtaken_stays key j x not_its (no_cut Dropped)

  pub run_on : IsRun key j → IsRun key (j ++ x ∷ [])
  run_on = run_stays key j x not_its (no_cut Dropped)

  pub done_on : IsDone key j → IsDone key (j ++ x ∷ [])
  done_on = done_stays key j x not_its (no_cut Dropped)

  pub ends_by : MayEnd x → IsRun key j → IsDone key (j ++ x ∷ [])
  ends_by = ends key j x not_its (no_cut Dropped)

-- ---- its own

module _ (key : Key) (j : List Item) where
  pub comes : All (IsOther key) j → IsFresh key (j ++ Came key ∷ [])
  comes none = record {
    unrun = record {
      came = contains_last j (Came key);
      unsettled = all_more (λ y. ¬ (Settles key y)) j (Came key) (All-weaker (IsOther key) (λ y. ¬ (Settles key y)) (never_settles key) j none) (λ settles. settles);
      unsent = all_more (λ y. y ≢ Sent key) j (Came key) (All-weaker (IsOther key) (λ y. y ≢ Sent key) (never_sent key) j none) (λ e. cc);
      remembered = uncut Dropped;
    };
    uncut = uncut;
  }
    where
      uncut : (cause : Cause) → ¬ (IsBefore (j ++ Came key ∷ []) (Came key) (Cut cause))
      uncut cause before = elim (was_before j (Came key) (Came key) (Cut cause) before) [
        | inl was ↦ All-contains (IsOther key) j (Came key) none (get_contains j (Came key) was.0 was.3) refl
        | inr last ↦ cc (last.1)
      ]

  -- one that wasn't settled is, by an entry that does no more
  settled_now : (x : Item) → Settles key x → x ≢ Sent key → x ≢ Cut Dropped → IsUnrun key j → IsRun key (j ++ x ∷ [])
  settled_now x settles not_sent no_drop was = record {
    came = Contains-append_left j (x ∷ []) (Came key) was.came;
    settled = any_last (Settles key) j x settles;
    unsent = all_more (λ y. y ≢ Sent key) j x was.unsent not_sent;
    remembered = still_before key j x (Cut Dropped) was.remembered no_drop;
  }

  -- it never waited
  answered_now : (x : Item) → ((moment : ℕ) (starved : Bool) → x ≢ Ran key moment starved true) → IsUnrun key j → IsEnded (j ++ x ∷ []) key
  answered_now x no_wait was earlier moment starved since e = elim (parted j earlier since x (Ran key moment starved true) e) [
    | inl last ↦ absurd (no_wait moment starved last.1)
    | inr more ↦ absurd (All-contains (λ y. ¬ (Settles key y)) j (Ran key moment starved true) was.unsettled
        (subst (λ (ys : List Item). Contains ys (Ran key moment starved true)) (sym more.2) (contains_middle earlier (Ran key moment starved true) more.0)) refl)
  ]

  pub runs : (moment : ℕ) (starved parked : Bool) → IsFresh key j → IsRun key (j ++ Ran key moment starved parked ∷ [])
  runs moment starved parked was = settled_now (Ran key moment starved parked) refl (λ e. cc) (λ e. cc) was.unrun

  pub answers : (moment : ℕ) (starved : Bool) → IsFresh key j → IsDone key (j ++ Ran key moment starved false ∷ [])
  answers moment starved was = record { run = runs moment starved false was; ended = answered_now (Ran key moment starved false) (λ m s e. cc) was.unrun }

  pub cancels : IsUnrun key j → IsDone key (j ++ Cancelled key ∷ [])
  cancels was = record {
    run = settled_now (Cancelled key) refl (λ e. cc) (λ e. cc) was;
    ended = answered_now (Cancelled key) (λ m s e. cc) was;
  }

  pub removes : IsFresh key j → IsOvertaken key (j ++ Cut Removed ∷ [])
  removes was = record {
    unrun = unrun_stays key j (Cut Removed) (λ e. cc) (λ e. cc) was.unrun;
    removed = before_last j (Came key) (Cut Removed) was.unrun.came;
  }

-- ---- a lawful journal with one entry more

-- what an entry has to meet, but for how many are unsent
pub record MayFollow (j : List Item) (x : Item) : Type 0 where
  pub rises : RisesAbove j x
  pub settles : SettlesFirst j x
  pub sends : SendsFirst j x
  pub runs : RunsUncut j x
  pub cancels : CancelsRemoved j x
  pub names : NamesRemembered j x

cuts_few : (j : List Item) (x : Item) → IsLawful j → CutsFewUnsent j x
cuts_few j (Cut cause) law = law.few_unsent.1
cuts_few j (Came key) law = tt
cuts_few j (Ran key moment starved parked) law = tt
cuts_few j (Cancelled key) law = tt
cuts_few j (Sent key) law = tt

pub lawful_more : (j : List Item) (x : Item) → IsLawful j → MayFollow j x → FewUnsent (j ++ x ∷ []) → IsLawful (j ++ x ∷ [])
lawful_more j x law may few = record {
  keys_rise = EachAfter-append RisesAbove j x law.keys_rise may.rises;
  runs_once = EachAfter-append SettlesFirst j x law.runs_once may.settles;
  sent_once = EachAfter-append SendsFirst j x law.sent_once may.sends;
  no_run_after_cut = EachAfter-append RunsUncut j x law.no_run_after_cut may.runs;
  cancelled_after_removal = EachAfter-append CancelsRemoved j x law.cancelled_after_removal may.cancels;
  drop_forgets = EachAfter-append NamesRemembered j x law.drop_forgets may.names;
  few_unsent = (EachAfter-append CutsFewUnsent j x law.few_unsent.0 (cuts_few j x law), few);
}

module _ (key : Key) (j : List Item) (low : NoneAboveChannel key.channel j) where
  pub may_come : All (IsOther key) j → ((earlier : Key) → Contains j (Came earlier) → IsBelow earlier key) → MayFollow j (Came key)
  may_come none above = record {
    rises = above;
    settles = tt;
    sends = tt;
    runs = tt;
    cancels = tt;
    names = (λ before. All-contains (IsOther key) j (Came key) none (get_contains j (Came key) before.0 before.3) refl, low);
  }

  pub may_run : (moment : ℕ) (starved parked : Bool) → IsFresh key j → MayFollow j (Ran key moment starved parked)
  may_run moment starved parked is = record { rises = tt; settles = (is.unrun.came, is.unrun.unsettled); sends = tt; runs = is.uncut; cancels = tt; names = (is.unrun.remembered, low) }

  pub may_cancel : IsOvertaken key j → MayFollow j (Cancelled key)
  may_cancel is = record { rises = tt; settles = (is.unrun.came, is.unrun.unsettled); sends = tt; runs = tt; cancels = is.removed; names = (is.unrun.remembered, low) }

  pub may_send : IsDone key j → MayFollow j (Sent key)
  may_send is = record { rises = tt; settles = tt; sends = (is.run.settled, is.ended, is.run.unsent); runs = tt; cancels = tt; names = (is.run.remembered, low) }

pub may_cut : (j : List Item) (cause : Cause) → MayFollow j (Cut cause)
may_cut j cause = record { rises = tt; settles = tt; sends = tt; runs = tt; cancels = tt; names = tt }
