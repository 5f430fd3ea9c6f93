-- What there is of the outcomes of numbers, after what changes them.
use Rattle.std.proofs.Common.{◌≡◌, refl, ℕ, ◌&&◌, Bool, true, false, cond, List, Some, None, Option}
use Rattle.std.specs.Option.{option_map, option_map_or}
use Rattle.std.specs.Ordering.{nat_cmp}
use Rattle.std.specs.Map.{keys_of, lookup, set_value}
use Rattle.std.specs.BTreeMap.{is_at}
use Rattle.std.proofs.lemmas.Map.Made.{keys_of-map_values, lookup-map_values}
use Rattle.rd_base.specs.declared.journal.Cause.{Cause}
use Rattle.rd_pending.specs.declared.calls.Outcome.{Outcome}
use Rattle.rd_pending.specs.declared.calls.Outcome.TheVariants.{Done, Lost}
use Rattle.rd_pending.specs.Outcomes.{Agrees}
use Rattle.rd_pending.specs.Table.{Fate, TableState, Untaken, awaited, is_awaited, known, losing, mark_of, untaken_at, with_fate}

-- ---- awaited

abbrev pub fate_of : Untaken → Fate
fate_of u = u.fate

abbrev pub is_waiting : Option Fate → Bool
is_waiting f = option_map_or is_awaited f false

pub awaited_is : (f : Fate) → is_awaited f ≡ true → f ≡ awaited
awaited_is awaited e = refl
awaited_is (known o) e = absurd (cc e)

pub record Waits (o : Option Untaken) : Type 0 where
  pub one : Untaken
  pub is : o ≡ Some one
  pub fate : one.fate ≡ awaited

pub waiting : (o : Option Untaken) → is_waiting (option_map fate_of o) ≡ true → Waits o
waiting None e = absurd (cc e)
waiting (Some u) e = record { one = u; is = refl; fate = awaited_is u.fate e }

-- a live slot's number is awaited
pub live_waits : (o : Option Untaken) → mark_of (option_map fate_of o) ≡ Some false → Waits o
live_waits None e = absurd (cc e)
live_waits (Some u) e = go u.fate refl e
  where
    go : (f : Fate) → u.fate ≡ f → mark_of (Some f) ≡ Some false → Waits (Some u)
    go awaited is e = record { one = u; is = refl; fate = is }
    go (known (Done reply)) is e = absurd (cc e)
    go (known (Lost cause)) is e = absurd (cc e)

-- ---- another fate

pub fate_set : (t : TableState) (number : ℕ) (u : Untaken) (f : Fate) → untaken_at t number ≡ Some u
    → with_fate t number f ≡ record t { untaken = set_value (is_at (nat_cmp number)) t.untaken (record u { fate = f }) }
fate_set t number u f e = rw e refl

-- ---- lost

abbrev pub lost : (Untaken → Bool) → Cause → Untaken → Untaken
lost test cause u = cond (is_awaited u.fate && test u) (record u { fate = known (Lost cause) }) u

pub lost_at : (test : Untaken → Bool) (cause : Cause) (n : ℕ) (es : List (ℕ × Untaken))
    → lookup (is_at (nat_cmp n)) (losing test cause es) ≡ option_map (lost test cause) (lookup (is_at (nat_cmp n)) es)
lost_at test cause n es = lookup-map_values (lost test cause) (is_at (nat_cmp n)) es

pub lost_keys : (test : Untaken → Bool) (cause : Cause) (es : List (ℕ × Untaken)) → keys_of (losing test cause es) ≡ keys_of es
lost_keys test cause es = keys_of-map_values (lost test cause) es

-- what has an outcome stays
pub kept_known : (test : Untaken → Bool) (cause : Cause) (u : Untaken) → is_awaited u.fate ≡ false → lost test cause u ≡ u
kept_known test cause u over = rw over refl

-- what doesn't pass the test stays
pub not_lost : (test : Untaken → Bool) (cause : Cause) (u : Untaken) → test u ≡ false → lost test cause u ≡ u
not_lost test cause u fails = go (is_awaited u.fate)
  where
    go : (w : Bool) → cond (w && test u) (record u { fate = known (Lost cause) }) u ≡ u
    go true = rw fails refl
    go false = refl

-- what is awaited and passes is lost
pub is_lost : (test : Untaken → Bool) (cause : Cause) (u : Untaken) → is_awaited u.fate ≡ true → test u ≡ true → lost test cause u ≡ record u { fate = known (Lost cause) }
is_lost test cause u none passes = rw (none, passes) refl

-- a loss changes a fate alone
pub lost_device : (test : Untaken → Bool) (cause : Cause) (u : Untaken) → (lost test cause u).device ≡ u.device
lost_device test cause u = go (is_awaited u.fate && test u)
  where
    go : (b : Bool) → (cond b (record u { fate = known (Lost cause) }) u).device ≡ u.device
    go true = refl
    go false = refl

pub lost_life : (test : Untaken → Bool) (cause : Cause) (u : Untaken) → (lost test cause u).life ≡ u.life
lost_life test cause u = go (is_awaited u.fate && test u)
  where
    go : (b : Bool) → (cond b (record u { fate = known (Lost cause) }) u).life ≡ u.life
    go true = refl
    go false = refl

-- what is still awaited wasn't lost
pub still_awaited : (test : Untaken → Bool) (cause : Cause) (u : Untaken) → is_awaited (lost test cause u).fate ≡ true → (lost test cause u ≡ u) × (test u ≡ false)
still_awaited test cause u none = go (is_awaited u.fate) (test u) refl refl none
  where
    go : (w b : Bool) → is_awaited u.fate ≡ w → test u ≡ b → is_awaited (cond (w && b) (record u { fate = known (Lost cause) }) u).fate ≡ true
        → (cond (w && b) (record u { fate = known (Lost cause) }) u ≡ u) × (b ≡ false)
    go true true is is2 none = absurd (cc)
    go true false is is2 none = (refl, refl)
    go false b is is2 none = absurd (cc)

-- ---- with an outcome

pub none_awaited : (f : Option Fate) (o : Option Outcome) → Agrees f o → is_waiting f ≡ true → o ≡ None
none_awaited (Some awaited) o agrees none = agrees
none_awaited (Some (known x)) o agrees none = absurd (cc none)
none_awaited None o agrees none = absurd (cc none)

pub agrees_none : (f : Option Fate) (o : Option Outcome) → is_waiting f ≡ true → o ≡ None → Agrees f o
agrees_none (Some awaited) o none e = e
agrees_none (Some (known x)) o none e = absurd (cc none)
agrees_none None o none e = absurd (cc none)

-- an outcome that stays
pub agrees_on : (f : Option Fate) (o p : Option Outcome) → ((x : Outcome) → o ≡ Some x → p ≡ Some x) → is_waiting f ≡ false → Agrees f o → Agrees f p
agrees_on (Some awaited) o p stays over agrees = absurd (cc over)
agrees_on (Some (known x)) o p stays over agrees = stays x agrees
agrees_on None o p stays over agrees = (agrees.0, stays agrees.0 agrees.1)
