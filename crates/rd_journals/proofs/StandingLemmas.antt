-- What keeps completions where they stand: stations that name no new key, a job that comes, and what the ends do beside them.
use Rattle.std.proofs.Common.{◌≡◌, ◌⊎◌, ◌∙◌, refl, sym, ap, subst, inl, inr, ℕ, ◌==◌, ◌||◌, Bool, true, false, cond, List, [], ◌∷◌, ◌++◌, map, reverse, eqb-true, append-nil}
use Rattle.std.specs.Prelude.{Some, None, Option}
use Rattle.std.specs.List.{list_any}
use Rattle.rd_base.specs.Lawful.{named_key}
use Rattle.rd_base.specs.declared.journal.Cause.TheVariants.{Dropped}
use Rattle.rd_base.specs.declared.journal.Item.{Item}
use Rattle.rd_base.specs.declared.journal.Item.TheVariants.{Came, Ran, Cancelled, Sent, Cut}
use Rattle.rd_base.specs.declared.journal.Key.{Key}
use Rattle.rd_base.specs.declared.packet.Packet.TheVariants.{IoCompletion}
use Rattle.rd_client.specs.Core.{Outgoing}
use Rattle.rd_hello.specs.Moves.{is_of}
use Rattle.rd_station.specs.Memory.{NamesKey}
use Rattle.rd_station.specs.Station.{StationState, drop_channel, emptied, is_key}
use Rattle.rd_station.proofs.Members.{has_append, same_key}
use Rattle.rd_station.proofs.Remembering.{names_left, names_none_new}
use Rattle.rd_deeds.specs.Joining.{Stands}
use Rattle.rd_deeds.specs.Talk.{Deed, EachAfter, Has, completes, is_completion_of, stores}
use Rattle.rd_world.specs.World.{WorldState, station_at, with_station}
use Rattle.rd_declared.specs.declared.device.SessionDevice.{SessionDevice}
use Rattle.rd_journals.specs.Orderly.{HasStation}
use Rattle.rd_journals.specs.Reads.{IsRead}
use Rattle.rd_journals.specs.Standing.{AreStanding, IsNamed, IsOut, IsUnserved}
use Rattle.rd_journals.proofs.CallLemmas.{AnyJob, Goes, NoKey}
use Rattle.rd_journals.proofs.HeldLemmas.{found_then, has_elsewhere, has_here, stored_deeds, turned_has}
use Rattle.rd_journals.proofs.WritingLemmas.{AddsOwn}

abbrev Of : Type 0
Of = StationState SessionDevice

-- ---- stations that name no new key

-- the same keys are named, and what was stored is no completion
pub record Still (stations : List (ℕ × Of)) (deeds : List Deed) (stations' : List (ℕ × Of)) (deeds' : List Deed) : Type 0 where
  pub back : (key : Key) → IsNamed stations' key → IsNamed stations key
  pub on : (key : Key) → IsNamed stations key → IsNamed stations' key
  pub stand : EachAfter Stands deeds → EachAfter Stands deeds'
  pub same : (key : Key) → list_any (is_completion_of key) deeds' ≡ list_any (is_completion_of key) deeds

pub still_not : (stations : List (ℕ × Of)) (deeds : List Deed) → Still stations deeds stations deeds
still_not stations deeds = record { back = λ key named. named; on = λ key named. named; stand = λ each. each; same = λ key. refl }

pub still_then : {a b c : List (ℕ × Of)} {x y z : List Deed} → Still a x b y → Still b y c z → Still a x c z
still_then one two = record {
  back = λ key named. one.back key (two.back key named);
  on = λ key named. two.on key (one.on key named);
  stand = λ each. two.stand (one.stand each);
  same = λ key. two.same key ∙ one.same key;
}

stored_stand : (d : ℕ) (xs : List Item) (deeds : List Deed) → ((key : Key) → Has (Came key) xs → ⊥) → EachAfter Stands deeds → EachAfter Stands (map (stores d) xs ++ deeds)
stored_stand d [] deeds none each = each
stored_stand d (x ∷ xs) deeds none each = (one x (λ key same. none key (inl same)), stored_stand d xs deeds (λ key has. none key (inr has)) each)
  where
    one : (y : Item) → ((key : Key) → Came key ≡ y → ⊥) → Stands (map (stores d) xs ++ deeds) (stores d y)
    one (Came key) never = absurd (never key refl)
    one (Ran k m s p) never = tt
    one (Cancelled k) never = tt
    one (Sent k) never = tt
    one (Cut cause) never = tt

stored_same : (key : Key) (d : ℕ) (xs : List Item) (deeds : List Deed) → list_any (is_completion_of key) (map (stores d) xs ++ deeds) ≡ list_any (is_completion_of key) deeds
stored_same key d [] deeds = refl
stored_same key d (x ∷ xs) deeds = stored_same key d xs deeds

module _ (w : WorldState) (d : ℕ) (old new : Of) (there : station_at w d ≡ Some old) (more : List Item) (longer : new.journal ≡ old.journal ++ more) where
  abbrev then : WorldState
  then = with_station w d new

  named_on : (key : Key) → IsNamed w.stations key → IsNamed then.stations key
  named_on key (q, s, has, names) = by (q == d) refl
    where
      by : (b : Bool) → (q == d) ≡ b → IsNamed then.stations key
      by true e =
          let same : Some old ≡ Some s = sym there ∙ subst (λ (x : ℕ). HasStation w.stations x s) (eqb-true q d e) has in
          let equal : old ≡ s = cc in
          (d, new, has_here w.stations d new, subst (λ (js : List Item). NamesKey js key) (sym longer) (names_left old.journal more key (subst (λ (x : Of). NamesKey x.journal key) (sym equal) names)))
      by false e = (q, s, has_elsewhere w.stations d new q e ∙ has, names)

  named_back : (New : Key → Type 0) → ((key : Key) → NamesKey new.journal key → NamesKey old.journal key ⊎ New key) → (key : Key) → IsNamed then.stations key → IsNamed w.stations key ⊎ New key
  named_back New back key (q, s, has, names) = elim (found_then w.stations d new q s has) [
    | inl (here, equal) ↦ elim (back key (subst (λ (x : Of). NamesKey x.journal key) equal names)) [ inl before ↦ inl (d, old, there, before) | inr fresh ↦ inr fresh ]
    | inr (apart, was) ↦ inl (q, s, was, names)
  ]

  still_station : ((key : Key) → Has (Came key) more → ⊥) → ((key : Key) → NamesKey new.journal key → NamesKey old.journal key) → Still w.stations w.deeds then.stations then.deeds
  still_station none back = record {
    back = λ key named. elim (named_back NoKey (λ k names. inl (back k names)) key named) [ inl was ↦ was | inr never ↦ absurd never ];
    on = named_on;
    stand = λ each. subst (EachAfter Stands) (sym stored) (stored_stand d (reverse more) w.deeds (λ key has. none key (turned_has (Came key) more has)) each);
    same = λ key. ap (list_any (is_completion_of key)) stored ∙ stored_same key d (reverse more) w.deeds;
  }
    where
      stored : then.deeds ≡ map (stores d) (reverse more) ++ w.deeds
      stored = stored_deeds w d old new there more longer

pub still_goes : (w : WorldState) (d c : ℕ) (old new : Of) → station_at w d ≡ Some old → Goes NoKey AnyJob c old new → Still w.stations w.deeds (with_station w d new).stations (with_station w d new).deeds
still_goes w d c old new there goes = still_station w d old new there goes.more goes.longer goes.comes (λ key names. elim (goes.names key names) [ inl was ↦ was | inr never ↦ absurd never ])

pub still_dropped : (w : WorldState) (d : ℕ) (s : Of) → station_at w d ≡ Some s → (cut : SessionDevice) → Still w.stations w.deeds (with_station w d (drop_channel s cut)).stations (with_station w d (drop_channel s cut)).deeds
still_dropped w d s there cut = by s.live
  where
    left : Bool → Of
    left b = cond b (record (emptied s) { device = cut; live = false; journal = s.journal ++ Cut Dropped ∷ [] }) (emptied s)

    no_key : (x : Item) → Has x (Cut Dropped ∷ []) → (key : Key) → named_key x ≡ Some key → NamesKey s.journal key
    no_key x (inl same) key e = absurd (cc (same, e))
    no_key x (inr none) key e = absurd none

    never : (key : Key) → Has (Came key) (Cut Dropped ∷ []) → ⊥
    never key (inl same) = cc (same)
    never key (inr none) = none

    by : (b : Bool) → Still w.stations w.deeds (with_station w d (left b)).stations (with_station w d (left b)).deeds
    by true = still_station w d s (left true) there (Cut Dropped ∷ []) refl never (names_none_new s.journal (Cut Dropped ∷ []) no_key)
    by false = still_station w d s (left false) there [] (sym (append-nil s.journal)) (λ key none. none) (λ key names. names)

-- ---- what keeps them

module _ {channels asked : ℕ} {stations : List (ℕ × Of)} {pending : Option Key} {outbox : List Outgoing} {deeds : List Deed} (is : AreStanding channels asked stations pending outbox deeds) where
  -- what is unserved is so still
  as_out : (U V : Key → Type 0) → ((key : Key) → U key → V key) → (answers : Option Key) (m : List ℕ) → IsOut U answers m → IsOut V answers m
  as_out U V on None m out = out
  as_out U V on (Some key) m out = on key out

  pub stands_as : {channels' asked' : ℕ} {pending' : Option Key} → ((key : Key) → IsUnserved channels asked stations pending key → IsUnserved channels' asked' stations pending' key) → AreStanding channels' asked' stations pending' outbox deeds
  stands_as {channels' = c} {asked' = a} {pending' = p} on = record {
    stand = is.stand;
    out = λ o has. as_out (IsUnserved channels asked stations pending) (IsUnserved c a stations p) on o.answers o.message (is.out o has);
    closed = λ key done. elim (is.closed key done) [ inl u ↦ inl (on key u) | inr named ↦ inr named ];
  }

  pub stands_still : {stations' : List (ℕ × Of)} {deeds' : List Deed} → Still stations deeds stations' deeds' → AreStanding channels asked stations' pending outbox deeds'
  stands_still {stations' = then} still = record {
    stand = still.stand is.stand;
    out = λ o has. as_out (IsUnserved channels asked stations pending) (IsUnserved channels asked then pending) on o.answers o.message (is.out o has);
    closed = λ key done. elim (is.closed key (sym (still.same key) ∙ done)) [ inl u ↦ inl (on key u) | inr named ↦ inr (still.on key named) ];
  }
    where
      on : (key : Key) → IsUnserved channels asked stations pending key → IsUnserved channels asked then pending key
      on key u = record { given = u.given; unnamed = λ named. u.unnamed (still.back key named); other = u.other }

  pub stands_beside : (deed : Deed) → Stands deeds deed → ((key : Key) → is_completion_of key deed ≡ false) → AreStanding channels asked stations pending outbox (deed ∷ deeds)
  stands_beside deed stand none = record {
    stand = (stand, is.stand);
    out = is.out;
    closed = λ key done. is.closed key (sym (ap (λ (b : Bool). b || list_any (is_completion_of key) deeds) (none key)) ∙ done);
  }

  -- a completion of a key that is unserved, or named
  pub stands_done : (k : Key) (m : List ℕ) → Stands deeds (completes k m) → IsUnserved channels asked stations pending k ⊎ IsNamed stations k
      → AreStanding channels asked stations pending outbox (completes k m ∷ deeds)
  stands_done k m stand of = record {
    stand = (stand, is.stand);
    out = is.out;
    closed = λ key done. by key (is_key k key) refl done;
  }
    where
      by : (key : Key) (b : Bool) → is_key k key ≡ b → (b || list_any (is_completion_of key) deeds) ≡ true → IsUnserved channels asked stations pending key ⊎ IsNamed stations key
      by key true e done = subst (λ (j : Key). IsUnserved channels asked stations pending j ⊎ IsNamed stations j) (same_key k key e) of
      by key false e done = is.closed key done

  pub stands_more : (o : Outgoing) → IsOut (IsUnserved channels asked stations pending) o.answers o.message → AreStanding channels asked stations pending (outbox ++ o ∷ []) deeds
  stands_more o out = record {
    stand = is.stand;
    out = λ x has. elim (has_append x outbox (o ∷ []) has) [
      | inl before ↦ is.out x before
      | inr last ↦ elim last [ inl same ↦ subst (λ (y : Outgoing). IsOut (IsUnserved channels asked stations pending) y.answers y.message) (sym same) out | inr none ↦ absurd none ]
    ];
    closed = is.closed;
  }

  pub stands_own : {grown : List Outgoing} → AddsOwn outbox grown → AreStanding channels asked stations pending grown deeds
  stands_own (more, same, own) = record {
    stand = is.stand;
    out = λ x has. elim (has_append x outbox more (subst (Has x) same has)) [ inl before ↦ is.out x before | inr later ↦ by x.answers x.message (own x later) ];
    closed = is.closed;
  }
    where
      by : (answers : Option Key) (m : List ℕ) → (answers ≡ None) × (is_of IoCompletion m ≡ false) → IsOut (IsUnserved channels asked stations pending) answers m
      by None m is = is.1
      by (Some key) m is = absurd (cc (is.0))

  pub stands_fewer : (fewer : List Outgoing) → ((o : Outgoing) → Has o fewer → Has o outbox) → AreStanding channels asked stations pending fewer deeds
  stands_fewer fewer less = record { stand = is.stand; out = λ o has. is.out o (less o has); closed = is.closed }

-- A job comes whose key is that of no completion and of no entry.
pub stands_come : (channels asked : ℕ) (outbox : List Outgoing) (w : WorldState) (d : ℕ) (old new : Of) (key : Key) → station_at w d ≡ Some old → new.journal ≡ old.journal ++ Came key ∷ []
    → ((k : Key) → NamesKey new.journal k → NamesKey old.journal k ⊎ (k ≡ key)) → IsRead d key w.deeds → (¬ (IsNamed w.stations key)) → AreStanding channels asked w.stations (Some key) outbox w.deeds
    → AreStanding channels asked (with_station w d new).stations None outbox (with_station w d new).deeds
stands_come channels asked outbox w d old new key there longer names (r, read, device) unnamed is = record {
  stand = subst (EachAfter Stands) (sym stored) ((r, read, device, none_done (list_any (is_completion_of key) w.deeds) refl), is.stand);
  out = λ o has. by o.answers o.message (is.out o has);
  closed = λ k done. elim (is.closed k (sym (ap (list_any (is_completion_of k)) stored) ∙ done)) [ inl u ↦ inl (on k u) | inr named ↦ inr (named_on w d old new there (Came key ∷ []) longer k named) ];
}
  where
    stored : (with_station w d new).deeds ≡ stores d (Came key) ∷ w.deeds
    stored = stored_deeds w d old new there (Came key ∷ []) longer

    none_done : (b : Bool) → list_any (is_completion_of key) w.deeds ≡ b → b ≡ false
    none_done false e = refl
    none_done true e = elim (is.closed key e) [ inl u ↦ absurd (u.other refl) | inr named ↦ absurd (unnamed named) ]

    on : (k : Key) → IsUnserved channels asked w.stations (Some key) k → IsUnserved channels asked (with_station w d new).stations None k
    on k u = record {
      given = u.given;
      unnamed = λ named. elim (named_back w d old new there (Came key ∷ []) longer (λ j. j ≡ key) names k named) [ inl was ↦ u.unnamed was | inr same ↦ u.other (ap Some (sym same)) ];
      other = λ e. cc (e);
    }

    by : (answers : Option Key) (m : List ℕ) → IsOut (IsUnserved channels asked w.stations (Some key)) answers m → IsOut (IsUnserved channels asked (with_station w d new).stations None) answers m
    by None m out = out
    by (Some k) m out = on k out
