-- The stations of a world and the journals that the deeds tell, where one of them goes on.
use Rattle.std.proofs.Common.{◌≡◌, ◌⊎◌, ◌∙◌, refl, sym, ap, subst, inl, inr, ℕ, ◌==◌, Bool, true, false, cond, List, [], ◌∷◌, ◌++◌, length, map, reverse, arith, eqb-true, eq-eqb}
use Rattle.std.specs.Prelude.{Some, None, Option}
use Rattle.std.specs.List.{cons_option}
use Rattle.std.specs.Map.{lookup}
use Rattle.std.specs.Option.{option_map_or}
use Rattle.std.specs.Ordering.{nat_cmp}
use Rattle.std.specs.BTreeMap.{insert_entry, is_at}
use Rattle.std.proofs.lemmas.Bool.Decides.{nat_tests}
use Rattle.std.proofs.lemmas.Cmp.{nat_cmp_total}
use Rattle.std.proofs.lemmas.List.{reverse-append, reverse-reverse}
use Rattle.std.proofs.lemmas.Map.Lookups.{CmpEqualImpliesEq}
use Rattle.rd_base.specs.declared.journal.Item.{Item}
use Rattle.rd_base.specs.declared.journal.Item.TheVariants.{Came, Ran, Cancelled, Sent, Cut}
use Rattle.rd_base.specs.declared.journal.Key.{Key}
use Rattle.rd_printer.proofs.EntryLemmas.{lookup-inserted, lookup-inserted_other}
use Rattle.rd_station.specs.Memory.{NamesKey}
use Rattle.rd_station.specs.Station.{StationState}
use Rattle.rd_station.proofs.Members.{to_contains}
use Rattle.rd_deeds.specs.Talk.{Deed, EachAfter, Has, client_read, journal, request_at, stores}
use Rattle.rd_world.specs.World.{WorldState, station_at, stored_beyond, with_station}
use Rattle.rd_declared.specs.declared.device.SessionDevice.{SessionDevice}
use Rattle.rd_deeds.proofs.Journals.{contains_has}
use Rattle.rd_world.proofs.StepLemmas.{stored_more}
use Rattle.rd_journals.specs.Orderly.{AreHeld, HasStation}
use Rattle.rd_journals.specs.Reads.{ComesRead, IsGiven, IsRead}
use Rattle.rd_journals.specs.Stations.{IsOn}
use Rattle.rd_journals.proofs.CallLemmas.{AnyJob, Goes}

abbrev Of : Type 0
Of = StationState SessionDevice

-- ---- lookups

exact : CmpEqualImpliesEq nat_cmp
exact x y e = grind (arith, nat_tests, e)

not_at : (q d : ℕ) → (q == d) ≡ false → is_at (nat_cmp q) d ≡ false
not_at q d e = grind (arith, nat_tests, e)

module _ (stations : List (ℕ × Of)) (d : ℕ) (new : Of) where
  abbrev then : List (ℕ × Of)
  then = insert_entry nat_cmp stations d new

  pub has_here : HasStation then d new
  has_here = lookup-inserted nat_cmp_total exact d new stations

  pub has_elsewhere : (q : ℕ) → (q == d) ≡ false → lookup (is_at (nat_cmp q)) then ≡ lookup (is_at (nat_cmp q)) stations
  has_elsewhere q e = lookup-inserted_other nat_cmp_total exact q d new (not_at q d e) stations

  -- a station that is there then is the new one, or was there
  pub found_then : (q : ℕ) (s : Of) → HasStation then q s → ((q ≡ d) × (s ≡ new)) ⊎ (((q == d) ≡ false) × HasStation stations q s)
  found_then q s is = by (q == d) refl
    where
      by : (b : Bool) → (q == d) ≡ b → ((q ≡ d) × (s ≡ new)) ⊎ (((q == d) ≡ false) × HasStation stations q s)
      by true e =
          let same : q ≡ d = eqb-true q d e in
          let here : Some new ≡ Some s = sym has_here ∙ subst (λ (x : ℕ). HasStation then x s) same is in
          let equal : new ≡ s = cc in
          inl (same, sym equal)
      by false e = inr (e, sym (has_elsewhere q e) ∙ is)

-- ---- what a station stores

stored_here : (d : ℕ) (items : List Item) (deeds : List Deed) → journal d (map (stores d) items ++ deeds) ≡ items ++ journal d deeds
stored_here d [] deeds = refl
stored_here d (x ∷ items) deeds = ap (λ (b : Bool). cons_option (cond b (Some x) None) (journal d (map (stores d) items ++ deeds))) (eq-eqb d d refl) ∙ ap (λ (xs : List Item). x ∷ xs) (stored_here d items deeds)

stored_elsewhere : (d q : ℕ) (items : List Item) (deeds : List Deed) → (q == d) ≡ false → journal q (map (stores d) items ++ deeds) ≡ journal q deeds
stored_elsewhere d q [] deeds apart = refl
stored_elsewhere d q (x ∷ items) deeds apart = by (d == q) refl (stored_elsewhere d q items deeds apart)
  where
    by : (b : Bool) → (d == q) ≡ b → journal q (map (stores d) items ++ deeds) ≡ journal q deeds → cons_option (cond b (Some x) None) (journal q (map (stores d) items ++ deeds)) ≡ journal q deeds
    by true e later = absurd (cc (eq-eqb q d (sym (eqb-true d q e)), apart))
    by false e later = later

pub stored_unread : (d c : ℕ) (xs : List Item) (deeds : List Deed) → client_read c (map (stores d) xs ++ deeds) ≡ client_read c deeds
stored_unread d c [] deeds = refl
stored_unread d c (x ∷ xs) deeds = stored_unread d c xs deeds

stored_reads : (d : ℕ) (xs : List Item) (deeds : List Deed) → ((key : Key) → Has (Came key) xs → IsRead d key deeds) → EachAfter ComesRead deeds → EachAfter ComesRead (map (stores d) xs ++ deeds)
stored_reads d [] deeds came each = each
stored_reads d (x ∷ xs) deeds came each = (one x (λ key same. came key (inl same)), stored_reads d xs deeds (λ k has. came k (inr has)) each)
  where
    one : (y : Item) → ((key : Key) → Came key ≡ y → IsRead d key deeds) → ComesRead (map (stores d) xs ++ deeds) (stores d y)
    one (Came key) is = let (r, read, named) = is key refl in (r, ap (λ (ms : List (List ℕ)). request_at ms key.index) (stored_unread d key.channel xs deeds) ∙ read, named)
    one (Ran k m s p) is = tt
    one (Cancelled k) is = tt
    one (Sent k) is = tt
    one (Cut cause) is = tt

pub turned_has : {A : Type 0} (x : A) (xs : List A) → Has x (reverse xs) → Has x xs
turned_has x xs has = contains_has x xs (to_contains (reverse xs) x has)

pub stored_deeds : (w : WorldState) (d : ℕ) (old new : Of) → station_at w d ≡ Some old → (more : List Item) → new.journal ≡ old.journal ++ more → (with_station w d new).deeds ≡ map (stores d) (reverse more) ++ w.deeds
stored_deeds w d old new there more longer =
    ap (λ (n : ℕ). stored_beyond n d new ++ w.deeds) (ap (λ (x : Option Of). option_map_or (λ (s : Of). length s.journal) x 0) there)
    ∙ ap (λ (ds : List Deed). ds ++ w.deeds) (stored_more d old.journal new.journal more longer)

-- ---- one station goes on

module _ (New : Key → Type 0) (at then : ℕ → ℕ) (channels asked : ℕ) (w : WorldState) (d : ℕ) (old new : Of) (there : station_at w d ≡ Some old) (goes : Goes New AnyJob (then d) old new) where
  pub deeds_are : (with_station w d new).deeds ≡ map (stores d) (reverse goes.more) ++ w.deeds
  deeds_are = stored_deeds w d old new there goes.more goes.longer

  pub read_then : (c : ℕ) → client_read c (with_station w d new).deeds ≡ client_read c w.deeds
  read_then c = ap (client_read c) deeds_are ∙ stored_unread d c (reverse goes.more) w.deeds

  journal_here : journal d (with_station w d new).deeds ≡ reverse goes.more ++ journal d w.deeds
  journal_here = ap (journal d) deeds_are ∙ stored_here d (reverse goes.more) w.deeds

  journal_elsewhere : (q : ℕ) → (q == d) ≡ false → journal q (with_station w d new).deeds ≡ journal q w.deeds
  journal_elsewhere q apart = ap (journal q) deeds_are ∙ stored_elsewhere d q (reverse goes.more) w.deeds apart

  pub held_on : ((q : ℕ) → (q == d) ≡ false → then q ≡ at q) → AreHeld at channels asked w.stations w.deeds → ((key : Key) → New key → IsGiven channels asked key × IsRead d key w.deeds)
      → AreHeld then channels asked (with_station w d new).stations (with_station w d new).deeds
  held_on same held fresh = record {
    tied = λ q s is. elim (found_then w.stations d new q s is) [
      | inl (here, equal) ↦ ap (λ (x : ℕ). reverse (journal x (with_station w d new).deeds)) here ∙ tied_here ∙ ap (λ (x : Of). x.journal) (sym equal)
      | inr (apart, was) ↦ ap reverse (journal_elsewhere q apart) ∙ held.tied q s was
    ];
    on = λ q s is. elim (found_then w.stations d new q s is) [
      | inl (here, equal) ↦ subst (λ (x : ℕ). IsOn (then x) s) (sym here) (subst (IsOn (then d)) (sym equal) goes.on)
      | inr (apart, was) ↦ subst (λ (n : ℕ). IsOn n s) (sym (same q apart)) (held.on q s was)
    ];
    named = λ q s is key names. elim (found_then w.stations d new q s is) [
      | inl (here, equal) ↦ elim (goes.names key (subst (λ (x : Of). NamesKey x.journal key) equal names)) [ inl before ↦ held.named d old there key before | inr fresh_one ↦ (fresh key fresh_one).0 ]
      | inr (apart, was) ↦ held.named q s was key names
    ];
    none = λ q is. none_then q is (q == d) refl;
    reads = subst (EachAfter ComesRead) (sym deeds_are) (stored_reads d (reverse goes.more) w.deeds (λ key has. (fresh key (goes.comes key (turned_has (Came key) goes.more has))).1) held.reads);
  }
    where
      tied_here : reverse (journal d (with_station w d new).deeds) ≡ new.journal
      tied_here =
          ap reverse journal_here
          ∙ reverse-append (reverse goes.more) (journal d w.deeds)
          ∙ ap (λ (xs : List Item). xs ++ reverse (reverse goes.more)) (held.tied d old there)
          ∙ ap (λ (xs : List Item). old.journal ++ xs) (reverse-reverse goes.more)
          ∙ sym goes.longer

      none_then : (q : ℕ) → lookup (is_at (nat_cmp q)) (with_station w d new).stations ≡ None → (b : Bool) → (q == d) ≡ b → journal q (with_station w d new).deeds ≡ []
      none_then q is true e =
          let missing : lookup (is_at (nat_cmp d)) (with_station w d new).stations ≡ None = subst (λ (x : ℕ). lookup (is_at (nat_cmp x)) (with_station w d new).stations ≡ None) (eqb-true q d e) is in
          absurd (cc (has_here w.stations d new, missing))
      none_then q is false e = journal_elsewhere q e ∙ held.none q (sym (has_elsewhere w.stations d new q e) ∙ is)
