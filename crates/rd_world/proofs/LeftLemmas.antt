-- The requests of a channel that journals leave waiting, found by a set of their indices.
use Rattle.std.proofs.Common.{◌≡◌, ◌<◌, ◌+◌, ℕ, zero, suc, length, take, slice_get, List, [], ◌∷◌, Bool, true, false, cond, refl, sym, ap, ◌∙◌, subst, arith}
use Rattle.std.specs.Prelude.{All, IfSome, IsTrue, ◌↔◌, ◌==◌, ◌&&◌, ◌||◌, not, if◌then◌else◌, Option, Some, None}
use Rattle.std.specs.List.{list_any}
use Rattle.std.specs.Ordering.{nat_cmp}
use Rattle.std.specs.BTreeMap.{is_at}
use Rattle.std.specs.BTreeSet.{BTreeSet, btree_set_len, contains}
use Rattle.std.proofs.lemmas.Bool.{eqb-true}
use Rattle.std.proofs.lemmas.Bool.Decides.{nat_tests}
use Rattle.std.proofs.lemmas.Cmp.{nat_cmp_total}
use Rattle.std.proofs.lemmas.List.Elements.{All-head}
use Rattle.std.proofs.lemmas.Map.Views.{All-set_contains}
use Rattle.rd_base.specs.declared.journal.Item.{Item}
use Rattle.rd_base.specs.declared.journal.Item.TheVariants.{Came, Ran, Cancelled, Sent, Cut}
use Rattle.rd_base.specs.declared.journal.Key.{Key}
use Rattle.rd_base.specs.Lawful.{sends}
use Rattle.rd_station.specs.Station.{StationState}
use Rattle.rd_declared.specs.declared.device.SessionDevice.{SessionDevice}
use Rattle.rd_world.specs.Left.{is_index, is_parked_in, is_sent_in, parked_index, sent_index}
use Rattle.rd_world.specs.Run.{is_left_parked, some_left}
use Rattle.rd_world.specs.Events.{is_channel_open}
use Rattle.rd_world.specs.World.{WorldState}

at_index : (index q : ℕ) → is_at (nat_cmp index) q ≡ (q == index)
at_index index q = grind (arith, nat_tests)

same_index : (q : ℕ) → (q == q) ≡ true
same_index q = grind (arith, nat_tests)

or_more : (b c : Bool) → cond b true c ≡ (c || b)
or_more true true = refl
or_more true false = refl
or_more false true = refl
or_more false false = refl

without : (b c d : Bool) → cond b false (c && not d) ≡ (c && not (d || b))
without true true true = refl
without true true false = refl
without true false d = refl
without false true true = refl
without false true false = refl
without false false d = refl

-- an index came to the set
pub one_more : (index q : ℕ) (new old seen : Bool) → new ≡ cond (is_at (nat_cmp index) q) true old → old ≡ seen → new ≡ (seen || is_index q (Some index))
one_more index q new old seen came was = came ∙ rw (at_index index q, was) (or_more (q == index) seen)

-- an index was taken out
pub one_less : (index q : ℕ) (new old first seen : Bool) → new ≡ cond (is_at (nat_cmp index) q) false old → old ≡ (first && not seen)
    → new ≡ (first && not (seen || is_index q (Some index)))
one_less index q new old first seen came was = came ∙ rw (at_index index q, was) (without (q == index) first seen)

pub none_more : (seen : Bool) (q : ℕ) → seen ≡ (seen || is_index q None)
none_more true q = refl
none_more false q = refl

-- ---- sent

sends_index : (key : Key) (channel : ℕ) (item : Item) → (key.channel == channel) ≡ true → sends key item ≡ is_index key.index (sent_index channel item)
sends_index key channel (Sent k) on =
    let same : key.channel ≡ channel = eqb-true key.channel channel on in
    by (k.channel == channel) (ap (λ (c : ℕ). k.channel == c) same)
  where
    turned : (k.index == key.index) ≡ (key.index == k.index)
    turned = grind (arith, nat_tests)

    by : (b : Bool) → (k.channel == key.channel) ≡ b → ((k.channel == key.channel) && k.index == key.index) ≡ is_index key.index (if b then Some k.index else None)
    by true is = rw is turned
    by false is = rw is refl
sends_index key channel (Came k) on = refl
sends_index key channel (Ran k moment starved parked) on = refl
sends_index key channel (Cancelled k) on = refl
sends_index key channel (Cut cause) on = refl

sent_same : (key : Key) (channel : ℕ) (items : List Item) → (key.channel == channel) ≡ true → list_any (sends key) items ≡ is_sent_in items channel key.index
sent_same key channel [] on = refl
sent_same key channel (item ∷ items) on = rw (sends_index key channel item on, sent_same key channel items on) refl

-- ---- left

module _ (journal : List Item) (channel : ℕ) where
  -- whether an index is of a request that was left waiting by these entries, and isn't sent
  abbrev pub is_left : List Item → ℕ → Bool
  is_left items index = is_parked_in items channel index && not (is_sent_in journal channel index)

  or_false : (b c : Bool) → (b || c) ≡ false → (b ≡ false) × (c ≡ false)
  or_false false c is = (refl, is)
  or_false true c is = absurd (cc is)

  tail_out : (b c d : Bool) → ((b || c) && not d) ≡ false → (c && not d) ≡ false
  tail_out b false d out = refl
  tail_out true true d out = out
  tail_out false true d out = out

  -- no index, so no entry
  pub none_left : (items : List Item) → ((index : ℕ) → is_left items index ≡ false) → list_any (is_left_parked journal channel) items ≡ false
  none_left [] out = refl
  none_left (item ∷ items) out = rw (head item out, none_left items rest) refl
    where
      rest : (index : ℕ) → is_left items index ≡ false
      rest index = tail_out (is_index index (parked_index channel item)) (is_parked_in items channel index) (is_sent_in journal channel index) (out index)

      head : (i : Item) → ((index : ℕ) → is_left (i ∷ items) index ≡ false) → is_left_parked journal channel i ≡ false
      head (Ran key moment starved false) out = refl
      head (Ran key moment starved true) out = by (key.channel == channel) refl
        where
          by : (b : Bool) → (key.channel == channel) ≡ b → (b && not (list_any (sends key) journal)) ≡ false
          by false on = refl
          by true on =
              let there : is_index key.index (parked_index channel (Ran key moment starved true)) ≡ true = rw on (same_index key.index) in
              let told : (true && not (is_sent_in journal channel key.index)) ≡ false =
              subst (λ (b : Bool). ((b || is_parked_in items channel key.index) && not (is_sent_in journal channel key.index)) ≡ false) there (out key.index) in
              rw (sent_same key channel journal on) told
      head (Came k) out = refl
      head (Cancelled k) out = refl
      head (Sent k) out = refl
      head (Cut cause) out = refl

  -- an index, so an entry
  pub some_left_at : (items : List Item) (index : ℕ) → is_parked_in items channel index ≡ true → is_sent_in journal channel index ≡ false
      → list_any (is_left_parked journal channel) items ≡ true
  some_left_at [] index there unsent = absurd (cc there)
  some_left_at (item ∷ items) index there unsent = by (is_index index (parked_index channel item)) refl there (λ found. some_left_at items index found unsent)
    where
      or_true : (b : Bool) → (b || true) ≡ true
      or_true true = refl
      or_true false = refl

      by : (b : Bool) → is_index index (parked_index channel item) ≡ b → (b || is_parked_in items channel index) ≡ true
          → (is_parked_in items channel index ≡ true → list_any (is_left_parked journal channel) items ≡ true)
          → list_any (is_left_parked journal channel) (item ∷ items) ≡ true
      by false is there among = rw (among there) (or_true (is_left_parked journal channel item))
      by true is there among = rw (head item is) refl
        where
          head : (i : Item) → is_index index (parked_index channel i) ≡ true → is_left_parked journal channel i ≡ true
          head (Ran key moment starved false) is = absurd (cc is)
          head (Ran key moment starved true) is = on (key.channel == channel) refl is
            where
              on : (b : Bool) → (key.channel == channel) ≡ b → is_index index (if b then Some key.index else None) ≡ true → (b && not (list_any (sends key) journal)) ≡ true
              on false at is = absurd (cc is)
              on true at is =
                  let same : index ≡ key.index = eqb-true index key.index is in
                  let not_sent : is_sent_in journal channel key.index ≡ false = subst (λ (i : ℕ). is_sent_in journal channel i ≡ false) same unsent in
                  rw (sent_same key channel journal at, not_sent) refl
          head (Came k) is = absurd (cc is)
          head (Cancelled k) is = absurd (cc is)
          head (Sent k) is = absurd (cc is)
          head (Cut cause) is = absurd (cc is)

  and_true : (b c : Bool) → (b && not c) ≡ true → (b ≡ true) × (c ≡ false)
  and_true true false is = (refl, refl)
  and_true true true is = absurd (cc is)
  and_true false c is = absurd (cc is)

  full : (b : Bool) (n : ℕ) → (b ≡ true → suc n ≡ 0) → b ≡ false
  full false n never = refl
  full true n never = absurd (omega (arith, never refl))

  -- what a set without the sent ones tells
  pub told_left : (s : BTreeSet ℕ) (empty : Bool) → (IsTrue empty ↔ (btree_set_len s ≡ 0)) → ((index : ℕ) → contains nat_cmp s index ≡ is_left journal index)
      → not empty ≡ list_any (is_left_parked journal channel) journal
  told_left s empty iff has = by s.keys refl
    where
      by : (keys : List ℕ) → s.keys ≡ keys → not empty ≡ list_any (is_left_parked journal channel) journal
      by [] is =
          let none : (index : ℕ) → is_left journal index ≡ false = λ index. sym (has index) ∙ ap (list_any (is_at (nat_cmp index))) is in
          rw (iff.1 (ap length is)) (sym (none_left journal none))
      by (k ∷ ks) is =
          let found : contains nat_cmp s k ≡ true =
          All-head (λ (q : ℕ). contains nat_cmp s q ≡ true) k ks (subst (All (λ (q : ℕ). contains nat_cmp s q ≡ true)) is (All-set_contains nat_cmp_total s)) in
          let both = and_true (is_parked_in journal channel k) (is_sent_in journal channel k) (sym (has k) ∙ found) in
          rw (full empty (length ks) (λ e. sym (ap length is) ∙ iff.0 e)) (sym (some_left_at journal k both.0 both.1))

-- ---- stations

-- whether a station's journal leaves a request of a channel waiting
abbrev pub has_left : ℕ → ℕ × StationState SessionDevice → Bool
has_left channel e = let s = e.1 in list_any (is_left_parked s.journal channel) s.journal

module _ {X : Type 0} (test : X → Bool) where
  any_next : (xs : List X) (i : ℕ) (b : Bool) → i < length xs → IfSome (slice_get xs i) (λ x. test x ≡ b)
      → list_any test (take (suc i) xs) ≡ (list_any test (take i xs) || b)
  any_next [] i b within at = absurd (omega (arith, within))
  any_next (x ∷ xs) zero b within at = ap (λ (c : Bool). c || false) at ∙ or_none b
    where
      or_none : (c : Bool) → (c || false) ≡ c
      or_none true = refl
      or_none false = refl
  any_next (x ∷ xs) (suc i) b within at =
      ap (λ (c : Bool). test x || c) (any_next xs i b (omega (arith, within)) at) ∙ or_assoc (test x) (list_any test (take i xs)) b
    where
      or_assoc : (b c d : Bool) → (b || (c || d)) ≡ ((b || c) || d)
      or_assoc true c d = refl
      or_assoc false c d = refl

  -- one more
  pub any_one_more : (xs : List X) (i : ℕ) (b : Bool) → i < length xs → IfSome (slice_get xs i) (λ x. test x ≡ b)
      → list_any test (take (i + 1) xs) ≡ (list_any test (take i xs) || b)
  any_one_more xs i b within at =
      let next : i + 1 ≡ suc i = omega arith in
      ap (λ (n : ℕ). list_any test (take n xs)) next ∙ any_next xs i b within at

  -- one is enough
  pub any_at : (xs : List X) (i : ℕ) → i < length xs → IfSome (slice_get xs i) (λ x. test x ≡ true) → list_any test xs ≡ true
  any_at [] i within at = absurd (omega (arith, within))
  any_at (x ∷ xs) zero within at = rw at refl
  any_at (x ∷ xs) (suc i) within at = rw (any_at xs i (omega (arith, within)) at) (or_true (test x))
    where
      or_true : (b : Bool) → (b || true) ≡ true
      or_true true = refl
      or_true false = refl

-- what a look at a journal tells of its station
journal_left : (o : Option (ℕ × StationState SessionDevice)) (channel : ℕ) (j : List Item) (b : Bool)
    → IfSome o (λ (e : ℕ × StationState SessionDevice). let s = e.1 in s.journal ≡ j) → b ≡ list_any (is_left_parked j channel) j
    → IfSome o (λ (e : ℕ × StationState SessionDevice). has_left channel e ≡ b)
journal_left None channel j b of_it is = tt
journal_left (Some (device, s)) channel j b of_it is = ap (λ (items : List Item). list_any (is_left_parked items channel) items) of_it ∙ sym is

-- a station at a place has one
pub left_there : (v w : WorldState) → v ≡ w → (place : ℕ) (j : List Item) (b : Bool) → place < length v.stations
    → IfSome (slice_get v.stations place) (λ (e : ℕ × StationState SessionDevice). let s = e.1 in s.journal ≡ j)
    → b ≡ list_any (is_left_parked j v.channels) j → b ≡ true → is_channel_open v ≡ true → true ≡ (is_channel_open w && some_left w)
left_there v w same place j b within of_it is here opened =
    let left : some_left v ≡ true =
    any_at (has_left v.channels) v.stations place within
    (subst (λ (a : Bool). IfSome (slice_get v.stations place) (λ (e : ℕ × StationState SessionDevice). has_left v.channels e ≡ a)) here
    (journal_left (slice_get v.stations place) v.channels j b of_it is)) in
    subst (λ (x : WorldState). true ≡ (is_channel_open x && some_left x)) same (rw (opened, left) refl)

-- none has so far, and the station at this place hasn't
pub still_none : (v w : WorldState) → v ≡ w → (place : ℕ) (j : List Item) (b : Bool) → place < length v.stations
    → IfSome (slice_get v.stations place) (λ (e : ℕ × StationState SessionDevice). let s = e.1 in s.journal ≡ j)
    → b ≡ list_any (is_left_parked j v.channels) j → b ≡ false → list_any (has_left w.channels) (take place w.stations) ≡ false
    → list_any (has_left w.channels) (take (place + 1) w.stations) ≡ false
still_none v w same place j b within of_it is absent none =
    let none_there : list_any (has_left v.channels) (take place v.stations) ≡ false =
    subst (λ (x : WorldState). list_any (has_left x.channels) (take place x.stations) ≡ false) (sym same) none in
    let more : list_any (has_left v.channels) (take (place + 1) v.stations) ≡ (list_any (has_left v.channels) (take place v.stations) || b) =
    any_one_more (has_left v.channels) v.stations place b within (journal_left (slice_get v.stations place) v.channels j b of_it is) in
    subst (λ (x : WorldState). list_any (has_left x.channels) (take (place + 1) x.stations) ≡ false) same (more ∙ rw (none_there, absent) refl)
