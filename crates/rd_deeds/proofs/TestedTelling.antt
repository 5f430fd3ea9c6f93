-- Deeds on few channels that pass tests stand where they may, and are told in order.
use Rattle.std.proofs.Common.{◌≡◌, refl, sym, subst, inl, inr, ℕ, ◌-◌, ◌==◌, ◌&&◌, ◌||◌, not, Bool, true, false, cond, List, [], ◌∷◌, length, drop, eqb-true, Option, Some, None, bytes_eq, filter}
use Rattle.std.specs.Cmp.Lexicographic.{bytes_decides}
use Rattle.std.specs.List.{cons_option, list_all, list_any}
use Rattle.std.specs.Option.{option_map_or}
use Rattle.std.proofs.lemmas.Bool.{and_parts, or_cases, not-true, cases_Bool}
use Rattle.rd_base.specs.declared.journal.Item.{Item}
use Rattle.rd_base.specs.declared.journal.Item.TheVariants.{Came, Sent}
use Rattle.rd_base.specs.declared.journal.Key.{Key}
use Rattle.rd_base.specs.declared.packet.Packet.TheVariants.{IoCompletion}
use Rattle.rd_hello.specs.Moves.{is_of}
use Rattle.rd_irp.specs.declared.completion.Head.{Head}
use Rattle.rd_irp.specs.declared.request.Request.{Request}
use Rattle.rd_deeds.specs.Joining.{Stands}
use Rattle.rd_deeds.specs.Talk.{Deed, EachAfter, EndsWith, Has, client_read, client_reads, client_writes, completes, head_in, is_completion_of, is_request, journal, request_at, request_in, stores}
use Rattle.rd_base.specs.Statuses.{insufficient_resources}
use Rattle.rd_deeds.specs.Told.{ComesUnworn, says_worn, came, is_of_device, requests_to, sent, sent_at, told, unserved}
use Rattle.rd_deeds.proofs.TestedDeeds.{each, end_is}
use Rattle.rd_station.proofs.Members.{key_self}
use Rattle.rd_deeds.proofs.TestedJournals.{is_came, is_sent, sent_is}

-- ---- few channels and few devices

abbrev pub among : ℕ → List ℕ → Bool
among x xs = list_any (λ y. x == y) xs

pub strange : (x y : ℕ) (xs : List ℕ) → among x xs ≡ true → among y xs ≡ false → (x == y) ≡ false
strange x y xs is isnt = go (x == y) refl
  where
    go : (b : Bool) → (x == y) ≡ b → b ≡ false
    go false e = refl
    go true e = let also : among y xs ≡ true = subst (λ z. among z xs ≡ true) (eqb-true x y e) is in absurd (cc)

pub of_members : (p : ℕ → Bool) (xs : List ℕ) → list_all p xs ≡ true → (x : ℕ) → among x xs ≡ true → p x ≡ true
of_members p [] e x is = absurd (cc)
of_members p (y ∷ ys) e x is =
    let parts = and_parts _ _ e in
    elim (or_cases _ _ is) [
      | inl same ↦ subst (λ z. p z ≡ true) (sym (eqb-true x y same)) parts.0
      | inr later ↦ of_members p ys parts.1 x later
    ]

abbrev is_keyed : List ℕ → Item → Bool
is_keyed channels (Sent key) = among key.channel channels
is_keyed channels _ = true

abbrev is_asking : List ℕ → List ℕ → Bool
is_asking devices m = option_map_or (λ (r : Request). among r.device devices) (request_in m) true

abbrev is_telling : List ℕ → List ℕ → Bool
is_telling devices m = option_map_or (λ (h : Head). among h.device devices) (head_in m) true

-- entries, requests and completions are of these channels and devices
abbrev pub is_known : List ℕ → List ℕ → List Deed → Deed → Bool
is_known channels devices before (stores device item) = among device devices && is_keyed channels item
is_known channels devices before (client_reads c m) = among c channels && is_asking devices m
is_known channels devices before (completes key m) = among key.channel channels && is_telling devices m
is_known channels devices before _ = true

module _ (channels devices : List ℕ) where
  abbrev pub are_known : List Deed → Bool
  are_known deeds = each (is_known channels devices) deeds

  older_known : (x : Deed) (before : List Deed) → are_known (x ∷ before) ≡ true → are_known before ≡ true
  older_known x before e = (and_parts _ _ e).1

  pub no_journal : (deeds : List Deed) → are_known deeds ≡ true → (d : ℕ) → among d devices ≡ false → journal d deeds ≡ []
  no_journal [] e d isnt = refl
  no_journal (stores device item ∷ before) e d isnt =
      let parts = and_parts _ _ e in
      let other = strange device d devices (and_parts _ _ parts.0).0 isnt in
      rw other (no_journal before parts.1 d isnt)
  no_journal (x ∷ before) e d isnt = no_journal before (older_known x before e) d isnt

  nothing_read : (deeds : List Deed) → are_known deeds ≡ true → (c : ℕ) → among c channels ≡ false → client_read c deeds ≡ []
  nothing_read [] e c isnt = refl
  nothing_read (client_reads channel m ∷ before) e c isnt =
      let parts = and_parts _ _ e in
      let other = strange channel c channels (and_parts _ _ parts.0).0 isnt in
      rw other (nothing_read before parts.1 c isnt)
  nothing_read (x ∷ before) e c isnt = nothing_read before (older_known x before e) c isnt

  nothing_told : (deeds : List Deed) → are_known deeds ≡ true → (c : ℕ) → among c channels ≡ false → (d : ℕ) → told c d deeds ≡ []
  nothing_told [] e c isnt d = refl
  nothing_told (completes key m ∷ before) e c isnt d =
      let parts = and_parts _ _ e in
      let other = strange key.channel c channels (and_parts _ _ parts.0).0 isnt in
      rw other (nothing_told before parts.1 c isnt d)
  nothing_told (x ∷ before) e c isnt d = nothing_told before (older_known x before e) c isnt d

  not_of_device : (m : List ℕ) → is_telling devices m ≡ true → (d : ℕ) → among d devices ≡ false → is_of_device d m ≡ false
  not_of_device m e d isnt = go (head_in m) e
    where
      go : (o : Option Head) → option_map_or (λ (h : Head). among h.device devices) o true ≡ true → option_map_or (λ (h : Head). h.device == d) o false ≡ false
      go None e = refl
      go (Some h) e = strange h.device d devices e isnt

  none_told : (deeds : List Deed) → are_known deeds ≡ true → (c d : ℕ) → among d devices ≡ false → told c d deeds ≡ []
  none_told [] e c d isnt = refl
  none_told (completes key m ∷ before) e c d isnt =
      let parts = and_parts _ _ e in
      let other = not_of_device m (and_parts _ _ parts.0).1 d isnt in
      go (key.channel == c) (is_of_device d m) other (none_told before parts.1 c d isnt)
    where
      go : (b q : Bool) → q ≡ false → {xs : List ℕ} → xs ≡ [] → cons_option (cond (b && q) (Some key.index) None) xs ≡ []
      go true false e old = old
      go false q e old = old
      go true true e old = absurd (cc)
  none_told (x ∷ before) e c d isnt = none_told before (older_known x before e) c d isnt

  -- the requests among messages that all ask these devices are to no other
  no_requests : (ms : List (List ℕ)) → list_all (is_asking devices) ms ≡ true → (d : ℕ) → among d devices ≡ false → requests_to d ms ≡ []
  no_requests [] e d isnt = refl
  no_requests (m ∷ ms) e d isnt =
      let parts = and_parts _ _ e in
      go (is_request m) (option_map_or (λ (r : Request). r.device == d) (request_in m) false) (other (request_in m) parts.0) _ _ (no_requests ms parts.1 d isnt)
    where
      other : (o : Option Request) → option_map_or (λ (r : Request). among r.device devices) o true ≡ true → option_map_or (λ (r : Request). r.device == d) o false ≡ false
      other None e = refl
      other (Some r) e = strange r.device d devices e isnt

      go : (b q : Bool) → q ≡ false → (x : ℕ) (xs : List ℕ) → xs ≡ [] → cond (b && q) (x ∷ xs) xs ≡ []
      go true false e x xs old = old
      go false q e x xs old = old
      go true true e x xs old = absurd (cc)

  asks_known : (deeds : List Deed) → are_known deeds ≡ true → (c : ℕ) → list_all (is_asking devices) (client_read c deeds) ≡ true
  asks_known [] e c = refl
  asks_known (client_reads channel m ∷ before) e c =
      let parts = and_parts _ _ e in
      go (channel == c) (and_parts _ _ parts.0).1 (client_read c before) (asks_known before parts.1 c)
    where
      go : (b : Bool) → is_asking devices m ≡ true → (ms : List (List ℕ)) → list_all (is_asking devices) ms ≡ true → list_all (is_asking devices) (cons_option (cond b (Some m) None) ms) ≡ true
      go true asks ms old = rw asks old
      go false asks ms old = old
  asks_known (x ∷ before) e c = asks_known before (older_known x before e) c

  -- what a journal sent is of these channels
  nothing_sent : (deeds : List Deed) → are_known deeds ≡ true → (c : ℕ) → among c channels ≡ false → (d : ℕ) → sent c (journal d deeds) ≡ []
  nothing_sent [] e c isnt d = refl
  nothing_sent (stores device item ∷ before) e c isnt d =
      let parts = and_parts _ _ e in
      go (device == d) (unsent item (and_parts _ _ parts.0).1) (journal d before) (nothing_sent before parts.1 c isnt d)
    where
      unsent : (x : Item) → is_keyed channels x ≡ true → sent_at c x ≡ None
      unsent (Sent key) e = let other = strange key.channel c channels e isnt in rw other refl
      unsent _ e = refl

      go : (b : Bool) → sent_at c item ≡ None → (items : List Item) → sent c items ≡ [] → sent c (cons_option (cond b (Some item) None) items) ≡ []
      go true none items old = rw none old
      go false none items old = old
  nothing_sent (x ∷ before) e c isnt d = nothing_sent before (older_known x before e) c isnt d

  -- ---- what holds of all channels and devices

  -- what holds of the journals of these devices and of an empty one holds of all
  pub of_journals : (p : List Item → Bool) (deeds : List Deed) → are_known deeds ≡ true → list_all (λ d. p (journal d deeds)) devices ≡ true → p [] ≡ true → (d : ℕ) → p (journal d deeds) ≡ true
  of_journals p deeds known e none d = elim (cases_Bool (among d devices)) [
    | inl is ↦ of_members (λ d. p (journal d deeds)) devices e d is
    | inr isnt ↦ let empty = no_journal deeds known d isnt in subst (λ items. p items ≡ true) (sym empty) none
  ]

  -- of all of these channels and devices
  abbrev pub of_all : (ℕ → ℕ → Bool) → Bool
  of_all p = list_all (λ c. list_all (p c) devices) channels

  abbrev pub sent_same : List Deed → ℕ → ℕ → Bool
  sent_same deeds c d = bytes_eq (filter (came c (journal d deeds)) (told c d deeds)) (sent c (journal d deeds))

  abbrev pub direct_same : List Deed → ℕ → ℕ → Bool
  direct_same deeds c d =
      let whole = unserved c d deeds (requests_to d (client_read c deeds)) in
      let part = unserved c d deeds (told c d deeds) in
      bytes_eq (drop (length whole - length part) whole) part

  pub sent_by_test : (deeds : List Deed) → are_known deeds ≡ true → of_all (sent_same deeds) ≡ true → (c d : ℕ) → filter (came c (journal d deeds)) (told c d deeds) ≡ sent c (journal d deeds)
  sent_by_test deeds known e c d = go (among c channels) (among d devices) refl refl
    where
      go : (b q : Bool) → among c channels ≡ b → among d devices ≡ q → filter (came c (journal d deeds)) (told c d deeds) ≡ sent c (journal d deeds)
      go true true is ours =
          (bytes_decides (filter (came c (journal d deeds)) (told c d deeds)) (sent c (journal d deeds))).0
          (of_members (sent_same deeds c) devices (of_members (λ x. list_all (sent_same deeds x) devices) channels e c is) d ours)
      go false q isnt theirs = rw (nothing_told deeds known c isnt d, nothing_sent deeds known c isnt d) refl
      go true false is theirs = rw (none_told deeds known c d theirs, no_journal deeds known d theirs) refl

  pub direct_by_test : (deeds : List Deed) → are_known deeds ≡ true → of_all (direct_same deeds) ≡ true
      → (c d : ℕ) → EndsWith (unserved c d deeds (requests_to d (client_read c deeds))) (unserved c d deeds (told c d deeds))
  direct_by_test deeds known e c d = go (among c channels) (among d devices) refl refl
    where
      go : (b q : Bool) → among c channels ≡ b → among d devices ≡ q → EndsWith (unserved c d deeds (requests_to d (client_read c deeds))) (unserved c d deeds (told c d deeds))
      go true true is ours =
          let whole = unserved c d deeds (requests_to d (client_read c deeds)) in
          let part = unserved c d deeds (told c d deeds) in
          end_is whole part ((bytes_decides (drop (length whole - length part) whole) part).0
          (of_members (direct_same deeds c) devices (of_members (λ x. list_all (direct_same deeds x) devices) channels e c is) d ours))
      go false q isnt theirs = rw (nothing_told deeds known c isnt d, nothing_read deeds known c isnt) ([], refl)
      go true false is theirs = rw (none_told deeds known c d theirs, no_requests (client_read c deeds) (asks_known deeds known c) d theirs) ([], refl)

  -- ---- where keys and completions stand

  abbrev is_to : ℕ → Option Request → Bool
  is_to device (Some r) = r.device == device
  is_to device None = false

  abbrev sent_if_came : List Deed → Key → ℕ → Bool
  sent_if_came before key d = not (list_any (is_came key) (journal d before)) || list_any (is_sent key) (journal d before)

  abbrev pub stands : List Deed → Deed → Bool
  stands before (stores device (Came key)) = is_to device (request_at (client_read key.channel before) key.index) && not (list_any (is_completion_of key) before)
  stands before (completes key m) = list_all (sent_if_came before key) devices
  stands before (client_writes c m) = not (is_of IoCompletion m)
  stands before _ = true

  any_has : (p : Item → Bool) (x : Item) → ((y : Item) → p y ≡ true → y ≡ x) → (items : List Item) → list_any p items ≡ true → Has x items
  any_has p x only [] e = absurd (cc)
  any_has p x only (y ∷ ys) e = elim (or_cases _ _ e) [ inl here ↦ inl (sym (only y here)) | inr there ↦ inr (any_has p x only ys there) ]

  has_any : (p : Item → Bool) (x : Item) → p x ≡ true → (items : List Item) → Has x items → list_any p items ≡ true
  has_any p x is [] has = absurd has
  has_any p x is (y ∷ ys) (inl same) = let first : p y ≡ true = subst (λ z. p z ≡ true) same is in rw first refl
  has_any p x is (y ∷ ys) (inr there) = go (p y) (has_any p x is ys there)
    where
      go : (b : Bool) → list_any p ys ≡ true → (b || list_any p ys) ≡ true
      go true e = refl
      go false e = e

  was_sent : (before : List Deed) → are_known before ≡ true → (key : Key) → list_all (sent_if_came before key) devices ≡ true
      → (device : ℕ) → Has (Came key) (journal device before) → Has (Sent key) (journal device before)
  was_sent before known key e device has = go (among device devices) refl
    where
      came_there : list_any (is_came key) (journal device before) ≡ true
      came_there = has_any (is_came key) (Came key) (key_self key) (journal device before) has

      go : (b : Bool) → among device devices ≡ b → Has (Sent key) (journal device before)
      go true is =
          elim (or_cases _ _ (of_members (sent_if_came before key) devices e device is)) [
            | inl never ↦ let none = not-true (list_any (is_came key) (journal device before)) never in absurd (cc (none, came_there))
            | inr found ↦ any_has (is_sent key) (Sent key) (sent_is key) (journal device before) found
          ]
      go false isnt = absurd (subst (Has (Came key)) (no_journal before known device isnt) has)

  stand_is : (before : List Deed) → are_known before ≡ true → (x : Deed) → stands before x ≡ true → Stands before x
  stand_is before known (stores device (Came key)) e = go (request_at (client_read key.channel before) key.index) refl (and_parts _ _ e).0
    where
      go : (o : Option Request) → request_at (client_read key.channel before) key.index ≡ o → is_to device o ≡ true
          → (r : Request) × (request_at (client_read key.channel before) key.index ≡ Some r) × (r.device ≡ device) × (list_any (is_completion_of key) before ≡ false)
      go (Some r) is e2 = (r, is, eqb-true r.device device e2, not-true (list_any (is_completion_of key) before) (and_parts _ _ e).1)
      go None is e2 = absurd (cc)
  stand_is before known (completes key m) e = was_sent before known key e
  stand_is before known (client_writes c m) e = not-true (is_of IoCompletion m) e
  stand_is before known _ e = tt

  pub stands_by_test : (deeds : List Deed) → are_known deeds ≡ true → each stands deeds ≡ true → EachAfter Stands deeds
  stands_by_test [] known e = tt
  stands_by_test (x ∷ before) known e =
      let parts = and_parts _ _ e in
      let older = older_known x before known in
      (stand_is before older x parts.0, stands_by_test before older parts.1)

-- ---- no journal is worn

abbrev says_insufficient : List ℕ → Bool
says_insufficient m = option_map_or (λ (h : Head). (h.status).0 == insufficient_resources.0) (head_in m) false

abbrev pub is_unworn : List Deed → Deed → Bool
is_unworn before (completes key m) = not (says_insufficient m)
is_unworn before _ = true

worn_says : (d : ℕ) (m : List ℕ) → says_worn d m ≡ true → says_insufficient m ≡ true
worn_says d m e = go (head_in m) e
  where
    go : (o : Option Head) → option_map_or (λ (h : Head). h.device == d && (h.status).0 == insufficient_resources.0) o false ≡ true
        → option_map_or (λ (h : Head). (h.status).0 == insufficient_resources.0) o false ≡ true
    go None e = e
    go (Some h) e = (and_parts _ _ e).1

none_worn : (deeds : List Deed) → each is_unworn deeds ≡ true → (k : Key) (m : List ℕ) → Has (completes k m) deeds → says_insufficient m ≡ false
none_worn [] e k m has = absurd has
none_worn (x ∷ before) e k m has =
    let parts = and_parts _ _ e in
    elim has [
      | inl same ↦ not-true (says_insufficient m) (subst (λ (y : Deed). is_unworn before y ≡ true) (sym same) parts.0)
      | inr older ↦ none_worn before parts.1 k m older
    ]

pub comes_by_test : (deeds : List Deed) → each is_unworn deeds ≡ true → EachAfter ComesUnworn deeds
comes_by_test [] e = tt
comes_by_test (x ∷ before) e = (one x, comes_by_test before (and_parts _ _ e).1)
  where
    one : (x : Deed) → ComesUnworn before x
    one (stores device (Came key)) = λ k m has same worn never. let none = none_worn before (and_parts _ _ e).1 k m has in let says = worn_says device m worn in absurd (cc (none, says))
    one _ = tt
