-- What control lines tell on a channel is what is due there by what was done.
use Rattle.std.proofs.Common.{◌≡◌, ◌∙◌, refl, sym, ap, ℕ, ◌+◌, ◌==◌, ◌&&◌, ◌||◌, Bool, true, false, arith, eq-eqb, eqb-true, List, [], ◌∷◌, ◌++◌, length, Some, None, Option, length-append}
use Rattle.std.specs.Prelude.{filter, if◌then◌else◌, not}
use Rattle.std.specs.List.{cons_option}
use Rattle.std.specs.Option.{option_map_or}
use Rattle.std.proofs.lemmas.List.Elements.{filter-append, filter_map-append}
use Rattle.rd_printer.specs.declared.notice.Notice.{Notice}
use Rattle.rd_world.specs.Acts.{is_add, of_channel}
use Rattle.rd_world.specs.Control.{Act, Control, Telling, added, addition, additions, begun, ended, is_addition, is_among, lists, noticed, present, removal, removed}
use Rattle.rd_deeds.specs.Talk.{Deed, adds, client_reads, client_writes, completes, host_begins, host_ends, host_reads, host_writes, is_open_at, is_removed, on, open_channel, removes, stores, submits, takes, tells}
use Rattle.rd_acted.specs.Acted.{control_by_deeds, due_on, notices_due, there_of, where_current}

-- ---- who is absent

turned : (a b : ℕ) → (a == b) ≡ (b == a)
turned a b = by (a == b) refl (b == a) refl
  where
    by : (x : Bool) → (a == b) ≡ x → (y : Bool) → (b == a) ≡ y → x ≡ y
    by true e true f = refl
    by true e false f = absurd (cc (eq-eqb b a (sym (eqb-true a b e)), f))
    by false e true f = absurd (cc (eq-eqb a b (sym (eqb-true b a f)), e))
    by false e false f = refl

more_absent : (device : ℕ) (absent : List ℕ) (id : ℕ) → is_among (absent ++ device ∷ []) id ≡ (device == id || is_among absent id)
more_absent device [] id = refl
more_absent device (x ∷ absent) id = ap (λ (b : Bool). (x == id) || b) (more_absent device absent id) ∙ swap (x == id) (device == id) (is_among absent id)
  where
    swap : (a b c : Bool) → (a || (b || c)) ≡ (b || (a || c))
    swap true true c = refl
    swap true false c = refl
    swap false b c = refl

less_absent : (device : ℕ) (absent : List ℕ) (id : ℕ) → is_among (filter (λ x. not (x == device)) absent) id ≡ (not (device == id) && is_among absent id)
less_absent device [] id = none (not (device == id))
  where
    none : (b : Bool) → false ≡ (b && false)
    none true = refl
    none false = refl
less_absent device (x ∷ absent) id = by (x == device) refl (x == id) refl (device == id) refl (less_absent device absent id)
  where
    trans : (x == device) ≡ true → (x == id) ≡ (device == id)
    trans e = ap (λ (k : ℕ). k == id) (eqb-true x device e)

    other : (x == id) ≡ true → (x == device) ≡ (device == id)
    other e = ap (λ (k : ℕ). k == device) (eqb-true x id e) ∙ turned id device

    by : (a : Bool) → (x == device) ≡ a → (b : Bool) → (x == id) ≡ b → (c : Bool) → (device == id) ≡ c → is_among (filter (λ y. not (y == device)) absent) id ≡ (not (device == id) && is_among absent id)
        → is_among (if not a then x ∷ filter (λ y. not (y == device)) absent else filter (λ y. not (y == device)) absent) id ≡ (not c && (b || is_among absent id))
    by true e b f true g rest = rest ∙ rw g refl
    by true e true f false g rest = absurd (cc (trans e, f, g))
    by true e false f false g rest = rest ∙ rw g refl
    by false e true f true g rest = absurd (cc (other f, e, g))
    by false e true f false g rest = rw f refl
    by false e false f c g rest = rw f (rest ∙ rw g refl)

-- ---- where control lines stand by deeds

record Follows (ids : List ℕ) (deeds : List Deed) (c : Control) : Type 0 where
  devices : c.devices ≡ ids
  current : c.current ≡ open_channel deeds
  absent : (id : ℕ) → is_among c.absent id ≡ is_removed id deeds
  added : (device : ℕ) → additions c device ≡ length (filter (is_add device) deeds)

additions_more : (c : Control) (a : Act) (device : ℕ) → length (filter (is_addition device) (c.acts ++ a ∷ [])) ≡ additions c device + length (filter (is_addition device) (a ∷ []))
additions_more c a device = ap length (filter-append (is_addition device) c.acts (a ∷ [])) ∙ length-append (filter (is_addition device) c.acts) (filter (is_addition device) (a ∷ []))

no_more : (c : Control) (a : Act) (device : ℕ) → is_addition device a ≡ false → length (filter (is_addition device) (c.acts ++ a ∷ [])) ≡ additions c device
no_more c a device off =
    let none : length (filter (is_addition device) (a ∷ [])) ≡ 0 = ap (λ (b : Bool). length (if b then a ∷ [] else [])) off in
    omega (arith, additions_more c a device, none)

follows : (ids : List ℕ) (deeds : List Deed) → Follows ids deeds (control_by_deeds ids deeds)
follows ids [] = record { devices = refl; current = refl; absent = λ id. refl; added = λ device. refl }
follows ids (host_begins channel ∷ deeds) =
    let f = follows ids deeds in
    record { devices = f.devices; current = refl; absent = f.absent; added = λ device. no_more (control_by_deeds ids deeds) (begun channel) device refl ∙ f.added device }
follows ids (host_ends channel ∷ deeds) =
    let f = follows ids deeds in
    record { devices = f.devices; current = refl; absent = f.absent; added = λ device. no_more (control_by_deeds ids deeds) (ended channel) device refl ∙ f.added device }
follows ids (removes device ∷ deeds) =
    let f = follows ids deeds in
    let c : Control = control_by_deeds ids deeds in
    record {
      devices = f.devices;
      current = f.current;
      absent = λ id. more_absent device c.absent id ∙ ap (λ (b : Bool). device == id || b) (f.absent id);
      added = λ d. no_more c (removed device) d refl ∙ f.added d;
    }
follows ids (adds device ∷ deeds) =
    let f = follows ids deeds in
    let c : Control = control_by_deeds ids deeds in
    record {
      devices = f.devices;
      current = f.current;
      absent = λ id. less_absent device c.absent id ∙ ap (λ (b : Bool). not (device == id) && b) (f.absent id);
      added = λ d. count d (device == d) refl (f.added d);
    }
  where
    count : (d : ℕ) (b : Bool) → (device == d) ≡ b → additions (control_by_deeds ids deeds) d ≡ length (filter (is_add d) deeds)
        → length (filter (is_addition d) ((control_by_deeds ids deeds).acts ++ added device ∷ [])) ≡ length (if b then adds device ∷ filter (is_add d) deeds else filter (is_add d) deeds)
    count d true e before =
        let one : length (filter (is_addition d) (added device ∷ [])) ≡ 1 = ap (λ (b : Bool). length (if b then added device ∷ [] else [])) e in
        omega (arith, additions_more (control_by_deeds ids deeds) (added device) d, one, before)
    count d false e before = no_more (control_by_deeds ids deeds) (added device) d e ∙ before
follows ids (tells n ∷ deeds) =
    let f = follows ids deeds in
    record { devices = f.devices; current = f.current; absent = f.absent; added = λ device. no_more (control_by_deeds ids deeds) (noticed n) device refl ∙ f.added device }
follows ids (submits a named op ∷ deeds) = let f = follows ids deeds in record { devices = f.devices; current = f.current; absent = f.absent; added = f.added }
follows ids (takes number ∷ deeds) = let f = follows ids deeds in record { devices = f.devices; current = f.current; absent = f.absent; added = f.added }
follows ids (host_writes channel message ∷ deeds) = let f = follows ids deeds in record { devices = f.devices; current = f.current; absent = f.absent; added = f.added }
follows ids (host_reads channel message ∷ deeds) = let f = follows ids deeds in record { devices = f.devices; current = f.current; absent = f.absent; added = f.added }
follows ids (client_reads channel message ∷ deeds) = let f = follows ids deeds in record { devices = f.devices; current = f.current; absent = f.absent; added = f.added }
follows ids (client_writes channel message ∷ deeds) = let f = follows ids deeds in record { devices = f.devices; current = f.current; absent = f.absent; added = f.added }
follows ids (completes key message ∷ deeds) = let f = follows ids deeds in record { devices = f.devices; current = f.current; absent = f.absent; added = f.added }
follows ids (stores device item ∷ deeds) = let f = follows ids deeds in record { devices = f.devices; current = f.current; absent = f.absent; added = f.added }

pub present_by_deeds : (ids : List ℕ) (deeds : List Deed) → present (control_by_deeds ids deeds) ≡ there_of ids deeds
present_by_deeds ids deeds =
    ap (λ (xs : List ℕ). filter (λ device. not (is_among (control_by_deeds ids deeds).absent device)) xs) (follows ids deeds).devices ∙ go ids
  where
    go : (xs : List ℕ) → filter (λ device. not (is_among (control_by_deeds ids deeds).absent device)) xs ≡ there_of xs deeds
    go [] = refl
    go (x ∷ xs) = rw ((follows ids deeds).absent x, go xs) refl

pub current_by_deeds : (ids : List ℕ) (deeds : List Deed) → (control_by_deeds ids deeds).current ≡ open_channel deeds
current_by_deeds ids deeds = (follows ids deeds).current

-- ---- what is told

of_more : {A : Type 0} (c : ℕ) (xs ys : List (ℕ × A)) → of_channel c (xs ++ ys) ≡ of_channel c xs ++ of_channel c ys
of_more c xs ys = filter_map-append (λ t. on c t.0 t.1) xs ys

of_one : {A : Type 0} (c channel : ℕ) (x : A) → of_channel c ((channel, x) ∷ []) ≡ (if channel == c then x ∷ [] else [])
of_one {A} c channel x = by (channel == c)
  where
    by : (b : Bool) → cons_option (if b then Some x else None) [] ≡ (if b then x ∷ [] else [])
    by true = refl
    by false = refl

of_current : {A : Type 0} (ids : List ℕ) (c : ℕ) (deeds : List Deed) (x : A) → of_channel c (where_current (control_by_deeds ids deeds) x) ≡ (if is_open_at c deeds then x ∷ [] else [])
of_current {A} ids c deeds x = ap (λ (o : Option ℕ). of_channel c (option_map_or (λ channel. (channel, x) ∷ []) o [])) (current_by_deeds ids deeds) ∙ by (open_channel deeds)
  where
    by : (o : Option ℕ) → of_channel c (option_map_or (λ channel. (channel, x) ∷ []) o []) ≡ (if option_map_or (λ channel. channel == c) o false then x ∷ [] else [])
    by None = refl
    by (Some channel) = of_one c channel x

pub told_is_due : (ids : List ℕ) (c : ℕ) (deeds : List Deed) → of_channel c (control_by_deeds ids deeds).told ≡ due_on ids c deeds
told_is_due ids c [] = refl
told_is_due ids c (host_begins channel ∷ deeds) =
    of_more c (control_by_deeds ids deeds).told ((channel, lists (present (control_by_deeds ids deeds))) ∷ [])
    ∙ ap (λ (ts : List Telling). ts ++ of_channel c ((channel, lists (present (control_by_deeds ids deeds))) ∷ [])) (told_is_due ids c deeds)
    ∙ ap (λ (ts : List Telling). due_on ids c deeds ++ ts)
    (of_one c channel (lists (present (control_by_deeds ids deeds))) ∙ ap (λ (xs : List ℕ). if channel == c then lists xs ∷ [] else []) (present_by_deeds ids deeds))
told_is_due ids c (removes device ∷ deeds) =
    of_more c (control_by_deeds ids deeds).told (where_current (control_by_deeds ids deeds) (removal device))
    ∙ ap (λ (ts : List Telling). ts ++ of_channel c (where_current (control_by_deeds ids deeds) (removal device))) (told_is_due ids c deeds)
    ∙ ap (λ (ts : List Telling). due_on ids c deeds ++ ts) (of_current ids c deeds (removal device))
told_is_due ids c (adds device ∷ deeds) =
    of_more c (control_by_deeds ids deeds).told (where_current (control_by_deeds ids deeds) (addition device (additions (control_by_deeds ids deeds) device)))
    ∙ ap (λ (ts : List Telling). ts ++ of_channel c (where_current (control_by_deeds ids deeds) (addition device (additions (control_by_deeds ids deeds) device)))) (told_is_due ids c deeds)
    ∙ ap (λ (ts : List Telling). due_on ids c deeds ++ ts)
    (of_current ids c deeds (addition device (additions (control_by_deeds ids deeds) device)) ∙ ap (λ (k : ℕ). if is_open_at c deeds then addition device k ∷ [] else []) ((follows ids deeds).added device))
told_is_due ids c (host_ends channel ∷ deeds) = told_is_due ids c deeds
told_is_due ids c (tells n ∷ deeds) = told_is_due ids c deeds
told_is_due ids c (submits a named op ∷ deeds) = told_is_due ids c deeds
told_is_due ids c (takes number ∷ deeds) = told_is_due ids c deeds
told_is_due ids c (host_writes channel message ∷ deeds) = told_is_due ids c deeds
told_is_due ids c (host_reads channel message ∷ deeds) = told_is_due ids c deeds
told_is_due ids c (client_reads channel message ∷ deeds) = told_is_due ids c deeds
told_is_due ids c (client_writes channel message ∷ deeds) = told_is_due ids c deeds
told_is_due ids c (completes key message ∷ deeds) = told_is_due ids c deeds
told_is_due ids c (stores device item ∷ deeds) = told_is_due ids c deeds

pub notices_are_due : (ids : List ℕ) (c : ℕ) (deeds : List Deed) → of_channel c (control_by_deeds ids deeds).notices ≡ notices_due c deeds
notices_are_due ids c [] = refl
notices_are_due ids c (tells n ∷ deeds) =
    of_more c (control_by_deeds ids deeds).notices (where_current (control_by_deeds ids deeds) n)
    ∙ ap (λ (ts : List Notice). ts ++ of_channel c (where_current (control_by_deeds ids deeds) n)) (notices_are_due ids c deeds)
    ∙ ap (λ (ts : List Notice). notices_due c deeds ++ ts) (of_current ids c deeds n)
notices_are_due ids c (host_begins channel ∷ deeds) = notices_are_due ids c deeds
notices_are_due ids c (host_ends channel ∷ deeds) = notices_are_due ids c deeds
notices_are_due ids c (removes device ∷ deeds) = notices_are_due ids c deeds
notices_are_due ids c (adds device ∷ deeds) = notices_are_due ids c deeds
notices_are_due ids c (submits a named op ∷ deeds) = notices_are_due ids c deeds
notices_are_due ids c (takes number ∷ deeds) = notices_are_due ids c deeds
notices_are_due ids c (host_writes channel message ∷ deeds) = notices_are_due ids c deeds
notices_are_due ids c (host_reads channel message ∷ deeds) = notices_are_due ids c deeds
notices_are_due ids c (client_reads channel message ∷ deeds) = notices_are_due ids c deeds
notices_are_due ids c (client_writes channel message ∷ deeds) = notices_are_due ids c deeds
notices_are_due ids c (completes key message ∷ deeds) = notices_are_due ids c deeds
notices_are_due ids c (stores device item ∷ deeds) = notices_are_due ids c deeds
