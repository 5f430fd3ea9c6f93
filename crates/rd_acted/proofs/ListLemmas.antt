-- The lists that a client tells are those of its devices that are there, with what was kept for printers; so it is in every world that lines come to.
use Rattle.std.proofs.Common.{◌≡◌, ◌∙◌, refl, sym, ap, ℕ, ◌==◌, ◌&&◌, ◌||◌, Bool, true, false, not, arith, eq-eqb, eqb-true, List, [], ◌∷◌, map, Some, None, Option}
use Rattle.std.specs.Prelude.{filter, if◌then◌else◌}
use Rattle.std.specs.List.{AllByRecursion, AllZip, cons_option}
use Rattle.std.specs.List.Sorted.{IsStrictlySortedBy}
use Rattle.std.specs.Map.{keys_of, lookup}
use Rattle.std.specs.Option.{option_map}
use Rattle.std.specs.Ordering.{nat_cmp}
use Rattle.std.specs.declared.cmp.Ordering.TheVariants.{Less}
use Rattle.std.specs.BTreeMap.{is_at}
use Rattle.std.proofs.lemmas.Bool.Decides.{nat_tests}
use Rattle.rd_client.specs.Core.{ClientCoreState, ClientDevice, announce_in, is_device, is_present, listed, listed_one, present_device}
use Rattle.rd_devices.specs.DeviceList.{list_bytes}
use Rattle.rd_printer.specs.Cache.{CacheState}
use Rattle.rd_world.specs.Acts.{list_of}
use Rattle.rd_world.specs.Control.{is_among}
use Rattle.rd_declared.specs.Devices.{Declared, PrinterNames, announce_of, device_data}
use Rattle.rd_declared.specs.Declaring.{AreOpenable, IsOpenable}
use Rattle.rd_world.specs.Run.{printers_of}
use Rattle.rd_deeds.specs.Talk.{Deed, is_removed}
use Rattle.rd_acted.proofs.DataLemmas.{HasBody, IsShaped, announced_is, id_is, zip_as, zip_both, zip_passing}
use Rattle.rd_acted.specs.Acted.{there_of}

-- ---- who is there

among_there : (p : ℕ → Bool) (ids : List ℕ) (k : ℕ) → is_among (filter p ids) k ≡ (p k && is_among ids k)
among_there p [] k = sym (none (p k))
  where
    none : (b : Bool) → (b && false) ≡ false
    none true = refl
    none false = refl
among_there p (id ∷ ids) k = by (p id) refl (id == k) refl (among_there p ids k)
  where
    same : (id == k) ≡ true → p k ≡ p id
    same e = ap p (sym (eqb-true id k e))

    none : (b : Bool) → (b && true) ≡ b
    none true = refl
    none false = refl

    by : (a : Bool) → p id ≡ a → (b : Bool) → (id == k) ≡ b → is_among (filter p ids) k ≡ (p k && is_among ids k)
        → is_among (if a then id ∷ filter p ids else filter p ids) k ≡ (p k && ((id == k) || is_among ids k))
    by true e true f rest = rw (f, same f, e) refl
    by true e false f rest = rw f rest
    by false e true f rest = rest ∙ rw (f, same f, e) refl
    by false e false f rest = rw f rest

-- ---- what is listed

module _ (ids : List ℕ) (printers : List (ℕ × PrinterNames)) (deeds : List Deed) (devices : List (ℕ × Declared)) (cache : CacheState) (c : ClientCoreState) (shaped : AllZip (IsShaped ids printers deeds) devices c.devices) where
  pub first_list : AllZip (HasBody cache) devices c.devices → list_bytes (listed c) ≡ list_of devices cache (there_of ids deeds)
  first_list bodies =
      ap list_bytes
      (zip_passing (λ (d : ℕ × Declared). is_among (there_of ids deeds) d.0) is_present (λ (d : ℕ × Declared). announce_of cache d.1) announce_in devices c.devices
      (zip_as (λ d x. IsShaped ids printers deeds d x × HasBody cache d x) (λ (d : ℕ × Declared) (x : ClientDevice). (is_present x ≡ is_among (there_of ids deeds) d.0) × (is_among (there_of ids deeds) d.0 ≡ true → announce_in x ≡ announce_of cache d.1))
      (λ d x own. (there d x own.0, λ now. announced_is ids printers deeds cache d x own.0 own.1)) devices c.devices
      (zip_both (IsShaped ids printers deeds) (HasBody cache) devices c.devices shaped bodies)))
    where
      there : (d : ℕ × Declared) (x : ClientDevice) → IsShaped ids printers deeds d x → is_present x ≡ is_among (there_of ids deeds) d.0
      there d x own = ap not own.removed_is ∙ sym (among_there (λ id. not (is_removed id deeds)) ids d.0 ∙ ap (λ (b : Bool). not (is_removed d.0 deeds) && b) own.known ∙ all (not (is_removed d.0 deeds)))
        where
          all : (b : Bool) → (b && true) ≡ b
          all true = refl
          all false = refl

  pub one_list : (device : ℕ) → AllZip (λ (d : ℕ × Declared) x. (d.0 == device) ≡ true → HasBody cache d x) devices c.devices → list_bytes (listed_one c device) ≡ list_of devices cache (device ∷ [])
  one_list device bodies =
      ap list_bytes
      (zip_passing (λ (d : ℕ × Declared). is_among (device ∷ []) d.0) (is_device device) (λ (d : ℕ × Declared). announce_of cache d.1) announce_in devices c.devices
      (zip_as (λ (d : ℕ × Declared) x. IsShaped ids printers deeds d x × ((d.0 == device) ≡ true → HasBody cache d x))
      (λ (d : ℕ × Declared) (x : ClientDevice). (is_device device x ≡ is_among (device ∷ []) d.0) × (is_among (device ∷ []) d.0 ≡ true → announce_in x ≡ announce_of cache d.1))
      (λ d x own. (there d x own.0, λ now. announced_is ids printers deeds cache d x own.0 (own.1 (here d now)))) devices c.devices
      (zip_both (IsShaped ids printers deeds) (λ (d : ℕ × Declared) x. (d.0 == device) ≡ true → HasBody cache d x) devices c.devices shaped bodies)))
    where
      here : (d : ℕ × Declared) → is_among (device ∷ []) d.0 ≡ true → (d.0 == device) ≡ true
      here d now = eq-eqb d.0 device (sym (eqb-true device d.0 (first (device == d.0) now)))
        where
          first : (b : Bool) → (b || false) ≡ true → b ≡ true
          first true e = refl
          first false e = absurd cc

      there : (d : ℕ × Declared) (x : ClientDevice) → IsShaped ids printers deeds d x → is_device device x ≡ is_among (device ∷ []) d.0
      there d x own = ap (λ (k : ℕ). k == device) (id_is ids printers deeds d x own) ∙ by (d.0 == device) refl (device == d.0) refl
        where
          by : (a : Bool) → (d.0 == device) ≡ a → (b : Bool) → (device == d.0) ≡ b → a ≡ (b || false)
          by true e true f = refl
          by false e false f = refl
          by true e false f = absurd (cc (eq-eqb device d.0 (sym (eqb-true d.0 device e)), f))
          by false e true f = absurd (cc (eq-eqb d.0 device (sym (eqb-true device d.0 f)), e))

-- ---- at first

lower : (k : ℕ) (es : List (ℕ × Declared)) → AllByRecursion (λ (n : ℕ). nat_cmp k n ≡ Less) (keys_of es) → lookup (is_at (nat_cmp k)) (printers_of es) ≡ None
lower k [] above = refl
lower k (e ∷ es) above = by (e.1).printer (lower k es above.1)
  where
    apart : is_at (nat_cmp k) e.0 ≡ false
    apart = let less : nat_cmp k e.0 ≡ Less = above.0 in grind (arith, nat_tests, less)

    by : (o : Option PrinterNames) → lookup (is_at (nat_cmp k)) (printers_of es) ≡ None → lookup (is_at (nat_cmp k)) (cons_option (option_map (λ (names : PrinterNames). (e.0, names)) o) (printers_of es)) ≡ None
    by None rest = rest
    by (Some names) rest = rw apart rest

found_first : (es : List (ℕ × Declared)) → IsStrictlySortedBy nat_cmp (keys_of es) → AllByRecursion (λ (e : ℕ × Declared). lookup (is_at (nat_cmp e.0)) (printers_of es) ≡ (e.1).printer) es
unfolding IsStrictlySortedBy
found_first [] rise = tt
found_first (e ∷ es) rise = (own (e.1).printer, later es rise.0 (found_first es rise.1))
  where
    here : is_at (nat_cmp e.0) e.0 ≡ true
    here = grind (arith, nat_tests)

    own : (o : Option PrinterNames) → lookup (is_at (nat_cmp e.0)) (cons_option (option_map (λ (names : PrinterNames). (e.0, names)) o) (printers_of es)) ≡ o
    own None = lower e.0 es rise.0
    own (Some names) = rw here refl

    later : (fs : List (ℕ × Declared)) → AllByRecursion (λ (n : ℕ). nat_cmp e.0 n ≡ Less) (keys_of fs) → AllByRecursion (λ (f : ℕ × Declared). lookup (is_at (nat_cmp f.0)) (printers_of es) ≡ (f.1).printer) fs
        → AllByRecursion (λ (f : ℕ × Declared). lookup (is_at (nat_cmp f.0)) (printers_of (e ∷ es)) ≡ (f.1).printer) fs
    later [] above all = tt
    later (f ∷ fs) above all = (by (e.1).printer, later fs above.1 all.1)
      where
        apart : is_at (nat_cmp f.0) e.0 ≡ false
        apart = let less : nat_cmp e.0 f.0 ≡ Less = above.0 in grind (arith, nat_tests, less)

        by : (o : Option PrinterNames) → lookup (is_at (nat_cmp f.0)) (cons_option (option_map (λ (names : PrinterNames). (e.0, names)) o) (printers_of es)) ≡ (f.1).printer
        by None = all.0
        by (Some names) = rw apart all.0

known_first : (ids : List ℕ) (es : List (ℕ × Declared)) → ((k : ℕ) → is_among (map (λ (e : ℕ × Declared). e.0) es) k ≡ true → is_among ids k ≡ true) → AllByRecursion (λ (e : ℕ × Declared). is_among ids e.0 ≡ true) es
known_first ids [] among = tt
known_first ids (e ∷ es) among = (among e.0 (ap (λ (b : Bool). b || is_among (map (λ (f : ℕ × Declared). f.0) es) e.0) (eq-eqb e.0 e.0 refl)), known_first ids es (λ k has. among k (more k has)))
  where
    more : (k : ℕ) → is_among (map (λ (f : ℕ × Declared). f.0) es) k ≡ true → ((e.0 == k) || is_among (map (λ (f : ℕ × Declared). f.0) es) k) ≡ true
    more k has = by (e.0 == k)
      where
        by : (b : Bool) → (b || is_among (map (λ (f : ℕ × Declared). f.0) es) k) ≡ true
        by true = refl
        by false = has

pub first_shaped : (devices : List (ℕ × Declared)) → AreOpenable devices
    → AllZip (IsShaped (map (λ (d : ℕ × Declared). d.0) devices) (printers_of devices) []) devices (map present_device (map (λ (d : ℕ × Declared). announce_of [] d.1) devices))
first_shaped devices openable = go devices openable.each (found_first devices openable.rise) (known_first (map (λ (d : ℕ × Declared). d.0) devices) devices (λ k has. has))
  where
    ids : List ℕ
    ids = map (λ (d : ℕ × Declared). d.0) devices

    bare : (d : Declared) → d.printer ≡ None → device_data [] d ≡ []
    bare d none = rw none refl

    go : (es : List (ℕ × Declared)) → AllByRecursion IsOpenable es → AllByRecursion (λ (e : ℕ × Declared). lookup (is_at (nat_cmp e.0)) (printers_of devices) ≡ (e.1).printer) es → AllByRecursion (λ (e : ℕ × Declared). is_among ids e.0 ≡ true) es
        → AllZip (IsShaped ids (printers_of devices) []) es (map present_device (map (λ (d : ℕ × Declared). announce_of [] d.1) es))
    go [] open_each found known = tt
    go (e ∷ es) open_each found known =
        (record { own = (open_each.0).same; known = known.0; found = found.0; announce_is = refl; removed_is = refl; bare = bare e.1 }, go es open_each.1 found.1 known.1)
