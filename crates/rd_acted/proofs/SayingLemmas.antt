-- Messages that say what things begin with; and what is due on a channel.
use Rattle.std.proofs.Common.{◌≡◌, ◌∙◌, refl, sym, ap, ℕ, ◌+◌, ◌≤◌, ◌==◌, Bool, true, false, arith, List, [], ◌∷◌, ◌++◌, length, reverse, Some, None, Option, append-nil, length-append}
use Rattle.std.specs.Prelude.{filter, if◌then◌else◌, take}
use Rattle.std.specs.List.{AllZip, cons_option}
use Rattle.std.proofs.lemmas.List.Elements.{filter-append}
use Rattle.rd_rest.proofs.ControlsNumbers.{reverse_cons}
use Rattle.rd_world.specs.Acts.{Tells, cache_after, is_telling, list_of, tellings_on}
use Rattle.rd_world.specs.Control.{Telling, addition, lists, removal}
use Rattle.rd_declared.specs.Devices.{Declared}
use Rattle.rd_deeds.specs.Talk.{Deed, client_writes, client_wrote, completes, on, until_begin, written_by_client}
use Rattle.rd_base.specs.declared.journal.Key.{Key}
use Rattle.rd_acted.specs.Acted.{SayFirst}

module _ {A : Type 0} where
  pub say_more : (Says : A → List ℕ → Type 0) (ms : List (List ℕ)) (ts more : List A) → SayFirst Says ms ts → SayFirst Says ms (ts ++ more)
  say_more Says [] ts more is = tt
  say_more Says (m ∷ ms) [] more is = absurd is
  say_more Says (m ∷ ms) (t ∷ ts) more is = (is.0, say_more Says ms ts more is.1)

  pub say_both : (Says : A → List ℕ → Type 0) (ms : List (List ℕ)) (ts : List A) (m : List ℕ) (t : A) → length ms ≡ length ts → Says t m → SayFirst Says ms ts → SayFirst Says (ms ++ m ∷ []) (ts ++ t ∷ [])
  say_both Says [] [] m t same own is = (own, tt)
  say_both Says [] (u ∷ ts) m t same own is = absurd (omega (arith, same))
  say_both Says (n ∷ ms) [] m t same own is = absurd is
  say_both Says (n ∷ ms) (u ∷ ts) m t same own is = (is.0, say_both Says ms ts m t (omega (arith, same)) own is.1)

  pub say_fewer : (Says : A → List ℕ → Type 0) (ms ns : List (List ℕ)) (ts : List A) → SayFirst Says (ms ++ ns) ts → SayFirst Says ms ts
  say_fewer Says [] ns ts is = tt
  say_fewer Says (m ∷ ms) ns [] is = absurd is
  say_fewer Says (m ∷ ms) ns (t ∷ ts) is = (is.0, say_fewer Says ms ns ts is.1)

  pub say_as : (P Q : A → List ℕ → Type 0) → ((t : A) (m : List ℕ) → P t m → Q t m) → (ms : List (List ℕ)) (ts : List A) → SayFirst P ms ts → SayFirst Q ms ts
  say_as P Q f [] ts is = tt
  say_as P Q f (m ∷ ms) [] is = absurd is
  say_as P Q f (m ∷ ms) (t ∷ ts) is = (f t m is.0, say_as P Q f ms ts is.1)

  pub say_none : (Says : A → List ℕ → Type 0) (ms : List (List ℕ)) → SayFirst Says ms [] → ms ≡ []
  say_none Says [] is = refl
  say_none Says (m ∷ ms) is = absurd is

  pub say_few : (Says : A → List ℕ → Type 0) (ms : List (List ℕ)) (ts : List A) → SayFirst Says ms ts → length ms ≤ length ts
  say_few Says [] ts is = omega arith
  say_few Says (m ∷ ms) [] is = absurd is
  say_few Says (m ∷ ms) (t ∷ ts) is = omega (arith, say_few Says ms ts is.1)

  pub say_zip : (Says : A → List ℕ → Type 0) (ms : List (List ℕ)) (ts : List A) → SayFirst Says ms ts → AllZip Says (take (length ms) ts) ms
  say_zip Says [] [] is = tt
  say_zip Says [] (t ∷ ts) is = tt
  say_zip Says (m ∷ ms) [] is = absurd is
  say_zip Says (m ∷ ms) (t ∷ ts) is = (is.0, say_zip Says ms ts is.1)

-- ---- what a channel's messages tell, after one deed more

pub wrote_more : (c : ℕ) (o : Option (List ℕ)) (ms : List (List ℕ)) → filter is_telling (reverse (cons_option o ms)) ≡ filter is_telling (reverse ms) ++ filter is_telling (cons_option o [])
wrote_more c None ms = sym (append-nil (filter is_telling (reverse ms)))
wrote_more c (Some m) ms = ap (filter is_telling) (reverse_cons m ms) ∙ filter-append is_telling (reverse ms) (m ∷ [])

-- a message that tells nothing of devices
untold : (m : List ℕ) (c channel : ℕ) → is_telling m ≡ false → filter is_telling (cons_option (on c channel m) []) ≡ []
untold m c channel none = by (channel == c)
  where
    by : (b : Bool) → filter is_telling (cons_option (if b then Some m else None) []) ≡ []
    by true = rw none refl
    by false = refl

pub completes_tell : (c : ℕ) (key : Key) (m : List ℕ) (deeds : List Deed) → is_telling m ≡ false → tellings_on c (completes key m ∷ deeds) ≡ tellings_on c deeds
completes_tell c key m deeds none =
    wrote_more c (on c key.channel m) (client_wrote c deeds) ∙ ap (λ (ms : List (List ℕ)). tellings_on c deeds ++ ms) (untold m c key.channel none) ∙ append-nil (tellings_on c deeds)

pub writes_tell : (c channel : ℕ) (m : List ℕ) (deeds : List Deed) → tellings_on c (client_writes channel m ∷ deeds) ≡ tellings_on c deeds ++ filter is_telling (cons_option (on c channel m) [])
writes_tell c channel m deeds = wrote_more c (on c channel m) (client_wrote c deeds)

-- what was told stays so
pub tells_more : (devices : List (ℕ × Declared)) (c : ℕ) (x : Deed) (deeds : List Deed) → until_begin c (x ∷ deeds) ≡ until_begin c deeds → (t : Telling) (m : List ℕ) → Tells devices deeds c t m
    → Tells devices (x ∷ deeds) c t m
tells_more devices c x deeds same (lists ids) m is = is ∙ sym (ap (λ (ds : List Deed). list_of devices (cache_after ds) ids) same)
tells_more devices c x deeds same (removal device) m is = is
tells_more devices c x deeds same (addition device count) m (since, before, parts, many, is) = (x ∷ since, before, ap (λ (ds : List Deed). x ∷ ds) parts, many, is)

-- what was told is told still
pub told_longer : (c : ℕ) (more deeds : List Deed) → length (tellings_on c deeds) ≤ length (tellings_on c (more ++ deeds))
told_longer c [] deeds = omega arith
told_longer c (x ∷ more) deeds =
    let longer : length (tellings_on c (x ∷ more ++ deeds)) ≡ length (tellings_on c (more ++ deeds)) + length (filter is_telling (cons_option (written_by_client c x) [])) =
    ap length (wrote_more c (written_by_client c x) (client_wrote c (more ++ deeds))) ∙ length-append (tellings_on c (more ++ deeds)) (filter is_telling (cons_option (written_by_client c x) [])) in
    omega (arith, longer, told_longer c more deeds)
