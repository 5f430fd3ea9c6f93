-- All events of one kind at once: each takes a message off what is to be sent, and is recorded. Rounds of both ends.
use Rattle.std.proofs.Common.{◌≡◌, ℕ, zero, suc, arith, sym, ◌∙◌, ap, refl, length, ◌++◌, ◌∷◌, [], List, Bool, true, false, Some, append-nil}
use Rattle.std.proofs.lemmas.List.{append_assoc}
use Rattle.rd_base.specs.declared.journal.Key.{Key}
use Rattle.rd_world.specs.Events as event
use Rattle.rd_world.specs.Events.{refreshing}
use Rattle.rd_declared.specs.Devices.{PrinterNames, printer_data}
use Rattle.rd_world.specs.Hearing.{with_client}
use Rattle.rd_client.specs.Core as client
use Rattle.std.specs.Prelude.{fold, Option, None}
use Rattle.std.specs.Option.{option_map_or}
use Rattle.std.specs.Map.{lookup}
use Rattle.std.specs.Ordering.{nat_cmp}
use Rattle.std.specs.BTreeMap.{is_at}
use Rattle.rd_world.specs.Events.{Event, act, client_has_message, client_sends_next, host_has_message, host_sends_next, is_enabled}
use Rattle.rd_world.specs.Hearing.{client_handles_all, host_handles_all}
use Rattle.rd_world.specs.Recording.{recording_of_deeds}
use Rattle.rd_world.specs.Run.{all_client_sends, all_host_sends, client_reads_all, host_count, host_reads_all, is_quiet, rounds, while_enabled}
use Rattle.rd_world.specs.Step.{recorded_by}
use Rattle.rd_world.specs.Wire.{StaysRecorded}
use Rattle.rd_world.specs.World.{WorldState, having_read}
use Rattle.rd_world.proofs.RecordedLemmas.{event_recorded}

-- ---- a message less

-- how many messages of its own the client has to send
abbrev pub client_count : WorldState → ℕ
client_count w = length ((w.client).core).outbox

pub host_sends_one : (w : WorldState) → host_has_message w ≡ true → host_count w ≡ suc (host_count (host_sends_next w))
host_sends_one w some = go (((w.side).core).core).outbox refl ((w.side).table).outbox refl
  where
    go : (ms : List (List ℕ)) → (((w.side).core).core).outbox ≡ ms → (rs : List (List ℕ)) → ((w.side).table).outbox ≡ rs
        → host_count w ≡ suc (host_count (host_sends_next w))
    go (m ∷ ms) is rs too = rw is (omega arith)
    go [] is (r ∷ rs) too = rw (is, too) (omega arith)
    go [] is [] too = let no : false ≡ true = rw (is, too) at some in absurd (cc no)

pub client_sends_one : (w : WorldState) → client_has_message w ≡ true → client_count w ≡ suc (client_count (client_sends_next w))
client_sends_one w some = go ((w.client).core).outbox refl
  where
    go : (os : List _) → ((w.client).core).outbox ≡ os → client_count w ≡ suc (client_count (client_sends_next w))
    go (o ∷ os) is = rw is refl
    go [] is = let no : false ≡ true = rw is at some in absurd (cc no)

-- ---- again and again

module _ (starves : Key → Bool) where
  once_more : (n k : ℕ) (e : Event) (w : WorldState) → n ≡ suc k → is_enabled w e ≡ true
      → while_enabled starves n e w ≡ while_enabled starves k e (act starves w e)
  once_more n k e w count can = rw (count, can) refl

  no_more : (n : ℕ) (e : Event) (w : WorldState) → is_enabled w e ≡ false → while_enabled starves n e w ≡ w
  no_more zero e w cannot = refl
  no_more (suc n) e w cannot = rw cannot refl

pub host_sends_more : (starves : Key → Bool) (w : WorldState) → host_has_message w ≡ true
    → all_host_sends starves w ≡ all_host_sends starves (host_sends_next w)
host_sends_more starves w some = once_more starves (host_count w) (host_count (host_sends_next w)) event.host_send w (host_sends_one w some) some

pub host_sent : (starves : Key → Bool) (w : WorldState) → host_has_message w ≡ false → all_host_sends starves w ≡ w
host_sent starves w none = no_more starves (host_count w) event.host_send w none

pub client_sends_more : (starves : Key → Bool) (w : WorldState) → client_has_message w ≡ true
    → all_client_sends starves w ≡ all_client_sends starves (client_sends_next w)
client_sends_more starves w some = once_more starves (client_count w) (client_count (client_sends_next w)) event.client_send w (client_sends_one w some) some

pub client_sent : (starves : Key → Bool) (w : WorldState) → client_has_message w ≡ false → all_client_sends starves w ≡ w
client_sent starves w none = no_more starves (client_count w) event.client_send w none

-- ---- the recording

pub stays_same : (w x : WorldState) (old : List ℕ) → recording_of_deeds x.deeds ≡ recording_of_deeds w.deeds → StaysRecorded w old x old
stays_same w x old quiet = ([], quiet ∙ sym (append-nil (recording_of_deeds w.deeds)), sym (append-nil old))

pub stays_then : (w x y : WorldState) (old new last : List ℕ) → StaysRecorded w old x new → StaysRecorded x new y last → StaysRecorded w old y last
stays_then w x y old new last (more, first, got) (yet_more, second, got_more) = (
  more ++ yet_more,
  second ∙ ap (λ (bytes : List ℕ). bytes ++ yet_more) first ∙ append_assoc (recording_of_deeds w.deeds) more yet_more,
  got_more ∙ ap (λ (bytes : List ℕ). bytes ++ yet_more) got ∙ append_assoc old more yet_more,
)

pub event_stays : (starves : Key → Bool) (w x : WorldState) (e : Event) (old new : List ℕ) → x ≡ act starves w e → new ≡ old ++ recorded_by w e
    → StaysRecorded w old x new
event_stays starves w x e old new acted added =
    (recorded_by w e, ap (λ (y : WorldState). recording_of_deeds y.deeds) acted ∙ event_recorded starves w e, added)

-- ---- rounds

-- a round of both ends
abbrev pub round : (Key → Bool) → WorldState → WorldState
round starves w = host_reads_all starves (client_reads_all starves (all_client_sends starves (all_host_sends starves w)))

pub rounds_done : (starves : Key → Bool) (w : WorldState) → is_quiet w ≡ true → rounds starves 1 w ≡ Some w
rounds_done starves w quiet = rw quiet refl

pub rounds_more : (starves : Key → Bool) (most : ℕ) (w x : WorldState) → is_quiet w ≡ false → x ≡ round starves w
    → rounds starves (suc most) w ≡ rounds starves most x
rounds_more starves most w x busy came = rw busy (ap (λ (y : WorldState). rounds starves most y) (sym came))

-- ---- reads

-- a read adds nothing to the recording
pub client_read_quiet : (w : WorldState) (n : ℕ)
    → recording_of_deeds (client_handles_all (record w { to_client = having_read n w.to_client })).deeds ≡ recording_of_deeds w.deeds
client_read_quiet w n = event_recorded (λ key. true) w (event.client_read n) ∙ append-nil (recording_of_deeds w.deeds)

pub host_read_quiet : (w : WorldState) (n : ℕ)
    → recording_of_deeds (host_handles_all (record w { to_host = having_read n w.to_host })).deeds ≡ recording_of_deeds w.deeds
host_read_quiet w n = event_recorded (λ key. true) w (event.host_read n) ∙ append-nil (recording_of_deeds w.deeds)

-- ---- printers that are refreshed
refreshed_side_one : (w : WorldState) (device : ℕ) → (refreshing w device).side ≡ w.side
refreshed_side_one w device = by (lookup (is_at (nat_cmp device)) w.printers)
  where
    by : (o : Option PrinterNames)
        → (option_map_or (λ (names : PrinterNames). with_client w (client.refresh w.client device (printer_data w.cache names))) o w).side ≡ w.side
    by None = refl
    by (Some names) = refl

refreshed_channels_one : (w : WorldState) (device : ℕ) → (refreshing w device).channels ≡ w.channels
refreshed_channels_one w device = by (lookup (is_at (nat_cmp device)) w.printers)
  where
    by : (o : Option PrinterNames)
        → (option_map_or (λ (names : PrinterNames). with_client w (client.refresh w.client device (printer_data w.cache names))) o w).channels ≡ w.channels
    by None = refl
    by (Some names) = refl

pub refreshed_side : (devices : List ℕ) (w : WorldState) → (fold refreshing w devices).side ≡ w.side
refreshed_side [] w = refl
refreshed_side (device ∷ devices) w = refreshed_side devices (refreshing w device) ∙ refreshed_side_one w device

pub refreshed_channels : (devices : List ℕ) (w : WorldState) → (fold refreshing w devices).channels ≡ w.channels
refreshed_channels [] w = refl
refreshed_channels (device ∷ devices) w = refreshed_channels devices (refreshing w device) ∙ refreshed_channels_one w device
