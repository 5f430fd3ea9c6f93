-- Which parts pass without that a client tells anything of its devices, and what the deeds of these leave as it was.
use Rattle.std.proofs.Common.{◌≡◌, ◌∙◌, refl, sym, subst, ℕ, Bool, List, [], ◌∷◌, ◌++◌, fold, Some, None}
use Rattle.rd_base.specs.declared.journal.Key.{Key}
use Rattle.rd_rest.proofs.RunsParts.{Part, accepts, adds_one, applies_one, begins, client_gets, client_hears_one, client_keeps_part, client_sends_one, collects_one, done, draws_one, ends, hands_out, host_gets, host_hears_one, host_keeps_part, host_sends_one, idle_one, queues_one, refuses, removes_one, takes_one, tells_one, tries_one}
use Rattle.rd_station.specs.Station as station
use Rattle.rd_station.specs.Station.{StationState}
use Rattle.rd_world.specs.Acts.{tellings_due, tellings_on}
use Rattle.rd_declared.specs.Devices.{device_cut}
use Rattle.rd_world.specs.Events.{came_of, completion_message, dropping}
use Rattle.rd_deeds.specs.Talk.{Deed, client_reads, completes, has_ended, host_reads, host_writes, is_removed, open_channel, stores, submits, takes, tells, until_begin}
use Rattle.rd_world.specs.World.{WorldState, station_at, with_station}
use Rattle.rd_declared.specs.declared.device.SessionDevice.{SessionDevice}
use Rattle.rd_acted.proofs.QuietLemmas.{AreSilent, IsSilent, Unspoken, completion_untold, option_unspoken, put_unspoken, stationed_unspoken, unspoken_by, unspoken_deeds, unspoken_none}
use Rattle.rd_acted.proofs.SayingLemmas.{completes_tell}
use Rattle.rd_acted.specs.Acted.{control_by_deeds, due_on}

-- ---- parts

abbrev pub IsQuiet : Part → Type 0
IsQuiet begins = ⊥
IsQuiet ends = ⊥
IsQuiet (client_sends_one c o) = ⊥
IsQuiet (client_hears_one message rest) = ⊥
IsQuiet (removes_one device o) = ⊥
IsQuiet (adds_one device names o) = ⊥
IsQuiet p = Unit {0}

pub quiet_unspoken : (starves : Key → Bool) (w : WorldState) (p : Part) → IsQuiet p → Unspoken w (done starves w p)
quiet_unspoken starves w (accepts a asked named t number) quiet = unspoken_deeds (submits a named _ ∷ []) (tt, tt) refl refl refl refl
quiet_unspoken starves w (refuses a asked cause) quiet = unspoken_deeds [] tt refl refl refl refl
quiet_unspoken starves w (hands_out a number t taken None) quiet = unspoken_deeds (takes number ∷ []) (tt, tt) refl refl refl refl
quiet_unspoken starves w (hands_out a number t taken (Some asked)) quiet = unspoken_deeds (takes number ∷ []) (tt, tt) refl refl refl refl
quiet_unspoken starves w (host_sends_one message) quiet = unspoken_deeds (host_writes w.channels message ∷ []) (tt, tt) refl refl refl refl
quiet_unspoken starves w (host_gets n) quiet = unspoken_deeds [] tt refl refl refl refl
quiet_unspoken starves w host_keeps_part quiet = unspoken_deeds [] tt refl refl refl refl
quiet_unspoken starves w (host_hears_one message rest) quiet = unspoken_deeds (host_reads w.channels message ∷ []) (tt, tt) refl refl refl refl
quiet_unspoken starves w (tells_one n) quiet = unspoken_deeds (tells n ∷ []) (tt, tt) refl refl refl refl
quiet_unspoken starves w (client_gets n) quiet = unspoken_deeds [] tt refl refl refl refl
quiet_unspoken starves w client_keeps_part quiet = unspoken_deeds [] tt refl refl refl refl
quiet_unspoken starves w (tries_one k) quiet =
    let x : WorldState = record w { kept = None } in
    unspoken_by w x _ (unspoken_deeds [] tt refl refl refl refl) (put_unspoken x k.device k.job)
quiet_unspoken starves w (collects_one device s after c) quiet =
    unspoken_by w (with_station w device after) _ (stationed_unspoken w device after)
    (unspoken_deeds (completes c.key (completion_message device c) ∷ [])
    (completion_untold c.kind (record { device = device; completion = c.completion; status = (c.reply).status }) (c.reply).body, tt) refl refl refl refl)
quiet_unspoken starves w (takes_one device hand s after job) quiet = unspoken_by w (with_station w device after) _ (stationed_unspoken w device after) (unspoken_deeds [] tt refl refl refl refl)
quiet_unspoken starves w (applies_one hand device job None) quiet = unspoken_deeds [] tt refl refl refl refl
quiet_unspoken starves w (applies_one hand device job (Some s)) quiet =
    let new : StationState SessionDevice = (station.apply s job w.moment (came_of starves w job s.device)).0 in
    unspoken_by w (with_station w device new) _ (stationed_unspoken w device new) (unspoken_deeds [] tt refl refl refl refl)
quiet_unspoken starves w (queues_one a) quiet = unspoken_deeds [] tt refl refl refl refl
quiet_unspoken starves w (idle_one number) quiet = unspoken_deeds [] tt refl refl refl refl
quiet_unspoken starves w draws_one quiet = unspoken_deeds [] tt refl refl refl refl
quiet_unspoken starves w p quiet = absurd quiet

dropped_unspoken : (w : WorldState) (device : ℕ) → Unspoken w (dropping w device)
dropped_unspoken w device =
    option_unspoken w (λ (s : StationState SessionDevice). with_station w device (station.drop_channel s (device_cut s.device).state)) (station_at w device)
    (λ s. stationed_unspoken w device (station.drop_channel s (device_cut s.device).state))

pub all_dropped_unspoken : (devices : List ℕ) (w : WorldState) → Unspoken w (fold dropping w devices)
all_dropped_unspoken [] w = unspoken_none w
all_dropped_unspoken (device ∷ devices) w = unspoken_by w (dropping w device) _ (dropped_unspoken w device) (all_dropped_unspoken devices (dropping w device))

-- ---- deeds

-- what is left as it was by a deed
pub record Left (old new : List Deed) : Type 0 where
  pub removed : (device : ℕ) → is_removed device new ≡ is_removed device old
  pub begun : (c : ℕ) → until_begin c new ≡ until_begin c old
  pub opened : open_channel new ≡ open_channel old
  pub told : (c : ℕ) → tellings_on c new ≡ tellings_on c old
  pub due : (ids : List ℕ) (c : ℕ) → due_on ids c new ≡ due_on ids c old
  pub count : (c : ℕ) → tellings_due c new ≡ tellings_due c old
  pub ended : (c : ℕ) → has_ended c new ≡ has_ended c old
  pub channels : (ids : List ℕ) → (control_by_deeds ids new).channels ≡ (control_by_deeds ids old).channels

pub left_one : (x : Deed) (deeds : List Deed) → IsSilent x → Left deeds (x ∷ deeds)
left_one (stores device item) deeds silent = record { removed = λ d. refl; begun = λ c. refl; opened = refl; told = λ c. refl; due = λ ids c. refl; count = λ c. refl; ended = λ c. refl; channels = λ ids. refl }
left_one (submits a named op) deeds silent = record { removed = λ d. refl; begun = λ c. refl; opened = refl; told = λ c. refl; due = λ ids c. refl; count = λ c. refl; ended = λ c. refl; channels = λ ids. refl }
left_one (takes number) deeds silent = record { removed = λ d. refl; begun = λ c. refl; opened = refl; told = λ c. refl; due = λ ids c. refl; count = λ c. refl; ended = λ c. refl; channels = λ ids. refl }
left_one (tells n) deeds silent = record { removed = λ d. refl; begun = λ c. refl; opened = refl; told = λ c. refl; due = λ ids c. refl; count = λ c. refl; ended = λ c. refl; channels = λ ids. refl }
left_one (host_writes channel message) deeds silent = record { removed = λ d. refl; begun = λ c. refl; opened = refl; told = λ c. refl; due = λ ids c. refl; count = λ c. refl; ended = λ c. refl; channels = λ ids. refl }
left_one (host_reads channel message) deeds silent = record { removed = λ d. refl; begun = λ c. refl; opened = refl; told = λ c. refl; due = λ ids c. refl; count = λ c. refl; ended = λ c. refl; channels = λ ids. refl }
left_one (completes key message) deeds silent = record { removed = λ d. refl; begun = λ c. refl; opened = refl; told = λ c. completes_tell c key message deeds silent; due = λ ids c. refl; count = λ c. refl; ended = λ c. refl; channels = λ ids. refl }
left_one (client_reads channel message) deeds silent = record { removed = λ d. refl; begun = λ c. refl; opened = refl; told = λ c. refl; due = λ ids c. refl; count = λ c. refl; ended = λ c. refl; channels = λ ids. refl }
left_one x deeds silent = absurd silent

pub left_all : (more deeds : List Deed) → AreSilent more → Left deeds (more ++ deeds)
left_all [] deeds silent = record { removed = λ d. refl; begun = λ c. refl; opened = refl; told = λ c. refl; due = λ ids c. refl; count = λ c. refl; ended = λ c. refl; channels = λ ids. refl }
left_all (x ∷ more) deeds silent =
    let one = left_one x (more ++ deeds) silent.0 in
    let all = left_all more deeds silent.1 in
    record {
      removed = λ d. one.removed d ∙ all.removed d;
      begun = λ c. one.begun c ∙ all.begun c;
      opened = one.opened ∙ all.opened;
      told = λ c. one.told c ∙ all.told c;
      due = λ ids c. one.due ids c ∙ all.due ids c;
      count = λ c. one.count c ∙ all.count c;
      ended = λ c. one.ended c ∙ all.ended c;
      channels = λ ids. one.channels ids ∙ all.channels ids;
    }

pub left_unspoken : (w v : WorldState) → Unspoken w v → Left w.deeds v.deeds
left_unspoken w v u = subst (Left w.deeds) (sym u.deeds) (left_all u.more w.deeds u.silent)
