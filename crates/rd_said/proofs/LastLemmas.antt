-- A job that is kept back is that of the last request that was read.
use Rattle.std.proofs.Common.{◌≡◌, ◌∙◌, refl, sym, ap, subst, ℕ, ◌+◌, ◌==◌, ◌&&◌, Bool, true, false, arith, eq-eqb, List, [], ◌∷◌, ◌++◌, length, map, fold, Some, None, Option, Result, Ok, Err}
use Rattle.std.specs.Prelude.{filter, if◌then◌else◌}
use Rattle.std.specs.Option.{option_map_or}
use Rattle.rd_base.specs.declared.journal.Key.{Key}
use Rattle.rd_client.specs.Core as client
use Rattle.rd_client.specs.Core.{ClientCoreState, Outgoing, client_hear, listed}
use Rattle.rd_client.specs.declared.heard.Heard.{Heard}
use Rattle.rd_client.specs.declared.heard.Heard.TheVariants as heard
use Rattle.rd_devices.specs.declared.list.Announce.{Announce}
use Rattle.rd_drive.specs.declared.plan.Job.{Job}
use Rattle.rd_hello.specs.declared.client.ClientState.{ClientState}
use Rattle.rd_hello.specs.declared.end_fault.EndFault.{EndFault}
use Rattle.rd_irp.specs.declared.request.Request.{Request}
use Rattle.rd_acted.proofs.JournalsAskingLemmas.{HeardAs, hears}
use Rattle.rd_acted.proofs.JournalsChannelLemmas.{all_refreshed, begun_on}
use Rattle.rd_acted.proofs.JournalsRunLemmas.{behind_orderly, not_opened}
use Rattle.rd_acted.specs.JournalsOrderly.{Orderly}
use Rattle.rd_acted.specs.JournalsStations.{AreFit}
use Rattle.rd_acted.proofs.RunsParts.{IsBehind, MayBe, Part, accepts, adds_one, applies_one, begins, by_parts, client_gets, client_hears_one, client_keeps_part, client_sends_one, collects_one, done, draws_one, ends, hands_out, host_gets, host_hears_one, host_keeps_part, host_sends_one, idle_one, queues_one, refuses, removes_one, takes_one, tells_one, tries_one}
use Rattle.rd_script.specs.declared.line.NumberedLine.{NumberedLine}
use Rattle.rd_station.specs.Station as station
use Rattle.rd_station.specs.Station.{StationState, put_refusal, put_unless}
use Rattle.rd_station.specs.declared.refusals.PutWhy.{PutWhy}
use Rattle.rd_station.specs.declared.refusals.PutWhy.TheVariants as why
use Rattle.rd_world.proofs.BeginningLemmas.{begun_by}
use Rattle.rd_world.proofs.OpeningLemmas.{lines_begin}
use Rattle.rd_declared.specs.Devices.{PrinterNames}
use Rattle.rd_world.specs.Hearing.{after_opening, announcing, client_hears, heard_by_client, put_at, put_by, putting}
use Rattle.rd_declared.specs.Declaring.{bare_lines, declared_devices}
use Rattle.rd_deeds.specs.Talk.{client_reads, is_request, request_at, request_in}
use Rattle.rd_deeds.specs.Told.{requests_to, without_last}
use Rattle.rd_world.specs.World.{Kept, WorldState, station_at, with_station}
use Rattle.rd_declared.specs.declared.device.SessionDevice.{SessionDevice}

abbrev Of : Type 0
Of = StationState SessionDevice

-- the job that is kept back, if one is, is that of the request that was counted last
abbrev pub IsKeptLast : Option Kept → ℕ → Type 0
IsKeptLast kept asked = (k : Kept) → kept ≡ Some k → k.job.key.index + 1 ≡ asked

abbrev IsKeptNow : WorldState → Type 0
IsKeptNow w = IsKeptLast w.kept (w.client).asked

none_kept : {kept : Option Kept} {asked : ℕ} → kept ≡ None → IsKeptLast kept asked
none_kept none k some = absurd (cc (sym none ∙ some))

putting_last : (w : WorldState) (d : ℕ) (job : Job) → w.kept ≡ None → job.key.index + 1 ≡ (w.client).asked → IsKeptNow (putting w d job)
putting_last w d job free last = at (station_at w d)
  where
    own : Kept
    own = record { device = d; job = job }

    here : (s : Of) (refusal : Option PutWhy) → IsKeptNow (put_by w d job (put_unless s job refusal))
    here s None = none_kept free
    here s (Some why.Gone) = none_kept free
    here s (Some (why.Full count)) = λ k some. (let one : Some own ≡ Some k = some in let same : own ≡ k = cc one in subst (λ (x : Kept). x.job.key.index + 1 ≡ (w.client).asked) same last)
    here s (Some (why.Worn count)) = none_kept free
    here s (Some (why.Duplicate key)) = none_kept free
    here s (Some why.Memory) = none_kept free

    at : (o : Option Of) → IsKeptNow (put_at w d job o)
    at None = none_kept free
    at (Some s) = here s (put_refusal s job)

announced_kept : (list : List Announce) (w : WorldState) → (fold (λ x (a : Announce). announcing x a.id) w list).kept ≡ w.kept
announced_kept [] w = refl
announced_kept (a ∷ list) w = announced_kept list (announcing w a.id) ∙ by (station_at w a.id)
  where
    by : (o : Option Of) → (option_map_or (λ (s : Of). with_station w a.id (station.announce s).0) o w).kept ≡ w.kept
    by None = refl
    by (Some s) = refl

hears_last : (w : WorldState) (m : List ℕ) → w.kept ≡ None → IsKeptNow (client_hears w m)
hears_last w m free = by (client_hear w.client m) (hears w.client m)
  where
    read : ClientCoreState → WorldState
    read x = record w { client = x; deeds = client_reads w.channels m ∷ w.deeds }

    opening : (shake : ClientState) (x : WorldState) → x.kept ≡ None → (after_opening shake x).kept ≡ None
    opening shake x none = go (client.becomes_ready shake ((x.client).core).shake)
      where
        go : (b : Bool) → (if b then fold (λ y (a : Announce). announcing y a.id) x (listed x.client) else x).kept ≡ None
        go true = announced_kept (listed x.client) x ∙ none
        go false = none

    by : (r : ClientCoreState × Result Heard EndFault) → HeardAs w.client m r → IsKeptNow (heard_by_client ((w.client).core).shake (read r.0) r.1)
    by (x, Err wrong) is = none_kept free
    by (x, Ok (heard.Print n)) is = none_kept free
    by (x, Ok heard.Nothing) is = none_kept (opening ((w.client).core).shake (read x) free)
    by (x, Ok (heard.Ask device job)) (same, count, asks, still, fine, r, reads, named, made) = putting_last (read x) device job free (ap (λ (j : Job). j.key.index + 1) made ∙ sym count)

module _ (lines : List NumberedLine) (starves : Key → Bool) (fit : AreFit (declared_devices (bare_lines lines))) where
  part_last : (w : WorldState) (p : Part) → MayBe lines starves w p → Orderly w → IsKeptNow w → IsKeptNow (done starves w p)
  part_last w (accepts a asked named t number) may ordered is = is
  part_last w (refuses a asked cause) may ordered is = is
  part_last w (hands_out a number t taken None) may ordered is = is
  part_last w (hands_out a number t taken (Some asked)) may ordered is = is
  part_last w (host_sends_one m) may ordered is = is
  part_last w (host_gets n) may ordered is = is
  part_last w host_keeps_part may ordered is = is
  part_last w (host_hears_one m rest) may ordered is = is
  part_last w (tells_one n) may ordered is = is
  part_last w begins can ordered is =
      subst (λ (x : WorldState). IsKeptNow (begun_on w x)) (sym (all_refreshed (map (λ (e : ℕ × PrinterNames). e.0) w.printers) w)) (none_kept (ordered.shut (not_opened ((w.side).table).channel can)).kept_none)
  part_last w ends may ordered is = none_kept refl
  part_last w (client_sends_one x o) made ordered is = λ k some. is k some ∙ ap (λ (r : ClientCoreState × Option Outgoing). (r.0).asked) made
  part_last w (client_gets n) may ordered is = is
  part_last w client_keeps_part may ordered is = is
  part_last w (client_hears_one m rest) (kept, some) ordered is = hears_last (record w { to_client = record w.to_client { part = []; taken = _; unhandled = rest } }) m kept
  part_last w (tries_one k) some ordered is = putting_last (record w { kept = None }) k.device k.job refl (is k some)
  part_last w (collects_one d s after x) may ordered is = is
  part_last w (takes_one d hand s after job) may ordered is = is
  part_last w (applies_one hand d job None) may ordered is = is
  part_last w (applies_one hand d job (Some s)) may ordered is = is
  part_last w (removes_one d None) may ordered is = is
  part_last w (removes_one d (Some s)) may ordered is = is
  part_last w (adds_one d None None) may ordered is = is
  part_last w (adds_one d None (Some s)) may ordered is = is
  part_last w (adds_one d (Some names) None) may ordered is = is
  part_last w (adds_one d (Some names) (Some s)) may ordered is = is
  part_last w (queues_one a) may ordered is = is
  part_last w (idle_one number) may ordered is = is
  part_last w draws_one may ordered is = is

  pub behind_last : (w : WorldState) → IsBehind lines starves w → IsKeptLast w.kept (w.client).asked
  behind_last =
      by_parts lines starves IsKeptNow (subst IsKeptNow (sym (begun_by lines _ (lines_begin lines))) (none_kept refl))
      (λ w p before after may is. part_last w p may (behind_orderly lines starves w fit before).0 is)

-- ---- the last request

-- the last request to a device is the last of all
pub last_asked : (d index : ℕ) (r : Request) (ms : List (List ℕ)) → request_at ms index ≡ Some r → r.device ≡ d → length (filter is_request ms) ≡ index + 1 → requests_to d ms ≡ index ∷ requests_to d (without_last ms)
last_asked d index r [] found device count = absurd (omega (arith, count))
last_asked d index r (m ∷ older) found device count = by (is_request m) found count (last_asked d index r older)
  where
    n : ℕ
    n = length (filter is_request older)

    by : (b : Bool) → (if b && n == index then request_in m else request_at older index) ≡ Some r → length (if b then m ∷ filter is_request older else filter is_request older) ≡ index + 1
        → (request_at older index ≡ Some r → r.device ≡ d → n ≡ index + 1 → requests_to d older ≡ index ∷ requests_to d (without_last older))
        → (if b && option_map_or (λ (r : Request). r.device == d) (request_in m) false then n ∷ requests_to d older else requests_to d older) ≡ index ∷ requests_to d (if b then older else without_last older)
    by false found count later = later found device count
    by true found count later =
        let same : n ≡ index = omega (arith, count) in
        let own : request_in m ≡ Some r = sym (ap (λ (b : Bool). if b then request_in m else request_at older index) (eq-eqb n index same)) ∙ found in
        ap (λ (o : Option Request). if option_map_or (λ (r : Request). r.device == d) o false then n ∷ requests_to d older else requests_to d older) own
        ∙ ap (λ (b : Bool). if b then n ∷ requests_to d older else requests_to d older) (eq-eqb r.device d device)
        ∙ ap (λ (k : ℕ). k ∷ requests_to d older) same

-- the requests before the last of all are what the requests begin with
pub requests_end : (d : ℕ) (ms : List (List ℕ)) → (first : List ℕ) × (requests_to d ms ≡ first ++ requests_to d (without_last ms))
requests_end d [] = ([], refl)
requests_end d (m ∷ older) = by (is_request m) (option_map_or (λ (r : Request). r.device == d) (request_in m) false) (requests_end d older)
  where
    n : ℕ
    n = length (filter is_request older)

    by : (a b : Bool) → (first : List ℕ) × (requests_to d older ≡ first ++ requests_to d (without_last older))
        → (first : List ℕ) × ((if a && b then n ∷ requests_to d older else requests_to d older) ≡ first ++ requests_to d (if a then older else without_last older))
    by true true later = (n ∷ [], refl)
    by true false later = ([], refl)
    by false b later = later
