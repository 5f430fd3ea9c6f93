-- What keeps a world orderly: a station that goes on, what an end does beside its stations, and what is under way while a channel is open.
use Rattle.std.proofs.Common.{◌≡◌, ◌∙◌, refl, sym, ap, subst, inl, inr, ℕ, suc, List, [], ◌∷◌, ◌++◌, length, map, reverse, arith}
use Rattle.std.specs.Prelude.{Contains, Some, None, Option, filter}
use Rattle.rd_base.specs.declared.journal.Item.TheVariants.{Came}
use Rattle.rd_base.specs.declared.journal.Key.{Key}
use Rattle.rd_client.specs.Core.{Outgoing}
use Rattle.rd_drive.specs.declared.plan.Job.{Job}
use Rattle.rd_hello.specs.declared.end_fault.EndFault.{EndFault}
use Rattle.rd_station.specs.Memory.{NamesKey}
use Rattle.rd_station.specs.Station.{StationState, held}
use Rattle.rd_station.specs.declared.answers.Completion.{Completion}
use Rattle.rd_station.specs.declared.held.InHand.{InHand}
use Rattle.rd_station.proofs.Calls.{reached_keeps}
use Rattle.rd_station.proofs.Keeping.{held_at}
use Rattle.rd_station.proofs.Members.{has_right, to_contains}
use Rattle.rd_declared.specs.Devices.{device_cuts, device_parked, device_runs}
use Rattle.rd_deeds.specs.Talk.{Deed, Has, client_read, is_request, journal, request_at}
use Rattle.rd_world.specs.World.{Kept, WorldState, station_at, with_station}
use Rattle.rd_declared.specs.declared.device.SessionDevice.{SessionDevice}
use Rattle.rd_journals.specs.Orderly.{AreOrdered, IsNext, Orderly, current}
use Rattle.rd_journals.specs.Reads.{ComesRead, IsGiven, IsRead}
use Rattle.rd_journals.specs.Stations.{IsOn}
use Rattle.rd_journals.proofs.CallLemmas.{AnyJob, Goes, NoKey}
use Rattle.rd_journals.proofs.HeldLemmas.{found_then, held_on, read_then}

abbrev Of : Type 0
Of = StationState SessionDevice

-- A station goes on.
pub goes_orderly : (New : Key → Type 0) (w : WorldState) (d : ℕ) (old new : Of) → Orderly w → station_at w d ≡ Some old → Goes New AnyJob (current ((w.side).table).channel w.channels) old new
    → ((key : Key) → New key → IsGiven w.channels (w.client).asked key × IsRead d key w.deeds) → ((k : Kept) → w.kept ≡ Some k → (key : Key) → New key → ⊥) → Orderly (with_station w d new)
goes_orderly New w d old new is there goes fresh free = record {
  held = held_on New at at w.channels (w.client).asked w d old new there goes (λ q apart. refl) is.held fresh;
  counted = λ fine. ap (λ (ms : List (List ℕ)). length (filter is_request ms)) (reads w.channels) ∙ is.counted fine;
  unread = λ c above. reads c ∙ is.unread c above;
  same_channel = is.same_channel;
  same_opened = is.same_opened;
  kept_next = λ k kept. let next = is.kept_next k kept in record {
    channel = next.channel;
    index = next.index;
    above = λ q s has key names. elim (found_then w.stations d new q s has) [
      | inl (here, equal) ↦ elim (goes.names key (subst (λ (x : Of). NamesKey x.journal key) equal names)) [ inl before ↦ next.above d old there key before | inr fresh_one ↦ absurd (free k kept key fresh_one) ]
      | inr (apart, was) ↦ next.above q s was key names
    ];
    request = next.request;
    read = ap (λ (ms : List (List ℕ)). request_at ms k.job.key.index) (reads w.channels) ∙ next.read;
    device_is = next.device_is;
    job_is = next.job_is;
  };
  shut = is.shut;
}
  where
    at : ℕ → ℕ
    at d = current ((w.side).table).channel w.channels

    reads : (c : ℕ) → client_read c (with_station w d new).deeds ≡ client_read c w.deeds
    reads c = read_then New at at w.channels (w.client).asked w d old new there goes c

-- the same by a call that names no new key
pub still_orderly : (w : WorldState) (d : ℕ) (old new : Of) → Orderly w → station_at w d ≡ Some old → Goes NoKey AnyJob (current ((w.side).table).channel w.channels) old new → Orderly (with_station w d new)
still_orderly w d old new is there goes = goes_orderly NoKey w d old new is there goes (λ key none. absurd none) (λ k kept key none. none)

module _ {stations : List (ℕ × Of)} {deeds : List Deed} {channels client_channel asked : ℕ} {fault : Option EndFault} {answers : List Outgoing} {opened : Option ℕ} {own requests : List (List ℕ)} {to_client to_host : List ℕ} {kept : Option Kept}
    (is : AreOrdered stations deeds channels client_channel asked fault answers opened own requests to_client to_host kept) where
  -- While a channel is open it doesn't matter what is under way.
  pub while_open : {answers' : List Outgoing} {own' requests' : List (List ℕ)} {to_client' to_host' : List ℕ} {kept' : Option Kept} {c : ℕ} → opened ≡ Some c → ((k : Kept) → kept' ≡ Some k → IsNext stations channels asked deeds k.device k.job)
      → AreOrdered stations deeds channels client_channel asked fault answers' opened own' requests' to_client' to_host' kept'
  while_open channel next = record {
    held = is.held;
    counted = is.counted;
    unread = is.unread;
    same_channel = is.same_channel;
    same_opened = is.same_opened;
    kept_next = next;
    shut = λ none. absurd (cc (none, channel));
  }

  -- what an end does that stores nothing and is no read of the client's
  pub beside : (deed : Deed) → ((d : ℕ) → journal d (deed ∷ deeds) ≡ journal d deeds) → ((x : ℕ) → client_read x (deed ∷ deeds) ≡ client_read x deeds) → ComesRead deeds deed
      → AreOrdered stations (deed ∷ deeds) channels client_channel asked fault answers opened own requests to_client to_host kept
  beside deed same unread came = record {
    held = record {
      tied = λ d s has. ap reverse (same d) ∙ (is.held).tied d s has;
      on = (is.held).on;
      named = (is.held).named;
      none = λ d none. same d ∙ (is.held).none d none;
      reads = (came, (is.held).reads);
    };
    counted = λ fine. ap (λ (ms : List (List ℕ)). length (filter is_request ms)) (unread channels) ∙ is.counted fine;
    unread = λ c above. unread c ∙ is.unread c above;
    same_channel = is.same_channel;
    same_opened = is.same_opened;
    kept_next = λ k some. let next = is.kept_next k some in record {
      channel = next.channel;
      index = next.index;
      above = next.above;
      request = next.request;
      read = ap (λ (ms : List (List ℕ)). request_at ms k.job.key.index) (unread channels) ∙ next.read;
      device_is = next.device_is;
      job_is = next.job_is;
    };
    shut = is.shut;
  }

  -- both, while a channel is open
  pub beside_open : {answers' : List Outgoing} {own' requests' : List (List ℕ)} {to_client' to_host' : List ℕ} {c : ℕ} → opened ≡ Some c → (deed : Deed) → ((d : ℕ) → journal d (deed ∷ deeds) ≡ journal d deeds)
      → ((x : ℕ) → client_read x (deed ∷ deeds) ≡ client_read x deeds) → ComesRead deeds deed
      → AreOrdered stations (deed ∷ deeds) channels client_channel asked fault answers' opened own' requests' to_client' to_host' kept
  beside_open channel deed same unread came = let so = beside deed same unread came in record {
    held = so.held;
    counted = so.counted;
    unread = so.unread;
    same_channel = so.same_channel;
    same_opened = so.same_opened;
    kept_next = so.kept_next;
    shut = λ none. absurd (cc (none, channel));
  }

-- ---- nothing is ready at a station while no channel is open

ready_held : (s : Of) (x : Completion) (xs : List Completion) → s.ready ≡ x ∷ xs → Has {A = Key × ℕ} (x.key, x.completion) (held s)
ready_held s x xs e = has_right (x.key, x.completion) others (map (λ (y : Completion). (y.key, y.completion)) s.ready) (subst (λ (ys : List Completion). Has {A = Key × ℕ} (x.key, x.completion) (map (λ (y : Completion). (y.key, y.completion)) ys)) (sym e) (inl refl))
  where
    others : List (Key × ℕ)
    others = map (λ (job : Job). (job.key, job.completion)) s.waiting ++ map (λ (t : InHand). (t.key, t.completion)) s.taken ++ map (λ p. (p.key, p.completion)) s.parked

-- the request of what is ready came
pub ready_came : (c : ℕ) (s : Of) → IsOn c s → (x : Completion) (xs : List Completion) → s.ready ≡ x ∷ xs → Contains s.journal (Came x.key)
ready_came c s on x xs e =
    let (channel, keeps) = reached_keeps device_runs device_parked device_cuts s on.sound.reached in
    (held_at device_parked channel s keeps (x.key, x.completion) (ready_held s x xs e)).1

pub ready_on : (c : ℕ) (s : Of) → IsOn c s → (x : Completion) (xs : List Completion) → s.ready ≡ x ∷ xs → (key : Key) × NamesKey s.journal key × (key.channel ≡ c)
ready_on c s on x xs e =
    let (last, is, same) = on.sound.remembers.channel (x.key, x.completion) (to_contains (held s) (x.key, x.completion) (ready_held s x xs e)) in
    elim (on.last last is) [
      | inl at ↦ (last, on.sound.remembers.named last is, at)
      | inr idle ↦ absurd (let none : [] ≡ x ∷ xs = sym idle.3 ∙ e in cc (none))
    ]

pub ready_open : (w : WorldState) (d : ℕ) (s : Of) → Orderly w → station_at w d ≡ Some s → (x : Completion) (xs : List Completion) → s.ready ≡ x ∷ xs → ((w.side).table).channel ≡ None → ⊥
ready_open w d s is there x xs e none =
    let (key, names, at) = ready_on (current ((w.side).table).channel w.channels) s ((is.held).on d s there) x xs e in
    let next : current ((w.side).table).channel w.channels ≡ suc w.channels = ap (λ (o : Option ℕ). current o w.channels) none in
    elim ((is.held).named d s there key names) [ inl less ↦ omega (arith, less, at, next) | inr here ↦ omega (arith, here.0, at, next) ]
