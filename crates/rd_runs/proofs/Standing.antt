-- In each world that lines come to the deeds lead to the host's side, which might do each, and where no channel is open nothing is under way, held or to be sent.
use Rattle.std.proofs.Common.{◌≡◌, ◌∙◌, refl, sym, ap, subst, inl, ℕ, ◌&&◌, arith, Bool, true, false, not, List, [], ◌∷◌, ◌++◌, map, fold, Some, None, Option, Result, Ok, Err, append-nil, is_ok, is_some}
use Rattle.std.specs.Prelude.{nat_le, nat_lt}
use Rattle.std.specs.Option.{option_map_or}
use Rattle.std.proofs.lemmas.Bool.Decides.{nat_tests}
use Rattle.rd_base.specs.declared.journal.Key.{Key}
use Rattle.rd_client.specs.Core as client
use Rattle.rd_client.specs.Core.{ClientCoreState, Outgoing}
use Rattle.rd_hello.specs.declared.host.HostState.{HostState}
use Rattle.rd_hello.specs.declared.host.HostState.TheVariants as host_state
use Rattle.rd_host.specs.Order.{is_host_ready}
use Rattle.rd_irp.specs.declared.op.Op.{Op}
use Rattle.rd_pending.specs.declared.calls.SubmitNo.{SubmitNo}
use Rattle.rd_pending.specs.declared.calls.Taken.{Taken}
use Rattle.rd_pending.specs.declared.calls.TakeNo.{TakeNo}
use Rattle.rd_pending.specs.declared.calls.Target.{Target}
use Rattle.rd_pending.specs.Table as table
use Rattle.rd_pending.specs.Table.{MaySubmit, TableState, submit_refusal}
use Rattle.rd_printer.specs.declared.notice.Notice.{Notice}
use Rattle.rd_script.specs.declared.line.NumberedLine.{NumberedLine}
use Rattle.rd_station.specs.Station.{StationState}
use Rattle.rd_runs.specs.Moves.{Reached}
use Rattle.rd_runs.proofs.BeginningLemmas.{Unset, begins_as, first_idle, unset}
use Rattle.rd_runs.proofs.HostLemmas.{AreOfClient, IsHostOf, IsOfClient, all_of_client, host_begun, host_channel, host_ended, host_heard, host_moved, host_submitted, host_told, host_took, host_write, opens, same_open, sending_opens}
use Rattle.rd_runs.proofs.IdleLemmas.{AreIdle, applied_all_idle, cut_idle, none_collected, none_taken}
use Rattle.rd_runs.proofs.Insides.{AreOwn, IsInside, Outside, added_inside, all_dropped_inside, all_refreshed_inside, applied_inside, hears_inside, put_inside, removed_inside, stationed}
use Rattle.rd_runs.proofs.Parts.{MayBe, Part, accepts, adds_one, applies_one, begins, client_gets, client_hears_one, client_keeps_part, client_sends_one, collects_one, done, draws_one, ends, hands_out, host_gets, host_hears_one, host_keeps_part, host_sends_one, idle_one, queues_one, refuses, removes_one, takes_one, tells_one, tries_one}
use Rattle.rd_runs.proofs.Reaching.{both}
use Rattle.rd_declared.specs.declared.device.SessionDevice.{SessionDevice}
use Rattle.rd_declared.specs.Devices.{PrinterNames}
use Rattle.rd_world.specs.Events.{completion_message, deed_on, dropping, is_channel_open, is_read, is_ready, refreshing, target_of}
use Rattle.rd_world.specs.Hearing.{next_asked}
use Rattle.rd_deeds.specs.HostDeeds.{IsInRange}
use Rattle.rd_world.specs.Noting.{IsTellable}
use Rattle.rd_declared.specs.Declaring.{declared_devices}
use Rattle.rd_world.specs.Run.{notice_of, world_of}
use Rattle.rd_deeds.specs.Talk.{Deed, Has, adds, client_reads, client_writes, completes, open_channel, removes, stores, submits, takes}
use Rattle.rd_world.specs.World.{Asked, Kept, WayState, WorldState, application_at, first_message, with_deed, with_station}

-- ---- the invariant

-- nothing is under way, kept back, to be sent, or held
pub record IsShut (down up : WayState) (kept : Option Kept) (outbox : List Outgoing) (stations : List (ℕ × StationState SessionDevice)) : Type 0 where
  pub down_unhandled : down.unhandled ≡ []
  pub down_pipe : down.pipe ≡ []
  pub up_unhandled : up.unhandled ≡ []
  pub up_pipe : up.pipe ≡ []
  pub kept_none : kept ≡ None
  pub outbox_none : outbox ≡ []
  pub idle : AreIdle stations

abbrev pub Shut : WorldState → Type 0
Shut w = IsShut w.to_client w.to_host w.kept ((w.client).core).outbox w.stations

-- The host is what the deeds lead to, no part of a message that came is a whole one, and where no channel is open nothing goes on.
pub record StandsAs (w : Unset) : Type 0 where
  pub host : IsHostOf w.side w.channels w.deeds
  pub client_part : first_message (w.to_client).part ≡ None
  pub host_part : first_message (w.to_host).part ≡ None
  pub shut : open_channel w.deeds ≡ None → IsShut w.to_client w.to_host w.kept ((w.client).core).outbox w.stations

abbrev pub Stands : WorldState → Type 0
Stands w = StandsAs (unset w)

-- ---- what is open

never : {X : Type 0} {c : ℕ} (deeds : List Deed) → open_channel deeds ≡ Some c → open_channel deeds ≡ None → X
never deeds is shut = absurd (cc (is, shut))

pub open_now : (w : WorldState) → Stands w → is_channel_open w ≡ true → open_channel w.deeds ≡ Some w.channels
open_now w s is =
    opens w.side w.channels w.deeds s.host
    (λ shut. let off : is_channel_open w ≡ false = ap is_some (host_channel w.side w.channels w.deeds s.host ∙ shut) in cc (is, off))

pub shut_now : (w : WorldState) → Stands w → is_channel_open w ≡ false → open_channel w.deeds ≡ None
shut_now w s off = sym (host_channel w.side w.channels w.deeds s.host) ∙ by ((w.side).table).channel off
  where
    by : (o : Option ℕ) → is_some o ≡ false → o ≡ None
    by None e = refl
    by (Some c) e = absurd (cc)

-- where it wouldn't do that nothing goes on
opened_by : (w : WorldState) → Stands w → (Shut w → ⊥) → open_channel w.deeds ≡ Some w.channels
opened_by w s wrong = opens w.side w.channels w.deeds s.host (λ none. wrong (s.shut none))

no_read : (pipe : List ℕ) (n : ℕ) → pipe ≡ [] → is_read pipe n ≡ true → ⊥
no_read pipe n none can =
    let can' : (nat_lt 0 n && nat_le n 0) ≡ true = rw none at can in
    let (some, few) = both (nat_lt 0 n) (nat_le n 0) can' in
    grind (arith, nat_tests, some, few)

no_message : (y : WayState) (message rest : List ℕ) → first_message y.part ≡ None → y.unhandled ≡ [] → first_message (y.part ++ y.unhandled) ≡ Some (message, rest) → ⊥
no_message y message rest part none is =
    let all : y.part ++ y.unhandled ≡ y.part = ap (λ (bytes : List ℕ). y.part ++ bytes) none ∙ append-nil y.part in
    let nothing : first_message (y.part ++ y.unhandled) ≡ None = ap first_message all ∙ part in
    cc (nothing, is)

-- ---- what a client does by itself

of_client : (more : List Deed) → AreOwn more → AreOfClient more
of_client [] own = tt
of_client (stores device item ∷ more) own = (tt, of_client more own.1)
of_client (removes device ∷ more) own = (tt, of_client more own.1)
of_client (adds device ∷ more) own = (tt, of_client more own.1)
of_client (deed ∷ more) own = absurd own.0

host_inside : (w v : WorldState) → IsInside w v → IsHostOf w.side w.channels w.deeds → IsHostOf v.side v.channels v.deeds
host_inside w v i h =
    host_moved (ap (λ (o : Outside). o.side) i.same) (ap (λ (o : Outside). o.channels) i.same) i.deeds (all_of_client w.side w.channels i.more w.deeds (of_client i.more i.own) h)

pub open_inside : (w v : WorldState) → IsInside w v → open_channel v.deeds ≡ open_channel w.deeds
open_inside w v i = ap open_channel i.deeds ∙ same_open i.more w.deeds (of_client i.more i.own)

-- it stands where the channel's state is as it was
inside_stands : (w v : WorldState) → IsInside w v → Stands w → (open_channel w.deeds ≡ None → Shut v) → Stands v
inside_stands w v i s shut = record {
  host = host_inside w v i s.host;
  client_part = ap (λ (o : Outside). first_message (o.to_client).part) i.same ∙ s.client_part;
  host_part = ap (λ (o : Outside). first_message (o.to_host).part) i.same ∙ s.host_part;
  shut = λ none. shut (sym (open_inside w v i) ∙ none);
}

-- where a channel is open
inside_open : (w v : WorldState) → IsInside w v → Stands w → open_channel w.deeds ≡ Some w.channels → Stands v
inside_open w v i s is = inside_stands w v i s (never w.deeds is)

of_client_on : (channel : ℕ) (o : Outgoing) → IsOfClient (deed_on channel o)
of_client_on channel o = by o.answers
  where
    by : (key : Option Key) → IsOfClient (option_map_or (λ key. completes key o.message) key (client_writes channel o.message))
    by None = tt
    by (Some key) = tt

none_sent : (c after : ClientCoreState) (o : Outgoing) → (c.core).outbox ≡ [] → client.client_send c ≡ (after, Some o) → ⊥
none_sent c after o none made =
    let nothing : (client.client_send c).1 ≡ None = rw none refl in cc (nothing, ap (λ (r : ClientCoreState × Option Outgoing). r.1) made)

pub is_off : (b : Bool) → not b ≡ true → b ≡ false
is_off false e = refl
is_off true e = absurd (cc)

-- what passes only while a channel is open
abbrev pub NeedsOpen : Part → Type 0
NeedsOpen (host_sends_one message) = Unit {0}
NeedsOpen (host_gets n) = Unit {0}
NeedsOpen (host_hears_one message rest) = Unit {0}
NeedsOpen (tells_one n) = Unit {0}
NeedsOpen ends = Unit {0}
NeedsOpen (client_sends_one c o) = Unit {0}
NeedsOpen (client_gets n) = Unit {0}
NeedsOpen (client_hears_one message rest) = Unit {0}
NeedsOpen (tries_one k) = Unit {0}
NeedsOpen (collects_one device s after c) = Unit {0}
NeedsOpen (takes_one device hand s after job) = Unit {0}
NeedsOpen (removes_one device o) = Unit {0}
NeedsOpen (adds_one device names o) = Unit {0}
NeedsOpen p = ⊥

pub needs_open : (lines : List NumberedLine) (starves : Key → Bool) (w : WorldState) (p : Part) → MayBe lines starves w p → NeedsOpen p → Stands w → open_channel w.deeds ≡ Some w.channels
needs_open lines starves w (host_sends_one message) next needs s = sending_opens w.side w.channels w.deeds s.host message next
needs_open lines starves w (host_gets n) can needs s = opened_by w s (λ shut. no_read (w.to_host).pipe n shut.up_pipe can)
needs_open lines starves w (host_hears_one message rest) is needs s = opened_by w s (λ shut. no_message w.to_host message rest s.host_part shut.up_unhandled is)
needs_open lines starves w (tells_one n) (said, can) needs s = open_now w s (both (is_channel_open w) (is_host_ready (((w.side).core).core).shake) can).0
needs_open lines starves w ends is needs s = open_now w s is
needs_open lines starves w (client_sends_one c o) made needs s = opened_by w s (λ shut. none_sent w.client c o shut.outbox_none made)
needs_open lines starves w (client_gets n) (can, kept) needs s = opened_by w s (λ shut. no_read (w.to_client).pipe n shut.down_pipe can)
needs_open lines starves w (client_hears_one message rest) (kept, is) needs s = opened_by w s (λ shut. no_message w.to_client message rest s.client_part shut.down_unhandled is)
needs_open lines starves w (tries_one k) kept needs s = opened_by w s (λ shut. cc (kept, shut.kept_none))
needs_open lines starves w (collects_one device x after c) (reached, quiet, there, made) needs s = opened_by w s (λ shut. none_collected x after c (shut.idle device x there) made)
needs_open lines starves w (takes_one device hand x after job) (free, there, made) needs s = opened_by w s (λ shut. none_taken x after job (shut.idle device x there) made)
needs_open lines starves w (removes_one device o) (can, there) needs s = open_now w s (both (is_channel_open w) _ (both (is_ready w) _ can).0).0
needs_open lines starves w (adds_one device names o) (can, printer, there) needs s = open_now w s (both (is_channel_open w) _ (both (is_ready w) _ can).0).0
needs_open lines starves w p may needs s = absurd needs

-- a request that is accepted has nothing against it
accepted_free : (t new : TableState) (a number : ℕ) (named : Target) (o : Op) → table.submit t a named o ≡ (new, Ok number) → submit_refusal t named ≡ None
accepted_free t new a number named o made = by (submit_refusal t named) refl
  where
    by : (r : Option SubmitNo) → submit_refusal t named ≡ r → r ≡ None
    by None e = refl
    by (Some cause) e =
        let refused : table.submit t a named o ≡ (t, Err cause) = rw e refl in
        absurd (cc (ap (λ (r : TableState × Result ℕ SubmitNo). r.1) made, ap (λ (r : TableState × Result ℕ SubmitNo). r.1) refused))

ready_host : (shake : HostState) → is_host_ready shake ≡ true → shake ≡ host_state.Ready
ready_host host_state.Ready e = refl
ready_host shake e = absurd (cc)

-- In a world between two moves a host may take what an application's line names.
abbrev pub MayTake : List NumberedLine → (Key → Bool) → WorldState → Type 0
MayTake lines starves w =
    Reached lines starves w → (a : ℕ) (asked : Asked) (named : Target) → next_asked (application_at w a) ≡ Some asked → target_of (application_at w a) asked ≡ Some named
    → MaySubmit named asked.op × IsInRange named asked.op

-- notices of lines can be told
abbrev pub AreTellable : List NumberedLine → Type 0
AreTellable lines = (l : NumberedLine) (n : Notice) → Has l lines → notice_of l.line ≡ Some n → IsTellable n

module _ (lines : List NumberedLine) (starves : Key → Bool) (told : AreTellable lines) where
  pub stands_first : Stands (world_of lines)
  stands_first = begins_as lines StandsAs (record {
    host = record { is = refl; may = tt; last = inl refl; below = omega arith; quiet = λ shut. refl };
    client_part = refl;
    host_part = refl;
    shut = λ none. record {
      down_unhandled = refl;
      down_pipe = refl;
      up_unhandled = refl;
      up_pipe = refl;
      kept_none = refl;
      outbox_none = refl;
      idle = first_idle (declared_devices (map (λ (l : NumberedLine). l.line) lines));
    };
  })

  took : (w : WorldState) (a number : ℕ) (t : TableState) (taken : Taken) → table.take (w.side).table number ≡ (t, Ok taken) → Stands w
      → IsHostOf (record w.side { table = t }) w.channels (takes number ∷ w.deeds)
  took w a number t taken made s =
      let ok : is_ok (table.take (w.side).table number).1 ≡ true = ap (λ (r : TableState × Result Taken TakeNo). is_ok r.1) made in
      subst (λ (u : TableState). IsHostOf (record w.side { table = u }) w.channels (takes number ∷ w.deeds)) (ap (λ (r : TableState × Result Taken TakeNo). r.0) made)
      (host_took w.side w.channels w.deeds s.host number ok)

  pub stands_step : (w : WorldState) (p : Part) → MayTake lines starves w → MayBe lines starves w p → Stands w → Stands (done starves w p)
  stands_step w (accepts a asked named t number) take (reached, may, next, target, made) s =
      let (fits, range) = take reached a asked named next target in
      let free : submit_refusal (w.side).table named ≡ None = accepted_free (w.side).table t a number named asked.op made in
      record {
        host = subst (λ (u : TableState). IsHostOf (record w.side { table = u }) w.channels (submits a named asked.op ∷ w.deeds)) (ap (λ (r : TableState × Result ℕ SubmitNo). r.0) made)
            (host_submitted w.side w.channels w.deeds s.host a named asked.op free fits range);
        client_part = s.client_part;
        host_part = s.host_part;
        shut = s.shut;
      }
  stands_step w (refuses a asked cause) take may s = record { host = s.host; client_part = s.client_part; host_part = s.host_part; shut = s.shut }
  stands_step w (hands_out a number t taken None) take (waits, next, made) s =
      record { host = took w a number t taken made s; client_part = s.client_part; host_part = s.host_part; shut = s.shut }
  stands_step w (hands_out a number t taken (Some asked)) take (waits, next, made) s =
      record { host = took w a number t taken made s; client_part = s.client_part; host_part = s.host_part; shut = s.shut }
  stands_step w (host_sends_one message) take next s = record {
    host = host_write w.side w.channels w.deeds s.host message next;
    client_part = s.client_part;
    host_part = s.host_part;
    shut = never w.deeds (needs_open lines starves w (host_sends_one message) next tt s);
  }
  stands_step w (host_gets n) take can s = record {
    host = s.host;
    client_part = s.client_part;
    host_part = s.host_part;
    shut = never w.deeds (needs_open lines starves w (host_gets n) can tt s);
  }
  stands_step w host_keeps_part take is s = record {
    host = s.host;
    client_part = s.client_part;
    host_part = is;
    shut = λ none. let shut = s.shut none in record {
      down_unhandled = shut.down_unhandled;
      down_pipe = shut.down_pipe;
      up_unhandled = refl;
      up_pipe = shut.up_pipe;
      kept_none = shut.kept_none;
      outbox_none = shut.outbox_none;
      idle = shut.idle;
    };
  }
  stands_step w (host_hears_one message rest) take is s =
      let opened = needs_open lines starves w (host_hears_one message rest) is tt s in
      record { host = host_heard w.side w.channels w.deeds s.host message opened; client_part = s.client_part; host_part = refl; shut = never w.deeds opened }
  stands_step w (tells_one n) take ((l, has, says), can) s =
      let (is, ready) = both (is_channel_open w) (is_host_ready (((w.side).core).core).shake) can in
      let opened = open_now w s is in
      let tellable = told l n has says in
      record {
        host = host_told w.side w.channels w.deeds s.host n opened is
            (record { ready = ready_host (((w.side).core).core).shake ready; writable = tellable.writable; port = tellable.port; fit = tellable.fit });
        client_part = s.client_part;
        host_part = s.host_part;
        shut = never w.deeds opened;
      }
  stands_step w begins take can s =
      let off = shut_now w s (is_off (is_channel_open w) can) in
      let fresh : WorldState = fold refreshing w (map (λ (e : ℕ × PrinterNames). e.0) w.printers) in
      let i = all_refreshed_inside (map (λ (e : ℕ × PrinterNames). e.0) w.printers) w in
      record {
        host = host_begun w.side w.channels fresh.deeds
            (host_moved (sym (ap (λ (o : Outside). o.side) i.same)) (sym (ap (λ (o : Outside). o.channels) i.same)) refl (host_inside w fresh i s.host))
            (open_inside w fresh i ∙ off);
        client_part = refl;
        host_part = refl;
        shut = λ none. absurd (cc none);
      }
  stands_step w ends take is s =
      let opened = open_now w s is in
      let devices : List ℕ = map (λ (e : ℕ × StationState SessionDevice). e.0) w.stations in
      let cut : WorldState = fold dropping w devices in
      let i = all_dropped_inside devices w in
      record {
        host = host_ended cut.side cut.channels cut.deeds (host_inside w cut i s.host) (open_inside w cut i ∙ opened ∙ ap Some (sym (ap (λ (o : Outside). o.channels) i.same)));
        client_part = ap (λ (o : Outside). first_message (o.to_client).part) i.same ∙ s.client_part;
        host_part = ap (λ (o : Outside). first_message (o.to_host).part) i.same ∙ s.host_part;
        shut = λ none. record {
          down_unhandled = refl;
          down_pipe = refl;
          up_unhandled = refl;
          up_pipe = refl;
          kept_none = refl;
          outbox_none = refl;
          idle = cut_idle w;
        };
      }
  stands_step w (client_sends_one c o) take made s =
      let one : AreOfClient (deed_on w.channels o ∷ []) = (of_client_on w.channels o, tt) in
      let opened = needs_open lines starves w (client_sends_one c o) made tt s in
      record {
        host = all_of_client w.side w.channels (deed_on w.channels o ∷ []) w.deeds one s.host;
        client_part = s.client_part;
        host_part = s.host_part;
        shut = λ none. never w.deeds opened (sym (same_open (deed_on w.channels o ∷ []) w.deeds one) ∙ none);
      }
  stands_step w (client_gets n) take (can, kept) s = record {
    host = s.host;
    client_part = s.client_part;
    host_part = s.host_part;
    shut = never w.deeds (needs_open lines starves w (client_gets n) (can, kept) tt s);
  }
  stands_step w client_keeps_part take (kept, is) s = record {
    host = s.host;
    client_part = is;
    host_part = s.host_part;
    shut = λ none. let shut = s.shut none in record {
      down_unhandled = refl;
      down_pipe = shut.down_pipe;
      up_unhandled = shut.up_unhandled;
      up_pipe = shut.up_pipe;
      kept_none = shut.kept_none;
      outbox_none = shut.outbox_none;
      idle = shut.idle;
    };
  }
  stands_step w (client_hears_one message rest) take (kept, is) s =
      let opened = needs_open lines starves w (client_hears_one message rest) (kept, is) tt s in
      let x : WorldState = record w { to_client = record w.to_client { part = []; taken = _; unhandled = rest } } in
      let read : WorldState = with_deed x (client_reads w.channels message) in
      inside_open read (done starves w (client_hears_one message rest)) (hears_inside x message) (record {
        host = all_of_client w.side w.channels (client_reads w.channels message ∷ []) w.deeds (tt, tt) s.host;
        client_part = refl;
        host_part = s.host_part;
        shut = never w.deeds opened;
      }) opened
  stands_step w (tries_one k) take kept s =
      let opened = needs_open lines starves w (tries_one k) kept tt s in
      let x : WorldState = record w { kept = None } in
      inside_open x (done starves w (tries_one k)) (put_inside x k.device k.job)
      (record { host = s.host; client_part = s.client_part; host_part = s.host_part; shut = never w.deeds opened }) opened
  stands_step w (collects_one device x after c) take (reached, quiet, there, made) s =
      let opened = needs_open lines starves w (collects_one device x after c) (reached, quiet, there, made) tt s in
      let y : WorldState = with_station w device after in
      let i = stationed w device after in
      record {
        host = all_of_client w.side w.channels (completes c.key (completion_message device c) ∷ []) y.deeds (tt, tt) (host_inside w y i s.host);
        client_part = s.client_part;
        host_part = s.host_part;
        shut = never y.deeds (open_inside w y i ∙ opened);
      }
  stands_step w (takes_one device hand x after job) take (free, there, made) s =
      let opened = needs_open lines starves w (takes_one device hand x after job) (free, there, made) tt s in
      let y : WorldState = with_station w device after in
      let i = stationed w device after in
      record { host = host_inside w y i s.host; client_part = s.client_part; host_part = s.host_part; shut = never y.deeds (open_inside w y i ∙ opened) }
  stands_step w (applies_one hand device job None) take (holds, there) s = record { host = s.host; client_part = s.client_part; host_part = s.host_part; shut = s.shut }
  stands_step w (applies_one hand device job (Some x)) take (holds, there) s =
      inside_stands w (done starves w (applies_one hand device job (Some x))) (applied_inside starves w hand device job (Some x)) s
      (λ none. let shut = s.shut none in record {
        down_unhandled = shut.down_unhandled;
        down_pipe = shut.down_pipe;
        up_unhandled = shut.up_unhandled;
        up_pipe = shut.up_pipe;
        kept_none = shut.kept_none;
        outbox_none = shut.outbox_none;
        idle = applied_all_idle starves w hand device job (Some x) there shut.idle;
      })
  stands_step w (removes_one device o) take (can, there) s =
      inside_open w (done starves w (removes_one device o)) (removed_inside w device o) s (needs_open lines starves w (removes_one device o) (can, there) tt s)
  stands_step w (adds_one device names o) take (can, printer, there) s =
      inside_open w (done starves w (adds_one device names o)) (added_inside w device names o) s (needs_open lines starves w (adds_one device names o) (can, printer, there) tt s)
  stands_step w (queues_one a) take may s = record { host = s.host; client_part = s.client_part; host_part = s.host_part; shut = s.shut }
  stands_step w (idle_one number) take may s = record { host = s.host; client_part = s.client_part; host_part = s.host_part; shut = s.shut }
  stands_step w draws_one take may s = record { host = s.host; client_part = s.client_part; host_part = s.host_part; shut = s.shut }
