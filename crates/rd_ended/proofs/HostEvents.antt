-- What a host handles, and what applications take: it hears messages, and has more to send only where one is no completion.
use Rattle.std.proofs.Common.{◌≡◌, ◌∙◌, refl, sym, ap, subst, ℕ, zero, suc, ◌+◌, ◌-◌, ◌*◌, ◌≤◌, arith, Bool, true, false, List, [], ◌∷◌, ◌++◌, length, fold, Some, None, Option, Result, Ok, Err, length-append, append_assoc}
use Rattle.std.specs.Prelude.{if◌then◌else◌, is_some}
use Rattle.std.specs.Map.{lookup}
use Rattle.std.specs.Ordering.{nat_cmp}
use Rattle.std.specs.BTreeMap.{insert_entry, is_at}
use Rattle.std.specs.Option.{option_map_or, unwrap_or}
use Rattle.rd_base.specs.declared.packet.Packet.TheVariants as packet
use Rattle.rd_hello.specs.Moves.{is_of}
use Rattle.rd_pending.proofs.Tame.{tame_take}
use Rattle.rd_pending.specs.declared.calls.Handle.{Handle}
use Rattle.rd_pending.specs.declared.calls.Taken.{Taken}
use Rattle.rd_pending.specs.declared.calls.TakeNo.{TakeNo}
use Rattle.rd_pending.specs.Table as table
use Rattle.rd_pending.specs.Table.{TableState}
use Rattle.rd_told.proofs.RunsTrafficLemmas.{Traffic, host_reads_here, traffic}
use Rattle.rd_script.specs.declared.outcome.Outcome.{Outcome}
use Rattle.rd_world.specs.Hearing.{given_handle, holding_under, host_handles, host_handles_first, host_hears, next_asked, reported_outcome, takes_awaited, takes_from, takes_outcome, with_outcome}
use Rattle.rd_world.specs.Run.{host_count}
use Rattle.rd_deeds.specs.Talk.{client_wrote, host_read, takes}
use Rattle.rd_world.specs.World.{ApplicationState, Asked, WorldState, application_at, first_message, handling_by, new_application, with_application, with_deed, with_table}
use Rattle.rd_ended.proofs.HostHearing.{completion_heard}
use Rattle.rd_ended.proofs.Remaining.{line_left, lines_left, other_one, others, others_more, put_at_each, sum_within, waits}

-- ---- a host hears

-- All but the host's side is as it was.
pub record HostHears (w v : WorldState) : Type 0 where
  pub client : v.client ≡ w.client
  pub way : v.to_client ≡ w.to_client
  pub kept : v.kept ≡ w.kept
  pub stations : v.stations ≡ w.stations
  pub hands : v.hands ≡ w.hands
  pub applications : v.applications ≡ w.applications
  pub pipe : (v.to_host).pipe ≡ (w.to_host).pipe
  pub channels : v.channels ≡ w.channels
  pub wrote : client_wrote w.channels v.deeds ≡ client_wrote w.channels w.deeds
  pub heard : List (List ℕ)
  pub read : host_read w.channels v.deeds ≡ heard ++ host_read w.channels w.deeds
  pub quiet : others heard ≡ 0 → host_count v ≡ host_count w

hears_then : (w x v : WorldState) → HostHears w x → HostHears x v → HostHears w v
hears_then w x v a b = record {
  client = b.client ∙ a.client;
  way = b.way ∙ a.way;
  kept = b.kept ∙ a.kept;
  stations = b.stations ∙ a.stations;
  hands = b.hands ∙ a.hands;
  applications = b.applications ∙ a.applications;
  pipe = b.pipe ∙ a.pipe;
  channels = b.channels ∙ a.channels;
  wrote = subst (λ (c : ℕ). client_wrote c v.deeds ≡ client_wrote c x.deeds) a.channels b.wrote ∙ a.wrote;
  heard = b.heard ++ a.heard;
  read =
      subst (λ (c : ℕ). host_read c v.deeds ≡ b.heard ++ host_read c x.deeds) a.channels b.read ∙ ap (λ (ms : List (List ℕ)). b.heard ++ ms) a.read
      ∙ sym (append_assoc b.heard a.heard (host_read w.channels w.deeds));
  quiet = λ none.
      let parts : others (b.heard ++ a.heard) ≡ others b.heard + others a.heard = others_more b.heard a.heard in
      b.quiet (omega (arith, parts, none)) ∙ a.quiet (omega (arith, parts, none));
}

hears_none : (w v : WorldState) → v ≡ record w { to_host = v.to_host } → (v.to_host).pipe ≡ (w.to_host).pipe → HostHears w v
hears_none w v same pipe =
    let x : WorldState = record w { to_host = v.to_host } in
    record {
      client = ap (λ (y : WorldState). y.client) same;
      way = ap (λ (y : WorldState). y.to_client) same;
      kept = ap (λ (y : WorldState). y.kept) same;
      stations = ap (λ (y : WorldState). y.stations) same;
      hands = ap (λ (y : WorldState). y.hands) same;
      applications = ap (λ (y : WorldState). y.applications) same;
      pipe = pipe;
      channels = ap (λ (y : WorldState). y.channels) same;
      wrote = ap (λ (y : WorldState). client_wrote w.channels y.deeds) same;
      heard = [];
      read = ap (λ (y : WorldState). host_read w.channels y.deeds) same;
      quiet = λ none. ap host_count same;
    }

one_heard : (w : WorldState) (message rest : List ℕ) → HostHears w (host_hears (record w { to_host = (handling_by w.to_host (Some (message, rest))).0 }) message)
one_heard w message rest = record {
  client = refl;
  way = refl;
  kept = refl;
  stations = refl;
  hands = refl;
  applications = refl;
  pipe = refl;
  channels = refl;
  wrote = refl;
  heard = message ∷ [];
  read = ap (λ (t : Traffic). t.host_read) (host_reads_here w.channels w.deeds message);
  quiet = λ none. by (is_of packet.IoCompletion message) refl none;
}
  where
    v : WorldState
    v = host_hears (record w { to_host = (handling_by w.to_host (Some (message, rest))).0 }) message

    by : (b : Bool) → is_of packet.IoCompletion message ≡ b → other_one b + 0 ≡ 0 → host_count v ≡ host_count w
    by true is none =
        let no_more = completion_heard w.side message is in
        let own : length (((v.side).core).core).outbox ≡ length (((w.side).core).core).outbox = ap length no_more.own in
        let asked : length ((v.side).table).outbox ≡ length ((w.side).table).outbox = ap length no_more.requests in
        omega (arith, own, asked)
    by false is none = absurd (omega (arith, none))

pub host_handles_on : (most : ℕ) (w : WorldState) → HostHears w (host_handles most w)
host_handles_on zero w = hears_none w w refl refl
host_handles_on (suc most) w = by (first_message ((w.to_host).part ++ (w.to_host).unhandled)) (host_handles_on most)
  where
    by : (o : Option (List ℕ × List ℕ)) → ((x : WorldState) → HostHears x (host_handles most x)) → HostHears w (host_handles_first w (handling_by w.to_host o) (host_handles most))
    by None next = hears_none w (record w { to_host = (handling_by w.to_host None).0 }) refl refl
    by (Some (message, rest)) next =
        let x : WorldState = host_hears (record w { to_host = (handling_by w.to_host (Some (message, rest))).0 }) message in
        hears_then w x (host_handles most x) (one_heard w message rest) (next x)

-- ---- applications take what came

-- All but what is left of lines, and the host's table, is as it was, and that is no more.
pub record AppsTake (ids : List ℕ) (w v : WorldState) : Type 0 where
  pub client : v.client ≡ w.client
  pub way : v.to_client ≡ w.to_client
  pub kept : v.kept ≡ w.kept
  pub stations : v.stations ≡ w.stations
  pub hands : v.hands ≡ w.hands
  pub back_way : v.to_host ≡ w.to_host
  pub channels : v.channels ≡ w.channels
  pub traffic : (c : ℕ) → traffic c v.deeds ≡ traffic c w.deeds
  pub count : host_count v ≡ host_count w
  pub lines : lines_left ids v ≤ lines_left ids w

few_waits : (o : Option ℕ) → waits o ≤ 1
few_waits None = omega arith
few_waits (Some number) = omega arith

same_queued : (x : ApplicationState) (o : Outcome) (given : Option Handle) (asked : Asked) → (with_outcome x o given asked).queued ≡ x.queued
same_queued x o given asked = by (is_some asked.device)
  where
    by : (b : Bool) → (if b then record x { handles = holding_under x.handles asked.handle given } else x).queued ≡ x.queued
    by true = refl
    by false = refl

-- a line that comes out leaves no more
pub comes_out : (x : ApplicationState) (o : Outcome) (given : Option Handle) (asked : Asked) → line_left (with_outcome x o given asked) ≡ 2 * x.queued - (2 * length x.outcomes + 2)
comes_out x o given asked =
    let queued : (with_outcome x o given asked).queued ≡ x.queued = same_queued x o given asked in
    let longer : length (x.outcomes ++ o ∷ []) ≡ length x.outcomes + 1 = length-append x.outcomes (o ∷ []) in
    omega (arith, queued, longer)

pub line_put_within : (ids : List ℕ) (es : List (ℕ × ApplicationState)) (a : ℕ) (x : ApplicationState) → line_left x ≤ line_left (unwrap_or (lookup (is_at (nat_cmp a)) es) new_application)
    → (b : ℕ) → line_left (unwrap_or (lookup (is_at (nat_cmp b)) (insert_entry nat_cmp es a x)) new_application) ≤ line_left (unwrap_or (lookup (is_at (nat_cmp b)) es) new_application)
line_put_within ids es a x few =
    put_at_each (λ (b : ℕ) (o : Option ApplicationState). line_left (unwrap_or o new_application) ≤ line_left (unwrap_or (lookup (is_at (nat_cmp b)) es) new_application)) a x es few (λ b. omega arith)

module _ (ids : List ℕ) where
  takes_then : (w x v : WorldState) → AppsTake ids w x → AppsTake ids x v → AppsTake ids w v
  takes_then w x v a b = record {
    client = b.client ∙ a.client;
    way = b.way ∙ a.way;
    kept = b.kept ∙ a.kept;
    stations = b.stations ∙ a.stations;
    hands = b.hands ∙ a.hands;
    back_way = b.back_way ∙ a.back_way;
    channels = b.channels ∙ a.channels;
    traffic = λ c. b.traffic c ∙ a.traffic c;
    count = b.count ∙ a.count;
    lines = omega (arith, a.lines, b.lines);
  }

  takes_none : (w : WorldState) → AppsTake ids w w
  takes_none w =
      record { client = refl; way = refl; kept = refl; stations = refl; hands = refl; back_way = refl; channels = refl; traffic = λ c. refl; count = refl; lines = omega arith }

  outcome_taken : (w : WorldState) (a : ℕ) → AppsTake ids w (takes_outcome w a)
  outcome_taken w a = by (application_at w a).awaits
    where
      from : (number : ℕ) (r : TableState × Result Taken TakeNo) → (r.0).outbox ≡ ((w.side).table).outbox → AppsTake ids w (takes_from w a number r)
      from number (t, Err cause) same = takes_none w
      from number (t, Ok taken) same = ended (next_asked (application_at w a))
        where
          x : WorldState
          x = with_deed (with_table w t) (takes number)

          count : host_count x ≡ host_count w
          count = ap (λ (ms : List (List ℕ)). length (((w.side).core).core).outbox + length ms) same

          ended : (o : Option Asked)
              → AppsTake ids w (option_map_or (λ asked. with_application x a (with_outcome (application_at w a) (reported_outcome taken.outcome) (given_handle taken) asked)) o x)
          ended None = record { client = refl; way = refl; kept = refl; stations = refl; hands = refl; back_way = refl; channels = refl; traffic = λ c. refl; count = count; lines = omega arith }
          ended (Some asked) =
              let out : ApplicationState = with_outcome (application_at w a) (reported_outcome taken.outcome) (given_handle taken) asked in
              let left : line_left out ≡ 2 * (application_at w a).queued - (2 * length (application_at w a).outcomes + 2) = comes_out (application_at w a) (reported_outcome taken.outcome) (given_handle taken) asked in
              let few : waits (application_at w a).awaits ≤ 1 = few_waits (application_at w a).awaits in
              record {
                client = refl;
                way = refl;
                kept = refl;
                stations = refl;
                hands = refl;
                back_way = refl;
                channels = refl;
                traffic = λ c. refl;
                count = count;
                lines = sum_within ids (λ b. line_left (application_at w b)) (λ b. line_left (application_at (with_application x a out) b)) (line_put_within ids w.applications a out (omega (arith, left, few)));
              }

      by : (o : Option ℕ) → AppsTake ids w (takes_awaited w a o)
      by None = takes_none w
      by (Some number) = from number (table.take (w.side).table number) (tame_take (w.side).table number).outbox

  pub all_taken : (applications : List ℕ) (w : WorldState) → AppsTake ids w (fold takes_outcome w applications)
  all_taken [] w = takes_none w
  all_taken (a ∷ applications) w = takes_then w (takes_outcome w a) (fold takes_outcome (takes_outcome w a) applications) (outcome_taken w a) (all_taken applications (takes_outcome w a))
