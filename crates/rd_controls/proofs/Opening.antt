-- A channel opens: of what passes in the rounds of its begin each message follows from those before it.
use Rattle.std.proofs.Common.{◌≡◌, ◌∙◌, refl, sym, ap, subst, ℕ, zero, suc, ◌+◌, Bool, true, false, List, [], ◌∷◌, length, map, fold, Some, None, Option, Result, Ok, Err}
use Rattle.std.specs.Prelude.{if◌then◌else◌, is_some}
use Rattle.rd_deeds.specs.Host.{first_waiting}
use Rattle.std.specs.Option.{IfSome, option_map_or}
use Rattle.rd_base.specs.declared.journal.Key.{Key}
use Rattle.rd_client.specs.Core.{Outgoing, plain, refresh}
use Rattle.rd_core.specs.Core.{CoreState}
use Rattle.rd_base.specs.Counted.{count_to, counted, counted_bytes}
use Rattle.rd_base.specs.Header.{component_field, header, header_among}
use Rattle.rd_chunk.specs.Carrier.{carrier_frame}
use Rattle.rd_chunk.specs.Frames.{flags_of, length_of, size_of}
use Rattle.rd_hello.specs.Capability.{body_of, capability, general, other, sets, special}
use Rattle.rd_hello.specs.Hello.{hello, hello_bytes, name, version}
use Rattle.rd_hello.specs.Own.{client_confirm, client_name, client_sets, host_announce, host_sets, own_minor}
use Rattle.rd_hello.specs.declared.client.ClientState.{ClientState}
use Rattle.rd_hello.specs.declared.client.ClientState.TheVariants as client_state
use Rattle.rd_hello.specs.declared.hello.Hello.TheVariants as greeting
use Rattle.rd_hello.specs.declared.host.HostState.{HostState}
use Rattle.rd_hello.specs.declared.host.HostState.TheVariants as host_state
use Rattle.rd_chunk.specs.Carrier.{carrier_of}
use Rattle.rd_client.specs.Core.{client_hear}
use Rattle.rd_controls.proofs.Unseen.{client_handles_unseen, client_ready, event_unseen, heard_unseen, host_ready}
use Rattle.rd_pending.specs.Table as table
use Rattle.rd_pending.specs.Table.{Fate, TableState, Untaken, awaited, known, untaken_at}
use Rattle.rd_pending.specs.declared.calls.Handle.{Handle}
use Rattle.rd_pending.specs.declared.calls.TakeNo.{TakeNo}
use Rattle.rd_pending.specs.declared.calls.Taken.{Taken}
use Rattle.rd_script.specs.declared.outcome.Outcome.{Outcome}
use Rattle.rd_world.specs.Events as event
use Rattle.rd_world.specs.Events.{act, connects, is_enabled, refreshing}
use Rattle.rd_deeds.specs.Talk.{client_reads, open_channel, takes}
use Rattle.std.specs.BTreeMap.{is_at}
use Rattle.std.specs.Map.{lookup}
use Rattle.std.specs.Ordering.{nat_cmp}
use Rattle.rd_runs.proofs.HostLemmas.{host_channel, shut_sends}
use Rattle.rd_runs.proofs.Together as together
use Rattle.rd_runs.specs.Moves.{Reached}
use Rattle.rd_runs.specs.Premises.{RunPremises}
use Rattle.rd_script.specs.declared.line.NumberedLine.{NumberedLine}
use Rattle.rd_declared.specs.Devices.{PrinterNames, printer_data}
use Rattle.rd_world.specs.Run.{all_client_sends, all_host_sends, client_reads_all, host_reads_all, is_quiet, rounds}
use Rattle.rd_world.specs.Hearing.{all_take, client_hears, ends_line, host_handles, next_asked, takes_awaited, takes_from, takes_outcome, with_client, with_outcome}
use Rattle.rd_world.specs.World.{ApplicationState, Asked, Kept, WayState, WorldState, application_at, handling, having_read, most_messages, with_application, with_deed, with_table}

-- what the opening of a channel goes by
record Opening : Type 0 where
  host : CoreState HostState (List ℕ)
  number : ℕ
  requests : List (List ℕ)
  client : CoreState ClientState Outgoing
  down : WayState
  up : WayState
  kept : Option Kept

abbrev opening : WorldState → Opening
opening w = record {
  host = ((w.side).core).core;
  number = ((w.side).core).client;
  requests = ((w.side).table).outbox;
  client = (w.client).core;
  down = w.to_client;
  up = w.to_host;
  kept = w.kept;
}

abbrev put : WorldState → Opening → WorldState
put w o = record w {
  side = record w.side { core = record { client = o.number; core = o.host }; table = record (w.side).table { outbox = o.requests } };
  client = record w.client { core = o.client };
  to_client = o.down;
  to_host = o.up;
  kept = o.kept;
}

-- a world in which these are so
formed : (Q : WorldState → Type 0) (w : WorldState) (o : Opening) → opening w ≡ o → Q (put w o) → Q w
formed Q w o is own = subst (λ (p : Opening). Q (put w p)) (sym is) own

-- ---- the messages

abbrev announces : List ℕ
announces = hello_bytes (host_announce 1)

abbrev confirms : List ℕ
confirms = hello_bytes (client_confirm (record { minor = own_minor; client = 1 }))

abbrev names : List ℕ
names = hello_bytes client_name

abbrev offers : List ℕ
offers = hello_bytes host_sets

abbrev accepts : List ℕ
accepts = hello_bytes client_sets

abbrev logged_on : List ℕ
logged_on = hello_bytes greeting.LoggedOn

-- ---- the stages

abbrev still : ℕ → WayState
still n = record { part = []; taken = n; unhandled = []; pipe = []; ended = false }

abbrev stage : HostState → List (List ℕ) → ClientState → List (List ℕ) → ℕ → ℕ → Opening
stage h sends c answers n m = record {
  host = record { shake = h; fault = None; outbox = sends };
  number = 1;
  requests = [];
  client = record { shake = c; fault = None; outbox = map plain answers };
  down = still n;
  up = still m;
  kept = None;
}

module _ (starves : Key → Bool) where
  abbrev sent : WorldState → WorldState
  sent w = all_client_sends starves (all_host_sends starves w)

  abbrev round : WorldState → WorldState
  round w = host_reads_all starves (client_reads_all starves (sent w))

  -- what the client sent is heard, before the applications take what came of it
  abbrev host_handled : WorldState → WorldState
  host_handled v =
      let y : WorldState = client_reads_all starves (sent v) in
      let x : WorldState = record y { to_host = having_read (length (y.to_host).pipe) y.to_host } in host_handles (most_messages x.to_host) x

  begun_round : (w : WorldState) (n m : ℕ) → let v = put w (stage host_state.Start (announces ∷ []) client_state.Start [] n m) in
      opening (round v) ≡ stage host_state.Start [] client_state.Named (confirms ∷ names ∷ []) ((round v).to_client).taken ((round v).to_host).taken
  unfolding carrier_frame size_of length_of flags_of header_among component_field header hello version name sets capability body_of special general other count_to counted counted_bytes
  begun_round w n m = refl

  -- the host hears the client's confirm and its name
  named_round : (w : WorldState) (n m : ℕ) → let v = put w (stage host_state.Start [] client_state.Named (confirms ∷ names ∷ []) n m) in
      opening (host_handled v) ≡ stage host_state.Offered (offers ∷ confirms ∷ []) client_state.Named [] ((host_handled v).to_client).taken ((host_handled v).to_host).taken
  unfolding carrier_frame size_of length_of flags_of header_among component_field header hello version name sets capability body_of special general other count_to counted counted_bytes
  named_round w n m = refl

  offered_round : (w : WorldState) (n m : ℕ) → let v = put w (stage host_state.Offered (offers ∷ confirms ∷ []) client_state.Named [] n m) in
      opening (round v) ≡ stage host_state.Offered [] client_state.Waiting (accepts ∷ []) ((round v).to_client).taken ((round v).to_host).taken
  unfolding carrier_frame size_of length_of flags_of header_among component_field header hello version name sets capability body_of special general other count_to counted counted_bytes
  offered_round w n m = refl

  accepted_round : (w : WorldState) (n m : ℕ) → let v = put w (stage host_state.Offered [] client_state.Waiting (accepts ∷ []) n m) in
      opening (host_handled v) ≡ stage host_state.Ready (logged_on ∷ []) client_state.Waiting [] ((host_handled v).to_client).taken ((host_handled v).to_host).taken
  unfolding carrier_frame size_of length_of flags_of header_among component_field header hello version name sets capability body_of special general other count_to counted counted_bytes
  accepted_round w n m = refl

  -- ---- what applications take

  take_outbox : (t : TableState) (number : ℕ) → ((table.take t number).0).outbox ≡ t.outbox
  take_outbox t number = by (untaken_at t number) refl
    where
      from : (u : Untaken) → untaken_at t number ≡ Some u → (f : Fate) → u.fate ≡ f → ((table.take t number).0).outbox ≡ t.outbox
      from u there awaited is = rw (there, is) refl
      from u there (known outcome) is = rw (there, is) refl

      by : (o : Option Untaken) → untaken_at t number ≡ o → ((table.take t number).0).outbox ≡ t.outbox
      by None there = rw there refl
      by (Some u) there = from u there u.fate refl

  outcome_opening : (w : WorldState) (a : ℕ) → opening (takes_outcome w a) ≡ opening w
  outcome_opening w a = by (application_at w a).awaits
    where
      ends : (v : WorldState) (o : Outcome) (holds : Option Handle) → opening (ends_line v a o holds) ≡ opening v
      ends v o holds = on (next_asked (application_at v a))
        where
          on : (x : Option Asked) → opening (option_map_or (λ asked. with_application v a (with_outcome (application_at v a) o holds asked)) x v) ≡ opening v
          on None = refl
          on (Some asked) = refl

      from : (number : ℕ) (r : TableState × Result Taken TakeNo) → (r.0).outbox ≡ ((w.side).table).outbox → opening (takes_from w a number r) ≡ opening w
      from number (t, Err cause) same = refl
      from number (t, Ok taken) same = ends (with_deed (with_table w t) (takes number)) _ _ ∙ ap (λ (l : List (List ℕ)). record (opening w) { requests = l }) same

      by : (o : Option ℕ) → opening (takes_awaited w a o) ≡ opening w
      by None = refl
      by (Some number) = from number (table.take (w.side).table number) (take_outbox (w.side).table number)

  all_opening : (applications : List ℕ) (w : WorldState) → opening (fold takes_outcome w applications) ≡ opening w
  all_opening [] w = refl
  all_opening (a ∷ applications) w = all_opening applications (takes_outcome w a) ∙ outcome_opening w a

  take_opening : (w : WorldState) → opening (all_take w) ≡ opening w
  take_opening w = all_opening (map (λ (e : ℕ × ApplicationState). e.0) w.applications) w

  -- ---- round by round

  -- a world stands so
  abbrev IsAt : HostState → List (List ℕ) → ClientState → List (List ℕ) → WorldState → Type 0
  IsAt h sends c answers w = (n m : ℕ) × (opening w ≡ stage h sends c answers n m)

  first_round : (w : WorldState) → IsAt host_state.Start (announces ∷ []) client_state.Start [] w → IsAt host_state.Start [] client_state.Named (confirms ∷ names ∷ []) (round w)
  first_round w (n, m, is) = formed (λ v. IsAt host_state.Start [] client_state.Named (confirms ∷ names ∷ []) (round v)) w (stage host_state.Start (announces ∷ []) client_state.Start [] n m) is (_, _, begun_round w n m)

  second_round : (w : WorldState) → IsAt host_state.Start [] client_state.Named (confirms ∷ names ∷ []) w → IsAt host_state.Offered (offers ∷ confirms ∷ []) client_state.Named [] (round w)
  unfolding carrier_frame size_of length_of flags_of header_among component_field header hello version name sets capability body_of special general other count_to counted counted_bytes
  second_round w (n, m, is) =
      formed (λ v. IsAt host_state.Offered (offers ∷ confirms ∷ []) client_state.Named [] (round v)) w (stage host_state.Start [] client_state.Named (confirms ∷ names ∷ []) n m) is
      (let v : WorldState = put w (stage host_state.Start [] client_state.Named (confirms ∷ names ∷ []) n m) in
      let all : opening (round v) ≡ opening (host_handled v) = take_opening (host_handled v) in (_, _, all ∙ named_round w n m))

  third_round : (w : WorldState) → IsAt host_state.Offered (offers ∷ confirms ∷ []) client_state.Named [] w → IsAt host_state.Offered [] client_state.Waiting (accepts ∷ []) (round w)
  third_round w (n, m, is) = formed (λ v. IsAt host_state.Offered [] client_state.Waiting (accepts ∷ []) (round v)) w (stage host_state.Offered (offers ∷ confirms ∷ []) client_state.Named [] n m) is (_, _, offered_round w n m)

  fourth_round : (w : WorldState) → IsAt host_state.Offered [] client_state.Waiting (accepts ∷ []) w → IsAt host_state.Ready (logged_on ∷ []) client_state.Waiting [] (round w)
  unfolding carrier_frame size_of length_of flags_of header_among component_field header hello version name sets capability body_of special general other count_to counted counted_bytes
  fourth_round w (n, m, is) =
      formed (λ v. IsAt host_state.Ready (logged_on ∷ []) client_state.Waiting [] (round v)) w (stage host_state.Offered [] client_state.Waiting (accepts ∷ []) n m) is
      (let v : WorldState = put w (stage host_state.Offered [] client_state.Waiting (accepts ∷ []) n m) in
      let all : opening (round v) ≡ opening (host_handled v) = take_opening (host_handled v) in (_, _, all ∙ accepted_round w n m))

  -- ---- the client is ready

  -- the client hears that the user logged on
  last_round : (w : WorldState) → IsAt host_state.Ready (logged_on ∷ []) client_state.Waiting [] w → (client_ready (round w) ≡ true) × (host_ready (round w) ≡ true)
  unfolding carrier_frame size_of length_of flags_of header_among component_field header hello version name sets capability body_of special general other count_to counted counted_bytes
  last_round w (n, m, is) =
      formed (λ v. (client_ready (round v) ≡ true) × (host_ready (round v) ≡ true)) w (stage host_state.Ready (logged_on ∷ []) client_state.Waiting [] n m) is
      (let v : WorldState = put w (stage host_state.Ready (logged_on ∷ []) client_state.Waiting [] n m) in
      let s : WorldState = sent v in
      let y : WorldState = record s { to_client = (handling (having_read (length (s.to_client).pipe) s.to_client)).0 } in
      let heard = client_hear y.client logged_on in
      let z : WorldState = with_deed (with_client y heard.0) (client_reads y.channels logged_on) in
      let u = heard_unseen ((y.client).core).shake z heard.1 in
      let rest = client_handles_unseen (length (carrier_of logged_on)) (client_hears y logged_on) in
      let read : WorldState = client_reads_all starves s in
      let client_is : client_ready read ≡ true = rest.client (u.client refl) in
      let host_is : host_ready read ≡ true = rest.host (u.host refl) in
      last read client_is host_is)
    where
      last : (x : WorldState) → client_ready x ≡ true → host_ready x ≡ true → (client_ready (host_reads_all starves x) ≡ true) × (host_ready (host_reads_all starves x) ≡ true)
      last x c h = by (is_enabled x (event.host_read (length (x.to_host).pipe)))
        where
          by : (b : Bool) → (client_ready (if b then act starves x (event.host_read (length (x.to_host).pipe)) else x) ≡ true)
              × (host_ready (if b then act starves x (event.host_read (length (x.to_host).pipe)) else x) ≡ true)
          by true = let u = event_unseen starves x (event.host_read (length (x.to_host).pipe)) refl in (u.client c, u.host h)
          by false = (c, h)

  -- ---- all of it

  not_quiet : (h : HostState) (sends : List (List ℕ)) (c : ClientState) (answers : List (List ℕ)) → ((n m : ℕ) (w : WorldState) → is_quiet (put w (stage h sends c answers n m)) ≡ false)
      → (w : WorldState) → IsAt h sends c answers w → is_quiet w ≡ false
  not_quiet h sends c answers by w (n, m, is) = formed (λ v. is_quiet v ≡ false) w (stage h sends c answers n m) is (by n m w)

  next_round : (Q : WorldState → Type 0) (k : ℕ) (w : WorldState) → is_quiet w ≡ false → IfSome (rounds starves k (round w)) Q → IfSome (rounds starves (suc k) w) Q
  next_round Q k w off own = subst (λ (b : Bool). IfSome (if b then Some w else rounds starves k (round w)) Q) (sym off) own

  -- what is so of each world in which both ends are ready is so of what rounds come to, where a channel begins
  pub opened : (P Q : WorldState → Type 0) → ((w : WorldState) → P w → P (round w)) → ((k : ℕ) (w : WorldState) → P w → client_ready w ≡ true → host_ready w ≡ true → IfSome (rounds starves k w) Q)
      → (k : ℕ) (w : WorldState) → P w → opening w ≡ stage host_state.Start (announces ∷ []) client_state.Start [] 0 0 → IfSome (rounds starves k w) Q
  opened P Q keeps ready k w p is = stage_0 k w p (0, 0, is)
    where
      stage_5 : (k : ℕ) (w : WorldState) → P w → (client_ready w ≡ true) × (host_ready w ≡ true) → IfSome (rounds starves k w) Q
      stage_5 k w p both = ready k w p both.0 both.1

      stage_4 : (k : ℕ) (w : WorldState) → P w → IsAt host_state.Ready (logged_on ∷ []) client_state.Waiting [] w → IfSome (rounds starves k w) Q
      stage_4 zero w p at = tt
      stage_4 (suc k) w p at = next_round Q k w (not_quiet host_state.Ready (logged_on ∷ []) client_state.Waiting [] (λ n m v. refl) w at) (stage_5 k (round w) (keeps w p) (last_round w at))

      stage_3 : (k : ℕ) (w : WorldState) → P w → IsAt host_state.Offered [] client_state.Waiting (accepts ∷ []) w → IfSome (rounds starves k w) Q
      stage_3 zero w p at = tt
      stage_3 (suc k) w p at = next_round Q k w (not_quiet host_state.Offered [] client_state.Waiting (accepts ∷ []) (λ n m v. refl) w at) (stage_4 k (round w) (keeps w p) (fourth_round w at))

      stage_2 : (k : ℕ) (w : WorldState) → P w → IsAt host_state.Offered (offers ∷ confirms ∷ []) client_state.Named [] w → IfSome (rounds starves k w) Q
      stage_2 zero w p at = tt
      stage_2 (suc k) w p at = next_round Q k w (not_quiet host_state.Offered (offers ∷ confirms ∷ []) client_state.Named [] (λ n m v. refl) w at) (stage_3 k (round w) (keeps w p) (third_round w at))

      stage_1 : (k : ℕ) (w : WorldState) → P w → IsAt host_state.Start [] client_state.Named (confirms ∷ names ∷ []) w → IfSome (rounds starves k w) Q
      stage_1 zero w p at = tt
      stage_1 (suc k) w p at = next_round Q k w (not_quiet host_state.Start [] client_state.Named (confirms ∷ names ∷ []) (λ n m v. refl) w at) (stage_2 k (round w) (keeps w p) (second_round w at))

      stage_0 : (k : ℕ) (w : WorldState) → P w → IsAt host_state.Start (announces ∷ []) client_state.Start [] w → IfSome (rounds starves k w) Q
      stage_0 zero w p at = tt
      stage_0 (suc k) w p at = next_round Q k w (not_quiet host_state.Start (announces ∷ []) client_state.Start [] (λ n m v. refl) w at) (stage_1 k (round w) (keeps w p) (first_round w at))

-- ---- where it begins

module _ (lines : List NumberedLine) (starves : Key → Bool) (premises : RunPremises lines) where
  no_requests : (a b : List (List ℕ)) → first_waiting a b ≡ None → b ≡ []
  no_requests (m ∷ ms) b none = absurd cc
  no_requests [] (m ∷ ms) none = absurd cc
  no_requests [] [] none = refl

  all_refreshed_kept : (devices : List ℕ) (w : WorldState) → (fold refreshing w devices).kept ≡ w.kept
  all_refreshed_kept [] w = refl
  all_refreshed_kept (device ∷ devices) w = all_refreshed_kept devices (refreshing w device) ∙ by (lookup (is_at (nat_cmp device)) w.printers)
    where
      by : (o : Option PrinterNames) → (option_map_or (λ (names : PrinterNames). with_client w (refresh w.client device (printer_data w.cache names))) o w).kept ≡ w.kept
      by None = refl
      by (Some own) = refl

  begun_outbox : (t : TableState) (channel : ℕ) → ((table.begin t channel).0).outbox ≡ t.outbox
  begun_outbox t channel = by (is_some t.channel)
    where
      by : (b : Bool) → ((if◌then◌else◌ {A = TableState × Bool} b (t, false) (record t { channel = Some channel; below = channel + 1; asked = 0; begun = 0 }, true)).0).outbox ≡ t.outbox
      by true = refl
      by false = refl

  -- a channel begins: the host has its announcement to send, and nothing is under way
  pub begins_at : (w : WorldState) → Reached lines starves w → ((w.side).table).channel ≡ None → ((w.side).core).client ≡ 1
      → opening (connects w) ≡ stage host_state.Start (announces ∷ []) client_state.Start [] 0 0
  begins_at w r none number =
      let stands = (together.known lines starves premises w r).stands in
      let shut : open_channel w.deeds ≡ None = sym (host_channel w.side w.channels w.deeds stands.host) ∙ none in
      let requests : ((w.side).table).outbox ≡ [] = no_requests (((w.side).core).core).outbox ((w.side).table).outbox (shut_sends w.side w.channels w.deeds stands.host shut) in
      let kept : (fold refreshing w (map (λ (e : ℕ × PrinterNames). e.0) w.printers)).kept ≡ None = all_refreshed_kept (map (λ (e : ℕ × PrinterNames). e.0) w.printers) w ∙ (stands.shut shut).kept_none in
      let outbox : ((table.begin (w.side).table (w.channels + 1)).0).outbox ≡ [] = begun_outbox (w.side).table (w.channels + 1) ∙ requests in
      λ i. record {
        host = record { shake = host_state.Start; fault = None; outbox = hello_bytes (host_announce (number i)) ∷ [] };
        number = number i;
        requests = outbox i;
        client = record { shake = client_state.Start; fault = None; outbox = [] };
        down = still 0;
        up = still 0;
        kept = kept i;
      }
