-- What each part of a round keeps, rounds keep.
use Rattle.std.proofs.Common.{◌≡◌, refl, ap, subst, ℕ, zero, suc, arith, Bool, true, false, List, [], ◌∷◌, length, map, fold, ◌++◌, Some, None, Option, Result, Ok, Err}
use Rattle.std.specs.Prelude.{if◌then◌else◌, is_none, is_some}
use Rattle.std.specs.Option.{IfSome, option_map_or}
use Rattle.rd_base.specs.declared.journal.Key.{Key}
use Rattle.rd_client.specs.Core as client
use Rattle.rd_client.specs.Core.{ClientCoreState, Outgoing}
use Rattle.rd_pending.specs.declared.calls.Taken.{Taken}
use Rattle.rd_pending.specs.declared.calls.TakeNo.{TakeNo}
use Rattle.rd_pending.specs.Table as table
use Rattle.rd_pending.specs.Table.{TableState}
use Rattle.rd_orders.proofs.RunsParts.{IsBehind, MayBe, Part, client_gets, client_hears_one, client_keeps_part, client_sends_one, done, hands_out, host_gets, host_hears_one, host_keeps_part, host_sends_one, part_weight, reached_behind}
use Rattle.rd_orders.proofs.RunsReaching.{both}
use Rattle.rd_orders.specs.RunsMoves.{IsOfLines, Reached, event_weight, happens}
use Rattle.rd_script.specs.declared.line.NumberedLine.{NumberedLine}
use Rattle.rd_world.specs.Events as event
use Rattle.rd_world.specs.Events.{Event, act, is_enabled, is_read}
use Rattle.rd_world.specs.Hearing.{all_take, client_handles, client_handles_first, host_handles, host_handles_first, next_asked, takes_awaited, takes_from, takes_outcome}
use Rattle.rd_deeds.specs.Host.{next_message, side_sends}
use Rattle.rd_world.specs.Run.{all_client_sends, all_host_sends, client_reads_all, host_count, host_reads_all, is_quiet, rounds, when_enabled, while_enabled}
use Rattle.rd_world.specs.World.{ApplicationState, Kept, WorldState, application_at, first_message, handling_by, host_sends, most_messages}

-- what passes in a round: each end sends, gets bytes and hears messages, and applications take outcomes
abbrev pub IsOfRound : Part → Type 0
IsOfRound (hands_out a number t taken next) = Unit {0}
IsOfRound (host_sends_one message) = Unit {0}
IsOfRound (host_gets n) = Unit {0}
IsOfRound host_keeps_part = Unit {0}
IsOfRound (host_hears_one message rest) = Unit {0}
IsOfRound (client_sends_one c o) = Unit {0}
IsOfRound (client_gets n) = Unit {0}
IsOfRound client_keeps_part = Unit {0}
IsOfRound (client_hears_one message rest) = Unit {0}
IsOfRound p = ⊥

abbrev pub IsRoundEvent : Event → Type 0
IsRoundEvent event.host_send = Unit {0}
IsRoundEvent (event.client_read n) = Unit {0}
IsRoundEvent event.client_send = Unit {0}
IsRoundEvent (event.host_read n) = Unit {0}
IsRoundEvent e = ⊥

none_of : (o : Option Kept) → is_some o ≡ false → o ≡ None
none_of None e = refl
none_of (Some k) e = absurd (cc)

none_kept : (o : Option Kept) → is_none o ≡ true → o ≡ None
none_kept None e = refl
none_kept (Some k) e = absurd (cc)

-- ---- part by part

module _ (lines : List NumberedLine) (starves : Key → Bool) (P : WorldState → Type 0)
    (keep : (w : WorldState) (p : Part) → IsOfRound p → MayBe lines starves w p → P w → P (done starves w p)) where
  outcome_keeps : (w : WorldState) (a : ℕ) → P w → P (takes_outcome w a)
  outcome_keeps w a p = by (application_at w a).awaits refl
    where
      from : (number : ℕ) → (application_at w a).awaits ≡ Some number → (r : TableState × Result Taken TakeNo) → table.take (w.side).table number ≡ r → P (takes_from w a number r)
      from number waits (t, Err cause) made = p
      from number waits (t, Ok taken) made = keep w (hands_out a number t taken (next_asked (application_at w a))) tt (waits, refl, made) p

      by : (o : Option ℕ) → (application_at w a).awaits ≡ o → P (takes_awaited w a o)
      by None waits = p
      by (Some number) waits = from number waits (table.take (w.side).table number) refl

  outcomes_keep : (applications : List ℕ) (w : WorldState) → P w → P (fold takes_outcome w applications)
  outcomes_keep [] w p = p
  outcomes_keep (a ∷ applications) w p = outcomes_keep applications (takes_outcome w a) (outcome_keeps w a p)

  all_take_keeps : (w : WorldState) → P w → P (all_take w)
  all_take_keeps w p = outcomes_keep (map (λ (e : ℕ × ApplicationState). e.0) w.applications) w p

  client_handling_keeps : (most : ℕ) (w : WorldState) → P w → P (client_handles most w)
  client_handling_keeps zero w p = p
  client_handling_keeps (suc most) w p = by (is_some w.kept) refl (client_handling_keeps most)
    where
      first : w.kept ≡ None → ((x : WorldState) → P x → P (client_handles most x)) → (o : Option (List ℕ × List ℕ))
          → first_message ((w.to_client).part ++ (w.to_client).unhandled) ≡ o → P (client_handles_first w (handling_by w.to_client o) (client_handles most))
      first kept next None is = keep w client_keeps_part tt (kept, is) p
      first kept next (Some (message, rest)) is = next (done starves w (client_hears_one message rest)) (keep w (client_hears_one message rest) tt (kept, is) p)

      by : (b : Bool) → is_some w.kept ≡ b → ((x : WorldState) → P x → P (client_handles most x))
          → P (if b then w else client_handles_first w (handling_by w.to_client (first_message ((w.to_client).part ++ (w.to_client).unhandled))) (client_handles most))
      by true kept next = p
      by false kept next = first (none_of w.kept kept) next (first_message ((w.to_client).part ++ (w.to_client).unhandled)) refl

  host_handling_keeps : (most : ℕ) (w : WorldState) → P w → P (host_handles most w)
  host_handling_keeps zero w p = p
  host_handling_keeps (suc most) w p = by (first_message ((w.to_host).part ++ (w.to_host).unhandled)) refl (host_handling_keeps most)
    where
      by : (o : Option (List ℕ × List ℕ)) → first_message ((w.to_host).part ++ (w.to_host).unhandled) ≡ o → ((x : WorldState) → P x → P (host_handles most x))
          → P (host_handles_first w (handling_by w.to_host o) (host_handles most))
      by None is next = keep w host_keeps_part tt is p
      by (Some (message, rest)) is next = next (done starves w (host_hears_one message rest)) (keep w (host_hears_one message rest) tt is p)

  host_send_keeps : (w : WorldState) → P w → P (event.host_sends_next w)
  host_send_keeps w p = by (next_message w.side) refl
    where
      by : (o : Option (List ℕ)) → next_message w.side ≡ o → P (option_map_or (host_sends (record w { side = side_sends w.side })) o w)
      by None next = p
      by (Some message) next = keep w (host_sends_one message) tt next p

  client_send_keeps : (w : WorldState) → P w → P (event.client_sends_next w)
  client_send_keeps w p = by (client.client_send w.client) refl
    where
      by : (r : ClientCoreState × Option Outgoing) → client.client_send w.client ≡ r → P (event.client_sends_first w r)
      by (c, None) made = p
      by (c, Some o) made = keep w (client_sends_one c o) tt made p

  pub round_event_keeps : (w : WorldState) (e : Event) → IsRoundEvent e → is_enabled w e ≡ true → P w → P (act starves w e)
  round_event_keeps w event.host_send round can p = host_send_keeps w p
  round_event_keeps w (event.client_read k) round can p =
      let (some, kept) = both (is_read (w.to_client).pipe k) (is_none w.kept) can in
      let x : WorldState = done starves w (client_gets k) in
      client_handling_keeps (most_messages x.to_client) x (keep w (client_gets k) tt (some, none_kept w.kept kept) p)
  round_event_keeps w event.client_send round can p = client_send_keeps w p
  round_event_keeps w (event.host_read k) round can p =
      let x : WorldState = done starves w (host_gets k) in
      all_take_keeps (host_handles (most_messages x.to_host) x) (host_handling_keeps (most_messages x.to_host) x (keep w (host_gets k) tt can p))
  round_event_keeps w e round can p = absurd round

-- ---- round by round

module _ (starves : Key → Bool) (P : WorldState → Type 0) (free : (w : WorldState) (e : Event) → IsRoundEvent e → is_enabled w e ≡ true → P w → P (act starves w e)) where
  while_keeps : (most : ℕ) (e : Event) → IsRoundEvent e → (w : WorldState) → P w → P (while_enabled starves most e w)
  while_keeps zero e round w p = p
  while_keeps (suc most) e round w p = by (is_enabled w e) refl (while_keeps most e round)
    where
      by : (b : Bool) → is_enabled w e ≡ b → ((x : WorldState) → P x → P (while_enabled starves most e x)) → P (if b then while_enabled starves most e (act starves w e) else w)
      by true can next = next (act starves w e) (free w e round can p)
      by false can next = p

  when_keeps : (e : Event) → IsRoundEvent e → (w : WorldState) → P w → P (when_enabled starves e w)
  when_keeps e round w p = by (is_enabled w e) refl
    where
      by : (b : Bool) → is_enabled w e ≡ b → P (if b then act starves w e else w)
      by true can = free w e round can p
      by false can = p

  -- rounds end where nothing is to be sent or read
  pub rounds_keep : (most : ℕ) (w : WorldState) → P w → IfSome (rounds starves most w) (λ x. P x × (is_quiet x ≡ true))
  rounds_keep zero w p = tt
  rounds_keep (suc most) w p = by (is_quiet w) refl (rounds_keep most)
    where
      answered : WorldState
      answered = all_client_sends starves (all_host_sends starves w)

      read : WorldState
      read = client_reads_all starves answered

      answered_keeps : P answered
      answered_keeps = while_keeps (length (((all_host_sends starves w).client).core).outbox) event.client_send tt (all_host_sends starves w) (while_keeps (host_count w) event.host_send tt w p)

      read_keeps : P read
      read_keeps = when_keeps (event.client_read (length (answered.to_client).pipe)) tt answered answered_keeps

      by : (b : Bool) → is_quiet w ≡ b → ((x : WorldState) → P x → IfSome (rounds starves most x) (λ y. P y × (is_quiet y ≡ true)))
          → IfSome (if b then Some w else rounds starves most (host_reads_all starves read)) (λ y. P y × (is_quiet y ≡ true))
      by true quiet next = (p, quiet)
      by false quiet next = next (host_reads_all starves read) (when_keeps (event.host_read (length (read.to_host).pipe)) tt read read_keeps)

-- ---- in worlds that are reached

module _ (lines : List NumberedLine) (starves : Key → Bool) where
  -- a world that is behind a part more of a round
  round_behind : (w : WorldState) (p : Part) → IsOfRound p → MayBe lines starves w p → IsBehind lines starves w → IsBehind lines starves (done starves w p)
  round_behind w p round may b = record {
    parts = p ∷ b.parts;
    may = (subst (λ (x : WorldState). MayBe lines starves x p) b.leads may, b.may);
    few = omega (arith, b.few, free p round);
    leads = ap (λ (x : WorldState). done starves x p) b.leads;
  }
    where
      free : (p : Part) → IsOfRound p → part_weight p ≡ 0
      free (hands_out a number t taken next) round = refl
      free (host_sends_one message) round = refl
      free (host_gets n) round = refl
      free host_keeps_part round = refl
      free (host_hears_one message rest) round = refl
      free (client_sends_one c o) round = refl
      free (client_gets n) round = refl
      free client_keeps_part round = refl
      free (client_hears_one message rest) round = refl
      free p round = absurd round

  round_reached : (w : WorldState) (e : Event) → IsRoundEvent e → is_enabled w e ≡ true → Reached lines starves w → Reached lines starves (act starves w e)
  round_reached w e round can r = record {
    moves = happens e ∷ r.moves;
    pass = ((of e round, subst (λ (x : WorldState). is_enabled x e ≡ true) r.leads can), r.pass);
    few = omega (arith, free e round, r.few);
    leads = ap (λ (x : WorldState). act starves x e) r.leads;
  }
    where
      free : (e : Event) → IsRoundEvent e → event_weight e ≡ 0
      free event.host_send round = refl
      free (event.client_read n) round = refl
      free event.client_send round = refl
      free (event.host_read n) round = refl
      free e round = absurd round

      of : (e : Event) → IsRoundEvent e → IsOfLines lines e
      of event.host_send round = tt
      of (event.client_read n) round = tt
      of event.client_send round = tt
      of (event.host_read n) round = tt
      of e round = absurd round

  -- What each part of a round keeps holds where rounds end, in a world that is reached.
  pub rounds_reach : (Q : WorldState → Type 0) → ((w : WorldState) (p : Part) → IsOfRound p → MayBe lines starves w p → IsBehind lines starves w → Q w → Q (done starves w p))
      → (most : ℕ) (w : WorldState) → Reached lines starves w → Q w → IfSome (rounds starves most w) (λ x. (Reached lines starves x × Q x) × (is_quiet x ≡ true))
  rounds_reach Q step most w r q =
      rounds_keep starves (λ x. Reached lines starves x × Q x)
      (λ x e round can (reached, own). (
        round_reached x e round can reached,
        (round_event_keeps lines starves (λ y. IsBehind lines starves y × Q y) (λ y p round may (behind, own). (round_behind y p round may behind, step y p round may behind own)) x e round can
            (reached_behind lines starves x reached, own)).1,
      )) most w (r, q)
