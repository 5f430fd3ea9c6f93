-- In every run each channel opens before the next line passes.
use Rattle.std.proofs.Common.{◌≡◌, refl, sym, ap, subst, ℕ, ◌+◌, ◌≤◌, Bool, true, List, [], ◌∷◌, length, Some, None, Option, arith}
use Rattle.std.specs.Option.{IfSome}
use Rattle.rd_base.specs.declared.journal.Key.{Key}
use Rattle.rd_said.proofs.ControlsWalking.{IsOpening, opening_rounds_keep}
use Rattle.rd_opening.proofs.ChannelLemmas.{behind_channels}
use Rattle.rd_opening.proofs.Opened.{connected_opens}
use Rattle.rd_said.specs.OrdersOrders.{DeclaresWritable}
use Rattle.rd_outcomes.specs.Opened.{ChannelsOpen}
use Rattle.rd_said.proofs.RunsParts.{reached_behind}
use Rattle.rd_said.specs.RunsMoves.{IsOfLines, MayPass, Reached, ReachedWithin, event_weight, happens}
use Rattle.rd_said.specs.RunsPremises.{RunPremises}
use Rattle.rd_script.specs.declared.line.NumberedLine.{NumberedLine}
use Rattle.rd_world.specs.Acts.{HasOpened}
use Rattle.rd_declared.specs.Devices.{Declared}
use Rattle.rd_world.specs.Events as event
use Rattle.rd_world.specs.Events.{Event, act, is_enabled}
use Rattle.rd_world.specs.Lines.{last_begun}
use Rattle.rd_declared.specs.Declaring.{bare_lines, declared_devices}
use Rattle.rd_world.specs.Run.{Most, connects_on, is_quiet, rounds}
use Rattle.rd_world.specs.World.{WorldState}

module _ (lines : List NumberedLine) (starves : Key → Bool) (most : Most) (premises : RunPremises lines) (writable : DeclaresWritable lines) where
  abbrev devices : List (ℕ × Declared)
  devices = declared_devices (bare_lines lines)

  more_moves : (w : WorldState) (e : Event) → event_weight e ≤ 1 → (n : ℕ) → n + event_weight e ≤ length lines + 2 → IsOfLines lines e → is_enabled w e ≡ true → ReachedWithin n lines starves w → Reached lines starves (act starves w e)
  more_moves w e one n low said can r = record {
    moves = happens e ∷ r.moves;
    pass = (subst (λ (x : WorldState). MayPass lines x (happens e)) r.leads (said, can), r.pass);
    few = omega (arith, r.few, low);
    leads = ap (λ (x : WorldState). act starves x e) r.leads;
  }

  opening_reached : (w : WorldState) (e : Event) → IsOpening e → is_enabled w e ≡ true → Reached lines starves w → Reached lines starves (act starves w e)
  opening_reached w event.host_send is can r = more_moves w event.host_send (omega arith) (length lines + 2) (omega arith) tt can r
  opening_reached w event.client_send is can r = more_moves w event.client_send (omega arith) (length lines + 2) (omega arith) tt can r
  opening_reached w (event.client_read k) is can r = more_moves w (event.client_read k) (omega arith) (length lines + 2) (omega arith) tt can r
  opening_reached w (event.host_read k) is can r = more_moves w (event.host_read k) (omega arith) (length lines + 2) (omega arith) tt can r
  opening_reached w e is can r = absurd is

  -- the rounds of a channel's begin lead to a world that is reached
  pub begun_reached : (n : ℕ) (w v : WorldState) → n + 1 ≤ length lines + 2 → ReachedWithin n lines starves w → is_enabled w event.connect ≡ true → connects_on starves most w ≡ Some v → Reached lines starves v
  begun_reached n w v few r can made =
      let x : WorldState = act starves w event.connect in
      let first : Reached lines starves x = more_moves w event.connect (omega arith) n few tt can r in
      ended (rounds starves most.rounds x) made (opening_rounds_keep starves (Reached lines starves) IsOpening opening_reached (λ e is. is) most.rounds x first)
    where
      ended : (o : Option WorldState) → o ≡ Some v → IfSome o (λ y. Reached lines starves y × (is_quiet y ≡ true)) → Reached lines starves v
      ended None made own = absurd (cc made)
      ended (Some y) made own = let same : y ≡ v = cc made in subst (Reached lines starves) same own.0

  -- so it opened by then
  pub opens_in_time : ChannelsOpen lines starves most
  opens_in_time n w v few r can made =
      let within : ReachedWithin (length lines + 1) lines starves w = record { moves = r.moves; pass = r.pass; few = omega (arith, r.few, few); leads = r.leads } in
      let opened : HasOpened devices v.deeds v.channels = subst (λ (o : Option WorldState). IfSome o (λ (x : WorldState). HasOpened devices x.deeds x.channels)) made (connected_opens lines starves premises writable most w can within) in
      let last : last_begun v.deeds ≡ v.channels = (behind_channels lines starves premises v (reached_behind lines starves v (begun_reached n w v few r can made))).last_is in
      ([], v.deeds, refl, subst (HasOpened devices v.deeds) (sym last) opened)
