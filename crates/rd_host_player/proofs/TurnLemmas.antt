-- The turn of the front stays the same, whatever the calling thread of a host does.
use Rattle.std.proofs.Common.{◌≡◌, ◌∙◌, ℕ, zero, suc, inl, inr, ap}
use Rattle.rd_host_front.specs.State.{TurnOfTable}
use Rattle.rd_host_player.specs.Play.{Acted, Acts, CameTo, ComesToControl, Ended, Issued, Looked, Passed, PlayState, Plays, PlaysOut, Ran, Stops, Tried, Waited}
use Rattle.rd_host_player.specs.declared.plan.Control.{Control}
use Rattle.rd_host_player.specs.declared.plan.Control.TheVariants as control
use Rattle.rd_host_player.specs.declared.player.Stop.{Stop}
use Rattle.rd_host_player.specs.declared.player.Stop.TheVariants as stop

module _ {F W : Type 0} where
  came_turn : (n : ℕ) (old new : PlayState F W) → CameTo n old new → new.at ≡ old.at
  came_turn zero old new is = ap (λ (s : PlayState F W). s.at) is
  came_turn (suc n) old new (here, l, came, none, comes) = ap (λ (s : PlayState F W). s.at) comes.2 ∙ came_turn n old here came

  ran_turn : (n : ℕ) (old new : PlayState F W) → Ran n old new → new.at ≡ old.at
  ran_turn zero old new is = ap (λ (s : PlayState F W). s.at) is
  ran_turn (suc n) old new (here, ran, runs) = ap (λ (s : PlayState F W). s.at) runs.2 ∙ ran_turn n old here ran

  issued_turn : (old new : PlayState F W) → Issued old new → new.at ≡ old.at
  issued_turn old new (lines, times, here, came, control, ran) = ran_turn (suc times) here new ran ∙ came_turn lines old here came

  looked_turn : (turn : TurnOfTable) (n : ℕ) (old new : PlayState F W) → Looked turn n old new → new.at ≡ old.at
  looked_turn turn zero old new is = ap (λ (s : PlayState F W). s.at) is
  looked_turn turn (suc n) old new (here, stage, looked, looks) = ap (λ (s : PlayState F W). s.at) looks.1 ∙ looked_turn turn n old here looked

  waited_turn : (turn : TurnOfTable) (devices : ℕ) (old new : PlayState F W) → Waited turn devices old new → new.at ≡ old.at
  waited_turn turn devices old new (times, here, stage, looked, looks, ready) = ap (λ (s : PlayState F W). s.at) looks.1 ∙ looked_turn turn times old here looked

  tried_turn : (n : ℕ) (old new : PlayState F W) → Tried n old new → new.at ≡ old.at
  tried_turn zero old new is = ap (λ (s : PlayState F W). s.at) is
  tried_turn (suc n) old new (here, tried, tries) = ap (λ (s : PlayState F W). s.at) tries.2 ∙ tried_turn n old here tried

  ended_turn : (old new : PlayState F W) → Ended old new → new.at ≡ old.at
  ended_turn old new (times, here, tried, tries) = ap (λ (s : PlayState F W). s.at) tries.2 ∙ tried_turn times old here tried

  control_turn : (c : Control) (old new : PlayState F W) → ComesToControl c old new → new.at ≡ old.at
  control_turn c old new (l, comes, is) = ap (λ (s : PlayState F W). s.at) comes.2

  acts_turn : (turn : TurnOfTable) (old new : PlayState F W) → Acts turn old new → new.at ≡ old.at
  acts_turn turn old new (here, next, issued, inl (comes, ended)) = ended_turn next new ended ∙ control_turn control.Drop here next comes ∙ issued_turn old here issued
  acts_turn turn old new (here, next, issued, inr (stage, comes, looks, is)) =
      ap (λ (s : PlayState F W). s.at) looks.1 ∙ control_turn control.Connect here next comes ∙ issued_turn old here issued

  acted_turn : (turn : TurnOfTable) (n : ℕ) (old new : PlayState F W) → Acted turn n old new → new.at ≡ old.at
  acted_turn turn zero old new is = ap (λ (s : PlayState F W). s.at) is
  acted_turn turn (suc n) old new (here, acted, acts) = acts_turn turn here new acts ∙ acted_turn turn n old here acted

  stops_turn : (turn : TurnOfTable) (why : Stop) (old new : PlayState F W) → Stops turn why old new → new.at ≡ old.at
  stops_turn turn stop.Connect old new (here, next, stage, issued, comes, looks, shut) =
      ap (λ (s : PlayState F W). s.at) looks.1 ∙ control_turn control.Connect here next comes ∙ issued_turn old here issued
  stops_turn turn stop.End old new (here, next, issued, none, ended, rest, all) = issued_turn next new rest ∙ ended_turn here next ended ∙ issued_turn old here issued

  -- So it stays while a script is played on a channel,
  pub plays_turn : (turn : TurnOfTable) (devices : ℕ) (why : Stop) (old new : PlayState F W) → Plays turn devices why old new → new.at ≡ old.at
  plays_turn turn devices why old new (here, times, next, waited, acted, stops) =
      stops_turn turn why next new stops ∙ acted_turn turn times here next acted ∙ waited_turn turn devices old here waited

  passed_turn : (n : ℕ) (old new : PlayState F W) → Passed n old new → new.at ≡ old.at
  passed_turn zero old new is = ap (λ (s : PlayState F W). s.at) is
  passed_turn (suc n) old new (here, next, c, passed, issued, comes) = control_turn c next new comes ∙ issued_turn here next issued ∙ passed_turn n old here passed

  -- and while what is left of it is issued.
  pub plays_out_turn : (old new : PlayState F W) → PlaysOut old new → new.at ≡ old.at
  plays_out_turn old new (times, here, passed, issued, none, all) = issued_turn here new issued ∙ passed_turn times old here passed
