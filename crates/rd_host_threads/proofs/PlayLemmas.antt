-- What playing a script makes of pass 0 of the front: its calls there are those that try to end the channel, in the order in which the script is played.
use Rattle.std.proofs.Common.{◌≡◌, ◌∙◌, ℕ, zero, suc, List, [], ◌∷◌, ◌++◌, inl, inr, ap, sym, refl}
use Rattle.std.specs.Prelude.{◌==◌}
use Rattle.rd_host_channel.specs.Calls.{HostEntry, HostPass}
use Rattle.rd_host_front.specs.declared.calls.Came.TheVariants as came
use Rattle.rd_host_front.specs.declared.calls.HostFrontCall.TheVariants as call
use Rattle.rd_host_front.specs.declared.calls.HostFrontReply.TheVariants as reply
use Rattle.rd_host_front.specs.State.{TurnOfTable}
use Rattle.rd_host_player.specs.Play.{Acted, Acts, CameTo, ComesToControl, Ended, Issued, Looked, Passed, PlayState, Plays, PlaysOut, Ran, Stops, Tried, Waited}
use Rattle.rd_host_player.specs.declared.plan.Control.{Control}
use Rattle.rd_host_player.specs.declared.plan.Control.TheVariants as control
use Rattle.rd_host_player.specs.declared.player.Stop.{Stop}
use Rattle.rd_host_player.specs.declared.player.Stop.TheVariants as stop
use Rattle.rd_turn.specs.History.{entry}
use Rattle.rd_host_threads.specs.Played.{acted_calls, acts_calls, ended_calls, plays_calls, stops_calls, tried_calls}
use Rattle.rd_host_threads.proofs.PassLemmas.{GoesBy, goes_call, goes_from, goes_none, goes_then}

module _ {F W : Type 0} where
  -- ---- what leaves the front as it is

  came_front : (n : ℕ) (old new : PlayState F W) → CameTo n old new → new.front ≡ old.front
  came_front zero old new is = ap (λ (s : PlayState F W). s.front) is
  came_front (suc n) old new (here, l, came, none, comes) = ap (λ (s : PlayState F W). s.front) comes.2 ∙ came_front n old here came

  ran_front : (n : ℕ) (old new : PlayState F W) → Ran n old new → new.front ≡ old.front
  ran_front zero old new is = ap (λ (s : PlayState F W). s.front) is
  ran_front (suc n) old new (here, ran, runs) = ap (λ (s : PlayState F W). s.front) runs.2 ∙ ran_front n old here ran

  issued_front : (old new : PlayState F W) → Issued old new → new.front ≡ old.front
  issued_front old new (lines, times, here, came, at, ran) = ran_front (suc times) here new ran ∙ came_front lines old here came

  looked_front : (turn : TurnOfTable) (n : ℕ) (old new : PlayState F W) → Looked turn n old new → new.front ≡ old.front
  looked_front turn zero old new is = ap (λ (s : PlayState F W). s.front) is
  looked_front turn (suc n) old new (here, stage, looked, looks) = ap (λ (s : PlayState F W). s.front) looks.1 ∙ looked_front turn n old here looked

  waited_front : (turn : TurnOfTable) (devices : ℕ) (old new : PlayState F W) → Waited turn devices old new → new.front ≡ old.front
  waited_front turn devices old new (times, here, stage, looked, looks, ready) = ap (λ (s : PlayState F W). s.front) looks.1 ∙ looked_front turn times old here looked

  control_front : (c : Control) (old new : PlayState F W) → ComesToControl c old new → new.front ≡ old.front
  control_front c old new (l, comes, is) = ap (λ (s : PlayState F W). s.front) comes.2

  passed_front : (n : ℕ) (old new : PlayState F W) → Passed n old new → new.front ≡ old.front
  passed_front zero old new is = ap (λ (s : PlayState F W). s.front) is
  passed_front (suc n) old new (here, next, c, passed, issued, comes) = control_front c next new comes ∙ issued_front here next issued ∙ passed_front n old here passed

  pub plays_out_front : (old new : PlayState F W) → PlaysOut old new → new.front ≡ old.front
  plays_out_front old new (times, here, passed, issued, none, all) = issued_front here new issued ∙ passed_front times old here passed

  -- ---- what calls it

  -- where it is left as it is
  stays_so : (p q : HostPass F W) → q ≡ p → p.number ≡ 0 → GoesBy 0 [] p q
  stays_so p q is first = goes_from 0 [] p p p q refl (sym is) (goes_none p first)

  -- before that
  first_so : (own : List (HostEntry W)) (p q r : HostPass F W) → q ≡ p → p.number ≡ 0 → (q.number ≡ 0 → GoesBy 0 own q r) → GoesBy 0 own p r
  first_so own p q r is first goes = goes_from 0 own q p r r is refl (goes (ap (λ (x : HostPass F W). x.number) is ∙ first))

  tried_goes : (n : ℕ) (old new : PlayState F W) (tried : Tried n old new) → (old.front).number ≡ 0 → GoesBy 0 (tried_calls n old new tried) old.front new.front
  tried_goes zero old new is first = stays_so old.front new.front (ap (λ (s : PlayState F W). s.front) is) first
  tried_goes (suc n) old new (here, tried, tries) first =
      let one = tried_goes n old here tried first in
      let does = call.DropSent here.first (n == 0) in
      let back = reply.First new.first came.NotYet in
      goes_then 0 0 (tried_calls n old here tried) (entry 0 does back ∷ []) old.front here.front new.front one (goes_call here.front new.front does back one.number tries.0 (refl, tries.1))

  ended_goes : (old new : PlayState F W) (ended : Ended old new) → (old.front).number ≡ 0 → GoesBy 0 (ended_calls old new ended) old.front new.front
  ended_goes old new (times, here, tried, tries) first =
      let one = tried_goes times old here tried first in
      let does = call.DropSent here.first (times == 0) in
      let back = reply.First new.first came.Done in
      goes_then 0 0 (tried_calls times old here tried) (entry 0 does back ∷ []) old.front here.front new.front one (goes_call here.front new.front does back one.number tries.0 (refl, tries.1))

  module _ (turn : TurnOfTable) where
    acts_goes : (old new : PlayState F W) (acts : Acts turn old new) → (old.front).number ≡ 0 → GoesBy 0 (acts_calls turn old new acts) old.front new.front
    acts_goes old new (here, next, issued, inl (comes, ended)) first =
        first_so (ended_calls next new ended) old.front next.front new.front (control_front control.Drop here next comes ∙ issued_front old here issued) first (ended_goes next new ended)
    acts_goes old new (here, next, issued, inr (stage, comes, looks, is)) first =
        stays_so old.front new.front (ap (λ (s : PlayState F W). s.front) looks.1 ∙ control_front control.Connect here next comes ∙ issued_front old here issued) first

    acted_goes : (n : ℕ) (old new : PlayState F W) (acted : Acted turn n old new) → (old.front).number ≡ 0 → GoesBy 0 (acted_calls turn n old new acted) old.front new.front
    acted_goes zero old new is first = stays_so old.front new.front (ap (λ (s : PlayState F W). s.front) is) first
    acted_goes (suc n) old new (here, acted, acts) first =
        let one = acted_goes n old here acted first in
        goes_then 0 0 (acted_calls turn n old here acted) (acts_calls turn here new acts) old.front here.front new.front one (acts_goes here new acts one.number)

    stops_goes : (why : Stop) (old new : PlayState F W) (stops : Stops turn why old new) → (old.front).number ≡ 0 → GoesBy 0 (stops_calls turn why old new stops) old.front new.front
    stops_goes stop.Connect old new (here, next, stage, issued, comes, looks, shut) first =
        stays_so old.front new.front (ap (λ (s : PlayState F W). s.front) looks.1 ∙ control_front control.Connect here next comes ∙ issued_front old here issued) first
    stops_goes stop.End old new (here, next, issued, none, ended, rest, all) first =
        first_so (ended_calls here next ended) old.front here.front new.front (issued_front old here issued) first
        (λ zero_is. goes_from 0 (ended_calls here next ended) here.front here.front next.front new.front refl (sym (issued_front next new rest)) (ended_goes here next ended zero_is))

    -- What is played on a channel that began.
    pub plays_goes : (devices : ℕ) (why : Stop) (old new : PlayState F W) (plays : Plays turn devices why old new) → (old.front).number ≡ 0 → GoesBy 0 (plays_calls turn devices why old new plays) old.front new.front
    plays_goes devices why old new (here, times, next, waited, acted, stops) first =
        first_so (acted_calls turn times here next acted ++ stops_calls turn why next new stops) old.front here.front new.front (waited_front turn devices old here waited) first
        (λ zero_is. let one = acted_goes times here next acted zero_is in
        goes_then 0 0 (acted_calls turn times here next acted) (stops_calls turn why next new stops) here.front next.front new.front one (stops_goes why next new stops one.number))
