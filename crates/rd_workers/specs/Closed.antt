-- What ties a desk that was closed to the front's pass of it.
use Rattle.std.specs.Prelude.{◌≡◌, ◌≤◌, ℕ, List, [], ◌++◌, map, All}
use Rattle.std.specs.List.{AllZip}
use Rattle.rd_desk.specs.declared.calls.DeskCall.{DeskCall}
use Rattle.rd_desk.specs.declared.calls.DeskReply.{DeskReply}
use Rattle.rd_desk.specs.Desk.{job_put}
use Rattle.rd_desk.specs.Own.{GivesOwnBack}
use Rattle.rd_front.specs.State.{DeviceDeskState, FrontState, SessionDeskStep, SessionPass, SessionStation}
use Rattle.rd_pool.specs.Desks.{AllByHandBut, CameHome, IsByHand, IsByHandBut}
use Rattle.rd_turn.specs.declared.object.Entry.{Entry}
use Rattle.rd_turn.specs.History.{Leads, calls_of}
use Rattle.rd_turn.specs.Pass.{TurnId}

-- The desk's station is led there by the calls that the front's pass has seen, of which those of others are hands', and then by calls of hands, by which no job
-- comes. Of all of them each pass gives back its own.
pub record ClosesAfter (d : DeviceDeskState) (s : SessionStation) : Type 0 where
  pub hands : All (IsByHandBut (d.pass).number) (d.pass).seen
  pub later : List (Entry DeskCall DeskReply)
  pub later_hands : All IsByHand later
  pub puts_none : All (λ (e : Entry DeskCall DeskReply). job_put e.call ≡ []) later
  pub leads : Leads SessionDeskStep (d.turn).opening ((d.pass).seen ++ later) s
  pub most : ℕ
  pub numbers : All (λ (e : Entry DeskCall DeskReply). e.by ≤ most) ((d.pass).seen ++ later)
  pub gives : (number : ℕ) → number ≤ most → GivesOwnBack (calls_of number ((d.pass).seen ++ later))

-- The passes that a front had at its end, of the desks of these turns, came home to these. All other calls there are hands'.
pub record FrontCameHome (last : FrontState) (turns : List (TurnId SessionStation)) (passes : List SessionPass) : Type 0 where
  pub turns_are : map (λ (d : DeviceDeskState). d.turn) last.desks ≡ turns
  pub numbers : All (λ (p : SessionPass). p.number ≡ 1) (map (λ (d : DeviceDeskState). d.pass) last.desks)
  pub home : AllZip CameHome passes (map (λ (d : DeviceDeskState). d.pass) last.desks)
  pub by_hand : All (AllByHandBut 1) passes
