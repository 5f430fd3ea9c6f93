-- What the one history of a host's front comes to: which thread made which of its calls, and what became of each channel by them.
use Rattle.std.specs.Prelude.{◌≡◌, ◌⊎◌, ◌<◌, ℕ, List, [], length, map, Option}
use Rattle.std.specs.List.{AllByRecursion}
use Rattle.rd_carry.specs.declared.ended.Ended.{Ended}
use Rattle.rd_host_channel.specs.Calls.{HostEntry, messages_for, messages_heard}
use Rattle.rd_host_front.specs.State.{HostFrontState, PassOfTable, TurnOfTable}
use Rattle.rd_host_player.specs.Plan.{awaited_devices}
use Rattle.rd_host_player.specs.Play.{play_state}
use Rattle.rd_host_player.specs.declared.player.Stop.{Stop}
use Rattle.rd_host_session.specs.Channels.{LinkedTold, stands}
use Rattle.rd_host_session.specs.Hosted.{PlaysOver, issuers_of}
use Rattle.rd_issuer.specs.declared.issuer.Issuer.{Issuer}
use Rattle.rd_script.specs.declared.line.NumberedLine.{NumberedLine}
use Rattle.rd_turn.specs.History.{calls_of}
use Rattle.rd_turn.specs.Pass.{after_split, first_pass}
use Rattle.rd_host_threads.specs.Calls.{AreHostsCalls}
use Rattle.rd_host_threads.specs.Channels.{EndsAfter, HaveNumbers, HostChannel, IsServedBy}
use Rattle.rd_host_threads.specs.Played.{session_calls, session_stops}

-- the history of the front of a session
abbrev pub front_calls : {W : Type 0} (turn : TurnOfTable) (lines : List NumberedLine) (other : Option Ended) (issuers : List Issuer) (first last : PassOfTable) (old new : LinkedTold)
    → PlaysOver W turn lines other issuers first last old new → List (HostEntry W)
front_calls turn lines other issuers first last old new plays = (((plays.ends).play).front).seen

-- the calls of it by the thread that played, in the order in which it played
abbrev pub played_calls : {W : Type 0} (turn : TurnOfTable) (lines : List NumberedLine) (other : Option Ended) (issuers : List Issuer) (first last : PassOfTable) (old new : LinkedTold)
    → PlaysOver W turn lines other issuers first last old new → List (HostEntry W)
played_calls {W} turn lines other issuers first last old new plays =
    session_calls turn (awaited_devices lines) other (stands (play_state HostFrontState W lines (issuers_of lines) (after_split first) plays.at (first_pass plays.at)) old) plays.ends plays.serves

-- where the script stopped on each channel, in that order
abbrev pub played_stops : {W : Type 0} (turn : TurnOfTable) (lines : List NumberedLine) (other : Option Ended) (issuers : List Issuer) (first last : PassOfTable) (old new : LinkedTold)
    → PlaysOver W turn lines other issuers first last old new → List Stop
played_stops {W} turn lines other issuers first last old new plays =
    session_stops turn (awaited_devices lines) other (stands (play_state HostFrontState W lines (issuers_of lines) (after_split first) plays.at (first_pass plays.at)) old) plays.ends plays.serves

-- Each of these calls is one that a host makes. Those of pass 0 are those of the thread that played, and each other one is of a channel's reader or writer; on no other channel anything was heard or handed out.
-- The script stopped on each channel where that thread says, and what ended them is so.
pub record AreThreadsCalls {W : Type 0} (entries played : List (HostEntry W)) (stops : List Stop) (other : Option Ended) (old new : LinkedTold) : Type 0 where
  pub hosts : AreHostsCalls entries
  pub played_are : calls_of 0 entries ≡ played
  pub channels : List (HostChannel W)
  pub numbered : HaveNumbers 0 channels
  pub stopped : map (λ (c : HostChannel W). c.why) channels ≡ stops
  pub each : AllByRecursion (IsServedBy entries) channels
  pub unheard : (c : ℕ) → (c ≡ 0) ⊎ (length channels < c) → messages_heard c entries ≡ []
  pub unhanded : (c : ℕ) → (c ≡ 0) ⊎ (length channels < c) → messages_for c entries ≡ []
  pub ends : EndsAfter other channels old new
