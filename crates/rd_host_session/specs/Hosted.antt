-- What a session at a host's channels comes to: one history of its front and one of its table, by which its script was played, and what came of each line.
use Rattle.std.specs.Prelude.{◌≡◌, Bool, true, false, ℕ, List, map, Option, None, Some}
use Rattle.std.specs.declared.marker.Brand.{Brand}
use Rattle.rd_carry.specs.declared.ended.Ended.{Ended}
use Rattle.rd_carry.specs.declared.ended.Ended.TheVariants as ended
use Rattle.rd_host_front.specs.HostFront.{HostFrontStep}
use Rattle.rd_host_front.specs.State.{HostFrontState, JoinsPass, PassOfTable, TurnOfTable}
use Rattle.rd_issuer.specs.declared.issuer.Issuer.{Issuer}
use Rattle.rd_pending.specs.Table.{TableState, new_table}
use Rattle.rd_script.specs.declared.line.NumberedLine.{NumberedLine}
use Rattle.rd_script.specs.declared.outcome.Outcome.{Outcome}
use Rattle.rd_table.specs.Calls.{PendingStep}
use Rattle.rd_turn.specs.History.{Leads}
use Rattle.rd_turn.specs.Pass.{HasAllCalls, IsNumbered, TurnId, after_split, first_pass, new_pass}
use Rattle.rd_world.specs.Run.{applications_of}
use Rattle.rd_world.specs.World.{ApplicationState}
use Rattle.rd_host.specs.Core.{new_host}
use Rattle.rd_host_session.specs.Channels.{LinkedTold, ServesAll, SessionState, stands}
use Rattle.rd_host_player.specs.Plan.{awaited_devices}
use Rattle.rd_host_player.specs.Play.{play_state}
use Rattle.rd_host_player.specs.Telling.{outcomes_told}

-- an application with its number
abbrev pub issuer_by : ℕ × ApplicationState → Issuer
issuer_by e = record { number = e.0; application = e.1 }

-- the applications of a script's lines, to none of which that has come
abbrev pub issuers_of : List NumberedLine → List Issuer
issuers_of lines = map issuer_by (applications_of (map (λ (l : NumberedLine). l.line) lines))

-- how a session ends: as a channel's end has it, or else with the script's end, unless a count of the linker changed
abbrev pub hosted_end : Option Ended → Bool → Ended
hosted_end (Some e) changed = e
hosted_end None true = ended.Link
hosted_end None false = ended.Over

-- a front over a pass of the table that was split from pass 0, before its first channel
abbrev pub front_over : TurnOfTable → PassOfTable → HostFrontState
front_over turn first = record { core = new_host 1; table = record { turn = turn; pass = new_pass first }; channel = 0; on = false; unsent = 0 }

-- The lines were played by a front over this turn of the table, from its pass 0 on to what that came to: of the front there is one history, by the calls of the thread that played and of those that read and wrote
-- the channels. What the front's pass of the table had seen at its end came home.
pub record PlaysOver (W : Type 0) (turn : TurnOfTable) (lines : List NumberedLine) (other : Option Ended) (issuers : List Issuer) (first last : PassOfTable) (old new : LinkedTold) : Type 0 where
  pub at : TurnId HostFrontState
  pub opening : at.opening ≡ front_over turn first
  pub ends : SessionState HostFrontState W
  pub serves : ServesAll turn (awaited_devices lines) other (stands (play_state HostFrontState W lines (issuers_of lines) (after_split first) at (first_pass at)) old) ends
  pub linker : ends.linker ≡ new
  pub issuers_are : (ends.play).issuers ≡ issuers
  pub closed : HostFrontState
  pub leads : Leads HostFrontStep at.opening ((ends.play).front).seen closed
  pub all : HasAllCalls (ends.play).front
  pub numbers : IsNumbered (ends.play).front
  pub home : JoinsPass (ends.play).first (closed.table).pass last

-- The lines were played, and of the table too there is one history, with all calls of all passes. What came of each line is told.
pub record Hosts (lines : List NumberedLine) (other : Option Ended) (told : List ((ℕ × ℕ) × Outcome)) (old new : LinkedTold) : Type 0 where
  pub turn : TurnOfTable
  pub opening : turn.opening ≡ new_table
  pub issuers : List Issuer
  pub last : PassOfTable
  pub plays : PlaysOver Brand turn lines other issuers (first_pass turn) last old new
  pub table : TableState
  pub leads : Leads PendingStep new_table last.seen table
  pub all : HasAllCalls last
  pub told_are : told ≡ outcomes_told issuers

-- How a session ends, by what ended it, but for the script's end and the linker. Where memory ran out nothing is said.
abbrev pub HasHosted : List NumberedLine → Ended → List ((ℕ × ℕ) × Outcome) → (old new : LinkedTold) → Type 0
HasHosted lines ended.Memory told old new = Unit {0}
HasHosted lines by told old new = (other : Option Ended) × (changed : Bool) × (by ≡ hosted_end other changed) × Hosts lines other told old new
