-- What each of two ends did, of what both did; and what comes of each request then.
use Rattle.std.specs.Prelude.{◌≡◌, ℕ, suc, Bool, true, false, not, List, filter, length, map}
use Rattle.rd_irp.specs.declared.completion.Reply.{Reply}
use Rattle.rd_pending.specs.declared.calls.Outcome.TheVariants.{Done}
use Rattle.rd_pending.specs.declared.calls.Taken.{Taken}
use Rattle.rd_pending.specs.Outcomes.{Accepted}
use Rattle.rd_script.specs.declared.line.NumberedLine.{NumberedLine}
use Rattle.rd_sharing.specs.ServedOpening.{ServedDeclared, as_made}
use Rattle.rd_deeds.specs.Joining.{ClientCameTo, IsOwnReply}
use Rattle.rd_declared.specs.Declaring.{bare_lines, declared_devices}
use Rattle.rd_deeds.specs.Talk.{Deed, adds, client_reads, client_writes, completes, removes, stores}
use Rattle.rd_deeds.specs.Told.{Replies}

-- whether the client did it
abbrev pub is_clients : Deed → Bool
is_clients (removes device) = true
is_clients (adds device) = true
is_clients (client_reads channel message) = true
is_clients (client_writes channel message) = true
is_clients (completes key message) = true
is_clients (stores device item) = true
is_clients _ = false

abbrev pub clients_part : List Deed → List Deed
clients_part deeds = filter is_clients deeds

-- whether the host did
abbrev pub is_hosts : Deed → Bool
is_hosts deed = not (is_clients deed)

abbrev pub hosts_part : List Deed → List Deed
hosts_part deeds = filter is_hosts deeds

-- the devices of a client whose script names no folder: those that its lines make up
abbrev pub made_devices : List NumberedLine → List (ℕ × ServedDeclared)
made_devices lines = map as_made (declared_devices (bare_lines lines))

-- What was handed out for a number is what came of the request that was accepted under it, by what was heard on its channel; and where that is a reply, it is the request's own: the one that its device's journal gives.
pub record IsOwnOutcome (client : ℕ) (replies : Replies) (deeds : List Deed) (number : ℕ) (taken : Taken) : Type 0 where
  pub request : Accepted
  pub came : ClientCameTo client deeds request taken.outcome
  pub numbered : number ≡ suc (length came.earlier)
  pub device : taken.device ≡ request.device
  pub life : taken.life ≡ request.life
  pub own : (reply : Reply) → taken.outcome ≡ Done reply → IsOwnReply replies deeds request reply
