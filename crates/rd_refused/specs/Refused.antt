-- Which refusal a request is given that never came.
use Rattle.std.specs.Prelude.{◌≡◌, ℕ, ◌&&◌, not, false, List, Some}
use Rattle.rd_client.specs.Core.{ClientCoreState, has_device, is_gone}
use Rattle.rd_irp.specs.declared.completion.Reply.{Reply}
use Rattle.rd_irp.specs.declared.request.Request.{Request}
use Rattle.rd_replied.specs.JournalsJobs.{IsRefusalOf}
use Rattle.rd_deeds.specs.Talk.{Deed, client_read, completes, journal, request_at}
use Rattle.rd_deeds.specs.Told.{CompletesWith, IsDirect, came, is_said_gone}

-- A completion that refuses a request which never came does so as the client had said of its device.
abbrev pub RefusesDirectly : List Deed → Deed → Type 0
RefusesDirectly before (completes key message) = (r : Request) (reply : Reply) → request_at (client_read key.channel before) key.index ≡ Some r → CompletesWith r reply message
    → came key.channel (journal r.device before) key.index ≡ false → IsRefusalOf r reply → IsDirect r.device key reply before
RefusesDirectly before _ = Unit {0}

-- what was last said of each device is what the client's marks say: that it is gone, unless the client has it and it isn't removed
abbrev pub MarksSay : ClientCoreState → List (List ℕ) → Type 0
MarksSay c messages = (device : ℕ) → is_said_gone device messages ≡ not (has_device c device && not (is_gone c device))
