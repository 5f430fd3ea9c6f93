-- What a host heard.
use Rattle.std.specs.Prelude.{List, IsOk}
use Rattle.rd_host.specs.Core.{host_hear}
use Rattle.rd_deeds.specs.HostDeeds.{side_of}
use Rattle.rd_world.specs.Recording.{client_id}
use Rattle.rd_deeds.specs.Talk.{Deed, host_reads}

-- nothing was wrong with a message that it read
abbrev pub HearsFine : List Deed → Deed → Type 0
HearsFine before (host_reads channel message) = IsOk (host_hear (side_of client_id before).core message).1
HearsFine before _ = Unit {0}
