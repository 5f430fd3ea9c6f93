-- A worked channel: the client's first message is wrong, and the host's greeting is written behind it.
use Rattle.std.specs.Prelude.{ℕ, List, [], ◌∷◌}
use Rattle.rd_hello.specs.Hello.{hello_bytes}
use Rattle.rd_hello.specs.Own.{host_announce}
use Rattle.rd_world.specs.Recording.{client_id}
use Rattle.rd_deeds.specs.Talk.{Deed, host_begins, host_reads, host_writes}

abbrev pub greeting : List ℕ
greeting = hello_bytes (host_announce client_id)

abbrev pub wrong_at_once : List Deed
wrong_at_once = host_writes 1 greeting ∷ host_reads 1 [] ∷ host_begins 1 ∷ []
