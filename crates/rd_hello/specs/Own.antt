-- What the two sides write while a channel opens. Where the public standard leaves a choice, it is this project's.
use Rattle.std.specs.Prelude.{ℕ, ◌+◌, ◌==◌, not, min, bit_and, Bool, false, List, [], ◌∷◌, Some}
use Rattle.std.specs.List.{list_any}
use Rattle.rd_hello.specs.declared.capability.General.{General}
use Rattle.rd_hello.specs.declared.capability.Cap.{Cap}
use Rattle.rd_hello.specs.declared.capability.Cap.TheVariants as cap
use Rattle.rd_hello.specs.declared.hello.Version.{Version}
use Rattle.rd_hello.specs.declared.hello.Hello.{Hello}
use Rattle.rd_hello.specs.declared.hello.Hello.TheVariants.{Announce, Confirm, Name, ServerCaps, ClientCaps}

-- the VersionMinor of both sides
abbrev pub own_minor : ℕ
own_minor = 12

-- the bits of extendedPDU: RDPDR_DEVICE_REMOVE_PDUS and RDPDR_USER_LOGGEDON_PDU
abbrev pub removes_devices : ℕ
removes_devices = 1

abbrev pub user_logged_on : ℕ
user_logged_on = 4

-- GENERAL as both write it, but for extraFlags1
abbrev pub own_general : ℕ → General
own_general extra = record { os = 2; os_version = 0; minor = own_minor; codes = 0xffff; codes2 = 0; extended = removes_devices + user_logged_on; extra = extra; extra2 = 0; special = Some 0 }

-- GENERAL, PRINTER version 1 and DRIVE version 2
abbrev pub own_sets : ℕ → List Cap
own_sets extra = cap.General (own_general extra) ∷ cap.Printer 1 ∷ cap.Drive 2 ∷ []

-- the host's sets
abbrev pub host_sets : Hello
host_sets = ServerCaps (own_sets 0)

-- the client's sets: its GENERAL has ENABLE_ASYNCIO
abbrev pub client_sets : Hello
client_sets = ClientCaps (own_sets 1)

-- the client's name: RDR and a zero unit, in UTF-16
abbrev pub client_name : Hello
client_name = Name 1 0 (0x52 ∷ 0 ∷ 0x44 ∷ 0 ∷ 0x52 ∷ 0 ∷ 0 ∷ 0 ∷ [])

-- the client's confirm: the smaller of the host's minor version and its own, and the host's ClientId
abbrev pub client_confirm : Version → Hello
client_confirm host = Confirm (record { minor = min host.minor own_minor; client = host.client })

-- the host's announce
abbrev pub host_announce : ℕ → Hello
host_announce client = Announce (record { minor = own_minor; client = client })

-- whether a set is GENERAL with RDPDR_USER_LOGGEDON_PDU
abbrev pub tells_log_on : Cap → Bool
tells_log_on (cap.General g) = not (bit_and g.extended user_logged_on == 0)
tells_log_on _ = false

-- whether one of the sets is
abbrev pub tell_log_on : List Cap → Bool
tell_log_on caps = list_any tells_log_on caps
