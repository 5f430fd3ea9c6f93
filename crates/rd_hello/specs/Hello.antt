-- The six packets that open a channel (MS-RDPEFS 2.2.2.2 to 2.2.2.8).
use Rattle.std.specs.Prelude.{ℕ, ◌≤◌, ◌==◌, List, [], ◌∷◌, ◌++◌, length, Option, Some}
use Rattle.std.specs.Int.{w16, w32, to_le_bytes}
use Rattle.rd_base.specs.declared.bad.Bad.{Bad}
use Rattle.rd_base.specs.declared.bad.Why.TheVariants as why
use Rattle.rd_base.specs.declared.packet.Packet.{Packet}
use Rattle.rd_base.specs.declared.packet.Packet.TheVariants.{ServerAnnounce, ClientIdConfirm, ClientName, ServerCapability, ClientCapability, UserLoggedOn}
use Rattle.rd_base.specs.Layout.{Layout, four_bytes, done, any_bytes, test, ◌>>=◌, ◌>>◌, Spells, FirstFault}
use Rattle.rd_base.specs.Fields.{number16, number32}
use Rattle.rd_base.specs.Counted.{count_to, bytes_and_count}
use Rattle.rd_base.specs.Header.{header_among, header_bytes}
use Rattle.rd_hello.specs.declared.hello.Version.{Version}
use Rattle.rd_hello.specs.declared.hello.Hello.{Hello}
use Rattle.rd_hello.specs.declared.hello.Hello.TheVariants.{Announce, Confirm, Name, ServerCaps, ClientCaps, LoggedOn}
use Rattle.rd_hello.specs.Capability.{sets, sets_bytes, AreWritableSets}

-- the most bytes of a computer's name
abbrev pub most_name_bytes : ℕ
most_name_bytes = 512

-- VersionMajor, which is 1, VersionMinor and ClientId (2.2.2.2, 2.2.2.3, 2.2.2.6)
unfoldable pub version : Layout Version
version = do
  major ← number16
  test (major == 1) 2 why.Value
  minor ← number16
  client ← number32
  done (record { minor = minor; client = client })

-- UnicodeFlag, CodePage, ComputerNameLen and ComputerName (2.2.2.4)
unfoldable pub name : Layout Hello
name = do
  unicode ← number32
  page ← number32
  count ← count_to four_bytes most_name_bytes
  bytes ← any_bytes count
  done (Name unicode page bytes)

-- the packets that open a channel
abbrev pub hellos : List Packet
hellos = ServerAnnounce ∷ ClientIdConfirm ∷ ClientName ∷ ServerCapability ∷ ClientCapability ∷ UserLoggedOn ∷ []

-- what stands after the header of each
abbrev pub hello_body : Option Packet → Layout Hello
hello_body (Some ServerAnnounce) = version >>= λ v. done (Announce v)
hello_body (Some ClientIdConfirm) = version >>= λ v. done (Confirm v)
hello_body (Some ClientName) = name
hello_body (Some ServerCapability) = sets >>= λ caps. done (ServerCaps caps)
hello_body (Some ClientCapability) = sets >>= λ caps. done (ClientCaps caps)
hello_body _ = done LoggedOn

-- the whole message
unfoldable pub hello : Layout Hello
hello = do
  packet ← header_among hellos
  hello_body packet

-- The bytes begin with a spelling of this message, and so many more stand after it.
abbrev pub SpellsHello : Hello → ℕ → List ℕ → Type 0
SpellsHello h tail bytes = Spells hello h tail bytes

-- what goes wrong first in bytes that are none of these messages
abbrev pub FirstFaultOfHello : List ℕ → Bad → Type 0
FirstFaultOfHello bytes bad = FirstFault hello bytes bad

-- the packet of a message
abbrev pub packet_of_hello : Hello → Packet
packet_of_hello (Announce _) = ServerAnnounce
packet_of_hello (Confirm _) = ClientIdConfirm
packet_of_hello (Name _ _ _) = ClientName
packet_of_hello (ServerCaps _) = ServerCapability
packet_of_hello (ClientCaps _) = ClientCapability
packet_of_hello LoggedOn = UserLoggedOn

-- the bytes of VersionMajor, VersionMinor and ClientId
abbrev pub version_bytes : Version → List ℕ
version_bytes v = to_le_bytes w16 1 ++ to_le_bytes w16 v.minor ++ to_le_bytes w32 v.client

-- the bytes of UnicodeFlag, CodePage, ComputerNameLen and ComputerName
abbrev pub name_bytes : ℕ → ℕ → List ℕ → List ℕ
name_bytes unicode page bytes = to_le_bytes w32 unicode ++ to_le_bytes w32 page ++ bytes_and_count bytes

-- the bytes after the header
abbrev pub hello_body_bytes : Hello → List ℕ
hello_body_bytes (Announce v) = version_bytes v
hello_body_bytes (Confirm v) = version_bytes v
hello_body_bytes (Name unicode page bytes) = name_bytes unicode page bytes
hello_body_bytes (ServerCaps caps) = sets_bytes caps
hello_body_bytes (ClientCaps caps) = sets_bytes caps
hello_body_bytes LoggedOn = []

-- the bytes of a message
abbrev pub hello_bytes : Hello → List ℕ
hello_bytes h = header_bytes (packet_of_hello h) ++ hello_body_bytes h

-- a message that can be written
abbrev pub IsWritableHello : Hello → Type 0
IsWritableHello (Name unicode page bytes) = length bytes ≤ most_name_bytes
IsWritableHello (ServerCaps caps) = AreWritableSets caps
IsWritableHello (ClientCaps caps) = AreWritableSets caps
IsWritableHello _ = Unit {0}
