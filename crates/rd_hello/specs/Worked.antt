-- Messages worked by hand.
use Rattle.std.specs.Prelude.{ℕ, List, [], ◌∷◌, None}
use Rattle.rd_hello.specs.declared.capability.General.{General}

-- the host's sets
abbrev pub host_capabilities : List ℕ
host_capabilities =
    0x72 ∷ 0x44 ∷ 0x50 ∷ 0x53 ∷ 3 ∷ 0 ∷ 0 ∷ 0 ∷ 1 ∷ 0 ∷ 0x2c ∷ 0 ∷ 2 ∷ 0 ∷ 0 ∷ 0
    ∷ 2 ∷ 0 ∷ 0 ∷ 0 ∷ 0 ∷ 0 ∷ 0 ∷ 0 ∷ 1 ∷ 0 ∷ 0x0c ∷ 0 ∷ 0xff ∷ 0xff ∷ 0 ∷ 0
    ∷ 0 ∷ 0 ∷ 0 ∷ 0 ∷ 5 ∷ 0 ∷ 0 ∷ 0 ∷ 0 ∷ 0 ∷ 0 ∷ 0 ∷ 0 ∷ 0 ∷ 0 ∷ 0
    ∷ 0 ∷ 0 ∷ 0 ∷ 0 ∷ 2 ∷ 0 ∷ 8 ∷ 0 ∷ 1 ∷ 0 ∷ 0 ∷ 0 ∷ 4 ∷ 0 ∷ 8 ∷ 0
    ∷ 2 ∷ 0 ∷ 0 ∷ 0 ∷ []

-- the client's name
abbrev pub named : List ℕ
named =
    0x72 ∷ 0x44 ∷ 0x4e ∷ 0x43 ∷ 1 ∷ 0 ∷ 0 ∷ 0 ∷ 0 ∷ 0 ∷ 0 ∷ 0 ∷ 8 ∷ 0 ∷ 0 ∷ 0
    ∷ 0x52 ∷ 0 ∷ 0x44 ∷ 0 ∷ 0x52 ∷ 0 ∷ 0 ∷ 0 ∷ []

-- the client's sets
abbrev pub client_capabilities : List ℕ
client_capabilities =
    0x72 ∷ 0x44 ∷ 0x50 ∷ 0x43 ∷ 3 ∷ 0 ∷ 0 ∷ 0 ∷ 1 ∷ 0 ∷ 0x2c ∷ 0 ∷ 2 ∷ 0 ∷ 0 ∷ 0
    ∷ 2 ∷ 0 ∷ 0 ∷ 0 ∷ 0 ∷ 0 ∷ 0 ∷ 0 ∷ 1 ∷ 0 ∷ 0x0c ∷ 0 ∷ 0xff ∷ 0xff ∷ 0 ∷ 0
    ∷ 0 ∷ 0 ∷ 0 ∷ 0 ∷ 5 ∷ 0 ∷ 0 ∷ 0 ∷ 1 ∷ 0 ∷ 0 ∷ 0 ∷ 0 ∷ 0 ∷ 0 ∷ 0
    ∷ 0 ∷ 0 ∷ 0 ∷ 0 ∷ 2 ∷ 0 ∷ 8 ∷ 0 ∷ 1 ∷ 0 ∷ 0 ∷ 0 ∷ 4 ∷ 0 ∷ 8 ∷ 0
    ∷ 2 ∷ 0 ∷ 0 ∷ 0 ∷ []

-- the announce of a host whose client gets the id 1
abbrev pub announced : List ℕ
announced =
    0x72 ∷ 0x44 ∷ 0x6e ∷ 0x49 ∷ 1 ∷ 0 ∷ 0x0c ∷ 0 ∷ 1 ∷ 0 ∷ 0 ∷ 0 ∷ []

-- an announce with the VersionMajor 2
abbrev pub other_major : List ℕ
other_major =
    0x72 ∷ 0x44 ∷ 0x6e ∷ 0x49 ∷ 2 ∷ 0 ∷ 0x0c ∷ 0 ∷ 1 ∷ 0 ∷ 0 ∷ 0 ∷ []

-- a name that says 513 bytes
abbrev pub long_name : List ℕ
long_name =
    0x72 ∷ 0x44 ∷ 0x4e ∷ 0x43 ∷ 1 ∷ 0 ∷ 0 ∷ 0 ∷ 0 ∷ 0 ∷ 0 ∷ 0 ∷ 1 ∷ 2 ∷ 0 ∷ 0 ∷ []

-- 65 sets
abbrev pub many_sets : List ℕ
many_sets =
    0x72 ∷ 0x44 ∷ 0x50 ∷ 0x53 ∷ 0x41 ∷ 0 ∷ 0 ∷ 0 ∷ []

-- a set of 7 bytes
abbrev pub low_length : List ℕ
low_length =
    0x72 ∷ 0x44 ∷ 0x50 ∷ 0x53 ∷ 1 ∷ 0 ∷ 0 ∷ 0 ∷ 3 ∷ 0 ∷ 7 ∷ 0 ∷ []

-- GENERAL of 39 bytes
abbrev pub low_general : List ℕ
low_general =
    0x72 ∷ 0x44 ∷ 0x50 ∷ 0x53 ∷ 1 ∷ 0 ∷ 0 ∷ 0 ∷ 1 ∷ 0 ∷ 0x27 ∷ 0 ∷ []

-- GENERAL of 43 bytes whose Version is 2
abbrev pub low_second : List ℕ
low_second =
    0x72 ∷ 0x44 ∷ 0x50 ∷ 0x53 ∷ 1 ∷ 0 ∷ 0 ∷ 0 ∷ 1 ∷ 0 ∷ 0x2b ∷ 0 ∷ 2 ∷ 0 ∷ 0 ∷ 0
    ∷ 2 ∷ 0 ∷ 0 ∷ 0 ∷ 0 ∷ 0 ∷ 0 ∷ 0 ∷ 1 ∷ 0 ∷ 0x0c ∷ 0 ∷ 0xff ∷ 0xff ∷ 0 ∷ 0
    ∷ 0 ∷ 0 ∷ 0 ∷ 0 ∷ 5 ∷ 0 ∷ 0 ∷ 0 ∷ 0 ∷ 0 ∷ 0 ∷ 0 ∷ 0 ∷ 0 ∷ 0 ∷ 0 ∷ []

-- the same whose Version is cut
abbrev pub cut_version : List ℕ
cut_version =
    0x72 ∷ 0x44 ∷ 0x50 ∷ 0x53 ∷ 1 ∷ 0 ∷ 0 ∷ 0 ∷ 1 ∷ 0 ∷ 0x2b ∷ 0 ∷ 2 ∷ 0 ∷ []

-- GENERAL of 44 bytes of which 40 are there
abbrev pub cut_body : List ℕ
cut_body =
    0x72 ∷ 0x44 ∷ 0x50 ∷ 0x53 ∷ 1 ∷ 0 ∷ 0 ∷ 0 ∷ 1 ∷ 0 ∷ 0x2c ∷ 0 ∷ 2 ∷ 0 ∷ 0 ∷ 0
    ∷ 2 ∷ 0 ∷ 0 ∷ 0 ∷ 0 ∷ 0 ∷ 0 ∷ 0 ∷ 1 ∷ 0 ∷ 0x0c ∷ 0 ∷ 0xff ∷ 0xff ∷ 0 ∷ 0
    ∷ 0 ∷ 0 ∷ 0 ∷ 0 ∷ 5 ∷ 0 ∷ 0 ∷ 0 ∷ 0 ∷ 0 ∷ 0 ∷ 0 ∷ 0 ∷ 0 ∷ 0 ∷ 0 ∷ []

-- GENERAL with the protocolMajor 2
abbrev pub other_protocol : List ℕ
other_protocol =
    0x72 ∷ 0x44 ∷ 0x50 ∷ 0x53 ∷ 1 ∷ 0 ∷ 0 ∷ 0 ∷ 1 ∷ 0 ∷ 0x28 ∷ 0 ∷ 1 ∷ 0 ∷ 0 ∷ 0
    ∷ 2 ∷ 0 ∷ 0 ∷ 0 ∷ 0 ∷ 0 ∷ 0 ∷ 0 ∷ 2 ∷ 0 ∷ 0x0c ∷ 0 ∷ 0xff ∷ 0xff ∷ 0 ∷ 0
    ∷ 0 ∷ 0 ∷ 0 ∷ 0 ∷ 5 ∷ 0 ∷ 0 ∷ 0 ∷ 0 ∷ 0 ∷ 0 ∷ 0 ∷ 0 ∷ 0 ∷ 0 ∷ 0 ∷ []

-- GENERAL of version 1 with four bytes more than it needs
abbrev pub first_version : List ℕ
first_version =
    0x72 ∷ 0x44 ∷ 0x50 ∷ 0x53 ∷ 1 ∷ 0 ∷ 0 ∷ 0 ∷ 1 ∷ 0 ∷ 0x2c ∷ 0 ∷ 1 ∷ 0 ∷ 0 ∷ 0
    ∷ 2 ∷ 0 ∷ 0 ∷ 0 ∷ 0 ∷ 0 ∷ 0 ∷ 0 ∷ 1 ∷ 0 ∷ 0x0c ∷ 0 ∷ 0xff ∷ 0xff ∷ 0 ∷ 0
    ∷ 0 ∷ 0 ∷ 0 ∷ 0 ∷ 5 ∷ 0 ∷ 0 ∷ 0 ∷ 0 ∷ 0 ∷ 0 ∷ 0 ∷ 0 ∷ 0 ∷ 0 ∷ 0
    ∷ 0xaa ∷ 0xbb ∷ 0xcc ∷ 0xdd ∷ []

-- PRINTER with two bytes more than it needs, and a byte after the message
abbrev pub long_printer : List ℕ
long_printer =
    0x72 ∷ 0x44 ∷ 0x50 ∷ 0x53 ∷ 1 ∷ 0 ∷ 0 ∷ 0 ∷ 2 ∷ 0 ∷ 0x0a ∷ 0 ∷ 1 ∷ 0 ∷ 0 ∷ 0
    ∷ 0x61 ∷ 0x62 ∷ 0x63 ∷ []

-- a set of the type CAP_PORT_TYPE with one byte
abbrev pub port : List ℕ
port =
    0x72 ∷ 0x44 ∷ 0x50 ∷ 0x53 ∷ 1 ∷ 0 ∷ 0 ∷ 0 ∷ 3 ∷ 0 ∷ 9 ∷ 0 ∷ 1 ∷ 0 ∷ 0 ∷ 0
    ∷ 0x61 ∷ []

-- the header of a request
abbrev pub request : List ℕ
request = 0x72 ∷ 0x44 ∷ 0x52 ∷ 0x49 ∷ []

-- what GENERAL of version 1 says above
abbrev pub first_general : General
first_general = record { os = 2; os_version = 0; minor = 12; codes = 0xffff; codes2 = 0; extended = 5; extra = 0; extra2 = 0; special = None }
