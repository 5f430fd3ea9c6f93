-- How much there may be of what more than one part keeps.
use Rattle.std.specs.Prelude.{ℕ}

-- the most devices of a channel
abbrev pub max_devices : ℕ
max_devices = 256

-- the most nodes of a drive, with its root
abbrev pub max_nodes : ℕ
max_nodes = 65536
