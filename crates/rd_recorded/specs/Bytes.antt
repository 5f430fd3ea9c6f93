-- The bytes of a message, as the code keeps it.
use Rattle.std.specs.Prelude.{ℕ, List}
use Rattle.rd_recorded.specs.declared.message.Held.{Held}
use Rattle.rd_recorded.specs.declared.message.Held.TheVariants.{Lent, Joined}

abbrev pub held_bytes : Held → List ℕ
held_bytes (Lent bytes) = bytes.now
held_bytes (Joined bytes) = bytes
