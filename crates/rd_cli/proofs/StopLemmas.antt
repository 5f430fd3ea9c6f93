-- The line for what is wrong on a channel.
use Rattle.std.proofs.Common.{◌≡◌, refl, ℕ, ◌++◌}
use Rattle.std.specs.Prelude.{codes, decimal}
use Rattle.rd_carry.specs.declared.ended.EndWhy.{EndWhy}
use Rattle.rd_carry.specs.declared.ended.EndWhy.TheVariants as end
use Rattle.rd_chunk.specs.declared.fault.ChunkWhy.{ChunkWhy}
use Rattle.rd_cli.specs.Stops.{in_message}

-- a fault of no frame is in its message
pub in_message_is : (n : ℕ) (why : EndWhy) → ((cause : ChunkWhy) → why ≡ end.Chunk cause → ⊥) → in_message n why ≡ codes " in " ++ decimal n ++ codes "\n"
in_message_is n (end.Chunk cause) other = absurd (other cause refl)
in_message_is n (end.Message fault) other = refl
in_message_is n end.Stray other = refl
in_message_is n (end.BodyBad cause) other = refl
in_message_is n end.Duplicate other = refl
