-- What the client said, as the code keeps it.
use Rattle.rd_recorded.specs.declared.channel.ClientSaid.{ClientSaid as Kept}
use Rattle.rd_recorded.specs.declared.channel.ClientSaid.TheVariants.{Announces, Removes, Completes}
use Rattle.rd_recorded.specs.Channels.{ClientSaid, announces, completes, removes}

abbrev pub said_of : Kept → ClientSaid
said_of (Announces ids) = announces ids.items
said_of (Removes ids) = removes ids
said_of (Completes index message) = completes index message
