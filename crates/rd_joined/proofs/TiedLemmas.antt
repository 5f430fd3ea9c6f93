-- Both sides of every session of a script are tied, and joined where the client tells what its journals say.
use Rattle.std.specs.Prelude.{◌≡◌, ℕ, Bool, List, reverse, Ok}
use Rattle.rd_base.specs.declared.journal.Key.{Key}
use Rattle.rd_base.specs.Lawful.{IsLawful}
use Rattle.rd_journals.proofs.ReplyLemmas.{replies_grow, replies_once}
use Rattle.rd_journals.proofs.RunLemmas.{orderly_lawful, reached_orderly}
use Rattle.rd_journals.proofs.ServingLemmas.{reached_standing}
use Rattle.rd_journals.specs.RunsMoves.{Reached}
use Rattle.rd_journals.proofs.RunsTogether.{known}
use Rattle.rd_script.specs.declared.keyword.Mode.{Mode}
use Rattle.rd_script.specs.declared.script.Script.{Script}
use Rattle.rd_script.specs.Script.{script_of}
use Rattle.rd_deeds.specs.Joining.{AreJoined}
use Rattle.rd_declared.specs.Declaring.{bare_lines, declared_devices}
use Rattle.rd_world.specs.Recording.{client_id}
use Rattle.rd_world.specs.Session.{replies_in}
use Rattle.rd_deeds.specs.Talk.{Deed, journal}
use Rattle.rd_deeds.specs.Told.{AreAnswered, Replies}
use Rattle.rd_world.specs.World.{WorldState}
use Rattle.rd_world.proofs.NumberedLemmas.{scripts_are_numbered}
use Rattle.rd_joined.specs.Joined.{AreTied}
use Rattle.rd_joined.proofs.RoomLemmas.{unworn}
use Rattle.rd_joined.proofs.ScriptLemmas.{script_fit, script_premises}

pub scripts_tied : (m : Mode) (text : List ℕ) (script : Script) → script_of m text ≡ Ok script → (starves : Key → Bool) (w : WorldState) → Reached script.lines starves w
    → AreTied client_id (replies_in (declared_devices (bare_lines script.lines)) w.deeds) w.deeds
scripts_tied m text script is starves w reached =
    let devices = declared_devices (bare_lines script.lines) in
    let fit = script_fit m text script is in
    let premises = script_premises m text script is in
    let lawful : (device : ℕ) → IsLawful (reverse (journal device w.deeds)) = orderly_lawful w (reached_orderly script.lines starves w fit reached) in
    record {
      carried = (known script.lines starves premises w reached).carries.each;
      host = (known script.lines starves premises w reached).stands.host.may;
      grows = λ device earlier more later same reply has. replies_grow devices w.deeds device earlier more reply has;
      once = λ device key reply other has has_other. replies_once devices w.deeds device (reverse (journal device w.deeds)) fit (lawful device) key other reply has_other has;
      stands = (reached_standing script.lines starves w fit reached).stand;
      lawful = lawful;
      unworn = unworn script.lines starves premises w reached (scripts_are_numbered m text script is).few fit;
    }

pub joined_with : (client : ℕ) (replies : Replies) (deeds : List Deed) → AreTied client replies deeds → AreAnswered replies deeds → AreJoined client replies deeds
joined_with client replies deeds tied told = record {
  carried = tied.carried;
  host = tied.host;
  told = told;
  grows = tied.grows;
  once = tied.once;
  stands = tied.stands;
  lawful = tied.lawful;
  unworn = tied.unworn;
}
