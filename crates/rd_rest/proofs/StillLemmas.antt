-- Where nothing can happen by itself the open channel is still, if all that was accepted was sent, and all was told and replied to.
use Rattle.std.proofs.Common.{◌≡◌, ◌≤◌, Bool, List, [], length, Some, None}
use Rattle.rd_answered.specs.Refusing.{DeclareInRoom}
use Rattle.rd_base.specs.declared.journal.Key.{Key}
use Rattle.rd_rest.proofs.CompletedLemmas.{completed}
use Rattle.rd_rest.proofs.FullLemmas.{none_kept_back}
use Rattle.rd_rest.specs.Ending.{IsToldAll}
use Rattle.rd_answered.proofs.RunsResting.{client_heard_all, host_heard_all}
use Rattle.rd_answered.specs.RunsMoves.{Reached}
use Rattle.rd_answered.specs.RunsPremises.{RunPremises}
use Rattle.rd_script.specs.declared.line.NumberedLine.{NumberedLine}
use Rattle.rd_world.specs.Control.{Control}
use Rattle.rd_declared.specs.Declaring.{bare_lines, declared_devices}
use Rattle.rd_world.specs.Run.{choices}
use Rattle.rd_world.specs.Session.{IsStill}
use Rattle.rd_deeds.specs.Talk.{open_channel}
use Rattle.rd_world.specs.World.{WorldState}

pub still_at_rest : (lines : List NumberedLine) (starves : Key → Bool) (control : Control) (w : WorldState) → RunPremises lines → DeclareInRoom lines → length lines ≤ 1000000 → Reached lines starves w → choices w ≡ []
    → open_channel w.deeds ≡ Some w.channels → ((w.client).core).fault ≡ None → IsToldAll control w.deeds w.channels → IsStill (declared_devices (bare_lines lines)) control w.deeds w.channels
still_at_rest lines starves control w premises writable few reached none is fine told = record {
  sent = told.sent;
  owed = told.owed;
  tells = told.tells;
  notices = told.notices;
  read = client_heard_all lines starves premises w reached none is (none_kept_back lines starves premises w reached none);
  heard = host_heard_all lines starves premises w reached none is;
  completed = λ device id index has. completed lines starves premises w reached none is writable few (none_kept_back lines starves premises w reached none) fine device id index has;
}
