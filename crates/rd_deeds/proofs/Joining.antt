-- Sides that are joined come to what the joining law says.
use Rattle.std.proofs.Common.{ℕ, List, subst, sym}
use Rattle.rd_pending.specs.History.{Call, HandsOut, Holds}
use Rattle.rd_pending.proofs.Handed as handed
use Rattle.rd_pending.proofs.Histories as histories
use Rattle.rd_deeds.specs.HostDeeds.{calls_of}
use Rattle.rd_deeds.specs.Joining.{AreJoined, Joins}
use Rattle.rd_deeds.specs.Talk.{Deed, journal}
use Rattle.rd_deeds.specs.Told.{Replies}
use Rattle.rd_deeds.proofs.Calls.{calls_hold}
use Rattle.rd_deeds.proofs.Joined.{counted}
use Rattle.rd_deeds.proofs.Journals.{plain_of}
use Rattle.rd_deeds.proofs.Order.{each_alone, in_order}
use Rattle.rd_deeds.proofs.Replied.{replied, uncut}
use Rattle.rd_deeds.proofs.Taken.{each_taken}
use Rattle.rd_deeds.proofs.Telling.{each_tells}

pub all_join : (client : ℕ) (replies : Replies) (deeds : List Deed) → AreJoined client replies deeds → Joins client replies deeds
all_join client replies deeds is =
    let told = each_tells replies deeds is.told is.lawful in
    let holds : Holds (calls_of client deeds) = calls_hold client deeds is.host in
    record {
      counted = counted client deeds is.host is.carried is.stands told;
      in_order = in_order deeds is.carried is.stands (λ device. plain_of (journal device deeds) (is.lawful device));
      outcomes = histories.outcomes (calls_of client deeds) holds;
      handed_out = λ later before call parts.
          subst (λ (h : List Call). HandsOut h before call) (sym parts) (handed.handed_out later before call (subst Holds parts holds));
      replied = replied client replies deeds is;
      uncut = uncut client replies deeds is;
      taken = each_taken client replies deeds is.host is.carried is.stands told is.told.answers;
      alone = each_alone client deeds is.host is.carried is.stands told;
    }
