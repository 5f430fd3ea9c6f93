use Rattle.std.proofs.Common.{◌≡◌, ◌∙◌, [], subst, sym, Some}
use Rattle.rd_desk.specs.Desk.{told_calls}
use Rattle.rd_front.specs.State.{SessionDeskStep, SessionStation}
use Rattle.rd_refused.proofs.JournalsWorkLemmas.{grown_more}
use Rattle.rd_station.specs.Station.{new_station}
use Rattle.rd_turn.specs.History.{Leads}
use Rattle.rd_served.specs.Deeds.{deeds_of_calls}
use Rattle.rd_served.specs.ServedDevices.{ServedDeviceState}
use Rattle.rd_served.proofs.CauseLemmas.{AnyRequest}
use Rattle.rd_served_replies.specs.Given.{known_as}
use Rattle.rd_served_replies.proofs.BeginLemmas.{IsOneOf, first_of, known_first}
use Rattle.rd_served_replies.proofs.FollowLemmas.{history_followed}
use Rattle.rd_served_replies.proofs.KnownLemmas.{known_calm, known_plays}
use Rattle.rd_served_replies.proofs.LedLemmas.{led_by, led_tied}
use Rattle.rd_served_replies.proofs.laws.stations_are_tied.Goals as goal

pub returns : goal.returns
returns c calm devices old new entries parts begins opened goes gives place d s there has quiet x y at known =
    let deeds = deeds_of_calls parts [] in
    let is = history_followed (IsOneOf devices) entries parts old new [] goes (known_first old begins) (first_of devices old begins opened) in
    let one = is.opened place d there in
    let both : Some one.opening ≡ Some x = sym one.found ∙ at in
    let same : one.opening ≡ x = cc (both) in
    let its : known_as calm one.opening ≡ Some y = subst (λ (z : ServedDeviceState). known_as calm z ≡ Some y) (sym same) known in
    let leads : Leads SessionDeskStep (new_station one.opening) (d.pass).seen s = subst (λ (o : SessionStation). Leads SessionDeskStep o (d.pass).seen s) one.is (is.stationed place d s (there, has)).leads in
    led_tied AnyRequest deeds deeds (grown_more [] deeds) d.id one.opening (d.pass).seen s leads (gives place d there) (is.puts place d there) y (known_plays calm one.opening y its one.fit) one.nothing
    (known_calm calm one.opening y (told_calls (d.pass).seen) s its (led_by AnyRequest deeds deeds (grown_more [] deeds) d.id one.opening (d.pass).seen s leads (gives place d there) (is.puts place d there)) quiet)
