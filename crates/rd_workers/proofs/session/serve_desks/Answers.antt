use Rattle.std.proofs.Common.{arith, length, ◌≡◌, ◌∙◌, ap, map, subst, sym, List}
use Rattle.std.proofs.lemmas.List.{length-map}
use Rattle.std.specs.Prelude.{All}
use Rattle.std.specs.List.{AllZip}
use Rattle.rd_pool.specs.Desks.{AllByHandBut, CameHome, DeskPass, GivesThen, IsByHandBut, IsFirst, KeepsMoment}
use Rattle.rd_pool.proofs.DeskLemmas.{still_first}
use Rattle.rd_served_devices.specs.ServedDevices.{ServedDeviceState}
use Rattle.rd_front.specs.Kept.{DeskGoesOn}
use Rattle.rd_front.specs.State.{DeviceDeskState, FrontState, SessionPass}
use Rattle.rd_workers.specs.Channels.{told_as}
use Rattle.rd_workers.specs.Lines.{at_lines}
use Rattle.rd_workers.specs.Passes.{IsPassOf}
use Rattle.rd_workers.proofs.BookLemmas.{first_hold, front_keeps}
use Rattle.rd_workers.proofs.ClosedLemmas.{firsts_but, split_first, still_firsts, their_passes, their_turns}
use Rattle.rd_workers.proofs.PassLemmas.{all_back, made_two, once_few, still_others}
use Rattle.rd_workers.proofs.FrontLemmas.{serves_front, unseen_split}
use Rattle.rd_workers.proofs.session.serve_desks.Goals as goal

pub new-requires-clause-first : goal.new-requires-clause-first
new-requires-clause-first g c =
    subst (λ (l : List (DeskPass ServedDeviceState)). AllZip IsFirst c.args.desks.now.turns l) (sym c.in_ok-own.ensures.kept) (still_first c.args.desks.now.turns c.args.passes c.requires.first)

pub new-requires-clause-few : goal.new-requires-clause-few
new-requires-clause-few g c = once_few c.args.passes c.split.new.passes c.in_ok-own.ensures.kept c.requires.new

pub serve_front-requires-clause-first : goal.serve_front-requires-clause-first
serve_front-requires-clause-first g c κs within =
    let once = subst (λ (l : List (DeskPass ServedDeviceState)). AllZip IsFirst c.args.desks.now.turns l) (sym c.in_ok-own.ensures.kept) (still_first c.args.desks.now.turns c.args.passes c.requires.first) in
    subst (λ (l : List (DeskPass ServedDeviceState)). AllZip IsFirst c.args.desks.now.turns l) (sym c.in_ok-hands.ensures.kept) (still_first c.args.desks.now.turns c.split.new.passes once)

pub serve_front-requires-clause-few : goal.serve_front-requires-clause-few
serve_front-requires-clause-few g c κs within = made_two c.args.passes c.split.new.passes c.new.new.passes c.in_ok-own.ensures.kept c.in_ok-hands.ensures.kept c.requires.new

pub passes_of-back-requires-clause-room : goal.passes_of-back-requires-clause-room
passes_of-back-requires-clause-room g c =
    let front = ap (λ (s : FrontState). s.desks) c.in-Ok.ensures.turn ∙ ap (λ (s : FrontState). s.desks) c.new-front.ensures in
    let gone : AllZip DeskGoesOn c.in-Ok.turn.opening.desks c.close.result.desks = c.fronts_call_desks.ensures.always c.in-Ok.turn.opening c.close.result c.in_ok-ended.pass.seen c.close.ensures.leads in
    let goes = subst (λ (l : List DeviceDeskState). AllZip DeskGoesOn l c.close.result.desks) front gone in
    let turns = their_turns c.args.desks.now.turns c.in_ok-list.list.items c.close.result.desks c.in_ok-list.ensures.turns goes in
    omega (arith, ap length c.into_desks.ensures, ap length turns, length-map c.close.result.desks (λ (d : DeviceDeskState). d.turn), c.in_ok-home.ensures.1)

pub join-requires-clause-others : goal.join-requires-clause-others
join-requires-clause-others g c =
    let front = ap (λ (s : FrontState). s.desks) c.in-Ok.ensures.turn ∙ ap (λ (s : FrontState). s.desks) c.new-front.ensures in
    let gone : AllZip DeskGoesOn c.in-Ok.turn.opening.desks c.close.result.desks = c.fronts_call_desks.ensures.always c.in-Ok.turn.opening c.close.result c.in_ok-ended.pass.seen c.close.ensures.leads in
    let goes = subst (λ (l : List DeviceDeskState). AllZip DeskGoesOn l c.close.result.desks) front gone in
    let are = subst (λ (l : List DeviceDeskState). AllZip IsPassOf l c.passes_of-back.result) c.into_desks.ensures c.passes_of-back.ensures in
    still_others c.args.desks.now.turns c.in_ok-list.list.items c.close.result.desks c.passes_of-back.result c.in_ok-own.own c.in_ok-list.ensures.turns c.in_ok-list.ensures.passes c.in_ok-own.ensures.others goes are

pub returns-clause-home : goal.returns-clause-home
returns-clause-home g c =
    all_back c.args.passes c.split.new.passes c.new.new.passes c.in_ok-ended.passes c.join.new.passes c.join-2.new.passes c.in_ok-own.ensures.kept c.in_ok-hands.ensures.kept c.in_ok-ended.ensures.out c.join.ensures.out c.join-2.ensures.out
    c.requires.new

pub serve_front-requires-clause-moments : goal.serve_front-requires-clause-moments
serve_front-requires-clause-moments g c κs within =
    let told = g.X.Outside.moment c.args.outside.now in (
      c.new.ensures.moments told (c.split.ensures.moments told (first_hold (GivesThen told) c.args.desks.now.turns c.args.passes c.requires.begins)),
      c.in_ok-hands.ensures.new_moments told,
    )

pub returns-clause-moments : goal.returns-clause-moments
returns-clause-moments g c =
    let told = g.X.Outside.moment c.args.outside.now in
    let front = ap (λ (s : FrontState). s.desks) c.in-Ok.ensures.turn ∙ ap (λ (s : FrontState). s.desks) c.new-front.ensures in
    let gone : AllZip DeskGoesOn c.in-Ok.turn.opening.desks c.close.result.desks = c.fronts_call_desks.ensures.always c.in-Ok.turn.opening c.close.result c.in_ok-ended.pass.seen c.close.ensures.leads in
    let goes = subst (λ (l : List DeviceDeskState). AllZip DeskGoesOn l c.close.result.desks) front gone in
    let are = subst (λ (l : List DeviceDeskState). AllZip IsPassOf l c.passes_of-back.result) c.into_desks.ensures c.passes_of-back.ensures in
    let own : All (KeepsMoment told) c.passes_of-back.result = front_keeps told c.in_ok-list.list.items c.close.result.desks c.passes_of-back.result c.in_ok-own.own c.in_ok-list.ensures.passes (c.in_ok-own.ensures.new_moments told) goes are in
    c.join-2.ensures.moments told (c.join.ensures.moments told c.in_ok-ended.ensures.moments.1 own) c.in_ok-ended.ensures.moments.0

pub serve_front-requires-clause-by_hand : goal.serve_front-requires-clause-by_hand
serve_front-requires-clause-by_hand g c κs within =
    c.new.ensures.by_hand 1 (c.split.ensures.by_hand 1 (first_hold (IsByHandBut 1) c.args.desks.now.turns c.args.passes c.requires.begins))

pub returns-clause-served : goal.returns-clause-served
returns-clause-served g c =
    let front = ap (λ (s : FrontState). s.desks) c.in-Ok.ensures.turn ∙ ap (λ (s : FrontState). s.desks) c.new-front.ensures in
    let gone : AllZip DeskGoesOn c.in-Ok.turn.opening.desks c.close.result.desks = c.fronts_call_desks.ensures.always c.in-Ok.turn.opening c.close.result c.in_ok-ended.pass.seen c.close.ensures.leads in
    let goes = subst (λ (l : List DeviceDeskState). AllZip DeskGoesOn l c.close.result.desks) front gone in
    let are = subst (λ (l : List DeviceDeskState). AllZip IsPassOf l c.passes_of-back.result) c.into_desks.ensures c.passes_of-back.ensures in
    let own : c.passes_of-back.result ≡ map (λ (d : DeviceDeskState). d.pass) c.close.result.desks = their_passes c.close.result.desks c.passes_of-back.result are in
    let numbers = still_firsts c.in_ok-list.list.items c.close.result.desks c.in_ok-own.own c.in_ok-list.ensures.passes (split_first c.args.desks.now.turns c.args.passes c.in_ok-own.own c.requires.begins c.in_ok-own.ensures.given) goes in
    record {
      front =
          serves_front c.args.client c.args.printers c.args.ids.now c.args.desks.now.turns (at_lines c.args.plan.lines.now) c.args.plan.channels c.in_ok-ended.ended c.in-Ok.turn.opening c.close.result c.in_ok-list.list.items c.in_ok-own.own c.in_ok-ended.pass.seen
          (told_as (g.L.Linker.linked c.args.linker.now) (g.L.Linker.failures c.args.linker.now)) (told_as (g.L.Linker.linked c.serve_front.new.linker) (g.L.Linker.failures c.serve_front.new.linker)) (c.in-Ok.ensures.turn ∙ c.new-front.ensures) c.in_ok-list.ensures.ids c.in_ok-list.ensures.turns c.in_ok-list.ensures.passes
          (unseen_split c.args.passes c.in_ok-own.own c.in_ok-own.ensures.given c.requires.new) c.close.ensures.leads c.in_ok-ended.ensures.served;
      home = record {
        turns_are = their_turns c.args.desks.now.turns c.in_ok-list.list.items c.close.result.desks c.in_ok-list.ensures.turns goes;
        numbers = numbers;
        home = subst (λ (l : List SessionPass). AllZip CameHome c.join-2.new.passes l) own (c.join-2.ensures.still_home c.passes_of-back.result c.join.ensures.home);
        by_hand = c.join-2.ensures.by_hand 1 (c.join.ensures.by_hand 1 c.in_ok-ended.ensures.by_hand.1 (subst (All (AllByHandBut 1)) (sym own) (firsts_but (map (λ (d : DeviceDeskState). d.pass) c.close.result.desks) numbers))) c.in_ok-ended.ensures.by_hand.0;
      };
    }
