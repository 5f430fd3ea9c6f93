use Rattle.std.proofs.Common.{◌≡◌, ◌∙◌, arith, ap, subst, sym, suc, ℕ, length}
use Rattle.std.proofs.lemmas.List.{length-map}
use Rattle.rd_turn.specs.History.{calls_of}
use Rattle.rd_turn.specs.Pass.{Belongs, PassState, TurnId}
use Rattle.rd_front.specs.declared.calls.FrontCall.{FrontCall}
use Rattle.rd_front.specs.declared.calls.FrontReply.{FrontReply}
use Rattle.rd_pool.specs.Desks.{DeskTurn}
use Rattle.rd_served_devices.specs.ServedDevices.{ServedDeviceState}
use Rattle.rd_workers.specs.Channels.{told_as}
use Rattle.rd_workers.specs.Lines.{at_lines}
use Rattle.rd_workers.specs.Logs.{AllWrite}
use Rattle.rd_workers.specs.Passes.{CallerId, ComesBack, WriterState}
use Rattle.rd_workers.specs.Served.{IsRead, ServesEntries}
use Rattle.rd_workers.proofs.HistoryLemmas.{front_stays}
use Rattle.rd_workers.proofs.LogLemmas.{no_calls_of}
use Rattle.rd_workers.proofs.PassLemmas.{of_some}
use Rattle.rd_workers.proofs.ServedLemmas.{AreJoined, FrontPass, WriterPass, is_served}
use Rattle.rd_workers.proofs.session.serve_front.Goals as goal

pub serve_with_workers-requires-clause-places : goal.serve_with_workers-requires-clause-places
serve_with_workers-requires-clause-places g c =
    let turns = ap length c.requires.turns in
    let bells = c.in_ok-bells.ensures in
    let count = c.count.ensures in
    let hands = length-map {B = DeskTurn ServedDeviceState} c.args.hands (λ hand. hand.turn) in
    omega (arith, turns, bells, count, hands)

pub serve_with_workers-requires-clause-front : goal.serve_with_workers-requires-clause-front
serve_with_workers-requires-clause-front g c κs within =
    no_calls_of c.new-front.result.pass (ap (λ (p : FrontPass g.row.F.Denot). p.seen) (c.new-front.ensures.1 ∙ c.split.ensures.kept) ∙ c.requires.unused.3)

pub serve_with_workers-requires-clause-caller : goal.serve_with_workers-requires-clause-caller
serve_with_workers-requires-clause-caller g c κs within =
    no_calls_of c.new-caller.result.pass
    (ap (λ (p : WriterPass g.row.F.Denot g.row.L-Out.Denot). p.seen) (c.new-caller.ensures.1 ∙ c.split-2.ensures.kept) ∙ ap (λ (p : WriterPass g.row.F.Denot g.row.L-Out.Denot). p.seen) c.in-Ok.ensures.pass)

pub serve_with_workers-requires-clause-other : goal.serve_with_workers-requires-clause-other
serve_with_workers-requires-clause-other g c κs within = ap (λ (p : WriterPass g.row.F.Denot g.row.L-Out.Denot). calls_of p.number p.seen) c.new-other.ensures.1 ∙ c.split-2.ensures.fresh

pub join-requires-2-clause-own : goal.join-requires-2-clause-own
join-requires-2-clause-own g c =
    let home = c.home_of-other.result in
    let there = c.home_of-other.ensures in
    let given = c.serve_with_workers.new.home in
    let came : ComesBack c.new-front.result.turn.now c.new-front.result.pass home.read.front.pass = of_some given home there (λ h. ComesBack c.new-front.result.turn.now c.new-front.result.pass h.read.front.pass) c.serve_with_workers.ensures.front in
    let first = subst (λ (t : TurnId g.row.F.Denot). Belongs t home.read.front.pass) c.new-front.ensures.0 came.own in
    let same = front_stays c.in-Ok.writer_turn.opening c.close.result _ c.close.ensures.leads ∙ ap (λ (s : WriterState g.row.F.Denot). s.front) (c.in-Ok.ensures.turn ∙ c.new-writer.ensures) in
    let chain = c.into_front-writer_front.ensures.same ∙ same in
    let turn = ap (λ (i : CallerId g.row.F.Denot). i.turn) chain ∙ c.new-4.ensures.0 in (
      subst (Belongs c.args.turn.now) (sym c.into_pass-pass.ensures.same) first,
      subst (λ (t : TurnId g.row.F.Denot). Belongs t c.into_pass-2.result) turn c.into_pass-2.ensures.own,
    )

pub join-requires-2-clause-later : goal.join-requires-2-clause-later
join-requires-2-clause-later g c =
    let number : PassState g.row.F.Denot FrontCall FrontReply → ℕ = λ p. p.number in
    let same = front_stays c.in-Ok.writer_turn.opening c.close.result _ c.close.ensures.leads ∙ ap (λ (s : WriterState g.row.F.Denot). s.front) (c.in-Ok.ensures.turn ∙ c.new-writer.ensures) in
    let chain = c.into_front-writer_front.ensures.same ∙ same in
    let is : c.into_pass-2.result.number ≡ suc c.args.pass.made =
    ap number c.into_pass-2.ensures.same ∙ ap (λ (i : CallerId g.row.F.Denot). i.number) chain ∙ ap number c.new-4.ensures.1 ∙ ap number c.split.ensures.given in
    λ none. omega (arith, is, none)

pub returns-clause-served : goal.returns-clause-served
returns-clause-served g c =
    let F = g.row.F.Denot in
    let K = g.row.L-Out.Denot in
    let home = c.home_of-other.result in
    let there = c.home_of-other.ensures in
    let given = c.serve_with_workers.new.home in
    let came : ComesBack c.new-front.result.turn.now c.new-front.result.pass home.read.front.pass = of_some given home there (λ h. ComesBack c.new-front.result.turn.now c.new-front.result.pass h.read.front.pass) c.serve_with_workers.ensures.front in
    let main_back : ComesBack c.new-caller.result.turn.now c.new-caller.result.pass home.read.writer.pass =
    of_some given home there (λ h. ComesBack c.new-caller.result.turn.now c.new-caller.result.pass h.read.writer.pass) c.serve_with_workers.ensures.caller in
    let other_back : ComesBack c.new-other.result.turn.now c.new-other.result.pass home.other.pass = of_some given home there (λ h. ComesBack c.new-other.result.turn.now c.new-other.result.pass h.other.pass) c.serve_with_workers.ensures.other in
    let writes : AllWrite (calls_of home.other.pass.number home.other.pass.seen) = of_some given home there (λ h. AllWrite (calls_of h.other.pass.number h.other.pass.seen)) c.serve_with_workers.ensures.writes in
    let reads : IsRead (at_lines c.args.plan.lines.now) c.args.plan.channels home.read.ended home.read.front.pass home.read.writer.pass (told_as (g.L.Linker.linked c.args.linker.now) (g.L.Linker.failures c.args.linker.now)) (told_as (g.L.Linker.linked c.serve_with_workers.result.now) (g.L.Linker.failures c.serve_with_workers.result.now)) =
    of_some given home there (λ h. IsRead (at_lines c.args.plan.lines.now) c.args.plan.channels h.read.ended h.read.front.pass h.read.writer.pass (told_as (g.L.Linker.linked c.args.linker.now) (g.L.Linker.failures c.args.linker.now)) (told_as (g.L.Linker.linked c.serve_with_workers.result.now) (g.L.Linker.failures c.serve_with_workers.result.now))) c.serve_with_workers.ensures.read in
    let main = c.into_pass-writer_pass.ensures.same in
    let other = c.into_pass.ensures.same in
    let reader = c.into_pass-pass.ensures.same in
    let opening = c.in-Ok.ensures.turn ∙ c.new-writer.ensures in
    let same = front_stays c.in-Ok.writer_turn.opening c.close.result _ c.close.ensures.leads ∙ ap (λ (s : WriterState F). s.front) opening in
    let chain = c.into_front-writer_front.ensures.same ∙ same in
    let joined : AreJoined c.into_pass-pass.result c.into_pass-2.result c.join-2.new.pass c.into_pass-writer_pass.result c.into_pass.result c.join.new.pass c.in-Ok.writer_turn.opening c.close.result = record {
      reader_number = ap (λ (p : FrontPass F). p.number) reader ∙ came.number ∙ ap (λ (p : FrontPass F). p.number) (c.new-front.ensures.1 ∙ c.split.ensures.kept) ∙ c.requires.unused.0;
      writer_number = ap (λ (p : FrontPass F). p.number) c.into_pass-2.ensures.same ∙ ap (λ (i : CallerId F). i.number) chain ∙ ap (λ (p : FrontPass F). p.number) (c.new-4.ensures.1 ∙ c.split.ensures.given) ∙ ap suc c.requires.unused.1;
      front_number = c.join-2.ensures.counts.0;
      front_made = c.join-2.ensures.counts.1 ∙ ap (λ (p : FrontPass F). p.made) reader ∙ came.made ∙ ap (λ (p : FrontPass F). p.made) (c.new-front.ensures.1 ∙ c.split.ensures.kept) ∙ ap suc c.requires.unused.1;
      front_numbers = c.join-2.ensures.numbers;
      front_goes = c.join-2.ensures.goes_on;
      front_other = c.join-2.ensures.other_calls;
      own = ap (λ (p : FrontPass F). calls_of p.number p.seen) c.into_pass-2.ensures.same ∙ c.into_front-writer_front.ensures.own;
      main_number = ap (λ (p : WriterPass F K). p.number) main ∙ main_back.number ∙ ap (λ (p : WriterPass F K). p.number) (c.new-caller.ensures.1 ∙ c.split-2.ensures.kept) ∙ ap (λ (p : WriterPass F K). p.number) c.in-Ok.ensures.pass;
      other_number = ap (λ (p : WriterPass F K). p.number) other ∙ other_back.number ∙ ap (λ (p : WriterPass F K). p.number) (c.new-other.ensures.1 ∙ c.split-2.ensures.given) ∙ ap (λ (p : WriterPass F K). suc p.made) c.in-Ok.ensures.pass;
      whole_number = c.join.ensures.counts.0;
      whole_made = c.join.ensures.counts.1 ∙ ap (λ (p : WriterPass F K). p.made) main ∙ main_back.made ∙ ap (λ (p : WriterPass F K). p.made) (c.new-caller.ensures.1 ∙ c.split-2.ensures.kept) ∙ ap (λ (p : WriterPass F K). suc p.made) c.in-Ok.ensures.pass;
      whole_numbers = c.join.ensures.numbers;
      whole_goes = c.join.ensures.goes_on;
      whole_other = c.join.ensures.other_calls;
      writes = subst (λ (p : WriterPass F K). AllWrite (calls_of p.number p.seen)) (sym other) writes;
      none = ap (λ (s : WriterState F). s.own) opening ∙ ap (λ (p : FrontPass F). calls_of p.number p.seen) c.new-4.ensures.1 ∙ c.split.ensures.fresh;
      off = ap (λ (s : WriterState F). s.half) opening;
      leads = c.close.ensures.leads;
    } in
    let read = subst (λ (p : FrontPass F). IsRead (at_lines c.args.plan.lines.now) c.args.plan.channels home.read.ended p c.into_pass-writer_pass.result (told_as (g.L.Linker.linked c.args.linker.now) (g.L.Linker.failures c.args.linker.now)) (told_as (g.L.Linker.linked c.serve_with_workers.result.now) (g.L.Linker.failures c.serve_with_workers.result.now))) (sym reader)
    (subst (λ (p : WriterPass F K). IsRead (at_lines c.args.plan.lines.now) c.args.plan.channels home.read.ended home.read.front.pass p (told_as (g.L.Linker.linked c.args.linker.now) (g.L.Linker.failures c.args.linker.now)) (told_as (g.L.Linker.linked c.serve_with_workers.result.now) (g.L.Linker.failures c.serve_with_workers.result.now))) (sym main) reads) in
    let served = is_served c.into_pass-pass.result c.into_pass-2.result c.join-2.new.pass c.into_pass-writer_pass.result c.into_pass.result c.join.new.pass c.in-Ok.writer_turn.opening c.close.result joined (at_lines c.args.plan.lines.now) c.args.plan.channels
    home.read.ended (told_as (g.L.Linker.linked c.args.linker.now) (g.L.Linker.failures c.args.linker.now)) (told_as (g.L.Linker.linked c.serve_with_workers.result.now) (g.L.Linker.failures c.serve_with_workers.result.now)) read in
    let last = c.linker-1.given.1 (sym c.serve_with_workers.ensures.linker) in
    subst (λ l. ServesEntries (at_lines c.args.plan.lines.now) c.args.plan.channels home.read.ended c.join-2.new.pass.seen (told_as (g.L.Linker.linked c.args.linker.now) (g.L.Linker.failures c.args.linker.now)) (told_as (g.L.Linker.linked l) (g.L.Linker.failures l))) (sym last) served
