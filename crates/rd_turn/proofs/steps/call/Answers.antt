use Rattle.std.proofs.Common.{◌≡◌, ◌≤◌, All, Some, ◌++◌, ◌∷◌, [], refl, sym, ap, ◌∙◌, subst}
use Rattle.std.proofs.lemmas.Option.{same_Some}
use Rattle.rd_turn.specs.History.{Leads, entry, calls_of}
use Rattle.rd_turn.specs.Seats.{pass_of, Rests}
use Rattle.rd_turn.proofs.HistoryLemmas.{are_others, calls_of_more, calls_of_none}
use Rattle.rd_turn.proofs.CallLemmas.{one_held, done, has_called, is_passed, leads_on, one_more, known_on}
use Rattle.rd_turn.proofs.steps.call.Goals as goal

pub wait-requires-clause-view : goal.wait-requires-clause-view
wait-requires-clause-view g c = let drawn = c.draw-ticket.ensures.view in (ap (λ m. m.1) drawn, (c.args.call, ap (λ m. m.0.stage) drawn))

pub exchange-taken-requires : goal.exchange-taken-requires
exchange-taken-requires g c =
    let drawn = c.draw-ticket.ensures in
    let came = c.wait.ensures in
    let comes = came.view c.args.call (ap (λ m. m.0.stage) drawn.view) in
    (came.same ∙ (drawn.same ∙ c.requires.table.0), (Some comes.1, one_held _ (0, Some comes.1) (ap (λ m. m.1) comes.5)))

pub pass_on-requires-clause-seat : goal.pass_on-requires-clause-seat
pass_on-requires-clause-seat g c =
    let drawn = c.draw-ticket.ensures in
    let came = c.wait.ensures in
    let taken = c.exchange-taken.ensures in
    let given = c.exchange-empty.ensures in
    let comes = came.view c.args.call (ap (λ m. m.0.stage) drawn.view) in
    let made = done g.O.Object.steps c.args.seat.now.me.0 c.draw-ticket.result c.args.call c.call-reply.result _ _ _ _ _ _ _ drawn.view comes taken.2 taken.3 given.3 c.in-Some.is c.call-reply.ensures in
    (given.0 ∙ (taken.0 ∙ (came.same ∙ (drawn.same ∙ c.requires.table.0))), c.requires.table.1, has_called g.O.Object.steps _ _ _ _ _ _ made)

pub returns : goal.returns
returns g c =
    let v = c.args.seat.now.me.0 in
    let call = c.args.call in
    let reply = c.call-reply.result in
    let drawn = c.draw-ticket.ensures in
    let came = c.wait.ensures in
    let taken = c.exchange-taken.ensures in
    let given = c.exchange-empty.ensures in
    let comes = came.view call (ap (λ m. m.0.stage) drawn.view) in
    let made = done g.O.Object.steps v c.draw-ticket.result call reply _ _ _ _ _ _ _ drawn.view comes taken.2 taken.3 given.3 c.in-Some.is c.call-reply.ensures in
    let after = is_passed g.O.Object.steps _ _ _ _ _ _ _ made c.pass_on.ensures.view in
    let seen = ap (λ m. m.0.seen) after ∙ ap (λ l. l ++ entry v.number call reply ∷ []) made.grown in
    let opened = same_Some made.first c.args.table.now.key.value (sym made.opened ∙ c.requires.opening) in
    let leads = subst (λ o. Leads g.O.Object.steps o (made.seen ++ entry v.number call reply ∷ []) c.call-reply.new.self) opened (leads_on g.O.Object.steps _ _ _ _ _ _ made) in
    record {
      rests = subst Rests (sym after) record {
        holds_none = refl;
        idle = refl;
        balanced = c.requires.rests.balanced;
        own = one_more g.O.Object.steps _ _ _ _ _ _ made;
      };
      own = (c.pass_on.ensures.same ∙ (given.0 ∙ (taken.0 ∙ (came.same ∙ drawn.same))), ap (λ m. m.0.opening) after);
      same = (ap (λ m. m.0.number) after, ap (λ m. m.0.made) after, ap (λ m. m.0.out) after, ap (λ m. m.0.joined) after);
      called = (made.added, seen, are_others (pass_of c.args.seat.now) made.added made.not_own made.not_joined);
      own_calls = ap (calls_of v.number) seen ∙ calls_of_more v.number v.seen made.added call reply (calls_of_none v.number made.added made.not_own);
      numbers = subst (λ m. m.0.number ≡ 0 → All (λ e. e.by ≤ m.0.made) m.0.seen) (sym after) (known_on g.O.Object.steps _ _ _ _ _ _ made);
      legal = (c.call-reply.new.self, subst (λ l. Leads g.O.Object.steps c.args.table.now.key.value l c.call-reply.new.self) (ap (λ m. m.0.seen) (sym after)) leads);
    }
