use Rattle.std.proofs.Common.{◌<◌, ◌≤◌, ◌∙◌, sym, ap, subst, rules, length, arith}
use Rattle.rd_front.specs.declared.next.Got.{Got}
use Rattle.rd_front.specs.declared.next.Got.TheVariants as got
use Rattle.rd_front.specs.Front.{GivesNext}
use Rattle.rd_room.specs.Room.{MessageRoom}
use Rattle.rd_front.proofs.FillLemmas.{FillsOn, fills_all, fills_more, fills_nothing, fills_wanting}
use Rattle.rd_front.proofs.front.Front.fill.Goals as goal

pub loop-self-preserved : goal.loop-self-preserved
loop-self-preserved g c =
    let on : FillsOn c.args.place c.args.room.now.places c.args.self.now c.loop-self.self c.loop-self.room.messages = c.loop-self.invariant.on in
    let here : length c.loop-self.room.messages < c.loop-self.room.places = search rules in
    let more : length c.loop-self.room.messages < c.args.room.now.places = omega (arith, here, c.loop-self.invariant.places) in
    let gives : GivesNext c.loop-self.self c.args.place (got.Message c.in-Message.message) c.give.new.self =
    subst (λ (x : Got). GivesNext c.loop-self.self c.args.place x c.give.new.self) c.in-Message.is c.give.ensures in
    record {
      on = subst (λ (r : MessageRoom). FillsOn c.args.place c.args.room.now.places c.args.self.now c.give.new.self r.messages) (sym c.add.ensures)
          (fills_more c.args.place c.args.room.now.places c.args.self.now c.loop-self.self c.give.new.self c.loop-self.room.messages c.in-Message.message more gives on);
      places = ap (λ (r : MessageRoom). r.places) c.add.ensures ∙ c.loop-self.invariant.places;
    }

pub returns-in-Nothing-clause-filled : goal.returns-in-Nothing-clause-filled
returns-in-Nothing-clause-filled g c =
    let here : length c.loop-self.room.messages < c.loop-self.room.places = search rules in
    let more : length c.loop-self.room.messages < c.args.room.now.places = omega (arith, here, c.loop-self.invariant.places) in
    let gives = subst (λ (x : Got). GivesNext c.loop-self.self c.args.place x c.give.new.self) c.in-Nothing.is c.give.ensures in
    fills_nothing c.args.place c.args.room.now.places c.args.self.now c.loop-self.self c.give.new.self c.loop-self.room.messages more gives c.loop-self.invariant.on

pub returns-in-Memory-clause-filled : goal.returns-in-Memory-clause-filled
returns-in-Memory-clause-filled g c =
    let here : length c.loop-self.room.messages < c.loop-self.room.places = search rules in
    let more : length c.loop-self.room.messages < c.args.room.now.places = omega (arith, here, c.loop-self.invariant.places) in
    let gives = subst (λ (x : Got). GivesNext c.loop-self.self c.args.place x c.give.new.self) c.in-Memory.is c.give.ensures in
    fills_wanting c.args.place c.args.room.now.places c.args.self.now c.loop-self.self c.give.new.self c.loop-self.room.messages more gives c.loop-self.invariant.on

pub returns-clause-filled : goal.returns-clause-filled
returns-clause-filled g c =
    let here : c.loop-self.room.places ≤ length c.loop-self.room.messages = grind (arith, c.has_place.ensures, c.loop-self-test.false) in
    let all : c.args.room.now.places ≤ length c.loop-self.room.messages = omega (arith, here, c.loop-self.invariant.places) in
    fills_all c.args.place c.args.room.now.places c.args.self.now c.loop-self.self c.loop-self.room.messages all c.loop-self.invariant.on
