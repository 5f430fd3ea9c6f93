use Rattle.std.proofs.Common.{◌<◌, ◌≤◌, ◌∙◌, sym, ap, subst, rules, length, arith, List, ℕ, Option, Some}
use Rattle.rd_host_front.specs.HostFront.{HandsOne}
use Rattle.rd_room.specs.Room.{MessageRoom}
use Rattle.rd_host_front.proofs.FillLemmas.{FillsOn, fills_all, fills_empty, fills_more}
use Rattle.rd_host_front.proofs.host_front.HostFront.fill.Goals as goal

pub loop-self-preserved : goal.loop-self-preserved
loop-self-preserved g c =
    let on : FillsOn c.args.room.now.places c.args.self.now c.loop-self.self c.loop-self.room.messages = c.loop-self.invariant.on in
    let here : length c.loop-self.room.messages < c.loop-self.room.places = search rules in
    let more : length c.loop-self.room.messages < c.args.room.now.places = omega (arith, here, c.loop-self.invariant.places) in
    let gives : HandsOne c.loop-self.self (Some c.in-Some.message) c.give.new.self =
    subst (λ (x : Option (List ℕ)). HandsOne c.loop-self.self x c.give.new.self) c.in-Some.is c.give.ensures in
    record {
      on = subst (λ (r : MessageRoom). FillsOn c.args.room.now.places c.args.self.now c.give.new.self r.messages) (sym c.add.ensures)
          (fills_more c.args.room.now.places c.args.self.now c.loop-self.self c.give.new.self c.loop-self.room.messages c.in-Some.message more gives on);
      places = ap (λ (r : MessageRoom). r.places) c.add.ensures ∙ c.loop-self.invariant.places;
    }

pub returns-in-None-clause-filled : goal.returns-in-None-clause-filled
returns-in-None-clause-filled g c =
    let here : length c.loop-self.room.messages < c.loop-self.room.places = search rules in
    let more : length c.loop-self.room.messages < c.args.room.now.places = omega (arith, here, c.loop-self.invariant.places) in
    let gives = subst (λ (x : Option (List ℕ)). HandsOne c.loop-self.self x c.give.new.self) c.in-None.is c.give.ensures in
    fills_empty c.args.room.now.places c.args.self.now c.loop-self.self c.give.new.self c.loop-self.room.messages more gives c.loop-self.invariant.on

pub returns-clause-filled : goal.returns-clause-filled
returns-clause-filled g c =
    let here : c.loop-self.room.places ≤ length c.loop-self.room.messages = grind (arith, c.has_place.ensures, c.loop-self-test.false) in
    let all : c.args.room.now.places ≤ length c.loop-self.room.messages = omega (arith, here, c.loop-self.invariant.places) in
    fills_all c.args.room.now.places c.args.self.now c.loop-self.self c.loop-self.room.messages all c.loop-self.invariant.on
