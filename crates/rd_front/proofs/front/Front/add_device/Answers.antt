use Rattle.std.proofs.Common.{refl, true, Bool, subst}
use Rattle.rd_front.specs.Front.{Refreshes}
use Rattle.rd_front.proofs.TellingLemmas.{added_still}
use Rattle.rd_front.proofs.front.Front.add_device.Goals as goal

pub tell_added-requires-clause-may : goal.tell_added-requires-clause-may
tell_added-requires-clause-may g c =
    let fresh : Refreshes c.args.self.now c.args.device true c.refresh.new.self =
    subst (λ (b : Bool). Refreshes c.args.self.now c.args.device b c.refresh.new.self) c.if-not-refresh.false c.refresh.ensures in
    rw fresh (added_still c.args.self.now c.args.device c.requires.may)

pub returns-in-Ok : goal.returns-in-Ok
returns-in-Ok g c = (
  true,
  c.refresh.new.self,
  subst (λ (b : Bool). Refreshes c.args.self.now c.args.device b c.refresh.new.self) c.if-not-refresh.false c.refresh.ensures,
  (c.tell_added.result, c.tell_added.new.self, c.tell_added.ensures, rw c.in-Ok.is c.announce_added.ensures),
)

pub returns-in-Err : goal.returns-in-Err
returns-in-Err g c = (
  true,
  c.refresh.new.self,
  subst (λ (b : Bool). Refreshes c.args.self.now c.args.device b c.refresh.new.self) c.if-not-refresh.false c.refresh.ensures,
  (c.tell_added.result, c.tell_added.new.self, c.tell_added.ensures, rw c.in-Err.is (refl, refl)),
)
