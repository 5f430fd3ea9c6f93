use Rattle.std.proofs.Common.{◌≡◌, false, ap, ◌∙◌, subst, sym, Bool}
use Rattle.std.specs.Prelude.{Result, Ok, Err, OnOk}
use Rattle.std.specs.Result.{is_err}
use Rattle.std.specs.declared.alloc.AllocError.{AllocError}
use Rattle.rd_world.specs.Ways.{IsOnItsWay}
use Rattle.rd_world.specs.World.{WayState}
use Rattle.rd_world.proofs.WayLemmas.{message_on}
use Rattle.rd_world.proofs.way.Way.carry.Goals as goal

on_ok : (r : Result (Unit {0}) AllocError) (A : Type 0) → is_err r ≡ false → OnOk r A → A
on_ok (Ok y) A isnt a = a
on_ok (Err e) A isnt a = absurd cc

pub invariant_of-self-else-is_err : goal.invariant_of-self-else-is_err
invariant_of-self-else-is_err c =
    let way = c.self.inside in
    let going : way.ended ≡ false = ap (λ (y : WayState). y.ended) (c.self.view_is ∙ c.cut_handled.ensures) ∙ c.requires.going in
    subst (λ (b : Bool). IsOnItsWay way.front way.read c.put_frames-put.new.stream.items way.joiner way.part.items b) (sym going)
    (message_on way.front way.read way.bytes.items c.put_frames-put.new.stream.items c.args.message.now way.part.items way.joiner (on_ok c.put_frames-put.result _ (sym c.is_err.ensures.value ∙ c.if-is_err.false) c.put_frames-put.ensures.frames) c.requires.fits
    (subst (λ (b : Bool). IsOnItsWay way.front way.read way.bytes.items way.joiner way.part.items b) going c.self.invariant))
