use Rattle.std.proofs.Common.{refl, sym, length, ◌<◌, subst}
use Rattle.std.proofs.lemmas.Option.{slice_get_read}
use Rattle.rd_front.specs.State.{FrontState}
use Rattle.rd_front.proofs.front.Front.call_desk.Goals as goal

pub returns : goal.returns
returns g c =
    let within : c.args.place < length c.self.inside.desks.items = subst (λ (s : FrontState). c.args.place < length s.desks) (sym c.self.view_is) c.requires in
    rw (← c.self.view_is) (record {
      before = c.index_mut-desk.result.now;
      after = c.call.new.self;
      there = slice_get_read c.self.inside.desks.items (length c.self.inside.desks.items) c.args.place c.index_mut-desk.result.now refl within c.index_mut-desk.ensures.value;
      called = c.call.ensures;
      put_back = refl;
    })
