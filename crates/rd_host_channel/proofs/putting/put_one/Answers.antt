use Rattle.std.proofs.Common.{[], ◌∷◌, subst, sym, not, Bool}
use Rattle.rd_host_channel.specs.Putting.{PutsTo}
use Rattle.rd_host_channel.proofs.PuttingLemmas.{put_as}
use Rattle.rd_host_channel.proofs.putting.put_one.Goals as goal

pub returns : goal.returns
returns g c = subst (λ (b : Bool). PutsTo (not b) (c.args.message.now ∷ []) c.args.output.now c.put.new.self) (sym c.is_ok.ensures.value) (put_as c.put.result c.args.message.now c.args.output.now c.put.new.self c.put.ensures.put c.put.ensures.err c.put.ensures.since)
