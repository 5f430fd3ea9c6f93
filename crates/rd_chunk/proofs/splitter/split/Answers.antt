use Rattle.std.proofs.Common.{◌≡◌, sym, subst, rules}
use Rattle.rd_chunk.specs.Frames.{One}
use Rattle.rd_chunk.specs.Carrier.{carrier_of}
use Rattle.rd_chunk.proofs.CarrierLemmas.{carrier_one}
use Rattle.rd_chunk.proofs.splitter.split.Goals as goal

pub returns-clause-one : goal.returns-clause-one
returns-clause-one c =
    let is : c.of.result ≡ carrier_of c.args.message.now = search rules in
    subst (One c.args.message.now) (sym is) (carrier_one c.args.message.now c.requires.some c.requires.most)
