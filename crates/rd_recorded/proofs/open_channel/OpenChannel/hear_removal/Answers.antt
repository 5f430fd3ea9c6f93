use Rattle.std.proofs.Common.{ap, ◌∙◌, sym, Ok}
use Rattle.rd_recorded.specs.Kept.{open_of}
use Rattle.rd_recorded.proofs.HeardLemmas.{removal_heard}
use Rattle.rd_recorded.proofs.open_channel.OpenChannel.hear_removal.Goals as goal

-- src/open_channel.rt:218:5
pub returns : goal.returns
returns c =
    removal_heard c.args.entry c.as_slice.result.now c.args.message.now (open_of c.args.self.now) _ _ c.as_slice.ensures c.in_ok-removal.ensures.spelled ∙ ap (λ o. Ok o) (sym c.in_ok-say.ensures)
