use Rattle.std.proofs.Common.{◌∙◌, Bool, ap, not}
use Rattle.std.specs.Prelude.{◌&&◌}
use Rattle.rd_world.specs.Left.{is_sent_in}
use Rattle.rd_world.proofs.LeftLemmas.{told_left}
use Rattle.rd_world.proofs.playing.is_some_left.Goals as goal

pub returns : goal.returns
returns c =
    told_left c.args.journal.now c.args.channel c.take_sent.new.left c.is_empty.result c.is_empty.ensures
    (λ index. c.take_sent.ensures index ∙ ap (λ (b : Bool). b && not (is_sent_in c.args.journal.now c.args.channel index)) (c.in_ok-left.ensures index))
