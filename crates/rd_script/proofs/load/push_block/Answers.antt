use Rattle.std.proofs.Common.{[], ◌∷◌}
use Rattle.rd_script.proofs.LoadLemmas.{adds_more, adds_same}
use Rattle.rd_script.proofs.load.push_block.Goals as goal

pub returns-clause-added : goal.returns-clause-added
returns-clause-added c =
    adds_more c.args.lines.now.items c.push.new.lines.items c.push-2.new.lines.items (_ ∷ []) (_ ∷ [])
    (adds_same _ _ c.in_ok-write.write _ c.in_ok-write.ensures c.in_ok-push.ensures.added)
    (adds_same _ _ c.read_line-read.result _ c.read_line-read.ensures c.in_ok-push-2.ensures.added)
