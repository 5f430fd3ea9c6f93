use Rattle.std.proofs.Common.{◌≡◌, ◌∙◌, sym, ap, ◌||◌}
use Rattle.rd_drive.specs.UseCounts.{more}
use Rattle.rd_drive.proofs.close.left.Goals.{then-state, else-state}
use Rattle.rd_drive.proofs.close.left.Goals as goal

pub returns : goal.returns
returns c = λ uses e. λ i. record {
  attributes = c.args.state.attributes;
  moments = c.args.state.moments;
  pending = pending_is i;
  uses = c.remove.ensures uses (e ∙ ap (λ u. more u uses) (sym c.usage.ensures)) i;
}
  where
    pending_is : c.if-state.result ≡ (c.args.state.pending || c.args.handle.now.delete_on_close)
    pending_is = elim c.if-state.branch [
      | then-state w ↦ cc
      | else-state w ↦ cc
    ]
