use Rattle.std.proofs.Common.{◌≡◌, ◌||◌}
use Rattle.rd_folder_drive.proofs.open.Open.lose_use.Goals.{then-self, else-self}
use Rattle.rd_folder_drive.proofs.open.Open.lose_use.Goals as goal

pub returns : goal.returns
returns c = λ uses e. λ i. record {
  path = (c.args.self.now).path;
  folder = (c.args.self.now).folder;
  pending = pending_is i;
  uses = c.remove.ensures uses e i;
}
  where
    pending_is : c.if-self.self ≡ ((c.args.self.now).pending || c.args.pending)
    pending_is = elim c.if-self.branch [
      | then-self w ↦ cc
      | else-self w ↦ cc
    ]
