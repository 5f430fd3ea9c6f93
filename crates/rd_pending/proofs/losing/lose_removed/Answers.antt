use Rattle.std.proofs.Common.{◌==◌, rules}
use Rattle.rd_base.specs.declared.journal.Cause.TheVariants.{Removed}
use Rattle.std.proofs.lemmas.Map.Made.{map_same_pairs}
use Rattle.rd_pending.specs.Table.{Untaken, lost_where}
use Rattle.rd_pending.proofs.losing.lose_removed.Goals as goal

pub returns : goal.returns
returns c =
    map_same_pairs _ (λ (u : Untaken). (lost_where (λ u. u.device == c.args.device) Removed (0, u)).1) _ (λ k v b w f' t. search rules) _ _ c.retain.ensures.filtered
