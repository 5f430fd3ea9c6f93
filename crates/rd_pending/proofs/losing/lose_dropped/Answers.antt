use Rattle.std.proofs.Common.{rules, true}
use Rattle.rd_base.specs.declared.journal.Cause.TheVariants.{Dropped}
use Rattle.std.proofs.lemmas.Map.Made.{map_same_pairs}
use Rattle.rd_pending.specs.Table.{Untaken, lost_where}
use Rattle.rd_pending.proofs.losing.lose_dropped.Goals as goal

pub returns : goal.returns
returns c =
    map_same_pairs _ (λ (u : Untaken). (lost_where (λ u. true) Dropped (0, u)).1) _ (λ k v b w f' t. search rules) _ _ c.retain.ensures.filtered
