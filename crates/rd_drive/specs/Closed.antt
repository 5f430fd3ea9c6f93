-- The news that a file id is closed and its node stays, as a store tells it.
use Rattle.std.specs.Prelude.{ℕ, [], ◌∷◌, Some, None}
use Rattle.rd_tree.specs.declared.node.NodeId.{NodeId}
use Rattle.rd_drive.specs.declared.news.News as told_news

abbrev pub closed_on : ℕ → NodeId → told_news.News
closed_on file node = record { closed = Some file; unlocked = Some node; changes = None ∷ None ∷ None ∷ [] }
