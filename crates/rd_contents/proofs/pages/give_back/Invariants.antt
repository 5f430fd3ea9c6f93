use Rattle.std.proofs.Common.{◌≡◌, ◌<◌, ℕ, btree_map_len}
use Rattle.rd_contents.specs.Pages.{kept_page}
use Rattle.rd_contents.proofs.pages.give_back.Given as goal

abbrev pub invariant-loop-pages : goal.invariant-loop-pages
invariant-loop-pages l = (k : ℕ) → k < l.first → kept_page l.pages.entries k ≡ kept_page l.initial.pages.entries k

abbrev pub decreases-loop-pages : goal.decreases-loop-pages
decreases-loop-pages l = btree_map_len l.pages
