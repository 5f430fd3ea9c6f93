-- What a store keeps is within the limits: the paths of a drive's nodes, and those that the news tells.
use Rattle.std.proofs.Common.{◌≡◌, ◌∙◌, refl, sym, ap, ℕ, Bool, true, false, cond, List, [], ◌∷◌, map, Option, Some, None}
use Rattle.std.specs.List.{AllByRecursion}
use Rattle.std.specs.Option.{is_some, IfSome}
use Rattle.std.specs.Ordering.{is_lt}
use Rattle.rd_dirinfo.specs.declared.naming.Naming.{Naming}
use Rattle.rd_dirinfo.specs.Paths.{path_cmp, is_within_limits}
use Rattle.rd_tree.specs.Places.{Place}
use Rattle.rd_drive.specs.declared.news.Named.{Named}
use Rattle.rd_drive.specs.declared.news.Named.TheVariants as named
use Rattle.rd_drive.specs.declared.news.Change as told
use Rattle.rd_drive.specs.declared.news.News as told_news
use Rattle.rd_drive.specs.declared.store.Store.{Store}
use Rattle.rd_drive.specs.DriveState.{Node, add_node, in_order}
use Rattle.rd_drive.specs.Outcome.{Change}
use Rattle.rd_drive.specs.Store.{node_of, drive_of, changes_of, named_path, news_of, IsHeard, IsSoundBut, IsTold}
use Rattle.rd_drive.specs.Answered.{IsFitting}
use Rattle.rd_drive.proofs.StoreLemmas.{AreListed, all_listed, own_is}

-- what each of some nodes has, each has in their order
module _ (naming : Naming) (P : Node → Type 0) where
  pub all_add : (x : Node) (l : List Node) → P x → AllByRecursion P l → AllByRecursion P (add_node naming x l)
  all_add x [] own all = (own, tt)
  all_add x (y ∷ ys) own all = by (all_add x ys own all.1) (is_lt (path_cmp naming y.path x.path))
    where
      by : AllByRecursion P (add_node naming x ys) → (b : Bool) → AllByRecursion P (cond b (y ∷ add_node naming x ys) (x ∷ y ∷ ys))
      by later true = (all.0, later)
      by later false = (own, all)

  pub order_all : (l : List Node) → AllByRecursion P l → AllByRecursion P (in_order naming l)
  order_all [] all = tt
  order_all (x ∷ xs) all = all_add x (in_order naming xs) all.0 (order_all xs all.1)

module _ (s : Store) (closed : Option ℕ) (sound : IsSoundBut closed s) where
  places_fit : (l : List (ℕ × Place)) → AreListed s.tree sound.whole l → AllByRecursion (λ (node : Node). is_within_limits node.path ≡ true) (map (node_of s.states) l)
  places_fit [] listed = tt
  places_fit (d ∷ l) listed =
      (ap is_within_limits (sym (own_is s.tree sound.whole d.0 d.1 listed.0)) ∙ sound.fitting d.0 (ap is_some listed.0), places_fit l listed.1)

  pub drive_fits : IsFitting (drive_of s)
  drive_fits = record {
    limited = refl;
    label = sound.label;
    paths = order_all s.tree.naming (λ (node : Node). is_within_limits node.path ≡ true) (map (node_of s.states) s.tree.list) (places_fit s.tree.list (all_listed s.tree sound.whole));
  }

  told_fits : (n : Named) → IsTold s.tree n → is_within_limits (named_path s.tree n) ≡ true
  told_fits (named.Node node) there = sound.fitting node.0 there
  told_fits (named.Gone folder name) there = there.1

  changes_fit : (changes : List (Option told.Change)) → AllByRecursion (λ (change : Option told.Change). IfSome change (λ (c : told.Change). IsTold s.tree c.named)) changes
      → AllByRecursion (λ (c : Change). is_within_limits c.path ≡ true) (changes_of s.tree changes)
  changes_fit [] heard = tt
  changes_fit (None ∷ changes) heard = changes_fit changes heard.1
  changes_fit (Some change ∷ changes) heard = (told_fits change.named heard.0, changes_fit changes heard.1)

  pub news_fits : (news : told_news.News) → IsHeard s.tree news → AllByRecursion (λ (c : Change). is_within_limits c.path ≡ true) (news_of s.tree news).changes
  news_fits news heard = changes_fit news.changes heard.1
