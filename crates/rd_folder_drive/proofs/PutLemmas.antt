-- What is open stays among the nodes where one of them changes.
use Rattle.std.proofs.Common.{◌≡◌, ◌∙◌, sym, ap, inl, inr, Bool, true, cond, List, Some}
use Rattle.std.proofs.lemmas.Bool.{cases_Bool}
use Rattle.rd_dirinfo.specs.Paths.{Names}
use Rattle.rd_dirinfo.specs.declared.naming.Naming.TheVariants.{Exact}
use Rattle.rd_drive.specs.DriveState.{Node, is_at_path, is_folder_node}
use Rattle.rd_folder.specs.FolderCalls.{node_there, with_put}
use Rattle.rd_folder.specs.InMemory.{IsSamePlace}
use Rattle.rd_folder.proofs.ExactLemmas.{same_exact}
use Rattle.rd_folder.proofs.HasLemmas.{Has, find_has, map_has, one_at, there_is}
use Rattle.rd_folder.proofs.MapLemmas.{put_map}
use Rattle.rd_folder_drive.specs.declared.table.Table.{Table}
use Rattle.rd_folder_drive.specs.Table.{HasNodes, IsNodeOf}

module _ (t : Table) (nodes : List Node) (holds : HasNodes t nodes) (path : Names) (old new : Node) (there : node_there nodes path ≡ Some old) (same : IsSamePlace old new) where
  has_old : Has nodes old
  has_old = (find_has (is_at_path Exact path) nodes old there).0

  change : Node → Node
  change other = cond (is_at_path Exact new.path other) new other

  -- a node and what it becomes are alike
  path_kept : (x : Node) → (change x).path ≡ x.path
  unfolding change
  path_kept x = elim (cases_Bool (is_at_path Exact new.path x)) [
    | inl at ↦ ap (λ (b : Bool). (cond b new x).path) at ∙ sym (same_exact x.path new.path at)
    | inr off ↦ ap (λ (b : Bool). (cond b new x).path) off
  ]

  kind_kept : (x : Node) → Has nodes x → is_folder_node (change x) ≡ is_folder_node x
  unfolding change
  kind_kept x has = elim (cases_Bool (is_at_path Exact new.path x)) [
    | inl at ↦ ap (λ (b : Bool). is_folder_node (cond b new x)) at ∙ same.1 ∙ ap is_folder_node (sym (one_at nodes holds.map.rises x old has has_old (same_exact x.path new.path at ∙ same.0)))
    | inr off ↦ ap (λ (b : Bool). is_folder_node (cond b new x)) off
  ]

  pub put_holds : HasNodes t (with_put nodes new)
  unfolding change
  put_holds = record {
    map = put_map nodes holds.map old new has_old same;
    there = λ n o on.
        let was : (node : Node) × (node_there nodes o.path ≡ Some node) × IsNodeOf o node = holds.there n o on in
        let found : Has nodes was.0 × (is_at_path Exact o.path was.0 ≡ true) = find_has (is_at_path Exact o.path) nodes was.0 was.1 in (
          change was.0,
          there_is (with_put nodes new) (put_map nodes holds.map old new has_old same).rises (change was.0) (map_has change nodes was.0 found.0) o.path (path_kept was.0 ∙ same_exact (was.0).path o.path found.1),
          kind_kept was.0 found.0 ∙ was.2,
        );
  }
