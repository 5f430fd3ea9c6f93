-- A node is made, before any folder has it; and what the parts of a result say.
use Rattle.std.proofs.Common.{◌≡◌, ◌∙◌, sym, ap, ℕ, ⊎_elim, Bool, true, false, if◌then◌else◌, List, [], Some, None, Result, Ok, Err}
use Rattle.std.specs.Result.{OnOk, OnErr, is_err}
use Rattle.std.specs.BTreeMap.{is_at}
use Rattle.std.specs.Map.{lookup}
use Rattle.std.proofs.lemmas.Bool.{cases_eq}
use Rattle.slab.specs.Slab.{Slab, get, Updates}
use Rattle.rd_tree.specs.declared.node.Node.{Node}
use Rattle.rd_tree.specs.Walk.{Key}
use Rattle.rd_tree.specs.Nodes.{child_of, link_of, file_of, node_bytes, to_kept}
use Rattle.rd_tree.proofs.NodeLemmas.{child_of-at, child_of-none, child_of-same, link_of-at, link_of-same, file_of-at, file_of-same}

module _ (old new : Slab Node) (m : ℕ) (node : Node) (was : get old m ≡ None) (updates : Updates old new m (Some node)) where
  pub made_child : node.children.entries ≡ [] → (n : ℕ) (x : Key) → child_of new n x ≡ child_of old n x
  made_child empty n x = ⊎_elim
      (λ e. ap (λ k. child_of new k x) e ∙ child_of-at new m node x updates.changed ∙ ap (lookup (is_at (to_kept x))) empty ∙ sym (child_of-none old m x was) ∙ ap (λ k. child_of old k x) (sym e))
      (λ not. child_of-same old new n x (updates.others n not)) (cases_eq n m)

  pub made_link : (0 ≡ m → ⊥) → link_of new m ≡ Some (node.parent, node.name)
  made_link other = link_of-at new m node other updates.changed

  pub made_links : (n : ℕ) → (n ≡ m → ⊥) → link_of new n ≡ link_of old n
  made_links n not = link_of-same old new n (updates.others n not)

  pub made_file : file_of new m ≡ Some (node_bytes node)
  made_file = file_of-at new m node updates.changed

  pub made_files : (n : ℕ) → (n ≡ m → ⊥) → file_of new n ≡ file_of old n
  made_files n not = file_of-same old new n (updates.others n not)

pub no_bytes : (folder : Bool) (contents : List ℕ) → contents ≡ [] → (if folder then None else Some contents) ≡ (if folder then None else Some [])
no_bytes folder contents e = ap (λ (c : List ℕ). if folder then None else Some c) e

pub err_of : {T E P : Type 0} (r : Result T E) → is_err r ≡ true → OnErr r P → P
err_of (Ok v) e p = absurd (cc)
err_of (Err v) e p = p

pub ok_of : {T E P : Type 0} (r : Result T E) → is_err r ≡ false → OnOk r P → P
ok_of (Ok v) e p = p
ok_of (Err v) e p = absurd (cc)
