use Rattle.std.proofs.Common.{rules, inl, inr, refl}
use Rattle.std.proofs.lemmas.Grind.{common_steps}
use Rattle.rd_folder.proofs.mem_folders.MemFoldersFolders.open.Goals as goal
use Rattle.rd_folder.proofs.mem_folders.MemFoldersFolders.open.Goals.{then-contains-via-then-contains, then-contains-via-else-contains+then-is_empty}

-- It failed because of its number, or because no folder is left.
pub returns-then-contains-clause-fails : goal.returns-then-contains-clause-fails
returns-then-contains-clause-fails c = elim c.then-contains.branch [
  | then-contains-via-then-contains w ↦ (λ _. let h = w.if-contains.true in inl (search rules), λ _. refl)
  | then-contains-via-else-contains+then-is_empty w ↦ (λ _. let h = w.is_empty.ensures in let k = w.if-is_empty.true in inr (search (rules, common_steps)), λ _. refl)
]
