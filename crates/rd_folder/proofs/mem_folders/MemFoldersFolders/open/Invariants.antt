use Rattle.std.proofs.Common.{◌++◌, ◌∷◌, []}
use Rattle.rd_folder.proofs.mem_folders.MemFoldersFolders.open.Given as goal

-- the nodes of the folders that were opened, and of this one
abbrev pub ghost-becoming : goal.ghost-becoming
ghost-becoming a = a.self.now.items ++ a.from.now ∷ []
