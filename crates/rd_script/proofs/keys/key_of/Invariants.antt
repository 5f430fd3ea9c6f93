use Rattle.std.proofs.Common.{◌≡◌, map, take}
use Rattle.rd_dirinfo.specs.Naming.{seen}
use Rattle.rd_script.proofs.keys.key_of.Given as goal

-- what the naming sees of the names so far
abbrev pub invariant-loop-name : goal.invariant-loop-name
invariant-loop-name l = map (λ name. name.items) l.key.items ≡ map (seen l.naming) (take l.name-index l.path)
