use Rattle.std.proofs.Common.{◌≡◌, take}
use Rattle.rd_world.proofs.finishing.documents_of.Given as goal

-- the documents so far were copied
abbrev pub invariant-loop-document : goal.invariant-loop-document
invariant-loop-document l = l.documents.items ≡ take l.document-index l.document-items
