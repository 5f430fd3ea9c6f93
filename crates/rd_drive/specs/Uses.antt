-- How many handles of a node make which use of it.
use Rattle.std.specs.Prelude.{◌&&◌, not, List, length, count_by}
use Rattle.rd_drive.specs.declared.access.Use.{Use}
use Rattle.rd_drive.specs.declared.uses.Uses.{Uses}
use Rattle.rd_drive.specs.Access.{is_using, has_any, share_read, share_write, share_delete}

-- the counts of the uses of a node's handles
abbrev pub uses_of : List Use → Uses
uses_of uses = record {
  handles = length uses;
  reading = count_by (λ (u : Use). u.is_reading) uses;
  writing = count_by (λ (u : Use). u.is_writing) uses;
  deleting = count_by (λ (u : Use). u.is_deleting) uses;
  unshared_reading = count_by (λ (u : Use). is_using u && not (has_any share_read u.share)) uses;
  unshared_writing = count_by (λ (u : Use). is_using u && not (has_any share_write u.share)) uses;
  unshared_deleting = count_by (λ (u : Use). is_using u && not (has_any share_delete u.share)) uses;
}
