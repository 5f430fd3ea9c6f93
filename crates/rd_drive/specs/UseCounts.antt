-- How the counts of a node's uses change with a handle.
use Rattle.std.specs.Prelude.{ℕ, ◌+◌, ◌&&◌, ◌||◌, Bool, not, nat_lt, if◌then◌else◌}
use Rattle.rd_drive.specs.declared.access.Use.{Use}
use Rattle.rd_drive.specs.declared.uses.Uses.{Uses}
use Rattle.rd_drive.specs.Access.{is_using, has_any, share_read, share_write, share_delete}

-- 1 for true
abbrev pub one_if : Bool → ℕ
one_if holds = if holds then 1 else 0

-- the counts with one use more
abbrev pub more : Use → Uses → Uses
more u counts = record {
  handles = counts.handles + 1;
  reading = counts.reading + one_if u.is_reading;
  writing = counts.writing + one_if u.is_writing;
  deleting = counts.deleting + one_if u.is_deleting;
  unshared_reading = counts.unshared_reading + one_if (is_using u && not (has_any share_read u.share));
  unshared_writing = counts.unshared_writing + one_if (is_using u && not (has_any share_write u.share));
  unshared_deleting = counts.unshared_deleting + one_if (is_using u && not (has_any share_delete u.share));
}

-- whether some counted use doesn't share what a use does
abbrev pub is_use_unshared : Use → Uses → Bool
is_use_unshared u counts =
    (u.is_reading && nat_lt 0 counts.unshared_reading)
    || (u.is_writing && nat_lt 0 counts.unshared_writing)
    || (u.is_deleting && nat_lt 0 counts.unshared_deleting)

-- whether a use doesn't share what some counted use does
abbrev pub is_use_unsharing : Use → Uses → Bool
is_use_unsharing u counts =
    (nat_lt 0 counts.reading && not (has_any share_read u.share))
    || (nat_lt 0 counts.writing && not (has_any share_write u.share))
    || (nat_lt 0 counts.deleting && not (has_any share_delete u.share))

-- whether a use clashes with a counted one
abbrev pub is_clashing : Use → Uses → Bool
is_clashing u counts = is_using u && (is_use_unshared u counts || is_use_unsharing u counts)
