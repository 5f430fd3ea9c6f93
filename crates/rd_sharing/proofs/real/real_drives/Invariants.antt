use Rattle.std.proofs.Common.{◌≡◌, [], drop}
use Rattle.std.specs.Prelude.{fold}
use Rattle.std.specs.List.{AllByRecursion}
use Rattle.rd_declared.specs.Declaring.{bare_lines}
use Rattle.rd_sharing.specs.FolderLines.{IsFolderDevice, declaring_folder}
use Rattle.rd_sharing.proofs.real.real_drives.Given as goal

-- what the lines so far declare
abbrev pub invariant-loop-line : goal.invariant-loop-line
invariant-loop-line l = record {
  same : fold declaring_folder [] (bare_lines l.lines) ≡ fold declaring_folder l.drives.entries (bare_lines (drop l.line-index l.lines));
  are : AllByRecursion IsFolderDevice l.drives.entries;
}
