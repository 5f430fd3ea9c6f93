use Rattle.std.proofs.Common.{◌≡◌, drop}
use Rattle.std.specs.Prelude.{fold}
use Rattle.rd_declared.specs.Devices.{furnishing}
use Rattle.rd_declared.specs.Declaring.{AreDeclarable, bare_lines}
use Rattle.rd_declared.proofs.declaring.furnish_all.Given as goal

-- what the lines so far make
abbrev pub invariant-loop-line : goal.invariant-loop-line
invariant-loop-line l = record {
  same : fold furnishing l.initial.devices.entries (bare_lines l.lines) ≡ fold furnishing l.devices.entries (bare_lines (drop l.line-index l.lines));
  rest : AreDeclarable (drop l.line-index l.lines);
}
