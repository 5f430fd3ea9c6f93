use Rattle.std.proofs.Common.{◌≡◌, [], drop}
use Rattle.std.specs.Prelude.{fold}
use Rattle.rd_declared.specs.Devices.{declaring}
use Rattle.rd_declared.specs.Declaring.{AreDeclarable, bare_lines}
use Rattle.rd_declared.proofs.declaring.declare_all.Given as goal

-- what the lines so far declare
abbrev pub invariant-loop-line : goal.invariant-loop-line
invariant-loop-line l = record {
  same : fold declaring [] (bare_lines l.lines) ≡ fold declaring l.devices.entries (bare_lines (drop l.line-index l.lines));
  rest : AreDeclarable (drop l.line-index l.lines);
}
