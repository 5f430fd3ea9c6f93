use Rattle.std.proofs.Common.{◌≡◌, drop}
use Rattle.std.specs.Prelude.{fold}
use Rattle.rd_declared.specs.Declaring.{AreDeclarable}
use Rattle.rd_world.specs.Opening.{AreSettings, first_settings, with_line_setting}
use Rattle.rd_world.proofs.opening.settings_of.Given as goal

-- what the lines so far set
abbrev pub invariant-loop-line : goal.invariant-loop-line
invariant-loop-line l = record {
  same : fold with_line_setting first_settings l.lines ≡ fold with_line_setting l.settings (drop l.line-index l.lines);
  rest : AreDeclarable (drop l.line-index l.lines);
  within : AreSettings l.settings;
}
