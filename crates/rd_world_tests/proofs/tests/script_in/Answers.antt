use Rattle.std.proofs.Common.{◌≡◌, ℕ, List, subst, Result, Ok}
use Rattle.std.specs.Prelude.{IfOk}
use Rattle.rd_script.specs.Script.{script_of}
use Rattle.rd_script.specs.declared.keyword.Mode.TheVariants as mode
use Rattle.rd_script.specs.declared.script.Script.{Script}
use Rattle.rd_declared.proofs.DeclaredLemmas.{scripts_are_declared, scripts_are_notable}
use Rattle.rd_world.proofs.NumberedLemmas.{scripts_are_numbered}
use Rattle.rd_world_tests.proofs.tests.script_in.Goals as goal

-- what was read is the script of the text
read : {E : Type 0} (text : List ℕ) (r : Result Script E) (script : Script) → r ≡ Ok script → IfOk r (λ s. script_of mode.Both text ≡ Ok s) → script_of mode.Both text ≡ Ok script
read text r script is of = subst (λ r. IfOk r (λ s. script_of mode.Both text ≡ Ok s)) is of

pub returns-clause-declared : goal.returns-clause-declared
returns-clause-declared g c =
    scripts_are_declared mode.Both c.args.text.now c.expect.result (read c.args.text.now c.read_script.result c.expect.result c.expect.ensures c.read_script.ensures.script)

pub returns-clause-numbered : goal.returns-clause-numbered
returns-clause-numbered g c =
    scripts_are_numbered mode.Both c.args.text.now c.expect.result (read c.args.text.now c.read_script.result c.expect.result c.expect.ensures c.read_script.ensures.script)

pub returns-clause-notable : goal.returns-clause-notable
returns-clause-notable g c =
    scripts_are_notable mode.Both c.args.text.now c.expect.result (read c.args.text.now c.read_script.result c.expect.result c.expect.ensures c.read_script.ensures.script)
