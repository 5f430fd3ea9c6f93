-- What the parser of the words knows: the commands that are one word.
use Rattle.std.specs.Prelude.{◌≡◌, ℕ, true, List, Option, Some, codes}
use Rattle.clap.specs.Words.{App, new_app, with_subcommand}
use Rattle.rd_cli.specs.declared.words.Command.{Command}
use Rattle.rd_cli.specs.declared.words.Command.TheVariants as command

-- the name is this command's, where it is one word
abbrev pub IsNameOf : Option (List ℕ) → Command → Type 0
IsNameOf name command.Both = name ≡ Some (codes "both")
IsNameOf name command.Trace = name ≡ Some (codes "trace")
IsNameOf name command.Decode = name ≡ Some (codes "decode")
IsNameOf name command.Audit = name ≡ Some (codes "audit")
IsNameOf name (command.Load number) = ⊥
IsNameOf name (command.Client path) = ⊥
IsNameOf name (command.Host path) = ⊥

-- no command
abbrev pub no_command : App
no_command = let none = new_app (codes "rdr") in record none {
  top = record none.top { no_binary_name = true; disable_help_flag = true; disable_help_subcommand = true; subcommand_required = true };
}

-- and one more
abbrev pub with_command : App → List ℕ → App
with_command app name = with_subcommand app (new_app name).top

-- each command of one word
abbrev pub commands : App
commands = with_command (with_command (with_command (with_command no_command (codes "both")) (codes "trace")) (codes "decode")) (codes "audit")
