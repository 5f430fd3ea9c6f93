use Rattle.std.proofs.Common.{◌∙◌, ap, false, Option}
use Rattle.std.specs.Option.{option_map_or}
use Rattle.rd_folder.specs.declared.look.Look.{Look}
use Rattle.rd_folder_drive.proofs.AskedLemmas.{folder_told}
use Rattle.rd_folder_drive.proofs.asking.is_folder.Goals as goal

pub returns-in-Ok-Some-clause-ok : goal.returns-in-Ok-Some-clause-ok
returns-in-Ok-Some-clause-ok g c = (
  c.in-Ok-Some.ensures.ok.0,
  λ nodes told. folder_told nodes c.args.path.now c.in-Ok-Some.field-0 (c.in-Ok-Some.ensures.ok.1 nodes told) ∙ ap (λ (found : Option Look). option_map_or (λ (look : Look). look.folder) found false) c.in-Ok-Some.field-0-is,
)

pub returns-in-Ok-None-clause-ok : goal.returns-in-Ok-None-clause-ok
returns-in-Ok-None-clause-ok g c = (
  c.in-Ok-None.ensures.ok.0,
  λ nodes told. folder_told nodes c.args.path.now c.in-Ok-None.field-0 (c.in-Ok-None.ensures.ok.1 nodes told) ∙ ap (λ (found : Option Look). option_map_or (λ (look : Look). look.folder) found false) c.in-Ok-None.field-0-is,
)
