use Rattle.std.proofs.Common.{◌≡◌, ◌∙◌, sym, ap, subst, ◌≤◌, length, List, ℕ, ◌++◌, true, Option}
use Rattle.std.specs.Option.{IfSome}
use Rattle.rd_folder.specs.declared.look.Listed.{Listed}
use Rattle.rd_dirinfo.specs.declared.entry.Entry.{Entry}
use Rattle.rd_dirinfo.specs.Entry.{entry_bytes}
use Rattle.rd_dirinfo.specs.Paths.{is_name}
use Rattle.rd_irp.specs.Fits.{max_buffer}
use Rattle.rd_drive.proofs.LengthLemmas.{entry_length}
use Rattle.rd_folder_drive.proofs.DirLemmas.{name_short}
use Rattle.rd_folder_drive.proofs.query_dir.listed.Goals as goal

pub returns-in-Ok-put_entry-clause-short : goal.returns-in-Ok-put_entry-clause-short
returns-in-Ok-put_entry-clause-short g c =
    let entry : Entry = record {
      moments = (c.in-Ok-Some.found).look.moments;
      end = (c.in-Ok-Some.found).look.end;
      allocation = c.allocation_for.result;
      attributes = c.shown_attributes.result;
      name = (c.in-Ok-Some.found).name;
    } in
    subst (λ (l : List ℕ). length l ≤ max_buffer) (sym (c.of.ensures ∙ c.in-Ok-put_entry.ensures.bytes ∙ ap (λ (l : List ℕ). l ++ entry_bytes c.args.class entry) c.requires.room))
    (entry_length c.args.class entry (name_short c.in-Ok-Some.found.name (subst (λ (found : Option Listed). IfSome found (λ (listed : Listed). is_name listed.name ≡ true)) c.in-Ok-Some.field-0-is c.in-Ok-Some.ensures.name)))
