use Rattle.std.proofs.Common.{◌≡◌, ◌∙◌, sym, inl, Some}
use Rattle.rd_drive.specs.QueryDir.{query_dir}
use Rattle.rd_drive.specs.Store.{drive_of, kept_handle}
use Rattle.rd_drive.proofs.DirLemmas.{dir_class, dir_file}
use Rattle.rd_drive.proofs.HandleLemmas.{unopened}
use Rattle.rd_drive.proofs.store.Store.query_dir.Goals as goal

pub returns-in_default : goal.returns-in_default
returns-in_default c =
    let s = c.args.self.now in
    (c.requires.sound, inl (unopened s c.args.file (query_dir (drive_of s) c.args.file c.args.class c.args.initial c.args.units.now) (sym c.in_default.ensures)))

pub returns-then-not-is_folder : goal.returns-then-not-is_folder
returns-then-not-is_folder c =
    let s = c.args.self.now in
    let h = c.in-Some.handle.now in
    let there : kept_handle s c.args.file ≡ Some h = sym c.in-Some.ensures in
    (c.requires.sound, inl (dir_file s c.requires.sound c.args.file h there c.args.class c.args.initial c.args.units.now (sym c.is_folder.ensures.bytes ∙ c.if-not-is_folder.true)))

pub returns-then-not-is_entry_class : goal.returns-then-not-is_entry_class
returns-then-not-is_entry_class c =
    let s = c.args.self.now in
    let h = c.in-Some.handle.now in
    let there : kept_handle s c.args.file ≡ Some h = sym c.in-Some.ensures in
    (c.requires.sound, inl (dir_class s c.requires.sound c.args.file h there c.args.class c.args.initial c.args.units.now (sym c.is_folder.ensures.bytes ∙ c.if-not-is_folder.false) (sym c.is_entry_class.ensures ∙ c.if-not-is_entry_class.true)))
