use Rattle.std.proofs.Common.{◌≡◌, ◌∙◌, refl, sym, subst, ℕ, inl, false, true, [], Option, Some, None}
use Rattle.std.specs.Option.{option_copied, option_map, IfSome}
use Rattle.std.proofs.Common.{Bor}
use Rattle.rd_base.specs.declared.items.Items.{Items}
use Rattle.rd_dirinfo.specs.Naming.{Name}
use Rattle.rd_tree.specs.Places.{is_folder, own_path}
use Rattle.rd_drive.specs.declared.handle.Handle as open_file
use Rattle.rd_drive.specs.declared.query_dir.Listed.{Listed}
use Rattle.rd_drive.specs.QueryDir.{query_dir}
use Rattle.rd_drive.specs.Relisted.{Finds}
use Rattle.rd_drive.specs.Store.{drive_of, kept_handle}
use Rattle.rd_drive.proofs.DirLemmas.{folder_number, on_none, on_some}
use Rattle.rd_drive.proofs.HandleLemmas.{unopened}
use Rattle.rd_drive.proofs.store.Store.list_on.Goals as goal

-- a reference's value, in either word
copied : (o : Option (Bor (Items ℕ))) → option_map (λ other. other.now) o ≡ option_copied o
copied None = refl
copied (Some x) = refl

pub returns-in_default : goal.returns-in_default
returns-in_default c =
    let s = c.args.self.now in
    (c.requires.sound, inl (unopened s c.args.file (query_dir (drive_of s) c.args.file c.args.class false []) (sym c.in_default.ensures)))

pub returns-in-Ok-None : goal.returns-in-Ok-None
returns-in-Ok-None c =
    let s = c.args.self.now in
    let h = c.in-Some.handle.now in
    let there : kept_handle s c.args.file ≡ Some h = sym c.in-Some.ensures in
    let folder = subst (λ (o : Option open_file.Handle). IfSome o (λ (x : open_file.Handle). is_folder s.tree x.node.0 ≡ Some true)) there c.requires.folder in
    let found = subst (λ (o : Option Listed). Finds (drive_of s) (own_path s.tree h.node.0) h.pattern (option_map (λ other. other.now) c.as_ref.result) c.args.class o) c.in-Ok-None.field-0-is c.in-Ok-None.ensures in
    let finds = subst (λ (l : Option Name). Finds (drive_of s) (own_path s.tree h.node.0) h.pattern l c.args.class None) (copied c.as_ref.result ∙ c.as_ref.ensures.value) found in
    on_none s c.requires.sound c.args.file h there c.args.class (folder_number s.tree h.node.0 folder) c.requires.class finds

pub returns-in-Ok-Some : goal.returns-in-Ok-Some
returns-in-Ok-Some c =
    let s = c.args.self.now in
    let h = c.in-Some.handle.now in
    let there : kept_handle s c.args.file ≡ Some h = sym c.in-Some.ensures in
    let folder = subst (λ (o : Option open_file.Handle). IfSome o (λ (x : open_file.Handle). is_folder s.tree x.node.0 ≡ Some true)) there c.requires.folder in
    let found : Listed = c.in-Ok-Some.field-0-0 in
    let as_found : c.in-Ok-Some.field-0 ≡ Some found = c.in-Ok-Some.field-0-is in
    let finds_it = subst (λ (o : Option Listed). Finds (drive_of s) (own_path s.tree h.node.0) h.pattern (option_map (λ other. other.now) c.as_ref.result) c.args.class o) as_found c.in-Ok-Some.ensures in
    let finds = subst (λ (l : Option Name). Finds (drive_of s) (own_path s.tree h.node.0) h.pattern l c.args.class (Some found)) (copied c.as_ref.result ∙ c.as_ref.ensures.value) finds_it in
    on_some s c.requires.sound c.args.file h there c.args.class (folder_number s.tree h.node.0 folder) c.requires.class c.set_last.new.self found finds (c.set_last.ensures h there) c.none.result c.none.ensures
