use Rattle.std.proofs.Common.{◌≡◌, refl, sym, ap, subst, ℕ, inl, true, List, Option, Some, None, Err}
use Rattle.std.specs.Option.{IfSome}
use Rattle.rd_dirinfo.specs.Patterns.{pattern_fault}
use Rattle.rd_dirinfo.specs.declared.path.PathNo.{PathNo}
use Rattle.rd_tree.specs.Places.{is_folder, own_path}
use Rattle.rd_drive.specs.declared.handle.Handle as open_file
use Rattle.rd_drive.specs.declared.query_dir.Listed.{Listed}
use Rattle.rd_drive.specs.QueryDir.{query_dir}
use Rattle.rd_drive.specs.Relisted.{Finds, Relists}
use Rattle.rd_drive.specs.Store.{drive_of, kept_handle}
use Rattle.rd_drive.proofs.DirLemmas.{anew_invalid, anew_none, anew_some, folder_number}
use Rattle.rd_drive.proofs.HandleLemmas.{unopened}
use Rattle.rd_drive.proofs.store.Store.list_anew.Goals as goal

-- what isn't somewhere is nowhere
nowhere : (o : Option ℕ) → ((at : ℕ) → o ≡ Some at → ⊥) → o ≡ None
nowhere None not_there = refl
nowhere (Some at) not_there = absurd (not_there at refl)

pub returns-in_default : goal.returns-in_default
returns-in_default c =
    let s = c.args.self.now in
    (c.requires.sound, inl (unopened s c.args.file (query_dir (drive_of s) c.args.file c.args.class true c.args.units.now) (sym c.in_default.ensures)))

pub returns-in-Err-Invalid : goal.returns-in-Err-Invalid
returns-in-Err-Invalid c =
    let s = c.args.self.now in
    let h = c.in-Some.handle.now in
    let there : kept_handle s c.args.file ≡ Some h = sym c.in-Some.ensures in
    let folder = subst (λ (o : Option open_file.Handle). IfSome o (λ (x : open_file.Handle). is_folder s.tree x.node.0 ≡ Some true)) there c.requires.folder in
    (c.requires.sound, inl (anew_invalid s c.requires.sound c.args.file h there c.args.class (folder_number s.tree h.node.0 folder) c.requires.class c.args.units.now c.in-Err-Invalid.field-0-0 ((c.in-Err-Invalid.ensures.invalid c.in-Err-Invalid.field-0-0).0 (ap (λ (no : PathNo). Err no) c.in-Err-Invalid.field-0-is))))

pub returns-in-Ok-None : goal.returns-in-Ok-None
returns-in-Ok-None c =
    let s = c.args.self.now in
    let h = c.in-Some.handle.now in
    let there : kept_handle s c.args.file ≡ Some h = sym c.in-Some.ensures in
    let folder = subst (λ (o : Option open_file.Handle). IfSome o (λ (x : open_file.Handle). is_folder s.tree x.node.0 ≡ Some true)) there c.requires.folder in
    let good = nowhere (pattern_fault c.args.units.now) (λ at e. absurd (let no = (c.in-Ok.ensures.invalid at).1 e in cc)) in
    let finds = subst (λ (p : List ℕ). Finds (drive_of s) (own_path s.tree h.node.0) p None c.args.class None) c.in-Ok.ensures.pattern (subst (λ (o : Option Listed). Finds (drive_of s) (own_path s.tree h.node.0) c.in-Ok.pattern None c.args.class o) c.in-Ok-None.field-0-is c.in-Ok-None.ensures) in
    let relists = subst (λ (p : List ℕ). Relists s c.args.file h p None c.set_listing.new.self) c.in-Ok.ensures.pattern (c.set_listing.ensures h there) in
    anew_none s c.requires.sound c.args.file h there c.args.class (folder_number s.tree h.node.0 folder) c.requires.class c.set_listing.new.self c.args.units.now good finds relists

pub returns-in-Ok-Some : goal.returns-in-Ok-Some
returns-in-Ok-Some c =
    let s = c.args.self.now in
    let h = c.in-Some.handle.now in
    let there : kept_handle s c.args.file ≡ Some h = sym c.in-Some.ensures in
    let folder = subst (λ (o : Option open_file.Handle). IfSome o (λ (x : open_file.Handle). is_folder s.tree x.node.0 ≡ Some true)) there c.requires.folder in
    let good = nowhere (pattern_fault c.args.units.now) (λ at e. absurd (let no = (c.in-Ok.ensures.invalid at).1 e in cc)) in
    let found : Listed = c.in-Ok-Some.field-0-0 in
    let as_found : c.in-Ok-Some.field-0 ≡ Some found = c.in-Ok-Some.field-0-is in
    let finds = subst (λ (p : List ℕ). Finds (drive_of s) (own_path s.tree h.node.0) p None c.args.class (Some found)) c.in-Ok.ensures.pattern (subst (λ (o : Option Listed). Finds (drive_of s) (own_path s.tree h.node.0) c.in-Ok.pattern None c.args.class o) as_found c.in-Ok-Some.ensures) in
    let relists = subst (λ (p : List ℕ). Relists s c.args.file h p (Some found.name) c.set_listing-in-Ok-Some.new.self) c.in-Ok.ensures.pattern (c.set_listing-in-Ok-Some.ensures h there) in
    anew_some s c.requires.sound c.args.file h there c.args.class (folder_number s.tree h.node.0 folder) c.requires.class c.set_listing-in-Ok-Some.new.self c.args.units.now good found finds relists c.none.result c.none.ensures
