use Rattle.std.proofs.Common.{◌≡◌, ◌∙◌, sym, ap, subst, inl, ℕ, List, Option, Some, None, Err}
use Rattle.rd_dirinfo.specs.Paths.{Names, names_of, parsed_path, path_fault}
use Rattle.rd_drive.specs.Made.{create_at}
use Rattle.rd_drive.specs.Outcome.{Outcome, given}
use Rattle.rd_base.specs.Statuses.{object_name_invalid}
use Rattle.rd_drive.specs.Store.{drive_of, Serves}
use Rattle.rd_drive.proofs.CheckLemmas.{check_applies, check_passed, checks_done, given_none, given_some}
use Rattle.rd_drive.proofs.store.Store.create.Goals as goal

no_path : (units : List ℕ) (at : ℕ) → path_fault units ≡ Some at → parsed_path units ≡ None
no_path units at e = ap (λ (o : Option ℕ). elim o as (λ _. Option Names) [ Some at ↦ None | None ↦ Some (names_of units) ]) e

pub returns-then-is_contradictory : goal.returns-then-is_contradictory
returns-then-is_contradictory c = (c.requires.sound, inl (check_applies (drive_of c.args.self.now) _ _ _ (sym c.is_contradictory.ensures ∙ c.if-is_contradictory.true)))

pub returns-in-Err-Invalid : goal.returns-in-Err-Invalid
returns-in-Err-Invalid c =
    let d = drive_of c.args.self.now in (
      c.requires.sound,
      inl (check_passed d _ _ _ (sym c.is_contradictory.ensures ∙ c.if-is_contradictory.false) ∙ checks_done d _
          ∙ ap (λ (o : Option Names). given d o object_name_invalid (create_at d c.args.moment c.args.asked)) (no_path c.args.units.now c.in-Err-Invalid.field-0-0 ((c.in-Err-Invalid.ensures.invalid c.in-Err-Invalid.field-0-0).0 (ap (λ e. Err e) c.in-Err-Invalid.field-0-is)))
          ∙ given_none d object_name_invalid (create_at d c.args.moment c.args.asked)),
    )

pub returns : goal.returns
returns c =
    let s = c.args.self.now in
    let d = drive_of s in
    subst (λ (comes : Outcome). Serves s c.open_or_make.new.self comes c.open_or_make.result)
    (sym (check_passed d _ _ _ (sym c.is_contradictory.ensures ∙ c.if-is_contradictory.false) ∙ checks_done d _
    ∙ ap (λ (o : Option Names). given d o object_name_invalid (create_at d c.args.moment c.args.asked)) c.in-Ok.ensures.split
    ∙ given_some d c.in-Ok.path object_name_invalid (create_at d c.args.moment c.args.asked)))
    c.open_or_make.ensures
