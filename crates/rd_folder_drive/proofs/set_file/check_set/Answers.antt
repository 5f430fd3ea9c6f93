use Rattle.std.proofs.Common.{◌∙◌, ap, ◌==◌, ◌||◌, Bool, not, cond, length, Err, refl, arith}
use Rattle.std.proofs.lemmas.Bool.{ne_eqb}
use Rattle.rd_base.specs.Statuses.{access_denied, invalid_device_request}
use Rattle.rd_dirinfo.specs.Paths.{Names}
use Rattle.rd_drive.specs.Access.{deletes, marks, writes}
use Rattle.rd_drive.specs.SetFile.{set_checks}
use Rattle.rd_drive.proofs.SetLemmas.{gate_none, granted, no_checks}
use Rattle.rd_folder_drive.specs.Table.{handle_of}
use Rattle.rd_folder_drive.proofs.SetLemmas.{open_one, open_two, own_one, own_two}
use Rattle.rd_folder_drive.proofs.set_file.check_set.Goals as goal

pub returns-in-4 : goal.returns-in-4
returns-in-4 c =
    let h = c.args.handle.now in
    let is = c.allowed.ensures ∙ ap (λ (b : Bool). cond (not b) (Err access_denied) granted) c.marks.ensures in
    let gate = open_one h c.args.opened.now c.args.class (λ (p : Names). not (marks h.access)) access_denied (λ t node. ap (set_checks (handle_of t h) node) c.in-4.is) c.allowed.result is in
    record { ok = gate.0; err = gate.1; own = own_one (not (marks h.access)) access_denied (refl, refl) c.allowed.result is }

pub returns-in-10 : goal.returns-in-10
returns-in-10 c =
    let h = c.args.handle.now in
    let o = c.args.opened.now in
    let gate = open_one h o c.args.class (λ (p : Names). not (deletes h.access) || length p == 0) access_denied (λ t node. ap (set_checks (handle_of t h) node) c.in-10.is) c.check_delete.result c.check_delete.ensures in
    record { ok = gate.0; err = gate.1; own = own_one (not (deletes h.access) || length o.path == 0) access_denied (refl, refl) c.check_delete.result c.check_delete.ensures }

pub returns-in-13 : goal.returns-in-13
returns-in-13 c =
    let h = c.args.handle.now in
    let o = c.args.opened.now in
    let gate = open_one h o c.args.class (λ (p : Names). not (deletes h.access) || length p == 0) access_denied (λ t node. ap (set_checks (handle_of t h) node) c.in-13.is) c.check_delete-in-13.result c.check_delete-in-13.ensures in
    record { ok = gate.0; err = gate.1; own = own_one (not (deletes h.access) || length o.path == 0) access_denied (refl, refl) c.check_delete-in-13.result c.check_delete-in-13.ensures }

pub returns-in-19 : goal.returns-in-19
returns-in-19 c =
    let h = c.args.handle.now in
    let o = c.args.opened.now in
    let gate = open_two h o c.args.class (not (writes h.access)) invalid_device_request access_denied (λ t node. ap (set_checks (handle_of t h) node) c.in-19.is) c.check_resize.result c.check_resize.ensures in
    record { ok = gate.0; err = gate.1; own = own_two o.folder (not (writes h.access)) invalid_device_request access_denied (refl, refl) (refl, refl) c.check_resize.result c.check_resize.ensures }

pub returns-in-20 : goal.returns-in-20
returns-in-20 c =
    let h = c.args.handle.now in
    let o = c.args.opened.now in
    let gate = open_two h o c.args.class (not (writes h.access)) invalid_device_request access_denied (λ t node. ap (set_checks (handle_of t h) node) c.in-20.is) c.check_resize-in-20.result c.check_resize-in-20.ensures in
    record { ok = gate.0; err = gate.1; own = own_two o.folder (not (writes h.access)) invalid_device_request access_denied (refl, refl) (refl, refl) c.check_resize-in-20.result c.check_resize-in-20.ensures }

pub returns-in_default-clause-err : goal.returns-in_default-clause-err
returns-in_default-clause-err c = λ t s node at kind.
    gate_none s (handle_of t c.args.handle.now) node c.args.class
    (no_checks (handle_of t c.args.handle.now) node c.args.class (ne_eqb c.args.class 4 (λ e. omega arith)) (ne_eqb c.args.class 10 (λ e. omega arith)) (ne_eqb c.args.class 13 (λ e. omega arith)) (ne_eqb c.args.class 19 (λ e. omega arith)) (ne_eqb c.args.class 20 (λ e. omega arith)))
