use Rattle.std.proofs.Common.{◌∙◌, sym, ap, ◌==◌, ◌||◌, Bool, not, cond, length, Err, arith}
use Rattle.std.proofs.lemmas.Bool.{ne_eqb}
use Rattle.rd_drive.specs.Access.{deletes, marks, writes}
use Rattle.rd_drive.specs.DriveState.{is_folder_node}
use Rattle.rd_drive.specs.SetFile.{set_checks}
use Rattle.rd_base.specs.Statuses.{access_denied, invalid_device_request}
use Rattle.rd_drive.specs.Store.{drive_of, handle_of}
use Rattle.rd_drive.specs.Kept.{own_node}
use Rattle.rd_drive.proofs.SetLemmas.{gate_none, gate_one, gate_two, granted, no_checks, root_alone}
use Rattle.rd_drive.proofs.store.Store.check_set.Goals as goal

pub returns-in-4 : goal.returns-in-4
returns-in-4 c =
    let s = c.args.self.now in
    let h = c.args.handle.now in
    let node = own_node s h.node.0 in
    let gate = gate_one (drive_of s) (handle_of s.tree h) node c.args.class (not (marks h.access)) access_denied (ap (set_checks (handle_of s.tree h) node) c.in-4.is) c.allowed.result
    (c.allowed.ensures ∙ ap (λ (b : Bool). cond (not b) (Err access_denied) granted) c.marks.ensures) in
    record { ok = gate.0; err = gate.1 }

pub returns-in-10 : goal.returns-in-10
returns-in-10 c =
    let s = c.args.self.now in
    let h = c.args.handle.now in
    let node = own_node s h.node.0 in
    let gate = gate_one (drive_of s) (handle_of s.tree h) node c.args.class (not (deletes h.access) || length node.path == 0) access_denied (ap (set_checks (handle_of s.tree h) node) c.in-10.is) c.check_delete.result
    (c.check_delete.ensures ∙ ap (λ (b : Bool). cond (not (deletes h.access) || b) (Err access_denied) granted) (sym (root_alone s.tree c.requires.sound.whole h.node.0 c.requires.live))) in
    record { ok = gate.0; err = gate.1 }

pub returns-in-13 : goal.returns-in-13
returns-in-13 c =
    let s = c.args.self.now in
    let h = c.args.handle.now in
    let node = own_node s h.node.0 in
    let gate = gate_one (drive_of s) (handle_of s.tree h) node c.args.class (not (deletes h.access) || length node.path == 0) access_denied (ap (set_checks (handle_of s.tree h) node) c.in-13.is) c.check_delete-in-13.result
    (c.check_delete-in-13.ensures ∙ ap (λ (b : Bool). cond (not (deletes h.access) || b) (Err access_denied) granted) (sym (root_alone s.tree c.requires.sound.whole h.node.0 c.requires.live))) in
    record { ok = gate.0; err = gate.1 }

pub returns-in-19 : goal.returns-in-19
returns-in-19 c =
    let s = c.args.self.now in
    let h = c.args.handle.now in
    let node = own_node s h.node.0 in
    let gate = gate_two (drive_of s) (handle_of s.tree h) node c.args.class (is_folder_node node) (not (writes h.access)) invalid_device_request access_denied (ap (set_checks (handle_of s.tree h) node) c.in-19.is) c.check_resize.result c.check_resize.ensures in
    record { ok = gate.0; err = gate.1 }

pub returns-in-20 : goal.returns-in-20
returns-in-20 c =
    let s = c.args.self.now in
    let h = c.args.handle.now in
    let node = own_node s h.node.0 in
    let gate = gate_two (drive_of s) (handle_of s.tree h) node c.args.class (is_folder_node node) (not (writes h.access)) invalid_device_request access_denied (ap (set_checks (handle_of s.tree h) node) c.in-20.is) c.check_resize-in-20.result c.check_resize-in-20.ensures in
    record { ok = gate.0; err = gate.1 }

pub returns-in_default-clause-err : goal.returns-in_default-clause-err
returns-in_default-clause-err c =
    let s = c.args.self.now in
    let h = c.args.handle.now in
    gate_none (drive_of s) (handle_of s.tree h) (own_node s h.node.0) c.args.class
    (no_checks (handle_of s.tree h) (own_node s h.node.0) c.args.class (ne_eqb c.args.class 4 (λ e. omega arith)) (ne_eqb c.args.class 10 (λ e. omega arith)) (ne_eqb c.args.class 13 (λ e. omega arith)) (ne_eqb c.args.class 19 (λ e. omega arith)) (ne_eqb c.args.class 20 (λ e. omega arith)))
