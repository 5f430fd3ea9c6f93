use Rattle.std.proofs.Common.{◌≡◌, ◌∙◌, refl, sym, ap, subst, inl, ℕ, Bool, true, false, cond, not, ◌&&◌, List, Result, Ok, Err, Option}
use Rattle.std.specs.Prelude.{nat_lt}
use Rattle.std.specs.Option.{option_and_then, is_some}
use Rattle.rd_tree.specs.declared.refusal.NotEmpty.{NotEmpty}
use Rattle.rd_tree.specs.Places.{Place, Places, has_child}
use Rattle.rd_drive.specs.declared.node.NodeState.{NodeState}
use Rattle.rd_drive.specs.declared.store.Store.{Store}
use Rattle.rd_drive.specs.declared.store.Done.{Done}
use Rattle.rd_drive.specs.Close.{close}
use Rattle.rd_drive.specs.Kept.{IsKept}
use Rattle.rd_drive.specs.Outcome.{on_handle}
use Rattle.rd_drive.specs.Uses.{uses_of}
use Rattle.rd_drive.specs.Store.{drive_of, uses_on, Serves}
use Rattle.rd_drive.proofs.HandleLemmas.{opened_place, unopened}
use Rattle.rd_drive.proofs.CloseLemmas.{left_is, not_root, rest, serves_filled, serves_gone, serves_stays, uses_before}
use Rattle.rd_drive.proofs.store.Store.close.Goals as goal

pub returns-in_default-clause-serves : goal.returns-in_default-clause-serves
returns-in_default-clause-serves c = (c.requires.sound, inl (unopened c.args.self.now c.args.file (close (drive_of c.args.self.now) c.args.file) (sym c.in_default.ensures)))

pub left-state-requires : goal.left-state-requires
left-state-requires c =
    let s = c.args.self.now in
    let h = c.in-Some.handle.now in (
      uses_of (uses_on h.node.0 (rest s c.requires.sound c.args.file h (sym c.in-Some.ensures))),
      ap (λ (st : NodeState). st.uses) c.state.ensures ∙ uses_before s c.requires.sound c.args.file h (sym c.in-Some.ensures),
    )

pub returns-then-not-goes-clause-serves : goal.returns-then-not-goes-clause-serves
returns-then-not-goes-clause-serves c =
    let s = c.args.self.now in
    let h = c.in-Some.handle.now in
    let is = sym c.in-Some.ensures in
    let x = opened_place s c.requires.sound c.args.file h is in
    let st = left_is s c.requires.sound c.args.file h is c.state.result c.left-state.result c.state.ensures c.left-state.ensures in
    let comes = on_handle (drive_of s) c.args.file (close (drive_of s) c.args.file) in
    subst (λ (t : Store). Serves s t comes (Ok c.closed.result)) (sym c.set_state.ensures.others)
    (subst (λ (r : Done). Serves s (record s { handles = c.remove.new.self; locks = c.release.new.self; states = c.set_state.new.self.states }) comes (Ok r)) (sym c.closed.ensures)
    (serves_stays s c.requires.sound c.args.file h is c.ordered.ensures x.0 x.1 c.remove.new.self c.remove.ensures.entries c.remove.ensures.updates.0 c.release.new.self c.release.ensures
    c.set_state.new.self.states (subst (λ (k : NodeState). IsKept s.states c.set_state.new.self.states h.node.0 k) st c.set_state.ensures.kept)
    (sym (ap (λ (k : NodeState). k.pending && not (nat_lt 0 k.uses.handles)) st) ∙ sym c.goes.ensures ∙ c.if-not-goes.true)))

pub parent-folder-requires-clause-other : goal.parent-folder-requires-clause-other
parent-folder-requires-clause-other c =
    let s = c.args.self.now in
    let h = c.in-Some.handle.now in
    let is = sym c.in-Some.ensures in
    let st = left_is s c.requires.sound c.args.file h is c.state.result c.left-state.result c.state.ensures c.left-state.ensures in
    not_root s c.requires.sound c.args.file h is (not (nat_lt 0 c.left-state.result.uses.handles))
    (sym (ap (λ (k : NodeState). k.pending && not (nat_lt 0 c.left-state.result.uses.handles)) st) ∙ sym c.goes.ensures ∙ c.if-not-goes.false)

pub remove-requires-2-clause-other : goal.remove-requires-2-clause-other
remove-requires-2-clause-other c =
    let s = c.args.self.now in
    let h = c.in-Some.handle.now in
    let is = sym c.in-Some.ensures in
    let st = left_is s c.requires.sound c.args.file h is c.state.result c.left-state.result c.state.ensures c.left-state.ensures in
    not_root s c.requires.sound c.args.file h is (not (nat_lt 0 c.left-state.result.uses.handles))
    (sym (ap (λ (k : NodeState). k.pending && not (nat_lt 0 c.left-state.result.uses.handles)) st) ∙ sym c.goes.ensures ∙ c.if-not-goes.false)

pub returns-in_default-remove-clause-serves : goal.returns-in_default-remove-clause-serves
returns-in_default-remove-clause-serves c =
    let s = c.args.self.now in
    let h = c.in-Some.handle.now in
    let is = sym c.in-Some.ensures in
    let x = opened_place s c.requires.sound c.args.file h is in
    let st = left_is s c.requires.sound c.args.file h is c.state.result c.left-state.result c.state.ensures c.left-state.ensures in
    let comes = on_handle (drive_of s) c.args.file (close (drive_of s) c.args.file) in
    let states = c.set_state-in_default-remove.new.self.states in
    subst (λ (t : Store). Serves s t comes (Ok c.closed-in_default-remove.result)) (sym c.set_state-in_default-remove.ensures.others)
    (subst (λ (t : Places). Serves s (record s { handles = c.remove.new.self; locks = c.release.new.self; states = states; tree = t }) comes (Ok c.closed-in_default-remove.result)) (sym c.in_default-remove.ensures.err)
    (subst (λ (r : Done). Serves s (record s { handles = c.remove.new.self; locks = c.release.new.self; states = states }) comes (Ok r)) (sym c.closed-in_default-remove.ensures)
    (serves_filled s c.requires.sound c.args.file h is c.ordered.ensures x.0 x.1 c.remove.new.self c.remove.ensures.entries c.remove.ensures.updates.0 c.release.new.self c.release.ensures
    states (subst (λ (k : NodeState). IsKept s.states states h.node.0 (record k { pending = false })) st c.set_state-in_default-remove.ensures.kept)
    (sym (ap (λ (k : NodeState). k.pending && not (nat_lt 0 k.uses.handles)) st) ∙ sym c.goes.ensures ∙ c.if-not-goes.false)
    (c.in_default-remove.ensures.not_empty.0 refl))))

pub returns-clause-serves : goal.returns-clause-serves
returns-clause-serves c =
    let s = c.args.self.now in
    let h = c.in-Some.handle.now in
    let is = sym c.in-Some.ensures in
    let x = opened_place s c.requires.sound c.args.file h is in
    let st = left_is s c.requires.sound c.args.file h is c.state.result c.left-state.result c.state.ensures c.left-state.ensures in
    serves_gone s c.requires.sound c.args.file h is c.ordered.ensures x.0 x.1 c.remove.new.self c.remove.ensures.entries c.remove.ensures.updates.0 c.release.new.self c.release.ensures
    (sym (ap (λ (k : NodeState). k.pending && not (nat_lt 0 k.uses.handles)) st) ∙ sym c.goes.ensures ∙ c.if-not-goes.false)
    (empty (has_child s.tree h.node.0) (λ t. c.in-Ok.ensures.not_empty.1 t))
    c.remove-3.new.self c.remove-3.ensures.updates.0
    c.parent-folder.result c.in-Ok.name c.name_bit-bits.result c.parent-folder.ensures.above c.parent-folder.ensures.folder c.in-Ok.ensures.name
    (c.name_bit-bits.ensures ∙ ap (λ b. cond b 2 1) (c.is_folder.ensures.bytes ∙ ap (λ (o : Option Place). not (is_some (option_and_then (λ (p : Place). p.bytes) o))) x.1))
    c.remove-2.new.self c.in-Ok.ensures.removed c.in-Ok.ensures.is_whole
  where
    empty : (b : Bool) → (b ≡ true → ◌≡◌ {A = Result (List ℕ) NotEmpty} (Ok c.in-Ok.name) (Err (record {}))) → b ≡ false
    empty true f = absurd (let both = f refl in cc)
    empty false f = refl
