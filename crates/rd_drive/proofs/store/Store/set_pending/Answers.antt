use Rattle.std.proofs.Common.{◌≡◌, ◌∙◌, refl, sym, ap, subst, Bool, true, false, not, ◌&&◌, inl}
use Rattle.rd_irp.specs.declared.completion.Body.TheVariants.{Count}
use Rattle.rd_tree.specs.Places.{bytes_at, has_child}
use Rattle.rd_drive.specs.declared.node.NodeState.{NodeState}
use Rattle.rd_drive.specs.declared.store.Done.TheVariants as done
use Rattle.rd_drive.specs.Access.{is_readonly, has_any}
use Rattle.rd_drive.specs.SetFile.{set_pending}
use Rattle.rd_drive.specs.Store.{drive_of}
use Rattle.rd_drive.specs.Kept.{own_node, IsKept}
use Rattle.rd_drive.proofs.KeptLemmas.{kept_store, serves_kept, kept_whole}
use Rattle.rd_drive.proofs.SettingLemmas.{mark_readonly, mark_full, mark_cleared, mark_set, mark_made, marked_state}
use Rattle.rd_drive.proofs.store.Store.set_pending.Goals.{then-pending+else-is_readonly+else-folder, else-folder-via-then-folder+else-has_child, else-folder-via-else-folder, else-pending}
use Rattle.rd_drive.proofs.store.Store.set_pending.Goals as goal

pub returns-then-is_readonly : goal.returns-then-is_readonly
returns-then-is_readonly c =
    let s = c.args.self.now in
    let n = c.args.node.0 in
    let folder = c.is_folder-folder.ensures.bytes in
    let is : is_readonly (own_node s n) ≡ true = (λ i. not (sym folder i) && has_any 1 (sym c.state-state.ensures i).attributes) ∙ sym c.is_readonly.ensures ∙ c.if-is_readonly.true in
    (c.requires.sound, inl (ap (λ (b : Bool). set_pending (drive_of s) c.args.count (own_node s n) b) c.if-pending.true ∙ mark_readonly s n c.args.count c.requires.sound.naming is))

pub returns-then-has_child : goal.returns-then-has_child
returns-then-has_child c =
    let s = c.args.self.now in
    let n = c.args.node.0 in
    let folder = c.is_folder-folder.ensures.bytes in
    let is : is_readonly (own_node s n) ≡ false = (λ i. not (sym folder i) && has_any 1 (sym c.state-state.ensures i).attributes) ∙ sym c.is_readonly.ensures ∙ c.if-is_readonly.false in (
      c.requires.sound,
      inl (ap (λ (b : Bool). set_pending (drive_of s) c.args.count (own_node s n) b) c.if-pending.true
          ∙ mark_full s n c.args.count c.requires.sound.naming is (sym folder ∙ c.if-folder.true) (sym c.has_child.ensures ∙ c.if-has_child.true)),
    )

pub returns : goal.returns
returns c =
    let s = c.args.self.now in
    let n = c.args.node.0 in
    let kept = subst (λ (st : NodeState). IsKept s.states c.set_state.new.self.states n (record st { pending = c.args.pending })) c.state-state.ensures c.set_state.ensures.kept in
    serves_kept s c.requires.sound n c.requires.live (bytes_at s.tree n) c.set_state.new.self.states (marked_state s n c.args.count c.requires.sound.naming c.args.pending) kept
    (kept_whole s.tree c.requires.sound.whole n c.requires.live) refl (λ z. absurd (c.requires.other (sym z))) c.set_state.new.self
    (kept_store s c.requires.sound.whole n c.requires.live c.set_state.new.self c.set_state.ensures.others)
    _ (Count c.args.count) _ (ap (λ news. done.Replied (Count c.args.count) news) c.none.ensures)
    comes
  where
    comes : set_pending (drive_of c.args.self.now) c.args.count (own_node c.args.self.now c.args.node.0) c.args.pending ≡ mark_made c.args.self.now c.args.node.0 c.args.count c.requires.sound.naming c.args.pending
    comes =
        let s = c.args.self.now in
        let n = c.args.node.0 in
        elim c.if-pending.branch [
          | then-pending+else-is_readonly+else-folder w ↦
              let folder = w.is_folder-folder.ensures.bytes in
              let is : is_readonly (own_node s n) ≡ false = (λ i. not (sym folder i) && has_any 1 (sym c.state-state.ensures i).attributes) ∙ sym w.is_readonly.ensures ∙ w.if-is_readonly.false in
              mark_set s n c.args.count c.requires.sound.naming c.args.pending w.if-pending.true is
              (elim w.else-folder.branch [
                | else-folder-via-then-folder+else-has_child v ↦ (λ i. (sym folder ∙ v.if-folder.true) i && (sym v.has_child.ensures ∙ v.if-has_child.false) i)
                | else-folder-via-else-folder v ↦ ap (λ b. b && has_child s.tree n) (sym folder ∙ v.if-folder.false)
              ])
          | else-pending w ↦ mark_cleared s n c.args.count c.requires.sound.naming c.args.pending w.if-pending.false
        ]
