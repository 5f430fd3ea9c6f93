use Rattle.std.proofs.Common.{◌≡◌, ◌∙◌, refl, ap, subst, ℕ, ◌==◌, cond}
use Rattle.std.specs.Prelude.{bit_and}
use Rattle.rd_irp.specs.declared.completion.Body.TheVariants.{Count}
use Rattle.rd_tree.specs.Places.{bytes_at}
use Rattle.rd_drive.specs.declared.node.NodeState.{NodeState}
use Rattle.rd_drive.specs.declared.store.Done.TheVariants as done
use Rattle.rd_drive.specs.SetFile.{set_moments}
use Rattle.rd_drive.specs.Store.{state_of}
use Rattle.rd_drive.specs.Kept.{IsKept}
use Rattle.rd_drive.proofs.KeptLemmas.{kept_store, serves_told, kept_whole}
use Rattle.rd_drive.proofs.SettingLemmas.{basic_done, basic_state}
use Rattle.rd_drive.proofs.store.Store.set_basic.Goals as goal

pub returns : goal.returns
returns c =
    let s = c.args.self.now in
    let n = c.args.node.0 in
    let folder = c.is_folder-folder.ensures.bytes in
    let is_state : record c.state-state.result { attributes = c.set_attributes.result; moments = c.set_moments-state.result } ≡ basic_state s n c.args.count c.args.moments c.args.attributes c.args.moment =
    (λ i. record {
      attributes = (c.set_attributes.ensures ∙ (λ j. cond (c.args.attributes == 0) (c.state-state.ensures j).attributes (cond (folder j) (bit_and c.args.attributes 7) (bit_and c.args.attributes 0x27)))) i;
      moments = (c.set_moments-state.ensures ∙ ap (λ (st : NodeState). set_moments st.moments c.args.moments c.args.moment) c.state-state.ensures) i;
      pending = (c.state-state.ensures i).pending;
      uses = (c.state-state.ensures i).uses;
    }) in
    let kept = subst (λ (st : NodeState). IsKept s.states c.set_state.new.self.states n st) is_state c.set_state.ensures.kept in
    serves_told s c.requires.sound n c.requires.live (bytes_at s.tree n) c.set_state.new.self.states (basic_state s n c.args.count c.args.moments c.args.attributes c.args.moment) kept
    (kept_whole s.tree c.requires.sound.whole n c.requires.live) refl (λ (z : n ≡ 0). ap (λ (k : ℕ). (state_of s.states k).pending) z ∙ c.requires.sound.root) c.set_state.new.self
    (kept_store s c.requires.sound.whole n c.requires.live c.set_state.new.self c.set_state.ensures.others)
    _ (Count c.args.count) 3 4 c.args.node refl _ (ap (λ news. done.Replied (Count c.args.count) news) c.changed.ensures)
    (basic_done s n c.args.count c.args.moments c.args.attributes c.args.moment)
