use Rattle.std.proofs.Common.{◌≡◌, ◌∙◌, refl, ap, ℕ, inl, List, Some, arith, subst}
use Rattle.std.proofs.lemmas.Bool.{lt-ltb}
use Rattle.rd_tree.specs.Places.{IsWhole}
use Rattle.rd_irp.specs.declared.completion.Body.TheVariants.{Count}
use Rattle.rd_contents.specs.Contents.{resized, max_len}
use Rattle.rd_drive.specs.Store.{state_of}
use Rattle.rd_drive.specs.Kept.{written_at}
use Rattle.rd_drive.proofs.ServesLemmas.{serves_no_memory}
use Rattle.rd_drive.proofs.KeptLemmas.{filed, file_lives, serves_told, written_store, written_tree}
use Rattle.rd_drive.proofs.SettingLemmas.{end_far, end_done}
use Rattle.rd_drive.proofs.WriteLemmas.{near_is}
use Rattle.rd_drive.proofs.store.Store.set_end.Goals as goal

pub returns-then-asked-gt-MAX_LEN : goal.returns-then-asked-gt-MAX_LEN
returns-then-asked-gt-MAX_LEN c =
    let s = c.args.self.now in
    (c.requires.sound, inl (end_far s c.args.node.0 c.args.count c.args.moment c.args.asked c.args.end (lt-ltb max_len c.args.asked c.if-asked-gt-MAX_LEN.true)))

pub returns-in-Ok : goal.returns-in-Ok
returns-in-Ok c =
    let s = c.args.self.now in
    let n = c.args.node.0 in
    let b = filed s.tree n c.requires.file in
    let live = file_lives s.tree n c.requires.file in
    serves_told s c.requires.sound n live (Some (resized b.0 c.args.end)) c.written.new.self.states (written_at (state_of s.states n) c.args.moment) c.written.ensures.kept
    (subst IsWhole (written_tree s.tree c.requires.sound.whole n live b.0 b.1 (λ (l : List ℕ). resized l c.args.end) c.resize.new.self c.in-Ok.ensures.resized) c.in-Ok.ensures.is_whole) refl (λ (z : n ≡ 0). ap (λ (k : ℕ). (state_of s.states k).pending) z ∙ c.requires.sound.root) c.written.new.self
    (written_store s c.requires.sound.whole n live b.0 b.1 (λ (l : List ℕ). resized l c.args.end) c.resize.new.self c.in-Ok.ensures.resized c.written.new.self c.written.ensures.others)
    _ (Count c.args.count) 3 0x18 c.args.node refl c.written.result c.written.ensures.done
    (end_done s n c.args.count c.args.moment c.args.asked c.args.end b.0 b.1 (near_is max_len c.args.asked (λ far. omega arith)))

pub returns-in-Err-Memory : goal.returns-in-Err-Memory
returns-in-Err-Memory c =
    let s = c.args.self.now in
    serves_no_memory s (record s { tree = c.resize.new.self }) _ c.requires.sound (λ i. record s { tree = c.in-Err-Memory.ensures.err i })
