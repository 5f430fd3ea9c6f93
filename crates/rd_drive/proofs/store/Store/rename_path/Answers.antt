use Rattle.std.proofs.Common.{◌∙◌, sym, ap, subst, ◌==◌, Some, length, inl}
use Rattle.rd_dirinfo.specs.Paths.{Names}
use Rattle.rd_drive.specs.Outcome.{Outcome}
use Rattle.rd_drive.specs.Store.{Serves}
use Rattle.rd_drive.proofs.PathedLemmas.{comes_free, comes_over, comes_own, comes_root}
use Rattle.rd_drive.proofs.store.Store.rename_path.Goals as goal

pub returns-then-is_empty : goal.returns-then-is_empty
returns-then-is_empty c = (
  c.requires.sound,
  inl (comes_root c.args.self.now c.requires.sound c.args.node.0 c.requires.live c.args.path.now c.args.moment c.args.count c.args.replace
      (sym (c.if-is_empty.ensures ∙ ap (λ (p : Names). length p == 0) c.names.ensures.names))),
)

pub returns-then-target-node : goal.returns-then-target-node
returns-then-target-node c =
    let s = c.args.self.now in
    let comes = comes_own s c.requires.sound c.args.node.0 c.requires.live c.args.path.now c.args.moment c.args.count c.args.replace
    (sym (c.if-is_empty.ensures ∙ ap (λ (p : Names). length p == 0) c.names.ensures.names)) (sym c.in-Some.ensures.found ∙ ap Some c.if-target-node.true) in
    subst (λ (o : Outcome). Serves s c.respell.new.self o c.respell.result) (sym comes) c.respell.ensures

pub returns-else-target-node : goal.returns-else-target-node
returns-else-target-node c =
    let s = c.args.self.now in
    let comes = comes_over s c.requires.sound c.args.node.0 c.requires.live c.args.path.now c.args.moment c.args.count c.args.replace
    (sym (c.if-is_empty.ensures ∙ ap (λ (p : Names). length p == 0) c.names.ensures.names)) c.in-Some.target.0 c.in-Some.ensures.live (sym c.in-Some.ensures.found) c.if-target-node.false in
    subst (λ (o : Outcome). Serves s c.replace_by.new.self o c.replace_by.result) (sym comes) c.replace_by.ensures

pub returns-in-None : goal.returns-in-None
returns-in-None c =
    let s = c.args.self.now in
    let comes = comes_free s c.requires.sound c.args.node.0 c.requires.live c.args.path.now c.args.moment c.args.count c.args.replace
    (sym (c.if-is_empty.ensures ∙ ap (λ (p : Names). length p == 0) c.names.ensures.names)) (sym c.in-None.ensures.found) in
    subst (λ (o : Outcome). Serves s c.relocate.new.self o c.relocate.result) (sym comes) c.relocate.ensures
