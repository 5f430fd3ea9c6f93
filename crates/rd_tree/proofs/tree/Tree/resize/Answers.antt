use Rattle.std.proofs.Common.{refl, sym, subst, ◌∙◌, ap, List, ℕ}
use Rattle.std.proofs.lemmas.Result.{on_ok_weaker}
use Rattle.rd_contents.specs.Contents.{resized}
use Rattle.rd_tree.specs.declared.node.Node.{Node}
use Rattle.rd_tree.specs.Places.{Places, IsFile, with_bytes}
use Rattle.rd_tree.proofs.NodeLemmas.{exchanged_child, exchanged_link, exchanged_kind}
use Rattle.rd_tree.proofs.SoundLemmas.{sound_kept}
use Rattle.rd_tree.proofs.WholeLemmas.{whole}
use Rattle.rd_tree.proofs.FileLemmas.{file_still, file_found, changed}
use Rattle.rd_tree.proofs.tree.Tree.resize.Goals as goal

pub unreachable-requires : goal.unreachable-requires
unreachable-requires c =
    file_found c.self.inside.naming c.self.inside.nodes c.args.node.0 (subst (λ (t : Places). IsFile t c.args.node.0) (sym c.self.view_is) c.requires) (sym c.in_default.ensures.value)

pub invariant_of-self : goal.invariant_of-self
invariant_of-self c =
    let nodes = c.self.inside.nodes in
    let n : ℕ = c.args.node.0 in
    let was : Node = c.in-Some.file.now in
    let now : Node = record was { contents = c.resize.new.self } in
    let is = sym c.in-Some.ensures.value in
    sound_kept c.self.inside.naming nodes _ c.self.invariant (λ k x. exchanged_child nodes n was now is k x (λ e. refl)) (exchanged_link nodes n was now is refl refl) (exchanged_kind nodes n was now is refl)

pub returns-clause-is_whole : goal.returns-clause-is_whole
returns-clause-is_whole c =
    let nodes = c.self.inside.nodes in
    let n : ℕ = c.args.node.0 in
    let was : Node = c.in-Some.file.now in
    let now : Node = record was { contents = c.resize.new.self } in
    let is = sym c.in-Some.ensures.value in
    on_ok_weaker c.resize.result
    (λ e. whole c.self.inside.naming _ (sound_kept c.self.inside.naming nodes _ c.self.invariant (λ k x. exchanged_child nodes n was now is k x (λ e. refl)) (exchanged_link nodes n was now is refl refl) (exchanged_kind nodes n was now is refl)))
    c.resize.ensures.resized

pub returns-clause-resized : goal.returns-clause-resized
returns-clause-resized c =
    let n : ℕ = c.args.node.0 in
    let change : List ℕ → List ℕ = λ file. resized file c.args.end in
    let was : Node = c.in-Some.file.now in
    let file = subst (λ (t : Places). IsFile t n) (sym c.self.view_is) c.requires in
    on_ok_weaker c.resize.result
    (λ e. changed c.self.inside.naming c.self.inside.nodes n was (sym c.in-Some.ensures.value) file (record was { contents = c.resize.new.self }) change refl refl refl e ∙ ap (λ (t : Places). with_bytes t n change) c.self.view_is)
    c.resize.ensures.resized

pub returns-clause-file : goal.returns-clause-file
returns-clause-file c =
    let n : ℕ = c.args.node.0 in
    let was : Node = c.in-Some.file.now in
    file_still c.self.inside.naming c.self.inside.nodes n was (record was { contents = c.resize.new.self }) (sym c.in-Some.ensures.value) (subst (λ (t : Places). IsFile t n) (sym c.self.view_is) c.requires) refl
