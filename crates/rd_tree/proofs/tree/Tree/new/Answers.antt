use Rattle.std.proofs.Common.{◌≡◌, ◌∙◌, refl, sym, ap, true, Some}
use Rattle.slab.specs.Slab.{get}
use Rattle.rd_tree.specs.declared.node.Node.{Node}
use Rattle.rd_tree.proofs.SoundLemmas.{no_slots, sound_alone, seen_alone}
use Rattle.rd_tree.proofs.WholeLemmas.{whole}
use Rattle.rd_tree.proofs.tree.Tree.new.Goals as goal

pub invariant_of-result : goal.invariant_of-result
invariant_of-result c =
    let nodes = c.insert.new.self in
    let updates = c.in_ok-insert.ensures.updates in
    let zero : c.in_ok-insert.field-0 ≡ 0 = c.in_ok-insert.ensures.key ∙ c.new-nodes.ensures.first_key in
    let node : Node = record { parent = 0; name = c.of.result; folder = true; contents = c.new-2.result; children = c.new-3.result } in
    let is : get nodes 0 ≡ Some node = ap (get nodes) (sym zero) ∙ updates.changed in
    sound_alone c.args.naming nodes node is refl c.new-3.ensures.empty (λ n not. updates.others n (λ e. not (e ∙ zero)) ∙ no_slots c.new-nodes.result n c.new-nodes.ensures.empty)

pub returns-clause-made : goal.returns-clause-made
returns-clause-made c =
    let nodes = c.insert.new.self in
    let updates = c.in_ok-insert.ensures.updates in
    let zero : c.in_ok-insert.field-0 ≡ 0 = c.in_ok-insert.ensures.key ∙ c.new-nodes.ensures.first_key in
    let node : Node = record { parent = 0; name = c.of.result; folder = true; contents = c.new-2.result; children = c.new-3.result } in
    let is : get nodes 0 ≡ Some node = ap (get nodes) (sym zero) ∙ updates.changed in
    seen_alone c.args.naming nodes node is refl c.new-3.ensures.empty (λ n not. updates.others n (λ e. not (e ∙ zero)) ∙ no_slots c.new-nodes.result n c.new-nodes.ensures.empty)

pub returns-clause-is_whole : goal.returns-clause-is_whole
returns-clause-is_whole c =
    let nodes = c.insert.new.self in
    let updates = c.in_ok-insert.ensures.updates in
    let zero : c.in_ok-insert.field-0 ≡ 0 = c.in_ok-insert.ensures.key ∙ c.new-nodes.ensures.first_key in
    let node : Node = record { parent = 0; name = c.of.result; folder = true; contents = c.new-2.result; children = c.new-3.result } in
    let is : get nodes 0 ≡ Some node = ap (get nodes) (sym zero) ∙ updates.changed in
    whole c.args.naming nodes
    (sound_alone c.args.naming nodes node is refl c.new-3.ensures.empty (λ n not. updates.others n (λ e. not (e ∙ zero)) ∙ no_slots c.new-nodes.result n c.new-nodes.ensures.empty))
