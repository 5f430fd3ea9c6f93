use Rattle.std.proofs.Common.{◌≡◌, ◌∙◌, ◌+◌, sym, ap, subst, ℕ, ◌∷◌, drop, map, Some, None}
use Rattle.std.proofs.lemmas.Bool.{eqb-false}
use Rattle.std.proofs.lemmas.List.{drop_more, drop_all}
use Rattle.std.specs.List.{list_all}
use Rattle.rd_dirinfo.specs.Naming.{Name, seen}
use Rattle.rd_dirinfo.specs.Paths.{Names, is_name}
use Rattle.rd_tree.specs.Walk.{Keys, LeadsThrough}
use Rattle.rd_tree.specs.Nodes.{child_of}
use Rattle.rd_tree.proofs.NameLemmas.{first_name, later_names}
use Rattle.rd_tree.proofs.ThroughLemmas.{through_here, through_end, through_lost, through_on, through_back}
use Rattle.rd_tree.proofs.moving.leads_through.Goals as goal

pub child-requires : goal.child-requires
child-requires c =
    let rest : Names = drop (c.loop-name.name-index + 1) c.args.names.now in
    let left : drop c.loop-name.name-index c.args.names.now ≡ c.name-item.result ∷ rest = drop_more c.args.names.now c.loop-name.name-index c.name-item.result c.loop-name-test.true ∙ ap (λ (v : Name). v ∷ rest) (sym c.name-item.is) in
    ap is_name c.as_slice.ensures ∙ first_name c.name-item.result rest (sym (ap (list_all is_name) left) ∙ c.loop-name.invariant.names)

pub returns-then-here-node-clause-through : goal.returns-then-here-node-clause-through
returns-then-here-node-clause-through c e =
    let child = child_of c.args.nodes.now in
    let rest : Keys = map (seen c.args.naming) (drop c.loop-name.name-index c.args.names.now) in
    c.loop-name.invariant.back (subst (λ (m : ℕ). LeadsThrough child c.loop-name.here m rest) c.if-here-node.true (through_here child c.loop-name.here rest))

pub returns-in-None-clause-past : goal.returns-in-None-clause-past
returns-in-None-clause-past c e w =
    let child = child_of c.args.nodes.now in
    let rest : Names = drop (c.loop-name.name-index + 1) c.args.names.now in
    let left : drop c.loop-name.name-index c.args.names.now ≡ c.name-item.result ∷ rest = drop_more c.args.names.now c.loop-name.name-index c.name-item.result c.loop-name-test.true ∙ ap (λ (v : Name). v ∷ rest) (sym c.name-item.is) in
    let lost : child c.loop-name.here (seen c.args.naming c.name-item.result) ≡ None = ap (λ (x : Name). child c.loop-name.here (seen c.args.naming x)) (sym c.as_slice.ensures) ∙ sym c.in-None.ensures in
    through_lost child c.loop-name.here c.args.node (seen c.args.naming c.name-item.result) (map (seen c.args.naming) rest) c.if-here-node.false lost
    (subst (λ (p : Names). LeadsThrough child c.loop-name.here c.args.node (map (seen c.args.naming) p)) left (c.loop-name.invariant.on w))

pub loop-name-preserved : goal.loop-name-preserved
loop-name-preserved c =
    let child = child_of c.args.nodes.now in
    let rest : Names = drop (c.loop-name.name-index + 1) c.args.names.now in
    let keys : Keys = map (seen c.args.naming) rest in
    let x : Name = seen c.args.naming c.name-item.result in
    let left : drop c.loop-name.name-index c.args.names.now ≡ c.name-item.result ∷ rest = drop_more c.args.names.now c.loop-name.name-index c.name-item.result c.loop-name-test.true ∙ ap (λ (v : Name). v ∷ rest) (sym c.name-item.is) in
    let found : child c.loop-name.here x ≡ Some c.in-Some.next = ap (λ (x : Name). child c.loop-name.here (seen c.args.naming x)) (sym c.as_slice.ensures) ∙ sym c.in-Some.ensures in
    record {
      on = λ w. through_on child c.loop-name.here c.in-Some.next c.args.node x keys c.if-here-node.false found (subst (λ (p : Names). LeadsThrough child c.loop-name.here c.args.node (map (seen c.args.naming) p)) left (c.loop-name.invariant.on w));
      back = λ w. c.loop-name.invariant.back (subst (λ (p : Names). LeadsThrough child c.loop-name.here c.args.node (map (seen c.args.naming) p)) (sym left) (through_back child c.loop-name.here c.in-Some.next c.args.node x keys found w));
      names = later_names c.name-item.result rest (sym (ap (list_all is_name) left) ∙ c.loop-name.invariant.names);
    }

pub returns-clause-past : goal.returns-clause-past
returns-clause-past c e w =
    let child = child_of c.args.nodes.now in
    through_end child c.loop-name.here c.args.node (eqb-false c.loop-name.here c.args.node e)
    (subst (λ (p : Names). LeadsThrough child c.loop-name.here c.args.node (map (seen c.args.naming) p)) (drop_all c.loop-name.name-index c.args.names.now c.loop-name-test.false) (c.loop-name.invariant.on w))
