use Rattle.std.proofs.Common.{◌≡◌, ◌∙◌, ◌+◌, sym, ap, ℕ, Option, ◌∷◌, drop, map, Some, None}
use Rattle.std.proofs.lemmas.List.{drop_more, drop_all}
use Rattle.std.specs.List.{list_all}
use Rattle.rd_dirinfo.specs.Naming.{Name, seen}
use Rattle.rd_dirinfo.specs.Paths.{Names, is_name}
use Rattle.rd_tree.specs.Walk.{onward, down}
use Rattle.rd_tree.specs.Nodes.{child_of}
use Rattle.rd_tree.proofs.NameLemmas.{first_name, later_names}
use Rattle.rd_tree.proofs.nodes.find.Goals as goal

pub child-requires : goal.child-requires
child-requires c =
    let rest : Names = drop (c.loop-name.name-index + 1) c.args.names.now in
    let left : drop c.loop-name.name-index c.args.names.now ≡ c.name-item.result ∷ rest = drop_more c.args.names.now c.loop-name.name-index c.name-item.result c.loop-name-test.true ∙ ap (λ (v : Name). v ∷ rest) (sym c.name-item.is) in
    ap is_name c.as_slice.ensures ∙ first_name c.name-item.result rest (sym (ap (list_all is_name) left) ∙ c.loop-name.invariant.names)

pub loop-name-preserved : goal.loop-name-preserved
loop-name-preserved c =
    let child = child_of c.args.nodes.now in
    let rest : Names = drop (c.loop-name.name-index + 1) c.args.names.now in
    let left : drop c.loop-name.name-index c.args.names.now ≡ c.name-item.result ∷ rest = drop_more c.args.names.now c.loop-name.name-index c.name-item.result c.loop-name-test.true ∙ ap (λ (v : Name). v ∷ rest) (sym c.name-item.is) in
    let found : child c.loop-name.node (seen c.args.naming c.name-item.result) ≡ Some c.in-Some.next = ap (λ (x : Name). child c.loop-name.node (seen c.args.naming x)) (sym c.as_slice.ensures) ∙ sym c.in-Some.ensures in
    record {
      way = c.loop-name.invariant.way ∙ ap (λ (l : Names). down child c.loop-name.node (map (seen c.args.naming) l)) left ∙ ap (λ (o : Option ℕ). onward o (λ m. down child m (map (seen c.args.naming) rest))) found;
      names = later_names c.name-item.result rest (sym (ap (list_all is_name) left) ∙ c.loop-name.invariant.names);
    }

pub returns-in-None : goal.returns-in-None
returns-in-None c =
    let child = child_of c.args.nodes.now in
    let rest : Names = drop (c.loop-name.name-index + 1) c.args.names.now in
    let left : drop c.loop-name.name-index c.args.names.now ≡ c.name-item.result ∷ rest = drop_more c.args.names.now c.loop-name.name-index c.name-item.result c.loop-name-test.true ∙ ap (λ (v : Name). v ∷ rest) (sym c.name-item.is) in
    let lost : child c.loop-name.node (seen c.args.naming c.name-item.result) ≡ None = ap (λ (x : Name). child c.loop-name.node (seen c.args.naming x)) (sym c.as_slice.ensures) ∙ sym c.in-None.ensures in
    sym (c.loop-name.invariant.way ∙ ap (λ (l : Names). down child c.loop-name.node (map (seen c.args.naming) l)) left ∙ ap (λ (o : Option ℕ). onward o (λ m. down child m (map (seen c.args.naming) rest))) lost)

pub returns : goal.returns
returns c = sym (c.loop-name.invariant.way ∙ ap (λ (l : Names). down (child_of c.args.nodes.now) c.loop-name.node (map (seen c.args.naming) l)) (drop_all c.loop-name.name-index c.args.names.now c.loop-name-test.false))
