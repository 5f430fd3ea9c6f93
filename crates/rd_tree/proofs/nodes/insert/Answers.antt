use Rattle.std.proofs.Common.{◌≡◌, ◌∙◌, ◌<◌, ◌^◌, sym, ap, subst, ℕ, ⊎_elim, Option, Bool, Some, arith}
use Rattle.std.specs.Option.{IsSome}
use Rattle.std.proofs.lemmas.Bool.{cases_eq}
use Rattle.slab.specs.Slab.{get}
use Rattle.rd_dirinfo.specs.Naming.{Name}
use Rattle.rd_tree.specs.declared.node.Node.{Node}
use Rattle.rd_tree.specs.Nodes.{child_of, link_of, file_of, kind_of}
use Rattle.rd_tree.proofs.TreeLemmas.{not_some}
use Rattle.rd_tree.proofs.NodeLemmas.{child_of-none, child_of-same, link_of-none, link_of-same, file_of-none, file_of-same, kind_of-none, kind_of-same}
use Rattle.rd_tree.proofs.MadeLemmas.{made_child, made_link, made_links, made_file, made_files, no_bytes, err_of, ok_of}
use Rattle.rd_tree.proofs.nodes.insert.Goals as goal

pub returns-in_default-clause-refused : goal.returns-in_default-clause-refused
returns-in_default-clause-refused c =
    let same = λ (n : ℕ). ap (λ s. get s n) c.in_default.ensures.err in
    record {
      children = λ n x. child_of-same c.args.nodes.now c.insert-made.new.self n x (same n);
      links = λ n. link_of-same c.args.nodes.now c.insert-made.new.self n (same n);
      files = λ n. file_of-same c.args.nodes.now c.insert-made.new.self n (same n);
    }

pub link-requires : goal.link-requires
link-requires c =
    let old = c.args.nodes.now in
    let node : Node = record { parent = c.args.parent; name = c.of.result; folder = c.args.folder; contents = c.new.result; children = c.new-2.result } in
    let other : c.args.parent ≡ c.in-Ok.node → ⊥ = λ e. not_some (kind_of old c.args.parent) (ap (kind_of old) e ∙ kind_of-none old c.in-Ok.node c.in-Ok.ensures.was_vacant) c.requires.parent in
    subst (λ (o : Option Bool). IsSome o) (sym (kind_of-same old c.insert-made.new.self c.args.parent (made_files old c.insert-made.new.self c.in-Ok.node node c.in-Ok.ensures.was_vacant c.in-Ok.ensures.updates c.args.parent other))) c.requires.parent

pub returns-then-is_err-clause-refused : goal.returns-then-is_err-clause-refused
returns-then-is_err-clause-refused c =
    let old = c.args.nodes.now in
    let mid = c.insert-made.new.self in
    let m : ℕ = c.in-Ok.node in
    let was = c.in-Ok.ensures.was_vacant in
    let node : Node = record { parent = c.args.parent; name = c.of.result; folder = c.args.folder; contents = c.new.result; children = c.new-2.result } in
    let refused = err_of c.link.result (sym c.is_err.ensures.value ∙ c.if-is_err.true) c.link.ensures.refused in
    record {
      children = λ n x. ⊎_elim
          (λ e. ap (λ k. child_of c.delete.new.nodes k x) e ∙ c.delete.ensures.bare x ∙ sym (child_of-none old m x was) ∙ ap (λ k. child_of old k x) (sym e))
          (λ not. c.delete.ensures.children n x not ∙ refused n x ∙ made_child old mid m node was c.in-Ok.ensures.updates c.new-2.ensures.empty n x) (cases_eq n m);
      links = λ n. ⊎_elim
          (λ e. ap (link_of c.delete.new.nodes) e ∙ c.delete.ensures.link ∙ sym (link_of-none old m was) ∙ ap (link_of old) (sym e))
          (λ not. c.delete.ensures.links n not ∙ c.link.ensures.links n ∙ made_links old mid m node was c.in-Ok.ensures.updates n not) (cases_eq n m);
      files = λ n. ⊎_elim
          (λ e. ap (file_of c.delete.new.nodes) e ∙ c.delete.ensures.file ∙ sym (file_of-none old m was) ∙ ap (file_of old) (sym e))
          (λ not. c.delete.ensures.files n not ∙ c.link.ensures.files n ∙ made_files old mid m node was c.in-Ok.ensures.updates n not) (cases_eq n m);
    }

pub returns-clause-inserted : goal.returns-clause-inserted
returns-clause-inserted c =
    let old = c.args.nodes.now in
    let mid = c.insert-made.new.self in
    let new = c.link.new.nodes in
    let m : ℕ = c.in-Ok.node in
    let was = c.in-Ok.ensures.was_vacant in
    let updates = c.in-Ok.ensures.updates in
    let node : Node = record { parent = c.args.parent; name = c.of.result; folder = c.args.folder; contents = c.new.result; children = c.new-2.result } in
    let apart = λ (k : ℕ) (live : IsSome (kind_of old k)) (e : k ≡ m). not_some (kind_of old k) (ap (kind_of old) e ∙ kind_of-none old m was) live in
    let linked = ok_of c.link.result (sym c.is_err.ensures.value ∙ c.if-is_err.false) c.link.ensures.here in
    let name : c.of.result ≡ c.args.name.now = c.of.ensures ∙ c.in_ok-own.ensures.items in
    let small : m < 2 ^ 32 = omega (arith, c.in-Ok.ensures.key, c.vacant_key.ensures.value) in
    record {
      fresh = file_of-none old m was;
      small = small;
      here = ap (child_of new c.args.parent) (sym c.in_ok-key.ensures) ∙ linked;
      others = λ n x not. c.link.ensures.others n x (λ e. not (e.0, e.1 ∙ c.in_ok-key.ensures)) ∙ made_child old mid m node was updates c.new-2.ensures.empty n x;
      bare = λ x. c.link.ensures.others m x (λ e. apart c.args.parent c.requires.parent (sym e.0)) ∙ made_child old mid m node was updates c.new-2.ensures.empty m x ∙ child_of-none old m x was;
      link = c.link.ensures.links m ∙ made_link old mid m node was updates (apart 0 c.requires.root) ∙ ap (λ (y : Name). Some (c.args.parent, y)) name;
      links = λ n not. c.link.ensures.links n ∙ made_links old mid m node was updates n not;
      file = c.link.ensures.files m ∙ made_file old mid m node was updates ∙ ap Some (no_bytes c.args.folder c.new.result c.new.ensures);
      files = λ n not. c.link.ensures.files n ∙ made_files old mid m node was updates n not;
    }
