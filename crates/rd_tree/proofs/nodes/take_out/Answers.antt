use Rattle.std.proofs.Common.{◌≡◌, ◌∙◌, sym, ap, subst, ℕ, ⊎_elim}
use Rattle.std.proofs.lemmas.Bool.{cases_eq}
use Rattle.rd_dirinfo.specs.Naming.{Name, seen}
use Rattle.rd_dirinfo.specs.Paths.{is_name}
use Rattle.rd_tree.specs.Walk.{Key}
use Rattle.rd_tree.specs.Nodes.{child_of, kind_of, Removes}
use Rattle.rd_tree.proofs.KeyLemmas.{same_key}
use Rattle.rd_tree.proofs.TreeLemmas.{inside, not_some}
use Rattle.rd_tree.proofs.NodeLemmas.{child_of-none, child_of-same, link_of-at, link_of-none, link_of-same, file_of-none, file_of-same, kind_of-none}
use Rattle.rd_tree.proofs.nodes.take_out.Goals as goal

pub unlink-requires : goal.unlink-requires
unlink-requires c =
    ap is_name c.as_slice.ensures ∙ c.requires.named c.in-Some.taken.parent c.in-Some.taken.name (link_of-at c.args.nodes.now c.args.node c.in-Some.taken c.requires.other (sym c.in-Some.ensures.value))

pub returns-clause-removed : goal.returns-clause-removed
returns-clause-removed c a x linked =
    let old = c.args.nodes.now in
    let mid = c.try_remove.new.self in
    let new = c.unlink.new.nodes in
    let m : ℕ = c.args.node in
    let u = c.try_remove.ensures.updates in
    let own : Name = c.in-Some.taken.name in
    let key : Key = seen c.args.naming c.as_slice.result.now in
    let place : ◌≡◌ {A = ℕ × Name} (c.in-Some.taken.parent, own) (a, x) = inside (c.in-Some.taken.parent, own) (a, x) (sym (link_of-at old m c.in-Some.taken c.requires.other (sym c.in-Some.ensures.value)) ∙ linked) in
    let first : Removes old new c.in-Some.taken.parent key m = record {
      gone = c.unlink.ensures.gone;
      others = λ n y not apart. c.unlink.ensures.others n y not ∙ child_of-same old mid n y (u.others n apart);
      bare = λ y. ⊎_elim
          (λ e. ⊎_elim
          (λ f. ap (λ k. child_of new k y) e ∙ ap (child_of new c.in-Some.taken.parent) f ∙ c.unlink.ensures.gone)
          (λ not. c.unlink.ensures.others m y (λ g. not g.1) ∙ child_of-none mid m y u.changed) (same_key y key))
          (λ not. c.unlink.ensures.others m y (λ g. not g.0) ∙ child_of-none mid m y u.changed) (cases_eq m c.in-Some.taken.parent);
      link = c.unlink.ensures.links m ∙ link_of-none mid m u.changed;
      links = λ n not. c.unlink.ensures.links n ∙ link_of-same old mid n (u.others n not);
      file = c.unlink.ensures.files m ∙ file_of-none mid m u.changed;
      files = λ n not. c.unlink.ensures.files n ∙ file_of-same old mid n (u.others n not);
    } in
    subst (λ (q : ℕ × Name). Removes old new q.0 (seen c.args.naming q.1) m) place (subst (λ (y : Name). Removes old new c.in-Some.taken.parent (seen c.args.naming y) m) c.as_slice.ensures first)

pub returns-clause-name : goal.returns-clause-name
returns-clause-name c a x linked =
    ap (λ (q : ℕ × Name). q.1) (inside (c.in-Some.taken.parent, c.in-Some.taken.name) (a, x) (sym (link_of-at c.args.nodes.now c.args.node c.in-Some.taken c.requires.other (sym c.in-Some.ensures.value)) ∙ linked))

pub unreachable-requires : goal.unreachable-requires
unreachable-requires c = not_some (kind_of c.args.nodes.now c.args.node) (kind_of-none c.args.nodes.now c.args.node (sym c.in_default.ensures.value)) c.requires.live
