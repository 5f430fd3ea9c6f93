use Rattle.std.proofs.Common.{◌≡◌, ◌∙◌, ◌≤◌, sym, ap, subst, ℕ, List, [], ◌∷◌, length, Some, Vec, Global, arith, inl, inr, ⊎_elim}
use Rattle.std.specs.List.{All}
use Rattle.std.proofs.lemmas.List.Elements.{All-tail, All-head, All-cons}
use Rattle.rd_tree.specs.Walk.{Key, onward, down}
use Rattle.rd_tree.specs.Nodes.{child_of, get_key}
use Rattle.rd_tree.proofs.NodeLemmas.{child_of-at, child_of-none}
use Rattle.rd_tree.proofs.ThroughLemmas.{IsSmall, from_entries, small_ways, no_ways}
use Rattle.rd_tree.proofs.moving.+fits.Goals as goal

pub returns-in_default-clause-fits : goal.returns-in_default-clause-fits
returns-in_default-clause-fits t c e =
    no_ways (child_of c.args.nodes.now) c.args.node c.args.names c.args.units (λ x. child_of-none c.args.nodes.now c.args.node x (sym c.in_default.ensures))

pub loop-key-init : goal.loop-key-init
loop-key-init t c =
    let nodes = c.args.nodes.now in
    let folder = c.in-Some.folder.now in
    let g = c.into_iter-key-iterator.ensures.into_iter_gives in
    let found = subst (λ (es : List (Vec ℕ Global × ℕ)). All (λ e. get_key folder.children.entries e.0.items ≡ Some e.1) es) (sym g.0) g.6 in
    record {
      found = λ k d h. child_of-at nodes c.args.node folder _ (sym c.in-Some.ensures) ∙ found k d h;
      rest = λ all. from_entries (IsSmall (child_of nodes) c.args.names c.args.units) nodes c.args.node folder (sym c.in-Some.ensures) (subst (λ (es : List (Vec ℕ Global × ℕ)). All (λ e. IsSmall (child_of nodes) c.args.names c.args.units e.0.items e.1) es) g.0 all);
    }

pub returns-then-names-eq0-clause-deep : goal.returns-then-names-eq0-clause-deep
returns-then-names-eq0-clause-deep t c e =
    let nodes = c.args.nodes.now in
    let item : Vec ℕ Global × ℕ = (c.in-Some-2.key.now, c.in-Some-2.child.now) in
    let head : child_of nodes c.args.node c.in-Some-2.key.now.items ≡ Some c.in-Some-2.child.now =
    All-head (λ e. child_of nodes c.args.node e.0.items ≡ Some e.1) item c.next.new.self (subst (λ (es : List (Vec ℕ Global × ℕ)). All (λ e. child_of nodes c.args.node e.0.items ≡ Some e.1) es) c.in-Some-2.ensures.steps c.loop-key.invariant.found) in
    (c.in-Some-2.key.now.items ∷ [], c.in-Some-2.child.now, ap (λ o. onward o (λ k. Some k)) head, inl (omega arith))

pub returns-then-units-len-clause-deep : goal.returns-then-units-len-clause-deep
returns-then-units-len-clause-deep t c e =
    let nodes = c.args.nodes.now in
    let key : Key = c.in-Some-2.key.now.items in
    let item : Vec ℕ Global × ℕ = (c.in-Some-2.key.now, c.in-Some-2.child.now) in
    let head : child_of nodes c.args.node key ≡ Some c.in-Some-2.child.now =
    All-head (λ e. child_of nodes c.args.node e.0.items ≡ Some e.1) item c.next.new.self (subst (λ (es : List (Vec ℕ Global × ℕ)). All (λ e. child_of nodes c.args.node e.0.items ≡ Some e.1) es) c.in-Some-2.ensures.steps c.loop-key.invariant.found) in
    let long : c.args.units ≤ length key = omega (arith, c.if-units-len.true, c.len-len.ensures) in
    (key ∷ [], c.in-Some-2.child.now, ap (λ o. onward o (λ k. Some k)) head, inr (omega (arith, long)))

pub returns-then-not-fits-clause-deep : goal.returns-then-not-fits-clause-deep
returns-then-not-fits-clause-deep t c e =
    let nodes = c.args.nodes.now in
    let key : Key = c.in-Some-2.key.now.items in
    let item : Vec ℕ Global × ℕ = (c.in-Some-2.key.now, c.in-Some-2.child.now) in
    let head : child_of nodes c.args.node key ≡ Some c.in-Some-2.child.now =
    All-head (λ e. child_of nodes c.args.node e.0.items ≡ Some e.1) item c.next.new.self (subst (λ (es : List (Vec ℕ Global × ℕ)). All (λ e. child_of nodes c.args.node e.0.items ≡ Some e.1) es) c.in-Some-2.ensures.steps c.loop-key.invariant.found) in
    let len : c.len-len.result ≡ length key = omega (arith, c.len-len.ensures) in
    let deep = c.fits.ensures.deep c.if-not-fits.true in
    (key ∷ deep.0, deep.1, ap (λ o. onward o (λ k. down (child_of nodes) k deep.0)) head ∙ deep.2, ⊎_elim (λ h. inl (omega (arith, h))) (λ h. inr (omega (arith, h, len))) deep.3)

pub loop-key-preserved : goal.loop-key-preserved
loop-key-preserved t c =
    let nodes = c.args.nodes.now in
    let key : Key = c.in-Some-2.key.now.items in
    let item : Vec ℕ Global × ℕ = (c.in-Some-2.key.now, c.in-Some-2.child.now) in
    let steps = c.in-Some-2.ensures.steps in
    let len : c.len-len.result ≡ length key = omega (arith, c.len-len.ensures) in
    record {
      found = All-tail (λ e. child_of nodes c.args.node e.0.items ≡ Some e.1) item c.next.new.self (subst (λ (es : List (Vec ℕ Global × ℕ)). All (λ e. child_of nodes c.args.node e.0.items ≡ Some e.1) es) steps c.loop-key.invariant.found);
      rest = λ all. c.loop-key.invariant.rest (subst (λ (es : List (Vec ℕ Global × ℕ)). All (λ e. IsSmall (child_of nodes) c.args.names c.args.units e.0.items e.1) es) (sym steps)
          (All-cons (λ e. IsSmall (child_of nodes) c.args.names c.args.units e.0.items e.1) item c.next.new.self
          (λ q j is. let f = c.fits.ensures.fits c.if-not-fits.false q j is in (omega (arith, f.0), omega (arith, f.1, len))) all));
    }

pub returns-clause-fits : goal.returns-clause-fits
returns-clause-fits t c e =
    small_ways (child_of c.args.nodes.now) c.args.node c.args.names c.args.units (c.loop-key.invariant.rest (subst (λ (es : List (Vec ℕ Global × ℕ)). All (λ e. IsSmall (child_of c.args.nodes.now) c.args.names c.args.units e.0.items e.1) es) (sym c.in-None.ensures.steps.0) (λ k d h. absurd (omega arith))))
