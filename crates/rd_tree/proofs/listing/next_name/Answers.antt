use Rattle.std.proofs.Common.{◌≡◌, ◌∙◌, sym, ap, ℕ, List, Option, Some, Vec, Global}
use Rattle.std.specs.Option.{option_map}
use Rattle.rd_dirinfo.specs.Naming.{Name, seen}
use Rattle.rd_dirinfo.specs.Patterns.{is_wanted}
use Rattle.rd_tree.specs.Places.{next_name}
use Rattle.rd_tree.specs.Nodes.{kind_of, names_in, first_in, places_of}
use Rattle.rd_tree.proofs.TreeLemmas.{not_some}
use Rattle.rd_tree.proofs.NodeLemmas.{kind_of-none}
use Rattle.rd_tree.proofs.NextLemmas.{next_full, next_past}
use Rattle.rd_tree.proofs.listing.next_name.Goals as goal

pub unreachable-requires : goal.unreachable-requires
unreachable-requires c = not_some (kind_of c.args.nodes.now c.args.folder) (kind_of-none c.args.nodes.now c.args.folder (sym c.in_default.ensures)) c.requires.live

pub returns-in-None : goal.returns-in-None
returns-in-None c =
    let after : Option Name = option_map (λ other. other.now) c.args.after in
    let pattern = c.args.pattern.now in
    c.first_wanted-in-None.ensures ∙ ap (λ (es : List (Vec ℕ Global × ℕ)). first_in (is_wanted c.args.naming after pattern) (names_in c.args.nodes.now es)) c.all-in-None.ensures.all
    ∙ next_full c.args.naming c.args.nodes.now c.requires.sound c.args.folder c.in-Some.folder.now (sym c.in-Some.ensures) c.all-in-None.ensures.ordered after pattern

pub returns-in-None-stored_name : goal.returns-in-None-stored_name
returns-in-None-stored_name c =
    let after : Option Name = option_map (λ other. other.now) c.args.after in
    let pattern = c.args.pattern.now in
    c.first_wanted-in-None-stored_name.ensures ∙ ap (λ (es : List (Vec ℕ Global × ℕ)). first_in (is_wanted c.args.naming after pattern) (names_in c.args.nodes.now es)) c.all.ensures.all
    ∙ next_full c.args.naming c.args.nodes.now c.requires.sound c.args.folder c.in-Some.folder.now (sym c.in-Some.ensures) c.all.ensures.ordered after pattern

pub returns-in-Some-stored_name : goal.returns-in-Some-stored_name
returns-in-Some-stored_name c =
    let after : Option Name = option_map (λ other. other.now) c.args.after in
    let other : Name = c.in-Some-after.other.now in
    let given : after ≡ Some other = ap (option_map (λ other. other.now)) c.in-Some-after.is in
    let pattern = c.args.pattern.now in
    c.first_wanted.ensures ∙ ap (λ (a : Option Name). first_in (is_wanted c.args.naming a pattern) (names_in c.args.nodes.now c.range-rest.result)) given
    ∙ ap (λ (es : List (Vec ℕ Global × ℕ)). first_in (is_wanted c.args.naming (Some other) pattern) (names_in c.args.nodes.now es)) (c.range-rest.ensures.between tt)
    ∙ next_past c.args.naming c.args.nodes.now c.requires.sound c.args.folder c.in-Some.folder.now (sym c.in-Some.ensures) c.range-rest.ensures.ordered other pattern c.in-Some-stored_name.key.now (c.in-Some-stored_name.ensures ∙ ap (seen c.args.naming) c.as_slice.ensures)
    ∙ sym (ap (λ (a : Option Name). next_name (places_of c.args.naming c.args.nodes.now) c.args.folder a pattern) given)
