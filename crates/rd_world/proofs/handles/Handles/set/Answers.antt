use Rattle.std.proofs.Common.{◌∙◌, ap, sym, List, ℕ, Option}
use Rattle.std.specs.Map.{remove_entry}
use Rattle.std.specs.BTreeMap.{insert_entry, is_at}
use Rattle.rd_pending.specs.declared.calls.Handle.{Handle}
use Rattle.rd_printer.specs.Cache.{bytes_cmp}
use Rattle.rd_world.specs.Hearing.{holding_under}
use Rattle.rd_world.specs.Names.{by_name}
use Rattle.rd_world.proofs.NamesLemmas.{seen_inserted, seen_removed}
use Rattle.rd_world.proofs.handles.Handles.set.Goals as goal

pub returns-in_ok-insert-in-Some : goal.returns-in_ok-insert-in-Some
returns-in_ok-insert-in-Some c =
    let name = c.in_ok-to_vec-in-Some.ensures.items_if_clones_equal (λ x y e. e) in
    let handle = c.in-Some.handle in
    ap by_name c.in_ok-insert-in-Some.ensures.entries
    ∙ seen_inserted c.in_ok-to_vec-in-Some.field-0 handle c.self.inside.files.entries
    ∙ (λ i. insert_entry bytes_cmp (c.self.view_is i) (name i) handle)
    ∙ ap (λ (given : Option Handle). holding_under c.args.self.now c.args.name.now given) (sym c.in-Some.is)

pub returns-in-None : goal.returns-in-None
returns-in-None c =
    let name = c.args.name.now in
    ap by_name c.remove.ensures.entries
    ∙ seen_removed name c.self.inside.files.entries
    ∙ ap (λ (handles : List (List ℕ × Handle)). remove_entry (is_at (bytes_cmp name)) handles) c.self.view_is
    ∙ ap (λ (given : Option Handle). holding_under c.args.self.now name given) (sym c.in-None.is)
