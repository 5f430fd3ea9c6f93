use Rattle.std.proofs.Common.{◌≡◌, ◌∙◌, refl, sym, ap, subst, ℕ, ◌<◌, Option, Some, length, map, set, get_or, [], None, Vec}
use Rattle.std.proofs.lemmas.List.{length-set}
use Rattle.rd_dirinfo.specs.declared.naming.Naming.TheVariants.{Exact}
use Rattle.rd_drive.specs.DriveState.{Node, in_order, new_node}
use Rattle.rd_folder.specs.InMemory.{carried, relocating, changed_node, left_out, paths_of}
use Rattle.std.specs.Option.{MatchOption}
use Rattle.rd_folder.proofs.EditLemmas.{found_at}
use Rattle.rd_folder.proofs.RelocateLemmas.{carried_left, length_left, length_paths}
use Rattle.rd_folder.proofs.nodes.relocate.Goals as goal

pub set_paths-requires-clause-each : goal.set_paths-requires-clause-each
set_paths-requires-clause-each c =
    ap length c.leave_out-2.ensures
    ∙ length_left c.in_ok-paths.paths.items c.replace-rest.result.items c.place_of-target.result
    (length_paths c.in_ok-paths.paths.items c.args.nodes.now.items _ c.in_ok-paths.ensures ∙ sym (ap (λ (v : Vec Node _). length v.items) c.replace-rest.ensures.value ∙ ap length c.change_at.ensures ∙ length-set c.args.nodes.now.items c.args.at _))
    ∙ sym (ap length c.leave_out.ensures)

pub returns-clause-moved : goal.returns-clause-moved
returns-clause-moved c =
    let changed : Node = changed_node (get_or c.args.nodes.now.items c.args.at (new_node [] None 0 0)) c.args.moment in
    let rest = ap (λ (v : Vec Node _). v.items) c.replace-rest.ensures.value ∙ c.change_at.ensures in
    c.set_paths.ensures
    ∙ (λ i. in_order Exact (carried (c.leave_out.ensures i) (paths_of (c.leave_out-2.ensures i))))
    ∙ (λ i. in_order Exact (carried (left_out (rest i) c.place_of-target.result) (paths_of (left_out c.in_ok-paths.paths.items c.place_of-target.result))))
    ∙ ap (in_order Exact) (carried_left c.args.from.now c.args.to.now c.args.nodes.now.items c.in_ok-paths.paths.items c.in_ok-paths.ensures c.args.at changed (new_node [] None 0 0) refl c.place_of-target.result)
    ∙ ap (λ target. in_order Exact (map (relocating c.args.from.now c.args.to.now) (left_out (set c.args.nodes.now.items c.args.at changed) target))) c.place_of-target.ensures

pub leave_out-requires-2 : goal.leave_out-requires-2
leave_out-requires-2 c = by c.place_of-target.result refl
  where
    by : (found : Option ℕ) → c.place_of-target.result ≡ found → MatchOption found (Unit {0}) (λ i. i < length c.in_ok-paths.paths.items)
    by None is = tt
    by (Some i) is =
        let here : i < length c.args.nodes.now.items = (found_at _ c.args.nodes.now.items i (new_node [] None 0 0) (sym c.place_of-target.ensures ∙ is)).0 in
        subst (λ (n : ℕ). i < n) (sym (length_paths c.in_ok-paths.paths.items c.args.nodes.now.items _ c.in_ok-paths.ensures)) here
