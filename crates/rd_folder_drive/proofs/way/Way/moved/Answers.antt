use Rattle.std.proofs.Common.{◌≡◌, ◌∙◌, sym, ap, ◌++◌, length, drop}
use Rattle.rd_dirinfo.specs.declared.naming.Naming.TheVariants.{Exact}
use Rattle.rd_dirinfo.specs.Paths.{is_path, is_prefix, is_within_limits}
use Rattle.rd_folder_drive.proofs.RenameLemmas.{is_true}
use Rattle.rd_folder_drive.proofs.WayLemmas.{moved_is_path}
use Rattle.rd_folder_drive.proofs.way.Way.moved.Goals as goal

pub invariant_of-result : goal.invariant_of-result
invariant_of-result c =
    let path : c.names-path.result.now ≡ c.args.self.now = c.names-path.ensures.names in
    let items : c.put_names-2.new.names.items ≡ c.args.to.now ++ drop (length c.args.from.now) c.args.self.now =
    c.in_ok-put_names-2.ensures ∙ (λ i. (c.in_ok-put_names.ensures ∙ (λ j. c.in_ok-joined.ensures.items j ++ c.names.ensures.names j)) i ++ (c.after.ensures ∙ ap (drop (length c.args.from.now)) path) i) in
    ap is_path items
    ∙ moved_is_path c.args.from.now c.args.to.now c.args.self.now (is_true (is_path c.args.to.now) c.names.ensures.within) (is_true (is_path c.args.self.now) c.names-path.ensures.within)
    (ap (is_prefix Exact c.args.from.now) (sym path) ∙ sym c.if-not-is_prefix.ensures)
    (ap is_within_limits (sym items) ∙ ap is_within_limits (sym c.as_slice.ensures.value) ∙ sym c.if-not-is_within_limits.ensures)
