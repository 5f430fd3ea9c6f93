use Rattle.std.proofs.Common.{◌≡◌, ◌∙◌, ap, cond, Some}
use Rattle.std.specs.Option.{is_some}
use Rattle.std.specs.Ordering.{nat_cmp}
use Rattle.std.specs.BTreeMap.{is_at}
use Rattle.std.proofs.lemmas.Option.{same_Some}
use Rattle.rd_folder_drive.specs.declared.open.Open.{Open}
use Rattle.rd_folder_drive.specs.Closing.{with_uses_left}
use Rattle.rd_folder_drive.specs.Table.{open_at}
use Rattle.rd_folder_drive.proofs.table.Table.lose_use.Goals as goal

pub returns-in-Some-clause-loses : goal.returns-in-Some-clause-loses
returns-in-Some-clause-loses c = λ o uses on before. λ k.
    let same : c.in-Some.left.now ≡ o = same_Some (c.in-Some.left.now) o (c.in-Some.ensures.value ∙ on) in
    let left : c.lose_use.new.self ≡ with_uses_left o uses c.args.pending =
    c.lose_use.ensures uses (ap (λ (x : Open). x.uses) same ∙ before) ∙ ap (λ (x : Open). with_uses_left x uses c.args.pending) same in
    ((c.get_mut.follows.holds c.lose_use.new.self).3 (ap is_some on)).0 k ∙ ap (λ (x : Open). cond (is_at (nat_cmp c.args.node) k) (Some x) (open_at c.args.self.now k)) left
