use Rattle.std.proofs.Common.{◌-◌, [], List, length, ap, ◌∙◌, sym, None, Option}
use Rattle.std.specs.List.{last_or}
use Rattle.std.specs.Option.{unwrap_or}
use Rattle.rd_dirinfo.specs.Naming.{Name}
use Rattle.rd_dirinfo.specs.Paths.{parts_of, placed_parts, Part}
use Rattle.rd_dirinfo.proofs.PathLemmas.{parts_without, last_with, after_at}
use Rattle.rd_dirinfo.proofs.pattern.last_part.Goals as goal

pub loop-i-preserved : goal.loop-i-preserved
loop-i-preserved c =
    let found = sym c.first_backslash.ensures ∙ c.in-Some.is in
    let there = after_at (length c.args.units.now) c.loop-i.rest.now c.after-rest.result.now c.in-Some.i found c.loop-i.invariant.within c.after-rest.ensures in
    record {
      same = c.loop-i.invariant.same ∙ last_with (length c.args.units.now - length c.loop-i.rest.now) c.loop-i.rest.now c.in-Some.i found
          ∙ (λ i. last_or None (placed_parts (there.0 i) (parts_of (sym c.after-rest.ensures i))));
      within = there.1;
    }

pub returns-clause-value : goal.returns-clause-value
returns-clause-value c =
    ap (λ (part : Option Part). unwrap_or part (record { at = 0; name = [] }))
    (c.loop-i.invariant.same ∙ ap (λ (parts : List Name). last_or None (placed_parts (length c.args.units.now - length c.loop-i.rest.now) parts)) (parts_without c.loop-i.rest.now (sym c.first_backslash.ensures ∙ c.in_default.is)))
