use Rattle.std.proofs.Common.{◌∙◌, subst, ℕ, List}
use Rattle.rd_declared.specs.Devices.{Declared}
use Rattle.rd_declared.specs.Declaring.{bare_lines}
use Rattle.rd_sharing.specs.Refused.{StopsOpening}
use Rattle.rd_sharing.specs.ServedOpening.{folders_told}
use Rattle.rd_sharing.proofs.DevicesLemmas.{beside_of}
use Rattle.rd_sharing.proofs.ClosingLemmas.{no_trouble}
use Rattle.rd_sharing.proofs.FoldersLemmas.{stops_then}
use Rattle.rd_sharing.proofs.OpenedLemmas.{all_reached, ids_rise, kept_of_lines, opens_served}
use Rattle.rd_sharing.proofs.opening.open_served.Goals as goal

pub open_folders-requires-clause-same : goal.open_folders-requires-clause-same
open_folders-requires-clause-same g c κs within = beside_of _ _ _ c.in_ok-served.ensures.kept

pub returns-clause-opened : goal.returns-clause-opened
returns-clause-opened g c =
    let kept = kept_of_lines (bare_lines c.args.lines.now) _ _ _ _ _ _ c.in_ok-drives.ensures.declared c.in_ok-served.ensures.kept c.in_default.ensures.opened in
    (kept.0, kept.1, rw c.of.ensures (opens_served kept.0 _ _ kept.2))

pub returns-clause-same : goal.returns-clause-same
returns-clause-same g c =
    let kept = kept_of_lines (bare_lines c.args.lines.now) _ _ _ _ _ _ c.in_ok-drives.ensures.declared c.in_ok-served.ensures.kept c.in_default.ensures.opened in
    (beside_of kept.0 _ _ kept.2).stations

pub returns-clause-rise : goal.returns-clause-rise
returns-clause-rise g c =
    let kept = kept_of_lines (bare_lines c.args.lines.now) _ _ _ _ _ _ c.in_ok-drives.ensures.declared c.in_ok-served.ensures.kept c.in_default.ensures.opened in
    ids_rise kept.0 _ _ kept.2

pub returns-clause-reached : goal.returns-clause-reached
returns-clause-reached g c =
    let kept = kept_of_lines (bare_lines c.args.lines.now) _ _ _ _ _ _ c.in_ok-drives.ensures.declared c.in_ok-served.ensures.kept c.in_default.ensures.opened in
    all_reached kept.0 _ _ kept.2

pub returns-in-Err-clause-trouble : goal.returns-in-Err-clause-trouble
returns-in-Err-clause-trouble g c = c.close_all.ensures.trouble ∙ no_trouble _ _ c.open_folders.ensures.calm ∙ c.open_folders.ensures.trouble

-- closing leaves what is told of openings as these left it
pub returns-in-Err-clause-refused : goal.returns-in-Err-clause-refused
returns-in-Err-clause-refused g c =
    let before = folders_told (g.D.Folders.opened c.args.folders.now) (g.D.Folders.failures c.args.folders.now) (g.D.Folders.trouble c.args.folders.now) in
    let mid = folders_told (g.D.Folders.opened c.open_folders.new.folders) (g.D.Folders.failures c.open_folders.new.folders) (g.D.Folders.trouble c.open_folders.new.folders) in
    stops_then _ before mid _ c.in-Err.no c.close_all.ensures.opened c.close_all.ensures.failures
    (subst (λ (ds : List (ℕ × Declared)). StopsOpening ds before mid c.in-Err.no) c.in_ok-drives.ensures.declared c.in-Err.ensures.refused)
