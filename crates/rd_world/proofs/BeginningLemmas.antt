-- A session as its lines begin it: their settings change nothing else.
use Rattle.std.proofs.Common.{◌≡◌, refl, ap, ◌∙◌, ℕ, List, [], ◌∷◌, Option, None}
use Rattle.std.specs.Prelude.{fold, replicate}
use Rattle.rd_drive.specs.declared.plan.Job.{Job}
use Rattle.rd_script.specs.declared.line.Line.{Line}
use Rattle.rd_script.specs.declared.line.Line.TheVariants as line
use Rattle.rd_script.specs.declared.line.NumberedLine.{NumberedLine}
use Rattle.rd_world.specs.declared.opening.Settings.{Settings}
use Rattle.rd_declared.specs.Declaring.{bare_lines, declared_devices}
use Rattle.rd_world.specs.Opening.{BeginsBy}
use Rattle.rd_world.specs.Run.{applications_of, new_world, setting, world_of}
use Rattle.rd_world.specs.World.{WorldState}

-- with other settings
abbrev pub set_to : WorldState → ℕ → ℕ → ℕ → List (Option (ℕ × Job)) → WorldState
set_to w moment piece draws hands = record w { moment = moment; piece = piece; draws = draws; hands = hands }

one_set : (w : WorldState) (l : Line) (m p d : ℕ) (h : List (Option (ℕ × Job))) → set_to (setting w l) m p d h ≡ set_to w m p d h
unfolding setting
one_set w (line.Seed number) m p d h = refl
one_set w (line.Clock moment) m p d h = refl
one_set w (line.Piece most) m p d h = refl
one_set w (line.Workers count) m p d h = refl
one_set w _ m p d h = refl

all_set : (ls : List Line) (w : WorldState) →
    let x = fold setting w ls in x ≡ set_to w x.moment x.piece x.draws x.hands
all_set [] w = refl
all_set (l ∷ ls) w =
    let x = fold setting (setting w l) ls in
    all_set ls (setting w l) ∙ one_set w l x.moment x.piece x.draws x.hands

set_as : (w x : WorldState) (s : Settings) → x ≡ set_to w x.moment x.piece x.draws x.hands → BeginsBy x s → x ≡ set_to w s.moment s.piece s.draws (replicate s.hands None)
set_as w x s is b =
    is
    ∙ ap (λ (m : ℕ). set_to w m x.piece x.draws x.hands) b.moment
    ∙ ap (λ (p : ℕ). set_to w s.moment p x.draws x.hands) b.piece
    ∙ ap (λ (d : ℕ). set_to w s.moment s.piece d x.hands) b.draws
    ∙ ap (λ (h : List (Option (ℕ × Job))). set_to w s.moment s.piece s.draws h) b.hands

-- What lines begin has their settings, and beside them what they declare.
pub begun_by : (lines : List NumberedLine) (s : Settings) → BeginsBy (world_of lines) s →
    world_of lines ≡ set_to (new_world (declared_devices (bare_lines lines)) (applications_of (bare_lines lines))) s.moment s.piece s.draws (replicate s.hands None)
begun_by lines s b =
    set_as (new_world (declared_devices (bare_lines lines)) (applications_of (bare_lines lines))) (world_of lines) s
    (all_set (bare_lines lines) (new_world (declared_devices (bare_lines lines)) (applications_of (bare_lines lines)))) b
