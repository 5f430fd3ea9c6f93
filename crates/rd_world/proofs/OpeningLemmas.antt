-- What lines declare: the settings of a session.
use Rattle.std.proofs.Common.{refl, lit≤, List, [], ◌∷◌}
use Rattle.std.specs.Prelude.{fold}
use Rattle.rd_script.specs.declared.line.Line.{Line}
use Rattle.rd_script.specs.declared.line.Line.TheVariants as line
use Rattle.rd_script.specs.declared.line.NumberedLine.{NumberedLine}
use Rattle.rd_world.specs.declared.opening.Settings.{Settings}
use Rattle.rd_declared.specs.Declaring.{IsDeclarable, bare_lines, declared_devices}
use Rattle.rd_world.specs.Opening.{AreSettings, BeginsBy, first_settings, with_line_setting, with_setting}
use Rattle.rd_world.specs.Run.{applications_of, new_world, setting, world_of}
use Rattle.rd_world.specs.World.{WorldState}

one_setting : (w : WorldState) (s : Settings) (l : Line) → BeginsBy w s → BeginsBy (setting w l) (with_setting s l)
unfolding setting with_setting
one_setting w s (line.Seed number) b = record { moment = b.moment; draws = refl; piece = b.piece; hands = b.hands }
one_setting w s (line.Clock moment) b = record { moment = refl; draws = b.draws; piece = b.piece; hands = b.hands }
one_setting w s (line.Piece most) b = record { moment = b.moment; draws = b.draws; piece = refl; hands = b.hands }
one_setting w s (line.Workers count) b = record { moment = b.moment; draws = b.draws; piece = b.piece; hands = refl }
one_setting w s _ b = b

all_settings : (lines : List NumberedLine) (w : WorldState) (s : Settings) → BeginsBy w s → BeginsBy (fold setting w (bare_lines lines)) (fold with_line_setting s lines)
all_settings [] w s b = b
all_settings (l ∷ lines) w s b = all_settings lines (setting w l.line) (with_setting s l.line) (one_setting w s l.line b)

-- The session of lines begins by what they set.
pub lines_begin : (lines : List NumberedLine) → BeginsBy (world_of lines) (fold with_line_setting first_settings lines)
lines_begin lines =
    all_settings lines (new_world (declared_devices (bare_lines lines)) (applications_of (bare_lines lines))) first_settings (record { moment = refl; draws = refl; piece = refl; hands = refl })

pub first_within : AreSettings first_settings
first_within = record { some_piece = lit≤ tt; most_piece = lit≤ tt; some_hands = lit≤ tt; most_hands = lit≤ tt }

-- A line keeps the settings within their limits.
pub setting_within : (s : Settings) (l : Line) → AreSettings s → IsDeclarable l → AreSettings (with_setting s l)
unfolding with_setting IsDeclarable
setting_within s (line.Piece most) are within = record { some_piece = within.0; most_piece = within.1; some_hands = are.some_hands; most_hands = are.most_hands }
setting_within s (line.Workers count) are within = record { some_piece = are.some_piece; most_piece = are.most_piece; some_hands = within.0; most_hands = within.1 }
setting_within s (line.Seed number) are within = record { some_piece = are.some_piece; most_piece = are.most_piece; some_hands = are.some_hands; most_hands = are.most_hands }
setting_within s (line.Clock moment) are within = record { some_piece = are.some_piece; most_piece = are.most_piece; some_hands = are.some_hands; most_hands = are.most_hands }
setting_within s _ are within = are
