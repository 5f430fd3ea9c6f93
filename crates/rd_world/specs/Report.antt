-- The report of a session as it stands at its end.
use Rattle.std.specs.Prelude.{ℕ, List, [], ◌++◌, codes, length, map, zip}
use Rattle.std.specs.List.{flat_map, range_with_len}
use Rattle.rd_base.specs.History.{History}
use Rattle.rd_script.specs.declared.line.NumberedLine.{NumberedLine}
use Rattle.rd_script.specs.declared.outcome.Outcome.{Outcome}
use Rattle.rd_script.specs.Report.{device_line, document_lines, hex_text, idle_line, outcome_line}
use Rattle.rd_station.specs.Station.{StationState}
use Rattle.rd_declared.specs.declared.device.SessionDevice.{SessionDevice}
use Rattle.rd_declared.specs.declared.device.SessionDevice.TheVariants as session
use Rattle.rd_world.specs.World.{ApplicationState, WorldState}

-- the outcomes of an application's lines, each under its application and its number, from 1 on
abbrev pub outcomes_under : ℕ × ApplicationState → List ((ℕ × ℕ) × Outcome)
outcomes_under e = let a = e.1 in map (λ (o : ℕ × Outcome). ((e.0, o.0), o.1)) (zip (range_with_len 1 (length a.outcomes)) a.outcomes)

-- by application, and then by line
abbrev pub outcomes_of : WorldState → List ((ℕ × ℕ) × Outcome)
outcomes_of w = flat_map outcomes_under w.applications

abbrev pub history_of : ℕ × StationState SessionDevice → ℕ × History
history_of e = let s = e.1 in (e.0, record { items = s.journal; spare = 0 })

-- the finished documents of a device
abbrev pub documents_in : SessionDevice → List (List ℕ)
documents_in (session.Drive s) = []
documents_in (session.Printer s) = s.finished

abbrev pub documents_of : ℕ × StationState SessionDevice → ℕ × List (List ℕ)
documents_of e = let s = e.1 in (e.0, documents_in s.device)

abbrev pub cache_line : List ℕ × List ℕ → List ℕ
cache_line e = codes "cache " ++ hex_text e.0 ++ codes " " ++ hex_text e.1 ++ codes "\n"

abbrev pub report_text : List NumberedLine → WorldState → List ℕ
report_text lines w =
    flat_map (outcome_line lines) (outcomes_of w)
    ++ flat_map idle_line w.idle
    ++ flat_map (λ e. device_line (history_of e)) w.stations
    ++ flat_map (λ e. document_lines (documents_of e)) w.stations
    ++ flat_map cache_line w.cache
