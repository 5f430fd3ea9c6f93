-- What was left to be said on each channel that ended, and so all that a client told.
use Rattle.std.proofs.Common.{◌≡◌, ◌∙◌, sym, ap, subst, ℕ, ◌≤◌, Bool, true, List, [], length, map, Some, Ok}
use Rattle.rd_acted.proofs.DueLemmas.{told_is_due}
use Rattle.rd_acted.specs.Acted.{control_by_deeds}
use Rattle.rd_acted.proofs.AnsweredSessionLemmas.{reached_answered}
use Rattle.rd_acted.proofs.AnsweredWritableLemmas as answered
use Rattle.rd_acted.specs.AnsweredRefusing.{DeclareInRoom}
use Rattle.rd_base.specs.declared.journal.Key.{Key}
use Rattle.rd_client.specs.Core.{Outgoing}
use Rattle.rd_acted.proofs.JoinedScriptLemmas.{script_premises}
use Rattle.rd_orders.proofs.AddressLemmas as orders
use Rattle.rd_orders.specs.Orders.{DeclaresWritable}
use Rattle.rd_acted.proofs.RunsParts.{reached_behind}
use Rattle.rd_acted.proofs.RunsTogether.{knows}
use Rattle.rd_acted.specs.RunsMoves.{Reached}
use Rattle.rd_acted.specs.RunsPremises.{RunPremises}
use Rattle.rd_acted.proofs.ReachedLemmas.{opened_last}
use Rattle.rd_script.specs.Script.{script_of}
use Rattle.rd_script.specs.declared.keyword.Mode.{Mode}
use Rattle.rd_script.specs.declared.line.NumberedLine.{NumberedLine}
use Rattle.rd_script.specs.declared.script.Script.{Script}
use Rattle.rd_world.proofs.NumberedLemmas.{scripts_are_numbered}
use Rattle.rd_world.specs.Control.{Telling}
use Rattle.rd_declared.specs.Devices.{Declared}
use Rattle.rd_declared.specs.Declaring.{bare_lines, declared_devices}
use Rattle.rd_world.specs.Session.{IsLeftOver, replies_in}
use Rattle.rd_deeds.specs.Talk.{Deed, has_ended, open_channel}
use Rattle.rd_world.specs.World.{WorldState}
use Rattle.rd_said.proofs.LeftLemmas.{reached_over, waits_so}
use Rattle.rd_said.proofs.RestLemmas.{left_over}
use Rattle.rd_said.specs.Rest.{WasLeft, deeds_then}

-- ---- every run

module _ (lines : List NumberedLine) (starves : Key → Bool) (premises : RunPremises lines) (few : length lines ≤ 1000000) (declare : DeclareInRoom lines) (writable : DeclaresWritable lines) (w : WorldState) (reached : Reached lines starves w) where
  abbrev devs : List (ℕ × Declared)
  devs = declared_devices (bare_lines lines)

  abbrev things : List (ℕ × Telling)
  things = (control_by_deeds (map (λ (d : ℕ × Declared). d.0) devs) w.deeds).told

  rest_of : (c : ℕ) (os : List Outgoing) → WasLeft (declared_devices (bare_lines lines)) c os w.deeds → IsLeftOver (declared_devices (bare_lines lines)) things (replies_in (declared_devices (bare_lines lines)) w.deeds) c w.deeds (deeds_then c os [])
  rest_of c os left =
      left_over (declared_devices (bare_lines lines)) things (replies_in (declared_devices (bare_lines lines)) w.deeds) c os w.deeds
      (told_is_due (map (λ (d : ℕ × Declared). d.0) (declared_devices (bare_lines lines))) c w.deeds) (reached_answered lines starves premises few w reached declare).answers left

  -- of each channel that ended
  pub ended_left : (c : ℕ) → has_ended c w.deeds ≡ true → (rest : List Deed) × IsLeftOver (declared_devices (bare_lines lines)) things (replies_in (declared_devices (bare_lines lines)) w.deeds) c w.deeds rest
  ended_left c ended =
      let over = reached_over lines starves premises few declare writable w reached c ended in
      (deeds_then c over.os [], rest_of c over.os over.left)

  -- and what waits on the one that is open
  pub open_left : (c : ℕ) → open_channel w.deeds ≡ Some c → IsLeftOver (declared_devices (bare_lines lines)) things (replies_in (declared_devices (bare_lines lines)) w.deeds) c w.deeds (deeds_then c ((w.client).core).outbox [])
  open_left c opened =
      let last : c ≡ w.channels = opened_last w c (knows lines starves premises w (reached_behind lines starves w reached)).stands opened in
      let now : open_channel w.deeds ≡ Some w.channels = opened ∙ ap (λ (n : ℕ). Some n) last in
      rest_of c ((w.client).core).outbox (subst (λ (n : ℕ). WasLeft (declared_devices (bare_lines lines)) n ((w.client).core).outbox w.deeds) (sym last) (waits_so lines starves premises few declare writable w reached now))

-- ---- of scripts

pub script_left : (m : Mode) (text : List ℕ) (script : Script) → script_of m text ≡ Ok script → (starves : Key → Bool) (w : WorldState) → Reached script.lines starves w → (c : ℕ) → has_ended c w.deeds ≡ true
    → (rest : List Deed) × IsLeftOver (declared_devices (bare_lines script.lines)) (control_by_deeds (map (λ (d : ℕ × Declared). d.0) (declared_devices (bare_lines script.lines))) w.deeds).told
    (replies_in (declared_devices (bare_lines script.lines)) w.deeds) c w.deeds rest
script_left m text script is starves w reached =
    ended_left script.lines starves (script_premises m text script is) (scripts_are_numbered m text script is).few (answered.scripts_writable m text script is) (orders.scripts_writable m text script is) w reached
