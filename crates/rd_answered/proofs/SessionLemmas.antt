-- What a client tells in every session is its journals' answers, so both sides are joined.
use Rattle.std.proofs.Common.{◌≡◌, ℕ, ◌≤◌, Bool, List, [], refl, length, Ok}
use Rattle.rd_base.specs.declared.journal.Key.{Key}
use Rattle.rd_joined.proofs.RoomLemmas.{unworn}
use Rattle.rd_joined.proofs.ScriptLemmas.{script_premises}
use Rattle.rd_refused.proofs.JournalsAnswerLemmas.{reached_spelled}
use Rattle.rd_refused.proofs.JournalsDeclaredLemmas.{bounded_fit}
use Rattle.rd_refused.proofs.JournalsRunLemmas.{orderly_lawful, reached_orderly}
use Rattle.rd_refused.proofs.AnswerLemmas.{all_answer}
use Rattle.rd_refused.specs.Refused.{RefusesDirectly}
use Rattle.rd_refused.proofs.RepliedGoneLemmas.{reached_gone}
use Rattle.rd_refused.proofs.RepliedMatchLemmas.{all_same}
use Rattle.rd_refused.proofs.RepliedSinceLemmas.{all_since}
use Rattle.rd_refused.proofs.RunsParts.{reached_behind}
use Rattle.rd_refused.proofs.RunsTogether.{known}
use Rattle.rd_refused.specs.RunsMoves.{Reached}
use Rattle.rd_refused.specs.RunsPremises.{RunPremises}
use Rattle.rd_script.specs.Script.{script_of}
use Rattle.rd_script.specs.declared.keyword.Mode.{Mode}
use Rattle.rd_script.specs.declared.line.NumberedLine.{NumberedLine}
use Rattle.rd_script.specs.declared.script.Script.{Script}
use Rattle.rd_deeds.proofs.Joined.{carried_now}
use Rattle.rd_deeds.specs.Joining.{AreJoined, Joins}
use Rattle.rd_deeds.proofs.Joining.{all_join}
use Rattle.rd_world.proofs.NumberedLemmas.{scripts_are_numbered}
use Rattle.rd_declared.specs.Declaring.{bare_lines, declared_devices}
use Rattle.rd_world.specs.Recording.{client_id}
use Rattle.rd_world.specs.Session.{replies_in}
use Rattle.rd_deeds.specs.Talk.{EachAfter}
use Rattle.rd_deeds.specs.Told.{Answers, AreAnswered}
use Rattle.rd_world.specs.World.{WorldState}
use Rattle.rd_answered.specs.Refusing.{DeclareInRoom}
use Rattle.rd_answered.proofs.FirstLemmas.{begins_good}
use Rattle.rd_answered.proofs.PartLemmas.{IsGood, behind_good}
use Rattle.rd_answered.proofs.WritableLemmas.{scripts_writable}
use Rattle.rd_answered.proofs.MeetLemmas.{joined_behind}

module _ (lines : List NumberedLine) (starves : Key → Bool) (premises : RunPremises lines) (few : length lines ≤ 1000000) (w : WorldState) (reached : Reached lines starves w) where
  answers_refused : EachAfter RefusesDirectly w.deeds → EachAfter (Answers (replies_in (declared_devices (bare_lines lines)) w.deeds)) w.deeds
  answers_refused refuses =
      let fit = bounded_fit lines premises.bounded in
      let orderly = reached_orderly lines starves w fit reached in
      all_answer (replies_in (declared_devices (bare_lines lines)) w.deeds) w.deeds refuses
      (all_since (declared_devices (bare_lines lines)) w.deeds fit (orderly_lawful w orderly) [] w.deeds refl (reached_gone lines starves fit premises w reached).each
      (all_same (declared_devices (bare_lines lines)) w.deeds (carried_now w.deeds (known lines starves premises w reached).carries.each) (orderly_lawful w orderly) orderly.held.reads
      [] w.deeds refl (reached_spelled lines starves fit premises w reached).each))

  joined_if : EachAfter RefusesDirectly w.deeds → AreJoined client_id (replies_in (declared_devices (bare_lines lines)) w.deeds) w.deeds
  joined_if refuses =
      let fit = bounded_fit lines premises.bounded in
      joined_behind lines starves fit premises w.deeds w (reached_behind lines starves w reached) (answers_refused refuses) (unworn lines starves premises w reached few fit)

  module _ (writable : DeclareInRoom lines) where
    -- what was said of each device is what the client's marks say, and a device that the host was told of last has a live station
    pub reached_good : IsGood w
    reached_good =
        let fit = bounded_fit lines premises.bounded in
        behind_good lines starves fit premises (begins_good lines premises writable) w (reached_behind lines starves w reached) (unworn lines starves premises w reached few fit)

    pub reached_refuses : EachAfter RefusesDirectly w.deeds
    reached_refuses = reached_good.0.each

    pub reached_joined : AreJoined client_id (replies_in (declared_devices (bare_lines lines)) w.deeds) w.deeds
    reached_joined = joined_if reached_refuses

    pub reached_answered : AreAnswered (replies_in (declared_devices (bare_lines lines)) w.deeds) w.deeds
    reached_answered = reached_joined.told

    pub reached_joins : Joins client_id (replies_in (declared_devices (bare_lines lines)) w.deeds) w.deeds
    reached_joins = all_join client_id (replies_in (declared_devices (bare_lines lines)) w.deeds) w.deeds reached_joined

-- ---- of scripts

module _ (m : Mode) (text : List ℕ) (script : Script) (is : script_of m text ≡ Ok script) (starves : Key → Bool) (w : WorldState) (reached : Reached script.lines starves w) where
  pub script_joined : AreJoined client_id (replies_in (declared_devices (bare_lines script.lines)) w.deeds) w.deeds
  script_joined = reached_joined script.lines starves (script_premises m text script is) (scripts_are_numbered m text script is).few w reached (scripts_writable m text script is)

  pub script_joins : Joins client_id (replies_in (declared_devices (bare_lines script.lines)) w.deeds) w.deeds
  script_joins = all_join client_id (replies_in (declared_devices (bare_lines script.lines)) w.deeds) w.deeds script_joined
