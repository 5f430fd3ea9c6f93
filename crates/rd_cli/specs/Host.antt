-- How the command `host` ends.
use Rattle.std.specs.Prelude.{◌≡◌, ℕ, List}
use Rattle.std.specs.List.{flat_map}
use Rattle.rd_carry.specs.declared.ended.Ended.{Ended}
use Rattle.rd_host_session.specs.Channels.{TellsCounts, linked_told}
use Rattle.rd_host_session.specs.Hosted.{HasHosted}
use Rattle.rd_script.specs.declared.keyword.Mode.TheVariants as mode
use Rattle.rd_script.specs.declared.outcome.Outcome.{Outcome}
use Rattle.rd_script.specs.declared.script.Script.{Script}
use Rattle.rd_script.specs.Report.{outcome_line}
use Rattle.rd_cli.specs.Outside.{Linked, Stream}
use Rattle.rd_cli.specs.Serving.{IsEndOfServing}

-- What holds of a session of a script's applications that came to this end, and of the text that tells of it.
pub record IsHostSession {L : Type 0} (linked linked_after : Linked L) (script : Script) (e : Ended) (text : List ℕ) : Type 0 where
  -- what came of each line, by its application and its place among the lines of that
  pub told : List ((ℕ × ℕ) × Outcome)
  -- by one history of the front and one of the table, by which the script was played; where memory ran out nothing is said
  pub hosted : HasHosted script.lines e told (linked_told linked.links linked.failures) (linked_told linked_after.links linked_after.failures)
  pub counts : TellsCounts e linked.failures linked_after.failures linked.trouble linked_after.trouble
  -- the report of these outcomes, which has no other lines
  pub lines : text ≡ flat_map (outcome_line script.lines) told

-- How the command ends with a status: as one that serves a host's script. Where nothing was served nothing was connected; it opens no folder.
abbrev pub IsEndOfHost : {S K L : Type 0} → (input input_after : Stream S) → (output output_after : Stream K) → (linked linked_after : Linked L) → ℕ → Type 0
IsEndOfHost input input_after output output_after linked linked_after status =
    IsEndOfServing mode.Host (IsHostSession linked linked_after) (linked_after ≡ linked) (λ script. ⊥) input input_after output output_after status
