-- A worked summary.
use Rattle.std.specs.Prelude.{ℕ, List, [], ◌∷◌}
use Rattle.rd_base.specs.declared.journal.Cause.TheVariants as cause
use Rattle.rd_base.specs.Statuses.{success}
use Rattle.rd_irp.specs.declared.completion.Body.TheVariants as body
use Rattle.rd_script.specs.declared.outcome.Outcome.{Outcome}
use Rattle.rd_script.specs.declared.outcome.Outcome.TheVariants as outcome
use Rattle.rd_script.specs.declared.outcome.Refusal.TheVariants as refusal

-- Application 1 made its file, wrote, read three bytes, and lost its last request; a line of application 2 was refused.
abbrev pub outcomes_worked : List ((ℕ × ℕ) × Outcome)
outcomes_worked =
    ((1, 1), outcome.Done (record { status = success; body = body.Created 1 2 }))
    ∷ ((1, 2), outcome.Done (record { status = success; body = body.Count 3 }))
    ∷ ((1, 3), outcome.Done (record { status = success; body = body.Buffer (1 ∷ 2 ∷ 255 ∷ []) }))
    ∷ ((1, 4), outcome.Lost cause.Dropped)
    ∷ ((2, 1), outcome.Refused refusal.NoChannel)
    ∷ []
