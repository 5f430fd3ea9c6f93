-- The summary of a load: how many of its lines the host's table took, and what was read.
use Rattle.std.specs.Prelude.{ℕ, ◌+◌, Bool, true, false, List, [], ◌++◌, length, codes, count_by, decimal}
use Rattle.std.specs.List.{flat_map, sum}
use Rattle.rd_irp.specs.declared.completion.Body.{Body}
use Rattle.rd_irp.specs.declared.completion.Body.TheVariants as body
use Rattle.rd_script.specs.declared.outcome.Outcome.{Outcome}
use Rattle.rd_script.specs.declared.outcome.Outcome.TheVariants as outcome

-- whether a line's request was completed
abbrev pub was_done : Outcome → Bool
was_done (outcome.Done reply) = true
was_done (outcome.Lost why) = false
was_done (outcome.Refused why) = false

-- whether it was lost before that
abbrev pub was_lost : Outcome → Bool
was_lost (outcome.Done reply) = false
was_lost (outcome.Lost why) = true
was_lost (outcome.Refused why) = false

-- the bytes of a body that is a buffer
abbrev pub buffer_of : Body → List ℕ
buffer_of (body.Created file information) = []
buffer_of body.Closed = []
buffer_of (body.Count count) = []
buffer_of (body.Buffer bytes) = bytes
buffer_of body.Locked = []
buffer_of body.Fault = []

-- the bytes that a load's line read: none of a load but one that reads is replied a buffer
abbrev pub bytes_read_by : Outcome → List ℕ
bytes_read_by (outcome.Done reply) = buffer_of reply.body
bytes_read_by (outcome.Lost why) = []
bytes_read_by (outcome.Refused why) = []

-- how many lines are done, and how many lost
abbrev pub count_done : List ((ℕ × ℕ) × Outcome) → ℕ
count_done entries = count_by (λ (e : (ℕ × ℕ) × Outcome). was_done e.1) entries

abbrev pub count_lost : List ((ℕ × ℕ) × Outcome) → ℕ
count_lost entries = count_by (λ (e : (ℕ × ℕ) × Outcome). was_lost e.1) entries

-- the bytes that all lines of a load read
abbrev pub bytes_read : List ((ℕ × ℕ) × Outcome) → List ℕ
bytes_read entries = flat_map (λ (e : (ℕ × ℕ) × Outcome). bytes_read_by e.1) entries

-- The summary of a load of this number, by the outcomes of its lines. A line was accepted where the host's table took its request: then it is done or lost.
-- The sum is that of all bytes that were read.
abbrev pub summary_of : ℕ → List ((ℕ × ℕ) × Outcome) → List ℕ
summary_of number entries =
    codes "load " ++ decimal number
    ++ codes " accepted " ++ decimal (count_done entries + count_lost entries)
    ++ codes " done " ++ decimal (count_done entries)
    ++ codes " lost " ++ decimal (count_lost entries)
    ++ codes " bytes " ++ decimal (length (bytes_read entries))
    ++ codes " sum " ++ decimal (sum (bytes_read entries)) ++ codes "\n"
