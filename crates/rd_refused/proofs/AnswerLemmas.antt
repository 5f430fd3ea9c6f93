-- A completion whose refusal is the right one is the answer to its key.
use Rattle.std.proofs.Common.{inl, inr, List, [], ◌∷◌}
use Rattle.rd_deeds.specs.Talk.{Deed, EachAfter, adds, client_reads, client_writes, completes, host_begins, host_ends, host_reads, host_writes, removes, stores, submits, takes, tells}
use Rattle.rd_deeds.specs.Told.{Answers, Replies}
use Rattle.rd_replied.specs.Since.{AnswersSince}
use Rattle.rd_refused.specs.Refused.{RefusesDirectly}

module _ (replies : Replies) where
  one_answers : (before : List Deed) (y : Deed) → RefusesDirectly before y → AnswersSince replies before y → Answers replies before y
  one_answers before (completes key m) refuses is = (
    is.request,
    is.reply,
    is.read,
    is.completes,
    elim is.given [
      | inl replied ↦ inl replied
      | inr other ↦ elim other [
        | inl cancelled ↦ inr (inl cancelled)
        | inr never ↦ inr (inr (never.0, refuses is.request is.reply is.read is.completes never.0 never.1))
      ]
    ],
  )
  one_answers before (host_begins c) refuses is = tt
  one_answers before (host_ends c) refuses is = tt
  one_answers before (removes d) refuses is = tt
  one_answers before (adds d) refuses is = tt
  one_answers before (submits a n o) refuses is = tt
  one_answers before (takes n) refuses is = tt
  one_answers before (tells n) refuses is = tt
  one_answers before (host_writes c m) refuses is = tt
  one_answers before (host_reads c m) refuses is = tt
  one_answers before (client_reads c m) refuses is = tt
  one_answers before (client_writes c m) refuses is = tt
  one_answers before (stores d x) refuses is = tt

  pub all_answer : (deeds : List Deed) → EachAfter RefusesDirectly deeds → EachAfter (AnswersSince replies) deeds → EachAfter (Answers replies) deeds
  all_answer [] refuses each = tt
  all_answer (y ∷ before) refuses each = (one_answers before y refuses.0 each.0, all_answer before refuses.1 each.1)
