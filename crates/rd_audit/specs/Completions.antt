-- The first completion of a recording that doesn't belong to its request, and the first channel that lacks one.
use Rattle.std.specs.Prelude.{ℕ, min, ◌+◌, ◌==◌, ◌&&◌, ◌||◌, not, nat_lt, nat_le, if◌then◌else◌, Bool, true, false, List, [], ◌∷◌, Option, Some, None, is_none, is_some, slice_get, option_and_then, option_map}
use Rattle.std.specs.List.{list_any}
use Rattle.std.specs.Option.{option_map_or, option_or}
use Rattle.rd_base.specs.Statuses.{cancelled, insufficient_resources, no_such_device}
use Rattle.rd_deeds.specs.Told.{worn_entries}
use Rattle.rd_recorded.specs.Channels.{ClientSaid, HeardChannel, HeardRequest, Saying, announces, completes, removes}
use Rattle.rd_audit.specs.declared.course.Course.{Course}
use Rattle.rd_audit.specs.declared.course.Given.{Given}
use Rattle.rd_audit.specs.declared.course.Given.TheVariants as given
use Rattle.rd_audit.specs.declared.course.Handed.{Handed}
use Rattle.rd_audit.specs.declared.verdict.AuditWhy.{AuditWhy}
use Rattle.rd_audit.specs.declared.verdict.AuditWhy.TheVariants as why
use Rattle.rd_audit.specs.declared.verdict.Verdict.{Verdict}
use Rattle.rd_audit.specs.declared.verdict.Verdict.TheVariants as verdict
use Rattle.rd_audit.specs.Replayed.{Account}
use Rattle.rd_audit.specs.Said.{status_in}

-- whether a request came to its device
abbrev pub has_come : Course → Bool
has_come course = by course.given
  where
    by : Given → Bool
    by given.Absent = false
    by _ = true

-- whether a device is one of these
abbrev pub is_told_of : ℕ → List ℕ → Bool
is_told_of device ids = list_any (λ id. id == device) ids

-- whether a device is said to be gone, after something more was said, where this was said before
abbrev pub said_gone_by : ℕ → ClientSaid → Bool → Bool
said_gone_by device (announces ids) before = if is_told_of device ids then false else before
said_gone_by device (removes ids) before = if is_told_of device ids then true else before
said_gone_by device said before = before

-- the entry of its last removal, after something more was said at an entry
abbrev pub removed_by : ℕ → (entry : ℕ) → ClientSaid → ℕ → ℕ
removed_by device entry (removes ids) before = if is_told_of device ids then entry else before
removed_by device entry said before = before

-- the last of some numbers
abbrev pub last_of : List ℕ → Option ℕ
last_of [] = None
last_of (n ∷ later) = option_or (last_of later) (Some n)

-- Of the indices from one on, one a request, those of which a test holds.
abbrev pub indices_where : (ℕ → HeardRequest → Bool) → ℕ → List HeardRequest → List ℕ
indices_where test index [] = []
indices_where test index (a ∷ later) = if test index a then index ∷ indices_where test (index + 1) later else indices_where test (index + 1) later

-- The channel with a number, with these requests, where this came of all requests at their devices.
module _ (r : Account) (number : ℕ) (requests : List HeardRequest) where
  abbrev pub course_at : ℕ → Course
  course_at index = r.courses (record { channel = number; index = index })

  -- the requests to a device that came, and those that never did
  abbrev pub came_to : ℕ → List ℕ
  came_to device = indices_where (λ index (a : HeardRequest). a.device == device && has_come (course_at index)) 0 requests

  abbrev pub never_came_to : ℕ → List ℕ
  never_came_to device = indices_where (λ index (a : HeardRequest). a.device == device && not (has_come (course_at index))) 0 requests

  -- the request to a device that is completed
  abbrev pub completed_of : ℕ → ClientSaid → Option ℕ
  completed_of device (completes (Some index) message) =
      option_and_then (λ (a : HeardRequest). if a.device == device then Some index else None) (slice_get requests index)
  completed_of device said = None

  -- ---- by what was said before, the newest first

  -- it was said last of the device that it is gone, or nothing was said
  abbrev pub is_gone : ℕ → List Saying → Bool
  is_gone device [] = true
  is_gone device (s ∷ before) = said_gone_by device s.said (is_gone device before)

  -- the entry that ended the last removal of the device
  abbrev pub removed_at : ℕ → List Saying → ℕ
  removed_at device [] = 0
  removed_at device (s ∷ before) = removed_by device s.entry s.said (removed_at device before)

  -- the entry of the journal that handed out the last completion of a request to the device which came
  abbrev pub handed_at : ℕ → List Saying → ℕ
  handed_at device [] = 0
  handed_at device (s ∷ before) = option_map_or
      (λ index. if has_come (course_at index) then option_map_or (λ (h : Handed). h.item) (course_at index).sent 0 else handed_at device before)
      (completed_of device s.said) (handed_at device before)

  -- how many requests to the device that never came are completed
  abbrev pub refused_to : ℕ → List Saying → ℕ
  refused_to device [] = 0
  refused_to device (s ∷ before) = option_map_or
      (λ index. if has_come (course_at index) then refused_to device before else refused_to device before + 1)
      (completed_of device s.said) (refused_to device before)

  -- ---- why a completion doesn't belong, if it doesn't

  -- It stands where it can't have been sent: the entry of the journal that gave the reply is behind the one that handed it out; or one that was handed out later stands before it;
  -- or a request that had come before it was handed out stands behind it; or what ended it was a removal, and none stands between its request and it.
  abbrev pub is_misplaced : HeardRequest → (entry : ℕ) → List Saying → Handed → (item : ℕ) → Bool → Bool
  is_misplaced a entry before handed item removed =
      nat_lt handed.item item || nat_lt handed.item (handed_at a.device before) || nat_lt entry handed.heard
      || (removed && nat_le (removed_at a.device before) a.entry)

  -- a completion of a request that came
  abbrev pub wrong_reply : HeardRequest → (entry : ℕ) → List ℕ → List Saying → Course → Option AuditWhy
  wrong_reply a entry message before course = option_map_or (λ handed. by handed course.given) course.sent (Some why.Answer)
    where
      placed : Handed → ℕ → Bool → Option AuditWhy
      placed handed item removed = if is_misplaced a entry before handed item removed then Some why.Order else None

      by : Handed → Given → Option AuditWhy
      by handed (given.Reply item same cut) = if same then placed handed item cut else Some why.Answer
      by handed given.Cancelled = if status_in message == cancelled.0 then placed handed 0 true else Some why.Answer
      by handed _ = Some why.Answer

  -- A request that never came may be refused: its device is gone; or the device's journal is worn, and no later request came.
  abbrev pub may_refuse : HeardRequest → (index status : ℕ) → List Saying → Bool
  may_refuse a index status before =
      if is_gone a.device before then status == no_such_device.0
      else status == insufficient_resources.0 && nat_le worn_entries (r.counts a.device) && option_map_or (λ came. nat_lt came index) (last_of (came_to a.device)) true

  -- whether it is the next such request that is to be refused
  abbrev pub is_next_refused : HeardRequest → ℕ → List Saying → Bool
  is_next_refused a index before = option_map_or (λ next. next == index) (slice_get (never_came_to a.device) (refused_to a.device before)) false

  -- a completion of a request that never came
  abbrev pub wrong_refusal : HeardRequest → (index : ℕ) → List ℕ → List Saying → Option AuditWhy
  wrong_refusal a index message before =
      if status_in message == 0 then Some why.Answer
      else (if may_refuse a index (status_in message) before && is_next_refused a index before then None else Some why.Direct)

  -- what is said at an entry; no request waits for a completion of none
  abbrev pub wrong_said : (entry : ℕ) → List Saying → ClientSaid → Option AuditWhy
  wrong_said entry before (completes (Some index) message) = option_map_or (λ (a : HeardRequest).
      if has_come (course_at index) then wrong_reply a entry message before (course_at index) else wrong_refusal a index message before)
      (slice_get requests index) (Some why.Stray)
  wrong_said entry before (completes None message) = Some why.Stray
  wrong_said entry before said = None

  -- the first that doesn't belong, in order, behind what was said before
  abbrev pub first_wrong_after : List Saying → List Saying → Option Verdict
  first_wrong_after before [] = None
  first_wrong_after before (s ∷ later) =
      option_or (option_map (λ reason. verdict.Entry s.entry reason) (wrong_said s.entry before s.said)) (first_wrong_after (s ∷ before) later)

-- a completion should be there: where the channel didn't end each should, else that of each request whose completion was handed out
abbrev pub is_due : (ended : Bool) → Course → Bool
is_due ended course = not ended || is_some course.sent

-- of requests with indices from this one on, one that should have a completion has none
abbrev pub lacks_from : Account → (number : ℕ) → (ended : Bool) → ℕ → List HeardRequest → Bool
lacks_from r number ended index [] = false
lacks_from r number ended index (a ∷ later) =
    (is_due ended (r.courses (record { channel = number; index = index })) && is_none a.completion) || lacks_from r number ended (index + 1) later

abbrev pub lacks_completion : Account → (number : ℕ) → HeardChannel → Bool
lacks_completion r number c = lacks_from r number c.ended 0 c.requests

-- of channels that are counted from this number on, the first completion that doesn't belong, in the order of the channels
abbrev pub first_wrong : Account → (number : ℕ) → List HeardChannel → Option Verdict
first_wrong r number [] = None
first_wrong r number (c ∷ later) = option_or (first_wrong_after r number c.requests [] c.sayings) (first_wrong r (number + 1) later)

-- and the first that lacks a completion; its number is told up to 2^32 - 1
abbrev pub first_lacking : Account → (number : ℕ) → List HeardChannel → Option Verdict
first_lacking r number [] = None
first_lacking r number (c ∷ later) = if lacks_completion r number c then Some (verdict.Open (min number 0xffff_ffff)) else first_lacking r (number + 1) later
