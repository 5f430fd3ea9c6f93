-- What a run of a script's lines is made of, and the worlds that lines come to: what every statement about runs speaks of.
use Rattle.std.specs.Prelude.{◌≡◌, ℕ, ◌+◌, ◌≤◌, Bool, true, List, [], ◌∷◌, length, Some}
use Rattle.rd_base.specs.declared.journal.Key.{Key}
use Rattle.rd_script.specs.declared.line.NumberedLine.{NumberedLine}
use Rattle.rd_world.specs.Events.{Event, act, apply_job, client_read, client_send, collect, host_read, host_send, is_enabled, issue, take_job, tell}
use Rattle.rd_world.specs.Run.{asked_by, drawing, idles, notice_of, queueing, world_of}
use Rattle.rd_deeds.specs.Talk.{EachAfter, Has}
use Rattle.rd_world.specs.World.{Asked, WorldState}

-- What passes: an event, one more line of an application that is queued, a line by its number that did nothing, or a draw.
pub data RunMove : Type 0 where
  happens : Event → RunMove
  queues idle : ℕ → RunMove
  draws : RunMove

-- what comes of it, where these runs find no memory
abbrev pub after_move : (Key → Bool) → WorldState → RunMove → WorldState
after_move starves w (happens e) = act starves w e
after_move starves w (queues a) = queueing w a
after_move starves w (idle number) = idles w number
after_move starves w draws = drawing w

-- What lines it may stand for: a notice is that of a line, and an application's line asks for something.
abbrev pub IsOfLines : List NumberedLine → Event → Type 0
IsOfLines lines (tell n) = (l : NumberedLine) × Has l lines × (notice_of l.line ≡ Some n)
IsOfLines lines _ = Unit {0}

abbrev pub MayPass : List NumberedLine → WorldState → RunMove → Type 0
MayPass lines w (happens e) = IsOfLines lines e × (is_enabled w e ≡ true)
MayPass lines w (queues a) = (l : NumberedLine) × (asked : Asked) × Has l lines × (asked_by l.line ≡ Some (a, asked))
MayPass lines w (idle number) = Unit {0}
MayPass lines w draws = Unit {0}

-- the world after moves, the newest first
abbrev pub after_moves : (Key → Bool) → WorldState → List RunMove → WorldState
after_moves starves w [] = w
after_moves starves w (m ∷ before) = after_move starves (after_moves starves w before) m

-- how many of these are no draws and don't happen by themselves: a line is one at most
abbrev pub event_weight : Event → ℕ
event_weight (issue a) = 0
event_weight host_send = 0
event_weight (client_read n) = 0
event_weight client_send = 0
event_weight (collect device) = 0
event_weight (host_read n) = 0
event_weight (take_job device hand) = 0
event_weight (apply_job hand) = 0
event_weight e = 1

abbrev pub weight : RunMove → ℕ
weight (happens e) = event_weight e
weight (queues a) = 1
weight (idle number) = 1
weight draws = 0

abbrev pub total_weight : List RunMove → ℕ
total_weight [] = 0
total_weight (m ∷ before) = weight m + total_weight before

-- A world that is behind moves that may pass, of which so many at most are lines'.
pub record ReachedWithin (most : ℕ) (lines : List NumberedLine) (starves : Key → Bool) (w : WorldState) : Type 0 where
  pub moves : List RunMove
  pub pass : EachAfter (λ before m. MayPass lines (after_moves starves (world_of lines) before) m) moves
  pub few : total_weight moves ≤ most
  pub leads : w ≡ after_moves starves (world_of lines) moves

-- A world that lines come to: the first channel's begin and the last one's end are moves too.
abbrev pub Reached : List NumberedLine → (Key → Bool) → WorldState → Type 0
Reached lines = ReachedWithin (length lines + 2) lines
