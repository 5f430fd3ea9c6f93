-- What the control lines of a script do: it follows from the lines alone, whatever is drawn.
use Rattle.std.specs.Prelude.{ℕ, ◌+◌, ◌==◌, Bool, false, not, if◌then◌else◌, List, [], ◌∷◌, ◌++◌, length, map, filter, fold, Option, Some, None, is_some}
use Rattle.std.specs.List.{list_any}
use Rattle.std.specs.Option.{option_map_or}
use Rattle.rd_base.specs.declared.journal.Cause.{Cause}
use Rattle.rd_base.specs.declared.journal.Cause.TheVariants.{Removed, Dropped}
use Rattle.rd_printer.specs.declared.notice.Notice.{Notice}
use Rattle.rd_script.specs.declared.line.Line.{Line}
use Rattle.rd_script.specs.declared.line.Line.TheVariants as line
use Rattle.rd_script.specs.declared.line.NumberedLine.{NumberedLine}
use Rattle.rd_world.specs.Run.{notice_of}

-- what a client tells of its devices: all that aren't removed, as soon as a channel is ready, and then one that is gone, or there again, with how often
-- it was added before
pub data Telling : Type 0 where
  lists : List ℕ → Telling
  removal : ℕ → Telling
  addition : ℕ → ℕ → Telling

-- what a line did: a channel began or ended, a device was removed or added, or a printer was told of
pub data Act : Type 0 where
  begun ended removed added : ℕ → Act
  noticed : Notice → Act

-- where control lines stand, and what they did
pub record Control : Type 0 where
  -- the ids of the session's devices
  pub devices : List ℕ
  -- the channel that is open, and how many began
  pub current : Option ℕ
  pub channels : ℕ
  -- the devices that were removed and not added since
  pub absent : List ℕ
  -- what was done, in order
  pub acts : List Act
  -- what was told on which channel, by the client and by the host
  pub told : List (ℕ × Telling)
  pub notices : List (ℕ × Notice)
  -- the cuts of the devices
  pub cuts : List (ℕ × Cause)
  -- the numbers of the lines that did nothing
  pub idle : List ℕ

abbrev pub is_among : List ℕ → ℕ → Bool
is_among ids device = list_any (λ id. id == device) ids

-- the devices that are there
abbrev pub present : Control → List ℕ
present c = filter (λ device. not (is_among c.absent device)) c.devices

-- how often a device was added
abbrev pub is_addition : ℕ → Act → Bool
is_addition device (added d) = d == device
is_addition device _ = false

abbrev pub additions : Control → ℕ → ℕ
additions c device = length (filter (is_addition device) c.acts)

-- a channel begins, and the client lists its devices
abbrev pub connected : Control → Control
connected c =
    let channel = c.channels + 1 in
    record c { current = Some channel; channels = channel; acts = c.acts ++ begun channel ∷ []; told = c.told ++ (channel, lists (present c)) ∷ [] }

-- the open channel ends, and the devices that are there are cut off
abbrev pub dropped_at : Control → ℕ → Control
dropped_at c channel = record c {
  current = None;
  acts = c.acts ++ ended channel ∷ [];
  cuts = c.cuts ++ map (λ device. (device, Dropped)) (present c);
}

abbrev pub removed_at : Control → ℕ → ℕ → Control
removed_at c device channel = record c {
  absent = c.absent ++ device ∷ [];
  acts = c.acts ++ removed device ∷ [];
  told = c.told ++ (channel, removal device) ∷ [];
  cuts = c.cuts ++ (device, Removed) ∷ [];
}

abbrev pub added_at : Control → ℕ → ℕ → Control
added_at c device channel = record c {
  absent = filter (λ id. not (id == device)) c.absent;
  acts = c.acts ++ added device ∷ [];
  told = c.told ++ (channel, addition device (additions c device)) ∷ [];
}

abbrev pub noticed_at : Control → Notice → ℕ → Control
noticed_at c n channel = record c { acts = c.acts ++ noticed n ∷ []; notices = c.notices ++ (channel, n) ∷ [] }

-- a line did nothing
abbrev pub idled : Control → ℕ → Control
idled c number = record c { idle = c.idle ++ number ∷ [] }

-- a line that needs an open channel does this there, or nothing
abbrev pub where_open : Control → ℕ → (ℕ → Control) → Control
where_open c number on = option_map_or on c.current (idled c number)

-- A line does what it says, or nothing: a channel begins only while none is open, and ends, and tells, only while one is; a device is removed only
-- while it is there, and added only while it isn't. What a `do` line does hangs on the draws.
unfoldable pub controlled : Control → ℕ → Line → Control
controlled c number line.Connect = if is_some c.current then idled c number else connected c
controlled c number line.Drop = where_open c number (dropped_at c)
controlled c number (line.Remove device) =
    where_open c number (λ channel. if is_among c.absent device then idled c number else removed_at c device channel)
controlled c number (line.Add device) =
    where_open c number (λ channel. if is_among c.absent device then added_at c device channel else idled c number)
controlled c number l = option_map_or (λ n. where_open c number (noticed_at c n)) (notice_of l) c

-- the control of a session's devices after its first channel's begin
abbrev pub first_control : List ℕ → Control
first_control devices = connected (record {
  devices = devices;
  current = None;
  channels = 0;
  absent = [];
  acts = [];
  told = [];
  notices = [];
  cuts = [];
  idle = [];
})

-- after a script's lines
abbrev pub control_of : List ℕ → List NumberedLine → Control
control_of devices lines = fold (λ c (l : NumberedLine). controlled c l.number l.line) (first_control devices) lines
