-- Where the calls of a host's applications stand among those by which it acts the lines `drop` and `connect`, and its script's end: the script goes along the one history of its table.
use Rattle.std.specs.Prelude.{◌≡◌, ◌⊎◌, ◌≤◌, ◌+◌, ℕ, Bool, true, false, List, [], ◌∷◌, ◌++◌, slice_get, Option, None, Some, Ok, Err}
use Rattle.std.specs.List.{AllByRecursion, flat_map}
use Rattle.rd_host_front.specs.Asked.{CallMade}
use Rattle.rd_host_player.specs.declared.plan.Control.{Control}
use Rattle.rd_host_player.specs.declared.plan.Control.TheVariants as control
use Rattle.rd_host_player.specs.Plan.{acted_by, awaited_devices}
use Rattle.rd_issuer.specs.declared.issuer.Issuer.{Issuer}
use Rattle.rd_issuer.specs.Issues.{is_patient}
use Rattle.rd_pending.specs.declared.calls.Stage.{Stage}
use Rattle.rd_pending.specs.declared.calls.TakeNo.TheVariants as take_no
use Rattle.rd_pending.specs.declared.calls.Target.{Target}
use Rattle.rd_script.specs.declared.line.NumberedLine.{NumberedLine}
use Rattle.rd_script.specs.declared.outcome.Outcome.{Outcome}
use Rattle.rd_table.specs.declared.calls.PendingCall.{PendingCall}
use Rattle.rd_table.specs.declared.calls.PendingCall.TheVariants as call
use Rattle.rd_table.specs.declared.calls.PendingReply.{PendingReply}
use Rattle.rd_table.specs.declared.calls.PendingReply.TheVariants as reply
use Rattle.rd_turn.specs.History.{entry}
use Rattle.rd_world.specs.Events.{target_of}
use Rattle.rd_world.specs.World.{ApplicationState, Asked, new_application}
use Rattle.rd_host_turns.specs.Turns.{TableEntry}
use Rattle.rd_host_lines.specs.Outcomes.{AsksNothing, LineCame, asks_under}

-- ---- calls of control lines

-- The calls that a host makes for the lines that it acts itself, and at its script's end: a channel begins, it looks how far a channel got, and it asks whether the channel can end. With their replies.
abbrev pub control_call : PendingCall → PendingReply → List CallMade
control_call (call.Begin channel) back = (call.Begin channel, back) ∷ []
control_call call.Stage back = (call.Stage, back) ∷ []
control_call call.DropSent back = (call.DropSent, back) ∷ []
control_call _ back = []

-- those among these calls, in their order
abbrev pub control_calls : List TableEntry → List CallMade
control_calls entries = flat_map (λ (e : TableEntry). control_call e.call e.reply) entries

-- None of these calls is one.
abbrev pub ActNothing : List TableEntry → Type 0
ActNothing entries = control_calls entries ≡ []

-- a call that no application makes
abbrev pub IsNoApplications : PendingCall → Type 0
IsNoApplications (call.Submit application named op) = ⊥
IsNoApplications (call.Take number) = ⊥
IsNoApplications _ = Unit {0}

-- No application calls the table meanwhile.
abbrev pub AllRest : List TableEntry → Type 0
AllRest entries = AllByRecursion (λ (e : TableEntry). IsNoApplications e.call) entries

-- a look, by what it told; and a try to end the channel, by whether it ended
abbrev pub look_call : Stage → CallMade
look_call stage = (call.Stage, reply.Stands stage)

abbrev pub drop_call : Bool → CallMade
drop_call dropped = (call.DropSent, reply.DroppedSent dropped)

-- looks alone
abbrev pub OnlyLooks : List CallMade → Type 0
OnlyLooks [] = Unit {0}
OnlyLooks (c ∷ calls) = ((stage : Stage) × (c ≡ look_call stage)) × OnlyLooks calls

-- The channel ended at the last of these, and could not before.
abbrev pub EndsOnce : List CallMade → Type 0
EndsOnce [] = ⊥
EndsOnce (c ∷ []) = c ≡ drop_call true
EndsOnce (c ∷ d ∷ calls) = (c ≡ drop_call false) × EndsOnce (d ∷ calls)

-- ---- a channel that began

-- how many lives were given by these calls
abbrev pub life_given : PendingCall → PendingReply → ℕ
life_given (call.Live device) (reply.Lives (Ok life)) = 1
life_given _ _ = 0

abbrev pub lives_given : List TableEntry → ℕ
lives_given [] = 0
lives_given (e ∷ entries) = life_given e.call e.reply + lives_given entries

-- a call that drops the channel
abbrev pub IsDropping : PendingCall → Type 0
IsDropping call.DropChannel = Unit {0}
IsDropping _ = ⊥

-- One of these does.
abbrev pub HaveDropped : List TableEntry → Type 0
HaveDropped [] = ⊥
HaveDropped (e ∷ entries) = IsDropping e.call ⊎ HaveDropped entries

-- By these calls a channel began, and behind that as many devices began lives as are waited for, or the channel was dropped.
pub record HasBegun (devices : ℕ) (entries : List TableEntry) : Type 0 where
  pub channel : ℕ
  pub by : ℕ
  pub before : List TableEntry
  pub after : List TableEntry
  pub place : entries ≡ before ++ entry by (call.Begin channel) (reply.Begun true) ∷ after
  pub first : ActNothing before
  pub waits : OnlyLooks (control_calls after)
  pub ready : (devices ≤ lives_given after) ⊎ HaveDropped after

-- ---- lines of an application

-- Where this call looks for the outcome of this number, it found none yet.
abbrev pub FindsNothing : ℕ → PendingCall → PendingReply → Type 0
FindsNothing number (call.Take other) (reply.Taken answer) = other ≡ number → answer ≡ Err take_no.NotYet
FindsNothing number _ back = Unit {0}

-- One of these calls looked for a number's outcome, and none that did found one yet.
pub record IsAwaitedStill (number : ℕ) (entries : List TableEntry) : Type 0 where
  pub earlier : List TableEntry
  pub by : ℕ
  pub later : List TableEntry
  pub place : entries ≡ earlier ++ entry by (call.Take number) (reply.Taken (Err take_no.NotYet)) ∷ later
  pub none : AllByRecursion (λ (e : TableEntry). FindsNothing number e.call e.reply) entries

module _ (a : ℕ) where
  -- The next line is patient, and its request was accepted. There are looks for its outcome, each of which found none yet. The application asked for nothing else.
  pub record IsPassed (holds : ApplicationState) (x : Asked) (entries : List TableEntry) : Type 0 where
    pub patient : is_patient x.op ≡ true
    pub named : Target
    pub names : target_of holds x ≡ Some named
    pub between : List TableEntry
    pub by : ℕ
    pub number : ℕ
    pub after : List TableEntry
    pub place : entries ≡ between ++ entry by (call.Submit a named x.op) (reply.Submitted (Ok number)) ∷ after
    pub nothing : AsksNothing a between
    pub nothing_more : AsksNothing a after
    pub awaited : IsAwaitedStill number after

  -- What came so far of the lines to which the script came, one after the other, each by calls behind those of the line before: of all of them, or of those before one that is passed, and none behind that was asked for.
  abbrev pub LinesCameSoFar : ApplicationState → List Asked → List Outcome → List TableEntry → Type 0
  LinesCameSoFar holds [] [] entries = AsksNothing a entries
  LinesCameSoFar holds [] (o ∷ os) entries = ⊥
  LinesCameSoFar holds (x ∷ xs) [] entries = IsPassed holds x entries
  LinesCameSoFar holds (x ∷ xs) (o ∷ os) entries = LineCame a holds x o (λ next rest. LinesCameSoFar next xs os rest) entries (target_of holds x)

-- All that the applications asked for by these calls, which are the first of all, is what these lines ask for, to which the script came. Each of their lines that has an outcome there has it at the end.
abbrev pub HaveCome : List Issuer → List NumberedLine → List TableEntry → Type 0
HaveCome issuers lines entries =
    (place : ℕ) (i : Issuer) → slice_get issuers place ≡ Some i
    → (os : List Outcome) × (later : List Outcome) × ((i.application).outcomes ≡ os ++ later) × LinesCameSoFar i.number new_application (asks_under i.number lines) os entries

-- ---- the script

module _ (devices : ℕ) (issuers : List Issuer) where
  -- what holds of what comes after: whether channels begin and end still, of all calls so far, and of the rest of the history
  abbrev GoesOn : Type 1
  GoesOn = Bool → List TableEntry → List TableEntry → Type 0

  -- The lines `before` were come to, and these calls were made. In the next ones (`issued`) the applications issue these lines. Then all rest, and a line is acted, or the script's end, by these calls (`acts`). The rest follows.
  abbrev pub ActsNext : List NumberedLine → List TableEntry → List TableEntry → (List TableEntry → Type 0) → (List TableEntry → List TableEntry → Type 0) → Type 0
  ActsNext before seen entries acts goes_on =
      (issued : List TableEntry) × (acted : List TableEntry) × (rest : List TableEntry) × (entries ≡ issued ++ acted ++ rest)
      × ActNothing issued × HaveCome issuers before (seen ++ issued) × AllRest acted × acts acted × goes_on (seen ++ issued ++ acted) rest

  -- A channel is to begin: it begins, or none can be had.
  abbrev pub Opens : List TableEntry → List TableEntry → GoesOn → Type 0
  Opens seen entries goes_on =
      goes_on false seen entries
      ⊎ ((opened : List TableEntry) × (rest : List TableEntry) × (entries ≡ opened ++ rest) × AllRest opened × HasBegun devices opened × goes_on true (seen ++ opened) rest)

  -- The last one is open still, or one is to begin.
  abbrev pub OpensUnless : Bool → List TableEntry → List TableEntry → GoesOn → Type 0
  OpensUnless true seen entries goes_on = goes_on true seen entries
  OpensUnless false seen entries goes_on = Opens seen entries goes_on

  -- A line is acted that a host acts itself. On a channel: one that ends the channel does so, once all was sent. One that begins a channel looks whether the last one is open still: then it does nothing else; and if
  -- not, the next one is to begin. Where no channel begins or ends any more, such a line is passed over.
  abbrev pub ActsLine : Bool → Control → List NumberedLine → List TableEntry → List TableEntry → GoesOn → Type 0
  ActsLine true control.Drop before seen entries goes_on = ActsNext before seen entries (λ acted. EndsOnce (control_calls acted)) (goes_on true)
  ActsLine true control.Connect before seen entries goes_on =
      (stage : Stage) × ActsNext before seen entries (λ acted. control_calls acted ≡ look_call stage ∷ []) (λ all rest. OpensUnless stage.channel all rest goes_on)
  ActsLine false c before seen entries goes_on = ActsNext before seen entries (λ acted. acted ≡ []) (goes_on false)

  -- A line comes next. One that isn't acted by the host itself is issued with those that follow.
  abbrev pub LineGoes : Option Control → Bool → List NumberedLine → List TableEntry → List TableEntry → GoesOn → Type 0
  LineGoes None plays before seen entries goes_on = goes_on plays seen entries
  LineGoes (Some c) plays before seen entries goes_on = ActsLine plays c before seen entries goes_on

  -- The script goes along a history: these lines were come to by these calls, and those by the rest. At its end a channel that is played ends.
  abbrev pub GoesAlong : List NumberedLine → List NumberedLine → Bool → List TableEntry → List TableEntry → Type 0
  GoesAlong before [] true seen entries = ActsNext before seen entries (λ acted. EndsOnce (control_calls acted)) (λ all rest. ActNothing rest)
  GoesAlong before [] false seen entries = ActNothing entries
  GoesAlong before (l ∷ lines) plays seen entries = LineGoes (acted_by l.line) plays before seen entries (λ next all rest. GoesAlong (before ++ l ∷ []) lines next all rest)

-- A host's script goes along the history, from the first line on, before which the first channel is to begin.
abbrev pub IsPlayedAlong : List NumberedLine → List Issuer → List TableEntry → Type 0
IsPlayedAlong lines issuers entries = Opens (awaited_devices lines) issuers [] entries (λ plays all rest. GoesAlong (awaited_devices lines) issuers [] lines plays all rest)
