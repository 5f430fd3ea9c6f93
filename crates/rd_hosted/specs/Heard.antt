-- What a host's front does by a message that it hears, in the calls of the table by its pass and in what its core becomes.
use Rattle.std.specs.Prelude.{◌≡◌, ◌≢◌, ℕ, Bool, true, false, if◌then◌else◌, List, [], ◌∷◌, Result, Ok, Err}
use Rattle.rd_base.specs.Statuses as status
use Rattle.rd_devices.specs.declared.list.Announce.{Announce}
use Rattle.rd_hello.specs.declared.end_fault.EndFault.{EndFault}
use Rattle.rd_host.specs.declared.act.Act.{Act}
use Rattle.rd_host.specs.declared.act.Act.TheVariants as act
use Rattle.rd_host.specs.Core as host
use Rattle.rd_host.specs.Core.{HostCoreState, host_hear}
use Rattle.rd_host.specs.Served.{is_served_type}
use Rattle.rd_pending.specs.declared.calls.CompleteNo.{CompleteNo}
use Rattle.rd_pending.specs.declared.calls.CompleteNo.TheVariants as complete_no
use Rattle.rd_pending.specs.declared.calls.Completed.{Completed}
use Rattle.rd_pending.specs.declared.calls.LiveNo.{LiveNo}
use Rattle.rd_pending.specs.declared.calls.LiveNo.TheVariants as live_no
use Rattle.rd_table.specs.declared.calls.PendingCall.TheVariants as table
use Rattle.rd_table.specs.declared.calls.PendingReply.TheVariants as replied
use Rattle.rd_host_front.specs.declared.calls.HostFrontReply.{HostFrontReply}
use Rattle.rd_host_front.specs.declared.calls.HostFrontReply.TheVariants as reply
use Rattle.rd_host_front.specs.HostFront.{life_code}
use Rattle.rd_host_front.specs.State.{FrontPassCalls, FrontPassState, HostFrontState}

-- the devices of a list whose types are served
abbrev pub served_in : List Announce → List ℕ
served_in [] = []
served_in (a ∷ devices) = if is_served_type a.kind then a.id ∷ served_in devices else served_in devices

-- the core, after it replied to these devices, by the table's answers to those that are served
abbrev pub replying : HostCoreState → List Announce → List (Result ℕ LiveNo) → HostCoreState
replying core [] answers = core
replying core (a ∷ devices) [] = if is_served_type a.kind then core else replying (host.reply core a.id status.not_supported) devices []
replying core (a ∷ devices) (life ∷ lives) =
    if is_served_type a.kind then replying (host.reply core a.id (life_code life)) devices lives
    else replying (host.reply core a.id status.not_supported) devices (life ∷ lives)

-- The front's pass asks for a life for each of these devices, with these answers.
abbrev pub LivesAll : List ℕ → List (Result ℕ LiveNo) → FrontPassState → FrontPassState → Type 0
LivesAll [] [] old new = new ≡ old
LivesAll (d ∷ devices) (life ∷ lives) old new =
    (life ≢ Err live_no.Memory) × (next : FrontPassState) × FrontPassCalls old (table.Live d) (replied.Lives life) next × LivesAll devices lives next new
LivesAll _ _ old new = ⊥

-- It says of each of these devices that it is gone.
abbrev pub RemovesAll : List ℕ → FrontPassState → FrontPassState → Type 0
RemovesAll [] old new = new ≡ old
RemovesAll (d ∷ devices) old new = (was : Bool) × (next : FrontPassState) × FrontPassCalls old (table.Remove d) (replied.Removed was) next × RemovesAll devices next new

-- what a message asks for is done, with the core that heard it
abbrev pub DoesAsked : Result Act EndFault → HostCoreState → FrontPassState → HostFrontState → Type 0
DoesAsked (Err fault) core old new = (new.core ≡ core) × (new.table ≡ old)
DoesAsked (Ok act.Nothing) core old new = (new.core ≡ core) × (new.table ≡ old)
DoesAsked (Ok (act.Complete head body)) core old new =
    (answer : Result Completed CompleteNo) × (answer ≢ Err complete_no.Memory) × FrontPassCalls old (table.Complete head body) (replied.Completed answer) new.table × (new.core ≡ core)
DoesAsked (Ok (act.Announced devices)) core old new =
    (answers : List (Result ℕ LiveNo)) × LivesAll (served_in devices) answers old new.table × (new.core ≡ replying core devices answers)
DoesAsked (Ok (act.Removed ids)) core old new = RemovesAll ids old new.table × (new.core ≡ core)

-- the channel is on as before
abbrev pub IsOnStill : HostFrontState → HostFrontState → Type 0
IsOnStill old new = (new.on ≡ old.on) × (new.channel ≡ old.channel)

-- whether a message was taken, whatever it is: it came to no full or ended front
abbrev pub took_message : {W : Type 0} → HostFrontReply W → Bool
took_message (reply.Full message) = false
took_message reply.Over = false
took_message _ = true

-- A message was heard, and what it asks for is done.
pub record DoesHeard {W : Type 0} (old : HostFrontState) (message : List ℕ) (back : HostFrontReply W) (new : HostFrontState) : Type 0 where
  pub core : HostCoreState
  pub answer : Result Act EndFault
  pub hears : host_hear old.core message ≡ (core, answer)
  pub does : DoesAsked answer core old.table new
  pub still : IsOnStill old new
  pub taken : took_message back ≡ true
