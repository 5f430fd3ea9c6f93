-- What came of the lines of an application whose host and client are two processes, where each line has what came of its own request.
use Rattle.std.specs.Prelude.{◌≡◌, ◌≢◌, ◌⊎◌, ◌<◌, ◌≤◌, ℕ, suc, List, [], ◌∷◌, length, slice_get, Contains, Option, Some, None}
use Rattle.rd_pending.specs.declared.calls.SubmitNo.{SubmitNo}
use Rattle.rd_pending.specs.declared.calls.SubmitNo.TheVariants as submit_no
use Rattle.rd_pending.specs.declared.calls.Taken.{Taken}
use Rattle.rd_pending.specs.declared.calls.Target.{Target}
use Rattle.rd_pending.specs.declared.calls.Target.TheVariants as target
use Rattle.rd_pending.specs.History.{accepted_in}
use Rattle.rd_pending.specs.Outcomes.{Accepted}
use Rattle.rd_pending.specs.Table.{device_in, file_in}
use Rattle.rd_script.specs.declared.outcome.Outcome.{Outcome}
use Rattle.rd_script.specs.declared.outcome.Outcome.TheVariants as outcome
use Rattle.rd_script.specs.declared.outcome.Refusal.TheVariants as refusal
use Rattle.rd_table.specs.Histories.{handed_in}
use Rattle.rd_world.specs.Events.{refusal_of, target_of}
use Rattle.rd_world.specs.Hearing.{given_handle, holding_after, reported_outcome}
use Rattle.rd_deeds.specs.HostDeeds.{calls_of}
use Rattle.rd_deeds.specs.Talk.{Deed}
use Rattle.rd_deeds.specs.Told.{Replies}
use Rattle.rd_world.specs.World.{ApplicationState, Asked}
use Rattle.rd_host_turns.specs.Turns.{TableEntry}
use Rattle.rd_peers.specs.Peers.{IsOwnOutcome}

-- Among these requests, in the order of their numbers, those from the first number on up to the second one, but not that, are of other applications.
abbrev pub AreOthers : ℕ → List Accepted → ℕ → ℕ → Type 0
AreOthers a requests first end = (place : ℕ) (r : Accepted) → slice_get requests place ≡ Some r → first ≤ suc place → suc place < end → r.application ≢ a

-- a request to what was named is of this life: of that in which the handle was given, if it was a handle
abbrev pub IsOfLife : Target → ℕ → Type 0
IsOfLife (target.Device device) life = Unit {0}
IsOfLife (target.Handle handle) life = life ≡ handle.life

-- Of all that an application is told: what the host and the client did, and the one history of the host's table.
module _ (client : ℕ) (replies : Replies) (deeds : List Deed) (seen : List TableEntry) (a : ℕ) where
  -- all requests that the host accepted
  abbrev requests : List Accepted
  requests = accepted_in (calls_of client deeds)

  -- The request of a line was accepted: it is the next one of the application behind this number, of the device and the file that the line named, in the life in which that was given, and with its operation. What was handed out for its number is its own
  -- outcome, and it is the line's.
  pub record HasRequest (above : ℕ) (x : Asked) (o : Outcome) (named : Target) : Type 0 where
    pub number : ℕ
    pub new : above < number
    pub next : AreOthers a requests (suc above) number
    pub taken : Taken
    pub handed : Contains (handed_in seen) (number, taken)
    pub own : IsOwnOutcome client replies deeds number taken
    pub application : (own.request).application ≡ a
    pub device : (own.request).device ≡ device_in named
    pub file : (own.request).file ≡ file_in named
    pub life : IsOfLife named (own.request).life
    pub op : (own.request).op ≡ x.op
    pub is : o ≡ reported_outcome taken.outcome

  -- What a line came to that names this, or nothing: it was refused, which is never for want of memory, or has its request. What comes after goes on with what the application's handles hold then, and with the number of its
  -- last request so far.
  abbrev pub LineIsOwn : ℕ → ApplicationState → Asked → Outcome → (ℕ → ApplicationState → Type 0) → Option Target → Type 0
  LineIsOwn above holds x o goes_on None = (o ≡ outcome.Refused refusal.NoHandle) × goes_on above (holding_after holds x None)
  LineIsOwn above holds x o goes_on (Some named) =
      ((cause : SubmitNo) × (cause ≢ submit_no.Memory) × (o ≡ outcome.Refused (refusal_of cause)) × goes_on above (holding_after holds x None))
      ⊎ ((has : HasRequest above x o named) × goes_on has.number (holding_after holds x (given_handle has.taken)))

  -- Each line of an application has its outcome, in their order; those that weren't refused have a request each, no two the same, and the application has no other request. A line that names a handle names what an earlier
  -- line of the application was given.
  abbrev pub LinesAreOwn : ℕ → ApplicationState → List Asked → List Outcome → Type 0
  LinesAreOwn above holds [] [] = AreOthers a requests (suc above) (suc (length requests))
  LinesAreOwn above holds [] (o ∷ os) = ⊥
  LinesAreOwn above holds (x ∷ xs) [] = ⊥
  LinesAreOwn above holds (x ∷ xs) (o ∷ os) = LineIsOwn above holds x o (λ number next. LinesAreOwn number next xs os) (target_of holds x)
