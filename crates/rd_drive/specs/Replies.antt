-- The replies to a device's requests, by its journal.
use Rattle.std.specs.Prelude.{◌≡◌, ◌≢◌, ◌⊎◌, ℕ, Bool, true, List, [], ◌∷◌, ◌++◌, map, Contains}
use Rattle.rd_base.specs.declared.journal.Key.{Key}
use Rattle.rd_base.specs.declared.journal.Item.{Item}
use Rattle.rd_base.specs.declared.journal.Item.TheVariants.{Ran, Cancelled, Cut}
use Rattle.rd_base.specs.Statuses.{cancelled}
use Rattle.rd_irp.specs.declared.op.Op.{Op}
use Rattle.rd_irp.specs.declared.op.Op.TheVariants.{Close}
use Rattle.rd_irp.specs.declared.request.Request.{Request}
use Rattle.rd_irp.specs.declared.completion.Reply.{Reply}
use Rattle.rd_drive.specs.declared.step.Step.{Step}
use Rattle.rd_drive.specs.declared.step.Step.TheVariants as step
use Rattle.rd_drive.specs.declared.step.End.{End}
use Rattle.rd_drive.specs.DriveState.{DriveState}
use Rattle.rd_drive.specs.Device.{is_parked}
use Rattle.rd_drive.specs.DriveStep.{drive_step, drive_cut}
use Rattle.rd_drive.specs.Stepped.{Stepped, Settled, ran_step}
use Rattle.rd_drive.specs.Outcome.{fault}

-- a reply, and the key of the request to which it belongs
abbrev pub KeyedReply : Type 0
KeyedReply = Key × Reply

-- the reply to a request that was given up
abbrev pub cancellation : Reply
cancellation = fault cancelled

-- the answer to a key that came: the reply that the journal gives it, or CANCELLED where it was cancelled before it ran
abbrev pub IsAnswer : List KeyedReply → List Item → Key → Reply → Type 0
IsAnswer replies journal key reply = Contains replies (key, reply) ⊎ (Contains journal (Cancelled key) × (reply ≡ cancellation))

abbrev pub end_reply : End → KeyedReply
end_reply ended = (ended.key, ended.reply)

-- the reply to the request that ran, where it is answered
abbrev pub own_reply : Key → Step → List KeyedReply
own_reply key (step.Reply reply) = (key, reply) ∷ []
own_reply key step.Parked = []

-- A device with states of the type S: what a request with a key, a file id and an operation comes to at a moment, and what its cut comes to.
-- Each key names a request.
module _ {S : Type 0} (step : S → Key → ℕ → Op → ℕ → Stepped S) (cut : S → Settled S) (requests : Key → Request) where
  -- what a run of a key's request comes to
  abbrev pub run_of : S → Key → ℕ → Bool → Stepped S
  run_of s key moment starved =
      let request = requests key in
      ran_step step s key request.file request.op moment starved

  -- the state after an entry of the journal
  abbrev pub state_after : S → Item → S
  state_after s (Ran key moment starved parked) = (run_of s key moment starved).state
  state_after s (Cut cause) = (cut s).state
  state_after s _ = s

  -- The replies that an entry gives: that to the request that ran, and those to the requests that waited and were ended, in the order in which
  -- they began to wait.
  abbrev pub replies_at : S → Item → List KeyedReply
  replies_at s (Ran key moment starved parked) =
      let ran = run_of s key moment starved in
      own_reply key ran.answer ++ map end_reply ran.ends
  replies_at s (Cut cause) = map end_reply (cut s).ends
  replies_at s _ = []

  -- An entry says of a run whether its request was left waiting, and never that a Close found no memory.
  abbrev pub IsToldBy : S → Item → Type 0
  IsToldBy s (Ran key moment starved parked) =
      let request = requests key in
      (is_parked (run_of s key moment starved).answer ≡ parked) × (starved ≡ true → request.op ≢ Close)
  IsToldBy s _ = Unit {0}

  -- the state after a journal that begins in s
  abbrev pub last_state_by : S → List Item → S
  last_state_by s [] = s
  last_state_by s (entry ∷ entries) = last_state_by (state_after s entry) entries

  -- the replies of a journal that begins in s
  abbrev pub replies_by : S → List Item → List KeyedReply
  replies_by s [] = []
  replies_by s (entry ∷ entries) = replies_at s entry ++ replies_by (state_after s entry) entries

  -- the marks of a journal that begins in s are those of the runs
  abbrev pub AreToldBy : S → List Item → Type 0
  AreToldBy s [] = Unit {0}
  AreToldBy s (entry ∷ entries) = IsToldBy s entry × AreToldBy (state_after s entry) entries

-- the replies of a drive: from its opening, with the request of each key, over its journal
abbrev pub replies_of : DriveState → (Key → Request) → List Item → List KeyedReply
replies_of opening requests journal = replies_by drive_step drive_cut requests opening journal

-- the drive's state after its journal
abbrev pub last_state : DriveState → (Key → Request) → List Item → DriveState
last_state opening requests journal = last_state_by drive_step drive_cut requests opening journal

-- the journal's marks are those of the drive's runs
abbrev pub AreTold : DriveState → (Key → Request) → List Item → Type 0
AreTold opening requests journal = AreToldBy drive_step drive_cut requests opening journal
