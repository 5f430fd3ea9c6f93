-- What the calls of a host's front make of its pass of the table, and what may stand between the calls that it makes there: calls of applications, and looks.
use Rattle.std.specs.Prelude.{◌≡◌, ◌≢◌, ℕ, List, [], ◌∷◌, ◌++◌, Err}
use Rattle.std.specs.List.{AllByRecursion}
use Rattle.rd_host_front.specs.declared.calls.HostFrontCall.{HostFrontCall}
use Rattle.rd_host_front.specs.declared.calls.HostFrontCall.TheVariants as call
use Rattle.rd_host_front.specs.declared.calls.HostFrontReply.{HostFrontReply}
use Rattle.rd_host_front.specs.declared.calls.HostFrontReply.TheVariants as reply
use Rattle.rd_host_front.specs.State.{FrontPassCalls, FrontPassState, PassOfTable, Renews, RenewsBy}
use Rattle.rd_pending.specs.declared.calls.SubmitNo.TheVariants as submit_no
use Rattle.rd_pending.specs.declared.calls.TakeNo.TheVariants as take_no
use Rattle.rd_table.specs.declared.calls.PendingCall.{PendingCall}
use Rattle.rd_table.specs.declared.calls.PendingCall.TheVariants as table
use Rattle.rd_table.specs.declared.calls.PendingReply.{PendingReply}
use Rattle.rd_table.specs.declared.calls.PendingReply.TheVariants as replied
use Rattle.rd_turn.specs.declared.object.Entry.{Entry}
use Rattle.rd_turn.specs.History.{entry}

-- ---- quiet calls

-- a call of a host's table, with its reply
abbrev pub TableEntry : Type 0
TableEntry = Entry PendingCall PendingReply

-- An application's request that is accepted or refused, but not for want of memory; its look for an outcome, of a number that is known; and a look at the channel.
abbrev pub IsQuietCall : PendingCall → PendingReply → Type 0
IsQuietCall (table.Submit application named op) (replied.Submitted answer) = answer ≢ Err submit_no.Memory
IsQuietCall (table.Take number) (replied.Taken answer) = answer ≢ Err take_no.Unknown
IsQuietCall table.Stage (replied.Stands stage) = Unit {0}
IsQuietCall _ _ = ⊥

-- a call by an application that was answered, or a look
abbrev pub IsQuiet : TableEntry → Type 0
IsQuiet e = IsQuietCall e.call e.reply

-- Each of these is.
abbrev pub AreQuiet : List TableEntry → Type 0
AreQuiet = AllByRecursion IsQuiet

-- ---- what a call of the front makes of its pass

-- What a call of the front makes of its pass of the table: a call by it; that it is joined to pass 0, and split anew; the same with a call by pass 0 in between. With pass 0 before and after.
pub data TablePart : Type 0 where
  calls : PendingCall → PendingReply → TablePart
  renews : PassOfTable → PassOfTable → TablePart
  renews_by : PendingCall → PendingReply → PassOfTable → PassOfTable → TablePart

-- the front's pass before a part, and after it
abbrev pub TablePartGoes : FrontPassState → TablePart → FrontPassState → Type 0
TablePartGoes old (calls does back) new = FrontPassCalls old does back new
TablePartGoes old (renews given last) new = Renews given old last new
TablePartGoes old (renews_by does back given last) new = RenewsBy does back given old last new

-- the same of parts, one after the other
abbrev pub TablePartsGo : FrontPassState → List TablePart → FrontPassState → Type 0
TablePartsGo old [] new = new ≡ old
TablePartsGo old (part ∷ parts) new = (next : FrontPassState) × TablePartGoes old part next × TablePartsGo next parts new

-- Pass 0 goes through these parts, from one to the other.
abbrev pub HandsThrough : PassOfTable → List TablePart → PassOfTable → Type 0
HandsThrough first [] last = last ≡ first
HandsThrough first (calls does back ∷ parts) last = HandsThrough first parts last
HandsThrough first (renews given handed ∷ parts) last = (given ≡ first) × HandsThrough handed parts last
HandsThrough first (renews_by does back given handed ∷ parts) last = (given ≡ first) × HandsThrough handed parts last

-- a part by which the channel of this number begins
abbrev pub IsBeginning : ℕ → TablePart → Type 0
IsBeginning channel (renews_by does back given last) = does ≡ table.Begin channel
IsBeginning channel _ = ⊥

-- a part in which pass 0 makes no call
abbrev pub IsWithoutCall : TablePart → Type 0
IsWithoutCall (renews_by does back given last) = ⊥
IsWithoutCall _ = Unit {0}

-- a part that is a call by the front's pass
abbrev pub IsOwnCall : TablePart → Type 0
IsOwnCall (calls does back) = Unit {0}
IsOwnCall _ = ⊥

module _ {W : Type 0} where
  -- These are parts of a call of the front, by what it was handed and handed back.
  abbrev pub ArePartsOf : HostFrontCall W → HostFrontReply W → List TablePart → Type 0
  ArePartsOf (call.Begin channel first) (reply.First last what) parts = HandsThrough first parts last × AllByRecursion (IsBeginning channel) parts
  ArePartsOf (call.DropSent first anew) (reply.First last what) parts = HandsThrough first parts last × AllByRecursion IsWithoutCall parts
  ArePartsOf _ _ parts = AllByRecursion IsOwnCall parts

  -- The front's pass goes through the parts of these calls, from one to the other.
  abbrev pub PartsAlong : FrontPassState → List (Entry (HostFrontCall W) (HostFrontReply W)) → List (List TablePart) → FrontPassState → Type 0
  PartsAlong here [] [] there = there ≡ here
  PartsAlong here (e ∷ entries) (parts ∷ others) there = ArePartsOf e.call e.reply parts × (next : FrontPassState) × TablePartsGo here parts next × PartsAlong next entries others there
  PartsAlong here _ _ there = ⊥

-- all parts of these calls, in their order
abbrev pub all_parts : List (List TablePart) → List TablePart
all_parts [] = []
all_parts (parts ∷ others) = parts ++ all_parts others

-- ---- what the front's pass has seen

-- What the front's pass has seen before a part, and after it: in what is added only quiet calls stand before the part's own one.
abbrev pub SeenGoes : List TableEntry → TablePart → List TableEntry → Type 0
SeenGoes old (calls does back) new = (added : List TableEntry) × (by : ℕ) × (new ≡ (old ++ added) ++ entry by does back ∷ []) × AreQuiet added
SeenGoes old (renews given last) new = (added : List TableEntry) × (new ≡ old ++ added) × AreQuiet added
SeenGoes old (renews_by does back given last) new = (added : List TableEntry) × (by : ℕ) × (new ≡ (old ++ added) ++ entry by does back ∷ []) × AreQuiet added

-- the same of parts, one after the other
abbrev pub SeenAlong : List TableEntry → List TablePart → List TableEntry → Type 0
SeenAlong old [] new = new ≡ old
SeenAlong old (part ∷ parts) new = (next : List TableEntry) × SeenGoes old part next × SeenAlong next parts new
