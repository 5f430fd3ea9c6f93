-- What a host's end hears, as its code says it: the bytes after a completion's head may still be in the message.
use Rattle.std.specs.Prelude.{ℕ, List, Result, Ok, Err}
use Rattle.rd_core.specs.Core.{CoreState}
use Rattle.rd_hello.specs.declared.end_fault.EndFault.{EndFault}
use Rattle.rd_hello.specs.declared.host.HostState.{HostState}
use Rattle.rd_host.specs.declared.act.Act.{Act}
use Rattle.rd_host.specs.declared.act.Act.TheVariants as act
use Rattle.rd_host.specs.declared.act.LentAct.{LentAct}
use Rattle.rd_host.specs.declared.act.LentAct.TheVariants as lent
use Rattle.rd_host.specs.Core.{HostStep, hears}

-- what a message asks, whose bytes are still in it
abbrev pub act_of : LentAct → Act
act_of lent.Nothing = act.Nothing
act_of (lent.Complete head body) = act.Complete head body.now
act_of (lent.Announced devices) = act.Announced devices
act_of (lent.Removed ids) = act.Removed ids

abbrev pub answer_of : Result LentAct EndFault → Result Act EndFault
answer_of (Ok heard) = Ok (act_of heard)
answer_of (Err fault) = Err fault

-- The end of a host, whichever ClientId that announces, heard a message: before it, the answer, and after it.
abbrev pub HostEndHears : CoreState HostState (List ℕ) → List ℕ → Result Act EndFault → CoreState HostState (List ℕ) → Type 0
HostEndHears old message answer new =
    (client : ℕ) → HostStep (record { client = client; core = old }) (hears message answer) (record { client = client; core = new })

-- a completion
abbrev pub HasBody : LentAct → Type 0
HasBody (lent.Complete head body) = Unit {0}
HasBody _ = ⊥
