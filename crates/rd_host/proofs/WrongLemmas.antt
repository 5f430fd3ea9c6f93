-- What was wrong with a message stays the answer, whatever is called until a channel begins.
use Rattle.std.proofs.Common.{◌≡◌, ◌∙◌, sym, ap, subst, ℕ, List, Some, Option}
use Rattle.std.specs.Prelude.{Result, Ok, Err}
use Rattle.rd_core.specs.Core.{Did}
use Rattle.rd_core.specs.Hearing as hearing
use Rattle.rd_core.proofs.ExpectedLemmas.{held_heard}
use Rattle.rd_core.proofs.KeptLemmas.{sent_fault}
use Rattle.rd_hello.specs.declared.end_fault.EndFault.{EndFault}
use Rattle.rd_hello.specs.declared.end_fault.EndFault.TheVariants.{Memory}
use Rattle.rd_host.specs.declared.act.Act.{Act}
use Rattle.rd_host.specs.Core.{KeepsHostChannel, HostCall, HostCoreState, HostStep, begins, hears, host_hear, host_hear_made, host_side, replies, reply, sends, tell, tells}

abbrev IsWrong : EndFault → HostCoreState → Type 0
IsWrong fault h = (h.core).fault ≡ Some fault

held_hear : (h : HostCoreState) (message : List ℕ) (fault : EndFault) → IsWrong fault h → host_hear h message ≡ (h, Err fault)
held_hear h message fault held = ap (λ x. host_hear_made h x) (held_heard host_side h.core message fault held)

wrong_heard : (old new : HostCoreState) (message : List ℕ) (answer : Result Act EndFault) (fault : EndFault)
    → hearing.Hears host_side (λ (h : HostCoreState). h.core) host_hear old message answer new → IsWrong fault old → ◌≡◌ {A = HostCoreState × Result Act EndFault} (new, answer) (old, Err fault)
wrong_heard old new message (Err Memory) fault step held = let sound = step.0.sound in absurd cc
wrong_heard old new message answer fault step held = sym step ∙ held_hear old message fault held

wrong_did : {E : Type 0} (fault : EndFault) (done old new : HostCoreState) (answer : Result (Unit {0}) E) → IsWrong fault done → IsWrong fault old → Did answer done old new → IsWrong fault new
wrong_did fault done old new (Ok u) after held did = subst (IsWrong fault) (sym did) after
wrong_did fault done old new (Err cause) after held did = subst (IsWrong fault) (sym did) held

pub host_stays_wrong : (old new : HostCoreState) (call : HostCall) (fault : EndFault) → HostStep old call new → KeepsHostChannel call → IsWrong fault old → IsWrong fault new
host_stays_wrong old new (begins answer) fault step none held = absurd none
host_stays_wrong old new (hears message answer) fault step none held =
    subst (IsWrong fault) (sym (ap (λ (x : HostCoreState × Result Act EndFault). x.0) (wrong_heard old new message answer fault step held))) held
host_stays_wrong old new (replies device code answer) fault step none held = wrong_did fault (reply old device code) old new answer held held step.1
host_stays_wrong old new (tells n answer) fault step none held = wrong_did fault (tell old n) old new answer held held step.1
host_stays_wrong old new (sends answer) fault step none held =
    subst (IsWrong fault) (ap (λ (x : HostCoreState × Option (List ℕ)). x.0) step) (sent_fault old.core (old.core).outbox ∙ held)

pub host_answers_wrong : (old new : HostCoreState) (message : List ℕ) (answer : Result Act EndFault) (fault : EndFault) → HostStep old (hears message answer) new → IsWrong fault old → answer ≡ Err fault
host_answers_wrong old new message answer fault step held = ap (λ (x : HostCoreState × Result Act EndFault). x.1) (wrong_heard old new message answer fault step held)
