-- What was wrong with a message stays the answer, whatever is called until a channel begins.
use Rattle.std.proofs.Common.{◌≡◌, ◌∙◌, sym, ap, subst, ℕ, List, Some, Option}
use Rattle.std.specs.Prelude.{Result, Ok, Err}
use Rattle.rd_core.specs.Core.{Did}
use Rattle.rd_core.specs.Hearing as hearing
use Rattle.rd_core.proofs.ExpectedLemmas.{held_heard}
use Rattle.rd_core.proofs.KeptLemmas.{sent_fault}
use Rattle.rd_hello.specs.declared.end_fault.EndFault.{EndFault}
use Rattle.rd_hello.specs.declared.end_fault.EndFault.TheVariants.{Memory}
use Rattle.rd_client.specs.declared.heard.Heard.{Heard}
use Rattle.rd_client.specs.Core.{KeepsClientChannel, ClientCall, ClientCoreState, ClientStep, Outgoing, begins, client_hear, client_hear_made, client_side, direct, directs, hears, refreshes, sends, tell_added, tell_removed, tells_added, tells_removed}

abbrev IsWrong : EndFault → ClientCoreState → Type 0
IsWrong fault c = (c.core).fault ≡ Some fault

held_hear : (c : ClientCoreState) (message : List ℕ) (fault : EndFault) → IsWrong fault c → client_hear c message ≡ (c, Err fault)
held_hear c message fault held = ap (λ x. client_hear_made c x) (held_heard client_side c.core message fault held)

wrong_heard : (old new : ClientCoreState) (message : List ℕ) (answer : Result Heard EndFault) (fault : EndFault)
    → hearing.Hears client_side (λ (c : ClientCoreState). c.core) client_hear old message answer new → IsWrong fault old → ◌≡◌ {A = ClientCoreState × Result Heard EndFault} (new, answer) (old, Err fault)
wrong_heard old new message (Err Memory) fault step held = let sound = step.0.sound in absurd cc
wrong_heard old new message answer fault step held = sym step ∙ held_hear old message fault held

wrong_did : {E : Type 0} (fault : EndFault) (done old new : ClientCoreState) (answer : Result (Unit {0}) E) → IsWrong fault done → IsWrong fault old → Did answer done old new → IsWrong fault new
wrong_did fault done old new (Ok u) after held did = subst (IsWrong fault) (sym did) after
wrong_did fault done old new (Err cause) after held did = subst (IsWrong fault) (sym did) held

pub client_stays_wrong : (old new : ClientCoreState) (call : ClientCall) (fault : EndFault) → ClientStep old call new → KeepsClientChannel call → IsWrong fault old → IsWrong fault new
client_stays_wrong old new (begins channel) fault step none held = absurd none
client_stays_wrong old new (hears message answer) fault step none held =
    subst (IsWrong fault) (sym (ap (λ (x : ClientCoreState × Result Heard EndFault). x.0) (wrong_heard old new message answer fault step.1 held))) held
client_stays_wrong old new (directs job device status answer) fault step none held = wrong_did fault (direct old job device status) old new answer held held step.1
client_stays_wrong old new (refreshes device body) fault step none held = subst (IsWrong fault) (sym step.1) held
client_stays_wrong old new (tells_removed device answer) fault step none held = wrong_did fault (tell_removed old device) old new answer held held step.1
client_stays_wrong old new (tells_added device answer) fault step none held = wrong_did fault (tell_added old device) old new answer held held step.1
client_stays_wrong old new (sends answer) fault step none held =
    subst (IsWrong fault) (ap (λ (x : ClientCoreState × Option Outgoing). x.0) step) (sent_fault old.core (old.core).outbox ∙ held)

pub client_answers_wrong : (old new : ClientCoreState) (message : List ℕ) (answer : Result Heard EndFault) (fault : EndFault) → ClientStep old (hears message answer) new → IsWrong fault old → answer ≡ Err fault
client_answers_wrong old new message answer fault step held = ap (λ (x : ClientCoreState × Result Heard EndFault). x.1) (wrong_heard old new message answer fault step.1 held)
