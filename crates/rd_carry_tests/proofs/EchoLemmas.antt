-- How an echo goes on.
use Rattle.std.proofs.Common.{◌≡◌, ℕ, Bool, List, [], ◌++◌, Option, sym, ap, subst, ◌∙◌}
use Rattle.std.specs.Io.KnownBytes.{Consumes}
use Rattle.rd_carry.specs.Incoming.{IncomingState, ReadsOnce}
use Rattle.rd_carry.specs.Outgoing.{HasWritten, OutgoingState}
use Rattle.rd_carry_tests.specs.Echo.{Echoes}

-- no byte was read
pub consumed_on : (began : Option (List ℕ)) (a b : IncomingState) → b.left ≡ a.left → b.read ≡ a.read → Consumes began a.left a.read → Consumes began b.left b.read
consumed_on began a b left read h = subst (λ (l : Option (List ℕ)). Consumes began l b.read) (sym left) (subst (λ (r : List ℕ). Consumes began a.left r) (sym read) h)

-- what waited was written, or a write failed
abbrev pub Flushed : OutgoingState → OutgoingState → Type 0
Flushed old new = new ≡ record old { held = new.held; faults = new.faults; pending = [] }

pub none_waits : (old new : OutgoingState) → Flushed old new → new.pending ≡ []
none_waits old new flushed = ap (λ (s : OutgoingState). s.pending) flushed

-- what was put are all messages that came in
pub written_on : (began : Option (List ℕ)) (a b c : IncomingState) (o p q : OutgoingState) (more : Bool) → Echoes a b o p → ReadsOnce b c more
    → ((messages : List (List ℕ)) → HasWritten began messages p → HasWritten began messages q) → HasWritten began a.messages o → HasWritten began c.messages q
written_on began a b c o p q more e reads flushed w =
    subst (λ (ms : List (List ℕ)). HasWritten began ms q) (sym (ap (λ (s : IncomingState). s.messages) reads.new_is ∙ e.given)) (flushed (a.messages ++ e.messages) (e.put began a.messages w))
