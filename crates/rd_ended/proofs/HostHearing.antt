-- A host that hears a completion has no more to send.
use Rattle.std.proofs.Common.{◌≡◌, ◌∙◌, refl, sym, ℕ, ◌==◌, Bool, true, false, List, Some, None, Option, Result, Ok, Err}
use Rattle.std.specs.Prelude.{if◌then◌else◌}
use Rattle.rd_base.specs.Header.{any_header, packet_id}
use Rattle.rd_base.specs.Layout.{met}
use Rattle.rd_base.specs.Position.{Position, at_start}
use Rattle.rd_base.specs.declared.bad.Bad.{Bad}
use Rattle.rd_base.specs.declared.packet.Packet.{Packet}
use Rattle.rd_base.specs.declared.packet.Packet.TheVariants as packet
use Rattle.rd_core.specs.Core.{CoreState}
use Rattle.rd_core.specs.Hearing.{Meaning, from_header, from_own, from_packet, hear_said, hear_unless, is_read_in, nothing, opens, read_as, said, says, wrong}
use Rattle.rd_hello.specs.Moves.{is_of}
use Rattle.rd_hello.specs.declared.end_fault.EndFault.{EndFault}
use Rattle.rd_hello.specs.declared.host.HostState.{HostState}
use Rattle.rd_host.specs.Core.{host_hear_made, host_side}
use Rattle.rd_host.specs.declared.act.Act.{Act}
use Rattle.rd_host.specs.declared.act.Act.TheVariants as act
use Rattle.rd_irp.specs.declared.completion.Head.{Head}
use Rattle.rd_irp.specs.Completion.{completion_head}
use Rattle.rd_pending.proofs.Tame.{tame_complete}
use Rattle.rd_deeds.specs.Host.{HostSide, hears, host_heard}

-- nothing is said but that a request is completed
abbrev SaysOfCompletion : Meaning HostState Act → Type 0
SaysOfCompletion (wrong fault) = Unit {0}
SaysOfCompletion nothing = Unit {0}
SaysOfCompletion (opens row) = ⊥
SaysOfCompletion (says (act.Complete head bytes)) = Unit {0}
SaysOfCompletion (says a) = ⊥

said_completion : (state : HostState) (bytes : List ℕ) → is_of packet.IoCompletion bytes ≡ true → SaysOfCompletion (said host_side state bytes)
said_completion state bytes is = by_header (met any_header (at_start bytes)) refl
  where
    own : SaysOfCompletion (from_packet host_side state packet.IoCompletion bytes)
    own = read (met completion_head (at_start bytes))
      where
        read : (r : Result (Head × Position) Bad) → SaysOfCompletion (from_own host_side (read_as (λ (x : Head × Position). act.Complete x.0 (x.1).left) r))
        read (Ok x) = tt
        read (Err bad) = tt

    known : (p : Packet) (b : Bool) (fault : EndFault) → (packet_id p == packet_id packet.IoCompletion) ≡ true → SaysOfCompletion (if b then from_packet host_side state p bytes else wrong fault)
    known p false fault e = tt
    known packet.IoCompletion true fault e = own
    known p true fault e = absurd (cc e)

    by_header : (r : Result (Option Packet × Position) Bad) → met any_header (at_start bytes) ≡ r → SaysOfCompletion (from_header host_side state bytes r)
    by_header (Err bad) e = tt
    by_header (Ok (None, rest)) e = tt
    by_header (Ok (Some p, rest)) e =
        let named : is_of packet.IoCompletion bytes ≡ (packet_id p == packet_id packet.IoCompletion) = rw e refl in
        known p (is_read_in host_side state p) _ (sym named ∙ is)

-- The host has no more to send.
pub record SendsNoMore (s new : HostSide) : Type 0 where
  pub own : ((new.core).core).outbox ≡ ((s.core).core).outbox
  pub requests : (new.table).outbox ≡ (s.table).outbox

pub completion_heard : (s : HostSide) (m : List ℕ) → is_of packet.IoCompletion m ≡ true → SendsNoMore s (hears s m)
completion_heard s m is = by ((s.core).core).fault
  where
    after : CoreState HostState (List ℕ) × Result (Option Act) EndFault → HostSide
    after r = let made = host_hear_made s.core r in host_heard (record s { core = made.0 }) made.1

    from : (x : Meaning HostState Act) → SaysOfCompletion x → SendsNoMore s (after (hear_said host_side (s.core).core x))
    from (wrong fault) own = record { own = refl; requests = refl }
    from nothing own = record { own = refl; requests = refl }
    from (opens row) own = absurd own
    from (says (act.Complete head bytes)) own = record { own = refl; requests = (tame_complete s.table head bytes).outbox }
    from (says a) own = absurd own

    by : (o : Option EndFault) → SendsNoMore s (after (hear_unless host_side (s.core).core m o))
    by (Some fault) = record { own = refl; requests = refl }
    by None = from (said host_side ((s.core).core).shake m) (said_completion ((s.core).core).shake m is)
