-- What a pass takes of the front for a channel, call by call.
use Rattle.std.proofs.Common.{◌≡◌, ◌∙◌, ℕ, List, [], ◌∷◌, ◌++◌, Bool, true, false, ap, sym, refl, subst, append_assoc, append-nil}
use Rattle.rd_carry.specs.Outgoing.{OutgoingState}
use Rattle.rd_host_front.specs.declared.calls.HostFrontCall.TheVariants as call
use Rattle.rd_host_front.specs.declared.calls.HostFrontReply.{HostFrontReply}
use Rattle.rd_host_front.specs.declared.calls.HostFrontReply.TheVariants as reply
use Rattle.rd_host_front.specs.declared.calls.Stop.{Stop}
use Rattle.rd_host_front.specs.declared.calls.Stop.TheVariants as stop
use Rattle.rd_room.specs.Room.{MessageRoom}
use Rattle.rd_turn.specs.History.{entry}
use Rattle.rd_host_channel.specs.Calls.{HostEntry, HostPass, MakesCalls, messages_by, messages_for}
use Rattle.rd_host_channel.specs.Putting.{PutsOn, PutsTo}
use Rattle.rd_host_channel.specs.Sending.{EndsOver, SaysOver, Sends, TakesMore, is_over_by}
use Rattle.rd_host_channel.proofs.CallLemmas.{ask_append, for_append, for_it, made_none, made_then, other_reply}
use Rattle.rd_host_channel.proofs.PuttingLemmas.{on_and, on_none, on_then, puts_and, unflushed}

says_over : (W : Type 0) (filled : MessageRoom) (why : Stop) → is_over_by why ≡ true → SaysOver {W = W} (reply.Messages filled why)
says_over W filled stop.Over is = tt
says_over W filled stop.Full is = absurd (cc is)
says_over W filled stop.Empty is = absurd (cc is)

module _ {W : Type 0} where
  over_then : (xs ys : List (HostEntry W)) → EndsOver ys → EndsOver (xs ++ ys)
  over_then xs ys ends = record {
    before = xs ++ ends.before;
    last = ends.last;
    calls_are = ap (λ (l : List (HostEntry W)). xs ++ l) ends.calls_are ∙ sym (append_assoc xs ends.before (ends.last ∷ []));
    says = ends.says;
  }

module _ {F W : Type 0} where
  -- no call yet
  pub takes_none : (channel : ℕ) (was : Bool) (old : HostPass F W) (from : OutgoingState) → TakesMore channel false was was old old from from
  takes_none channel was old from = record { calls = []; made = made_none old; ask = tt; puts = on_none was was from from (λ is. is) (unflushed from from refl); over = λ is. absurd (cc is) }

  -- one call, which gave the room back with messages
  pub takes_filled : (channel : ℕ) (was starved ended : Bool) (old new : HostPass F W) (from to : OutgoingState) (room filled : MessageRoom) (why : Stop) (back : HostFrontReply W) → back ≡ reply.Messages filled why → ended ≡ is_over_by why
      → MakesCalls (entry old.number (call.Next channel room) back ∷ []) old new → PutsOn was starved filled.messages from to → TakesMore channel ended was starved old new from to
  takes_filled channel was starved ended old new from to room filled why back is ended_is made puts =
      let e = entry old.number (call.Next channel room) back in
      let are : messages_by channel (call.Next channel room) back ≡ filled.messages = ap (messages_by channel (call.Next channel room)) is ∙ for_it W channel room filled why in
      record {
        calls = e ∷ [];
        made = made;
        ask = (refl, tt);
        puts = subst (λ (l : List (List ℕ)). PutsOn was starved l from to) (sym (append-nil (messages_by channel (call.Next channel room) back) ∙ are)) puts;
        over = λ ends fed. record { before = []; last = e; calls_are = refl; says = subst SaysOver (sym is) (says_over W filled why (sym ended_is ∙ ends)) };
      }

  -- one call, by which the room is lost
  pub takes_lost : (channel : ℕ) (was starved ended : Bool) (old new : HostPass F W) (from to : OutgoingState) (room : MessageRoom) (back : HostFrontReply W) → ((filled : MessageRoom) (why : Stop) → back ≡ reply.Messages filled why → ⊥) → starved ≡ true
      → MakesCalls (entry old.number (call.Next channel room) back ∷ []) old new → PutsTo false [] from to → TakesMore channel ended was starved old new from to
  takes_lost channel was starved ended old new from to room back not is made puts =
      record {
        calls = entry old.number (call.Next channel room) back ∷ [];
        made = made;
        ask = (refl, tt);
        puts = subst (λ (l : List (List ℕ)). PutsOn was starved l from to) (sym (append-nil (messages_by channel (call.Next channel room) back) ∙ other_reply channel room back not)) (on_none was starved from to (λ _. is) puts);
        over = λ ends fed. let both : true ≡ false = sym is ∙ fed in absurd (cc both);
      }

  -- these calls, and then those
  pub takes_then : (channel : ℕ) (ended was mid starved : Bool) (a b c : HostPass F W) (f g h : OutgoingState) → TakesMore channel false was mid a b f g → TakesMore channel ended mid starved b c g h → TakesMore channel ended was starved a c f h
  takes_then channel ended was mid starved a b c f g h one two = record {
    calls = one.calls ++ two.calls;
    made = made_then one.calls two.calls a b c one.made two.made;
    ask = ask_append channel one.calls two.calls one.ask two.ask;
    puts = subst (λ (l : List (List ℕ)). PutsOn was starved l f h) (sym (for_append channel one.calls two.calls)) (on_then was mid starved (messages_for channel one.calls) (messages_for channel two.calls) f g h one.puts two.puts);
    over = λ ends fed. over_then one.calls two.calls (two.over ends fed);
  }

  -- what waited was written then
  pub takes_and : (channel : ℕ) (ended was starved : Bool) (a b : HostPass F W) (f g h : OutgoingState) → TakesMore channel ended was starved a b f g → PutsTo false [] g h → TakesMore channel ended was starved a b f h
  takes_and channel ended was starved a b f g h one puts =
      record { calls = one.calls; made = one.made; ask = one.ask; puts = on_and was starved (messages_for channel one.calls) f g h one.puts puts; over = one.over }

  -- and at the end
  pub sends : (channel : ℕ) (was starved : Bool) (a b : HostPass F W) (f g h : OutgoingState) → TakesMore channel true was starved a b f g → PutsTo false [] g h → h.pending ≡ [] → Sends channel starved a b f h
  sends channel was starved a b f g h one puts none =
      record { calls = one.calls; made = one.made; ask = one.ask; puts = puts_and starved false (messages_for channel one.calls) f g h (one.puts).puts puts; over = one.over refl; none = none }
