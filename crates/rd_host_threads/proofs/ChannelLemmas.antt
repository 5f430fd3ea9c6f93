-- One channel of a host: what became of it, and of the calls of pass 0 of the front meanwhile.
use Rattle.std.proofs.Common.{◌≡◌, ◌≢◌, ◌∙◌, ◌+◌, ◌<◌, ℕ, suc, Bool, false, List, [], ◌∷◌, ◌++◌, Option, Some, None, ap, sym, subst, refl, append-nil, arith}
use Rattle.std.specs.Io.KnownBytes.{Appends, Consumes}
use Rattle.rd_carry.specs.Incoming.{HasHeard, new_incoming}
use Rattle.rd_carry.specs.Outgoing.{HasWritten, new_outgoing}
use Rattle.rd_host_channel.specs.Calls.{HostEntry, HostPass, messages_for}
use Rattle.rd_host_channel.specs.Reading.{AreGiven}
use Rattle.rd_host_channel.specs.declared.ending.Ending.{Ending}
use Rattle.rd_host_channel.specs.declared.ending.Ending.TheVariants as ending
use Rattle.rd_host_front.specs.declared.calls.Came.TheVariants as came
use Rattle.rd_host_front.specs.declared.calls.HostFrontCall.TheVariants as call
use Rattle.rd_host_front.specs.declared.calls.HostFrontReply.TheVariants as reply
use Rattle.rd_host_front.specs.State.{TurnOfTable}
use Rattle.rd_host_player.specs.Play.{PlayState}
use Rattle.rd_host_player.specs.declared.player.Stop.{Stop}
use Rattle.rd_host_session.specs.Channels.{ServesChannel, SessionState}
use Rattle.rd_turn.specs.History.{entry}
use Rattle.rd_turn.specs.Pass.{after_split, new_pass}
use Rattle.rd_host_threads.specs.Calls.{reader_of, writer_of}
use Rattle.rd_host_threads.specs.Channels.{HostChannel, SettlesChannel, WasServed, reader_calls}
use Rattle.rd_host_threads.specs.Played.{channel_calls, plays_calls}
use Rattle.rd_host_threads.proofs.PassLemmas.{GoesBy, HasJoined, comes_home, goes_call, goes_join, goes_split, goes_then, joined_stays}
use Rattle.rd_host_threads.proofs.PlayLemmas.{plays_goes}

-- ---- halves that are new

consumes_none : (given : Option (List ℕ)) → Consumes given given []
consumes_none None = tt
consumes_none (Some bytes) = refl

appends_none : (held : Option (List ℕ)) → Appends held held []
appends_none None = tt
appends_none (Some bytes) = sym (append-nil bytes)

heard_none : (given : Option (List ℕ)) (room : ℕ) → HasHeard (new_incoming given 0 room)
heard_none given room = record {
  handled = [];
  read_is = refl;
  stream = record {
    whole = [];
    n = 1;
    joined = [];
    begun = [];
    part = [];
    are_whole = refl;
    are_begun = record { frames = []; are = tt; joined_are = refl; bytes_are = refl; short = omega arith; most = omega arith };
    is_part = record { size = λ some. absurd (omega arith); head = λ some. absurd (omega arith); short = λ some. absurd (omega arith) };
    bytes_are = refl;
  };
  faulty = λ bad is. absurd (cc is);
  few = omega arith;
}

written_none : (held : Option (List ℕ)) (capacity : ℕ) → HasWritten held [] (new_outgoing held capacity)
written_none held capacity = record { fit = tt; written = []; rest = []; frames_are = refl; wrote = appends_none held; waits = λ none. refl }

-- ---- numbers

reader_at : (n made : ℕ) → made ≡ n + n → suc made ≡ reader_of (suc n)
reader_at n made is = omega arith

writer_at : (n made : ℕ) → made ≡ n + n → suc (suc made) ≡ writer_of (suc n)
writer_at n made is = omega arith

pub reader_later : (channel : ℕ) → 0 < channel → reader_of channel ≢ 0
reader_later channel some is = omega arith

pub writer_later : (channel : ℕ) → 0 < channel → writer_of channel ≢ 0
writer_later channel some is = omega arith

module _ {F W : Type 0} where
  -- A channel was served, and the passes of its reader and its writer were joined to this one.
  pub record HasChannel (p : HostPass F W) (c : HostChannel W) : Type 0 where
    pub some : 0 < c.channel
    pub served : WasServed c
    pub reader : HasJoined p (reader_of c.channel) (reader_calls c)
    pub writer : HasJoined p (writer_of c.channel) c.asks

  pub channel_stays : (m : ℕ) (own : List (HostEntry W)) (p q : HostPass F W) → GoesBy m own p q → (c : HostChannel W) → HasChannel p c → HasChannel q c
  channel_stays m own p q goes c has = record {
    some = has.some;
    served = has.served;
    reader = joined_stays m own p q (reader_of c.channel) (reader_calls c) (reader_later c.channel has.some) goes has.reader;
    writer = joined_stays m own p q (writer_of c.channel) c.asks (writer_later c.channel has.some) goes has.writer;
  }

  module _ (turn : TurnOfTable) (devices : ℕ) where
    -- What it comes to that a channel was served.
    pub record Serves (n : ℕ) (why : Stop) (by : Ending) (own : List (HostEntry W)) (old new : SessionState F W) : Type 0 where
      pub c : HostChannel W
      pub channel_is : c.channel ≡ suc n
      pub why_is : c.why ≡ why
      pub by_is : c.by ≡ by
      pub settles : SettlesChannel c old.linker new.linker
      pub goes : GoesBy 2 own (old.play).front (new.play).front
      pub has : HasChannel (new.play).front c

    pub serves_so : (n : ℕ) (why : Stop) (by : Ending) (starved : Bool) (old new : SessionState F W) (serves : ServesChannel turn devices (suc n) why by starved old new) → starved ≡ false → by ≢ ending.Memory
        → ((old.play).front).number ≡ 0 → ((old.play).front).made ≡ n + n
        → Serves n why by (channel_calls turn devices (suc n) why by starved old new serves) old new
    serves_so n why by starved old new serves fed found first count =
        let is_begun = serves.serves in
        let begun = serves.begun in
        let b = begun.front in
        let listens = is_begun.listens in
        let sends = is_begun.sends in
        let reads = listens.reads in
        let c : HostChannel W = record {
          channel = suc n;
          why = why;
          by = by;
          given = serves.given;
          held = serves.held;
          incoming = serves.incoming;
          outgoing = serves.outgoing;
          reads = listens.calls;
          dropped = listens.dropped;
          rest = reads.rest;
          asks = sends.calls;
        } in
        let puts = sends.puts in
        let all_put : puts.put ≡ messages_for (suc n) sends.calls = sym (puts.messages_are ∙ ap (λ (l : List (List ℕ)). puts.put ++ l) (puts.all fed) ∙ append-nil puts.put) in
        let served : WasServed c = record {
          found = found;
          stream = reads.stream (heard_none serves.given serves.room);
          consumed = reads.consumed serves.given (consumes_none serves.given);
          counted = reads.counted;
          bytes = reads.bytes;
          are_given = subst (λ (l : List (List ℕ)). AreGiven (suc n) listens.calls l reads.rest) (sym reads.messages) reads.given;
          unheard = reads.all;
          end_is = reads.end_is;
          ask = sends.ask;
          over = sends.over fed;
          wrote = subst (λ (l : List (List ℕ)). HasWritten serves.held l serves.outgoing) all_put (puts.since serves.held [] (written_none serves.held serves.capacity));
          flushed = sends.none;
        } in
        let begins = serves.begins in
        let does = call.Begin (suc n) (old.play).first in
        let back = reply.First begun.first came.Done in
        let one = goes_call (old.play).front b does back first begins.0 (refl, begins.1) in
        let made : b.made ≡ n + n = let same = one.made in omega arith in
        let two = goes_split b one.number in
        let then : PlayState F W = record begun { front = after_split (after_split b) } in
        let plays = plays_calls turn devices why then is_begun.over is_begun.plays in
        let three = plays_goes turn devices why then is_begun.over is_begun.plays two.number in
        let four = goes_join (is_begun.over).front is_begun.reader is_begun.between three.number is_begun.reader_home in
        let five = goes_join is_begun.between is_begun.writer (new.play).front four.number is_begun.writer_home in
        let last = goes_then 0 0 [] [] (is_begun.over).front is_begun.between (new.play).front four five in
        let played = goes_then 0 0 plays [] then.front (is_begun.over).front (new.play).front three last in
        let split = goes_then 2 0 [] (plays ++ []) b then.front (new.play).front two played in
        let whole = goes_then 0 2 (entry 0 does back ∷ []) (plays ++ []) (old.play).front b (new.play).front one split in
        let drop : ℕ → HostEntry W = λ (k : ℕ). entry k (call.DropChannel (suc n)) listens.dropped in
        let reader_home : HasJoined is_begun.between (suc b.made) (listens.calls ++ drop (suc b.made) ∷ []) =
        comes_home (new_pass b) is_begun.reader (is_begun.over).front is_begun.between (listens.calls ++ drop (suc b.made) ∷ []) is_begun.reader_new listens.made is_begun.reader_home in
        let writer_home : HasJoined (new.play).front (suc (suc b.made)) sends.calls =
        comes_home (new_pass (after_split b)) is_begun.writer is_begun.between (new.play).front sends.calls is_begun.writer_new sends.made is_begun.writer_home in
        record {
          c = c;
          channel_is = refl;
          why_is = refl;
          by_is = refl;
          settles = serves.settles;
          goes = subst (λ (l : List (HostEntry W)). GoesBy 2 (entry 0 does back ∷ l) (old.play).front (new.play).front) (append-nil plays) whole;
          has = record {
            some = omega arith;
            served = served;
            reader = joined_stays 0 [] is_begun.between (new.play).front (reader_of (suc n)) (reader_calls c) (reader_later (suc n) (omega arith)) five
                (subst (λ (k : ℕ). HasJoined is_begun.between k (listens.calls ++ drop k ∷ [])) (reader_at n b.made made) reader_home);
            writer = subst (λ (k : ℕ). HasJoined (new.play).front k sends.calls) (writer_at n b.made made) writer_home;
          };
        }
