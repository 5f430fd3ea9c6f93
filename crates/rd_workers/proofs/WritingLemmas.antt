-- What a writer puts to a half, and which calls of the front it makes for that.
use Rattle.std.proofs.Common.{◌≡◌, ◌∙◌, ◌<◌, ◌⊎◌, ℕ, List, [], ◌∷◌, ◌++◌, Option, Some, None, Bool, true, false, not, inl, inr, ap, sym, refl, subst, append_assoc, append-nil, eq-eqb}
use Rattle.std.proofs.lemmas.Bool.{cases_Bool}
use Rattle.std.specs.Prelude.{Result, Ok, Err, OnOk, OnErr, is_ok, if◌then◌else◌}
use Rattle.rd_carry.specs.Outgoing.{HasWritten, OutgoingState, having_put}
use Rattle.rd_drive.proofs.AllLemmas.{all_append}
use Rattle.rd_front.specs.Calls.{FrontEntry, RanOut}
use Rattle.rd_room.specs.Room.{MessageRoom, first_in_room, first_of_room}
use Rattle.rd_front.specs.declared.calls.FrontCall.TheVariants as call
use Rattle.rd_front.specs.declared.calls.FrontReply.{FrontReply}
use Rattle.rd_front.specs.declared.calls.FrontReply.TheVariants as reply
use Rattle.rd_front.specs.declared.calls.Rest.{Rest}
use Rattle.rd_turn.specs.History.{entry}
use Rattle.rd_workers.specs.Logs.{AllAskFor, AllFound, AsksOn, RunsOutFor, messages_by, messages_for}
use Rattle.rd_workers.specs.Passes.{WriterState}
use Rattle.rd_workers.specs.Writing.{HandsBack, PutsTo, TakesMore, WritesReady}

abbrev Since : List (List ℕ) → OutgoingState → OutgoingState → Type 0
Since put old new = (began : Option (List ℕ)) (before : List (List ℕ)) → HasWritten began before old → HasWritten began (before ++ put) new

-- ---- messages that are put

-- no messages were
none_put : (put lost : List (List ℕ)) → [] ≡ put ++ lost → put ≡ []
none_put [] lost is = refl
none_put (m ∷ put) lost is = absurd (cc is)

-- what waited was written
pub flushed : (old new : OutgoingState) → ((began : Option (List ℕ)) (before : List (List ℕ)) → HasWritten began before old → HasWritten began before new) → (0 < old.faults → new ≡ old) → PutsTo false [] old new
flushed old new since over = record {
  put = [];
  lost = [];
  messages_are = refl;
  all = λ _. refl;
  since = λ began before has. subst (λ (l : List (List ℕ)). HasWritten began l new) (sym (append-nil before)) (since began before has);
  failed = λ some. subst (λ (s : OutgoingState). 0 < s.faults) (sym (over some)) some;
}

pub unflushed : (old new : OutgoingState) → new ≡ old → PutsTo false [] old new
unflushed old new same = flushed old new (λ began before has. subst (HasWritten began before) (sym same) has) (λ some. same)

-- one couldn't be
unput : (message : List ℕ) (old new : OutgoingState) → new ≡ old → PutsTo true (message ∷ []) old new
unput message old new same = record {
  put = [];
  lost = message ∷ [];
  messages_are = refl;
  all = λ is. absurd (cc is);
  since = λ began before has. subst (λ (l : List (List ℕ)). HasWritten began l new) (sym (append-nil before)) (subst (HasWritten began before) (sym same) has);
  failed = λ some. subst (λ (s : OutgoingState). 0 < s.faults) (sym same) some;
}

-- one message
pub put_as : {T E : Type 0} (r : Result T E) (message : List ℕ) (old new : OutgoingState) → OnOk r (new ≡ having_put old message new.capacity) → OnErr r (new ≡ old) → OnOk r (Since (message ∷ []) old new)
    → PutsTo (not (is_ok r)) (message ∷ []) old new
put_as (Ok x) message old new put err since =
    record { put = message ∷ []; lost = []; messages_are = refl; all = λ _. refl; since = since; failed = λ some. subst (λ (s : OutgoingState). 0 < s.faults) (sym put) some }
put_as (Err x) message old new put err since = unput message old new err

-- these, and then those
pub puts_then : (wanting : Bool) (ms ns : List (List ℕ)) (a b c : OutgoingState) → PutsTo false ms a b → PutsTo wanting ns b c → PutsTo wanting (ms ++ ns) a c
puts_then wanting ms ns a b c p q = record {
  put = p.put ++ q.put;
  lost = q.lost;
  messages_are =
      ap (λ (l : List (List ℕ)). l ++ ns) (p.messages_are ∙ ap (λ (l : List (List ℕ)). p.put ++ l) (p.all refl) ∙ append-nil p.put) ∙ ap (λ (l : List (List ℕ)). p.put ++ l) q.messages_are ∙ sym (append_assoc p.put q.put q.lost);
  all = q.all;
  since = λ began before has. subst (λ (l : List (List ℕ)). HasWritten began l c) (append_assoc before p.put q.put) (q.since began (before ++ p.put) (p.since began before has));
  failed = λ some. q.failed (p.failed some);
}

-- these, and then none
pub puts_and : (wanting also : Bool) (ms : List (List ℕ)) (a b c : OutgoingState) → PutsTo wanting ms a b → PutsTo also [] b c → PutsTo wanting ms a c
puts_and wanting also ms a b c p q = record {
  put = p.put;
  lost = p.lost;
  messages_are = p.messages_are;
  all = p.all;
  since = λ began before has.
      subst (λ (l : List (List ℕ)). HasWritten began l c) (ap (λ (l : List (List ℕ)). (before ++ p.put) ++ l) (none_put q.put q.lost q.messages_are) ∙ append-nil (before ++ p.put))
      (q.since began (before ++ p.put) (p.since began before has));
  failed = λ some. q.failed (p.failed some);
}

-- where memory is wanting it may not be all
pub puts_wanting : (wanting : Bool) (ms : List (List ℕ)) (a b : OutgoingState) → PutsTo wanting ms a b → PutsTo true ms a b
puts_wanting wanting ms a b p = record { put = p.put; lost = p.lost; messages_are = p.messages_are; all = λ is. absurd (cc is); since = p.since; failed = p.failed }

pub puts_none : (wanting : Bool) (a b : OutgoingState) → PutsTo false [] a b → PutsTo wanting [] a b
puts_none wanting a b p = record { put = p.put; lost = p.lost; messages_are = p.messages_are; all = λ _. p.all refl; since = p.since; failed = p.failed }

-- ---- a room

-- the message that came first, and the others
pub popped : (old new : MessageRoom) (message : List ℕ) → first_in_room old ≡ (new, Some message) → old.messages ≡ message ∷ new.messages
popped old new message is = by old.messages refl is
  where
    by : (ms : List (List ℕ)) → old.messages ≡ ms → first_of_room old ms ≡ (new, Some message) → old.messages ≡ message ∷ new.messages
    by [] are e = let none : None ≡ Some message = ap (λ (r : MessageRoom × Option (List ℕ)). r.1) e in absurd (cc none)
    by (m ∷ ms) are e =
        let first : Some m ≡ Some message = ap (λ (r : MessageRoom × Option (List ℕ)). r.1) e in
        let is_it : m ≡ message = cc first in
        let others = ap (λ (r : MessageRoom × Option (List ℕ)). (r.0).messages) e in
        are ∙ ap (λ (x : List ℕ). x ∷ ms) is_it ∙ ap (λ (l : List (List ℕ)). message ∷ l) others

-- where none came there was none
pub popped_none : (old new : MessageRoom) → first_in_room old ≡ (new, None) → old.messages ≡ []
popped_none old new is = by old.messages refl is
  where
    by : (ms : List (List ℕ)) → old.messages ≡ ms → first_of_room old ms ≡ (new, None) → old.messages ≡ []
    by [] are e = are
    by (m ∷ ms) are e = let none : Some m ≡ None = ap (λ (r : MessageRoom × Option (List ℕ)). r.1) e in absurd (cc none)

-- Of the messages of a room these were put, and those are left.
pub record HasPopped (all left : List (List ℕ)) (from to : OutgoingState) : Type 0 where
  pub done : List (List ℕ)
  pub are : all ≡ done ++ left
  pub puts : PutsTo false done from to

pub popped_first : (all : List (List ℕ)) (s : OutgoingState) → HasPopped all all s s
popped_first all s = record { done = []; are = refl; puts = unflushed s s refl }

pub popped_more : (all left later : List (List ℕ)) (message : List ℕ) (a b c : OutgoingState) → HasPopped all left a b → left ≡ message ∷ later → PutsTo false (message ∷ []) b c → HasPopped all later a c
popped_more all left later message a b c has next put = record {
  done = has.done ++ message ∷ [];
  are = has.are ∙ ap (λ (l : List (List ℕ)). has.done ++ l) next ∙ sym (append_assoc has.done (message ∷ []) later);
  puts = puts_then false has.done (message ∷ []) a b c has.puts put;
}

pub popped_all : (all left : List (List ℕ)) (a b : OutgoingState) → HasPopped all left a b → left ≡ [] → PutsTo false all a b
popped_all all left a b has none =
    subst (λ (l : List (List ℕ)). PutsTo false l a b) (sym (has.are ∙ ap (λ (l : List (List ℕ)). has.done ++ l) none ∙ append-nil has.done)) has.puts

-- one was wanting memory, and so are those after it
pub popped_wanting : (all left later : List (List ℕ)) (message : List ℕ) (a b c : OutgoingState) → HasPopped all left a b → left ≡ message ∷ later → PutsTo true (message ∷ []) b c → PutsTo true all a c
popped_wanting all left later message a b c has next put =
    let p = puts_then true has.done (message ∷ []) a b c has.puts put in
    record {
      put = p.put;
      lost = p.lost ++ later;
      messages_are = has.are ∙ ap (λ (l : List (List ℕ)). has.done ++ l) next ∙ sym (append_assoc has.done (message ∷ []) later) ∙ ap (λ (l : List (List ℕ)). l ++ later) p.messages_are ∙ append_assoc p.put p.lost later;
      all = λ is. absurd (cc is);
      since = p.since;
      failed = p.failed;
    }

-- ---- calls of the front

-- messages of the channel that is asked for
pub for_it : (c place : ℕ) (room filled : MessageRoom) (left : Rest) → messages_by c (call.Next c place room) (reply.Messages filled left) ≡ filled.messages
for_it c place room filled left = ap (λ (b : Bool). if b then filled.messages else []) (eq-eqb c c refl)

-- another reply has none
pub other_reply : (c place : ℕ) (room : MessageRoom) (back : FrontReply) → ((filled : MessageRoom) (left : Rest) → back ≡ reply.Messages filled left → ⊥) → messages_by c (call.Next c place room) back ≡ []
other_reply c place room (reply.Messages filled left) not = absurd (not filled left refl)
other_reply c place room (reply.Done at full) not = refl
other_reply c place room (reply.Stands ready asked) not = refl
other_reply c place room reply.Kept not = refl
other_reply c place room (reply.Wrong cause) not = refl
other_reply c place room (reply.Duplicate key) not = refl
other_reply c place room reply.Unfit not = refl
other_reply c place room reply.Memory not = refl
other_reply c place room reply.Full not = refl
other_reply c place room reply.Refused not = refl

pub for_append : (c : ℕ) (xs ys : List FrontEntry) → messages_for c (xs ++ ys) ≡ messages_for c xs ++ messages_for c ys
for_append c [] ys = refl
for_append c (x ∷ xs) ys = ap (λ (l : List (List ℕ)). messages_by c x.call x.reply ++ l) (for_append c xs ys) ∙ sym (append_assoc (messages_by c x.call x.reply) (messages_for c xs) (messages_for c ys))

ask_append : (c : ℕ) (xs ys : List FrontEntry) → AllAskFor c xs → AllAskFor c ys → AllAskFor c (xs ++ ys)
ask_append c xs ys all more = all_append (λ (e : FrontEntry). AsksOn c e.call) xs ys all more

pub found_append : (c : ℕ) (xs ys : List FrontEntry) → AllFound c xs → AllFound c ys → AllFound c (xs ++ ys)
found_append c xs ys all more = all_append (λ (e : FrontEntry). ¬ (RunsOutFor c e.call e.reply)) xs ys all more

module _ {F : Type 0} where
  -- no call
  pub takes_none : (old new : WriterState F) (from to : OutgoingState) → PutsTo false [] from to → new ≡ record old { half = new.half; starved = new.starved } → (old.starved ≡ true → new.starved ≡ true) → TakesMore old from to new
  takes_none old new from to puts is stays = record {
    calls = [];
    own = ap (λ (w : WriterState F). w.own) is ∙ sym (append-nil old.own);
    ask = tt;
    puts = puts_none new.starved from to puts;
    found = λ _. tt;
    over = λ was. (refl, stays was);
    same = is ∙ ap (λ (l : List FrontEntry). record old { own = l; half = new.half; starved = new.starved }) (sym (ap (λ (w : WriterState F). w.own) is));
  }

  -- one call
  pub takes_one : (old mid new : WriterState F) (from to : OutgoingState) (place : ℕ) (room : MessageRoom) (back : FrontReply)
      → mid ≡ record old { own = old.own ++ entry (old.front).number (call.Next old.channel place room) back ∷ [] } → new ≡ record mid { starved = new.starved } → old.starved ≡ false
      → PutsTo new.starved (messages_by old.channel (call.Next old.channel place room) back) from to → (new.starved ≡ false → ¬ (RanOut back)) → TakesMore old from to new
  takes_one old mid new from to place room back asked is not puts found =
      let own = ap (λ (w : WriterState F). w.own) is ∙ ap (λ (w : WriterState F). w.own) asked in
      let half = ap (λ (w : WriterState F). w.half) is ∙ ap (λ (w : WriterState F). w.half) asked in
      record {
        calls = entry (old.front).number (call.Next old.channel place room) back ∷ [];
        own = own;
        ask = (refl, tt);
        puts = subst (λ (l : List (List ℕ)). PutsTo new.starved l from to) (sym (append-nil (messages_by old.channel (call.Next old.channel place room) back))) puts;
        found = λ fed. ((λ (out : RunsOutFor old.channel (call.Next old.channel place room) back). found fed out.1), tt);
        over = λ was. let both : false ≡ true = sym not ∙ was in absurd (cc both);
        same = is ∙ ap (λ (w : WriterState F). record w { starved = new.starved }) asked
            ∙ ap (λ (l : List FrontEntry). record old { own = l; starved = new.starved }) (sym own) ∙ ap (λ (h : Option OutgoingState). record old { own = new.own; half = h; starved = new.starved }) (sym half);
      }

  -- these calls, and then those
  pub takes_then : (old mid new : WriterState F) (a b c : OutgoingState) → TakesMore old a b mid → TakesMore mid b c new → TakesMore old a c new
  takes_then old mid new a b c one two =
      record {
        calls = one.calls ++ two.calls;
        own = two.own ∙ ap (λ (l : List FrontEntry). l ++ two.calls) one.own ∙ append_assoc old.own one.calls two.calls;
        ask = ask_append old.channel one.calls two.calls one.ask (subst (λ (n : ℕ). AllAskFor n two.calls) channel two.ask);
        puts = subst (λ (l : List (List ℕ)). PutsTo new.starved l a c) (ap (λ (n : ℕ). messages_for old.channel one.calls ++ messages_for n two.calls) channel ∙ sym (for_append old.channel one.calls two.calls)) (both mid.starved refl);
        found = λ fed. found_then (cases_Bool mid.starved) fed;
        over = λ was. (ap (λ (l : List FrontEntry). l ++ two.calls) (one.over was).0 ∙ (two.over (one.over was).1).0, (two.over (one.over was).1).1);
        same = two.same ∙ ap (λ (w : WriterState F). record w { own = new.own; half = new.half; starved = new.starved }) one.same;
      }
    where
      channel : mid.channel ≡ old.channel
      channel = ap (λ (w : WriterState F). w.channel) one.same

      found_then : (mid.starved ≡ true) ⊎ (mid.starved ≡ false) → new.starved ≡ false → AllFound old.channel (one.calls ++ two.calls)
      found_then (inl was) fed = let both_are : true ≡ false = sym (two.over was).1 ∙ fed in absurd (cc both_are)
      found_then (inr was) fed = found_append old.channel one.calls two.calls (one.found was) (subst (λ (n : ℕ). AllFound n two.calls) channel (two.found fed))

      both : (wanting : Bool) → mid.starved ≡ wanting → PutsTo new.starved (messages_for old.channel one.calls ++ messages_for mid.channel two.calls) a c
      both false is = puts_then new.starved (messages_for old.channel one.calls) (messages_for mid.channel two.calls) a b c (subst (λ (s : Bool). PutsTo s (messages_for old.channel one.calls) a b) is one.puts) two.puts
      both true is =
          let none : messages_for mid.channel two.calls ≡ [] = ap (messages_for mid.channel) (two.over is).0 in
          subst (λ (s : Bool). PutsTo s (messages_for old.channel one.calls ++ messages_for mid.channel two.calls) a c) (is ∙ sym (two.over is).1)
          (subst (λ (l : List (List ℕ)). PutsTo mid.starved l a c) (sym (ap (λ (l : List (List ℕ)). messages_for old.channel one.calls ++ l) none ∙ append-nil (messages_for old.channel one.calls)))
          (puts_and mid.starved new.starved (messages_for old.channel one.calls) a b c one.puts (subst (λ (l : List (List ℕ)). PutsTo new.starved l b c) none two.puts)))

  -- what waited was written then, and the half put back
  pub takes_and : (old mid new : WriterState F) (a b c : OutgoingState) → TakesMore old a b mid → PutsTo false [] b c → new ≡ record mid { half = new.half } → TakesMore old a c new
  takes_and old mid new a b c one puts is =
      let own = ap (λ (w : WriterState F). w.own) is in
      let starved = ap (λ (w : WriterState F). w.starved) is in
      record {
        calls = one.calls;
        own = own ∙ one.own;
        ask = one.ask;
        found = λ fed. one.found (sym starved ∙ fed);
        puts = subst (λ (s : Bool). PutsTo s (messages_for old.channel one.calls) a c) (sym starved) (puts_and mid.starved false (messages_for old.channel one.calls) a b c one.puts puts);
        over = λ was. ((one.over was).0, starved ∙ (one.over was).1);
        same = is ∙ ap (λ (w : WriterState F). record w { half = new.half }) one.same ∙ ap (λ (l : List FrontEntry). record old { own = l; half = new.half; starved = mid.starved }) (sym own)
            ∙ ap (λ (s : Bool). record old { own = new.own; half = new.half; starved = s }) (sym starved);
      }

  -- a channel that is on is written
  pub writes_ready : (old mid new : WriterState F) (a b : OutgoingState) (going : Bool) → old.half ≡ Some a → new.half ≡ Some b → mid ≡ record old { half = None } → TakesMore mid a b new → (going ≡ false → (0 < b.faults) ⊎ (new.starved ≡ true))
      → WritesReady old.half going old new
  writes_ready old mid new a b going half after taken takes cause =
      let on : TakesMore old a b new = record {
        calls = takes.calls;
        own = takes.own ∙ ap (λ (w : WriterState F). w.own ++ takes.calls) taken;
        ask = subst (λ (w : WriterState F). AllAskFor w.channel takes.calls) taken takes.ask;
        puts = subst (λ (w : WriterState F). PutsTo new.starved (messages_for w.channel takes.calls) a b) taken takes.puts;
        found = λ fed. subst (λ (w : WriterState F). AllFound w.channel takes.calls) taken (takes.found fed);
        over = λ was. takes.over (ap (λ (w : WriterState F). w.starved) taken ∙ was);
        same = takes.same ∙ ap (λ (w : WriterState F). record w { own = new.own; half = new.half; starved = new.starved }) taken;
      } in
      subst (λ (h : Option OutgoingState). WritesReady h going old new) (sym half) (b, after, on, cause)

  -- and handed back
  pub hands_back : (old new : WriterState F) (from to : OutgoingState) (starved : Bool) → old.half ≡ Some from → starved ≡ old.starved → PutsTo false [] from to → to.pending ≡ [] → new ≡ record old { half = None }
      → HandsBack old.half (Some to) starved old new
  hands_back old new from to starved half is puts none same = subst (λ (h : Option OutgoingState). HandsBack h (Some to) starved old new) (sym half) (to, refl, is, puts, none, same)
