-- What is put to a half, one after the other.
use Rattle.std.proofs.Common.{◌≡◌, ◌∙◌, ◌<◌, ◌⊎◌, ℕ, List, [], ◌∷◌, ◌++◌, Option, Some, None, Bool, true, false, not, inl, inr, ap, sym, refl, subst, append_assoc, append-nil}
use Rattle.std.proofs.lemmas.Bool.{cases_Bool}
use Rattle.std.specs.Prelude.{Result, Ok, Err, OnOk, OnErr, is_ok}
use Rattle.rd_carry.specs.Outgoing.{HasWritten, OutgoingState, having_put}
use Rattle.rd_room.specs.Room.{MessageRoom, first_in_room, first_of_room}
use Rattle.rd_host_channel.specs.Putting.{PutsOn, PutsTo}

abbrev Since : List (List ℕ) → OutgoingState → OutgoingState → Type 0
Since put old new = (began : Option (List ℕ)) (before : List (List ℕ)) → HasWritten began before old → HasWritten began (before ++ put) new

-- ---- messages that are put

-- no messages were
none_put : (put lost : List (List ℕ)) → [] ≡ put ++ lost → put ≡ []
none_put [] lost is = refl
none_put (m ∷ put) lost is = absurd (cc is)

-- what waited was written
pub flushed : (old new : OutgoingState) → ((began : Option (List ℕ)) (before : List (List ℕ)) → HasWritten began before old → HasWritten began before new) → (0 < old.faults → new ≡ old) → PutsTo false [] old new
flushed old new since over = record {
  put = [];
  lost = [];
  messages_are = refl;
  all = λ _. refl;
  since = λ began before has. subst (λ (l : List (List ℕ)). HasWritten began l new) (sym (append-nil before)) (since began before has);
  failed = λ some. subst (λ (s : OutgoingState). 0 < s.faults) (sym (over some)) some;
}

pub unflushed : (old new : OutgoingState) → new ≡ old → PutsTo false [] old new
unflushed old new same = flushed old new (λ began before has. subst (HasWritten began before) (sym same) has) (λ some. same)

-- none could be
pub unput : (messages : List (List ℕ)) (old new : OutgoingState) → new ≡ old → PutsTo true messages old new
unput messages old new same = record {
  put = [];
  lost = messages;
  messages_are = refl;
  all = λ is. absurd (cc is);
  since = λ began before has. subst (λ (l : List (List ℕ)). HasWritten began l new) (sym (append-nil before)) (subst (HasWritten began before) (sym same) has);
  failed = λ some. subst (λ (s : OutgoingState). 0 < s.faults) (sym same) some;
}

-- one message
pub put_as : {T E : Type 0} (r : Result T E) (message : List ℕ) (old new : OutgoingState) → OnOk r (new ≡ having_put old message new.capacity) → OnErr r (new ≡ old) → OnOk r (Since (message ∷ []) old new)
    → PutsTo (not (is_ok r)) (message ∷ []) old new
put_as (Ok x) message old new put err since =
    record { put = message ∷ []; lost = []; messages_are = refl; all = λ _. refl; since = since; failed = λ some. subst (λ (s : OutgoingState). 0 < s.faults) (sym put) some }
put_as (Err x) message old new put err since = unput (message ∷ []) old new err

-- these, and then those
pub puts_then : (wanting : Bool) (ms ns : List (List ℕ)) (a b c : OutgoingState) → PutsTo false ms a b → PutsTo wanting ns b c → PutsTo wanting (ms ++ ns) a c
puts_then wanting ms ns a b c p q = record {
  put = p.put ++ q.put;
  lost = q.lost;
  messages_are =
      ap (λ (l : List (List ℕ)). l ++ ns) (p.messages_are ∙ ap (λ (l : List (List ℕ)). p.put ++ l) (p.all refl) ∙ append-nil p.put) ∙ ap (λ (l : List (List ℕ)). p.put ++ l) q.messages_are ∙ sym (append_assoc p.put q.put q.lost);
  all = q.all;
  since = λ began before has. subst (λ (l : List (List ℕ)). HasWritten began l c) (append_assoc before p.put q.put) (q.since began (before ++ p.put) (p.since began before has));
  failed = λ some. q.failed (p.failed some);
}

-- these, and then none
pub puts_and : (wanting also : Bool) (ms : List (List ℕ)) (a b c : OutgoingState) → PutsTo wanting ms a b → PutsTo also [] b c → PutsTo wanting ms a c
puts_and wanting also ms a b c p q = record {
  put = p.put;
  lost = p.lost;
  messages_are = p.messages_are;
  all = p.all;
  since = λ began before has.
      subst (λ (l : List (List ℕ)). HasWritten began l c) (ap (λ (l : List (List ℕ)). (before ++ p.put) ++ l) (none_put q.put q.lost q.messages_are) ∙ append-nil (before ++ p.put))
      (q.since began (before ++ p.put) (p.since began before has));
  failed = λ some. q.failed (p.failed some);
}

-- ---- a room

-- the message that came first, and the others
pub popped : (old new : MessageRoom) (message : List ℕ) → first_in_room old ≡ (new, Some message) → old.messages ≡ message ∷ new.messages
popped old new message is = by old.messages refl is
  where
    by : (ms : List (List ℕ)) → old.messages ≡ ms → first_of_room old ms ≡ (new, Some message) → old.messages ≡ message ∷ new.messages
    by [] are e = let none : None ≡ Some message = ap (λ (r : MessageRoom × Option (List ℕ)). r.1) e in absurd (cc none)
    by (m ∷ ms) are e =
        let first : Some m ≡ Some message = ap (λ (r : MessageRoom × Option (List ℕ)). r.1) e in
        let is_it : m ≡ message = cc first in
        let others = ap (λ (r : MessageRoom × Option (List ℕ)). (r.0).messages) e in
        are ∙ ap (λ (x : List ℕ). x ∷ ms) is_it ∙ ap (λ (l : List (List ℕ)). message ∷ l) others

-- Of the messages of a room these were put, and those are left.
pub record HasPopped (all left : List (List ℕ)) (from to : OutgoingState) : Type 0 where
  pub done : List (List ℕ)
  pub are : all ≡ done ++ left
  pub puts : PutsTo false done from to

pub popped_more : (all left later : List (List ℕ)) (message : List ℕ) (a b c : OutgoingState) → HasPopped all left a b → left ≡ message ∷ later → PutsTo false (message ∷ []) b c → HasPopped all later a c
popped_more all left later message a b c has next put = record {
  done = has.done ++ message ∷ [];
  are = has.are ∙ ap (λ (l : List (List ℕ)). has.done ++ l) next ∙ sym (append_assoc has.done (message ∷ []) later);
  puts = puts_then false has.done (message ∷ []) a b c has.puts put;
}

-- one was wanting memory, and so are those after it
pub popped_wanting : (all left later : List (List ℕ)) (message : List ℕ) (a b c : OutgoingState) → HasPopped all left a b → left ≡ message ∷ later → PutsTo true (message ∷ []) b c → PutsTo true all a c
popped_wanting all left later message a b c has next put =
    let p = puts_then true has.done (message ∷ []) a b c has.puts put in
    record {
      put = p.put;
      lost = p.lost ++ later;
      messages_are = has.are ∙ ap (λ (l : List (List ℕ)). has.done ++ l) next ∙ sym (append_assoc has.done (message ∷ []) later) ∙ ap (λ (l : List (List ℕ)). l ++ later) p.messages_are ∙ append_assoc p.put p.lost later;
      all = λ is. absurd (cc is);
      since = p.since;
      failed = p.failed;
    }

-- ---- where it may be that no memory was found before

-- it wasn't, so none are
pub on_starved : (was starved : Bool) (messages : List (List ℕ)) (a b : OutgoingState) → was ≡ true → starved ≡ was → b ≡ a → PutsOn was starved messages a b
unfolding unput
on_starved was starved messages a b is stays same =
    subst (λ (s : Bool). PutsOn was s messages a b) (sym (stays ∙ is)) (record { puts = unput messages a b same; over = λ _. (refl, refl) })

-- no messages came
pub on_none : (was starved : Bool) (a b : OutgoingState) → (was ≡ true → starved ≡ true) → PutsTo false [] a b → PutsOn was starved [] a b
on_none was starved a b stays puts = record {
  puts = record { put = puts.put; lost = puts.lost; messages_are = puts.messages_are; all = λ _. puts.all refl; since = puts.since; failed = puts.failed };
  over = λ is. (stays is, none_put puts.put puts.lost puts.messages_are);
}

regrouped : (ps ls qs rs : List (List ℕ)) → (ls ≡ []) ⊎ (qs ≡ []) → (ps ++ ls) ++ (qs ++ rs) ≡ (ps ++ qs) ++ (ls ++ rs)
regrouped ps ls qs rs (inl none) =
    ap (λ (l : List (List ℕ)). (ps ++ l) ++ (qs ++ rs)) none ∙ ap (λ (l : List (List ℕ)). l ++ (qs ++ rs)) (append-nil ps) ∙ sym (append_assoc ps qs rs) ∙ ap (λ (l : List (List ℕ)). (ps ++ qs) ++ (l ++ rs)) (sym none)
regrouped ps ls qs rs (inr none) =
    ap (λ (l : List (List ℕ)). (ps ++ ls) ++ (l ++ rs)) none ∙ append_assoc ps ls rs ∙ ap (λ (l : List (List ℕ)). l ++ (ls ++ rs)) (sym (append-nil ps)) ∙ ap (λ (l : List (List ℕ)). (ps ++ l) ++ (ls ++ rs)) (sym none)

-- these, and then those
pub on_then : (was mid starved : Bool) (ms ns : List (List ℕ)) (a b c : OutgoingState) → PutsOn was mid ms a b → PutsOn mid starved ns b c → PutsOn was starved (ms ++ ns) a c
on_then was mid starved ms ns a b c one two =
    record {
      puts = record {
        put = p.put ++ q.put;
        lost = p.lost ++ q.lost;
        messages_are = ap (λ (l : List (List ℕ)). l ++ ns) p.messages_are ∙ ap (λ (l : List (List ℕ)). (p.put ++ p.lost) ++ l) q.messages_are ∙ regrouped p.put p.lost q.put q.lost either;
        all = λ fed. ap (λ (l : List (List ℕ)). l ++ q.lost) (p.all (fed_before fed)) ∙ q.all fed;
        since = λ began before has. subst (λ (l : List (List ℕ)). HasWritten began l c) (append_assoc before p.put q.put) (q.since began (before ++ p.put) (p.since began before has));
        failed = λ some. q.failed (p.failed some);
      };
      over = λ is.
          let first = one.over is in
          let second = two.over first.0 in
          (second.0, ap (λ (l : List (List ℕ)). l ++ q.put) first.1 ∙ second.1);
    }
  where
    p : PutsTo mid ms a b
    p = one.puts

    q : PutsTo starved ns b c
    q = two.puts

    either : (p.lost ≡ []) ⊎ (q.put ≡ [])
    either = elim (cases_Bool mid) [ inl is ↦ inr (two.over is).1 | inr is ↦ inl (p.all is) ]

    fed_before : starved ≡ false → mid ≡ false
    fed_before fed = elim (cases_Bool mid) [ inl is ↦ let both : true ≡ false = sym (two.over is).0 ∙ fed in absurd (cc both) | inr is ↦ is ]

-- what waited was written then
pub on_and : (was starved : Bool) (ms : List (List ℕ)) (a b c : OutgoingState) → PutsOn was starved ms a b → PutsTo false [] b c → PutsOn was starved ms a c
unfolding puts_and
on_and was starved ms a b c one puts = record { puts = puts_and starved false ms a b c one.puts puts; over = one.over }
