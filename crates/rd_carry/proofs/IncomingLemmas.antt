-- What a half that is read keeps (`IsIncoming`), and what its callers see of that (`HasHeard`).
use Rattle.std.proofs.Common.{◌≡◌, ◌≤◌, ◌<◌, ℕ, ◌+◌, ◌-◌, ◌^◌, arith, refl, sym, ap, subst, ◌∙◌, length, List, [], ◌∷◌, ◌++◌, take, drop, inl, inr, Option, None, Some, length-append, length-take, length-drop, append_assoc}
use Rattle.std.specs.Prelude.{IfSome, IfNone, is_some}
use Rattle.std.specs.Int.{from_bool}
use Rattle.std.specs.Option.{option_to_list}
use Rattle.std.specs.List.{concat, flat_map}
use Rattle.std.specs.Io.KnownBytes.{Consumes, IsAtEnd}
use Rattle.std.proofs.lemmas.List.{append-nil, take-append-drop, drop-drop, drop-take, drop_all}
use Rattle.std.proofs.lemmas.Bool.{cases_eq}
use Rattle.std.proofs.lemmas.Bool.Decides.{nat_tests}
use Rattle.rd_chunk.specs.declared.fault.ChunkBad.{ChunkBad}
use Rattle.rd_chunk.specs.declared.head.RowFault.{RowFault}
use Rattle.rd_chunk.specs.Carrier.{IsMessage}
use Rattle.rd_chunk.specs.Faults.{ShowsFault, size_fault, fields_fault}
use Rattle.rd_chunk.specs.Frames.{data_of, size_of, length_of, flags_of, AreFrames, One, Carried}
use Rattle.rd_chunk.specs.Standing.{Held, StandsFor, HasJoined, Takes, BringsFault, waiting}
use Rattle.rd_chunk.specs.Streams.{IsStream}
use Rattle.rd_chunk.proofs.CarriedLemmas.{waits_at_one, Carried-append}
use Rattle.rd_chunk.proofs.HasJoinedLemmas.{joined_on, joined_stream, joined_took}
use Rattle.rd_carry.specs.declared.feeding.CarryNo.{CarryNo}
use Rattle.rd_carry.specs.declared.feeding.CarryNo.TheVariants.{Failed, Bad, Long, Memory}
use Rattle.rd_carry.specs.Incoming.{GivesMessage, HasFirstFault, IncomingState, HasHeard, IsIncoming, without_fault}

-- ---- faults

offset_of_size : (size : ℕ) (fault : RowFault) → size_fault size ≡ Some fault → fault.offset ≡ 0
offset_of_size size fault e = grind (arith, nat_tests, e)

offset_of_fields : (n before size len flags : ℕ) (fault : RowFault) → fields_fault n before size len flags ≡ Some fault → fault.offset ≤ 12
unfolding fields_fault
offset_of_fields n before size len flags fault e = grind (arith, nat_tests, e)

-- a fault stands within the bytes that show it
offset_within : (n before : ℕ) (head : List ℕ) (fault : RowFault) → ShowsFault n before head fault → fault.offset ≤ length head
offset_within n before head fault s = elim s.holds [
  | inl four ↦ omega (arith, offset_of_size (size_of head) fault four.1)
  | inr twelve ↦ omega (arith, twelve.0, offset_of_fields n before (size_of head) (length_of head) (flags_of head) fault twelve.2)
]

-- A fault that bytes bring to a joiner is one of all bytes, at its place, whatever follows.
pub fault_found : (held : Held) (messages : List (List ℕ)) (bytes more rest : List ℕ) (bad : ChunkBad) → HasJoined held messages bytes → BringsFault held more bad
    → length bytes + length (more ++ rest) < 2 ^ 64 → HasFirstFault messages (bytes ++ (more ++ rest)) bad
fault_found held messages bytes more rest bad j faults short =
    let found = faults (length j.whole) j.rest j.stands in
    let place : ℕ = found.0 in
    let f = found.1.0 in
    let all : length bytes ≡ length j.whole + length j.rest = ap length j.bytes_are ∙ length-append j.whole j.rest in
    let within : place ≤ length j.rest + length more =
    omega (arith, f.place_is, offset_within f.n (length f.joined) f.head f.fault f.has, ap length f.bytes_are, length-append (f.whole ++ f.begun) f.head, length-append f.whole f.begun, length-append j.rest more) in
    let small : length j.whole + place < 2 ^ 64 = omega (arith, within, all, short, length-append more rest) in
    let at_is : bad.at ≡ length j.whole + place = found.2 ∙ omega (arith, small) in
    record {
      prefix = j.whole ++ (j.rest ++ more);
      rest = rest;
      bytes_are = sym (append_assoc bytes more rest) ∙ ap (λ (r : List ℕ). r ++ more ++ rest) j.bytes_are ∙ ap (λ (r : List ℕ). r ++ rest) (append_assoc j.whole j.rest more);
      fault = record {
        messages = messages ++ f.messages;
        whole = j.whole ++ f.whole;
        n = f.n;
        joined = f.joined;
        begun = f.begun;
        head = f.head;
        fault = f.fault;
        are_whole = Carried-append messages f.messages j.whole f.whole j.are_whole f.are_whole;
        are_begun = f.are_begun;
        bytes_are = ap (λ (r : List ℕ). j.whole ++ r) (f.bytes_are ∙ append_assoc f.whole f.begun f.head) ∙ sym (append_assoc j.whole f.whole (f.begun ++ f.head))
            ∙ sym (append_assoc (j.whole ++ f.whole) f.begun f.head);
        has = f.has;
        place_is = omega (arith, at_is, f.place_is, length-append j.whole f.whole);
        why_is = f.why_is;
      };
      messages_are = ap (λ (r : List (List ℕ)). messages ++ r) found.1.1 ∙ append-nil messages;
    }

-- a fault stays one, whatever follows
pub fault_more : (messages : List (List ℕ)) (bytes more : List ℕ) (bad : ChunkBad) → HasFirstFault messages bytes bad → HasFirstFault messages (bytes ++ more) bad
fault_more messages bytes more bad f = record {
  prefix = f.prefix;
  rest = f.rest ++ more;
  bytes_are = ap (λ (r : List ℕ). r ++ more) f.bytes_are ∙ append_assoc f.prefix f.rest more;
  fault = f.fault;
  messages_are = f.messages_are;
}

-- ---- joiners

pub without_same : (joiner : Held) → joiner.fault ≡ None → without_fault joiner ≡ joiner
without_same joiner e = λ i. record joiner { fault = sym e i }

pub none_or : (fault : Option ChunkBad) → ((bad : ChunkBad) → fault ≡ Some bad → ⊥) → fault ≡ None
none_or None never = refl
none_or (Some bad) never = absurd (never bad refl)

-- A joiner took bytes and gave a message, or none.
pub joined_next : (old mid new : Held) (messages : List (List ℕ)) (bytes more : List ℕ) (given : Option (List ℕ)) → HasJoined old messages bytes → Takes old mid more → given ≡ waiting mid
    → ((m : List ℕ) → given ≡ Some m → (before : ℕ) (bytes : List ℕ) → StandsFor mid before bytes → StandsFor new (before + length bytes) []) → (given ≡ None → new ≡ mid) → waiting new ≡ None
    → HasJoined new (messages ++ option_to_list given) (bytes ++ more)
joined_next old mid new messages bytes more None j takes is next same gone =
    subst (λ (ms : List (List ℕ)). HasJoined new ms (bytes ++ more)) (sym (append-nil messages))
    (subst (λ (h : Held). HasJoined h messages (bytes ++ more)) (sym (same refl)) (joined_on old mid messages bytes more j takes (sym is)))
joined_next old mid new messages bytes more (Some m) j takes is next same gone =
    joined_took old mid new messages m bytes more j takes (sym is) (next m refl) gone

-- The message is one that can be carried, and bytes were taken for it.
pub given_is : (old mid : Held) (messages : List (List ℕ)) (bytes piece : List ℕ) (n : ℕ) (given : Option (List ℕ)) → HasJoined old messages bytes → Takes old mid (take n piece) → given ≡ waiting mid
    → IfSome given (λ m. IsMessage m × (0 < n))
given_is old mid messages bytes piece n None j takes is = tt
given_is old mid messages bytes piece n (Some m) j takes is =
    let one = (waits_at_one mid (length j.whole) (j.rest ++ take n piece) m (takes (length j.whole) j.rest j.stands)).0 (sym is) in (
      (one.some, one.most),
      elim (cases_eq n 0) [
        | inl zero ↦
            let nothing : j.rest ++ take n piece ≡ j.rest = ap (λ (k : ℕ). j.rest ++ take k piece) zero ∙ append-nil j.rest in
            let waits : waiting old ≡ Some m = (waits_at_one old (length j.whole) j.rest m j.stands).1 (subst (One m) nothing one) in
            let none = j.none_waits in absurd cc
        | inr some ↦ omega (arith, some)
      ],
    )

-- ---- counts

one_has_bytes : (m a : List ℕ) (frames : List (List ℕ)) → (o : One m a) → o.frames ≡ frames → 1 ≤ length a
one_has_bytes m a [] o e = absurd (omega (arith, o.some, ap length o.joined, ap (λ (fs : List (List ℕ)). length (flat_map data_of fs)) e))
one_has_bytes m a (f ∷ fs) o e =
    let are = subst (λ (r : List (List ℕ)). AreFrames (length m) 0 r) e o.are in
    omega (arith, are.0.some, length-drop 12 f, length-append f (concat fs), ap length o.bytes_are, ap (λ (r : List (List ℕ)). length (concat r)) e)

-- no more messages than bytes
pub carried_count : (messages : List (List ℕ)) (a : List ℕ) → Carried messages a → length messages ≤ length a
carried_count [] a c = omega arith
carried_count (m ∷ ms) a c =
    omega (arith, carried_count ms c.1 c.4, one_has_bytes m c.0 c.3.frames c.3 refl, ap length c.2, length-append c.0 c.1)

pub heard_count : (held : Held) (messages : List (List ℕ)) (bytes : List ℕ) → HasJoined held messages bytes → length messages ≤ length bytes
heard_count held messages bytes j = omega (arith, carried_count messages j.whole j.are_whole, ap length j.bytes_are, length-append j.whole j.rest)

-- ---- what is kept

-- what callers see
pub heard_of : (left : Option (List ℕ)) (faults : ℕ) (joiner : Held) (buffer : List ℕ) (front end count heard : ℕ) (read : List ℕ) (messages : List (List ℕ))
    → IsIncoming joiner buffer front end count heard read messages
    → HasHeard (record { left = left; faults = faults; read = read; messages = messages; unhandled = drop front (take end buffer); fault = joiner.fault; room = length buffer })
heard_of left faults joiner buffer front end count heard read messages k = record {
  handled = k.handled;
  read_is = k.read_is;
  stream = joined_stream (without_fault joiner) messages k.handled k.joined;
  faulty = k.faulty;
  few = omega (arith, k.count_is, k.few);
}

-- before the first read
pub kept_new : (joiner : Held) (buffer read : List ℕ) (messages : List (List ℕ)) → StandsFor joiner 0 [] → waiting joiner ≡ None → 0 < length buffer → read ≡ [] → messages ≡ []
    → IsIncoming joiner buffer 0 0 0 0 read messages
kept_new joiner buffer read messages stands none room no_bytes no_messages =
    let joined : HasJoined joiner [] [] = record { whole = []; rest = []; are_whole = refl; bytes_are = refl; stands = stands; none_waits = none } in
    record {
      room = room;
      front_within = omega arith;
      end_within = omega arith;
      handled = [];
      read_is = no_bytes;
      joined = subst (λ (h : Held). HasJoined h messages []) (sym (without_same joiner stands.no_fault)) (subst (λ (ms : List (List ℕ)). HasJoined joiner ms []) (sym no_messages) joined);
      faulty = λ bad e. absurd (let sound = stands.no_fault in cc);
      count_is = sym (ap length no_bytes);
      heard_is = sym (ap length no_messages);
      few = omega arith;
    }

-- a piece of what isn't handled is handled, and a message handed out or none
pub kept_next : (old new : Held) (buffer piece : List ℕ) (front end n count heard : ℕ) (read : List ℕ) (messages : List (List ℕ)) (given : Option (List ℕ))
    → (k : IsIncoming old buffer front end count heard read messages) → piece ≡ drop front (take end buffer) → n ≤ length piece → HasJoined new (messages ++ option_to_list given) (k.handled ++ take n piece)
    → IsIncoming new buffer (front + n) end count (heard + length (option_to_list given)) read (messages ++ option_to_list given)
kept_next old new buffer piece front end n count heard read messages given k is within joined =
    let cut : piece ≡ take n piece ++ drop (front + n) (take end buffer) = sym (take-append-drop n piece) ∙ ap (λ (r : List ℕ). take n piece ++ r) (ap (drop n) is ∙ drop-drop n front (take end buffer)) in
    record {
      room = k.room;
      front_within = omega (arith, k.front_within, k.end_within, within, ap length is, length-drop front (take end buffer), length-take end buffer);
      end_within = k.end_within;
      handled = k.handled ++ take n piece;
      read_is = k.read_is ∙ ap (λ (r : List ℕ). k.handled ++ r) (sym is ∙ cut) ∙ sym (append_assoc k.handled (take n piece) (drop (front + n) (take end buffer)));
      joined = subst (λ (h : Held). HasJoined h (messages ++ option_to_list given) (k.handled ++ take n piece)) (sym (without_same new joined.stands.no_fault)) joined;
      faulty = λ bad e. absurd (let sound = joined.stands.no_fault in cc);
      count_is = k.count_is;
      heard_is = omega (arith, k.heard_is, length-append messages (option_to_list given));
      few = k.few;
    }

-- a fault was met, or none: the joiner is as it was but for that
pub kept_fault : (old new : Held) (buffer : List ℕ) (front end count heard : ℕ) (read : List ℕ) (messages : List (List ℕ)) → IsIncoming old buffer front end count heard read messages
    → new ≡ record old { fault = new.fault } → ((bad : ChunkBad) → new.fault ≡ Some bad → HasFirstFault messages read bad) → IsIncoming new buffer front end count heard read messages
kept_fault old new buffer front end count heard read messages k same faulty = record {
  room = k.room;
  front_within = k.front_within;
  end_within = k.end_within;
  handled = k.handled;
  read_is = k.read_is;
  joined = subst (λ (h : Held). HasJoined h messages k.handled) (ap without_fault (sym same)) k.joined;
  faulty = faulty;
  count_is = k.count_is;
  heard_is = k.heard_is;
  few = k.few;
}

-- bytes came, where all others are handled
pub kept_read : (joiner : Held) (buffer new : List ℕ) (front end n count heard : ℕ) (read : List ℕ) (messages : List (List ℕ)) → IsIncoming joiner buffer front end count heard read messages
    → drop front (take end buffer) ≡ [] → length new ≡ length buffer → n ≤ length new → count + n ≤ 2 ^ 40
    → IsIncoming joiner new 0 n (count + n) heard (read ++ take n new) messages
kept_read joiner buffer new front end n count heard read messages k none same within few = record {
  room = omega (arith, k.room, same);
  front_within = omega arith;
  end_within = within;
  handled = k.handled;
  read_is = ap (λ (r : List ℕ). r ++ take n new) (k.read_is ∙ ap (λ (r : List ℕ). k.handled ++ r) none ∙ append-nil k.handled);
  joined = k.joined;
  faulty = λ bad e. fault_more messages read (take n new) bad (k.faulty bad e);
  count_is = omega (arith, k.count_is, length-append read (take n new), length-take n new);
  heard_is = k.heard_is;
  few = few;
}

-- the same where nothing came
pub kept_empty : (joiner : Held) (buffer new : List ℕ) (front end count heard : ℕ) (read : List ℕ) (messages : List (List ℕ)) → IsIncoming joiner buffer front end count heard read messages
    → drop front (take end buffer) ≡ [] → length new ≡ length buffer → IsIncoming joiner new 0 0 count heard read messages
kept_empty joiner buffer new front end count heard read messages k none same = record {
  room = omega (arith, k.room, same);
  front_within = omega arith;
  end_within = omega arith;
  handled = k.handled;
  read_is = k.read_is ∙ ap (λ (r : List ℕ). k.handled ++ r) none;
  joined = k.joined;
  faulty = k.faulty;
  count_is = k.count_is;
  heard_is = k.heard_is;
  few = k.few;
}

-- fewer messages were handed out than bytes read
pub heard_small : (joiner : Held) (buffer : List ℕ) (front end count heard : ℕ) (read : List ℕ) (messages : List (List ℕ)) → IsIncoming joiner buffer front end count heard read messages → heard ≤ 2 ^ 40
heard_small joiner buffer front end count heard read messages k =
    omega (arith, k.heard_is, heard_count (without_fault joiner) messages k.handled k.joined, ap length k.read_is, length-append k.handled (drop front (take end buffer)), k.count_is, k.few)

-- a message counts one
pub one_if_given : (given : Option (List ℕ)) → from_bool (is_some given) ≡ length (option_to_list given)
one_if_given None = refl
one_if_given (Some m) = refl

-- ---- what callers see of a message

-- a half whose fields are these
abbrev pub seen : Option (List ℕ) → ℕ → Option ChunkBad → List ℕ → ℕ → ℕ → List ℕ → List (List ℕ) → IncomingState
seen left faults fault buffer front end read messages =
    record { left = left; faults = faults; read = read; messages = messages; unhandled = drop front (take end buffer); fault = fault; room = length buffer }

-- a piece of what isn't handled, of which n bytes are
cut_at : (buffer piece : List ℕ) (front end n : ℕ) → piece ≡ drop front (take end buffer) → drop front (take end buffer) ≡ take n piece ++ drop (front + n) (take end buffer)
cut_at buffer piece front end n is =
    sym is ∙ sym (take-append-drop n piece) ∙ ap (λ (r : List ℕ). take n piece ++ r) (ap (drop n) is ∙ drop-drop n front (take end buffer))

pub hands_out : (left : Option (List ℕ)) (faults : ℕ) (fault fault' : Option ChunkBad) (buffer piece : List ℕ) (front end n : ℕ) (read : List ℕ) (messages messages' : List (List ℕ)) (given : Option (List ℕ))
    → fault' ≡ fault → messages' ≡ messages ++ option_to_list given → piece ≡ drop front (take end buffer) → n ≤ length piece
    → IfSome given (λ m. IsMessage m × (0 < n)) → IfSome given (GivesMessage (seen left faults fault buffer front end read messages) (seen left faults fault' buffer (front + n) end read messages'))
hands_out left faults fault fault' buffer piece front end n read messages messages' None same more is within are = tt
hands_out left faults fault fault' buffer piece front end n read messages messages' (Some m) same more is within are = record {
  bytes = take n piece;
  some = omega (arith, length-take n piece, within, are.1);
  unhandled_were = cut_at buffer piece front end n is;
  new_is = λ i. record { left = left; faults = faults; read = read; messages = more i; unhandled = drop (front + n) (take end buffer); fault = same i; room = length buffer };
  fits = are.0;
}

pub hands_nothing : (left : Option (List ℕ)) (faults : ℕ) (fault fault' : Option ChunkBad) (buffer piece : List ℕ) (front end n : ℕ) (read : List ℕ) (messages messages' : List (List ℕ)) (given : Option (List ℕ))
    → fault' ≡ fault → messages' ≡ messages ++ option_to_list given → piece ≡ drop front (take end buffer) → IfNone given (n ≡ length piece)
    → IfNone given (seen left faults fault' buffer (front + n) end read messages' ≡ record (seen left faults fault buffer front end read messages) { unhandled = [] })
hands_nothing left faults fault fault' buffer piece front end n read messages messages' (Some m) same more is all = tt
hands_nothing left faults fault fault' buffer piece front end n read messages messages' None same more is all =
    let none : drop (front + n) (take end buffer) ≡ [] = drop_all (front + n) (take end buffer) (omega (arith, ap length is, length-drop front (take end buffer), all)) in
    let no_more : messages' ≡ messages = more ∙ append-nil messages in
    λ i. record { left = left; faults = faults; read = read; messages = no_more i; unhandled = none i; fault = same i; room = length buffer }

-- ---- what callers see of a fault

by_fault : (fault : Option ChunkBad) (P : Type 0) → (fault ≡ None → P) → ((bad : ChunkBad) → fault ≡ Some bad → P) → P
by_fault None P none some = none refl
by_fault (Some bad) P none some = some bad refl

-- A fault that the joiner has is one of the bytes read, whether it was met now or before.
pub fault_kept : (old new : Option ChunkBad) (read : List ℕ) (messages : List (List ℕ)) (no : CarryNo) → ((bad : ChunkBad) → no ≡ Bad bad → new ≡ Some bad)
    → ((bad : ChunkBad) → no ≡ Bad bad → old ≡ None → HasFirstFault messages read bad) → ((bad : ChunkBad) → old ≡ Some bad → new ≡ old) → (no ≡ Memory → new ≡ old)
    → (no ≡ Failed → ⊥) → (no ≡ Long → ⊥) → ((bad : ChunkBad) → old ≡ Some bad → HasFirstFault messages read bad) → (bad : ChunkBad) → new ≡ Some bad → HasFirstFault messages read bad
fault_kept old new read messages Failed failed fault stays memory no_failed no_long kept bad e = absurd (no_failed refl)
fault_kept old new read messages Long failed fault stays memory no_failed no_long kept bad e = absurd (no_long refl)
fault_kept old new read messages Memory failed fault stays memory no_failed no_long kept bad e = kept bad (sym (memory refl) ∙ e)
fault_kept old new read messages (Bad b) failed fault stays memory no_failed no_long kept bad e =
    by_fault old (HasFirstFault messages read bad)
    (λ none. let met = failed b refl in let same : b ≡ bad = cc in subst (HasFirstFault messages read) same (fault b refl none))
    (λ b' some. kept bad (sym (stays b' some) ∙ e))

-- what isn't handled, as the code cuts it
pub piece_is : (front end : ℕ) (buffer shown : List ℕ) → front ≤ end → shown ≡ buffer → take (end - front) (drop front shown) ≡ drop front (take end buffer)
piece_is front end buffer shown within is =
    ap (λ (b : List ℕ). take (end - front) (drop front b)) is ∙ sym (drop-take front (end - front) buffer) ∙ ap (λ (k : ℕ). drop front (take k buffer)) (omega arith)

-- a fault that such a piece brought is one of the bytes read
pub fault_fed : (joiner : Held) (buffer piece : List ℕ) (front end count heard : ℕ) (read : List ℕ) (messages : List (List ℕ)) (bad : ChunkBad) → (k : IsIncoming joiner buffer front end count heard read messages)
    → piece ≡ drop front (take end buffer)
    → (HasJoined joiner messages k.handled → length k.handled + length piece < 2 ^ 64 → HasFirstFault messages (k.handled ++ piece) bad) → joiner.fault ≡ None → HasFirstFault messages read bad
fault_fed joiner buffer piece front end count heard read messages bad k is found none =
    let all : read ≡ k.handled ++ piece = k.read_is ∙ ap (λ (r : List ℕ). k.handled ++ r) (sym is) in
    subst (λ (r : List ℕ). HasFirstFault messages r bad) (sym all)
    (found (subst (λ (h : Held). HasJoined h messages k.handled) (without_same joiner none) k.joined) (omega (arith, ap length all, length-append k.handled piece, k.count_is, k.few)))

-- ---- where all that was read is handled

pub stream_read : (s : IncomingState) → HasHeard s → s.unhandled ≡ [] → IsStream s.messages s.read
stream_read s h none = subst (IsStream s.messages) (sym (h.read_is ∙ ap (λ (r : List ℕ). h.handled ++ r) none ∙ append-nil h.handled)) h.stream

all_consumed : (bytes read : List ℕ) (left : Option (List ℕ)) → Consumes (Some bytes) left read → IsAtEnd left → bytes ≡ read
all_consumed bytes read None consumed ended = absurd consumed
all_consumed bytes read (Some rest) consumed ended = consumed ∙ ap (λ (r : List ℕ). read ++ r) ended ∙ append-nil read

pub stream_to_the_end : (s : IncomingState) (bytes : List ℕ) → HasHeard s → s.unhandled ≡ [] → Consumes (Some bytes) s.left s.read → IsAtEnd s.left → IsStream s.messages bytes
stream_to_the_end s bytes h none consumed ended = subst (IsStream s.messages) (sym (all_consumed bytes s.read s.left consumed ended)) (stream_read s h none)
