-- One direction of a channel: its bytes stay whole messages, and what its joiner makes of a piece is `handling`.
use Rattle.std.proofs.Common.{◌≡◌, ◌≤◌, ◌<◌, ◌↔◌, inl, inr, ℕ, ◌+◌, ◌-◌, ◌%◌, ◌^◌, arith, sym, ◌∙◌, ap, subst, refl, length, ◌++◌, ◌∷◌, [], List, take, drop, true, false, Bool, Some, None, Option, length-append, length-drop, length-take, append_assoc, append-nil}
use Rattle.std.specs.Prelude.{IsSome, IfSome, is_some, if◌then◌else◌}
use Rattle.std.specs.List.{AllByRecursion}
use Rattle.std.proofs.lemmas.Grind.{flat_map-append}
use Rattle.std.proofs.lemmas.List.{take-append-drop, take-append-le, take_all, drop-append-le, drop-drop, drop-take, drop_all}
use Rattle.std.proofs.lemmas.Bool.{cases_lt, cases_Bool}
use Rattle.std.proofs.Math.Seq.{take-add}
use Rattle.rd_chunk.specs.declared.fault.ChunkBad.{ChunkBad}
use Rattle.rd_chunk.specs.Carrier.{IsMessage, carrier_of, carrier_stream}
use Rattle.rd_chunk.specs.Frames.{One}
use Rattle.rd_chunk.specs.Standing.{Held, StandsFor, Takes, BringsFault, is_complete, waiting}
use Rattle.rd_chunk.specs.Streams.{HasChunkFault}
use Rattle.rd_chunk.proofs.CarrierLemmas.{carrier_one, stream_carried}
use Rattle.rd_chunk.proofs.CarriedLemmas.{begun_of, one_of}
use Rattle.rd_chunk.proofs.ChunkFaultLemmas.{carried_stream}
use Rattle.rd_chunk.proofs.FrameLemmas.{part_blocks}
use Rattle.rd_chunk.proofs.StreamLemmas.{never_both, one_agrees, one_not_begun}
use Rattle.rd_drive.proofs.AllLemmas.{all_append}
use Rattle.rd_world.specs.World.{WayState, first_message, handling, handling_by}
use Rattle.rd_world.specs.Ways.{AreCarried, IsOnItsWay}
use Rattle.rd_world.proofs.WayStreamLemmas.{first_of_one, found_is_one}

-- nothing is carried
pub none_carried : AreCarried []
none_carried = record { messages = []; fit = tt; carried = refl }

-- and a message more
pub more_carried : (bytes message : List ℕ) → IsMessage message → AreCarried bytes → AreCarried (bytes ++ carrier_of message)
more_carried bytes message fits c = record {
  messages = c.messages ++ message ∷ [];
  fit = all_append IsMessage c.messages (message ∷ []) c.fit (fits, tt);
  carried = ap (λ (r : List ℕ). r ++ carrier_of message) c.carried ∙ ap (λ (r : List ℕ). carrier_stream c.messages ++ r) (sym (append-nil (carrier_of message)))
      ∙ sym (flat_map-append carrier_of c.messages (message ∷ []));
}

-- what comes after a whole message is carried
rest_carried : (message first rest : List ℕ) → One message first → AreCarried (first ++ rest) → AreCarried rest
rest_carried message first rest one c = go c.messages c.fit c.carried
  where
    go : (ms : List (List ℕ)) → AllByRecursion IsMessage ms → first ++ rest ≡ carrier_stream ms → AreCarried rest
    go [] fit e =
        let none : first_message (first ++ rest) ≡ None = ap first_message e in
        absurd (cc (first_of_one message first rest one))
    go (m ∷ ms) fit e =
        let same = one_agrees message m first (carrier_of m) rest (carrier_stream ms) one (carrier_one m fit.0.0 fit.0.1) e in
        record { messages = ms; fit = fit.1; carried = same.2 }

-- Where a joiner stands for bytes that aren't one message, none stands at their start. It is rd_chunk's by its words.
none_whole : (held : Held) (before : ℕ) (bytes : List ℕ) → StandsFor held before bytes → ((m : List ℕ) → One m bytes → ⊥) → (m first rest : List ℕ) → One m first → first ++ rest ≡ bytes → ⊥
none_whole held before bytes stands none m first rest one e =
    elim (cases_Bool (is_complete held.left (length held.joined) held.whole)) [
      | inl done ↦ none held.joined (one_of held before bytes stands done)
      | inr lacking ↦
          let s = begun_of held before bytes stands lacking in
          one_not_begun m first rest s.n s.joined s.begun s.part one s.are_begun (part_blocks s.n (length s.joined) s.part s.is_part)
          (e ∙ s.bytes_are ∙ ap (λ (r : List ℕ). r ++ s.begun ++ s.part) s.are_whole)
    ]

-- and so they have no first message, where they are a part of carried messages
none_first : (held : Held) (before : ℕ) (bytes later : List ℕ) → StandsFor held before bytes → ((m : List ℕ) → One m bytes → ⊥) → AreCarried (bytes ++ later) → first_message bytes ≡ None
none_first held before bytes later stands none c = go (first_message bytes) refl
  where
    go : (o : Option (List ℕ × List ℕ)) → first_message bytes ≡ o → first_message bytes ≡ None
    go None e = e
    go (Some (m, rest)) e =
        let f = found_is_one c.messages bytes later m rest c.fit c.carried e in
        absurd (none_whole held before bytes stands none m (carrier_of m) rest f.0 f.1)

cut : (part piece later : List ℕ) (n : ℕ) → part ++ (piece ++ later) ≡ (part ++ take n piece) ++ (drop n piece ++ later)
cut part piece later n =
    ap (λ (r : List ℕ). part ++ (r ++ later)) (sym (take-append-drop n piece)) ∙ ap (λ (r : List ℕ). part ++ r) (append_assoc (take n piece) (drop n piece) later)
    ∙ sym (append_assoc part (take n piece) (drop n piece ++ later))

-- a piece of carried messages brings no fault
pub no_bad : (held : Held) (before : ℕ) (part piece later : List ℕ) (count : ℕ) (bad : ChunkBad) → StandsFor held before part → AreCarried (part ++ (piece ++ later)) → BringsFault held (take count piece) bad → ⊥
no_bad held before part piece later count bad stands c faults =
    let found = faults before part stands in
    let fault : HasChunkFault (carrier_stream c.messages) = record {
      prefix = part ++ take count piece;
      rest = drop count piece ++ later;
      place = found.0;
      why = bad.why;
      bytes_are = sym c.carried ∙ cut part piece later count;
      fault = found.1.0;
    } in
    never_both c.messages (carrier_stream c.messages) fault (carried_stream c.messages (carrier_stream c.messages) (stream_carried c.messages c.fit))

-- A joiner that stood for `part` took n bytes of a piece, and then gave this message, or none.
pub record Fed (old fed new : Held) (part piece later : List ℕ) (n : ℕ) (given : Option (List ℕ)) : Type 0 where
  pub before : ℕ
  pub stands : StandsFor old before part
  pub carried : AreCarried (part ++ (piece ++ later))
  pub within : n ≤ length piece
  pub takes : Takes old fed (take n piece)
  pub counts : fed.taken ≡ (old.taken + n) % 2 ^ 64
  pub all : n < length piece → IsSome given
  pub whole : (m : List ℕ) → (given ≡ Some m) ↔ One m (part ++ take n piece)
  pub next : (m : List ℕ) → given ≡ Some m → StandsFor new (before + length (part ++ take n piece)) []
  pub none : given ≡ None → new ≡ fed
  pub taken : new.taken ≡ fed.taken

-- the part that it then stands for
abbrev pub part_after : List ℕ → List ℕ → Option (List ℕ) → List ℕ
part_after part more given = if is_some given then [] else part ++ more

-- a way whose joiner took that piece
abbrev pub way_at : Held → List ℕ → List ℕ → List ℕ → Bool → WayState
way_at held part unhandled pipe ended = record { part = part; taken = held.taken; unhandled = unhandled; pipe = pipe; ended = ended }

some_not_none : (given : Option (List ℕ)) → given ≡ None → IsSome given → ⊥
some_not_none None e some = absurd cc
some_not_none (Some m) e some = absurd cc

-- where none is given it took the whole piece
took_all : (piece : List ℕ) (n : ℕ) (given : Option (List ℕ)) → (n < length piece → IsSome given) → given ≡ None → length piece ≤ n
took_all piece n given all e = elim (cases_lt n (length piece)) [ inl less ↦ absurd (some_not_none given e (all less)) | inr more ↦ more ]

by_given : (given : Option (List ℕ)) (P : Option (List ℕ) → Type 0) → (given ≡ None → P None) → ((m : List ℕ) → given ≡ Some m → P (Some m)) → P given
by_given None P none some = none refl
by_given (Some m) P none some = some m refl

module _ (old fed new : Held) (part piece later : List ℕ) (n : ℕ) (given : Option (List ℕ)) (f : Fed old fed new part piece later n given) where
  stood : StandsFor fed f.before (part ++ take n piece)
  stood = f.takes f.before part f.stands

  split_carried : AreCarried ((part ++ take n piece) ++ (drop n piece ++ later))
  split_carried = subst AreCarried (cut part piece later n) f.carried

  pub still_stands : (before : ℕ) × StandsFor new before (part_after part (take n piece) given)
  still_stands = by_given given (λ o. (before : ℕ) × StandsFor new before (part_after part (take n piece) o))
      (λ e. (f.before, subst (λ (h : Held). StandsFor h f.before (part ++ take n piece)) (sym (f.none e)) stood))
      (λ m e. (f.before + length (part ++ take n piece), f.next m e))

  pub still_carried : AreCarried (part_after part (take n piece) given ++ (drop n piece ++ later))
  still_carried = by_given given (λ o. AreCarried (part_after part (take n piece) o ++ (drop n piece ++ later)))
      (λ e. split_carried)
      (λ m e. rest_carried m (part ++ take n piece) (drop n piece ++ later) ((f.whole m).0 e) split_carried)

  pub given_fits : IfSome given IsMessage
  given_fits = by_given given (λ o. IfSome o IsMessage) (λ e. tt) (λ m e. let one = (f.whole m).0 e in (one.some, one.most))

  taken_is : new.taken ≡ (old.taken + n) % 2 ^ 64
  taken_is = f.taken ∙ f.counts

  first_given : (m : List ℕ) → given ≡ Some m → first_message (part ++ piece) ≡ Some (m, drop n piece)
  first_given m e = ap first_message (ap (λ (r : List ℕ). part ++ r) (sym (take-append-drop n piece)) ∙ sym (append_assoc part (take n piece) (drop n piece)))
      ∙ first_of_one m (part ++ take n piece) (drop n piece) ((f.whole m).0 e)

  took : given ≡ None → take n piece ≡ piece
  took e = take_all n piece (took_all piece n given f.all e)

  first_none : given ≡ None → first_message (part ++ piece) ≡ None
  first_none e =
      let none = λ (m : List ℕ) (one : One m (part ++ take n piece)). some_not_none given e (subst IsSome (sym ((f.whole m).1 one)) refl) in
      ap (λ (r : List ℕ). first_message (part ++ r)) (sym (took e)) ∙ none_first fed f.before (part ++ take n piece) (drop n piece ++ later) stood none split_carried

  all_handled : (ended : Bool) → given ≡ None → handling (way_at old part piece later ended) ≡ (way_at new (part ++ take n piece) (drop n piece) later ended, None)
  all_handled ended e =
      let all : length piece ≡ n = omega (arith, took_all piece n given f.all e, f.within) in
      let taken : (old.taken + length piece) % 2 ^ 64 ≡ new.taken = ap (λ (k : ℕ). (old.taken + k) % 2 ^ 64) all ∙ sym taken_is in
      let left : [] ≡ drop n piece = sym (drop_all n piece (omega (arith, all))) in
      let parts : part ++ piece ≡ part ++ take n piece = ap (λ (r : List ℕ). part ++ r) (sym (took e)) in
      ap (handling_by (way_at old part piece later ended)) (first_none e) ∙ (λ i. (record { part = parts i; taken = taken i; unhandled = left i; pipe = later; ended = ended }, None))

  message_handled : (ended : Bool) (m : List ℕ) → given ≡ Some m → handling (way_at old part piece later ended) ≡ (way_at new [] (drop n piece) later ended, Some m)
  message_handled ended m e =
      let count : length piece - length (drop n piece) ≡ n = omega (arith, length-drop n piece, f.within) in
      let taken : (old.taken + (length piece - length (drop n piece))) % 2 ^ 64 ≡ new.taken = ap (λ (k : ℕ). (old.taken + k) % 2 ^ 64) count ∙ sym taken_is in
      ap (handling_by (way_at old part piece later ended)) (first_given m e) ∙ (λ i. (record { part = []; taken = taken i; unhandled = drop n piece; pipe = later; ended = ended }, Some m))

  -- so it is `handling`
  pub handles : (ended : Bool) → handling (way_at old part piece later ended) ≡ (way_at new (part_after part (take n piece) given) (drop n piece) later ended, given)
  handles ended = by_given given (λ o. handling (way_at old part piece later ended) ≡ (way_at new (part_after part (take n piece) o) (drop n piece) later ended, o))
      (all_handled ended) (message_handled ended)

-- ---- where the bytes stand

-- what was read, where more is
pub read_on : (front read count : ℕ) (bytes : List ℕ) → front ≤ read → read ≤ length bytes → drop front (take (read + count) bytes) ≡ drop front (take read bytes) ++ take count (drop read bytes)
read_on front read count bytes in_front in_read =
    ap (drop front) (take-add read count bytes) ∙ drop-append-le front (take read bytes) (take count (drop read bytes)) (omega (arith, length-take read bytes))

-- the same bytes, where those that were handled are cut off
pub cut_off : (front read : ℕ) (bytes : List ℕ) → front ≤ read → (take (read - front) (drop front bytes) ≡ drop front (take read bytes)) × (drop (read - front) (drop front bytes) ≡ drop read bytes)
cut_off front read bytes in_front =
    let there : front + (read - front) ≡ read = omega arith in (
      sym (drop-take front (read - front) bytes) ∙ ap (λ (k : ℕ). drop front (take k bytes)) there,
      drop-drop (read - front) front bytes ∙ ap (λ (k : ℕ). drop k bytes) there,
    )

-- what was read and not handled, as the code cuts it, and what is under way
slice_all : (front read : ℕ) (bytes : List ℕ) → front ≤ read → drop front bytes ≡ take (read - front) (drop front bytes) ++ drop read bytes
slice_all front read bytes in_front =
    sym (take-append-drop (read - front) (drop front bytes))
    ∙ ap (λ (r : List ℕ). take (read - front) (drop front bytes) ++ r) (cut_off front read bytes in_front).1

pub carried_slice : (front read : ℕ) (bytes seen part : List ℕ) → front ≤ read → seen ≡ bytes → AreCarried (part ++ drop front bytes) → AreCarried (part ++ (take (read - front) (drop front seen) ++ drop read bytes))
carried_slice front read bytes seen part in_front is c =
    subst (λ (r : List ℕ). AreCarried (part ++ r)) (slice_all front read bytes in_front ∙ ap (λ (r : List ℕ). take (read - front) (drop front r) ++ drop read bytes) (sym is)) c

-- a way stays one where a message is put on it
pub message_on : (front read : ℕ) (bytes new message part : List ℕ) (joiner : Held) → new ≡ bytes ++ carrier_of message → IsMessage message → IsOnItsWay front read bytes joiner part false
    → IsOnItsWay front read new joiner part false
message_on front read bytes new message part joiner new_is fits w =
    let within : front ≤ length bytes = omega (arith, w.front_within, w.read_within) in
    record {
      front_within = w.front_within;
      before = w.before;
      stands = w.stands;
      none_waits = w.none_waits;
      read_within = omega (arith, w.read_within, ap length new_is, length-append bytes (carrier_of message));
      carried = λ e. subst AreCarried
          (append_assoc part (drop front bytes) (carrier_of message) ∙ ap (λ (r : List ℕ). part ++ r) (sym (drop-append-le front bytes (carrier_of message) within) ∙ ap (drop front) (sym new_is)))
          (more_carried (part ++ drop front bytes) message fits (w.carried e));
      gone = λ (e : false ≡ true). absurd cc;
    }

-- of bytes that were handled before `front` and read before `read`, a piece and what of it is taken
pub record Cut (front read n : ℕ) (bytes piece more : List ℕ) : Type 0 where
  pub unhandled : piece ≡ drop front (take read bytes)
  pub more_is : more ≡ take n piece
  pub left : drop n piece ≡ drop (front + n) (take read bytes)
  pub rest : drop (front + n) bytes ≡ drop n piece ++ drop read bytes

-- the two slices, as the code cuts them
pub cut_at : (front read n : ℕ) (bytes piece more : List ℕ) → front ≤ read → n ≤ length piece → piece ≡ take (read - front) (drop front bytes) → more ≡ take (front + n - front) (drop front bytes)
    → Cut front read n bytes piece more
cut_at front read n bytes piece more in_front within piece_is more_is =
    let unhandled : piece ≡ drop front (take read bytes) = piece_is ∙ (cut_off front read bytes in_front).0 in
    let all : drop front bytes ≡ piece ++ drop read bytes = slice_all front read bytes in_front ∙ ap (λ (r : List ℕ). r ++ drop read bytes) (sym piece_is) in
    record {
      unhandled = unhandled;
      more_is = more_is ∙ ap (λ (k : ℕ). take k (drop front bytes)) (omega arith) ∙ ap (take n) all ∙ take-append-le n piece (drop read bytes) within;
      left = ap (drop n) unhandled ∙ drop-drop n front (take read bytes);
      rest = sym (drop-drop n front bytes) ∙ ap (drop n) all ∙ drop-append-le n piece (drop read bytes) within;
    }

module _ (old fed new : Held) (front read n : ℕ) (bytes part part' piece more : List ℕ) (given : Option (List ℕ)) (ended : Bool) (cuts : Cut front read n bytes piece more)
    (f : Fed old fed new part piece (drop read bytes) n given) (becomes : part' ≡ part_after part more given) where
  becomes' : part' ≡ part_after part (take n piece) given
  becomes' = becomes ∙ ap (λ (r : List ℕ). part_after part r given) cuts.more_is

  pub stays : ended ≡ false → front ≤ read → read ≤ length bytes → waiting new ≡ None → IsOnItsWay (front + n) read bytes new part' ended
  stays going in_front in_read none_waits =
      let stands = still_stands old fed new part piece (drop read bytes) n given f in
      let long : length piece ≡ read - front = ap length cuts.unhandled ∙ omega (arith, length-drop front (take read bytes), length-take read bytes) in
      record {
        front_within = omega (arith, f.within, long);
        read_within = in_read;
        before = stands.0;
        stands = subst (λ (r : List ℕ). StandsFor new stands.0 r) (sym becomes') stands.1;
        none_waits = none_waits;
        carried = λ _. subst (λ (r : List ℕ). AreCarried (r ++ drop (front + n) bytes)) (sym becomes')
            (subst (λ (r : List ℕ). AreCarried (part_after part (take n piece) given ++ r)) (sym cuts.rest) (still_carried old fed new part piece (drop read bytes) n given f));
        gone = λ (e : ended ≡ true). absurd cc;
      }

  pub handled : handling (way_at old part (drop front (take read bytes)) (drop read bytes) ended) ≡ (way_at new part' (drop (front + n) (take read bytes)) (drop read bytes) ended, given)
  handled = ap (λ (r : List ℕ). handling (way_at old part r (drop read bytes) ended)) (sym cuts.unhandled) ∙ handles old fed new part piece (drop read bytes) n given f ended
      ∙ (λ i. (way_at new (sym becomes' i) (cuts.left i) (drop read bytes) ended, given))
