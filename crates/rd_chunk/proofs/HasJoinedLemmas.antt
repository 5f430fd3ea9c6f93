-- What a joiner has joined (`HasJoined`): the messages that it has given, and the bytes that it stands for.
use Rattle.std.proofs.Common.{◌≡◌, ◌<◌, ℕ, ◌+◌, ◌-◌, arith, sym, ◌∙◌, ap, subst, length, ◌++◌, ◌∷◌, [], None, Some, length-append, append_assoc, refl, List, take, drop, false, get_or}
use Rattle.std.specs.List.{concat}
use Rattle.std.proofs.lemmas.List.Folds.{concat-append}
use Rattle.std.proofs.lemmas.List.{append-nil, take_rest, take_more, take-append-drop}
use Rattle.rd_chunk.specs.declared.fault.ChunkBad.{ChunkBad}
use Rattle.rd_chunk.specs.Frames.{Carried}
use Rattle.rd_chunk.specs.Standing.{Held, StandsFor, HasJoined, Takes, BringsFault, ForFeedBad, is_complete, waiting}
use Rattle.rd_chunk.specs.declared.fault.FeedNo.{FeedNo}
use Rattle.rd_chunk.specs.declared.fault.FeedNo.TheVariants.{Bad, Memory}
use Rattle.rd_chunk.specs.Streams.{IsStream, IsFaultOf}
use Rattle.rd_base.proofs.ListLemmas.{concat-push}
use Rattle.rd_chunk.proofs.StreamLemmas.{one_reading, never_both}
use Rattle.rd_chunk.proofs.CarriedLemmas.{waits_at_one, Carried-append, carried_one, fault_after, begun_of}
use Rattle.rd_chunk.proofs.ChunkFaultLemmas.{stream_after, carried_stream}

-- bytes more, and no message is finished
pub joined_on : (old new : Held) (ms : List (List ℕ)) (bytes more : List ℕ) → HasJoined old ms bytes → Takes old new more → waiting new ≡ None → HasJoined new ms (bytes ++ more)
joined_on old new ms bytes more j takes none = record {
  whole = j.whole;
  rest = j.rest ++ more;
  are_whole = j.are_whole;
  bytes_are = ap (λ (r : List ℕ). r ++ more) j.bytes_are ∙ append_assoc j.whole j.rest more;
  stands = takes (length j.whole) j.rest j.stands;
  none_waits = none;
}

-- bytes more, and a message that is finished by them is given
pub joined_took : (old mid new : Held) (ms : List (List ℕ)) (m bytes more : List ℕ) → HasJoined old ms bytes → Takes old mid more → waiting mid ≡ Some m
    → ((before : ℕ) (bytes : List ℕ) → StandsFor mid before bytes → StandsFor new (before + length bytes) []) → waiting new ≡ None → HasJoined new (ms ++ m ∷ []) (bytes ++ more)
joined_took old mid new ms m bytes more j takes waits took none =
    let stands = takes (length j.whole) j.rest j.stands in
    record {
      whole = j.whole ++ (j.rest ++ more);
      rest = [];
      are_whole = Carried-append ms (m ∷ []) j.whole (j.rest ++ more) j.are_whole (carried_one m (j.rest ++ more) ((waits_at_one mid (length j.whole) (j.rest ++ more) m stands).0 waits));
      bytes_are = ap (λ (r : List ℕ). r ++ more) j.bytes_are ∙ append_assoc j.whole j.rest more ∙ sym (append-nil (j.whole ++ (j.rest ++ more)));
      stands = subst (λ (k : ℕ). StandsFor new k []) (sym (length-append j.whole (j.rest ++ more))) (took (length j.whole) (j.rest ++ more) stands);
      none_waits = none;
    }

-- a fault that bytes bring is one of the stream, whatever follows
pub joined_fault : (held : Held) (ms : List (List ℕ)) (bytes more rest : List ℕ) (bad : ChunkBad) → HasJoined held ms bytes → BringsFault held more bad → IsFaultOf (bytes ++ (more ++ rest)) bad
joined_fault held ms bytes more rest bad j faults =
    let found = faults (length j.whole) j.rest j.stands in (
      record {
        prefix = j.whole ++ (j.rest ++ more);
        rest = rest;
        place = length j.whole + found.0;
        why = bad.why;
        bytes_are = sym (append_assoc bytes more rest) ∙ ap (λ (r : List ℕ). r ++ more ++ rest) j.bytes_are ∙ ap (λ (r : List ℕ). r ++ rest) (append_assoc j.whole j.rest more);
        fault = fault_after ms j.whole (j.rest ++ more) found.0 bad.why j.are_whole found.1.0;
      },
      refl,
      found.2,
    )

incomplete_from : (held : Held) → held.fault ≡ None → waiting held ≡ None → is_complete held.left (length held.joined) held.whole ≡ false
incomplete_from held f none = grind (arith, f, none)

-- the messages that were given, and what the joiner stands for, are the stream
pub joined_stream : (held : Held) (ms : List (List ℕ)) (bytes : List ℕ) → HasJoined held ms bytes → IsStream ms bytes
joined_stream held ms bytes j =
    subst (λ (r : List (List ℕ)). IsStream r bytes) (append-nil ms) (subst (IsStream (ms ++ [])) (sym j.bytes_are)
    (stream_after ms [] j.whole j.rest j.are_whole (begun_of held (length j.whole) j.rest j.stands (incomplete_from held j.stands.no_fault j.none_waits))))

-- the pieces so far, and one more
pub concat-take_more : (pieces : List (List ℕ)) (i : ℕ) → i < length pieces → (d : List ℕ) → concat (take (i + 1) pieces) ≡ concat (take i pieces) ++ get_or pieces i d
concat-take_more pieces i h d = ap concat (take_more pieces i d h) ∙ concat-push (take i pieces) (get_or pieces i d)

pub concat_split : (pieces : List (List ℕ)) (i : ℕ) → concat pieces ≡ concat (take i pieces) ++ concat (drop i pieces)
concat_split pieces i = ap concat (sym (take-append-drop i pieces)) ∙ concat-append (take i pieces) (drop i pieces)

pub sent_are : (ms sent : List (List ℕ)) (bytes : List ℕ) → IsStream ms bytes → Carried sent bytes → ms ≡ sent
sent_are ms sent bytes s c = one_reading ms sent bytes s (carried_stream sent bytes c)

pub sent_no_fault : (sent : List (List ℕ)) (bytes : List ℕ) (bad : ChunkBad) → Carried sent bytes → IsFaultOf bytes bad → ⊥
sent_no_fault sent bytes bad c f = never_both sent bytes f.0 (carried_stream sent bytes c)

pub all_piece : (bytes piece : List ℕ) (at n : ℕ) → (bytes ++ take at piece) ++ (take n (take (length piece - at) (drop at piece)) ++ drop n (take (length piece - at) (drop at piece))) ≡ bytes ++ piece
all_piece bytes piece at n =
    ap (λ (r : List ℕ). bytes ++ take at piece ++ r) (take-append-drop n (take (length piece - at) (drop at piece)) ∙ take_rest piece at)
    ∙ append_assoc bytes (take at piece) (drop at piece) ∙ ap (λ (r : List ℕ). bytes ++ r) (take-append-drop at piece)

pub fault_more : (bytes rest : List ℕ) (bad : ChunkBad) → IsFaultOf bytes bad → IsFaultOf (bytes ++ rest) bad
fault_more bytes rest bad f = (
  record {
    prefix = f.0.prefix;
    rest = f.0.rest ++ rest;
    place = f.0.place;
    why = f.0.why;
    fault = f.0.fault;
    bytes_are = ap (λ (r : List ℕ). r ++ rest) f.0.bytes_are ∙ append_assoc f.0.prefix f.0.rest rest;
  },
  f.1,
  f.2,
)

-- a piece, as the loop over them has it
pub pieces_on : (pieces : List (List ℕ)) (i : ℕ) (piece : List ℕ) → i < length pieces → piece ≡ get_or pieces i piece → concat (take i pieces) ++ piece ≡ concat (take (i + 1) pieces)
pieces_on pieces i piece h e = ap (λ (r : List ℕ). concat (take i pieces) ++ r) e ∙ sym (concat-take_more pieces i h piece)

pub piece_fault : (pieces : List (List ℕ)) (i : ℕ) (piece : List ℕ) (bad : ChunkBad) → i < length pieces → piece ≡ get_or pieces i piece → IsFaultOf (concat (take i pieces) ++ piece) bad → IsFaultOf (concat pieces) bad
piece_fault pieces i piece bad h e f =
    subst (λ (r : List ℕ). IsFaultOf r bad) (ap (λ (r : List ℕ). r ++ concat (drop (i + 1) pieces)) (pieces_on pieces i piece h e) ∙ sym (concat_split pieces (i + 1)))
    (fault_more (concat (take i pieces) ++ piece) (concat (drop (i + 1) pieces)) bad f)

-- of a stream without fault only want of memory is returned
pub only_memory : (no : FeedNo) (sent : List (List ℕ)) (bytes : List ℕ) → Carried sent bytes → ForFeedBad (IsFaultOf bytes) no → no ≡ Memory
only_memory (Bad bad) sent bytes c h = absurd (sent_no_fault sent bytes bad c h)
only_memory Memory sent bytes c h = refl
