-- What is printed of deeds, one after the other.
use Rattle.std.proofs.Common.{◌≡◌, ℕ, ◌+◌, Bool, true, false, cond, List, [], ◌∷◌, ◌++◌, length, map, reverse, drop, Option, Some, None, Result, Ok, Err, refl, sym, ap, subst, ◌∙◌, append-nil, length-append, arith, eq-eqb}
use Rattle.std.specs.Prelude.{◌==◌, ◌&&◌, nat_lt, IfSome, IsErr, IsOk}
use Rattle.std.specs.List.{AllByRecursion, cons_option, flat_map}
use Rattle.std.proofs.lemmas.Bool.{le-ltb}
use Rattle.std.proofs.lemmas.List.Elements.{recursion_from_All}
use Rattle.std.proofs.lemmas.Bool.Decides.{nat_tests}
use Rattle.rd_base.specs.declared.bad.Bad.{Bad}
use Rattle.rd_base.specs.declared.journal.Key.{Key}
use Rattle.rd_chunk.specs.Carrier.{IsMessage, frames_for}
use Rattle.rd_decode.specs.Awaited.{Awaited, none_awaited, with_awaited}
use Rattle.rd_decode.specs.Entries.{Channel, fresh, nothing_under_way}
use Rattle.rd_decode.specs.Kept.{GoesOn}
use Rattle.rd_decode.specs.Lines.{completion_shown, line}
use Rattle.rd_decode.specs.Messages.{Printed, body_line, message_line}
use Rattle.rd_decode.specs.Recording.{Decoded, decoded, decoded_from, good, text_before}
use Rattle.rd_decode.specs.declared.fault.EntryFault.{EntryFault}
use Rattle.rd_decode.specs.declared.side.Side.{Side}
use Rattle.rd_decode.specs.declared.side.Side.TheVariants.{Host, Client}
use Rattle.rd_decode.proofs.GoesOnLemmas.{goes_nowhere, no_bytes}
use Rattle.rd_base.specs.declared.packet.Packet.TheVariants as packet
use Rattle.rd_irp.specs.declared.completion.Head.{Head}
use Rattle.rd_irp.specs.declared.completion.Kind.{Kind}
use Rattle.rd_irp.specs.Completion.{completion_body}
use Rattle.rd_irp.specs.Fits.{kind_of}
use Rattle.rd_irp.specs.Measure.{tail_of}
use Rattle.rd_printed.specs.Printed.{AnswersNext, ArePrintable, IsOnOpen, IsReadable, comes_of, lines_by, one_awaited, text_of}
use Rattle.rd_printed.proofs.FrameLemmas.{after_line, goes_both, goes_one, marked, message_goes}
use Rattle.rd_printed.proofs.MessageLemmas.{Reading, asks, completing, fails, nothing, reading}
use Rattle.rd_printed.proofs.PairLemmas.{Owes, OwesNext, kind_in, owes_less, owes_more, owes_next, owes_nothing, owes_still}
use Rattle.rd_world.specs.Recording.{entries_by, from_client, from_host, recording_entry_bytes, recording_of_deeds, written_by}
use Rattle.rd_deeds.specs.Talk.{Deed, EachAfter, answered, client_writes, client_wrote, completes, head_in, host_begins, host_ends, host_writes, host_wrote, message_has_pair, open_channel, request_at}
use Rattle.rd_world.proofs.RecordedLemmas.{recording_more}

-- ---- the bytes of deeds

-- the entries of deeds, of which the newest stands first
abbrev pub entries_of : List Deed → List ℕ
entries_of deeds = flat_map recording_entry_bytes (flat_map entries_by (reverse deeds))

abbrev pub bytes_by : Deed → List ℕ
bytes_by deed = flat_map recording_entry_bytes (entries_by deed)

entries_more : (deed : Deed) (before : List Deed) → entries_of (deed ∷ before) ≡ entries_of before ++ bytes_by deed
entries_more deed before = ap (drop 8) (recording_more deed before)

marked_host : (frames : List (List ℕ)) → flat_map recording_entry_bytes (map from_host frames) ≡ marked Host frames
marked_host [] = refl
marked_host (frame ∷ frames) = ap (λ (xs : List ℕ). (0 ∷ frame) ++ xs) (marked_host frames)

marked_client : (frames : List (List ℕ)) → flat_map recording_entry_bytes (map from_client frames) ≡ marked Client frames
marked_client [] = refl
marked_client (frame ∷ frames) = ap (λ (xs : List ℕ). (1 ∷ frame) ++ xs) (marked_client frames)

-- ---- what is known after deeds

-- The open channel has nothing half-way, and knows what is still to come of each pair.
pub record IsStanding (deeds : List Deed) (c : ℕ) (channel : Channel) : Type 0 where
  pub is_open : open_channel deeds ≡ Some c
  pub host : channel.host ≡ nothing_under_way
  pub client : channel.client ≡ nothing_under_way
  pub owes : (d i : ℕ) → Owes d i (host_wrote c deeds) (answered c d i deeds) (channel.awaited d i)

abbrev pub StandsAt : List Deed → Option Channel → Type 0
StandsAt deeds None = open_channel deeds ≡ None
StandsAt deeds (Some channel) = (c : ℕ) × IsStanding deeds c channel

-- all entries were taken, and their lines are those of the deeds
pub record Prints (deeds : List Deed) : Type 0 where
  pub channel : Option Channel
  pub place : ℕ
  pub goes : GoesOn 8 None (entries_of deeds) (lines_by deeds) place channel []
  pub stands : StandsAt deeds channel

nothing_printed : Prints []
nothing_printed = record { channel = None; place = 8; goes = goes_nowhere 8 None []; stands = refl }

-- one deed more
further : (before : List Deed) (deed : Deed) (place end : ℕ) (channel next : Option Channel) → GoesOn 8 None (entries_of before) (lines_by before) place channel []
    → GoesOn place channel (bytes_by deed) (text_of (comes_of before deed)) end next [] → StandsAt (deed ∷ before) next → Prints (deed ∷ before)
further before deed place end channel next first second stands = record {
  channel = next;
  place = end;
  goes = subst (λ (xs : List ℕ). GoesOn 8 None xs (lines_by (deed ∷ before)) end next []) (sym (entries_more deed before))
      (goes_both 8 None (entries_of before) (lines_by before) place channel (bytes_by deed) (text_of (comes_of before deed)) end next first second);
  stands = stands;
}

-- while a channel is open
while_open : {R : Type 0} (deeds : List Deed) (c : ℕ) → open_channel deeds ≡ Some c → Prints deeds
    → ((channel : Channel) (place : ℕ) → GoesOn 8 None (entries_of deeds) (lines_by deeds) place (Some channel) [] → IsStanding deeds c channel → R) → R
while_open {R} deeds c is p next = by p.channel p.goes p.stands
  where
    by : (o : Option Channel) → GoesOn 8 None (entries_of deeds) (lines_by deeds) p.place o [] → StandsAt deeds o → R
    by None goes none = absurd (cc (none, is))
    by (Some channel) goes (k, stands) = let same : k ≡ c = cc (stands.is_open, is) in next channel p.place goes (subst (λ (n : ℕ). IsStanding deeds n channel) same stands)

-- ---- a message

not_both : {A E : Type 0} (r : Result A E) → IsOk r → IsErr r → ⊥
not_both (Ok a) ok err = cc err
not_both (Err e) ok err = cc ok

-- a message of a side, with its line and what is still to come then
writes : (side : Side) (before : List Deed) (deed : Deed) (message : List ℕ) (c place : ℕ) (channel : Channel) (p : Printed) → IsMessage message → bytes_by deed ≡ marked side (frames_for message)
    → GoesOn 8 None (entries_of before) (lines_by before) place (Some channel) [] → IsStanding before c channel → message_line side channel.awaited message ≡ Ok p → text_of (comes_of before deed) ≡ p.text
    → open_channel (deed ∷ before) ≡ Some c → ((d i : ℕ) → Owes d i (host_wrote c (deed ∷ before)) (answered c d i (deed ∷ before)) (p.awaited d i)) → Prints (deed ∷ before)
writes Host before deed message c place channel p fit bytes goes stands line text is_open owes =
    let go = message_goes place Host channel message p fit stands.host line in
    further before deed place go.0 (Some channel) (Some (after_line Host channel p)) goes
    (subst (λ (xs : List ℕ). GoesOn place (Some channel) xs (text_of (comes_of before deed)) go.0 (Some (after_line Host channel p)) []) (sym bytes)
    (subst (λ (t : List ℕ). GoesOn place (Some channel) (marked Host (frames_for message)) t go.0 (Some (after_line Host channel p)) []) (sym text) go.1))
    (c, record { is_open = is_open; host = refl; client = stands.client; owes = owes })
writes Client before deed message c place channel p fit bytes goes stands line text is_open owes =
    let go = message_goes place Client channel message p fit stands.client line in
    further before deed place go.0 (Some channel) (Some (after_line Client channel p)) goes
    (subst (λ (xs : List ℕ). GoesOn place (Some channel) xs (text_of (comes_of before deed)) go.0 (Some (after_line Client channel p)) []) (sym bytes)
    (subst (λ (t : List ℕ). GoesOn place (Some channel) (marked Client (frames_for message)) t go.0 (Some (after_line Client channel p)) []) (sym text) go.1))
    (c, record { is_open = is_open; host = stands.host; client = refl; owes = owes })

-- ---- the host's

wrote_one : (c : ℕ) (message : List ℕ) (before : List Deed) → host_wrote c (host_writes c message ∷ before) ≡ message ∷ host_wrote c before
wrote_one c message before = rw (eq-eqb c c refl) refl

host_prints : (before : List Deed) (c : ℕ) (message : List ℕ) → IsMessage message → open_channel before ≡ Some c → IsReadable before (host_writes c message) → Prints before → Prints (host_writes c message ∷ before)
host_prints before c message fit is_open readable prints = while_open before c is_open prints (λ channel place goes stands. by channel place goes stands (reading Host message))
  where
    deed : Deed
    deed = host_writes c message

    by : (channel : Channel) (place : ℕ) → GoesOn 8 None (entries_of before) (lines_by before) place (Some channel) [] → IsStanding before c channel → Reading Host message → Prints (host_writes c message ∷ before)
    by channel place goes stands (nothing s) =
        writes Host before deed message c place channel (record { text = s.text; awaited = channel.awaited }) fit (marked_host (frames_for message)) goes stands (s.line channel.awaited)
        (ap (λ r. text_of (Some r)) (s.line none_awaited)) is_open
        (λ d i. subst (λ ms. Owes d i ms (answered c d i before) (channel.awaited d i)) (sym (wrote_one c message before)) (owes_still d i message (host_wrote c before) (answered c d i before) (channel.awaited d i) s.no_request (stands.owes d i)))
    by channel place goes stands (asks a) =
        let r = a.request in
        let after : Awaited = with_awaited r.device r.completion (channel.awaited r.device r.completion ++ kind_of r.op ∷ []) channel.awaited in
        writes Host before deed message c place channel (record { text = a.text; awaited = after }) fit (marked_host (frames_for message)) goes stands (a.line channel.awaited)
        (ap (λ x. text_of (Some x)) (a.line none_awaited)) is_open
        (λ d i. subst (λ ms. Owes d i ms (answered c d i before) (after d i)) (sym (wrote_one c message before)) (owes_more d i message r (host_wrote c before) (answered c d i before) channel.awaited a.is a.spells (stands.owes d i)))
    by channel place goes stands (completing x) = absurd (cc x.sender)
    by channel place goes stands (fails f) = absurd (not_both (message_line Host none_awaited message) readable (f none_awaited))

-- ---- the client's

client_prints : (before : List Deed) (c : ℕ) (message : List ℕ) → IsMessage message → open_channel before ≡ Some c → IsReadable before (client_writes c message) → Prints before → Prints (client_writes c message ∷ before)
client_prints before c message fit is_open readable prints = while_open before c is_open prints (λ channel place goes stands. by channel place goes stands (reading Client message))
  where
    deed : Deed
    deed = client_writes c message

    by : (channel : Channel) (place : ℕ) → GoesOn 8 None (entries_of before) (lines_by before) place (Some channel) [] → IsStanding before c channel → Reading Client message → Prints (client_writes c message ∷ before)
    by channel place goes stands (nothing s) =
        writes Client before deed message c place channel (record { text = s.text; awaited = channel.awaited }) fit (marked_client (frames_for message)) goes stands (s.line channel.awaited)
        (ap (λ r. text_of (Some r)) (s.line none_awaited)) is_open stands.owes
    by channel place goes stands (asks a) = absurd (cc a.sender)
    by channel place goes stands (completing x) = absurd (not_both (message_line Client none_awaited message) readable (rw (x.line none_awaited) refl))
    by channel place goes stands (fails f) = absurd (not_both (message_line Client none_awaited message) readable (f none_awaited))

-- ---- a completion

answered_one : (key : Key) (message : List ℕ) (d i : ℕ) (before : List Deed)
    → answered key.channel d i (completes key message ∷ before) ≡ cond (message_has_pair d i message) (key.index ∷ answered key.channel d i before) (answered key.channel d i before)
answered_one key message d i before = rw (eq-eqb key.channel key.channel refl) (by (message_has_pair d i message))
  where
    by : (b : Bool) → cons_option (cond b (Some key.index) None) (answered key.channel d i before) ≡ cond b (key.index ∷ answered key.channel d i before) (answered key.channel d i before)
    by true = refl
    by false = refl

-- what completes a pair has it
own_pair : (d i : ℕ) (message : List ℕ) (head : Head) → head_in message ≡ Some head → message_has_pair d i message ≡ true → (head.device ≡ d) × (head.completion ≡ i)
own_pair d i message head is has =
    let test : (head.device == d && head.completion == i) ≡ true = sym (rw is refl) ∙ has in
    (grind (arith, nat_tests, test), grind (arith, nat_tests, test))

completes_prints : (before : List Deed) (key : Key) (message : List ℕ) → IsMessage message → open_channel before ≡ Some key.channel → IsReadable before (completes key message)
    → AnswersNext before (completes key message) → Prints before → Prints (completes key message ∷ before)
completes_prints before key message fit is_open readable turn prints = while_open before key.channel is_open prints (λ channel place goes stands. by channel place goes stands (reading Client message))
  where
    c : ℕ
    c = key.channel

    deed : Deed
    deed = completes key message

    kind : Kind
    kind = kind_in (request_at (host_wrote c before) key.index)

    by : (channel : Channel) (place : ℕ) → GoesOn 8 None (entries_of before) (lines_by before) place (Some channel) [] → IsStanding before c channel → Reading Client message → Prints (completes key message ∷ before)
    by channel place goes stands (nothing s) =
        writes Client before deed message c place channel (record { text = s.text; awaited = channel.awaited }) fit (marked_client (frames_for message)) goes stands (s.line channel.awaited)
        (ap (λ r. text_of (Some r)) (s.line (one_awaited kind))) is_open
        (λ d i. let none : message_has_pair d i message ≡ false = rw s.no_head refl in
        subst (λ ks. Owes d i (host_wrote c before) ks (channel.awaited d i)) (sym (answered_one key message d i before ∙ rw none refl)) (stands.owes d i))
    by channel place goes stands (asks a) = absurd (cc a.sender)
    by channel place goes stands (fails f) = absurd (not_both (message_line Client (one_awaited kind) message) readable (f (one_awaited kind)))
    by channel place goes stands (completing x) = body (tail_of (completion_body kind x.head.status) (drop 16 message)) refl
      where
        h : Head
        h = x.head

        next : OwesNext h.device h.completion key.index (host_wrote c before) (answered c h.device h.completion before) (channel.awaited h.device h.completion)
        next = owes_next h.device h.completion key.index (host_wrote c before) (answered c h.device h.completion before) (channel.awaited h.device h.completion) (stands.owes h.device h.completion)
            (turn h.device h.completion (rw (x.is, eq-eqb h.device h.device refl, eq-eqb h.completion h.completion refl) refl))

        own : message_line Client channel.awaited message ≡ body_line Client channel.awaited message h (kind ∷ next.others)
        own = x.line channel.awaited ∙ ap (body_line Client channel.awaited message h) next.next

        body : (r : Result ℕ Bad) → tail_of (completion_body kind h.status) (drop 16 message) ≡ r → Prints (completes key message ∷ before)
        body (Err bad) e = absurd (not_both (message_line Client (one_awaited kind) message) readable (rw (x.line (one_awaited kind), e) refl))
        body (Ok tail) e =
            let text : List ℕ = line Client packet.IoCompletion (length message) (completion_shown h) tail in
            let after : Awaited = with_awaited h.device h.completion next.others channel.awaited in
            let shows : message_line Client (one_awaited kind) message ≡ Ok (record { text = text; awaited = with_awaited h.device h.completion [] (one_awaited kind) }) = x.line (one_awaited kind) ∙ rw e refl in
            writes Client before deed message c place channel (record { text = text; awaited = after }) fit (marked_client (frames_for message)) goes stands (own ∙ rw e refl)
            (ap (λ (r : Result Printed EntryFault). text_of (Some r)) shows) is_open
            (λ d i. subst (λ ks. Owes d i (host_wrote c before) ks (after d i)) (sym (answered_one key message d i before))
            (owes_less d i key.index message h (host_wrote c before) (answered c d i before) channel.awaited next.others x.is (stands.owes d i)
            (λ has. let pair = own_pair d i message h x.is has in
            subst (λ (n : ℕ). Owes d n (host_wrote c before) (key.index ∷ answered c d n before) next.others) pair.1
            (subst (λ (n : ℕ). Owes n h.completion (host_wrote c before) (key.index ∷ answered c n h.completion before) next.others) pair.0 next.after))))

-- ---- channels

none_answered : (c d i : ℕ) (deeds : List Deed) → client_wrote c deeds ≡ [] → answered c d i deeds ≡ []
none_answered c d i [] none = refl
none_answered c d i (completes key message ∷ before) none = by (key.channel == c) none (none_answered c d i before)
  where
    by : (b : Bool) → cons_option (cond b (Some message) None) (client_wrote c before) ≡ [] → (client_wrote c before ≡ [] → answered c d i before ≡ [])
        → cons_option (cond (b && message_has_pair d i message) (Some key.index) None) (answered c d i before) ≡ []
    by true none old = absurd (cc none)
    by false none old = old none
none_answered c d i (client_writes channel message ∷ before) none = by (channel == c) none (none_answered c d i before)
  where
    by : (b : Bool) → cons_option (cond b (Some message) None) (client_wrote c before) ≡ [] → (client_wrote c before ≡ [] → answered c d i before ≡ []) → answered c d i before ≡ []
    by true none old = absurd (cc none)
    by false none old = old none
none_answered c d i (deed ∷ before) none = none_answered c d i before none

begins_prints : (before : List Deed) (c : ℕ) → open_channel before ≡ None → host_wrote c before ≡ [] → client_wrote c before ≡ [] → Prints before → Prints (host_begins c ∷ before)
begins_prints before c closed none silent p = by p.channel p.goes p.stands
  where
    by : (o : Option Channel) → GoesOn 8 None (entries_of before) (lines_by before) p.place o [] → StandsAt before o → Prints (host_begins c ∷ before)
    by (Some channel) goes (k, stands) = absurd (cc (stands.is_open, closed))
    by None goes stands =
        further before (host_begins c) p.place (p.place + 1) None (Some fresh) goes (goes_one p.place None (2 ∷ []) (Some fresh) [] refl) (
          c,
          record {
            is_open = refl;
            host = refl;
            client = refl;
            owes = λ d i. subst (λ ms. Owes d i ms (answered c d i before) []) (sym none) (subst (λ ks. Owes d i [] ks []) (sym (none_answered c d i before silent)) (owes_nothing d i));
          },
        )

ends_prints : (before : List Deed) (c : ℕ) → open_channel before ≡ Some c → Prints before → Prints (host_ends c ∷ before)
ends_prints before c is_open p =
    while_open before c is_open p (λ channel place goes stands. further before (host_ends c) place (place + 1) (Some channel) None goes (goes_one place (Some channel) (3 ∷ []) None [] refl) refl)

-- a deed that leaves nothing
quiet : (deed : Deed) (before : List Deed) → bytes_by deed ≡ [] → text_of (comes_of before deed) ≡ [] → open_channel (deed ∷ before) ≡ open_channel before
    → ((c : ℕ) → host_wrote c (deed ∷ before) ≡ host_wrote c before) → ((c d i : ℕ) → answered c d i (deed ∷ before) ≡ answered c d i before) → Prints before → Prints (deed ∷ before)
quiet deed before none silent is_open wrote answers p =
    further before deed p.place p.place p.channel p.channel p.goes
    (subst (λ (xs : List ℕ). GoesOn p.place p.channel xs (text_of (comes_of before deed)) p.place p.channel []) (sym none)
    (subst (λ (t : List ℕ). GoesOn p.place p.channel [] t p.place p.channel []) (sym silent) (goes_nowhere p.place p.channel [])))
    (stays p.channel p.stands)
  where
    stays : (o : Option Channel) → StandsAt before o → StandsAt (deed ∷ before) o
    stays None stands = is_open ∙ stands
    stays (Some channel) (c, s) = (
      c,
      record {
        is_open = is_open ∙ s.is_open;
        host = s.host;
        client = s.client;
        owes = λ d i. subst (λ ms. Owes d i ms (answered c d i (deed ∷ before)) (channel.awaited d i)) (sym (wrote c))
            (subst (λ ks. Owes d i (host_wrote c before) ks (channel.awaited d i)) (sym (answers c d i)) (s.owes d i));
      },
    )

-- ---- all deeds

all_print : (deeds : List Deed) → AllByRecursion (λ deed. IfSome (written_by deed) IsMessage) deeds → EachAfter IsOnOpen deeds → EachAfter IsReadable deeds → EachAfter AnswersNext deeds → Prints deeds
all_print [] fit on_open readable turns = nothing_printed
all_print (host_begins c ∷ before) fit on_open readable turns =
    begins_prints before c on_open.0.0 on_open.0.1 on_open.0.2 (all_print before fit.1 on_open.1 readable.1 turns.1)
all_print (host_ends c ∷ before) fit on_open readable turns = ends_prints before c on_open.0 (all_print before fit.1 on_open.1 readable.1 turns.1)
all_print (host_writes c message ∷ before) fit on_open readable turns =
    host_prints before c message fit.0 on_open.0 readable.0 (all_print before fit.1 on_open.1 readable.1 turns.1)
all_print (client_writes c message ∷ before) fit on_open readable turns =
    client_prints before c message fit.0 on_open.0 readable.0 (all_print before fit.1 on_open.1 readable.1 turns.1)
all_print (completes key message ∷ before) fit on_open readable turns =
    completes_prints before key message fit.0 on_open.0 readable.0 turns.0 (all_print before fit.1 on_open.1 readable.1 turns.1)
all_print (deed ∷ before) fit on_open readable turns = quiet deed before refl refl refl (λ c. refl) (λ c d i. refl) (all_print before fit.1 on_open.1 readable.1 turns.1)

-- ---- a recording

-- all of a recording is taken, and no fault is met
all_decoded : (deeds : List Deed) → Prints deeds → decoded (recording_of_deeds deeds) ≡ text_before (lines_by deeds) good
all_decoded deeds p =
    let all = p.goes.on [] (length (recording_of_deeds deeds)) (omega (arith, length-append (entries_of deeds) [])) in
    let long : nat_lt (length (recording_of_deeds deeds)) 8 ≡ false = le-ltb (length (recording_of_deeds deeds)) 8 (omega arith) in
    rw long refl ∙ ap (decoded_from (length (recording_of_deeds deeds)) 8 None) (sym (append-nil (entries_of deeds))) ∙ all.2 ∙ ap (text_before (lines_by deeds)) (no_bytes all.0 p.place p.channel)

-- what is printed of deeds whose recording prints
pub printed : (deeds : List Deed) → ArePrintable deeds → decoded (recording_of_deeds deeds) ≡ text_before (lines_by deeds) good
printed deeds is = all_decoded deeds (all_print deeds (recursion_from_All (λ deed. IfSome (written_by deed) IsMessage) deeds is.fit) is.on_open is.readable is.in_turn)

pub lines_printed : (deeds : List Deed) → ArePrintable deeds → (decoded (recording_of_deeds deeds)).text ≡ lines_by deeds
lines_printed deeds is = ap (λ (d : Decoded). d.text) (printed deeds is) ∙ append-nil (lines_by deeds)
