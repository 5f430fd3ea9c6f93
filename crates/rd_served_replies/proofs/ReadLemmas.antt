-- The numbers of requests that were read of bytes have room in their completions.
use Rattle.std.proofs.Common.{◌≡◌, refl, sym, inl, inr, subst, ℕ, ◌==◌, ◌&&◌, Bool, true, false, cond, List, [], ◌∷◌, ◌++◌, length, Some, None, Option}
use Rattle.std.specs.Prelude.{filter, filter_map, map, reverse, Ok, Err}
use Rattle.std.specs.List.{AllByRecursion, cons_option}
use Rattle.rd_base.specs.Layout.{AreBytes}
use Rattle.rd_base.specs.declared.journal.Item.{Item}
use Rattle.rd_base.specs.declared.journal.Key.{Key}
use Rattle.rd_drive.proofs.AllLemmas.{all_append}
use Rattle.rd_front.specs.declared.calls.FrontCall.{FrontCall}
use Rattle.rd_front.specs.declared.calls.FrontCall.TheVariants as call
use Rattle.rd_front.specs.declared.calls.FrontReply.{FrontReply}
use Rattle.rd_front.specs.declared.calls.FrontReply.TheVariants as reply
use Rattle.rd_hello.specs.declared.end_fault.EndFault.TheVariants as fault
use Rattle.rd_irp.specs.declared.request.Request.{Request}
use Rattle.rd_refused.specs.JournalsJobs.{AreFine, FitsCompletion}
use Rattle.rd_ranges.proofs.ReadLemmas.{request_room}
use Rattle.rd_turn.specs.declared.object.Entry.{Entry}
use Rattle.rd_deeds.specs.Talk.{Deed, Has, client_read, client_reads, is_request, request_at, request_in, stores}
use Rattle.rd_served.specs.Deeds.{deeds_after, deeds_of, deeds_of_calls, sent_by, stored, stored_each}
use Rattle.rd_served.specs.Histories.{HearsAs, HistoryGoes, IsHeardBy}
use Rattle.rd_served.specs.Parts.{FrontPart, begins, calls, directs, ends, forgets, heard_in, hears, keeps, learns, misplaces, refreshes, sends, tells_gone, tells_there, tries, unwritten, writes}
use Rattle.rd_served.specs.Served.{Served}
use Rattle.rd_front.specs.Calls.{HearBytes, HearsBytes}

-- a message that was read consists of bytes
abbrev pub IsOfBytes : Deed → Type 0
IsOfBytes (client_reads channel message) = AreBytes message
IsOfBytes _ = Unit {0}

message_at : (ms : List (List ℕ)) (k : ℕ) (r : Request) → request_at ms k ≡ Some r → (m : List ℕ) × Has m ms × (request_in m ≡ Some r)
message_at [] k r e = absurd (cc (e))
message_at (m ∷ ms) k r e = by (is_request m && length (filter is_request ms) == k) e (message_at ms k r)
  where
    by : (b : Bool) → cond b (request_in m) (request_at ms k) ≡ Some r → (request_at ms k ≡ Some r → (n : List ℕ) × Has n ms × (request_in n ≡ Some r)) → (n : List ℕ) × Has n (m ∷ ms) × (request_in n ≡ Some r)
    by true e later = (m, inl refl, e)
    by false e later = let old = later e in (old.0, inr old.1, old.2)

read_bytes : (c : ℕ) (deeds : List Deed) → AllByRecursion IsOfBytes deeds → (m : List ℕ) → Has m (client_read c deeds) → AreBytes m
read_bytes c [] are m has = absurd has
read_bytes c (client_reads channel message ∷ deeds) are m has = by (channel == c) has (read_bytes c deeds are.1 m)
  where
    by : (b : Bool) → Has m (cons_option (cond b (Some message) None) (client_read c deeds)) → (Has m (client_read c deeds) → AreBytes m) → AreBytes m
    by true (inl same) before = subst AreBytes (sym same) are.0
    by true (inr later) before = before later
    by false later before = before later
read_bytes c (y ∷ deeds) are m has = read_bytes c deeds are.1 m has

pub all_fine : (deeds : List Deed) → AllByRecursion IsOfBytes deeds → AreFine FitsCompletion deeds
all_fine deeds are c k r read =
    let (m, has, spells) = message_at (client_read c deeds) k r read in
    let room = request_room m r (read_bytes c deeds are m has) spells in
    (room.device, room.completion, room.few)

-- ---- what was heard

abbrev AreAllBytes : List (List ℕ) → Type 0
AreAllBytes messages = AllByRecursion AreBytes messages

items_bytes : (d : ℕ) (items : List Item) → AllByRecursion IsOfBytes (map (stores d) items)
items_bytes d [] = tt
items_bytes d (x ∷ items) = (tt, items_bytes d items)

told_bytes : (told : List (ℕ × List Item)) → AllByRecursion IsOfBytes (stored_each told)
told_bytes [] = tt
told_bytes (t ∷ told) = all_append IsOfBytes (stored_each told) (stored t.0 t.1) (told_bytes told) (items_bytes t.0 (reverse t.1))

-- a part reads what it heard
part_bytes : (x : FrontPart) (ps : List FrontPart) → AreAllBytes (filter_map heard_in (x ∷ ps)) → AllByRecursion IsOfBytes (deeds_of x) × AreAllBytes (filter_map heard_in ps)
part_bytes (hears channel m (Err fault.Memory)) ps are = (tt, are)
part_bytes (hears channel m (Err (fault.Order state packet))) ps are = ((are.0, tt), are.1)
part_bytes (hears channel m (Err (fault.Grammar bad))) ps are = ((are.0, tt), are.1)
part_bytes (hears channel m (Ok heard)) ps are = ((are.0, tt), are.1)
part_bytes tries ps are = (tt, are)
part_bytes keeps ps are = (tt, are)
part_bytes forgets ps are = (tt, are)
part_bytes misplaces ps are = (tt, are)
part_bytes (directs st answer) ps are = (tt, are)
part_bytes (calls place id does back items) ps are = (items_bytes id (reverse items), are)
part_bytes (tells_gone device (Ok done)) ps are = ((tt, tt), are)
part_bytes (tells_gone device (Err error)) ps are = (tt, are)
part_bytes (tells_there device (Ok done)) ps are = ((tt, tt), are)
part_bytes (tells_there device (Err error)) ps are = (tt, are)
part_bytes (sends channel None) ps are = (tt, are)
part_bytes (sends channel (Some o)) ps are = (by o.answers, are)
  where
    by : (answers : Option Key) → AllByRecursion IsOfBytes (sent_by channel o.message answers)
    by None = (tt, tt)
    by (Some key) = (tt, tt)
part_bytes (writes device c) ps are = ((tt, tt), are)
part_bytes (unwritten device c) ps are = (tt, are)
part_bytes (learns n answer) ps are = (tt, are)
part_bytes (refreshes device) ps are = (tt, are)
part_bytes (begins channel) ps are = (tt, are)
part_bytes (ends over told) ps are = (told_bytes told, are)

parts_bytes : (ps : List FrontPart) (deeds : List Deed) → AreAllBytes (filter_map heard_in ps) → AllByRecursion IsOfBytes deeds → AllByRecursion IsOfBytes (deeds_after ps deeds)
parts_bytes [] deeds are before = before
parts_bytes (x ∷ ps) deeds are before =
    let (own, later) = part_bytes x ps are in parts_bytes ps (deeds_of x ++ deeds) later (all_append IsOfBytes (deeds_of x) deeds own before)

heard_bytes : (message : List ℕ) (back : FrontReply) (messages : List (List ℕ)) → AreBytes message → IsHeardBy message back messages → AreAllBytes messages
heard_bytes message reply.Refused messages are is = subst AreAllBytes (sym is) tt
heard_bytes message reply.Full messages are is = subst AreAllBytes (sym is) tt
heard_bytes message reply.Memory messages are is = elim is [ inl none ↦ subst AreAllBytes (sym none) tt | inr one ↦ subst AreAllBytes (sym one) (are, tt) ]
heard_bytes message (reply.Done place full) messages are is = subst AreAllBytes (sym is) (are, tt)
heard_bytes message (reply.Stands ready asked) messages are is = subst AreAllBytes (sym is) (are, tt)
heard_bytes message reply.Kept messages are is = subst AreAllBytes (sym is) (are, tt)
heard_bytes message (reply.Wrong cause) messages are is = subst AreAllBytes (sym is) (are, tt)
heard_bytes message (reply.Duplicate key) messages are is = subst AreAllBytes (sym is) (are, tt)
heard_bytes message reply.Unfit messages are is = subst AreAllBytes (sym is) (are, tt)
heard_bytes message (reply.Messages filled left) messages are is = subst AreAllBytes (sym is) (are, tt)

call_bytes : (does : FrontCall) (back : FrontReply) (messages : List (List ℕ)) → HearsBytes does → HearsAs does back messages → AreAllBytes messages
call_bytes (call.Hear message) back messages are is = heard_bytes message back messages are is
call_bytes (call.Begin channel) back messages are is = subst AreAllBytes (sym is) tt
call_bytes call.Retry back messages are is = subst AreAllBytes (sym is) tt
call_bytes (call.Next channel place room) back messages are is = subst AreAllBytes (sym is) tt
call_bytes (call.Remove device) back messages are is = subst AreAllBytes (sym is) tt
call_bytes (call.Add device) back messages are is = subst AreAllBytes (sym is) tt
call_bytes call.Look back messages are is = subst AreAllBytes (sym is) tt
call_bytes call.EndChannel back messages are is = subst AreAllBytes (sym is) tt
call_bytes call.EndSession back messages are is = subst AreAllBytes (sym is) tt

pub history_bytes : (entries : List (Entry FrontCall FrontReply)) (parts : List (List FrontPart)) (p q : Served) (deeds : List Deed) → HistoryGoes p entries parts q → HearBytes entries → AllByRecursion IsOfBytes deeds
    → AllByRecursion IsOfBytes (deeds_of_calls parts deeds)
history_bytes [] [] p q deeds goes are before = before
history_bytes [] (ps ∷ parts) p q deeds goes are before = absurd goes
history_bytes (e ∷ entries) [] p q deeds goes are before = absurd goes
history_bytes (e ∷ entries) (ps ∷ parts) p q deeds goes are before =
    history_bytes entries parts goes.0 q (deeds_after ps deeds) goes.2 are.1 (parts_bytes ps deeds (call_bytes e.call e.reply (filter_map heard_in ps) are.0 (goes.1).heard) before)
