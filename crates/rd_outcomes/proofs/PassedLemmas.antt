-- The requests that a host wrote on a channel are those that were accepted there, in order, and on the open channel the others wait to be sent.
use Rattle.std.proofs.Common.{◌≡◌, ◌∙◌, refl, sym, ap, subst, ℕ, ◌+◌, ◌<◌, ◌≤◌, ◌==◌, Bool, true, false, cond, List, [], ◌∷◌, ◌++◌, reverse, Some, None, Option, arith, append_assoc, eq-eqb, eqb-true}
use Rattle.std.specs.Prelude.{◌^◌, filter}
use Rattle.std.specs.List.{AllByRecursion, cons_option}
use Rattle.std.specs.Option.{option_map_or}
use Rattle.std.proofs.lemmas.List.{reverse-append}
use Rattle.std.proofs.lemmas.Bool.Decides.{nat_tests}
use Rattle.rd_base.specs.declared.journal.Key.{Key}
use Rattle.rd_irp.specs.declared.op.Op.{Op}
use Rattle.rd_irp.specs.declared.request.Request.{Request}
use Rattle.rd_irp.proofs.WrittenLemmas.{request_spelled}
use Rattle.rd_pending.specs.declared.calls.Target.{Target}
use Rattle.rd_pending.specs.Table as table
use Rattle.rd_pending.specs.Table.{TableState, device_in, file_in, next_id}
use Rattle.rd_pending.proofs.Effects as effects
use Rattle.rd_pending.proofs.MapLemmas.{free_within}
use Rattle.rd_pending.proofs.Tame.{Tame, tame_take}
use Rattle.rd_controls.proofs.RunsBelowLemmas.{below_is, channel_is, channels_below}
use Rattle.rd_controls.proofs.RunsTogether.{known}
use Rattle.rd_controls.specs.RunsMoves.{Reached}
use Rattle.rd_controls.specs.RunsPremises.{RunPremises}
use Rattle.rd_script.specs.declared.line.NumberedLine.{NumberedLine}
use Rattle.rd_deeds.specs.Host.{HostSide, first_waiting, hears, next_message, side_sends}
use Rattle.rd_deeds.specs.HostDeeds.{IsInRange, side_of}
use Rattle.rd_world.specs.Lines.{message_of, submitted}
use Rattle.rd_world.specs.Recording.{client_id}
use Rattle.rd_deeds.specs.Talk.{Deed, EndsWith, adds, client_reads, client_writes, completes, host_begins, host_ends, host_reads, host_writes, host_wrote, is_open_at, is_request, open_channel, removes, stores, submits, takes, tells}
use Rattle.rd_world.specs.World.{WorldState}
use Rattle.rd_deeds.proofs.Calls.{Does, read_tame}
use Rattle.rd_deeds.proofs.Hearings.{AreQuiet, quiet}
use Rattle.rd_deeds.proofs.Messages.{request_is, request_read}
use Rattle.rd_deeds.proofs.Written.{requests_on, sound_side}

-- of the messages that were accepted the first were written, and on the open channel the others are to be sent
record Passed (t : TableState) (messages wrote : List (List ℕ)) (c : ℕ) : Type 0 where
  unsent : List (List ℕ)
  same : messages ≡ unsent ++ wrote
  in_outbox : t.channel ≡ Some c → unsent ≡ reverse t.outbox

AreRequests : List (List ℕ) → Type 0
AreRequests ms = AllByRecursion (λ (m : List ℕ). is_request m ≡ true) ms

tamed : (t new : TableState) (messages wrote : List (List ℕ)) (c : ℕ) → Tame t new → Passed t messages wrote c → Passed new messages wrote c
tamed t new messages wrote c tame p = record { unsent = p.unsent; same = p.same; in_outbox = λ e. p.in_outbox (sym tame.channel ∙ e) ∙ ap reverse (sym tame.outbox) }

-- ---- what is accepted

asks : (deeds : List Deed) → Does client_id deeds → (x : ℕ) (named : Target) (o : Op) → table.MaySubmit named o → IsInRange named o → table.submit_refusal (side_of client_id deeds).table named ≡ None → is_request (message_of deeds named o) ≡ true
asks deeds does x named o may range free =
    let t : TableState = (side_of client_id deeds).table in
    let effect = effects.submits t x named o free in
    let small : next_id t < 2 ^ 32 = omega (arith, free_within 0 t.slots, effect.few) in
    let r : Request = record { device = device_in named; file = file_in named; completion = next_id t; op = o } in
    request_is (message_of deeds named o) r (request_read r 0 (message_of deeds named o) (request_spelled r may.fits range.op range.device range.file small))

all_ask : (c : ℕ) (deeds : List Deed) → Does client_id deeds → AreRequests (submitted c deeds)
unfolding AreRequests
all_ask c [] does = tt
all_ask c (submits x named o ∷ before) does = by (is_open_at c before) (all_ask c before does.1)
  where
    by : (b : Bool) → AreRequests (submitted c before) → AreRequests (cond b (message_of before named o ∷ submitted c before) (submitted c before))
    by true all = (asks before does.1 x named o does.0.0 does.0.1 does.0.2, all)
    by false all = all
all_ask c (host_begins channel ∷ before) does = all_ask c before does.1
all_ask c (host_ends channel ∷ before) does = all_ask c before does.1
all_ask c (removes device ∷ before) does = all_ask c before does.1
all_ask c (adds device ∷ before) does = all_ask c before does.1
all_ask c (takes number ∷ before) does = all_ask c before does.1
all_ask c (tells n ∷ before) does = all_ask c before does.1
all_ask c (host_writes channel message ∷ before) does = all_ask c before does.1
all_ask c (host_reads channel message ∷ before) does = all_ask c before does.1
all_ask c (client_reads channel message ∷ before) does = all_ask c before does.1
all_ask c (client_writes channel message ∷ before) does = all_ask c before does.1
all_ask c (completes key message ∷ before) does = all_ask c before does.1
all_ask c (stores device item ∷ before) does = all_ask c before does.1

-- ---- channels that didn't begin

-- the channel that is open began
open_below : (deeds : List Deed) (c : ℕ) → Does client_id deeds → open_channel deeds ≡ Some c → c < channels_below deeds
open_below [] c does is = absurd (cc is)
open_below (host_begins channel ∷ before) c does is = let same : channel ≡ c = cc is in omega (arith, same)
open_below (host_ends channel ∷ before) c does is = absurd (cc is)
open_below (submits x named o ∷ before) c does is = open_below before c does.1 is
open_below (removes device ∷ before) c does is = open_below before c does.1 is
open_below (adds device ∷ before) c does is = open_below before c does.1 is
open_below (takes number ∷ before) c does is = open_below before c does.1 is
open_below (tells n ∷ before) c does is = open_below before c does.1 is
open_below (host_writes channel message ∷ before) c does is = open_below before c does.1 is
open_below (host_reads channel message ∷ before) c does is = open_below before c does.1 is
open_below (client_reads channel message ∷ before) c does is = open_below before c does.1 is
open_below (client_writes channel message ∷ before) c does is = open_below before c does.1 is
open_below (completes key message ∷ before) c does is = open_below before c does.1 is
open_below (stores device item ∷ before) c does is = open_below before c does.1 is

none_open : (deeds : List Deed) (c : ℕ) → Does client_id deeds → channels_below deeds ≤ c → is_open_at c deeds ≡ false
none_open deeds c does above = by (open_channel deeds) refl
  where
    by : (o : Option ℕ) → open_channel deeds ≡ o → option_map_or (λ channel. channel == c) o false ≡ false
    by None e = refl
    by (Some d) e = let low = open_below deeds d does e in grind (arith, nat_tests, low, above)

-- channels rise
grown_below : (channel : ℕ) (before : List Deed) → Does client_id (host_begins channel ∷ before) → channels_below before ≤ channel
grown_below channel before does =
    let b = below_is client_id before does.1 in
    omega (arith, b, does.0.1)

none_submitted : (c : ℕ) (deeds : List Deed) → Does client_id deeds → channels_below deeds ≤ c → submitted c deeds ≡ []
none_submitted c [] does above = refl
none_submitted c (submits x named o ∷ before) does above =
    ap (λ (b : Bool). cond b (message_of before named o ∷ submitted c before) (submitted c before)) (none_open before c does.1 above) ∙ none_submitted c before does.1 above
none_submitted c (host_begins channel ∷ before) does above =
    let low = grown_below channel before does in none_submitted c before does.1 (omega (arith, low, above))
none_submitted c (host_ends channel ∷ before) does above = none_submitted c before does.1 above
none_submitted c (removes device ∷ before) does above = none_submitted c before does.1 above
none_submitted c (adds device ∷ before) does above = none_submitted c before does.1 above
none_submitted c (takes number ∷ before) does above = none_submitted c before does.1 above
none_submitted c (tells n ∷ before) does above = none_submitted c before does.1 above
none_submitted c (host_writes channel message ∷ before) does above = none_submitted c before does.1 above
none_submitted c (host_reads channel message ∷ before) does above = none_submitted c before does.1 above
none_submitted c (client_reads channel message ∷ before) does above = none_submitted c before does.1 above
none_submitted c (client_writes channel message ∷ before) does above = none_submitted c before does.1 above
none_submitted c (completes key message ∷ before) does above = none_submitted c before does.1 above
none_submitted c (stores device item ∷ before) does above = none_submitted c before does.1 above

-- ---- each deed

none_appended : (xs ys : List (List ℕ)) → [] ≡ xs ++ ys → xs ≡ []
none_appended [] ys e = refl
none_appended (x ∷ xs) ys e = absurd (cc e)

accepted_one : (before : List Deed) (x : ℕ) (named : Target) (o : Op) (c : ℕ) → Does client_id before → table.submit_refusal (side_of client_id before).table named ≡ None
    → Passed (side_of client_id before).table (submitted c before) (requests_on c before) c
    → Passed (table.submit (side_of client_id before).table x named o).0 (submitted c (submits x named o ∷ before)) (requests_on c before) c
accepted_one before x named o c does free p = by (is_open_at c before) refl
  where
    t : TableState
    t = (side_of client_id before).table

    m : List ℕ
    m = message_of before named o

    open_is : t.channel ≡ open_channel before
    open_is = channel_is client_id before does

    opened : (ch : Option ℕ) → open_channel before ≡ ch → is_open_at c before ≡ true → ch ≡ Some c
    opened None e is = absurd (cc (ap (λ (q : Option ℕ). option_map_or (λ channel. channel == c) q false) (sym e) ∙ is))
    opened (Some d) e is = ap (λ (n : ℕ). Some n) (eqb-true d c (ap (λ (q : Option ℕ). option_map_or (λ channel. channel == c) q false) (sym e) ∙ is))

    by : (b : Bool) → is_open_at c before ≡ b → Passed (table.submit t x named o).0 (cond b (m ∷ submitted c before) (submitted c before)) (requests_on c before) c
    by false e =
        let effect = effects.submits t x named o free in
        subst (λ (y : TableState). Passed y (submitted c before) (requests_on c before) c) (sym effect.new) (record {
          unsent = p.unsent;
          same = p.same;
          in_outbox = λ is. absurd (cc (e, ap (λ (q : Option ℕ). option_map_or (λ channel. channel == c) q false) (sym open_is ∙ is) ∙ eq-eqb c c refl));
        })
    by true e =
        let effect = effects.submits t x named o free in
        let here : t.channel ≡ Some c = open_is ∙ opened (open_channel before) refl e in
        subst (λ (y : TableState). Passed y (m ∷ submitted c before) (requests_on c before) c) (sym effect.new) (record {
          unsent = m ∷ p.unsent;
          same = ap (λ (ms : List (List ℕ)). m ∷ ms) p.same;
          in_outbox = λ is. ap (λ (ms : List (List ℕ)). m ∷ ms) (p.in_outbox here) ∙ sym (reverse-append t.outbox (m ∷ []));
        })

all_before : (P : List ℕ → Type 0) (xs : List (List ℕ)) (m : List ℕ) (ys : List (List ℕ)) → AllByRecursion P (xs ++ m ∷ ys) → P m
all_before P [] m ys all = all.0
all_before P (x ∷ xs) m ys all = all_before P xs m ys all.1

wrote_one : (s : HostSide) (messages : List (List ℕ)) (c channel : ℕ) (m : List ℕ) (wrote : List (List ℕ)) → AreRequests messages → AreQuiet ((s.core).core).outbox → (s.table).channel ≡ Some channel → next_message s ≡ Some m
    → Passed s.table messages (filter is_request wrote) c → Passed (side_sends s).table messages (filter is_request (cons_option (cond (channel == c) (Some m) None) wrote)) c
unfolding AreRequests
wrote_one s messages c channel m wrote asking quiet_core is_open_one next p = go ((s.core).core).outbox refl (channel == c) refl
  where
    at : (b : Bool) → is_request m ≡ b → filter is_request (m ∷ wrote) ≡ cond b (m ∷ filter is_request wrote) (filter is_request wrote)
    at b e = rw e refl

    go : (o : List (List ℕ)) → ((s.core).core).outbox ≡ o → (b : Bool) → (channel == c) ≡ b → Passed (side_sends s).table messages (filter is_request (cons_option (cond b (Some m) None) wrote)) c
    -- one of the end's own
    go (x ∷ xs) e b e2 =
        let head : next_message s ≡ Some x = rw e refl in
        let own : x ≡ m = cc (head, next) in
        let silent : is_request m ≡ false = subst (λ (y : List ℕ). is_request y ≡ false) own (subst AreQuiet e quiet_core).0 in
        let same : (side_sends s).table ≡ s.table = rw e refl in
        subst (λ (t : TableState). Passed t messages (filter is_request (cons_option (cond b (Some m) None) wrote)) c) (sym same) (by b silent)
      where
        by : (b : Bool) → is_request m ≡ false → Passed s.table messages (filter is_request (cons_option (cond b (Some m) None) wrote)) c
        by true silent = subst (λ (ms : List (List ℕ)). Passed s.table messages ms c) (sym (at false silent)) p
        by false silent = p
    -- one of the table's
    go [] e b e2 = by (s.table).outbox refl
      where
        by : (o : List (List ℕ)) → (s.table).outbox ≡ o → Passed (side_sends s).table messages (filter is_request (cons_option (cond b (Some m) None) wrote)) c
        by [] e3 = let none : next_message s ≡ None = rw (e, e3) refl in absurd (cc (none, next))
        by (x ∷ xs) e3 =
            let head : next_message s ≡ Some x = rw (e, e3) refl in
            let own : x ≡ m = cc (head, next) in
            let new : (side_sends s).table ≡ record s.table { outbox = xs } = rw (e, e3) refl in
            subst (λ (t : TableState). Passed t messages (filter is_request (cons_option (cond b (Some m) None) wrote)) c) (sym new) (here b e2 own)
          where
            here : (b : Bool) → (channel == c) ≡ b → x ≡ m → Passed (record s.table { outbox = xs }) messages (filter is_request (cons_option (cond b (Some m) None) wrote)) c
            here false other own = record {
              unsent = p.unsent;
              same = p.same;
              in_outbox = λ is. absurd (cc (other, eq-eqb channel c (let same : channel ≡ c = cc (is_open_one, is) in same)));
            }
            here true same own =
                let is_c : (s.table).channel ≡ Some c = is_open_one ∙ ap (λ (n : ℕ). Some n) (eqb-true channel c same) in
                let parts : messages ≡ reverse xs ++ m ∷ filter is_request wrote =
                p.same ∙ ap (λ (ms : List (List ℕ)). ms ++ filter is_request wrote) (p.in_outbox is_c ∙ ap reverse e3 ∙ reverse-append (x ∷ []) xs ∙ ap (λ (y : List ℕ). reverse xs ++ y ∷ []) own)
                ∙ append_assoc (reverse xs) (m ∷ []) (filter is_request wrote) in
                let asks : is_request m ≡ true = all_before (λ (m : List ℕ). is_request m ≡ true) (reverse xs) m (filter is_request wrote) (subst AreRequests parts asking) in
                subst (λ (ms : List (List ℕ)). Passed (record s.table { outbox = xs }) messages ms c) (sym (at true asks)) (record {
                  unsent = reverse xs;
                  same = parts;
                  in_outbox = λ is. refl;
                })

began : (channel c : ℕ) (before : List Deed) → Does client_id (host_begins channel ∷ before) → Passed (side_of client_id before).table (submitted c before) (requests_on c before) c
    → Passed (table.begin (side_of client_id before).table channel).0 (submitted c before) (requests_on c before) c
began channel c before does p = subst (λ (x : TableState). Passed x (submitted c before) (requests_on c before) c) (sym is_new) (record {
  unsent = p.unsent;
  same = p.same;
  in_outbox = λ is. none (same is) ∙ sym (ap reverse ((sound_side client_id before does.1).slots.closed closed).2);
})
  where
    t : TableState
    t = (side_of client_id before).table

    closed : t.channel ≡ None
    closed = does.0.0

    is_new : (table.begin t channel).0 ≡ record t { channel = Some channel; below = channel + 1; asked = 0; begun = 0 }
    is_new = rw closed refl

    same : Some channel ≡ Some c → channel ≡ c
    same is = cc is

    none : channel ≡ c → p.unsent ≡ []
    none here =
        let low = grown_below channel before does in
        none_appended p.unsent (requests_on c before) (sym (none_submitted c before does.1 (omega (arith, low, here))) ∙ p.same)

passed : (deeds : List Deed) → Does client_id deeds → (c : ℕ) → Passed (side_of client_id deeds).table (submitted c deeds) (requests_on c deeds) c
passed [] does c = record { unsent = []; same = refl; in_outbox = λ e. absurd (cc e) }
passed (host_begins channel ∷ before) does c = began channel c before does (passed before does.1 c)
passed (host_ends channel ∷ before) does c =
    let p = passed before does.1 c in
    record { unsent = p.unsent; same = p.same; in_outbox = λ is. absurd (cc is) }
passed (removes device ∷ before) does c = passed before does.1 c
passed (adds device ∷ before) does c = passed before does.1 c
passed (submits x named o ∷ before) does c = accepted_one before x named o c does.1 does.0.2 (passed before does.1 c)
passed (takes number ∷ before) does c =
    tamed (side_of client_id before).table (table.take (side_of client_id before).table number).0 (submitted c before) (requests_on c before) c (tame_take (side_of client_id before).table number) (passed before does.1 c)
passed (tells n ∷ before) does c = passed before does.1 c
passed (host_writes channel message ∷ before) does c =
    wrote_one (side_of client_id before) (submitted c before) c channel message (host_wrote c before) (all_ask c before does.1) (quiet client_id before) does.0.0 does.0.1 (passed before does.1 c)
passed (host_reads channel message ∷ before) does c =
    tamed (side_of client_id before).table (hears (side_of client_id before) message).table (submitted c before) (requests_on c before) c (read_tame client_id channel message before).0 (passed before does.1 c)
passed (client_reads channel message ∷ before) does c = passed before does.1 c
passed (client_writes channel message ∷ before) does c = passed before does.1 c
passed (completes key message ∷ before) does c = passed before does.1 c
passed (stores device item ∷ before) does c = passed before does.1 c

-- ---- every run

module _ (lines : List NumberedLine) (starves : Key → Bool) (premises : RunPremises lines) (w : WorldState) (r : Reached lines starves w) where
  does : Does client_id w.deeds
  does = ((known lines starves premises w r).stands).host.may

  side : side_of client_id w.deeds ≡ w.side
  side = ((known lines starves premises w r).stands).host.is

  pub are_passed : (c : ℕ) → EndsWith (submitted c w.deeds) (filter is_request (host_wrote c w.deeds))
  are_passed c = let p = passed w.deeds does c in (p.unsent, p.same)

  -- where nothing waits to be sent
  pub all_are_sent : next_message w.side ≡ None → (c : ℕ) → open_channel w.deeds ≡ Some c → filter is_request (host_wrote c w.deeds) ≡ submitted c w.deeds
  all_are_sent none c opened =
      let p = passed w.deeds does c in
      let empty : ((side_of client_id w.deeds).table).outbox ≡ [] = subst (λ (s : HostSide). (s.table).outbox ≡ []) (sym side) (no_requests ((w.side.core).core).outbox (w.side.table).outbox none) in
      let unsent : p.unsent ≡ [] = p.in_outbox (channel_is client_id w.deeds does ∙ opened) ∙ ap reverse empty in
      sym (p.same ∙ ap (λ (ms : List (List ℕ)). ms ++ filter is_request (host_wrote c w.deeds)) unsent)
    where
      no_requests : (a b : List (List ℕ)) → first_waiting a b ≡ None → b ≡ []
      no_requests (m ∷ ms) b none = absurd cc
      no_requests [] (m ∷ ms) none = absurd cc
      no_requests [] [] none = refl
