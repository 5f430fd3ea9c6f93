-- The requests that a host writes on a channel are those that were accepted there, in order.
use Rattle.std.proofs.Common.{◌≡◌, ◌∙◌, refl, sym, ap, subst, ℕ, ◌+◌, ◌<◌, ◌==◌, Bool, true, false, cond, List, [], ◌∷◌, ◌++◌, reverse, Some, None, Option, arith, append_assoc, eq-eqb, eqb-true}
use Rattle.std.specs.Prelude.{◌^◌, filter}
use Rattle.std.specs.List.{cons_option}
use Rattle.std.specs.Option.{unwrap_or}
use Rattle.std.proofs.lemmas.List.{reverse-append}
use Rattle.rd_irp.specs.declared.op.Op.{Op}
use Rattle.rd_irp.specs.Written.{request_bytes}
use Rattle.rd_irp.proofs.WrittenLemmas.{request_spelled}
use Rattle.rd_pending.specs.declared.calls.Target.{Target}
use Rattle.rd_pending.specs.History.{Call, accepted_in, accepted_of}
use Rattle.rd_pending.specs.Outcomes.{Accepted}
use Rattle.rd_pending.specs.Table as table
use Rattle.rd_pending.specs.Table.{TableState, accept, device_in, file_in, next_id}
use Rattle.rd_pending.proofs.Effects as effects
use Rattle.rd_pending.proofs.Effects.{Submits}
use Rattle.rd_pending.proofs.Histories.{sound}
use Rattle.rd_pending.proofs.Indices.{none_before}
use Rattle.rd_pending.proofs.MapLemmas.{free_within}
use Rattle.rd_pending.proofs.Sound.{Sound}
use Rattle.rd_pending.proofs.Tame.{Tame, newest, newest_more, tame_take}
use Rattle.rd_deeds.specs.Host.{HostSide, hears, next_message, side_sends}
use Rattle.rd_deeds.specs.HostDeeds.{IsInRange, calls_of, side_of}
use Rattle.rd_deeds.specs.Joining.{accepted, request_of_accepted}
use Rattle.rd_deeds.specs.Talk.{Deed, adds, client_reads, client_writes, completes, host_begins, host_ends, host_reads, host_writes, host_wrote, is_request, removes, request_in, stores, submits, takes, tells}
use Rattle.rd_deeds.proofs.Calls.{Does, calls_hold, read_tame, sent_same, table_of}
use Rattle.rd_deeds.proofs.Hearings.{AreQuiet, quiet}
use Rattle.rd_deeds.proofs.Messages.{request_is, request_read}

-- the message asks for what the accepted request is
abbrev pub Spells : Accepted → List ℕ → Type 0
Spells a m = request_in m ≡ Some (request_of_accepted a)

abbrev pub Matches : List Accepted → List (List ℕ) → Type 0
Matches [] [] = Unit {0}
Matches [] (m ∷ ms) = ⊥
Matches (a ∷ others) [] = ⊥
Matches (a ∷ others) (m ∷ ms) = Spells a m × Matches others ms

-- the requests that were written on a channel
abbrev pub requests_on : ℕ → List Deed → List (List ℕ)
requests_on c deeds = filter is_request (host_wrote c deeds)

-- of the requests that were accepted on a channel the first were written, and on the open channel the others are to be sent
pub record Written (t : TableState) (xs : List Accepted) (wrote : List (List ℕ)) (c : ℕ) : Type 0 where
  pub unsent : List (List ℕ)
  pub matches : Matches (newest c xs) (unsent ++ wrote)
  pub in_outbox : t.channel ≡ Some c → unsent ≡ reverse t.outbox

-- ---- lists

none_matched : (ms : List (List ℕ)) → Matches [] ms → ms ≡ []
none_matched [] p = refl
none_matched (m ∷ ms) p = absurd p

none_appended : (xs ys : List (List ℕ)) → xs ++ ys ≡ [] → (xs ≡ []) × (ys ≡ [])
none_appended [] ys e = (refl, e)
none_appended (x ∷ xs) ys e = absurd (cc e)

-- ---- what accepts no request and sends none

tamed : (t new : TableState) (xs ys : List Accepted) (wrote : List (List ℕ)) (c : ℕ) → Tame t new → ys ≡ xs → Written t xs wrote c → Written new ys wrote c
tamed t new xs ys wrote c tame same w = record {
  unsent = w.unsent;
  matches = subst (λ (zs : List Accepted). Matches (newest c zs) (w.unsent ++ wrote)) (sym same) w.matches;
  in_outbox = λ e. w.in_outbox (sym tame.channel ∙ e) ∙ ap reverse (sym tame.outbox);
}

-- ---- each deed

abbrev own_message : (t : TableState) (named : Target) (o : Op) → List ℕ
own_message t named o = request_bytes (record { device = device_in named; file = file_in named; completion = next_id t; op = o })

submitted : (t : TableState) (x : ℕ) (named : Target) (o : Op) (xs : List Accepted) (wrote : List (List ℕ)) (c : ℕ) → Submits t x named o → table.MaySubmit named o → IsInRange named o
    → Written t xs wrote c → Written (accept t named o) (xs ++ accepted_of t x named o ∷ []) wrote c
submitted t x named o xs wrote c effect may range w = go (own.channel == c) refl
  where
    own : Accepted
    own = accepted_of t x named o

    new : TableState
    new = accept t named o

    message : List ℕ
    message = own_message t named o

    own_channel : own.channel ≡ effect.channel
    own_channel = ap (λ (y : Option ℕ). unwrap_or y 0) effect.is_open

    small : next_id t < 2 ^ 32
    small = omega (arith, free_within 0 t.slots, effect.few)

    spelled : Spells own message
    spelled = request_read (request_of_accepted own) 0 message (request_spelled (request_of_accepted own) may.fits range.op range.device range.file small)

    there : (b : Bool) → (own.channel == c) ≡ b → newest c (xs ++ own ∷ []) ≡ cond b (own ∷ []) [] ++ newest c xs
    there b e = newest_more c xs own ∙ ap (λ (b : Bool). cond b (own ∷ []) [] ++ newest c xs) e

    go : (b : Bool) → (own.channel == c) ≡ b → Written new (xs ++ own ∷ []) wrote c
    go false e = record {
      unsent = w.unsent;
      matches = rw (there false e) w.matches;
      in_outbox = λ is. absurd (cc (e, eq-eqb own.channel c (own_channel ∙ (let same : effect.channel ≡ c = cc (effect.is_open, is) in same))));
    }
    go true e =
        let here : t.channel ≡ Some c = effect.is_open ∙ ap Some (sym own_channel ∙ eqb-true own.channel c e) in
        record {
          unsent = message ∷ w.unsent;
          matches = rw (there true e) (spelled, w.matches);
          in_outbox = λ is. ap (λ (ms : List (List ℕ)). message ∷ ms) (w.in_outbox here) ∙ sym (reverse-append t.outbox (message ∷ []));
        }

-- the first of what was matched is a request
first_request : (xs : List Accepted) (before : List (List ℕ)) (m : List ℕ) (ms : List (List ℕ)) → Matches xs (before ++ m ∷ ms) → is_request m ≡ true
first_request [] [] m ms p = absurd p
first_request [] (b ∷ bs) m ms p = absurd p
first_request (x ∷ xs) [] m ms p = request_is m (request_of_accepted x) p.0
first_request (x ∷ xs) (b ∷ bs) m ms p = first_request xs bs m ms p.1

wrote_one : (s : HostSide) (rs : List Accepted) (c channel : ℕ) (m : List ℕ) (wrote : List (List ℕ)) → AreQuiet ((s.core).core).outbox → (s.table).channel ≡ Some channel → next_message s ≡ Some m
    → Written s.table rs (filter is_request wrote) c → Written (side_sends s).table rs (filter is_request (cons_option (cond (channel == c) (Some m) None) wrote)) c
wrote_one s rs c channel m wrote quiet_core is_open_one next w = go ((s.core).core).outbox refl (channel == c) refl
  where
    at : (b : Bool) → is_request m ≡ b → filter is_request (m ∷ wrote) ≡ cond b (m ∷ filter is_request wrote) (filter is_request wrote)
    at b e = rw e refl

    go : (o : List (List ℕ)) → ((s.core).core).outbox ≡ o → (b : Bool) → (channel == c) ≡ b → Written (side_sends s).table rs (filter is_request (cons_option (cond b (Some m) None) wrote)) c
    -- one of the end's own
    go (x ∷ xs) e b e2 =
        let head : next_message s ≡ Some x = rw e refl in
        let own : x ≡ m = cc (head, next) in
        let silent : is_request m ≡ false = subst (λ (y : List ℕ). is_request y ≡ false) own (subst AreQuiet e quiet_core).0 in
        let same : (side_sends s).table ≡ s.table = rw e refl in
        subst (λ (t : TableState). Written t rs (filter is_request (cons_option (cond b (Some m) None) wrote)) c) (sym same) (by b silent)
      where
        by : (b : Bool) → is_request m ≡ false → Written s.table rs (filter is_request (cons_option (cond b (Some m) None) wrote)) c
        by true silent = subst (λ (ms : List (List ℕ)). Written s.table rs ms c) (sym (at false silent)) w
        by false silent = w
    -- one of the table's
    go [] e b e2 = by (s.table).outbox refl
      where
        by : (o : List (List ℕ)) → (s.table).outbox ≡ o → Written (side_sends s).table rs (filter is_request (cons_option (cond b (Some m) None) wrote)) c
        by [] e3 = let none : next_message s ≡ None = rw (e, e3) refl in absurd (cc (none, next))
        by (x ∷ xs) e3 =
            let head : next_message s ≡ Some x = rw (e, e3) refl in
            let own : x ≡ m = cc (head, next) in
            let new : (side_sends s).table ≡ record s.table { outbox = xs } = rw (e, e3) refl in
            subst (λ (t : TableState). Written t rs (filter is_request (cons_option (cond b (Some m) None) wrote)) c) (sym new) (here b e2 own)
          where
            here : (b : Bool) → (channel == c) ≡ b → x ≡ m → Written (record s.table { outbox = xs }) rs (filter is_request (cons_option (cond b (Some m) None) wrote)) c
            here false other own = record {
              unsent = w.unsent;
              matches = w.matches;
              in_outbox = λ is. absurd (cc (other, eq-eqb channel c (let same : channel ≡ c = cc (is_open_one, is) in same)));
            }
            here true same own =
                let is_c : (s.table).channel ≡ Some c = is_open_one ∙ ap Some (eqb-true channel c same) in
                let parts : w.unsent ++ filter is_request wrote ≡ reverse xs ++ m ∷ filter is_request wrote =
                ap (λ (ms : List (List ℕ)). ms ++ filter is_request wrote) (w.in_outbox is_c ∙ ap reverse e3 ∙ reverse-append (x ∷ []) xs ∙ ap (λ (y : List ℕ). reverse xs ++ y ∷ []) own)
                ∙ append_assoc (reverse xs) (m ∷ []) (filter is_request wrote) in
                let matched : Matches (newest c rs) (reverse xs ++ m ∷ filter is_request wrote) = subst (Matches (newest c rs)) parts w.matches in
                let asks : is_request m ≡ true = first_request (newest c rs) (reverse xs) m (filter is_request wrote) matched in
                subst (λ (ms : List (List ℕ)). Written (record s.table { outbox = xs }) rs ms c) (sym (at true asks)) (record {
                  unsent = reverse xs;
                  matches = matched;
                  in_outbox = λ is. refl;
                })

pub sound_side : (client : ℕ) (deeds : List Deed) → Does client deeds → Sound (side_of client deeds).table (calls_of client deeds)
sound_side client deeds may = subst (λ (t : TableState). Sound t (calls_of client deeds)) (table_of client deeds) (sound (calls_of client deeds) (calls_hold client deeds may))

began : (t : TableState) (h : List Call) (channel c : ℕ) (wrote : List (List ℕ)) → Sound t h → t.channel ≡ None → table.MayBegin t channel → Written t (accepted_in h) wrote c
    → Written (table.begin t channel).0 (accepted_in h) wrote c
began t h channel c wrote s closed above w = subst (λ (x : TableState). Written x (accepted_in h) wrote c) (sym is_new) (record {
  unsent = w.unsent;
  matches = w.matches;
  in_outbox = λ is. none (same is) ∙ sym (ap reverse (s.slots.closed closed).2);
})
  where
    is_new : (table.begin t channel).0 ≡ record t { channel = Some channel; below = channel + 1; asked = 0; begun = 0 }
    is_new = rw closed refl

    same : Some channel ≡ Some c → channel ≡ c
    same is = cc is

    none : channel ≡ c → w.unsent ≡ []
    none here =
        let fresh : newest c (accepted_in h) ≡ [] = none_before t h c s (omega (arith, above, here)) in
        let empty : w.unsent ++ wrote ≡ [] = none_matched (w.unsent ++ wrote) (subst (λ (xs : List Accepted). Matches xs (w.unsent ++ wrote)) fresh w.matches) in
        (none_appended w.unsent wrote empty).0

ended : (t : TableState) (xs : List Accepted) (c : ℕ) (wrote : List (List ℕ)) → Written t xs wrote c → Written (table.drop_channel t) xs wrote c
ended t xs c wrote w = record { unsent = w.unsent; matches = w.matches; in_outbox = λ is. absurd (cc is) }

pub written : (client : ℕ) (deeds : List Deed) → Does client deeds → (c : ℕ) → Written (side_of client deeds).table (accepted client deeds) (requests_on c deeds) c
written client [] may c = record { unsent = []; matches = tt; in_outbox = λ e. absurd (cc e) }
written client (host_begins channel ∷ before) may c =
    began (side_of client before).table (calls_of client before) channel c (requests_on c before) (sound_side client before may.1) may.0.0 may.0.1 (written client before may.1 c)
written client (host_ends channel ∷ before) may c = ended (side_of client before).table (accepted client before) c (requests_on c before) (written client before may.1 c)
written client (removes device ∷ before) may c = written client before may.1 c
written client (adds device ∷ before) may c = written client before may.1 c
written client (submits x named o ∷ before) may c =
    let t = (side_of client before).table in
    let effect = effects.submits t x named o may.0.2 in
    let own : accepted client (submits x named o ∷ before) ≡ accepted client before ++ accepted_of t x named o ∷ [] =
    ap (λ (y : TableState). accepted client before ++ accepted_of y x named o ∷ []) (table_of client before) in
    subst (λ (y : TableState). Written y (accepted client (submits x named o ∷ before)) (requests_on c before) c) (sym effect.new)
    (subst (λ (xs : List Accepted). Written (accept t named o) xs (requests_on c before) c) (sym own)
    (submitted t x named o (accepted client before) (requests_on c before) c effect may.0.0 may.0.1 (written client before may.1 c)))
written client (takes number ∷ before) may c =
    tamed (side_of client before).table (table.take (side_of client before).table number).0 (accepted client before) (accepted client before) (requests_on c before) c (tame_take (side_of client before).table number) refl (written client before may.1 c)
written client (tells n ∷ before) may c = written client before may.1 c
written client (host_writes channel message ∷ before) may c =
    let s = side_of client before in
    let same : accepted client (host_writes channel message ∷ before) ≡ accepted client before = sent_same ((s.core).core).outbox (calls_of client before) in
    subst (λ (xs : List Accepted). Written (side_sends s).table xs (requests_on c (host_writes channel message ∷ before)) c) (sym same)
    (wrote_one s (accepted client before) c channel message (host_wrote c before) (quiet client before) may.0.0 may.0.1 (written client before may.1 c))
written client (host_reads channel message ∷ before) may c =
    let tame = read_tame client channel message before in
    tamed (side_of client before).table (hears (side_of client before) message).table (accepted client before) (accepted client (host_reads channel message ∷ before)) (requests_on c before) c tame.0 tame.1 (written client before may.1 c)
written client (client_reads channel message ∷ before) may c = written client before may.1 c
written client (client_writes channel message ∷ before) may c = written client before may.1 c
written client (completes key message ∷ before) may c = written client before may.1 c
written client (stores device item ∷ before) may c = written client before may.1 c
