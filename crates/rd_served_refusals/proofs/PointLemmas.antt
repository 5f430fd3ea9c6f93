-- What is known at a point of a history of what waits and of what was passed over, and what each kind of change leaves of it.
use Rattle.std.proofs.Common.{◌≡◌, ◌∙◌, refl, sym, ap, subst, inl, inr, ℕ, ◌<◌, ◌^◌, ◌==◌, ◌&&◌, Bool, true, false, cond, eq-eqb, eqb-true, append-nil, List, [], ◌∷◌, ◌++◌, Option, Some, None}
use Rattle.std.specs.Prelude.{All, filter, length}
use Rattle.std.specs.List.{cons_option}
use Rattle.std.specs.Option.{option_map_or}
use Rattle.std.proofs.lemmas.List.Elements.{All-cons, All-nil}
use Rattle.rd_base.specs.declared.journal.Item.TheVariants.{Came}
use Rattle.rd_base.specs.declared.journal.Key.{Key}
use Rattle.rd_client.specs.Core.{Outgoing}
use Rattle.rd_hello.specs.declared.end_fault.EndFault.{EndFault}
use Rattle.rd_irp.specs.declared.request.Request.{Request}
use Rattle.rd_served.specs.JournalsJobs.{AreFine}
use Rattle.rd_served.proofs.RunsInsides.{AreOwn, IsOwn}
use Rattle.rd_station.proofs.Members.{has_append}
use Rattle.rd_world.specs.Events.{deed_on}
use Rattle.rd_deeds.specs.Talk.{Deed, Has, client_read, client_reads, client_writes, completes, is_request, journal, request_at, request_in}
use Rattle.rd_deeds.specs.Told.{IsLeft, came, is_of_device, requests_to, told, told_at, without_last}
use Rattle.rd_world.specs.World.{Kept}
use Rattle.rd_directs.proofs.TurnLemmas.{turns_asks, turns_direct, turns_other, turns_own, turns_said, turns_wrong}
use Rattle.rd_directs.specs.Turns.{Turns, never, said}
use Rattle.rd_served.specs.Deeds.{sent_by}
use Rattle.rd_served_refusals.proofs.LineLemmas.{Follows, Heeds, Past, heeds_grown, heeds_own, heeds_sent, heeds_written, once_before, once_told, own_read, past_other, past_own, past_plain, past_read, past_written, turns_begun, turns_ended, turns_kept_came, turns_lost, turns_sent, turns_shut, turns_written}
use Rattle.rd_served_refusals.specs.Heeding.{AreDirectInOrder, NamesInRoom, PassesNone, once_written}

-- What is looked at: the job that is under way or kept back, what is to be written, and the channel that began last.
pub record Point : Type 0 where
  pub kept : Option Kept
  pub outbox : List Outgoing
  pub on : Bool
  pub channel : ℕ

-- the channel on which requests are read
abbrev pub read_on : Bool → Bool → ℕ → Option ℕ
read_on stopped on channel = cond stopped None (cond on (Some channel) None)

abbrev pub HasRoom : Request → Type 0
HasRoom r = r.device < 2 ^ 32

-- Requests that never came are in line; what is to be written answers requests of the channel; and none was passed over but the last, on this channel and on those before.
pub record Lines (stopped : Bool) (x : Point) (deeds : List Deed) : Type 0 where
  pub fine : AreFine HasRoom deeds
  pub turns : Turns x.kept x.outbox deeds None (read_on stopped x.on x.channel)
  pub out : (o : Outgoing) → Has o x.outbox → (key : Key) → o.answers ≡ Some key → (key.channel ≡ x.channel) × (x.on ≡ true)
  pub heeds : x.on ≡ true → Heeds x.channel x.outbox deeds
  pub past : (c : ℕ) → (c ≡ x.channel → x.on ≡ false) → Past c deeds

-- ---- requests that were read

-- nothing was read
fine_same : (more deeds : List Deed) → ((c : ℕ) → client_read c more ≡ client_read c deeds) → AreFine HasRoom deeds → AreFine HasRoom more
fine_same more deeds same is c k r read = is c k r (ap (λ (ms : List (List ℕ)). request_at ms k) (sym (same c)) ∙ read)

fine_read : (channel : ℕ) (m : List ℕ) (deeds : List Deed) → NamesInRoom m → AreFine HasRoom deeds → AreFine HasRoom (client_reads channel m ∷ deeds)
fine_read channel m deeds room is c k r read = by (channel == c) read
  where
    at : (b : Bool) → cond b (request_in m) (request_at (client_read c deeds) k) ≡ Some r → HasRoom r
    at true e = room r e
    at false e = is c k r e

    by : (b : Bool) → request_at (cons_option (cond b (Some m) None) (client_read c deeds)) k ≡ Some r → HasRoom r
    by false e = is c k r e
    by true e = at (is_request m && length (filter is_request (client_read c deeds)) == k) e

-- ---- each change

pub lines_own : (s : Bool) (x : Point) (deeds : List Deed) (y : Deed) → IsOwn y → Lines s x deeds → Lines s x (y ∷ deeds)
lines_own s x deeds y own is = record {
  fine = fine_same (y ∷ deeds) deeds (λ c. own_read c y deeds own) is.fine;
  turns = turns_own deeds y own is.turns;
  out = is.out;
  heeds = λ on. heeds_own x.channel x.outbox deeds y own (is.heeds on);
  past = λ c other. past_own c deeds y own (is.past c other);
}

pub lines_owns : (s : Bool) (x : Point) (more deeds : List Deed) → AreOwn more → Lines s x deeds → Lines s x (more ++ deeds)
lines_owns s x [] deeds own is = is
lines_owns s x (y ∷ more) deeds own is = lines_own s x (more ++ deeds) y own.0 (lines_owns s x more deeds own.1 is)

-- more is to be written, which answers nothing
pub lines_said : (s : Bool) (x : Point) (deeds : List Deed) (more : List Outgoing) → ((o : Outgoing) → Has o more → o.answers ≡ None) → Lines s x deeds → Lines s (record x { outbox = x.outbox ++ more }) deeds
lines_said s x deeds more none is = record {
  fine = is.fine;
  turns = turns_said (x.outbox ++ more) more refl none is.turns;
  out = λ o has key answers. elim (has_append o x.outbox more has) [ inl before ↦ is.out o before key answers | inr later ↦ absurd (let e = none o later in cc (e, answers)) ];
  heeds = λ on. heeds_grown x.channel x.outbox more deeds (is.heeds on);
  past = is.past;
}

-- a job is answered directly
pub lines_direct : (s : Bool) (x : Point) (deeds : List Deed) (k : Kept) (m : List ℕ) → x.kept ≡ Some k → k.job.key.channel ≡ x.channel → x.on ≡ true → ((q : ℕ) → is_of_device q m ≡ (k.device == q)) → Lines s x deeds
    → Lines s (record x { kept = None; outbox = x.outbox ++ record { message = m; answers = Some k.job.key } ∷ [] }) deeds
lines_direct s x deeds k m kept channel on of is = record {
  fine = is.fine;
  turns = turns_direct k m of (subst (λ (a : Option Kept). Turns a x.outbox deeds None (read_on s x.on x.channel)) kept is.turns);
  out = λ o has key answers. elim (has_append o x.outbox (own ∷ []) has) [
    | inl before ↦ is.out o before key answers
    | inr last ↦ elim last [
      | inl same ↦
          let both : Some k.job.key ≡ Some key = sym (ap (λ (y : Outgoing). y.answers) same) ∙ answers in
          let equal : k.job.key ≡ key = cc (both) in
          (ap (λ (l : Key). l.channel) (sym equal) ∙ channel, on)
      | inr none ↦ absurd none
    ]
  ];
  heeds = λ is_on. heeds_grown x.channel x.outbox (own ∷ []) deeds (is.heeds is_on);
  past = is.past;
}
  where
    own : Outgoing
    own = record { message = m; answers = Some k.job.key }

-- it is given up
pub lines_lost : (s : Bool) (x : Point) (deeds : List Deed) → Lines s x deeds → Lines true (record x { kept = None }) deeds
lines_lost s x deeds is = record { fine = is.fine; turns = turns_lost is.turns; out = is.out; heeds = is.heeds; past = is.past }

-- nothing more is heard
pub lines_stopped : (s : Bool) (x : Point) (deeds : List Deed) → Lines s x deeds → Lines true x deeds
lines_stopped s x deeds is = record { fine = is.fine; turns = turns_shut is.turns; out = is.out; heeds = is.heeds; past = is.past }

-- it came
pub lines_came : (s : Bool) (x : Point) (deeds : List Deed) (k : Kept) → x.kept ≡ Some k → Has (Came k.job.key) (journal k.device deeds) → Lines s x deeds → Lines s (record x { kept = None }) deeds
lines_came s x deeds k kept has is = record {
  fine = is.fine;
  turns = turns_kept_came k has (subst (λ (a : Option Kept). Turns a x.outbox deeds None (read_on s x.on x.channel)) kept is.turns);
  out = is.out;
  heeds = is.heeds;
  past = is.past;
}

-- the first message is written
pub lines_sent : (s : Bool) (x : Point) (deeds : List Deed) (channel : ℕ) (o : Outgoing) (os : List Outgoing) → x.outbox ≡ o ∷ os → Lines s x deeds → Lines s (record x { outbox = os }) (sent_by channel o.message o.answers ++ deeds)
lines_sent s x deeds channel o os first is = record {
  fine = fine_same (sent_by channel o.message o.answers ++ deeds) deeds (unread o.answers) is.fine;
  turns = turns_sent channel o os (subst (λ (ys : List Outgoing). Turns x.kept ys deeds None (read_on s x.on x.channel)) first is.turns);
  out = λ y has. is.out y (subst (Has y) (sym first) (inr has));
  heeds = λ on. heeds_sent x.channel channel o os deeds (subst (λ (ys : List Outgoing). Heeds x.channel ys deeds) first (is.heeds on));
  past = λ c other. gone c other o.answers refl;
}
  where
    unread : (a : Option Key) (c : ℕ) → client_read c (sent_by channel o.message a ++ deeds) ≡ client_read c deeds
    unread None c = refl
    unread (Some key) c = refl

    gone : (c : ℕ) → (c ≡ x.channel → x.on ≡ false) → (a : Option Key) → o.answers ≡ a → Past c (sent_by channel o.message a ++ deeds)
    gone c other None e = past_plain c channel deeds o.message (is.past c other)
    gone c other (Some key) e = past_other c deeds key o.message (λ same.
        let here = is.out o (subst (Has o) (sym first) (inl refl)) key e in
        let off = other (sym same ∙ here.0) in
        let on = here.1 in
        cc (off, on)) (is.past c other)

-- a completion is written of a key that came
pub lines_written : (s : Bool) (x : Point) (deeds : List Deed) (key : Key) (m : List ℕ) → ((c d n : ℕ) → told_at c d (completes key m) ≡ Some n → came c (journal d deeds) n ≡ true) → Lines s x deeds → Lines s x (completes key m ∷ deeds)
lines_written s x deeds key m there is = record {
  fine = is.fine;
  turns = turns_written key m there is.turns;
  out = is.out;
  heeds = λ on. heeds_written x.channel x.outbox deeds key m (λ d n. there x.channel d n) (is.heeds on);
  past = λ c other. past_written c deeds key m (λ d n. there c d n) (is.past c other);
}

-- ---- a message is read

own_reads : (c : ℕ) (m : List ℕ) (deeds : List Deed) → client_read c (client_reads c m ∷ deeds) ≡ m ∷ client_read c deeds
own_reads c m deeds = ap (λ (b : Bool). cons_option (cond b (Some m) None) (client_read c deeds)) (eq-eqb c c refl)

module _ (s : Bool) (x : Point) (deeds : List Deed) (m : List ℕ) (room : NamesInRoom m) (kept : x.kept ≡ None) (on : x.on ≡ true) (is : Lines s x deeds) where
  abbrev more : List Deed
  more = client_reads x.channel m ∷ deeds

  past_more : (c : ℕ) → (c ≡ x.channel → x.on ≡ false) → Past c (client_reads x.channel m ∷ deeds)
  past_more c other = past_read c x.channel deeds m (by (x.channel == c) refl) (is.past c other)
    where
      by : (b : Bool) → (x.channel == c) ≡ b → cons_option (cond b (Some m) None) (client_read c deeds) ≡ client_read c deeds
      by true e = absurd (let off = other (sym (eqb-true x.channel c e)) in cc (off, on))
      by false e = refl

  free : Turns None x.outbox deeds None (read_on s x.on x.channel)
  free = subst (λ (a : Option Kept). Turns a x.outbox deeds None (read_on s x.on x.channel)) kept is.turns

  -- all requests that never came are in line
  none_passed : s ≡ false → (d : ℕ) → Follows x.channel d deeds (said x.channel d x.outbox (told x.channel d deeds)) (requests_to d (client_read x.channel deeds))
  none_passed going d =
      let t = free.at x.channel d in
      let none = t.all refl (λ i. cond (going i) None (cond (on i) (Some x.channel) None)) in
      ([], sym (t.stands ∙ ap (λ (zs : List ℕ). zs ++ never x.channel (journal d deeds) (said x.channel d x.outbox (told x.channel d deeds))) none))

  -- by whether it is a request
  heeds_more : s ≡ false → Heeds x.channel x.outbox (client_reads x.channel m ∷ deeds)
  heeds_more going d =
      subst (λ (ms : List (List ℕ)). Follows x.channel d deeds (said x.channel d x.outbox (told x.channel d deeds)) (requests_to d (without_last ms))) (sym (own_reads x.channel m deeds)) (by (is_request m))
    where
      by : (b : Bool) → Follows x.channel d deeds (said x.channel d x.outbox (told x.channel d deeds)) (requests_to d (cond b (client_read x.channel deeds) (without_last (client_read x.channel deeds))))
      by true = none_passed going d
      by false = is.heeds on d

  pub lines_other : s ≡ false → is_request m ≡ false → Lines s x (client_reads x.channel m ∷ deeds)
  lines_other going other = record {
    fine = fine_read x.channel m deeds room is.fine;
    turns = subst (λ (a : Option Kept). Turns a x.outbox more None (read_on s x.on x.channel)) (sym kept) (turns_other x.channel m free other);
    out = is.out;
    heeds = λ is_on. heeds_more going;
    past = past_more;
  }

  pub lines_wrong : s ≡ false → EndFault → Lines true x (client_reads x.channel m ∷ deeds)
  lines_wrong going cause = record {
    fine = fine_read x.channel m deeds room is.fine;
    turns = subst (λ (a : Option Kept). Turns a x.outbox more None None) (sym kept) (turns_shut (turns_wrong x.channel m free (Some cause) (λ none. cc (none))));
    out = is.out;
    heeds = λ is_on. heeds_more going;
    past = past_more;
  }

  pub lines_asks : s ≡ false → (k : Kept) (r : Request) → is_request m ≡ true → request_in m ≡ Some r → k.device ≡ r.device → k.job.key.channel ≡ x.channel → length (filter is_request (client_read x.channel deeds)) ≡ k.job.key.index
      → Lines s (record x { kept = Some k }) (client_reads x.channel m ∷ deeds)
  lines_asks going k r one spelled device channel counted = record {
    fine = fine_read x.channel m deeds room is.fine;
    turns = turns_asks x.channel m free k r refl (λ i. cond (going i) None (cond (on i) (Some x.channel) None)) one spelled device channel counted;
    out = is.out;
    heeds = λ is_on. heeds_more going;
    past = past_more;
  }

-- ---- channels

pub lines_begun : (s : Bool) (x : Point) (deeds : List Deed) (channel : ℕ) → x.kept ≡ None → x.on ≡ false → client_read channel deeds ≡ [] → Lines s x deeds → Lines false (record { kept = None; outbox = []; on = true; channel = channel }) deeds
lines_begun s x deeds channel kept off unread is = record {
  fine = is.fine;
  turns = turns_begun channel unread (subst (λ (a : Option Kept). Turns a x.outbox deeds None (read_on s x.on x.channel)) kept is.turns);
  out = λ o none. absurd none;
  heeds = λ on d. (
    never channel (journal d deeds) (told channel d deeds),
    sym (append-nil (never channel (journal d deeds) (told channel d deeds)))
        ∙ ap (λ (zs : List ℕ). never channel (journal d deeds) (told channel d deeds) ++ zs) (sym (ap (λ (ms : List (List ℕ)). never channel (journal d deeds) (requests_to d (without_last ms))) unread)),
  );
  past = λ c other. is.past c (λ same. off);
}

pub lines_ended : (s : Bool) (x : Point) (deeds : List Deed) → (x.on ≡ true → Past x.channel deeds) → Lines s x deeds → Lines s (record { kept = None; outbox = []; on = false; channel = x.channel }) deeds
lines_ended s x deeds passed is = record {
  fine = is.fine;
  turns = by s (turns_ended is.turns);
  out = λ o none. absurd none;
  heeds = λ on. absurd (cc (on));
  past = λ c other. gone c (c == x.channel) refl x.on refl;
}
  where
    by : (t : Bool) → Turns None [] deeds None None → Turns None [] deeds None (read_on t false x.channel)
    by true so = so
    by false so = so

    gone : (c : ℕ) (a : Bool) → (c == x.channel) ≡ a → (b : Bool) → x.on ≡ b → Past c deeds
    gone c true e true on = subst (λ (n : ℕ). Past n deeds) (sym (eqb-true c x.channel e)) (passed on)
    gone c true e false off = is.past c (λ same. off)
    gone c false e b on = is.past c (λ same. absurd (let t = eq-eqb c x.channel same in cc (t, e)))

-- ---- what is passed over

left_all : (c : ℕ) (os : List Outgoing) → ((o : Outgoing) → Has o os → (key : Key) → o.answers ≡ Some key → key.channel ≡ c) → (before : List Deed) → All (IsLeft c) before → All (IsLeft c) (once_written c os before)
left_all c [] own before all = all
left_all c (o ∷ os) own before all =
    left_all c os (λ x has. own x (inr has)) (deed_on c o ∷ before) (All-cons (IsLeft c) (deed_on c o) before (by o.answers (λ key same. own o (inl refl) key same)) all)
  where
    by : (a : Option Key) → ((key : Key) → a ≡ Some key → key.channel ≡ c) → IsLeft c (option_map_or (λ key. completes key o.message) a (client_writes c o.message))
    by None here = refl
    by (Some key) here = here key refl

pub passes_now : (s : Bool) (x : Point) (deeds : List Deed) → x.on ≡ true → Lines s x deeds → PassesNone x.channel deeds (once_written x.channel x.outbox [])
passes_now s x deeds on is = record {
  left = left_all x.channel x.outbox (λ o has key answers. (is.out o has key answers).0) [] (All-nil (IsLeft x.channel));
  each = λ d.
      subst (λ (t : List ℕ). Follows x.channel d deeds t (requests_to d (without_last (client_read x.channel deeds))))
      (sym (ap (told x.channel d) (sym (once_before x.channel x.outbox [] deeds)) ∙ once_told x.channel d x.outbox deeds)) (is.heeds on d);
}

-- of each channel
pub passes_each : (s : Bool) (x : Point) (deeds : List Deed) → Lines s x deeds → (c : ℕ) → Past c deeds
passes_each s x deeds is c = by (c == x.channel) refl x.on refl
  where
    by : (a : Bool) → (c == x.channel) ≡ a → (b : Bool) → x.on ≡ b → Past c deeds
    by true e true on = subst (λ (n : ℕ). Past n deeds) (sym (eqb-true c x.channel e)) (once_written x.channel x.outbox [], passes_now s x deeds on is)
    by true e false off = is.past c (λ same. off)
    by false e b on = is.past c (λ same. absurd (let t = eq-eqb c x.channel same in cc (t, e)))

-- direct answers are in the order of reading
pub in_order : (s : Bool) (x : Point) (deeds : List Deed) → Lines s x deeds → AreDirectInOrder deeds
in_order s x deeds is c d = let t = (turns_ended is.turns).at c d in (t.others, t.stands)
