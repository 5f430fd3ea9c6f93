-- By each part of a front's history what a client reads and writes on each channel stays in order.
use Rattle.std.proofs.Common.{◌≡◌, ◌≢◌, ◌∙◌, refl, sym, ap, subst, inl, inr, ℕ, ◌<◌, ◌==◌, Bool, true, false, List, [], ◌∷◌, ◌++◌, reverse, Option, Some, None, arith, eq-eqb}
use Rattle.std.specs.Prelude.{Result, Ok, Err, if◌then◌else◌}
use Rattle.std.specs.declared.alloc.AllocError.{AllocError}
use Rattle.std.specs.List.{cons_option}
use Rattle.std.specs.Map.{lookup}
use Rattle.std.specs.Option.{IfSome, option_map_or}
use Rattle.std.specs.Ordering.{nat_cmp}
use Rattle.std.specs.BTreeMap.{is_at}
use Rattle.std.proofs.lemmas.Bool.{cases_eq}
use Rattle.rd_base.specs.declared.journal.Item.{Item}
use Rattle.rd_base.specs.declared.journal.Item.TheVariants.{Came}
use Rattle.rd_base.specs.declared.journal.Key.{Key}
use Rattle.rd_client.specs.Core as client
use Rattle.rd_client.specs.Core.{ClientCoreState, Outgoing, client_hear, client_side, has_device, may_be_asked, refresh}
use Rattle.rd_client.specs.declared.heard.Heard.{Heard}
use Rattle.rd_client.specs.Events.{AreWritable, client_call_moves}
use Rattle.rd_core.specs.Core as core
use Rattle.rd_core.proofs.KeptLemmas.{sent_fault}
use Rattle.rd_desk.specs.declared.calls.DeskCall.{DeskCall}
use Rattle.rd_desk.specs.declared.calls.DeskCall.TheVariants as desk
use Rattle.rd_desk.specs.declared.calls.DeskReply.{DeskReply}
use Rattle.rd_devices.specs.declared.list.Announce.{Announce}
use Rattle.rd_front.specs.Front.{begun, with_new_data}
use Rattle.rd_front.specs.State.{FrontState}
use Rattle.rd_front.specs.declared.calls.FrontCall.{FrontCall}
use Rattle.rd_front.specs.declared.calls.FrontReply.{FrontReply}
use Rattle.rd_hello.specs.Moves.{Move, reads, writes}
use Rattle.rd_hello.specs.declared.end_fault.EndFault.{EndFault}
use Rattle.rd_hello.specs.declared.end_fault.EndFault.TheVariants as fault
use Rattle.rd_served.specs.JournalsReads.{IsGiven}
use Rattle.rd_served.proofs.RunsSizeLemmas.{data_few}
use Rattle.rd_station.specs.declared.answers.Completion.{Completion}
use Rattle.rd_turn.specs.declared.object.Entry.{Entry}
use Rattle.rd_world.proofs.ClientLemmas.{refresh_elsewhere}
use Rattle.rd_world.proofs.ShortLemmas.{may_refresh}
use Rattle.rd_declared.specs.Devices.{PrinterNames, printer_data}
use Rattle.rd_world.specs.Events.{completion_message}
use Rattle.rd_declared.specs.Printers.{AreShortNames}
use Rattle.rd_deeds.specs.Talk.{Deed, Has, client_moves, client_reads, client_writes, completes, is_removed, journal, on, stores}
use Rattle.rd_served.specs.Deeds.{AreOnChannel, EachOnChannel, PartsOnChannel, deeds_after, deeds_of, deeds_of_calls, sent_by, stored, stored_each}
use Rattle.rd_served.specs.Histories.{HistoryGoes}
use Rattle.rd_served.specs.Parts.{CallsAt, FitsCall, FrontPart, PartGoes, PartsGo, asking_by, begins, calls, directs, ended_front, ends, forgets, keeps, learns, misplaces, refreshes, sends, tells_gone, tells_there, tries, unwritten, writes}
use Rattle.rd_served.specs.Parts as part
use Rattle.rd_served.specs.Served.{Asking, Served, asks, hands, idle}
use Rattle.rd_served.proofs.CauseLemmas.{other_id}
use Rattle.rd_served.proofs.KeyLemmas.{both_true, ended_is, has_at}
use Rattle.rd_served.proofs.StandingLemmas.{IsKnownAt, came_here, direct_under, ended_outbox, part_known, parts_known, sent_first, sent_none}
use Rattle.rd_served_order.specs.Orders.{AreMovesInOrder, BeginsWith, none_until, until_after, until_by, until_calls}
use Rattle.rd_served_order.proofs.HeadLemmas.{head_met}
use Rattle.rd_served_order.proofs.NowLemmas.{NowIn, begins_stand, completed_now, heard_now, now_are, owes_none, quiet_now, same_now, sent_now, wrong_now}
use Rattle.rd_served_order.proofs.OwnLemmas.{IsOwn, asked_never, each_keeps, hands_from, idle_never, named_one, never_by, part_own, stored_keeps}

abbrev outbox_of : Served → List Outgoing
outbox_of p = (((p.front).client).core).outbox

-- whether a device was gone when a channel began
abbrev pub Gone : (ℕ → List Deed) → ℕ → ℕ → Bool
Gone until x device = is_removed device (until x)

-- ---- what deeds are on a channel

pub same_number : (c : ℕ) → (c == c) ≡ true
same_number c = eq-eqb c c refl

pub other_number : (c x : ℕ) → x ≢ c → (c == x) ≡ false
other_number c x other = other_id c x (λ same. other (sym same))

pub moved_here : {A : Type 0} (c channel : ℕ) (m : A) (rest : List A) → channel ≡ c → cons_option (on c channel m) rest ≡ m ∷ rest
moved_here c channel m rest is = rw (ap (λ (n : ℕ). n == c) is ∙ same_number c) refl

pub moved_else : {A : Type 0} (c channel x : ℕ) (m : A) (rest : List A) → channel ≡ c → x ≢ c → cons_option (on x channel m) rest ≡ rest
moved_else c channel x m rest is other = rw (ap (λ (n : ℕ). n == x) is ∙ other_number c x other) refl

kept_moves : (x e : ℕ) (item : Item) (deeds : List Deed) → client_moves x (stores e item ∷ deeds) ≡ client_moves x deeds
kept_moves x e item deeds = refl

did_fault : (answer : Result (Unit {0}) AllocError) (done c d : ClientCoreState) → core.Did answer done c d → (done.core).fault ≡ (c.core).fault → (d.core).fault ≡ (c.core).fault
did_fault (Ok u) done c d did same = ap (λ (x : ClientCoreState). (x.core).fault) did ∙ same
did_fault (Err error) done c d did same = ap (λ (x : ClientCoreState). (x.core).fault) did

send_fault : (c d : ClientCoreState) (o : Option Outgoing) → client.client_send c ≡ (d, o) → (d.core).fault ≡ (c.core).fault
send_fault c d o made = ap (λ (r : ClientCoreState × Option Outgoing). ((r.0).core).fault) (sym made) ∙ sent_fault c.core (c.core).outbox

-- ---- the order, up to a point of a history

module _ (devices : List Announce) where
  abbrev NowAt : (ℕ → List Deed) → List Deed → ℕ → ClientCoreState → Asking → Type 0
  NowAt until deeds n c a = NowIn devices (Gone until n) (client_moves n deeds) c a

  -- What a client read and wrote on each channel is in order, and nothing on later ones than the last; while that is on, the client stands where its moves lead, and else it has nothing to write.
  pub record IsOrdered (p : Served) (deeds : List Deed) (until : ℕ → List Deed) : Type 0 where
    pub later : (x : ℕ) → (p.front).channel < x → client_moves x deeds ≡ []
    pub orders : (x : ℕ) → AreMovesInOrder devices (Gone until x) (client_moves x deeds)
    pub now : (p.front).on ≡ true → NowAt until deeds (p.front).channel (p.front).client p.asking
    pub off : (p.front).on ≡ false → outbox_of p ≡ []

  -- nothing is read or written
  quiet : (p q : Served) (deeds more : List Deed) (until : ℕ → List Deed) → ((x : ℕ) → client_moves x more ≡ client_moves x deeds) → (q.front).channel ≡ (p.front).channel → ((q.front).on ≡ true → (p.front).on ≡ true)
      → ((q.front).on ≡ false → outbox_of q ≡ [])
      → ((q.front).on ≡ true → (moves : List Move) → NowIn devices (Gone until (p.front).channel) moves (p.front).client p.asking → NowIn devices (Gone until (p.front).channel) moves (q.front).client q.asking)
      → IsOrdered p deeds until → IsOrdered q more until
  quiet p q deeds more until same channel was off go is = record {
    later = λ x above. same x ∙ is.later x (subst (λ (n : ℕ). n < x) channel above);
    orders = λ x. subst (AreMovesInOrder devices (Gone until x)) (sym (same x)) (is.orders x);
    now = λ on.
        subst (λ (n : ℕ). NowAt until more n (q.front).client q.asking) (sym channel)
        (subst (λ (ms : List Move). NowIn devices (Gone until (p.front).channel) ms (q.front).client q.asking) (sym (same (p.front).channel)) (go on (client_moves (p.front).channel deeds) (is.now (was on))));
    off = off;
  }

  -- something is
  loud : (p q : Served) (deeds more : List Deed) (until : ℕ → List Deed) (m : Move) → client_moves (p.front).channel more ≡ m ∷ client_moves (p.front).channel deeds
      → ((x : ℕ) → x ≢ (p.front).channel → client_moves x more ≡ client_moves x deeds) → (q.front).channel ≡ (p.front).channel → (p.front).on ≡ true → (q.front).on ≡ true
      → ((moves : List Move) → NowIn devices (Gone until (p.front).channel) moves (p.front).client p.asking → NowIn devices (Gone until (p.front).channel) (m ∷ moves) (q.front).client q.asking)
      → IsOrdered p deeds until → IsOrdered q more until
  loud p q deeds more until m here elsewhere channel on still go is = record {
    later = λ x above. let low = subst (λ (n : ℕ). n < x) channel above in elsewhere x (λ same. omega (arith, low, same)) ∙ is.later x low;
    orders = λ x. elim (cases_eq x (p.front).channel) [
      | inl same ↦ subst (λ (n : ℕ). AreMovesInOrder devices (Gone until n) (client_moves n more)) (sym same) (now_are devices (Gone until (p.front).channel) (client_moves (p.front).channel more) (q.front).client q.asking next)
      | inr other ↦ subst (AreMovesInOrder devices (Gone until x)) (sym (elsewhere x other)) (is.orders x)
    ];
    now = λ now. subst (λ (n : ℕ). NowAt until more n (q.front).client q.asking) (sym channel) next;
    off = λ off. absurd (cc (off, still));
  }
    where
      next : NowAt until more (p.front).channel (q.front).client q.asking
      next = subst (λ (ms : List Move). NowIn devices (Gone until (p.front).channel) ms (q.front).client q.asking) (sym here) (go (client_moves (p.front).channel deeds) (is.now on))

  -- parts that leave the client
  light : (p q : Served) (deeds : List Deed) (until : ℕ → List Deed) → (q.front).client ≡ (p.front).client → (q.front).channel ≡ (p.front).channel → (q.front).on ≡ (p.front).on
      → ((device : ℕ) (x : Completion) → q.asking ≡ hands device x → p.asking ≡ hands device x) → IsOrdered p deeds until → IsOrdered q deeds until
  light p q deeds until same channel on handing is =
      quiet p q deeds deeds until (λ x. refl) channel (λ now. sym on ∙ now) (λ off. ap (λ (c : ClientCoreState). (c.core).outbox) same ∙ is.off (sym on ∙ off))
      (λ now moves n. same_now devices (Gone until (p.front).channel) moves (p.front).client (q.front).client p.asking q.asking same handing n) is

  -- a message is read
  heard_ordered : (p q : Served) (channel : ℕ) (m : List ℕ) (answer : Result Heard EndFault) (deeds : List Deed) (until : ℕ → List Deed) → PartGoes p (part.hears channel m answer) q → IsOrdered p deeds until
      → IsOrdered q (deeds_of (part.hears channel m answer) ++ deeds) until
  heard_ordered p q channel m answer deeds until goes is = by answer (goes.3).0 goes.4
    where
      on_before : (p.front).on ≡ true
      on_before = (both_true (p.front).on _ goes.2).0

      still : (q.front).on ≡ (p.front).on
      still = ap (λ (s : FrontState). s.on) (goes.3).1

      same_channel : (q.front).channel ≡ (p.front).channel
      same_channel = ap (λ (s : FrontState). s.channel) (goes.3).1

      read : ((moves : List Move) → NowIn devices (Gone until (p.front).channel) moves (p.front).client p.asking → NowIn devices (Gone until (p.front).channel) (reads m ∷ moves) (q.front).client q.asking)
          → IsOrdered q (client_reads channel m ∷ deeds) until
      read go =
          loud p q deeds (client_reads channel m ∷ deeds) until (reads m) (moved_here (p.front).channel channel (reads m) (client_moves (p.front).channel deeds) goes.0)
          (λ x other. moved_else (p.front).channel channel x (reads m) (client_moves x deeds) goes.0 other) same_channel on_before (still ∙ on_before) go is

      by : (a : Result Heard EndFault) → client.ClientStep (p.front).client (client.hears m a) (q.front).client → q.asking ≡ asking_by a → IsOrdered q (deeds_of (part.hears channel m a) ++ deeds) until
      by (Err fault.Memory) step asked =
          quiet p q deeds deeds until (λ x. refl) same_channel (λ now. sym still ∙ now) (λ off. absurd (let on = still ∙ on_before in cc (on, off)))
          (λ now moves n. same_now devices (Gone until (p.front).channel) moves (p.front).client (q.front).client p.asking q.asking (step.1).1 (λ d x e. absurd (never_by q.asking idle asked idle_never d x e)) n) is
      by (Err (fault.Order state packet)) step asked =
          read (λ moves n. wrong_now devices (Gone until (p.front).channel) moves (p.front).client (q.front).client p.asking q.asking m (fault.Order state packet) refl step step.1 (never_by q.asking idle asked idle_never) n)
      by (Err (fault.Grammar bad)) step asked =
          read (λ moves n. wrong_now devices (Gone until (p.front).channel) moves (p.front).client (q.front).client p.asking q.asking m (fault.Grammar bad) refl step step.1 (never_by q.asking idle asked idle_never) n)
      by (Ok h) step asked =
          read (λ moves n. heard_now devices (Gone until (p.front).channel) moves (p.front).client (q.front).client p.asking q.asking m h step step.1 (never_by q.asking (asking_by (Ok h)) asked (asked_never (Ok h))) n)

  -- a desk is called
  called_ordered : (p q : Served) (place id : ℕ) (does : DeskCall) (back : DeskReply) (items : List Item) (deeds : List Deed) (until : ℕ → List Deed) → CallsAt p place id does back items q
      → IsOrdered p deeds until → IsOrdered q (stored id items ++ deeds) until
  called_ordered p q place id does back items deeds until at is =
      quiet p q deeds (stored id items ++ deeds) until (λ x. stored_keeps (client_moves x) (kept_moves x) id (reverse items) deeds) (ap (λ (s : FrontState). s.channel) at.front_is) (λ now. sym still ∙ now)
      (λ off. ap (λ (s : FrontState). ((s.client).core).outbox) at.front_is ∙ is.off (sym still ∙ off))
      (λ now moves n. subst (λ (c : ClientCoreState). NowIn devices (Gone until (p.front).channel) moves c q.asking) (sym (ap (λ (s : FrontState). s.client) at.front_is)) (record {
        kept = n.kept;
        now = n.now;
        right = n.right;
        clear = λ device x e. elim (hands_from p place id does back q.asking at.asking_is device x e) [
          | inl was ↦ n.clear device x was
          | inr here ↦ owes_none devices (Gone until (p.front).channel) moves (p.front).client p.asking n (empty here.0)
        ];
      })) is
    where
      still : (q.front).on ≡ (p.front).on
      still = ap (λ (s : FrontState). s.on) at.front_is

      empty : does ≡ desk.Collect → outbox_of p ≡ []
      empty collects = subst (FitsCall p id) collects at.fits

  -- the core does something by which nothing is read or written
  did_ordered : (p q : Served) (deeds more : List Deed) (until : ℕ → List Deed) (call : client.ClientCall) (unsent : ℕ) → ((x : ℕ) → client_moves x more ≡ client_moves x deeds) → (client_call_moves call ≡ []) × client.KeepsClientChannel call → client.ClientStep (p.front).client call (q.front).client
      → q.front ≡ record p.front { client = (q.front).client; unsent = unsent } → (p.front).on ≡ true → (((q.front).client).core).fault ≡ (((p.front).client).core).fault
      → ((device : ℕ) (x : Completion) → q.asking ≡ hands device x → p.asking ≡ hands device x) → IsOrdered p deeds until → IsOrdered q more until
  did_ordered p q deeds more until call unsent same silent step front on_before wrongs handing is =
      quiet p q deeds more until same (ap (λ (s : FrontState). s.channel) front) (λ now. on_before) (λ off. absurd (let now = ap (λ (s : FrontState). s.on) front ∙ on_before in cc (now, off)))
      (λ now moves n. quiet_now devices (Gone until (p.front).channel) moves (p.front).client (q.front).client p.asking q.asking call silent.0 silent.1 step wrongs handing n) is

  -- the core's first message is written
  sends_ordered : (p q : Served) (channel : ℕ) (o : Outgoing) (deeds : List Deed) (until : ℕ → List Deed) → PartGoes p (sends channel (Some o)) q → AreOnChannel (p.front).channel (sent_by channel o.message o.answers) → IsOrdered p deeds until
      → IsOrdered q (sent_by channel o.message o.answers ++ deeds) until
  sends_ordered p q channel o deeds until goes here is = by o.answers here
    where
      still : (q.front).on ≡ (p.front).on
      still = ap (λ (s : FrontState). s.on) (goes.1).1

      on_of : (b : Bool) → (p.front).on ≡ b → (p.front).on ≡ true
      on_of true e = e
      on_of false e =
          let (others, first, after) = sent_first (p.front).client (q.front).client o (goes.1).0 in
          let none = is.off e in absurd (let both : o ∷ others ≡ [] = sym first ∙ none in cc (both))

      on_before : (p.front).on ≡ true
      on_before = on_of (p.front).on refl

      go : (moves : List Move) → NowIn devices (Gone until (p.front).channel) moves (p.front).client p.asking → NowIn devices (Gone until (p.front).channel) (writes o.message ∷ moves) (q.front).client q.asking
      go moves n =
          sent_now devices (Gone until (p.front).channel) moves (p.front).client (q.front).client p.asking q.asking o (goes.1).0 (send_fault (p.front).client (q.front).client (Some o) (goes.1).0) (λ device x e. sym goes.2 ∙ e) n

      by : (answers : Option Key) → AreOnChannel (p.front).channel (sent_by channel o.message answers) → IsOrdered q (sent_by channel o.message answers ++ deeds) until
      by None there =
          loud p q deeds (client_writes channel o.message ∷ deeds) until (writes o.message) (moved_here (p.front).channel channel (writes o.message) (client_moves (p.front).channel deeds) there.0)
          (λ x other. moved_else (p.front).channel channel x (writes o.message) (client_moves x deeds) there.0 other) (ap (λ (s : FrontState). s.channel) (goes.1).1) on_before (still ∙ on_before) go is
      by (Some key) there =
          loud p q deeds (completes key o.message ∷ deeds) until (writes o.message) (moved_here (p.front).channel key.channel (writes o.message) (client_moves (p.front).channel deeds) there.0)
          (λ x other. moved_else (p.front).channel key.channel x (writes o.message) (client_moves x deeds) there.0 other) (ap (λ (s : FrontState). s.channel) (goes.1).1) on_before (still ∙ on_before) go is

  -- a completion is written that a desk handed out
  writes_ordered : (p : Served) (device : ℕ) (c : Completion) (deeds : List Deed) (until : ℕ → List Deed) → p.asking ≡ hands device c → (c.key).channel ≡ (p.front).channel → IsKnownAt p deeds → IsOwn devices p deeds → IsOrdered p deeds until
      → IsOrdered (record p { asking = idle }) (completes c.key (completion_message device c) ∷ deeds) until
  writes_ordered p device c deeds until asking here known own is =
      loud p (record p { asking = idle }) deeds (completes c.key (completion_message device c) ∷ deeds) until (writes (completion_message device c))
      (moved_here (p.front).channel (c.key).channel (writes (completion_message device c)) (client_moves (p.front).channel deeds) here)
      (λ x other. moved_else (p.front).channel (c.key).channel x (writes (completion_message device c)) (client_moves x deeds) here other) refl now now
      (λ moves n. completed_now devices (Gone until (p.front).channel) moves (p.front).client p.asking idle device c (completion_message device c) asking may (head_met device c) idle_never n) is
    where
      now : (p.front).on ≡ true
      now = own.handing device c asking

      some : IsGiven (p.front).channel ((p.front).client).asked c.key → 0 < ((p.front).client).asked
      some (inl less) = absurd (omega (arith, here, less))
      some (inr given) = let low = given.1 in omega (arith, low)

      may : may_be_asked (((p.front).client).core).shake ≡ true
      may =
          let came : Has (Came c.key) (journal device deeds) = (known.standing.handing device c asking).1 in
          let (place, s, at, names) = came_here p deeds known.told known.standing device c.key came in
          own.asked now (some (known.keyed.named s (has_at p.stations place s at) c.key names))

  -- a printer's data changes
  refreshes_ordered : (p : Served) (device : ℕ) (deeds : List Deed) (until : ℕ → List Deed) → IsOwn devices p deeds → IsOrdered p deeds until → IsOrdered (record p { front = with_new_data p.front device }) deeds until
  refreshes_ordered p device deeds until own is = by (lookup (is_at (nat_cmp device)) (p.front).printers) (named_one device (p.front).printers own.names)
    where
      at : (names : PrinterNames) → AreShortNames names → (b : Bool) → has_device ((p.front).client) device ≡ b → (moves : List Move) → NowIn devices (Gone until (p.front).channel) moves (p.front).client p.asking
          → NowIn devices (Gone until (p.front).channel) moves (refresh (p.front).client device (printer_data (p.front).cache names)) p.asking
      at names short true has moves n =
          quiet_now devices (Gone until (p.front).channel) moves (p.front).client (refresh (p.front).client device (printer_data (p.front).cache names)) p.asking p.asking
          (client.refreshes device (printer_data (p.front).cache names)) refl tt
          (may_refresh (p.front).client device (printer_data (p.front).cache names) own.fine.fits.short own.fine.fits.kept.devices.apart (data_few (p.front).cache names short) has, refl) refl (λ d x e. e) n
      at names short false none moves n =
          same_now devices (Gone until (p.front).channel) moves (p.front).client (refresh (p.front).client device (printer_data (p.front).cache names)) p.asking p.asking
          (refresh_elsewhere (p.front).client device (printer_data (p.front).cache names) none) (λ d x e. e) n

      by : (o : Option PrinterNames) → IfSome o AreShortNames
          → IsOrdered (record p { front = option_map_or (λ (names : PrinterNames). record p.front { client = client.refresh (p.front).client device (printer_data (p.front).cache names) }) o p.front }) deeds until
      by None short = is
      by (Some names) short =
          quiet p (record p { front = record p.front { client = client.refresh (p.front).client device (printer_data (p.front).cache names) } }) deeds deeds until (λ x. refl) refl (λ now. now) is.off
          (λ now moves n. at names short (has_device (p.front).client device) refl moves n) is

  -- a channel begins
  begins_ordered : (p : Served) (channel : ℕ) (deeds : List Deed) (until : ℕ → List Deed) → p.asking ≡ idle → (p.front).channel < channel → client.AreDevices (client.announces (p.front).client) → AreWritable devices → IsOwn devices p deeds → IsOrdered p deeds until
      → IsOrdered (record p { front = begun p.front channel }) deeds (until_by (begins channel) deeds until)
  begins_ordered p channel deeds until none above are writable own is = record {
    later = λ x higher. is.later x (omega (arith, above, higher));
    orders = λ x. elim (cases_eq x channel) [
      | inl same ↦ record { kept = []; order = refl; all = inl (sym (is.later x (omega (arith, above, same)))) }
      | inr other ↦ subst (λ (b : Bool). AreMovesInOrder devices (λ device. is_removed device (if b then deeds else until x)) (client_moves x deeds)) (sym (other_number channel x other)) (is.orders x)
    ];
    now = λ on. subst (λ (b : Bool). NowIn devices (λ device. is_removed device (if b then deeds else until channel)) (client_moves channel deeds) (client.client_begin (p.front).client channel) p.asking) (sym (same_number channel)) begun_now;
    off = λ off. refl;
  }
    where
      begun_now : NowIn devices (λ device. is_removed device deeds) (client_moves channel deeds) (client.client_begin (p.front).client channel) p.asking
      begun_now = record {
        kept = [];
        now = begins_stand devices (λ device. is_removed device deeds) (p.front).client channel own.fine.marks own.fine.same are writable;
        right = sym (is.later channel above);
        clear = λ device x e. absurd (never_by p.asking idle none idle_never device x e);
      }

  -- ---- each part

  pub part_ordered : AreWritable devices → (p q : Served) (x : FrontPart) (deeds : List Deed) (until : ℕ → List Deed) → PartGoes p x q → AreOnChannel (p.front).channel (deeds_of x) → IsKnownAt p deeds → IsOwn devices p deeds → IsOrdered p deeds until
      → IsOrdered q (deeds_of x ++ deeds) (until_by x deeds until)
  part_ordered writable p q (part.hears channel m answer) deeds until goes here known own is = heard_ordered p q channel m answer deeds until goes is
  part_ordered writable p q tries deeds until goes here known own is =
      light p q deeds until (ap (λ (s : Served). (s.front).client) goes.4) (ap (λ (s : Served). (s.front).channel) goes.4) (ap (λ (s : Served). (s.front).on) goes.4)
      (λ d x e. absurd (never_by q.asking (asks goes.0) (ap (λ (s : Served). s.asking) goes.4) (λ f y g. cc (g)) d x e)) is
  part_ordered writable p q keeps deeds until goes here known own is =
      light p q deeds until (ap (λ (s : Served). (s.front).client) goes.3) (ap (λ (s : Served). (s.front).channel) goes.3) (ap (λ (s : Served). (s.front).on) goes.3)
      (λ d x e. absurd (never_by q.asking idle (ap (λ (s : Served). s.asking) goes.3) idle_never d x e)) is
  part_ordered writable p q forgets deeds until goes here known own is =
      light p q deeds until (ap (λ (s : Served). (s.front).client) goes.4) (ap (λ (s : Served). (s.front).channel) goes.4) (ap (λ (s : Served). (s.front).on) goes.4)
      (λ d x e. absurd (never_by q.asking idle (ap (λ (s : Served). s.asking) goes.4) idle_never d x e)) is
  part_ordered writable p q misplaces deeds until goes here known own is =
      light p q deeds until (ap (λ (s : Served). (s.front).client) goes.3) (ap (λ (s : Served). (s.front).channel) goes.3) (ap (λ (s : Served). (s.front).on) goes.3)
      (λ d x e. absurd (never_by q.asking idle (ap (λ (s : Served). s.asking) goes.3) idle_never d x e)) is
  part_ordered writable p q (directs st answer) deeds until goes here known own is =
      did_ordered p q deeds deeds until (client.directs (goes.0).job (goes.0).device st answer) _ (λ x. refl) (refl, tt) (goes.2).0 (goes.2).1 (known.keyed.asking goes.0 (direct_under p goes.0 st goes.1)).on
      (did_fault answer (client.direct (p.front).client (goes.0).job (goes.0).device st) (p.front).client (q.front).client ((goes.2).0).1 refl) (λ d x e. absurd (never_by q.asking idle goes.3 idle_never d x e)) is
  part_ordered writable p q (calls place id does back items) deeds until goes here known own is = called_ordered p q place id does back items deeds until goes is
  part_ordered writable p q (tells_gone device (Ok done)) deeds until goes here known own is =
      did_ordered p q deeds (deeds_of (tells_gone device (Ok done)) ++ deeds) until (client.tells_removed device (Ok done)) _ (λ x. refl) (refl, tt) (goes.0).0 (goes.0).1 goes.3
      (did_fault (Ok done) (client.tell_removed (p.front).client device) (p.front).client (q.front).client ((goes.0).0).1 refl) (λ d x e. sym goes.1 ∙ e) is
  part_ordered writable p q (tells_gone device (Err error)) deeds until goes here known own is =
      did_ordered p q deeds deeds until (client.tells_removed device (Err error)) _ (λ x. refl) (refl, tt) (goes.0).0 (goes.0).1 goes.3
      (did_fault (Err error) (client.tell_removed (p.front).client device) (p.front).client (q.front).client ((goes.0).0).1 refl) (λ d x e. sym goes.1 ∙ e) is
  part_ordered writable p q (tells_there device (Ok done)) deeds until goes here known own is =
      did_ordered p q deeds (deeds_of (tells_there device (Ok done)) ++ deeds) until (client.tells_added device (Ok done)) _ (λ x. refl) (refl, tt) (goes.0).0 (goes.0).1 goes.3
      (did_fault (Ok done) (client.tell_added (p.front).client device) (p.front).client (q.front).client ((goes.0).0).1 refl) (λ d x e. sym goes.1 ∙ e) is
  part_ordered writable p q (tells_there device (Err error)) deeds until goes here known own is =
      did_ordered p q deeds deeds until (client.tells_added device (Err error)) _ (λ x. refl) (refl, tt) (goes.0).0 (goes.0).1 goes.3
      (did_fault (Err error) (client.tell_added (p.front).client device) (p.front).client (q.front).client ((goes.0).0).1 refl) (λ d x e. sym goes.1 ∙ e) is
  part_ordered writable p q (sends channel None) deeds until goes here known own is =
      quiet p q deeds deeds until (λ x. refl) (ap (λ (s : FrontState). s.channel) (goes.1).1) (λ now. sym (ap (λ (s : FrontState). s.on) (goes.1).1) ∙ now)
      (λ off. sent_none (p.front).client (q.front).client (goes.1).0 ∙ is.off (sym (ap (λ (s : FrontState). s.on) (goes.1).1) ∙ off))
      (λ now moves n. quiet_now devices (Gone until (p.front).channel) moves (p.front).client (q.front).client p.asking q.asking (client.sends None) refl tt (goes.1).0
      (send_fault (p.front).client (q.front).client None (goes.1).0) (λ d x e. sym goes.2 ∙ e) n) is
  part_ordered writable p q (sends channel (Some o)) deeds until goes here known own is = sends_ordered p q channel o deeds until goes here is
  part_ordered writable p q (writes device c) deeds until goes here known own is =
      subst (λ (s : Served). IsOrdered s (completes c.key (completion_message device c) ∷ deeds) until) (sym goes.1) (writes_ordered p device c deeds until goes.0 here.0 known own is)
  part_ordered writable p q (unwritten device c) deeds until goes here known own is =
      light p q deeds until (ap (λ (s : Served). (s.front).client) goes.1) (ap (λ (s : Served). (s.front).channel) goes.1) (ap (λ (s : Served). (s.front).on) goes.1)
      (λ d x e. absurd (never_by q.asking idle (ap (λ (s : Served). s.asking) goes.1) idle_never d x e)) is
  part_ordered writable p q (learns n answer) deeds until goes here known own is =
      light p q deeds until (ap (λ (s : Served). (s.front).client) goes.1) (ap (λ (s : Served). (s.front).channel) goes.1) (ap (λ (s : Served). (s.front).on) goes.1)
      (λ d x e. sym (ap (λ (s : Served). s.asking) goes.1) ∙ e) is
  part_ordered writable p q (refreshes device) deeds until goes here known own is =
      subst (λ (s : Served). IsOrdered s deeds until) (sym goes) (refreshes_ordered p device deeds until own is)
  part_ordered writable p q (begins channel) deeds until goes here known own is =
      subst (λ (s : Served). IsOrdered s deeds (until_by (begins channel) deeds until)) (sym goes.3) (begins_ordered p channel deeds until goes.0 goes.2 own.fine.fits.kept.devices writable own is)
  part_ordered writable p q (ends over told) deeds until goes here known own is =
      let state = ended_is over p.front (q.front).desks in
      let off : (q.front).on ≡ false = ap (λ (s : FrontState). s.on) goes.2 ∙ state.0 in
      quiet p q deeds (stored_each told ++ deeds) until (λ x. each_keeps (client_moves x) (kept_moves x) told deeds) (ap (λ (s : FrontState). s.channel) goes.2 ∙ state.1) (λ now. absurd (cc (off, now)))
      (λ same. ap (λ (s : FrontState). ((s.client).core).outbox) goes.2 ∙ ended_outbox over p.front (q.front).desks)
      (λ now moves n. absurd (cc (off, now))) is

  pub parts_ordered : AreWritable devices → (ps : List FrontPart) (p q : Served) (goes : PartsGo p ps q) (deeds : List Deed) (until : ℕ → List Deed) → PartsOnChannel p ps q goes → IsKnownAt p deeds → IsOwn devices p deeds → IsOrdered p deeds until
      → IsOwn devices q (deeds_after ps deeds) × IsOrdered q (deeds_after ps deeds) (until_after ps deeds until)
  parts_ordered writable [] p q goes deeds until here known own is = (subst (λ (s : Served). IsOwn devices s deeds) (sym goes) own, subst (λ (s : Served). IsOrdered s deeds until) (sym goes) is)
  parts_ordered writable (x ∷ ps) p q goes deeds until here known own is =
      parts_ordered writable ps goes.0 q goes.2 (deeds_of x ++ deeds) (until_by x deeds until) here.1 (part_known p goes.0 x deeds goes.1 known) (part_own devices p goes.0 x deeds goes.1 known.keyed own)
      (part_ordered writable p goes.0 x deeds until goes.1 here.0 known own is)

  pub history_ordered : AreWritable devices → (entries : List (Entry FrontCall FrontReply)) (parts : List (List FrontPart)) (p q : Served) (goes : HistoryGoes p entries parts q) (deeds : List Deed) (until : ℕ → List Deed)
      → EachOnChannel p entries parts q goes → IsKnownAt p deeds → IsOwn devices p deeds → IsOrdered p deeds until → IsOrdered q (deeds_of_calls parts deeds) (until_calls parts deeds until)
  history_ordered writable [] [] p q goes deeds until here known own is = subst (λ (s : Served). IsOrdered s deeds until) (sym goes) is
  history_ordered writable [] (ps ∷ parts) p q goes deeds until here known own is = absurd goes
  history_ordered writable (e ∷ entries) [] p q goes deeds until here known own is = absurd goes
  history_ordered writable (e ∷ entries) (ps ∷ parts) p q goes deeds until here known own is =
      let after = parts_ordered writable ps p goes.0 (goes.1).goes deeds until here.0 known own is in
      history_ordered writable entries parts goes.0 q goes.2 (deeds_after ps deeds) (until_after ps deeds until) here.1 (parts_known ps p goes.0 deeds (goes.1).goes known) after.0 after.1

  pub begins_order : (p : Served) → BeginsWith devices p → IsOrdered p [] none_until
  begins_order p start = record {
    later = λ x above. refl;
    orders = λ x. record { kept = []; order = refl; all = inl refl };
    now = λ on. absurd (let off = start.new.new.off in cc (off, on));
    off = λ off. start.new.new.nothing;
  }
