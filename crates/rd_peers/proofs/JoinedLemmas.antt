-- A client's session and a host are joined.
use Rattle.std.proofs.Common.{◌≡◌, ◌∙◌, ◌<◌, ◌==◌, ◌||◌, refl, sym, ap, subst, inl, inr, ℕ, Bool, true, false, List, [], ◌∷◌, ◌++◌, length, map, reverse, append_assoc, Option, Some, None, eqb-true}
use Rattle.std.specs.Prelude.{Contains, cond}
use Rattle.std.specs.List.{AllByRecursion, cons_option}
use Rattle.std.specs.Map.{lookup}
use Rattle.std.specs.Option.{option_map, option_map_or, unwrap_or}
use Rattle.std.specs.Ordering.{nat_cmp}
use Rattle.std.specs.BTreeMap.{is_at}
use Rattle.std.proofs.Math.Path.{fun_ext}
use Rattle.std.proofs.lemmas.List.{reverse-append}
use Rattle.rd_base.specs.declared.journal.Item.{Item}
use Rattle.rd_base.specs.declared.journal.Item.TheVariants.{Came, Cancelled, Cut, Ran, Sent}
use Rattle.rd_base.specs.declared.journal.Key.{Key}
use Rattle.rd_base.specs.History.{History}
use Rattle.rd_base.specs.Lawful.{IsLawful}
use Rattle.rd_carry.specs.declared.ended.Ended.{Ended}
use Rattle.rd_drive.specs.Replies.{KeyedReply, replies_by}
use Rattle.rd_front.specs.Calls.{FrontEntry}
use Rattle.rd_irp.specs.declared.completion.Reply.{Reply}
use Rattle.rd_irp.specs.declared.request.Request.{Request}
use Rattle.rd_served_sessions.proofs.JournalsDeclaredLemmas.{bounded_fit}
use Rattle.rd_served_sessions.proofs.JournalsReplyLemmas.{replies_grow, replies_once}
use Rattle.rd_served_sessions.specs.JournalsReads.{ComesRead}
use Rattle.rd_served_sessions.specs.JoinedJoined.{AreTied}
use Rattle.rd_served_sessions.proofs.JoinedTiedLemmas.{joined_with}
use Rattle.rd_served_sessions.proofs.RepliedMatchLemmas.{gives_same}
use Rattle.rd_printer.specs.Printer.{new_printer}
use Rattle.rd_script.specs.declared.line.NumberedLine.{NumberedLine}
use Rattle.rd_served_sessions.specs.ServedDevices.{ServedDeviceState, made}
use Rattle.rd_served_sessions.specs.ServedParts.{FrontPart}
use Rattle.rd_served_sessions.specs.ServedRepliesGiven.{all_handed, known_as, replies_known, replies_served}
use Rattle.rd_served_sessions.specs.Sessions.{AreServable, IsToldSession, device_states}
use Rattle.rd_sharing.specs.ServedOpening.{ServedDeclared, as_made}
use Rattle.rd_station.proofs.Calls.{reached_kept, reached_new}
use Rattle.rd_station.specs.Station.{new_station}
use Rattle.rd_workers.specs.Channels.{LinkerTold}
use Rattle.rd_deeds.proofs.Joined.{carried_now}
use Rattle.rd_deeds.proofs.Joining.{all_join}
use Rattle.rd_deeds.proofs.Lists.{each_weaker}
use Rattle.rd_world.specs.Control.{is_among}
use Rattle.rd_declared.specs.Devices.{Declared, device_cut, device_cuts, device_parked, device_runs, device_step}
use Rattle.rd_declared.specs.declared.device.SessionDevice.TheVariants as session
use Rattle.rd_deeds.specs.HostDeeds.{MayDo, side_of}
use Rattle.rd_deeds.specs.Joining.{AreJoined, IsCarried, Joins, Stands}
use Rattle.rd_declared.specs.Declaring.{bare_lines, declared_devices}
use Rattle.rd_declared.specs.Replies.{no_request, replies_read, request_read}
use Rattle.rd_world.specs.Session.{replies_in}
use Rattle.rd_deeds.specs.Talk.{AtEachPoint, Deed, EachAfter, adds, client_reads, client_writes, completes, host_begins, host_ends, host_reads, host_writes, journal, removes, request_at, stored_by, stores, submits, takes, tells}
use Rattle.rd_deeds.specs.Told.{Answers, AreAnswered, IsAnswerAt, IsReplied, Replies, worn_entries}
use Rattle.rd_peers.specs.Peers.{clients_part, made_devices}
use Rattle.rd_peers.proofs.PartLemmas.{all_answered, all_stand, same_journal, same_read}

-- ---- keys were read

comes_read : (before : List Deed) (d : Deed) → Stands before d → ComesRead before d
comes_read before (stores device (Came key)) (r, read, named, none) = (r, read, named)
comes_read before (stores device (Ran key moment starved parked)) is = tt
comes_read before (stores device (Cancelled key)) is = tt
comes_read before (stores device (Sent key)) is = tt
comes_read before (stores device (Cut cause)) is = tt
comes_read before (completes key message) is = tt
comes_read before (client_writes c m) is = tt
comes_read before (client_reads c m) is = tt
comes_read before (removes d) is = tt
comes_read before (adds d) is = tt
comes_read before (host_begins c) is = tt
comes_read before (host_ends c) is = tt
comes_read before (submits a t o) is = tt
comes_read before (takes n) is = tt
comes_read before (tells n) is = tt
comes_read before (host_writes c m) is = tt
comes_read before (host_reads c m) is = tt

-- ---- answers by other replies

-- what a beginning of each journal gives is the same by both
abbrev GiveSame : Replies → Replies → List Deed → Type 0
GiveSame replies others deeds = (device : ℕ) (earlier later : List Item) → reverse (journal device deeds) ≡ earlier ++ later → replies device earlier ≡ others device earlier

module _ (replies others : Replies) where
  replied_by : (device : ℕ) (key : Key) (r : Request) (reply : Reply) (before : List Deed) → GiveSame replies others before → IsReplied replies device key r reply before → IsReplied others device key r reply before
  replied_by device key r reply before same is = record {
    earlier = is.earlier;
    later = is.later;
    stands = is.stands;
    given = has_by is.earlier (Sent key ∷ is.later) is.stands is.given;
    cut = λ first last cause at not has.
        let stands : reverse (journal device before) ≡ first ++ (Cut cause ∷ last ++ Sent key ∷ is.later) =
        is.stands ∙ ap (λ (xs : List Item). xs ++ Sent key ∷ is.later) at ∙ append_assoc first (Cut cause ∷ last) (Sent key ∷ is.later) in
        is.cut first last cause at (λ had. not (has_by first (Cut cause ∷ last ++ Sent key ∷ is.later) stands had))
        (has_back (first ++ Cut cause ∷ []) (last ++ Sent key ∷ is.later) (stands ∙ sym (append_assoc first (Cut cause ∷ []) (last ++ Sent key ∷ is.later))) has);
  }
    where
      has_by : (earlier later : List Item) → reverse (journal device before) ≡ earlier ++ later → Contains (replies device earlier) (key, reply) → Contains (others device earlier) (key, reply)
      has_by earlier later at has = subst (λ (rs : List KeyedReply). Contains rs (key, reply)) (same device earlier later at) has

      has_back : (earlier later : List Item) → reverse (journal device before) ≡ earlier ++ later → Contains (others device earlier) (key, reply) → Contains (replies device earlier) (key, reply)
      has_back earlier later at has = subst (λ (rs : List KeyedReply). Contains rs (key, reply)) (sym (same device earlier later at)) has

  answer_by : (device : ℕ) (key : Key) (r : Request) (reply : Reply) (before : List Deed) → GiveSame replies others before → IsAnswerAt replies device key r reply before → IsAnswerAt others device key r reply before
  answer_by device key r reply before same (inl is) = inl (replied_by device key r reply before same is)
  answer_by device key r reply before same (inr other) = inr other

  answers_by : (before : List Deed) (d : Deed) → GiveSame replies others before → Answers replies before d → Answers others before d
  answers_by before (completes key message) same (r, reply, read, spells, is) = (r, reply, read, spells, answer_by r.device key r reply before same is)
  answers_by before (client_writes c m) same is = tt
  answers_by before (client_reads c m) same is = tt
  answers_by before (stores d x) same is = tt
  answers_by before (removes d) same is = tt
  answers_by before (adds d) same is = tt
  answers_by before (host_begins c) same is = tt
  answers_by before (host_ends c) same is = tt
  answers_by before (submits a t o) same is = tt
  answers_by before (takes n) same is = tt
  answers_by before (tells n) same is = tt
  answers_by before (host_writes c m) same is = tt
  answers_by before (host_reads c m) same is = tt

  -- what holds of all holds of those before
  same_before : (x : Deed) (before : List Deed) → GiveSame replies others (x ∷ before) → GiveSame replies others before
  same_before x before same device earlier later at = by (stored_by device x) refl
    where
      by : (o : Option Item) → stored_by device x ≡ o → replies device earlier ≡ others device earlier
      by None is = same device earlier later (ap (λ (o : Option Item). reverse (cons_option o (journal device before))) is ∙ at)
      by (Some item) is = same device earlier (later ++ item ∷ [])
          (ap (λ (o : Option Item). reverse (cons_option o (journal device before))) is ∙ (reverse-append (item ∷ []) (journal device before) ∙ (ap (λ (xs : List Item). xs ++ item ∷ []) at ∙ append_assoc earlier later (item ∷ []))))

  all_by : (deeds : List Deed) → GiveSame replies others deeds → EachAfter (Answers replies) deeds → EachAfter (Answers others) deeds
  all_by [] same all = tt
  all_by (d ∷ deeds) same all = let before = same_before d deeds same in (answers_by deeds d before all.0, all_by deeds before all.1)

-- ---- devices that a script makes up

-- how such a device begins
abbrev begins_made : Declared → ServedDeviceState
begins_made d = made d.state

found_made : (test : ℕ → Bool) (ds : List (ℕ × Declared)) → lookup test (device_states (map as_made ds)) ≡ option_map begins_made (lookup test ds)
found_made test [] = refl
found_made test (d ∷ ds) = by (test d.0) (found_made test ds)
  where
    by : (b : Bool) → lookup test (device_states (map as_made ds)) ≡ option_map begins_made (lookup test ds) → cond b (Some (made (d.1).state)) (lookup test (device_states (map as_made ds))) ≡ option_map begins_made (cond b (Some d.1) (lookup test ds))
    by true same = refl
    by false same = same

-- the replies of such a device are by its steps
by_steps : (calm : Bool) (requests : Key → Request) (handed : List KeyedReply) (items : List Item) (o : Option Declared)
    → option_map_or (λ (d : ServedDeviceState). replies_known requests handed (known_as calm d) items) (option_map begins_made o) []
    ≡ option_map_or (λ (d : Declared). replies_by device_step device_cut requests d.state items) o []
by_steps calm requests handed items None = refl
by_steps calm requests handed items (Some d) = refl

replies_made : (calm : Bool) (devices : List (ℕ × Declared)) (parts : List (List FrontPart)) (deeds : List Deed) → replies_served calm (device_states (map as_made devices)) parts deeds ≡ replies_read devices deeds
replies_made calm devices parts deeds = fun_ext (λ (device : ℕ). fun_ext (λ (items : List Item).
    ap (λ (o : Option ServedDeviceState). option_map_or (λ (d : ServedDeviceState). replies_known (request_read deeds) (all_handed device parts) (known_as calm d) items) o []) (found_made (is_at (nat_cmp device)) devices)
    ∙ by_steps calm (request_read deeds) (all_handed device parts) items (lookup (is_at (nat_cmp device)) devices)))

-- ---- all of it

module _ (devices : List (ℕ × Declared)) (deeds : List Deed) where
  -- the requests that the client read are those that it read among all deeds
  replies_whole : replies_read devices (clients_part deeds) ≡ replies_read devices deeds
  replies_whole = ap by_requests (fun_ext (λ (key : Key). ap (λ (ms : List (List ℕ)). unwrap_or (request_at ms key.index) no_request) (same_read key.channel deeds)))
    where
      by_requests : (Key → Request) → Replies
      by_requests requests device items = option_map_or (λ (d : Declared). replies_by device_step device_cut requests d.state items) (lookup (is_at (nat_cmp device)) devices) []

  told_whole : AreAnswered (replies_read devices (clients_part deeds)) (clients_part deeds) → AreAnswered (replies_read devices deeds) deeds
  told_whole told = subst (λ (replies : Replies). AreAnswered replies deeds) replies_whole (all_answered (replies_read devices (clients_part deeds)) deeds told)

  told_carried : IsCarried deeds → ((device : ℕ) → IsLawful (reverse (journal device deeds))) → EachAfter Stands deeds → AreAnswered (replies_read devices deeds) deeds → AreAnswered (replies_in devices deeds) deeds
  told_carried carried lawful stands told = record {
    sent_in_order = told.sent_in_order;
    direct_in_order = told.direct_in_order;
    answers = all_by (replies_read devices deeds) (replies_in devices deeds) deeds (gives_same devices deeds carried lawful (each_weaker Stands ComesRead comes_read deeds stands) [] deeds refl) told.answers;
    comes = told.comes;
  }

none_lawful : IsLawful []
none_lawful = (reached_kept device_runs device_parked device_cuts (new_station (session.Printer new_printer)) (reached_new device_runs device_parked device_cuts (session.Printer new_printer) refl)).lawful

-- the journal of a device that was declared is lawful, and of others there is none
among_lawful : (devices : List (ℕ × ServedDeclared)) (deeds : List Deed) (device : ℕ) → AllByRecursion (λ (d : ℕ × ServedDeclared). IsLawful (reverse (journal d.0 deeds))) devices
    → is_among (map (λ (d : ℕ × ServedDeclared). d.0) devices) device ≡ true → IsLawful (reverse (journal device deeds))
among_lawful [] deeds device all among = absurd (cc (among))
among_lawful (d ∷ devices) deeds device all among = by (d.0 == device) refl among (among_lawful devices deeds device all.1)
  where
    by : (b : Bool) → (d.0 == device) ≡ b → (b || is_among (map (λ (e : ℕ × ServedDeclared). e.0) devices) device) ≡ true → (is_among (map (λ (e : ℕ × ServedDeclared). e.0) devices) device ≡ true → IsLawful (reverse (journal device deeds)))
        → IsLawful (reverse (journal device deeds))
    by true same there later = subst (λ (n : ℕ). IsLawful (reverse (journal n deeds))) (eqb-true d.0 device same) all.0
    by false other there later = later there

lawful_at : (devices : List (ℕ × ServedDeclared)) (deeds : List Deed) → AllByRecursion (λ (d : ℕ × ServedDeclared). IsLawful (reverse (journal d.0 deeds))) devices
    → ((device : ℕ) → is_among (map (λ (d : ℕ × ServedDeclared). d.0) devices) device ≡ false → journal device deeds ≡ []) → (device : ℕ) → IsLawful (reverse (journal device deeds))
lawful_at devices deeds all none device = by (is_among (map (λ (d : ℕ × ServedDeclared). d.0) devices) device) refl
  where
    by : (b : Bool) → is_among (map (λ (d : ℕ × ServedDeclared). d.0) devices) device ≡ b → IsLawful (reverse (journal device deeds))
    by true among = among_lawful devices deeds device all among
    by false other = subst (λ (items : List Item). IsLawful (reverse items)) (sym (none device other)) none_lawful

pub client_joined : (calm : Bool) (lines : List NumberedLine) (channels : ℕ) (by : Ended) (entries : List FrontEntry) (books : List (ℕ × History)) (old new : LinkerTold) → AreServable lines
    → (told_session : IsToldSession calm (made_devices lines) lines channels by entries books old new) (client : ℕ) (deeds : List Deed) → clients_part deeds ≡ told_session.deeds
    → AtEachPoint IsCarried deeds → EachAfter (λ before deed. MayDo (side_of client before) deed) deeds → ((device : ℕ) → length (journal device deeds) < worn_entries)
    → let replies = replies_in (declared_devices (bare_lines lines)) deeds in AreJoined client replies deeds × Joins client replies deeds
client_joined calm lines channels by entries books old new servable told_session client deeds is carried host room =
    let devices = declared_devices (bare_lines lines) in
    let replies = replies_in devices deeds in
    let fit = bounded_fit lines servable.bounded in
    let stands : EachAfter Stands deeds = all_stand deeds (subst (EachAfter Stands) (sym is) told_session.stands) in
    let lawful : (device : ℕ) → IsLawful (reverse (journal device deeds)) = λ device.
    subst (λ (items : List Item). IsLawful (reverse items)) (same_journal device deeds) (subst (λ (ds : List Deed). IsLawful (reverse (journal device ds))) (sym is) (lawful_at (made_devices lines) told_session.deeds told_session.lawful told_session.own device)) in
    let told : AreAnswered (replies_read devices deeds) deeds = told_whole devices deeds (subst (λ (ds : List Deed). AreAnswered (replies_read devices ds) ds) (sym is)
    (subst (λ (given : Replies). AreAnswered given told_session.deeds) (replies_made calm devices told_session.parts told_session.deeds) told_session.told)) in
    let tied : AreTied client replies deeds = record {
      carried = carried;
      host = host;
      grows = λ device earlier more later same reply has. replies_grow devices deeds device earlier more reply has;
      once = λ device key reply other has has_other. replies_once devices deeds device (reverse (journal device deeds)) fit (lawful device) key other reply has_other has;
      stands = stands;
      lawful = lawful;
      unworn = room;
    } in
    let joined = joined_with client replies deeds tied (told_carried devices deeds (carried_now deeds carried) lawful stands told) in
    (joined, all_join client replies deeds joined)
