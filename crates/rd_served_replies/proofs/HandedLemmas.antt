-- What a desk hands out is of its key's request, and its reply is the one that the journal gives, or one that was handed out.
use Rattle.std.proofs.Common.{◌≡◌, ◌⊎◌, ◌∙◌, refl, sym, ap, subst, inl, inr, ℕ, Bool, true, List, [], ◌∷◌, ◌++◌, reverse, append_assoc, Option, Some, None}
use Rattle.std.specs.Prelude.{Contains, slice_get}
use Rattle.std.specs.List.{AllByRecursion, cons_option}
use Rattle.std.specs.Map.{lookup}
use Rattle.std.specs.Option.{option_map_or}
use Rattle.std.specs.Ordering.{nat_cmp}
use Rattle.std.specs.BTreeMap.{is_at}
use Rattle.std.proofs.lemmas.List.{reverse-append, reverse-reverse}
use Rattle.std.proofs.lemmas.List.Elements.{All-contains}
use Rattle.rd_base.specs.declared.journal.Item.{Item}
use Rattle.rd_base.specs.declared.journal.Item.TheVariants.{Cancelled, Sent}
use Rattle.rd_base.specs.declared.journal.Key.{Key}
use Rattle.rd_desk.specs.Desk.{told_by, told_calls}
use Rattle.rd_desk.specs.declared.calls.DeskCall.{DeskCall}
use Rattle.rd_desk.specs.declared.calls.DeskCall.TheVariants as desk
use Rattle.rd_desk.specs.declared.calls.DeskReply.{DeskReply}
use Rattle.rd_desk.specs.declared.calls.DeskReply.TheVariants as replied
use Rattle.rd_drive.specs.Replies.{IsAnswer, KeyedReply, cancellation, replies_by}
use Rattle.rd_front.specs.State.{SessionDeskStep, SessionStation}
use Rattle.rd_irp.specs.declared.completion.Reply.{Reply}
use Rattle.rd_refused.specs.JournalsJobs.{IsJobOf}
use Rattle.rd_refused.proofs.JournalsWorkLemmas.{Grown, grown_more}
use Rattle.rd_refused.specs.RepliedReplied.{IsGivenBy}
use Rattle.rd_station.specs.Station.{new_station}
use Rattle.rd_station.specs.declared.answers.Completion.{Completion}
use Rattle.rd_station.proofs.Members.{from_contains, has_left, has_right, to_contains}
use Rattle.rd_turn.specs.declared.object.Entry.{Entry}
use Rattle.rd_turn.specs.History.{Leads}
use Rattle.rd_declared.specs.Devices.{device_cut, device_step}
use Rattle.rd_declared.specs.Replies.{request_read}
use Rattle.rd_deeds.specs.Talk.{Deed, Has, journal, stored_by}
use Rattle.rd_deeds.specs.Told.{Replies}
use Rattle.rd_declared.specs.declared.device.SessionDevice.{SessionDevice}
use Rattle.rd_served.specs.Deeds.{stored}
use Rattle.rd_served.specs.Parts.{CallsAt, FrontPart}
use Rattle.rd_served.specs.Served.{Served}
use Rattle.rd_served.specs.ServedDevices.{ServedDeviceState}
use Rattle.rd_served.proofs.CauseLemmas.{AnyRequest, IsTold, tied_then, to_turned}
use Rattle.rd_served.proofs.KeyLemmas.{IsKeyed}
use Rattle.rd_served.proofs.StandingLemmas.{collected_ready}
use Rattle.rd_served_replies.specs.Given.{HadNoFault, HadNoFaults, all_handed, known_as, replies_known, replies_served}
use Rattle.rd_served_replies.specs.Premises.{GiveOwn, GivesOwn}
use Rattle.rd_served_replies.proofs.BeginLemmas.{IsOneOf}
use Rattle.rd_served_replies.proofs.FollowLemmas.{IsFollowed, after_at, gave_middle, middle_leads, middle_puts, set_here}
use Rattle.rd_served_replies.proofs.GivenLemmas.{PutOf}
use Rattle.rd_served_replies.proofs.KnownLemmas.{known_calm, known_plays, steps_fault}
use Rattle.rd_served_replies.proofs.LedLemmas.{IsRequestOf, led_by, led_request, led_tied}

abbrev Of : Type 0
Of = SessionStation

pub journal_parts : (d : ℕ) (late before : List Deed) → journal d (late ++ before) ≡ journal d late ++ journal d before
journal_parts d [] before = refl
journal_parts d (y ∷ late) before = by (stored_by d y) (journal_parts d late before)
  where
    by : (o : Option Item) → journal d (late ++ before) ≡ journal d late ++ journal d before → cons_option o (journal d (late ++ before)) ≡ cons_option o (journal d late) ++ journal d before
    by None is = is
    by (Some x) is = ap (λ (xs : List Item). x ∷ xs) is

pub record IsHanded (replies : Replies) (deeds : List Deed) (device : ℕ) (c : Completion) : Type 0 where
  pub of : IsRequestOf deeds device c
  pub given : IsGivenBy replies device c.key c.reply deeds ⊎ (Has (Cancelled c.key) (journal device deeds) × (c.reply ≡ cancellation))

given_more : (replies : Replies) (device : ℕ) (key : Key) (reply : Reply) (more deeds : List Deed) → IsGivenBy replies device key reply deeds → IsGivenBy replies device key reply (more ++ deeds)
given_more replies device key reply more deeds is = record {
  earlier = is.earlier;
  later = is.later ++ reverse (journal device more);
  stands = ap reverse (journal_parts device more deeds) ∙ reverse-append (journal device more) (journal device deeds) ∙ ap (λ (xs : List Item). xs ++ reverse (journal device more)) is.stands
      ∙ append_assoc is.earlier (Sent key ∷ is.later) (reverse (journal device more));
  given = is.given;
}

pub handed_more : (replies : Replies) (more deeds : List Deed) (device : ℕ) (c : Completion) → IsHanded replies deeds device c → IsHanded replies (more ++ deeds) device c
handed_more replies more deeds device c is = record {
  of = let k = is.of in record { request = k.request; read = grown_more more deeds c.key.channel c.key.index k.request k.read; device_is = k.device_is; id = k.id; layout = k.layout };
  given = elim is.given [
    | inl given ↦ inl (given_more replies device c.key c.reply more deeds given)
    | inr (cancelled, same) ↦ inr (subst (Has (Cancelled c.key)) (sym (journal_parts device more deeds)) (has_right (Cancelled c.key) (journal device more) (journal device deeds) cancelled), same)
  ];
}

-- the replies of one of these devices
pub replies_of_one : (calm : Bool) (devices : List (ℕ × ServedDeviceState)) (all : List (List FrontPart)) (final : List Deed) (device : ℕ) (x : ServedDeviceState) (known : Option SessionDevice) → lookup (is_at (nat_cmp device)) devices ≡ Some x → known_as calm x ≡ known
    → (items : List Item) → replies_served calm devices all final device items ≡ replies_known (request_read final) (all_handed device all) known items
replies_of_one calm devices all final device x known found is items =
    ap (λ (o : Option ServedDeviceState). option_map_or (λ (y : ServedDeviceState). replies_known (request_read final) (all_handed device all) (known_as calm y) items) o []) found
    ∙ ap (λ (o : Option SessionDevice). replies_known (request_read final) (all_handed device all) o items) is

-- What is collected of a desk.
module _ (calm : Bool) (devices : List (ℕ × ServedDeviceState)) (all : List (List FrontPart)) (final : List Deed)
    (p q : Served) (place id : ℕ) (c : Completion) (items : List Item) (deeds : List Deed) (keyed : IsKeyed p) (told : IsTold p deeds) (follows : IsFollowed (IsOneOf devices) p deeds)
    (at : CallsAt p place id desk.Collect (replied.Collected (Some c)) items q) (gives : GiveOwn (q.front).desks) (grown : Grown (stored id items ++ deeds) final)
    (none : calm ≡ true → HadNoFaults q.stations) (among : Has (c.key, c.reply) (all_handed id all)) where
  abbrev middle : Of
  middle = (at.called).middle

  abbrev entries : List (Entry DeskCall DeskReply)
  entries = ((at.before).pass).seen ++ ((at.called).sees).others

  before_grown : Grown deeds final
  before_grown = λ channel index r read. grown channel index r (grown_more (stored id items) deeds channel index r read)

  leads_so : (x : ServedDeviceState) → ((at.before).turn).opening ≡ new_station x → Leads SessionDeskStep (new_station x) entries middle
  leads_so x opens_so = subst (λ (o : Of). Leads SessionDeskStep o entries middle) opens_so
      (middle_leads at.before at.after at.first at.last desk.Collect (replied.Collected (Some c)) items at.called (follows.stationed place at.before at.first (at.there, at.has)))

  gives_so : GivesOwn entries
  gives_so = gave_middle at.before at.after at.first at.last desk.Collect (replied.Collected (Some c)) items at.called (gives place at.after (after_at p q place id desk.Collect (replied.Collected (Some c)) items at))

  puts_so : AllByRecursion (PutOf (IsJobOf AnyRequest deeds (at.before).id)) (told_calls entries)
  puts_so = middle_puts at.before at.after at.first at.last desk.Collect (replied.Collected (Some c)) items at.called (IsJobOf AnyRequest deeds (at.before).id) (follows.puts place at.before at.there)

  -- no fault was counted by then
  calm_so : calm ≡ true → HadNoFault middle.device
  calm_so said = steps_fault (told_by desk.Collect (replied.Collected (Some c))) middle at.last ((at.called).step).0
      (none said place at.last (ap (λ (ss : List Of). slice_get ss place) at.stations_are ∙ set_here p.stations place at.first at.last at.has))

  step : Has c middle.ready × ((((at.called).step).0).0.journal ≡ middle.journal ++ Sent c.key ∷ [])
  step = collected_ready middle (((at.called).step).0).0 c (((at.called).step).0).1

  last_is : (at.last).journal ≡ middle.journal ++ Sent c.key ∷ []
  last_is = ap (λ (s : Of). s.journal) (((at.called).step).0).2 ∙ step.1

  journal_is : reverse (journal id (stored id items ++ deeds)) ≡ middle.journal ++ Sent c.key ∷ []
  journal_is = ap reverse (tied_then p q place id desk.Collect (replied.Collected (Some c)) items deeds keyed told at) ∙ reverse-reverse (at.last).journal ∙ last_is

  turned_back : (y : Item) → Has y (reverse (journal id (stored id items ++ deeds))) → Has y (journal id (stored id items ++ deeds))
  turned_back y has = subst (Has y) (reverse-reverse (journal id (stored id items ++ deeds))) (to_turned y (reverse (journal id (stored id items ++ deeds))) has)

  -- by the replies of its journal before it was handed out
  gives_now : Contains (replies_served calm devices all final id middle.journal) (c.key, c.reply) → IsGivenBy (replies_served calm devices all final) id c.key c.reply (stored id items ++ deeds)
  gives_now given = record { earlier = middle.journal; later = []; stands = journal_is; given = given }

  abbrev Gives : Type 0
  Gives = IsGivenBy (replies_served calm devices all final) id c.key c.reply (stored id items ++ deeds) ⊎ (Has (Cancelled c.key) (journal id (stored id items ++ deeds)) × (c.reply ≡ cancellation))

  given_so : (one : IsOneOf devices (at.before).id ((at.before).turn).opening) (known : Option SessionDevice) → known_as calm one.opening ≡ known → Gives
  given_so one None unknown =
      inl (gives_now (subst (λ (rs : List KeyedReply). Contains rs (c.key, c.reply))
      (sym (replies_of_one calm devices all final id one.opening None (subst (λ (n : ℕ). lookup (is_at (nat_cmp n)) devices ≡ Some one.opening) at.id_is one.found) unknown middle.journal))
      (to_contains (all_handed id all) (c.key, c.reply) among)))
  given_so one (Some other) known =
      let leads = leads_so one.opening one.is in
      let quiet = known_calm calm one.opening other (told_calls entries) middle known (led_by AnyRequest final deeds before_grown (at.before).id one.opening entries middle leads gives_so puts_so) calm_so in
      let tied = (led_tied AnyRequest final deeds before_grown (at.before).id one.opening entries middle leads gives_so puts_so other (known_plays calm one.opening other known one.fit) one.nothing quiet).tied in
      let replies : List KeyedReply = replies_by device_step device_cut (request_read final) other middle.journal in
      let answer : IsAnswer replies middle.journal c.key c.reply =
      All-contains (λ (y : Completion). IsAnswer replies middle.journal y.key y.reply) middle.ready c tied.ready (to_contains middle.ready c step.0) in
      elim answer [
        | inl given ↦ inl (gives_now (subst (λ (rs : List KeyedReply). Contains rs (c.key, c.reply))
            (sym (replies_of_one calm devices all final id one.opening (Some other) (subst (λ (n : ℕ). lookup (is_at (nat_cmp n)) devices ≡ Some one.opening) at.id_is one.found) known middle.journal)) given))
        | inr (cancelled, same) ↦ inr (
          turned_back (Cancelled c.key) (subst (Has (Cancelled c.key)) (sym journal_is) (has_left (Cancelled c.key) middle.journal (Sent c.key ∷ []) (from_contains middle.journal (Cancelled c.key) cancelled))),
          same,
        )
      ]

  pub collects_handed : IsHanded (replies_served calm devices all final) (stored id items ++ deeds) id c
  collects_handed =
      let one = follows.opened place at.before at.there in
      let k = led_request deeds (at.before).id one.opening entries middle (leads_so one.opening one.is) gives_so puts_so c step.0 in
      record {
        of = record { request = k.request; read = grown_more (stored id items) deeds c.key.channel c.key.index k.request k.read; device_is = k.device_is ∙ at.id_is; id = k.id; layout = k.layout };
        given = given_so one (known_as calm one.opening) refl;
      }
