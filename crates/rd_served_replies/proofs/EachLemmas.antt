-- Of a whole history, what each completion tells.
use Rattle.std.proofs.Common.{◌≡◌, ◌∙◌, refl, sym, ap, subst, inl, ℕ, Bool, true, List, [], ◌∷◌, ◌++◌, reverse, Option, Some, None}
use Rattle.std.specs.Prelude.{Contains}
use Rattle.std.specs.List.{AllByRecursion}
use Rattle.std.specs.Map.{lookup}
use Rattle.std.specs.Ordering.{nat_cmp}
use Rattle.std.specs.BTreeMap.{is_at}
use Rattle.std.proofs.lemmas.List.{reverse-reverse}
use Rattle.rd_base.specs.Lawful.{IsLawful}
use Rattle.rd_base.specs.declared.journal.Cause.{Cause}
use Rattle.rd_base.specs.declared.journal.Item.{Item}
use Rattle.rd_base.specs.declared.journal.Item.TheVariants.{Came, Cut}
use Rattle.rd_base.specs.declared.journal.Key.{Key}
use Rattle.rd_desk.specs.Desk.{told_calls}
use Rattle.rd_drive.specs.Replies.{KeyedReply}
use Rattle.rd_front.specs.State.{DeviceDeskState, SessionDeskStep, SessionStation}
use Rattle.rd_front.specs.declared.calls.FrontCall.{FrontCall}
use Rattle.rd_front.specs.declared.calls.FrontReply.{FrontReply}
use Rattle.rd_irp.specs.declared.completion.Reply.{Reply}
use Rattle.rd_refused.proofs.JournalsWorkLemmas.{grown_more}
use Rattle.rd_refused.specs.RepliedRemovals.{TellsGone}
use Rattle.rd_refused.specs.RepliedReplied.{AnswersBy}
use Rattle.rd_refused.specs.RepliedSince.{AnswersSince}
use Rattle.rd_printer.specs.Printer.{new_printer}
use Rattle.rd_station.specs.Station.{new_station}
use Rattle.rd_station.proofs.Calls.{reached_kept, reached_new}
use Rattle.rd_station.proofs.Members.{has_right}
use Rattle.rd_turn.specs.History.{Leads}
use Rattle.rd_turn.specs.declared.object.Entry.{Entry}
use Rattle.rd_declared.specs.Devices.{device_cuts, device_parked, device_runs}
use Rattle.rd_declared.specs.Replies.{request_read}
use Rattle.rd_deeds.specs.Talk.{Deed, EachAfter, Has, journal}
use Rattle.rd_deeds.specs.Told.{Replies}
use Rattle.rd_declared.specs.declared.device.SessionDevice.{SessionDevice}
use Rattle.rd_declared.specs.declared.device.SessionDevice.TheVariants as session
use Rattle.rd_served.specs.Deeds.{deeds_of_calls}
use Rattle.rd_served.specs.Histories.{BeginsNew, HistoryGoes}
use Rattle.rd_served.specs.Parts.{FrontPart}
use Rattle.rd_served.specs.Served.{Served}
use Rattle.rd_served.specs.ServedDevices.{ServedDeviceState}
use Rattle.rd_served.proofs.CauseLemmas.{AnyRequest, At, to_turned}
use Rattle.rd_served.proofs.KeyLemmas.{keyed_lawful}
use Rattle.rd_served.proofs.MeetLemmas.{CallsMeet}
use Rattle.rd_served.proofs.StandingLemmas.{IsKnownAt, history_known}
use Rattle.rd_served_replies.specs.Given.{HadNoFaults, all_handed, known_as, replies_known, replies_served}
use Rattle.rd_served_replies.specs.Premises.{AreOpened, GiveOwn}
use Rattle.rd_served_replies.proofs.AnswerLemmas.{AreReplied, history_replied, history_replying}
use Rattle.rd_served_replies.proofs.BeginLemmas.{IsOneOf, first_of, known_first}
use Rattle.rd_served_replies.proofs.CutLemmas.{came_first}
use Rattle.rd_served_replies.proofs.FollowLemmas.{IsFollowed, history_followed}
use Rattle.rd_served_replies.proofs.GoneLemmas.{AreGone, history_gone}
use Rattle.rd_served_replies.proofs.HandedLemmas.{replies_of_one}
use Rattle.rd_served_replies.proofs.KnownLemmas.{known_calm, known_plays}
use Rattle.rd_served_replies.proofs.LedLemmas.{led_by, led_runs}
use Rattle.rd_served_replies.proofs.ReadLemmas.{IsOfBytes, all_fine}
use Rattle.rd_served_replies.proofs.SinceLemmas.{CameFirst, all_since}

replied_first : (replies : Replies) (p : Served) → BeginsNew p → AreReplied replies p []
replied_first replies p begins = record {
  out = λ o has. absurd (subst (Has o) (begins.new).nothing has);
  handing = λ device c same. absurd (let none = begins.idle_is in cc (none, same));
  each = tt;
}

-- A whole history of a front over these devices, whose folders had no fault where that is said.
module _ (calm : Bool) (devices : List (ℕ × ServedDeviceState)) (old new : Served) (entries : List (Entry FrontCall FrontReply)) (parts : List (List FrontPart)) (begins : BeginsNew old) (opened : AreOpened devices (old.front).desks)
    (goes : HistoryGoes old entries parts new) (gives : GiveOwn (new.front).desks) (quiet : calm ≡ true → HadNoFaults new.stations) (bytes : AllByRecursion IsOfBytes (deeds_of_calls parts [])) where
  -- what was written, and what waits
  pub replied_then : AreReplied (replies_served calm devices parts (deeds_of_calls parts [])) new (deeds_of_calls parts [])
  replied_then =
      history_replied calm devices parts (deeds_of_calls parts []) (all_fine (deeds_of_calls parts []) bytes) entries parts old new [] goes (known_first old begins) (first_of devices old begins opened) gives
      (grown_more [] (deeds_of_calls parts [])) quiet (λ device r has. has) (replied_first (replies_served calm devices parts (deeds_of_calls parts [])) old begins)

  pub all_replying : CallsMeet (λ p before x. AreReplied (replies_served calm devices parts (deeds_of_calls parts [])) p before) old [] entries parts new goes
  all_replying =
      history_replying calm devices parts (deeds_of_calls parts []) (all_fine (deeds_of_calls parts []) bytes) entries parts old new [] goes (known_first old begins) (first_of devices old begins opened) gives
      (grown_more [] (deeds_of_calls parts [])) quiet (λ device r has. has) (replied_first (replies_served calm devices parts (deeds_of_calls parts [])) old begins)

  pub all_replied : EachAfter (AnswersBy (replies_served calm devices parts (deeds_of_calls parts []))) (deeds_of_calls parts [])
  all_replied = replied_then.each

gone_first : (p : Served) → BeginsNew p → AreGone p []
gone_first p begins = record {
  soon = λ d key on. absurd (let off = (begins.new).off in cc (off, on));
  handing = λ device c same. absurd (let none = begins.idle_is in cc (none, same));
  each = tt;
}

pub all_told : (old new : Served) (entries : List (Entry FrontCall FrontReply)) (parts : List (List FrontPart)) → BeginsNew old → HistoryGoes old entries parts new → AllByRecursion IsOfBytes (deeds_of_calls parts []) → EachAfter TellsGone (deeds_of_calls parts [])
all_told old new entries parts begins goes bytes =
    (history_gone (deeds_of_calls parts []) (all_fine (deeds_of_calls parts []) bytes) entries parts old new [] goes (known_first old begins) (grown_more [] (deeds_of_calls parts [])) (gone_first old begins)).each

-- each device's journal is lawful; that of one without a desk is empty
lawful_journals : (p : Served) (deeds : List Deed) → IsKnownAt p deeds → (device : ℕ) → IsLawful (reverse (journal device deeds))
lawful_journals p deeds known device = by (journal device deeds) refl
  where
    none : IsLawful []
    none = (reached_kept device_runs device_parked device_cuts (new_station (session.Printer new_printer)) (reached_new device_runs device_parked device_cuts (session.Printer new_printer) refl)).lawful

    by : (items : List Item) → journal device deeds ≡ items → IsLawful (reverse (journal device deeds))
    by [] is = subst (λ (js : List Item). IsLawful (reverse js)) (sym is) none
    by (x ∷ items) is =
        let (place, d, s, at, named) = known.standing.owned device x (subst (Has x) (sym is) (inl refl)) in
        let told : journal device deeds ≡ reverse s.journal = ap (λ (n : ℕ). journal n deeds) (sym named) ∙ known.told.tied place d s at in
        subst (λ (js : List Item). IsLawful (reverse js)) (sym told) (subst IsLawful (sym (reverse-reverse s.journal)) (keyed_lawful p known.keyed place s at.1))

-- a reply that a cut alone gives is to a key that came before it
module _ (calm : Bool) (devices : List (ℕ × ServedDeviceState)) (all : List (List FrontPart)) (p : Served) (deeds : List Deed) (known : IsKnownAt p deeds) (follows : IsFollowed (IsOneOf devices) p deeds) (gives : GiveOwn (p.front).desks)
    (quiet : calm ≡ true → HadNoFaults p.stations) where
  -- of a device with a desk
  came_at : (device : ℕ) (key : Key) (reply : Reply) (first last : List Item) (cause : Cause) (place : ℕ) (d : DeviceDeskState) (s : SessionStation) → At p place d s → d.id ≡ device → s.journal ≡ first ++ Cut cause ∷ last
      → ¬ (Contains (replies_served calm devices all deeds device first) (key, reply)) → Contains (replies_served calm devices all deeds device (first ++ Cut cause ∷ [])) (key, reply) → Has (Came key) first
  came_at device key reply first last cause place d s at named stands hadnt has = by (known_as calm one.opening) refl
    where
      one : IsOneOf devices d.id (d.turn).opening
      one = follows.opened place d at.0

      found : lookup (is_at (nat_cmp device)) devices ≡ Some one.opening
      found = subst (λ (n : ℕ). lookup (is_at (nat_cmp n)) devices ≡ Some one.opening) named one.found

      leads : Leads SessionDeskStep (new_station one.opening) (d.pass).seen s
      leads = subst (λ (o : SessionStation). Leads SessionDeskStep o (d.pass).seen s) one.is (follows.stationed place d s at).leads

      same : (o : Option SessionDevice) → known_as calm one.opening ≡ o → (items : List Item) → replies_served calm devices all deeds device items ≡ replies_known (request_read deeds) (all_handed device all) o items
      same o is items = replies_of_one calm devices all deeds device one.opening o found is items

      by : (o : Option SessionDevice) → known_as calm one.opening ≡ o → Has (Came key) first
      by None is = absurd (hadnt (subst (λ (rs : List KeyedReply). Contains rs (key, reply)) (same None is (first ++ Cut cause ∷ []) ∙ sym (same None is first)) has))
      by (Some other) is =
          let steps = led_by AnyRequest deeds deeds (grown_more [] deeds) d.id one.opening (d.pass).seen s leads (gives place d at.0) (follows.puts place d at.0) in
          came_first (request_read deeds) one.opening other (known_plays calm one.opening other is one.fit) one.nothing (told_calls (d.pass).seen) s steps
          (known_calm calm one.opening other (told_calls (d.pass).seen) s is steps (λ said. quiet said place s at.1))
          (led_runs AnyRequest deeds deeds (grown_more [] deeds) d.id one.opening (d.pass).seen s leads (gives place d at.0) (follows.puts place d at.0)) first last cause stands key reply
          (λ had. hadnt (subst (λ (rs : List KeyedReply). Contains rs (key, reply)) (sym (same (Some other) is first)) had))
          (subst (λ (rs : List KeyedReply). Contains rs (key, reply)) (same (Some other) is (first ++ Cut cause ∷ [])) has)

  all_came : CameFirst (replies_served calm devices all deeds) deeds
  all_came device key reply first last cause stands hadnt has =
      let there : Has (Cut cause) (journal device deeds) =
      subst (Has (Cut cause)) (reverse-reverse (journal device deeds)) (to_turned (Cut cause) (reverse (journal device deeds)) (subst (Has (Cut cause)) (sym stands) (has_right (Cut cause) first (Cut cause ∷ last) (inl refl)))) in
      let (place, d, s, at, named) = known.standing.owned device (Cut cause) there in
      let told : reverse (journal device deeds) ≡ s.journal = ap (λ (n : ℕ). reverse (journal n deeds)) (sym named) ∙ ap reverse (known.told.tied place d s at) ∙ reverse-reverse s.journal in
      came_at device key reply first last cause place d s at named (sym told ∙ stands) hadnt has

pub all_answered : (calm : Bool) (devices : List (ℕ × ServedDeviceState)) (old new : Served) (entries : List (Entry FrontCall FrontReply)) (parts : List (List FrontPart)) → BeginsNew old → AreOpened devices (old.front).desks → HistoryGoes old entries parts new → GiveOwn (new.front).desks
    → (calm ≡ true → HadNoFaults new.stations) → AllByRecursion IsOfBytes (deeds_of_calls parts []) → EachAfter (AnswersSince (replies_served calm devices parts (deeds_of_calls parts []))) (deeds_of_calls parts [])
all_answered calm devices old new entries parts begins opened goes gives quiet bytes =
    let known = history_known entries parts old new [] goes (known_first old begins) in
    all_since (replies_served calm devices parts (deeds_of_calls parts [])) (deeds_of_calls parts []) (lawful_journals new (deeds_of_calls parts []) known)
    (all_came calm devices parts new (deeds_of_calls parts []) known (history_followed (IsOneOf devices) entries parts old new [] goes (known_first old begins) (first_of devices old begins opened)) gives quiet)
    [] (deeds_of_calls parts []) refl (all_told old new entries parts begins goes bytes) (all_replied calm devices old new entries parts begins opened goes gives quiet bytes)
