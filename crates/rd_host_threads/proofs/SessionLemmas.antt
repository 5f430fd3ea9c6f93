-- The channels of a host, one after the other: what became of each, and of the calls of pass 0 of the front.
use Rattle.std.proofs.Common.{◌≡◌, ◌≢◌, ◌∙◌, ◌+◌, ℕ, zero, suc, Bool, true, false, List, [], ◌∷◌, ◌++◌, length, Option, Some, None, inl, inr, ap, sym, subst, refl, append-nil, arith, length-append}
use Rattle.std.specs.Prelude.{map}
use Rattle.std.specs.List.{AllByRecursion}
use Rattle.std.proofs.lemmas.List.{map-append}
use Rattle.rd_carry.specs.declared.ended.Ended.{Ended}
use Rattle.rd_carry.specs.declared.ended.Ended.TheVariants as ended
use Rattle.rd_host_channel.specs.Calls.{HostEntry, HostPass}
use Rattle.rd_host_channel.specs.declared.ending.Ending.{Ending}
use Rattle.rd_host_channel.specs.declared.ending.Ending.TheVariants as ending
use Rattle.rd_host_front.specs.State.{TurnOfTable}
use Rattle.rd_host_player.specs.declared.player.Stop.{Stop}
use Rattle.rd_host_player.specs.declared.player.Stop.TheVariants as stop
use Rattle.rd_host_session.specs.Channels.{EndsAt, GivesNone, LinkedTold, Served, ServesAll, ServesChannel, SessionState, end_by_channel}
use Rattle.rd_host_threads.specs.Channels.{AllGoOn, EndsAfter, HaveNumbers, HostChannel, SettlesChannel, SettlesChannels, ended_by}
use Rattle.rd_host_threads.specs.Played.{channel_calls, ends_calls, ends_stops, served_calls, served_stops, session_calls, session_stops}
use Rattle.rd_host_threads.proofs.PassLemmas.{GoesBy, all_map, all_more, goes_from, goes_none, goes_then}
use Rattle.rd_host_threads.proofs.PlayLemmas.{plays_out_front}
use Rattle.rd_host_threads.proofs.ChannelLemmas.{HasChannel, Serves, channel_stays, serves_so}

-- ---- ends

-- a channel whose end doesn't end a session for want of memory
fed_on : (channel : ℕ) (by : Ending) (starved : Bool) (e : Option Ended) → end_by_channel channel by starved ≡ e → e ≢ Some ended.Memory → starved ≡ false
fed_on channel by true e is not = absurd (not (sym is))
fed_on channel by false e is not = refl

found_on : (channel : ℕ) (by : Ending) (starved : Bool) (e : Option Ended) → end_by_channel channel by starved ≡ e → e ≢ Some ended.Memory → by ≢ ending.Memory
found_on channel by true e is not = absurd (not (sym is))
found_on channel by false e is not = λ memory. not (sym is ∙ ap (λ (x : Ending). end_by_channel channel x false) memory)

ends_so : (channel : ℕ) (by : Ending) (starved : Bool) (e : Option Ended) → end_by_channel channel by starved ≡ e → starved ≡ false → end_by_channel channel by false ≡ e
ends_so channel by starved e is fed = ap (end_by_channel channel by) (sym fed) ∙ is

none_fed : None ≢ Some ended.Memory
none_fed is = cc is

module _ {W : Type 0} where
  numbers_more : (n : ℕ) (channels : List (HostChannel W)) (c : HostChannel W) → HaveNumbers n channels → c.channel ≡ suc (n + length channels) → HaveNumbers n (channels ++ c ∷ [])
  numbers_more n [] c all is = (omega (arith, is), tt)
  numbers_more n (x ∷ channels) c all is = (all.0, numbers_more (suc n) channels c all.1 (omega (arith, is)))

  settles_more : (channels : List (HostChannel W)) (c : HostChannel W) (a b d : LinkedTold) → SettlesChannels channels a b → SettlesChannel c b d → SettlesChannels (channels ++ c ∷ []) a d
  settles_more [] c a b d all one = (d, subst (λ (x : LinkedTold). SettlesChannel c x d) all one, refl)
  settles_more (x ∷ channels) c a b d (next, first, all) one = (next, first, settles_more channels c next b d all one)

-- where the script stopped on a channel
abbrev why_of : {W : Type 0} → HostChannel W → Stop
why_of c = c.why

module _ {F W : Type 0} where
  -- Channels were served, one after the other, from this pass 0 on.
  pub record HasChannels (n : ℕ) (own : List (HostEntry W)) (stops : List Stop) (start : HostPass F W) (old : LinkedTold) (front : HostPass F W) (linker : LinkedTold) : Type 0 where
    pub channels : List (HostChannel W)
    pub count : length channels ≡ n
    pub numbered : HaveNumbers 0 channels
    pub stopped : map why_of channels ≡ stops
    pub settled : SettlesChannels channels old linker
    pub has : AllByRecursion (HasChannel front) channels
    pub goes : GoesBy (n + n) own start front

  -- after each of which a line begins the next
  record Goes (n : ℕ) (own : List (HostEntry W)) (stops : List Stop) (start : HostPass F W) (old : LinkedTold) (here : SessionState F W) : Type 0 where
    pub all : HasChannels n own stops start old (here.play).front here.linker
    pub on : AllGoOn all.channels

  has_none : (start : HostPass F W) (old : LinkedTold) → start.number ≡ 0 → HasChannels 0 [] [] start old start old
  has_none start old first = record { channels = []; count = refl; numbered = tt; stopped = refl; settled = refl; has = tt; goes = goes_none start first }

  module _ (turn : TurnOfTable) (devices : ℕ) where
    has_more : (n : ℕ) (why : Stop) (by : Ending) (own more : List (HostEntry W)) (stops : List Stop) (start : HostPass F W) (old : LinkedTold) (here new : SessionState F W) → HasChannels n own stops start old (here.play).front here.linker
        → Serves turn devices n why by more here new → HasChannels (suc n) (own ++ more) (stops ++ why ∷ []) start old (new.play).front new.linker
    has_more n why by own more stops start old here new all one = record {
      channels = all.channels ++ one.c ∷ [];
      count = let count = all.count in omega (arith, length-append all.channels (one.c ∷ []));
      numbered = numbers_more 0 all.channels one.c all.numbered (let count = all.count in let is = one.channel_is in omega arith);
      stopped = map-append why_of all.channels (one.c ∷ []) ∙ ap (λ (l : List Stop). l ++ (one.c).why ∷ []) all.stopped ∙ ap (λ (w : Stop). stops ++ w ∷ []) one.why_is;
      settled = settles_more all.channels one.c old here.linker new.linker all.settled one.settles;
      has = all_more (HasChannel (new.play).front) all.channels (one.c ∷ []) (all_map (HasChannel (here.play).front) (HasChannel (new.play).front) all.channels (channel_stays 2 more (here.play).front (new.play).front one.goes) all.has) (one.has, tt);
      goes = let double : n + n + 2 ≡ suc n + suc n = omega arith in
          subst (λ (m : ℕ). GoesBy m (own ++ more) start (new.play).front) double (goes_then (n + n) 2 own more start (here.play).front (new.play).front all.goes one.goes);
    }

    -- the same pass 0, of which it is known how many passes were split from it
    has_made : (n : ℕ) (own : List (HostEntry W)) (stops : List Stop) (start : HostPass F W) (old : LinkedTold) (front : HostPass F W) (linker : LinkedTold) → start.made ≡ 0 → HasChannels n own stops start old front linker → front.made ≡ n + n
    has_made n own stops start old front linker none all = let made = (all.goes).made in omega arith

    served_goes : (n : ℕ) (old here : SessionState F W) (served : Served turn devices n old here) → ((old.play).front).number ≡ 0 → ((old.play).front).made ≡ 0
        → Goes n (served_calls turn devices n old here served) (served_stops turn devices n old here served) (old.play).front old.linker here
    unfolding has_none has_more
    served_goes zero old here is first none =
        subst (λ (s : SessionState F W). Goes 0 [] [] (old.play).front old.linker s) (sym is) (record { all = has_none (old.play).front old.linker first; on = tt })
    served_goes (suc n) old new (here, by, starved, served, serves, goes_on) first none =
        let before = served_goes n old here served first none in
        let fed = fed_on (suc n) by starved None goes_on none_fed in
        let one = serves_so turn devices n stop.Connect by starved here new serves fed (found_on (suc n) by starved None goes_on none_fed) ((before.all).goes).number
        (has_made n (served_calls turn devices n old here served) (served_stops turn devices n old here served) (old.play).front old.linker (here.play).front here.linker none before.all) in
        let ends : ended_by one.c ≡ None =
        ap (λ (k : ℕ). end_by_channel k (one.c).by false) one.channel_is ∙ ap (λ (x : Ending). end_by_channel (suc n) x false) one.by_is ∙ ends_so (suc n) by starved None goes_on fed in
        record {
          all = has_more n stop.Connect by (served_calls turn devices n old here served) (channel_calls turn devices (suc n) stop.Connect by starved here new serves)
              (served_stops turn devices n old here served) (old.play).front old.linker here new before.all one;
          on = all_more (λ (c : HostChannel W). (c.why ≡ stop.Connect) × (ended_by c ≡ None)) (before.all).channels (one.c ∷ []) before.on ((one.why_is, ends), tt);
        }

    -- All channels of a session were served.
    pub record HasAll (own : List (HostEntry W)) (stops : List Stop) (other : Option Ended) (start : HostPass F W) (old : LinkedTold) (front : HostPass F W) (linker : LinkedTold) : Type 0 where
      pub n : ℕ
      pub channels : List (HostChannel W)
      pub count : length channels ≡ n
      pub numbered : HaveNumbers 0 channels
      pub stopped : map why_of channels ≡ stops
      pub has : AllByRecursion (HasChannel front) channels
      pub goes : GoesBy (n + n) own start front
      pub ends : EndsAfter other channels old linker

    -- the last one of them
    last_goes : (n : ℕ) (why : Stop) (by : Ending) (starved : Bool) (e : Option Ended) (own : List (HostEntry W)) (stops : List Stop) (start : HostPass F W) (old : LinkedTold) (here new : SessionState F W) (goes : Goes n own stops start old here) → start.made ≡ 0
        → (serves : ServesChannel turn devices (suc n) why by starved here new) → end_by_channel (suc n) by starved ≡ e → e ≢ Some ended.Memory
        → (one : Serves turn devices n why by (channel_calls turn devices (suc n) why by starved here new serves) here new) × (ended_by one.c ≡ e)
    last_goes n why by starved e own stops start old here new goes none serves is other =
        let fed = fed_on (suc n) by starved e is other in
        let one = serves_so turn devices n why by starved here new serves fed (found_on (suc n) by starved e is other) ((goes.all).goes).number (has_made n own stops start old (here.play).front here.linker none goes.all) in
        (one, ap (λ (k : ℕ). end_by_channel k (one.c).by false) one.channel_is ∙ ap (λ (x : Ending). end_by_channel (suc n) x false) one.by_is ∙ ends_so (suc n) by starved e is fed)

    ends_goes : (n : ℕ) (other : Option Ended) (own : List (HostEntry W)) (stops : List Stop) (start : HostPass F W) (old : LinkedTold) (here new : SessionState F W) → Goes n own stops start old here → start.made ≡ 0 → other ≢ Some ended.Memory
        → (ends : EndsAt turn devices (suc n) other here new) → HasAll (own ++ ends_calls turn devices (suc n) other here new ends) (stops ++ ends_stops turn devices (suc n) other here new ends) other start old (new.play).front new.linker
    unfolding has_more
    ends_goes n None own stops start old here new goes none found (inl (linker, gives, is, plays)) =
        let all = goes.all in
        let front = plays_out_front here.play new.play plays in
        record {
          n = n;
          channels = all.channels;
          count = all.count;
          numbered = all.numbered;
          stopped = all.stopped ∙ sym (append-nil stops);
          has = subst (λ (p : HostPass F W). AllByRecursion (HasChannel p) all.channels) (sym front) all.has;
          goes = subst (λ (l : List (HostEntry W)). GoesBy (n + n) l start (new.play).front) (sym (append-nil own)) (goes_from (n + n) own start start (here.play).front (new.play).front refl (sym front) all.goes);
          ends = inl (goes.on, here.linker, all.settled, subst (GivesNone here.linker) (sym is) gives);
        }
    ends_goes n None own stops start old here new goes none found (inr (by, starved, serves, is)) =
        let one = last_goes n stop.End by starved None own stops start old here new goes none serves is none_fed in
        let all = has_more n stop.End by own (channel_calls turn devices (suc n) stop.End by starved here new serves) stops start old here new goes.all one.0 in
        record {
          n = suc n;
          channels = all.channels;
          count = all.count;
          numbered = all.numbered;
          stopped = all.stopped;
          has = all.has;
          goes = all.goes;
          ends = inr (record { before = (goes.all).channels; last = (one.0).c; are = refl; goes_on = goes.on }, (one.0).why_is, one.1, all.settled);
        }
    ends_goes n (Some e) own stops start old here new goes none found (why, by, starved, mid, serves, is, linker, plays) =
        let one = last_goes n why by starved (Some e) own stops start old here mid goes none serves is found in
        let more = channel_calls turn devices (suc n) why by starved here mid serves in
        let all = has_more n why by own more stops start old here mid goes.all one.0 in
        let front = plays_out_front mid.play new.play plays in
        record {
          n = suc n;
          channels = all.channels;
          count = all.count;
          numbered = all.numbered;
          stopped = all.stopped;
          has = subst (λ (p : HostPass F W). AllByRecursion (HasChannel p) all.channels) (sym front) all.has;
          goes = goes_from (suc n + suc n) (own ++ more) start start (mid.play).front (new.play).front refl (sym front) all.goes;
          ends = (record { before = (goes.all).channels; last = (one.0).c; are = refl; goes_on = goes.on }, one.1, subst (SettlesChannels all.channels old) (sym linker) all.settled);
        }

    pub session_goes : (other : Option Ended) (old new : SessionState F W) (serves : ServesAll turn devices other old new) → ((old.play).front).number ≡ 0 → ((old.play).front).made ≡ 0
        → other ≢ Some ended.Memory → HasAll (session_calls turn devices other old new serves) (session_stops turn devices other old new serves) other (old.play).front old.linker (new.play).front new.linker
    session_goes other old new (count, here, served, ends) first none found =
        ends_goes count other (served_calls turn devices count old here served) (served_stops turn devices count old here served) (old.play).front old.linker here new (served_goes count old here served first none) none found ends
