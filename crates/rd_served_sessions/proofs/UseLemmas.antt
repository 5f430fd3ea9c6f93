-- A request that is refused since its completion id is in use is the last that was read on its channel, and an earlier one there has the id.
use Rattle.std.proofs.Common.{◌≡◌, ◌∙◌, ◌≤◌, ◌<◌, refl, sym, ap, subst, inl, inr, ℕ, ◌==◌, ◌&&◌, Bool, true, false, List, [], ◌∷◌, ◌++◌, length, reverse, Some, arith, eq-eqb, ne_eqb, append_assoc}
use Rattle.std.specs.Prelude.{Ok, Err, cond, filter, filter_map}
use Rattle.std.proofs.lemmas.List.Elements.{All-contains}
use Rattle.rd_base.specs.declared.journal.Item.{Item}
use Rattle.rd_base.specs.declared.journal.Item.TheVariants.{Came, Sent}
use Rattle.rd_base.specs.declared.journal.Key.{Key}
use Rattle.rd_desk.specs.declared.calls.DeskCall.{DeskCall}
use Rattle.rd_desk.specs.declared.calls.DeskCall.TheVariants as desk
use Rattle.rd_desk.specs.declared.calls.DeskReply.{DeskReply}
use Rattle.rd_desk.specs.declared.calls.DeskReply.TheVariants as replied
use Rattle.rd_drive.specs.declared.plan.Job.{Job}
use Rattle.rd_front.specs.State.{SessionDeskStep, SessionStation}
use Rattle.rd_irp.specs.declared.request.Request.{Request}
use Rattle.rd_served_causes.proofs.JournalsHeldLemmas.{turned_has}
use Rattle.rd_served_causes.specs.JournalsJobs.{IsIdOf, IsJobOf}
use Rattle.rd_station.proofs.Members.{to_contains}
use Rattle.rd_station.proofs.Remembering.{came_named}
use Rattle.rd_station.specs.Station as station
use Rattle.rd_station.specs.Station.{MayPut, held}
use Rattle.rd_station.specs.declared.refusals.PutNo.{PutNo}
use Rattle.rd_station.specs.declared.refusals.PutWhy.{PutWhy}
use Rattle.rd_station.specs.declared.refusals.PutWhy.TheVariants as why
use Rattle.rd_deeds.specs.Talk.{Deed, Has, client_read, is_request, journal, request_at, request_in}
use Rattle.rd_world.specs.World.{Kept}
use Rattle.rd_served_causes.proofs.ServedCauseLemmas.{AnyRequest, IsTold, job_told, part_told, some_same, tied_then, to_turned}
use Rattle.rd_served_causes.proofs.ServedHeldLemmas.{HeldIn, found_in_use, held_came, held_unsent, work_less}
use Rattle.rd_served_causes.proofs.ServedKeyLemmas.{IsKeyed, IsUnder, has_at, middle_named, part_keyed, worked}
use Rattle.rd_served_causes.proofs.ServedStationLemmas.{put_refused}
use Rattle.rd_served_causes.specs.ServedDeeds.{deeds_after, deeds_of, stored}
use Rattle.rd_served_causes.specs.ServedHistories.{Among, StartsBy, stopped_by}
use Rattle.rd_served_causes.specs.ServedParts.{CallsAt, Comes, FrontPart, IsOpenCall, PartGoes, PartsGo, begins, calls, directs, duplicate_by, duplicate_of, ends, forgets, handed_by, hears, is_lost, keeps, learns, misplaces, refreshes, sends, tells_gone, tells_there, tries, unwritten, writes}
use Rattle.rd_served_causes.specs.ServedServed.{Asking, Served, idle}
use Rattle.rd_served_sessions.proofs.ChainLemmas.{StartNone, part_rises, part_unread, parts_rise, rest_unread}
use Rattle.rd_served_sessions.proofs.FollowLemmas.{Follows, IsLastRead, part_follows, reads_of}
use Rattle.rd_served_sessions.proofs.UnsentLemmas.{none_after, parts_unsent}
use Rattle.rd_served_sessions.specs.Causes.{LastIsInUse, WasInUse}
use Rattle.rd_served_causes.specs.ServedDevices.{IsServedReached}

abbrev Of : Type 0
Of = SessionStation

-- ---- requests by their places

-- the request of the last message
last_at : (m : List ℕ) (older : List (List ℕ)) → is_request m ≡ true → request_at (m ∷ older) (length (filter is_request older)) ≡ request_in m
last_at m older one = ap (λ (b : Bool). cond b (request_in m) (request_at older (length (filter is_request older)))) both
  where
    both : (is_request m && length (filter is_request older) == length (filter is_request older)) ≡ true
    both = ap (λ (b : Bool). b && length (filter is_request older) == length (filter is_request older)) one ∙ eq-eqb (length (filter is_request older)) (length (filter is_request older)) refl

-- one before it
earlier_at : (m : List ℕ) (older : List (List ℕ)) (index : ℕ) → index < length (filter is_request older) → request_at (m ∷ older) index ≡ request_at older index
earlier_at m older index less = ap (λ (b : Bool). cond b (request_in m) (request_at older index)) (by (is_request m))
  where
    other : (length (filter is_request older) == index) ≡ false
    other = ne_eqb (length (filter is_request older)) index (λ (same : length (filter is_request older) ≡ index). omega (arith, same, less))

    by : (b : Bool) → (b && length (filter is_request older) == index) ≡ false
    by true = other
    by false = refl

-- ---- the part that refuses it

module _ (p q : Served) (place id : ℕ) (job : Job) (refusal : PutNo) (items : List Item) (key : Key) (deeds : List Deed) (keyed : IsKeyed p) (told : IsTold p deeds) (at : CallsAt p place id (desk.Put job) (replied.Put (Err refusal)) items q)
    (is : refusal.why ≡ why.Duplicate key) (last : (k : Kept) → IsUnder p.asking k → IsLastRead k (p.front).channel (reads_of p deeds))
  where
    abbrev back : DeskReply
    back = replied.Put (Err refusal)

    abbrev does : DeskCall
    does = desk.Put job

    abbrev middle : Of
    middle = (at.called).middle

    abbrev more : List Deed
    more = stored id items ++ deeds

    c : Comes p place job
    c = (at.asking_is).0

    under : IsUnder p.asking c.kept
    under = subst (λ (a : Asking). IsUnder a c.kept) (sym c.asked) refl

    read : IsLastRead c.kept (p.front).channel (reads_of p deeds)
    read = last c.kept under

    between : Of
    between = (((at.called).step).0).0

    refused_so : station.PutRefused middle job (why.Duplicate key) between
    unfolding between
    refused_so = subst (λ (w : PutWhy). station.PutRefused middle job w between) is ((((at.called).step).0).1).1

    may : MayPut middle job.key
    may = ((((at.called).step).0).1).0

    same : at.last ≡ middle
    unfolding between
    same = (((at.called).step).0).2 ∙ put_refused middle between job (why.Duplicate key) refused_so

    in_use : HeldIn middle (key, job.completion)
    in_use = found_in_use middle between job key refused_so

    key_is : job.key ≡ c.kept.job.key
    key_is = ap (λ (j : Job). j.key) c.job_is

    -- the job is that of the last message
    index_is : job.key.index ≡ length (filter is_request read.older)
    index_is = ap (λ (k : Key). k.index) key_is ∙ ap (λ (j : Job). j.key.index) read.job_is

    channel_is : job.key.channel ≡ (p.front).channel
    channel_is = ap (λ (k : Key). k.channel) key_is ∙ ap (λ (j : Job). j.key.channel) read.job_is

    completion_is : job.completion ≡ (read.request).completion
    completion_is = ap (λ (j : Job). j.completion) c.job_is ∙ ap (λ (j : Job). j.completion) read.job_is

    own : IsJobOf AnyRequest deeds id job
    own = job_told p q place id does back items deeds keyed told at job c

    device_is : (read.request).device ≡ id
    device_is =
        ap (λ (r : Request). r.device)
        (some_same (read.request) (own.request) (request_at (client_read job.key.channel deeds) job.key.index)
        ((λ i. request_at (client_read (channel_is i) deeds) (index_is i)) ∙ ap (λ (ms : List (List ℕ)). request_at ms (length (filter is_request read.older))) read.read_are ∙ last_at read.message read.older read.asks ∙ read.spells) own.read)
        ∙ own.device

    -- the other one
    other : IsIdOf AnyRequest deeds id key job.completion
    other = subst (λ (n : ℕ). IsIdOf AnyRequest deeds n key job.completion) at.id_is (told.held place at.before at.first (at.there, at.has) (key, job.completion) (work_less at.first middle (at.called).works (key, job.completion) in_use))

    on_it : key.channel ≡ (p.front).channel
    on_it = All-contains (λ (o : Key × ℕ). (o.0).channel ≡ job.key.channel) (held middle) (key, job.completion) may.same_channel (to_contains (held middle) (key, job.completion) in_use) ∙ channel_is

    reached : IsServedReached middle
    reached = (worked p q place id does back items keyed at).on.sound.reached

    came_there : Has (Came key) middle.journal
    came_there = held_came middle reached (key, job.completion) in_use

    less : key.index < length (filter is_request read.older)
    less = elim ((keyed.asking c.kept under).above at.first (has_at p.stations place at.first at.has) key (middle_named p q place id does back items keyed at key (came_named middle.journal key (to_contains middle.journal (Came key) came_there)))) [
      | inl below ↦ absurd (let here = on_it in let now = (keyed.asking c.kept under).channel in omega (arith, below, here, now))
      | inr here ↦ (let low = here.1 in let place_is = ap (λ (k : Key). k.index) key_is in let count = index_is in omega (arith, low, place_is, count))
    ]

    journal_is : journal id more ≡ reverse middle.journal
    journal_is = tied_then p q place id does back items deeds keyed told at ∙ ap (λ (s : Of). reverse s.journal) same

    read_then : client_read (p.front).channel more ≡ read.message ∷ read.older
    read_then = part_unread (p.front).channel (calls place id does back items) deeds refl ∙ read.read_are

    pub in_use_at : LastIsInUse (p.front).channel more
    in_use_at = record {
      message = read.message;
      older = read.older;
      read_are = read_then;
      asks = read.asks;
      request = read.request;
      spells = read.spells;
      key = key;
      on_it = on_it;
      other = other.request;
      earlier = sym (earlier_at read.message read.older key.index less) ∙ ap (λ (ms : List (List ℕ)). request_at ms key.index) (sym read.read_are) ∙ ap (λ (n : ℕ). request_at (client_read n deeds) key.index) (sym on_it) ∙ other.read;
      same_device = other.device ∙ sym device_is;
      same_id = sym other.id ∙ completion_is;
      came = subst (λ (n : ℕ). Has (Came key) (journal n more)) (sym device_is) (subst (Has (Came key)) (sym journal_is) (to_turned (Came key) middle.journal came_there));
      unsent = λ sent. held_unsent middle reached (key, job.completion) in_use (turned_has (Sent key) middle.journal (subst (Has (Sent key)) journal_is (subst (λ (n : ℕ). Has (Sent key) (journal n more)) device_is sent)));
    }

-- by any part
use_at : (p q : Served) (x : FrontPart) (key : Key) (deeds : List Deed) → PartGoes p x q → IsKeyed p → IsTold p deeds → ((k : Kept) → IsUnder p.asking k → IsLastRead k (p.front).channel (reads_of p deeds)) → duplicate_of x ≡ Some key → LastIsInUse (p.front).channel (deeds_of x ++ deeds)
use_at p q (calls place id does (replied.Put (Err refusal)) items) key deeds goes keyed told last is = by does refl goes.own (goes.called).step
  where
    cause : (w : PutWhy) → duplicate_by w ≡ Some key → w ≡ why.Duplicate key
    cause (why.Duplicate other) e = let same : other ≡ key = cc (e) in ap why.Duplicate same
    cause why.Gone e = absurd (cc (e))
    cause (why.Full held) e = absurd (cc (e))
    cause (why.Worn count) e = absurd (cc (e))
    cause why.Memory e = absurd (cc (e))

    by : (d : DeskCall) → does ≡ d → IsOpenCall d → SessionDeskStep (goes.called).middle d (replied.Put (Err refusal)) goes.last → LastIsInUse (p.front).channel (stored id items ++ deeds)
    by (desk.Put job) same own step =
        in_use_at p q place id job refusal items key deeds keyed told (subst (λ (d : DeskCall). CallsAt p place id d (replied.Put (Err refusal)) items q) same goes) (cause refusal.why is) last
    by desk.Announce same own step = absurd step.1
    by desk.Collect same own step = absurd step.1
    by desk.Remove same own step = absurd step.1
    by (desk.Work runs) same own step = absurd own
    by desk.DropChannel same own step = absurd own
    by desk.End same own step = absurd own
use_at p q (calls place id does (replied.Put (Ok done)) items) key deeds goes keyed told last is = absurd (cc (is))
use_at p q (calls place id does (replied.Unfit job) items) key deeds goes keyed told last is = absurd (cc (is))
use_at p q (calls place id does (replied.Announced answer) items) key deeds goes keyed told last is = absurd (cc (is))
use_at p q (calls place id does (replied.Worked w) items) key deeds goes keyed told last is = absurd (cc (is))
use_at p q (calls place id does (replied.Collected answer) items) key deeds goes keyed told last is = absurd (cc (is))
use_at p q (calls place id does (replied.Removed answer) items) key deeds goes keyed told last is = absurd (cc (is))
use_at p q (calls place id does replied.Dropped items) key deeds goes keyed told last is = absurd (cc (is))
use_at p q (calls place id does replied.Ended items) key deeds goes keyed told last is = absurd (cc (is))
use_at p q (hears channel m answer) key deeds goes keyed told last is = absurd (cc (is))
use_at p q tries key deeds goes keyed told last is = absurd (cc (is))
use_at p q keeps key deeds goes keyed told last is = absurd (cc (is))
use_at p q forgets key deeds goes keyed told last is = absurd (cc (is))
use_at p q misplaces key deeds goes keyed told last is = absurd (cc (is))
use_at p q (directs st answer) key deeds goes keyed told last is = absurd (cc (is))
use_at p q (tells_gone device answer) key deeds goes keyed told last is = absurd (cc (is))
use_at p q (tells_there device answer) key deeds goes keyed told last is = absurd (cc (is))
use_at p q (sends channel o) key deeds goes keyed told last is = absurd (cc (is))
use_at p q (writes device done) key deeds goes keyed told last is = absurd (cc (is))
use_at p q (unwritten device done) key deeds goes keyed told last is = absurd (cc (is))
use_at p q (learns n answer) key deeds goes keyed told last is = absurd (cc (is))
use_at p q (refreshes device) key deeds goes keyed told last is = absurd (cc (is))
use_at p q (begins channel) key deeds goes keyed told last is = absurd (cc (is))
use_at p q (ends over each) key deeds goes keyed told last is = absurd (cc (is))

-- ---- the call that says so

-- what is done by parts was done after what was done before
pub deeds_more : (ps : List FrontPart) (deeds : List Deed) → (more : List Deed) × (deeds_after ps deeds ≡ more ++ deeds)
deeds_more [] deeds = ([], refl)
deeds_more (x ∷ ps) deeds =
    let (more, is) = deeds_more ps (deeds_of x ++ deeds) in
    (more ++ deeds_of x, is ∙ sym (append_assoc more (deeds_of x) deeds))

-- In a call by which a request was refused so, nothing was read after that.
later_none : (starts : Bool) (x : FrontPart) (ps : List FrontPart) → StartsBy starts (x ∷ ps) → StartNone ps
later_none true x ps all = all
later_none false x ps all = all.1

pub refused_in : (ps : List FrontPart) (p q : Served) (was starts : Bool) (channel : ℕ) (key : Key) (deeds : List Deed) → PartsGo p ps q → StartsBy starts ps → channel ≤ (p.front).channel → (q.front).channel ≤ channel → IsKeyed p → IsTold p deeds → Follows was p deeds
    → q.asking ≡ idle → filter_map handed_by ps ≡ [] → (Among (λ x. is_lost x ≡ true) ps → ⊥) → Among (λ x. duplicate_of x ≡ Some key) ps → WasInUse channel (deeds_after ps deeds)
refused_in [] p q was starts channel key deeds goes all low high keyed told follows done handed lost none = absurd none
refused_in (x ∷ ps) p q was starts channel key deeds goes all low high keyed told follows done handed lost (inl here) =
    let first = part_rises p goes.0 x goes.1 in
    let rest = parts_rise ps goes.0 q goes.2 in
    let same : (p.front).channel ≡ channel = omega (arith, low, high, first, rest) in
    let (more, is) = deeds_more ps (deeds_of x ++ deeds) in
    let used : LastIsInUse channel (deeds_of x ++ deeds) = subst (λ (n : ℕ). LastIsInUse n (deeds_of x ++ deeds)) same (use_at p goes.0 x key deeds goes.1 keyed told (λ k under. follows.last k (inl under)) here) in
    record {
      since = more;
      before = deeds_of x ++ deeds;
      deeds_are = is;
      used = used;
      unread = rest_unread channel ps (deeds_of x ++ deeds) (later_none starts x ps all);
      never = λ sent. used.unsent (parts_unsent ps goes.0 q (used.request).device used.key (deeds_of x ++ deeds) goes.2 done (none_after (handed_by x) (filter_map handed_by ps) handed) (λ some. lost (inr some)) sent);
    }
refused_in (x ∷ ps) p q was starts channel key deeds goes all low high keyed told follows done handed lost (inr later) =
    let first = part_rises p goes.0 x goes.1 in
    refused_in ps goes.0 q (stopped_by was x) false channel key (deeds_of x ++ deeds) goes.2 (later_none starts x ps all) (omega (arith, low, first)) high
    (part_keyed p goes.0 x goes.1 keyed) (part_told p goes.0 x deeds goes.1 keyed told) (part_follows was p goes.0 x deeds goes.1 keyed told follows)
    done (none_after (handed_by x) (filter_map handed_by ps) handed) (λ some. lost (inr some)) later
