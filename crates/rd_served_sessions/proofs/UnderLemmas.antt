-- The job that is under way or kept back is that of the request that was read last, so no other comes to a device.
use Rattle.std.proofs.Common.{◌≡◌, ◌∙◌, ◌≤◌, refl, sym, ap, subst, inl, inr, ℕ, suc, Bool, true, false, List, [], ◌∷◌, ◌++◌, length, map, reverse, Option, Some, None, append_assoc, arith}
use Rattle.std.specs.Prelude.{Result, Ok, Err, filter}
use Rattle.rd_base.specs.declared.journal.Item.{Item}
use Rattle.rd_base.specs.declared.journal.Item.TheVariants.{Came, Cancelled, Cut, Ran, Sent}
use Rattle.rd_base.specs.declared.journal.Key.{Key}
use Rattle.rd_client.specs.declared.heard.Heard.{Heard}
use Rattle.rd_client.specs.declared.heard.Heard.TheVariants.{Nothing, Ask, Print}
use Rattle.rd_desk.specs.Desk.{told_by}
use Rattle.rd_desk.specs.declared.calls.DeskCall.{DeskCall}
use Rattle.rd_desk.specs.declared.calls.DeskCall.TheVariants as desk
use Rattle.rd_desk.specs.declared.calls.DeskReply.{DeskReply}
use Rattle.rd_desk.specs.declared.calls.DeskReply.TheVariants as replied
use Rattle.rd_drive.specs.declared.plan.Job.{Job}
use Rattle.rd_front.specs.Front.{end_call}
use Rattle.rd_front.specs.State.{DeviceDeskState, FrontState, SessionStation}
use Rattle.rd_front.specs.declared.calls.FrontCall.{FrontCall}
use Rattle.rd_front.specs.declared.calls.FrontReply.{FrontReply}
use Rattle.rd_hello.specs.declared.end_fault.EndFault.{EndFault}
use Rattle.rd_hello.specs.declared.end_fault.EndFault.TheVariants as fault
use Rattle.rd_served_causes.proofs.JournalsAskingLemmas.{HeardAs}
use Rattle.rd_served_causes.proofs.JournalsAskingLemmas as asking_of
use Rattle.rd_served_causes.proofs.JournalsHeldLemmas.{stored_unread, turned_has}
use Rattle.rd_station.specs.Station as station
use Rattle.rd_station.specs.declared.refusals.PutWhy.{PutWhy}
use Rattle.rd_station.specs.declared.refusals.PutWhy.TheVariants as why
use Rattle.rd_turn.specs.declared.object.Entry.{Entry}
use Rattle.rd_deeds.specs.Talk.{Deed, EachAfter, Has, client_read, client_reads, is_request, stores}
use Rattle.rd_world.specs.World.{Kept}
use Rattle.rd_served_causes.proofs.ServedCauseLemmas.{IsTold, parts_told, part_told}
use Rattle.rd_served_causes.proofs.ServedComesLemmas.{ComesBy, called_comes, end_comes_none}
use Rattle.rd_served_causes.proofs.ServedKeyLemmas.{IsKeyed, IsUnder, both_true, none_of, part_keyed, parts_keyed, refreshed_calm}
use Rattle.rd_served_causes.specs.ServedDeeds.{deeds_after, deeds_of, deeds_of_calls, sent_by, stored, stored_each}
use Rattle.rd_served_causes.specs.ServedHistories.{HistoryGoes, StartsBy}
use Rattle.rd_served_causes.specs.ServedParts.{AsksAfter, AsksBy, CallsAt, Comes, EndsEach, FrontPart, IsOpenCall, PartGoes, PartsGo, asking_by, begins, directs, ended_front, ends, forgets, is_start, keeps, learns, misplaces, refreshes, sends, tells_gone, tells_there, tries, unwritten, writes}
use Rattle.rd_served_causes.specs.ServedParts as part
use Rattle.rd_served_causes.specs.ServedParts.{calls}
use Rattle.rd_served_causes.specs.ServedServed.{Asking, CallsDesk, Served, idle}
use Rattle.rd_served_sessions.proofs.ChainLemmas.{part_rises, part_unread, parts_rise}
use Rattle.rd_served_sessions.proofs.StoredLemmas.{StoresIn, ends_lack, has_split, part_stores}
use Rattle.rd_served_sessions.specs.Placed.{ComesLast, requests_read}

abbrev Of : Type 0
Of = SessionStation

-- ---- a job that is under way

-- a job comes only to a station that is live
put_live : (s after : Of) (job : Job) → station.put s job ≡ (after, None) → s.live ≡ true
put_live s after job put = by s.live refl
  where
    by : (b : Bool) → s.live ≡ b → s.live ≡ true
    by true live = live
    by false off =
        let gone : station.put_refusal s job ≡ Some why.Gone = rw off refl in
        let none : station.put_unless s job (Some why.Gone) ≡ (after, None) = subst (λ (o : Option PutWhy). station.put_unless s job o ≡ (after, None)) gone put in
        let some : Some why.Gone ≡ None = ap (λ (r : Of × Option PutWhy). r.1) none in
        absurd (cc (some))

-- a key that comes is that of the job that is under way
comes_by : (p q : Served) (place id : ℕ) (does : DeskCall) (back : DeskReply) (items : List Item) (at : CallsAt p place id does back items q) (key : Key) → ComesBy (told_by does back) key → (k : Kept) × IsUnder p.asking k × (k.job.key ≡ key) × (((at.called).middle).live ≡ true)
comes_by p q place id (desk.Put job) (replied.Put (Ok done)) items at key (inl same) =
    let c : Comes p place job = (at.asking_is).0 in (c.kept, subst (λ (a : Asking). IsUnder a c.kept) (sym c.asked) refl, sym (ap (λ (j : Job). j.key) c.job_is) ∙ sym same, put_live (at.called).middle (((at.called).step).0).0 job ((((at.called).step).0).1).1)
comes_by p q place id (desk.Put job) (replied.Put (Ok done)) items at key (inr none) = absurd none
comes_by p q place id (desk.Put job) (replied.Put (Err refusal)) items at key (inl none) = absurd none
comes_by p q place id (desk.Put job) (replied.Put (Err refusal)) items at key (inr none) = absurd none
comes_by p q place id (desk.Put job) (replied.Unfit back) items at key (inl none) = absurd none
comes_by p q place id (desk.Put job) (replied.Unfit back) items at key (inr none) = absurd none
comes_by p q place id (desk.Put job) (replied.Announced answer) items at key comes = absurd (at.asking_is).1
comes_by p q place id (desk.Put job) (replied.Worked w) items at key comes = absurd (at.asking_is).1
comes_by p q place id (desk.Put job) (replied.Collected answer) items at key comes = absurd (at.asking_is).1
comes_by p q place id (desk.Put job) (replied.Removed answer) items at key comes = absurd (at.asking_is).1
comes_by p q place id (desk.Put job) replied.Dropped items at key comes = absurd (at.asking_is).1
comes_by p q place id (desk.Put job) replied.Ended items at key comes = absurd (at.asking_is).1
comes_by p q place id desk.Announce (replied.Announced answer) items at key (inl none) = absurd none
comes_by p q place id desk.Announce (replied.Announced answer) items at key (inr none) = absurd none
comes_by p q place id desk.Announce (replied.Put answer) items at key comes = absurd ((at.called).step).1
comes_by p q place id desk.Announce (replied.Unfit job) items at key comes = absurd ((at.called).step).1
comes_by p q place id desk.Announce (replied.Worked w) items at key comes = absurd ((at.called).step).1
comes_by p q place id desk.Announce (replied.Collected answer) items at key comes = absurd ((at.called).step).1
comes_by p q place id desk.Announce (replied.Removed answer) items at key comes = absurd ((at.called).step).1
comes_by p q place id desk.Announce replied.Dropped items at key comes = absurd ((at.called).step).1
comes_by p q place id desk.Announce replied.Ended items at key comes = absurd ((at.called).step).1
comes_by p q place id desk.Collect (replied.Collected answer) items at key (inl none) = absurd none
comes_by p q place id desk.Collect (replied.Collected answer) items at key (inr none) = absurd none
comes_by p q place id desk.Collect (replied.Announced answer) items at key comes = absurd ((at.called).step).1
comes_by p q place id desk.Collect (replied.Put answer) items at key comes = absurd ((at.called).step).1
comes_by p q place id desk.Collect (replied.Unfit job) items at key comes = absurd ((at.called).step).1
comes_by p q place id desk.Collect (replied.Worked w) items at key comes = absurd ((at.called).step).1
comes_by p q place id desk.Collect (replied.Removed answer) items at key comes = absurd ((at.called).step).1
comes_by p q place id desk.Collect replied.Dropped items at key comes = absurd ((at.called).step).1
comes_by p q place id desk.Collect replied.Ended items at key comes = absurd ((at.called).step).1
comes_by p q place id desk.Remove (replied.Removed answer) items at key (inl none) = absurd none
comes_by p q place id desk.Remove (replied.Removed answer) items at key (inr none) = absurd none
comes_by p q place id desk.Remove (replied.Announced answer) items at key comes = absurd ((at.called).step).1
comes_by p q place id desk.Remove (replied.Put answer) items at key comes = absurd ((at.called).step).1
comes_by p q place id desk.Remove (replied.Unfit job) items at key comes = absurd ((at.called).step).1
comes_by p q place id desk.Remove (replied.Worked w) items at key comes = absurd ((at.called).step).1
comes_by p q place id desk.Remove (replied.Collected answer) items at key comes = absurd ((at.called).step).1
comes_by p q place id desk.Remove replied.Dropped items at key comes = absurd ((at.called).step).1
comes_by p q place id desk.Remove replied.Ended items at key comes = absurd ((at.called).step).1
comes_by p q place id (desk.Work runs) back items at key comes = absurd at.own
comes_by p q place id desk.DropChannel back items at key comes = absurd at.own
comes_by p q place id desk.End back items at key comes = absurd at.own

pub comes_under : (p q : Served) (place id : ℕ) (does : DeskCall) (back : DeskReply) (items : List Item) (at : CallsAt p place id does back items q) (key : Key) → Has (Came key) items → (k : Kept) × IsUnder p.asking k × (k.job.key ≡ key) × (((at.called).middle).live ≡ true)
comes_under p q place id does back items at key has = comes_by p q place id does back items at key (called_comes at.before at.after at.first at.last does back items at.called key has)

-- a job that is under way after a part that starts nothing was so before it
pub under_kept : (p q : Served) (x : FrontPart) (k : Kept) → PartGoes p x q → is_start x ≡ false → IsUnder q.asking k → IsUnder p.asking k
under_kept p q (part.hears channel m answer) k goes start under = absurd (cc (start))
under_kept p q tries k goes start under = absurd (cc (start))
under_kept p q keeps k goes start under = absurd (subst (λ (a : Asking). IsUnder a k) (ap (λ (v : Served). v.asking) goes.3) under)
under_kept p q forgets k goes start under = absurd (subst (λ (a : Asking). IsUnder a k) (ap (λ (v : Served). v.asking) goes.4) under)
under_kept p q misplaces k goes start under = absurd (subst (λ (a : Asking). IsUnder a k) (ap (λ (v : Served). v.asking) goes.3) under)
under_kept p q (directs st answer) k goes start under = absurd (subst (λ (a : Asking). IsUnder a k) goes.3 under)
under_kept p q (calls place id does back items) k goes start under = by does back goes.own goes.asking_is
  where
    still : q.asking ≡ p.asking → IsUnder p.asking k
    still same = subst (λ (a : Asking). IsUnder a k) same under

    came : (job : Job) (c : Comes p place job) (r : DeskReply) → AsksAfter p place job c r q.asking → IsUnder p.asking k
    came job c (replied.Put (Ok done)) e = absurd (subst (λ (a : Asking). IsUnder a k) e under)
    came job c (replied.Put (Err refusal)) e = let same : c.kept ≡ k = subst (λ (a : Asking). IsUnder a k) e under in subst (λ (a : Asking). IsUnder a k) (sym c.asked) same
    came job c (replied.Unfit back) e = absurd (subst (λ (a : Asking). IsUnder a k) e under)
    came job c (replied.Announced answer) e = absurd e
    came job c (replied.Worked w) e = absurd e
    came job c (replied.Collected answer) e = absurd e
    came job c (replied.Removed answer) e = absurd e
    came job c replied.Dropped e = absurd e
    came job c replied.Ended e = absurd e

    by : (d : DeskCall) (r : DeskReply) → IsOpenCall d → AsksBy p place id d r q.asking → IsUnder p.asking k
    by (desk.Put job) r own is = came job is.0 r is.1
    by desk.Collect (replied.Collected (Some c)) own is = absurd (subst (λ (a : Asking). IsUnder a k) is.1 under)
    by desk.Collect r own is = still is
    by desk.Announce r own is = still is
    by desk.Remove r own is = still is
    by (desk.Work runs) r own is = absurd own
    by desk.DropChannel r own is = absurd own
    by desk.End r own is = absurd own
under_kept p q (tells_gone device answer) k goes start under = subst (λ (a : Asking). IsUnder a k) goes.1 under
under_kept p q (tells_there device answer) k goes start under = subst (λ (a : Asking). IsUnder a k) goes.1 under
under_kept p q (sends channel sent) k goes start under = subst (λ (a : Asking). IsUnder a k) goes.2 under
under_kept p q (writes device c) k goes start under = absurd (subst (λ (a : Asking). IsUnder a k) (ap (λ (v : Served). v.asking) goes.1) under)
under_kept p q (unwritten device c) k goes start under = absurd (subst (λ (a : Asking). IsUnder a k) (ap (λ (v : Served). v.asking) goes.1) under)
under_kept p q (learns n answer) k goes start under = subst (λ (a : Asking). IsUnder a k) (ap (λ (v : Served). v.asking) goes.1) under
under_kept p q (refreshes device) k goes start under = subst (λ (a : Asking). IsUnder a k) (ap (λ (v : Served). v.asking) goes) under
under_kept p q (begins channel) k goes start under = absurd (subst (λ (a : Asking). IsUnder a k) (ap (λ (v : Served). v.asking) goes.3 ∙ goes.0) under)
under_kept p q (ends over told) k goes start under = absurd (subst (λ (a : Asking). IsUnder a k) goes.3 under)

-- none is
abbrev pub NoneUnder : Served → Type 0
NoneUnder p = (k : Kept) → IsUnder p.asking k → ⊥

pub idle_none : (p : Served) → p.asking ≡ idle → NoneUnder p
idle_none p is k under = subst (λ (a : Asking). IsUnder a k) is under

-- ---- keys come only where a job is under way

-- no key comes as a channel ends
pub ends_came : (over : Bool) (key : Key) (d e : DeviceDeskState) (s u : Of) (back : DeskReply) (items : List Item) → CallsDesk d e s (end_call over) back items u → Has (Came key) items → ⊥
ends_came over key d e s u back items called has = end_comes_none over back called.middle u called.step key (called_comes d e s u (end_call over) back items called key has)

-- what holds where a job is under way, at some part, holds where a key comes
part_came : (p q : Served) (x : FrontPart) → PartGoes p x q → (device : ℕ) (key : Key) → StoresIn x device (Came key) → (k : Kept) × IsUnder p.asking k × (k.job.key ≡ key)
part_came p q (calls place id does back items) goes device key has = let (k, under, same, live) = comes_under p q place id does back items goes key has.1 in (k, under, same)
part_came p q (ends over told) goes device key has =
    absurd (ends_lack (Came key) over (ends_came over key) (p.front).desks p.stations told (q.front).desks q.stations goes.1 device has)
part_came p q (part.hears channel m answer) goes device key has = absurd has
part_came p q tries goes device key has = absurd has
part_came p q keeps goes device key has = absurd has
part_came p q forgets goes device key has = absurd has
part_came p q misplaces goes device key has = absurd has
part_came p q (directs st answer) goes device key has = absurd has
part_came p q (tells_gone d answer) goes device key has = absurd has
part_came p q (tells_there d answer) goes device key has = absurd has
part_came p q (sends channel sent) goes device key has = absurd has
part_came p q (writes d c) goes device key has = absurd has
part_came p q (unwritten d c) goes device key has = absurd has
part_came p q (learns n answer) goes device key has = absurd has
part_came p q (refreshes d) goes device key has = absurd has
part_came p q (begins channel) goes device key has = absurd has

pub none_came : (ps : List FrontPart) (p q : Served) → PartsGo p ps q → StartsBy false ps → NoneUnder p → (device : ℕ) (key : Key) → Has (stores device (Came key)) (deeds_after ps []) → ⊥
none_came [] p q goes all none device key has = has
none_came (x ∷ ps) p q goes all none device key has = elim (has_split (stores device (Came key)) x ps has) [
  | inl later ↦ none_came ps goes.0 q goes.2 all.1 (λ k under. none k (under_kept p goes.0 x k goes.1 all.0 under)) device key later
  | inr here ↦ (let (k, under, same) = part_came p goes.0 x goes.1 device key (part_stores x device (Came key) here) in none k under)
]

-- a key that comes is one of the channel that is on
pub came_on : (n : ℕ) (ps : List FrontPart) (p q : Served) → PartsGo p ps q → IsKeyed p → n ≤ (p.front).channel → (q.front).channel ≤ n → (device : ℕ) (key : Key) → Has (stores device (Came key)) (deeds_after ps []) → key.channel ≡ n
came_on n [] p q goes keyed low high device key has = absurd has
came_on n (x ∷ ps) p q goes keyed low high device key has =
    let one = part_rises p goes.0 x goes.1 in
    let more = parts_rise ps goes.0 q goes.2 in
    let is : (p.front).channel ≡ n = omega (arith, one, more, low, high) in
    elim (has_split (stores device (Came key)) x ps has) [
      | inl later ↦ came_on n ps goes.0 q goes.2 (part_keyed p goes.0 x goes.1 keyed) (omega (arith, one, low)) high device key later
      | inr here ↦ (let (k, under, same) = part_came p goes.0 x goes.1 device key (part_stores x device (Came key) here) in ap (λ (l : Key). l.channel) (sym same) ∙ (keyed.asking k under).channel ∙ is)
    ]

-- ---- the request that was read last

-- A job that is under way or kept back is that of the request that was read last on the channel.
pub record IsLast (p : Served) (deeds : List Deed) : Type 0 where
  pub asking : (k : Kept) → IsUnder p.asking k → requests_read (p.front).channel deeds ≡ suc k.job.key.index
  pub kept : (k : Kept) → (p.front).kept ≡ Some k → requests_read (p.front).channel deeds ≡ suc k.job.key.index

-- nothing more was read there
same_count : (c n : ℕ) (more deeds : List Deed) → client_read c more ≡ client_read c deeds → n ≡ c → requests_read n more ≡ requests_read c deeds
same_count c n more deeds read same = ap (λ (m : ℕ). requests_read m more) same ∙ ap (λ (ms : List (List ℕ)). length (filter is_request ms)) read

last_before : (p q : Served) (more deeds : List Deed) → client_read (p.front).channel more ≡ client_read (p.front).channel deeds → (q.front).channel ≡ (p.front).channel → (q.front).kept ≡ (p.front).kept → ((k : Kept) → IsUnder q.asking k → IsUnder p.asking k)
    → IsLast p deeds → IsLast q more
last_before p q more deeds read channel kept under is = record {
  asking = λ k now. same_count (p.front).channel (q.front).channel more deeds read channel ∙ is.asking k (under k now);
  kept = λ k now. same_count (p.front).channel (q.front).channel more deeds read channel ∙ is.kept k (sym kept ∙ now);
}

-- none is under way or kept back
last_none : (q : Served) (deeds : List Deed) → NoneUnder q → (q.front).kept ≡ None → IsLast q deeds
last_none q deeds none kept = record { asking = λ k under. absurd (none k under); kept = λ k is. absurd (cc (kept, is)) }

-- a message was heard that asks for no job
last_heard : (p q : Served) (channel : ℕ) (m : List ℕ) (answer : Result Heard EndFault) (deeds : List Deed) → PartGoes p (part.hears channel m answer) q → asking_by answer ≡ idle → IsLast q deeds
last_heard p q channel m answer deeds goes none =
    last_none q deeds (idle_none q (goes.4 ∙ none)) (ap (λ (s : FrontState). s.kept) (goes.3).1 ∙ none_of (p.front).kept (both_true _ _ (both_true (p.front).on _ goes.2).1).0)

pub part_last : (p q : Served) (x : FrontPart) (deeds : List Deed) → PartGoes p x q → IsKeyed p → IsTold p deeds → IsLast p deeds → IsLast q (deeds_of x ++ deeds)
part_last p q (part.hears channel m (Ok (Ask device job))) deeds goes keyed told is = record {
  asking = λ k under. by k (subst (λ (a : Asking). IsUnder a k) goes.4 under) (subst (HeardAs (p.front).client m) ((goes.3).0).1 (asking_of.hears (p.front).client m));
  kept = λ k some. absurd (let none = ap (λ (s : FrontState). s.kept) (goes.3).1 ∙ none_of (p.front).kept (both_true _ _ (both_true (p.front).on _ goes.2).1).0 in cc (none, some));
}
  where
    told_so : IsTold q (client_reads channel m ∷ deeds)
    told_so = part_told p q (part.hears channel m (Ok (Ask device job))) deeds goes keyed told

    by : (k : Kept) → record { device = device; job = job } ≡ k → HeardAs (p.front).client m ((q.front).client, Ok (Ask device job)) → requests_read (q.front).channel (client_reads channel m ∷ deeds) ≡ suc k.job.key.index
    by k under (same, asked, one, faulty, none, r, spelled, named, is_job) =
        let index : k.job.key.index ≡ ((p.front).client).asked = ap (λ (x : Kept). x.job.key.index) (sym under) ∙ ap (λ (j : Job). j.key.index) is_job in
        let count : requests_read (q.front).channel (client_reads channel m ∷ deeds) ≡ ((q.front).client).asked = told_so.counted (ap (λ (s : FrontState). s.on) (goes.3).1 ∙ (both_true (p.front).on _ goes.2).0) (faulty ∙ none) in
        omega (arith, index, asked, count)
part_last p q (part.hears channel m (Ok Nothing)) deeds goes keyed told is = last_heard p q channel m (Ok Nothing) (client_reads channel m ∷ deeds) goes refl
part_last p q (part.hears channel m (Ok (Print n))) deeds goes keyed told is = last_heard p q channel m (Ok (Print n)) (client_reads channel m ∷ deeds) goes refl
part_last p q (part.hears channel m (Err fault.Memory)) deeds goes keyed told is = last_heard p q channel m (Err fault.Memory) deeds goes refl
part_last p q (part.hears channel m (Err (fault.Order state packet))) deeds goes keyed told is = last_heard p q channel m (Err (fault.Order state packet)) (client_reads channel m ∷ deeds) goes refl
part_last p q (part.hears channel m (Err (fault.Grammar bad))) deeds goes keyed told is = last_heard p q channel m (Err (fault.Grammar bad)) (client_reads channel m ∷ deeds) goes refl
part_last p q tries deeds goes keyed told is = record {
  asking = λ k under.
      let same : goes.0 ≡ k = subst (λ (a : Asking). IsUnder a k) (ap (λ (v : Served). v.asking) goes.4) under in
      same_count (p.front).channel (q.front).channel deeds deeds refl (ap (λ (v : Served). (v.front).channel) goes.4) ∙ is.kept k (goes.1 ∙ ap Some same);
  kept = λ k some. absurd (let none = ap (λ (v : Served). (v.front).kept) goes.4 in cc (none, some));
}
part_last p q keeps deeds goes keyed told is = record {
  asking = λ k under. absurd (subst (λ (a : Asking). IsUnder a k) (ap (λ (v : Served). v.asking) goes.3) under);
  kept = λ k some.
      let now : Some goes.0 ≡ Some k = sym (ap (λ (v : Served). (v.front).kept) goes.3) ∙ some in
      let same : goes.0 ≡ k = cc (now) in
      same_count (p.front).channel (q.front).channel deeds deeds refl (ap (λ (v : Served). (v.front).channel) goes.3) ∙ is.asking k (subst (λ (a : Asking). IsUnder a k) (sym goes.2) same);
}
part_last p q forgets deeds goes keyed told is =
    last_before p q deeds deeds refl (ap (λ (v : Served). (v.front).channel) goes.4) (ap (λ (v : Served). (v.front).kept) goes.4) (λ k under. under_kept p q forgets k goes refl under) is
part_last p q misplaces deeds goes keyed told is =
    last_before p q deeds deeds refl (ap (λ (v : Served). (v.front).channel) goes.3) (ap (λ (v : Served). (v.front).kept) goes.3) (λ k under. under_kept p q misplaces k goes refl under) is
part_last p q (directs st answer) deeds goes keyed told is =
    last_before p q deeds deeds refl (ap (λ (s : FrontState). s.channel) (goes.2).1) (ap (λ (s : FrontState). s.kept) (goes.2).1) (λ k under. under_kept p q (directs st answer) k goes refl under) is
part_last p q (calls place id does back items) deeds goes keyed told is =
    last_before p q (stored id items ++ deeds) deeds (stored_unread id (p.front).channel (reverse items) deeds) (ap (λ (s : FrontState). s.channel) goes.front_is) (ap (λ (s : FrontState). s.kept) goes.front_is)
    (λ k under. under_kept p q (calls place id does back items) k goes refl under) is
part_last p q (tells_gone device answer) deeds goes keyed told is =
    last_before p q (deeds_of (tells_gone device answer) ++ deeds) deeds (part_unread (p.front).channel (tells_gone device answer) deeds refl) (ap (λ (s : FrontState). s.channel) (goes.0).1) (ap (λ (s : FrontState). s.kept) (goes.0).1)
    (λ k under. under_kept p q (tells_gone device answer) k goes refl under) is
part_last p q (tells_there device answer) deeds goes keyed told is =
    last_before p q (deeds_of (tells_there device answer) ++ deeds) deeds (part_unread (p.front).channel (tells_there device answer) deeds refl) (ap (λ (s : FrontState). s.channel) (goes.0).1) (ap (λ (s : FrontState). s.kept) (goes.0).1)
    (λ k under. under_kept p q (tells_there device answer) k goes refl under) is
part_last p q (sends channel sent) deeds goes keyed told is =
    last_before p q (deeds_of (sends channel sent) ++ deeds) deeds (part_unread (p.front).channel (sends channel sent) deeds refl) (ap (λ (s : FrontState). s.channel) (goes.1).1) (ap (λ (s : FrontState). s.kept) (goes.1).1)
    (λ k under. under_kept p q (sends channel sent) k goes refl under) is
part_last p q (writes device c) deeds goes keyed told is =
    last_before p q (deeds_of (writes device c) ++ deeds) deeds refl (ap (λ (v : Served). (v.front).channel) goes.1) (ap (λ (v : Served). (v.front).kept) goes.1) (λ k under. under_kept p q (writes device c) k goes refl under) is
part_last p q (unwritten device c) deeds goes keyed told is =
    last_before p q deeds deeds refl (ap (λ (v : Served). (v.front).channel) goes.1) (ap (λ (v : Served). (v.front).kept) goes.1) (λ k under. under_kept p q (unwritten device c) k goes refl under) is
part_last p q (learns n answer) deeds goes keyed told is =
    last_before p q deeds deeds refl (ap (λ (v : Served). (v.front).channel) goes.1) (ap (λ (v : Served). (v.front).kept) goes.1) (λ k under. under_kept p q (learns n answer) k goes refl under) is
part_last p q (refreshes device) deeds goes keyed told is =
    let calm = refreshed_calm p.front device in
    last_before p q deeds deeds refl (ap (λ (v : Served). (v.front).channel) goes ∙ calm.0.channel) (ap (λ (v : Served). (v.front).kept) goes ∙ calm.1) (λ k under. under_kept p q (refreshes device) k goes refl under) is
part_last p q (begins channel) deeds goes keyed told is =
    last_none q deeds (idle_none q (ap (λ (v : Served). v.asking) goes.3 ∙ goes.0)) (ap (λ (v : Served). (v.front).kept) goes.3 ∙ none (p.front).kept refl)
  where
    none : (o : Option Kept) → (p.front).kept ≡ o → o ≡ None
    none None e = refl
    none (Some k) e = absurd (let on = (keyed.kept k e).on in let off = goes.1 in cc (on, off))
part_last p q (ends over ts) deeds goes keyed told is = last_none q (stored_each ts ++ deeds) (idle_none q goes.3) (ap (λ (s : FrontState). s.kept) goes.2 ∙ by over)
  where
    by : (o : Bool) → (ended_front o p.front (q.front).desks).kept ≡ None
    by true = refl
    by false = refl

-- ---- which keys come

stored_last : (device : ℕ) (items : List Item) (deeds : List Deed) → ((key : Key) → Has (Came key) items → requests_read key.channel deeds ≡ suc key.index) → EachAfter ComesLast deeds → EachAfter ComesLast (map (stores device) items ++ deeds)
stored_last device [] deeds came each = each
stored_last device (x ∷ items) deeds came each = (one x (λ key same. came key (inl same)), stored_last device items deeds (λ key has. came key (inr has)) each)
  where
    one : (y : Item) → ((key : Key) → Came key ≡ y → requests_read key.channel deeds ≡ suc key.index) → ComesLast (map (stores device) items ++ deeds) (stores device y)
    one (Came key) is = ap (λ (ms : List (List ℕ)). length (filter is_request ms)) (stored_unread device key.channel items deeds) ∙ is key refl
    one (Ran key moment starved parked) is = tt
    one (Cancelled key) is = tt
    one (Sent key) is = tt
    one (Cut cause) is = tt

ends_last : (over : Bool) (ds : List DeviceDeskState) (ss : List Of) (ts : List (ℕ × List Item)) (es : List DeviceDeskState) (us : List Of) (deeds : List Deed) → EndsEach over ds ss ts es us → EachAfter ComesLast deeds → EachAfter ComesLast (stored_each ts ++ deeds)
ends_last over [] [] [] [] [] deeds ended each = each
ends_last over (d ∷ ds) (s ∷ ss) (t ∷ ts) (e ∷ es) (u ∷ us) deeds ended each =
    subst (EachAfter ComesLast) (sym (append_assoc (stored_each ts) (stored t.0 t.1) deeds))
    (ends_last over ds ss ts es us (stored t.0 t.1 ++ deeds) ended.3 (stored_last t.0 (reverse t.1) deeds (λ key has. absurd (ends_came over key d e s u ended.0 t.1 ended.2 (turned_has (Came key) t.1 has))) each))
ends_last over ds ss ts es us deeds ended each = absurd ended

part_comes : (p q : Served) (x : FrontPart) (deeds : List Deed) → PartGoes p x q → IsKeyed p → IsTold p deeds → IsLast p deeds → EachAfter ComesLast deeds → EachAfter ComesLast (deeds_of x ++ deeds)
part_comes p q (part.hears channel m (Err fault.Memory)) deeds goes keyed told is each = each
part_comes p q (part.hears channel m (Err (fault.Order state packet))) deeds goes keyed told is each = (tt, each)
part_comes p q (part.hears channel m (Err (fault.Grammar bad))) deeds goes keyed told is each = (tt, each)
part_comes p q (part.hears channel m (Ok h)) deeds goes keyed told is each = (tt, each)
part_comes p q tries deeds goes keyed told is each = each
part_comes p q keeps deeds goes keyed told is each = each
part_comes p q forgets deeds goes keyed told is each = each
part_comes p q misplaces deeds goes keyed told is each = each
part_comes p q (directs st answer) deeds goes keyed told is each = each
part_comes p q (calls place id does back items) deeds goes keyed told is each =
    stored_last id (reverse items) deeds (λ key has.
    let (k, under, same, live) = comes_under p q place id does back items goes key (turned_has (Came key) items has) in
    let next = keyed.asking k under in
    ap (λ (l : Key). requests_read l.channel deeds) (sym same) ∙ ap (λ (c : ℕ). requests_read c deeds) next.channel ∙ is.asking k under ∙ ap (λ (l : Key). suc l.index) same) each
part_comes p q (tells_gone device (Ok done)) deeds goes keyed told is each = (tt, each)
part_comes p q (tells_gone device (Err error)) deeds goes keyed told is each = each
part_comes p q (tells_there device (Ok done)) deeds goes keyed told is each = (tt, each)
part_comes p q (tells_there device (Err error)) deeds goes keyed told is each = each
part_comes p q (sends channel None) deeds goes keyed told is each = each
part_comes p q (sends channel (Some o)) deeds goes keyed told is each = by o.answers
  where
    by : (answers : Option Key) → EachAfter ComesLast (sent_by channel o.message answers ++ deeds)
    by None = (tt, each)
    by (Some key) = (tt, each)
part_comes p q (writes device c) deeds goes keyed told is each = (tt, each)
part_comes p q (unwritten device c) deeds goes keyed told is each = each
part_comes p q (learns n answer) deeds goes keyed told is each = each
part_comes p q (refreshes device) deeds goes keyed told is each = each
part_comes p q (begins channel) deeds goes keyed told is each = each
part_comes p q (ends over ts) deeds goes keyed told is each = ends_last over (p.front).desks p.stations ts (q.front).desks q.stations deeds goes.1 each

parts_comes : (ps : List FrontPart) (p q : Served) (deeds : List Deed) → PartsGo p ps q → IsKeyed p → IsTold p deeds → IsLast p deeds → EachAfter ComesLast deeds → EachAfter ComesLast (deeds_after ps deeds) × IsLast q (deeds_after ps deeds)
parts_comes [] p q deeds goes keyed told is each = (each, subst (λ (v : Served). IsLast v deeds) (sym goes) is)
parts_comes (x ∷ ps) p q deeds goes keyed told is each =
    parts_comes ps goes.0 q (deeds_of x ++ deeds) goes.2 (part_keyed p goes.0 x goes.1 keyed) (part_told p goes.0 x deeds goes.1 keyed told) (part_last p goes.0 x deeds goes.1 keyed told is) (part_comes p goes.0 x deeds goes.1 keyed told is each)

-- In a whole history each request comes while it is the last that was read.
pub history_comes : (entries : List (Entry FrontCall FrontReply)) (parts : List (List FrontPart)) (p q : Served) (deeds : List Deed) → HistoryGoes p entries parts q → IsKeyed p → IsTold p deeds → IsLast p deeds → EachAfter ComesLast deeds → EachAfter ComesLast (deeds_of_calls parts deeds)
history_comes [] [] p q deeds goes keyed told is each = each
history_comes [] (ps ∷ parts) p q deeds goes keyed told is each = absurd goes
history_comes (e ∷ entries) [] p q deeds goes keyed told is each = absurd goes
history_comes (e ∷ entries) (ps ∷ parts) p q deeds goes keyed told is each =
    let one = parts_comes ps p goes.0 deeds (goes.1).goes keyed told is each in
    history_comes entries parts goes.0 q (deeds_after ps deeds) goes.2 (parts_keyed ps p goes.0 (goes.1).goes keyed) (parts_told ps p goes.0 deeds (goes.1).goes keyed told) one.1 one.0
