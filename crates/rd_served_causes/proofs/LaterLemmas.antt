-- No request comes to a device after one that was refused for its worn journal.
use Rattle.std.proofs.Common.{◌≡◌, ◌∙◌, refl, sym, ap, subst, inl, inr, ℕ, ◌<◌, ◌^◌, ◌==◌, ◌&&◌, ◌||◌, Bool, true, false, cond, List, [], ◌∷◌, ◌++◌, map, reverse, Option, Some, None, Result, Ok, Err, slice_get, eq-eqb, eqb-true, append_assoc}
use Rattle.std.specs.List.{cons_option}
use Rattle.std.specs.Option.{option_map_or}
use Rattle.rd_base.specs.Statuses.{insufficient_resources}
use Rattle.rd_base.specs.declared.journal.Item.{Item}
use Rattle.rd_base.specs.declared.journal.Item.TheVariants.{Came, Cancelled, Cut, Ran, Sent}
use Rattle.rd_base.specs.declared.journal.Key.{Key}
use Rattle.rd_base.specs.declared.status.Status.{Status}
use Rattle.rd_client.specs.Core.{Outgoing}
use Rattle.rd_client.specs.Events.{AreWritable}
use Rattle.rd_client.specs.declared.heard.Heard.{Heard}
use Rattle.rd_desk.specs.Desk.{told_by}
use Rattle.rd_desk.specs.declared.calls.DeskCall.{DeskCall}
use Rattle.rd_desk.specs.declared.calls.DeskCall.TheVariants as desk
use Rattle.rd_desk.specs.declared.calls.DeskReply.{DeskReply}
use Rattle.rd_desk.specs.declared.calls.DeskReply.TheVariants as replied
use Rattle.rd_devices.specs.declared.list.Announce.{Announce}
use Rattle.rd_drive.specs.declared.plan.Job.{Job}
use Rattle.rd_front.specs.Front.{end_call, with_new_data}
use Rattle.rd_front.specs.State.{DeviceDeskState, FrontState, SessionStation}
use Rattle.rd_hello.specs.declared.end_fault.EndFault.{EndFault}
use Rattle.rd_hello.specs.declared.end_fault.EndFault.TheVariants as end_fault
use Rattle.rd_irp.specs.declared.completion.Head.{Head}
use Rattle.rd_served_order.proofs.JournalsCameLemmas.{came_true}
use Rattle.rd_served_order.proofs.JournalsHeldLemmas.{turned_has}
use Rattle.rd_served_order.proofs.JournalsShortLemmas.{came_read}
use Rattle.rd_station.specs.declared.answers.Completion.{Completion}
use Rattle.rd_world.specs.Events.{completion_message}
use Rattle.rd_deeds.specs.Talk.{Deed, EachAfter, Has, adds, client_reads, client_writes, client_wrote, completes, head_in, journal, on, removes, stores, written_by_client}
use Rattle.rd_deeds.specs.Told.{ComesUnworn, came, came_as, is_of_device, says_worn}
use Rattle.rd_served_order.proofs.ServedCauseLemmas.{found, stored_elsewhere, stored_here}
use Rattle.rd_served_order.proofs.ServedComesLemmas.{ComesBy, called_comes, end_comes_none}
use Rattle.rd_served_order.proofs.ServedKeyLemmas.{IsKeyed, IsUnder, refreshed_calm}
use Rattle.rd_served_order.proofs.ServedStandingLemmas.{IsKnownAt, sent_first}
use Rattle.rd_served_order.specs.ServedDeeds.{deeds_of, sent_by, stored, stored_each}
use Rattle.rd_served_order.specs.ServedParts.{CallsAt, Comes, EndsEach, FrontPart, PartGoes, begins, directs, ends, forgets, hears, keeps, learns, misplaces, refreshes, sends, tells_gone, tells_there, tries, unwritten, writes}
use Rattle.rd_served_order.specs.ServedParts as part
use Rattle.rd_served_order.specs.ServedServed.{Asking, Served, hands, idle}
use Rattle.rd_served_refusals.proofs.BytesLemmas.{is_of_own}
use Rattle.rd_served_causes.proofs.OpenLemmas.{call_grows, ended_on}
use Rattle.rd_served_causes.proofs.RefuseLemmas.{IsAt, none_comes}
use Rattle.rd_served_causes.proofs.SayLemmas.{AllRight, AreSaid, IsWornFor, RightAt}
use Rattle.rd_served_causes.proofs.StepLemmas.{refreshed_front}
use Rattle.rd_served_causes.specs.Causes.{HaveDesks}
use Rattle.rd_served_causes.specs.Open.{IsDeskAt, Never}
use Rattle.rd_served_causes.specs.Worn.{IsWorn}

abbrev Of : Type 0
Of = SessionStation

-- ---- lists

came_less : (c : ℕ) (xs ys : List Item) (index : ℕ) → came c (xs ++ ys) index ≡ false → came c ys index ≡ false
came_less c [] ys index is = is
came_less c (x ∷ xs) ys index is = came_less c xs ys index (by (came_as c index x) is)
  where
    by : (b : Bool) → (b || came c (xs ++ ys) index) ≡ false → came c (xs ++ ys) index ≡ false
    by true e = absurd (cc (e))
    by false e = e

stored_has : (k : Key) (m : List ℕ) (device : ℕ) (items : List Item) (deeds : List Deed) → Has (completes k m) (map (stores device) items ++ deeds) → Has (completes k m) deeds
stored_has k m device [] deeds has = has
stored_has k m device (x ∷ items) deeds (inl same) = absurd (cc (same))
stored_has k m device (x ∷ items) deeds (inr later) = stored_has k m device items deeds later

-- what was written was written on its channel
wrote_has : (k : Key) (m : List ℕ) (deeds : List Deed) → Has (completes k m) deeds → client_wrote k.channel deeds ≡ [] → ⊥
wrote_has k m [] none is = none
wrote_has k m (y ∷ deeds) (inl same) is = absurd (
    let here : client_wrote k.channel (completes k m ∷ deeds) ≡ [] = subst (λ (z : Deed). client_wrote k.channel (z ∷ deeds) ≡ []) (sym same) is in
    let some : client_wrote k.channel (completes k m ∷ deeds) ≡ m ∷ client_wrote k.channel deeds = ap (λ (b : Bool). cons_option (cond b (Some m) None) (client_wrote k.channel deeds)) (eq-eqb k.channel k.channel refl) in
    cc (here, some)
    )
wrote_has k m (y ∷ deeds) (inr later) is = wrote_has k m deeds later (rest (written_by_client k.channel y) is)
  where
    rest : (o : Option (List ℕ)) → cons_option o (client_wrote k.channel deeds) ≡ [] → client_wrote k.channel deeds ≡ []
    rest None e = e
    rest (Some x) e = absurd (cc (e))

-- ---- what is known

-- While a channel is on, the journal of a device is worn of which a request was refused for it on that channel; and no request came after such a one.
pub record AreUnworn (p : Served) (deeds : List Deed) : Type 0 where
  pub refused : (p.front).on ≡ true → (k : Key) (m : List ℕ) → Has (completes k m) deeds → k.channel ≡ (p.front).channel → (device : ℕ) → says_worn device m ≡ true → came k.channel (journal device deeds) k.index ≡ false
      → (place : ℕ) (d : DeviceDeskState) (s : Of) → IsDeskAt p place d s → d.id ≡ device → IsWorn s
  pub comes : EachAfter ComesUnworn deeds

abbrev IsUnwornBy : Deed → Type 0
IsUnwornBy y = (before : List Deed) → ComesUnworn before y

unworn_same : (p q : Served) (deeds more : List Deed) → (q.front).on ≡ (p.front).on → (q.front).channel ≡ (p.front).channel → (q.front).desks ≡ (p.front).desks → q.stations ≡ p.stations → ((k : Key) (m : List ℕ) → Has (completes k m) more → Has (completes k m) deeds)
    → ((d : ℕ) → journal d more ≡ journal d deeds) → EachAfter ComesUnworn more → AreUnworn p deeds → AreUnworn q more
unworn_same p q deeds more on_is channel desks stations less same comes is = record {
  refused = λ now k m has here device worn none place d s at id.
      is.refused (sym on_is ∙ now) k m (less k m has) (here ∙ channel) device worn (sym (ap (λ (j : List Item). came k.channel j k.index) (same device)) ∙ none) place d s
      (ap (λ (ds : List DeviceDeskState). slice_get ds place) (sym desks) ∙ at.0, ap (λ (ss : List Of). slice_get ss place) (sym stations) ∙ at.1) id;
  comes = comes;
}

unworn_idle : (p q : Served) (deeds : List Deed) → (q.front).on ≡ (p.front).on → (q.front).channel ≡ (p.front).channel → (q.front).desks ≡ (p.front).desks → q.stations ≡ p.stations → AreUnworn p deeds → AreUnworn q deeds
unworn_idle p q deeds on_is channel desks stations is = unworn_same p q deeds deeds on_is channel desks stations (λ k m has. has) (λ d. refl) is.comes is

-- a deed that completes nothing and stores nothing
unworn_beside : (p q : Served) (deeds : List Deed) (y : Deed) → (q.front).on ≡ (p.front).on → (q.front).channel ≡ (p.front).channel → (q.front).desks ≡ (p.front).desks → q.stations ≡ p.stations → ((k : Key) (m : List ℕ) → completes k m ≡ y → ⊥) → ((d : ℕ) → journal d (y ∷ deeds) ≡ journal d deeds) → ComesUnworn deeds y
    → AreUnworn p deeds → AreUnworn q (y ∷ deeds)
unworn_beside p q deeds y on_is channel desks stations other same comes is =
    unworn_same p q deeds (y ∷ deeds) on_is channel desks stations (λ k m has. elim has [ inl here ↦ absurd (other k m here) | inr later ↦ later ]) same (comes, is.comes) is

-- ---- what is stored

stored_comes : (id : ℕ) (items : List Item) (deeds : List Deed)
    → ((key : Key) → Has (Came key) items → (k : Key) (m : List ℕ) → Has (completes k m) deeds → k.channel ≡ key.channel → says_worn id m ≡ true → came k.channel (journal id deeds) k.index ≡ false → ⊥)
    → EachAfter ComesUnworn deeds → EachAfter ComesUnworn (map (stores id) items ++ deeds)
stored_comes id [] deeds never each = each
stored_comes id (x ∷ items) deeds never each = (one x (λ key same. never key (inl same)), stored_comes id items deeds (λ key has. never key (inr has)) each)
  where
    one : (y : Item) → ((key : Key) → Came key ≡ y → (k : Key) (m : List ℕ) → Has (completes k m) deeds → k.channel ≡ key.channel → says_worn id m ≡ true → came k.channel (journal id deeds) k.index ≡ false → ⊥) → ComesUnworn (map (stores id) items ++ deeds) (stores id y)
    one (Came key) none = λ k m has channel worn unserved.
        absurd (none key refl k m (stored_has k m id items deeds has) channel worn (came_less k.channel items (journal id deeds) k.index (sym (ap (λ (j : List Item). came k.channel j k.index) (stored_here id items deeds)) ∙ unserved)))
    one (Ran key moment starved parked) none = tt
    one (Cancelled key) none = tt
    one (Sent key) none = tt
    one (Cut cause) none = tt

ends_comes : (over : Bool) (ds : List DeviceDeskState) (ss : List Of) (ts : List (ℕ × List Item)) (es : List DeviceDeskState) (us : List Of) (deeds : List Deed) → EndsEach over ds ss ts es us → EachAfter ComesUnworn deeds → EachAfter ComesUnworn (stored_each ts ++ deeds)
ends_comes over [] [] [] [] [] deeds ended each = each
ends_comes over (d ∷ ds) (s ∷ ss) (t ∷ ts) (e ∷ es) (u ∷ us) deeds ended each =
    subst (EachAfter ComesUnworn) (sym (append_assoc (stored_each ts) (stored t.0 t.1) deeds))
    (ends_comes over ds ss ts es us (stored t.0 t.1 ++ deeds) ended.3
    (stored_comes t.0 (reverse t.1) deeds (λ key has k m some channel worn none. end_comes_none over ended.0 (ended.2).middle u (ended.2).step key (called_comes d e s u (end_call over) ended.0 t.1 ended.2 key (turned_has (Came key) t.1 has))) each))
ends_comes over ds ss ts es us deeds ended each = absurd ended

-- a key that comes is that of the job that is under way
pub comes_next : (p q : Served) (place id : ℕ) (does : DeskCall) (back : DeskReply) (items : List Item) → IsKeyed p → (at : CallsAt p place id does back items q) → (key : Key) → ComesBy (told_by does back) key → ((p.front).on ≡ true) × (key.channel ≡ (p.front).channel)
comes_next p q place id (desk.Put job) (replied.Put (Ok done)) items keyed at key (inl same) =
    let c : Comes p place job = (at.asking_is).0 in
    let next = keyed.asking c.kept (subst (λ (a : Asking). IsUnder a c.kept) (sym c.asked) refl) in
    (next.on, ap (λ (k : Key). k.channel) same ∙ ap (λ (j : Job). j.key.channel) c.job_is ∙ next.channel)
comes_next p q place id (desk.Put job) (replied.Put (Ok done)) items keyed at key (inr none) = absurd none
comes_next p q place id (desk.Put job) (replied.Put (Err refusal)) items keyed at key (inl none) = absurd none
comes_next p q place id (desk.Put job) (replied.Put (Err refusal)) items keyed at key (inr none) = absurd none
comes_next p q place id (desk.Put job) (replied.Unfit back) items keyed at key (inl none) = absurd none
comes_next p q place id (desk.Put job) (replied.Unfit back) items keyed at key (inr none) = absurd none
comes_next p q place id (desk.Put job) (replied.Announced answer) items keyed at key comes = absurd (at.asking_is).1
comes_next p q place id (desk.Put job) (replied.Worked w) items keyed at key comes = absurd (at.asking_is).1
comes_next p q place id (desk.Put job) (replied.Collected answer) items keyed at key comes = absurd (at.asking_is).1
comes_next p q place id (desk.Put job) (replied.Removed answer) items keyed at key comes = absurd (at.asking_is).1
comes_next p q place id (desk.Put job) replied.Dropped items keyed at key comes = absurd (at.asking_is).1
comes_next p q place id (desk.Put job) replied.Ended items keyed at key comes = absurd (at.asking_is).1
comes_next p q place id desk.Announce (replied.Announced answer) items keyed at key (inl none) = absurd none
comes_next p q place id desk.Announce (replied.Announced answer) items keyed at key (inr none) = absurd none
comes_next p q place id desk.Announce (replied.Put answer) items keyed at key comes = absurd ((at.called).step).1
comes_next p q place id desk.Announce (replied.Unfit job) items keyed at key comes = absurd ((at.called).step).1
comes_next p q place id desk.Announce (replied.Worked w) items keyed at key comes = absurd ((at.called).step).1
comes_next p q place id desk.Announce (replied.Collected answer) items keyed at key comes = absurd ((at.called).step).1
comes_next p q place id desk.Announce (replied.Removed answer) items keyed at key comes = absurd ((at.called).step).1
comes_next p q place id desk.Announce replied.Dropped items keyed at key comes = absurd ((at.called).step).1
comes_next p q place id desk.Announce replied.Ended items keyed at key comes = absurd ((at.called).step).1
comes_next p q place id desk.Collect (replied.Collected answer) items keyed at key (inl none) = absurd none
comes_next p q place id desk.Collect (replied.Collected answer) items keyed at key (inr none) = absurd none
comes_next p q place id desk.Collect (replied.Announced answer) items keyed at key comes = absurd ((at.called).step).1
comes_next p q place id desk.Collect (replied.Put answer) items keyed at key comes = absurd ((at.called).step).1
comes_next p q place id desk.Collect (replied.Unfit job) items keyed at key comes = absurd ((at.called).step).1
comes_next p q place id desk.Collect (replied.Worked w) items keyed at key comes = absurd ((at.called).step).1
comes_next p q place id desk.Collect (replied.Removed answer) items keyed at key comes = absurd ((at.called).step).1
comes_next p q place id desk.Collect replied.Dropped items keyed at key comes = absurd ((at.called).step).1
comes_next p q place id desk.Collect replied.Ended items keyed at key comes = absurd ((at.called).step).1
comes_next p q place id desk.Remove (replied.Removed answer) items keyed at key (inl none) = absurd none
comes_next p q place id desk.Remove (replied.Removed answer) items keyed at key (inr none) = absurd none
comes_next p q place id desk.Remove (replied.Announced answer) items keyed at key comes = absurd ((at.called).step).1
comes_next p q place id desk.Remove (replied.Put answer) items keyed at key comes = absurd ((at.called).step).1
comes_next p q place id desk.Remove (replied.Unfit job) items keyed at key comes = absurd ((at.called).step).1
comes_next p q place id desk.Remove (replied.Worked w) items keyed at key comes = absurd ((at.called).step).1
comes_next p q place id desk.Remove (replied.Collected answer) items keyed at key comes = absurd ((at.called).step).1
comes_next p q place id desk.Remove replied.Dropped items keyed at key comes = absurd ((at.called).step).1
comes_next p q place id desk.Remove replied.Ended items keyed at key comes = absurd ((at.called).step).1
comes_next p q place id (desk.Work runs) back items keyed at key comes = absurd at.own
comes_next p q place id desk.DropChannel back items keyed at key comes = absurd at.own
comes_next p q place id desk.End back items keyed at key comes = absurd at.own

calls_unworn : (p q : Served) (place id : ℕ) (does : DeskCall) (back : DeskReply) (items : List Item) (deeds : List Deed) → IsKnownAt p deeds → CallsAt p place id does back items q → AreUnworn p deeds → AreUnworn q (stored id items ++ deeds)
calls_unworn p q place id does back items deeds known at is = record {
  refused = λ now k m has here device worn none pl d s there same.
      let was = is.refused (sym (ap (λ (f : FrontState). f.on) at.front_is) ∙ now) k m (stored_has k m id (reverse items) deeds has) (here ∙ ap (λ (f : FrontState). f.channel) at.front_is) device worn (less device k none (id == device) refl) in
      elim (found p q place id does back items deeds known.keyed known.told at pl d s there) [
        | inl (this, own, station) ↦ subst IsWorn (sym station) (call_grows p q place id does back items known.keyed at (was place at.before at.first (at.there, at.has) (at.id_is ∙ sym own ∙ same)))
        | inr (other, before) ↦ was pl d s before same
      ];
  comes = stored_comes id (reverse items) deeds (λ key has k m some channel worn none.
      let come = called_comes at.before at.after at.first at.last does back items at.called key (turned_has (Came key) items has) in
      let (on, here) = comes_next p q place id does back items known.keyed at key come in
      none_comes p q place id does back items deeds known at (is.refused on k m some (channel ∙ here) id worn none place at.before at.first (at.there, at.has) at.id_is) key come) is.comes;
}
  where
    less : (device : ℕ) (k : Key) → came k.channel (journal device (stored id items ++ deeds)) k.index ≡ false → (b : Bool) → (id == device) ≡ b → came k.channel (journal device deeds) k.index ≡ false
    less device k none true e =
        came_less k.channel (reverse items) (journal device deeds) k.index
        (sym (ap (λ (j : List Item). came k.channel j k.index) (subst (λ (n : ℕ). journal n (stored id items ++ deeds) ≡ reverse items ++ journal n deeds) (eqb-true id device e) (stored_here id (reverse items) deeds))) ∙ none)
    less device k none false e = sym (ap (λ (j : List Item). came k.channel j k.index) (stored_elsewhere id device (reverse items) deeds e)) ∙ none

-- ---- what a completion says

worn_head : (device : ℕ) (m : List ℕ) (h : Head) → head_in m ≡ Some h → says_worn device m ≡ true → (h.device ≡ device) × (((h.status).0 == insufficient_resources.0) ≡ true)
worn_head device m h is worn = by (h.device == device) refl (sym (ap (λ (o : Option Head). option_map_or (λ (x : Head). x.device == device && (x.status).0 == insufficient_resources.0) o false) is) ∙ worn)
  where
    by : (b : Bool) → (h.device == device) ≡ b → (b && (h.status).0 == insufficient_resources.0) ≡ true → (h.device ≡ device) × (((h.status).0 == insufficient_resources.0) ≡ true)
    by true e so = (eqb-true h.device device e, so)
    by false e so = absurd (cc (so))

worn_of : (device : ℕ) (m : List ℕ) → says_worn device m ≡ true → is_of_device device m ≡ true
worn_of device m worn = by (head_in m) worn
  where
    by : (o : Option Head) → option_map_or (λ (x : Head). x.device == device && (x.status).0 == insufficient_resources.0) o false ≡ true → option_map_or (λ (x : Head). x.device == device) o false ≡ true
    by None e = e
    by (Some h) e = first (h.device == device) ((h.status).0 == insufficient_resources.0) e
      where
        first : (b c : Bool) → (b && c) ≡ true → b ≡ true
        first true c f = refl
        first false c f = absurd (cc (f))

-- ---- each part

module _ (devices : List Announce) (desks : List DeviceDeskState) (have : HaveDesks devices desks) (writable : AreWritable devices) where
  sends_unworn : (p q : Served) (deeds : List Deed) (channel : ℕ) (o : Outgoing) → PartGoes p (sends channel (Some o)) q → AreSaid p deeds → AreUnworn p deeds → AreUnworn q (sent_by channel o.message o.answers ++ deeds)
  sends_unworn p q deeds channel o goes said is = by o.answers refl
    where
      on_is : (q.front).on ≡ (p.front).on
      on_is = ap (λ (s : FrontState). s.on) (goes.1).1

      channel_is : (q.front).channel ≡ (p.front).channel
      channel_is = ap (λ (s : FrontState). s.channel) (goes.1).1

      desks_are : (q.front).desks ≡ (p.front).desks
      desks_are = ap (λ (s : FrontState). s.desks) (goes.1).1

      right : RightAt (IsWornFor p deeds) (p.front).channel o.answers o.message (client_wrote (p.front).channel deeds)
      right =
          let (rest, first, then_is) = sent_first (p.front).client (q.front).client o (goes.1).0 in
          (subst (λ (os : List Outgoing). AllRight (IsWornFor p deeds) (p.front).channel os (client_wrote (p.front).channel deeds)) first said.out).0

      -- what the new completion says
      own : (key : Key) → o.answers ≡ Some key → (device : ℕ) → says_worn device o.message ≡ true → (place : ℕ) (d : DeviceDeskState) (s : Of) → IsDeskAt p place d s → d.id ≡ device → IsWorn s
      own key e device worn place d s at id =
          let (h, is_head, here, so) = subst (λ (a : Option Key). RightAt (IsWornFor p deeds) (p.front).channel a o.message (client_wrote (p.front).channel deeds)) e right in
          let (of, status) = worn_head device o.message h is_head worn in
          elim so [
            | inl gone ↦ absurd (let no : false ≡ true = sym (ap (λ (x : Status). x.0 == insufficient_resources.0) gone.0) ∙ status in cc (no))
            | inr short ↦ (short.2).worn place d s at (id ∙ sym of)
          ]

      by : (a : Option Key) → o.answers ≡ a → AreUnworn q (sent_by channel o.message a ++ deeds)
      by None e = unworn_beside p q deeds (client_writes channel o.message) on_is channel_is desks_are goes.3 (λ k m same. cc (same)) (λ d. refl) tt is
      by (Some key) e = record {
        refused = λ now k m has here device worn none place d s at id.
            let before : IsDeskAt p place d s = (ap (λ (ds : List DeviceDeskState). slice_get ds place) (sym desks_are) ∙ at.0, ap (λ (ss : List Of). slice_get ss place) (sym goes.3) ∙ at.1) in
            elim has [
              | inl same ↦
                  let message : m ≡ o.message = cc (same) in
                  own key e device (subst (λ (x : List ℕ). says_worn device x ≡ true) message worn) place d s before id
              | inr later ↦ is.refused (sym on_is ∙ now) k m later (here ∙ channel_is) device worn none place d s before id
            ];
        comes = (tt, is.comes);
      }

  writes_unworn : (p : Served) (deeds : List Deed) (device : ℕ) (c : Completion) → p.asking ≡ hands device c → IsAt devices desks have writable p deeds → AreUnworn p deeds → AreUnworn (record p { asking = idle }) (completes c.key (completion_message device c) ∷ deeds)
  writes_unworn p deeds device c asking at is = record {
    refused = λ now k m has here e worn none place d s there id. elim has [
      | inl same ↦
          let key : k ≡ c.key = cc (same) in
          let message : m ≡ completion_message device c = cc (same) in
          let of : (device == e) ≡ true = sym (is_of_own c.kind (record { device = device; completion = c.completion; status = (c.reply).status }) (c.reply).body room e) ∙ worn_of e (completion_message device c) (subst (λ (x : List ℕ). says_worn e x ≡ true) message worn) in
          let equal : device ≡ e = eqb-true device e of in
          let served_here : came (c.key).channel (journal e deeds) (c.key).index ≡ true = subst (λ (n : ℕ). came (c.key).channel (journal n deeds) (c.key).index ≡ true) equal (came_true c.key (journal device deeds) came_key) in
          let unserved : came (c.key).channel (journal e deeds) (c.key).index ≡ false = subst (λ (x : Key). came x.channel (journal e deeds) x.index ≡ false) key none in
          absurd (cc (served_here, unserved))
      | inr later ↦ is.refused now k m later here e worn none place d s there id
    ];
    comes = (tt, is.comes);
  }
    where
      came_key : Has (Came c.key) (journal device deeds)
      came_key = (((at.known).standing).handing device c asking).1

      room : device < 2 ^ 32
      room =
          let (r, read, named) = came_read device c.key deeds (at.known).read came_key in
          subst (λ (n : ℕ). n < 2 ^ 32) named (at.fine (c.key).channel (c.key).index r read).0

  pub part_unworn : (p q : Served) (x : FrontPart) (deeds : List Deed) → PartGoes p x q → IsAt devices desks have writable p deeds → AreSaid p deeds → AreUnworn p deeds → AreUnworn q (deeds_of x ++ deeds)
  part_unworn p q (hears channel m answer) deeds goes at said is = by answer
    where
      heard : AreUnworn q (client_reads channel m ∷ deeds)
      heard = unworn_beside p q deeds (client_reads channel m) (ap (λ (s : FrontState). s.on) (goes.3).1) (ap (λ (s : FrontState). s.channel) (goes.3).1) (ap (λ (s : FrontState). s.desks) (goes.3).1) goes.5 (λ k n same. cc (same)) (λ d. refl) tt is

      by : (a : Result Heard EndFault) → AreUnworn q (deeds_of (hears channel m a) ++ deeds)
      by (Err end_fault.Memory) = unworn_idle p q deeds (ap (λ (s : FrontState). s.on) (goes.3).1) (ap (λ (s : FrontState). s.channel) (goes.3).1) (ap (λ (s : FrontState). s.desks) (goes.3).1) goes.5 is
      by (Err (end_fault.Order state packet)) = heard
      by (Err (end_fault.Grammar bad)) = heard
      by (Ok h) = heard
  part_unworn p q tries deeds goes at said is = subst (λ (v : Served). AreUnworn v deeds) (sym goes.4) (unworn_idle p _ deeds refl refl refl refl is)
  part_unworn p q keeps deeds goes at said is = subst (λ (v : Served). AreUnworn v deeds) (sym goes.3) (unworn_idle p _ deeds refl refl refl refl is)
  part_unworn p q forgets deeds goes at said is = subst (λ (v : Served). AreUnworn v deeds) (sym goes.4) (unworn_idle p _ deeds refl refl refl refl is)
  part_unworn p q misplaces deeds goes at said is = subst (λ (v : Served). AreUnworn v deeds) (sym goes.3) (unworn_idle p _ deeds refl refl refl refl is)
  part_unworn p q (directs st answer) deeds goes at said is = unworn_idle p q deeds (ap (λ (s : FrontState). s.on) (goes.2).1) (ap (λ (s : FrontState). s.channel) (goes.2).1) (ap (λ (s : FrontState). s.desks) (goes.2).1) goes.4 is
  part_unworn p q (part.calls place id does back items) deeds goes at said is = calls_unworn p q place id does back items deeds at.known goes is
  part_unworn p q (tells_gone device (Ok done)) deeds goes at said is =
      unworn_beside p q deeds (removes device) (ap (λ (s : FrontState). s.on) (goes.0).1) (ap (λ (s : FrontState). s.channel) (goes.0).1) (ap (λ (s : FrontState). s.desks) (goes.0).1) goes.2 (λ k m same. cc (same)) (λ d. refl) tt is
  part_unworn p q (tells_gone device (Err error)) deeds goes at said is = unworn_idle p q deeds (ap (λ (s : FrontState). s.on) (goes.0).1) (ap (λ (s : FrontState). s.channel) (goes.0).1) (ap (λ (s : FrontState). s.desks) (goes.0).1) goes.2 is
  part_unworn p q (tells_there device (Ok done)) deeds goes at said is =
      unworn_beside p q deeds (adds device) (ap (λ (s : FrontState). s.on) (goes.0).1) (ap (λ (s : FrontState). s.channel) (goes.0).1) (ap (λ (s : FrontState). s.desks) (goes.0).1) goes.2 (λ k m same. cc (same)) (λ d. refl) tt is
  part_unworn p q (tells_there device (Err error)) deeds goes at said is = unworn_idle p q deeds (ap (λ (s : FrontState). s.on) (goes.0).1) (ap (λ (s : FrontState). s.channel) (goes.0).1) (ap (λ (s : FrontState). s.desks) (goes.0).1) goes.2 is
  part_unworn p q (sends channel None) deeds goes at said is = unworn_idle p q deeds (ap (λ (s : FrontState). s.on) (goes.1).1) (ap (λ (s : FrontState). s.channel) (goes.1).1) (ap (λ (s : FrontState). s.desks) (goes.1).1) goes.3 is
  part_unworn p q (sends channel (Some o)) deeds goes at said is = sends_unworn p q deeds channel o goes said is
  part_unworn p q (writes device c) deeds goes at said is = subst (λ (v : Served). AreUnworn v (completes c.key (completion_message device c) ∷ deeds)) (sym goes.1) (writes_unworn p deeds device c goes.0 at is)
  part_unworn p q (unwritten device c) deeds goes at said is = subst (λ (v : Served). AreUnworn v deeds) (sym goes.1) (unworn_idle p _ deeds refl refl refl refl is)
  part_unworn p q (learns n answer) deeds goes at said is = subst (λ (v : Served). AreUnworn v deeds) (sym goes.1) (unworn_idle p _ deeds refl refl refl refl is)
  part_unworn p q (refreshes device) deeds goes at said is =
      let still = refreshed_front Never Never Never Never p.front device in
      subst (λ (v : Served). AreUnworn v deeds) (sym goes) (unworn_idle p (record p { front = with_new_data p.front device }) deeds still.1 (refreshed_channel p.front device) still.0 refl is)
    where
      refreshed_channel : (s : FrontState) (e : ℕ) → (with_new_data s e).channel ≡ s.channel
      refreshed_channel s e = (refreshed_calm s e).0.channel
  part_unworn p q (begins channel) deeds goes at said is = subst (λ (v : Served). AreUnworn v deeds) (sym goes.3) (record {
    refused = λ now k m has here device worn none place d s there id. absurd (wrote_has k m deeds has (ap (λ (c : ℕ). client_wrote c deeds) here ∙ said.later channel goes.2));
    comes = is.comes;
  })
  part_unworn p q (ends over ts) deeds goes at said is = record {
    refused = λ now k m has here device worn none place d s there id. absurd (let off = ap (λ (f : FrontState). f.on) goes.2 ∙ ended_on over p.front (q.front).desks in cc (now, off));
    comes = ends_comes over (p.front).desks p.stations ts (q.front).desks q.stations deeds goes.1 is.comes;
  }
