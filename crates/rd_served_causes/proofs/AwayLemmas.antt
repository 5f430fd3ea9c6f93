-- What is done elsewhere leaves a channel as it was: nothing is read, written or stored of it.
use Rattle.std.proofs.Common.{◌≡◌, ◌≢◌, ◌∙◌, ◌≤◌, refl, sym, ap, subst, inl, inr, ℕ, suc, ◌==◌, ◌&&◌, ◌||◌, Bool, true, false, List, [], ◌∷◌, ◌++◌, length, map, reverse, Option, Some, None, arith, ne_eqb}
use Rattle.std.specs.Prelude.{Ok, Err, filter, if◌then◌else◌, not}
use Rattle.std.specs.List.{AllByRecursion, cons_option}
use Rattle.rd_base.specs.declared.journal.Item.{Item}
use Rattle.rd_base.specs.declared.journal.Item.TheVariants.{Came, Cancelled, Cut, Ran, Sent}
use Rattle.rd_base.specs.declared.journal.Key.{Key}
use Rattle.rd_client.specs.Core.{Outgoing}
use Rattle.rd_drive.proofs.AllLemmas.{all_append}
use Rattle.rd_front.specs.Front.{end_call}
use Rattle.rd_front.specs.State.{DeviceDeskState, SessionStation}
use Rattle.rd_hello.specs.declared.end_fault.EndFault.TheVariants as fault
use Rattle.rd_served_order.proofs.JournalsHeldLemmas.{turned_has}
use Rattle.rd_station.specs.declared.answers.Completion.{Completion}
use Rattle.rd_deeds.specs.Talk.{Deed, EndsWith, Has, adds, client_read, client_reads, client_writes, client_wrote, completes, host_begins, host_ends, host_reads, host_writes, journal, read_by_client, removes, stored_by, stores, submits, takes, tells, written_by_client}
use Rattle.rd_deeds.specs.Told.{came, came_as, is_of_device, requests_to, told, told_at, without_last}
use Rattle.rd_served_order.proofs.ServedComesLemmas.{called_comes, end_comes_none}
use Rattle.rd_served_order.proofs.ServedKeyLemmas.{IsKeyed, both_true}
use Rattle.rd_served_order.proofs.ServedStandingLemmas.{sent_first}
use Rattle.rd_served_order.specs.ServedDeeds.{AreOnChannel, deeds_of, sent_by, stored, stored_each}
use Rattle.rd_served_order.specs.ServedParts.{EndsEach, FrontPart, PartGoes, begins, calls, directs, ends, forgets, hears, keeps, learns, misplaces, refreshes, sends, tells_gone, tells_there, tries, unwritten, writes}
use Rattle.rd_served_order.specs.ServedServed.{Served, hands}
use Rattle.rd_served_refusals.specs.Heeding.{PassesNone}
use Rattle.rd_served_causes.proofs.LaterLemmas.{comes_next}

abbrev Of : Type 0
Of = SessionStation

-- ---- deeds

-- nothing of a channel is read, written or stored by a deed
abbrev pub IsAway : ℕ → Deed → Type 0
IsAway c (client_reads channel message) = channel ≢ c
IsAway c (client_writes channel message) = channel ≢ c
IsAway c (completes key message) = key.channel ≢ c
IsAway c (stores device (Came key)) = key.channel ≢ c
IsAway c _ = Unit {0}

no_more : (n : ℕ) → n ≤ n
no_more n = omega arith

one_more : (n : ℕ) → n ≤ suc n
one_more n = omega arith

both_more : (m n : ℕ) → m ≤ n → suc m ≤ suc n
both_more m n less = omega (arith, less)

-- More was done, and of a channel all is the same.
pub record IsSameOn (c : ℕ) (more deeds : List Deed) : Type 0 where
  pub read : client_read c more ≡ client_read c deeds
  pub wrote : client_wrote c more ≡ client_wrote c deeds
  pub told_is : (d : ℕ) → told c d more ≡ told c d deeds
  pub came_is : (d i : ℕ) → came c (journal d more) i ≡ came c (journal d deeds) i
  pub longer : (d : ℕ) → length (journal d deeds) ≤ length (journal d more)

pub same_on : (c : ℕ) (deeds : List Deed) → IsSameOn c deeds deeds
same_on c deeds = record { read = refl; wrote = refl; told_is = λ d. refl; came_is = λ d i. refl; longer = λ d. no_more (length (journal d deeds)) }

same_then : (c : ℕ) (most more deeds : List Deed) → IsSameOn c most more → IsSameOn c more deeds → IsSameOn c most deeds
same_then c most more deeds first second = record {
  read = first.read ∙ second.read;
  wrote = first.wrote ∙ second.wrote;
  told_is = λ d. first.told_is d ∙ second.told_is d;
  came_is = λ d i. first.came_is d i ∙ second.came_is d i;
  longer = λ d. let one = first.longer d in let two = second.longer d in omega (arith, one, two);
}

came_other : (c i : ℕ) (x : Item) (j : List Item) → IsAway c (stores 0 x) → came c (x ∷ j) i ≡ came c j i
came_other c i (Came key) j away = ap (λ (b : Bool). (b && key.index == i) || came c j i) (ne_eqb key.channel c away)
came_other c i (Ran key moment starved parked) j away = refl
came_other c i (Cancelled key) j away = refl
came_other c i (Sent key) j away = refl
came_other c i (Cut cause) j away = refl

stores_away : (c e : ℕ) (x : Item) → IsAway c (stores e x) → IsAway c (stores 0 x)
stores_away c e (Came key) away = away
stores_away c e (Ran key moment starved parked) away = tt
stores_away c e (Cancelled key) away = tt
stores_away c e (Sent key) away = tt
stores_away c e (Cut cause) away = tt

one_same : (c : ℕ) (y : Deed) (deeds : List Deed) → IsAway c y → IsSameOn c (y ∷ deeds) deeds
one_same c (stores e x) deeds away = record { read = refl; wrote = refl; told_is = λ d. refl; came_is = λ d i. by d i (e == d); longer = λ d. long d (e == d) }
  where
    by : (d i : ℕ) (b : Bool) → came c (cons_option (if b then Some x else None) (journal d deeds)) i ≡ came c (journal d deeds) i
    by d i true = came_other c i x (journal d deeds) (stores_away c e x away)
    by d i false = refl

    long : (d : ℕ) (b : Bool) → length (journal d deeds) ≤ length (cons_option (if b then Some x else None) (journal d deeds))
    long d true = one_more (length (journal d deeds))
    long d false = no_more (length (journal d deeds))
one_same c (client_reads n m) deeds away = record {
  read = ap (λ (b : Bool). cons_option (if b then Some m else None) (client_read c deeds)) (ne_eqb n c away);
  wrote = refl;
  told_is = λ d. refl;
  came_is = λ d i. refl;
  longer = λ d. no_more (length (journal d deeds));
}
one_same c (client_writes n m) deeds away = record {
  read = refl;
  wrote = ap (λ (b : Bool). cons_option (if b then Some m else None) (client_wrote c deeds)) (ne_eqb n c away);
  told_is = λ d. refl;
  came_is = λ d i. refl;
  longer = λ d. no_more (length (journal d deeds));
}
one_same c (completes key m) deeds away = record {
  read = refl;
  wrote = ap (λ (b : Bool). cons_option (if b then Some m else None) (client_wrote c deeds)) (ne_eqb key.channel c away);
  told_is = λ d. ap (λ (b : Bool). cons_option (if b && is_of_device d m then Some key.index else None) (told c d deeds)) (ne_eqb key.channel c away);
  came_is = λ d i. refl;
  longer = λ d. no_more (length (journal d deeds));
}
one_same c (removes e) deeds away = record { read = refl; wrote = refl; told_is = λ d. refl; came_is = λ d i. refl; longer = λ d. no_more (length (journal d deeds)) }
one_same c (adds e) deeds away = record { read = refl; wrote = refl; told_is = λ d. refl; came_is = λ d i. refl; longer = λ d. no_more (length (journal d deeds)) }
one_same c (submits a n o) deeds away = record { read = refl; wrote = refl; told_is = λ d. refl; came_is = λ d i. refl; longer = λ d. no_more (length (journal d deeds)) }
one_same c (takes n) deeds away = record { read = refl; wrote = refl; told_is = λ d. refl; came_is = λ d i. refl; longer = λ d. no_more (length (journal d deeds)) }
one_same c (tells n) deeds away = record { read = refl; wrote = refl; told_is = λ d. refl; came_is = λ d i. refl; longer = λ d. no_more (length (journal d deeds)) }
one_same c (host_begins n) deeds away = record { read = refl; wrote = refl; told_is = λ d. refl; came_is = λ d i. refl; longer = λ d. no_more (length (journal d deeds)) }
one_same c (host_ends n) deeds away = record { read = refl; wrote = refl; told_is = λ d. refl; came_is = λ d i. refl; longer = λ d. no_more (length (journal d deeds)) }
one_same c (host_writes n m) deeds away = record { read = refl; wrote = refl; told_is = λ d. refl; came_is = λ d i. refl; longer = λ d. no_more (length (journal d deeds)) }
one_same c (host_reads n m) deeds away = record { read = refl; wrote = refl; told_is = λ d. refl; came_is = λ d i. refl; longer = λ d. no_more (length (journal d deeds)) }

pub all_same : (c : ℕ) (more deeds : List Deed) → AllByRecursion (IsAway c) more → IsSameOn c (more ++ deeds) deeds
all_same c [] deeds away = same_on c deeds
all_same c (y ∷ more) deeds away = same_then c (y ∷ (more ++ deeds)) (more ++ deeds) deeds (one_same c y (more ++ deeds) away.0) (all_same c more deeds away.1)

-- the same was done after both
one_under : (c : ℕ) (y : Deed) (more deeds : List Deed) → IsSameOn c more deeds → IsSameOn c (y ∷ more) (y ∷ deeds)
one_under c y more deeds is = record {
  read = ap (cons_option (read_by_client c y)) is.read;
  wrote = ap (cons_option (written_by_client c y)) is.wrote;
  told_is = λ d. ap (cons_option (told_at c d y)) (is.told_is d);
  came_is = λ d i. by d i (stored_by d y);
  longer = λ d. long d (stored_by d y);
}
  where
    by : (d i : ℕ) (o : Option Item) → came c (cons_option o (journal d more)) i ≡ came c (cons_option o (journal d deeds)) i
    by d i None = is.came_is d i
    by d i (Some x) = ap (λ (b : Bool). came_as c i x || b) (is.came_is d i)

    long : (d : ℕ) (o : Option Item) → length (cons_option o (journal d deeds)) ≤ length (cons_option o (journal d more))
    long d None = is.longer d
    long d (Some x) = both_more (length (journal d deeds)) (length (journal d more)) (is.longer d)

pub all_under : (c : ℕ) (xs more deeds : List Deed) → IsSameOn c more deeds → IsSameOn c (xs ++ more) (xs ++ deeds)
all_under c [] more deeds is = is
all_under c (y ∷ xs) more deeds is = one_under c y (xs ++ more) (xs ++ deeds) (all_under c xs more deeds is)

-- ---- what was passed over stays so

pub passes_same : (c : ℕ) (more deeds rest : List Deed) → IsSameOn c more deeds → PassesNone c deeds rest → PassesNone c more rest
passes_same c more deeds rest same is = record {
  left = is.left;
  each = λ d.
      let above = all_under c rest more deeds same in
      subst (λ (ms : List (List ℕ)). EndsWith (filter (λ i. not (came c (journal d more) i)) (told c d (rest ++ more))) (filter (λ i. not (came c (journal d more) i)) (requests_to d (without_last ms)))) (sym same.read)
      (subst (λ (ts : List ℕ). EndsWith (filter (λ i. not (came c (journal d more) i)) ts) (filter (λ i. not (came c (journal d more) i)) (requests_to d (without_last (client_read c deeds))))) (sym (above.told_is d))
      (subst (λ (f : ℕ → Bool). EndsWith (filter (λ i. not (f i)) (told c d (rest ++ deeds))) (filter (λ i. not (f i)) (requests_to d (without_last (client_read c deeds))))) (λ k i. sym (same.came_is d i) k) (is.each d)));
}

-- ---- parts

abbrev AreAway : ℕ → List Deed → Type 0
AreAway c deeds = AllByRecursion (IsAway c) deeds

items_away : (c device : ℕ) (items : List Item) → ((key : Key) → Has (Came key) items → key.channel ≢ c) → AreAway c (map (stores device) items)
items_away c device [] never = tt
items_away c device (x ∷ items) never = (by x (λ key same. never key (inl same)), items_away c device items (λ key has. never key (inr has)))
  where
    by : (y : Item) → ((key : Key) → Came key ≡ y → key.channel ≢ c) → IsAway c (stores device y)
    by (Came key) none = none key refl
    by (Ran key moment starved parked) none = tt
    by (Cancelled key) none = tt
    by (Sent key) none = tt
    by (Cut cause) none = tt

pub ends_away : (c : ℕ) (over : Bool) (ds : List DeviceDeskState) (ss : List Of) (ts : List (ℕ × List Item)) (es : List DeviceDeskState) (us : List Of) → EndsEach over ds ss ts es us → AreAway c (stored_each ts)
ends_away c over [] [] [] [] [] ended = tt
ends_away c over (d ∷ ds) (s ∷ ss) (t ∷ ts) (e ∷ es) (u ∷ us) ended =
    all_append (IsAway c) (stored_each ts) (stored t.0 t.1) (ends_away c over ds ss ts es us ended.3)
    (items_away c t.0 (reverse t.1) (λ key has. absurd (end_comes_none over ended.0 (ended.2).middle u (ended.2).step key (called_comes d e s u (end_call over) ended.0 t.1 ended.2 key (turned_has (Came key) t.1 has)))))
ends_away c over ds ss ts es us ended = absurd ended

-- While a channel is off or another is on, a part does nothing there.
pub part_away : (c : ℕ) (p q : Served) (x : FrontPart) → PartGoes p x q → IsKeyed p → AreOnChannel (p.front).channel (deeds_of x) → ((p.front).on ≡ false → (((p.front).client).core).outbox ≡ [])
    → ((device : ℕ) (done : Completion) → p.asking ≡ hands device done → (p.front).on ≡ true) → (c ≡ (p.front).channel → (p.front).on ≡ false) → AllByRecursion (IsAway c) (deeds_of x)
part_away c p q x goes keyed here empty handing other = by x goes here
  where
    apart : (n : ℕ) → n ≡ (p.front).channel → (p.front).on ≡ true → n ≢ c
    apart n is now same = let off = other (sym same ∙ is) in cc (now, off)

    read_away : (channel : ℕ) (m : List ℕ) → channel ≡ (p.front).channel → (p.front).on ≡ true → AreAway c (client_reads channel m ∷ [])
    read_away channel m is now = (apart channel is now, tt)

    on_now : (b : Bool) → (p.front).on ≡ b → (o : Outgoing) (os : List Outgoing) → (((p.front).client).core).outbox ≡ o ∷ os → (p.front).on ≡ true
    on_now true e o os first = e
    on_now false e o os first = absurd (let none = empty e in cc (none, first))

    by : (y : FrontPart) → PartGoes p y q → AreOnChannel (p.front).channel (deeds_of y) → AreAway c (deeds_of y)
    by (hears channel m (Err fault.Memory)) did at = tt
    by (hears channel m (Err (fault.Order state packet))) did at = read_away channel m did.0 (both_true (p.front).on _ did.2).0
    by (hears channel m (Err (fault.Grammar bad))) did at = read_away channel m did.0 (both_true (p.front).on _ did.2).0
    by (hears channel m (Ok h)) did at = read_away channel m did.0 (both_true (p.front).on _ did.2).0
    by tries did at = tt
    by keeps did at = tt
    by forgets did at = tt
    by misplaces did at = tt
    by (directs st answer) did at = tt
    by (calls place id does back items) did at = items_away c id (reverse items) (λ key has.
        let (now, is) = comes_next p q place id does back items keyed did key (called_comes did.before did.after did.first did.last does back items did.called key (turned_has (Came key) items has)) in
        apart key.channel is now)
    by (tells_gone device (Ok done)) did at = (tt, tt)
    by (tells_gone device (Err error)) did at = tt
    by (tells_there device (Ok done)) did at = (tt, tt)
    by (tells_there device (Err error)) did at = tt
    by (sends channel None) did at = tt
    by (sends channel (Some o)) did at = let (os, first, rest) = sent_first (p.front).client (q.front).client o (did.1).0 in sent o.answers (on_now (p.front).on refl o os first) at
      where
        sent : (a : Option Key) → (p.front).on ≡ true → AreOnChannel (p.front).channel (sent_by channel o.message a) → AreAway c (sent_by channel o.message a)
        sent None now is = (apart channel is.0 now, tt)
        sent (Some key) now is = (apart key.channel is.0 now, tt)
    by (writes device done) did at = (apart done.key.channel at.0 (handing device done did.0), tt)
    by (unwritten device done) did at = tt
    by (learns n answer) did at = tt
    by (refreshes device) did at = tt
    by (begins channel) did at = tt
    by (ends over ts) did at = ends_away c over (p.front).desks p.stations ts (q.front).desks q.stations did.1
