-- What passes after a channel ended changes nothing there: nothing is read, written, told or due on it, and no request of it comes.
use Rattle.std.proofs.Common.{◌≡◌, ◌∙◌, refl, sym, ap, subst, inl, inr, ℕ, ◌==◌, ◌||◌, Bool, true, false, eqb-true, List, [], ◌∷◌, ◌++◌, map, reverse, Some, None, Option, append-nil, append_assoc}
use Rattle.std.specs.Prelude.{◌&&◌, filter, if◌then◌else◌, not}
use Rattle.std.specs.List.{AllByRecursion, cons_option}
use Rattle.std.specs.Option.{IfSome, option_map_or}
use Rattle.rd_acted.proofs.SayingLemmas.{say_as}
use Rattle.rd_acted.specs.Acted.{SayFirst, due_on, there_of}
use Rattle.rd_acted.specs.Waiting.{tellings_waiting}
use Rattle.rd_acted.specs.AnsweredRefusing.{AllRefuse}
use Rattle.rd_base.specs.declared.journal.Item.{Item}
use Rattle.rd_base.specs.declared.journal.Item.TheVariants.{Came, Cancelled, Cut, Ran, Sent}
use Rattle.rd_base.specs.declared.journal.Key.{Key}
use Rattle.rd_client.specs.Core.{Outgoing}
use Rattle.rd_acted.specs.DirectsTurns.{never, said}
use Rattle.rd_world.specs.Acts.{Tells, cache_after, is_telling, list_of, tellings_on}
use Rattle.rd_world.specs.Control.{Telling, addition, lists, removal}
use Rattle.rd_declared.specs.Devices.{Declared}
use Rattle.rd_world.specs.Recording.{client_channel}
use Rattle.rd_world.specs.Session.{IsStoredOpen}
use Rattle.rd_deeds.specs.Talk.{Deed, EachAfter, Has, adds, client_read, client_reads, client_writes, client_wrote, completes, has_ended, host_begins, host_ends, host_reads, host_writes, is_open_at, journal, open_channel, removes, request_at, stores, submits, takes, tells, until_begin}
use Rattle.rd_deeds.specs.Told.{came, came_as, requests_to, told, without_last}
use Rattle.rd_said.specs.Rest.{IsAnswerOn, WasLeft}

-- what is said of a channel, and what came of it, is what was
pub record SameOn (c : ℕ) (new old : List Deed) : Type 0 where
  pub read : client_read c new ≡ client_read c old
  pub wrote : client_wrote c new ≡ client_wrote c old
  pub line : (device : ℕ) → told c device new ≡ told c device old
  pub came_same : (device index : ℕ) → came c (journal device new) index ≡ came c (journal device old) index
  pub begun : until_begin c new ≡ until_begin c old
  pub due : (ids : List ℕ) → due_on ids c new ≡ due_on ids c old
  pub more : List Deed
  pub grown : new ≡ more ++ old

-- the deed is of another channel
abbrev pub IsOff : ℕ → List Deed → Deed → Type 0
IsOff c before (host_begins n) = (n == c) ≡ false
IsOff c before (removes device) = is_open_at c before ≡ false
IsOff c before (adds device) = is_open_at c before ≡ false
IsOff c before (client_reads n message) = (n == c) ≡ false
IsOff c before (client_writes n message) = (n == c) ≡ false
IsOff c before (completes key message) = (key.channel == c) ≡ false
IsOff c before (stores device (Came key)) = (key.channel == c) ≡ false
IsOff c before deed = Unit {0}

dropped : {A : Type 0} (b : Bool) (x : A) (xs : List A) → b ≡ false → cons_option (if b then Some x else None) xs ≡ xs
dropped {A} b x xs off = ap (λ (b : Bool). cons_option (if b then Some x else None) xs) off

dropped_and : {A : Type 0} (b d : Bool) (x : A) (xs : List A) → b ≡ false → cons_option (if b && d then Some x else None) xs ≡ xs
dropped_and {A} b d x xs off = ap (λ (b : Bool). cons_option (if b && d then Some x else None) xs) off

no_more : {A : Type 0} (b : Bool) (x : A) (xs : List A) → b ≡ false → xs ++ (if b then x ∷ [] else []) ≡ xs
no_more {A} b x xs off = ap (λ (b : Bool). xs ++ (if b then x ∷ [] else [])) off ∙ append-nil xs

module _ (c : ℕ) (deeds : List Deed) where
  -- a deed of which nothing here speaks
  stored_same : (device : ℕ) (item : Item) → ((index : ℕ) → came_as c index item ≡ false) → SameOn c (stores device item ∷ deeds) deeds
  stored_same device item off = record {
    read = refl;
    wrote = refl;
    line = λ d. refl;
    came_same = λ d index. by d index (device == d);
    begun = refl;
    due = λ ids. refl;
    more = stores device item ∷ [];
    grown = refl;
  }
    where
      by : (d index : ℕ) (b : Bool) → came c (cons_option (if b then Some item else None) (journal d deeds)) index ≡ came c (journal d deeds) index
      by d index true = ap (λ (x : Bool). x || came c (journal d deeds) index) (off index)
      by d index false = refl

  pub same_one : (x : Deed) → IsOff c deeds x → SameOn c (x ∷ deeds) deeds
  same_one (host_begins n) off = record {
    read = refl;
    wrote = refl;
    line = λ d. refl;
    came_same = λ d index. refl;
    begun = ap (λ (b : Bool). if b then deeds else until_begin c deeds) off;
    due = λ ids. no_more (n == c) (lists (there_of ids deeds)) (due_on ids c deeds) off;
    more = host_begins n ∷ [];
    grown = refl;
  }
  same_one (removes device) off = record {
    read = refl;
    wrote = refl;
    line = λ d. refl;
    came_same = λ d index. refl;
    begun = refl;
    due = λ ids. no_more (is_open_at c deeds) (removal device) (due_on ids c deeds) off;
    more = removes device ∷ [];
    grown = refl;
  }
  same_one (adds device) off = record {
    read = refl;
    wrote = refl;
    line = λ d. refl;
    came_same = λ d index. refl;
    begun = refl;
    due = λ ids. no_more (is_open_at c deeds) _ (due_on ids c deeds) off;
    more = adds device ∷ [];
    grown = refl;
  }
  same_one (client_reads n m) off = record {
    read = dropped (n == c) m (client_read c deeds) off;
    wrote = refl;
    line = λ d. refl;
    came_same = λ d index. refl;
    begun = refl;
    due = λ ids. refl;
    more = client_reads n m ∷ [];
    grown = refl;
  }
  same_one (client_writes n m) off = record {
    read = refl;
    wrote = dropped (n == c) m (client_wrote c deeds) off;
    line = λ d. refl;
    came_same = λ d index. refl;
    begun = refl;
    due = λ ids. refl;
    more = client_writes n m ∷ [];
    grown = refl;
  }
  same_one (completes key m) off = record {
    read = refl;
    wrote = dropped (key.channel == c) m (client_wrote c deeds) off;
    line = λ d. dropped_and (key.channel == c) _ key.index (told c d deeds) off;
    came_same = λ d index. refl;
    begun = refl;
    due = λ ids. refl;
    more = completes key m ∷ [];
    grown = refl;
  }
  same_one (stores device (Came key)) off = stored_same device (Came key) (λ index. ap (λ (b : Bool). b && key.index == index) off)
  same_one (stores device (Ran key moment starved parked)) off = stored_same device (Ran key moment starved parked) (λ index. refl)
  same_one (stores device (Cancelled key)) off = stored_same device (Cancelled key) (λ index. refl)
  same_one (stores device (Sent key)) off = stored_same device (Sent key) (λ index. refl)
  same_one (stores device (Cut cause)) off = stored_same device (Cut cause) (λ index. refl)
  same_one (host_ends n) off = record { read = refl; wrote = refl; line = λ d. refl; came_same = λ d index. refl; begun = refl; due = λ ids. refl; more = host_ends n ∷ []; grown = refl }
  same_one (submits a named op) off = record { read = refl; wrote = refl; line = λ d. refl; came_same = λ d index. refl; begun = refl; due = λ ids. refl; more = submits a named op ∷ []; grown = refl }
  same_one (takes n) off = record { read = refl; wrote = refl; line = λ d. refl; came_same = λ d index. refl; begun = refl; due = λ ids. refl; more = takes n ∷ []; grown = refl }
  same_one (tells n) off = record { read = refl; wrote = refl; line = λ d. refl; came_same = λ d index. refl; begun = refl; due = λ ids. refl; more = tells n ∷ []; grown = refl }
  same_one (host_writes n m) off = record { read = refl; wrote = refl; line = λ d. refl; came_same = λ d index. refl; begun = refl; due = λ ids. refl; more = host_writes n m ∷ []; grown = refl }
  same_one (host_reads n m) off = record { read = refl; wrote = refl; line = λ d. refl; came_same = λ d index. refl; begun = refl; due = λ ids. refl; more = host_reads n m ∷ []; grown = refl }

pub same_by : {c : ℕ} {x y z : List Deed} → SameOn c z y → SameOn c y x → SameOn c z x
same_by {c} {x} {y} {z} second first = record {
  read = second.read ∙ first.read;
  wrote = second.wrote ∙ first.wrote;
  line = λ d. second.line d ∙ first.line d;
  came_same = λ d index. second.came_same d index ∙ first.came_same d index;
  begun = second.begun ∙ first.begun;
  due = λ ids. second.due ids ∙ first.due ids;
  more = second.more ++ first.more;
  grown = second.grown ∙ ap (λ (ds : List Deed). second.more ++ ds) first.grown ∙ sym (append_assoc second.more first.more x);
}

pub same_none : (c : ℕ) (deeds : List Deed) → SameOn c deeds deeds
same_none c deeds = record { read = refl; wrote = refl; line = λ d. refl; came_same = λ d index. refl; begun = refl; due = λ ids. refl; more = []; grown = refl }

-- ---- so what was left there is what was

has_on : (c : ℕ) (os : List Outgoing) (o : Outgoing) → AllByRecursion (IsAnswerOn c) os → Has o os → IsAnswerOn c o
has_on c [] o on has = absurd has
has_on c (x ∷ os) o on (inl same) = subst (IsAnswerOn c) (sym same) on.0
has_on c (x ∷ os) o on (inr has) = has_on c os o on.1 has

never_same : (c : ℕ) (j k : List Item) → ((index : ℕ) → came c j index ≡ came c k index) → (xs : List ℕ) → never c j xs ≡ never c k xs
never_same c j k same [] = refl
never_same c j k same (x ∷ xs) =
    ap (λ (b : Bool). if not b then x ∷ never c j xs else never c j xs) (same x) ∙ ap (λ (ys : List ℕ). if not (came c k x) then x ∷ ys else ys) (never_same c j k same xs)

tells_since : (devices : List (ℕ × Declared)) (c : ℕ) (new old : List Deed) → SameOn c new old → (t : Telling) (m : List ℕ) → Tells devices old c t m → Tells devices new c t m
tells_since devices c new old same (lists ids) m is = is ∙ sym (ap (λ (ds : List Deed). list_of devices (cache_after ds) ids) same.begun)
tells_since devices c new old same (removal device) m is = is
tells_since devices c new old same (addition device count) m (since, before, parts, many, is) =
    (same.more ++ since, before, same.grown ∙ ap (λ (ds : List Deed). same.more ++ ds) parts ∙ sym (append_assoc same.more since (adds device ∷ before)), many, is)

pub left_same : (devices : List (ℕ × Declared)) (c : ℕ) (os : List Outgoing) (new old : List Deed) → SameOn c new old → WasLeft devices c os old → WasLeft devices c os new
left_same devices c os new old same is = record {
  on = is.on;
  refuse = subst (AllRefuse os) (sym same.wrote) is.refuse;
  unserved = λ o has key e.
      let (was, none) = is.unserved o has key e in
      let own : key.channel ≡ c = subst (λ (a : Option Key). IfSome a (λ (k : Key). k.channel ≡ c)) e (has_on c os o is.on has) in
      let read : client_read key.channel new ≡ client_read key.channel old = subst (λ (n : ℕ). client_read n new ≡ client_read n old) (sym own) same.read in (
        record { request = was.request; reply = was.reply; read = ap (λ (ms : List (List ℕ)). request_at ms key.index) read ∙ was.read; completes = was.completes; given = was.given },
        λ device. same.came_same device key.index ∙ none device,
      );
  each = λ device.
      let now : (xs : List ℕ) → never c (journal device old) xs ≡ never c (journal device new) xs = λ xs. sym (never_same c (journal device new) (journal device old) (same.came_same device) xs) in
      let (prefix, parts) = is.each device in (
        prefix,
        ap (λ (xs : List ℕ). never c (journal device new) (said c device os xs)) (same.line device) ∙ sym (now (said c device os (told c device old))) ∙ parts
            ∙ ap (λ (xs : List ℕ). prefix ++ xs) (now (requests_to device (without_last (client_read c old))) ∙ ap (λ (ms : List (List ℕ)). never c (journal device new) (requests_to device (without_last ms))) (sym same.read)),
      );
  tells =
      let ids : List ℕ = map (λ (d : ℕ × Declared). d.0) devices in
      say_as (Tells devices old c) (Tells devices new c) (tells_since devices c new old same) (tellings_on c new ++ tellings_waiting os) (due_on ids c new)
      (subst (λ (ms : List (List ℕ)). SayFirst (Tells devices old c) (filter is_telling (reverse ms) ++ tellings_waiting os) (due_on ids c new)) (sym same.wrote)
      (subst (SayFirst (Tells devices old c) (tellings_on c old ++ tellings_waiting os)) (sym (same.due ids)) is.tells));
}

-- ---- which deeds are of another channel

-- no channel begins or ends by it
abbrev pub IsPassing : Deed → Type 0
IsPassing (host_begins n) = ⊥
IsPassing (host_ends n) = ⊥
IsPassing deed = Unit {0}

abbrev pub ArePassing : List Deed → Type 0
ArePassing [] = Unit {0}
ArePassing (x ∷ more) = IsPassing x × ArePassing more

-- what a client reads and writes is of the open channel, and so is what it stores
abbrev pub IsOnOpen : List Deed → Deed → Type 0
IsOnOpen before deed = IfSome (client_channel deed) (λ (n : ℕ). open_channel before ≡ Some n) × IsStoredOpen before deed

shut_channel : (c n : ℕ) (deeds : List Deed) → (open_channel deeds ≡ Some c → ⊥) → open_channel deeds ≡ Some n → (n == c) ≡ false
shut_channel c n deeds shut opened = by (n == c) refl
  where
    by : (b : Bool) → (n == c) ≡ b → b ≡ false
    by true e = absurd (shut (opened ∙ ap (λ (k : ℕ). Some k) (eqb-true n c e)))
    by false e = refl

shut_open : (c : ℕ) (deeds : List Deed) → (open_channel deeds ≡ Some c → ⊥) → is_open_at c deeds ≡ false
shut_open c deeds shut = by (open_channel deeds) refl
  where
    by : (o : Option ℕ) → open_channel deeds ≡ o → option_map_or (λ (n : ℕ). n == c) o false ≡ false
    by None e = refl
    by (Some n) e = shut_channel c n deeds shut e

off_one : (c : ℕ) (deeds : List Deed) (x : Deed) → (open_channel deeds ≡ Some c → ⊥) → IsPassing x → IsOnOpen deeds x → IsOff c deeds x
off_one c deeds (host_begins n) shut pass is = absurd pass
off_one c deeds (host_ends n) shut pass is = absurd pass
off_one c deeds (removes device) shut pass is = shut_open c deeds shut
off_one c deeds (adds device) shut pass is = shut_open c deeds shut
off_one c deeds (client_reads n m) shut pass is = shut_channel c n deeds shut is.0
off_one c deeds (client_writes n m) shut pass is = shut_channel c n deeds shut is.0
off_one c deeds (completes key m) shut pass is = shut_channel c key.channel deeds shut is.0
off_one c deeds (stores device (Came key)) shut pass is = shut_channel c key.channel deeds shut is.1
off_one c deeds (stores device (Ran key moment starved parked)) shut pass is = tt
off_one c deeds (stores device (Cancelled key)) shut pass is = tt
off_one c deeds (stores device (Sent key)) shut pass is = tt
off_one c deeds (stores device (Cut cause)) shut pass is = tt
off_one c deeds (submits a named op) shut pass is = tt
off_one c deeds (takes n) shut pass is = tt
off_one c deeds (tells n) shut pass is = tt
off_one c deeds (host_writes n m) shut pass is = tt
off_one c deeds (host_reads n m) shut pass is = tt

open_one : (x : Deed) (deeds : List Deed) → IsPassing x → open_channel (x ∷ deeds) ≡ open_channel deeds
open_one (host_begins n) deeds pass = absurd pass
open_one (host_ends n) deeds pass = absurd pass
open_one (removes device) deeds pass = refl
open_one (adds device) deeds pass = refl
open_one (client_reads n m) deeds pass = refl
open_one (client_writes n m) deeds pass = refl
open_one (completes key m) deeds pass = refl
open_one (stores device item) deeds pass = refl
open_one (submits a named op) deeds pass = refl
open_one (takes n) deeds pass = refl
open_one (tells n) deeds pass = refl
open_one (host_writes n m) deeds pass = refl
open_one (host_reads n m) deeds pass = refl

ended_one : (c : ℕ) (x : Deed) (deeds : List Deed) → IsPassing x → has_ended c (x ∷ deeds) ≡ has_ended c deeds
ended_one c (host_begins n) deeds pass = absurd pass
ended_one c (host_ends n) deeds pass = absurd pass
ended_one c (removes device) deeds pass = refl
ended_one c (adds device) deeds pass = refl
ended_one c (client_reads n m) deeds pass = refl
ended_one c (client_writes n m) deeds pass = refl
ended_one c (completes key m) deeds pass = refl
ended_one c (stores device item) deeds pass = refl
ended_one c (submits a named op) deeds pass = refl
ended_one c (takes n) deeds pass = refl
ended_one c (tells n) deeds pass = refl
ended_one c (host_writes n m) deeds pass = refl
ended_one c (host_reads n m) deeds pass = refl

pub open_all : (more deeds : List Deed) → ArePassing more → open_channel (more ++ deeds) ≡ open_channel deeds
open_all [] deeds pass = refl
open_all (x ∷ more) deeds pass = open_one x (more ++ deeds) pass.0 ∙ open_all more deeds pass.1

pub ended_all : (c : ℕ) (more deeds : List Deed) → ArePassing more → has_ended c (more ++ deeds) ≡ has_ended c deeds
ended_all c [] deeds pass = refl
ended_all c (x ∷ more) deeds pass = ended_one c x (more ++ deeds) pass.0 ∙ ended_all c more deeds pass.1

-- while a channel isn't open
pub same_all : (c : ℕ) (more deeds : List Deed) → (open_channel deeds ≡ Some c → ⊥) → ArePassing more → EachAfter IsOnOpen (more ++ deeds) → SameOn c (more ++ deeds) deeds
same_all c [] deeds shut pass each = same_none c deeds
same_all c (x ∷ more) deeds shut pass each =
    same_by (same_one c (more ++ deeds) x (off_one c (more ++ deeds) x (λ opened. shut (sym (open_all more deeds pass.1) ∙ opened)) pass.0 each.0)) (same_all c more deeds shut pass.1 each.1)
