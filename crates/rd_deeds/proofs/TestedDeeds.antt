-- Deeds that pass tests are carried, may be done, stand where they may, and are told in order.
use Rattle.std.proofs.Common.{◌≡◌, ◌∙◌, refl, sym, ap, ap₂, subst, ℕ, ◌-◌, ◌^◌, ◌==◌, ◌&&◌, Bool, true, false, cond, List, [], ◌∷◌, ◌++◌, length, take, drop, ltb, leb, ltb-true, leb-true, eqb-true, take-append-drop, is_none, is_ok, Option, Some, None, bytes_eq, filter, ◌≢◌, lit<, arith, ◌<◌}
use Rattle.std.specs.Cmp.Lexicographic.{bytes_decides}
use Rattle.std.specs.List.{cons_option, list_all}
use Rattle.std.proofs.lemmas.Bool.{and_parts}
use Rattle.rd_irp.specs.declared.op.Op.{Op}
use Rattle.rd_irp.specs.declared.op.Op.TheVariants as op
use Rattle.rd_pending.specs.declared.calls.Target.{Target}
use Rattle.rd_pending.specs.declared.calls.Target.TheVariants as target
use Rattle.rd_pending.specs.Table as table
use Rattle.rd_pending.specs.Table.{MaySubmit, submit_refusal}
use Rattle.rd_deeds.specs.Host.{HostSide, next_message, new_side}
use Rattle.rd_deeds.specs.HostDeeds.{IsInRange, MayDo, side_of, calls_of, calls_by, side_after}
use Rattle.rd_deeds.specs.Joining.{IsCarried}
use Rattle.rd_deeds.specs.Talk.{AtEachPoint, Deed, EachAfter, EndsWith, client_read, client_reads, client_writes, client_wrote, completes, host_begins, host_ends, host_read, host_reads, host_writes, host_wrote, submits, takes, tells}
use Rattle.rd_deeds.proofs.TestedJournals.{all_pass}
use Rattle.rd_irp.specs.Fits.{max_path}
use Rattle.rd_pending.specs.History.{Call}

-- ---- each deed

-- a test of each deed and what was done before it
abbrev pub each : (List Deed → Deed → Bool) → List Deed → Bool
each p [] = true
each p (x ∷ before) = p before x && each p before

pub each_passes : {P : List Deed → Deed → Type 0} (p : List Deed → Deed → Bool) → ((before : List Deed) (x : Deed) → p before x ≡ true → P before x) → (deeds : List Deed) → each p deeds ≡ true → EachAfter P deeds
each_passes p sound [] e = tt
each_passes p sound (x ∷ before) e = let parts = and_parts _ _ e in (sound before x parts.0, each_passes p sound before parts.1)

-- ---- what is carried

abbrev same : List (List ℕ) → List (List ℕ) → Bool
same [] [] = true
same (x ∷ xs) (y ∷ ys) = bytes_eq x y && same xs ys
same _ _ = false

same_is : (xs ys : List (List ℕ)) → same xs ys ≡ true → xs ≡ ys
same_is [] [] e = refl
same_is (x ∷ xs) (y ∷ ys) e =
    let parts = and_parts _ _ e in
    ap₂ (λ (z : List ℕ) (zs : List (List ℕ)). z ∷ zs) ((bytes_decides x y).0 parts.0) (same_is xs ys parts.1)
same_is [] (y ∷ ys) e = absurd (cc)
same_is (x ∷ xs) [] e = absurd (cc)

abbrev ends : List (List ℕ) → List (List ℕ) → Bool
ends whole part = same (drop (length whole - length part) whole) part

pub end_is : {A : Type 0} (whole part : List A) → drop (length whole - length part) whole ≡ part → EndsWith whole part
end_is {A} whole part e =
    let k = length whole - length part in (take k whole, sym (take-append-drop k whole) ∙ ap (λ (xs : List A). take k whole ++ xs) e)

ends_is : (whole part : List (List ℕ)) → ends whole part ≡ true → EndsWith whole part
ends_is whole part e = end_is whole part (same_is (drop (length whole - length part) whole) part e)

-- an end reads what comes next
abbrev pub reads_next : List Deed → Deed → Bool
reads_next before (client_reads c m) = ends (host_wrote c before) (m ∷ client_read c before)
reads_next before (host_reads c m) = ends (client_wrote c before) (m ∷ host_read c before)
reads_next before _ = true

longer : {A : Type 0} (b : Bool) (x : A) (whole part : List A) → EndsWith whole part → EndsWith (cons_option (cond b (Some x) None) whole) part
longer true x whole part ends = (x ∷ ends.0, ap (λ xs. x ∷ xs) ends.1)
longer false x whole part ends = ends

further : (c x : ℕ) (m : List ℕ) (whole part : ℕ → List (List ℕ)) → EndsWith (whole c) (m ∷ part c) → EndsWith (whole x) (part x) → (b : Bool) → (c == x) ≡ b → EndsWith (whole x) (cons_option (cond b (Some m) None) (part x))
further c x m whole part next was true e = subst (λ (y : ℕ). EndsWith (whole y) (m ∷ part y)) (eqb-true c x e) next
further c x m whole part next was false e = was

carries : (before : List Deed) (x : Deed) → IsCarried before → reads_next before x ≡ true → IsCarried (x ∷ before)
carries before (client_reads c m) was e = record {
  to_client = λ x. further c x m (λ y. host_wrote y before) (λ y. client_read y before) (ends_is (host_wrote c before) (m ∷ client_read c before) e) (was.to_client x) (c == x) refl;
  to_host = was.to_host;
}
carries before (host_reads c m) was e = record {
  to_client = was.to_client;
  to_host = λ x. further c x m (λ y. client_wrote y before) (λ y. host_read y before) (ends_is (client_wrote c before) (m ∷ host_read c before) e) (was.to_host x) (c == x) refl;
}
carries before (host_writes c m) was e = record { to_client = λ x. longer (c == x) m _ _ (was.to_client x); to_host = was.to_host }
carries before (client_writes c m) was e = record { to_client = was.to_client; to_host = λ x. longer (c == x) m _ _ (was.to_host x) }
carries before (completes key m) was e = record { to_client = was.to_client; to_host = λ x. longer (key.channel == x) m _ _ (was.to_host x) }
carries before _ was e = record { to_client = was.to_client; to_host = was.to_host }

now : (deeds : List Deed) → AtEachPoint IsCarried deeds → IsCarried deeds
now [] at = at
now (x ∷ before) at = at.0

pub carried_by_test : (deeds : List Deed) → each reads_next deeds ≡ true → AtEachPoint IsCarried deeds
carried_by_test [] e = record { to_client = λ c. ([], refl); to_host = λ c. ([], refl) }
carried_by_test (x ∷ before) e =
    let parts = and_parts _ _ e in
    let older = carried_by_test before parts.1 in
    (carries before x (now before older) parts.0, older)

-- ---- what the host may do

abbrev is_unit : ℕ → Bool
is_unit unit = ltb 0 unit && ltb unit (2 ^ 16)

-- of a file that is open a read, a close, or a notification; of a device the opening of a file
abbrev is_small : Target → Op → Bool
is_small (target.Handle h) (op.Read offset len) = (ltb h.device (2 ^ 32) && ltb h.file (2 ^ 32)) && (ltb offset (2 ^ 64) && ltb len (2 ^ 32))
is_small (target.Handle h) op.Close = ltb h.device (2 ^ 32) && ltb h.file (2 ^ 32)
is_small (target.Handle h) (op.Notify tree filter) = (ltb h.device (2 ^ 32) && ltb h.file (2 ^ 32)) && ltb filter (2 ^ 32)
is_small (target.Device device) (op.Create access allocation attributes share disposition options path) =
    (ltb device (2 ^ 32) && (ltb access (2 ^ 32) && (ltb allocation (2 ^ 64) && (ltb attributes (2 ^ 32) && (ltb share (2 ^ 32) && (ltb disposition (2 ^ 32) && ltb options (2 ^ 32)))))))
    && (leb (length path) max_path && list_all is_unit path)
is_small _ _ = false

unit_is : (unit : ℕ) → is_unit unit ≡ true → (unit ≢ 0) × (unit < 2 ^ 16)
unit_is unit e =
    let parts = and_parts _ _ e in
    let some = ltb-true 0 unit parts.0 in ((λ (none : unit ≡ 0). absurd (omega (arith, some, none))), ltb-true unit (2 ^ 16) parts.1)

small_is : (named : Target) (o : Op) → is_small named o ≡ true → MaySubmit named o × IsInRange named o
small_is (target.Handle h) (op.Read offset len) e =
    let parts = and_parts _ _ e in
    let names = and_parts _ _ parts.0 in
    let numbers = and_parts _ _ parts.1 in (
      record { fits = tt; names = refl },
      record {
        device = ltb-true h.device (2 ^ 32) names.0;
        file = ltb-true h.file (2 ^ 32) names.1;
        op = (ltb-true offset (2 ^ 64) numbers.0, ltb-true len (2 ^ 32) numbers.1);
      },
    )
small_is (target.Handle h) op.Close e =
    let names = and_parts _ _ e in
    (record { fits = tt; names = refl }, record { device = ltb-true h.device (2 ^ 32) names.0; file = ltb-true h.file (2 ^ 32) names.1; op = tt })
small_is (target.Handle h) (op.Notify tree filter) e =
    let parts = and_parts _ _ e in
    let names = and_parts _ _ parts.0 in
    (record { fits = tt; names = refl }, record { device = ltb-true h.device (2 ^ 32) names.0; file = ltb-true h.file (2 ^ 32) names.1; op = ltb-true filter (2 ^ 32) parts.1 })
small_is (target.Device device) (op.Create access allocation attributes share disposition options path) e =
    let parts = and_parts _ _ e in
    let n0 = and_parts _ _ parts.0 in
    let n1 = and_parts _ _ n0.1 in
    let n2 = and_parts _ _ n1.1 in
    let n3 = and_parts _ _ n2.1 in
    let n4 = and_parts _ _ n3.1 in
    let n5 = and_parts _ _ n4.1 in
    let units = and_parts _ _ parts.1 in (
      record { fits = (leb-true (length path) max_path units.0, all_pass {P = λ unit. unit ≢ 0} is_unit (λ unit is. (unit_is unit is).0) path units.1); names = refl },
      record {
        device = ltb-true device (2 ^ 32) n0.0;
        file = lit< tt;
        op = (
          ltb-true access (2 ^ 32) n1.0,
          ltb-true allocation (2 ^ 64) n2.0,
          ltb-true attributes (2 ^ 32) n3.0,
          ltb-true share (2 ^ 32) n4.0,
          ltb-true disposition (2 ^ 32) n5.0,
          ltb-true options (2 ^ 32) n5.1,
          all_pass {P = λ unit. unit < 2 ^ 16} is_unit (λ unit is. (unit_is unit is).1) path units.1,
        );
      },
    )
small_is _ _ e = absurd (cc)

none_is : {A : Type 0} (o : Option A) → is_none o ≡ true → o ≡ None
none_is None e = refl
none_is (Some x) e = absurd (cc)

abbrev is_open : Option ℕ → ℕ → Bool
is_open (Some channel) c = channel == c
is_open None c = false

open_is : (o : Option ℕ) (c : ℕ) → is_open o c ≡ true → o ≡ Some c
open_is (Some channel) c e = ap (λ (x : ℕ). Some x) (eqb-true channel c e)
open_is None c e = absurd (cc)

abbrev is_next : Option (List ℕ) → List ℕ → Bool
is_next (Some message) m = bytes_eq message m
is_next None m = false

next_is : (o : Option (List ℕ)) (m : List ℕ) → is_next o m ≡ true → o ≡ Some m
next_is (Some message) m e = ap (λ (x : List ℕ). Some x) ((bytes_decides message m).0 e)
next_is None m e = absurd (cc)

abbrev may : HostSide → Deed → Bool
may s (host_begins c) = is_none (s.table).channel && leb (s.table).below c
may s (submits x named o) = is_small named o && is_none (submit_refusal s.table named)
may s (takes number) = is_ok (table.take s.table number).1
may s (tells n) = false
may s (host_writes c m) = is_open (s.table).channel c && is_next (next_message s) m
may s (host_reads c m) = is_open (s.table).channel c
may s (host_ends c) = is_open (s.table).channel c
may s _ = true

may_is : (s : HostSide) (x : Deed) → may s x ≡ true → MayDo s x
may_is s (host_begins c) e =
    let parts = and_parts _ _ e in (none_is (s.table).channel parts.0, leb-true (s.table).below c parts.1)
may_is s (submits x named o) e =
    let parts = and_parts _ _ e in
    let small = small_is named o parts.0 in
    (small.0, small.1, none_is (submit_refusal s.table named) parts.1)
may_is s (takes number) e = e
may_is s (tells n) e = absurd (cc)
may_is s (host_writes c m) e =
    let parts = and_parts _ _ e in (open_is (s.table).channel c parts.0, next_is (next_message s) m parts.1)
may_is s (host_reads c m) e = open_is (s.table).channel c e
may_is s (host_ends c) e = open_is (s.table).channel c e
may_is s _ e = tt

abbrev pub may_do : ℕ → List Deed → Deed → Bool
may_do client before x = may (side_of client before) x

pub host_by_test : (client : ℕ) (deeds : List Deed) → each (may_do client) deeds ≡ true → EachAfter (λ before deed. MayDo (side_of client before) deed) deeds
host_by_test client = each_passes (may_do client) (λ before x. may_is (side_of client before) x)

-- ---- in one pass

-- a deed, after the host's side and the calls of its table
abbrev pub goes_on : Deed → HostSide × List Call → HostSide × List Call
goes_on deed (side, calls) = (side_after side deed, calls_by side deed ++ calls)

-- the host's side after deeds with the calls of its table, in one pass
abbrev pub along : ℕ → List Deed → HostSide × List Call
along client [] = (new_side client, [])
along client (deed ∷ before) = goes_on deed (along client before)

pub along_is : (client : ℕ) (deeds : List Deed) → along client deeds ≡ (side_of client deeds, calls_of client deeds)
along_is client [] = refl
along_is client (deed ∷ before) = ap (goes_on deed) (along_is client before)
