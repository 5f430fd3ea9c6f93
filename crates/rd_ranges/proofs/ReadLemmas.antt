-- What is read of bytes has numbers with room in their fields.
use Rattle.std.proofs.Common.{◌≡◌, ◌∙◌, refl, sym, ap, subst, ℕ, ◌<◌, ◌^◌, Bool, true, false, List, length, Some, None, Option, Result, Ok, Err}
use Rattle.std.specs.Prelude.{◌==◌}
use Rattle.rd_base.proofs.LayoutLemmas.{found}
use Rattle.rd_base.proofs.NumberLemmas.{IsBytes}
use Rattle.rd_base.specs.Layout.{AreBytes, IsSpelled, Layout, choose, done, met, ◌>>=◌}
use Rattle.rd_base.specs.Position.{Position, at_start}
use Rattle.rd_base.specs.declared.bad.Bad.{Bad}
use Rattle.rd_base.specs.declared.status.Status.{Status}
use Rattle.rd_client.specs.Core.{op_read, request_with_head}
use Rattle.rd_drive.specs.Ranged.{SetsFew}
use Rattle.rd_irp.specs.Completion.{completion_body, success_body}
use Rattle.rd_irp.specs.Op.{class_and_bytes, close_body, control_body, create_body, directory_body, lock_body, notify_body, op_body, query_dir_body, query_file_body, query_volume_body, read_body, set_file_body, set_volume_body, write_body}
use Rattle.rd_irp.specs.Request.{body_after, request_head}
use Rattle.rd_irp.specs.Written.{IsBodyInRange}
use Rattle.rd_irp.specs.declared.completion.Body.{Body}
use Rattle.rd_irp.specs.declared.completion.Body.TheVariants as body
use Rattle.rd_irp.specs.declared.completion.Kind.{Kind}
use Rattle.rd_irp.specs.declared.completion.Kind.TheVariants as kind
use Rattle.rd_irp.specs.declared.op.Op.{Op}
use Rattle.rd_irp.specs.declared.op.Op.TheVariants.{Close, Control, Create, Lock, Notify, QueryDir, QueryFile, QueryVolume, Read, Unknown, Write}
use Rattle.rd_irp.specs.declared.request.Request.{Request}
use Rattle.rd_irp.specs.declared.request.RequestHead.{RequestHead}
use Rattle.rd_ranges.specs.Ranges.{FitsReply}
use Rattle.rd_deeds.specs.Talk.{request_in}

-- ---- what each value of a layout has

record EachSpelled {A : Type 0} (P : A → Type 0) (l : Layout A) : Type 0 where
  each : (a : A) (field after : List ℕ) → IsSpelled l a field after → P a

each_done : {A : Type 0} {P : A → Type 0} (x : A) → P x → EachSpelled P (done x)
each_done {P = P} x own = record { each = λ a field after s. subst P (sym s.0) own }

each_then : {A B : Type 0} {P : B → Type 0} {l : Layout A} {next : A → Layout B} → ((a : A) → EachSpelled P (next a)) → EachSpelled P (l >>= next)
each_then each = record { each = λ b field after s. (each s.0).each b s.2 after s.5 }

each_choose : {A : Type 0} (P : A → Type 0) (b : Bool) (l m : Layout A) → EachSpelled P l → EachSpelled P m → EachSpelled P (choose b l m)
each_choose P true l m first second = first
each_choose P false l m first second = second

-- ---- requests

create_few : EachSpelled SetsFew create_body
unfolding create_body
create_few =
    each_then λ access. each_then λ allocation. each_then λ attributes. each_then λ share. each_then λ disposition. each_then λ options. each_then λ count. each_then λ units.
    each_done (Create access allocation attributes share disposition options units) (tt {0})

write_few : EachSpelled SetsFew write_body
unfolding write_body
write_few = record { each = λ o field after s. subst SetsFew (sym s.5.5.5.5.0) (few s.0 s.5.0 s.5.5.5.0 s.4.1 s.5.5.5.4.1) }
  where
    few : (count offset : ℕ) (bytes : List ℕ) → count < 2 ^ 32 → length bytes ≡ count → SetsFew (Write offset bytes)
    few count offset bytes low is = subst (λ n. n < 2 ^ 32) (sym is) low

-- the buffer of a class that is set
set_few : (fields : ℕ × List ℕ) (field after : List ℕ) → IsSpelled class_and_bytes fields field after → length fields.1 < 2 ^ 32
unfolding class_and_bytes
set_few fields field after s = subst (λ n. n < 2 ^ 32) (sym (ap (λ (f : ℕ × List ℕ). length f.1) s.5.5.5.5.0 ∙ s.5.5.5.4.1)) s.5.4.1

set_file_few : EachSpelled SetsFew set_file_body
unfolding set_file_body
set_file_few = record { each = λ o field after s. subst SetsFew (sym s.5.0) (set_few s.0 s.1 _ s.4) }

set_volume_few : EachSpelled SetsFew set_volume_body
unfolding set_volume_body
set_volume_few = record { each = λ o field after s. subst SetsFew (sym s.5.0) (set_few s.0 s.1 _ s.4) }

directory_few : (major minor : ℕ) → EachSpelled SetsFew (directory_body major minor)
unfolding directory_body query_dir_body notify_body
directory_few major minor =
    each_choose SetsFew (minor == 1) query_dir_body _
    (each_then λ class. each_then λ initial. each_then λ count. each_then λ u. each_then λ units. each_done (QueryDir class initial units) (tt {0}))
    (each_choose SetsFew (minor == 2) notify_body _
    (each_then λ tree. each_then λ filter. each_then λ u. each_done (Notify tree filter) (tt {0}))
    (each_done (Unknown major minor) (tt {0})))

op_few : (major minor : ℕ) → EachSpelled SetsFew (op_body major minor)
unfolding op_body close_body read_body query_file_body query_volume_body control_body lock_body
op_few major minor =
    each_choose SetsFew (major == 0) create_body _ create_few
    (each_choose SetsFew (major == 2) close_body _ (each_then λ u. each_done Close (tt {0}))
    (each_choose SetsFew (major == 3) read_body _ (each_then λ len. each_then λ offset. each_then λ u. each_done (Read offset len) (tt {0}))
    (each_choose SetsFew (major == 4) write_body _ write_few
    (each_choose SetsFew (major == 5) query_file_body _ (each_then λ class. each_done (QueryFile class) (tt {0}))
    (each_choose SetsFew (major == 6) set_file_body _ set_file_few
    (each_choose SetsFew (major == 0xa) query_volume_body _ (each_then λ class. each_done (QueryVolume class) (tt {0}))
    (each_choose SetsFew (major == 0xb) set_volume_body _ set_volume_few
    (each_choose SetsFew (major == 0xc) (directory_body major minor) _ (directory_few major minor)
    (each_choose SetsFew (major == 0xe) control_body _ (each_then λ output. each_then λ count. each_then λ code. each_then λ u. each_then λ bytes. each_done (Control output code bytes) (tt {0}))
    (each_choose SetsFew (major == 0x11) lock_body _ (each_then λ operation. each_then λ bits. each_then λ count. each_then λ u. each_then λ ranges. each_done (Lock operation _ ranges) (tt {0}))
    (each_done (Unknown major minor) (tt {0}))))))))))))

some_one : {A : Type 0} (x y : A) → Some x ≡ Some y → x ≡ y
some_one x y e = cc e

abbrev request_from : Result (RequestHead × Position) Bad → Option Request
request_from (Ok read) = Some (request_with_head read.0 (op_read read.0 (met (body_after read.0) read.1)))
request_from (Err bad) = None

-- the numbers of a request's head
abbrev IsLow : RequestHead → Type 0
IsLow h = (h.device < 2 ^ 32) × (h.file < 2 ^ 32) × (h.completion < 2 ^ 32)

head_low : (h : RequestHead) (field after : List ℕ) → IsSpelled request_head h field after → IsLow h
unfolding request_head
head_low h field after s = subst IsLow (sym s.5.5.5.5.5.5.0) (s.5.4.1, s.5.5.4.1, s.5.5.5.4.1)

pub request_room : (bytes : List ℕ) (r : Request) → AreBytes bytes → request_in bytes ≡ Some r → FitsReply r
request_room bytes r are e = first (met request_head (at_start bytes)) refl e
  where
    second : (h : RequestHead) (p : Position) → IsBytes p.left → IsLow h → (x : Result (Op × Position) Bad) → met (body_after h) p ≡ x → FitsReply (request_with_head h (op_read h x))
    second h p are low (Ok (o, q)) is =
        let took = found (body_after h) p o q are is in
        record { device = low.0; file = low.1; completion = low.2; few = (op_few h.major h.minor).each o took.field q.left took.spelled }
    second h p are low (Err bad) is = record { device = low.0; file = low.1; completion = low.2; few = tt }

    first : (x : Result (RequestHead × Position) Bad) → met request_head (at_start bytes) ≡ x
        → request_from x ≡ Some r → FitsReply r
    first (Err bad) is e = absurd cc
    first (Ok (h, p)) is e =
        let took = found request_head (at_start bytes) h p (record { below = are }) is in
        let own : FitsReply (request_with_head h (op_read h (met (body_after h) p))) = second h p took.rest_fits (head_low h took.field p.left took.spelled) (met (body_after h) p) refl in
        subst FitsReply (some_one _ r e) own

-- ---- completions

success_low : (k : Kind) → EachSpelled IsBodyInRange (success_body k)
unfolding success_body
success_low kind.Create = record { each = λ b field after s. subst IsBodyInRange (sym s.5.5.0) (created s.0 s.5.0 s.4.1 s.5.4.1) }
  where
    created : (file information : ℕ) → file < 2 ^ 32 → information < 2 ^ 8 → IsBodyInRange (body.Created file information)
    created file information low few = (low, few)
success_low kind.Close = each_then λ u. each_done body.Closed (tt {0})
success_low kind.Count = record { each = λ b field after s. subst IsBodyInRange (sym s.5.5.0) (counted s.0 s.4.1) }
  where
    counted : (count : ℕ) → count < 2 ^ 32 → IsBodyInRange (body.Count count)
    counted count low = low
success_low kind.Buffer = each_then λ count. each_then λ bytes. each_done (body.Buffer bytes) (tt {0})
success_low kind.Lock = each_then λ u. each_done body.Locked (tt {0})

completion_low : (k : Kind) (status : Status) → EachSpelled IsBodyInRange (completion_body k status)
unfolding completion_body
completion_low k status = each_choose IsBodyInRange (status.0 == 0) (success_body k) (done body.Fault) (success_low k) (each_done body.Fault (tt {0}))

pub body_room : (k : Kind) (status : Status) (bytes : List ℕ) (b : Body) (q : Position) → AreBytes bytes → met (completion_body k status) (at_start bytes) ≡ Ok (b, q) → IsBodyInRange b
body_room k status bytes b q are is =
    let took = found (completion_body k status) (at_start bytes) b q (record { below = are }) is in
    (completion_low k status).each b took.field q.left took.spelled
