-- A request has the major function of its head, and the layout of its completion goes by that, whatever its body says.
use Rattle.std.proofs.Common.{◌≡◌, ℕ, Bool, true, false, refl, sym, ap, subst, ◌∙◌, eqb-true}
use Rattle.std.specs.Prelude.{◌==◌, Result, Ok, Err}
use Rattle.rd_base.specs.declared.bad.Bad.{Bad}
use Rattle.rd_base.specs.Layout.{Layout, choose, done, met, ◌>>=◌}
use Rattle.rd_base.specs.Position.{Position}
use Rattle.rd_base.proofs.ResultLemmas.{and_then_ok, ok_one}
use Rattle.rd_client.specs.Core.{op_read}
use Rattle.rd_irp.specs.declared.completion.Kind.{Kind}
use Rattle.rd_irp.specs.declared.completion.Kind.TheVariants as kind
use Rattle.rd_irp.specs.declared.op.Op.{Op}
use Rattle.rd_irp.specs.declared.op.Op.TheVariants.{Control, Notify, QueryDir, QueryFile, QueryVolume, Read, Unknown, Create, Close, Write, SetFile, SetVolume, Lock}
use Rattle.rd_irp.specs.declared.request.RequestHead.{RequestHead}
use Rattle.rd_irp.specs.Fits.{kind_of, kind_of_major}
use Rattle.rd_irp.specs.Op.{close_body, control_body, create_body, directory_body, lock_body, notify_body, op_body, query_dir_body, query_file_body, query_volume_body, read_body, set_file_body, set_volume_body, write_body}
use Rattle.rd_irp.specs.Request.{body_after}
use Rattle.rd_irp.specs.Written.{major_of}
use Rattle.rd_irp.proofs.OpLemmas.{EachValue}

-- the operations of a layout have this layout of their completions, and this major function
abbrev Completes : Kind → ℕ → Layout Op → Type 0
Completes k major l = EachValue (λ (o : Op). (kind_of o ≡ k) × (major_of o ≡ major)) l

has_done : {k : Kind} {major : ℕ} (o : Op) → kind_of o ≡ k → major_of o ≡ major → Completes k major (done o)
has_done o e f = record { each = λ p a q is. let same : o ≡ a = ap (λ (y : Op × Position). y.0) (ok_one _ (o, p) (a, q) refl is) in (ap kind_of (sym same) ∙ e, ap major_of (sym same) ∙ f) }

has_then : {A : Type 0} {l : Layout A} {next : A → Layout Op} {k : Kind} {major : ℕ} → ((a : A) → Completes k major (next a)) → Completes k major (l >>= next)
has_then {l = l} {next = next} each = record {
  each = λ p b q e. let x = and_then_ok (met l p) (λ y. met (next y.0) y.1) (b, q) e in (each x.0.0).each x.0.1 b q x.2;
}

-- the layout that a test chooses, in either case
has_choice : (k : Kind) (major : ℕ) (b : Bool) (one other : Layout Op) → (b ≡ true → Completes k major one) → (b ≡ false → Completes k major other) → Completes k major (choose b one other)
has_choice k major true one other first second = first refl
has_choice k major false one other first second = second refl

create_has : Completes kind.Create 0 create_body
unfolding create_body
create_has = has_then λ access. has_then λ allocation. has_then λ attributes. has_then λ share. has_then λ disposition. has_then λ options. has_then λ count. has_then λ units.
    has_done (Create access allocation attributes share disposition options units) refl refl

close_has : Completes kind.Close 2 close_body
unfolding close_body
close_has = has_then λ u. has_done Close refl refl

read_has : Completes kind.Buffer 3 read_body
unfolding read_body
read_has = has_then λ len. has_then λ offset. has_then λ u. has_done (Read offset len) refl refl

write_has : Completes kind.Count 4 write_body
unfolding write_body
write_has = has_then λ count. has_then λ offset. has_then λ u. has_then λ bytes. has_done (Write offset bytes) refl refl

query_file_has : Completes kind.Buffer 5 query_file_body
unfolding query_file_body
query_file_has = has_then λ class. has_done (QueryFile class) refl refl

set_file_has : Completes kind.Count 6 set_file_body
unfolding set_file_body
set_file_has = has_then λ fields. has_done (SetFile fields.0 fields.1) refl refl

query_volume_has : Completes kind.Buffer 0xa query_volume_body
unfolding query_volume_body
query_volume_has = has_then λ class. has_done (QueryVolume class) refl refl

set_volume_has : Completes kind.Count 0xb set_volume_body
unfolding set_volume_body
set_volume_has = has_then λ fields. has_done (SetVolume fields.0 fields.1) refl refl

query_dir_has : Completes kind.Buffer 0xc query_dir_body
unfolding query_dir_body
query_dir_has = has_then λ class. has_then λ initial. has_then λ count. has_then λ u. has_then λ units. has_done (QueryDir class initial units) refl refl

notify_has : Completes kind.Buffer 0xc notify_body
unfolding notify_body
notify_has = has_then λ tree. has_then λ filter. has_then λ u. has_done (Notify tree filter) refl refl

control_has : Completes kind.Buffer 0xe control_body
unfolding control_body
control_has = has_then λ output. has_then λ count. has_then λ code. has_then λ u. has_then λ bytes. has_done (Control output code bytes) refl refl

lock_has : Completes kind.Lock 0x11 lock_body
unfolding lock_body
lock_has = has_then λ operation. has_then λ bits. has_then λ count. has_then λ u. has_then λ ranges. has_done (Lock operation _ ranges) refl refl

directory_has : (major minor : ℕ) → major ≡ 0xc → Completes kind.Buffer 0xc (directory_body major minor)
unfolding directory_body
directory_has major minor same =
    has_choice kind.Buffer 0xc (minor == 1) query_dir_body _ (λ e. query_dir_has) (λ e.
    has_choice kind.Buffer 0xc (minor == 2) notify_body _ (λ e. notify_has) (λ e.
    has_done (Unknown major minor) refl same))

-- by what the major function is
at : (major n : ℕ) (k : Kind) (l : Layout Op) → (major == n) ≡ true → kind_of_major n ≡ k → Completes k n l → Completes (kind_of_major major) major l
at major n k l is e has = subst (λ (m : ℕ). Completes (kind_of_major m) m l) (sym (eqb-true major n is)) (subst (λ (x : Kind). Completes x n l) (sym e) has)

other : (major : ℕ) → (major == 0) ≡ false → (major == 2) ≡ false → (major == 4) ≡ false → (major == 6) ≡ false → (major == 0xb) ≡ false → (major == 0x11) ≡ false → kind.Buffer ≡ kind_of_major major
other major a b c d e f = rw (a, b, c, d, e, f) refl

body_has : (major minor : ℕ) → Completes (kind_of_major major) major (op_body major minor)
unfolding op_body
body_has major minor =
    has_choice k major (major == 0) create_body _ (λ e. at major 0 kind.Create create_body e refl create_has) (λ a.
    has_choice k major (major == 2) close_body _ (λ e. at major 2 kind.Close close_body e refl close_has) (λ b.
    has_choice k major (major == 3) read_body _ (λ e. at major 3 kind.Buffer read_body e refl read_has) (λ x.
    has_choice k major (major == 4) write_body _ (λ e. at major 4 kind.Count write_body e refl write_has) (λ c.
    has_choice k major (major == 5) query_file_body _ (λ e. at major 5 kind.Buffer query_file_body e refl query_file_has) (λ x.
    has_choice k major (major == 6) set_file_body _ (λ e. at major 6 kind.Count set_file_body e refl set_file_has) (λ d.
    has_choice k major (major == 0xa) query_volume_body _ (λ e. at major 0xa kind.Buffer query_volume_body e refl query_volume_has) (λ x.
    has_choice k major (major == 0xb) set_volume_body _ (λ e. at major 0xb kind.Count set_volume_body e refl set_volume_has) (λ g.
    has_choice k major (major == 0xc) (directory_body major minor) _ (λ e. at major 0xc kind.Buffer (directory_body major minor) e refl (directory_has major minor (eqb-true major 0xc e))) (λ x.
    has_choice k major (major == 0xe) control_body _ (λ e. at major 0xe kind.Buffer control_body e refl control_has) (λ x.
    has_choice k major (major == 0x11) lock_body _ (λ e. at major 0x11 kind.Lock lock_body e refl lock_has) (λ h.
    has_done (Unknown major minor) (other major a b c d g h) refl)))))))))))
  where
    k : Kind
    k = kind_of_major major

-- a request has the major function of its head, and its completion the layout of that
pub kind_read : (head : RequestHead) (start : Position) → let o = op_read head (met (body_after head) start) in (kind_of o ≡ kind_of_major head.major) × (major_of o ≡ head.major)
kind_read head start = by (met (body_after head) start) refl
  where
    by : (r : Result (Op × Position) Bad) → met (body_after head) start ≡ r → (kind_of (op_read head r) ≡ kind_of_major head.major) × (major_of (op_read head r) ≡ head.major)
    by (Ok read) e = (body_has head.major head.minor).each start read.0 read.1 e
    by (Err bad) e = (refl, refl)
