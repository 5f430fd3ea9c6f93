-- The message of a request whose operation fits, fits the limit of a message.
use Rattle.std.proofs.Common.{◌≡◌, ℕ, ◌≤◌, length, arith, length-append}
use Rattle.rd_chunk.specs.Carrier.{IsMessage}
use Rattle.rd_irp.specs.declared.op.Op.{Op}
use Rattle.rd_irp.specs.declared.op.Op.TheVariants.{Create, Write, SetFile, SetVolume, QueryDir, Control, Lock, Unknown, Malformed}
use Rattle.rd_irp.specs.declared.request.Request.{Request}
use Rattle.rd_irp.specs.Fits.{Fits, op_length}
use Rattle.rd_irp.specs.Written.{op_bytes, request_bytes, request_head_bytes}
use Rattle.rd_irp.proofs.OpLemmas.{length-op_bytes}

few : (o : Op) → Fits o → op_length o ≤ 1048608
few (Create access allocation attributes share disposition options path) fits = omega (arith, fits.0)
few (Write offset bytes) fits = omega arith
few (SetFile class bytes) fits = omega arith
few (SetVolume class bytes) fits = omega arith
few (QueryDir class initial path) fits = omega (arith, fits.0)
few (Control output code bytes) fits = omega arith
few (Lock operation wait ranges) fits = omega arith
few (Unknown major minor) fits = absurd fits
few (Malformed major minor bad) fits = absurd fits
few _ fits = omega arith

pub request_message : (r : Request) → Fits r.op → IsMessage (request_bytes r)
request_message r fits =
    let head : length (request_head_bytes r) ≡ 24 = omega arith in
    (omega (arith, head, length-append {A = ℕ} (request_head_bytes r) (op_bytes r.op)), omega (arith, head, length-append {A = ℕ} (request_head_bytes r) (op_bytes r.op), length-op_bytes r.op fits, few r.op fits))
