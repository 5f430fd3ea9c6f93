-- What is written: it spells its value.
use Rattle.std.proofs.Common.{◌≡◌, ℕ, ◌^◌, ◌<◌, List, [], ◌++◌, Bool, true, false, drop, length, refl, sym, subst, arith}
use Rattle.std.specs.Prelude.{replicate, min, MatchBool, ◌==◌}
use Rattle.std.proofs.lemmas.List.{append-nil, length-append, length-replicate, drop_at}
use Rattle.rd_base.specs.declared.packet.Packet.TheVariants.{IoRequest, IoCompletion}
use Rattle.rd_base.specs.declared.status.Status.{Status}
use Rattle.rd_base.specs.Layout.{Layout, done, ◌>>◌, choose, Spells}
use Rattle.rd_base.specs.Fields.{missing_pad}
use Rattle.rd_base.proofs.WrittenLemmas.{Written, done_last, layout_then, number_then, bytes_then, same_bytes, spells_all}
use Rattle.rd_base.proofs.HeaderLemmas.{header_then}
use Rattle.rd_irp.specs.declared.request.Request.{Request}
use Rattle.rd_irp.specs.declared.request.RequestHead.{RequestHead}
use Rattle.rd_irp.specs.declared.completion.Head.{Head}
use Rattle.rd_irp.specs.declared.completion.Kind.{Kind}
use Rattle.rd_irp.specs.declared.completion.Kind.TheVariants as kind
use Rattle.rd_irp.specs.declared.completion.Body.{Body}
use Rattle.rd_irp.specs.declared.completion.Body.TheVariants as body
use Rattle.rd_irp.specs.Fits.{Fits, IsOfKind, IsCountableBody, BodyFits, body_length, fault_length}
use Rattle.rd_irp.specs.Request.{request_head, whole_request, SpellsRequest}
use Rattle.rd_irp.specs.Completion.{completion_head, success_body, completion_body, SpellsHead, SpellsBody}
use Rattle.rd_irp.specs.Written.{major_of, minor_of, op_bytes, request_head_bytes, request_bytes, head_bytes, body_bytes, body_tail, IsOpInRange, IsBodyInRange}
use Rattle.rd_irp.proofs.OpLemmas.{op_written, fits_readable, head_fits}
use Rattle.rd_irp.proofs.RequestLemmas.{spells_readable}

request_head_written : (r : Request) (after : List ℕ) → r.device < 2 ^ 32 → r.file < 2 ^ 32 → r.completion < 2 ^ 32 → (major_of r.op < 2 ^ 32) × (minor_of r.op < 2 ^ 32) → Written request_head (record { device = r.device; file = r.file; completion = r.completion; major = major_of r.op; minor = minor_of r.op }) (request_head_bytes r) after
unfolding request_head
request_head_written r after device file completion function =
    header_then IoRequest
    (number_then r.device device
    (number_then r.file file
    (number_then r.completion completion
    (number_then (major_of r.op) function.0
    (number_then (minor_of r.op) function.1
    (done_last _ after))))))

pub request_spelled : (r : Request) → Fits r.op → IsOpInRange r.op → r.device < 2 ^ 32 → r.file < 2 ^ 32 → r.completion < 2 ^ 32 → SpellsRequest r 0 (request_bytes r)
unfolding whole_request
request_spelled r fits range device file completion =
    let o = r.op in
    let field : List ℕ = op_bytes o in
    let head : RequestHead = record { device = r.device; file = r.file; completion = r.completion; major = major_of o; minor = minor_of o } in
    spells_readable o r 0 (request_bytes r) (fits_readable o fits)
    (spells_all whole_request r (request_bytes r)
    (layout_then head (request_head_bytes r) (request_head_written r (field ++ []) device file completion (head_fits o fits))
    (same_bytes field (field ++ []) (sym (append-nil field))
    (layout_then o field (op_written o ([] ++ []) fits range)
    (done_last r [])))))

head_written : (head : Head) (after : List ℕ) → head.device < 2 ^ 32 → head.completion < 2 ^ 32 → (head.status).0 < 2 ^ 32 → Written completion_head head (head_bytes head) after
unfolding completion_head
head_written head after device completion status =
    header_then IoCompletion
    (number_then head.device device
    (number_then head.completion completion
    (number_then (head.status).0 status
    (done_last head after))))

pub head_spelled : (head : Head) (after : List ℕ) (tail : ℕ) → length after ≡ tail → head.device < 2 ^ 32 → head.completion < 2 ^ 32 → (head.status).0 < 2 ^ 32 → SpellsHead head tail (head_bytes head ++ after)
head_spelled head after tail is device completion status = (head_bytes head, after, refl, is, (head_written head after device completion status).spelled)

missing_pad_then : {B : Type 0} {next : Layout B} {b : B} {second after : List ℕ} (count : ℕ) (xs : List ℕ) → length xs ≡ count → Written next b second after → Written (missing_pad count >> next) b (xs ++ second) after
missing_pad_then {second = second} {after = after} count xs len q =
    let rest = second ++ after in
    let left = length (xs ++ rest) in
    let all : length xs ≡ min count left = omega (arith, length-append xs rest, len) in
    record { spelled = (tt, xs, second, refl, (left, [], xs, refl, (refl, refl), (xs, xs, [], sym (append-nil xs), (refl, all), (refl, refl))), q.spelled) }

pub length-body_bytes : (k : Kind) (b : Body) → length (body_bytes k b) ≡ body_length k b
length-body_bytes k (body.Created file information) = refl
length-body_bytes k body.Closed = refl
length-body_bytes k (body.Count count) = refl
length-body_bytes k (body.Buffer bytes) = omega arith
length-body_bytes k body.Locked = refl
length-body_bytes k body.Fault = length-replicate (fault_length k) 0

success_spelled : (k : Kind) (b : Body) → IsOfKind k b → IsCountableBody b → IsBodyInRange b → Spells (success_body k) b (body_tail k b) (body_bytes k b)
unfolding success_body
success_spelled kind.Create (body.Created file information) of countable range = spells_all (success_body kind.Create) _ _ (number_then file range.0 (number_then information range.1 (done_last _ [])))
success_spelled kind.Close body.Closed of countable range = spells_all (success_body kind.Close) _ _ (missing_pad_then 4 (replicate 4 0) refl (done_last _ []))
success_spelled kind.Count (body.Count count) of countable range = spells_all (success_body kind.Count) _ _ (number_then count range (missing_pad_then 1 (replicate 1 0) refl (done_last _ [])))
success_spelled kind.Buffer (body.Buffer bytes) of countable range =
    spells_all (success_body kind.Buffer) _ _ (number_then (length bytes) countable (same_bytes bytes (bytes ++ []) (sym (append-nil bytes)) (bytes_then bytes refl (done_last _ []))))
success_spelled kind.Lock body.Locked of countable range = spells_all (success_body kind.Lock) _ _ (missing_pad_then 5 (replicate 5 0) refl (done_last _ []))
success_spelled k b of countable range = absurd of

either_spelled : (is : Bool) (k : Kind) (b : Body) → MatchBool is (IsOfKind k b) (b ≡ body.Fault) → IsCountableBody b → IsBodyInRange b → Spells (choose is (success_body k) (done body.Fault)) b (body_tail k b) (body_bytes k b)
either_spelled true k b of countable range = success_spelled k b of countable range
either_spelled false k b is countable range =
    let fault : Spells (done body.Fault) body.Fault (fault_length k) (replicate (fault_length k) 0) = ([], replicate (fault_length k) 0, refl, length-replicate (fault_length k) 0, (refl, refl)) in
    subst (λ (f : Body). Spells (done body.Fault) f (body_tail k f) (body_bytes k f)) (sym is) fault

pub body_spelled : (k : Kind) (status : Status) (b : Body) → BodyFits k status b → IsBodyInRange b → SpellsBody k status b (body_tail k b) (body_bytes k b)
unfolding completion_body
body_spelled k status b fits range = either_spelled (status.0 == 0) k b fits.0 fits.1 range

-- the body comes after the head's 16 bytes
pub body_after_head : (head : Head) (field : List ℕ) → drop 16 (head_bytes head ++ field) ≡ field
body_after_head head field = drop_at (head_bytes head) field 16 refl
