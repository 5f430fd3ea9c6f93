-- Messages byte by byte, with what they spell.
use Rattle.std.proofs.Common.{Fits, get_or, subst, ◌≡◌, ℕ, zero, suc, ◌<◌, List, [], ◌∷◌, ◌++◌, Ok, Err, refl, arith, Bool, true, false}
use Rattle.std.proofs.lemmas.Bool.{ltb-true}
use Rattle.std.specs.Prelude.{IsTrue, nat_lt, ◌&&◌, replicate, take, drop, length}
use Rattle.rd_base.specs.declared.bad.Bad.{Bad}
use Rattle.rd_base.specs.declared.bad.Why.TheVariants.{Short, Component, Packet, Length}
use Rattle.std.specs.Int.{w8}
use Rattle.rd_base.specs.Position.{at_start}
use Rattle.rd_base.specs.Layout.{AreBytes, Layout, Spells, FaultAfter, met}
use Rattle.rd_base.proofs.LayoutLemmas.{spells, fault_after}
use Rattle.rd_base.specs.Statuses.{invalid_parameter, success}
use Rattle.rd_irp.specs.declared.op.Op.TheVariants as op
use Rattle.rd_irp.specs.declared.request.Request.{Request}
use Rattle.rd_irp.specs.declared.request.RequestHead.{RequestHead}
use Rattle.rd_irp.specs.declared.completion.Kind.TheVariants as kind
use Rattle.rd_irp.specs.declared.completion.Body.TheVariants as body
use Rattle.rd_base.specs.Header.{header, component_field}
use Rattle.rd_irp.specs.Op.{op_body, create_body, read_body}
use Rattle.rd_irp.specs.Request.{request_head, body_after, whole_request, SpellsRequest, FirstFaultOfRequest}
use Rattle.rd_irp.specs.Written.{request_bytes, completion_bytes, body_bytes}
use Rattle.rd_irp.specs.Completion.{completion_head, success_body, completion_body, SpellsHead, SpellsBody, FirstFaultOfBody}

-- whether all are bytes
abbrev pub each_byte : List ℕ → Bool
each_byte [] = true
each_byte (b ∷ bs) = nat_lt b 256 && each_byte bs

both_true : (x y : Bool) → IsTrue (x && y) → IsTrue x × IsTrue y
both_true true y h = (refl, h)
both_true false y h = absurd cc

pub bytes_are : (bs : List ℕ) → IsTrue (each_byte bs) → AreBytes bs
bytes_are [] fits i = omega arith
bytes_are (b ∷ bs) fits zero = ltb-true b 256 (both_true (nat_lt b 256) (each_byte bs) fits).0
bytes_are (b ∷ bs) fits (suc i) = bytes_are bs (both_true (nat_lt b 256) (each_byte bs) fits).1 i

-- the same as a reader of a slice knows it
fits_of : (bs : List ℕ) → AreBytes bs → (i : ℕ) → Fits w8 (get_or bs i 0)
fits_of bs are i = let below : get_or bs i 0 < 256 = are i in omega arith

-- what a layout meets is spelled, the rest being the tail
met_is_spelled : {A : Type 0} (l : Layout A) (bytes : List ℕ) (a : A) (at tail : ℕ) → IsTrue (each_byte bytes) → met l (at_start bytes) ≡ Ok (a, record { at = at; left = drop at bytes }) → length (drop at bytes) ≡ tail → Spells l a tail bytes
met_is_spelled l bytes a at tail test e is =
    subst (λ (n : ℕ). Spells l a n bytes) is (spells l 0 bytes a (record { at = at; left = drop at bytes }) (bytes_are bytes test) e)

-- the fault that is met after a request's head
met_is_malformed : (bytes : List ℕ) (h : RequestHead) (bad : Bad) (tail : ℕ) → IsTrue (each_byte bytes) → met request_head (at_start bytes) ≡ Ok (h, record { at = 24; left = drop 24 bytes }) → met (body_after h) (record { at = 24; left = drop 24 bytes }) ≡ Err bad → tail ≡ length (drop 24 bytes) → FaultAfter request_head body_after h bad tail bytes
met_is_malformed bytes h bad tail test e d is = fault_after request_head body_after bytes (at_start bytes) h _ bad tail (fits_of bytes (bytes_are bytes test)) refl e d is

-- A CREATE of `\a.txt` on device 1, for reading and shared by all: its head, its numbers, the length of the path.
abbrev pub create_fields : List ℕ
create_fields =
    0x72 ∷ 0x44 ∷ 0x52 ∷ 0x49 ∷ 1 ∷ 0 ∷ 0 ∷ 0 ∷ 0 ∷ 0 ∷ 0 ∷ 0 ∷ 0 ∷ 0 ∷ 0 ∷ 0 ∷ 0 ∷ 0 ∷ 0 ∷ 0 ∷ 0 ∷ 0 ∷ 0 ∷ 0
    ∷ 0 ∷ 0 ∷ 0 ∷ 0x80 ∷ 0 ∷ 0 ∷ 0 ∷ 0 ∷ 0 ∷ 0 ∷ 0 ∷ 0 ∷ 0 ∷ 0 ∷ 0 ∷ 0 ∷ 7 ∷ 0 ∷ 0 ∷ 0 ∷ 1 ∷ 0 ∷ 0 ∷ 0 ∷ 0 ∷ 0 ∷ 0 ∷ 0 ∷ []

-- the path's units and the zero unit after them
abbrev pub path_field : List ℕ
path_field = 0x5c ∷ 0 ∷ 0x61 ∷ 0 ∷ 0x2e ∷ 0 ∷ 0x74 ∷ 0 ∷ 0x78 ∷ 0 ∷ 0x74 ∷ 0 ∷ 0 ∷ 0 ∷ []

-- the whole of it
abbrev pub create_message : List ℕ
create_message = create_fields ++ 14 ∷ 0 ∷ 0 ∷ 0 ∷ path_field

pub length-create_message : length create_message ≡ 70
length-create_message = refl

abbrev pub create_request : Request
create_request = record {
  device = 1;
  file = 0;
  completion = 0;
  op = op.Create 0x8000_0000 0 0 7 1 0 (0x5c ∷ 0x61 ∷ 0x2e ∷ 0x74 ∷ 0x78 ∷ 0x74 ∷ []);
}

pub create_spelled : SpellsRequest create_request 0 create_message
unfolding whole_request request_head header component_field op_body create_body
create_spelled = met_is_spelled whole_request create_message create_request 70 0 refl refl refl

pub create_written : request_bytes create_request ≡ create_message
create_written = refl

-- A path that is longer than its message is short where its units begin: it isn't cut.
abbrev pub long_path : List ℕ
long_path = create_fields ++ 16 ∷ 0 ∷ 0 ∷ 0 ∷ path_field

pub long_path_malformed : SpellsRequest (record { device = 1; file = 0; completion = 0; op = op.Malformed 0 0 (record { at = 56; why = Short }) }) 46 long_path
unfolding request_head header component_field op_body create_body
long_path_malformed = met_is_malformed long_path (record { device = 1; file = 0; completion = 0; major = 0; minor = 0 }) _ 46 refl refl refl refl

-- an odd length of a path, at the length
abbrev pub odd_path : List ℕ
odd_path = create_fields ++ 13 ∷ 0 ∷ 0 ∷ 0 ∷ path_field

pub odd_path_malformed : SpellsRequest (record { device = 1; file = 0; completion = 0; op = op.Malformed 0 0 (record { at = 52; why = Length }) }) 46 odd_path
unfolding request_head header component_field op_body create_body
odd_path_malformed = met_is_malformed odd_path (record { device = 1; file = 0; completion = 0; major = 0; minor = 0 }) _ 46 refl refl refl refl

-- a READ of device 1, file 1, of 5 bytes from the first
abbrev pub read_message : List ℕ
read_message =
    0x72 ∷ 0x44 ∷ 0x52 ∷ 0x49 ∷ 1 ∷ 0 ∷ 0 ∷ 0 ∷ 1 ∷ 0 ∷ 0 ∷ 0 ∷ 0 ∷ 0 ∷ 0 ∷ 0 ∷ 3 ∷ 0 ∷ 0 ∷ 0 ∷ 0 ∷ 0 ∷ 0 ∷ 0
    ∷ 5 ∷ 0 ∷ 0 ∷ 0 ∷ 0 ∷ 0 ∷ 0 ∷ 0 ∷ 0 ∷ 0 ∷ 0 ∷ 0 ∷ replicate 20 0

pub read_spelled : SpellsRequest (record { device = 1; file = 1; completion = 0; op = op.Read 0 5 }) 0 read_message
unfolding whole_request request_head header component_field op_body read_body
read_spelled = met_is_spelled whole_request read_message _ 56 0 refl refl refl

-- the same without its last byte: the pad at 36 is short
pub cut_read_malformed : SpellsRequest (record { device = 1; file = 1; completion = 0; op = op.Malformed 3 0 (record { at = 36; why = Short }) }) 31 (take 55 read_message)
unfolding request_head header component_field op_body read_body
cut_read_malformed = met_is_malformed (take 55 read_message) (record { device = 1; file = 1; completion = 0; major = 3; minor = 0 }) _ 31 refl refl refl refl

-- a request whose function isn't known, and one byte after its head
abbrev pub unknown_message : List ℕ
unknown_message =
    0x72 ∷ 0x44 ∷ 0x52 ∷ 0x49 ∷ 1 ∷ 0 ∷ 0 ∷ 0 ∷ 1 ∷ 0 ∷ 0 ∷ 0 ∷ 2 ∷ 0 ∷ 0 ∷ 0 ∷ 0x12 ∷ 0 ∷ 0 ∷ 0 ∷ 9 ∷ 0 ∷ 0 ∷ 0 ∷ 5 ∷ []

pub unknown_spelled : SpellsRequest (record { device = 1; file = 1; completion = 2; op = op.Unknown 0x12 9 }) 1 unknown_message
unfolding whole_request request_head header component_field op_body
unknown_spelled = met_is_spelled whole_request unknown_message _ 24 1 refl refl refl

-- heads with a fault: an unknown component, a packet of printing, a request cut in at_start of its device
pub unknown_component : FirstFaultOfRequest (0x78 ∷ 0x78 ∷ 0x52 ∷ 0x49 ∷ []) (record { at = 0; why = Component })
unfolding request_head header component_field
unknown_component = refl

pub printing_packet : FirstFaultOfRequest (0x52 ∷ 0x50 ∷ 0x52 ∷ 0x49 ∷ []) (record { at = 2; why = Packet })
unfolding request_head header component_field
printing_packet = refl

pub cut_head : FirstFaultOfRequest (0x72 ∷ 0x44 ∷ 0x52 ∷ 0x49 ∷ 1 ∷ 0 ∷ []) (record { at = 4; why = Short })
unfolding request_head header component_field
cut_head = refl

-- the completion of the cut READ
abbrev pub refused_read : List ℕ
refused_read = 0x72 ∷ 0x44 ∷ 0x43 ∷ 0x49 ∷ 1 ∷ 0 ∷ 0 ∷ 0 ∷ 0 ∷ 0 ∷ 0 ∷ 0 ∷ 0x0d ∷ 0 ∷ 0 ∷ 0xc0 ∷ 0 ∷ 0 ∷ 0 ∷ 0 ∷ []

pub refused_head : SpellsHead (record { device = 1; completion = 0; status = invalid_parameter }) 4 refused_read
unfolding completion_head header component_field
refused_head = met_is_spelled completion_head refused_read _ 16 4 refl refl refl

pub refused_body : SpellsBody kind.Buffer invalid_parameter body.Fault 4 (drop 16 refused_read)
unfolding completion_body
refused_body = met_is_spelled (completion_body kind.Buffer invalid_parameter) (drop 16 refused_read) _ 0 4 refl refl refl

pub refused_written : completion_bytes kind.Buffer (record { device = 1; completion = 0; status = invalid_parameter }) body.Fault ≡ refused_read
refused_written = refl

pub created_body : SpellsBody kind.Create success (body.Created 1 1) 0 (1 ∷ 0 ∷ 0 ∷ 0 ∷ 1 ∷ [])
unfolding completion_body success_body
created_body = met_is_spelled (completion_body kind.Create success) (1 ∷ 0 ∷ 0 ∷ 0 ∷ 1 ∷ []) _ 5 0 refl refl refl

-- the bytes of `hello`
abbrev pub hello : List ℕ
hello = 0x68 ∷ 0x65 ∷ 0x6c ∷ 0x6c ∷ 0x6f ∷ []

pub buffer_body : SpellsBody kind.Buffer success (body.Buffer hello) 0 (5 ∷ 0 ∷ 0 ∷ 0 ∷ hello)
unfolding completion_body success_body
buffer_body = met_is_spelled (completion_body kind.Buffer success) (5 ∷ 0 ∷ 0 ∷ 0 ∷ hello) _ 9 0 refl refl refl

-- as they are written
pub created_written : body_bytes kind.Create (body.Created 1 1) ≡ 1 ∷ 0 ∷ 0 ∷ 0 ∷ 1 ∷ []
created_written = refl

pub buffer_written : body_bytes kind.Buffer (body.Buffer hello) ≡ 5 ∷ 0 ∷ 0 ∷ 0 ∷ hello
buffer_written = refl

pub close_written : body_bytes kind.Close body.Closed ≡ 0 ∷ 0 ∷ 0 ∷ 0 ∷ []
close_written = refl

-- the bytes that a buffer doesn't count come after it
pub longer_buffer : SpellsBody kind.Buffer success (body.Buffer (0x61 ∷ [])) 1 (1 ∷ 0 ∷ 0 ∷ 0 ∷ 0x61 ∷ 0x62 ∷ [])
unfolding completion_body success_body
longer_buffer = met_is_spelled (completion_body kind.Buffer success) (1 ∷ 0 ∷ 0 ∷ 0 ∷ 0x61 ∷ 0x62 ∷ []) _ 5 1 refl refl refl

-- a Close with its pad, and without it
pub close_body_whole : SpellsBody kind.Close success body.Closed 0 (0 ∷ 0 ∷ 0 ∷ 0 ∷ [])
unfolding completion_body success_body
close_body_whole = met_is_spelled (completion_body kind.Close success) (0 ∷ 0 ∷ 0 ∷ 0 ∷ []) _ 4 0 refl refl refl

pub close_body_empty : SpellsBody kind.Close success body.Closed 0 []
unfolding completion_body success_body
close_body_empty = met_is_spelled (completion_body kind.Close success) [] _ 0 0 refl refl refl

-- a count with its pad, without it, and with a byte more
pub count_body_whole : SpellsBody kind.Count success (body.Count 2) 0 (2 ∷ 0 ∷ 0 ∷ 0 ∷ 0 ∷ [])
unfolding completion_body success_body
count_body_whole = met_is_spelled (completion_body kind.Count success) (2 ∷ 0 ∷ 0 ∷ 0 ∷ 0 ∷ []) _ 5 0 refl refl refl

pub count_body_cut : SpellsBody kind.Count success (body.Count 2) 0 (2 ∷ 0 ∷ 0 ∷ 0 ∷ [])
unfolding completion_body success_body
count_body_cut = met_is_spelled (completion_body kind.Count success) (2 ∷ 0 ∷ 0 ∷ 0 ∷ []) _ 4 0 refl refl refl

pub count_body_long : SpellsBody kind.Count success (body.Count 2) 1 (2 ∷ 0 ∷ 0 ∷ 0 ∷ 0 ∷ 7 ∷ [])
unfolding completion_body success_body
count_body_long = met_is_spelled (completion_body kind.Count success) (2 ∷ 0 ∷ 0 ∷ 0 ∷ 0 ∷ 7 ∷ []) _ 5 1 refl refl refl

-- a Create without its information
pub created_body_short : FirstFaultOfBody kind.Create success (1 ∷ 0 ∷ 0 ∷ 0 ∷ []) (record { at = 4; why = Short })
unfolding completion_body success_body
created_body_short = refl
