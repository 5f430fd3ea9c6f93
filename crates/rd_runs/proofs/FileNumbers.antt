-- The number of a file that a completion gives has room in its field, whatever else the completion carries.
use Rattle.std.proofs.Common.{◌≡◌, ◌∙◌, refl, sym, ap, subst, ℕ, zero, suc, ◌+◌, ◌/◌, ◌%◌, ◌||◌, ◌<◌, ◌^◌, ◌==◌, arith, cond, Bool, true, false, List, [], ◌∷◌, ◌++◌, length, take, drop, replicate, Some, None, Result, Ok, Err}
use Rattle.std.specs.Prelude.{if◌then◌else◌, nat_lt}
use Rattle.std.specs.Option.{IfSome}
use Rattle.rd_base.specs.declared.bad.Bad.{Bad}
use Rattle.rd_base.specs.declared.packet.Packet as packets
use Rattle.rd_base.specs.declared.packet.Packet.TheVariants.{IoCompletion}
use Rattle.rd_base.specs.declared.packet.Packet.TheVariants as packet
use Rattle.rd_base.specs.declared.status.Status.{Status}
use Rattle.rd_base.specs.Fields.{number8, number16, number32, missing_pad}
use Rattle.rd_base.specs.Header.{are_numbers_of, component_field, core, header, header_bytes, packet_id, printing}
use Rattle.rd_base.specs.declared.bad.Why.TheVariants.{Component, Packet, Short}
use Rattle.rd_base.specs.Layout.{AreBytes, Size, any_bytes, bad_at, choose, done, four_bytes, met, number, past, size_in_bytes, test, two_bytes, width_of}
use Rattle.rd_base.proofs.MessageLemmas.{test_ok}
use Rattle.std.specs.Int.{from_le_bytes, to_le_bytes, w8, w32}
use Rattle.std.proofs.lemmas.Nat.{mod_below}
use Rattle.rd_base.specs.Counted.{items_and_count}
use Rattle.rd_devices.specs.declared.list.Announce.{Announce}
use Rattle.rd_devices.specs.DeviceList.{announce_bytes, list_bytes}
use Rattle.rd_devices.specs.Removal.{removal_bytes}
use Rattle.rd_hello.specs.declared.hello.Hello.{Hello}
use Rattle.rd_hello.specs.declared.hello.Hello.TheVariants as hello
use Rattle.rd_hello.specs.Hello.{hello_body_bytes, hello_bytes, packet_of_hello}
use Rattle.rd_base.specs.Position.{Position, at_start}
use Rattle.rd_base.proofs.LayoutLemmas.{met_below}
use Rattle.rd_base.proofs.ResultLemmas.{and_then_ok}
use Rattle.rd_irp.specs.declared.completion.Body.{Body}
use Rattle.rd_irp.specs.declared.completion.Body.TheVariants as body
use Rattle.rd_irp.specs.declared.completion.Head.{Head}
use Rattle.rd_irp.specs.declared.completion.Kind.{Kind}
use Rattle.rd_irp.specs.declared.completion.Kind.TheVariants as kind
use Rattle.rd_irp.specs.Completion.{completion_body, completion_head, success_body}
use Rattle.rd_irp.specs.Written.{body_bytes, completion_bytes}
use Rattle.rd_deeds.proofs.Messages.{no_head_in, written_packet}
use Rattle.rd_world.specs.Hearing.{created_file}
use Rattle.rd_deeds.specs.Talk.{head_in}

-- the first four are bytes
abbrev pub BeginsInBytes : List ℕ → Type 0
BeginsInBytes bytes = AreBytes (take 4 bytes)

-- what stands after the head of a completion begins in bytes, if the message is one
abbrev pub IsSafe : List ℕ → Type 0
IsSafe m = (head : Head) (q : Position) → met completion_head (at_start m) ≡ Ok (head, q) → BeginsInBytes q.left

-- ---- what is read

-- a number of so many bytes that is read
record IsNumber (s : Size) (p q : Position) (n : ℕ) : Type 0 where
  enough : nat_lt (length p.left) (size_in_bytes s) ≡ false
  value : n ≡ from_le_bytes (width_of s) (take (size_in_bytes s) p.left)
  left : q.left ≡ drop (size_in_bytes s) p.left

number_read : (s : Size) (p q : Position) (n : ℕ) → met (number s) p ≡ Ok (n, q) → IsNumber s p q n
number_read s p q n e = by (nat_lt (length p.left) (size_in_bytes s)) refl e
  where
    by : (b : Bool) → nat_lt (length p.left) (size_in_bytes s) ≡ b
        → cond {A = Result (ℕ × Position) Bad} b (Err (bad_at p.at Short)) (Ok (from_le_bytes (width_of s) (take (size_in_bytes s) p.left), past (size_in_bytes s) p)) ≡ Ok (n, q) → IsNumber s p q n
    by true few e = absurd (cc e)
    by false enough e =
        let same : (from_le_bytes (width_of s) (take (size_in_bytes s) p.left), past (size_in_bytes s) p) ≡ (n, q) = cc e in
        record { enough = enough; value = sym (ap (λ (x : ℕ × Position). x.0) same); left = sym (ap (λ (x : ℕ × Position). (x.1).left) same) }

ok_left : {A : Type 0} (x y : A × Position) → ◌≡◌ {A = Result (A × Position) Bad} (Ok x) (Ok y) → (y.1).left ≡ (x.1).left
ok_left {A} x y e = let same : x ≡ y = cc e in ap (λ (z : A × Position). (z.1).left) (sym same)

header_left : (packet : packets.Packet) (p : Position) (x : Unit {0} × Position) → met (header packet) p ≡ Ok x → (x.1).left ≡ drop 2 (drop 2 p.left)
unfolding header component_field
header_left packet p x e =
    let (c, first, rest) = and_then_ok (met component_field p) _ x e in
    let (n, read, tested) = and_then_ok (met number16 p) _ c first in
    let (u, holds, made) = and_then_ok (met (test (n.0 == core || n.0 == printing) 2 Component) n.1) (λ (u : Unit {0} × Position). Ok (n.0, u.1)) c tested in
    let (i, id, last) = and_then_ok (met number16 c.1) _ x rest in
    let (v, named, end) = and_then_ok (met (test (are_numbers_of c.0 i.0 packet) 2 Packet) i.1) (λ (v : Unit {0} × Position). Ok (tt, v.1)) x last in
    let one = number_read two_bytes p n.1 n.0 read in
    let two = number_read two_bytes c.1 i.1 i.0 id in
    let after_first : (c.1).left ≡ drop 2 p.left = ok_left (n.0, u.1) c made ∙ ap (λ (y : Position). y.left) (test_ok (n.0 == core || n.0 == printing) 2 Component n.1 u holds).1 ∙ one.left in
    ok_left (tt, v.1) x end ∙ ap (λ (y : Position). y.left) (test_ok (are_numbers_of c.0 i.0 packet) 2 Packet i.1 v named).1 ∙ two.left ∙ ap (drop 2) after_first

head_left : (m : List ℕ) (head : Head) (q : Position) → met completion_head (at_start m) ≡ Ok (head, q) → q.left ≡ drop 4 (drop 4 (drop 4 (drop 2 (drop 2 m))))
unfolding completion_head
head_left m head q e =
    let (h, opened, e1) = and_then_ok (met (header IoCompletion) (at_start m)) _ (head, q) e in
    let (d, device, e2) = and_then_ok (met number32 h.1) _ (head, q) e1 in
    let (i, completion, e3) = and_then_ok (met number32 d.1) _ (head, q) e2 in
    let (s, status, end) = and_then_ok (met number32 i.1) _ (head, q) e3 in
    let first = header_left IoCompletion (at_start m) h opened in
    ok_left (record { device = d.0; completion = i.0; status = record { 0 = s.0 } }, s.1) (head, q) end
    ∙ (number_read four_bytes i.1 s.1 s.0 status).left
    ∙ ap (drop 4) ((number_read four_bytes d.1 i.1 i.0 completion).left ∙ ap (drop 4) ((number_read four_bytes h.1 d.1 d.0 device).left ∙ ap (drop 4) first))

-- ---- messages that are safe

-- a message of another packet is no completion
other_safe : (p : packets.Packet) (rest : List ℕ) → (packet_id p == packet_id IoCompletion) ≡ false → IsSafe (header_bytes p ++ rest)
other_safe p rest other head q e =
    let none : head_in (header_bytes p ++ rest) ≡ None = no_head_in p (header_bytes p ++ rest) (written_packet p rest) other in
    let some : head_in (header_bytes p ++ rest) ≡ Some head = rw e refl in
    absurd (cc (none, some))

pub hello_safe : (h : Hello) → IsSafe (hello_bytes h)
hello_safe h = other_safe (packet_of_hello h) (hello_body_bytes h) (by h)
  where
    by : (h : Hello) → (packet_id (packet_of_hello h) == packet_id IoCompletion) ≡ false
    by (hello.Announce v) = refl
    by (hello.Confirm v) = refl
    by (hello.Name unicode page bytes) = refl
    by (hello.ServerCaps caps) = refl
    by (hello.ClientCaps caps) = refl
    by hello.LoggedOn = refl

pub list_safe : (devices : List Announce) → IsSafe (list_bytes devices)
list_safe devices = other_safe packet.DeviceListAnnounce (items_and_count announce_bytes devices) refl

pub removal_safe : (ids : List ℕ) → IsSafe (removal_bytes ids)
removal_safe ids = other_safe packet.DeviceListRemove (items_and_count (to_le_bytes w32) ids) refl

slice_bytes : (a b c d : ℕ) → a < 256 → b < 256 → c < 256 → d < 256 → AreBytes (a ∷ b ∷ c ∷ d ∷ [])
slice_bytes a b c d one two three four zero = one
slice_bytes a b c d one two three four (suc zero) = two
slice_bytes a b c d one two three four (suc (suc zero)) = three
slice_bytes a b c d one two three four (suc (suc (suc zero))) = four
slice_bytes a b c d one two three four (suc (suc (suc (suc i)))) = omega arith

number_bytes : (n : ℕ) (rest : List ℕ) → BeginsInBytes (to_le_bytes w32 n ++ rest)
number_bytes n rest = slice_bytes (n % 256) (n / 256 % 256) (n / 65536 % 256) (n / 16777216 % 256) (mod_below n 256 lower) (mod_below (n / 256) 256 lower) (mod_below (n / 65536) 256 lower) (mod_below (n / 16777216) 256 lower)
  where
    lower : 0 < 256
    lower = omega arith

body_safe : (k : Kind) (b : Body) → BeginsInBytes (body_bytes k b)
body_safe k (body.Created file information) = number_bytes file (to_le_bytes w8 information)
body_safe k body.Closed = slice_bytes 0 0 0 0 (omega arith) (omega arith) (omega arith) (omega arith)
body_safe k (body.Count count) = number_bytes count (replicate 1 0)
body_safe k (body.Buffer bytes) = number_bytes (length bytes) bytes
body_safe k body.Locked = slice_bytes 0 0 0 0 (omega arith) (omega arith) (omega arith) (omega arith)
body_safe kind.Create body.Fault = slice_bytes 0 0 0 0 (omega arith) (omega arith) (omega arith) (omega arith)
body_safe kind.Close body.Fault = slice_bytes 0 0 0 0 (omega arith) (omega arith) (omega arith) (omega arith)
body_safe kind.Count body.Fault = slice_bytes 0 0 0 0 (omega arith) (omega arith) (omega arith) (omega arith)
body_safe kind.Buffer body.Fault = slice_bytes 0 0 0 0 (omega arith) (omega arith) (omega arith) (omega arith)
body_safe kind.Lock body.Fault = slice_bytes 0 0 0 0 (omega arith) (omega arith) (omega arith) (omega arith)

-- a completion, whatever it carries
pub completion_safe : (k : Kind) (head : Head) (b : Body) → IsSafe (completion_bytes k head b)
completion_safe k head b own q e =
    let left : q.left ≡ body_bytes k b = head_left (completion_bytes k head b) own q e in subst BeginsInBytes (sym left) (body_safe k b)

-- ---- the file that is given

below_of : (bytes : List ℕ) (n : ℕ) → nat_lt (length bytes) 4 ≡ false → BeginsInBytes bytes → n ≡ from_le_bytes w32 (take 4 bytes) → n < 2 ^ 32
below_of [] n enough safe value = absurd (cc enough)
below_of (a ∷ []) n enough safe value = absurd (cc enough)
below_of (a ∷ b ∷ []) n enough safe value = absurd (cc enough)
below_of (a ∷ b ∷ c ∷ []) n enough safe value = absurd (cc enough)
below_of (a ∷ b ∷ c ∷ d ∷ rest) n enough safe value =
    let all : List ℕ = a ∷ b ∷ c ∷ d ∷ [] in
    met_below four_bytes 0 all n (record { at = 0 + 4; left = [] }) safe (ap (λ (k : ℕ). Ok (k, record { at = 0 + 4; left = [] })) (sym value))

abbrev pub HasRoom : Status → Body → Type 0
HasRoom st b = IfSome (created_file st b) (λ file. file < 2 ^ 32)

given_file : (st : Status) (bytes : List ℕ) (r : Body × Position) → BeginsInBytes bytes → met (success_body kind.Create) (at_start bytes) ≡ Ok r → HasRoom st r.0
unfolding success_body
given_file st bytes r safe e =
    let (n, file, e1) = and_then_ok (met number32 (at_start bytes)) _ r e in
    let (i, information, end) = and_then_ok (met number8 n.1) (λ (i : ℕ × Position). Ok (body.Created n.0 i.0, i.1)) r e1 in
    let is : body.Created n.0 i.0 ≡ r.0 = (let same : (body.Created n.0 i.0, i.1) ≡ r = cc end in ap (λ (x : Body × Position). x.0) same) in
    let value = number_read four_bytes (at_start bytes) n.1 n.0 file in
    subst (HasRoom st) is (by n.0 (st.0 == 0) (below_of bytes n.0 value.enough safe value.value))
  where
    by : (k : ℕ) (b : Bool) → k < 2 ^ 32 → IfSome (if b then Some k else None) (λ file. file < 2 ^ 32)
    by k true below = below
    by k false below = tt

nothing_given : (st : Status) (b : Body) (r : Body × Position) (p : Position) → HasRoom st b → ◌≡◌ {A = Result (Body × Position) Bad} (Ok (b, p)) (Ok r) → HasRoom st r.0
nothing_given st b r p room e = let same : (b, p) ≡ r = cc e in subst (HasRoom st) (ap (λ (x : Body × Position). x.0) same) room

success_fits : (k : Kind) (st : Status) (bytes : List ℕ) (r : Body × Position) → BeginsInBytes bytes → met (success_body k) (at_start bytes) ≡ Ok r → HasRoom st r.0
unfolding success_body
success_fits kind.Create st bytes r safe e = given_file st bytes r safe e
success_fits kind.Close st bytes r safe e =
    let (x, pad, end) = and_then_ok (met (missing_pad 4) (at_start bytes)) (λ (x : Unit {0} × Position). Ok (body.Closed, x.1)) r e in nothing_given st body.Closed r x.1 tt end
success_fits kind.Count st bytes r safe e =
    let (n, count, e1) = and_then_ok (met number32 (at_start bytes)) _ r e in
    let (x, pad, end) = and_then_ok (met (missing_pad 1) n.1) (λ (x : Unit {0} × Position). Ok (body.Count n.0, x.1)) r e1 in nothing_given st (body.Count n.0) r x.1 tt end
success_fits kind.Buffer st bytes r safe e =
    let (n, count, e1) = and_then_ok (met number32 (at_start bytes)) _ r e in
    let (x, rest, end) = and_then_ok (met (any_bytes n.0) n.1) (λ (x : List ℕ × Position). Ok (body.Buffer x.0, x.1)) r e1 in nothing_given st (body.Buffer x.0) r x.1 tt end
success_fits kind.Lock st bytes r safe e =
    let (x, pad, end) = and_then_ok (met (missing_pad 5) (at_start bytes)) (λ (x : Unit {0} × Position). Ok (body.Locked, x.1)) r e in nothing_given st body.Locked r x.1 tt end

-- a completion's body that is read gives a number that has room
pub file_fits : (k : Kind) (st : Status) (bytes : List ℕ) (r : Body × Position) → BeginsInBytes bytes → met (completion_body k st) (at_start bytes) ≡ Ok r
    → IfSome (created_file st r.0) (λ file. file < 2 ^ 32)
unfolding completion_body
file_fits k st bytes r safe e = by (st.0 == 0) e
  where
    by : (b : Bool) → met (choose b (success_body k) (done body.Fault)) (at_start bytes) ≡ Ok r → HasRoom st r.0
    by true e = success_fits k st bytes r safe e
    by false e = nothing_given st body.Fault r (at_start bytes) tt e

-- the bytes after the head of a completion that is read
pub safe_rest : (m : List ℕ) (head : Head) (q : Position) → IsSafe m → met completion_head (at_start m) ≡ Ok (head, q) → BeginsInBytes q.left
safe_rest m head q safe e = safe head q e
