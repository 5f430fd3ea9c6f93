-- What is read of a notice without memory.
use Rattle.std.proofs.Common.{◌≡◌, ◌∙◌, refl, sym, ap, ℕ, ◌+◌, ◌≤◌, Bool, true, false, cond, List, Some, None, Option, Ok, Err, arith, le-leb, lit<, inl, inr}
use Rattle.std.specs.Prelude.{◌==◌, ◌⊎◌, is_some, nat_le}
use Rattle.rd_base.specs.declared.bad.Bad.{Bad}
use Rattle.rd_base.specs.declared.bad.Why.TheVariants as why
use Rattle.rd_base.specs.declared.packet.Packet.{Packet}
use Rattle.rd_base.specs.declared.packet.Packet.TheVariants as packet
use Rattle.rd_base.specs.Counted.{counted_bytes, four_fields, two_fields}
use Rattle.rd_base.specs.Fields.{number16, number32}
use Rattle.rd_base.specs.Header.{are_numbers_of, component_field, header_among, packet_among}
use Rattle.rd_base.specs.Layout.{four_bytes, met, test}
use Rattle.rd_base.specs.Position.{Position, at_start}
use Rattle.rd_base.proofs.ResultLemmas.{and_then_ok, ok_one}
use Rattle.rd_core.proofs.FaultPlaceLemmas.{Onward, header_place, number_place, onward_bytes, onward_bytes_last, onward_choose, onward_done, onward_number, onward_then}
use Rattle.rd_core.proofs.OpeningLemmas.{among_named}
use Rattle.rd_hello.specs.Moves.{packet_in}
use Rattle.rd_printer.specs.declared.notice.Notice.{Notice}
use Rattle.rd_printer.specs.Notice.{FirstFaultOfNotice, add_event, cache_data, delete_event, event_body, notice, notices, rename_event, update_event, using_xps}

-- the header stands in the first four bytes
pub notice_header : (bytes : List ℕ) (start : Position) (found : Option Packet) (rest : Position) → start ≡ at_start bytes → met (header_among notices) start ≡ Ok (found, rest) → rest.at ≡ 4
notice_header bytes start found rest begun head = omega (arith, header_place notices start found rest head, ap (λ (p : Position). p.at) begun)

-- a notice of XPS
pub xps_met : (bytes : List ℕ) (start q rest : Position) (p : Packet) (n : Notice) → start ≡ at_start bytes → met (header_among notices) start ≡ Ok (Some p, q) → p ≡ packet.PrinterUsingXps
    → met using_xps q ≡ Ok (n, rest) → (rest : Position) × (met notice (at_start bytes) ≡ Ok (n, rest))
unfolding notice
xps_met bytes start q rest p n begun head is e =
    let there = rw begun at head in
    (rest, rw (there, is, e) refl)

-- which packet a notice is of
one_of_two : (c i : ℕ) (q : Packet) → packet_among notices c i ≡ Some q → (q ≡ packet.PrinterCacheData) ⊎ (q ≡ packet.PrinterUsingXps)
one_of_two c i q e = go (are_numbers_of c i packet.PrinterCacheData) (are_numbers_of c i packet.PrinterUsingXps) e
  where
    go : (a b : Bool) → cond a (Some packet.PrinterCacheData) (cond b (Some packet.PrinterUsingXps) None) ≡ Some q → (q ≡ packet.PrinterCacheData) ⊎ (q ≡ packet.PrinterUsingXps)
    go true b e = let same : packet.PrinterCacheData ≡ q = cc in inl (sym same)
    go false true e = let same : packet.PrinterUsingXps ≡ q = cc in inr (sym same)
    go false false e = absurd cc

notice_is : (bytes : List ℕ) (q : Packet) (rest : Position) → met (header_among notices) (at_start bytes) ≡ Ok (Some q, rest) → (q ≡ packet.PrinterCacheData) ⊎ (q ≡ packet.PrinterUsingXps)
unfolding header_among
notice_is bytes q rest e =
    let c = and_then_ok (met component_field (at_start bytes)) _ _ e in
    let i = and_then_ok (met number16 c.0.1) _ _ c.2 in
    let t = and_then_ok (met (test (is_some (packet_among notices c.0.0 i.0.0)) 2 why.Packet) i.0.1) _ _ i.2 in
    let same : ◌≡◌ {A = Option Packet × Position} (packet_among notices c.0.0 i.0.0, t.0.1) (Some q, rest) = ok_one _ _ _ refl t.2 in
    one_of_two c.0.0 i.0.0 q (ap (λ (x : Option Packet × Position). x.0) same)

-- nothing is wrong with any other before its data
pub data_before : (bytes : List ℕ) (start rest : Position) (q : Packet) → start ≡ at_start bytes → met (header_among notices) start ≡ Ok (Some q, rest) → (q ≡ packet.PrinterUsingXps → ⊥)
    → ((bad : Bad) → met cache_data rest ≡ Err bad → 8 ≤ bad.at)
    → (p : Packet) → packet_in bytes ≡ Some p → (p ≡ packet.PrinterCacheData) × ((bad : Bad) → FirstFaultOfNotice bytes bad → 8 ≤ bad.at)
unfolding notice
data_before bytes start rest q begun head other none p named = go (notice_is bytes q rest there)
  where
    there : met (header_among notices) (at_start bytes) ≡ Ok (Some q, rest)
    there = rw begun at head

    go : (q ≡ packet.PrinterCacheData) ⊎ (q ≡ packet.PrinterUsingXps) → (p ≡ packet.PrinterCacheData) × ((bad : Bad) → FirstFaultOfNotice bytes bad → 8 ≤ bad.at)
    go (inl is) = (among_named notices bytes p q rest there named ∙ is, λ bad e. none bad (rw (there, is) at e))
    go (inr is) = absurd (other is)

-- ---- the data of an event

four_onward : Onward 8 0 four_fields
unfolding four_fields
four_onward =
    onward_number 8 (lit< tt) 0 four_bytes _ λ a.
    onward_number 8 (lit< tt) 4 four_bytes _ λ b.
    onward_number 8 (lit< tt) 8 four_bytes _ λ c.
    onward_number 8 (lit< tt) 12 four_bytes _ λ d.
    onward_bytes 8 (lit< tt) 16 a _ λ first.
    onward_bytes 8 (lit< tt) 16 b _ λ second.
    onward_bytes 8 (lit< tt) 16 c _ λ third.
    onward_bytes 8 (lit< tt) 16 d _ λ fourth.
    onward_done 8 (lit< tt) 16 _

two_onward : Onward 8 0 two_fields
unfolding two_fields
two_onward =
    onward_number 8 (lit< tt) 0 four_bytes _ λ a.
    onward_number 8 (lit< tt) 4 four_bytes _ λ b.
    onward_bytes 8 (lit< tt) 8 a _ λ first.
    onward_bytes 8 (lit< tt) 8 b _ λ second.
    onward_done 8 (lit< tt) 8 _

one_onward : Onward 8 0 counted_bytes
unfolding counted_bytes
one_onward = onward_number 8 (lit< tt) 0 four_bytes _ λ a. onward_bytes_last 8 (lit< tt) 4 a

add_onward : Onward 8 0 add_event
unfolding add_event
add_onward = onward_bytes 8 (lit< tt) 0 8 _ λ port. onward_then 8 (lit< tt) 0 four_fields _ four_onward λ fields. onward_done 8 (lit< tt) 0 _

update_onward : Onward 8 0 update_event
unfolding update_event
update_onward = onward_then 8 (lit< tt) 0 two_fields _ two_onward λ fields. onward_done 8 (lit< tt) 0 _

delete_onward : Onward 8 0 delete_event
unfolding delete_event
delete_onward = onward_then 8 (lit< tt) 0 counted_bytes _ one_onward λ name. onward_done 8 (lit< tt) 0 _

rename_onward : Onward 8 0 rename_event
unfolding rename_event
rename_onward = onward_then 8 (lit< tt) 0 two_fields _ two_onward λ fields. onward_done 8 (lit< tt) 0 _

event_onward : (event : ℕ) → Onward 8 0 (event_body event)
unfolding event_body
event_onward event =
    onward_choose 8 (lit< tt) 0 (event == 1) add_event _ add_onward
    (onward_choose 8 (lit< tt) 0 (event == 2) update_event _ update_onward
    (onward_choose 8 (lit< tt) 0 (event == 3) delete_event rename_event delete_onward rename_onward))

pub data_later : (p q : Position) (event : ℕ) (bad : Bad) → p.at ≡ 4 → met number32 p ≡ Ok (event, q) → 1 ≤ event → event ≤ 4 → met cache_data p ≡ Err bad → 8 ≤ bad.at
unfolding cache_data
data_later p q event bad at first low high e =
    let place : 8 + 0 ≤ q.at = omega (arith, number_place four_bytes p event q first) in
    let is_low : nat_le 1 event ≡ true = le-leb 1 event low in
    let is_high : nat_le event 4 ≡ true = le-leb event 4 high in
    let later = rw (first, is_low, is_high) at e in
    (event_onward event).onward q bad place later
