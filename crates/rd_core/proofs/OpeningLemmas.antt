-- Messages of the opening: where memory is asked for while one is read, nothing is wrong before that place.
use Rattle.std.proofs.Common.{◌≡◌, ◌∙◌, refl, sym, ap, subst, ℕ, ◌+◌, ◌-◌, ◌≤◌, Bool, true, false, cond, List, [], ◌∷◌, Some, None, Option, Result, Ok, Err, arith, inl, inr, lit<, lit≤}
use Rattle.std.specs.Prelude.{◌==◌, ◌⊎◌, OnOk, find, is_some, nat_le}
use Rattle.rd_base.specs.declared.bad.Bad.{Bad}
use Rattle.rd_base.specs.declared.bad.Why.TheVariants as why
use Rattle.rd_base.specs.declared.packet.Packet.{Packet}
use Rattle.rd_base.specs.declared.packet.Packet.TheVariants as packet
use Rattle.rd_base.specs.Counted.{count_to}
use Rattle.rd_base.specs.Fields.{number16, number32, times}
use Rattle.rd_base.specs.Header.{any_header, are_numbers_of, component_field, header, header_among, packet_among}
use Rattle.rd_base.specs.Layout.{Layout, and_then, any_bytes, done, four_bytes, met, test, two_bytes, ◌>>=◌}
use Rattle.rd_base.specs.Position.{Position, at_start}
use Rattle.rd_base.proofs.HeaderLemmas.{named_back}
use Rattle.rd_base.specs.Reading.{WithTail}
use Rattle.rd_base.proofs.LayoutLemmas.{meets}
use Rattle.rd_base.proofs.MessageLemmas.{test_ok}
use Rattle.rd_base.proofs.ResultLemmas.{and_then_ok, ok_one}
use Rattle.rd_hello.specs.declared.capability.Cap.TheVariants as cap
use Rattle.rd_hello.specs.Capability.{body_of, capability, drive_type, general, general_type, most_sets, other, printer_type, sets, special}
use Rattle.rd_hello.specs.declared.hello.Hello.{Hello}
use Rattle.rd_hello.specs.declared.hello.Hello.TheVariants.{Announce, ClientCaps, Confirm, ServerCaps}
use Rattle.rd_hello.specs.Hello.{FirstFaultOfHello, SpellsHello, hello, hello_body, hellos, most_name_bytes, name, version}
use Rattle.rd_hello.specs.Moves.{packet_in}
use Rattle.rd_core.specs.Expected.{ReadsBefore, opening_asks_at}
use Rattle.rd_core.proofs.FaultPlaceLemmas.{Onward, bytes_place, count_place, header_place, number_place, onward_bytes, onward_choose, onward_done, onward_number, onward_test, onward_then, onward_times, onward_within}

-- ---- the header

found_passes : (p : Packet → Bool) (xs : List Packet) (y : Packet) → find p xs ≡ Some y → p y ≡ true
found_passes p [] y e = absurd cc
found_passes p (x ∷ xs) y e = go (p x) refl e (found_passes p xs y)
  where
    go : (b : Bool) → p x ≡ b → cond b (Some x) (find p xs) ≡ Some y → (find p xs ≡ Some y → p y ≡ true) → p y ≡ true
    go true is e later = let same : x ≡ y = cc in subst (λ (z : Packet). p z ≡ true) same is
    go false is e later = later e

-- the packet that is found among some is the one that the header names
pub among_named : (wanted : List Packet) (bytes : List ℕ) (p q : Packet) (rest : Position) → met (header_among wanted) (at_start bytes) ≡ Ok (Some q, rest) → packet_in bytes ≡ Some p → p ≡ q
unfolding header_among header
among_named wanted bytes p q rest e named =
    let c = and_then_ok (met component_field (at_start bytes)) _ _ e in
    let i = and_then_ok (met number16 c.0.1) _ _ c.2 in
    let t = and_then_ok (met (test (is_some (packet_among wanted c.0.0 i.0.0)) 2 why.Packet) i.0.1) _ _ i.2 in
    let same : ◌≡◌ {A = Option Packet × Position} (packet_among wanted c.0.0 i.0.0, t.0.1) (Some q, rest) = ok_one _ _ _ refl t.2 in
    let is : packet_among wanted c.0.0 i.0.0 ≡ Some q = ap (λ (x : Option Packet × Position). x.0) same in
    let end : t.0.1 ≡ rest = ap (λ (x : Option Packet × Position). x.1) same in
    let holds : are_numbers_of c.0.0 i.0.0 q ≡ true = found_passes (are_numbers_of c.0.0 i.0.0) wanted q is in
    let place : i.0.1 ≡ rest = sym (test_ok _ 2 why.Packet i.0.1 t.0 t.1).1 ∙ end in
    let own : met (header q) (at_start bytes) ≡ Ok (tt, rest) = rw (c.1, i.1, holds, place) refl in
    let any : met any_header (at_start bytes) ≡ Ok (Some q, rest) = named_back q (at_start bytes) rest own in
    let other : packet_in bytes ≡ Some q = rw any refl in
    cc

-- ---- what comes after the place

special_onward : (version : ℕ) → Onward 8 40 (special version)
unfolding special
special_onward version =
    onward_choose 8 (lit< tt) 40 (nat_le 2 version) _ (done None) (onward_number 8 (lit< tt) 40 four_bytes _ λ n. onward_done 8 (lit< tt) 44 (Some n)) (onward_done 8 (lit< tt) 40 None)

general_onward : (version : ℕ) → Onward 8 8 (general version)
unfolding general
general_onward version =
    onward_number 8 (lit< tt) 8 four_bytes _ λ os.
    onward_number 8 (lit< tt) 12 four_bytes _ λ os_version.
    onward_number 8 (lit< tt) 16 two_bytes _ λ major.
    onward_test 8 (lit< tt) 18 2 _ _ _ (lit≤ tt) λ w.
    onward_number 8 (lit< tt) 18 two_bytes _ λ minor.
    onward_number 8 (lit< tt) 20 four_bytes _ λ codes.
    onward_number 8 (lit< tt) 24 four_bytes _ λ codes2.
    onward_number 8 (lit< tt) 28 four_bytes _ λ extended.
    onward_number 8 (lit< tt) 32 four_bytes _ λ extra.
    onward_number 8 (lit< tt) 36 four_bytes _ λ extra2.
    onward_then 8 (lit< tt) 40 (special version) _ (special_onward version) λ cap.
    onward_done 8 (lit< tt) 40 _

other_onward : (kind version count : ℕ) → Onward 8 8 (other kind version count)
unfolding other
other_onward kind own count = onward_bytes 8 (lit< tt) 8 count _ λ body. onward_done 8 (lit< tt) 8 _

body_onward : (kind version count : ℕ) → Onward 8 8 (body_of kind version count)
unfolding body_of
body_onward kind version count =
    onward_choose 8 (lit< tt) 8 (kind == general_type) (general version) _ (general_onward version)
    (onward_choose 8 (lit< tt) 8 (kind == printer_type) (done (cap.Printer version)) _ (onward_done 8 (lit< tt) 8 _)
    (onward_choose 8 (lit< tt) 8 (kind == drive_type) (done (cap.Drive version)) (other kind version count) (onward_done 8 (lit< tt) 8 _) (other_onward kind version count)))

capability_onward : Onward 8 0 capability
unfolding capability
capability_onward =
    onward_number 8 (lit< tt) 0 two_bytes _ λ kind.
    onward_number 8 (lit< tt) 2 two_bytes _ λ count.
    onward_test 8 (lit< tt) 4 2 _ _ _ (lit≤ tt) λ u.
    onward_number 8 (lit< tt) 4 four_bytes _ λ version.
    onward_test 8 (lit< tt) 8 6 _ _ _ (lit≤ tt) λ v.
    onward_within 8 (lit< tt) 8 (count - 8) (body_of kind version (count - 8)) (body_onward kind version (count - 8))

-- after the count of sets and two bytes that say nothing
pub sets_later : (p q rest : Position) (count : ℕ) (pads : List ℕ) (bad : Bad) → p.at ≡ 4 → met (count_to two_bytes most_sets) p ≡ Ok (count, q) → met (any_bytes 2) q ≡ Ok (pads, rest)
    → met sets p ≡ Err bad → 8 ≤ bad.at
unfolding sets
sets_later p q rest count pads bad at first second e =
    let place : 8 + 0 ≤ rest.at = omega (arith, count_place two_bytes most_sets p count q first, bytes_place 2 q pads rest second) in
    let later : met (times count capability) rest ≡ Err bad = rw (first, second) at e in
    (onward_times 8 (lit< tt) 0 count capability capability_onward).onward rest bad place later

-- after the length of a name
pub name_later : (p q r rest : Position) (unicode page count : ℕ) (bad : Bad) → p.at ≡ 4 → met number32 p ≡ Ok (unicode, q) → met number32 q ≡ Ok (page, r)
    → met (count_to four_bytes most_name_bytes) r ≡ Ok (count, rest) → met name p ≡ Err bad → 16 ≤ bad.at
unfolding name
name_later p q r rest unicode page count bad at first second third e =
    let place : 16 + 0 ≤ rest.at = omega (arith, number_place four_bytes p unicode q first, number_place four_bytes q page r second, count_place four_bytes most_name_bytes r count rest third) in
    let later = rw (first, second, third) at e in
    (onward_bytes 16 (lit< tt) 0 count _ (λ bytes. onward_done 16 (lit< tt) 0 _)).onward rest bad place later

-- ---- the whole message

-- what is made of a value has no fault of its own
fault_of_first : {A B : Type 0} (l : Layout A) (f : A → B) (p : Position) (bad : Bad) → met (l >>= λ a. done (f a)) p ≡ Err bad → met l p ≡ Err bad
fault_of_first {A = A} {B = B} l f p bad = go (met l p)
  where
    go : (r : Result (A × Position) Bad) → ◌≡◌ {A = Result (B × Position) Bad} (and_then r (λ x. met (done (f x.0)) x.1)) (Err bad) → r ≡ Err bad
    go (Ok x) e = absurd cc
    go (Err other) e = let same : other ≡ bad = cc in ap (λ (d : Bad). Err d) same

-- a fault of the message is one of the body after its header
body_fault : (bytes : List ℕ) (q : Packet) (rest : Position) (bad : Bad) → met (header_among hellos) (at_start bytes) ≡ Ok (Some q, rest) → FirstFaultOfHello bytes bad → met (hello_body (Some q)) rest ≡ Err bad
unfolding hello
body_fault bytes q rest bad head e = rw head at e

-- nothing is wrong with a message of the packet before the place of its packet
abbrev NoneBefore : List ℕ → Type 0
NoneBefore bytes = (p : Packet) → packet_in bytes ≡ Some p → (bad : Bad) → FirstFaultOfHello bytes bad → opening_asks_at p ≤ bad.at

pub version_before : (bytes : List ℕ) (start : Position) (q : Packet) (rest : Position) (r : Result (Unit {0}) Bad) → start ≡ at_start bytes → met (header_among hellos) start ≡ Ok (Some q, rest)
    → (q ≡ packet.ServerAnnounce) ⊎ (q ≡ packet.ClientIdConfirm) → ReadsBefore 12 version rest r → OnOk r (NoneBefore bytes)
version_before bytes start q rest (Err bad) begun head is none = tt
version_before bytes start q rest (Ok u) begun head is none = λ p named bad e.
    let there = rw begun at head in
    go p bad is (among_named hellos bytes p q rest there named) (body_fault bytes q rest bad there e)
  where
    go : (p : Packet) (bad : Bad) → (q ≡ packet.ServerAnnounce) ⊎ (q ≡ packet.ClientIdConfirm) → p ≡ q → met (hello_body (Some q)) rest ≡ Err bad → opening_asks_at p ≤ bad.at
    go p bad (inl announce) same e = rw (same, announce) (none bad (fault_of_first version Announce rest bad (rw announce at e)))
    go p bad (inr confirm) same e = rw (same, confirm) (none bad (fault_of_first version Confirm rest bad (rw confirm at e)))

pub sets_before : (bytes : List ℕ) (start : Position) (q : Packet) (rest : Position) (r : Result (Unit {0}) Bad) → start ≡ at_start bytes → met (header_among hellos) start ≡ Ok (Some q, rest)
    → (q ≡ packet.ServerCapability) ⊎ (q ≡ packet.ClientCapability) → ReadsBefore 8 sets rest r → OnOk r (NoneBefore bytes)
sets_before bytes start q rest (Err bad) begun head is none = tt
sets_before bytes start q rest (Ok u) begun head is none = λ p named bad e.
    let there = rw begun at head in
    go p bad is (among_named hellos bytes p q rest there named) (body_fault bytes q rest bad there e)
  where
    go : (p : Packet) (bad : Bad) → (q ≡ packet.ServerCapability) ⊎ (q ≡ packet.ClientCapability) → p ≡ q → met (hello_body (Some q)) rest ≡ Err bad → opening_asks_at p ≤ bad.at
    go p bad (inl server) same e = rw (same, server) (none bad (fault_of_first sets ServerCaps rest bad (rw server at e)))
    go p bad (inr client) same e = rw (same, client) (none bad (fault_of_first sets ClientCaps rest bad (rw client at e)))

-- the header stands in the first four bytes
pub after_header : (bytes : List ℕ) (start : Position) (q : Packet) (rest : Position) → start ≡ at_start bytes → met (header_among hellos) start ≡ Ok (Some q, rest) → rest.at ≡ 4
after_header bytes start q rest begun head = omega (arith, header_place hellos start (Some q) rest head, ap (λ (p : Position). p.at) begun)

-- the reader of a message tells what is met in it
pub hello_met : (bytes : List ℕ) (h : Hello) (count : ℕ) → WithTail count (λ tail. SpellsHello h tail bytes) → (rest : Position) × (met hello (at_start bytes) ≡ Ok (h, rest))
hello_met bytes h count (tail, is, s) = let m = meets hello 0 bytes h tail s in (m.0, m.1)
