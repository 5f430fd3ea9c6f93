-- A message with the header of one packet is read as no message of another.
use Rattle.std.proofs.Common.{◌≡◌, refl, subst, ap, ℕ, false, List, [], ◌++◌, Some, Option, Ok, Err, Result, append-nil}
use Rattle.std.specs.Prelude.{is_ok}
use Rattle.rd_base.specs.declared.bad.Bad.{Bad}
use Rattle.rd_base.specs.declared.packet.Packet.{Packet}
use Rattle.rd_base.specs.Header.{any_header, header, header_bytes}
use Rattle.rd_base.specs.Layout.{Layout, done, met, ◌>>=◌, ◌>>◌}
use Rattle.rd_base.specs.Position.{Position, at_start}
use Rattle.rd_base.proofs.HeaderLemmas.{header_then, named_back}
use Rattle.rd_base.proofs.LayoutLemmas.{again}
use Rattle.rd_base.proofs.ResultLemmas.{and_then_ok, ok_one}
use Rattle.rd_base.proofs.WrittenLemmas.{Written, done_last}

-- the header that is written names its packet
pub header_names : (packet : Packet) (rest : List ℕ) → (q : Position) × (met any_header (at_start (header_bytes packet ++ rest)) ≡ Ok (Some packet, q))
header_names packet rest =
    let field : List ℕ = header_bytes packet ++ [] in
    let w : Written (header packet >> done (tt {0})) (tt {0}) field rest = header_then packet (done_last (tt {0}) rest) in
    let m = again (header packet >> done (tt {0})) 0 (tt {0}) field rest w.spelled in
    let h = and_then_ok (met (header packet) (at_start (field ++ rest))) _ _ m in
    let named : met any_header (at_start (field ++ rest)) ≡ Ok (Some packet, h.0.1) = named_back packet (at_start (field ++ rest)) h.0.1 h.1 in
    (h.0.1, subst (λ (xs : List ℕ). met any_header (at_start (xs ++ rest)) ≡ Ok (Some packet, h.0.1)) (append-nil (header_bytes packet)) named)

-- a header names one packet
one_packet : (r : Result (Option Packet × Position) Bad) (p q : Packet) (x y : Position) → r ≡ Ok (Some p, x) → r ≡ Ok (Some q, y) → p ≡ q
one_packet r p q x y e d =
    let same : ◌≡◌ {A = Option Packet × Position} (Some p, x) (Some q, y) = ok_one r _ _ e d in
    let named : ◌≡◌ {A = Option Packet} (Some p) (Some q) = ap (λ (z : Option Packet × Position). z.0) same in
    cc

-- what begins with the header of another packet isn't met in a message of that one
pub other_header : {A : Type 0} (packet other : Packet) (l : Layout A) (next : Unit {0} → Layout A) → ◌≡◌ {A = Layout A} (header other >>= next) l → (bytes : List ℕ) (q : Position)
    → met any_header (at_start bytes) ≡ Ok (Some packet, q) → (packet ≡ other → ⊥) → is_ok (met l (at_start bytes)) ≡ false
other_header {A = A} packet other l next is bytes q named differs =
    subst (λ (x : Layout A). is_ok (met x (at_start bytes)) ≡ false) is (go (met (header other >>= next) (at_start bytes)) refl)
  where
    go : (r : Result (A × Position) Bad) → met (header other >>= next) (at_start bytes) ≡ r → is_ok r ≡ false
    go (Err bad) e = refl
    go (Ok x) e =
        let h = and_then_ok (met (header other) (at_start bytes)) _ x e in
        let own : met any_header (at_start bytes) ≡ Ok (Some other, h.0.1) = named_back other (at_start bytes) h.0.1 h.1 in
        absurd (differs (one_packet (met any_header (at_start bytes)) packet other q h.0.1 named own))
