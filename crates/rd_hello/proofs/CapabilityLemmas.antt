-- That the bytes of a set and of the sets of a message spell it, and how many they are.
use Rattle.std.proofs.Common.{◌≡◌, ℕ, ◌+◌, ◌-◌, ◌*◌, ◌<◌, ◌≤◌, ◌^◌, Bool, true, false, IsTrue, Option, Some, None, IfSome, List, [], ◌∷◌, ◌++◌, length, refl, sym, lit<, arith, length-append}
use Rattle.std.specs.Prelude.{nat_le, ◌==◌, not, ◌||◌}
use Rattle.std.specs.Int.{w16, w32, to_le_bytes}
use Rattle.std.specs.List.{flat_map, AllByRecursion}
use Rattle.std.proofs.lemmas.Bool.{le-leb}
use Rattle.std.proofs.lemmas.List.{append-nil}
use Rattle.std.proofs.lemmas.List.Elements.{recursion_from_All}
use Rattle.rd_base.specs.Layout.{two_bytes}
use Rattle.rd_base.specs.Fields.{times}
use Rattle.rd_base.specs.Spelling.{IsSpelling}
use Rattle.rd_base.proofs.SpellingLemmas.{written}
use Rattle.rd_base.proofs.CountedLemmas.{count_written, run_last}
use Rattle.rd_base.proofs.WrittenLemmas.{Written, done_last, layout_then, number_then, pad_then, test_then, within_written, same_bytes}
use Rattle.rd_hello.specs.declared.capability.General.{General}
use Rattle.rd_hello.specs.declared.capability.Cap.{Cap}
use Rattle.rd_hello.specs.declared.capability.Cap.TheVariants as cap
use Rattle.rd_hello.specs.Capability.{least_length, least_of_version, special, general, other, body_of, capability, sets, capability_head_bytes, capability_bytes, sets_bytes, IsWritableSet, AreWritableSets, most_sets}

-- the numbers of GENERAL are in the ranges of their fields
pub record IsInRange (g : General) : Type 0 where
  pub os : g.os < 2 ^ 32
  pub os_version : g.os_version < 2 ^ 32
  pub minor : g.minor < 2 ^ 16
  pub codes : g.codes < 2 ^ 32
  pub codes2 : g.codes2 < 2 ^ 32
  pub extended : g.extended < 2 ^ 32
  pub extra : g.extra < 2 ^ 32
  pub extra2 : g.extra2 < 2 ^ 32

-- the head of a set, and what stands in it after its head
set_written : (c : Cap) (kind count version : ℕ) (body after : List ℕ) → kind < 2 ^ 16 → count < 2 ^ 16 → version < 2 ^ 32 → IsTrue (nat_le (least_length kind) count) → IsTrue (nat_le (least_of_version kind version) count) → length body ≡ count - 8 → Written (body_of kind version (count - 8)) c body [] → Written capability c (capability_head_bytes kind count version ++ body) after
unfolding capability
set_written c kind count version body after kind_fits count_fits version_fits enough still_enough len q =
    let inner = within_written body [] (rw append-nil len) q in
    number_then kind kind_fits (number_then count count_fits (test_then enough (number_then version version_fits (test_then still_enough (same_bytes body (body ++ []) (sym (append-nil body)) inner)))))

pub general_spelled : (g : General) → IsInRange g → IfSome g.special (λ n. n < 2 ^ 32) → IsSpelling capability (cap.General g) (capability_bytes (cap.General g))
unfolding body_of general special
general_spelled g range fits = go g.special fits
  where
    go : (last : Option ℕ) → IfSome last (λ n. n < 2 ^ 32) → IsSpelling capability (cap.General (record g { special = last })) (capability_bytes (cap.General (record g { special = last })))
    go (Some n) lt = written capability _ _ λ after.
        set_written _ 1 44 2 _ after (lit< tt) (lit< tt) (lit< tt) refl refl refl
        (number_then g.os range.os (number_then g.os_version range.os_version (number_then 1 (lit< tt) (test_then refl (number_then g.minor range.minor
        (number_then g.codes range.codes (number_then g.codes2 range.codes2 (number_then g.extended range.extended (number_then g.extra range.extra (number_then g.extra2 range.extra2
        (layout_then (Some n) (to_le_bytes w32 n) (number_then n lt (done_last (Some n) _)) (done_last _ []))))))))))))
    go None lt = written capability _ _ λ after.
        set_written _ 1 40 1 _ after (lit< tt) (lit< tt) (lit< tt) refl refl refl
        (number_then g.os range.os (number_then g.os_version range.os_version (number_then 1 (lit< tt) (test_then refl (number_then g.minor range.minor
        (number_then g.codes range.codes (number_then g.codes2 range.codes2 (number_then g.extended range.extended (number_then g.extra range.extra (number_then g.extra2 range.extra2
        (layout_then None [] (done_last None _) (done_last _ []))))))))))))

pub printer_spelled : (version : ℕ) → version < 2 ^ 32 → IsSpelling capability (cap.Printer version) (capability_head_bytes 2 8 version)
unfolding body_of
printer_spelled version fits = written capability _ _ λ after.
    set_written (cap.Printer version) 2 8 version [] after (lit< tt) (lit< tt) fits refl refl refl (done_last (cap.Printer version) [])

pub drive_spelled : (version : ℕ) → version < 2 ^ 32 → IsSpelling capability (cap.Drive version) (capability_head_bytes 4 8 version)
unfolding body_of
drive_spelled version fits = written capability _ _ λ after.
    set_written (cap.Drive version) 4 8 version [] after (lit< tt) (lit< tt) fits refl refl refl (done_last (cap.Drive version) [])

-- a type that is kept is none of the three
kept : (a b c : Bool) → IsTrue (not (a || b || c)) → (a ≡ false) × (b ≡ false) × (c ≡ false)
kept false false false h = (refl, refl, refl)
kept true b c h = absurd cc
kept false true c h = absurd cc
kept false false true h = absurd cc

pub other_spelled : (kind version : ℕ) (body : List ℕ) → kind < 2 ^ 16 → version < 2 ^ 32 → IsWritableSet (cap.Other kind version body) → IsSpelling capability (cap.Other kind version body) (capability_bytes (cap.Other kind version body))
unfolding body_of other
other_spelled kind version body kind_fits version_fits fits =
    let k = kept (kind == 1) (kind == 2) (kind == 4) fits.0 in
    let same : length body ≡ (8 + length body) - 8 = omega arith in
    let least : 8 ≤ 8 + length body = omega arith in
    let enough : IsTrue (nat_le (least_length kind) (8 + length body)) = rw k.0 (le-leb _ _ least) in
    let still_enough : IsTrue (nat_le (least_of_version kind version) (8 + length body)) = rw k.0 (le-leb _ _ least) in
    let own : Written (body_of kind version ((8 + length body) - 8)) (cap.Other kind version body) body [] = rw (k.0, k.1, k.2) (run_last body same (done_last (cap.Other kind version body) [])) in
    written capability _ _ λ after. set_written (cap.Other kind version body) kind (8 + length body) version body after kind_fits fits.1 version_fits enough still_enough same own

pub sets_spelled : (caps : List Cap) → length caps ≤ most_sets → IsSpelling (times (length caps) capability) caps (flat_map capability_bytes caps) → IsSpelling sets caps (sets_bytes caps)
unfolding sets
sets_spelled caps few each = written sets caps (sets_bytes caps) λ after.
    layout_then (length caps) (to_le_bytes w16 (length caps)) (count_written two_bytes most_sets (length caps) _ (omega arith) few)
    (pad_then (0 ∷ 0 ∷ []) refl (record { spelled = each.whatever after }))

-- a set has fewer bytes than a length of 16 bits can count
short_set : (c : Cap) → IsWritableSet c → length (capability_bytes c) < 2 ^ 16
short_set (cap.General g) fits = go g.special
  where
    go : (last : Option ℕ) → length (capability_bytes (cap.General (record g { special = last }))) < 2 ^ 16
    go (Some n) = lit< tt
    go None = lit< tt
short_set (cap.Printer version) fits = lit< tt
short_set (cap.Drive version) fits = lit< tt
short_set (cap.Other kind version body) fits = let short : 8 + length body < 2 ^ 16 = fits.1 in omega arith

few_bytes : (caps : List Cap) → AllByRecursion IsWritableSet caps → length (flat_map capability_bytes caps) ≤ 2 ^ 16 * length caps
few_bytes [] fits = omega arith
few_bytes (c ∷ caps) fits = omega (arith, length-append (capability_bytes c) (flat_map capability_bytes caps), short_set c fits.0, few_bytes caps fits.1)

-- the sets of a message have at most 64 times as many
pub sets_short : (caps : List Cap) → AreWritableSets caps → length (flat_map capability_bytes caps) ≤ 2 ^ 22
sets_short caps fits = let each = few_bytes caps (recursion_from_All IsWritableSet caps fits.1) in let few : length caps ≤ 64 = fits.0 in omega (arith, each)
