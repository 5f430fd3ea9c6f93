-- Reports: an outcome and its line.
use Rattle.std.proofs.Common.{◌≡◌, refl, sym, ap, ◌∙◌, ℕ, ◌/◌, ◌%◌, List, [], ◌∷◌, ◌++◌, slice_index, Bool, false, cond, append-nil, append_assoc, codes}
use Rattle.hex.specs.Hex.{encode_lower, encode_with, lower_digits}
use Rattle.std.specs.Prelude.{◌==◌}
use Rattle.std.specs.List.{list_any}
use Rattle.rd_base.specs.History.{History}
use Rattle.rd_script.specs.Report.{device_line, listed_line}

-- a device that isn't listed has no line
pub not_listed : (text devices : List ℕ) (device : ℕ) (journal : History) → list_any (λ id. id == device) devices ≡ false → text ≡ text ++ listed_line devices (device, journal)
not_listed text devices device journal e = sym (append-nil text) ∙ ap (λ (b : Bool). text ++ cond b (device_line (device, journal)) []) (sym e)

-- the digits of bytes after others come after theirs
pub encode_lower-append : (xs ys : List ℕ) → encode_lower (xs ++ ys) ≡ encode_lower xs ++ encode_lower ys
unfolding encode_with
encode_lower-append [] ys = refl
encode_lower-append (x ∷ xs) ys = ap (λ (ds : List ℕ). slice_index lower_digits (x / 16) ∷ slice_index lower_digits (x % 16) ∷ ds) (encode_lower-append xs ys)

-- digits behind digits
pub digits_behind : (before middle xs ys : List ℕ) → middle ≡ before ++ encode_lower xs → middle ++ encode_lower ys ≡ before ++ encode_lower (xs ++ ys)
digits_behind before middle xs ys h =
    ap (λ (ds : List ℕ). ds ++ encode_lower ys) h ∙ append_assoc before (encode_lower xs) (encode_lower ys) ∙ ap (λ (ds : List ℕ). before ++ ds) (sym (encode_lower-append xs ys))

-- the line of a reply, in the parts that are written
pub done_parts : (before middle shown status body : List ℕ) → shown ≡ status → middle ≡ before ++ (codes " done " ++ (shown ++ codes " ")) → middle ++ body ≡ before ++ (codes " done " ++ status ++ codes " " ++ body)
done_parts before middle shown status body e h =
    ap (λ (xs : List ℕ). xs ++ body) (h ∙ ap (λ (xs : List ℕ). before ++ (codes " done " ++ (xs ++ codes " "))) e)
    ∙ append_assoc before (codes " done " ++ (status ++ codes " ")) body
