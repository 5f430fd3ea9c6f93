-- A line of an application that stands at a place of its script asks for what contracts see there.
use Rattle.std.proofs.Common.{◌≡◌, ◌∙◌, refl, ap, ℕ, ◌<◌, List, Option, Some, None, length, slice_get, get_or}
use Rattle.std.specs.Prelude.{IsSome}
use Rattle.std.specs.Option.{option_and_then, option_map, unwrap_or}
use Rattle.std.proofs.lemmas.Option.{get_or_from_slice_get, slice_get-get_or, slice_get-map, slice_get_within}
use Rattle.rd_script.specs.declared.line.NumberedLine.{NumberedLine}
use Rattle.rd_world.specs.Applications.{AreAsking, AsksFor, asked_at, asked_lines, nothing_asked}
use Rattle.rd_world.specs.Run.{asked_by}
use Rattle.rd_world.specs.World.{Asked}

-- the line at a place of the script, and what it asks for
pub record Asking (lines : List NumberedLine) (place : ℕ) : Type 0 where
  pub line : NumberedLine
  pub there : slice_get lines place ≡ Some line
  pub asked : Asked
  pub asks : AsksFor asked line.line

is_asking : (lines : List NumberedLine) (place : ℕ) → IsSome (asked_at lines place) → Asking lines place
is_asking lines place some = go (slice_get lines place) refl some
  where
    by : (l : NumberedLine) → slice_get lines place ≡ Some l → (asked : Option (ℕ × Asked)) → asked_by l.line ≡ asked → IsSome (option_map (λ (x : ℕ × Asked). x.1) asked) → Asking lines place
    by l there None is some = absurd (cc some)
    by l there (Some x) is some = record { line = l; there = there; asked = x.1; asks = ap (λ o. option_map (λ (x : ℕ × Asked). x.1) o) is }

    go : (o : Option NumberedLine) → slice_get lines place ≡ o → IsSome (option_map (λ (x : ℕ × Asked). x.1) (option_and_then (λ (l : NumberedLine). asked_by l.line) o)) → Asking lines place
    go None there some = absurd (cc some)
    go (Some l) there some = by l there (asked_by l.line) refl some

-- the place of a line of it is one of the script
pub asked_within : (lines : List NumberedLine) (places : List ℕ) (i d : ℕ) → AreAsking lines places → i < length places → get_or places i d < length lines
asked_within lines places i d are within =
    let a = is_asking lines (get_or places i d) (are i (get_or places i d) (slice_get-get_or places i d within)) in
    slice_get_within lines (get_or places i d) a.line a.there

-- What an application is asked for at a place of its own, by the line that stands at that place of the script.
pub asked_there : (lines : List NumberedLine) (places : List ℕ) (i d : ℕ) (e : NumberedLine) → AreAsking lines places → i < length places
    → (asked : Asked) × (slice_get (asked_lines lines places) i ≡ Some asked) × AsksFor asked (get_or lines (get_or places i d) e).line
asked_there lines places i d e are within =
    let place = get_or places i d in
    let at : slice_get places i ≡ Some place = slice_get-get_or places i d within in
    let a = is_asking lines place (are i place at) in
    let same : get_or lines place e ≡ a.line = get_or_from_slice_get lines place a.line e a.there in
    let asked : asked_at lines place ≡ Some a.asked = ap (λ (o : Option NumberedLine). option_map (λ (x : ℕ × Asked). x.1) (option_and_then (λ (l : NumberedLine). asked_by l.line) o)) a.there ∙ a.asks in (
      a.asked,
      slice_get-map (λ (p : ℕ). unwrap_or (asked_at lines p) nothing_asked) places i ∙ ap (λ (o : Option ℕ). option_map (λ (p : ℕ). unwrap_or (asked_at lines p) nothing_asked) o) at
          ∙ ap (λ (o : Option Asked). Some (unwrap_or o nothing_asked)) asked,
      ap (λ (l : NumberedLine). option_map (λ (x : ℕ × Asked). x.1) (asked_by l.line)) same ∙ a.asks,
    )
