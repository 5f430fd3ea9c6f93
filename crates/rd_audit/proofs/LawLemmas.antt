-- Nothing unlawful is found in lines of journals exactly where each of the journals is lawful.
use Rattle.std.proofs.Common.{◌≡◌, ◌∙◌, refl, sym, ap, subst, ℕ, Bool, true, false, List, [], ◌∷◌, ◌++◌, Option, Some, None, length, ◌+◌, append_assoc, append-nil}
use Rattle.std.specs.Prelude.{◌↔◌, if◌then◌else◌, map, option_map}
use Rattle.std.specs.List.{AllByRecursion}
use Rattle.std.specs.Option.{option_or}
use Rattle.rd_base.specs.declared.journal.Item.{Item}
use Rattle.rd_base.specs.Lawful.{IsLawful}
use Rattle.rd_audit_file.specs.declared.line.JournalLine.{JournalLine}
use Rattle.rd_audit_file.specs.declared.line.JournalLine.TheVariants.{Entry}
use Rattle.rd_audit_file.specs.Journals.{journal_lines}
use Rattle.rd_lawful.specs.declared.rule.Rule.{Rule}
use Rattle.rd_lawful.specs.Rules.{IsLawfulSoFar, few_unsent, rule_broken, rule_number}
use Rattle.rd_lawful.proofs.LawLemmas.{so_far-less, so_far-more, so_far-nil, whole_is}
use Rattle.rd_lawful.proofs.TestLemmas.{few-decides}
use Rattle.rd_audit.specs.Lawful.{broken_at_end, entry_broken, first_unlawful}
use Rattle.rd_audit.specs.declared.verdict.Verdict.{Verdict}
use Rattle.rd_audit.specs.declared.verdict.Verdict.TheVariants as verdict

-- nothing is found in two exactly where nothing is in either
neither_found : (f g : Option Verdict) → (option_or f g ≡ None) → (f ≡ None) × (g ≡ None)
neither_found None g none = (refl, none)
neither_found (Some v) g none = absurd (cc)

none_found : (f g : Option Verdict) → f ≡ None → g ≡ None → option_or f g ≡ None
none_found f g first second = ap (λ (h : Option Verdict). option_or h g) first ∙ second

-- a journal may end exactly where nothing is found at its end
end_is : (device : ℕ) (items : List Item) → (broken_at_end device items ≡ None) ↔ (few_unsent items ≡ true)
end_is device items = go (few_unsent items) (verdict.Item device (length items + 1) 7)
  where
    go : (b : Bool) (v : Verdict) → ((if b then None else Some v) ≡ None) ↔ (b ≡ true)
    go true v = (λ none. refl, λ yes. refl)
    go false v = (λ none. absurd (cc), λ yes. absurd (cc))

-- an entry breaks no rule exactly where nothing is found there
entry_is : (device : ℕ) (items : List Item) (entry : Item) → (entry_broken device items entry ≡ None) ↔ (rule_broken items entry ≡ None)
entry_is device items entry = go (rule_broken items entry)
  where
    go : (r : Option Rule) → (option_map (λ (r : Rule). verdict.Item device (length items + 1) (rule_number r)) r ≡ None) ↔ (r ≡ None)
    go None = (λ none. refl, λ none. refl)
    go (Some r) = (λ none. absurd (cc), λ none. absurd (cc))

-- what a lawful journal begins with is lawful so far
so_far-prefix : (items more : List Item) → IsLawfulSoFar (items ++ more) → IsLawfulSoFar items
so_far-prefix items more law r before x after e = law r before x (after ++ more) (ap (λ (ys : List Item). ys ++ more) e ∙ append_assoc before (x ∷ after) more)

-- the lines of entries, where what stands before them is lawful so far
entries_are : (device : ℕ) (items entries : List Item) (rest : List JournalLine) → IsLawfulSoFar items
    → (first_unlawful device items (map (λ entry. Entry entry) entries ++ rest) ≡ None) ↔ (IsLawfulSoFar (items ++ entries) × (first_unlawful device (items ++ entries) rest ≡ None))
entries_are device items [] rest law =
    let same : items ++ [] ≡ items = append-nil items in (
      λ none. (subst IsLawfulSoFar (sym same) law, ap (λ (ys : List Item). first_unlawful device ys rest) same ∙ none),
      λ both. ap (λ (ys : List Item). first_unlawful device ys rest) (sym same) ∙ both.1,
    )
entries_are device items (entry ∷ entries) rest law =
    let next : List Item = items ++ entry ∷ [] in
    let same : next ++ entries ≡ items ++ entry ∷ entries = append_assoc items (entry ∷ []) entries in
    let later : Option Verdict = first_unlawful device next (map (λ entry. Entry entry) entries ++ rest) in (
      λ none.
          let parts = neither_found (entry_broken device items entry) later none in
          let more = so_far-more items entry law ((entry_is device items entry).0 parts.0) in
          let both = (entries_are device next entries rest more).0 parts.1 in
          (subst IsLawfulSoFar same both.0, ap (λ (ys : List Item). first_unlawful device ys rest) (sym same) ∙ both.1),
      λ both.
          let all : IsLawfulSoFar (next ++ entries) = subst IsLawfulSoFar (sym same) both.0 in
          let more = so_far-prefix next entries all in
          none_found (entry_broken device items entry) later ((entry_is device items entry).1 (so_far-less items entry more).1)
          ((entries_are device next entries rest more).1 (all, ap (λ (ys : List Item). first_unlawful device ys rest) same ∙ both.1)),
    )

-- the lines of journals, behind entries of another that is lawful so far
journals_are : (device : ℕ) (items : List Item) (journals : List (ℕ × List Item)) → IsLawfulSoFar items
    → (first_unlawful device items (journal_lines journals) ≡ None) ↔ ((few_unsent items ≡ true) × AllByRecursion (λ (j : ℕ × List Item). IsLawful j.1) journals)
journals_are device items [] law = (λ none. ((end_is device items).0 none, tt), λ both. (end_is device items).1 both.0)
journals_are device items (j ∷ journals) law =
    let later : Option Verdict = first_unlawful j.0 [] (map (λ entry. Entry entry) j.1 ++ journal_lines journals) in (
      λ none.
          let parts = neither_found (broken_at_end device items) later none in
          let own = (entries_are j.0 [] j.1 (journal_lines journals) so_far-nil).0 parts.1 in
          let others = (journals_are j.0 j.1 journals own.0).0 own.1 in
          ((end_is device items).0 parts.0, ((whole_is j.1).1 (own.0, (few-decides j.1).0 others.0), others.1)),
      λ both.
          let own = (whole_is j.1).0 both.1.0 in
          let others = (journals_are j.0 j.1 journals own.0).1 ((few-decides j.1).1 own.1, both.1.1) in
          none_found (broken_at_end device items) later ((end_is device items).1 both.0) ((entries_are j.0 [] j.1 (journal_lines journals) so_far-nil).1 (own.0, others)),
    )

pub whole_are : (journals : List (ℕ × List Item)) → (first_unlawful 0 [] (journal_lines journals) ≡ None) ↔ AllByRecursion (λ (j : ℕ × List Item). IsLawful j.1) journals
whole_are journals =
    let is = journals_are 0 [] journals so_far-nil in
    (λ none. (is.0 none).1, λ all. is.1 (refl, all))
