use Rattle.std.proofs.Common.{◌≡◌, ◌∙◌, refl, sym, ap, ℕ, List, ◌++◌, Option, Some, None}
use Rattle.std.specs.Prelude.{MatchOption}
use Rattle.std.specs.Borrow.{Bor}
use Rattle.std.specs.Option.{option_copied}
use Rattle.std.proofs.lemmas.Bool.Decides.{Decides-eqb}
use Rattle.std.proofs.lemmas.Slice.Eq.{strip_prefix_is}
use Rattle.rd_audit_file.specs.Taken.{after_word}
use Rattle.rd_audit_file.proofs.FieldLemmas.{after_word-append, after_word_some}
use Rattle.rd_audit_file.proofs.fields.after.Goals as goal

stripped : (word text : List ℕ) (r : Option (Bor (List ℕ))) → MatchOption r ((rest : List ℕ) → text ≡ word ++ rest → ⊥) (λ x. text ≡ word ++ x.now) → option_copied r ≡ after_word word text
stripped word text (Some x) is = sym (ap (after_word word) is ∙ after_word-append word x.now)
stripped word text None none = sym (of (after_word word text) refl)
  where
    of : (o : Option (List ℕ)) → after_word word text ≡ o → o ≡ None
    of None e = refl
    of (Some rest) e = absurd (none rest (after_word_some word text rest e))

pub returns : goal.returns
returns c = stripped c.args.word.now c.args.text.now _ (strip_prefix_is Decides-eqb c.args.text.now c.args.word.now _ c.strip_prefix.ensures.cases)
