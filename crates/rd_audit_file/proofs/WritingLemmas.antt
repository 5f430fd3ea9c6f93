-- The numbers of journals that are written fit.
use Rattle.std.proofs.Common.{sym, subst, ℕ, ◌+◌, ◌<◌, List, [], ◌∷◌, length, map, get_or, drop}
use Rattle.std.specs.Prelude.{All}
use Rattle.std.proofs.lemmas.List.{drop_more}
use Rattle.std.proofs.lemmas.List.Elements.{All-append}
use Rattle.rd_base.specs.declared.journal.Item.{Item}
use Rattle.rd_base.specs.History.{History}
use Rattle.rd_audit_file.specs.declared.line.JournalLine.{JournalLine}
use Rattle.rd_audit_file.specs.declared.line.JournalLine.TheVariants.{Entry}
use Rattle.rd_audit_file.specs.Journals.{entries_of, journal_lines, lines_of_journal, JournalsFit}
use Rattle.rd_audit_file.specs.Lines.{LineFits}
use Rattle.rd_audit_file.proofs.JournalLemmas.{all_one}

-- one entry more is written
pub entry_fits : (entries : List Item) (i : ℕ) (d : Item) (all : List JournalLine) → i < length entries → LineFits (Entry (get_or entries i d))
    → (All LineFits (map (λ e. Entry e) (drop i entries)) → All LineFits all) → All LineFits (map (λ e. Entry e) (drop (i + 1) entries)) → All LineFits all
entry_fits entries i d all there fits before others =
    before (subst (λ (es : List Item). All LineFits (map (λ e. Entry e) es)) (sym (drop_more entries i d there))
    (All-append LineFits (Entry (get_or entries i d) ∷ []) (map (λ e. Entry e) (drop (i + 1) entries)) (all_one (Entry (get_or entries i d)) fits) others))

-- one journal more is written
pub journal_fits : (device : ℕ) (journal : History) (books : List (ℕ × History)) (all : List (ℕ × List Item)) → All LineFits (lines_of_journal (device, journal.items))
    → (JournalsFit (entries_of ((device, journal) ∷ books)) → JournalsFit all) → JournalsFit (entries_of books) → JournalsFit all
journal_fits device journal books all fits before others = before (All-append LineFits (lines_of_journal (device, journal.items)) (journal_lines (entries_of books)) fits others)
