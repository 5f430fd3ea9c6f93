-- That what is written of an entry spells what its class sends of it.
use Rattle.std.proofs.Common.{◌≡◌, ℕ, ◌*◌, Bool, true, false, IsTrue, List, [], ◌++◌, length, refl, sym, subst, lit<, inl, inr, ◌⊎◌}
use Rattle.std.specs.Prelude.{◌==◌}
use Rattle.std.proofs.lemmas.Bool.{eqb-true}
use Rattle.rd_base.specs.Layout.{one_byte, four_bytes}
use Rattle.rd_base.specs.Fields.{bytes8, bytes32, bytes64}
use Rattle.rd_base.specs.Moments.{moments_bytes}
use Rattle.rd_base.specs.Classes.{listed, unlisted, choose_class, is_listed, IsListed}
use Rattle.rd_base.proofs.WrittenLemmas.{Written, done_last, layout_then, number_then, spells_all}
use Rattle.rd_base.proofs.WrittenFieldLemmas.{constant_written, constant_then, zeros_then, moments_then, length_then, text_last}
use Rattle.rd_dirinfo.specs.declared.entry.Entry.{Entry}
use Rattle.rd_dirinfo.specs.declared.entry.Head.{Head}
use Rattle.rd_dirinfo.specs.Entry.{entry_with, entry_named, entry_start, entry_head, directory_entry, full_directory_entry, both_directory_entry, names_entry, entry_classes, sent_entry, entry_bytes, entry_head_bytes, EntryFits, IsEntryInRange, SpellsEntry}

-- a class of entries is one of the four
one_of_four : (n : ℕ) → IsListed entry_classes n → (n ≡ 1) ⊎ ((n ≡ 2) ⊎ ((n ≡ 3) ⊎ (n ≡ 12)))
unfolding entry_classes
one_of_four n is = go (n == 1) (n == 2) (n == 3) (n == 12) refl refl refl refl is
  where
    go : (a b c d : Bool) → (n == 1) ≡ a → (n == 2) ≡ b → (n == 3) ≡ c → (n == 12) ≡ d
        → IsTrue (is_listed (choose_class a (listed directory_entry) (choose_class b (listed full_directory_entry) (choose_class c (listed both_directory_entry) (choose_class d (listed names_entry) unlisted)))))
        → (n ≡ 1) ⊎ ((n ≡ 2) ⊎ ((n ≡ 3) ⊎ (n ≡ 12)))
    go true b c d e f g h is = inl (eqb-true n 1 e)
    go false true c d e f g h is = inr (inl (eqb-true n 2 f))
    go false false true d e f g h is = inr (inr (inl (eqb-true n 3 g)))
    go false false false true e f g h is = inr (inr (inr (eqb-true n 12 h)))
    go false false false false e f g h is = absurd cc

entry_start_written : (after : List ℕ) → Written entry_start tt (bytes32 0 ++ bytes32 0) after
unfolding entry_start bytes32
entry_start_written after = constant_then four_bytes 0 (lit< tt) (constant_written four_bytes 0 after (lit< tt))

head_of : Entry → Head
head_of e = record { moments = e.moments; end = e.end; allocation = e.allocation; attributes = e.attributes; name_len = 2 * length e.name }

head_written : (e : Entry) (after : List ℕ) → EntryFits e → IsEntryInRange e → Written entry_head (head_of e) (entry_head_bytes e) after
unfolding entry_head entry_head_bytes head_of bytes32 bytes64 moments_bytes
head_written e after f r =
    layout_then tt (bytes32 0 ++ bytes32 0) (entry_start_written _)
    (moments_then e.moments r.0 (number_then e.end r.1 (number_then e.allocation r.2 (number_then e.attributes r.3 (length_then (2 * length e.name) (length e.name) refl f (done_last _ after))))))

entry_of_four : (n : ℕ) (e : Entry) → (n ≡ 1) ⊎ ((n ≡ 2) ⊎ ((n ≡ 3) ⊎ (n ≡ 12))) → EntryFits e → IsEntryInRange (sent_entry n e) → SpellsEntry n (sent_entry n e) 0 (entry_bytes n e)
unfolding entry_classes directory_entry full_directory_entry both_directory_entry names_entry head_of entry_head_bytes bytes8 bytes32 bytes64 moments_bytes
entry_of_four n e which f =
    let count = 2 * length e.name in
    let P : ℕ → Type 0 = λ m. IsEntryInRange (sent_entry m e) → SpellsEntry m (sent_entry m e) 0 (entry_bytes m e) in
    let name = text_last [] (entry_with (head_of e)) e.name count refl in
    elim which [
      | inl is ↦ subst P (sym is) (λ r.
          spells_all directory_entry _ _ (layout_then (head_of e) (entry_head_bytes e) (head_written e _ f r) (name r.4)))
      | inr (inl is) ↦ subst P (sym is) (λ r.
          spells_all full_directory_entry _ _ (layout_then (head_of e) (entry_head_bytes e) (head_written e _ f r) (constant_then four_bytes 0 (lit< tt) (name r.4))))
      | inr (inr (inl is)) ↦ subst P (sym is) (λ r.
          spells_all both_directory_entry _ _ (layout_then (head_of e) (entry_head_bytes e) (head_written e _ f r) (constant_then four_bytes 0 (lit< tt) (constant_then one_byte 0 (lit< tt) (zeros_then 24 (name r.4))))))
      | inr (inr (inr is)) ↦ subst P (sym is) (λ r.
          spells_all names_entry _ _ (layout_then tt (bytes32 0 ++ bytes32 0) (entry_start_written _) (length_then count (length e.name) refl f (text_last [] entry_named e.name count refl r.4))))
    ]

pub entry_spelled : (n : ℕ) (e : Entry) → IsListed entry_classes n → EntryFits e → IsEntryInRange (sent_entry n e) → SpellsEntry n (sent_entry n e) 0 (entry_bytes n e)
entry_spelled n e is f r = entry_of_four n e (one_of_four n is) f r
