-- What the deeds of a history tell: its messages; and of each key that came, that its request was read.
use Rattle.std.proofs.Common.{◌≡◌, ◌∙◌, refl, sym, ap, ℕ, List, [], ◌∷◌, ◌++◌, map, reverse, Option, Some, None, append_assoc, append-nil}
use Rattle.std.specs.Prelude.{Ok, Err, filter_map}
use Rattle.std.specs.List.{cons_option}
use Rattle.std.proofs.lemmas.List.{reverse-append}
use Rattle.std.proofs.lemmas.List.Elements.{filter_map-append}
use Rattle.rd_base.specs.declared.journal.Item.{Item}
use Rattle.rd_base.specs.declared.journal.Key.{Key}
use Rattle.rd_hello.specs.declared.end_fault.EndFault.TheVariants as fault
use Rattle.rd_deeds.specs.Talk.{Deed, stores}
use Rattle.rd_served.specs.Deeds.{deeds_after, deeds_of, message_read, message_written, sent_by, stored, stored_each}
use Rattle.rd_served.specs.Parts.{FrontPart, begins, calls, directs, ends, forgets, handed_by, heard_in, keeps, learns, misplaces, refreshes, sends, tells_gone, tells_there, tries, unwritten, writes}
use Rattle.rd_served.specs.Parts as part

-- ---- the messages

module _ (tells : Deed → Option (List ℕ)) (quiet : (device : ℕ) (x : Item) → tells (stores device x) ≡ None) where
  stored_silent : (device : ℕ) (items : List Item) → filter_map tells (map (stores device) items) ≡ []
  stored_silent device [] = refl
  stored_silent device (x ∷ items) = ap (λ (o : Option (List ℕ)). cons_option o (filter_map tells (map (stores device) items))) (quiet device x) ∙ stored_silent device items

  each_silent : (told : List (ℕ × List Item)) → filter_map tells (stored_each told) ≡ []
  each_silent [] = refl
  each_silent (t ∷ told) = filter_map-append tells (stored_each told) (stored t.0 t.1) ∙ (λ i. each_silent told i ++ stored_silent t.0 (reverse t.1) i)

  module _ (told_by_part : FrontPart → Option (List ℕ)) (same : (x : FrontPart) → filter_map tells (deeds_of x) ≡ cons_option (told_by_part x) []) where
    turned : (o : Option (List ℕ)) (later : List (List ℕ)) → reverse (cons_option o later) ≡ reverse later ++ cons_option o []
    turned None later = sym (append-nil (reverse later))
    turned (Some m) later = reverse-append (m ∷ []) later

    pub messages_are : (ps : List FrontPart) (before : List Deed) → filter_map tells (deeds_after ps before) ≡ reverse (filter_map told_by_part ps) ++ filter_map tells before
    messages_are [] before = refl
    messages_are (x ∷ ps) before =
        messages_are ps (deeds_of x ++ before)
        ∙ ap (λ (ms : List (List ℕ)). reverse (filter_map told_by_part ps) ++ ms) (filter_map-append tells (deeds_of x) before ∙ ap (λ (ms : List (List ℕ)). ms ++ filter_map tells before) (same x))
        ∙ sym (append_assoc (reverse (filter_map told_by_part ps)) (cons_option (told_by_part x) []) (filter_map tells before))
        ∙ ap (λ (ms : List (List ℕ)). ms ++ filter_map tells before) (sym (turned (told_by_part x) (filter_map told_by_part ps)))

read_same : (x : FrontPart) → filter_map message_read (deeds_of x) ≡ cons_option (heard_in x) []
read_same (part.hears channel message (Err fault.Memory)) = refl
read_same (part.hears channel message (Err (fault.Order state packet))) = refl
read_same (part.hears channel message (Err (fault.Grammar bad))) = refl
read_same (part.hears channel message (Ok h)) = refl
read_same tries = refl
read_same keeps = refl
read_same forgets = refl
read_same misplaces = refl
read_same (directs st answer) = refl
read_same (calls place id does back items) = stored_silent message_read (λ device x. refl) id (reverse items)
read_same (tells_gone device (Ok done)) = refl
read_same (tells_gone device (Err error)) = refl
read_same (tells_there device (Ok done)) = refl
read_same (tells_there device (Err error)) = refl
read_same (sends channel None) = refl
read_same (sends channel (Some o)) = by o.answers
  where
    by : (answers : Option Key) → filter_map message_read (sent_by channel o.message answers) ≡ []
    by None = refl
    by (Some key) = refl
read_same (writes device c) = refl
read_same (unwritten device c) = refl
read_same (learns n answer) = refl
read_same (refreshes device) = refl
read_same (begins channel) = refl
read_same (ends over told) = each_silent message_read (λ device x. refl) told

written_same : (x : FrontPart) → filter_map message_written (deeds_of x) ≡ cons_option (handed_by x) []
written_same (part.hears channel message (Err fault.Memory)) = refl
written_same (part.hears channel message (Err (fault.Order state packet))) = refl
written_same (part.hears channel message (Err (fault.Grammar bad))) = refl
written_same (part.hears channel message (Ok h)) = refl
written_same tries = refl
written_same keeps = refl
written_same forgets = refl
written_same misplaces = refl
written_same (directs st answer) = refl
written_same (calls place id does back items) = stored_silent message_written (λ device x. refl) id (reverse items)
written_same (tells_gone device (Ok done)) = refl
written_same (tells_gone device (Err error)) = refl
written_same (tells_there device (Ok done)) = refl
written_same (tells_there device (Err error)) = refl
written_same (sends channel None) = refl
written_same (sends channel (Some o)) = by o.answers
  where
    by : (answers : Option Key) → filter_map message_written (sent_by channel o.message answers) ≡ o.message ∷ []
    by None = refl
    by (Some key) = refl
written_same (writes device c) = refl
written_same (unwritten device c) = refl
written_same (learns n answer) = refl
written_same (refreshes device) = refl
written_same (begins channel) = refl
written_same (ends over told) = each_silent message_written (λ device x. refl) told

pub reads_told : (ps : List FrontPart) (before : List Deed) → filter_map message_read (deeds_after ps before) ≡ reverse (filter_map heard_in ps) ++ filter_map message_read before
reads_told = messages_are message_read (λ device x. refl) heard_in read_same

pub writes_told : (ps : List FrontPart) (before : List Deed) → filter_map message_written (deeds_after ps before) ≡ reverse (filter_map handed_by ps) ++ filter_map message_written before
writes_told = messages_are message_written (λ device x. refl) handed_by written_same
