use Rattle.std.proofs.Common.{◌≡◌, ◌∙◌, sym, ap, subst, [], ◌∷◌, ◌++◌, ◌||◌, ℕ, List, map, append_assoc, false}
use Rattle.std.specs.List.{list_any}
use Rattle.std.specs.List.Sorted.{IsStrictlySortedBy}
use Rattle.std.specs.Map.{keys_of}
use Rattle.std.specs.Ordering.{nat_cmp}
use Rattle.std.proofs.lemmas.Map.Made.{keys_of-map_values}
use Rattle.rd_folder_drive.specs.declared.open.Open.{Open}
use Rattle.rd_folder_drive.specs.Moving.{is_far, moved_entry, moved_open, IsMovedOpen}
use Rattle.rd_folder_drive.specs.Ways.{goes_far}
use Rattle.rd_folder_drive.proofs.LastLemmas.{insert_last}
use Rattle.rd_folder_drive.proofs.moves.moved_opens.Goals as goal

pub loop-number-preserved : goal.loop-number-preserved
loop-number-preserved c =
    let from = c.args.from.now in
    let to = c.args.to.now in
    let split : c.loop-number.number-iterator ≡ (c.in-Some.number.now, c.in-Some.open.now) ∷ c.next.new.self = c.in-Some.ensures.steps in
    let is : (goes_far from to (c.in-Some.open.now).path ≡ false) × (c.in-Some-2.open ≡ moved_open from to c.in-Some.open.now) = subst (IsMovedOpen from to c.in-Some.open.now) c.in-Some-2.is c.in_ok-open.ensures in
    let made : c.loop-number.moved.entries ++ (c.in-Some.number.now, c.in-Some-2.open) ∷ map (moved_entry from to) c.next.new.self ≡ map (moved_entry from to) c.args.opens.now.entries =
    (λ i. c.loop-number.moved.entries ++ (c.in-Some.number.now, is.1 i) ∷ map (moved_entry from to) c.next.new.self) ∙ ap (λ (es : List (ℕ × Open)). c.loop-number.moved.entries ++ map (moved_entry from to) es) (sym split) ∙ c.loop-number.invariant.made in
    let rising : IsStrictlySortedBy nat_cmp (keys_of (c.loop-number.moved.entries ++ (c.in-Some.number.now, c.in-Some-2.open) ∷ map (moved_entry from to) c.next.new.self)) =
    subst (λ (ks : List ℕ). IsStrictlySortedBy nat_cmp ks) (sym (ap keys_of made ∙ keys_of-map_values (moved_open from to) c.args.opens.now.entries)) c.loop-number.invariant.rising in
    record {
      near = ap (λ b. b || list_any (is_far from to) c.next.new.self) (sym is.0) ∙ ap (list_any (is_far from to)) (sym split) ∙ c.loop-number.invariant.near;
      made =
          ap (λ (es : List (ℕ × Open)). es ++ map (moved_entry from to) c.next.new.self) (c.in_ok-insert.ensures.entries ∙ insert_last c.loop-number.moved.entries c.in-Some.number.now c.in-Some-2.open (map (moved_entry from to) c.next.new.self) rising)
          ∙ append_assoc c.loop-number.moved.entries ((c.in-Some.number.now, c.in-Some-2.open) ∷ []) (map (moved_entry from to) c.next.new.self) ∙ made;
      rising = c.loop-number.invariant.rising;
    }

pub loop-number-preserved-in_ok-insert : goal.loop-number-preserved-in_ok-insert
loop-number-preserved-in_ok-insert c =
    let from = c.args.from.now in
    let to = c.args.to.now in
    let split : c.loop-number.number-iterator ≡ (c.in-Some.number.now, c.in-Some.open.now) ∷ c.next.new.self = c.in-Some.ensures.steps in
    let is : (goes_far from to (c.in-Some.open.now).path ≡ false) × (c.in-Some-2.open ≡ moved_open from to c.in-Some.open.now) = subst (IsMovedOpen from to c.in-Some.open.now) c.in-Some-2.is c.in_ok-open.ensures in
    let made : c.loop-number.moved.entries ++ (c.in-Some.number.now, c.in-Some-2.open) ∷ map (moved_entry from to) c.next.new.self ≡ map (moved_entry from to) c.args.opens.now.entries =
    (λ i. c.loop-number.moved.entries ++ (c.in-Some.number.now, is.1 i) ∷ map (moved_entry from to) c.next.new.self) ∙ ap (λ (es : List (ℕ × Open)). c.loop-number.moved.entries ++ map (moved_entry from to) es) (sym split) ∙ c.loop-number.invariant.made in
    let rising : IsStrictlySortedBy nat_cmp (keys_of (c.loop-number.moved.entries ++ (c.in-Some.number.now, c.in-Some-2.open) ∷ map (moved_entry from to) c.next.new.self)) =
    subst (λ (ks : List ℕ). IsStrictlySortedBy nat_cmp ks) (sym (ap keys_of made ∙ keys_of-map_values (moved_open from to) c.args.opens.now.entries)) c.loop-number.invariant.rising in
    record {
      near = ap (λ b. b || list_any (is_far from to) c.next.new.self) (sym is.0) ∙ ap (list_any (is_far from to)) (sym split) ∙ c.loop-number.invariant.near;
      made =
          ap (λ (es : List (ℕ × Open)). es ++ map (moved_entry from to) c.next.new.self) (c.in_ok-insert.ensures.entries ∙ insert_last c.loop-number.moved.entries c.in-Some.number.now c.in-Some-2.open (map (moved_entry from to) c.next.new.self) rising)
          ∙ append_assoc c.loop-number.moved.entries ((c.in-Some.number.now, c.in-Some-2.open) ∷ []) (map (moved_entry from to) c.next.new.self) ∙ made;
      rising = c.loop-number.invariant.rising;
    }

pub loop-number-preserved-in_ok-insert-2 : goal.loop-number-preserved-in_ok-insert-2
loop-number-preserved-in_ok-insert-2 c =
    let from = c.args.from.now in
    let to = c.args.to.now in
    let split : c.loop-number.number-iterator ≡ (c.in-Some.number.now, c.in-Some.open.now) ∷ c.next.new.self = c.in-Some.ensures.steps in
    let is : (goes_far from to (c.in-Some.open.now).path ≡ false) × (c.in-Some-2.open ≡ moved_open from to c.in-Some.open.now) = subst (IsMovedOpen from to c.in-Some.open.now) c.in-Some-2.is c.in_ok-open.ensures in
    let made : c.loop-number.moved.entries ++ (c.in-Some.number.now, c.in-Some-2.open) ∷ map (moved_entry from to) c.next.new.self ≡ map (moved_entry from to) c.args.opens.now.entries =
    (λ i. c.loop-number.moved.entries ++ (c.in-Some.number.now, is.1 i) ∷ map (moved_entry from to) c.next.new.self) ∙ ap (λ (es : List (ℕ × Open)). c.loop-number.moved.entries ++ map (moved_entry from to) es) (sym split) ∙ c.loop-number.invariant.made in
    let rising : IsStrictlySortedBy nat_cmp (keys_of (c.loop-number.moved.entries ++ (c.in-Some.number.now, c.in-Some-2.open) ∷ map (moved_entry from to) c.next.new.self)) =
    subst (λ (ks : List ℕ). IsStrictlySortedBy nat_cmp ks) (sym (ap keys_of made ∙ keys_of-map_values (moved_open from to) c.args.opens.now.entries)) c.loop-number.invariant.rising in
    record {
      near = ap (λ b. b || list_any (is_far from to) c.next.new.self) (sym is.0) ∙ ap (list_any (is_far from to)) (sym split) ∙ c.loop-number.invariant.near;
      made =
          ap (λ (es : List (ℕ × Open)). es ++ map (moved_entry from to) c.next.new.self) (c.in_ok-insert.ensures.entries ∙ insert_last c.loop-number.moved.entries c.in-Some.number.now c.in-Some-2.open (map (moved_entry from to) c.next.new.self) rising)
          ∙ append_assoc c.loop-number.moved.entries ((c.in-Some.number.now, c.in-Some-2.open) ∷ []) (map (moved_entry from to) c.next.new.self) ∙ made;
      rising = c.loop-number.invariant.rising;
    }
