use Rattle.std.proofs.Common.{◌≡◌, ◌∙◌, refl, sym, ap, ℕ, ◌≤◌, cond, Bool, false, true, Some, None, Option, arith, nat_lt}
use Rattle.std.specs.Option.{option_map_or}
use Rattle.std.specs.Ordering.{nat_cmp}
use Rattle.std.specs.BTreeMap.{is_at}
use Rattle.std.proofs.lemmas.Bool.{ltb-true, ltb-false}
use Rattle.rd_tree.proofs.ViewLemmas.{itself}
use Rattle.rd_drive.specs.declared.access.Use.{Use}
use Rattle.rd_drive.specs.Uses.{uses_of}
use Rattle.rd_drive.specs.UseCounts.{more}
use Rattle.rd_folder_drive.specs.declared.handle.Handle as kept
use Rattle.rd_folder_drive.specs.declared.open.Open.{Open}
use Rattle.rd_folder_drive.specs.declared.table.Table.{Table}
use Rattle.rd_folder_drive.specs.Closing.{IsOff, used_once_less, other_handles}
use Rattle.rd_folder_drive.specs.Table.{open_at, uses_on}
use Rattle.rd_folder_drive.proofs.OffLemmas.{count, of_held, off_comes, off_stays, uses_before}
use Rattle.rd_folder_drive.proofs.table.Table.take_off.Goals as goal

-- what is left of a number's own
found : (n : ℕ) (left : Open) (before : Option Open) → cond (is_at (nat_cmp n) n) (Some left) before ≡ Some left
found n left before = ap (λ b. cond b (Some left) before) (itself n)

-- whether it is used, by its count
used_is : (n : ℕ) (result : Bool) (o : Option Open) (left : Open) → o ≡ Some left → left.uses.handles ≡ n → result ≡ option_map_or (λ (p : Open). nat_lt 0 (p.uses).handles) o false → nat_lt 0 n ≡ result
used_is n result o left is counted e = sym (e ∙ ap (λ (x : Option Open). option_map_or (λ (p : Open). nat_lt 0 (p.uses).handles) x false) is ∙ ap (nat_lt 0) counted)

pub lose_use-requires : goal.lose_use-requires
lose_use-requires c =
    let t = c.args.self.now in
    let h = (c.in-Some.handle).now in
    let is = c.in-Some.ensures.some in
    record {
      there = (
        c.in-Some.field-0-1.now,
        uses_of (uses_on h.node (other_handles t c.args.file)),
        is.1,
        uses_before t c.requires.sound c.args.file h c.in-Some.field-0-1.now is.0 is.1 ∙ ap (λ (u : Use). more u (uses_of (uses_on h.node (other_handles t c.args.file)))) (sym c.usage-usage.ensures),
      );
    }

pub returns-then-is_used : goal.returns-then-is_used
returns-then-is_used c =
    let t = c.args.self.now in
    let h = (c.in-Some.handle).now in
    let o = c.in-Some.field-0-1.now in
    let is = c.in-Some.ensures.some in
    let loses = c.lose_use.ensures.loses o (uses_of (uses_on h.node (other_handles t c.args.file))) is.1
    (uses_before t c.requires.sound c.args.file h o is.0 is.1 ∙ ap (λ (u : Use). more u (uses_of (uses_on h.node (other_handles t c.args.file)))) (sym c.usage-usage.ensures)) in
    let here : open_at c.lose_use.new.self h.node ≡ Some (used_once_less t c.args.file h o) = loses h.node ∙ found h.node (used_once_less t c.args.file h o) (open_at t h.node) in
    of_held t c.args.file (λ (g : kept.Handle) (p : Open). IsOff t c.args.file g p None c.lose_use.new.self) h o is.0 is.1
    (off_stays t c.requires.sound c.args.file h o is.0 is.1 c.remove.new.self c.remove.ensures.entries c.remove.ensures.updates.0 c.release.new.self c.release.ensures
    (c.lose_use.new.self).opens (c.ordered.ensures.opens, c.remove.ensures.ordered) c.lose_use.new.self c.lose_use.ensures.others loses
    (ltb-true 0 (count t c.requires.sound c.args.file h o is.0 is.1) (used_is (count t c.requires.sound c.args.file h o is.0 is.1) c.is_used.result (open_at c.lose_use.new.self h.node) (used_once_less t c.args.file h o) here refl c.is_used.ensures ∙ c.if-is_used.true)))

pub returns : goal.returns
returns c =
    let t = c.args.self.now in
    let h = (c.in-Some.handle).now in
    let o = c.in-Some.field-0-1.now in
    let is = c.in-Some.ensures.some in
    let loses = c.lose_use.ensures.loses o (uses_of (uses_on h.node (other_handles t c.args.file))) is.1
    (uses_before t c.requires.sound c.args.file h o is.0 is.1 ∙ ap (λ (u : Use). more u (uses_of (uses_on h.node (other_handles t c.args.file)))) (sym c.usage-usage.ensures)) in
    let here : open_at c.lose_use.new.self h.node ≡ Some (used_once_less t c.args.file h o) = loses h.node ∙ found h.node (used_once_less t c.args.file h o) (open_at t h.node) in
    let new : Table = record c.lose_use.new.self { opens = c.remove-2.new.self } in
    let low : count t c.requires.sound c.args.file h o is.0 is.1 ≤ 0 =
    ltb-false 0 (count t c.requires.sound c.args.file h o is.0 is.1) (used_is (count t c.requires.sound c.args.file h o is.0 is.1) c.is_used.result (open_at c.lose_use.new.self h.node) (used_once_less t c.args.file h o) here refl c.is_used.ensures ∙ c.if-is_used.false) in
    of_held t c.args.file (λ (g : kept.Handle) (p : Open). IsOff t c.args.file g p c.remove-2.result new) h o is.0 is.1
    (off_comes t c.requires.sound c.args.file h o is.0 is.1 c.remove.new.self c.remove.ensures.entries c.remove.ensures.updates.0 c.release.new.self c.release.ensures
    c.remove-2.new.self (c.remove-2.ensures.ordered, c.remove.ensures.ordered) new (ap (λ (x : Table). record x { opens = c.remove-2.new.self }) c.lose_use.ensures.others) c.remove-2.result (c.remove-2.ensures.value ∙ here)
    (λ k. c.remove-2.ensures.updates.0 k ∙ ap (λ (x : Option Open). cond (is_at (nat_cmp h.node) k) None x) (loses k) ∙ past (is_at (nat_cmp h.node) k) (used_once_less t c.args.file h o) (open_at t k))
    (omega (arith, low)))
  where
    past : (b : Bool) (left : Open) (before : Option Open) → cond b None (cond b (Some left) before) ≡ cond b None before
    past true left before = refl
    past false left before = refl
