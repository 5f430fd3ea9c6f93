use Rattle.std.proofs.Common.{◌≡◌, ◌∙◌, sym, ap, ℕ, ◌==◌, ◌≤◌, ◌<◌, ◌++◌, [], inl, true, false, List, Option, length, min, arith}
use Rattle.std.specs.Prelude.{nat_le}
use Rattle.std.proofs.lemmas.Bool.Decides.{nat_tests}
use Rattle.std.specs.Option.{unwrap_or}
use Rattle.rd_irp.specs.declared.completion.Body.TheVariants.{Buffer}
use Rattle.rd_contents.specs.Contents.{part}
use Rattle.rd_locks.specs.Locks.{may_read}
use Rattle.rd_tree.specs.Places.{bytes_at, file_at}
use Rattle.rd_drive.specs.Outcome.{no_news, succeeded}
use Rattle.rd_drive.specs.ReadWrite.{read, max_read}
use Rattle.rd_drive.specs.Store.{drive_of}
use Rattle.rd_drive.proofs.HandleLemmas.{opened_place, unopened}
use Rattle.rd_drive.proofs.ServesLemmas.{serves_quiet}
use Rattle.rd_drive.proofs.ReadLemmas.{no_bytes, some_bytes, read_folder, read_denied, read_nothing, read_locked, read_past, read_given}
use Rattle.rd_drive.proofs.store.Store.read.Goals as goal

zero_is : (n m : ℕ) → n ≡ m → n ≡ 0 → (m == 0) ≡ true
zero_is n m e z = grind (arith, nat_tests)

more_is : (n m : ℕ) → n ≡ m → (n ≡ 0 → ⊥) → (m == 0) ≡ false
more_is n m e z = grind (arith, nat_tests)

past_is : (a e o : ℕ) → a ≡ e → e ≤ o → nat_le a o ≡ true
past_is a e o same past = grind (arith, nat_tests)

within_is : (a e o : ℕ) → a ≡ e → o < e → nat_le a o ≡ false
within_is a e o same within = grind (arith, nat_tests)

pub returns-in_default : goal.returns-in_default
returns-in_default c = (c.requires.sound, inl (unopened c.args.self.now c.args.file (read (drive_of c.args.self.now) c.args.file c.args.offset c.args.length) (sym c.in_default.ensures)))

pub returns-in_default-end : goal.returns-in_default-end
returns-in_default-end c =
    let s = c.args.self.now in
    let h = c.in-Some.handle.now in
    let there = sym c.in-Some.ensures in
    let x = opened_place s c.requires.sound c.args.file h there in
    (c.requires.sound, inl (read_folder s c.requires.sound c.args.file h there x.0 x.1 c.args.offset c.args.length (no_bytes (bytes_at s.tree h.node.0) c.in_default-end.ensures.end)))

pub returns-then-not-reads : goal.returns-then-not-reads
returns-then-not-reads c =
    let s = c.args.self.now in
    let h = c.in-Some.handle.now in
    let there = sym c.in-Some.ensures in
    let x = opened_place s c.requires.sound c.args.file h there in
    let b = some_bytes c.in-Some-end.end (bytes_at s.tree h.node.0) c.in-Some-end.ensures.end in
    (c.requires.sound, inl (read_denied s c.requires.sound c.args.file h there x.0 x.1 c.args.offset c.args.length b.0 b.1 (sym c.if-not-reads.ensures)))

pub returns-then-length-eq0 : goal.returns-then-length-eq0
returns-then-length-eq0 c =
    let s = c.args.self.now in
    let h = c.in-Some.handle.now in
    let there = sym c.in-Some.ensures in
    let x = opened_place s c.requires.sound c.args.file h there in
    let b = some_bytes c.in-Some-end.end (bytes_at s.tree h.node.0) c.in-Some-end.ensures.end in
    serves_quiet s s _ _ _ c.requires.sound c.none.ensures
    (read_nothing s c.requires.sound c.args.file h there x.0 x.1 c.args.offset c.args.length b.0 b.1 (sym c.reads.ensures ∙ c.if-not-reads.false) (zero_is c.min-length.result (min c.args.length max_read) c.min-length.ensures c.if-length-eq0.true)
    ∙ ap (λ (l : List ℕ). succeeded (drive_of s) (Buffer l) no_news) (sym (c.of.ensures ∙ c.requires.room)))

pub returns-then-not-may_read : goal.returns-then-not-may_read
returns-then-not-may_read c =
    let s = c.args.self.now in
    let h = c.in-Some.handle.now in
    let there = sym c.in-Some.ensures in
    let x = opened_place s c.requires.sound c.args.file h there in
    let b = some_bytes c.in-Some-end.end (bytes_at s.tree h.node.0) c.in-Some-end.ensures.end in
    (c.requires.sound, inl (read_locked s c.requires.sound c.args.file h there x.0 x.1 c.args.offset c.args.length b.0 b.1 (sym c.reads.ensures ∙ c.if-not-reads.false) (more_is c.min-length.result (min c.args.length max_read) c.min-length.ensures c.if-length-eq0.false) (ap (λ (l : ℕ). may_read s.locks.locks h.node.0 c.args.file (record { offset = c.args.offset; length = l })) (sym (c.from.ensures ∙ c.min-length.ensures)) ∙ sym c.may_read.ensures ∙ c.if-not-may_read.true)))

pub returns-then-offset-end : goal.returns-then-offset-end
returns-then-offset-end c =
    let s = c.args.self.now in
    let h = c.in-Some.handle.now in
    let there = sym c.in-Some.ensures in
    let x = opened_place s c.requires.sound c.args.file h there in
    let b = some_bytes c.in-Some-end.end (bytes_at s.tree h.node.0) c.in-Some-end.ensures.end in
    (c.requires.sound, inl (read_past s c.requires.sound c.args.file h there x.0 x.1 c.args.offset c.args.length b.0 b.1 (sym c.reads.ensures ∙ c.if-not-reads.false) (more_is c.min-length.result (min c.args.length max_read) c.min-length.ensures c.if-length-eq0.false) (ap (λ (l : ℕ). may_read s.locks.locks h.node.0 c.args.file (record { offset = c.args.offset; length = l })) (sym (c.from.ensures ∙ c.min-length.ensures)) ∙ sym c.may_read.ensures ∙ c.if-not-may_read.false) (past_is (length b.0) c.in-Some-end.end c.args.offset b.2 c.if-offset-end.true)))

pub returns-in-Ok : goal.returns-in-Ok
returns-in-Ok c =
    let s = c.args.self.now in
    let h = c.in-Some.handle.now in
    let there = sym c.in-Some.ensures in
    let x = opened_place s c.requires.sound c.args.file h there in
    let b = some_bytes c.in-Some-end.end (bytes_at s.tree h.node.0) c.in-Some-end.ensures.end in
    serves_quiet s s _ _ _ c.requires.sound c.none-in-Ok.ensures
    (read_given s c.requires.sound c.args.file h there x.0 x.1 c.args.offset c.args.length b.0 b.1 (sym c.reads.ensures ∙ c.if-not-reads.false) (more_is c.min-length.result (min c.args.length max_read) c.min-length.ensures c.if-length-eq0.false) (ap (λ (l : ℕ). may_read s.locks.locks h.node.0 c.args.file (record { offset = c.args.offset; length = l })) (sym (c.from.ensures ∙ c.min-length.ensures)) ∙ sym c.may_read.ensures ∙ c.if-not-may_read.false) (within_is (length b.0) c.in-Some-end.end c.args.offset b.2 c.if-offset-end.false)
    ∙ ap (λ (l : List ℕ). succeeded (drive_of s) (Buffer l) no_news) read_is)
  where
    read_is : part (some_bytes c.in-Some-end.end (bytes_at c.args.self.now.tree c.in-Some.handle.now.node.0) c.in-Some-end.ensures.end).0 c.args.offset (min c.args.length max_read) ≡ c.of-in-Ok.result
    read_is =
        let b = some_bytes c.in-Some-end.end (bytes_at c.args.self.now.tree c.in-Some.handle.now.node.0) c.in-Some-end.ensures.end in
        (λ i. part (sym (ap (λ (o : Option (List ℕ)). unwrap_or o []) b.1) i) c.args.offset (sym c.min-length.ensures i))
        ∙ sym (c.of-in-Ok.ensures ∙ c.in-Ok.ensures.read ∙ ap (λ (l : List ℕ). l ++ part (file_at c.args.self.now.tree c.in-Some.handle.now.node.0) c.args.offset c.min-length.result) c.requires.room)
