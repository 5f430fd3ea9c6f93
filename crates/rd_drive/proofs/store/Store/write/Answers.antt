use Rattle.std.proofs.Common.{◌≡◌, ◌∙◌, refl, sym, ap, ℕ, ◌+◌, ◌==◌, ◌<◌, inl, false, List, Some, Ok, Err, length, arith, subst}
use Rattle.std.proofs.lemmas.Bool.Decides.{nat_tests}
use Rattle.std.proofs.lemmas.Bool.{lt-ltb}
use Rattle.rd_irp.specs.declared.completion.Body.TheVariants.{Count}
use Rattle.rd_contents.specs.Contents.{written, max_len, EndsTooFar}
use Rattle.rd_contents.specs.declared.contents.SizeNo.TheVariants as size
use Rattle.rd_tree.specs.Places.{bytes_at, IsWhole}
use Rattle.rd_drive.specs.ReadWrite.{write}
use Rattle.rd_base.specs.Statuses.{disk_full}
use Rattle.rd_drive.specs.Store.{drive_of, state_of}
use Rattle.rd_drive.specs.Kept.{written_at}
use Rattle.rd_drive.proofs.HandleLemmas.{unopened}
use Rattle.rd_drive.proofs.ServesLemmas.{serves_quiet, serves_refused, serves_no_memory}
use Rattle.rd_drive.proofs.KeptLemmas.{serves_told, written_store, written_tree}
use Rattle.rd_drive.proofs.WriteLemmas.{bytes_none, bytes_some, near_is, write_folder, write_denied, write_nothing, write_locked, write_far, write_done}
use Rattle.rd_drive.proofs.store.Store.write.Goals as goal

pub returns-in_default : goal.returns-in_default
returns-in_default c = (c.requires, inl (unopened c.args.self.now c.args.file (write (drive_of c.args.self.now) c.args.moment c.args.file c.args.offset c.args.bytes.now) (sym c.in_default.ensures)))

pub returns-then-is_folder : goal.returns-then-is_folder
returns-then-is_folder c =
    let s = c.args.self.now in
    let h = c.in-Some.handle.now in
    (c.requires, inl (write_folder s c.requires c.args.file h (sym c.in-Some.ensures) c.args.moment c.args.offset c.args.bytes.now (bytes_none c.is_folder.result (bytes_at s.tree h.node.0) c.is_folder.ensures.bytes c.if-is_folder.true)))

pub returns-then-not-writes : goal.returns-then-not-writes
returns-then-not-writes c =
    let s = c.args.self.now in
    let h = c.in-Some.handle.now in
    let b = bytes_some c.is_folder.result (bytes_at s.tree h.node.0) c.is_folder.ensures.bytes c.if-is_folder.false in
    (c.requires, inl (write_denied s c.requires c.args.file h (sym c.in-Some.ensures) c.args.moment c.args.offset c.args.bytes.now b.0 b.1 (sym c.writes.ensures ∙ c.if-not-writes.true)))

pub returns-then-is_empty : goal.returns-then-is_empty
returns-then-is_empty c =
    let s = c.args.self.now in
    let h = c.in-Some.handle.now in
    let b = bytes_some c.is_folder.result (bytes_at s.tree h.node.0) c.is_folder.ensures.bytes c.if-is_folder.false in
    serves_quiet s s _ _ _ c.requires c.none.ensures
    (write_nothing s c.requires c.args.file h (sym c.in-Some.ensures) c.args.moment c.args.offset c.args.bytes.now b.0 b.1 (sym c.writes.ensures ∙ c.if-not-writes.false) (sym c.is_empty.ensures ∙ c.if-is_empty.true))

pub returns-then-not-may_write : goal.returns-then-not-may_write
returns-then-not-may_write c =
    let s = c.args.self.now in
    let h = c.in-Some.handle.now in
    let b = bytes_some c.is_folder.result (bytes_at s.tree h.node.0) c.is_folder.ensures.bytes c.if-is_folder.false in
    (c.requires, inl (write_locked s c.requires c.args.file h (sym c.in-Some.ensures) c.args.moment c.args.offset c.args.bytes.now b.0 b.1 (sym c.writes.ensures ∙ c.if-not-writes.false) (sym c.is_empty.ensures ∙ c.if-is_empty.false) (sym c.may_write.ensures ∙ c.if-not-may_write.true)))

pub returns-in-Ok : goal.returns-in-Ok
returns-in-Ok c =
    let s = c.args.self.now in
    let h = c.in-Some.handle.now in
    let n = h.node.0 in
    let b = bytes_some c.is_folder.result (bytes_at s.tree n) c.is_folder.ensures.bytes c.if-is_folder.false in
    let live = (c.requires.opened c.args.file h (sym c.in-Some.ensures)).0 in
    let more = sym c.is_empty.ensures ∙ c.if-is_empty.false in
    serves_told s c.requires n live (Some (written b.0 c.args.offset c.args.bytes.now)) c.written.new.self.states (written_at (state_of s.states n) c.args.moment) c.written.ensures.kept
    (subst IsWhole (written_tree s.tree c.requires.whole n live b.0 b.1 (λ (l : List ℕ). written l c.args.offset c.args.bytes.now) c.write.new.self c.in-Ok.ensures.written) c.in-Ok.ensures.is_whole) refl (λ (z : n ≡ 0). ap (λ (k : ℕ). (state_of s.states k).pending) z ∙ c.requires.root) c.written.new.self
    (written_store s c.requires.whole n live b.0 b.1 (λ (l : List ℕ). written l c.args.offset c.args.bytes.now) c.write.new.self c.in-Ok.ensures.written c.written.new.self c.written.ensures.others)
    _ (Count (length c.args.bytes.now)) 3 0x18 h.node refl c.written.result c.written.ensures.done
    (write_done s c.requires c.args.file h (sym c.in-Some.ensures) c.args.moment c.args.offset c.args.bytes.now b.0 b.1 (sym c.writes.ensures ∙ c.if-not-writes.false) more (sym c.may_write.ensures ∙ c.if-not-may_write.false)
    (near_is max_len (c.args.offset + length c.args.bytes.now) (λ far. no_fault c.in-Ok.field-0 c.args.offset c.args.bytes.now c.in-Ok.ensures.too_big.1 more far)))
  where
    some_bytes : (bytes : List ℕ) → (length bytes == 0) ≡ false → 0 < length bytes
    some_bytes bytes e = grind (arith, nat_tests)

    no_fault : (u : Unit {0}) (offset : ℕ) (bytes : List ℕ) → (EndsTooFar offset bytes → Ok u ≡ Err size.TooBig) → (length bytes == 0) ≡ false → max_len < offset + length bytes → ⊥
    no_fault u offset bytes f more far = let e = f (some_bytes bytes more, far) in absurd (cc)

pub returns-in-Err-TooBig : goal.returns-in-Err-TooBig
returns-in-Err-TooBig c =
    let s = c.args.self.now in
    let h = c.in-Some.handle.now in
    let b = bytes_some c.is_folder.result (bytes_at s.tree h.node.0) c.is_folder.ensures.bytes c.if-is_folder.false in
    serves_refused s (record s { tree = c.write.new.self }) _ c.requires (λ i. record s { tree = c.in-Err-TooBig.ensures.err i }) disk_full
    (write_far s c.requires c.args.file h (sym c.in-Some.ensures) c.args.moment c.args.offset c.args.bytes.now b.0 b.1 (sym c.writes.ensures ∙ c.if-not-writes.false) (sym c.is_empty.ensures ∙ c.if-is_empty.false) (sym c.may_write.ensures ∙ c.if-not-may_write.false)
    (lt-ltb max_len (c.args.offset + length c.args.bytes.now) (c.in-Err-TooBig.ensures.too_big.0 (ap (λ e. Err e) c.in-Err-TooBig.field-0-is)).1))

pub returns-in-Err-Memory : goal.returns-in-Err-Memory
returns-in-Err-Memory c =
    let s = c.args.self.now in
    serves_no_memory s (record s { tree = c.write.new.self }) _ c.requires (λ i. record s { tree = c.in-Err-Memory.ensures.err i })
