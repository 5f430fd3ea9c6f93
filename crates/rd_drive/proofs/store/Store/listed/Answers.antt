use Rattle.std.proofs.Common.{◌≡◌, ◌∙◌, sym, ap, ℕ, ◌≤◌, ◌<◌, ◌^◌, ◌*◌, ◌++◌, [], ◌∷◌, Some, length, arith}
use Rattle.std.specs.Option.{option_map}
use Rattle.rd_dirinfo.specs.declared.entry.Entry.{Entry}
use Rattle.rd_dirinfo.specs.Entry.{entry_bytes}
use Rattle.rd_dirinfo.specs.Naming.{Name}
use Rattle.rd_dirinfo.specs.Paths.{is_name}
use Rattle.rd_tree.specs.Places.{node_at, own_path}
use Rattle.rd_drive.specs.QueryDir.{entry_of}
use Rattle.rd_drive.specs.Kept.{own_node}
use Rattle.rd_drive.proofs.NextLemmas.{name_next, none_next, some_next}
use Rattle.rd_drive.proofs.store.Store.listed.Goals as goal

few_units : (a b : Name) → a ≡ b → length b ≤ 4096 → 2 * length a < 2 ^ 32
few_units a b e few = let same = ap (length {A = ℕ}) e in omega (arith, same, few)

pub returns-in_default : goal.returns-in_default
returns-in_default c = none_next c.args.self.now c.requires.sound c.args.folder.0 c.args.pattern.now (option_map (λ other. other.now) c.args.last) (sym c.in_default.ensures)

pub child-requires-clause-name : goal.child-requires-clause-name
child-requires-clause-name c =
    ap is_name c.as_slice.ensures ∙ name_next c.args.self.now c.requires.sound c.args.folder.0 c.args.pattern.now (option_map (λ other. other.now) c.args.last) c.in-Some.name.now (sym c.in-Some.ensures)

pub put_entry-requires : goal.put_entry-requires
put_entry-requires c =
    let name : Name = c.in-Some.name.now in
    let at : node_at c.args.self.now.tree (own_path c.args.self.now.tree c.args.folder.0 ++ name ∷ []) ≡ Some c.in-Some-child.node.0 =
    ap (λ (nm : Name). node_at c.args.self.now.tree (own_path c.args.self.now.tree c.args.folder.0 ++ nm ∷ [])) (sym c.as_slice.ensures) ∙ sym c.in-Some-child.ensures.found in
    let next = some_next c.args.self.now c.requires.sound c.args.folder.0 c.args.pattern.now (option_map (λ other. other.now) c.args.last) name (sym c.in-Some.ensures) c.in-Some-child.node.0 at in
    let own : c.entry_of-entry.result.name ≡ name = ap (λ (e : Entry). e.name) c.entry_of-entry.ensures ∙ c.in_ok-copy.ensures in
    few_units c.entry_of-entry.result.name name own next.2

pub returns-in-Ok : goal.returns-in-Ok
returns-in-Ok c =
    let name : Name = c.in-Some.name.now in
    let at : node_at c.args.self.now.tree (own_path c.args.self.now.tree c.args.folder.0 ++ name ∷ []) ≡ Some c.in-Some-child.node.0 =
    ap (λ (nm : Name). node_at c.args.self.now.tree (own_path c.args.self.now.tree c.args.folder.0 ++ nm ∷ [])) (sym c.as_slice.ensures) ∙ sym c.in-Some-child.ensures.found in
    let next = some_next c.args.self.now c.requires.sound c.args.folder.0 c.args.pattern.now (option_map (λ other. other.now) c.args.last) name (sym c.in-Some.ensures) c.in-Some-child.node.0 at in
    let entry : c.entry_of-entry.result ≡ entry_of (own_node c.args.self.now c.in-Some-child.node.0) =
    c.entry_of-entry.ensures ∙ ap (λ (nm : Name). record (entry_of (own_node c.args.self.now c.in-Some-child.node.0)) { name = nm }) (c.in_ok-copy.ensures ∙ sym next.1) in (
      own_node c.args.self.now c.in-Some-child.node.0,
      next.0,
      c.in_ok-name.ensures ∙ sym next.1,
      c.of.ensures ∙ c.in-Ok.ensures.bytes ∙ (λ i. c.requires.room i ++ entry_bytes c.args.class (entry i)),
    )
