-- The lines of a script that was read have rising numbers, and remove and add devices that it declares.
use Rattle.std.proofs.Common.{◌≡◌, ◌∙◌, ◌⊎◌, refl, sym, ap, subst, inl, inr, ℕ, ◌+◌, ◌≤◌, ◌<◌, ◌==◌, ◌||◌, Bool, true, false, List, [], ◌∷◌, ◌++◌, map, replicate, Option, Some, None, Ok, is_some, arith}
use Rattle.std.specs.Prelude.{find, fold, if◌then◌else◌}
use Rattle.std.specs.BTreeMap.{insert_entry}
use Rattle.std.specs.List.{AllByRecursion}
use Rattle.std.specs.List.Sorted.{IsStrictlySortedBy}
use Rattle.std.specs.Option.{option_map_or}
use Rattle.std.specs.Ordering.{match_ordering, nat_cmp}
use Rattle.std.specs.declared.cmp.Ordering.{Ordering}
use Rattle.std.specs.declared.cmp.Ordering.TheVariants.{Equal, Greater, Less}
use Rattle.std.proofs.lemmas.Bool.Decides.{nat_tests}
use Rattle.std.proofs.lemmas.Map.Keys.{IsStrictlyIncreasing-from_sorted}
use Rattle.rd_controls.proofs.Numbers.{Rise, numbers}
use Rattle.rd_controls.specs.Controls.{AreOrderedLines, NamesKnown}
use Rattle.rd_dirinfo.specs.Paths.{Names, seen_path}
use Rattle.rd_dirinfo.specs.declared.naming.Naming.{Naming}
use Rattle.rd_ranges.proofs.RowLemmas.{IsPlaced}
use Rattle.rd_ranges.proofs.ScriptLemmas.{script_keeps}
use Rattle.rd_script.specs.Keywords.{in_client, in_host}
use Rattle.rd_script.specs.Said.{Said, SaidDevice, is_declared, names_cmp, naming_of, root_node, with_device_changed, with_line, with_said_node}
use Rattle.rd_script.specs.Script.{Reading, reading, reading_at_start, script_of, skipping}
use Rattle.rd_script.specs.declared.keyword.Mode.{Mode}
use Rattle.rd_script.specs.declared.keyword.Mode.TheVariants as mode
use Rattle.rd_script.specs.declared.known.DeviceKind.{DeviceKind}
use Rattle.rd_script.specs.declared.line.Line.{Line}
use Rattle.rd_script.specs.declared.line.Line.TheVariants as line
use Rattle.rd_script.specs.declared.line.NumberedLine.{NumberedLine}
use Rattle.rd_script.specs.declared.script.Script.{Script}
use Rattle.rd_world.specs.Control.{is_among}
use Rattle.rd_declared.specs.Devices.{Declared, declaring, furnishing, holding_at}
use Rattle.rd_declared.specs.Declaring.{declared_devices}

-- ---- ids

abbrev ids_of : List (ℕ × Declared) → List ℕ
ids_of es = map (λ (e : ℕ × Declared). e.0) es

or_right : (a b : Bool) → b ≡ true → (a || b) ≡ true
or_right true b e = refl
or_right false b e = e

or_left : (a b : Bool) → a ≡ true → (a || b) ≡ true
or_left true b e = refl
or_left false b e = absurd cc

or_cases : (a b : Bool) → (a || b) ≡ true → (a ≡ true) ⊎ (b ≡ true)
or_cases true b e = inl refl
or_cases false b e = inr e

-- what is inserted is among the ids, beside those that were
inserted_ids : (k : ℕ) (d : Declared) (es : List (ℕ × Declared)) (id : ℕ) → ((k == id) || is_among (ids_of es) id) ≡ true → is_among (ids_of (insert_entry nat_cmp es k d)) id ≡ true
inserted_ids k d [] id own = own
inserted_ids k d (e ∷ es) id own = by (inserted_ids k d es id) (nat_cmp k e.0) refl
  where
    later : (a b c : Bool) → (a || (b || c)) ≡ true → ((b ≡ true) ⊎ ((a || c) ≡ true))
    later true b c own = inr refl
    later false true c own = inl refl
    later false false c own = inr own

    by : (((k == id) || is_among (ids_of es) id) ≡ true → is_among (ids_of (insert_entry nat_cmp es k d)) id ≡ true) → (r : Ordering) → nat_cmp k e.0 ≡ r
        → is_among (ids_of (match_ordering r ((k, d) ∷ e ∷ es) ((e.0, d) ∷ es) (e ∷ insert_entry nat_cmp es k d))) id ≡ true
    by rest Less is = own
    by rest Equal is =
        let same : k ≡ e.0 = grind (arith, nat_tests, is) in
        elim (or_cases (k == id) ((e.0 == id) || is_among (ids_of es) id) own) [
          | inl own ↦ or_left (e.0 == id) (is_among (ids_of es) id) (subst (λ (n : ℕ). (n == id) ≡ true) same own)
          | inr own ↦ own
        ]
    by rest Greater is =
        elim (later (k == id) (e.0 == id) (is_among (ids_of es) id) own) [
          | inl own ↦ or_left (e.0 == id) (is_among (ids_of (insert_entry nat_cmp es k d)) id) own
          | inr own ↦ or_right (e.0 == id) (is_among (ids_of (insert_entry nat_cmp es k d)) id) (rest own)
        ]

-- a line leaves those that are declared so
more_ids : (es : List (ℕ × Declared)) (l : Line) (id : ℕ) → is_among (ids_of es) id ≡ true → is_among (ids_of (declaring es l)) id ≡ true
unfolding declaring
more_ids es (line.Drive device name) id own = inserted_ids device _ es id (or_right (device == id) (is_among (ids_of es) id) own)
more_ids es (line.DriveFold device name) id own = inserted_ids device _ es id (or_right (device == id) (is_among (ids_of es) id) own)
more_ids es (line.Printer device name driver printer) id own = inserted_ids device _ es id (or_right (device == id) (is_among (ids_of es) id) own)
more_ids es l id own = own

-- ---- what was said

-- an id is that of one of these
abbrev finds : List SaidDevice → ℕ → Bool
finds ds id = is_some (find (λ (d : SaidDevice). d.id == id) ds)

found_more : (ds : List SaidDevice) (x : SaidDevice) (id : ℕ) → finds (ds ++ x ∷ []) id ≡ true → ((x.id == id) ≡ true) ⊎ (finds ds id ≡ true)
found_more [] x id own = by (x.id == id) refl own
  where
    by : (b : Bool) → (x.id == id) ≡ b → is_some (if b then Some x else None) ≡ true → ((x.id == id) ≡ true) ⊎ (false ≡ true)
    by true e own = inl e
    by false e own = absurd cc
found_more (d ∷ ds) x id own = by (d.id == id) (found_more ds x id) own
  where
    by : (b : Bool) → (finds (ds ++ x ∷ []) id ≡ true → ((x.id == id) ≡ true) ⊎ (finds ds id ≡ true)) → is_some (if b then Some d else find (λ (d : SaidDevice). d.id == id) (ds ++ x ∷ [])) ≡ true
        → ((x.id == id) ≡ true) ⊎ (is_some (if b then Some d else find (λ (d : SaidDevice). d.id == id) ds) ≡ true)
    by true rest own = inr refl
    by false rest own = rest own

-- other nodes leave the ids
node_id : (path : Names) (folder : Bool) (d : SaidDevice) → (with_said_node path folder d).id ≡ d.id
node_id path folder d = by (naming_of d.kind)
  where
    by : (o : Option Naming) → (option_map_or (λ n. record d { nodes = insert_entry names_cmp d.nodes (seen_path n path) folder }) o d).id ≡ d.id
    by None = refl
    by (Some n) = refl

changed_finds : (at : ℕ) (change : SaidDevice → SaidDevice) → ((d : SaidDevice) → (change d).id ≡ d.id) → (ds : List SaidDevice) (id : ℕ) → finds (with_device_changed at change ds) id ≡ finds ds id
changed_finds at change same [] id = refl
changed_finds at change same (d ∷ ds) id = by (d.id == at) (changed_finds at change same ds id)
  where
    either : (b : Bool) (x y : SaidDevice) (o q : Option SaidDevice) → is_some o ≡ is_some q → is_some (if b then Some x else o) ≡ is_some (if b then Some y else q)
    either true x y o q e = refl
    either false x y o q e = e

    by : (b : Bool) → finds (with_device_changed at change ds) id ≡ finds ds id → finds (if b then change d ∷ ds else d ∷ with_device_changed at change ds) id ≡ finds (d ∷ ds) id
    by true rest =
        ap (λ (n : ℕ). is_some (if n == id then Some (change d) else find (λ (d : SaidDevice). d.id == id) ds)) (same d)
        ∙ either (d.id == id) (change d) d (find (λ (d : SaidDevice). d.id == id) ds) (find (λ (d : SaidDevice). d.id == id) ds) refl
    by false rest = either (d.id == id) d d (find (λ (d : SaidDevice). d.id == id) (with_device_changed at change ds)) (find (λ (d : SaidDevice). d.id == id) ds) rest

-- the lines so far
abbrev declared_by : List NumberedLine → List (ℕ × Declared)
declared_by ls = fold declaring [] (map (λ (l : NumberedLine). l.line) ls)

declared_one : (ls : List NumberedLine) (es : List (ℕ × Declared)) (l : NumberedLine)
    → fold declaring es (map (λ (l : NumberedLine). l.line) (ls ++ l ∷ [])) ≡ declaring (fold declaring es (map (λ (l : NumberedLine). l.line) ls)) l.line
declared_one [] es l = refl
declared_one (x ∷ ls) es l = declared_one ls (declaring es x.line) l

-- ---- one more line

-- what was said to be there is declared
abbrev AreSaid : Said → List (ℕ × Declared) → Type 0
AreSaid said es = (id : ℕ) → is_declared said id ≡ true → is_among (ids_of es) id ≡ true

one_more_said : (said : Said) (es : List (ℕ × Declared)) (device : ℕ) (k : DeviceKind) (d : Declared) → AreSaid said es → (id : ℕ)
    → finds (said.devices ++ record { id = device; kind = k; nodes = root_node } ∷ []) id ≡ true → is_among (ids_of (insert_entry nat_cmp es device d)) id ≡ true
one_more_said said es device k d are id own =
    inserted_ids device d es id (elim (found_more said.devices (record { id = device; kind = k; nodes = root_node }) id own) [
      | inl new ↦ or_left (device == id) (is_among (ids_of es) id) new
      | inr old ↦ or_right (device == id) (is_among (ids_of es) id) (are id old)
    ])

node_said : (said : Said) (es : List (ℕ × Declared)) (device : ℕ) (path : Names) (folder : Bool) → AreSaid said es → (id : ℕ)
    → finds (with_device_changed device (with_said_node path folder) said.devices) id ≡ true → is_among (ids_of es) id ≡ true
node_said said es device path folder are id own = are id (sym (changed_finds device (with_said_node path folder) (node_id path folder) said.devices id) ∙ own)

line_said : (said : Said) (es : List (ℕ × Declared)) (l : Line) → said.mode ≡ mode.Both → IsPlaced said l → AreSaid said es → AreSaid (with_line said l) (declaring es l)
unfolding declaring IsPlaced
line_said said es (line.Drive device name) both placed are = one_more_said said es device _ _ are
line_said said es (line.DriveFold device name) both placed are = one_more_said said es device _ _ are
line_said said es (line.Printer device name driver printer) both placed are = one_more_said said es device _ _ are
line_said said es (line.Real device name place) both placed are = absurd (outside said.mode both placed)
  where
    outside : (m : Mode) → m ≡ mode.Both → in_client m ≡ true → ⊥
    outside m e f = let off : in_client m ≡ false = ap in_client e in cc
line_said said es (line.Folder device path) both placed are = node_said said es device path true are
line_said said es (line.File device path bytes) both placed are = node_said said es device path false are
line_said said es (line.Fill device path len byte) both placed are = node_said said es device path false are
line_said said es (line.AtRemove channel requests device) both placed are = are
line_said said es (line.AtAdd channel requests device) both placed are = are
line_said said es (line.AtDrop channel requests) both placed are = are
line_said said es l both placed are = are

line_mode : (said : Said) (l : Line) → (with_line said l).mode ≡ said.mode
line_mode said (line.Drive device name) = refl
line_mode said (line.DriveFold device name) = refl
line_mode said (line.Printer device name driver printer) = refl
line_mode said (line.Real device name place) = refl
line_mode said (line.Folder device path) = refl
line_mode said (line.File device path bytes) = refl
line_mode said (line.Fill device path len byte) = refl
line_mode said (line.AtRemove channel requests device) = refl
line_mode said (line.AtAdd channel requests device) = refl
line_mode said (line.AtDrop channel requests) = refl
line_mode said l = refl

known_more : (es fs : List (ℕ × Declared)) → ((id : ℕ) → is_among (ids_of es) id ≡ true → is_among (ids_of fs) id ≡ true) → (l : Line) → NamesKnown (ids_of es) l → NamesKnown (ids_of fs) l
unfolding NamesKnown
known_more es fs more (line.Remove device) known = more device known
known_more es fs more (line.Add device) known = more device known
known_more es fs more l known = tt

line_known : (said : Said) (es : List (ℕ × Declared)) (l : Line) → said.mode ≡ mode.Both → IsPlaced said l → AreSaid said es → NamesKnown (ids_of es) l
unfolding NamesKnown IsPlaced
line_known said es (line.Remove device) both placed are = are device (sym (ap (λ (m : Mode). in_host m || is_declared said device) both) ∙ placed)
line_known said es (line.Add device) both placed are = are device (sym (ap (λ (m : Mode). in_host m || is_declared said device) both) ∙ placed)
line_known said es l both placed are = tt

-- ---- numbers

rise_one : (ns : List ℕ) (n : ℕ) → AllByRecursion (λ k. k < n) ns → Rise ns → Rise (ns ++ n ∷ [])
unfolding IsStrictlySortedBy
rise_one [] n below rise = (tt, tt)
rise_one (k ∷ ns) n below rise = (last_more (λ y. nat_cmp k y ≡ Less) ns n rise.0 (grind (arith, nat_tests, below.0)), rise_one ns n below.1 rise.1)
  where
    last_more : (P : ℕ → Type 0) (xs : List ℕ) (x : ℕ) → AllByRecursion P xs → P x → AllByRecursion P (xs ++ x ∷ [])
    last_more P [] x all own = (own, tt)
    last_more P (y ∷ xs) x all own = (all.0, last_more P xs x all.1 own)

numbers_one : (ls : List NumberedLine) (l : NumberedLine) → numbers (ls ++ l ∷ []) ≡ numbers ls ++ l.number ∷ []
numbers_one [] l = refl
numbers_one (x ∷ ls) l = ap (λ (ns : List ℕ). x.number ∷ ns) (numbers_one ls l)

all_up : (m n : ℕ) (ns : List ℕ) → m ≤ n → AllByRecursion (λ k. k < m) ns → AllByRecursion (λ k. k < n) ns
all_up m n [] few all = tt
all_up m n (k ∷ ns) few all = (omega (arith, few, all.0), all_up m n ns few all.1)

-- ---- all lines

record IsRead (r : Reading) : Type 0 where
  both : r.said.mode ≡ mode.Both
  said : AreSaid r.said (declared_by r.lines)
  known : AllByRecursion (λ (l : NumberedLine). NamesKnown (ids_of (declared_by r.lines)) l.line) r.lines
  rise : Rise (numbers r.lines)
  below : AllByRecursion (λ k. k < r.number + 1) (numbers r.lines)

all_known : (es fs : List (ℕ × Declared)) → ((id : ℕ) → is_among (ids_of es) id ≡ true → is_among (ids_of fs) id ≡ true) → (ls : List NumberedLine)
    → AllByRecursion (λ (l : NumberedLine). NamesKnown (ids_of es) l.line) ls → AllByRecursion (λ (l : NumberedLine). NamesKnown (ids_of fs) l.line) ls
all_known es fs more [] all = tt
all_known es fs more (l ∷ ls) all = (known_more es fs more l.line all.0, all_known es fs more ls all.1)

each_one : {A : Type 0} (P : A → Type 0) (xs : List A) (x : A) → AllByRecursion P xs → P x → AllByRecursion P (xs ++ x ∷ [])
each_one P [] x all own = (own, tt)
each_one P (y ∷ xs) x all own = (all.0, each_one P xs x all.1 own)

skipped_read : (r : Reading) (size : ℕ) → IsRead r → IsRead (skipping r size)
skipped_read r size read =
    record { both = read.both; said = read.said; known = read.known; rise = read.rise; below = all_up (r.number + 1) (r.number + 1 + 1) (numbers r.lines) (omega arith) read.below }

line_read : (r : Reading) (size : ℕ) (found : Line) → IsPlaced r.said found → IsRead r → IsRead (reading r size found)
line_read r size found placed read =
    let own : NumberedLine = record { number = r.number + 1; line = found } in
    let es : List (ℕ × Declared) = declared_by r.lines in
    let fs : List (ℕ × Declared) = declaring es found in
    let same : declared_by (r.lines ++ own ∷ []) ≡ fs = declared_one r.lines [] own in
    let more : (id : ℕ) → is_among (ids_of es) id ≡ true → is_among (ids_of fs) id ≡ true = more_ids es found in
    let last : NamesKnown (ids_of fs) found = known_more es fs more found (line_known r.said es found read.both placed read.said) in
    let next : numbers (r.lines ++ own ∷ []) ≡ numbers r.lines ++ (r.number + 1) ∷ [] = numbers_one r.lines own in
    record {
      both = line_mode r.said found ∙ read.both;
      said = subst (AreSaid (with_line r.said found)) (sym same) (line_said r.said es found read.both placed read.said);
      known = subst (λ (xs : List (ℕ × Declared)). AllByRecursion (λ (l : NumberedLine). NamesKnown (ids_of xs) l.line) (r.lines ++ own ∷ [])) (sym same)
          (each_one (λ (l : NumberedLine). NamesKnown (ids_of fs) l.line) r.lines own (all_known es fs more r.lines read.known) last);
      rise = subst Rise (sym next) (rise_one (numbers r.lines) (r.number + 1) read.below read.rise);
      below = subst (AllByRecursion (λ k. k < r.number + 1 + 1)) (sym next)
          (each_one (λ k. k < r.number + 1 + 1) (numbers r.lines) (r.number + 1) (all_up (r.number + 1) (r.number + 1 + 1) (numbers r.lines) (omega arith) read.below) (omega arith));
    }

-- ---- a script

held_ids : (device : ℕ) (first : Names × Option (List ℕ)) (es : List (ℕ × Declared)) → ids_of (holding_at es device first) ≡ ids_of es
held_ids device first [] = refl
held_ids device first (e ∷ es) = ap (λ (ks : List ℕ). e.0 ∷ ks) (held_ids device first es)

furnished_ids : (es : List (ℕ × Declared)) (l : Line) → ids_of (furnishing es l) ≡ ids_of es
unfolding furnishing
furnished_ids es (line.Folder device path) = held_ids device (path, None) es
furnished_ids es (line.File device path bytes) = held_ids device (path, Some bytes) es
furnished_ids es (line.Fill device path len byte) = held_ids device (path, Some (replicate len byte)) es
furnished_ids es l = refl

all_furnished : (ls : List Line) (es : List (ℕ × Declared)) → ids_of (fold furnishing es ls) ≡ ids_of es
all_furnished [] es = refl
all_furnished (l ∷ ls) es = all_furnished ls (furnishing es l) ∙ furnished_ids es l

start_rises : Rise []
unfolding IsStrictlySortedBy
start_rises = tt

pub scripts_ordered : (text : List ℕ) (script : Script) → script_of mode.Both text ≡ Ok script
    → AreOrderedLines (map (λ (e : ℕ × Declared). e.0) (declared_devices (map (λ (l : NumberedLine). l.line) script.lines))) script.lines
scripts_ordered text script is =
    let start : IsRead (reading_at_start mode.Both) = record { both = refl; said = λ id (own : false ≡ true). absurd cc; known = tt; rise = start_rises; below = tt } in
    let read = script_keeps IsRead skipped_read line_read mode.Both text script start is in
    let lines : List NumberedLine = read.0.lines in
    let same : ids_of (declared_devices (map (λ (l : NumberedLine). l.line) lines)) ≡ ids_of (declared_by lines) = all_furnished (map (λ (l : NumberedLine). l.line) lines) (declared_by lines) in
    subst (λ (ls : List NumberedLine). AreOrderedLines (map (λ (e : ℕ × Declared). e.0) (declared_devices (map (λ (l : NumberedLine). l.line) ls))) ls) read.2
    (record {
      rise = IsStrictlyIncreasing-from_sorted (numbers lines) read.1.rise;
      known = subst (λ (ids : List ℕ). AllByRecursion (λ (l : NumberedLine). NamesKnown ids l.line) lines) (sym same) read.1.known;
    })
