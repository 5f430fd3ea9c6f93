-- A script that was read declares what a session can begin with, and tells of printers what a message can say.
use Rattle.std.proofs.Common.{◌≡◌, ◌∙◌, refl, sym, ap, subst, arith, ℕ, ◌+◌, ◌≤◌, ◌<◌, Bool, true, false, cond, List, [], ◌∷◌, ◌++◌, length, Result, Ok, Err, ◌⊎◌, inl, inr}
use Rattle.std.specs.Prelude.{◌==◌, fold, not, nat_le, nat_lt}
use Rattle.std.specs.BTreeMap.{insert_entry}
use Rattle.std.specs.List.{AllByRecursion, slice_split}
use Rattle.std.specs.Ordering.{match_ordering, nat_cmp}
use Rattle.std.specs.declared.cmp.Ordering.{Ordering}
use Rattle.std.specs.declared.cmp.Ordering.TheVariants.{Less, Equal, Greater}
use Rattle.std.specs.Result.{result_unwrap_or}
use Rattle.std.proofs.lemmas.Bool.{and_parts, leb-true}
use Rattle.std.proofs.lemmas.List.{length-append, length-map}
use Rattle.rd_dirinfo.specs.Paths.{Names}
use Rattle.rd_script.specs.declared.keyword.Mode.{Mode}
use Rattle.rd_script.specs.declared.known.DeviceKind.{DeviceKind}
use Rattle.rd_script.specs.declared.line.Line.{Line}
use Rattle.rd_script.specs.declared.line.Line.TheVariants as line
use Rattle.rd_script.specs.Said.{Said, SaidDevice, max_script_devices, root_node, with_device_changed, with_line, with_node_at, with_said_device, with_said_node}
use Rattle.rd_script.specs.declared.line.NumberedLine.{NumberedLine}
use Rattle.rd_script.specs.declared.script.Script.{Script}
use Rattle.rd_script.specs.declared.why.LineWhy.{LineWhy}
use Rattle.rd_script.specs.declared.why.LineWhy.TheVariants as why
use Rattle.rd_script.specs.Script.{BadLine, Reading, TextLine, bad_line, fits, go_on, is_skipped, line_of, lines_from, lines_of, max_bytes, max_lines, read_all, reading, reading_at_start, script_of, script_read, skipping, step, taken}
use Rattle.rd_declared.specs.Devices.{Declared, declaring, furnishing}
use Rattle.rd_declared.specs.Declaring.{AreDeclarable, AreDeclared, AreNotable, IsDeclarable, IsNotable, bare_lines}
use Rattle.rd_declared.proofs.LineFacts.{AddsFew, IsSaid, line_good}

-- ---- how many devices

inserted_count : (k : ℕ) (d : Declared) (es : List (ℕ × Declared)) → length (insert_entry nat_cmp es k d) ≤ length es + 1
inserted_count k d [] = omega arith
inserted_count k d (e ∷ es) = by (inserted_count k d es) (nat_cmp k e.0)
  where
    by : length (insert_entry nat_cmp es k d) ≤ length es + 1 → (r : Ordering) → length (match_ordering r ((k, d) ∷ e ∷ es) ((e.0, d) ∷ es) (e ∷ insert_entry nat_cmp es k d)) ≤ length (e ∷ es) + 1
    by rest Less = omega arith
    by rest Equal = omega arith
    by rest Greater = omega (arith, rest)

changed_count : (id : ℕ) (change : SaidDevice → SaidDevice) (ds : List SaidDevice) → length (with_device_changed id change ds) ≡ length ds
changed_count id change [] = refl
changed_count id change (d ∷ ds) = by (changed_count id change ds) (d.id == id)
  where
    by : length (with_device_changed id change ds) ≡ length ds → (b : Bool) → length (cond b (change d ∷ ds) (d ∷ with_device_changed id change ds)) ≡ length (d ∷ ds)
    by rest true = refl
    by rest false = omega (arith, rest)

-- no more devices are declared than were said, and not too many
abbrev AreFew : List (ℕ × Declared) → Said → Type 0
AreFew es said = (length es ≤ length said.devices) × (length said.devices ≤ max_script_devices)

more_few : (es : List (ℕ × Declared)) (said : Said) (id : ℕ) (d : Declared) (k : DeviceKind) → length said.devices < max_script_devices → AreFew es said
    → AreFew (insert_entry nat_cmp es id d) (with_said_device said id k)
more_few es said id d k less few =
    let long : length (with_said_device said id k).devices ≡ length said.devices + 1 = length-append said.devices (record { id = id; kind = k; nodes = root_node } ∷ []) in
    (omega (arith, few.0, long, inserted_count id d es), omega (arith, long, less))

real_few : (es : List (ℕ × Declared)) (said : Said) (id : ℕ) (k : DeviceKind) → length said.devices < max_script_devices → AreFew es said → AreFew es (with_said_device said id k)
real_few es said id k less few =
    let long : length (with_said_device said id k).devices ≡ length said.devices + 1 = length-append said.devices (record { id = id; kind = k; nodes = root_node } ∷ []) in
    (omega (arith, few.0, long), omega (arith, long, less))

node_few : (es : List (ℕ × Declared)) (said : Said) (id : ℕ) (path : Names) (folder : Bool) → AreFew es said → AreFew es (with_node_at said id path folder)
node_few es said id path folder few =
    let long : length (with_node_at said id path folder).devices ≡ length said.devices = changed_count id (with_said_node path folder) said.devices in
    (omega (arith, few.0, long), omega (arith, few.1, long))

line_few : (es : List (ℕ × Declared)) (said : Said) (l : Line) → AddsFew (length said.devices) l → AreFew es said → AreFew (declaring es l) (with_line said l)
unfolding declaring AddsFew
line_few es said (line.Drive device name) less few = more_few es said device _ _ less few
line_few es said (line.DriveFold device name) less few = more_few es said device _ _ less few
line_few es said (line.Real device name place) less few = real_few es said device _ less few
line_few es said (line.Printer device name driver printer) less few = more_few es said device _ _ less few
line_few es said (line.Folder device path) less few = node_few es said device path true few
line_few es said (line.File device path bytes) less few = node_few es said device path false few
line_few es said (line.Fill device path len byte) less few = node_few es said device path false few
line_few es said (line.AtRemove channel requests device) less few = few
line_few es said (line.AtAdd channel requests device) less few = few
line_few es said (line.AtDrop channel requests) less few = few
line_few es said _ less few = few

furnished_count : (es : List (ℕ × Declared)) (l : Line) → length (furnishing es l) ≡ length es
unfolding furnishing
furnished_count es (line.Folder device path) = length-map es _
furnished_count es (line.File device path bytes) = length-map es _
furnished_count es (line.Fill device path len byte) = length-map es _
furnished_count es _ = refl

all_furnished_count : (lines : List NumberedLine) (es : List (ℕ × Declared)) → length (fold furnishing es (bare_lines lines)) ≡ length es
all_furnished_count [] es = refl
all_furnished_count (l ∷ lines) es = all_furnished_count lines (furnishing es l.line) ∙ furnished_count es l.line

declared_more : (lines : List NumberedLine) (es : List (ℕ × Declared)) (l : NumberedLine) → fold declaring es (bare_lines (lines ++ l ∷ [])) ≡ declaring (fold declaring es (bare_lines lines)) l.line
declared_more [] es l = refl
declared_more (x ∷ lines) es l = declared_more lines (declaring es x.line) l

-- ---- one line
-- how one more line was read
record Stepped (r : Reading) (l : TextLine) (new : Reading) : Type 0 where
  within : fits r l.size ≡ true
  read : (new ≡ skipping r l.size) ⊎ ((found : Line) × (line_of r.said l.text ≡ Ok found) × (new ≡ reading r l.size found))

ok_reading : (x y : Reading) → ◌≡◌ {A = Result Reading BadLine} (Ok x) (Ok y) → x ≡ y
ok_reading x y e = ap (λ (r : Result Reading BadLine). result_unwrap_or r x) e

stepped : (r : Reading) (l : TextLine) (new : Reading) → step r l ≡ Ok new → Stepped r l new
unfolding step
stepped r l new is = by (fits r l.size) (is_skipped l.text) (line_of r.said l.text) refl refl is
  where
    by : (within skipped : Bool) (found : Result Line LineWhy) → fits r l.size ≡ within → line_of r.said l.text ≡ found
        → cond (not within) (Err (bad_line r why.Many)) (cond skipped (Ok (skipping r l.size)) (taken r l.size found)) ≡ Ok new → Stepped r l new
    by false skipped found e f h = absurd cc
    by true true found e f h = record { within = e; read = inl (sym (ok_reading _ _ h)) }
    by true false (Ok found) e f h = record { within = e; read = inr (found, f, sym (ok_reading _ _ h)) }
    by true false (Err cause) e f h = absurd cc

-- what is within the limits
within_bytes : (r : Reading) (size : ℕ) → fits r size ≡ true → r.bytes + size ≤ max_bytes
within_bytes r size within = leb-true (r.bytes + size) max_bytes (and_parts (nat_lt r.number max_lines) (nat_le (r.bytes + size) max_bytes) within).1

-- a success is of a success before it
gone_on : (next : Reading → Result Reading BadLine) (first : Result Reading BadLine) (new : Reading) → go_on next first ≡ Ok new → (middle : Reading) × (first ≡ Ok middle) × (next middle ≡ Ok new)
gone_on next (Ok middle) new is = (middle, refl, is)
gone_on next (Err bad) new is = absurd cc

-- ---- all lines
-- each line is no longer than it counts
abbrev AreSized : List TextLine → Type 0
AreSized lines = AllByRecursion (λ (l : TextLine). length l.text ≤ l.size) lines

sized : (parts : List (List ℕ)) → AreSized (lines_from parts)
sized [] = tt
sized (l ∷ []) = by (length l == 0)
  where
    by : (b : Bool) → AreSized (cond b [] (record { text = l; size = length l } ∷ []))
    by true = tt
    by false = (omega arith, tt)
sized (l ∷ m ∷ ls) = (omega arith, sized (m ∷ ls))

-- What was read so far is within the limits, declares few devices, and tells what is short.
record IsRead (r : Reading) : Type 0 where
  each : AreDeclarable r.lines
  few : AreFew (fold declaring [] (bare_lines r.lines)) r.said
  short : AreNotable r.lines

each_more : (P : NumberedLine → Type 0) (lines : List NumberedLine) (l : NumberedLine) → AllByRecursion P lines → P l → AllByRecursion P (lines ++ l ∷ [])
each_more P [] l all own = (own, tt)
each_more P (x ∷ lines) l all own = (all.0, each_more P lines l all.1 own)

read_step : (r new : Reading) (l : TextLine) → IsRead r → length l.text ≤ l.size → step r l ≡ Ok new → IsRead new
read_step r new l known size is = by s.read
  where
    s : Stepped r l new
    s = stepped r l new is

    by : (new ≡ skipping r l.size) ⊎ ((found : Line) × (line_of r.said l.text ≡ Ok found) × (new ≡ reading r l.size found)) → IsRead new
    by (inl same) = subst IsRead (sym same) (record { each = known.each; few = known.few; short = known.short })
    by (inr (found, at, same)) =
        let own : NumberedLine = record { number = r.number + 1; line = found } in
        let short = within_bytes r l.size s.within in
        let said : IsSaid r.said found = line_good r.said l.text found (omega (arith, size, short)) at in
        subst IsRead (sym same)
        (record {
          each = each_more (λ (x : NumberedLine). IsDeclarable x.line) r.lines own known.each said.0;
          few = subst (λ (es : List (ℕ × Declared)). AreFew es (with_line r.said found)) (sym (declared_more r.lines [] own)) (line_few (fold declaring [] (bare_lines r.lines)) r.said found said.1 known.few);
          short = each_more (λ (x : NumberedLine). IsNotable x.line) r.lines own known.short said.2;
        })

read_rest : (lines : List TextLine) (r new : Reading) → IsRead r → AreSized lines → read_all lines r ≡ Ok new → IsRead new
read_rest [] r new known sizes is = subst IsRead (ok_reading r new is) known
read_rest (l ∷ lines) r new known sizes is =
    let on = gone_on (read_all lines) (step r l) new is in
    read_rest lines on.0 new (read_step r on.0 l known sizes.0 on.1) sizes.1 on.2

script_read_of : (m : Mode) (r : Result Reading BadLine) (script : Script) → script_read m r ≡ Ok script → (last : Reading) × (r ≡ Ok last) × (last.lines ≡ script.lines)
script_read_of m (Ok last) script is = (last, refl, ap (λ (r : Result Script BadLine). (result_unwrap_or r script).lines) is)
script_read_of m (Err bad) script is = absurd cc

-- all that was read of a script
whole_read : (m : Mode) (text : List ℕ) (script : Script) → script_of m text ≡ Ok script → (last : Reading) × IsRead last × (last.lines ≡ script.lines)
whole_read m text script is =
    let read = script_read_of m (read_all (lines_of text) (reading_at_start m)) script is in
    let start : IsRead (reading_at_start m) = record { each = tt; few = (omega arith, omega arith); short = tt } in
    (read.0, read_rest (lines_of text) (reading_at_start m) read.0 start (sized (slice_split (λ b. b == 0x0a) text)) read.1, read.2)

-- The lines of a script that some text is are within the limits, and declare few devices.
pub scripts_are_declared : (m : Mode) (text : List ℕ) (script : Script) → script_of m text ≡ Ok script → AreDeclared script.lines
scripts_are_declared m text script is =
    let read = whole_read m text script is in
    let known = read.1 in
    let count = all_furnished_count read.0.lines (fold declaring [] (bare_lines read.0.lines)) in
    subst AreDeclared read.2 (record { each = known.each; few = omega (arith, count, known.few.0, known.few.1) })

-- What they tell of printers is short.
pub scripts_are_notable : (m : Mode) (text : List ℕ) (script : Script) → script_of m text ≡ Ok script → AreNotable script.lines
scripts_are_notable m text script is =
    let read = whole_read m text script is in
    subst AreNotable read.2 read.1.short
