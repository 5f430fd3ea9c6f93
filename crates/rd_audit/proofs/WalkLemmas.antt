-- The journals, as far as they were gone over.
use Rattle.std.proofs.Common.{◌≡◌, ℕ, ◌+◌, ◌≤◌, Bool, true, false, List, [], ◌∷◌, All, Option, None, Some, Result, Ok, Err, length, refl, sym, ap, subst, ◌∙◌, arith}
use Rattle.std.specs.Prelude.{◌==◌, if◌then◌else◌}
use Rattle.std.specs.List.{AllByRecursion}
use Rattle.rd_base.specs.declared.journal.Item.{Item}
use Rattle.rd_declared.specs.Declaring.{IsOpenable}
use Rattle.rd_declared.specs.Devices.{Declared}
use Rattle.rd_audit_file.specs.declared.line.JournalLine.{JournalLine}
use Rattle.rd_audit_file.specs.declared.line.JournalLine.TheVariants.{Device, Entry}
use Rattle.rd_audit_file.specs.Lines.{BeginsWithLine, BeginsWithNoLine, LineFits}
use Rattle.rd_audit_file.specs.Journals.{lines_text}
use Rattle.rd_recorded.specs.Channels.{HeardChannel}
use Rattle.rd_audit.specs.declared.journals.Walk.{Walk}
use Rattle.rd_audit.specs.declared.replay.Replay.{Replay}
use Rattle.rd_audit.specs.declared.verdict.Verdict.{Verdict}
use Rattle.rd_audit.specs.declared.verdict.Verdict.TheVariants as verdict
use Rattle.rd_audit.specs.Kept.{ComesOutAs, ReplaysAs, KeepsAccount, KeepsCourses, counted_in}
use Rattle.rd_audit.specs.Replayed.{Account, DeviceSoFar, account_after, account_new, agrees, course_after, replayed, standing_after, standing_new}
use Rattle.rd_audit.specs.Walked.{BeginsNext, WalksAt, HasNoneWaiting, LinePlace, StandsAs, first_place, found_by, place_after, place_begun, place_entered}
use Rattle.rd_audit.proofs.LineLemmas.{line_less, one_line}

-- ---- the line of a device

-- the first device that is left begins
pub first_begins : (old new : List (ℕ × Declared)) (id : ℕ) (device : Declared) (replay : Replay) → old ≡ (id, device) ∷ new → AllByRecursion HasNoneWaiting old
    → (HasNoneWaiting (id, device) → ReplaysAs replay (standing_new (id, device))) → BeginsNext old new (Some replay)
first_begins [] new id device replay is quiet stands = absurd cc
first_begins (d ∷ devices) new id device replay is quiet stands =
    let first : (id, device) ≡ d = cc in
    (cc, (replay, refl, subst (λ (e : ℕ × Declared). ReplaysAs replay (standing_new e)) first (stands (subst HasNoneWaiting (sym first) quiet.0))))

pub quiet_at : (channels : List HeardChannel) (p : LinePlace) (most : ℕ) (walk : Walk) → WalksAt channels p most walk → AllByRecursion HasNoneWaiting walk.devices.entries
quiet_at channels p most walk s = subst (λ ds. AllByRecursion HasNoneWaiting ds) (sym s.devices) s.quiet

pub begun_at : (channels : List HeardChannel) (devices : List (ℕ × Declared)) (standing : Option DeviceSoFar) (account : Account) (most : ℕ) (old new : Walk)
    → WalksAt channels (record { devices = devices; standing = standing; account = account }) most old
    → BeginsNext old.devices.entries new.devices.entries new.replay → new.replayed ≡ old.replayed
    → WalksAt channels (place_begun (record { devices = devices; standing = standing; account = account })) most new
begun_at channels [] standing account most old new s begins same =
    let b = subst (λ ds. BeginsNext ds new.devices.entries new.replay) s.devices begins in record {
      devices = b.0;
      quiet = tt;
      stands = subst (λ r. StandsAs most r None) (sym b.1) refl;
      keeps = subst (λ k. KeepsAccount channels account k) (sym same) s.keeps;
    }
begun_at channels (d ∷ devices) standing account most old new s begins same =
    let b = subst (λ ds. BeginsNext ds new.devices.entries new.replay) s.devices begins in record {
      devices = b.0;
      quiet = s.quiet.1;
      stands = subst (λ r. StandsAs most r (Some (standing_new d))) (sym (b.1).1) (standing_new d, refl, (b.1).2, omega arith);
      keeps = subst (λ k. KeepsAccount channels account k) (sym same) s.keeps;
    }

-- ---- an entry

-- no device's journal has begun
pub none_found : (channels : List HeardChannel) (standing : Option DeviceSoFar) (most : ℕ) (entry : Item) (replay : Option Replay) → replay ≡ None → StandsAs most replay standing → found_by channels standing (Entry entry) ≡ None
none_found channels standing most entry None is stands = subst (λ (s : Option DeviceSoFar). found_by channels s (Entry entry) ≡ None) (sym stands) refl
none_found channels standing most entry (Some r) is stands = absurd cc

pub none_entered : (channels : List HeardChannel) (p : LinePlace) (most : ℕ) (entry : Item) (walk : Walk) → walk.replay ≡ None → WalksAt channels p most walk → WalksAt channels (place_entered channels p entry) (most + 1) walk
none_entered channels p most entry walk none s =
    let stands : p.standing ≡ None = subst (λ (r : Option Replay). StandsAs most r p.standing) none s.stands in
    go p.standing stands s
  where
    go : (standing : Option DeviceSoFar) → standing ≡ None → WalksAt channels (record { devices = p.devices; standing = standing; account = p.account }) most walk
        → WalksAt channels (place_entered channels (record { devices = p.devices; standing = standing; account = p.account }) entry) (most + 1) walk
    go None is at = record { devices = at.devices; quiet = at.quiet; stands = subst (λ (r : Option Replay). StandsAs (most + 1) r None) (sym none) refl; keeps = at.keeps }
    go (Some d) is at = absurd cc

-- the device whose journal is gone over
pub standing_of : (channels : List HeardChannel) (p : LinePlace) (most : ℕ) (walk : Walk) (replay : Replay) → walk.replay ≡ Some replay → WalksAt channels p most walk
    → (d : DeviceSoFar) × (p.standing ≡ Some d) × ReplaysAs replay d × (d.count ≤ most)
standing_of channels p most walk replay is s = subst (λ (r : Option Replay). StandsAs most r p.standing) is s.stands

-- an entry that doesn't agree is found
pub mark_found : (channels : List HeardChannel) (standing : Option DeviceSoFar) (d : DeviceSoFar) (entry : Item) (id count : ℕ) → standing ≡ Some d → agrees channels d entry ≡ false → id ≡ d.device → count ≡ d.count + 1
    → Some (verdict.Mark id count) ≡ found_by channels standing (Entry entry)
mark_found channels standing d entry id count is not of_it counted =
    subst (λ (s : Option DeviceSoFar). Some (verdict.Mark id count) ≡ found_by channels s (Entry entry)) (sym is)
    (ap (λ (i : ℕ). Some (verdict.Mark i count)) of_it ∙ ap (λ (n : ℕ). Some (verdict.Mark d.device n)) counted
    ∙ sym (ap (λ (b : Bool). if b then None else Some (verdict.Mark d.device (d.count + 1))) not))

-- one that agrees isn't
pub agreed_found : (channels : List HeardChannel) (standing : Option DeviceSoFar) (d : DeviceSoFar) (entry : Item) → standing ≡ Some d → agrees channels d entry ≡ true → None ≡ found_by channels standing (Entry entry)
agreed_found channels standing d entry is agreed =
    subst (λ (s : Option DeviceSoFar). None ≡ found_by channels s (Entry entry)) (sym is) (sym (ap (λ (b : Bool). if b then None else Some (verdict.Mark d.device (d.count + 1))) agreed))

pub some_entered : (channels : List HeardChannel) (p : LinePlace) (d : DeviceSoFar) (most : ℕ) (entry : Item) (old new : Walk) (replay : Replay) → WalksAt channels p most old → p.standing ≡ Some d → d.count ≤ most
    → new.devices ≡ old.devices → new.replay ≡ Some replay → ReplaysAs replay (standing_after channels d entry)
    → KeepsCourses channels (λ key. course_after channels d entry key (p.account.courses key)) new.replayed.courses
    → ((device : ℕ) → counted_in new.replayed device ≡ (if d.device == device then d.count + 1 else counted_in old.replayed device))
    → WalksAt channels (place_entered channels p entry) (most + 1) new
some_entered channels p d most entry old new replay s is few same begun stands keeps counts =
    let at : WalksAt channels (place_entered channels (record { devices = p.devices; standing = Some d; account = p.account }) entry) (most + 1) new = record {
      devices = ap (λ ds. ds.entries) same ∙ s.devices;
      quiet = s.quiet;
      stands = subst (λ (r : Option Replay). StandsAs (most + 1) r (Some (standing_after channels d entry))) (sym begun) (standing_after channels d entry, refl, stands, omega (arith, few));
      keeps = record { courses = keeps; counts = λ device. counts device ∙ ap (λ (n : ℕ). if d.device == device then d.count + 1 else n) (s.keeps.counts device) };
    } in
    subst (λ (x : Option DeviceSoFar). WalksAt channels (place_entered channels (record { devices = p.devices; standing = x; account = p.account }) entry) (most + 1) new) (sym is) at

-- ---- line by line

-- what comes of lines is what was found of the first of them, or what comes of the others behind it
abbrev pub line_then : List HeardChannel → LinePlace → JournalLine → List JournalLine → Option Verdict → Result Account Verdict
line_then channels p line lines (Some v) = Err v
line_then channels p line lines None = let q = place_after channels p line in replayed channels q.devices q.standing q.account lines

pub replayed_line : (channels : List HeardChannel) (devices : List (ℕ × Declared)) (standing : Option DeviceSoFar) (account : Account) (line : JournalLine) (lines : List JournalLine)
    → replayed channels devices standing account (line ∷ lines) ≡ line_then channels (record { devices = devices; standing = standing; account = account }) line lines (found_by channels standing line)
replayed_line channels [] standing account (Device id) lines = refl
replayed_line channels (d ∷ devices) standing account (Device id) lines = refl
replayed_line channels [] None account (Entry entry) lines = refl
replayed_line channels (d ∷ devices) None account (Entry entry) lines = refl
replayed_line channels [] (Some d) account (Entry entry) lines = go (agrees channels d entry)
  where
    go : (b : Bool) → (if b then replayed channels [] (Some (standing_after channels d entry)) (account_after channels d entry account) lines else Err (verdict.Mark d.device (d.count + 1)))
        ≡ line_then channels (record { devices = []; standing = Some d; account = account }) (Entry entry) lines (if b then None else Some (verdict.Mark d.device (d.count + 1)))
    go true = refl
    go false = refl
replayed_line channels (e ∷ devices) (Some d) account (Entry entry) lines = go (agrees channels d entry)
  where
    go : (b : Bool) → (if b then replayed channels (e ∷ devices) (Some (standing_after channels d entry)) (account_after channels d entry account) lines else Err (verdict.Mark d.device (d.count + 1)))
        ≡ line_then channels (record { devices = e ∷ devices; standing = Some d; account = account }) (Entry entry) lines (if b then None else Some (verdict.Mark d.device (d.count + 1)))
    go true = refl
    go false = refl

-- Of a text of lines all up to where this rest begins were gone over.
pub record IsWalkedTo (channels : List HeardChannel) (devices : List (ℕ × Declared)) (text : List ℕ) (walk : Walk) (left : List ℕ) : Type 0 where
  pub place : LinePlace
  pub most : ℕ
  pub at : WalksAt channels place most walk
  pub few : most + length left ≤ length text
  pub of_lines : (lines : List JournalLine) → text ≡ lines_text lines → All LineFits lines
      → (rest : List JournalLine) × (left ≡ lines_text rest) × All LineFits rest × (replayed channels devices None account_new lines ≡ replayed channels place.devices place.standing place.account rest)

pub walked_none : (channels : List HeardChannel) (devices : List (ℕ × Declared)) (text : List ℕ) (walk : Walk) → WalksAt channels (first_place devices) 0 walk → IsWalkedTo channels devices text walk text
walked_none channels devices text walk s = record { place = first_place devices; most = 0; at = s; few = omega arith; of_lines = λ lines is fit. (lines, is, fit, refl) }

-- what comes of the lines, where this line is the next
pub line_walked : (channels : List HeardChannel) (devices : List (ℕ × Declared)) (text : List ℕ) (walk : Walk) (left : List ℕ) (line : JournalLine) (after : List ℕ) (s : IsWalkedTo channels devices text walk left) → BeginsWithLine left line after
    → (lines : List JournalLine) → text ≡ lines_text lines → All LineFits lines
    → (others : List JournalLine) × (after ≡ lines_text others) × All LineFits others
    × (replayed channels devices None account_new lines ≡ line_then channels s.place line others (found_by channels s.place.standing line))
line_walked channels devices text walk left line after s begins lines is fit =
    let o = s.of_lines lines is fit in
    let one = one_line left line after o.0 begins o.1 o.2 in
    (one.0, one.2, one.3, o.3 ∙ ap (replayed channels s.place.devices s.place.standing s.place.account) one.1 ∙ replayed_line channels s.place.devices s.place.standing s.place.account line one.0)

-- a line of which nothing was found
pub walked_line : (channels : List HeardChannel) (devices : List (ℕ × Declared)) (text : List ℕ) (walk new : Walk) (most : ℕ) (left : List ℕ) (line : JournalLine) (after : List ℕ) (s : IsWalkedTo channels devices text walk left) → BeginsWithLine left line after
    → most ≤ s.most + 1 → found_by channels s.place.standing line ≡ None → WalksAt channels (place_after channels s.place line) most new → IsWalkedTo channels devices text new after
walked_line channels devices text walk new most left line after s begins few none at = record {
  place = place_after channels s.place line;
  most = most;
  at = at;
  few = omega (arith, s.few, few, line_less left line after begins);
  of_lines = λ lines is fit.
      let o = line_walked channels devices text walk left line after s begins lines is fit in
      (o.0, o.1, o.2, o.3 ∙ ap (line_then channels s.place line o.0) none);
}

-- a line of which a mark was found
pub walked_found : (channels : List HeardChannel) (devices : List (ℕ × Declared)) (text : List ℕ) (walk : Walk) (left : List ℕ) (line : JournalLine) (after : List ℕ) (v : Verdict) (s : IsWalkedTo channels devices text walk left) → BeginsWithLine left line after
    → Some v ≡ found_by channels s.place.standing line → (lines : List JournalLine) → text ≡ lines_text lines → All LineFits lines → ComesOutAs channels (replayed channels devices None account_new lines) (Err v)
walked_found channels devices text walk left line after v s begins found lines is fit =
    let o = line_walked channels devices text walk left line after s begins lines is fit in
    subst (λ (r : Result Account Verdict). ComesOutAs channels r (Err v)) (sym (o.3 ∙ ap (line_then channels s.place line o.0) (sym found))) refl

-- no line is left
pub walked_all : (channels : List HeardChannel) (devices : List (ℕ × Declared)) (text : List ℕ) (walk : Walk) (left : List ℕ) (s : IsWalkedTo channels devices text walk left) → BeginsWithNoLine left
    → (lines : List JournalLine) → text ≡ lines_text lines → All LineFits lines → ComesOutAs channels (replayed channels devices None account_new lines) (Ok walk.replayed)
walked_all channels devices text walk left s none lines is fit =
    let o = s.of_lines lines is fit in
    subst (λ (r : Result Account Verdict). ComesOutAs channels r (Ok walk.replayed)) (sym (o.3 ∙ go o.0 o.1 o.2)) (walk.replayed, refl, s.at.keeps)
  where
    go : (rest : List JournalLine) → left ≡ lines_text rest → All LineFits rest → replayed channels s.place.devices s.place.standing s.place.account rest ≡ Ok s.place.account
    go [] parts fits = refl
    go (line ∷ others) parts fits = absurd (none line (lines_text others) (record { parts = parts; fits = fits 0 line (omega arith) }))

-- what is found is something
pub some_none : (v : Verdict) → Some v ≡ None → ⊥
some_none v is = cc is

-- in the devices of a script no request waits
pub quiet_devices : (devices : List (ℕ × Declared)) → AllByRecursion IsOpenable devices → AllByRecursion HasNoneWaiting devices
quiet_devices [] openable = tt
quiet_devices (d ∷ devices) openable = ((openable.0).quiet, quiet_devices devices openable.1)
