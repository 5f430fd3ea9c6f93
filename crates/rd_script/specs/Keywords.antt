-- The words that say which line a line is, and the modes that it stands in.
use Rattle.std.specs.Prelude.{ℕ, ◌∷◌, [], List, Bool, true, false, not, Option, Some, None, codes, bytes_eq, if◌then◌else◌}
use Rattle.rd_script.specs.declared.keyword.Mode.{Mode}
use Rattle.rd_script.specs.declared.keyword.Mode.TheVariants as mode
use Rattle.rd_script.specs.declared.keyword.Keyword.{Keyword}
use Rattle.rd_script.specs.declared.keyword.Keyword.TheVariants as keyword
use Rattle.rd_script.specs.declared.keyword.Verb.{Verb}
use Rattle.rd_script.specs.declared.keyword.Verb.TheVariants as verb
use Rattle.rd_script.specs.declared.keyword.ErrandWord.{ErrandWord}
use Rattle.rd_script.specs.declared.keyword.ErrandWord.TheVariants as errand
use Rattle.rd_script.specs.declared.keyword.NoticeWord.{NoticeWord}
use Rattle.rd_script.specs.declared.keyword.NoticeWord.TheVariants as notice
use Rattle.rd_script.specs.declared.keyword.Act.{Act}
use Rattle.rd_script.specs.declared.keyword.Act.TheVariants as act

-- the entry of a table of words at a word, if it is there
abbrev pub entry_at : {A : Type 0} → List (List ℕ × A) → List ℕ → Option A
entry_at [] word = None
entry_at (e ∷ es) word = if bytes_eq word e.0 then Some e.1 else entry_at es word

-- the words with which lines begin that no application issues
abbrev pub keywords : List (List ℕ × Keyword)
keywords =
    (codes "seed", keyword.Seed)
    ∷ (codes "clock", keyword.Clock)
    ∷ (codes "piece", keyword.Piece)
    ∷ (codes "workers", keyword.Workers)
    ∷ (codes "channels", keyword.Channels)
    ∷ (codes "devices", keyword.Devices)
    ∷ (codes "drive", keyword.Drive)
    ∷ (codes "drivefold", keyword.DriveFold)
    ∷ (codes "real", keyword.Real)
    ∷ (codes "folder", keyword.Folder)
    ∷ (codes "file", keyword.File)
    ∷ (codes "fill", keyword.Fill)
    ∷ (codes "printer", keyword.Printer)
    ∷ (codes "at", keyword.At)
    ∷ (codes "settle", keyword.Settle)
    ∷ (codes "remove", keyword.Remove)
    ∷ (codes "add", keyword.Add)
    ∷ (codes "do", keyword.Do)
    ∷ (codes "cache", keyword.Cache)
    ∷ (codes "drop", keyword.Drop)
    ∷ (codes "connect", keyword.Connect)
    ∷ []

-- what an application's line may do
abbrev pub verbs : List (List ℕ × Verb)
verbs =
    (codes "open", verb.Open)
    ∷ (codes "create", verb.Create)
    ∷ (codes "close", verb.Close)
    ∷ (codes "read", verb.Read)
    ∷ (codes "write", verb.Write)
    ∷ (codes "query", verb.Query)
    ∷ (codes "set", verb.Set)
    ∷ (codes "volume", verb.Volume)
    ∷ (codes "setvolume", verb.SetVolume)
    ∷ (codes "dir", verb.Dir)
    ∷ (codes "lock", verb.Lock)
    ∷ (codes "control", verb.Control)
    ∷ (codes "notify", verb.Notify)
    ∷ []

-- what a `do` line may ask for
abbrev pub errand_words : List (List ℕ × ErrandWord)
errand_words =
    (codes "issue", errand.Issue)
    ∷ (codes "send", errand.Send)
    ∷ (codes "read", errand.Read)
    ∷ (codes "take", errand.Take)
    ∷ (codes "apply", errand.Apply)
    ∷ (codes "collect", errand.Collect)
    ∷ (codes "answer", errand.Answer)
    ∷ (codes "back", errand.Back)
    ∷ []

-- what a `cache` line may tell
abbrev pub notice_words : List (List ℕ × NoticeWord)
notice_words =
    (codes "add", notice.Add)
    ∷ (codes "update", notice.Update)
    ∷ (codes "delete", notice.Delete)
    ∷ (codes "rename", notice.Rename)
    ∷ []

-- what an `at` line may do
abbrev pub acts : List (List ℕ × Act)
acts =
    (codes "remove", act.Remove)
    ∷ (codes "add", act.Add)
    ∷ (codes "drop", act.Drop)
    ∷ []

-- ---- modes

-- lines of both ends in one process
abbrev pub in_both : Mode → Bool
in_both mode.Both = true
in_both mode.Client = false
in_both mode.Host = false

-- lines that only a client has
abbrev pub in_client : Mode → Bool
in_client mode.Both = false
in_client mode.Client = true
in_client mode.Host = false

-- lines that only a host has
abbrev pub in_host : Mode → Bool
in_host mode.Both = false
in_host mode.Client = false
in_host mode.Host = true

-- whether there are such lines in a mode
abbrev pub stands_in : Keyword → Mode → Bool
stands_in keyword.Seed m = in_both m
stands_in keyword.Clock m = in_both m
stands_in keyword.Piece m = in_both m
stands_in keyword.Workers m = not (in_host m)
stands_in keyword.Channels m = in_client m
stands_in keyword.Devices m = in_host m
stands_in keyword.Drive m = not (in_host m)
stands_in keyword.DriveFold m = not (in_host m)
stands_in keyword.Real m = in_client m
stands_in keyword.Folder m = not (in_host m)
stands_in keyword.File m = not (in_host m)
stands_in keyword.Fill m = not (in_host m)
stands_in keyword.Printer m = not (in_host m)
stands_in keyword.At m = in_client m
stands_in keyword.Settle m = in_both m
stands_in keyword.Remove m = in_both m
stands_in keyword.Add m = in_both m
stands_in keyword.Do m = in_both m
stands_in keyword.Cache m = in_both m
stands_in keyword.Drop m = not (in_client m)
stands_in keyword.Connect m = not (in_client m)
