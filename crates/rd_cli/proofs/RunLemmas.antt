-- How a run ends whose words came to no command, or to a command of two words.
use Rattle.std.proofs.Common.{◌≡◌, ◌∙◌, ℕ, List, [], ◌∷◌, length, get_or, refl, sym, ap, subst, inl, inr, arith}
use Rattle.std.specs.Prelude.{codes, decimal}
use Rattle.std.proofs.lemmas.Fmt.{decimal_injective}
use Rattle.rd_base.specs.History.{History}
use Rattle.rd_script.specs.declared.keyword.Mode.TheVariants as mode
use Rattle.rd_cli.specs.Outside.{Linked, Outside, Sharing, Stream}
use Rattle.rd_cli.specs.Headline.{audit_printed, report_printed}
use Rattle.rd_cli.specs.Shapes.{HasShape, IsAt, StopsForWords}
use Rattle.rd_cli.specs.Stops.{StopsWith}
use Rattle.rd_cli.specs.Client.{IsClientSession, IsEndOfClient, IsFolderUnopened, ServedNothing}
use Rattle.rd_cli.specs.Host.{IsEndOfHost, IsHostSession}
use Rattle.rd_cli.specs.Ends.{EndsCommand, IsEnd}
use Rattle.rd_cli.specs.declared.words.Command.{Command}
use Rattle.rd_cli.specs.declared.words.Command.TheVariants as command
use Rattle.rd_cli.specs.declared.stop.Stop.{Stop}
use Rattle.rd_cli.specs.declared.stop.Stop.TheVariants as stop
use Rattle.rd_cli.proofs.PlayingLemmas.{starved_end, starved_unplayed, with_output}
use Rattle.rd_cli.proofs.AuditingLemmas as auditing
use Rattle.rd_cli.proofs.DecodingLemmas as decoding
use Rattle.rd_cli.proofs.LoadingLemmas as loading
use Rattle.rd_cli.proofs.ServingLemmas as serving

-- want of memory, before anything was touched, may end each command
starved : {S K R L D : Type 0} (before : Outside S K R) (output : Stream K) (linked : Linked L) (sharing : Sharing D) (books : List (ℕ × History)) (status : ℕ) → status ≡ 6 → output ≡ before.output → books ≡ [] → (c : Command)
    → EndsCommand c before (with_output before output) linked linked sharing sharing books status
starved before output linked sharing books status is silent unstored command.Both =
    (starved_end report_printed before (with_output before output) books status is (starved_unplayed before (with_output before output) books refl silent refl unstored), refl, refl)
starved before output linked sharing books status is silent unstored command.Trace =
    (starved_end audit_printed before (with_output before output) books status is (starved_unplayed before (with_output before output) books refl silent refl unstored), refl, refl)
starved before output linked sharing books status is silent unstored command.Decode =
    (decoding.starved_end before.input before.input before.output output status is (decoding.untouched before.input before.output output silent), refl, unstored, refl, refl)
starved before output linked sharing books status is silent unstored command.Audit =
    (auditing.starved_end before.input before.input before.output output status is refl silent, refl, unstored, refl, refl)
starved before output linked sharing books status is silent unstored (command.Load number) =
    (loading.starved_end number before.output output before.recording before.recording books status is silent (inl (refl, unstored)), refl, refl, refl)
starved before output linked sharing books status is silent unstored (command.Client path) = (
  serving.starved_end mode.Client (IsClientSession linked linked sharing sharing books) (ServedNothing linked linked sharing sharing books) (IsFolderUnopened linked linked sharing sharing books)
      before.input before.input before.output output status is
      (record { faultless = refl; unprinted = silent; session = inl (record { unlinked = refl; unshared = refl; unstored = unstored }) }),
  refl,
)
starved before output linked sharing books status is silent unstored (command.Host path) = (
  serving.starved_end mode.Host (IsHostSession linked linked) (linked ≡ linked) (λ script. ⊥) before.input before.input before.output output status is
      (record { faultless = refl; unprinted = silent; session = inl refl }),
  refl,
  unstored,
  refl,
)

-- How a run ends, from why its words came to no command and what was said of it.
pub no_command : {S K R L D : Type 0} (words : List (List ℕ)) (before : Outside S K R) (output : Stream K) (linked : Linked L) (sharing : Sharing D) (books : List (ℕ × History)) (s : Stop) (status : ℕ)
    → StopsForWords words s → books ≡ [] → StopsWith s before.output output status → IsEnd words before (with_output before output) linked linked sharing sharing books status
no_command words before output linked sharing books stop.Words status bad unstored said = record {
  refuses = λ none. record { says = said; unread = refl; unrecorded = refl; unlinked = refl; unshared = refl; unstored = unstored };
  runs = λ c shape. absurd (bad c shape);
}
no_command words before output linked sharing books stop.Memory status bad unstored said = record {
  refuses = λ none. record { says = inr (said.0, said.1); unread = refl; unrecorded = refl; unlinked = refl; unshared = refl; unstored = unstored };
  runs = λ c shape. starved before output linked sharing books status said.0 said.1 unstored c;
}
no_command words before output linked sharing books (stop.Line line cause) status bad unstored said = absurd bad
no_command words before output linked sharing books stop.Input status bad unstored said = absurd bad
no_command words before output linked sharing books stop.Output status bad unstored said = absurd bad
no_command words before output linked sharing books stop.Recording status bad unstored said = absurd bad
no_command words before output linked sharing books (stop.Fault fault) status bad unstored said = absurd bad
no_command words before output linked sharing books (stop.Channel channel at message why) status bad unstored said = absurd bad
no_command words before output linked sharing books stop.Link status bad unstored said = absurd bad
no_command words before output linked sharing books stop.Long status bad unstored said = absurd bad
no_command words before output linked sharing books stop.Folder status bad unstored said = absurd bad
no_command words before output linked sharing books (stop.No found) status bad unstored said = absurd bad

-- ---- two words

-- two words aren't one
one_word : (words : List (List ℕ)) (first second word : List ℕ) → words ≡ first ∷ second ∷ [] → words ≡ word ∷ [] → ⊥
one_word words first second word own is = let two : 2 ≡ 1 = ap (λ (ws : List (List ℕ)). length ws) (sym own ∙ is) in absurd (omega (arith, two))

-- two words have one first word, and so one first letter
not_both : (words : List (List ℕ)) (first other second its : List ℕ) → words ≡ first ∷ second ∷ [] → words ≡ other ∷ its ∷ [] → (get_or first 0 0 ≡ get_or other 0 0 → ⊥) → ⊥
not_both words first other second its own is apart = apart (ap (λ (ws : List (List ℕ)). get_or (get_or ws 0 []) 0 0) (sym own ∙ is))

-- so words of a load are no client, and no host
load_no_client : (words : List (List ℕ)) (number : ℕ) (path : List ℕ) → HasShape words (command.Load number) → IsAt (codes "client") words path → ⊥
load_no_client words number path own its = not_both words (codes "load") (codes "client") (decimal number) path own.0 its.0 (λ same. let letter : 108 ≡ 99 = same in absurd (omega (arith, letter)))

load_no_host : (words : List (List ℕ)) (number : ℕ) (path : List ℕ) → HasShape words (command.Load number) → IsAt (codes "host") words path → ⊥
load_no_host words number path own its = not_both words (codes "load") (codes "host") (decimal number) path own.0 its.0 (λ same. let letter : 108 ≡ 104 = same in absurd (omega (arith, letter)))

-- and words of a client are no host
client_no_host : (words : List (List ℕ)) (path other : List ℕ) → IsAt (codes "client") words path → IsAt (codes "host") words other → ⊥
client_no_host words path other own its = not_both words (codes "client") (codes "host") path other own.0 its.0 (λ same. let letter : 99 ≡ 104 = same in absurd (omega (arith, letter)))

-- words of a load are of no other number
same_load : (words : List (List ℕ)) (number other : ℕ) → HasShape words (command.Load number) → HasShape words (command.Load other) → number ≡ other
same_load words number other own its =
    decimal_injective number other (omega (arith, own.1.1)) (omega (arith, its.1.1)) (ap (λ (ws : List (List ℕ)). get_or ws 1 []) (sym own.0 ∙ its.0))

-- How a run ends whose words are a load.
pub load_runs : {S K R L D : Type 0} (words : List (List ℕ)) (before after : Outside S K R) (linked linked_after : Linked L) (sharing sharing_after : Sharing D) (books : List (ℕ × History)) (number status : ℕ)
    → HasShape words (command.Load number) → EndsCommand (command.Load number) before after linked linked_after sharing sharing_after books status → IsEnd words before after linked linked_after sharing sharing_after books status
load_runs words before after linked linked_after sharing sharing_after books number status shape ends = record { refuses = λ none. absurd (none (command.Load number) shape); runs = by }
  where
    by : (c : Command) → HasShape words c → EndsCommand c before after linked linked_after sharing sharing_after books status
    by command.Both own = absurd (one_word words (codes "load") (decimal number) (codes "both") shape.0 own)
    by command.Trace own = absurd (one_word words (codes "load") (decimal number) (codes "trace") shape.0 own)
    by command.Decode own = absurd (one_word words (codes "load") (decimal number) (codes "decode") shape.0 own)
    by command.Audit own = absurd (one_word words (codes "load") (decimal number) (codes "audit") shape.0 own)
    by (command.Load other) own = subst (λ (n : ℕ). EndsCommand (command.Load n) before after linked linked_after sharing sharing_after books status) (same_load words number other shape own) ends
    by (command.Client path) own = absurd (load_no_client words number path.now shape own)
    by (command.Host path) own = absurd (load_no_host words number path.now shape own)

-- How a run ends whose words are a client. It is the same for each path.
pub client_runs : {S K R L D : Type 0} (words : List (List ℕ)) (before after : Outside S K R) (linked linked_after : Linked L) (sharing sharing_after : Sharing D) (books : List (ℕ × History)) (path : List ℕ) (own : Command) (status : ℕ)
    → HasShape words own → IsAt (codes "client") words path → IsEndOfClient before.input after.input before.output after.output linked linked_after sharing sharing_after books status → after.recording ≡ before.recording
    → IsEnd words before after linked linked_after sharing sharing_after books status
client_runs words before after linked linked_after sharing sharing_after books path own status shape is ends unrecorded = record { refuses = λ none. absurd (none own shape); runs = by }
  where
    by : (c : Command) → HasShape words c → EndsCommand c before after linked linked_after sharing sharing_after books status
    by command.Both other = absurd (one_word words (codes "client") path (codes "both") is.0 other)
    by command.Trace other = absurd (one_word words (codes "client") path (codes "trace") is.0 other)
    by command.Decode other = absurd (one_word words (codes "client") path (codes "decode") is.0 other)
    by command.Audit other = absurd (one_word words (codes "client") path (codes "audit") is.0 other)
    by (command.Load number) other = absurd (load_no_client words number path other is)
    by (command.Client p) other = (ends, unrecorded)
    by (command.Host p) other = absurd (client_no_host words path p.now is other)

-- And one whose words are a host.
pub host_runs : {S K R L D : Type 0} (words : List (List ℕ)) (before after : Outside S K R) (linked linked_after : Linked L) (sharing sharing_after : Sharing D) (books : List (ℕ × History)) (path : List ℕ) (own : Command) (status : ℕ)
    → HasShape words own → IsAt (codes "host") words path → IsEndOfHost before.input after.input before.output after.output linked linked_after status → after.recording ≡ before.recording → books ≡ [] → sharing_after ≡ sharing
    → IsEnd words before after linked linked_after sharing sharing_after books status
host_runs words before after linked linked_after sharing sharing_after books path own status shape is ends unrecorded unstored unshared = record { refuses = λ none. absurd (none own shape); runs = by }
  where
    by : (c : Command) → HasShape words c → EndsCommand c before after linked linked_after sharing sharing_after books status
    by command.Both other = absurd (one_word words (codes "host") path (codes "both") is.0 other)
    by command.Trace other = absurd (one_word words (codes "host") path (codes "trace") is.0 other)
    by command.Decode other = absurd (one_word words (codes "host") path (codes "decode") is.0 other)
    by command.Audit other = absurd (one_word words (codes "host") path (codes "audit") is.0 other)
    by (command.Load number) other = absurd (load_no_host words number path other is)
    by (command.Client p) other = absurd (client_no_host words p.now path other is)
    by (command.Host p) other = (ends, unrecorded, unstored, unshared)
