-- The deeds of a whole session are such whose recording prints.
use Rattle.std.proofs.Common.{◌≡◌, ℕ, List, None, ap, reverse, ◌∙◌}
use Rattle.rd_base.specs.History.{History}
use Rattle.rd_decode.specs.Recording.{Decoded, decoded}
use Rattle.rd_printed.specs.Printed.{ArePrintable, lines_by}
use Rattle.rd_printed.proofs.DeedLemmas.{lines_printed, printed}
use Rattle.rd_readable.proofs.ClientLemmas as client
use Rattle.rd_readable.proofs.HostLemmas as host
use Rattle.rd_readable.proofs.LineLemmas.{all_readable}
use Rattle.rd_readable.proofs.OpenLemmas.{all_on_open}
use Rattle.rd_readable.proofs.OrderLemmas.{all_reversed}
use Rattle.rd_readable.proofs.TurnLemmas.{all_in_turn}
use Rattle.rd_script.specs.declared.outcome.Outcomes.{Outcomes}
use Rattle.rd_script.specs.declared.script.Script.{Script}
use Rattle.rd_pending.specs.History.{lives_before}
use Rattle.rd_deeds.proofs.Telling.{each_tells}
use Rattle.rd_deeds.specs.HostDeeds.{calls_of}
use Rattle.rd_world.specs.Recording.{announced_of, client_id, is_gone_at}
use Rattle.rd_world.specs.Session.{IsWholeSession, replies_in}
use Rattle.rd_deeds.specs.Talk.{client_moves, host_moves}

pub session_prints : (script : Script) (recording : List ℕ) (books : List (ℕ × History)) (told : Outcomes) (output : List ℕ) (s : IsWholeSession script recording books told output) → ArePrintable s.deeds
session_prints script recording books told output s =
    let deeds = s.deeds in
    let replies = replies_in s.devices deeds in
    record {
      fit = s.wire.fit;
      on_open = all_on_open client_id deeds s.joined.host s.wire.on_open;
      readable = all_readable replies deeds
          (λ c. all_reversed _ (host_moves c deeds) (host.moves_fine client_id (lives_before c (calls_of client_id deeds)) (reverse (host_moves c deeds)) (s.wire.host_order c)))
          (λ c. all_reversed _ (client_moves c deeds) (client.moves_fine (announced_of s.devices) (is_gone_at c deeds) (reverse (client_moves c deeds)) (s.wire.client_order c)))
          s.joined.carried s.joined.stands s.joined.told.answers;
      in_turn = all_in_turn client_id deeds s.joined.host s.joined.carried s.joined.stands (each_tells replies deeds s.joined.told s.joined.lawful);
    }

-- so its recording has no fault, and what is printed of it are their lines
pub recording_good : (script : Script) (recording : List ℕ) (books : List (ℕ × History)) (told : Outcomes) (output : List ℕ) → IsWholeSession script recording books told output → (decoded recording).whole_fault ≡ None
recording_good script recording books told output s =
    ap (λ b. (decoded b).whole_fault) s.wire.bytes ∙ ap (λ (d : Decoded). d.whole_fault) (printed s.deeds (session_prints script recording books told output s))

pub recording_lines : (script : Script) (recording : List ℕ) (books : List (ℕ × History)) (told : Outcomes) (output : List ℕ) (s : IsWholeSession script recording books told output) → (decoded recording).text ≡ lines_by s.deeds
recording_lines script recording books told output s = ap (λ b. (decoded b).text) s.wire.bytes ∙ lines_printed s.deeds (session_prints script recording books told output s)
