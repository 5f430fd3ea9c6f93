-- What a session comes to, put together.
use Rattle.std.proofs.Common.{◌≡◌, ◌∙◌, ℕ, ap, sym, subst, List, Option, refl}
use Rattle.rd_carry.specs.declared.ended.Ended.{Ended}
use Rattle.rd_host.specs.Core.{HostCoreState}
use Rattle.rd_host_channel.specs.Calls.{HostPass}
use Rattle.rd_host_front.specs.HostFront.{HostFrontStep}
use Rattle.rd_host_front.specs.State.{HostFrontState, JoinsPass, PassOfTable, TurnOfTable}
use Rattle.rd_host_player.specs.Plan.{awaited_devices}
use Rattle.rd_host_player.specs.Play.{PlayState, play_state}
use Rattle.rd_issuer.specs.declared.issuer.Issuer.{Issuer}
use Rattle.rd_script.specs.declared.line.NumberedLine.{NumberedLine}
use Rattle.rd_turn.specs.History.{Leads}
use Rattle.rd_turn.specs.Pass.{HasAllCalls, IsNumbered, TurnId, after_split, first_pass}
use Rattle.rd_host_session.specs.Channels.{LinkedTold, ServesAll, SessionState, stands}
use Rattle.rd_host_session.specs.Hosted.{PlaysOver, front_over, issuers_of}

-- where the calling thread stands before the first line
pub begins_so : {W : Type 0} (lines : List NumberedLine) (issuers wanted : List Issuer) (first split : PassOfTable) (at named : TurnId HostFrontState) (front caller : HostPass HostFrontState W)
    (begun : PlayState HostFrontState W) → issuers ≡ wanted → split ≡ after_split first → named ≡ at → front ≡ caller → caller ≡ first_pass at
    → begun ≡ play_state HostFrontState W lines issuers split named front → begun ≡ play_state HostFrontState W lines wanted (after_split first) at (first_pass at)
begins_so {W} lines issuers wanted first split at named front caller begun are is_split is_at is_front is_first is =
    is ∙ ap (λ (x : List Issuer). play_state HostFrontState W lines x split named front) are
    ∙ ap (λ (x : PassOfTable). play_state HostFrontState W lines wanted x named front) is_split
    ∙ ap (λ (x : TurnId HostFrontState). play_state HostFrontState W lines wanted (after_split first) x front) is_at
    ∙ ap (λ (x : HostPass HostFrontState W). play_state HostFrontState W lines wanted (after_split first) at x) (is_front ∙ is_first)

pub plays_over : {W : Type 0} (turn : TurnOfTable) (lines : List NumberedLine) (devices : ℕ) (other : Option Ended) (back : List Issuer) (first last home own : PassOfTable) (old new : LinkedTold)
    (at : TurnId HostFrontState) (begun over : PlayState HostFrontState W) (closed : HostFrontState) (caller : HostPass HostFrontState W)
    → at.opening ≡ front_over turn first → devices ≡ awaited_devices lines
    → begun ≡ play_state HostFrontState W lines (issuers_of lines) (after_split first) at (first_pass at)
    → ServesAll turn devices other (stands begun old) (stands over new)
    → back ≡ over.issuers → caller ≡ over.front → Leads HostFrontStep at.opening caller.seen closed → HasAllCalls caller → IsNumbered caller
    → home ≡ over.first → own ≡ (closed.table).pass → JoinsPass home own last
    → PlaysOver W turn lines other back first last old new
plays_over {W} turn lines devices other back first last home own old new at begun over closed caller opening is_devices is_begun serves is_back is_caller leads all numbers is_home is_own joins =
    let by_devices = subst (λ (n : ℕ). ServesAll turn n other (stands begun old) (stands over new)) is_devices serves in
    record {
      at = at;
      opening = opening;
      ends = stands over new;
      serves = subst (λ (s : PlayState HostFrontState W). ServesAll turn (awaited_devices lines) other (stands s old) (stands over new)) is_begun by_devices;
      linker = refl;
      issuers_are = sym is_back;
      closed = closed;
      leads = subst (λ (p : HostPass HostFrontState W). Leads HostFrontStep at.opening p.seen closed) is_caller leads;
      all = subst (λ (p : HostPass HostFrontState W). HasAllCalls p) is_caller all;
      numbers = subst (λ (p : HostPass HostFrontState W). IsNumbered p) is_caller numbers;
      home = subst (λ (p : PassOfTable). JoinsPass over.first p last) is_own (subst (λ (p : PassOfTable). JoinsPass p own last) is_home joins);
    }
