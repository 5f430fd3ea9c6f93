-- At a run's end each channel has opened, and the host owes nothing on one that didn't end.
use Rattle.std.proofs.Common.{◌≡◌, subst, inl, inr, ℕ, zero, suc, ◌+◌, ◌<◌, ◌≤◌, arith, Bool, false, true, List, [], Some}
use Rattle.std.specs.Prelude.{All}
use Rattle.std.specs.List.{range_with_len}
use Rattle.std.specs.Option.{option_map_or}
use Rattle.std.proofs.lemmas.List.Elements.{All-cons, All-nil}
use Rattle.rd_base.specs.declared.journal.Key.{Key}
use Rattle.rd_orders.proofs.RunsParts.{reached_behind}
use Rattle.rd_orders.proofs.RunsReaching.{run_reached, run_rests}
use Rattle.rd_orders.proofs.RunsHostLemmas.{opens}
use Rattle.rd_orders.proofs.RunsResting.{quiet}
use Rattle.rd_orders.proofs.RunsTogether.{known}
use Rattle.rd_orders.specs.RunsMoves.{Reached}
use Rattle.rd_orders.specs.RunsPremises.{RunPremises}
use Rattle.rd_script.specs.declared.line.NumberedLine.{NumberedLine}
use Rattle.rd_world.specs.Acts.{Opens, is_settled_host}
use Rattle.rd_declared.specs.Declaring.{bare_lines, declared_devices}
use Rattle.rd_world.specs.Recording.{host_stand}
use Rattle.rd_world.specs.Run.{Most, choices, run_of}
use Rattle.rd_deeds.specs.Talk.{has_ended, open_channel}
use Rattle.rd_world.specs.World.{WorldState}
use Rattle.rd_orders.specs.Orders.{DeclaresWritable}
use Rattle.rd_opening.proofs.ChannelLemmas.{behind_channels}
use Rattle.rd_opening.proofs.QuietLemmas.{host_settled}
use Rattle.rd_opening.proofs.Running.{run_opens}

-- what holds of each number of a range
all_between : (P : ℕ → Type 0) (a n : ℕ) → ((x : ℕ) → a ≤ x → x < a + n → P x) → All P (range_with_len a n)
all_between P a zero each = All-nil P
all_between P a (suc n) each = All-cons P a (range_with_len (a + 1) n) (each a (omega arith) (omega arith)) (all_between P (a + 1) n (λ x least most. each x (omega (arith, least)) (omega (arith, most))))

module _ (lines : List NumberedLine) (starves : Key → Bool) (premises : RunPremises lines) (writable : DeclaresWritable lines) where
  -- where nothing can happen by itself the host owes nothing on a channel that didn't end
  pub rest_settled : (w : WorldState) → Reached lines starves w → choices w ≡ [] → (c : ℕ) → 1 ≤ c → c ≤ w.channels → has_ended c w.deeds ≡ false → option_map_or is_settled_host (host_stand w.deeds c) false ≡ true
  rest_settled w r rests c first below off = elim ((behind_channels lines starves premises w (reached_behind lines starves w r)).each c first below) [
    | inl is ↦
        let k = known lines starves premises w r in
        let opened : open_channel w.deeds ≡ Some w.channels = opens w.side w.channels w.deeds k.stands.host (λ shut. cc (shut, is)) in
        let same : w.channels ≡ c = cc (opened, is) in
        subst (λ (x : ℕ). option_map_or is_settled_host (host_stand w.deeds x) false ≡ true) same (host_settled lines starves premises writable w r opened (quiet w rests))
    | inr ended ↦ absurd (cc (ended, off))
  ]

  pub runs_opened : (most : Most) (w : WorldState) → run_of most starves lines ≡ Some w → All (Opens (declared_devices (bare_lines lines)) w.deeds) (range_with_len 1 w.channels)
  runs_opened most w is = all_between (Opens (declared_devices (bare_lines lines)) w.deeds) 1 w.channels (λ x least most_is. (run_opens lines starves premises writable most w is).0 x least (omega (arith, most_is)))

  pub runs_settled : (most : Most) (w : WorldState) → run_of most starves lines ≡ Some w
      → All (λ c. has_ended c w.deeds ≡ false → option_map_or is_settled_host (host_stand w.deeds c) false ≡ true) (range_with_len 1 w.channels)
  runs_settled most w is =
      all_between (λ c. has_ended c w.deeds ≡ false → option_map_or is_settled_host (host_stand w.deeds c) false ≡ true) 1 w.channels
      (λ x least most_is off. rest_settled w (run_reached lines starves most w is) (run_rests starves most lines w is) x least (omega (arith, most_is)) off)
