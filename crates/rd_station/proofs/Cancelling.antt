-- Requests that a removal overtook are cancelled, one after the other.
use Rattle.std.proofs.Common.{◌≡◌, ◌≢◌, refl, sym, subst, inl, inr, ℕ, ◌≤◌, List, [], ◌∷◌, ◌++◌, map, arith}
use Rattle.std.proofs.lemmas.List.{append_assoc, append-nil}
use Rattle.rd_base.specs.declared.journal.Key.{Key}
use Rattle.rd_base.specs.declared.journal.Item.{Item}
use Rattle.rd_base.specs.declared.journal.Item.TheVariants.{Cancelled}
use Rattle.rd_base.specs.Lawful.{IsLawful, NoneAboveChannel}
use Rattle.rd_drive.specs.declared.plan.Job.{Job}
use Rattle.rd_station.proofs.Members.{AreApart, Has, has_map}
use Rattle.rd_station.proofs.Requests.{IsDone, IsOvertaken, cancels, done_on, may_cancel, overtaken_on}
use Rattle.rd_station.proofs.Unsent.{lawful_still, low_more, unsent_more, unsent_on}

-- the key of a job
abbrev pub job_key : Job → Key
job_key job = job.key

-- the entries that cancel these jobs
abbrev pub cancellations : List Job → List Item
cancellations ws = map (λ (job : Job). Cancelled job.key) ws

-- what is told of another key stays
pub cancels_leave : (P : List Item → Type 0) (key : Key) → ((j : List Item) (k : Key) → key ≢ k → P j → P (j ++ Cancelled k ∷ []))
    → (ws : List Job) → (¬ (Has key (map job_key ws))) → (j : List Item) → P j → P (j ++ cancellations ws)
cancels_leave P key stays [] none j is = subst P (sym (append-nil j)) is
cancels_leave P key stays (job ∷ ws) none j is =
    subst P (append_assoc j (Cancelled job.key ∷ []) (cancellations ws))
    (cancels_leave P key stays ws (λ has. none (inr has)) (j ++ Cancelled job.key ∷ []) (stays j job.key (λ same. none (inl same)) is))

-- a removal overtook each of these jobs
pub record AreOvertaken (c : ℕ) (ws : List Job) (j : List Item) : Type 0 where
  pub lawful : IsLawful j
  pub low : NoneAboveChannel c j
  pub apart : AreApart (map job_key ws)
  pub over : (job : Job) → Has job ws → (job.key.channel ≡ c) × IsOvertaken job.key j

-- and then each was cancelled
pub record AreCancelled (c : ℕ) (ws : List Job) (before after : List Item) : Type 0 where
  pub lawful : IsLawful after
  pub low : NoneAboveChannel c after
  pub unsent : unsent_on c after ≤ unsent_on c before
  pub done : (job : Job) → Has job ws → IsDone job.key after

-- the first of them is cancelled, and then the others
module _ (c : ℕ) (job : Job) (ws : List Job) (j : List Item) (are : AreOvertaken c (job ∷ ws) j) where
  -- it came on the channel, and was overtaken
  on_channel : job.key.channel ≡ c
  on_channel = (are.over job (inl refl)).0

  was_over : IsOvertaken job.key j
  was_over = (are.over job (inl refl)).1

  -- the others stay overtaken
  others_over : AreOvertaken c ws (j ++ Cancelled job.key ∷ [])
  others_over = record {
    lawful = lawful_still j (Cancelled job.key) are.lawful (may_cancel job.key j (subst (λ (d : ℕ). NoneAboveChannel d j) (sym on_channel) are.low) was_over) (λ d. refl);
    low = low_more c j (Cancelled job.key) are.low (omega (arith, on_channel));
    apart = are.apart.1;
    over = λ other has.
        let (its, over) = are.over other (inr has) in
        (its, overtaken_on j (Cancelled job.key) job.key refl other.key (λ same. are.apart.0 (subst (λ (k : Key). Has k (map job_key ws)) same (has_map job_key other ws has))) over);
  }

  -- what holds where the others were cancelled too
  add_first : AreCancelled c ws (j ++ Cancelled job.key ∷ []) ((j ++ Cancelled job.key ∷ []) ++ cancellations ws) → AreCancelled c (job ∷ ws) j ((j ++ Cancelled job.key ∷ []) ++ cancellations ws)
  add_first rest = record { lawful = rest.lawful; low = rest.low; unsent = omega (arith, rest.unsent, unsent_more c j (Cancelled job.key)); done = done }
    where
      done : (other : Job) → Has other (job ∷ ws) → IsDone other.key ((j ++ Cancelled job.key ∷ []) ++ cancellations ws)
      done other (inl same) = subst (λ (x : Job). IsDone x.key ((j ++ Cancelled job.key ∷ []) ++ cancellations ws)) (sym same)
          (cancels_leave (IsDone job.key) job.key (λ i k differs. done_on i (Cancelled k) k refl job.key differs) ws are.apart.0 (j ++ Cancelled job.key ∷ []) (cancels job.key j was_over.unrun))
      done other (inr has) = rest.done other has

-- each is cancelled, the first before the others
pub cancels_each : (c : ℕ) (ws : List Job) (j : List Item) → AreOvertaken c ws j → AreCancelled c ws j (j ++ cancellations ws)
cancels_each c [] j are = subst (AreCancelled c [] j) (sym (append-nil j)) (record { lawful = are.lawful; low = are.low; unsent = omega arith; done = λ job none. absurd none })
cancels_each c (job ∷ ws) j are = subst (AreCancelled c (job ∷ ws) j) (append_assoc j (Cancelled job.key ∷ []) (cancellations ws))
    (add_first c job ws j are (cancels_each c ws (j ++ Cancelled job.key ∷ []) (others_over c job ws j are)))
