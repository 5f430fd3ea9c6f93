-- What the applications of lines ask for at first is what the lines ask for, and their handles hold nothing.
use Rattle.std.proofs.Common.{◌≡◌, refl, inl, inr, ℕ, List, [], ◌∷◌, ◌++◌, map, fold, Some, None, Option}
use Rattle.std.specs.Prelude.{filter_map}
use Rattle.std.specs.List.{AllByRecursion, cons_option}
use Rattle.std.specs.Map.{lookup}
use Rattle.std.specs.Ordering.{nat_cmp}
use Rattle.std.specs.BTreeMap.{is_at}
use Rattle.std.specs.Option.{IfSome, unwrap_or}
use Rattle.rd_runs.proofs.RoomLemmas.{OfAll, all_inserted, found_in}
use Rattle.rd_runs.specs.Premises.{AreSubmittable, IsSubmittable}
use Rattle.rd_script.specs.declared.line.NumberedLine.{NumberedLine}
use Rattle.rd_world.specs.Run.{applications_of, asked_by, asking}
use Rattle.rd_deeds.specs.Talk.{Has}
use Rattle.rd_world.specs.World.{ApplicationState, Asked, new_application}
use Rattle.rd_host_session.specs.Hosted.{issuer_by, issuers_of}
use Rattle.rd_issuer.specs.declared.issuer.Issuer.{Issuer}
use Rattle.rd_host_turns.proofs.CountLemmas.{all_both}
use Rattle.rd_host_turns.specs.Turns.{TableEntry}
use Rattle.rd_host_lines.proofs.IssueLemmas.{AppFits}

module _ (all : List TableEntry) where
  new_fits : AppFits all new_application
  new_fits = record { asks = tt; handles = tt; awaits = tt }

  found_fits : (es : List (ℕ × ApplicationState)) (a : ℕ) → OfAll (AppFits all) es → AppFits all (unwrap_or (lookup (is_at (nat_cmp a)) es) new_application)
  found_fits es a fit = by (lookup (is_at (nat_cmp a)) es) (found_in (AppFits all) (is_at (nat_cmp a)) es fit)
    where
      by : (o : Option ApplicationState) → IfSome o (AppFits all) → AppFits all (unwrap_or o new_application)
      by None own = new_fits
      by (Some x) own = own

  all_asked : (asked : List (ℕ × Asked)) → AllByRecursion (λ (x : ℕ × Asked). IsSubmittable x.1) asked → (es : List (ℕ × ApplicationState)) → OfAll (AppFits all) es → OfAll (AppFits all) (fold asking es asked)
  all_asked [] own es fit = fit
  all_asked (x ∷ asked) own es fit =
      let application : ApplicationState = unwrap_or (lookup (is_at (nat_cmp x.0)) es) new_application in
      let here = found_fits es x.0 fit in
      all_asked asked own.1 (asking es x)
      (all_inserted (AppFits all) nat_cmp es x.0 (record application { asks = application.asks ++ x.1 ∷ [] })
      (record { asks = all_both IsSubmittable application.asks (x.1 ∷ []) here.asks (own.0, tt); handles = here.handles; awaits = here.awaits }) fit)

  from_lines : (lines : List NumberedLine) → AreSubmittable lines → (ls : List NumberedLine) → ((l : NumberedLine) → Has l ls → Has l lines)
      → AllByRecursion (λ (x : ℕ × Asked). IsSubmittable x.1) (filter_map asked_by (map (λ (l : NumberedLine). l.line) ls))
  from_lines lines fitting [] among = tt
  from_lines lines fitting (l ∷ ls) among = by (asked_by l.line) refl (from_lines lines fitting ls (λ x has. among x (inr has)))
    where
      by : (o : Option (ℕ × Asked)) → asked_by l.line ≡ o → AllByRecursion (λ (x : ℕ × Asked). IsSubmittable x.1) (filter_map asked_by (map (λ (l : NumberedLine). l.line) ls))
          → AllByRecursion (λ (x : ℕ × Asked). IsSubmittable x.1) (cons_option o (filter_map asked_by (map (λ (l : NumberedLine). l.line) ls)))
      by None is later = later
      by (Some (a, asked)) is later = (fitting l a asked (among l (inl refl)) is, later)

  mapped : (es : List (ℕ × ApplicationState)) → OfAll (AppFits all) es → AllByRecursion (λ (i : Issuer). AppFits all i.application) (map issuer_by es)
  mapped [] fit = tt
  mapped (e ∷ es) (here, fit) = (here, mapped es fit)

  pub issuers_fit : (lines : List NumberedLine) → AreSubmittable lines → AllByRecursion (λ (i : Issuer). AppFits all i.application) (issuers_of lines)
  issuers_fit lines fitting = mapped (applications_of (map (λ (l : NumberedLine). l.line) lines)) (all_asked _ (from_lines lines fitting lines (λ l has. has)) [] tt)
