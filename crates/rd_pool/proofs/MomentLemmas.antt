-- At which moment plans are to be run that are given back.
use Rattle.std.proofs.Common.{◌≡◌, sym, subst, ℕ, List, [], ◌∷◌, map}
use Rattle.std.specs.Prelude.{All, IfSome, Option}
use Rattle.std.proofs.lemmas.List.Elements.{All-cons, All-nil, All-same}
use Rattle.rd_turn.specs.Pass.{Called, IsSamePass}
use Rattle.rd_desk.specs.declared.batch.Run.{Run}
use Rattle.rd_desk.specs.declared.calls.DeskCall.{DeskCall}
use Rattle.rd_desk.specs.declared.calls.DeskReply.{DeskReply}
use Rattle.rd_desk.specs.Desk.{runs_of}
use Rattle.rd_desk.specs.Own.{HasMoment}
use Rattle.rd_pool.specs.Desks.{DeskPass, GivesThen, KeepsMoment}
use Rattle.rd_pool.proofs.CallsLemmas.{call_holds}

-- a call that gives nothing back
pub gives_none : (told : Option ℕ) (call : DeskCall) → runs_of call ≡ [] → All (HasMoment told) (runs_of call)
gives_none told call idle = All-same (HasMoment told) (runs_of call) [] idle (All-nil (HasMoment told))

pub idle_keeps : {S : Type 0} (told : Option ℕ) (p q : DeskPass S) (call : DeskCall) (reply : DeskReply) → IsSamePass p q → Called p call reply q → runs_of call ≡ [] → KeepsMoment told p → KeepsMoment told q
idle_keeps told p q call reply same called idle = call_holds (GivesThen told) p q call reply same called (gives_none told call idle)

-- the plans of a batch that are all to be run at a moment, which is the one that was told
pub batch_keeps : {A : Type 0} (told : Option ℕ) (moment : ℕ) (runs : List Run) (xs : List A) → map (λ (run : Run). run.moment) runs ≡ map (λ (x : A). moment) xs → IfSome told (λ at. moment ≡ at) → All (HasMoment told) runs
batch_keeps {A} told moment [] xs same then = All-nil (HasMoment told)
batch_keeps {A} told moment (run ∷ runs) [] same then = absurd (cc (same))
batch_keeps {A} told moment (run ∷ runs) (x ∷ xs) same then =
    let here : run.moment ≡ moment = cc (same) in
    All-cons (HasMoment told) run runs (subst (λ (m : ℕ). IfSome told (λ at. m ≡ at)) (sym here) then) (batch_keeps told moment runs xs (cc (same)) then)
