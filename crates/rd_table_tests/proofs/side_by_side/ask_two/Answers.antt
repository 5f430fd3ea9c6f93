use Rattle.std.proofs.Common.{◌≡◌, ◌≢◌, ◌∙◌, ℕ, suc, List, [], sym, subst, arith, Some, None, Option}
use Rattle.std.specs.Prelude.{IfSome}
use Rattle.rd_pending.specs.declared.calls.Target.TheVariants as target
use Rattle.rd_pending.specs.Outcomes.{Accepted}
use Rattle.rd_pending.specs.Table.{TableState, new_table}
use Rattle.rd_turn.specs.declared.object.Entry.{Entry}
use Rattle.rd_turn.specs.History.{Leads}
use Rattle.rd_table.specs.declared.calls.PendingCall.{PendingCall}
use Rattle.rd_table.specs.declared.calls.PendingReply.{PendingReply}
use Rattle.rd_table.specs.Calls.{PendingStep}
use Rattle.rd_table.specs.Histories.{Accepts}
use Rattle.rd_table.proofs.AcceptsLemmas.{accepts_once}
use Rattle.rd_table.proofs.PassLemmas.{pass_accepts}
use Rattle.rd_table_tests.proofs.side_by_side.ask_two.Goals as goal

abbrev E : Type 0
E = Entry PendingCall PendingReply

-- the pass of this number submitted the request that was accepted under that one
abbrev IsOf : List E → ℕ → ℕ → Type 0
IsOf seen pass number = (a : Accepted) × (one : Accepts seen number a) × (one.by ≡ pass)

-- two passes got two numbers
two_numbers : (seen : List E) (t : TableState) (one other number next : ℕ) → Leads PendingStep new_table seen t → IsOf seen one number → IsOf seen other next → one ≢ other → number ≢ next
two_numbers seen t one other number next leads is_one is_other apart same =
    let there = subst (IsOf seen other) (sym same) is_other in
    let twice = accepts_once seen t number is_one.0 there.0 leads is_one.1 there.1 in
    apart (sym is_one.2 ∙ (twice.1 ∙ there.2))

if_some : {X : Type 0} (o : Option X) (P Q : X → Type 0) → ((x : X) → P x → Q x) → IfSome o P → IfSome o Q
if_some None P Q follows was = was
if_some (Some x) P Q follows was = follows x was

pub returns : goal.returns
returns g c =
    let asked = c.ask_side_by_side-number in
    let seen = asked.result.2.seen in
    let made = c.call-2.new.pass.made in
    let leads = subst (λ (s : TableState). Leads PendingStep s seen c.close.result) (c.in-Ok-new.ensures.turn ∙ c.in-Ok.ensures) c.close.ensures.leads in
    if_some c.both.result (λ (n : ℕ × ℕ). (asked.result.0 ≡ Some n.0) × (asked.result.1 ≡ Some n.1)) (λ (n : ℕ × ℕ). n.0 ≢ n.1)
    (λ (n : ℕ × ℕ) (was : (asked.result.0 ≡ Some n.0) × (asked.result.1 ≡ Some n.1)).
    let one = pass_accepts seen [] [] (suc made) 1 n.0 (target.Device 1) c.args.left (asked.ensures.left n.0 was.0) in
    let other = pass_accepts seen [] [] (suc (suc made)) 2 n.1 (target.Device 1) c.args.right (asked.ensures.right n.1 was.1) in
    two_numbers seen c.close.result (suc made) (suc (suc made)) n.0 n.1 leads (one.0, one.1, one.3) (other.0, other.1, other.3) (λ same. omega (arith, same)))
    c.both.ensures
