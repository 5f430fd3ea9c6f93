-- What a call on a folder answers, and leaves, as the contracts of a drive see it.
use Rattle.std.proofs.Common.{◌≡◌, ◌∙◌, refl, sym, ap, subst, inl, inr, ℕ, Bool, true, false, cond, not, List, Option, Some, None, Result, Err}
use Rattle.std.specs.Option.{option_and_then, option_map}
use Rattle.std.proofs.lemmas.Option.{same_Some, none-some}
use Rattle.rd_contents.specs.Contents.{part}
use Rattle.rd_dirinfo.specs.Paths.{Names}
use Rattle.rd_drive.specs.DriveState.{Node, bytes_of, is_folder_node}
use Rattle.rd_folder.specs.declared.folder.FolderNo.{FolderNo}
use Rattle.rd_folder.specs.declared.folder.FolderNo.TheVariants as no
use Rattle.rd_folder.specs.declared.look.Look.{Look}
use Rattle.rd_folder.specs.FolderCalls.{answering, folder_look, folder_read, look_of, node_there, of_file}
use Rattle.rd_folder.specs.FolderLaws.{CountsNo, DoesCall}
use Rattle.rd_folder_drive.specs.Served.{Seen, IsCalm, IsRefusedBy, folder_status}

module _ (before after : Seen) where
  -- a call that is done counts nothing
  pub calm_by : after.faults ≡ before.faults → IsCalm before after
  calm_by same = same

  module _ {X : Type 0} (comes : List Node → Option (X × List Node)) where
    -- one that is refused changes nothing
    pub refusal_same : (why : FolderNo) → DoesCall before.told after.told comes (Err why) → after.told ≡ before.told
    refusal_same why does = by before.told why does
      where
        by : (old : Option (List Node)) (why : FolderNo) → DoesCall old after.told comes (Err why) → after.told ≡ old
        by None why does = does
        by (Some nodes) no.Missing does = does.1
        by (Some nodes) no.Failed does = does
        by (Some nodes) no.Full does = does
        by (Some nodes) no.Denied does = does
        by (Some nodes) no.Memory does = does

    -- it says that there is no such change or answer only where there is none
    pub refusal_missing : (why : FolderNo) → DoesCall before.told after.told comes (Err why) → why ≡ no.Missing → (nodes : List Node) → before.told ≡ Some nodes → comes nodes ≡ None
    refusal_missing why does is nodes told =
        (subst (λ (old : Option (List Node)). DoesCall old after.told comes (Err no.Missing)) told (subst (λ (given : FolderNo). DoesCall before.told after.told comes (Err given)) is does)).0

    -- and is answered with its status
    pub refusal_by : (why : FolderNo) → CountsNo before.told why before.faults after.faults → ((nodes : List Node) → before.told ≡ Some nodes → why ≡ no.Missing → ⊥) → IsRefusedBy before after (folder_status why)
    refusal_by why counted some = by before.told refl why refl counted
      where
        by : (old : Option (List Node)) → before.told ≡ old → (no : FolderNo) → why ≡ no → CountsNo old no before.faults after.faults → IsRefusedBy before after (folder_status no)
        by old told no.Memory is c = inl (refl, c)
        by None told no.Missing is c = inr (no.Missing, refl, (λ e. absurd (cc)), (λ e. told), c)
        by (Some nodes) told no.Missing is c = absurd (some nodes told is)
        by old told no.Failed is c = inr (no.Failed, refl, (λ e. absurd (cc)), (λ e. absurd (cc)), c)
        by old told no.Full is c = inr (no.Full, refl, (λ e. absurd (cc)), (λ e. absurd (cc)), c)
        by old told no.Denied is c = inr (no.Denied, refl, (λ e. absurd (cc)), (λ e. absurd (cc)), c)

    -- what a call answers that is done, of the nodes that were told
    pub answer_is : (answer : X) → DoesCall before.told after.told comes (Result.Ok answer) → (nodes : List Node) → before.told ≡ Some nodes → (left : List Node) × (comes nodes ≡ Some (answer, left)) × (after.told ≡ Some left)
    answer_is answer does nodes told = subst (λ (old : Option (List Node)). DoesCall old after.told comes (Result.Ok answer)) told does

    -- a call that only asks leaves the nodes as they are
    pub asks_same : ((nodes : List Node) (answer : X) (left : List Node) → comes nodes ≡ Some (answer, left) → left ≡ nodes) → (answer : X) → DoesCall before.told after.told comes (Result.Ok answer) → after.told ≡ before.told
    asks_same asks answer does = by before.told does
      where
        by : (old : Option (List Node)) → DoesCall old after.told comes (Result.Ok answer) → after.told ≡ old
        by None does = does
        by (Some nodes) does = does.2 ∙ ap Some (asks nodes answer does.0 does.1)

-- ---- the calls that only ask

pub looks : (path : Names) (nodes : List Node) (found : Option Look) (left : List Node) → folder_look path nodes ≡ Some (found, left) → (left ≡ nodes) × (option_map look_of (node_there nodes path) ≡ found)
looks path nodes found left is =
    let pair : (option_map look_of (node_there nodes path), nodes) ≡ (found, left) = same_Some _ _ is in
    (sym (ap (λ (p : Option Look × List Node). p.1) pair), ap (λ (p : Option Look × List Node). p.0) pair)

-- of a file alone
pub read_from : (path : Names) (offset count : ℕ) (nodes : List Node) (node : Node) → node_there nodes path ≡ Some node → is_folder_node node ≡ false → folder_read path offset count nodes ≡ Some (part (bytes_of node) offset count, nodes)
read_from path offset count nodes node there file =
    ap (option_and_then (λ (n : Node). of_file n (answering nodes (part (bytes_of n) offset count)))) there
    ∙ ap (λ (b : Bool). cond (not b) (Some (part (bytes_of node) offset count, nodes)) None) file

pub reads_only : (path : Names) (offset count : ℕ) (nodes : List Node) (bytes : List ℕ) (left : List Node) → folder_read path offset count nodes ≡ Some (bytes, left) → left ≡ nodes
reads_only path offset count nodes bytes left is = by (node_there nodes path) is
  where
    either : (node : Node) (b : Bool) → cond {A = Option (List ℕ × List Node)} (not b) (Some (part (bytes_of node) offset count, nodes)) None ≡ Some (bytes, left) → left ≡ nodes
    either node true e = absurd (none-some _ e)
    either node false e = sym (ap (λ (p : List ℕ × List Node). p.1) (same_Some _ _ e))

    by : (found : Option Node) → option_and_then (λ (n : Node). of_file n (answering nodes (part (bytes_of n) offset count))) found ≡ Some (bytes, left) → left ≡ nodes
    by None e = absurd (none-some _ e)
    by (Some node) e = either node (is_folder_node node) e
