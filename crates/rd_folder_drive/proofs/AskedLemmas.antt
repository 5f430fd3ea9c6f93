-- What is served where a folder is asked first, and what a drive with the same nodes serves as well.
use Rattle.std.proofs.Common.{◌≡◌, ◌∙◌, refl, sym, ap, subst, inl, inr, Bool, true, false, ◌&&◌, ◌||◌, cond, List, [], ◌∷◌, map, find, Option, Some, None, Result, Ok, Err}
use Rattle.std.specs.List.{list_any}
use Rattle.std.specs.Option.{IfSome, is_some, option_map, option_map_or}
use Rattle.std.proofs.lemmas.Option.{none-some, same_Some}
use Rattle.rd_base.specs.declared.status.Status.{Status}
use Rattle.rd_irp.specs.declared.completion.Body.{Body}
use Rattle.rd_dirinfo.specs.declared.naming.Naming.TheVariants.{Exact}
use Rattle.rd_dirinfo.specs.Paths.{Names, is_parent, last_name}
use Rattle.rd_dirinfo.specs.Patterns.{any_name, is_wanted}
use Rattle.rd_dirinfo.proofs.PatternLemmas.{any_is_matched}
use Rattle.rd_drive.specs.declared.step.Step.TheVariants as step
use Rattle.rd_drive.specs.DriveState.{DriveState, Node, has_children, has_folder, is_folder_node}
use Rattle.rd_drive.specs.QueryDir.{next_node}
use Rattle.rd_drive.specs.Outcome as outcome
use Rattle.rd_folder.specs.declared.look.Listed.{Listed}
use Rattle.rd_folder.specs.declared.look.Look.{Look}
use Rattle.rd_folder.specs.FolderCalls.{folder_next, listed_of, look_of, node_there, only_if, answering}
use Rattle.rd_folder.specs.Told.{drive_over}
use Rattle.rd_folder_drive.specs.declared.news.News as told_news
use Rattle.rd_folder_drive.specs.declared.table.Done.{Done}
use Rattle.rd_folder_drive.specs.declared.table.Done.TheVariants as done
use Rattle.rd_folder_drive.specs.declared.table.Table.{Table}
use Rattle.rd_folder_drive.specs.Served.{Seen, IsOver, Leaves, Serves, news_of, nothing}
use Rattle.rd_folder_drive.specs.Table.{HasNodes, IsSound, drive_of, marked}
use Rattle.rd_folder_drive.proofs.ServeLemmas.{held_by, is_calm}
use Rattle.rd_folder_drive.proofs.TableLemmas.{node_seen}

-- ---- the same outcome

leaves_same : (old new : Table) (before after : Seen) (P Q : DriveState → DriveState → Type 0) → ((nodes left : List Node) → before.told ≡ Some nodes → P (drive_of old nodes) (drive_of new left) → Q (drive_of old nodes) (drive_of new left))
    → Leaves old before new after P → Leaves old before new after Q
leaves_same old new before after P Q each leaves = (leaves.0, leaves.1, λ nodes told. let is = leaves.2 nodes told in (is.0, is.1, each nodes is.0 told is.2))

-- what comes to the same over the nodes that a folder tells is served as well
pub serves_same : (old new : Table) (before after : Seen) → IsOver old before → (comes other : DriveState → outcome.Outcome) (result : Result Done Status)
    → ((nodes : List Node) → before.told ≡ Some nodes → HasNodes old nodes → other (drive_of old nodes) ≡ comes (drive_of old nodes)) → Serves old before new after comes result → Serves old before new after other result
serves_same old new before after over comes other (Ok (done.Replied body news)) same (sound, heard, calm, leaves) = (
  sound,
  heard,
  calm,
  leaves_same old new before after (λ s left. comes s ≡ record { state = left; answer = step.Reply (outcome.done body); news = news_of new news }) (λ s left. other s ≡ record { state = left; answer = step.Reply (outcome.done body); news = news_of new news })
      (λ nodes left told is. same nodes told (held_by old before over nodes told) ∙ is) leaves,
)
serves_same old new before after over comes other (Ok done.Parked) same (sound, calm, leaves) = (
  sound,
  calm,
  leaves_same old new before after (λ s left. comes s ≡ record { state = left; answer = step.Parked; news = outcome.no_news }) (λ s left. other s ≡ record { state = left; answer = step.Parked; news = outcome.no_news })
      (λ nodes left told is. same nodes told (held_by old before over nodes told) ∙ is) leaves,
)
serves_same old new before after over comes other (Ok (done.Kept status news)) same none = none
serves_same old new before after over comes other (Err status) same (sound, inl (own, calm, leaves)) = (
  sound,
  inl (own, calm, leaves_same old new before after (λ s left. comes s ≡ outcome.refused left status) (λ s left. other s ≡ outcome.refused left status) (λ nodes left told is. same nodes told (held_by old before over nodes told) ∙ is) leaves),
)
serves_same old new before after over comes other (Err status) same (sound, inr by) = (sound, inr by)

-- an operation is done, the table has changed, and the folder is as it was
pub done_anew : (old new : Table) (folder : Seen) → IsOver old folder → IsSound new → (comes : DriveState → outcome.Outcome) (body : Body) (news : told_news.News) → news ≡ nothing
    → ((nodes : List Node) → folder.told ≡ Some nodes → HasNodes old nodes → HasNodes new nodes × (comes (drive_of old nodes) ≡ outcome.succeeded (drive_of new nodes) body outcome.no_news))
    → Serves old folder new folder comes (Ok (done.Replied body news))
done_anew old new folder over sound comes body news quiet each =
    subst (λ (n : told_news.News). Serves old folder new folder comes (Ok (done.Replied body n))) (sym quiet)
    (sound, (tt, (tt, (tt, (tt, tt)))), is_calm old folder over, (by folder.told refl, (λ none. none), λ nodes told. (nodes, told, (each nodes told (held_by old folder over nodes told)).1)))
  where
    by : (found : Option (List Node)) → folder.told ≡ found → IfSome found (HasNodes new)
    by None is = tt
    by (Some nodes) is = (each nodes is (held_by old folder over nodes is)).0

-- ---- what was asked

-- what a folder told of a node that is there
pub look_is : (nodes : List Node) (path : Names) (node : Node) → node_there nodes path ≡ Some node → (found : Option Look) → option_map look_of (node_there nodes path) ≡ found → (look : Look) → found ≡ Some look → look ≡ look_of node
look_is nodes path node there found told look some = sym (same_Some _ _ (sym (ap (option_map look_of) there) ∙ told ∙ some))

-- a listing of every name has one where something stands in the folder
pub names_found : (nodes : List Node) (path : Names) → is_some (next_node (drive_over nodes) path any_name None) ≡ has_children (drive_over nodes) path
names_found nodes path = by nodes
  where
    either : (node : Node) (rest : List Node) → is_some (find (λ (n : Node). is_parent Exact path n.path && is_wanted Exact None any_name (last_name n.path)) rest) ≡ list_any (λ (n : Node). is_parent Exact path n.path) rest
        → (b c : Bool) → c ≡ true → is_some (cond (b && c) (Some node) (find (λ (n : Node). is_parent Exact path n.path && is_wanted Exact None any_name (last_name n.path)) rest)) ≡ (b || list_any (λ (n : Node). is_parent Exact path n.path) rest)
    either node rest later true c t = ap (λ d. is_some (cond d (Some node) (find (λ (n : Node). is_parent Exact path n.path && is_wanted Exact None any_name (last_name n.path)) rest))) t
    either node rest later false c t = later

    by : (l : List Node) → is_some (find (λ (node : Node). is_parent Exact path node.path && is_wanted Exact None any_name (last_name node.path)) l) ≡ list_any (λ (node : Node). is_parent Exact path node.path) l
    by [] = refl
    by (node ∷ l) = either node l (by l) (is_parent Exact path node.path) (is_wanted Exact None any_name (last_name node.path)) (any_is_matched Exact (last_name node.path))

-- marks don't change what stands in a folder
pub children_marked : (t : Table) (nodes : List Node) (path : Names) → has_children (drive_of t nodes) path ≡ has_children (drive_over nodes) path
children_marked t nodes path = by nodes
  where
    by : (l : List Node) → list_any (λ (node : Node). is_parent Exact path node.path) (map (marked t.opens.entries) l) ≡ list_any (λ (node : Node). is_parent Exact path node.path) l
    by [] = refl
    by (node ∷ l) = ap (λ b. is_parent Exact path node.path || b) (by l)

abbrev listing : List Node → Names → Option Listed
listing nodes path = option_map listed_of (next_node (drive_over nodes) path any_name None)

-- a listing leaves the nodes as they are
pub next_only : (path : Names) (nodes : List Node) (found : Option Listed) (left : List Node) → folder_next path None any_name nodes ≡ Some (found, left) → left ≡ nodes
next_only path nodes found left is = by (has_folder (drive_over nodes) path) is
  where
    by : (b : Bool) → only_if b (answering nodes (listing nodes path)) ≡ Some (found, left) → left ≡ nodes
    by true e = sym (ap (λ (p : Option Listed × List Node). p.1) (same_Some _ _ e))
    by false e = absurd (none-some _ e)

-- it has a name where something stands in the folder
pub next_told : (path : Names) (nodes : List Node) (found : Option Listed) (left : List Node) → has_folder (drive_over nodes) path ≡ true → folder_next path None any_name nodes ≡ Some (found, left) → has_children (drive_over nodes) path ≡ is_some found
next_told path nodes found left folder is =
    sym (names_found nodes path) ∙ mapped (next_node (drive_over nodes) path any_name None)
    ∙ ap (λ (p : Option Listed × List Node). is_some p.0) (same_Some (listing nodes path, nodes) (found, left) (sym (ap (λ (b : Bool). only_if b (answering nodes (listing nodes path))) folder) ∙ is))
  where
    mapped : (o : Option Node) → is_some o ≡ is_some (option_map listed_of o)
    mapped None = refl
    mapped (Some node) = refl

-- whether a folder is at a path, by what is told of it
pub folder_told : (nodes : List Node) (path : Names) (found : Option Look) → option_map look_of (node_there nodes path) ≡ found → has_folder (drive_over nodes) path ≡ option_map_or (λ (look : Look). look.folder) found false
folder_told nodes path found told = by (node_there nodes path) ∙ ap (λ (o : Option Look). option_map_or (λ (look : Look). look.folder) o false) told
  where
    by : (o : Option Node) → option_map_or is_folder_node o false ≡ option_map_or (λ (look : Look). look.folder) (option_map look_of o) false
    by None = refl
    by (Some node) = refl

-- marks don't change whether a folder is at a path
pub folder_marked : (t : Table) (nodes : List Node) (path : Names) → has_folder (drive_of t nodes) path ≡ has_folder (drive_over nodes) path
folder_marked t nodes path = ap (λ (o : Option Node). option_map_or is_folder_node o false) (node_seen t nodes path) ∙ by (node_there nodes path)
  where
    by : (o : Option Node) → option_map_or is_folder_node (option_map (marked t.opens.entries) o) false ≡ option_map_or is_folder_node o false
    by None = refl
    by (Some node) = refl
