-- Which rings are valid.
use Rattle.std.specs.Prelude.{◌≡◌, ℕ, ◌+◌, ◌<◌, ◌≤◌, ◌&&◌, ◌==◌, Bool, true, nat_le, nat_lt, List, [], length, map, None, if◌then◌else◌}
use Rattle.std.specs.List.{AllByRecursion, list_all}
use Rattle.texts.specs.Name.{is_name}
use Rattle.ring_names.specs.Lists.{all_different, AllNew}
use Rattle.ring_names.specs.Names.{place}
use Rattle.ring_names.specs.Space.{is_space}
use Rattle.ring_names.specs.declared.ids.NodeId.{NodeId}
use Rattle.ring_table.specs.declared.allowance.Allowance.{Allowance}
use Rattle.ring_table.specs.declared.allowance.Allowance.TheVariants.{Joint, Split}
use Rattle.ring_table.specs.declared.head.Head.{Head}
use Rattle.ring_table.specs.declared.node.Node.{Node}
use Rattle.ring_table.specs.declared.ring.Ring.TheInside.{Inside}
use Rattle.ring_table.specs.Value.{RingValue, names_of, is_member}

-- the format of a ring's text
abbrev pub is_format : ℕ → Bool
is_format format = nat_le 1 format && nat_le format 3

-- how many stores may be lost: none but in format 3
abbrev pub is_loss : ℕ → ℕ → Bool
is_loss format loss = if nat_lt format 3 then loss == 0 else nat_le loss 6

-- each of 1 to N slots, and every read meets every write, with as many slots to spare as stores may be lost
unfoldable pub is_quorum : ℕ → ℕ → ℕ → ℕ → Bool
is_quorum n r w loss = nat_le 1 r && nat_le r n && nat_le 1 w && nat_le w n && nat_lt (n + loss) (r + w)

-- what the lines in front of the nodes may say
pub record IsHead (head : Head) : Type 0 where
  pub format : is_format head.format ≡ true
  pub space : is_space head.q ≡ true
  pub slots : head.quorum.n ≤ 7
  pub loss : is_loss head.format head.quorum.loss ≡ true
  pub quorum : is_quorum head.quorum.n head.quorum.r head.quorum.w head.quorum.loss ≡ true

-- a number of transfers that may be open at once
abbrev pub IsMost : ℕ → Type 0
IsMost most = (1 ≤ most) × (most ≤ 64)

-- an allowance of a ring of that format: two numbers not in format 1
abbrev pub IsAllowance : ℕ → Allowance → Type 0
IsAllowance format (Joint most) = IsMost most
IsAllowance format (Split take give) = (2 ≤ format) × (IsMost take × IsMost give)

-- names, each 1 to 32 bytes
abbrev pub EachIsName : List (List ℕ) → Type 0
EachIsName names = AllByRecursion (λ name. is_name name ≡ true) names

-- what a ring of that format may declare as a node
pub record IsNode (format : ℕ) (x : Node) : Type 0 where
  pub name : is_name x.name ≡ true
  pub allowance : IsAllowance format x.allowance

-- a node line may declare it behind the nodes seen
pub record IsNew (format : ℕ) (seen : List Node) (x : Node) : Type 0 where
  pub room : length seen < 1024
  pub name : place (map (λ y. y.name) seen) x.name ≡ None
  pub node : IsNode format x

-- the owners of a partition's n slots: different members
pub record IsRow (n : ℕ) (nodes : List Node) (row : List NodeId) : Type 0 where
  pub slots : length row ≡ n
  pub different : all_different (map (λ x. x.0) row) ≡ true
  pub members : list_all (is_member nodes) row ≡ true

-- what is a ring
pub record IsRing (v : RingValue) : Type 0 where
  pub format : is_format v.format ≡ true
  pub space : is_space v.q ≡ true
  pub slots : v.n ≤ 7
  pub loss : is_loss v.format v.loss ≡ true
  pub quorum : is_quorum v.n v.r v.w v.loss ≡ true
  pub some_node : 1 ≤ length v.nodes
  pub nodes : length v.nodes ≤ 1024
  pub each_node : AllByRecursion (IsNode v.format) v.nodes
  pub names : AllNew [] (names_of v)
  pub partitions : length v.owners ≡ v.q
  pub rows : AllByRecursion (IsRow v.n v.nodes) v.owners

-- the value of a ring as it is kept
abbrev pub value_of : Inside → RingValue
value_of a = record { format = a.format; q = a.q; n = a.n; r = a.r; w = a.w; loss = a.loss; nodes = a.nodes.items; owners = a.owners.items }

-- what holds of the fields together
pub record HoldsRing (a : Inside) : Type 0 where
  pub ring : IsRing (value_of a)
  pub names : a.names ≡ names_of (value_of a)
