-- Partitions of which too few owners live.
use Rattle.std.specs.Prelude.{ℕ, Bool, not, ◌&&◌, List, count_by, nat_lt}
use Rattle.std.specs.List.{list_any}
use Rattle.ring_names.specs.Lists.{has}
use Rattle.ring_names.specs.declared.ids.NodeId.{NodeId}
use Rattle.plan_text.specs.Changes.{numbers}

-- how many of these nodes are not dead
abbrev pub live : List NodeId → List NodeId → ℕ
live dead row = count_by (λ x. not (has x.0 (numbers dead))) row

-- a slot of a dead node goes to another one, and fewer owners live than a read asks
abbrev pub is_unread : ℕ → List NodeId → List NodeId → List NodeId → Bool
is_unread r dead before after = nat_lt (live dead before) r && list_any (λ x. has x.0 (numbers dead) && not (has x.0 (numbers after))) before
