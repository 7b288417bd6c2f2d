-- A worked example: the text of a history, byte by byte.
use Rattle.std.proofs.Common.{◌≡◌, List, ℕ, true, [], ◌∷◌, codes, refl}
use Rattle.std.specs.Fmt.{digits}
use Rattle.ring_table.specs.declared.allowance.Allowance.TheVariants.{Joint}
use Rattle.ring_table.specs.declared.node.Node.{Node}
use Rattle.ring_table.specs.Value.{RingValue}
use Rattle.plan_runs.specs.declared.event.Event.TheVariants.{StartPut, Write, Down}
use Rattle.plan_runs.specs.declared.event.Reply.TheVariants.{Plain, Put, Ticket}
use Rattle.plan_runs.specs.declared.event.Entry.{Entry}
use Rattle.history_text.specs.Spelling.{history_text}

abbrev node : List ℕ → Node
node name = record { name = name; allowance = Joint 1; is_member = true }

-- a ring with the nodes a and b
abbrev ring : RingValue
ring = record {
  format = 1;
  q = 1;
  n = 2;
  r = 1;
  w = 2;
  loss = 0;
  nodes = node (codes "a") ∷ node (codes "b") ∷ [];
  owners = (record { 0 = 0 } ∷ record { 0 = 1 } ∷ []) ∷ [];
}

abbrev put : Entry
put = record { event = StartPut (record { 0 = 0 }) (codes "a") (codes "1") []; reply = Put 0 }

abbrev write : Entry
write = record { event = Write 0 0; reply = Ticket (record { partition = 0; index = 0 }) 0 }

abbrev down : Entry
down = record { event = Down (record { 0 = 1 }); reply = Plain }

three_entries : history_text ring (codes "w1" ∷ []) (put ∷ write ∷ down ∷ [])
    ≡ codes "history 1\nput w1 a x31 = put 0\nwrite 0 0 = ticket 0 0 0\ndown b = ok\nend\n"
unfolding digits
three_entries = refl
