-- Which histories a text can say.
use Rattle.std.specs.Prelude.{ℕ, List, map}
use Rattle.std.specs.List.{AllByRecursion}
use Rattle.ring_table.specs.Value.{RingValue}
use Rattle.plan_runs.specs.declared.event.Entry.{Entry}
use Rattle.plan_runs.specs.declared.event.Reply.{Reply}
use Rattle.plan_runs.specs.declared.event.Reply.TheVariants.{Plain, Put, Ticket, Get, Found, Answer}
use Rattle.script_text.specs.Valid.{IsCount, IsScriptOf}

-- each number of a reply is of 32 bits
abbrev pub IsReply : Reply → Type 0
IsReply Plain = Unit {0}
IsReply (Put n) = IsCount n
IsReply (Ticket s g) = IsCount s.partition × IsCount s.index × IsCount g
IsReply (Get n) = IsCount n
IsReply (Found vs) = AllByRecursion IsCount vs
IsReply (Answer vs) = AllByRecursion IsCount vs

-- a history over the ring whose writers have these names, the new ones numbered behind the old in order of first sight
pub record IsHistoryOf (ring : RingValue) (old names : List (List ℕ)) (history : List Entry) : Type 0 where
  -- its events are those of a script
  pub script : IsScriptOf ring old names (map (λ x. x.event) history)
  pub replies : AllByRecursion (λ x. IsReply x.reply) history
