-- Which events need a number, which may need memory, and which replies list puts.
use Rattle.std.specs.Prelude.{◌<◌, Bool, true, false, length}
use Rattle.plan_runs.specs.declared.event.Event.{Event}
use Rattle.plan_runs.specs.declared.event.Event.TheVariants.{ChunkCopy, StartPut, Write, Hint, StartGet, Read, EndGet, Handoff}
use Rattle.plan_runs.specs.declared.event.Reply.{Reply}
use Rattle.plan_runs.specs.declared.event.Reply.TheVariants.{Found, Answer}
use Rattle.store_parts.specs.declared.parts.Parts.{Parts}

-- a put or get that starts has a number below 4,294,967,295
abbrev pub HasNumber : Parts → Event → Type 0
HasNumber a (StartPut writer key value seen) = length a.puts < 4294967295
HasNumber a (StartGet key) = length a.gets < 4294967295
HasNumber a e = Unit {0}

-- the event may need memory: it starts something, or versions are made
abbrev pub may_need_memory : Event → Bool
may_need_memory (ChunkCopy n c) = true
may_need_memory (StartPut writer key value seen) = true
may_need_memory (Write v i) = true
may_need_memory (Hint v i x) = true
may_need_memory (StartGet key) = true
may_need_memory (Read g i) = true
may_need_memory (EndGet g) = true
may_need_memory (Handoff x s) = true
may_need_memory e = false

-- the reply is a list of puts
abbrev pub lists_puts : Reply → Bool
lists_puts (Found puts) = true
lists_puts (Answer puts) = true
lists_puts r = false
