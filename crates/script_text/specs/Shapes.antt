-- The words that begin events' lines, and what stands behind each.
use Rattle.std.specs.Prelude.{ℕ, List, [], ◌∷◌, codes}
use Rattle.ring_names.specs.declared.ids.NodeId.{NodeId}
use Rattle.plan_runs.specs.declared.event.Event.{Event}
use Rattle.plan_runs.specs.declared.event.Event.TheVariants as event
use Rattle.script_text.specs.declared.kind.EventWord.{EventWord}
use Rattle.script_text.specs.declared.kind.EventWord.TheVariants as word

-- the words
abbrev pub words : List (List ℕ × EventWord)
words = (codes "do", word.Do)
    ∷ (codes "open", word.Open)
    ∷ (codes "chunk", word.Chunk)
    ∷ (codes "close", word.Close)
    ∷ (codes "abort", word.Abort)
    ∷ (codes "put", word.Put)
    ∷ (codes "write", word.Write)
    ∷ (codes "hint", word.Hint)
    ∷ (codes "ack", word.Ack)
    ∷ (codes "get", word.Get)
    ∷ (codes "read", word.Read)
    ∷ (codes "endget", word.EndGet)
    ∷ (codes "down", word.Down)
    ∷ (codes "up", word.Up)
    ∷ (codes "handoff", word.Handoff)
    ∷ (codes "lose", word.Lose)
    ∷ []

-- what follows a word, and events with one number, two numbers, or a node
pub data Shape : Type 0 where
  Number : (ℕ → Event) → Shape
  Pair : (ℕ → ℕ → Event) → Shape
  Node : (NodeId → Event) → Shape
  Put : Shape
  Get : Shape
  Hint : Shape
  Handoff : Shape

-- the shape of a word's line
abbrev pub shape_of : EventWord → Shape
shape_of word.Do = Number event.Do
shape_of word.Open = Number event.OpenCopy
shape_of word.Chunk = Pair event.ChunkCopy
shape_of word.Close = Number event.CloseCopy
shape_of word.Abort = Number event.AbortCopy
shape_of word.Put = Put
shape_of word.Write = Pair event.Write
shape_of word.Hint = Hint
shape_of word.Ack = Number event.Ack
shape_of word.Get = Get
shape_of word.Read = Pair event.Read
shape_of word.EndGet = Number event.EndGet
shape_of word.Down = Node event.Down
shape_of word.Up = Node event.Up
shape_of word.Handoff = Handoff
shape_of word.Lose = Node event.Lose
