-- What the seats of a board know, with the worker of each step.
use Rattle.std.specs.Prelude.{◌≡◌, ◌==◌, ◌&&◌, ℕ, suc, ◌<◌, List, [], ◌∷◌, ◌++◌, map, Option, Some, None, count_by, if◌then◌else◌}
use Rattle.ring_board.specs.declared.view.Mark.{Mark}
use Rattle.ring_board.specs.declared.view.View.{View}
use Rattle.ring_board.specs.Seats.{SeatView, sight}

-- the step k, which worker w has
abbrev pub mark : ℕ → ℕ → Mark
mark k w = record { step = k; worker = w }

-- how often the step k stands in the list as worker w's
abbrev pub marked : ℕ → ℕ → List Mark → ℕ
marked k w marks = count_by (λ m. (k == m.step) && (w == m.worker)) marks

-- the marks without the first of step k
abbrev pub unmarked : ℕ → List Mark → List Mark
unmarked k [] = []
unmarked k (m ∷ ms) = if k == m.step then ms else m ∷ unmarked k ms

-- holds, finished and knows no step, lost no claim, and has no part of the board
abbrev pub nothing : View
nothing = record { held = []; finished = []; known = []; seen = []; parts = [] }

-- the first seat's: it has all of the board
abbrev pub first_view : View
first_view = record nothing { parts = 0 ∷ [] }

-- half of each part
abbrev pub halves : List ℕ → List ℕ
halves es = map suc es

-- has half of its parts of the board
abbrev pub with_half : View → View
with_half v = record v { parts = halves v.parts }

-- has half of that view's parts of the board, and nothing else
abbrev pub half_of : View → View
half_of v = record nothing { parts = halves v.parts }

-- what two seats know together
abbrev pub together : View → View → View
together v u = record { held = v.held ++ u.held; finished = v.finished ++ u.finished; known = v.known ++ u.known; seen = v.seen ++ u.seen; parts = v.parts ++ u.parts }

-- worker w holds step k too
abbrev pub with_held : ℕ → ℕ → View → View
with_held k w v = record v { held = mark k w ∷ v.held }

-- step k is held no more
abbrev pub without_held : ℕ → View → View
without_held k v = record v { held = unmarked k v.held }

-- worker w, which held step k, finished it
abbrev pub with_finished : ℕ → ℕ → View → View
with_finished k w v = record v { held = unmarked k v.held; finished = mark k w ∷ v.finished }

-- step k is known done too
abbrev pub with_known : ℕ → View → View
with_known k v = record v { known = k ∷ v.known }

-- a claim of step k read this word and was lost
abbrev pub with_seen : ℕ → ℕ → View → View
with_seen k word v = record v { seen = sight k word ∷ v.seen }

-- these steps of one worker
abbrev pub marks_of : Option ℕ → List ℕ → List Mark
marks_of None ks = []
marks_of (Some w) ks = map (λ k. mark k w) ks

-- what a seat knows
abbrev pub view_of : SeatView → View
view_of s = record { held = marks_of s.worker s.held; finished = marks_of s.worker s.finished; known = s.known; seen = s.seen; parts = s.share ∷ [] }

-- what seats know together
abbrev pub joined : List SeatView → View
joined [] = nothing
joined (s ∷ ss) = together (joined ss) (view_of s)

-- what holds for every seat: a seat without a worker has no steps, and a worker is one of the board's workers
pub record IsSeat (s : SeatView) : Type 0 where
  pub idle : s.worker ≡ None → (s.held ≡ []) × (s.finished ≡ [])
  pub worker : (w : ℕ) → s.worker ≡ Some w → (w < s.board.slots) × (w < 65)
