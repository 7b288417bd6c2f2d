-- What a handle holds.
use Rattle.std.specs.Prelude.{◌≡◌, ℕ, true, Option, None, Some}
use Rattle.history_watch.specs.declared.judge.Judge.{Judge}
use Rattle.ringplan_c.specs.declared.handle.Handle.{Handle}

-- the judge that is held
abbrev pub held : Handle → Option Judge
held h = h.cell.value

-- none is held
abbrev pub IsEmpty : Handle → Type 0
IsEmpty h = held h ≡ None

-- one is held
abbrev pub HasWatch : Handle → Type 0
HasWatch h = h.is_held ≡ true

-- the count is the judge's, which is still held
pub record HasCount (old new : Handle) (n : ℕ) : Type 0 where
  pub judge : Judge
  pub held_before : held old ≡ Some judge
  pub held_after : held new ≡ Some judge
  pub count : n ≡ judge.count
