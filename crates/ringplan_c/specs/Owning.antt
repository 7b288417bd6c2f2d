-- What a cell owns.
use Rattle.std.specs.Prelude.{Option, None, Some}
use base.Fml.{Fml, ftrue, fex}
use base.Stored.{Coded}
use denote.RawPtr.{Ptr}
use Rattle.std.specs.Coded.{coded_option}
use Rattle.std.specs.declared.alloc.Global.{Global}
use Rattle.std.specs.contracts.impls.GlobalAllocator.TheImpl.{ghosts}
use Rattle.std_alloc.specs.Box.Ownership.{box_owns}
use Rattle.history_watch.specs.declared.judge.Judge.{Judge}
use Rattle.history_watch.specs.contracts.judge.Judge.{the_row}

-- a judge lies at the pointer, with the right to free its block; or nothing is owned
abbrev pub cell_owns : Ptr → Option Judge → Fml
cell_owns at None = ftrue
cell_owns at (Some judge) = fex Global (λ a. box_owns (ghosts.dealloc_token a) the_row at judge)

-- how the logic stores the judge of a cell
abbrev pub cell_coded : Coded (Option Judge)
cell_coded = coded_option the_row.coded
