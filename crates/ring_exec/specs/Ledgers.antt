-- What a ledger is of that counts no run.
use Rattle.std.specs.Prelude.{[]}
use Rattle.ring_table.specs.Value.{RingValue}

-- a ring without anything
abbrev pub no_ring : RingValue
no_ring = record {
  format = 0;
  q = 0;
  n = 0;
  r = 0;
  w = 0;
  loss = 0;
  nodes = [];
  owners = [];
}
