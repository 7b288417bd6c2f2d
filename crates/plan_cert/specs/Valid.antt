-- Which certificates a text can say.
use Rattle.std.specs.Prelude.{◌≡◌, ℕ, ◌<◌, ◌≤◌, Bool, true, ◌&&◌, nat_le, List, length, is_some}
use Rattle.std.specs.List.{list_all}
use Rattle.texts.specs.Numbers.{are_small}
use Rattle.ring_table.specs.Value.{RingValue, allowance_of}
use Rattle.plan_cert.specs.declared.cert.Chain.{Chain}
use Rattle.plan_cert.specs.declared.cert.Cert.{Cert}

-- 2 to 1,024 steps
abbrev pub is_fact : List ℕ → Bool
is_fact path = nat_le 2 (length path) && nat_le (length path) 1024

-- a side of a declared node, and at least one step
abbrev pub is_chain : RingValue → Chain → Bool
is_chain ring c = is_some (allowance_of ring c.node.0 c.side) && nat_le 1 (length c.steps)

-- every number is a `u32`
pub record IsCert (v : Cert) : Type 0 where
  pub facts : list_all are_small v.facts ≡ true
  pub chains : list_all (λ c. are_small c.steps) v.chains ≡ true

-- facts and chains within their limits, and chains of sides that their nodes have
pub record Suits (ring : RingValue) (v : Cert) : Type 0 where
  pub few_facts : length v.facts ≤ 262144
  pub facts : list_all is_fact v.facts ≡ true
  pub few_chains : length v.chains ≤ 65536
  pub chains : list_all (is_chain ring) v.chains ≡ true

-- the steps can be the next fact after those seen
pub record IsNextFact (seen : List (List ℕ)) (path : List ℕ) : Type 0 where
  pub room : length seen < 262144
  pub fact : is_fact path ≡ true
  pub small : are_small path ≡ true

-- the chain can be the next one after those seen
pub record IsNextChain (ring : RingValue) (seen : List Chain) (c : Chain) : Type 0 where
  pub room : length seen < 65536
  pub chain : is_chain ring c ≡ true
  pub small : are_small c.steps ≡ true
