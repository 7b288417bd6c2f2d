-- A put that starts, by what a running store keeps.
use Rattle.std.specs.Prelude.{◌≡◌, ℕ, false, List, [], ◌∷◌, length, Option, None}
use Rattle.std.specs.List.{list_all}
use Rattle.ring_names.specs.declared.refusal.Refusal.TheVariants.{UnknownNumber, NotReady}
use Rattle.ring_clock.specs.declared.entry.Entry.{Entry}
use Rattle.plan_stage.specs.Clauses.{Guard}
use Rattle.store_parts.specs.declared.gets.GetNow.{GetNow}
use Rattle.store_parts.specs.declared.puts.PutNow.{PutNow}
use Rattle.store_parts.specs.Puts.{ticket_at}
use Rattle.store_parts.specs.PutsMeet.{clock_at}
use Rattle.store_parts.specs.GetsMeet.{found_at}
use Rattle.store_parts.specs.GetsTests.{is_of_number, has_ended_at}
use Rattle.store_clients.specs.Clocks.{IsNextOfFound}

-- the gets that are named are of the key of that number, and have ended
abbrev pub seen_guards_kept : List GetNow → ℕ → List ℕ → List Guard
seen_guards_kept gets key seen = (list_all (is_of_number gets key) seen, UnknownNumber) ∷ (list_all (has_ended_at gets) seen, NotReady) ∷ []

-- the put that comes behind these: of the key of that number, with one version, no tickets and no acknowledgement
pub record IsNewPut (puts : List PutNow) (gets : List GetNow) (last : ℕ → ℕ → Option ℕ) (key writer : ℕ) (value seen : List ℕ) (put : PutNow) : Type 0 where
  pub of_key : put.key ≡ key
  pub clock : List Entry
  pub next : IsNextOfFound (clock_at puts) (found_at gets) seen (last key writer) writer clock
  pub version : put.version ≡ record { put = length puts; clock = clock; value = value } ∷ []
  pub tickets : (i : ℕ) → ticket_at put i ≡ None
  pub acked : put.acked ≡ false
