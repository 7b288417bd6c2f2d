-- Reading a certificate does not go back, and each of its faults is at a line that was reached.
use Rattle.std.proofs.Common.{◌≡◌, ℕ, ◌<◌, ◌≤◌, true, List, length, codes, Result, Ok, Err, sym, IfOk, OnOk}
use Rattle.std.proofs.lemmas.Bool.{ltb-true, not-false}
use Rattle.texts.proofs.Forms.{Left, next_number, header_at, one_line, ReadsTo, At, Advances, ending, to-first, to-second, to-after, past-next, Refusal, are_small, map_ok}
use Rattle.plan_cert.proofs.Terms.{RingValue, IsRing, Chain, cert_format, cert_of}
use Rattle.plan_cert.specs.declared.lines.ChainLine.{ChainLine}
use Rattle.plan_cert.specs.Said.{chain_said}
use Rattle.plan_cert.specs.Reading.{path_at, steps_at, node_side_at, fact_at, chain_at, facts_at, chains_at, cert_at}
use Rattle.plan_cert.proofs.CertForm.{fact_line, facts_form, chain_line, tail_form, body_form, cert_form}

pub fact-at : (seen : List (List ℕ)) (k : ℕ) (fields : List (List ℕ)) → At k (fact_at seen k fields)
unfolding fact_at path_at
fact-at seen k fields = (fact_line {W = Unit {0}} seen).at k fields

pub fact-said : (seen : List (List ℕ)) (k : ℕ) (fields : List (List ℕ)) (r : Result (List ℕ) Refusal) → r ≡ fact_at seen k fields → IfOk r (λ path. are_small path ≡ true) × OnOk r (length seen < 262144)
unfolding fact_at path_at
fact-said seen k fields (Ok v) e = let p = (((fact_line {W = Unit {0}} seen).exact tt k).takes fields v (sym e)).1 in (not-false (are_small v) p.1.1.1.0, ltb-true (length seen) 262144 p.0.0)
fact-said seen k fields (Err f) e = (tt, tt)

module _ (ring : RingValue) where
  pub chain-at : (seen : List Chain) (k : ℕ) (fields : List (List ℕ)) → At k (chain_at ring seen k fields)
  unfolding chain_at steps_at node_side_at
  chain-at seen k fields = (chain_line ring seen).at k fields

  pub chain-said : IsRing ring → (seen : List Chain) (k : ℕ) (fields : List (List ℕ)) (r : Result ChainLine Refusal) → map_ok chain_said r ≡ chain_at ring seen k fields → IfOk r (λ said. are_small said.steps ≡ true) × OnOk r (length seen < 65536)
  unfolding chain_at steps_at node_side_at
  chain-said valid seen k fields (Ok v) e = let p = (((chain_line ring seen).exact valid k).takes fields (chain_said v) (sym e)).1 in (not-false (are_small v.steps) p.1.1.0, ltb-true (length seen) 65536 p.0.0)
  chain-said valid seen k fields (Err f) e = (tt, tt)

  pub cert-on : Advances (cert_at ring)
  unfolding cert_at fact_at chain_at path_at steps_at node_side_at
  cert-on = (cert_form ring).advances

  -- after the first line: a place among the facts, or among the chains
  module _ (s t : Left) (u : Unit {0}) (start : one_line (header_at (codes "cert") (cert_format ring)) s ≡ Ok (u, t)) where
    pub cert-facts : (k : ℕ) → ReadsTo k (facts_at t) → ReadsTo k (cert_at ring s)
    unfolding cert_at fact_at chain_at path_at steps_at node_side_at
    cert-facts k p = to-after cert_of (one_line (header_at (codes "cert") (cert_format ring))) (λ _. (body_form ring).read) k s t u start (to-first facts_at (λ _. (tail_form ring).read) k t (λ _. (tail_form ring).advances) p)

    pub cert-chains : (k : ℕ) (x : Left) (facts : List (List ℕ)) → facts_at t ≡ Ok (facts, x) → ReadsTo k (chains_at ring x) → ReadsTo k (cert_at ring s)
    unfolding cert_at fact_at chain_at path_at steps_at node_side_at
    cert-chains k x facts e p = to-after cert_of (one_line (header_at (codes "cert") (cert_format ring))) (λ _. (body_form ring).read) k s t u start (to-second facts_at (λ _. (tail_form ring).read) k t x facts e (to-first (chains_at ring) (λ _. (ending {W = IsRing ring}).read) k x (λ _. (ending {W = IsRing ring}).advances) p))

    -- facts do not go back
    pub behind-facts : (k : ℕ) (x : Left) (facts : List (List ℕ)) → facts_at t ≡ Ok (facts, x) → next_number x.line ≤ k → next_number t.line ≤ k
    unfolding fact_at path_at
    behind-facts k x facts e le = past-next facts_at (facts_form {W = Unit {0}}).advances t x facts e k le
