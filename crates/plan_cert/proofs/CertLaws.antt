-- A certificate is read only from its one text.
use Rattle.std.proofs.Common.{◌≡◌, not, nat_le, List, [], length, codes, ℕ, Ok, arith, ap, is_some}
use Rattle.std.proofs.lemmas.Bool.{lt-ltb, ltb-true, not-false, and_parts}
use Rattle.texts.proofs.Forms.{IsPart, Any, Left, header_at, each-all, each-few, few-each, text-found, text-given, some-first, are_small}
use Rattle.plan_cert.proofs.Terms.{RingValue, allowance_of, IsRing, Chain, Cert, cert_format, cert_of}
use Rattle.ring_table.proofs.NodesLaws.{side-below, nodes-length}
use Rattle.plan_cert.specs.Valid.{is_fact, is_chain, IsCert, IsNextFact, IsNextChain, Suits}
use Rattle.plan_cert.specs.Spelling.{cert_lines, cert_text}
use Rattle.plan_cert.specs.Reading.{path_at, steps_at, node_side_at, fact_at, chain_at, cert_at, cert_reading}
use Rattle.plan_cert.proofs.CertForm.{fact_line, chain_line, body_form, cert_form}

-- what can be the next fact is allowed as one
pub fact-fits : (W : Type 0) (seen : List (List ℕ)) (x : List ℕ) → IsNextFact seen x → (fact_line {W = W} seen).allowed x
fact-fits W seen x n =
    let two = and_parts (nat_le 2 (length x)) (nat_le (length x) 1024) n.fact in
    ((lt-ltb (length seen) 262144 n.room, tt), (ap not two.0, (ap not two.1, (ap not n.small, tt))))

module _ (ring : RingValue) (valid : IsRing ring) where
  -- what can be the next chain is allowed as one
  pub chain-fits : (seen : List Chain) (x : Chain) → IsNextChain ring seen x → (chain_line ring seen).allowed x
  chain-fits seen x n = let has = and_parts (is_some (allowance_of ring x.node.0 x.side)) (nat_le 1 (length x.steps)) n.chain in ((lt-ltb (length seen) 65536 n.room, ((tt, rw nodes-length (side-below ring x.node.0 x.side has.0)), (ap not has.0, tt))), (ap not has.1, (ap not n.small, tt)))

  -- the definitions are the form, by computing
  pub cert-part : IsPart Any (cert_at ring) (cert_lines ring) (cert_form ring).allowed
  unfolding cert_at fact_at chain_at path_at steps_at node_side_at
  cert-part = (cert_form ring).exact valid

  -- what it allows is a certificate that suits the ring
  parts-suit : (v : Cert) → (cert_form ring).allowed v → IsCert v × Suits ring v
  parts-suit v p =
      let fact = λ (seen : List (List ℕ)). (fact_line {W = IsRing ring} seen).allowed in
      let small = each-all fact are_small (λ seen x q. not-false (are_small x) q.1.1.1.0) [] v.facts p.1.0 in
      let facts = each-all fact is_fact (λ seen x q. rw (not-false (nat_le 2 (length x)) q.1.0) (not-false (nat_le (length x) 1024) q.1.1.0)) [] v.facts p.1.0 in
      let few = each-few fact 262144 (λ seen x q. ltb-true (length seen) 262144 q.0.0) [] v.facts 262144 (omega arith) p.1.0 in
      let chain = λ (seen : List Chain). (chain_line ring seen).allowed in
      let steps = each-all chain (λ c. are_small c.steps) (λ seen x q. not-false (are_small x.steps) q.1.1.0) [] v.chains p.1.1.0 in
      let chains = each-all chain (is_chain ring) (λ seen x q. rw (not-false (is_some (allowance_of ring x.node.0 x.side)) q.0.1.1.0) (not-false (nat_le 1 (length x.steps)) q.1.0)) [] v.chains p.1.1.0 in
      let few_chains = each-few chain 65536 (λ seen x q. ltb-true (length seen) 65536 q.0.0) [] v.chains 65536 (omega arith) p.1.1.0 in
      (record { facts = small; chains = steps }, record { few_facts = few; facts = facts; few_chains = few_chains; chains = chains })

  suits-parts : (v : Cert) → IsCert v → Suits ring v → (cert_form ring).allowed v
  suits-parts v is suits =
      let facts = few-each (λ seen. (fact_line {W = IsRing ring} seen).allowed) 262144 is_fact are_small (λ seen x lt a b. fact-fits (IsRing ring) seen x (record { room = lt; fact = a; small = b }))
      [] v.facts 262144 (omega arith) suits.few_facts suits.facts is.facts in
      let chains = few-each (λ seen. (chain_line ring seen).allowed) 65536 (is_chain ring) (λ c. are_small c.steps) (λ seen x lt a b. chain-fits seen x (record { room = lt; chain = a; small = b }))
      [] v.chains 65536 (omega arith) suits.few_chains suits.chains is.chains in
      (tt, (facts, (chains, tt)))

pub read-found : (ring : RingValue) (text : List ℕ) (v : Cert) → IsRing ring → cert_reading ring text ≡ Ok v → IsCert v × Suits ring v × (text ≡ cert_text ring v)
unfolding cert_at fact_at chain_at path_at steps_at node_side_at
read-found ring text v r e = (let h = text-found (cert_form ring) r text v e in let p = parts-suit ring r v h.0 in (p.0, p.1, h.1))

pub read-only : (ring : RingValue) (text : List ℕ) (v : Cert) → IsRing ring → IsCert v → Suits ring v → text ≡ cert_text ring v → cert_reading ring text ≡ Ok v
unfolding cert_at fact_at chain_at path_at steps_at node_side_at
read-only ring text v r is suits e = text-given (cert_form ring) r text v (suits-parts ring r v is suits) e

pub section-found : (ring : RingValue) (s : Left) → IsRing ring → (v : Cert) (t : Left) → cert_at ring s ≡ Ok (v, t) → IsCert v × Suits ring v
unfolding cert_at fact_at chain_at path_at steps_at node_side_at
section-found ring s r v t e = parts-suit ring r v ((cert-part ring r).takes s t v (some-first cert_of (header_at (codes "cert") (cert_format ring)) (λ _. (body_form ring).read) s t v e) e).1
