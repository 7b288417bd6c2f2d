-- What the text of a certificate speaks of.
pub use Rattle.ring_table.proofs.Terms.{RingValue, names_of, allowance_of, IsRing}
pub use Rattle.ring_table.specs.declared.allowance.Side.{Side}
pub use Rattle.ring_table.specs.declared.allowance.Side.TheVariants.{Both, Take, Give}
pub use Rattle.ring_table.specs.declared.allowance.NodeSide.{NodeSide}
pub use Rattle.plan_cert.specs.declared.cert.Chain.{Chain}
pub use Rattle.plan_cert.specs.declared.cert.Cert.{Cert}
pub use Rattle.plan_cert.specs.Chains.{chain_of, side_of, chains_in}
pub use Rattle.plan_cert.specs.Spelling.{fact_fields, side_word, chain_fields, cert_format}
pub use Rattle.plan_cert.specs.Reading.{begins_chain, cert_of}
