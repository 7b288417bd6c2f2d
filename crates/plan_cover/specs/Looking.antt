-- How the checker looks at a node's clauses: what it keeps of a plan and a certificate, and what it asks of
-- that.
pub mod Guards
pub mod Numbers
pub mod Places
pub mod Serving
